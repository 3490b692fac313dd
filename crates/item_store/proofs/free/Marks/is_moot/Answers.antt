use Rattle.std.proofs.Common.{◌≡◌, ◌+◌, Bool, true, false, not, refl, sym, ◌∙◌, arith}
use Rattle.std.proofs.lemmas.Bool.{false≢true}
use Rattle.item_store.proofs.FreeSteps.{marked, unmarked}
use Rattle.item_store.proofs.free.Marks.is_moot.Goals as goal

pub returns-then-id-self : goal.returns-then-id-self
returns-then-id-self c = λ _ n small.
    unmarked c.args.self.now.bits c.args.id (c.args.self.now.first + n) c.args.has_item n (λ same. omega (arith, same, c.if-id-self.true))

pub returns-then-n : goal.returns-then-n
returns-then-n c = λ _ n small.
    unmarked c.args.self.now.bits c.args.id (c.args.self.now.first + n) c.args.has_item n (λ same. omega (arith, same, small, c.if-id-self.false, c.if-n.true))

pub returns-then-has_bit : goal.returns-then-has_bit
returns-then-has_bit c = λ own n small.
    marked c.args.self.now.bits c.args.self.now.bits c.args.self.now.first c.args.id _ c.args.has_item (omega (arith, c.if-id-self.false)) (omega arith) (sym c.has_bit.ensures ∙ c.if-has_bit.true ∙ sym own) (λ m _. refl) n

pub returns-else-has_bit : goal.returns-else-has_bit
returns-else-has_bit c = λ own n small.
    marked c.args.self.now.bits c.args.self.now.bits c.args.self.now.first c.args.id _ c.args.has_item (omega (arith, c.if-id-self.false)) (omega arith) (sym c.has_bit.ensures ∙ c.if-has_bit.false ∙ sym (no-item c.args.has_item own)) (λ m _. refl) n
  where
    no-item : (t : Bool) → not t ≡ true → t ≡ false
    no-item false _ = refl
    no-item true e = absurd (false≢true e)

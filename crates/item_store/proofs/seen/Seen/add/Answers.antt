use Rattle.std.proofs.Common.{◌≡◌, ◌≢◌, sym, ap, ◌∙◌}
use Rattle.item_store.specs.Seen.{key_of, has_bit}
use Rattle.item_store.proofs.SeenSteps.{bit_more}
use Rattle.item_store.proofs.seen.Seen.add.Goals as goal

pub returns-clause-bits : goal.returns-clause-bits
returns-clause-bits c =
    λ key below.
    let own = c.key_of-key.ensures.key in
    bit_more c.args.self.now.bits c.set_bit.new.bytes (key_of c.args.id) key
    (ap (has_bit c.set_bit.new.bytes) (sym own) ∙ c.set_bit.ensures.set)
    (λ i (apart : i ≢ key_of c.args.id). c.set_bit.ensures.others i (λ (e : i ≡ c.key_of-key.result). apart (e ∙ own)))

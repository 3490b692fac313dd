use Rattle.std.proofs.Common.{◌≡◌, ℕ, ◌<◌, ◌≤◌, List, get_or, Ok, Err, refl, sym, ap, subst, ◌∙◌, arith}
use Rattle.item_laws.proofs.LiveLemmas.{some_none}
use Rattle.std.specs.Prelude.{length}
use Rattle.item_store.specs.declared.entry.Placed.{Placed}
use Rattle.item_store.specs.declared.latest.LastSlots.{LastSlots}
use Rattle.item_store.specs.Latest.{Rises, Splits, with_bytes}
use Rattle.item_store.proofs.LastTables.{still-full}
use Rattle.item_store.proofs.TablePlaces.{found, put-nothing}
use Rattle.item_store.proofs.latest.LastSlots.put.Goals as goal

pub returns-in-Ok : goal.returns-in-Ok
returns-in-Ok c =
    λ limit before small new_id covered knows.
    let old : LastSlots = c.args.self.now in
    let value = c.as_slice.ensures.value in
    let at : ℕ = c.in-Ok.field-0 in
    let id : ℕ = c.args.placed.now.id in
    let p : Placed = c.args.placed.now in
    let split : Splits old.entries.items id (Ok at) =
    subst (λ (l : List Placed). Splits l id (Ok at)) value (c.in-Ok.ensures.splits (subst (λ (l : List Placed). Rises l) (sym value) knows.below.rises)) in
    absurd (some_none (get_or old.entries.items at p)
    (found old.entries.items id at p (subst (λ (l : List Placed). at < length l) value c.in-Ok.ensures.inside) split ∙ knows.below.covered id covered ∙ ap with_bytes new_id))

pub returns-then-placed-gt0 : goal.returns-then-placed-gt0
returns-then-placed-gt0 c =
    λ limit before small new_id covered knows.
    let old : LastSlots = c.args.self.now in
    let value = c.as_slice.ensures.value in
    let some : c.args.placed.now.len ≡ 0 → ⊥ = λ (none : c.args.placed.now.len ≡ 0). absurd (omega (arith, c.if-placed-gt0.true)) in
    let split : Splits old.entries.items c.args.placed.now.id (Err c.in-Err.at) =
    subst (λ (l : List Placed). Splits l c.args.placed.now.id (Err c.in-Err.at)) value (c.in-Err.ensures.splits (subst (λ (l : List Placed). Rises l) (sym value) knows.below.rises)) in
    c.put_new.ensures limit before small some split.0 split.1 covered knows

pub returns-else-placed-gt0 : goal.returns-else-placed-gt0
returns-else-placed-gt0 c =
    λ limit before small new_id covered knows.
    let old : LastSlots = c.args.self.now in
    let value = c.as_slice.ensures.value in
    let none : c.args.placed.now.len ≡ 0 = omega (arith, c.if-placed-gt0.false) in
    let split : Splits old.entries.items c.args.placed.now.id (Err c.in-Err.at) =
    subst (λ (l : List Placed). Splits l c.args.placed.now.id (Err c.in-Err.at)) value (c.in-Err.ensures.splits (subst (λ (l : List Placed). Rises l) (sym value) knows.below.rises)) in
    still-full limit old old before c.args.placed.now knows refl
    (put-nothing limit old old before c.args.placed.now c.in-Err.at small covered knows.below split.0 split.1 (subst (λ (l : List Placed). c.in-Err.at ≤ length l) value c.in-Err.ensures.inside) none refl refl)

use Rattle.std.proofs.Common.{◌≡◌, ◌≢◌, ℕ, ◌+◌, ◌-◌, List, [], ◌∷◌, Some, refl, sym, subst, arith}
use Rattle.std.specs.Prelude.{slice_get}
use Rattle.std.proofs.lemmas.Bool.{eq-eqb, ne_eqb}
use Rattle.item_store.specs.declared.entry.Placed.{Placed}
use Rattle.item_history.specs.declared.searches.Search.TheVariants.{Found, Left}
use Rattle.item_history.specs.Searches.{of_id, EndsIn}
use Rattle.item_history.proofs.SearchSteps.{of_other, of_own}
use Rattle.item_history.proofs.searches.pass.Goals as goal

pub returns-then-placed-id-clause-entry : goal.returns-then-placed-id-clause-entry
returns-then-placed-id-clause-entry c =
    let start : c.args.left ≡ 0 + c.args.left = omega arith in
    subst (λ (xs : List Placed). EndsIn xs c.args.left (Left c.args.left)) (sym (of_other c.args.id c.args.placed (ne_eqb c.args.placed.id c.args.id c.if-placed-id.true))) start

pub returns-then-left-eq0-clause-entry : goal.returns-then-left-eq0-clause-entry
returns-then-left-eq0-clause-entry c =
    let own : of_id c.args.id (c.args.placed ∷ []) ≡ c.args.placed ∷ [] = of_own c.args.id c.args.placed (eq-eqb c.args.placed.id c.args.id c.if-placed-id.false) in
    subst (λ (xs : List Placed). EndsIn xs c.args.left (Found c.args.placed)) (sym own)
    (subst (λ (n : ℕ). slice_get (c.args.placed ∷ []) n ≡ Some c.args.placed) (sym c.if-left-eq0.true) refl)

pub returns-clause-entry : goal.returns-clause-entry
returns-clause-entry c =
    let own : of_id c.args.id (c.args.placed ∷ []) ≡ c.args.placed ∷ [] = of_own c.args.id c.args.placed (eq-eqb c.args.placed.id c.args.id c.if-placed-id.false) in
    let positive : c.args.left ≢ 0 = c.if-left-eq0.false in
    let sum : c.args.left ≡ 1 + (c.args.left - 1) = omega (arith, positive) in
    subst (λ (xs : List Placed). EndsIn xs c.args.left (Left (c.args.left - 1))) (sym own) sum

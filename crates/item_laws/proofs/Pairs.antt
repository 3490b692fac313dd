-- What one pair more does to the items.
use Rattle.std.proofs.Common.{◌≡◌, ℕ, List, [], ◌∷◌, ◌++◌, cond, eqb, sym, ap, ◌∙◌}
use Rattle.std.proofs.lemmas.List.Sums.{fold_push}
use Rattle.item_laws.specs.Items.{last, value_of, SameItems}

pub last-push : (pairs : List (ℕ × List ℕ)) (pair : ℕ × List ℕ) (id : ℕ) → last (pairs ++ pair ∷ []) id ≡ cond (eqb pair.0 id) (value_of pair.1) (last pairs id)
unfolding last
last-push pairs pair id = fold_push _ _ pairs pair

pub SameItems-push : (xs ys : List (ℕ × List ℕ)) (pair : ℕ × List ℕ) → SameItems xs ys → SameItems (xs ++ pair ∷ []) (ys ++ pair ∷ [])
SameItems-push xs ys pair same id = last-push xs pair id ∙ ap (λ o. cond (eqb pair.0 id) (value_of pair.1) o) (same id) ∙ sym (last-push ys pair id)

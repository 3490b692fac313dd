-- The map that a list stands for.
use Rattle.std.proofs.Common.{◌≡◌, ℕ, Bool, cond, eqb, List, [], ◌∷◌, ◌++◌, length, Option, Some, None, refl, sym, ap, ◌∙◌, inl, inr, arith}
use Rattle.std.specs.List.{fold}
use Rattle.std.specs.Ordering.{nat_cmp, eq_by_cmp}
use Rattle.std.specs.FinMap as map
use Rattle.std.proofs.lemmas.Bool.{cases_Bool}
use Rattle.std.proofs.lemmas.Bool.Decides.{nat_tests}
use Rattle.std.proofs.lemmas.Cmp.{nat_cmp_total}
use Rattle.std.proofs.lemmas.List.Sums.{fold_push}
use Rattle.item_laws.specs.Items.{last, value_of, SameItems, Items, with_pair, items_of}
use Rattle.item_laws.proofs.LivePairs.{last_from, last-is}

pub items_of-push : (pairs : List (ℕ × List ℕ)) (pair : ℕ × List ℕ) → items_of (pairs ++ pair ∷ []) ≡ with_pair (items_of pairs) pair
unfolding items_of
items_of-push pairs pair = fold_push with_pair map.empty pairs pair

-- a number and itself tie, and no others
tie : (a b : ℕ) → eq_by_cmp nat_cmp a b ≡ eqb b a
tie a b = grind (arith, nat_tests)

get-with_pair : (items : Items) (pair : ℕ × List ℕ) (id : ℕ) → map.get (with_pair items pair) id ≡ cond (eqb pair.0 id) (value_of pair.1) (map.get items id)
get-with_pair items pair id =
    elim (cases_Bool (eqb (length pair.1) 0)) [
      | inl mark ↦
          ap (λ (t : Bool). map.get (cond t (map.remove items pair.0) (map.insert items pair.0 pair.1)) id) mark
          ∙ map.get-remove nat_cmp_total items pair.0 id
          ∙ ap (λ (t : Bool). cond t None (map.get items id)) (tie id pair.0)
          ∙ sym (ap (λ (t : Bool). cond (eqb pair.0 id) (cond t None (Some pair.1)) (map.get items id)) mark)
      | inr bytes ↦
          ap (λ (t : Bool). map.get (cond t (map.remove items pair.0) (map.insert items pair.0 pair.1)) id) bytes
          ∙ map.get-insert nat_cmp_total items pair.0 pair.1 id
          ∙ ap (λ (t : Bool). cond t (Some pair.1) (map.get items id)) (tie id pair.0)
          ∙ sym (ap (λ (t : Bool). cond (eqb pair.0 id) (cond t None (Some pair.1)) (map.get items id)) bytes)
    ]

get-fold : (items : Items) (pairs : List (ℕ × List ℕ)) (id : ℕ) → map.get (fold with_pair items pairs) id ≡ last_from id (map.get items id) pairs
get-fold items [] id = refl
get-fold items (pair ∷ rest) id =
    get-fold (with_pair items pair) rest id ∙ ap (λ (found : Option (List ℕ)). last_from id found rest) (get-with_pair items pair id)

pub get-items_of : (pairs : List (ℕ × List ℕ)) (id : ℕ) → map.get (items_of pairs) id ≡ last pairs id
unfolding items_of
get-items_of pairs id =
    get-fold map.empty pairs id ∙ ap (λ (found : Option (List ℕ)). last_from id found pairs) (map.get-empty nat_cmp id) ∙ sym (last-is pairs id)

-- lists that agree on each last pair stand for one map
pub same_map : (xs ys : List (ℕ × List ℕ)) → SameItems xs ys → items_of xs ≡ items_of ys
same_map xs ys same = map.same_map nat_cmp_total map.nat_cmp-IsAntisymmetric (items_of xs) (items_of ys) (λ id. get-items_of xs id ∙ same id ∙ sym (get-items_of ys id))

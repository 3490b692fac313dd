-- A map in memory whose values are shown by f, beside a finite map: if both answer alike, the pairs of the one, in their
-- order, are those of the other.
use Rattle.std.proofs.Common.{◌≡◌, ℕ, Bool, true, false, cond, ◌&&◌, T, List, [], ◌∷◌, map, Some, Ordering, Less, is_eq, refl, sym, ap, subst, ◌∙◌}
use Rattle.std.specs.FinMap as finite
use Rattle.std.specs.FinMap.{slice_cmp-IsAntisymmetric, nat_cmp-IsAntisymmetric}
use Rattle.std.specs.FinMap.Entries.{below_all, is_sorted}
use Rattle.std.specs.List.{AllByRecursion}
use Rattle.std.specs.List.Sorted.{IsStrictlySortedBy}
use Rattle.std.specs.Map.{keys_of, lookup}
use Rattle.std.specs.Option.{option_map}
use Rattle.std.specs.Ordering.{is_lt, nat_cmp}
use Rattle.std.specs.Cmp.{IsTotalOrder}
use Rattle.std.specs.Cmp.Lexicographic.{slice_cmp, nat_list_cmp_total}
use Rattle.backend_api.specs.Map.{Map}

both_are : (a b : Bool) → T a → T b → T (a && b)
both_are true b p q = q
both_are false b p q = p

module _ {K V X : Type 0} (R : K → K → Ordering) (f : V → X) where
  abbrev pub shown : List (K × V) → List (K × X)
  shown pairs = map (λ pair. (pair.0, f pair.1)) pairs

  below-shown : (k : K) (pairs : List (K × V)) → AllByRecursion (λ y. R k y ≡ Less) (keys_of pairs) → T (below_all R k (shown pairs))
  below-shown k [] below = tt
  below-shown k (pair ∷ pairs) below =
      both_are _ _ (subst (λ (r : Ordering). T (is_lt r)) (sym below.0) tt) (below-shown k pairs below.1)

  sorted-shown : (pairs : List (K × V)) → IsStrictlySortedBy R (keys_of pairs) → T (is_sorted R (shown pairs))
  unfolding IsStrictlySortedBy
  sorted-shown [] sorted = tt
  sorted-shown (pair ∷ pairs) sorted =
      both_are _ _ (below-shown pair.0 pairs sorted.0) (sorted-shown pairs sorted.1)

  find-shown : (q : K) (pairs : List (K × V)) → finite.find R q (shown pairs) ≡ option_map f (lookup (λ k. is_eq (R q k)) pairs)
  find-shown q [] = refl
  find-shown q (pair ∷ pairs) =
      elim (is_eq (R q pair.0)) as (λ (t : Bool). cond t (Some (f pair.1)) (finite.find R q (shown pairs)) ≡ option_map f (cond t (Some pair.1) (lookup (λ k. is_eq (R q k)) pairs))) [ true ↦ refl | false ↦ find-shown q pairs ]

  -- pairs in the order of their keys are those of the map that answers alike
  pub listed : IsTotalOrder R → finite.IsAntisymmetric R → (pairs : List (K × V)) → IsStrictlySortedBy R (keys_of pairs)
      → (settings : finite.FinMap R X) → ((q : K) → option_map f (lookup (λ k. is_eq (R q k)) pairs) ≡ finite.get settings q)
      → shown pairs ≡ finite.entries settings
  listed o same pairs sorted settings alike =
      let rises = sorted-shown pairs sorted in
      let made : finite.from_sorted {R = R} (shown pairs) ≡ settings =
      finite.same_map o same _ settings (λ q. finite.get-from_sorted R (shown pairs) q rises ∙ find-shown q pairs ∙ alike q) in
      sym (finite.entries-from_sorted R (shown pairs) rises) ∙ ap finite.entries made

-- the same for settings
pub listed-settings : {V : Type 0} (f : V → List ℕ) (pairs : List (List ℕ × V)) → IsStrictlySortedBy (slice_cmp nat_cmp) (keys_of pairs)
    → (settings : Map) → ((name : List ℕ) → option_map f (lookup (λ k. is_eq (slice_cmp nat_cmp name k)) pairs) ≡ finite.get settings name)
    → shown (slice_cmp nat_cmp) f pairs ≡ finite.entries settings
listed-settings f pairs sorted settings alike =
    listed (slice_cmp nat_cmp) f nat_list_cmp_total (slice_cmp-IsAntisymmetric nat_cmp-IsAntisymmetric) pairs sorted settings alike

-- The best of distinct subtrees is the longest one that matches.
use Rattle.std.proofs.Common.{◌≡◌, ℕ, zero, suc, ◌+◌, ◌<◌, ◌≤◌, List, [], ◌∷◌, ◌++◌, Bool, true, false, ◌&&◌, ◌||◌, length, get_or, map, Option, Some, None, ◌⊎◌, inl, inr, refl, sym, ap, subst, ◌∙◌, arith, below_more}
use Rattle.std.specs.Prelude.{nat_lt, nat_le, position}
use Rattle.std.specs.List.{list_all, AllPass}
use Rattle.std.specs.Option.{option_map_or}
use Rattle.std.proofs.lemmas.List.{get_or-map, length-map}
use Rattle.std.proofs.lemmas.List.Quantifiers.{position-Some}
use Rattle.std.proofs.lemmas.List.Sums.{AllPass-from_list_all}
use Rattle.std.proofs.lemmas.Bool.Decides.{nat_tests}
use Rattle.setting_name.specs.Name.{parts_of}
use Rattle.setting_name.specs.Match.{matched_rest}
use Rattle.setting_name.proofs.Joins.{length-parts_of}
use Rattle.setting_name.proofs.KeyLemmas.{longer_key, same_key}
use Rattle.handlers.specs.Best.{depth, is_greatest, best, AreDistinct, IsShorter, IsLongest}
use Rattle.handlers.proofs.BestLemmas.{GreatestBelow, greatest_none, greatest_kept, greatest_more, greatest_whole, none_above}

both_true : (a b : Bool) → (a && b) ≡ true → (a ≡ true) × (b ≡ true)
both_true true b is = (refl, is)
both_true false b is = absurd (cc)

less : (n m : ℕ) → nat_lt n m ≡ true → n < m
less n m is = grind (arith, nat_tests)

not_less : (n m : ℕ) → nat_lt n m ≡ false → m ≤ n
not_less n m is = grind (arith, nat_tests)

at_most : (n m : ℕ) → nat_le n m ≡ true → n ≤ m
at_most n m is = grind (arith, nat_tests)

-- ---- with how many parts a subtree matches

depth_some : (name subtree rest : List ℕ) → matched_rest name subtree ≡ Some rest → depth name subtree ≡ length (parts_of subtree)
depth_some name subtree rest is = ap (λ (found : Option (List ℕ)). option_map_or (λ left. length (parts_of subtree)) found 0) is

depth_there : (name subtree : List ℕ) → 0 < depth name subtree → (rest : List ℕ) × (matched_rest name subtree ≡ Some rest)
depth_there name subtree some = at (matched_rest name subtree) refl some
  where
    at : (found : Option (List ℕ)) → matched_rest name subtree ≡ found → 0 < option_map_or (λ (left : List ℕ). length (parts_of subtree)) found 0 → (rest : List ℕ) × (matched_rest name subtree ≡ Some rest)
    at None is lt = absurd (omega arith)
    at (Some rest) is lt = (rest, is)

depth_none : (name subtree : List ℕ) → depth name subtree ≡ 0 → matched_rest name subtree ≡ None
depth_none name subtree zero_is = at (matched_rest name subtree) refl
  where
    at : (found : Option (List ℕ)) → matched_rest name subtree ≡ found → found ≡ None
    at None is = refl
    at (Some rest) is = absurd (omega (arith, zero_is, depth_some name subtree rest is, length-parts_of subtree))

depth_at : (subtrees : List (List ℕ)) (name : List ℕ) (k : ℕ) → k < length subtrees → get_or (map (depth name) subtrees) k 0 ≡ depth name (get_or subtrees k [])
depth_at subtrees name k lt = get_or-map (depth name) subtrees k [] 0 lt

-- ---- the longest

-- what makes a place the best one
record IsDeepest (subtrees : List (List ℕ)) (name : List ℕ) (place : ℕ) : Type 0 where
  within : place < length subtrees
  some : 0 < depth name (get_or subtrees place [])
  most : (k : ℕ) → k < length subtrees → depth name (get_or subtrees k []) ≤ depth name (get_or subtrees place [])

deepest : (subtrees : List (List ℕ)) (name : List ℕ) (place : ℕ) → best subtrees name ≡ Some place → IsDeepest subtrees name place
deepest subtrees name place is =
    let ds = map (depth name) subtrees in
    let found = position-Some (is_greatest ds) ds place 0 is in
    let lt : place < length subtrees = omega (arith, found.0, length-map subtrees (depth name)) in
    let tests = both_true (nat_lt 0 (get_or ds place 0)) (list_all (λ m. nat_le m (get_or ds place 0)) ds) found.1 in
    let here = depth_at subtrees name place lt in
    record {
      within = lt;
      some = subst (λ n. 0 < n) here (less 0 (get_or ds place 0) tests.0);
      most = λ k below. subst (λ n. n ≤ depth name (get_or subtrees place [])) (depth_at subtrees name k below)
          (subst (λ n. get_or ds k 0 ≤ n) here
          (at_most (get_or ds k 0) (get_or ds place 0) (AllPass-from_list_all (λ m. nat_le m (get_or ds place 0)) ds tests.1 k 0 (omega (arith, length-map subtrees (depth name))))));
    }

pub longest : (subtrees : List (List ℕ)) (name : List ℕ) (place : ℕ) → AreDistinct subtrees → best subtrees name ≡ Some place → IsLongest subtrees name place
longest subtrees name place distinct is =
    let deep = deepest subtrees name place is in
    let found = depth_there name (get_or subtrees place []) deep.some in
    record {
      within = deep.within;
      rest = found.0;
      matches = found.1;
      others = λ k left lt there. other deep found.0 found.1 k left lt there (nat_lt (length (parts_of (get_or subtrees k []))) (length (parts_of (get_or subtrees place [])))) refl;
    }
  where
    other : IsDeepest subtrees name place → (rest : List ℕ) → matched_rest name (get_or subtrees place []) ≡ Some rest → (k : ℕ) (left : List ℕ) → k < length subtrees → matched_rest name (get_or subtrees k []) ≡ Some left
        → (t : Bool) → nat_lt (length (parts_of (get_or subtrees k []))) (length (parts_of (get_or subtrees place []))) ≡ t → (k ≡ place) ⊎ IsShorter (get_or subtrees k []) (get_or subtrees place [])
    other deep rest here k left lt there true fewer =
        let lt' = less (length (parts_of (get_or subtrees k []))) (length (parts_of (get_or subtrees place []))) fewer in
        inr (lt', longer_key name (get_or subtrees k []) (get_or subtrees place []) left rest there here lt')
    other deep rest here k left lt there false fewer =
        let ge = not_less (length (parts_of (get_or subtrees k []))) (length (parts_of (get_or subtrees place []))) fewer in
        let equal : length (parts_of (get_or subtrees k [])) ≡ length (parts_of (get_or subtrees place [])) =
        omega (arith, ge, deep.most k lt, depth_some name (get_or subtrees k []) left there, depth_some name (get_or subtrees place []) rest here) in
        inl (distinct k place lt deep.within (same_key name (get_or subtrees k []) (get_or subtrees place []) left rest there here equal))

pub one_longest : (subtrees : List (List ℕ)) (name : List ℕ) (place other : ℕ) → IsLongest subtrees name place → IsLongest subtrees name other → place ≡ other
one_longest subtrees name place other a b = at (a.others other b.rest b.within b.matches) (b.others place a.rest a.within a.matches)
  where
    at : (other ≡ place) ⊎ IsShorter (get_or subtrees other []) (get_or subtrees place []) → (place ≡ other) ⊎ IsShorter (get_or subtrees place []) (get_or subtrees other []) → place ≡ other
    at (inl same) second = sym same
    at (inr shorter) (inl same) = same
    at (inr shorter) (inr longer) = absurd (omega (arith, shorter.1, longer.1))

-- ---- none

record Greatest (ns : List ℕ) (i : ℕ) : Type 0 where
  most : ℕ
  place : Option ℕ
  is : GreatestBelow ns i most place

greatest_next : (ns : List ℕ) (i : ℕ) → Greatest ns i → Greatest ns (i + 1)
greatest_next ns i g = at (nat_lt g.most (get_or ns i 0)) refl
  where
    at : (t : Bool) → nat_lt g.most (get_or ns i 0) ≡ t → Greatest ns (i + 1)
    at true is = record { most = get_or ns i 0; place = Some i; is = greatest_more ns i g.most g.place (less g.most (get_or ns i 0) is) g.is }
    at false is = record { most = g.most; place = g.place; is = greatest_kept ns i g.most g.place (not_less g.most (get_or ns i 0) is) g.is }

greatest : (ns : List ℕ) (i : ℕ) → Greatest ns i
greatest ns zero = record { most = 0; place = None; is = greatest_none ns }
greatest ns (suc i) = subst (Greatest ns) (omega arith) (greatest_next ns i (greatest ns i))

pub none_matches : (subtrees : List (List ℕ)) (name : List ℕ) (k : ℕ) → best subtrees name ≡ None → k < length subtrees → matched_rest name (get_or subtrees k []) ≡ None
none_matches subtrees name k is lt =
    let ds = map (depth name) subtrees in
    let g = greatest ds (length ds) in
    let nowhere : g.place ≡ None = greatest_whole ds (length ds) g.most g.place refl g.is ∙ is in
    let none = none_above ds (length ds) g.most (subst (GreatestBelow ds (length ds) g.most) nowhere g.is) k (omega (arith, length-map subtrees (depth name))) in
    depth_none name (get_or subtrees k []) (sym (depth_at subtrees name k lt) ∙ none)

-- Settings in the order of their names, as a map in memory lists them.
use Rattle.std.proofs.Common.{◌≡◌, ℕ, zero, suc, Bool, true, false, cond, ◌&&◌, T, List, [], ◌∷◌, ◌++◌, ◌+◌, ◌^◌, ◌<◌, length, map, take, Option, Some, None, Ordering, Less, Equal, Greater, is_eq, is_lt, nat_cmp, refl, sym, ap, subst, ◌∙◌, arith, append_assoc, length-append}
use Rattle.std.specs.Prelude.{slice_get}
use Rattle.std.specs.Borrow.{Bor}
use Rattle.std.specs.Ordering.{eq_by_cmp, ordering_reverse}
use Rattle.std.specs.Cmp.Lexicographic.{slice_cmp}
use Rattle.std.specs.FinMap as maps
use Rattle.std.specs.FinMap.Entries.{below_all, is_sorted}
use Rattle.std.specs.Map.Iter.{TakesFirst, deref_pair}
use Rattle.std.proofs.lemmas.Cmp.{nat_list_cmp_total, tied_itself}
use Rattle.std.proofs.lemmas.List.{take-append-le, take_all}
use Rattle.std.proofs.lemmas.Map.Iter.{rest_all, rest_more}
use Rattle.backend_api.specs.Map.{Map}

abbrev cmp : List ℕ → List ℕ → Ordering
cmp = slice_cmp nat_cmp

abbrev pub Setting : Type 0
Setting = List ℕ × List ℕ

-- a name in memory, with the place of its value in the flash
abbrev pub Listed : Type 0
Listed = List ℕ × Bor (List ℕ)

-- the settings that a map in memory lists
abbrev pub listed : List Listed → List Setting
listed pairs = map (λ pair. (pair.0, pair.1.now)) pairs

-- one step over them
pub next_listed : (left after : List Listed) (found : Option (Bor (List ℕ) × Bor (Bor (List ℕ)))) (pair : Bor (List ℕ) × Bor (Bor (List ℕ))) → found ≡ Some pair
    → TakesFirst deref_pair left found after → listed left ≡ (pair.0.now, pair.1.now.now) ∷ listed after
next_listed left after found pair is step = ap listed (rest_more deref_pair left after found pair is step)

pub none_listed : (left after : List Listed) (found : Option (Bor (List ℕ) × Bor (Bor (List ℕ)))) → found ≡ None → TakesFirst deref_pair left found after → listed left ≡ []
none_listed left after found is step = ap listed (rest_all deref_pair left after found is step)

pub few_pairs : (settings : Map) (pairs : List Setting) → pairs ≡ maps.entries settings → maps.len settings < 2 ^ 32 → length pairs < 2 ^ 32
few_pairs settings pairs same few = subst (λ n. n < 2 ^ 32) (maps.len-entries settings ∙ ap length (sym same)) few

-- ---- the first ones of a list

pub take_done : {X : Type 0} (all done left : List X) → done ++ left ≡ all → take (length done) all ≡ done
take_done all done left whole = ap (take (length done)) (sym whole) ∙ take-append-le (length done) done left (omega arith) ∙ take_all (length done) done (omega arith)

pub take_one_more : {X : Type 0} (all done left : List X) (x : X) → done ++ x ∷ left ≡ all → take (length done + 1) all ≡ done ++ x ∷ []
take_one_more all done left x whole =
    let longer : length done + 1 ≡ length (done ++ x ∷ []) = omega (arith, length-append done (x ∷ [])) in
    ap (λ n. take n all) longer ∙ take_done all (done ++ x ∷ []) left (append_assoc done (x ∷ []) left ∙ whole)

-- ---- the value at a place

first_of : (a b : Bool) → T (a && b) → T a
first_of true b h = tt
first_of false b h = h

second_of : (a b : Bool) → T (a && b) → T b
second_of true b h = h
second_of false b h = absurd h

is_Less : (o : Ordering) → T (is_lt o) → o ≡ Less
is_Less Less h = refl
is_Less Equal h = absurd h
is_Less Greater h = absurd h

tied_yes : (name : List ℕ) → eq_by_cmp cmp name name ≡ true
tied_yes name = ap is_eq (tied_itself nat_list_cmp_total name)

not_tied : (name other : List ℕ) → T (is_lt (cmp other name)) → eq_by_cmp cmp name other ≡ false
not_tied name other before = ap is_eq (nat_list_cmp_total.antisymm name other ∙ ap ordering_reverse (is_Less (cmp other name) before))

below_nth : (name : List ℕ) (es : List Setting) (k : ℕ) (e : Setting) → T (below_all cmp name es) → slice_get es k ≡ Some e → T (is_lt (cmp name e.0))
below_nth name [] k e below is = absurd (cc)
below_nth name (x ∷ es) zero e below is = let same : x ≡ e = cc in subst (λ (y : Setting). T (is_lt (cmp name y.0))) same (first_of (is_lt (cmp name x.0)) (below_all cmp name es) below)
below_nth name (x ∷ es) (suc k) e below is = below_nth name es k e (second_of (is_lt (cmp name x.0)) (below_all cmp name es) below) is

find_nth : (es : List Setting) (k : ℕ) (e : Setting) → T (is_sorted cmp es) → slice_get es k ≡ Some e → maps.find cmp e.0 es ≡ Some e.1
find_nth [] k e sorted is = absurd (cc)
find_nth (x ∷ es) zero e sorted is =
    let same : e ≡ x = cc in
    ap (λ (y : Setting). maps.find cmp y.0 (x ∷ es)) same ∙ ap (λ b. cond b (Some x.1) (maps.find cmp x.0 es)) (tied_yes x.0) ∙ ap (λ (y : Setting). Some y.1) (sym same)
find_nth (x ∷ es) (suc k) e sorted is =
    ap (λ b. cond b (Some x.1) (maps.find cmp e.0 es)) (not_tied e.0 x.0 (below_nth x.0 es k e (first_of (below_all cmp x.0 es) (is_sorted cmp es) sorted) is))
    ∙ find_nth es k e (second_of (below_all cmp x.0 es) (is_sorted cmp es) sorted) is

-- the value that is stored there
pub value_there : (settings : Map) (k : ℕ) (e : Setting) → slice_get (maps.entries settings) k ≡ Some e → maps.get settings e.0 ≡ Some e.1
value_there settings k e is = maps.get-entries settings e.0 ∙ find_nth (maps.entries settings) k e (maps.entries_sorted settings) is

-- Puts of the first pairs of a map, one by one in the order of names.
use Rattle.std.proofs.Common.{◌≡◌, ℕ, zero, suc, ◌+◌, ◌≤◌, true, false, List, [], ◌∷◌, length, map, fold, find, take, Some, None, is_lt, refl, sym, ap, ◌∙◌, inl, inr, T, arith}
use Rattle.std.specs.List.{slice_get}
use Rattle.std.specs.Option.{option_map}
use Rattle.std.specs.FinMap as maps
use Rattle.std.specs.FinMap.Entries as listed
use Rattle.std.specs.Ordering.{eq_by_cmp}
use Rattle.std.proofs.lemmas.Bool.{cases_Bool, cond-true, cond-false, false≢true, or_left, or_right}
use Rattle.std.proofs.lemmas.Cmp.{nat_list_cmp_total}
use Rattle.std.proofs.lemmas.Option.{none-some, slice_get-map, slice_get_past}
use Rattle.backend_api.specs.Commands.{Command, Put, applied, all_applied}
use Rattle.backend_api.specs.Map.{Map, IsStored, is_behind, next_name}
use Rattle.backend_api.proofs.KeyLemmas.{walks}
use Rattle.backend_api.proofs.MapLemmas.{ties_itself, ties_same}
use Rattle.migrator.specs.Copying.{before, PutsInOrder}
use Rattle.backend_api.proofs.LeastLemmas.{cmp}
use Rattle.migrator.proofs.Names.{before-first, insert-next, has_key, above, lt-itself, first_of_both, second_of_both}

abbrev pub Pair : Type 0
Pair = List ℕ × List ℕ

some-same : {X : Type 0} (x y : X) → Some x ≡ Some y → x ≡ y
some-same x y e = cc

abbrev put_of : Pair → Command
put_of pair = Put pair.0 pair.1

fold-take : (es : List Pair) (m : Map) (i : ℕ) (x : Pair) → slice_get es i ≡ Some x → fold applied m (map put_of (take (suc i) es)) ≡ applied (fold applied m (map put_of (take i es))) (put_of x)
fold-take [] m i x at = absurd (none-some x at)
fold-take (e ∷ es) m zero x at = ap (λ (y : Pair). applied m (put_of y)) (some-same e x at)
fold-take (e ∷ es) m (suc i) x at = fold-take es (applied m (put_of e)) i x at

pub earlier : (es : List Pair) (i : ℕ) (y : Pair) → slice_get es (suc i) ≡ Some y → (x : Pair) × (slice_get es i ≡ Some x)
earlier [] i y at = absurd (none-some y at)
earlier (e ∷ es) zero y at = (e, refl)
earlier (e ∷ es) (suc i) y at = earlier es i y at

pub first-name : (names : List (List ℕ)) → slice_get names 0 ≡ find (is_behind None) names
first-name [] = refl
first-name (name ∷ names) = refl

pub key-at : (es : List Pair) (i : ℕ) (x : Pair) → slice_get es i ≡ Some x → slice_get (map (λ e. e.0) es) i ≡ Some x.0
key-at es i x at = slice_get-map (λ (e : Pair). e.0) es i ∙ ap (option_map (λ (e : Pair). e.0)) at

has-at : (es : List Pair) (i : ℕ) (x : Pair) → slice_get es i ≡ Some x → has_key es x.0 ≡ true
has-at [] i x at = absurd (none-some x at)
has-at (e ∷ es) zero x at = or_left (eq_by_cmp cmp x.0 e.0) (has_key es x.0) (ap (λ (y : Pair). eq_by_cmp cmp x.0 y.0) (some-same e x at) ∙ ties_itself x.0)
has-at (e ∷ es) (suc i) x at = or_right (eq_by_cmp cmp x.0 e.0) (has_key es x.0) (has-at es i x at)

apart-first : (e : Pair) (es : List Pair) (x : Pair) (i : ℕ) → T (maps.is_sorted cmp (e ∷ es)) → slice_get es i ≡ Some x → eq_by_cmp cmp x.0 e.0 ≡ false
apart-first e es x i sorted at =
    let less = above e.0 x.0 es (first_of_both (listed.below_all cmp e.0 es) (maps.is_sorted cmp es) sorted) (has-at es i x at) in
    elim (cases_Bool (eq_by_cmp cmp x.0 e.0)) [
      | inl tie ↦ absurd (false≢true (sym (lt-itself e.0) ∙ ap (λ (text : List ℕ). is_lt (cmp e.0 text)) (sym (ties_same x.0 e.0 tie)) ∙ less))
      | inr apart ↦ apart
    ]

pub find-at : (es : List Pair) → T (maps.is_sorted cmp es) → (i : ℕ) (x : Pair) → slice_get es i ≡ Some x → maps.find cmp x.0 es ≡ Some x.1
find-at [] sorted i x at = absurd (none-some x at)
find-at (e ∷ es) sorted zero x at =
    let same = some-same e x at in
    cond-true (eq_by_cmp cmp x.0 e.0) (Some e.1) (maps.find cmp x.0 es) (ap (λ (y : Pair). eq_by_cmp cmp x.0 y.0) same ∙ ties_itself x.0) ∙ ap (λ (y : Pair). Some y.1) same
find-at (e ∷ es) sorted (suc i) x at =
    cond-false (eq_by_cmp cmp x.0 e.0) (Some e.1) (maps.find cmp x.0 es) (apart-first e es x i sorted at) ∙ find-at es (second_of_both (listed.below_all cmp e.0 es) (maps.is_sorted cmp es) sorted) i x at

-- ---- the pair at a place

pub name-at : (m : Map) (i : ℕ) (x : Pair) → slice_get (maps.entries m) i ≡ Some x → slice_get (maps.keys m) i ≡ Some x.0
name-at m i x at = key-at (maps.entries m) i x at

pub next-at : (m : Map) (i : ℕ) (x : Pair) → slice_get (maps.entries m) i ≡ Some x → slice_get (maps.keys m) (i + 1) ≡ next_name m (Some x.0)
next-at m i x at = sym (walks nat_list_cmp_total (maps.entries m) (maps.entries_sorted m) i x.0 (name-at m i x at))

pub stored-at : (m : Map) (i : ℕ) (x : Pair) → slice_get (maps.entries m) i ≡ Some x → IsStored m x.0 x.1
stored-at m i x at = maps.get-entries m x.0 ∙ find-at (maps.entries m) (maps.entries_sorted m) i x at

pub behind-all : (m : Map) (i : ℕ) → length (maps.entries m) ≤ i → slice_get (maps.keys m) i ≡ None
behind-all m i all = slice_get-map (λ (e : Pair). e.0) (maps.entries m) i ∙ ap (option_map (λ (e : Pair). e.0)) (slice_get_past (maps.entries m) i all)

-- ---- the puts of the pairs before it

puts-at : (m : Map) (i : ℕ) (x : Pair) → slice_get (maps.entries m) i ≡ Some x → fold applied maps.empty (map put_of (take i (maps.entries m))) ≡ before m (Some x.0)
puts-at m zero x at = sym (before-first m (Some x.0) (sym (name-at m 0 x at) ∙ first-name (maps.keys m)))
puts-at m (suc i) x at =
    let p = earlier (maps.entries m) i x at in
    let step : i + 1 ≡ suc i = omega arith in
    let walk = sym (name-at m (suc i) x at) ∙ ap (slice_get (maps.keys m)) (sym step) ∙ next-at m i p.0 p.1 in
    fold-take (maps.entries m) maps.empty i p.0 p.1
    ∙ ap (λ (n : Map). maps.insert n p.0.0 p.0.1) (puts-at m i p.0 p.1)
    ∙ insert-next m p.0.0 p.0.1 (Some x.0) walk (stored-at m i p.0 p.1)

pub puts-in-order : (m : Map) → PutsInOrder m
unfolding all_applied
puts-in-order m i name value at = puts-at m i (name, value) at

-- Puts of all settings of a map, one by one in the order of names, in the words of a migration.
use Rattle.std.proofs.Common.{◌≡◌, ◌⊎◌, ℕ, zero, suc, ◌+◌, ◌<◌, true, false, T, is_lt, List, [], ◌∷◌, ◌++◌, length, take, drop, Some, None, refl, sym, ap, subst, ◌∙◌, inl, inr, arith}
use Rattle.std.specs.List.{slice_get}
use Rattle.std.specs.FinMap as maps
use Rattle.std.specs.FinMap.Entries as listed
use Rattle.std.specs.Ordering.{eq_by_cmp}
use Rattle.std.proofs.lemmas.Bool.{cases_Bool, cond-true, cond-false, false≢true, or_left, or_right}
use Rattle.std.proofs.lemmas.List.{map-append}
use Rattle.std.proofs.lemmas.Option.{none-some}
use Rattle.backend_api.specs.Commands.{Command, Put, applied, all_applied, puts_of}
use Rattle.backend_api.specs.Map.{Map, IsStored}
use Rattle.backend_api.specs.Room.{Room}
use Rattle.backend_api.proofs.LeastLemmas.{cmp}
use Rattle.backend_api.proofs.MapLemmas.{ties_itself, ties_same}
use Rattle.migrator.specs.Copying.{before, NoneTooMany, HasOneTooMany, HasOneWithoutRoom}
use Rattle.migrator.proofs.Names.{has_key, above, lt-itself, first_of_both, second_of_both}
use Rattle.migrator.proofs.Puts.{puts-in-order}
use Rattle.settings_core.specs.Carrying.{AreFree, MeetsNoRoom, is_too_many}
use Rattle.session_table.specs.Commands.{StopsForNames, all_puts}
use Rattle.session.proofs.ChangeLemmas.{one_more}

abbrev Pair : Type 0
Pair = List ℕ × List ℕ

abbrev put_of : Pair → Command
put_of pair = Put pair.0 pair.1

some_same : {X : Type 0} (x y : X) → Some x ≡ Some y → x ≡ y
some_same x y e = cc

below_or : (a b : ℕ) → a < suc b → (a < b) ⊎ (a ≡ b)
below_or zero zero less = inr refl
below_or zero (suc b) less = inl (omega arith)
below_or (suc a) zero less = absurd (omega (arith, less))
below_or (suc a) (suc b) less = elim (below_or a b (omega (arith, less))) [ inl x ↦ inl (omega (arith, x)) | inr x ↦ inr (ap suc x) ]

-- ---- the pairs of a map, by their places

has_at : (es : List Pair) (i : ℕ) (x : Pair) → slice_get es i ≡ Some x → has_key es x.0 ≡ true
has_at [] i x at = absurd (none-some x at)
has_at (e ∷ es) zero x at = or_left (eq_by_cmp cmp x.0 e.0) (has_key es x.0) (ap (λ (y : Pair). eq_by_cmp cmp x.0 y.0) (some_same e x at) ∙ ties_itself x.0)
has_at (e ∷ es) (suc i) x at = or_right (eq_by_cmp cmp x.0 e.0) (has_key es x.0) (has_at es i x at)

above_first : (e : Pair) (es : List Pair) (i : ℕ) (x : Pair) → T (maps.is_sorted cmp (e ∷ es)) → slice_get es i ≡ Some x → is_lt (cmp e.0 x.0) ≡ true
above_first e es i x sorted at = above e.0 x.0 es (first_of_both (listed.below_all cmp e.0 es) (maps.is_sorted cmp es) sorted) (has_at es i x at)

apart_first : (e : Pair) (es : List Pair) (i : ℕ) (x : Pair) → T (maps.is_sorted cmp (e ∷ es)) → slice_get es i ≡ Some x → eq_by_cmp cmp x.0 e.0 ≡ false
apart_first e es i x sorted at = elim (cases_Bool (eq_by_cmp cmp x.0 e.0)) [
  | inl tie ↦ absurd (false≢true (sym (lt-itself e.0) ∙ ap (λ (text : List ℕ). is_lt (cmp e.0 text)) (sym (ties_same x.0 e.0 tie)) ∙ above_first e es i x sorted at))
  | inr apart ↦ apart
]

found_at : (es : List Pair) → T (maps.is_sorted cmp es) → (i : ℕ) (x : Pair) → slice_get es i ≡ Some x → maps.find cmp x.0 es ≡ Some x.1
found_at [] sorted i x at = absurd (none-some x at)
found_at (e ∷ es) sorted zero x at =
    let same = some_same e x at in
    cond-true (eq_by_cmp cmp x.0 e.0) (Some e.1) (maps.find cmp x.0 es) (ap (λ (y : Pair). eq_by_cmp cmp x.0 y.0) same ∙ ties_itself x.0) ∙ ap (λ (y : Pair). Some y.1) same
found_at (e ∷ es) sorted (suc i) x at =
    cond-false (eq_by_cmp cmp x.0 e.0) (Some e.1) (maps.find cmp x.0 es) (apart_first e es i x sorted at) ∙ found_at es (second_of_both (listed.below_all cmp e.0 es) (maps.is_sorted cmp es) sorted) i x at

place_in : (es : List Pair) (name value : List ℕ) → maps.find cmp name es ≡ Some value → (i : ℕ) × (slice_get es i ≡ Some (name, value))
place_in [] name value found = absurd (none-some value found)
place_in (e ∷ es) name value found = elim (cases_Bool (eq_by_cmp cmp name e.0)) [
  | inl tie ↦
      let value_is : e.1 ≡ value = some_same e.1 value (sym (cond-true (eq_by_cmp cmp name e.0) (Some e.1) (maps.find cmp name es) tie) ∙ found) in
      (0, ap (λ (k : List ℕ). Some (k, e.1)) (sym (ties_same name e.0 tie)) ∙ ap (λ (v : List ℕ). Some (name, v)) value_is)
  | inr apart ↦
      let rest = place_in es name value (sym (cond-false (eq_by_cmp cmp name e.0) (Some e.1) (maps.find cmp name es) apart) ∙ found) in
      (suc rest.0, rest.1)
]

ordered : (es : List Pair) → T (maps.is_sorted cmp es) → (j i : ℕ) (x y : Pair) → j < i → slice_get es j ≡ Some x → slice_get es i ≡ Some y → is_lt (cmp x.0 y.0) ≡ true
ordered [] sorted j i x y less first second = absurd (none-some x first)
ordered (e ∷ es) sorted j zero x y less first second = absurd (omega (arith, less))
ordered (e ∷ es) sorted zero (suc i) x y less first second = subst (λ (p : Pair). is_lt (cmp p.0 y.0) ≡ true) (some_same e x first) (above_first e es i y sorted second)
ordered (e ∷ es) sorted (suc j) (suc i) x y less first second = ordered es (second_of_both (listed.below_all cmp e.0 es) (maps.is_sorted cmp es) sorted) j i x y (omega (arith, less)) first second

stored_at : (m : Map) (i : ℕ) (x : Pair) → slice_get (maps.entries m) i ≡ Some x → IsStored m x.0 x.1
stored_at m i x at = maps.get-entries m x.0 ∙ found_at (maps.entries m) (maps.entries_sorted m) i x at

stored_place : (m : Map) (name value : List ℕ) → IsStored m name value → (i : ℕ) × (slice_get (maps.entries m) i ≡ Some (name, value))
stored_place m name value stored = place_in (maps.entries m) name value (sym (maps.get-entries m name) ∙ stored)

-- ---- lists cut at a place

take_prefix : (prefix rest : List Pair) → take (length prefix) (prefix ++ rest) ≡ prefix
take_prefix [] rest = refl
take_prefix (x ∷ prefix) rest = ap (λ (xs : List Pair). x ∷ xs) (take_prefix prefix rest)

at_prefix : (prefix rest : List Pair) (k : ℕ) → slice_get (prefix ++ rest) (length prefix + k) ≡ slice_get rest k
at_prefix [] rest k = let e : 0 + k ≡ k = omega arith in ap (slice_get rest) e
at_prefix (x ∷ prefix) rest k = let e : suc (length prefix) + k ≡ suc (length prefix + k) = omega arith in ap (slice_get (x ∷ prefix ++ rest)) e ∙ at_prefix prefix rest k

in_take : (es : List Pair) (n k : ℕ) (x : Pair) → slice_get (take n es) k ≡ Some x → (k < n) × (slice_get es k ≡ Some x)
in_take [] zero k x at = absurd (none-some x at)
in_take [] (suc n) k x at = absurd (none-some x at)
in_take (e ∷ es) zero k x at = absurd (none-some x at)
in_take (e ∷ es) (suc n) zero x at = (omega arith, at)
in_take (e ∷ es) (suc n) (suc k) x at = let rest = in_take es n k x at in (omega (arith, rest.0), rest.1)

cut_at : (es : List Pair) (i : ℕ) (x : Pair) → slice_get es i ≡ Some x → es ≡ take i es ++ x ∷ drop (suc i) es
cut_at [] i x at = absurd (none-some x at)
cut_at (e ∷ es) zero x at = ap (λ (y : Pair). y ∷ es) (some_same e x at)
cut_at (e ∷ es) (suc i) x at = ap (λ (ys : List Pair). e ∷ ys) (cut_at es i x at)

one_longer : (es : List Pair) (i : ℕ) (x : Pair) → slice_get es i ≡ Some x → take (suc i) es ≡ take i es ++ x ∷ []
one_longer [] i x at = absurd (none-some x at)
one_longer (e ∷ es) zero x at = ap (λ (y : Pair). y ∷ []) (some_same e x at)
one_longer (e ∷ es) (suc i) x at = ap (λ (ys : List Pair). e ∷ ys) (one_longer es i x at)

taken : (es : List Pair) (n : ℕ) → es ≡ take n es ++ drop n es
taken [] zero = refl
taken [] (suc n) = refl
taken (e ∷ es) zero = refl
taken (e ∷ es) (suc n) = ap (λ (ys : List Pair). e ∷ ys) (taken es n)

shifted : (prefix rest more : List Pair) (x : Pair) → prefix ++ ((x ∷ rest) ++ more) ≡ (prefix ++ x ∷ []) ++ (rest ++ more)
shifted [] rest more x = refl
shifted (y ∷ prefix) rest more x = ap (λ (ys : List Pair). y ∷ ys) (shifted prefix rest more x)

none_left : (es : List Pair) → es ++ [] ≡ es
none_left [] = refl
none_left (e ∷ es) = ap (λ (ys : List Pair). e ∷ ys) (none_left es)

nothing_applied : all_applied maps.empty [] ≡ maps.empty
unfolding all_applied
nothing_applied = refl

-- ---- no name is one too many when it is its turn

free_none : (room : Room) (settings : Map) → AreFree room settings []
unfolding AreFree
free_none room settings = tt

free_one : (room : Room) (settings : Map) (command : Command) (commands : List Command) → is_too_many room settings command ≡ false → AreFree room (applied settings command) commands → AreFree room settings (command ∷ commands)
unfolding AreFree
free_one room settings command commands first rest = (first, rest)

module _ (room : Room) (m : Map) where
  turn : (prefix rest : List Pair) (x : Pair) → maps.entries m ≡ prefix ++ x ∷ rest → all_applied maps.empty (puts_of prefix) ≡ before m (Some x.0)
  turn prefix rest x is =
      let zero_more : length prefix + 0 ≡ length prefix = omega arith in
      let there : slice_get (maps.entries m) (length prefix) ≡ Some x = ap (λ (es : List Pair). slice_get es (length prefix)) is ∙ ap (slice_get (prefix ++ x ∷ rest)) (sym zero_more) ∙ at_prefix prefix (x ∷ rest) 0 in
      ap (λ (es : List Pair). all_applied maps.empty (puts_of es)) (sym (ap (take (length prefix)) is ∙ take_prefix prefix (x ∷ rest)))
      ∙ puts-in-order m (length prefix) x.0 x.1 there

  free_from : (prefix rest more : List Pair) → maps.entries m ≡ prefix ++ (rest ++ more) → ((k : ℕ) (x : Pair) → slice_get rest k ≡ Some x → room.too_many (before m (Some x.0)) x.0 ≡ false) → AreFree room (all_applied maps.empty (puts_of prefix)) (puts_of rest)
  free_from prefix [] more is each = free_none room (all_applied maps.empty (puts_of prefix))
  free_from prefix (x ∷ rest) more is each =
      let now = turn prefix (rest ++ more) x is in
      let next : all_applied maps.empty (puts_of (prefix ++ x ∷ [])) ≡ applied (all_applied maps.empty (puts_of prefix)) (put_of x) =
      ap (all_applied maps.empty) (map-append put_of prefix (x ∷ [])) ∙ one_more maps.empty (puts_of prefix) (put_of x) in
      free_one room (all_applied maps.empty (puts_of prefix)) (put_of x) (puts_of rest) (ap (λ (s : Map). room.too_many s x.0) now ∙ each 0 x refl)
      (subst (λ (s : Map). AreFree room s (puts_of rest)) next (free_from (prefix ++ x ∷ []) rest more (is ∙ shifted prefix rest more x) (λ k y at. each (suc k) y at)))

  from_empty : (rest more : List Pair) → maps.entries m ≡ rest ++ more → ((k : ℕ) (x : Pair) → slice_get rest k ≡ Some x → room.too_many (before m (Some x.0)) x.0 ≡ false) → AreFree room maps.empty (puts_of rest)
  from_empty rest more is each = subst (λ (s : Map). AreFree room s (puts_of rest)) nothing_applied (free_from [] rest more is each)

  pub all_free : NoneTooMany room m None → AreFree room maps.empty (all_puts m)
  all_free none = from_empty (maps.entries m) [] (sym (none_left (maps.entries m))) (λ k x at. none x.0 x.1 (stored_at m k x at) refl)

  -- those before one
  each_before : (i : ℕ) (name value : List ℕ) → slice_get (maps.entries m) i ≡ Some (name, value) → NoneTooMany room m (Some name) → (k : ℕ) (x : Pair) → slice_get (take i (maps.entries m)) k ≡ Some x → room.too_many (before m (Some x.0)) x.0 ≡ false
  each_before i name value at earlier k x there =
      let part = in_take (maps.entries m) i k x there in
      earlier x.0 x.1 (stored_at m k x part.1) (ordered (maps.entries m) (maps.entries_sorted m) k i x (name, value) part.0 part.1 at)

  puts_at : (i : ℕ) (x : Pair) → slice_get (maps.entries m) i ≡ Some x → all_puts m ≡ puts_of (take i (maps.entries m)) ++ put_of x ∷ puts_of (drop (suc i) (maps.entries m))
  puts_at i x at = ap puts_of (cut_at (maps.entries m) i x at) ∙ map-append put_of (take i (maps.entries m)) (x ∷ drop (suc i) (maps.entries m))

  pub stops_for_names : HasOneTooMany room m → (done : ℕ) × (now : Map) × StopsForNames room (all_puts m) done maps.empty now
  stops_for_names has =
      let place = stored_place m has.name has.value has.stored in
      let prefix : List Pair = take place.0 (maps.entries m) in (
        length (puts_of prefix),
        before m (Some has.name),
        record {
          split = record { done = puts_of prefix; at = Put has.name has.value; left = puts_of (drop (suc place.0) (maps.entries m)); is = puts_at place.0 (has.name, has.value) place.1; count_is = refl };
          settings = sym (puts-in-order m place.0 has.name has.value place.1);
          free = from_empty prefix (drop place.0 (maps.entries m)) (taken (maps.entries m) place.0) (each_before place.0 has.name has.value place.1 has.earlier);
          many = has.many;
        },
      )

  -- those up to it
  each_to : (i : ℕ) (sectors need live : ℕ) (has : HasOneWithoutRoom room sectors m need live) (k : ℕ) (x : Pair) → slice_get (maps.entries m) i ≡ Some (has.name, has.value) → (k < suc i) × (slice_get (maps.entries m) k ≡ Some x) → room.too_many (before m (Some x.0)) x.0 ≡ false
  each_to i sectors need live has k x at part = elim (below_or k i (omega (arith, part.0))) [
    | inl less ↦ has.earlier x.0 x.1 (stored_at m k x part.1) (ordered (maps.entries m) (maps.entries_sorted m) k i x (has.name, has.value) less part.1 at)
    | inr same ↦
        let it : x ≡ (has.name, has.value) = some_same x (has.name, has.value) (sym part.1 ∙ ap (slice_get (maps.entries m)) same ∙ at) in
        subst (λ (y : Pair). room.too_many (before m (Some y.0)) y.0 ≡ false) (sym it) has.few
  ]

  pub meets_no_room : (sectors need live : ℕ) → HasOneWithoutRoom room sectors m need live → (done : ℕ) × (now : Map) × MeetsNoRoom room sectors maps.empty now (all_puts m) done need live
  meets_no_room sectors need live has =
      let place = stored_place m has.name has.value has.stored in
      let prefix : List Pair = take place.0 (maps.entries m) in
      let longer : take (suc place.0) (maps.entries m) ≡ prefix ++ (has.name, has.value) ∷ [] = one_longer (maps.entries m) place.0 (has.name, has.value) place.1 in
      let each : (k : ℕ) (x : Pair) → slice_get (take (suc place.0) (maps.entries m)) k ≡ Some x → room.too_many (before m (Some x.0)) x.0 ≡ false = λ k x there. each_to place.0 sectors need live has k x place.1 (in_take (maps.entries m) (suc place.0) k x there) in
      let free = from_empty (take (suc place.0) (maps.entries m)) (drop (suc place.0) (maps.entries m)) (taken (maps.entries m) (suc place.0)) each in (
        length (puts_of prefix),
        before m (Some has.name),
        record {
          split = record { done = puts_of prefix; at = Put has.name has.value; left = puts_of (drop (suc place.0) (maps.entries m)); is = puts_at place.0 (has.name, has.value) place.1; count_is = refl };
          settings = sym (puts-in-order m place.0 has.name has.value place.1);
          free = subst (λ (cs : List Command). AreFree room maps.empty cs) (ap puts_of longer ∙ map-append put_of prefix ((has.name, has.value) ∷ [])) free;
          lacks = (has.full, has.needs, has.lives);
        },
      )

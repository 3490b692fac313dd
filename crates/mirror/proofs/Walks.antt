-- Walks over the names of a map, one behind the other.
use Rattle.std.proofs.Common.{◌≡◌, ℕ, ◌+◌, ◌*◌, ◌<◌, ◌≤◌, ◌^◌, Bool, true, false, cond, List, [], ◌∷◌, ◌++◌, length, take, get_or, Option, Some, None, is_some, refl, sym, ap, ◌∙◌, inl, inr, arith, append_assoc}
use Rattle.std.specs.Prelude.{map, sum_by, count_by, option_map}
use Rattle.std.specs.Borrow.{Bor}
use Rattle.std.specs.List.{slice_get}
use Rattle.std.specs.Map.{keys_of}
use Rattle.std.specs.FinMap as maps
use Rattle.std.proofs.lemmas.Bool.{cases_Bool}
use Rattle.std.proofs.lemmas.List.{append-nil, length-map, take_all}
use Rattle.std.proofs.lemmas.List.Sums.{sum_by_more, count_by_more_yes, count_by_more_no}
use Rattle.std.proofs.lemmas.Option.{none-some, slice_get_within, get_or_from_slice_get, slice_get_cases, slice_get-map}
use Rattle.backend_api.specs.Map.{Map, IsStored, next_name}
use Rattle.backend_api.proofs.CommandLemmas.{walks-keys}
use Rattle.named_items.specs.Cost.{pair_cost}
use Rattle.migrator.proofs.Names.{left, left-smaller}
use Rattle.migrator.proofs.Puts.{find-at}
use Rattle.mirror.specs.Room.{Prices, room_by}

abbrev Pair : Type 0
Pair = List ℕ × List ℕ

some-same : {X : Type 0} (x y : X) → Some x ≡ Some y → x ≡ y
some-same x y e = cc

-- so many names are behind the walk, and this one is next
pub record IsAt (m : Map) (at : Option (List ℕ)) (i : ℕ) : Type 0 where
  pub within : i ≤ length (maps.entries m)
  pub there : at ≡ slice_get (maps.keys m) i

-- the name that is next, with its value
pub record IsNext (m : Map) (name : List ℕ) (i : ℕ) : Type 0 where
  pub value : List ℕ
  pub below : i < length (maps.entries m)
  pub entry : slice_get (maps.entries m) i ≡ Some (name, value)
  pub stored : IsStored m name value

pub started : (m : Map) (at : Option (List ℕ)) → at ≡ next_name m None → IsAt m at 0
started m at is = record { within = omega arith; there = is ∙ (walks-keys m).first }

pub next-one : (m : Map) (name : List ℕ) (i : ℕ) → IsAt m (Some name) i → IsNext m name i
next-one m name i at = by (slice_get (maps.entries m) i) refl (at.there ∙ slice_get-map (λ (e : Pair). e.0) (maps.entries m) i)
  where
    by : (o : Option Pair) → slice_get (maps.entries m) i ≡ o → Some name ≡ option_map (λ (e : Pair). e.0) (slice_get (maps.entries m) i) → IsNext m name i
    by None is some = absurd (none-some name (sym (some ∙ ap (option_map (λ (e : Pair). e.0)) is)))
    by (Some e) is some =
        let same : name ≡ e.0 = some-same name e.0 (some ∙ ap (option_map (λ (e : Pair). e.0)) is) in
        let pair : (e.0, e.1) ≡ (name, e.1) = ap (λ (x : List ℕ). (x, e.1)) (sym same) in
        record {
          value = e.1;
          below = slice_get_within (maps.entries m) i e is;
          entry = is ∙ ap (λ (x : Pair). Some x) pair;
          stored = ap (maps.get m) same ∙ maps.get-entries m e.0 ∙ find-at (maps.entries m) (maps.entries_sorted m) i e is;
        }

pub stepped : (m : Map) (name : List ℕ) (next : Option (List ℕ)) (i : ℕ) → IsAt m (Some name) i → next ≡ next_name m (Some name) → IsAt m next (i + 1)
stepped m name next i at is =
    let one = next-one m name i at in
    record { within = let b = one.below in omega arith; there = is ∙ (walks-keys m).next i name (sym at.there) }

past : (m : Map) (i : ℕ) → slice_get (maps.keys m) i ≡ None → length (maps.keys m) ≤ i
past m i none = elim (slice_get_cases (maps.keys m) i).1 [
  | inl there ↦ absurd (none-some there.0 (sym none ∙ there.2))
  | inr beyond ↦ beyond.0
]

pub ended : (m : Map) (i : ℕ) → IsAt m None i → take i (maps.entries m) ≡ maps.entries m
ended m i at =
    let long = past m i (sym at.there) in
    let count : length (maps.keys m) ≡ length (maps.entries m) = length-map (maps.entries m) (λ e. e.0) in
    take_all i (maps.entries m) (omega arith)

pub ended-keys : (m : Map) (i : ℕ) → IsAt m None i → take i (maps.keys m) ≡ maps.keys m
ended-keys m i at = take_all i (maps.keys m) (past m i (sym at.there))

-- fewer names are left
pub smaller : (m : Map) (at : Option (List ℕ)) (name : List ℕ) (next : Option (List ℕ)) (i : ℕ) → at ≡ Some name → IsAt m (Some name) i → next ≡ next_name m (Some name) → left (maps.keys m) next < left (maps.keys m) at
smaller m at name next i some here is = left-smaller m at name next some (ap is_some (next-one m name i here).stored) is

-- ---- what the pairs so far cost

pub record IsSummed (p : Prices) (m : Map) (at : Option (List ℕ)) (cost : ℕ) : Type 0 where
  pub i : ℕ
  pub here : IsAt m at i
  pub sum : cost ≡ p.counted + sum_by (pair_cost p.price) (take i (maps.entries m))
  pub most : cost ≤ 2 ^ 16 + i * 2 ^ 17

pub sum-start : (p : Prices) (m : Map) (at : Option (List ℕ)) (cost : ℕ) → at ≡ next_name m None → cost ≡ p.counted → cost < 2 ^ 16 → IsSummed p m at cost
sum-start p m at cost is counted small = record { i = 0; here = started m at is; sum = let e : p.counted ≡ p.counted + 0 = omega arith in counted ∙ e; most = omega arith }

pub sum-step : (p : Prices) (m : Map) (name : List ℕ) (next : Option (List ℕ)) (cost price more : ℕ) → IsSummed p m (Some name) cost
    → ((value : List ℕ) → IsStored m name value → price ≡ p.price (length name) + p.price (length value)) → price < 2 ^ 17 → more ≡ cost + price → next ≡ next_name m (Some name) → IsSummed p m next more
sum-step p m name next cost price more so_far pair small added is =
    let one = next-one m name so_far.i so_far.here in
    let all = sum_by_more (pair_cost p.price) (maps.entries m) so_far.i (name, one.value) one.below in
    let this : pair_cost p.price (get_or (maps.entries m) so_far.i (name, one.value)) ≡ price =
    ap (pair_cost p.price) (get_or_from_slice_get (maps.entries m) so_far.i (name, one.value) (name, one.value) one.entry) ∙ sym (pair one.value one.stored) in
    let before-it = so_far.sum in
    let bound = so_far.most in
    record { i = so_far.i + 1; here = stepped m name next so_far.i so_far.here is; sum = omega arith; most = omega arith }

-- it fits 64 bits
pub sum-fits : (p : Prices) (m : Map) (name : List ℕ) (cost price : ℕ) → IsSummed p m (Some name) cost → maps.len m < 2 ^ 32 → price < 2 ^ 17 → cost + price < 2 ^ 50
sum-fits p m name cost price so_far few small =
    let one = next-one m name so_far.i so_far.here in
    let below = one.below in
    let count = maps.len-entries m in
    let bound = so_far.most in
    omega arith

pub sum-end : (p : Prices) (m : Map) (cost : ℕ) → IsSummed p m None cost → cost ≡ (room_by p).cost m
sum-end p m cost so_far = so_far.sum ∙ ap (λ (es : List Pair). p.counted + sum_by (pair_cost p.price) es) (ended m so_far.i so_far.here)

pub sum-small : (p : Prices) (m : Map) (cost : ℕ) → IsSummed p m None cost → maps.len m < 2 ^ 32 → cost < 2 ^ 50
sum-small p m cost so_far few =
    let within = so_far.here.within in
    let count = maps.len-entries m in
    let bound = so_far.most in
    omega arith

-- ---- how many names so far pass a test

pub record IsCounted (test : List ℕ → Bool) (m : Map) (at : Option (List ℕ)) (count : ℕ) : Type 0 where
  pub i : ℕ
  pub here : IsAt m at i
  pub sum : count ≡ count_by test (take i (maps.keys m))
  pub most : count ≤ i

pub count-start : (test : List ℕ → Bool) (m : Map) (at : Option (List ℕ)) → at ≡ next_name m None → IsCounted test m at 0
count-start test m at is = record { i = 0; here = started m at is; sum = refl; most = omega arith }

pub count-step : (test : List ℕ → Bool) (m : Map) (name : List ℕ) (next : Option (List ℕ)) (count one more : ℕ) → IsCounted test m (Some name) count → one ≡ cond (test name) 1 0 → more ≡ count + one → next ≡ next_name m (Some name) → IsCounted test m next more
count-step test m name next count one more so_far is added next-is =
    let this = next-one m name so_far.i so_far.here in
    let keys : length (maps.keys m) ≡ length (maps.entries m) = length-map (maps.entries m) (λ e. e.0) in
    let below = this.below in
    let inside : so_far.i < length (maps.keys m) = omega arith in
    let key : get_or (maps.keys m) so_far.i name ≡ name = get_or_from_slice_get (maps.keys m) so_far.i name name (sym so_far.here.there) in
    let sum = so_far.sum in
    let most = so_far.most in
    record {
      i = so_far.i + 1;
      here = stepped m name next so_far.i so_far.here next-is;
      sum = elim (cases_Bool (test name)) [
        | inl yes_it ↦
            let more-it = count_by_more_yes test (maps.keys m) so_far.i name inside (ap test key ∙ yes_it) in
            let here = is ∙ ap (λ (t : Bool). cond t 1 0) yes_it in
            omega arith
        | inr not_it ↦
            let same = count_by_more_no test (maps.keys m) so_far.i name inside (ap test key ∙ not_it) in
            let here = is ∙ ap (λ (t : Bool). cond t 1 0) not_it in
            omega arith
      ];
      most = let small = at-most-one (test name) in omega arith;
    }
  where
    at-most-one : (t : Bool) → cond t 1 0 ≤ 1
    at-most-one true = omega arith
    at-most-one false = omega arith

pub count-fits : (test : List ℕ → Bool) (m : Map) (name : List ℕ) (count : ℕ) → IsCounted test m (Some name) count → maps.len m < 2 ^ 32 → count + 1 < 2 ^ 33
count-fits test m name count so_far few =
    let below = (next-one m name so_far.i so_far.here).below in
    let length-is = maps.len-entries m in
    let bound = so_far.most in
    omega arith

pub count-end : (test : List ℕ → Bool) (m : Map) (count : ℕ) → IsCounted test m None count → count ≡ count_by test (maps.keys m)
count-end test m count so_far = so_far.sum ∙ ap (count_by test) (ended-keys m so_far.i so_far.here)

-- ---- the classes of names

-- the names of a map in memory are those of the settings that it lists
pub names-listed : (pairs : List (List ℕ × Bor (List ℕ))) → keys_of pairs ≡ map (λ (e : List ℕ × List ℕ). e.0) (map (λ pair. (pair.0, pair.1.now)) pairs)
names-listed [] = refl
names-listed (pair ∷ pairs) = ap (λ names. pair.0 ∷ names) (names-listed pairs)

-- `found` has the classes of the names but those that are left
abbrev pub AreClasses : (List ℕ → ℕ) → List (List ℕ) → List (List ℕ) → List ℕ → Type 0
AreClasses class all left found = found ++ map class left ≡ map class all

pub class-step : (class : List ℕ → ℕ) (all left after : List (List ℕ)) (name : List ℕ) (found more : List ℕ) (one : ℕ) → left ≡ name ∷ after → one ≡ class name → more ≡ found ++ one ∷ [] → AreClasses class all left found → AreClasses class all after more
class-step class all left after name found more one step is pushed so_far =
    ap (λ l. l ++ map class after) pushed ∙ append_assoc found (one ∷ []) (map class after) ∙ ap (λ x. found ++ x ∷ map class after) is ∙ ap (λ l. found ++ map class l) (sym step) ∙ so_far

pub class-end : (class : List ℕ → ℕ) (all left : List (List ℕ)) (found : List ℕ) → left ≡ [] → AreClasses class all left found → found ≡ map class all
class-end class all left found none so_far = sym (append-nil found) ∙ ap (λ l. found ++ map class l) (sym none) ∙ so_far

-- Maps that fit an area: no set of a repair is refused, and a put for which there is room leaves a map that fits.
use Rattle.std.proofs.Common.{◌≡◌, ◌⊎◌, ℕ, zero, suc, ◌+◌, ◌-◌, ◌*◌, ◌<◌, ◌≤◌, Bool, true, false, not, ◌&&◌, cond, max, List, [], ◌∷◌, length, replicate, Option, Some, None, is_some, eqb, leb, refl, sym, ap, subst, ◌∙◌, inl, inr, arith}
use Rattle.std.specs.Prelude.{count_by, map, sum_by}
use Rattle.std.specs.Bool.{MatchBool}
use Rattle.std.specs.List.{list_all, list_any}
use Rattle.std.specs.Ordering.{eq_by_cmp}
use Rattle.std.specs.FinMap as maps
use Rattle.std.proofs.Math.Nat.{mul-le-mul_left}
use Rattle.std.proofs.lemmas.Bool.{and_parts, cases_Bool, false≢true, or_cases, or_left, or_right}
use Rattle.std.proofs.lemmas.List.Folds.{list_all-map}
use Rattle.std.proofs.lemmas.List.Sums.{sum_by-cons}
use Rattle.std.proofs.lemmas.Bool.Decides.{nat_tests}
use Rattle.std.proofs.lemmas.List.{length-replicate}
use Rattle.setting_name.specs.Name.{name_limit}
use Rattle.backend_api.specs.Map.{Map, IsStored, IsAbsent}
use Rattle.backend_api.specs.Room.{Room, HasNoRoom}
use Rattle.backend_api.proofs.LeastLemmas.{cmp}
use Rattle.backend_api.proofs.MapLemmas.{remove-absent, ties_itself, ties_same}
use Rattle.named_items.specs.Cost.{pair_cost, settings_cost}
use Rattle.migrator.specs.Copying.{before, HasOneTooMany, HasOneWithoutRoom}
use Rattle.mirror.specs.Room.{Prices, Fits, HasFewNames, have_few, IsRoomBy, IsTight, alike, greatest, mirror_room, room_by, too_many}
use Rattle.mirror.proofs.Totals.{total, absent-before, before-total, change-total, count-total, insert-total, inserted-key, one_for, remove-total, removed-within}

abbrev Pair : Type 0
Pair = List ℕ × List ℕ

absent-key : (m : Map) (name : List ℕ) → IsAbsent m name → maps.contains_key m name ≡ false
absent-key m name is = ap is_some is

stored-key : (m : Map) (name value : List ℕ) → IsStored m name value → maps.contains_key m name ≡ true
stored-key m name value is = ap is_some is

-- a name has a value or none
pub either : (m : Map) (name : List ℕ) → IsAbsent m name ⊎ ((value : List ℕ) × IsStored m name value)
either m name = at (maps.get m name) refl
  where
    at : (o : Option (List ℕ)) → maps.get m name ≡ o → IsAbsent m name ⊎ ((value : List ℕ) × IsStored m name value)
    at None is = inl is
    at (Some value) is = inr (value, is)

-- ---- few names of each class

count-map : (q : ℕ → Bool) (class : List ℕ → ℕ) (keys : List (List ℕ)) → count_by q (map class keys) ≡ count_by (λ name. q (class name)) keys
count-map q class [] = refl
count-map q class (name ∷ keys) =
    sum_by-cons (λ (n : ℕ). cond (q n) 1 0) (class name) (map class keys)
    ∙ ap (λ (n : ℕ). cond (q (class name)) 1 0 + n) (count-map q class keys)
    ∙ sym (sum_by-cons (λ (x : List ℕ). cond (q (class x)) 1 0) name keys)

all-has : (q : List ℕ → Bool) (keys : List (List ℕ)) (name : List ℕ) → list_all q keys ≡ true → list_any (eq_by_cmp cmp name) keys ≡ true → q name ≡ true
all-has q [] name all has = absurd (false≢true has)
all-has q (key ∷ keys) name all has =
    let parts = and_parts (q key) (list_all q keys) all in
    elim (or_cases (eq_by_cmp cmp name key) (list_any (eq_by_cmp cmp name) keys) has) [
      | inl here ↦ ap q (ties_same name key here) ∙ parts.0
      | inr later ↦ all-has q keys name parts.1 later
    ]

all-from : (q : List ℕ → Bool) (keys : List (List ℕ)) → ((name : List ℕ) → list_any (eq_by_cmp cmp name) keys ≡ true → q name ≡ true) → list_all q keys ≡ true
all-from q [] each = refl
all-from q (key ∷ keys) each =
    ap (λ (t : Bool). t && list_all q keys) (each key (or_left (eq_by_cmp cmp key key) (list_any (eq_by_cmp cmp key) keys) (ties_itself key)))
    ∙ all-from q keys (λ name has. each name (or_right (eq_by_cmp cmp name key) (list_any (eq_by_cmp cmp name) keys) has))

le-is : (a b : ℕ) → leb a b ≡ true → a ≤ b
le-is a b e = grind (arith, nat_tests)

is-le : (a b : ℕ) → a ≤ b → leb a b ≡ true
is-le a b e = grind (arith, nat_tests)

module _ (p : Prices) (m : Map) where
  test : List ℕ → Bool
  test name = leb (count_by (λ other. eqb other (p.class name)) (map p.class (maps.keys m))) p.most

  test-is : (name : List ℕ) → count_by (λ other. eqb other (p.class name)) (map p.class (maps.keys m)) ≡ alike p m name
  test-is name = count-map (λ other. eqb other (p.class name)) p.class (maps.keys m)

  all-is : have_few p.most (map p.class (maps.keys m)) ≡ list_all test (maps.keys m)
  unfolding test
  all-is = list_all-map (λ class. leb (count_by (λ other. eqb other class) (map p.class (maps.keys m))) p.most) p.class (maps.keys m)

  pub few-names : have_few p.most (map p.class (maps.keys m)) ≡ true → HasFewNames p m
  unfolding test
  few-names few name key =
      let passes : leb (count_by (λ other. eqb other (p.class name)) (map p.class (maps.keys m))) p.most ≡ true =
      all-has test (maps.keys m) name (sym all-is ∙ few) (sym (maps.contains_key-keys m name) ∙ key) in
      let most = le-is (count_by (λ other. eqb other (p.class name)) (map p.class (maps.keys m))) p.most passes in
      let is = test-is name in
      omega arith

  pub many-names : have_few p.most (map p.class (maps.keys m)) ≡ false → ¬ HasFewNames p m
  unfolding test
  many-names many few = false≢true (sym many ∙ all-is ∙ all-from test (maps.keys m) (λ name has.
      let most = few name (maps.contains_key-keys m name ∙ has) in
      let is = test-is name in
      is-le (count_by (λ other. eqb other (p.class name)) (map p.class (maps.keys m))) p.most (omega arith)))

  -- whether the map fits, by what was counted
  pub fits-if : (room : Room) (sectors limit cost left most : ℕ) (classes : List ℕ) (few : Bool) → IsRoomBy room p → cost ≤ left → left ≡ mirror_room room sectors limit → cost ≡ (room_by p).cost m
      → few ≡ have_few most classes → most ≡ p.most → classes ≡ map p.class (maps.keys m) → MatchBool few (Fits room p sectors limit m) (¬ Fits room p sectors limit m)
  fits-if room sectors limit cost left most classes few is loose left-is cost-is few-is most-is classes-are = by few (few-is ∙ ap (λ (n : ℕ). have_few n classes) most-is ∙ ap (have_few p.most) classes-are)
    where
      within : room.cost m ≤ mirror_room room sectors limit
      within =
          let b = is.cost m in
          omega arith

      by : (t : Bool) → t ≡ have_few p.most (map p.class (maps.keys m)) → MatchBool t (Fits room p sectors limit m) (¬ Fits room p sectors limit m)
      by true e = record { cost = within; few = few-names (sym e) }
      by false e = λ fits. many-names (sym e) fits.few

-- and where it costs too much
pub never-fits : (room : Room) (p : Prices) (m : Map) (sectors limit cost left : ℕ) → IsRoomBy room p → left < cost → left ≡ mirror_room room sectors limit → cost ≡ (room_by p).cost m → ¬ Fits room p sectors limit m
never-fits room p m sectors limit cost left is tight left-is cost-is fits =
    let b = is.cost m in
    let most = fits.cost in
    absurd (omega (arith, tight, b, most, left-is, cost-is))

-- ---- the greatest cost of one write

module _ (p : Prices) (rises : (short long : ℕ) → short ≤ long → p.price short ≤ p.price long) where
  most-is : (limit : ℕ) → greatest (room_by p) limit ≡ max p.counted (max (p.price limit) (p.price name_limit))
  most-is limit =
      let name : List ℕ = replicate name_limit 110 in
      let value : List ℕ = replicate limit 0 in
      let long : length name ≡ name_limit = length-replicate {A = ℕ} name_limit 110 in
      let short : length value ≡ limit = length-replicate {A = ℕ} limit 0 in
      ap (λ (t : Bool). cond t (p.price (length value)) (max p.counted (max (p.price (length value)) (p.price (length name))))) (absent-key maps.empty name (maps.get-empty cmp name))
      ∙ ap (λ (n : ℕ). max p.counted (max (p.price n) (p.price (length name)))) short ∙ ap (λ (n : ℕ). max p.counted (max (p.price limit) (p.price n))) long

  largest-most : (limit : ℕ) (m : Map) (name value : List ℕ) → length name ≤ name_limit → length value ≤ limit → (room_by p).largest m name value ≤ greatest (room_by p) limit
  largest-most limit m name value short small =
      let is = most-is limit in
      let a = rises (length name) name_limit short in
      let b = rises (length value) limit small in
      by (maps.contains_key m name) is a b
    where
      by : (t : Bool) → greatest (room_by p) limit ≡ max p.counted (max (p.price limit) (p.price name_limit)) → p.price (length name) ≤ p.price name_limit → p.price (length value) ≤ p.price limit
          → cond t (p.price (length value)) (max p.counted (max (p.price (length value)) (p.price (length name)))) ≤ greatest (room_by p) limit
      by true is a b = grind (arith, nat_tests, is, a, b)
      by false is a b = grind (arith, nat_tests, is, a, b)

-- ---- numbers made of prices

module _ (room : Room) (p : Prices) (is : IsRoomBy room p) (sectors limit : ℕ) where
  greatest-is : greatest room limit ≡ greatest (room_by p) limit
  greatest-is = is.largest maps.empty (replicate name_limit 110) (replicate limit 0)

  pub room-is : (sectors - 1) * (p.cap - max p.counted (max (p.price limit) (p.price name_limit))) ≡ mirror_room room sectors limit
  room-is =
      ap (λ (n : ℕ). (sectors - 1) * (n - max p.counted (max (p.price limit) (p.price name_limit)))) (sym is.cap)
      ∙ ap (λ (n : ℕ). (sectors - 1) * (room.cap - n)) (sym (greatest-is ∙ most-is p is.rises limit))

  -- a map and a put that cost no more than an area may have find room
  pub room-for : (m : Map) (name value : List ℕ) → length name ≤ name_limit → length value ≤ limit → room.cost m + room.need m name value ≤ mirror_room room sectors limit → ¬ HasNoRoom room sectors m name value
  room-for m name value short small fits full =
      let most : room.largest m name value ≤ greatest room limit =
      let a = largest-most p is.rises limit m name value short small in
      let b = is.largest m name value in
      let c = greatest-is in
      omega arith in
      let left : room.cap - greatest room limit ≤ room.cap - room.largest m name value = omega arith in
      let all : (sectors - 1) * (room.cap - greatest room limit) ≤ (sectors - 1) * (room.cap - room.largest m name value) = mul-le-mul_left (sectors - 1) left in
      omega (arith, full, fits, all)

  le-from : (a b : ℕ) → ¬ (a < b) → b ≤ a
  le-from a b not = grind (arith, not)

  pub not-tight : (m : Map) (name value : List ℕ) → length name ≤ name_limit → length value ≤ limit → ¬ IsTight room sectors limit m name value → ¬ HasNoRoom room sectors m name value
  not-tight m name value short small loose = room-for m name value short small (le-from (mirror_room room sectors limit) (room.cost m + room.need m name value) loose)

  -- ---- a repair

  cost-is : (m : Map) → room.cost m ≡ p.counted + total (pair_cost p.price) m
  cost-is m = is.cost m

  need-new : (m : Map) (name value : List ℕ) → IsAbsent m name → room.need m name value ≡ p.price (length value) + p.price (length name)
  need-new m name value none =
      is.need m name value ∙ ap (λ (t : Bool). cond t (p.price (length value)) (p.price (length value) + p.price (length name))) (absent-key m name none)

  need-stored : (m : Map) (name first value : List ℕ) → IsStored m name first → room.need m name value ≡ p.price (length value)
  need-stored m name first value some =
      is.need m name value ∙ ap (λ (t : Bool). cond t (p.price (length value)) (p.price (length value) + p.price (length name))) (stored-key m name first some)

  module _ (m : Map) (fits : Fits room p sectors limit m) where
    pub none-many : ¬ HasOneTooMany room m
    none-many one =
        let many : too_many p (before m (Some one.name)) one.name ≡ true = sym (is.too_many (before m (Some one.name)) one.name) ∙ one.many in
        let full : leb p.most (alike p (before m (Some one.name)) one.name) ≡ true = (and_parts (not (maps.contains_key (before m (Some one.name)) one.name)) (leb p.most (alike p (before m (Some one.name)) one.name)) many).1 in
        let test : List ℕ → Bool = λ other. eqb (p.class other) (p.class one.name) in
        let here : one_for test (one.name, one.value) ≡ 1 = ap (λ (t : Bool). cond t 1 0) (same-class (p.class one.name)) in
        let part = before-total (one_for test) m one.name one.value one.stored in
        let prefix = count-total test (before m (Some one.name)) in
        let all = count-total test m in
        let few = fits.few one.name (stored-key m one.name one.value one.stored) in
        let reached : p.most ≤ alike p (before m (Some one.name)) one.name = le-of p.most (alike p (before m (Some one.name)) one.name) full in
        absurd (omega (arith, here, part, prefix, all, few, reached))
      where
        same-class : (c : ℕ) → eqb c c ≡ true
        same-class c = grind (arith, nat_tests)

        le-of : (a b : ℕ) → leb a b ≡ true → a ≤ b
        le-of a b e = grind (arith, nat_tests)

    pub none-full : ((name value : List ℕ) → IsStored m name value → length name ≤ name_limit) → ((name value : List ℕ) → IsStored m name value → length value ≤ limit) → (need live : ℕ) → ¬ HasOneWithoutRoom room sectors m need live
    none-full names values need live one =
        let b = before m (Some one.name) in
        let part = before-total (pair_cost p.price) m one.name one.value one.stored in
        let cost-b = cost-is b in
        let cost-m = cost-is m in
        let need-b = need-new b one.name one.value (absent-before m one.name) in
        let most = fits.cost in
        room-for b one.name one.value (names one.name one.value one.stored) (values one.name one.value one.stored) (omega arith) one.full

    -- ---- commands

    pub removed-fits : (name : List ℕ) → Fits room p sectors limit (maps.remove m name)
    removed-fits name = elim (either m name) [
      | inl none ↦ subst (λ (n : Map). Fits room p sectors limit n) (sym (remove-absent m name none)) fits
      | inr some ↦ record {
        cost =
            let cut = remove-total (pair_cost p.price) m name some.0 some.1 in
            let before-it = cost-is m in
            let after-it = cost-is (maps.remove m name) in
            let most = fits.cost in
            omega arith;
        few = λ other key.
            let test : List ℕ → Bool = λ x. eqb (p.class x) (p.class other) in
            let cut = remove-total (one_for test) m name some.0 some.1 in
            let all = count-total test m in
            let rest = count-total test (maps.remove m name) in
            let most = fits.few other (kept name other key) in
            omega arith;
      }
    ]
      where
        kept : (name other : List ℕ) → maps.contains_key (maps.remove m name) other ≡ true → maps.contains_key m other ≡ true
        kept name other key = elim (either (maps.remove m name) other) [
          | inl none ↦ absurd (false≢true (sym (absent-key (maps.remove m name) other none) ∙ key))
          | inr some ↦ stored-key m other some.0 (removed-within m name other some.0 some.1)
        ]

    put-new : (name value : List ℕ) → IsAbsent m name → too_many p m name ≡ false → ¬ IsTight room sectors limit m name value → Fits room p sectors limit (maps.insert m name value)
    put-new name value none few loose = record {
      cost =
          let more = insert-total (pair_cost p.price) m name value none in
          let before-it = cost-is m in
          let after-it = cost-is (maps.insert m name value) in
          let needs = need-new m name value none in
          let most = le-from (mirror_room room sectors limit) (room.cost m + room.need m name value) loose in
          omega arith;
      few = λ other key. elim (cases_Bool (eqb (p.class name) (p.class other))) [
        | inl same ↦ alike-one other same
        | inr differ ↦ elim (inserted-key m name value other key) [
          | inl is ↦ absurd (false≢true (sym differ ∙ ap (λ (x : List ℕ). eqb (p.class name) (p.class x)) is ∙ same-class (p.class name)))
          | inr old ↦
              let test : List ℕ → Bool = λ x. eqb (p.class x) (p.class other) in
              let one : one_for test (name, value) ≡ 0 = ap (λ (t : Bool). cond t 1 0) differ in
              let more = insert-total (one_for test) m name value none in
              let all = count-total test m in
              let now = count-total test (maps.insert m name value) in
              let most = fits.few other old in
              omega arith
        ]
      ];
    }
      where
        same-class : (c : ℕ) → eqb c c ≡ true
        same-class c = grind (arith, nat_tests)

        same-of : (a b : ℕ) → eqb a b ≡ true → a ≡ b
        same-of a b e = grind (arith, nat_tests)

        one-less : (a b : ℕ) → leb a b ≡ false → b < a
        one-less a b e = grind (arith, nat_tests)

        room-left : alike p m name < p.most
        room-left = one-less p.most (alike p m name) (sym (ap (λ (t : Bool). not t && leb p.most (alike p m name)) (absent-key m name none)) ∙ few)

        alike-one : (other : List ℕ) → eqb (p.class name) (p.class other) ≡ true → alike p (maps.insert m name value) other ≤ p.most
        alike-one other same =
            let test : List ℕ → Bool = λ x. eqb (p.class x) (p.class other) in
            let one : one_for test (name, value) ≡ 1 = ap (λ (t : Bool). cond t 1 0) same in
            let more = insert-total (one_for test) m name value none in
            let all = count-total test m in
            let now = count-total test (maps.insert m name value) in
            let left = room-left in
            let class : alike p m name ≡ alike p m other = ap (λ (c : ℕ). count_by (λ x. eqb (p.class x) c) (maps.keys m)) (same-of (p.class name) (p.class other) same) in
            omega arith

    put-again : (name first value : List ℕ) → IsStored m name first → ¬ IsTight room sectors limit m name value → Fits room p sectors limit (maps.insert m name value)
    put-again name first value some loose = record {
      cost =
          let change = change-total (pair_cost p.price) m name first value some in
          let before-it = cost-is m in
          let after-it = cost-is (maps.insert m name value) in
          let needs = need-stored m name first value some in
          let most = le-from (mirror_room room sectors limit) (room.cost m + room.need m name value) loose in
          omega arith;
      few = λ other key.
          let test : List ℕ → Bool = λ x. eqb (p.class x) (p.class other) in
          let change = change-total (one_for test) m name first value some in
          let all = count-total test m in
          let now = count-total test (maps.insert m name value) in
          let most = fits.few other (kept other (inserted-key m name value other key)) in
          omega arith;
    }
      where
        kept : (other : List ℕ) → (other ≡ name) ⊎ (maps.contains_key m other ≡ true) → maps.contains_key m other ≡ true
        kept other (inl is) = ap (maps.contains_key m) is ∙ stored-key m name first some
        kept other (inr key) = key

    pub put-fits : (name value : List ℕ) → room.too_many m name ≡ false → ¬ IsTight room sectors limit m name value → Fits room p sectors limit (maps.insert m name value)
    put-fits name value few loose = elim (either m name) [
      | inl none ↦ put-new name value none (sym (is.too_many m name) ∙ few) loose
      | inr some ↦ put-again name some.0 value some.1 loose
    ]

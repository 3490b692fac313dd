-- What a walk over the last entries of the ids in a range gave, from sector to sector.
use Rattle.std.proofs.Common.{◌≡◌, ◌⊎◌, ℕ, zero, suc, ◌+◌, ◌-◌, ◌*◌, ◌^◌, ◌<◌, ◌≤◌, ◌/◌, Bool, true, false, ◌||◌, cond, eqb, leb, List, [], ◌++◌, length, map, Option, Some, None, refl, sym, ap, subst, ◌∙◌, inl, inr, arith}
use Rattle.std.specs.Prelude.{replicate, IfSome}
use Rattle.std.specs.List.{All, filter_map, flat_map, range_with_len}
use Rattle.std.specs.Option.{option_or}
use Rattle.std.proofs.lemmas.Bool.{false≢true, cases_Bool, ne_eqb, leb-true, and_parts}
use Rattle.std.proofs.lemmas.List.Concat.{flat_map-cons}
use Rattle.std.proofs.lemmas.List.Elements.{All-nil, All-cons, All-weaker}
use Rattle.std.proofs.lemmas.List.Folds.{list_any_none, list_any-append}
use Rattle.flash_map.specs.Area.{sector_at}
use Rattle.item_laws.specs.Area.{round, counts_at, open_sector}
use Rattle.item_laws.specs.Live.{all_placed, counted_in}
use Rattle.item_laws.specs.RoundParts.{places_after}
use Rattle.item_laws.proofs.LiveLemmas.{option_cases, some_none}
use Rattle.item_laws.proofs.Newest.{last-append}
use Rattle.item_laws.proofs.Places.{after, before, before-within}
use Rattle.item_store.specs.declared.entry.Placed.{Placed}
use Rattle.item_store.specs.declared.lasts.Lasts.{Lasts}
use Rattle.item_store.specs.SectorFormat.{SectorFormat, IsSectorFormat, placed_at, slots}
use Rattle.item_store.specs.Lasts.{in_range, IsOther, AreOthers, has_id, counted_from, given_at, sectors_left, slots_left, IsAt, WasGiven, IsLastIn, GivesNext, SameRange}
use Rattle.item_store.specs.Latest.{last_of_id}
use Rattle.item_store.specs.Listed.{IsPlaced}
use Rattle.item_store.specs.Seen.{behind}
use Rattle.item_store.proofs.CostSteps.{start_seen, more_seen, round-oldest}
use Rattle.item_store.proofs.LastTables.{or-none}
use Rattle.item_store.proofs.LastsSlots.{id-none}
use Rattle.item_store.proofs.Placings.{last-placed_by}
use Rattle.item_store.proofs.SeenSteps.{no_bit}

-- ---- entries of other ids

-- an id of the range has its bit
pub bit_inside : (least most id bytes : ℕ) → in_range least most id ≡ true → most < least + 8 * bytes → (id - least) / 8 < bytes
bit_inside least most id bytes own wide =
    let parts = and_parts (leb least id) (leb id most) own in
    let low : least ≤ id = leb-true least id parts.0 in
    let high : id ≤ most = leb-true id most parts.1 in
    omega arith

module _ (least most : ℕ) where
  module _ (id : ℕ) (own : in_range least most id ≡ true) (xs ys : List Placed) (others : All (λ p. in_range least most p.id ≡ false) xs) where
    none-has : has_id id xs ≡ false
    none-has =
        list_any_none (λ (p : Placed). eqb p.id id) xs
        (All-weaker (λ (p : Placed). in_range least most p.id ≡ false) (λ (p : Placed). eqb p.id id ≡ false)
        (λ p other. ne_eqb p.id id (λ (e : p.id ≡ id). false≢true (sym other ∙ ap (in_range least most) e ∙ own))) xs others)

    -- before others they add no entry of an id of the range
    pub others-any : has_id id (xs ++ ys) ≡ has_id id ys
    others-any = list_any-append (λ (p : Placed). eqb p.id id) xs ys ∙ ap (λ (t : Bool). t || has_id id ys) none-has

    pub others-last : last_of_id id (xs ++ ys) ≡ last_of_id id ys
    others-last =
        last-append (λ (p : Placed). eqb p.id id) xs ys
        ∙ ap (λ (o : Option Placed). option_or (last_of_id id ys) o) (id-none id xs none-has) ∙ or-none (last_of_id id ys)

  -- the entries of slots that have none of these ids
  pub slots-others : (k : SectorFormat) (b : List ℕ) (place a n : ℕ) → ((slot : ℕ) → a ≤ slot → slot < a + n → IsOther least most (k.in_slot b slot))
      → All (λ p. in_range least most p.id ≡ false) (map (placed_at place) (filter_map (k.in_slot b) (range_with_len a n)))
  slots-others k b place a zero others = All-nil (λ (p : Placed). in_range least most p.id ≡ false)
  slots-others k b place a (suc n) others =
      let rest = slots-others k b place (a + 1) n (λ slot low high. others slot (omega arith) (omega arith)) in
      elim (option_cases (k.in_slot b a)) [
        | inl none ↦ rw none rest
        | inr (e, some) ↦
            let here : in_range least most e.id ≡ false = subst (IsOther least most) some (others a (omega arith) (omega arith)) in
            rw some (All-cons (λ (p : Placed). in_range least most p.id ≡ false) (placed_at place e) (map (placed_at place) (filter_map (k.in_slot b) (range_with_len (a + 1) n))) here rest)
      ]

module _ (k : SectorFormat) (sectors : List (List ℕ)) (current : ℕ) where
  -- ---- a sector that is begun

  module _ (place left least most : ℕ) (few : left ≤ k.count (sector_at sectors place))
      (others : counts_at k.reading sectors current place ≡ true → AreOthers k (sector_at sectors place) left (k.count (sector_at sectors place)) least most) where
    from-others : All (λ p. in_range least most p.id ≡ false) (counted_from k sectors current place left)
    from-others =
        let b = sector_at sectors place in
        elim (cases_Bool (counts_at k.reading sectors current place)) [
          | inl counted ↦
              subst (λ (t : Bool). All (λ p. in_range least most p.id ≡ false) (cond t (map (placed_at place) (filter_map (k.in_slot (sector_at sectors place)) (range_with_len (k.first + left) (k.count (sector_at sectors place) - left)))) [])) (sym counted)
              (slots-others least most k b place (k.first + left) (k.count b - left) (λ slot low high. others counted slot low (omega arith)))
          | inr passed ↦
              subst (λ (t : Bool). All (λ p. in_range least most p.id ≡ false) (cond t (map (placed_at place) (filter_map (k.in_slot (sector_at sectors place)) (range_with_len (k.first + left) (k.count (sector_at sectors place) - left)))) [])) (sym passed)
              (All-nil (λ (p : Placed). in_range least most p.id ≡ false))
        ]

    -- of the range there are only the ids of the sectors behind it
    pub begun-any : (id : ℕ) → in_range least most id ≡ true → has_id id (given_at k sectors current place left) ≡ has_id id (behind k sectors current place)
    begun-any id own = others-any least most id own (counted_from k sectors current place left) (behind k sectors current place) from-others

    pub begun-last : (id : ℕ) → in_range least most id ≡ true → last_of_id id (given_at k sectors current place left) ≡ last_of_id id (behind k sectors current place)
    begun-last id own = others-last least most id own (counted_from k sectors current place left) (behind k sectors current place) from-others

  -- ---- a sector with no slot left

  pub covered-all : (place : ℕ) → given_at k sectors current place 0 ≡ counted_in (slots k) sectors current place ++ behind k sectors current place
  covered-all place =
      let b = sector_at sectors place in
      let from : k.first + 0 ≡ k.first = omega arith in
      let all : k.count (sector_at sectors place) - 0 ≡ k.count (sector_at sectors place) = omega arith in
      ap (λ (j : ℕ). cond (counts_at k.reading sectors current place) (map (placed_at place) (filter_map (k.in_slot (sector_at sectors place)) (range_with_len j (k.count (sector_at sectors place) - 0)))) [] ++ behind k sectors current place) from
      ∙ ap (λ (n : ℕ). cond (counts_at k.reading sectors current place) (map (placed_at place) (filter_map (k.in_slot (sector_at sectors place)) (range_with_len k.first n))) [] ++ behind k sectors current place) all

  -- ---- the start

  module _ (low : current < length sectors) (left least most : ℕ) (few : left ≤ k.count (sector_at sectors current)) (small : left ≤ 2 ^ 15)
      (others : counts_at k.reading sectors current current ≡ true → AreOthers k (sector_at sectors current) left (k.count (sector_at sectors current)) least most) where
    abbrev pub first_walk : Lasts
    first_walk = record { least = least; most = most; place = current; left = left; seen = replicate 0x2004 0 }

    pub start-at : most < least + 0x1_0020 → (0 < left → counts_at k.reading sectors current current ≡ true) → IsAt k sectors current first_walk
    start-at wide counts = record {
      inside = low;
      left = few;
      few = small;
      counts = counts;
      range = wide;
      noted = λ id own.
          no_bit 0x2004 (id - least) (bit_inside least most id 0x2004 own wide)
          ∙ sym (begun-any current left least most few others id own ∙ ap (has_id id) (start_seen k sectors current low));
    }

    pub start-none : (p : Placed) → WasGiven k sectors current first_walk p → ⊥
    start-none p covered =
        some_none p (sym covered.last ∙ begun-last current left least most few others p.id covered.own ∙ ap (last_of_id p.id) (start_seen k sectors current low))

  -- ---- one sector back

  module _ (low : current < length sectors) (old : Lasts) (at : IsAt k sectors current old) (none_left : old.left ≡ 0) (apart : old.place ≡ after (length sectors) current → ⊥)
      (place left : ℕ) (back : place ≡ before (length sectors) old.place) (few : left ≤ k.count (sector_at sectors place)) (small : left ≤ 2 ^ 15)
      (others : counts_at k.reading sectors current place ≡ true → AreOthers k (sector_at sectors place) left (k.count (sector_at sectors place)) old.least old.most) where
    abbrev pub back_walk : Lasts
    back_walk = record { least = old.least; most = old.most; place = place; left = left; seen = old.seen }

    -- all that was given stands behind the sector before
    left-behind : given_at k sectors current old.place old.left ≡ behind k sectors current place
    left-behind =
        ap (given_at k sectors current old.place) none_left ∙ covered-all old.place ∙ more_seen k sectors current low old.place at.inside apart ∙ ap (behind k sectors current) (sym back)

    pub back-at : (0 < left → counts_at k.reading sectors current place ≡ true) → IsAt k sectors current back_walk
    back-at counts = record {
      inside = subst (λ (p : ℕ). p < length sectors) (sym back) (before-within (length sectors) old.place at.inside);
      left = few;
      few = small;
      counts = counts;
      range = at.range;
      noted = λ id own. at.noted id own ∙ ap (has_id id) left-behind ∙ sym (begun-any place left old.least old.most few others id own);
    }

    pub back-covered : (p : Placed) → WasGiven k sectors current back_walk p → WasGiven k sectors current old p
    back-covered p covered = record {
      own = covered.own;
      last = ap (last_of_id p.id) left-behind ∙ sym (begun-last place left old.least old.most few others p.id covered.own) ∙ covered.last;
    }

  -- ---- the end

  -- with no slot left in the oldest sector all was given
  covered-whole : current < length sectors → after (length sectors) current < length sectors → current ≡ open_sector k.reading sectors → given_at k sectors current (after (length sectors) current) 0 ≡ all_placed (slots k) sectors
  covered-whole low high is =
      let oldest : ℕ = after (length sectors) current in
      covered-all (after (length sectors) current)
      ∙ sym (flat_map-cons (counted_in (slots k) sectors current) oldest (places_after (length sectors) current oldest))
      ∙ sym (ap (flat_map (counted_in (slots k) sectors current)) (round-oldest (length sectors) current low high))
      ∙ ap (λ (j : ℕ). flat_map (counted_in (slots k) sectors j) (round (length sectors) j)) is

  pub all-covered : (old new : Lasts) → current < length sectors → after (length sectors) current < length sectors → current ≡ open_sector k.reading sectors → new.place ≡ after (length sectors) current → new.left ≡ 0 → SameRange old new
      → (p : Placed) → IsLastIn k sectors old p → WasGiven k sectors current new p
  all-covered old new low high is oldest none same p last = record {
    own = ap (λ (a : ℕ). in_range a new.most p.id) same.0 ∙ ap (λ (b : ℕ). in_range old.least b p.id) same.1 ∙ last.own;
    last = ap (λ (j : ℕ). last_of_id p.id (given_at k sectors current j new.left)) oldest
        ∙ ap (λ (n : ℕ). last_of_id p.id (given_at k sectors current (after (length sectors) current) n)) none
        ∙ ap (last_of_id p.id) (covered-whole low high is) ∙ last.last;
  }

  -- ---- one walk after another

  -- the same range has the same last entries
  pub last-same : (old new : Lasts) → SameRange old new → (o : Option Placed) → IfSome o (IsLastIn k sectors new) → IfSome o (IsLastIn k sectors old)
  last-same old new same None last = tt
  last-same old new same (Some p) last = record {
    own = sym (ap (λ (a : ℕ). in_range a new.most p.id) same.0 ∙ ap (λ (b : ℕ). in_range old.least b p.id) same.1) ∙ last.own;
    last = last.last;
  }

  -- nothing was found so far; the walk goes one sector back, and on from there
  pub covered-more : (old now mid new : Lasts) (o found : Option Placed) → o ≡ None → ((p : Placed) → WasGiven k sectors current now p → (Some p ≡ o) ⊎ WasGiven k sectors current old p)
      → ((p : Placed) → WasGiven k sectors current mid p → WasGiven k sectors current now p) → ((p : Placed) → WasGiven k sectors current new p → (Some p ≡ found) ⊎ WasGiven k sectors current mid p)
      → (p : Placed) → WasGiven k sectors current new p → (Some p ≡ found) ⊎ WasGiven k sectors current old p
  covered-more old now mid new o found none so_far back more p covered =
      elim (more p covered) [
        | inl here ↦ inl here
        | inr before ↦ elim (so_far p (back p before)) [
          | inl some ↦ absurd (some_none p (some ∙ none))
          | inr was ↦ inr was
        ]
      ]

  pub knows-next : (old new : Lasts) (found : Option Placed) → IfSome found (IsLastIn k sectors old) → ((p : Placed) → WasGiven k sectors current new p → (Some p ≡ found) ⊎ WasGiven k sectors current old p)
      → (found ≡ None → (p : Placed) → IsLastIn k sectors old p → WasGiven k sectors current new p) → GivesNext k sectors current old new found
  knows-next old new None last covered all = λ p is.
      elim (covered p (all refl p is)) [
        | inl some ↦ absurd (some_none p some)
        | inr was ↦ was
      ]
  knows-next old new (Some next) last covered all = (last, λ p was. by_case p (covered p was))
    where
      one_entry : (x y : Placed) → Some x ≡ Some y → x ≡ y
      one_entry x y e = cc

      by_case : (p : Placed) → (Some p ≡ Some next) ⊎ WasGiven k sectors current old p → (p ≡ next) ⊎ WasGiven k sectors current old p
      by_case p (inl same) = inl (one_entry p next same)
      by_case p (inr was) = inr was

-- what is the last entry of its id stands in its slot
pub last-stands : (k : SectorFormat) → IsSectorFormat k → (sectors : List (List ℕ)) (current : ℕ) (walk : Lasts) (o : Option Placed) → 0 < length sectors → current ≡ open_sector k.reading sectors → IfSome o (IsLastIn k sectors walk) → IfSome o (IsPlaced k sectors current)
last-stands k law sectors current walk None some is last = tt
last-stands k law sectors current walk (Some p) some is last =
    subst (λ (j : ℕ). IsPlaced k sectors j p) (sym is)
    (subst (λ (o : Option Placed). IfSome o (IsPlaced k sectors (open_sector k.reading sectors))) last.last (last-placed_by k law sectors (λ (q : Placed). eqb q.id p.id) some))

-- ---- what is left

more-left : (s t a b : ℕ) → s ≡ t → a < b → s * 0x8001 + a < t * 0x8001 + b
more-left s t a b same fewer = omega arith

-- in one sector
pub here-fewer : (count current : ℕ) (old new : Lasts) (o : Option Placed) → new.place ≡ old.place → IfSome o (λ _. new.left < old.left) → IfSome o (λ _. slots_left count current new < slots_left count current old)
here-fewer count current old new None same fewer = tt
here-fewer count current old new (Some p) same fewer = more-left (sectors_left count current new.place) (sectors_left count current old.place) new.left old.left (ap (sectors_left count current) same) fewer

no-more : (s t a b : ℕ) → s ≡ t → a ≤ b → s * 0x8001 + a ≤ t * 0x8001 + b
no-more s t a b same few = omega arith

pub here-most : (count current : ℕ) (old new : Lasts) (o : Option Placed) → new.place ≡ old.place → (o ≡ None → new.left ≡ 0) → IfSome o (λ _. new.left < old.left) → slots_left count current new ≤ slots_left count current old
here-most count current old new None same ends fewer =
    let none : new.left ≡ 0 = ends refl in
    no-more (sectors_left count current new.place) (sectors_left count current old.place) new.left old.left (ap (sectors_left count current) same) (omega arith)
here-most count current old new (Some p) same ends fewer =
    no-more (sectors_left count current new.place) (sectors_left count current old.place) new.left old.left (ap (sectors_left count current) same) (omega (arith, fewer))

a-sector : (s t a b : ℕ) → s < t → a ≤ 2 ^ 15 → s * 0x8001 + a ≤ t * 0x8001 + b
a-sector s t a b before small = omega arith

-- one sector back
pub back-most : (count current : ℕ) (old new : Lasts) → sectors_left count current new.place < sectors_left count current old.place → new.left ≤ 2 ^ 15 → slots_left count current new ≤ slots_left count current old
back-most count current old new before small = a-sector (sectors_left count current new.place) (sectors_left count current old.place) new.left old.left before small

pub fewer-then : (a b c : ℕ) (o : Option Placed) → IfSome o (λ _. a < b) → b ≤ c → IfSome o (λ _. a < c)
fewer-then a b c None fewer most = tt
fewer-then a b c (Some p) fewer most = omega (arith, fewer)

pub most-then : (a b c : ℕ) → a ≤ b → b ≤ c → a ≤ c
most-then a b c first second = omega arith

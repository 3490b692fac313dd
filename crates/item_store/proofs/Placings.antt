-- Each entry of the list of an area stands in its slot.
use Rattle.std.proofs.Common.{◌≡◌, ℕ, zero, suc, ◌+◌, ◌-◌, ◌<◌, ◌≤◌, Bool, true, cond, List, [], ◌∷◌, length, map, Option, Some, None, sym, ap, subst, ◌∙◌, inl, inr, arith}
use Rattle.std.specs.Prelude.{IfSome}
use Rattle.std.specs.List.{filter_map, flat_map, range_with_len, All}
use Rattle.std.specs.Option.{option_map}
use Rattle.std.proofs.lemmas.Bool.{cases_Bool}
use Rattle.std.proofs.lemmas.List.Concat.{flat_map-cons}
use Rattle.std.proofs.lemmas.List.Elements.{All-nil, All-cons, All-head, All-tail, All-append, All-map}
use Rattle.flash_map.specs.Area.{sector_at}
use Rattle.item_laws.specs.Area.{round, counts_at, open_sector}
use Rattle.item_laws.specs.Live.{counted_in, all_placed}
use Rattle.item_laws.proofs.LiveLemmas.{option_cases}
use Rattle.item_laws.proofs.Newest.{last-all, last_that}
use Rattle.item_laws.proofs.Places.{All-range}
use Rattle.item_laws.proofs.Stays.{open_within}
use Rattle.item_store.specs.declared.entry.Entry.{Entry}
use Rattle.item_store.specs.declared.entry.Placed.{Placed}
use Rattle.item_store.specs.SectorFormat.{SectorFormat, IsSectorFormat, placed_at, slots, entries}
use Rattle.item_store.specs.Listed.{IsListed, IsPlaced}

module _ (k : SectorFormat) (law : IsSectorFormat k) (sectors : List (List ℕ)) where
  -- the entry of a slot
  pub listed_here : (place slot : ℕ) (e : Entry) → place < length sectors → k.first ≤ slot → slot < k.first + k.count (sector_at sectors place) → k.in_slot (sector_at sectors place) slot ≡ Some e → IsListed k sectors (placed_at place e)
  listed_here place slot e within from listed is =
      let own : e.slot ≡ slot = law.own_slot (sector_at sectors place) slot e is in
      record {
        within = within;
        from = omega arith;
        listed = omega arith;
        read = ap (option_map (placed_at place)) (ap (k.in_slot (sector_at sectors place)) own ∙ is);
      }

  -- what was read in a slot
  pub read_listed : (place slot : ℕ) (p : Placed) → place < length sectors → k.first ≤ slot → slot < k.first + k.count (sector_at sectors place) → Some p ≡ option_map (placed_at place) (k.in_slot (sector_at sectors place) slot) → IsListed k sectors p × (p.sector ≡ place) × (p.slot ≡ slot)
  read_listed place slot p within from listed is =
      elim (option_cases (k.in_slot (sector_at sectors place) slot)) [
        | inl none ↦ absurd (some_none p (is ∙ ap (option_map (placed_at place)) none))
        | inr (e, some) ↦
            let same : placed_at place e ≡ p = some_same (placed_at place e) p (sym (is ∙ ap (option_map (placed_at place)) some)) in
            let own : e.slot ≡ slot = law.own_slot (sector_at sectors place) slot e some in (
              subst (IsListed k sectors) same (listed_here place slot e within from listed some),
              sym (ap (λ (q : Placed). q.sector) same),
              sym (ap (λ (q : Placed). q.slot) same) ∙ own,
            )
      ]
    where
      some_same : (x y : Placed) → Some x ≡ Some y → x ≡ y
      some_same x y e = cc

      some_none : (x : Placed) → Some x ≡ None → ⊥
      some_none x e = cc

  -- its bytes are as long as it says
  pub entry_long : (p : Placed) → IsListed k sectors p → k.within (sector_at sectors p.sector) ≡ true → length (k.bytes (sector_at sectors p.sector) p.slot) ≡ p.len
  entry_long p is within =
      elim (option_cases (k.in_slot (sector_at sectors p.sector) p.slot)) [
        | inl none ↦ absurd (none_some p (sym (ap (option_map (placed_at p.sector)) none) ∙ is.read))
        | inr (e, some) ↦
            let same : placed_at p.sector e ≡ p = one_entry (placed_at p.sector e) p (sym (ap (option_map (placed_at p.sector)) some) ∙ is.read) in
            let own = law.own_slot (sector_at sectors p.sector) p.slot e some in
            ap (λ (n : ℕ). length (k.bytes (sector_at sectors p.sector) n)) (sym own)
            ∙ law.long (sector_at sectors p.sector) p.slot e within is.from is.listed some ∙ ap (λ (q : Placed). q.len) same
      ]
    where
      one_entry : (x y : Placed) → Some x ≡ Some y → x ≡ y
      one_entry x y e = cc

      none_some : (x : Placed) → None ≡ Some x → ⊥
      none_some x e = cc

  -- an entry of a sector that counts
  pub placed_by : (current place : ℕ) (o : Option Placed) → counts_at k.reading sectors current place ≡ true → IfSome o (IsListed k sectors) → IfSome o (λ p. p.sector ≡ place) → IfSome o (IsPlaced k sectors current)
  placed_by current place None counts listed at = tt
  placed_by current place (Some p) counts listed at = record { listed = listed; counts = ap (counts_at k.reading sectors current) at ∙ counts }

  module _ (current : ℕ) where
    abbrev P : Placed → Type 0
    P = IsPlaced k sectors current

    slots-placed : (place : ℕ) → place < length sectors → counts_at k.reading sectors current place ≡ true → (a n : ℕ) → k.first ≤ a → a + n ≤ k.first + k.count (sector_at sectors place)
        → All (λ e. IsPlaced k sectors current (placed_at place e)) (filter_map (k.in_slot (sector_at sectors place)) (range_with_len a n))
    slots-placed place within counts a zero low high = All-nil (λ (e : Entry). P (placed_at place e))
    slots-placed place within counts a (suc n) low high =
        let rest = slots-placed place within counts (a + 1) n (omega arith) (omega arith) in
        elim (option_cases (k.in_slot (sector_at sectors place) a)) [
          | inl none ↦ rw none rest
          | inr (e, some) ↦
              let here : IsPlaced k sectors current (placed_at place e) = record { listed = listed_here place a e within low (omega arith) some; counts = counts } in
              rw some (All-cons (λ (e : Entry). P (placed_at place e)) e (filter_map (k.in_slot (sector_at sectors place)) (range_with_len (a + 1) n)) here rest)
        ]

    pub counted-placed : (place : ℕ) → place < length sectors → All (IsPlaced k sectors current) (counted_in (slots k) sectors current place)
    counted-placed place within =
        elim (cases_Bool (counts_at k.reading sectors current place)) [
          | inr passed ↦ subst (λ (t : Bool). All P (cond t (map (placed_at place) (entries k (sector_at sectors place))) [])) (sym passed) (All-nil P)
          | inl counted ↦
              subst (λ (t : Bool). All P (cond t (map (placed_at place) (entries k (sector_at sectors place))) [])) (sym counted)
              (All-map P (placed_at place) (entries k (sector_at sectors place)) (slots-placed place within counted k.first (k.count (sector_at sectors place)) (omega arith) (omega arith)))
        ]

    among-placed : (places : List ℕ) → All (λ j. j < length sectors) places → All (IsPlaced k sectors current) (flat_map (counted_in (slots k) sectors current) places)
    among-placed [] within = All-nil P
    among-placed (place ∷ rest) within =
        subst (All P) (sym (flat_map-cons (counted_in (slots k) sectors current) place rest))
        (All-append P (counted_in (slots k) sectors current place) (flat_map (counted_in (slots k) sectors current) rest)
        (counted-placed place (All-head (λ j. j < length sectors) place rest within)) (among-placed rest (All-tail (λ j. j < length sectors) place rest within)))

  -- Each entry of the list stands in its slot.
  pub all-are_placed : 0 < length sectors → All (IsPlaced k sectors (open_sector k.reading sectors)) (all_placed (slots k) sectors)
  all-are_placed some =
      let current = open_sector k.reading sectors in
      let within = open_within k.reading sectors some in
      among-placed (open_sector k.reading sectors) (round (length sectors) (open_sector k.reading sectors))
      (All-append (λ j. j < length sectors) (range_with_len (open_sector k.reading sectors + 1) (length sectors - (open_sector k.reading sectors + 1))) (range_with_len 0 (open_sector k.reading sectors + 1))
      (All-range (λ j. j < length sectors) (open_sector k.reading sectors + 1) (length sectors - (open_sector k.reading sectors + 1)) (λ j low high. omega arith))
      (All-range (λ j. j < length sectors) 0 (open_sector k.reading sectors + 1) (λ j low high. omega arith)))

  -- as does the last one that passes a test
  pub last-placed_by : (test : Placed → Bool) → 0 < length sectors → IfSome (last_that test (all_placed (slots k) sectors)) (IsPlaced k sectors (open_sector k.reading sectors))
  last-placed_by test some = last-all test (IsPlaced k sectors (open_sector k.reading sectors)) (all_placed (slots k) sectors) None tt (all-are_placed some)

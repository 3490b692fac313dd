-- The entries of the list of an area at rest, with their places, and one more in the open sector.
use Rattle.std.proofs.Common.{◌≡◌, ℕ, ◌+◌, ◌-◌, Bool, true, cond, List, [], ◌∷◌, ◌++◌, length, map, refl, sym, ap, ◌∙◌, inl, inr, append_assoc, arith}
use Rattle.std.specs.List.{flat_map, range_with_len}
use Rattle.std.proofs.lemmas.Bool.{cases_Bool}
use Rattle.std.proofs.lemmas.List.{append-nil, length-set, map_push}
use Rattle.std.proofs.lemmas.List.Concat.{flat_map-append, flat_map-cons}
use Rattle.std.proofs.lemmas.List.Elements.{All-append}
use Rattle.flash_map.specs.Area.{sector_at, ChangesOnly}
use Rattle.item_laws.specs.Area.{round}
use Rattle.item_laws.specs.Forms.{AtRest, others}
use Rattle.item_laws.specs.Live.{all_placed, counted_in}
use Rattle.item_laws.proofs.Lists.{counts-at_rest, elsewhere}
use Rattle.item_laws.proofs.Places.{All-range, flat_map-agree, round-is, others-All}
use Rattle.item_laws.proofs.RingSteps.{reads}
use Rattle.item_store.specs.declared.entry.Entry.{Entry}
use Rattle.item_store.specs.declared.entry.Placed.{Placed}
use Rattle.item_store.specs.Cached.{AddsEntry}
use Rattle.item_store.specs.SectorFormat.{SectorFormat, IsSectorFormat, placed_at, slots, entries}
use Rattle.item_store.specs.Steps.{new_entry, Begins, Adds}

module _ (k : SectorFormat) (law : IsSectorFormat k) where
  -- the entries of one sector
  abbrev row : List (List ℕ) → ℕ → List Placed
  row sectors j = map (placed_at j) (entries k (sector_at sectors j))

  -- at rest each sector counts, and the open one stands last
  pub all-at_rest : (sectors : List (List ℕ)) (place : ℕ) → AtRest k.reading sectors place → all_placed (slots k) sectors ≡ flat_map (row sectors) (others (length sectors) place) ++ row sectors place
  all-at_rest sectors place form =
      let counted : (j : ℕ) → counted_in (slots k) sectors place j ≡ row sectors j = λ j. ap (λ (t : Bool). cond t (row sectors j) []) (counts-at_rest k.reading sectors place form.blanks j form.ring form.some) in
      ap (λ (j : ℕ). flat_map (counted_in (slots k) sectors j) (round (length sectors) j)) (reads k.reading sectors place (inl form)).0
      ∙ flat_map-agree (counted_in (slots k) sectors place) (row sectors) (round (length sectors) place)
      (All-append (λ j. counted_in (slots k) sectors place j ≡ row sectors j) (range_with_len (place + 1) (length sectors - (place + 1))) (range_with_len 0 (place + 1))
      (All-range (λ j. counted_in (slots k) sectors place j ≡ row sectors j) (place + 1) (length sectors - (place + 1)) (λ j low high. counted j))
      (All-range (λ j. counted_in (slots k) sectors place j ≡ row sectors j) 0 (place + 1) (λ j low high. counted j)))
      ∙ ap (flat_map (row sectors)) (round-is (length sectors) place)
      ∙ flat_map-append (row sectors) (others (length sectors) place) (place ∷ [])
      ∙ ap (λ (xs : List Placed). flat_map (row sectors) (others (length sectors) place) ++ xs) (flat_map-cons (row sectors) place [] ∙ append-nil (row sectors place))

  no_entries : {X Y : Type 0} (f : X → Y) (xs : List X) → map f xs ≡ [] → xs ≡ []
  no_entries f [] e = refl
  no_entries f (x ∷ xs) e = absurd (cc)

  pub blank-entries : (b : List ℕ) → k.reading.is_blank b ≡ true → entries k b ≡ []
  blank-entries b blank = no_entries {Y = ℕ × List ℕ} (λ (e : Entry). (e.id, k.bytes b e.slot)) (entries k b) (sym (law.pairs b) ∙ law.reads.pairs b blank)

  -- a sector that is made ready keeps its entries
  pub begun-entries : (b e : List ℕ) → Begins k b e → entries k e ≡ entries k b
  begun-entries b e begins =
      elim (cases_Bool (k.reading.is_blank b)) [
        | inl blank ↦ blank-entries e (begins.blank blank) ∙ sym (blank-entries b blank)
        | inr used ↦ ap (entries k) (begins.used used)
      ]

  module _ (old new : List (List ℕ)) (place : ℕ) (before : AtRest k.reading old place) (after : AtRest k.reading new place) (only : ChangesOnly old new place) where
    pub one-more : (e : Entry) → entries k (sector_at new place) ≡ entries k (sector_at old place) ++ e ∷ [] → all_placed (slots k) new ≡ all_placed (slots k) old ++ placed_at place e ∷ []
    one-more e more =
        let ring = before.ring in
        let prefix : List Placed = flat_map (row old) (others (length old) place) in
        let long : length new ≡ length old = ap length only ∙ length-set old place (sector_at new place) in
        let same : (j : ℕ) → (j ≡ place → ⊥) → sector_at new j ≡ sector_at old j = λ j apart. ap (λ (s : List (List ℕ)). sector_at s j) only ∙ elsewhere old place (sector_at new place) j apart in
        all-at_rest new place after
        ∙ ap (λ (n : ℕ). flat_map (row new) (others n place) ++ row new place) long
        ∙ ap (λ (xs : List Placed). xs ++ row new place)
        (flat_map-agree (row new) (row old) (others (length old) place) (others-All (λ j. row new j ≡ row old j) (length old) place ring.within (λ j lt apart. ap (λ (b : List ℕ). map (placed_at j) (entries k b)) (same j apart))))
        ∙ ap (λ (xs : List Placed). prefix ++ xs) (ap (map (placed_at place)) more ∙ map_push (placed_at place) (entries k (sector_at old place)) e)
        ∙ sym (append_assoc prefix (row old place) (placed_at place e ∷ []))
        ∙ ap (λ (xs : List Placed). xs ++ placed_at place e ∷ []) (sym (all-at_rest old place before))

    -- a sector that was made ready, and then took an entry
    pub adds-entry : (mid : List ℕ) (id : ℕ) (bytes : List ℕ) → Begins k (sector_at old place) mid → Adds k mid (sector_at new place) id bytes → AddsEntry k old new place id (length bytes)
    adds-entry mid id bytes begins adds =
        let e : Entry = new_entry (k.first + k.count mid) id (length bytes) in
        let count = adds.count in
        record {
          slot = k.first + k.count mid;
          last = omega arith;
          list = one-more e (adds.entry ∙ ap (λ (es : List Entry). es ++ e ∷ []) (begun-entries (sector_at old place) mid begins));
        }

-- No pair of an area has the id behind those of items.
use Rattle.std.proofs.Common.{◌≡◌, ℕ, ◌<◌, ◌≤◌, false, eqb, List, [], ◌∷◌, length, map, Option, None, refl, ap, ◌∙◌, inl, inr, arith}
use Rattle.std.specs.List.{cons_option, filter, filter_map, flat_map, range_with_len}
use Rattle.std.specs.FinMap.{get}
use Rattle.std.proofs.lemmas.Bool.{cases_eq, ne_eqb, or_from}
use Rattle.std.proofs.lemmas.List.Concat.{flat_map-cons}
use Rattle.flash_map.specs.Area.{sector_at}
use Rattle.item_laws.specs.LivePairs.{names}
use Rattle.item_laws.proofs.ItemLemmas.{get-items_of}
use Rattle.item_laws.proofs.LivePairs.{absent, last-is, names-append}
use Rattle.item_laws.specs.Area.{round, counts_at, open_sector, area_pairs}
use Rattle.item_laws.specs.Forms.{pairs_at}
use Rattle.item_laws.proofs.LiveLemmas.{option_cases}
use Rattle.item_store.specs.declared.entry.Entry.{Entry}
use Rattle.item_store.specs.SectorFormat.{SectorFormat, IsSectorFormat}
use Rattle.item_store.specs.Standing.{list_of, items}

module _ (k : SectorFormat) (law : IsSectorFormat k) where
  unnamed_slots : (b : List ℕ) (ns : List ℕ) → names k.ids (map {B = ℕ × List ℕ} (λ (e : Entry). (e.id, k.bytes b e.slot)) (filter_map (k.in_slot b) ns)) ≡ false
  unnamed_slots b [] = refl
  unnamed_slots b (n ∷ ns) =
      let later = unnamed_slots b ns in
      elim (option_cases (k.in_slot b n)) [
        | inl none ↦ ap (λ (o : Option Entry). names k.ids (map {B = ℕ × List ℕ} (λ (e : Entry). (e.id, k.bytes b e.slot)) (cons_option o (filter_map (k.in_slot b) ns)))) none ∙ later
        | inr (e, some) ↦
            ap (λ (o : Option Entry). names k.ids (map {B = ℕ × List ℕ} (λ (e : Entry). (e.id, k.bytes b e.slot)) (cons_option o (filter_map (k.in_slot b) ns)))) some
            ∙ or_from (eqb e.id k.ids) (names k.ids (map {B = ℕ × List ℕ} (λ (e : Entry). (e.id, k.bytes b e.slot)) (filter_map (k.in_slot b) ns))) (ne_eqb e.id k.ids (λ (z : e.id ≡ k.ids). law.reserved b n e some z)) later
      ]

  unnamed_sectors : (sectors : List (List ℕ)) (places : List ℕ) → names k.ids (flat_map (pairs_at k.reading sectors) places) ≡ false
  unnamed_sectors sectors [] = refl
  unnamed_sectors sectors (place ∷ places) =
      ap (names k.ids) (flat_map-cons (pairs_at k.reading sectors) place places)
      ∙ names-append k.ids (pairs_at k.reading sectors place) (flat_map (pairs_at k.reading sectors) places)
      ∙ or_from (names k.ids (pairs_at k.reading sectors place)) (names k.ids (flat_map (pairs_at k.reading sectors) places))
      (ap (names k.ids) (law.pairs (sector_at sectors place)) ∙ unnamed_slots (sector_at sectors place) (range_with_len k.first (k.count (sector_at sectors place)))) (unnamed_sectors sectors places)

  unnamed : (sectors : List (List ℕ)) → names k.ids (list_of k sectors) ≡ false
  unfolding area_pairs
  unnamed sectors = unnamed_sectors sectors (filter (counts_at k.reading sectors (open_sector k.reading sectors)) (round (length sectors) (open_sector k.reading sectors)))

  -- so an id that has an item is another one
  pub present_ordinary : (sectors : List (List ℕ)) (id : ℕ) → id ≤ k.ids → (get (items k sectors) id ≡ None → ⊥) → id < k.ids
  present_ordinary sectors id small present =
      elim (cases_eq id k.ids) [
        | inl same ↦ absurd (present (ap (get (items k sectors)) same ∙ get-items_of (list_of k sectors) k.ids ∙ last-is (list_of k sectors) k.ids ∙ absent k.ids None (list_of k sectors) (unnamed sectors)))
        | inr other ↦ omega (arith, other)
      ]

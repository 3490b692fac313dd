-- Which id is the next one with a value: the ids of a sector, slot by slot, and of an area.
use Rattle.std.proofs.Common.{◌≡◌, ℕ, ◌+◌, ◌<◌, List, [], ◌∷◌, ◌++◌, length, map, Option, Some, None, refl, sym, ap, subst, ◌∙◌, inl, inr, arith}
use Rattle.std.specs.Prelude.{IfSome}
use Rattle.std.specs.List.{filter_map, range_with_len}
use Rattle.std.specs.Option.{option_map}
use Rattle.std.proofs.lemmas.List.{map-append, append-nil}
use Rattle.std.proofs.lemmas.List.Elements.{filter_map-append}
use Rattle.flash_map.specs.Area.{sector_at}
use Rattle.item_laws.specs.Items.{Items}
use Rattle.item_laws.specs.Area.{open_sector}
use Rattle.item_laws.specs.NextIds.{Follows, IsAtMost, IsLeastOf, IsNextId}
use Rattle.item_laws.proofs.LiveLemmas.{option_cases}
use Rattle.item_laws.proofs.NextIds.{least_kept, least_none, least_push, no_value}
use Rattle.item_laws.proofs.Places.{range-append, range_one}
use Rattle.item_store.specs.declared.entry.Entry.{Entry}
use Rattle.item_store.specs.declared.entry.Placed.{Placed}
use Rattle.item_store.specs.SectorFormat.{SectorFormat, IsSectorFormat, placed_at}
use Rattle.item_store.specs.Standing.{items}

module _ (k : SectorFormat) where
  abbrev pub pair_in : List ℕ → Entry → ℕ × List ℕ
  pair_in b e = (e.id, k.bytes b e.slot)

  -- the pairs of the first so many slots of a sector's list
  abbrev pub pairs_to : List ℕ → ℕ → List (ℕ × List ℕ)
  pairs_to b n = map (pair_in b) (filter_map (k.in_slot b) (range_with_len k.first n))

  to_more : (b : List ℕ) (n slot : ℕ) → slot ≡ k.first + n → pairs_to b (n + 1) ≡ pairs_to b n ++ map (pair_in b) (filter_map (k.in_slot b) (slot ∷ []))
  to_more b n slot at =
      ap (λ (xs : List ℕ). map (pair_in b) (filter_map (k.in_slot b) xs)) (range-append k.first n 1 ∙ ap (λ (xs : List ℕ). range_with_len k.first n ++ xs) (range_one (k.first + n) ∙ ap (λ (j : ℕ). j ∷ []) (sym at)))
      ∙ ap (map (pair_in b)) (filter_map-append (k.in_slot b) (range_with_len k.first n) (slot ∷ []))
      ∙ map-append (pair_in b) (filter_map (k.in_slot b) (range_with_len k.first n)) (filter_map (k.in_slot b) (slot ∷ []))

  -- in none of its slots
  pub least_start : (m : Items) (after : Option ℕ) (b : List ℕ) (least : Option ℕ) → IsLeastOf m after (pairs_to b 0) least
  least_start m after b least = least_none m after least

  -- the least of what was found before, with the id of one slot more
  pub least_step : (m : Items) (after : Option ℕ) (b : List ℕ) (place n slot : ℕ) (o : Option Placed) (before least : Option ℕ) → slot ≡ k.first + n → o ≡ option_map (placed_at place) (k.in_slot b slot) → IfSome before (IsAtMost least)
      → IfSome o (λ p. Follows m after p.id → IsAtMost least p.id) → IsLeastOf m after (pairs_to b n) before → IsLeastOf m after (pairs_to b (n + 1)) least
  least_step m after b place n slot o before least at is kept own so_far =
      elim (option_cases (k.in_slot b slot)) [
        | inl none ↦
            let same : pairs_to b (n + 1) ≡ pairs_to b n = to_more b n slot at ∙ (rw none (append-nil (pairs_to b n))) in
            subst (λ ps. IsLeastOf m after ps least) (sym same) (least_kept m after (pairs_to b n) before least kept so_far)
        | inr (e, some) ↦
            let same : pairs_to b (n + 1) ≡ pairs_to b n ++ pair_in b e ∷ [] = to_more b n slot at ∙ (rw some refl) in
            let here : Follows m after e.id → IsAtMost least e.id = subst (λ (o : Option Placed). IfSome o (λ p. Follows m after p.id → IsAtMost least p.id)) (is ∙ ap (option_map (placed_at place)) some) own in
            subst (λ ps. IsLeastOf m after ps least) (sym same) (least_push m after (pairs_to b n) (pair_in b e) before least kept here so_far)
      ]

  -- all its slots
  pub least_end : (law : IsSectorFormat k) (m : Items) (after : Option ℕ) (b : List ℕ) (n : ℕ) (least : Option ℕ) → n ≡ k.count b → IsLeastOf m after (pairs_to b n) least → IsLeastOf m after (k.reading.pairs b) least
  least_end law m after b n least all so_far = subst (λ ps. IsLeastOf m after ps least) (ap (pairs_to b) all ∙ sym (law.pairs b)) so_far

  pub next_is : (sectors : List (List ℕ)) (after least : Option ℕ) → open_sector k.reading sectors < length sectors → IfSome least (Follows (items k sectors) after)
      → ((j : ℕ) → j < length sectors → IsLeastOf (items k sectors) after (k.reading.pairs (sector_at sectors j)) least) → IsNextId (items k sectors) after least
  next_is sectors after None within some each = λ id behind. no_value k.reading sectors (items k sectors) after None refl within each id behind (λ none. none)
  next_is sectors after (Some next) within some each = (some.0, some.1, λ id behind below. no_value k.reading sectors (items k sectors) after (Some next) refl within each id behind (λ above. omega arith))

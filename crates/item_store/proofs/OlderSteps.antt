-- From an entry of the list to the one before it.
use Rattle.std.proofs.Common.{◌≡◌, ℕ, ◌+◌, ◌-◌, ◌<◌, ◌≤◌, Bool, true, false, cond, List, [], ◌∷◌, ◌++◌, length, map, Option, Some, None, refl, sym, ap, ◌∙◌, inl, inr, arith}
use Rattle.std.specs.Prelude.{is_some}
use Rattle.std.specs.List.{filter_map, last_or, range_with_len}
use Rattle.std.specs.Option.{option_map}
use Rattle.std.proofs.lemmas.List.{map-append, append-nil}
use Rattle.std.proofs.lemmas.List.Elements.{filter_map-append}
use Rattle.flash_map.specs.Area.{sector_at}
use Rattle.item_laws.specs.Area.{counts_at, open_sector}
use Rattle.item_laws.specs.Live.{counted_in, all_placed}
use Rattle.item_laws.specs.Walk.{entries_from, entries_within, counted_within, placed_up_to}
use Rattle.item_laws.proofs.LastLemmas.{among}
use Rattle.item_laws.proofs.LiveLemmas.{option_cases, some_none}
use Rattle.item_laws.proofs.Newest as newest
use Rattle.item_laws.proofs.Places.{range-append, range_one}
use Rattle.item_laws.proofs.SlotWalks.{last_that}
use Rattle.item_laws.proofs.WalkLemmas as walks
use Rattle.item_store.specs.declared.entry.Placed.{Placed}
use Rattle.item_store.specs.SectorFormat.{SectorFormat, IsSectorFormat, placed_at, slots}
use Rattle.item_store.specs.Older.{IsNextOlder}
use Rattle.item_store.proofs.CopyLoop.{are}

-- the last one of a list is the last one that passes where each does
pub as_last : {X : Type 0} (xs : List X) → last_that (λ x. true) xs ≡ last_or None xs
as_last xs = newest.last-each xs None

-- ---- the search from part to part

-- the second of two parts has one
pub newest-behind : (xs ys : List Placed) (o : Option Placed) → o ≡ last_or None ys → is_some o ≡ true → o ≡ last_or None (xs ++ ys)
newest-behind xs ys o is some = newest.newest-behind (λ (p : Placed). true) xs ys o (is ∙ sym (as_last ys)) some ∙ as_last (xs ++ ys)

-- it has none
pub newest-before : (xs ys : List Placed) (o older : Option Placed) → o ≡ last_or None ys → is_some o ≡ false → older ≡ last_or None xs → older ≡ last_or None (xs ++ ys)
newest-before xs ys o older is none older-is = newest.newest-before (λ (p : Placed). true) xs ys o older (is ∙ sym (as_last ys)) none (older-is ∙ sym (as_last xs)) ∙ as_last (xs ++ ys)

last_push : (xs : List Placed) (p : Placed) → last_or None (xs ++ p ∷ []) ≡ Some p
last_push xs p = sym (newest-behind xs (p ∷ []) (Some p) refl refl)

module _ (k : SectorFormat) where
  -- ---- the search in one sector

  abbrev pub placed_to : List ℕ → ℕ → ℕ → List Placed
  placed_to b place n = map (placed_at place) (entries_from (slots k) b k.first n)

  pub to_more : (b : List ℕ) (place n slot : ℕ) → slot ≡ k.first + n → placed_to b place (n + 1) ≡ placed_to b place n ++ map (placed_at place) (filter_map (k.in_slot b) (slot ∷ []))
  to_more b place n slot at =
      ap (λ (xs : List ℕ). map (placed_at place) (filter_map (k.in_slot b) xs)) (range-append k.first n 1 ∙ ap (λ (xs : List ℕ). range_with_len k.first n ++ xs) (range_one (k.first + n) ∙ ap (λ (j : ℕ). j ∷ []) (sym at)))
      ∙ ap (map (placed_at place)) (filter_map-append (k.in_slot b) (range_with_len k.first n) (slot ∷ []))
      ∙ map-append (placed_at place) (filter_map (k.in_slot b) (range_with_len k.first n)) (filter_map (k.in_slot b) (slot ∷ []))

  placed_more : (b : List ℕ) (place count slot : ℕ) → 0 < count → slot ≡ k.first + (count - 1) → placed_to b place count ≡ placed_to b place (count - 1) ++ map (placed_at place) (filter_map (k.in_slot b) (slot ∷ []))
  placed_more b place count slot positive at = let up : count ≡ count - 1 + 1 = omega arith in ap (placed_to b place) up ∙ to_more b place (count - 1) slot at

module _ (k : SectorFormat) (law : IsSectorFormat k) where
  same_some : (x y : Placed) → Some x ≡ Some y → x ≡ y
  same_some x y e = cc

  pub newest_here : (b : List ℕ) (place count slot : ℕ) (p : Placed) (rest : Option Placed) → 0 < count → slot ≡ k.first + (count - 1) → Some p ≡ option_map (placed_at place) (k.in_slot b slot) → last_or None (placed_to k b place count) ≡ rest → Some p ≡ rest
  newest_here b place count slot p rest positive at is later =
      elim (option_cases (k.in_slot b slot)) [
        | inl none ↦ absurd (some_none p (is ∙ ap (option_map (placed_at place)) none))
        | inr (e, some) ↦
            let own : p ≡ placed_at place e = same_some p (placed_at place e) (is ∙ ap (option_map (placed_at place)) some) in
            let last : placed_to k b place count ≡ placed_to k b place (count - 1) ++ placed_at place e ∷ [] = placed_more k b place count slot positive at ∙ (rw some refl) in
            ap (λ (q : Placed). Some q) own ∙ sym (last_push (placed_to k b place (count - 1)) (placed_at place e)) ∙ sym (ap (last_or None) last) ∙ later
      ]

  pub newest_none : (b : List ℕ) (place count slot : ℕ) (rest : Option Placed) → 0 < count → slot ≡ k.first + (count - 1) → None ≡ option_map (placed_at place) (k.in_slot b slot) → last_or None (placed_to k b place count) ≡ rest → last_or None (placed_to k b place (count - 1)) ≡ rest
  newest_none b place count slot rest positive at is later =
      elim (option_cases (k.in_slot b slot)) [
        | inl none ↦
            let last : placed_to k b place count ≡ placed_to k b place (count - 1) = placed_more k b place count slot positive at ∙ (rw none (append-nil (placed_to k b place (count - 1)))) in
            sym (ap (last_or None) last) ∙ later
        | inr (e, some) ↦ absurd (some_none (placed_at place e) (sym (is ∙ ap (option_map (placed_at place)) some)))
      ]

  -- ---- from sector to sector

  pub within_counted : (sectors : List (List ℕ)) (current place n : ℕ) → counts_at k.reading sectors current place ≡ true → map (placed_at place) (entries_within (slots k) (sector_at sectors place) n) ≡ counted_within (slots k) sectors current place n
  within_counted sectors current place n counts = sym (ap (λ (t : Bool). cond t (map (placed_at place) (entries_within (slots k) (sector_at sectors place) n)) []) counts)

  pub within_passed : (sectors : List (List ℕ)) (current place n : ℕ) → counts_at k.reading sectors current place ≡ false → counted_within (slots k) sectors current place n ≡ []
  within_passed sectors current place n passed = ap (λ (t : Bool). cond t (map (placed_at place) (entries_within (slots k) (sector_at sectors place) n)) []) passed

  pub within_whole : (sectors : List (List ℕ)) (current place n : ℕ) → k.count (sector_at sectors place) ≤ n → counted_within (slots k) sectors current place n ≡ counted_in (slots k) sectors current place
  within_whole sectors current place n enough = walks.counted-whole (slots k) (are k law) sectors current place n enough

  -- what the last sectors have decides
  pub newest-suffix : (sectors : List (List ℕ)) (current first mid end : ℕ) → first ≤ mid → mid ≤ end → is_some (last_or None (among (slots k) sectors current mid (end - mid))) ≡ true
      → last_or None (among (slots k) sectors current mid (end - mid)) ≡ last_or None (among (slots k) sectors current first (end - first))
  newest-suffix sectors current first mid end low high some =
      sym (as_last (among (slots k) sectors current mid (end - mid)))
      ∙ newest.last-suffix (λ (p : Placed). true) (counted_in (slots k) sectors current) first mid end low high (ap (λ (o : Option Placed). is_some o) (as_last (among (slots k) sectors current mid (end - mid))) ∙ some)
      ∙ as_last (among (slots k) sectors current first (end - first))

  -- one step down
  pub newest-step : (sectors : List (List ℕ)) (current place end : ℕ) (o : Option Placed) → 0 < place → place ≤ end → last_or None (among (slots k) sectors current place (end - place)) ≡ None → o ≡ last_or None (counted_in (slots k) sectors current (place - 1))
      → last_or None (among (slots k) sectors current (place - 1) (end - (place - 1))) ≡ o
  newest-step sectors current place end o some high none is =
      sym (as_last (among (slots k) sectors current (place - 1) (end - (place - 1))))
      ∙ newest.last-step (λ (p : Placed). true) (counted_in (slots k) sectors current) place end o some high (as_last (among (slots k) sectors current place (end - place)) ∙ none) (is ∙ sym (as_last (counted_in (slots k) sectors current (place - 1))))

  -- ---- the walk

  pub walked-newest : (sectors : List (List ℕ)) (current n : ℕ) (o : Option Placed) → open_sector k.reading sectors ≡ current → current < length sectors → k.count (sector_at sectors current) ≤ n → o ≡ last_or None (placed_up_to (slots k) sectors current current n)
      → IsNextOlder (all_placed (slots k) sectors) None o
  walked-newest sectors current n o is low enough found = found ∙ ap (last_or None) (walks.whole-list (slots k) (are k law) sectors current n is low enough)

  pub walked-older : (sectors : List (List ℕ)) (current sector slot n : ℕ) (o : Option Placed) → open_sector k.reading sectors ≡ current → current < length sectors → sector < length sectors → n ≡ slot - k.first → o ≡ last_or None (placed_up_to (slots k) sectors current sector n)
      → IsNextOlder (all_placed (slots k) sectors) (Some (sector, slot)) o
  walked-older sectors current sector slot n o is low high slots_are found = λ older newer p split at.
      let in_sector : p.sector ≡ sector = sym (ap (λ (q : ℕ × ℕ). q.0) at) in
      let in_slot : p.slot ≡ slot = sym (ap (λ (q : ℕ × ℕ). q.1) at) in
      found ∙ ap (last_or None) (sym (walks.before-is (slots k) (are k law) sectors current sector n is low high slot slots_are older newer p split in_sector in_slot))

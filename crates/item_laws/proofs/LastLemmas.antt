-- The last entry of an id in the list, and what it says of the list.
use Rattle.std.proofs.Common.{◌≡◌, ℕ, ◌+◌, ◌-◌, ◌<◌, ◌≤◌, Bool, true, false, cond, eqb, List, [], ◌∷◌, ◌++◌, length, map, Option, Some, None, refl, sym, ap, ◌∙◌, inl, inr}
use Rattle.std.specs.Prelude.{fold, is_some}
use Rattle.std.specs.List.{filter, flat_map, range_with_len}
use Rattle.std.specs.Option.{option_and_then, option_map, option_or}
use Rattle.std.proofs.lemmas.Bool.{cases_Bool}
use Rattle.std.proofs.lemmas.List.{map-append}
use Rattle.std.proofs.lemmas.List.Concat.{flat_map-cons}
use Rattle.flash_map.specs.Area.{sector_at}
use Rattle.flash_map.proofs.MapLemmas.{not_some}
use Rattle.item_laws.specs.Items.{last, value_of}
use Rattle.item_laws.specs.Area.{round, counts_at, open_sector, area_pairs}
use Rattle.item_laws.proofs.Newest as newest
use Rattle.item_laws.specs.Entries.{Entries, AreEntries}
use Rattle.item_laws.specs.Live.{list_of, counted_in, all_placed, last_of, last_in, last_placed, bytes_of, pair_of}

-- no entry is there
pub none_by : {X : Type 0} (o : Option X) → is_some o ≡ false → o ≡ None
none_by o none = not_some o none

module _ {Entry Placed : Type 0} (k : Entries Entry Placed) where
  -- the last one of a sector that counts, or none
  pub counted-last : (sectors : List (List ℕ)) (current place id : ℕ) → counts_at k.reading sectors current place ≡ true → option_map (k.placed_at place) (last_in k place id (k.entries (sector_at sectors place))) ≡ last_of k id (counted_in k sectors current place)
  counted-last sectors current place id counts =
      sym (ap (λ (t : Bool). last_of k id (cond t (map (k.placed_at place) (k.entries (sector_at sectors place))) [])) counts ∙ newest.last-map (λ p. eqb (k.id p) id) (k.placed_at place) (k.entries (sector_at sectors place)))

  pub counted-none : (sectors : List (List ℕ)) (current place id : ℕ) → counts_at k.reading sectors current place ≡ false → None ≡ last_of k id (counted_in k sectors current place)
  counted-none sectors current place id passed = sym (ap (λ (t : Bool). last_of k id (cond t (map (k.placed_at place) (k.entries (sector_at sectors place))) [])) passed)

  -- the last one of two lists
  pub last-append : (id : ℕ) (xs ys : List Placed) → last_of k id (xs ++ ys) ≡ option_or (last_of k id ys) (last_of k id xs)
  last-append id xs ys = newest.last-append (λ p. eqb (k.id p) id) xs ys

  abbrev pub among : List (List ℕ) → ℕ → ℕ → ℕ → List Placed
  among sectors current first n = flat_map (counted_in k sectors current) (range_with_len first n)

  -- what the last sectors have decides
  pub last-suffix : (sectors : List (List ℕ)) (current id first mid end : ℕ) → first ≤ mid → mid ≤ end → is_some (last_of k id (among sectors current mid (end - mid))) ≡ true
      → last_of k id (among sectors current mid (end - mid)) ≡ last_of k id (among sectors current first (end - first))
  last-suffix sectors current id first mid end low high some = newest.last-suffix (λ p. eqb (k.id p) id) (counted_in k sectors current) first mid end low high some

  -- one step down
  pub last-step : (sectors : List (List ℕ)) (current id place end : ℕ) (o : Option Placed) → 0 < place → place ≤ end → last_of k id (among sectors current place (end - place)) ≡ None → o ≡ last_of k id (counted_in k sectors current (place - 1))
      → last_of k id (among sectors current (place - 1) (end - (place - 1))) ≡ o
  last-step sectors current id place end o some high none is = newest.last-step (λ p. eqb (k.id p) id) (counted_in k sectors current) place end o some high none is

  -- the round to the open sector is the list
  whole_round : (sectors : List (List ℕ)) (current id count : ℕ) → count ≡ length sectors → open_sector k.reading sectors ≡ current → last_of k id (flat_map (counted_in k sectors current) (round count current)) ≡ last_placed k sectors id
  whole_round sectors current id count long is =
      ap (λ (n : ℕ). last_of k id (flat_map (counted_in k sectors current) (round n current))) long
      ∙ sym (ap (λ (place : ℕ). last_of k id (flat_map (counted_in k sectors place) (round (length sectors) place))) is)

  -- the newest sectors first, and then the older ones
  pub newest-decides : (sectors : List (List ℕ)) (current id count : ℕ) (o : Option Placed) → count ≡ length sectors → open_sector k.reading sectors ≡ current → o ≡ last_of k id (among sectors current 0 (current + 1 - 0)) → is_some o ≡ true → o ≡ last_placed k sectors id
  newest-decides sectors current id count o long is found some =
      newest.newest-decides (λ p. eqb (k.id p) id) (counted_in k sectors current) count current o found some ∙ whole_round sectors current id count long is

  pub older-decides : (sectors : List (List ℕ)) (current id count : ℕ) (o older : Option Placed) → count ≡ length sectors → open_sector k.reading sectors ≡ current → o ≡ last_of k id (among sectors current 0 (current + 1 - 0)) → is_some o ≡ false
      → older ≡ last_of k id (among sectors current (current + 1) (count - (current + 1))) → older ≡ last_placed k sectors id
  older-decides sectors current id count o older long is found none at =
      newest.older-decides (λ p. eqb (k.id p) id) (counted_in k sectors current) count current o older found none at ∙ whole_round sectors current id count long is

  -- what an entry says of its id

  abbrev value_found : List (List ℕ) → Option Placed → Option (List ℕ)
  value_found sectors o = option_and_then (λ p. value_of (bytes_of k sectors p)) o

  decides : (sectors : List (List ℕ)) (p : Placed) (here : Bool) (o : Option Placed) → cond here (value_of (bytes_of k sectors p)) (value_found sectors o) ≡ value_found sectors (cond here (Some p) o)
  decides sectors p true o = refl
  decides sectors p false o = refl

  from_pairs : (sectors : List (List ℕ)) (id : ℕ) (ps : List Placed) (o : Option Placed)
      → fold (λ found pair. cond (eqb pair.0 id) (value_of pair.1) found) (value_found sectors o) (map (pair_of k sectors) ps) ≡ value_found sectors (fold (λ last p. cond (eqb (k.id p) id) (Some p) last) o ps)
  from_pairs sectors id [] o = refl
  from_pairs sectors id (p ∷ ps) o =
      ap (λ (found : Option (List ℕ)). fold (λ found pair. cond (eqb pair.0 id) (value_of pair.1) found) found (map (pair_of k sectors) ps)) (decides sectors p (eqb (k.id p) id) o)
      ∙ from_pairs sectors id ps (cond (eqb (k.id p) id) (Some p) o)

-- The list of pairs is that of the entries.
module _ {Entry Placed : Type 0} (k : Entries Entry Placed) (are : AreEntries k) where
  with_places : (sectors : List (List ℕ)) (place : ℕ) (es : List Entry) → map (λ e. (k.id (k.placed_at place e), k.bytes (sector_at sectors place) (k.placed_at place e))) es ≡ map (pair_of k sectors) (map (k.placed_at place) es)
  with_places sectors place [] = refl
  with_places sectors place (e ∷ es) =
      ap (λ (at : ℕ). (k.id (k.placed_at place e), k.bytes (sector_at sectors at) (k.placed_at place e)) ∷ map (λ e. (k.id (k.placed_at place e), k.bytes (sector_at sectors place) (k.placed_at place e))) es) (sym (are.sector place e))
      ∙ ap (λ ps. pair_of k sectors (k.placed_at place e) ∷ ps) (with_places sectors place es)

  -- the pairs of one sector
  pub in_place : (sectors : List (List ℕ)) (place : ℕ) → k.reading.pairs (sector_at sectors place) ≡ map (pair_of k sectors) (map (k.placed_at place) (k.entries (sector_at sectors place)))
  in_place sectors place = are.pairs (sector_at sectors place) place ∙ with_places sectors place (k.entries (sector_at sectors place))

  abbrev pairs_in : List (List ℕ) → ℕ → List (ℕ × List ℕ)
  pairs_in sectors place = k.reading.pairs (sector_at sectors place)

  pub pairs_found : (sectors : List (List ℕ)) (current : ℕ) (places : List ℕ)
      → flat_map (λ place. k.reading.pairs (sector_at sectors place)) (filter (counts_at k.reading sectors current) places) ≡ map (pair_of k sectors) (flat_map (counted_in k sectors current) places)
  pairs_found sectors current [] = refl
  pairs_found sectors current (place ∷ rest) =
      let tail = pairs_found sectors current rest in
      let head : flat_map (counted_in k sectors current) (place ∷ rest) ≡ counted_in k sectors current place ++ flat_map (counted_in k sectors current) rest = flat_map-cons (counted_in k sectors current) place rest in
      let kept = filter (counts_at k.reading sectors current) rest in
      let entries = map (k.placed_at place) (k.entries (sector_at sectors place)) in
      elim (cases_Bool (counts_at k.reading sectors current place)) [
        | inl here ↦
            ap (λ (t : Bool). flat_map (pairs_in sectors) (cond t (place ∷ kept) kept)) here
            ∙ flat_map-cons (pairs_in sectors) place kept
            ∙ ap (λ ps. ps ++ flat_map (pairs_in sectors) kept) (in_place sectors place)
            ∙ ap (λ ps. map (pair_of k sectors) entries ++ ps) tail
            ∙ sym (map-append (pair_of k sectors) entries (flat_map (counted_in k sectors current) rest))
            ∙ sym (ap (map (pair_of k sectors)) head ∙ ap (λ (t : Bool). map (pair_of k sectors) (cond t entries [] ++ flat_map (counted_in k sectors current) rest)) here)
        | inr passed ↦
            ap (λ (t : Bool). flat_map (pairs_in sectors) (cond t (place ∷ kept) kept)) passed
            ∙ tail
            ∙ sym (ap (map (pair_of k sectors)) head ∙ ap (λ (t : Bool). map (pair_of k sectors) (cond t entries [] ++ flat_map (counted_in k sectors current) rest)) passed)
      ]

  pub list-found : (sectors : List (List ℕ)) → list_of k sectors ≡ map (pair_of k sectors) (all_placed k sectors)
  unfolding area_pairs
  list-found sectors = pairs_found sectors (open_sector k.reading sectors) (round (length sectors) (open_sector k.reading sectors))

  pub found-value : (sectors : List (List ℕ)) (id : ℕ) → last (list_of k sectors) id ≡ option_and_then (λ p. value_of (bytes_of k sectors p)) (last_placed k sectors id)
  unfolding last
  found-value sectors id = ap (λ ps. fold (λ found pair. cond (eqb pair.0 id) (value_of pair.1) found) None ps) (list-found sectors) ∙ from_pairs k sectors id (all_placed k sectors) None

-- The last entry of an id in the list, and what it says of the list: the laws on live items and on the newest of a
-- round, for NVS.
use Rattle.std.proofs.Common.{◌≡◌, ℕ, ◌+◌, ◌-◌, ◌≤◌, Bool, true, false, cond, List, [], length, map, Option, None, sym, ap, ◌∙◌, arith}
use Rattle.std.specs.Prelude.{is_some}
use Rattle.std.specs.List.{flat_map, range_with_len}
use Rattle.std.specs.Option.{option_and_then, option_map}
use Rattle.std.proofs.Math.Nat.{div-le_self}
use Rattle.flash_map.specs.Area.{sector_at}
use Rattle.item_laws.specs.Items.{last, value_of}
use Rattle.item_laws.proofs.SlotCounts.{used_count_fits}
use Rattle.item_laws.specs.Area.{round, counts_at, open_sector}
use Rattle.item_laws.proofs.Newest as newest
use Rattle.item_laws.specs.Walk as walk
use Rattle.item_laws.proofs.LastLemmas as live
use Rattle.item_laws.proofs.SlotEntries.{read-within}
use Rattle.item_laws.proofs.WalkLemmas as walks
use Rattle.nvs_store.specs.declared.scan.SlotEntry.{SlotEntry}
use Rattle.nvs_store.specs.declared.scan.Found.{Found}
use Rattle.nvs_store.specs.Geometry.{slot_size}
use Rattle.nvs_store.specs.Sector.{counting_entry, entries_within, is_used, is_wanted, last_found, used_slots}
use Rattle.nvs_store.specs.Scans.{reading, placed_at, placed_bytes, counted_in, counted_within, all_placed, last_wanted, last_placed, list_of, nvs}
use Rattle.nvs_store.proofs.NvsEntries.{are_nvs}

-- the last one of a sector that counts, or none
pub counted-last : (unit : ℕ) (sectors : List (List ℕ)) (current place n : ℕ) (wanted : Option ℕ) → counts_at (reading unit) sectors current place ≡ true → option_map (placed_at place) (last_found wanted (entries_within unit (sector_at sectors place) n)) ≡ last_wanted wanted (counted_within unit sectors current place n)
counted-last unit sectors current place n wanted counts =
    let here : List SlotEntry = walk.entries_within (nvs unit) (sector_at sectors place) n in
    ap (λ (es : List SlotEntry). option_map (placed_at place) (last_found wanted es)) (read-within (counting_entry unit) is_used 1 (slot_size unit) (sector_at sectors place) n)
    ∙ sym (ap (λ (t : Bool). last_wanted wanted (cond t (map (placed_at place) here) [])) counts ∙ newest.last-map (λ f. is_wanted wanted f.entry) (placed_at place) here)

pub counted-none : (unit : ℕ) (sectors : List (List ℕ)) (current place n : ℕ) (wanted : Option ℕ) → counts_at (reading unit) sectors current place ≡ false → None ≡ last_wanted wanted (counted_within unit sectors current place n)
counted-none unit sectors current place n wanted passed = sym (ap (λ (t : Bool). last_wanted wanted (cond t (map (placed_at place) (walk.entries_within (nvs unit) (sector_at sectors place) n)) [])) passed)

-- there are no more slots than bytes
pub few_slots : (unit : ℕ) (b : List ℕ) → length (used_slots unit b) ≤ length b
few_slots unit b = let fits = used_count_fits is_used 1 (slot_size unit) b in let part = div-le_self (length b) (slot_size unit) in omega arith

-- all slots
pub counted-whole : (unit : ℕ) (sectors : List (List ℕ)) (current place n : ℕ) → length (sector_at sectors place) ≤ n → counted_within unit sectors current place n ≡ counted_in unit sectors current place
counted-whole unit sectors current place n enough =
    let few = few_slots unit (sector_at sectors place) in
    walks.counted-whole (nvs unit) (are_nvs unit) sectors current place n (omega arith)

abbrev pub among : ℕ → List (List ℕ) → ℕ → ℕ → ℕ → List Found
among unit sectors current first n = flat_map (counted_in unit sectors current) (range_with_len first n)

-- the round to the open sector is the list
whole_round : (unit : ℕ) (sectors : List (List ℕ)) (current : ℕ) (wanted : Option ℕ) (count : ℕ) → count ≡ length sectors → open_sector (reading unit) sectors ≡ current → last_wanted wanted (flat_map (counted_in unit sectors current) (round count current)) ≡ last_wanted wanted (all_placed unit sectors)
whole_round unit sectors current wanted count long is =
    ap (λ (n : ℕ). last_wanted wanted (flat_map (counted_in unit sectors current) (round n current))) long
    ∙ sym (ap (λ (place : ℕ). last_wanted wanted (flat_map (counted_in unit sectors place) (round (length sectors) place))) is)

-- the newest sectors first, and then the older ones
pub newest-decides : (unit : ℕ) (sectors : List (List ℕ)) (current : ℕ) (wanted : Option ℕ) (count : ℕ) (o : Option Found) → count ≡ length sectors → open_sector (reading unit) sectors ≡ current → o ≡ last_wanted wanted (among unit sectors current 0 (current + 1 - 0)) → is_some o ≡ true → o ≡ last_wanted wanted (all_placed unit sectors)
newest-decides unit sectors current wanted count o long is found some =
    newest.newest-decides (λ f. is_wanted wanted f.entry) (counted_in unit sectors current) count current o found some ∙ whole_round unit sectors current wanted count long is

pub older-decides : (unit : ℕ) (sectors : List (List ℕ)) (current : ℕ) (wanted : Option ℕ) (count : ℕ) (o older : Option Found) → count ≡ length sectors → open_sector (reading unit) sectors ≡ current → o ≡ last_wanted wanted (among unit sectors current 0 (current + 1 - 0)) → is_some o ≡ false
    → older ≡ last_wanted wanted (among unit sectors current (current + 1) (count - (current + 1))) → older ≡ last_wanted wanted (all_placed unit sectors)
older-decides unit sectors current wanted count o older long is found none at =
    newest.older-decides (λ f. is_wanted wanted f.entry) (counted_in unit sectors current) count current o older found none at ∙ whole_round unit sectors current wanted count long is

-- its bytes decide for the id
pub found-value : (unit : ℕ) (sectors : List (List ℕ)) (id : ℕ) → last (list_of unit sectors) id ≡ option_and_then (λ f. value_of (placed_bytes sectors f)) (last_placed unit sectors id)
found-value unit sectors id = live.found-value (nvs unit) (are_nvs unit) sectors id

-- From an entry of the list to the one before it: the laws on walks, for NVS.
use Rattle.std.proofs.Common.{◌≡◌, ℕ, ◌-◌, ◌<◌, ◌≤◌, List, length, Option, Some, None, sym, ap, ◌∙◌, arith}
use Rattle.std.specs.List.{last_or, All}
use Rattle.flash_map.specs.Area.{sector_at}
use Rattle.item_laws.specs.Area.{open_sector}
use Rattle.item_laws.proofs.Newest.{last-each}
use Rattle.item_laws.proofs.WalkLemmas as walks
use Rattle.nvs_store.specs.declared.scan.Found.{Found}
use Rattle.nvs_store.specs.Scans.{reading, placed_up_to, all_placed, last_wanted, IsNextOlder, nvs}
use Rattle.nvs_store.proofs.LastLemmas.{few_slots}
use Rattle.nvs_store.proofs.NvsEntries.{are_nvs}

-- a part of the list has what the list has
pub part_all : (unit : ℕ) (sectors : List (List ℕ)) (current place n : ℕ) → open_sector (reading unit) sectors ≡ current → current < length sectors → place < length sectors → (P : Found → Type 0) → All P (all_placed unit sectors) → All P (placed_up_to unit sectors current place n)
part_all unit sectors current place n is low high P all = walks.part_all (nvs unit) (are_nvs unit) sectors current place n is low high P all

pub walked-newest : (unit : ℕ) (sectors : List (List ℕ)) (current n : ℕ) (o : Option Found) → open_sector (reading unit) sectors ≡ current → current < length sectors → length (sector_at sectors current) ≤ n → o ≡ last_wanted None (placed_up_to unit sectors current current n) → IsNextOlder (all_placed unit sectors) None o
walked-newest unit sectors current n o is low enough found =
    let few = few_slots unit (sector_at sectors current) in
    found ∙ ap (last_wanted None) (walks.whole-list (nvs unit) (are_nvs unit) sectors current n is low (omega arith)) ∙ last-each (all_placed unit sectors) None

pub walked-older : (unit : ℕ) (sectors : List (List ℕ)) (current sector slot n : ℕ) (o : Option Found) → open_sector (reading unit) sectors ≡ current → current < length sectors → sector < length sectors → n ≡ slot - 1 → o ≡ last_wanted None (placed_up_to unit sectors current sector n)
    → IsNextOlder (all_placed unit sectors) (Some (sector, slot)) o
walked-older unit sectors current sector slot n o is low high slots found = λ older newer f split at.
    let in_sector : f.sector ≡ sector = sym (ap (λ (p : ℕ × ℕ). p.0) at) in
    let in_slot : f.slot ≡ slot = sym (ap (λ (p : ℕ × ℕ). p.1) at) in
    found ∙ last-each (placed_up_to unit sectors current sector n) None
    ∙ ap (last_or None) (sym (walks.before-is (nvs unit) (are_nvs unit) sectors current sector n is low high slot slots older newer f split in_sector in_slot))

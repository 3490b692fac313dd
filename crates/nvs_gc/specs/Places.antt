-- An entry at its place, as its slot has it.
use Rattle.std.specs.Prelude.{◌≡◌, ℕ, ◌+◌, ◌<◌, ◌≤◌, true, List, length, Some}
use Rattle.flash_map.specs.Area.{sector_at}
use Rattle.item_laws.specs.Area.{counts_at}
use Rattle.nvs_store.specs.declared.scan.Found.{Found}
use Rattle.nvs_store.specs.Sector.{slot_at, used_slots, counting_entry}
use Rattle.nvs_store.specs.Scans.{reading}

-- an entry that is read from this slot of the sector, with its offset and its part
pub record IsListed (unit : ℕ) (sector : List ℕ) (p : Found) : Type 0 where
  pub from : 1 ≤ p.slot
  pub listed : p.slot < length (used_slots unit sector) + 1
  pub entry : counting_entry unit (slot_at unit sector p.slot)
      ≡ Some (record { slot = p.slot; entry = p.entry })

-- an entry of a sector that counts with this one open
pub record IsPlaced (unit : ℕ) (sectors : List (List ℕ)) (current : ℕ) (p : Found) : Type 0 where
  pub within : p.sector < length sectors
  pub counts : counts_at (reading unit) sectors current p.sector ≡ true
  pub listed : IsListed unit (sector_at sectors p.sector) p

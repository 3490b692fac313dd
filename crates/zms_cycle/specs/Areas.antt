-- Sectors of a ZMS area on a flash.
use Rattle.std.specs.Prelude.{◌≡◌, ℕ, ◌+◌, ◌*◌, ◌<◌, ◌≤◌, true, slice_range}
use Rattle.flash_sim.specs.Device.{Device}
use Rattle.flash_sim.specs.declared.flash.Kind.{Kind}
use Rattle.flash_sim.specs.declared.flash.Kind.TheVariants.{Erasing}
use Rattle.flash_map.specs.declared.area.Area.{Area}
use Rattle.flash_map.specs.declared.area.Role.TheVariants.{Zms}
use Rattle.flash_map.specs.Area.{geometry_of, sector_size, sector_bytes}
use Rattle.flash_map.specs.Lawful.{IsLawfulFor}
use Rattle.flash_map.specs.Units.{is_erased}
use Rattle.zms_cycle.specs.Sector.{slot_of}

-- a sector of an area on which ZMS works
pub record IsZmsSector (d : Device) (area : Area) (sector : ℕ) : Type 0 where
  pub lawful : IsLawfulFor d.banks area
  pub role : area.role ≡ Zms
  pub has_sector : sector < area.sectors

-- the kind of the bank of an area
abbrev pub kind_on : Device → Area → Kind
kind_on d area = (geometry_of d area).kind

-- the slot stands in a sector
abbrev pub HasSlot : Device → Area → ℕ → Type 0
HasSlot d area slot = (slot + 1) * 16 ≤ sector_size d area

-- the slot can be programmed: on an erasing bank it is erased
abbrev pub CanPut : Device → Area → ℕ → ℕ → Type 0
CanPut d area sector slot =
    kind_on d area ≡ Erasing → is_erased (slot_of (sector_bytes d area sector) slot).bytes ≡ true

-- and so for these bytes of the sector
abbrev pub CanPutAt : Device → Area → ℕ → ℕ → ℕ → Type 0
CanPutAt d area sector at len =
    kind_on d area ≡ Erasing → is_erased (slice_range (sector_bytes d area sector) at (at + len)) ≡ true

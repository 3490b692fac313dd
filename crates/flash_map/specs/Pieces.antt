-- Bytes that are programmed in several calls.
use Rattle.std.specs.Prelude.{◌≡◌, ℕ, ◌+◌, ◌%◌, ◌≤◌, ◌<◌, true, Some, List, length, replicate, slice_range}
use Rattle.flash_sim.specs.Device.{Device, bank_of}
use Rattle.flash_sim.specs.declared.flash.Kind.TheVariants.{Erasing}
use Rattle.flash_sim.specs.declared.flash.Loss.{Loss}
use Rattle.flash_map.specs.declared.area.Area.{Area}
use Rattle.flash_map.specs.Area.{unit_of, sector_size, sector_bytes}

-- whole units of a sector that may be programmed, in several calls if need be
pub record CanProgramAll (d : Device) (area : Area) (sector offset : ℕ) (bytes : List ℕ) : Type 0 where
  pub has_sector : sector < area.sectors
  pub whole_units : length bytes % unit_of d area ≡ 0
  pub aligned : offset % unit_of d area ≡ 0
  pub in_sector : offset + length bytes ≤ sector_size d area
  pub erased : (bank_of d area.bank).kind ≡ Erasing
      → slice_range (sector_bytes d area sector) offset (offset + length bytes) ≡ replicate (length bytes) 255

-- if power was on, it was lost in a call that was to put at most so many bytes
abbrev pub LosesWithin : ℕ → Device → Device → Type 0
LosesWithin most old new =
    old.is_on ≡ true → (loss : Loss) × (new.last_loss ≡ Some loss) × (length loss.want.items ≤ most)

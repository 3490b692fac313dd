-- How a mount of a mirror changes the records of its selector.
use Rattle.std.specs.Prelude.{◌≡◌, ◌≢◌, ℕ, Bool, false, List}
use Rattle.flash_sim.specs.Device.{Device}
use Rattle.flash_map.specs.declared.area.Area.{Area}
use Rattle.flash_map.specs.Area.{sectors_of}
use Rattle.fcb_ring.specs.declared.ring.Ring.{Ring}
use Rattle.fcb_ring.specs.Standing.{KeepsEntries}
use Rattle.migrator.specs.Active.{active_on}
use Rattle.migrator.specs.Choosing.{Chooses, IsOpen}
use Rattle.mirror.specs.Trusted.{trusted_on}

-- The selector got exactly one record more, which names the area: its mount kept the records, then the
-- area was chosen, and after that no byte of the selector changed.
pub record NamesOnce (areas : List Area) (old new : Device) (selector : Area) (index : ℕ) : Type 0 where
  pub mounted : Device
  pub named : Device
  pub ring : Ring
  pub mounted_banks : mounted.banks ≡ old.banks
  pub named_banks : named.banks ≡ old.banks
  pub here : ring.area ≡ selector
  pub kept : KeepsEntries old mounted selector
  pub open_ring : IsOpen mounted ring
  pub chosen : Chooses areas mounted named ring index
  pub still : sectors_of new selector ≡ sectors_of named selector

-- What a mount does to the records of a selector that is not damaged. If it names the trusted area, they
-- stay, however the mount ends. If it names another one, it gets one more, unless power is lost.
pub record SparesRecords (areas : List Area) (lost : Bool) (old new : Device) (selector : Area) : Type 0 where
  pub stay : active_on areas old ≡ trusted_on areas old → KeepsEntries old new selector
  pub more : lost ≡ false → active_on areas old ≢ trusted_on areas old
      → NamesOnce areas old new selector (trusted_on areas old)

-- How closing and collecting ends.
use Rattle.std.specs.Prelude.{◌≡◌, ◌⊎◌, ℕ, true, false, Result, Ok, Err}
use Rattle.flash_sim.specs.Device.{Device}
use Rattle.flash_sim.specs.declared.flash.PowerLost.{PowerLost}
use Rattle.flash_map.specs.declared.area.Area.{Area}
use Rattle.flash_map.specs.Area.{sector_size, sectors_of}
use Rattle.item_store.specs.Collecting.{KeepsOrDoesPass, DoesPassAt, RoundMarksFirst}
use Rattle.item_store.specs.SectorFormat.{SectorFormat, is_clean_at}
use Rattle.item_store.specs.Spending.{round_units}
use Rattle.item_store.specs.Standing.{SpendsIn, SpendsUpTo}

-- The open sector was clean, and nothing changed.
pub record FindsClean (k : SectorFormat) (old new : Device) (area : Area) (place : ℕ) : Type 0 where
  pub clean : is_clean_at k (sectors_of old area) place ≡ true
  pub same : new ≡ old

-- The open sector was not clean, and a whole round was made: the room that it leaves, and the units
-- that it spends.
pub record DoesPass (k : SectorFormat) (old new : Device) (area : Area) (place : ℕ) : Type 0 where
  pub used : is_clean_at k (sectors_of old area) place ≡ false
  pub does_pass : DoesPassAt k (sector_size old area) (sectors_of old area) (sectors_of new area) place
  pub units : SpendsIn old new (round_units k (sectors_of old area) place)

-- The open sector was not clean, and power was lost in the round: the list is as before, or as the
-- whole round leaves it, and no more units are spent than a round that is cut spends at most. Where
-- a byte of the victim is gone, gc-done stands.
pub record StopsPass (k : SectorFormat) (old new : Device) (area : Area) (place : ℕ) : Type 0 where
  pub used : is_clean_at k (sectors_of old area) place ≡ false
  pub list : KeepsOrDoesPass k (sectors_of old area) (sectors_of new area) place
  pub bound : SpendsUpTo old new (round_units k (sectors_of old area) place)
  pub marks : RoundMarksFirst k (sectors_of old area) (sectors_of new area) place

-- a round from this open sector, which is not clean
abbrev pub PassEnds : {T : Type 0} → SectorFormat → Device → Device → Area → ℕ → Result T PowerLost → Type 0
PassEnds k old new area place (Ok _) = DoesPass k old new area place
PassEnds k old new area place (Err _) = StopsPass k old new area place

-- Closing and collecting, with this sector open. Only a round can lose power.
abbrev pub RoundEnds : {T : Type 0} → SectorFormat → Device → Device → Area → ℕ → Result T PowerLost → Type 0
RoundEnds k old new area place (Ok _) = FindsClean k old new area place ⊎ DoesPass k old new area place
RoundEnds k old new area place (Err _) = StopsPass k old new area place

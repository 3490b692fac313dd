-- What a sector's state says, and what a step in a used sector has to know of it.
use Rattle.std.specs.Prelude.{◌≡◌, ℕ, ◌-◌, ◌^◌, min, List, length, Some}
use Rattle.std.specs.Option.{option_map_or}
use Rattle.flash_sim.specs.declared.flash.Kind.{Kind}
use Rattle.flash_sim.specs.Device.{Device}
use Rattle.flash_map.specs.declared.area.Area.{Area}
use Rattle.flash_map.specs.Area.{sector_bytes}
use Rattle.zms_cycle.specs.declared.reading.Opened.{Opened}
use Rattle.zms_cycle.specs.declared.reading.SectorState.{SectorState}
use Rattle.zms_cycle.specs.declared.reading.SectorState.TheVariants.{Blank, Used}
use Rattle.zms_cycle.specs.Areas.{kind_on}
use Rattle.zms_cycle.specs.Sector.{cycle_of, is_closed, valid_slots, data_end, has_gc_done}

-- a data end beyond 32 bits is given as the last number of 32 bits
abbrev pub state_of : Kind → List ℕ → SectorState
state_of kind sector =
    option_map_or
    (λ cycle. Used cycle (is_closed sector) (length (valid_slots sector))
    (min (data_end kind sector) (2 ^ 32 - 1)) (has_gc_done sector)) (cycle_of sector) Blank

-- this is the cycle of the sector, how many slots its list has, and where its next value goes
pub record IsOpened (kind : Kind) (sector : List ℕ) (opened : Opened) : Type 0 where
  pub cycle : cycle_of sector ≡ Some opened.cycle
  pub slots : opened.slots ≡ length (valid_slots sector)
  pub data_end : opened.data_end ≡ min (data_end kind sector) (2 ^ 32 - 1)

abbrev pub IsOpenedOn : Device → Area → ℕ → Opened → Type 0
IsOpenedOn d area sector opened = IsOpened (kind_on d area) (sector_bytes d area sector) opened

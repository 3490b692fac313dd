-- A range of bytes of an area, and what a copy of it views.
use Rattle.std.specs.Prelude.{◌≡◌, ℕ, ◌+◌, ◌/◌, ◌≤◌, List, slice_range, Result, OnOk, OnErr}
use Rattle.flash_sim.specs.Device.{Device}
use Rattle.flash_map.specs.declared.area.Area.{Area}
use Rattle.flash_map.specs.declared.copies.Source.{Source}
use Rattle.flash_map.specs.Area.{sector_bytes}

-- the bytes of the range
abbrev pub source : Device → Area → Source → List ℕ
source d area from = slice_range (sector_bytes d area from.sector) from.offset (from.offset + from.len)

-- how many pieces of at most 32 bytes a copy of so many bytes has
abbrev pub pieces_of : ℕ → ℕ
pieces_of len = (len + 31) / 32

-- A call that completes takes just so many views. One that is cut takes no more.
pub record TakesViews {X E : Type 0} (views before after : ℕ) (result : Result X E) : Type 0 where
  pub whole : OnOk result (after ≡ before + views)
  pub cut : OnErr result (after ≤ before + views)

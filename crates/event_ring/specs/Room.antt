-- The room of sectors, in bytes, when no sector but the newest has more, and when a log is full.
use Rattle.std.specs.Prelude.{◌≡◌, ℕ, ◌+◌, ◌-◌, ◌*◌, ◌<◌, length, Some}
use Rattle.std.specs.List.{slice_get}
use Rattle.flash_sim.specs.Device.{Device}
use Rattle.flash_map.specs.declared.area.Area.{Area}
use Rattle.flash_map.specs.Area.{value_limit, sector_size}
use Rattle.fcb_ring.specs.Changing.{header_on, cost_on}
use Rattle.fcb_ring.specs.Rings.{counting}
use Rattle.fcb_ring.specs.Standing.{states_on}
use Rattle.event_ring.specs.Items.{items_in, items_on, cost_in}

-- what the header leaves of a sector
abbrev pub room_on : Device → Area → ℕ
room_on d area = sector_size d area - header_on d area

-- what the longest record costs
abbrev pub longest_on : Device → Area → ℕ
longest_on d area = cost_on d area (value_limit area)

-- no sector that counts, but the newest, has room for the longest record
abbrev pub IsFilled : Device → Area → Type 0
IsFilled d area =
    (k place : ℕ) → k + 1 < length (counting (states_on d area))
    → slice_get (counting (states_on d area)) k ≡ Some place
    → room_on d area < cost_in d area (items_in d area place) + longest_on d area

-- the items cost more than all sectors but one have room for, less the longest record in each
abbrev pub IsFull : Device → Area → Type 0
IsFull d area =
    (area.sectors - 1) * (room_on d area - longest_on d area) < cost_in d area (items_on d area)

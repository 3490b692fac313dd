-- What an area holds as a log: records that check, each with its body, and torn ones, each with its
-- cost.
use Rattle.std.specs.Prelude.{ℕ, ◌+◌, List, length, map, sum_by, slice_range, Option, Some, None, if◌then◌else◌}
use Rattle.std.specs.List.{filter_map, flat_map}
use Rattle.flash_sim.specs.Device.{Device}
use Rattle.flash_map.specs.declared.area.Area.{Area}
use Rattle.flash_map.specs.Area.{unit_of, sectors_of, sector_at, sector_bytes}
use Rattle.fcb_ring.specs.declared.record.Record.{Record}
use Rattle.fcb_ring.specs.Entries.{states}
use Rattle.fcb_ring.specs.Records.{records}
use Rattle.fcb_ring.specs.Rings.{counting}
use Rattle.fcb_ring.specs.Writing.{record_cost}

pub data Item : Type 0 where
  -- a record that checks, with this body
  Whole : List ℕ → Item
  -- a record that does not check, which takes up so many bytes
  Torn : ℕ → Item

-- what a record of a sector is
abbrev pub item_of : ℕ → List ℕ → Record → Item
item_of unit sector r =
    if r.checks then Whole (slice_range sector r.body (r.body + r.len)) else Torn (record_cost unit r.len)

-- all records of a sector, in order
unfoldable pub sector_items : ℕ → List ℕ → List Item
sector_items unit sector = map (item_of unit sector) (records unit sector)

-- and of the sectors that count, the oldest first
unfoldable pub items : ℕ → List (List ℕ) → List Item
items unit sectors =
    flat_map (λ place. sector_items unit (sector_at sectors place)) (counting (states unit sectors))

-- the bytes that an item takes up
abbrev pub item_cost : ℕ → Item → ℕ
item_cost unit (Whole body) = record_cost unit (length body)
item_cost unit (Torn cost) = cost

abbrev pub items_cost : ℕ → List Item → ℕ
items_cost unit list = sum_by (item_cost unit) list

abbrev pub body_of : Item → Option (List ℕ)
body_of (Whole body) = Some body
body_of (Torn cost) = None

-- the log: the bodies of those that check
abbrev pub log_of : List Item → List (List ℕ)
log_of list = filter_map body_of list

-- ---- on a device

abbrev pub items_on : Device → Area → List Item
items_on d area = items (unit_of d area) (sectors_of d area)

-- those of one sector
abbrev pub items_in : Device → Area → ℕ → List Item
items_in d area place = sector_items (unit_of d area) (sector_bytes d area place)

abbrev pub log_on : Device → Area → List (List ℕ)
log_on d area = log_of (items_on d area)

-- what items cost in an area
abbrev pub cost_in : Device → Area → List Item → ℕ
cost_in d area list = items_cost (unit_of d area) list

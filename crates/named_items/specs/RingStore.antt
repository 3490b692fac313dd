-- How an area holds items for a store over sectors of any format, by its geometry and its sectors
-- alone. The geometry gives the format.
use Rattle.std.specs.Prelude.{◌≡◌, ℕ, ◌+◌, ◌*◌, ◌≤◌, Bool, true, false, List, None}
use Rattle.std.proofs.Common.{subst}
use Rattle.flash_map.specs.declared.area.Area.{Area}
use Rattle.flash_map.specs.declared.area.Geometry.{Geometry}
use Rattle.flash_map.specs.declared.area.Role.{Role}
use Rattle.flash_map.specs.Area.{sector_at}
use Rattle.item_laws.specs.Area.{next, is_closed_at, open_sector}
use Rattle.item_laws.specs.Live.{all_placed}
use Rattle.item_store.specs.declared.latest.LastSlots.{LastSlots}
use Rattle.item_store.specs.declared.store.Store.{Store}
use Rattle.item_store.specs.Cached.{IsCacheOf}
use Rattle.item_store.specs.SectorFormat.{SectorFormat, slots}
use Rattle.item_store.specs.Latest.{Knows}
use Rattle.item_store.specs.Room.{has_room}

-- no power loss left anything undone
abbrev pub ring_rests : (Geometry → SectorFormat) → Area → Geometry → List (List ℕ) → Type 0
ring_rests format_of area geometry sectors =
    let reading = (format_of geometry).reading in
    is_closed_at reading sectors (next sectors (open_sector reading sectors)) ≡ false

-- The store is up: the area is undamaged and at rest, and the store knows its open sector and where
-- the latest entries stand.
pub record RingStands {T : Type 0} (own : Role) (format_of : Geometry → SectorFormat)
    (kept : Geometry → List ℕ → T)
    (store : Store T)
    (geometry : Geometry) (sectors : List (List ℕ)) : Type 0 where
  pub role : store.area.role ≡ own
  pub up : store.up ≡ true
  pub current : store.current ≡ open_sector (format_of geometry).reading sectors
  pub opened : store.opened ≡ kept geometry (sector_at sectors store.current)
  pub rested : is_closed_at (format_of geometry).reading sectors (next sectors store.current) ≡ false
  pub undamaged : (format_of geometry).damage sectors ≡ None
  pub cached : IsCacheOf store.cache (all_placed (slots (format_of geometry)) sectors)

-- a mount of such an area would have nothing to do
pub ring-rested : {T : Type 0} (role : Role) (format_of : Geometry → SectorFormat)
    (kept : Geometry → List ℕ → T)
    (store : Store T)
    (geometry : Geometry) (sectors : List (List ℕ))
    → RingStands role format_of kept store geometry sectors → ring_rests format_of store.area geometry sectors
ring-rested role format_of kept store geometry sectors stands =
    let reading = (format_of geometry).reading in
    subst (λ (place : ℕ). is_closed_at reading sectors (next sectors place) ≡ false) stands.current
    stands.rested

-- the index is a table of the last entries of ids
abbrev pub ring_describes : (Geometry → SectorFormat) → LastSlots → Geometry → List (List ℕ) → Type 0
ring_describes format_of last geometry sectors =
    let k = format_of geometry in
    Knows k.ids last (all_placed (slots k) sectors)

-- The most units and erases of the steps in a sector of this size, which has `units` units: a
-- round, an entry that fits, a mount.
pub record IsFrugal (k : SectorFormat) (size units : ℕ) : Type 0 where
  pub round : k.units.round size ≤ 3 * (units + 3)
  pub entry : (len : ℕ) → k.cost len ≤ k.cap size → k.units.entry len ≤ 3 * (units + 3)
  pub mount : k.units.mount size ≤ 3 * (units + 3)
  -- a delete is short
  pub delete : k.cost 0 ≤ k.cap size

-- the most units and erases of one delete in sectors of this size
abbrev pub ring_removal : SectorFormat → ℕ → ℕ
ring_removal k size = k.units.round size + k.units.entry 0

-- whether a delete needs no garbage collection
abbrev pub ring_roomy : (Geometry → SectorFormat) → Area → Geometry → List (List ℕ) → Bool
ring_roomy format_of area geometry sectors = has_room (format_of geometry) sectors 0

-- How a ZMS area holds items, by its geometry and its sectors alone.
use Rattle.std.specs.Prelude.{◌≡◌, ℕ, ◌+◌, ◌-◌, ◌/◌, ◌≤◌, Bool, List, Option}
use Rattle.std.proofs.Common.{arith}
use Rattle.std.proofs.lemmas.Bool.Decides.{nat_tests}
use Rattle.flash_sim.specs.Device.{Device}
use Rattle.flash_map.specs.Area.{geometry_of, value_limit}
use Rattle.flash_map.specs.Lawful.{IsLawfulFor}
use Rattle.flash_map.specs.Units.{padded}
use Rattle.flash_map.specs.declared.area.Area.{Area}
use Rattle.flash_map.specs.declared.area.Geometry.{Geometry}
use Rattle.flash_map.specs.declared.area.Role.TheVariants.{Zms as ZmsRole}
use Rattle.flash_map.specs.declared.faults.Damaged.{Damaged}
use Rattle.item_laws.specs.Items.{Items, items_of}
use Rattle.item_store.specs.declared.latest.LastSlots.{LastSlots}
use Rattle.zms_cycle.specs.Sector.{cost, capacity, data_len}
use Rattle.zms_format.specs.Area.{damage_of, list_of}
use Rattle.flash_sim.specs.declared.flash.Kind.{Kind as BankKind}
use Rattle.flash_sim.specs.declared.flash.Kind.TheVariants.{Erasing, Rewritable}
use Rattle.zms_format.specs.Formats.{format_of, units_of}
use Rattle.zms_store.specs.declared.store.Zms.{Zms}
use Rattle.zms_store.specs.Spending.{most_delete}
use Rattle.zms_store.specs.Standing.{kept}
use Rattle.named_items.specs.Limits.{value-leaves_room}
use Rattle.named_items.specs.RingStore.{ring_rests, ring_roomy, RingStands, ring-rested, ring_describes}

abbrev pub zms_damage : Area → Geometry → List (List ℕ) → Option Damaged
zms_damage area geometry sectors = damage_of geometry.kind sectors

abbrev pub zms_items : Area → Geometry → List (List ℕ) → Items
zms_items area geometry sectors = items_of (list_of geometry.kind sectors)

-- no power loss left anything undone
abbrev pub zms_rests : Area → Geometry → List (List ℕ) → Type 0
zms_rests area geometry sectors = ring_rests format_of area geometry sectors

abbrev pub zms_price : Geometry → ℕ → ℕ
zms_price geometry = cost

abbrev pub zms_cap : Geometry → ℕ
zms_cap geometry = capacity geometry.sector

-- the most units and erases of a mount, and of one delete
abbrev pub zms_redo : Geometry → ℕ
zms_redo geometry = (format_of geometry).units.mount geometry.sector

abbrev pub zms_removal : Geometry → ℕ
zms_removal geometry = most_delete geometry.kind (geometry.sector / 16)

-- the most that ends a garbage collection whose copies are all made
abbrev pub zms_clear : Geometry → ℕ
zms_clear geometry = (format_of geometry).units.any_clear.lost

-- the most of a delete that needs no collection, and whether one needs none
abbrev pub zms_entry : Geometry → ℕ
zms_entry geometry = (format_of geometry).units.entry 0

abbrev pub zms_roomy : Area → Geometry → List (List ℕ) → Bool
zms_roomy area geometry sectors = ring_roomy format_of area geometry sectors

-- A mount that begins a collection again leaves room for a delete: both spend no more than the end of a
-- collection and one whole removal.
pub zms-lean : (geometry : Geometry)
    → zms_redo geometry + zms_entry geometry ≤ zms_clear geometry + zms_removal geometry
unfolding data_len
zms-lean geometry = by geometry.kind
  where
    by : (bank : BankKind) → (units_of bank).mount geometry.sector + (units_of bank).entry 0
        ≤ (units_of bank).any_clear.lost + most_delete bank (geometry.sector / 16)
    by Rewritable = omega arith
    by Erasing = omega arith

-- The store is up: the area is undamaged and at rest, and the store knows its open sector.
abbrev pub ZmsStands : Zms → Geometry → List (List ℕ) → Type 0
ZmsStands zms geometry sectors = RingStands ZmsRole format_of kept zms.store geometry sectors

-- the index is a table of the last entries of ids
abbrev pub zms_describes : LastSlots → Geometry → List (List ℕ) → Type 0
zms_describes last geometry sectors = ring_describes format_of last geometry sectors

-- a mount of such an area would have nothing to do
pub zms-rested : (zms : Zms) (geometry : Geometry) (sectors : List (List ℕ)) → ZmsStands zms geometry sectors
    → zms_rests zms.store.area geometry sectors
zms-rested zms geometry sectors stands = ring-rested ZmsRole format_of kept zms.store geometry sectors stands

value-fits : (sector length : ℕ) → length + 256 ≤ sector → 16 + data_len length ≤ sector - 80
unfolding data_len padded
value-fits sector length short = grind (arith, nat_tests)

-- a value as long as the area allows fits a sector
pub zms-fits : (d : Device) (area : Area) (length : ℕ) → IsLawfulFor d.banks area
    → area.role ≡ ZmsRole → length ≤ value_limit area
    → zms_price (geometry_of d area) length ≤ zms_cap (geometry_of d area)
zms-fits d area length lawful serves short =
    value-fits (geometry_of d area).sector length (value-leaves_room d area length lawful short)

-- How an NVS area holds items, by its geometry and its sectors alone.
use Rattle.std.specs.Prelude.{◌≡◌, ℕ, ◌+◌, ◌-◌, ◌*◌, ◌≤◌, Bool, List, Option}
use Rattle.std.proofs.Common.{sym, subst, inl, inr, arith}
use Rattle.flash_sim.specs.Device.{Device}
use Rattle.flash_map.specs.Area.{geometry_of, value_limit}
use Rattle.flash_map.specs.Lawful.{IsLawfulFor, HasUnit}
use Rattle.flash_map.specs.Units.{IsUnit, padded}
use Rattle.flash_map.specs.declared.area.Role.{Role}
use Rattle.flash_map.specs.declared.area.Area.{Area}
use Rattle.flash_map.specs.declared.area.Geometry.{Geometry}
use Rattle.flash_map.specs.declared.area.Role.TheVariants.{Nvs as NvsRole}
use Rattle.flash_map.specs.declared.faults.Damaged.{Damaged}
use Rattle.item_laws.specs.Items.{Items, items_of}
use Rattle.nvs_store.specs.Geometry.{cost, capacity, slot_size}
use Rattle.nvs_store.specs.Scans.{damage_of, list_of}
use Rattle.nvs_format.specs.Formats.{format_of}
use Rattle.item_store.specs.declared.latest.LastSlots.{LastSlots}
use Rattle.nvs_gc.specs.declared.nvs.Nvs.{Nvs}
use Rattle.nvs_gc.specs.Standing.{kept}
use Rattle.named_items.specs.Limits.{value-leaves_room}
use Rattle.named_items.specs.RingStore.{ring_rests, ring_removal, ring_roomy, RingStands, ring_describes, ring-rested}

abbrev pub nvs_damage : Area → Geometry → List (List ℕ) → Option Damaged
nvs_damage area geometry sectors = damage_of geometry.unit sectors

abbrev pub nvs_items : Area → Geometry → List (List ℕ) → Items
nvs_items area geometry sectors = items_of (list_of geometry.unit sectors)

-- no power loss left anything undone
abbrev pub nvs_rests : Area → Geometry → List (List ℕ) → Type 0
nvs_rests area geometry sectors = ring_rests format_of area geometry sectors

abbrev pub nvs_price : Geometry → ℕ → ℕ
nvs_price geometry = cost geometry.unit

abbrev pub nvs_cap : Geometry → ℕ
nvs_cap geometry = capacity geometry.unit geometry.sector

-- the most units and erases of a mount, and of one delete
abbrev pub nvs_redo : Geometry → ℕ
nvs_redo geometry = (format_of geometry).units.mount geometry.sector

abbrev pub nvs_removal : Geometry → ℕ
nvs_removal geometry = ring_removal (format_of geometry) geometry.sector

-- the most that ends a garbage collection whose copies are all made
abbrev pub nvs_clear : Geometry → ℕ
nvs_clear geometry = (format_of geometry).units.any_clear.lost

-- the most of a delete that needs no collection, and whether one needs none
abbrev pub nvs_entry : Geometry → ℕ
nvs_entry geometry = (format_of geometry).units.entry 0

abbrev pub nvs_roomy : Area → Geometry → List (List ℕ) → Bool
nvs_roomy area geometry sectors = ring_roomy format_of area geometry sectors

-- A mount that begins a collection again leaves room for a delete: both spend no more than the end of a
-- collection and one whole removal.
pub nvs-lean : (geometry : Geometry)
    → nvs_redo geometry + nvs_entry geometry ≤ nvs_clear geometry + nvs_removal geometry
nvs-lean geometry = omega arith

-- The store is up: the area is undamaged and at rest, and the store knows its open sector.
abbrev pub NvsStands : Nvs → Geometry → List (List ℕ) → Type 0
NvsStands nvs geometry sectors = RingStands NvsRole format_of kept nvs.store geometry sectors

-- the index is a table of the last entries of ids
abbrev pub nvs_describes : LastSlots → Geometry → List (List ℕ) → Type 0
nvs_describes last geometry sectors = ring_describes format_of last geometry sectors

-- a mount of such an area would have nothing to do
pub nvs-rested : (nvs : Nvs) (geometry : Geometry) (sectors : List (List ℕ))
    → NvsStands nvs geometry sectors → nvs_rests nvs.store.area geometry sectors
nvs-rested nvs geometry sectors stands = ring-rested NvsRole format_of kept nvs.store geometry sectors stands

fits-4 : (sector length : ℕ) → length + 256 ≤ sector
    → slot_size 4 + padded 4 length ≤ sector - 4 * slot_size 4
unfolding padded slot_size
fits-4 sector length short = omega arith

fits-8 : (sector length : ℕ) → length + 256 ≤ sector
    → slot_size 8 + padded 8 length ≤ sector - 4 * slot_size 8
unfolding padded slot_size
fits-8 sector length short = omega arith

fits-16 : (sector length : ℕ) → length + 256 ≤ sector
    → slot_size 16 + padded 16 length ≤ sector - 4 * slot_size 16
unfolding padded slot_size
fits-16 sector length short = omega arith

unit-fits : (unit sector length : ℕ) → IsUnit unit → length + 256 ≤ sector
    → cost unit length ≤ capacity unit sector
unit-fits unit sector length is short =
    elim is [
      | inl four ↦ subst (λ (u : ℕ). cost u length ≤ capacity u sector) (sym four)
          (fits-4 sector length short)
      | inr more ↦ elim more [
        | inl eight ↦ subst (λ (u : ℕ). cost u length ≤ capacity u sector) (sym eight)
            (fits-8 sector length short)
        | inr sixteen ↦ subst (λ (u : ℕ). cost u length ≤ capacity u sector) (sym sixteen)
            (fits-16 sector length short)
      ]
    ]

-- a value as long as the area allows fits a sector
pub nvs-fits : (d : Device) (area : Area) (length : ℕ) → IsLawfulFor d.banks area → area.role ≡ NvsRole
    → length ≤ value_limit area → nvs_price (geometry_of d area) length ≤ nvs_cap (geometry_of d area)
nvs-fits d area length lawful role short =
    unit-fits (geometry_of d area).unit (geometry_of d area).sector length
    (subst (λ (r : Role). HasUnit r (geometry_of d area).unit) role lawful.unit)
    (value-leaves_room d area length lawful short)

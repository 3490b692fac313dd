-- The most units and erases that a command that was cut leaves to the next mount: a number by the
-- store and the geometry. `boot_units` is the member of `Backend`.
use Rattle.std.specs.Prelude.{◌≡◌, ℕ, ◌+◌, ◌*◌, ◌/◌, ◌≤◌}
use Rattle.flash_sim.specs.Device.{Device}
use Rattle.flash_sim.specs.declared.flash.Kind.TheVariants.{Erasing, Rewritable}
use Rattle.flash_map.specs.Area.{geometry_of}
use Rattle.flash_map.specs.Lawful.{IsLawfulFor}
use Rattle.flash_map.specs.Units.{padded}
use Rattle.flash_map.specs.declared.area.Area.{Area}
use Rattle.flash_map.specs.declared.area.Geometry.{Geometry}
use Rattle.flash_map.specs.declared.area.Role.TheVariants.{Nvs, Zms, Fcb}
use Rattle.backend_api.specs.Room.{foreign_units}

-- NVS: the units of a sector, two erases, and the units of a slot, which is eight bytes, padded
abbrev pub NvsBoots : (Area → Geometry → ℕ) → Type 0
NvsBoots boot_units =
    (area : Area) (geometry : Geometry) → area.role ≡ Nvs
    → boot_units area geometry
    ≡ geometry.sector / geometry.unit + 2 + padded geometry.unit 8 / geometry.unit

-- ZMS on an erasing bank: the units of a sector, and six
abbrev pub ErasingZmsBoots : (Area → Geometry → ℕ) → Type 0
ErasingZmsBoots boot_units =
    (area : Area) (geometry : Geometry) → area.role ≡ Zms → geometry.kind ≡ Erasing
    → boot_units area geometry ≡ geometry.sector / 16 + 6

-- ZMS on a rewritable bank: twice the units of a sector, and eight
abbrev pub RewritableZmsBoots : (Area → Geometry → ℕ) → Type 0
RewritableZmsBoots boot_units =
    (area : Area) (geometry : Geometry) → area.role ≡ Zms → geometry.kind ≡ Rewritable
    → boot_units area geometry ≡ 2 * (geometry.sector / 16) + 8

-- FCB: one erase
abbrev pub FcbBoots : (Area → Geometry → ℕ) → Type 0
FcbBoots boot_units = (area : Area) (geometry : Geometry) → area.role ≡ Fcb → boot_units area geometry ≡ 1

-- in a lawful area it is at most what any mount may spend
abbrev pub BootsWithinMounts : (Area → Geometry → ℕ) → Type 0
BootsWithinMounts boot_units = (d : Device) (area : Area) → IsLawfulFor d.banks area
    → boot_units area (geometry_of d area) ≤ foreign_units (geometry_of d area)

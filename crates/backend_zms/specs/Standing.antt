-- When a backend stands on its area.
use Rattle.std.specs.Prelude.{◌≡◌, ◌⊎◌, ℕ, ◌+◌, ◌≤◌, List, None}
use Rattle.std.proofs.Common.{inl, inr}
use Rattle.flash_sim.specs.Bank.{IsLawful}
use Rattle.flash_sim.specs.Device.{Device}
use Rattle.flash_map.specs.declared.area.Area.{Area}
use Rattle.flash_map.specs.declared.area.Geometry.{Geometry}
use Rattle.flash_map.specs.declared.area.Role.TheVariants.{Zms as ZmsRole}
use Rattle.flash_map.specs.Area.{geometry_of, sectors_of, value_limit}
use Rattle.flash_map.specs.Lawful.{IsLawfulFor}
use Rattle.flash_map.specs.On.{on}
use Rattle.backend_api.specs.Map.{Map, IsSettings}
use Rattle.named_items.specs.Pairs.{settings_in, HasNoOrphans}
use Rattle.named_items.proofs.LawfulLemmas.{settings-lawful}
use Rattle.named_items.specs.Orphans.{Owing, boot_of}
use Rattle.named_items.proofs.OrphanUnits.{owing-more}
use Rattle.named_items.specs.ZmsStore.{zms_damage, zms_items, zms_rests, ZmsStands, zms-rested, zms_redo, zms_clear, zms_removal}
use Rattle.backend_zms.specs.declared.backend.ZmsBackend.{ZmsBackend}
use Rattle.backend_zms.specs.IdLayout.{numbering_of, zms-numbering, step-small}

-- a ZMS area
abbrev pub IsServed : Area → Geometry → Type 0
IsServed area geometry = area.role ≡ ZmsRole

-- the settings that its sectors read as
abbrev pub settings_of : Area → Geometry → List (List ℕ) → Map
settings_of area geometry sectors = settings_in (numbering_of area) (zms_items area geometry sectors)

-- no item is an orphan
abbrev pub IsClean : Area → Geometry → List (List ℕ) → Type 0
IsClean area geometry sectors = HasNoOrphans (numbering_of area) (zms_items area geometry sectors)

-- no power loss left anything undone
pub record Rests (area : Area) (geometry : Geometry) (sectors : List (List ℕ)) : Type 0 where
  pub store : zms_rests area geometry sectors
  pub clean : IsClean area geometry sectors

pub record Stands (backend : ZmsBackend) (geometry : Geometry) (sectors : List (List ℕ)) : Type 0 where
  pub store : ZmsStands backend.store geometry sectors
  pub clean : IsClean backend.store.store.area geometry sectors

pub stands-rest : (backend : ZmsBackend) (geometry : Geometry) (sectors : List (List ℕ))
    → Stands backend geometry sectors → Rests backend.store.store.area geometry sectors
stands-rest backend geometry sectors stands =
    record { store = zms-rested backend.store geometry sectors stands.store; clean = stands.clean }

-- The area reads as settings with lawful names and values, fewer than 2^32 of them.
pub reads_settings : (d : Device) (area : Area) → IsLawful d.banks d.bytes → IsLawfulFor d.banks area
    → IsServed area (geometry_of d area) → on zms_damage d area ≡ None
    → IsSettings (value_limit area) (on settings_of d area)
reads_settings d area lawful for serves undamaged =
    settings-lawful (numbering_of area) (zms-numbering (value_limit area)) step-small
    (zms_items area (geometry_of d area) (sectors_of d area))

-- ---- what a mount spends

-- the most of a mount that finds so many orphans
abbrev pub boot_units_of : Geometry → ℕ → ℕ
boot_units_of geometry = boot_of (zms_redo geometry) (zms_clear geometry) (zms_removal geometry)

-- A mount has nothing to do, or completes what a cut command left and deletes so many orphans.
abbrev pub Owes : Area → Geometry → List (List ℕ) → ℕ → Type 0
Owes area geometry sectors most =
    Rests area geometry sectors
    ⊎ Owing (numbering_of area) (zms_items area geometry sectors) (boot_units_of geometry) most

-- The most that a cut command leaves to a mount: the end of a garbage collection, and one orphan.
abbrev pub boot_units : Area → Geometry → ℕ
boot_units area geometry = zms_clear geometry + zms_removal geometry

pub owes-more : (area : Area) (geometry : Geometry) (sectors : List (List ℕ)) (few most : ℕ) → few ≤ most
    → Owes area geometry sectors few → Owes area geometry sectors most
owes-more area geometry sectors few most le owes =
    elim owes [
      | inl rests ↦ inl rests
      | inr owing ↦ inr
          (owing-more (numbering_of area) (zms_items area geometry sectors) (boot_units_of geometry) few most
          le owing)
    ]

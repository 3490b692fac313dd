-- When the backend stands, and what its area reads as.
use Rattle.std.specs.Prelude.{◌≡◌, ◌⊎◌, ℕ, ◌+◌, ◌≤◌, List, None}
use Rattle.std.proofs.Common.{inl, inr, arith}
use Rattle.flash_sim.specs.Bank.{IsLawful}
use Rattle.flash_sim.specs.Device.{Device}
use Rattle.flash_map.specs.Area.{value_limit}
use Rattle.flash_map.specs.On.{on}
use Rattle.flash_map.specs.Lawful.{IsLawfulFor}
use Rattle.flash_map.specs.declared.area.Area.{Area}
use Rattle.flash_map.specs.declared.area.Geometry.{Geometry}
use Rattle.flash_map.specs.declared.area.Role.TheVariants.{Nvs as NvsRole}
use Rattle.backend_api.specs.Map.{IsSettings}
use Rattle.named_items.specs.Pairs.{HasNoOrphans}
use Rattle.named_items.proofs.LawfulLemmas.{settings-lawful}
use Rattle.named_items.specs.Orphans.{Owing, boot_of}
use Rattle.named_items.proofs.OrphanUnits.{owing-more}
use Rattle.named_items.specs.NvsStore.{nvs_damage, nvs_items, nvs_rests, NvsStands, nvs-rested, nvs_redo, nvs_clear, nvs_removal}
use Rattle.backend_nvs.specs.declared.backend.NvsBackend.{NvsBackend}
use Rattle.backend_nvs.specs.IdLayout.{numbering_of, nvs-numbering, settings_of}

-- the store stands, and each item is the count or belongs to a setting
pub record Stands (backend : NvsBackend) (geometry : Geometry) (sectors : List (List ℕ)) : Type 0 where
  pub store : NvsStands backend.store geometry sectors
  pub clean : HasNoOrphans (numbering_of backend.store.store.area)
      (nvs_items backend.store.store.area geometry sectors)

-- a mount would have nothing to do
pub record Rests (area : Area) (geometry : Geometry) (sectors : List (List ℕ)) : Type 0 where
  pub store : nvs_rests area geometry sectors
  pub clean : HasNoOrphans (numbering_of area) (nvs_items area geometry sectors)

pub stands-rest : (backend : NvsBackend) (geometry : Geometry) (sectors : List (List ℕ))
    → Stands backend geometry sectors → Rests backend.store.store.area geometry sectors
stands-rest backend geometry sectors stands =
    record { store = nvs-rested backend.store geometry sectors stands.store; clean = stands.clean }

-- The area reads as settings with lawful names and values, fewer than 2^32 of them.
pub reads_settings : (d : Device) (area : Area) → IsLawful d.banks d.bytes → IsLawfulFor d.banks area
    → area.role ≡ NvsRole → on nvs_damage d area ≡ None
    → IsSettings (value_limit area) (settings_of area (on nvs_items d area))
reads_settings d area lawful for role undamaged =
    settings-lawful (numbering_of area) (nvs-numbering (value_limit area)) (omega arith) (on nvs_items d area)

-- ---- what a mount spends

-- the most of a mount that finds so many orphans
abbrev pub boot_units_of : Geometry → ℕ → ℕ
boot_units_of geometry = boot_of (nvs_redo geometry) (nvs_clear geometry) (nvs_removal geometry)

-- A mount has nothing to do, or completes what a cut command left and deletes so many orphans.
abbrev pub Owes : Area → Geometry → List (List ℕ) → ℕ → Type 0
Owes area geometry sectors most =
    Rests area geometry sectors
    ⊎ Owing (numbering_of area) (nvs_items area geometry sectors) (boot_units_of geometry) most

-- The most that a cut command leaves to a mount: the end of a garbage collection, and one orphan.
abbrev pub boot_units : Area → Geometry → ℕ
boot_units area geometry = nvs_clear geometry + nvs_removal geometry

pub owes-more : (area : Area) (geometry : Geometry) (sectors : List (List ℕ)) (few most : ℕ) → few ≤ most
    → Owes area geometry sectors few → Owes area geometry sectors most
owes-more area geometry sectors few most le owes =
    elim owes [
      | inl rests ↦ inl rests
      | inr owing ↦ inr
          (owing-more (numbering_of area) (nvs_items area geometry sectors) (boot_units_of geometry) few most
          le owing)
    ]

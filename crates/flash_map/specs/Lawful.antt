-- Areas that a store of their role may work on.
use Rattle.std.specs.Prelude.{◌≡◌, ⊤, ℕ, ◌%◌, ◌≤◌, List}
use Rattle.flash_sim.specs.Bank.{bank_at}
use Rattle.flash_sim.specs.declared.flash.Bank.{Bank}
use Rattle.flash_sim.specs.declared.flash.Kind.{Kind}
use Rattle.flash_sim.specs.declared.flash.Kind.TheVariants.{Erasing}
use Rattle.flash_map.specs.declared.area.Area.{Area}
use Rattle.flash_map.specs.declared.area.Role.{Role}
use Rattle.flash_map.specs.declared.area.Role.TheVariants.{Nvs, Zms, Fcb, Sel}
use Rattle.flash_map.specs.Area.{IsLawfulArea}
use Rattle.flash_map.specs.Units.{IsUnit}

-- areas of this role may stand on a bank of this kind
abbrev pub HasKind : Role → Kind → Type 0
HasKind Nvs kind = kind ≡ Erasing
HasKind Zms kind = ⊤
HasKind Fcb kind = kind ≡ Erasing
HasKind Sel kind = kind ≡ Erasing

-- areas of this role may stand on a bank with units of this size, in bytes
abbrev pub HasUnit : Role → ℕ → Type 0
HasUnit Nvs unit = IsUnit unit
HasUnit Zms unit = unit ≡ 16
HasUnit Fcb unit = IsUnit unit
HasUnit Sel unit = IsUnit unit

-- the area lies in its bank, whose kind, unit and sectors are those of its role
pub record IsLawfulFor (banks : List Bank) (area : Area) : Type 0 where
  pub in_bank : IsLawfulArea banks area
  pub kind : HasKind area.role (bank_at banks area.bank).kind
  pub unit : HasUnit area.role (bank_at banks area.bank).unit
  pub at_least : 512 ≤ (bank_at banks area.bank).sector
  pub at_most : (bank_at banks area.bank).sector ≤ 32768
  pub whole : (bank_at banks area.bank).sector % 64 ≡ 0
  pub several : 2 ≤ area.sectors
  pub few : area.sectors ≤ 64
  -- a sector has room for the longest value
  pub long_values : area.version ≡ 2 → 4096 ≤ (bank_at banks area.bank).sector

-- an area of such a role, lawful on these banks
pub record IsAreaFor (serves : Role → Type 0) (banks : List Bank) (area : Area) : Type 0 where
  pub lawful : IsLawfulFor banks area
  pub role : serves area.role

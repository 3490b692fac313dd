-- The banks of the tests, and when a backend is ready on them.
use Rattle.std.proofs.Common.{◌≡◌, ℕ, zero, suc, ◌%◌, ◌<◌, ◌≤◌, List, [], ◌∷◌, length, get_or, inl, inr, refl, sym, ap, subst, arith}
use Rattle.std.proofs.lemmas.Bool.Decides.{nat_tests}
use Rattle.flash_sim.specs.Bank.{IsLawful, IsLawfulBank, bank_at, capacity}
use Rattle.flash_sim.specs.Device.{Device}
use Rattle.flash_sim.specs.declared.flash.Bank.{Bank}
use Rattle.flash_sim.specs.declared.flash.Kind.{Kind}
use Rattle.flash_map.specs.Area.{geometry_of, value_limit}
use Rattle.flash_map.specs.Lawful.{IsLawfulFor, HasKind, HasUnit}
use Rattle.flash_map.specs.On.{StandsOn}
use Rattle.flash_map.specs.Units.{IsUnit}
use Rattle.flash_map.specs.declared.area.Area.{Area}
use Rattle.flash_map.specs.declared.area.Role.{Role}
use Rattle.flash_map.specs.declared.area.Role.TheVariants.{Nvs, Zms, Fcb, Sel}
use Rattle.any_backend.specs.declared.backend.AnyBackend.{AnyBackend}
use Rattle.any_backend.specs.ByRole.{serves_as, any_serves}
use Rattle.any_backend.specs.Standing.{area_of, Stands, IsReady}

abbrev pub bank : Kind → ℕ → Bank
bank kind unit = record { kind = kind; unit = unit; sector = 512; count = 2 }

lawful-bank : (kind : Kind) (unit : ℕ) → IsUnit unit → IsLawfulBank (bank kind unit)
lawful-bank kind unit is = elim is [
  | inl four ↦ subst (λ (u : ℕ). IsLawfulBank (bank kind u)) (sym four) (record { unit = refl; whole_units = refl; sector = omega arith; addressable = omega arith })
  | inr more ↦ elim more [
    | inl eight ↦ subst (λ (u : ℕ). IsLawfulBank (bank kind u)) (sym eight) (record { unit = refl; whole_units = refl; sector = omega arith; addressable = omega arith })
    | inr sixteen ↦ subst (λ (u : ℕ). IsLawfulBank (bank kind u)) (sym sixteen) (record { unit = refl; whole_units = refl; sector = omega arith; addressable = omega arith })
  ]
]

pub one-lawful : (kind : Kind) (unit : ℕ) (bytes : List ℕ) → IsUnit unit → length bytes ≡ 1024 → IsLawful (bank kind unit ∷ []) (bytes ∷ [])
one-lawful kind unit bytes is long = record { each_bank = each; count = refl; lengths = lengths }
  where
    each : (i : ℕ) → i < 1 → IsLawfulBank (bank_at (bank kind unit ∷ []) i)
    each zero lt = lawful-bank kind unit is
    each (suc i) lt = absurd (omega arith)

    lengths : (i : ℕ) → i < 1 → length (get_or (bytes ∷ []) i []) ≡ capacity (bank_at (bank kind unit ∷ []) i)
    lengths zero lt = long
    lengths (suc i) lt = absurd (omega arith)

module _ (kind : Kind) (unit : ℕ) (role : Role) (area : Area) (is : area.role ≡ role) (place : area.bank ≡ 0) (first : area.first ≡ 0) (count : area.sectors ≡ 2) (version : area.version ≡ 1) where
  here-is : bank_at (bank kind unit ∷ []) area.bank ≡ bank kind unit
  here-is = ap (bank_at (bank kind unit ∷ [])) place

  lawful-here : HasKind role kind → HasUnit role unit → IsLawfulFor (bank kind unit ∷ []) area
  lawful-here has_kind has_unit = record {
    in_bank = record { has_bank = omega arith; in_bank = let e : (bank_at (bank kind unit ∷ []) area.bank).count ≡ 2 = ap (λ (b : Bank). b.count) here-is in omega arith };
    kind = subst (λ (r : Role). HasKind r (bank_at (bank kind unit ∷ []) area.bank).kind) (sym is) (subst (λ (b : Bank). HasKind role b.kind) (sym here-is) has_kind);
    unit = subst (λ (r : Role). HasUnit r (bank_at (bank kind unit ∷ []) area.bank).unit) (sym is) (subst (λ (b : Bank). HasUnit role b.unit) (sym here-is) has_unit);
    at_least = let e : (bank_at (bank kind unit ∷ []) area.bank).sector ≡ 512 = ap (λ (b : Bank). b.sector) here-is in omega arith;
    at_most = let e : (bank_at (bank kind unit ∷ []) area.bank).sector ≡ 512 = ap (λ (b : Bank). b.sector) here-is in omega arith;
    whole = ap (λ (b : Bank). b.sector % 64) here-is;
    several = omega arith;
    few = omega arith;
    long_values = λ two. absurd (omega arith);
  }

  pub bed-lawful : (d : Device) → d.banks ≡ bank kind unit ∷ [] → HasKind role kind → HasUnit role unit → IsLawfulFor d.banks area
  bed-lawful d banks has_kind has_unit = subst (λ (all : List Bank). IsLawfulFor all area) (sym banks) (lawful-here has_kind has_unit)

pub bed-serves : (d : Device) (role : Role) (area : Area) → area.role ≡ role → serves_as role → any_serves area (geometry_of d area)
bed-serves d role area is serves = subst serves_as (sym is) serves

-- a role's units are units
pub role-unit : (role : Role) (unit : ℕ) → HasUnit role unit → IsUnit unit
role-unit Nvs unit has = has
role-unit Zms unit has = inr (inr has)
role-unit Fcb unit has = has
role-unit Sel unit has = has

pub lawful-after : (d e : Device) (area : Area) → e.banks ≡ d.banks → IsLawfulFor d.banks area → IsLawfulFor e.banks area
lawful-after d e area banks lawful = subst (λ (all : List Bank). IsLawfulFor all area) (sym banks) lawful

-- a call that leaves the banks and the backend's area leaves it ready
pub ready-after : (d e : Device) (area : Area) (backend : AnyBackend) → e.banks ≡ d.banks → IsLawfulFor d.banks area → area_of backend ≡ area → StandsOn area_of Stands e backend → IsReady e backend
ready-after d e area backend banks lawful on stands = record {
  lawful = subst (λ (x : Area). IsLawfulFor e.banks x) (sym on) (lawful-after d e area banks lawful);
  stands = stands;
}

pub short-value : (area : Area) (length : ℕ) → length ≤ 256 → length ≤ value_limit area
short-value area length short = grind (arith, nat_tests)

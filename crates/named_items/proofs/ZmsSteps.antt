-- What steps in sectors of ZMS spend, and which of them are blank.
use Rattle.std.proofs.Common.{◌≡◌, ◌*◌, ◌+◌, ℕ, ◌/◌, ◌≤◌, true, List, refl, sym, subst, arith}
use Rattle.flash_sim.specs.Device.{Device}
use Rattle.flash_map.specs.declared.area.Area.{Area}
use Rattle.flash_map.specs.declared.area.Geometry.{Geometry}
use Rattle.flash_map.specs.declared.area.Role.{Role}
use Rattle.flash_map.specs.declared.area.Role.TheVariants.{Zms as ZmsRole}
use Rattle.flash_map.specs.Area.{geometry_of, sector_size, unit_of}
use Rattle.flash_map.specs.Lawful.{IsLawfulFor, HasUnit}
use Rattle.flash_map.specs.Units.{is_erased}
use Rattle.item_store.specs.SectorFormat.{IsSectorFormat}
use Rattle.zms_cycle.specs.Sector.{cost, data_len}
use Rattle.flash_sim.specs.declared.flash.Kind.{Kind as BankKind}
use Rattle.flash_sim.specs.declared.flash.Kind.TheVariants.{Erasing, Rewritable}
use Rattle.zms_format.specs.Formats.{format_of, round_limit, mount_limit, ready_limit}
use Rattle.zms_format.proofs.Erased.{erased-unused}
use Rattle.zms_format.proofs.FormatLemmas.{zms_is_format}
use Rattle.named_items.specs.RingStore.{IsFrugal}
use Rattle.named_items.proofs.MostUnits.{units-within}

no-data : data_len 0 ≡ 0
unfolding data_len
no-data = refl

round-within : (bank : BankKind) (size : ℕ) → round_limit bank size ≤ 3 * (size / 16 + 3)
round-within Rewritable size = omega arith
round-within Erasing size = omega arith

mount-within : (bank : BankKind) (size : ℕ) → mount_limit bank size ≤ 3 * (size / 16 + 3)
mount-within Rewritable size = omega arith
mount-within Erasing size = omega arith

ready-within : (bank : BankKind) → ready_limit bank ≤ 4
ready-within Rewritable = omega arith
ready-within Erasing = omega arith

module _ (d : Device) (area : Area) (own : IsLawfulFor d.banks area) (role : area.role ≡ ZmsRole) where
  unit_16 : unit_of d area ≡ 16
  unit_16 = subst (λ (r : Role). HasUnit r (unit_of d area)) role own.unit

  frugal_16 : IsFrugal (format_of (geometry_of d area)) (sector_size d area) (sector_size d area / 16)
  frugal_16 = record {
    round = let within = round-within (geometry_of d area).kind (sector_size d area) in omega arith;
    entry = λ len short.
        let entry : cost len / 16 ≤ sector_size d area / 16 = units-within (cost len) (sector_size d area) 16 (omega arith) (omega arith) in
        let ready = ready-within (geometry_of d area).kind in
        omega arith;
    mount = let within = mount-within (geometry_of d area).kind (sector_size d area) in omega arith;
    delete = let least = own.at_least in let none = no-data in omega arith;
  }

  pub zms-frugal : IsFrugal (format_of (geometry_of d area)) (sector_size d area) (sector_size d area / unit_of d area)
  zms-frugal = subst (λ (u : ℕ). IsFrugal (format_of (geometry_of d area)) (sector_size d area) (sector_size d area / u)) (sym unit_16) frugal_16

pub zms-law : (geometry : Geometry) → IsSectorFormat (format_of geometry)
zms-law geometry = zms_is_format geometry

-- a sector all of whose bytes are FF is not in use
pub zms-erased : (geometry : Geometry) (b : List ℕ) → is_erased b ≡ true → (format_of geometry).reading.is_blank b ≡ true
zms-erased geometry b erased = erased-unused geometry.kind b erased

-- What is known of a sector of a ZMS area.
use Rattle.std.proofs.Common.{◌≡◌, ℕ, ◌+◌, ◌-◌, ◌*◌, List, [], length, set, get_or, drop, sym, ap, subst, ◌∙◌, arith}
use Rattle.std.specs.Prelude.{slice_range}
use Rattle.std.proofs.lemmas.List.{take_all, get_or-set_same, set-set, set-get_or}
use Rattle.flash_sim.specs.Bank.{IsLawful, bank_at}
use Rattle.flash_sim.specs.Device.{Device, bytes_of}
use Rattle.flash_sim.specs.declared.flash.Bank.{Bank}
use Rattle.flash_sim.specs.declared.flash.Kind.{Kind}
use Rattle.flash_sim.specs.declared.flash.Kind.TheVariants.{Erasing, Rewritable}
use Rattle.flash_map.specs.declared.area.Area.{Area}
use Rattle.flash_map.specs.declared.area.Role.{Role}
use Rattle.flash_map.specs.Area.{unit_of, sector_size, sectors_of, sector_bytes, OthersStay}
use Rattle.flash_map.specs.Lawful.{IsLawfulFor, HasUnit}
use Rattle.flash_map.proofs.Places.{length-sector}
use Rattle.flash_map.proofs.Sectors.{length-sectors_from}
use Rattle.zms_cycle.specs.Areas.{IsZmsSector, kind_on}

-- a whole sector is viewed
pub whole_range : (b : List ℕ) (n : ℕ) → length b ≡ n → slice_range b 0 (0 + n) ≡ b
whole_range b n long = take_all (0 + n - 0) b (omega arith)

-- A bank is of one kind.

pub not_erasing : Rewritable ≡ Erasing → ⊥
not_erasing e = cc

pub never_erasing : {kind : Kind} → kind ≡ Rewritable → kind ≡ Erasing → ⊥
never_erasing rewritable erasing = not_erasing (sym rewritable ∙ erasing)

-- which stays after a call that left the banks
pub same_kind : (old new : Device) (area : Area) → new.banks ≡ old.banks → kind_on new area ≡ kind_on old area
same_kind old new area banks = ap (λ (bs : List Bank). (bank_at bs area.bank).kind) banks

module _ (d : Device) (area : Area) (sector : ℕ) (is : IsZmsSector d area sector) where
  pub unit_is : unit_of d area ≡ 16
  unit_is = subst (λ (role : Role). HasUnit role (unit_of d area)) is.role is.lawful.unit

  pub count_sectors : length (sectors_of d area) ≡ area.sectors
  count_sectors = length-sectors_from area.sectors (sector_size d area) (drop (area.first * sector_size d area) (bytes_of d area.bank))

  pub size_is : IsLawful d.banks d.bytes → length (sector_bytes d area sector) ≡ sector_size d area
  size_is lawful = length-sector d area lawful is.lawful.in_bank sector is.has_sector

-- the sector of an area with one sector changed
pub sector_set : (old new : Device) (area : Area) (sector : ℕ) (bytes : List ℕ) → IsZmsSector old area sector → sectors_of new area ≡ set (sectors_of old area) sector bytes → sector_bytes new area sector ≡ bytes
sector_set old new area sector bytes is changes =
    let has = is.has_sector in
    ap (λ (l : List (List ℕ)). get_or l sector []) changes ∙ get_or-set_same (sectors_of old area) sector bytes [] (omega (arith, count_sectors old area sector is))

-- the others stay
pub others_set : (old new : Device) (area : Area) (sector : ℕ) (bytes : List ℕ) → IsZmsSector old area sector → sectors_of new area ≡ set (sectors_of old area) sector bytes → OthersStay old new area sector
others_set old new area sector bytes is changes = changes ∙ ap (λ (b : List ℕ). set (sectors_of old area) sector b) (sym (sector_set old new area sector bytes is changes))

pub others_same : (old new : Device) (area : Area) (sector : ℕ) → sectors_of new area ≡ sectors_of old area → OthersStay old new area sector
others_same old new area sector same =
    same ∙ sym (set-get_or (sectors_of old area) sector []) ∙ ap (λ (l : List (List ℕ)). set (sectors_of old area) sector (get_or l sector [])) (sym same)

pub others_then : (a b c : Device) (area : Area) (sector : ℕ) → OthersStay a b area sector → OthersStay b c area sector → OthersStay a c area sector
others_then a b c area sector first second =
    second ∙ ap (λ (l : List (List ℕ)). set l sector (sector_bytes c area sector)) first ∙ set-set (sectors_of a area) sector (sector_bytes b area sector) (sector_bytes c area sector)

-- after a call that left the banks
pub still_zms : (old new : Device) (area : Area) (sector : ℕ) → new.banks ≡ old.banks → IsZmsSector old area sector → IsZmsSector new area sector
still_zms old new area sector banks is = record { lawful = subst (λ (bs : List Bank). IsLawfulFor bs area) (sym banks) is.lawful; role = is.role; has_sector = is.has_sector }

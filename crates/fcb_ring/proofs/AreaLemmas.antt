-- The sectors of an area on which a ring may stand.
use Rattle.std.proofs.Common.{◌≡◌, ℕ, ◌%◌, ◌<◌, ◌≤◌, List, [], length, inl, inr, sym, ap, subst, ◌∙◌, arith}
use Rattle.std.proofs.lemmas.List.{get_or-map, length-map}
use Rattle.flash_sim.specs.Bank.{IsLawful}
use Rattle.flash_sim.specs.Device.{Device}
use Rattle.flash_sim.specs.declared.flash.Bank.{Bank}
use Rattle.flash_map.specs.declared.area.Area.{Area}
use Rattle.flash_map.specs.declared.area.Role.{Role}
use Rattle.flash_map.specs.Area.{unit_of, sector_size, sectors_of}
use Rattle.flash_map.specs.Lawful.{HasUnit}
use Rattle.flash_map.specs.Units.{IsUnit}
use Rattle.flash_map.proofs.Places.{length-sector}
use Rattle.flash_map.proofs.Sectors.{length-sectors_from}
use Rattle.fcb_ring.specs.SectorStates.{IsSector, state_of}
use Rattle.fcb_ring.specs.Rings.{no_state, state_at}
use Rattle.fcb_ring.specs.Entries.{states}
use Rattle.flash_map.specs.Area.{sector_at}
use Rattle.fcb_ring.specs.Standing.{IsRingArea}

-- every sector has this size
pub record HasSize (unit size : ℕ) (sectors : List (List ℕ)) : Type 0 where
  pub is_unit : IsUnit unit
  pub at_least : 512 ≤ size
  pub at_most : size ≤ 32768
  pub whole : size % unit ≡ 0
  pub each : (place : ℕ) → place < length sectors → length (sector_at sectors place) ≡ size
  pub several : 2 ≤ length sectors
  pub few : length sectors ≤ 64

pub count-sectors : (d : Device) (area : Area) → length (sectors_of d area) ≡ area.sectors
count-sectors d area = length-sectors_from area.sectors (sector_size d area) _

pub has_size : (d : Device) (area : Area) → IsLawful d.banks d.bytes → IsRingArea d.banks area → HasSize (unit_of d area) (sector_size d area) (sectors_of d area)
has_size d area lawful ring = record {
  is_unit = elim ring.role [
    | inl fcb ↦ subst (λ (role : Role). HasUnit role (unit_of d area)) fcb ring.lawful.unit
    | inr selector ↦ subst (λ (role : Role). HasUnit role (unit_of d area)) selector ring.lawful.unit
  ];
  at_least = ring.lawful.at_least;
  at_most = ring.lawful.at_most;
  whole = (lawful.each_bank area.bank ring.lawful.in_bank.has_bank).whole_units;
  each = λ place lt. length-sector d area lawful ring.lawful.in_bank place (omega (arith, count-sectors d area));
  several = omega (arith, count-sectors d area, ring.lawful.several);
  few = omega (arith, count-sectors d area, ring.lawful.few);
}

-- the state at a place is that of its sector
pub state-at : (unit : ℕ) (sectors : List (List ℕ)) (place : ℕ) → place < length sectors → state_at (states unit sectors) place ≡ state_of unit (sector_at sectors place)
state-at unit sectors place lt = get_or-map (state_of unit) sectors place [] no_state lt

pub length-states : (unit : ℕ) (sectors : List (List ℕ)) → length (states unit sectors) ≡ length sectors
length-states unit sectors = length-map sectors (state_of unit)

pub sector_is : {unit size : ℕ} {sectors : List (List ℕ)} → HasSize unit size sectors → (bytes : List ℕ) → length bytes ≡ size → IsSector unit bytes
sector_is {unit} {size} {sectors} h bytes long = record {
  is_unit = h.is_unit;
  long = omega (arith, h.at_least);
  short = omega (arith, h.at_most);
  whole = ap (λ (n : ℕ). n % unit) long ∙ h.whole;
}

-- a call that leaves the banks leaves the area one for a ring
pub area_after : (old new : Device) (area : Area) → new.banks ≡ old.banks → IsRingArea old.banks area → IsRingArea new.banks area
area_after old new area banks is = subst (λ (all : List Bank). IsRingArea all area) (sym banks) is

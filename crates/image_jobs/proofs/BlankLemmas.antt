-- A map of areas on a flash each byte of which is FF.
use Rattle.std.proofs.Common.{◌≡◌, ◌∙◌, ℕ, zero, suc, ◌+◌, ◌-◌, ◌*◌, ◌<◌, ◌≤◌, List, [], ◌∷◌, length, replicate, drop, get_or, Option, Some, None, refl, sym, ap, subst, arith}
use Rattle.std.specs.Prelude.{unwrap_or}
use Rattle.std.specs.Option.{option_and_then}
use Rattle.std.proofs.lemmas.List.{take-replicate, drop-replicate}
use Rattle.std.proofs.Math.Nat.{mul-le-mul_left}
use Rattle.flash_sim.specs.Bank.{bank_at, capacity}
use Rattle.flash_sim.specs.Device.{Device, bytes_of}
use Rattle.flash_sim.specs.declared.flash.Bank.{Bank}
use Rattle.flash_map.specs.Area.{geometry_of, sector_size, sectors_of, unit_of}
use Rattle.flash_map.specs.Lawful.{IsLawfulFor}
use Rattle.flash_map.specs.Sectors.{sectors_from}
use Rattle.flash_map.specs.declared.area.Area.{Area}
use Rattle.fcb_ring.specs.Entries.{HasEntries, bodies, states}
use Rattle.fcb_ring.specs.Standing.{erases_due, erases_on, ring_damage}
use Rattle.fcb_ring.specs.declared.record.RecordAt.{RecordAt}
use Rattle.migrator.specs.Active.{active_with, chosen, named}
use Rattle.migrator.specs.Areas.{IsLawfulMap, first_store, selector_of}
use Rattle.migrator.proofs.Latest.{latest-nil}
use Rattle.any_backend.specs.Blank.{IsBlank, blank_sectors}
use Rattle.any_backend.specs.ByRole.{any_serves, any_damage}
use Rattle.any_backend.proofs.Blanks.{blank_empty, blank_idle, blank_rests, blank_ring, blank_undamaged}
use Rattle.session.specs.OnMap.{IsServedMap, active_area}
use Rattle.session.proofs.ActiveAreas.{active_lawful, active_serves, selector_lawful}
use Rattle.session.proofs.DamageLemmas.{damage_none}
use Rattle.image_jobs.specs.Blank.{AreasAreBlank, BlankHoldsNothing, BlankNamesNone, HoldsNothing, IsBlankFlash, NamesNone, blank_bytes}
use Rattle.image_jobs.proofs.ServedLemmas.{maps_are_served}

-- ---- areas

-- the sectors of bytes that are FF
sectors-blank : (n size long : ℕ) → n * size ≤ long → sectors_from n size (replicate long 255) ≡ replicate n (replicate size 255)
sectors-blank zero size long fits = refl
sectors-blank (suc n) size long fits =
    let one : size ≤ long = omega arith in
    let rest : n * size ≤ long - size = omega arith in
    ap (λ (sector : List ℕ). sector ∷ sectors_from n size (drop size (replicate long 255))) (take-replicate size long 255 one)
    ∙ ap (λ (bytes : List ℕ). replicate size 255 ∷ sectors_from n size bytes) (drop-replicate size long 255)
    ∙ ap (λ (more : List (List ℕ)). replicate size 255 ∷ more) (sectors-blank n size (long - size) rest)

bytes-blank : (banks : List Bank) (i : ℕ) → i < length banks → get_or (blank_bytes banks) i [] ≡ replicate (capacity (bank_at banks i)) 255
bytes-blank [] i below = absurd (omega arith)
bytes-blank (bank ∷ banks) zero below = refl
bytes-blank (bank ∷ banks) (suc i) below = bytes-blank banks i (omega arith)

-- sectors of a bank are as many bytes of it at most
fits : (size first sectors count : ℕ) → first + sectors ≤ count → sectors * size ≤ size * count - first * size
fits size first sectors count within =
    let all : size * (first + sectors) ≤ size * count = mul-le-mul_left size within in
    omega (arith, all)

pub areas_are_blank : AreasAreBlank
areas_are_blank d area blank lawful =
    let size : ℕ = sector_size d area in
    let bank : Bank = bank_at d.banks area.bank in
    let bytes : bytes_of d area.bank ≡ replicate (capacity (bank_at d.banks area.bank)) 255 = ap (λ (all : List (List ℕ)). get_or all area.bank []) blank ∙ bytes-blank d.banks area.bank lawful.in_bank.has_bank in
    ap (λ (all : List ℕ). sectors_from area.sectors (sector_size d area) (drop (area.first * sector_size d area) all)) bytes
    ∙ ap (sectors_from area.sectors (sector_size d area)) (drop-replicate (area.first * sector_size d area) (capacity (bank_at d.banks area.bank)) 255)
    ∙ sectors-blank area.sectors (sector_size d area) (capacity (bank_at d.banks area.bank) - area.first * sector_size d area)
    (fits (sector_size d area) area.first area.sectors (bank_at d.banks area.bank).count lawful.in_bank.in_bank)

-- ---- the selector

module _ (d : Device) (selector : Area) (blank : IsBlankFlash d) (lawful : IsLawfulFor d.banks selector) where
  is : sectors_of d selector ≡ blank_sectors (geometry_of d selector)
  is = areas_are_blank d selector blank lawful

  none : HasEntries (unit_of d selector) (sectors_of d selector) []
  none = subst (λ (sectors : List (List ℕ)). HasEntries (unit_of d selector) sectors []) (sym is) (blank_ring d selector lawful)

  idle : erases_on d selector ≡ 0
  idle = ap (λ (sectors : List (List ℕ)). erases_due (states (unit_of d selector) sectors)) is ∙ blank_idle d selector lawful

module _ (areas : List Area) (d : Device) (blank : IsBlankFlash d) (map : IsLawfulMap d.banks areas) where
  by_none : (s : Area) → selector_of areas ≡ Some s → HasEntries (unit_of d s) (sectors_of d s) []
  by_none s found = none d s blank (selector_lawful d.banks areas s map found).0

  undamaged : (o : Option Area) → selector_of areas ≡ o → option_and_then (ring_damage d) o ≡ None
  undamaged None found = refl
  undamaged (Some s) found = (by_none s found).undamaged

  first : (o : Option Area) → selector_of areas ≡ o → active_with areas d o ≡ first_store areas
  first None found = refl
  first (Some s) found =
      ap (λ (list : List (RecordAt × List ℕ)). unwrap_or (chosen areas (bodies list)) (first_store areas)) (by_none s found).are
      ∙ ap (λ (o : Option ℕ). unwrap_or o (first_store areas)) (latest-nil (named areas))

  names : NamesNone areas d
  names = record {
    undamaged = undamaged (selector_of areas) refl;
    idle = λ s found. idle d s blank (selector_lawful d.banks areas s map found).0;
    first = first (selector_of areas) refl;
  }

pub names_none : BlankNamesNone
names_none areas d blank map = names areas d blank map

-- ---- the map

module _ (areas : List Area) (d : Device) (blank : IsBlankFlash d) (map : IsServedMap any_serves areas d) where
  selects : NamesNone areas d
  selects = names areas d blank map.lawful

  lawful : IsLawfulFor d.banks (active_area areas d)
  lawful = active_lawful any_serves areas d map d

  serves : any_serves (active_area areas d) (geometry_of d (active_area areas d))
  serves = active_serves any_serves areas d map d

  active_blank : IsBlank d (active_area areas d)
  active_blank = areas_are_blank d (active_area areas d) blank lawful

  nothing : HoldsNothing areas d
  nothing = record {
    undamaged = damage_none any_damage areas d selects.undamaged (blank_undamaged d (active_area areas d) lawful serves active_blank);
    active = selects.first;
    settings = blank_empty d (active_area areas d) lawful serves active_blank;
    rests = record { selector = selects.idle; active = blank_rests d (active_area areas d) lawful serves active_blank };
  }

pub holds_nothing : BlankHoldsNothing
holds_nothing areas d blank is = nothing areas d blank (maps_are_served areas d is)

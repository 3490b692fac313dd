-- Maps of areas on a flash that was never written.
use Rattle.std.specs.Prelude.{◌≡◌, ℕ, List, None, Some, map, replicate}
use Rattle.std.specs.FinMap.{empty}
use Rattle.flash_sim.specs.Bank.{capacity}
use Rattle.flash_sim.specs.Device.{Device}
use Rattle.flash_sim.specs.declared.flash.Bank.{Bank}
use Rattle.flash_map.specs.declared.area.Area.{Area}
use Rattle.flash_map.specs.Lawful.{IsLawfulFor}
use Rattle.flash_map.specs.On.{on}
use Rattle.fcb_ring.specs.Standing.{erases_on}
use Rattle.image_file.specs.Lawful.{IsImage}
use Rattle.migrator.specs.Active.{active_on, selector_damage_on}
use Rattle.migrator.specs.Areas.{IsLawfulMap, first_store, selector_of}
use Rattle.any_backend.specs.Blank.{IsBlank}
use Rattle.any_backend.specs.ByRole.{any_damage, any_contents, any_rests}
use Rattle.session.specs.OnMap.{IsAtRest, active_area, damage_in}
use Rattle.image_file.specs.Format.{image_on}

-- the banks with FF in each byte
abbrev pub blank_bytes : List Bank → List (List ℕ)
blank_bytes banks = map (λ bank. replicate (capacity bank) 0xFF) banks

-- each byte of the flash is FF
abbrev pub IsBlankFlash : Device → Type 0
IsBlankFlash d = d.bytes ≡ blank_bytes d.banks

-- each byte of an area of a blank flash is FF
abbrev pub AreasAreBlank : Type 0
AreasAreBlank = (d : Device) (area : Area) → IsBlankFlash d → IsLawfulFor d.banks area → IsBlank d area

-- ---- the selector

-- The selector, if the map has one, shows no damage, and a mount has nothing to erase in it. It
-- names no area, so the first store area is active.
pub record NamesNone (areas : List Area) (d : Device) : Type 0 where
  pub undamaged : selector_damage_on areas d ≡ None
  pub idle : (selector : Area) → selector_of areas ≡ Some selector → erases_on d selector ≡ 0
  pub first : active_on areas d ≡ first_store areas

-- this holds for a lawful map on a blank flash
abbrev pub BlankNamesNone : Type 0
BlankNamesNone =
    (areas : List Area) (d : Device) → IsBlankFlash d → IsLawfulMap d.banks areas → NamesNone areas d

-- ---- the map

-- The map shows no damage, its first store area is active and has no settings, and a mount has
-- nothing to do.
pub record HoldsNothing (areas : List Area) (d : Device) : Type 0 where
  pub undamaged : damage_in any_damage areas d ≡ None
  pub active : active_on areas d ≡ first_store areas
  pub settings : on any_contents d (active_area areas d) ≡ empty
  pub rests : IsAtRest any_rests areas d

-- this holds for a lawful image whose bytes are all FF
abbrev pub BlankHoldsNothing : Type 0
BlankHoldsNothing =
    (areas : List Area) (d : Device) → IsBlankFlash d → IsImage (image_on areas d) → HoldsNothing areas d

-- Areas whose bytes are all FF, as on a flash that was never written.
use Rattle.std.specs.Prelude.{◌≡◌, ℕ, List, replicate, None}
use Rattle.std.specs.FinMap.{empty}
use Rattle.flash_sim.specs.Device.{Device}
use Rattle.flash_map.specs.Area.{geometry_of, sectors_of}
use Rattle.flash_map.specs.Lawful.{IsLawfulFor}
use Rattle.flash_map.specs.On.{on, HoldsOn}
use Rattle.flash_map.specs.declared.area.Area.{Area}
use Rattle.flash_map.specs.declared.area.Geometry.{Geometry}
use Rattle.any_backend.specs.ByRole.{any_serves, any_damage, any_contents, any_rests}

-- all sectors of the area, with FF in each byte
abbrev pub blank_sectors : Geometry → List (List ℕ)
blank_sectors geometry = replicate geometry.sectors (replicate geometry.sector 0xFF)

-- each byte of the area is FF
abbrev pub IsBlank : Device → Area → Type 0
IsBlank d area = sectors_of d area ≡ blank_sectors (geometry_of d area)

-- a blank area of any role but a selector's shows no damage
abbrev pub BlankIsUndamaged : Type 0
BlankIsUndamaged =
    (d : Device) (area : Area) → IsLawfulFor d.banks area → any_serves area (geometry_of d area)
    → IsBlank d area → on any_damage d area ≡ None

-- it reads as no settings
abbrev pub BlankIsEmpty : Type 0
BlankIsEmpty = (d : Device) (area : Area) → IsLawfulFor d.banks area → any_serves area (geometry_of d area)
    → IsBlank d area → on any_contents d area ≡ empty

-- and a mount has nothing to do there
abbrev pub BlankRests : Type 0
BlankRests = (d : Device) (area : Area) → IsLawfulFor d.banks area → any_serves area (geometry_of d area)
    → IsBlank d area → HoldsOn any_rests d area

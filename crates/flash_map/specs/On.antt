-- What is said of an area, its geometry and its sectors, on a device.
use Rattle.std.specs.Prelude.{ℕ, List}
use Rattle.flash_sim.specs.Device.{Device}
use Rattle.flash_map.specs.declared.area.Area.{Area}
use Rattle.flash_map.specs.declared.area.Geometry.{Geometry}
use Rattle.flash_map.specs.Area.{geometry_of, sectors_of}

-- what the sectors of the area have there
abbrev pub on : {T : Type 0} → (Area → Geometry → List (List ℕ) → T) → Device → Area → T
on f d area = f area (geometry_of d area) (sectors_of d area)

-- it holds of them there
abbrev pub HoldsOn : (Area → Geometry → List (List ℕ) → Type 0) → Device → Area → Type 0
HoldsOn holds d area = holds area (geometry_of d area) (sectors_of d area)

-- a state stands on the area that it was mounted on
abbrev pub StandsOn : {S : Type 0} → (S → Area) → (S → Geometry → List (List ℕ) → Type 0) → Device → S
    → Type 0
StandsOn mounted_on stands d state =
    stands state (geometry_of d (mounted_on state)) (sectors_of d (mounted_on state))

-- What the areas of an image guarantee to a session.
use Rattle.std.specs.Prelude.{◌≡◌, ◌==◌, if◌then◌else◌, ℕ, List, Some}
use Rattle.std.specs.List.{slice_get}
use Rattle.flash_sim.specs.Bank.{IsLawful}
use Rattle.flash_sim.specs.Device.{Device}
use Rattle.flash_map.specs.Area.{value_limit}
use Rattle.flash_map.specs.declared.area.Area.{Area}
use Rattle.flash_map.specs.declared.area.TheConstants.{VALUE_LIMIT, LONG_VALUE_LIMIT}
use Rattle.image_file.specs.Format.{image_on, version_of}
use Rattle.image_file.specs.Lawful.{IsImage}
use Rattle.migrator.specs.Areas.{IsLawfulMap}
use Rattle.any_backend.specs.ByRole.{any_serves}
use Rattle.session.specs.OnMap.{IsServedMap, limit_of}

-- the areas of an image are a lawful map
abbrev pub MapsAreLawful : Type 0
MapsAreLawful = (areas : List Area) (d : Device) → IsImage (image_on areas d) → IsLawfulMap d.banks areas

-- an image stays one, whatever bytes its banks hold
abbrev pub StaysImage : Type 0
StaysImage = (areas : List Area) (old new : Device) → IsImage (image_on areas old) → new.banks ≡ old.banks
    → IsLawful new.banks new.bytes → IsImage (image_on areas new)

-- ---- stores

-- a session serves the areas of an image
abbrev pub MapsAreServed : Type 0
MapsAreServed = (areas : List Area) (d : Device) → IsImage (image_on areas d) → IsServedMap any_serves areas d

-- ---- values

-- the most bytes of a value in images of this version
abbrev pub limit_in : ℕ → ℕ
limit_in version = if version == 2 then LONG_VALUE_LIMIT else VALUE_LIMIT

-- all areas of an image, and so the map, have the limit of its version
abbrev pub OneLimit : Type 0
OneLimit =
    (areas : List Area) (d : Device) → IsImage (image_on areas d)
    → limit_of areas ≡ limit_in (version_of areas)

abbrev pub EachLimit : Type 0
EachLimit =
    (areas : List Area) (d : Device) → IsImage (image_on areas d) → (i : ℕ) (area : Area)
    → slice_get areas i ≡ Some area
    → value_limit area ≡ limit_of areas

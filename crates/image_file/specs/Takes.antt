-- What taking an area into a map makes of the map.
use Rattle.std.specs.Prelude.{◌≡◌, ⊤, Bool, true, false, Result, Ok, Err, List, [], ◌∷◌, ◌++◌, map}
use Rattle.flash_sim.specs.declared.flash.Bank.{Bank}
use Rattle.flash_sim.specs.declared.flash.NoMemory.{NoMemory}
use Rattle.flash_map.specs.declared.area.Area.{Area}
use Rattle.image_file.specs.Format.{plain_area}
use Rattle.image_file.specs.Lawful.{IsImageArea}

-- the answer says whether the area may stand there
abbrev pub TakesArea : List Bank → List Area → List Area → Area → Result Bool NoMemory → Type 0
TakesArea banks old new area (Ok true) =
    IsImageArea banks (map plain_area old) (plain_area area) × (new ≡ old ++ area ∷ [])
TakesArea banks old new area (Ok false) =
    (IsImageArea banks (map plain_area old) (plain_area area) → ⊥) × (new ≡ old)
TakesArea banks old new area (Err _) = ⊤

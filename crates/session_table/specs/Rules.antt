-- What the table of answers knows of a flash: facts on each of its areas, by the area's place in
-- the map. It knows no byte.
use Rattle.std.specs.Prelude.{ℕ, ◌-◌, ◌^◌, ◌<◌, List, Option}
use Rattle.flash_map.specs.declared.area.Geometry.{Geometry}
use Rattle.backend_api.specs.Commands.{Command}
use Rattle.backend_api.specs.Map.{Map}
use Rattle.backend_api.specs.Room.{Room}

pub record Rules : Type 1 where
  -- the place of the area to which the settings of the area at a place would go; `None` if there is
  -- no other store area
  pub target : ℕ → Option ℕ
  pub label : ℕ → List ℕ
  pub geometry : ℕ → Geometry
  pub room : ℕ → Room
  -- so many units of a command may spell another record, which turns the first map into the second
  pub tears : ℕ → Command → ℕ → Map → Map → Type 0
  -- the flash's count of units at the end
  pub last : ℕ

-- this count of units is not at its limit
abbrev pub IsCounted : ℕ → Type 0
IsCounted spent = spent < 2 ^ 64 - 1

-- What a command that was cut leaves to the next mount.
use Rattle.std.specs.Prelude.{ℕ, List}
use Rattle.flash_sim.specs.Device.{Device}
use Rattle.flash_map.specs.Area.{geometry_of}
use Rattle.flash_map.specs.declared.area.Area.{Area}
use Rattle.flash_map.specs.declared.area.Geometry.{Geometry}
use Rattle.backend_api.specs.Boot.{Owes}

-- the area owes at most what one cut command leaves to the next mount
abbrev pub OwesBoot : (Area → Geometry → List (List ℕ) → ℕ → Type 0) → (Area → Geometry → ℕ) → Device → Area
    → Type 0
OwesBoot owing boot d area = Owes owing d area (boot area (geometry_of d area))

-- What the backend gives the members of the trait.
use Rattle.std.specs.Prelude.{◌≡◌, ℕ, ◌≤◌, Bool, List, Option}
use Rattle.std.proofs.Common.{arith}
use Rattle.flash_map.specs.Area.{value_limit}
use Rattle.flash_map.specs.declared.area.Area.{Area}
use Rattle.flash_map.specs.declared.area.Geometry.{Geometry}
use Rattle.flash_map.specs.declared.faults.Damaged.{Damaged}
use Rattle.fcb_ring.specs.Entries.{states}
use Rattle.fcb_ring.specs.Standing.{is_up, erases_due}
use Rattle.backend_api.specs.Commands.{Command}
use Rattle.backend_api.specs.Map.{Map}
use Rattle.backend_api.specs.Room.{Room}
use Rattle.record_settings.specs.Room.{room}
use Rattle.backend_fcb.specs.declared.backend.FcbBackend.{FcbBackend}
use Rattle.backend_fcb.specs.Reading.{damage_of, settings_in}
use Rattle.backend_fcb.specs.Standing.{Stands}
use Rattle.backend_fcb.specs.Tearing.{body_for, Tears}

abbrev pub damage_by : Area → Geometry → List (List ℕ) → Option Damaged
damage_by area geometry sectors = damage_of (value_limit area) geometry.unit sectors

abbrev pub settings_by : Area → Geometry → List (List ℕ) → Map
settings_by area geometry sectors = settings_in (value_limit area) geometry.unit sectors

abbrev pub room_by : Area → Geometry → Room
room_by area geometry = room geometry.unit geometry.sector

abbrev pub TearsBy : Area → Geometry → Command → ℕ → Map → Map → Type 0
TearsBy area geometry command done before after =
    Tears (value_limit area) geometry.unit (body_for command) done before after

abbrev pub area_of : FcbBackend → Area
area_of backend = backend.ring.area

abbrev pub StandsBy : FcbBackend → Geometry → List (List ℕ) → Type 0
StandsBy backend geometry sectors = Stands backend geometry.unit sectors

abbrev pub is_running : FcbBackend → Bool
is_running backend = is_up backend.ring.stage

-- a mount erases what is due, and spends nothing else
abbrev pub OwesBy : Area → Geometry → List (List ℕ) → ℕ → Type 0
OwesBy area geometry sectors most = erases_due (states geometry.unit sectors) ≤ most

-- A command that was cut leaves one erase: of a torn header, or of the newest sector if no sector is
-- free. A sector with a torn header is free.
abbrev pub boot_by : Area → Geometry → ℕ
boot_by area geometry = 1

pub rests-owe : (area : Area) (geometry : Geometry) (sectors : List (List ℕ)) (most : ℕ)
    → erases_due (states geometry.unit sectors) ≡ 0 → OwesBy area geometry sectors most
rests-owe area geometry sectors most none = omega arith

pub owes-more : (area : Area) (geometry : Geometry) (sectors : List (List ℕ)) (few most : ℕ) → few ≤ most
    → OwesBy area geometry sectors few → OwesBy area geometry sectors most
owes-more area geometry sectors few most le owes = omega arith

-- The flash and the handlers of a job, and what areas mean to the stores on them.
use Rattle.std.specs.Prelude.{ℕ, Bool, Option, List}
use Rattle.flash_sim.specs.Device.{Device}
use Rattle.flash_sim.specs.declared.flash.Loss.{Loss}
use Rattle.flash_map.specs.declared.area.Area.{Area}
use Rattle.flash_map.specs.declared.area.Geometry.{Geometry}
use Rattle.flash_map.specs.declared.faults.Damaged.{Damaged}
use Rattle.handlers.specs.Registry.{Registered}
use Rattle.backend_api.specs.Commands.{Command}
use Rattle.backend_api.specs.Map.{Map}
use Rattle.backend_api.specs.Room.{Room}
use Rattle.session_table.specs.Bench.{Meanings}
use Rattle.session.specs.OnMap.{meanings}

-- a flash, and the handlers that are registered
pub record Stage : Type 0 where
  pub bench : Device
  pub registry : List Registered

abbrev pub stage : Device → List Registered → Stage
stage bench registry = record { bench = bench; registry = registry }

-- What the bytes of areas mean to the stores on them, the damage that they show, whether a mount has
-- nothing to do there, what it spends at most, and what a command that was cut leaves to it.
pub record Stores : Type 1 where
  pub meanings : Meanings
  pub damage : Area → Geometry → List (List ℕ) → Option Damaged
  pub rests : Area → Geometry → List (List ℕ) → Type 0
  pub owes : Area → Geometry → List (List ℕ) → ℕ → Type 0
  pub boot : Area → Geometry → ℕ

abbrev pub stores : (Area → Geometry → List (List ℕ) → Map) → (Area → Geometry → Room)
    → (Area → Geometry → List (List ℕ) → Loss → Bool) → (Area → Geometry → Command → ℕ → Map → Map → Type 0)
    → (Area → Geometry → List (List ℕ) → Option Damaged) → (Area → Geometry → List (List ℕ) → Type 0)
    → (Area → Geometry → List (List ℕ) → ℕ → Type 0) → (Area → Geometry → ℕ) → Stores
stores contents room chance tears damage rests owes boot = record {
  meanings = meanings contents room chance tears;
  damage = damage;
  rests = rests;
  owes = owes;
  boot = boot;
}

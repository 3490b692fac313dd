-- A command on one side, and on both.
use Rattle.std.proofs.Common.{◌≡◌, ◌⊎◌, ℕ, ◌+◌, ◌<◌, ◌≤◌, Bool, true, false, List, [], ◌∷◌, length, Option, Some, None, Result, Ok, Err, is_err, refl, sym, ap, subst, ◌∙◌, inl, inr, arith}
use Rattle.std.specs.FinMap.{insert, remove}
use Rattle.std.proofs.lemmas.Bool.{false≢true}
use Rattle.flash_sim.specs.Bank.{IsLawful}
use Rattle.flash_sim.specs.Device.{Device}
use Rattle.flash_sim.specs.declared.flash.Bank.{Bank}
use Rattle.flash_sim.specs.declared.flash.Loss.{Loss}
use Rattle.flash_sim.specs.declared.flash.PowerLost.{PowerLost as Lost}
use Rattle.flash_map.specs.declared.area.Area.{Area}
use Rattle.flash_map.specs.declared.area.Geometry.{Geometry}
use Rattle.flash_map.specs.declared.faults.Damaged.{Damaged}
use Rattle.flash_map.specs.Area.{geometry_of, sectors_of}
use Rattle.flash_map.specs.Lawful.{IsLawfulFor}
use Rattle.flash_map.specs.On.{on, StandsOn}
use Rattle.flash_map.specs.Touches.{Touches}
use Rattle.backend_api.specs.Commands.{Command, Put, Del, CutMap, StopsAt, StopsOn, applied}
use Rattle.backend_api.specs.Ends.{SetEnds, SetEndsOn, DeleteEnds, DeleteEndsOn, set_lost}
use Rattle.backend_api.specs.Map.{Map, IsAbsent, IsStored}
use Rattle.backend_api.specs.Room.{Room, HasNoRoom}
use Rattle.backend_api.specs.declared.backend.SetFault.{SetFault}
use Rattle.backend_api.specs.declared.backend.SetFault.TheVariants.{NoSpace, TooManyNames, PowerLost}
use Rattle.migrator.specs.Migrating.{room_on}
use Rattle.migrator.proofs.Copies.{geometry-same, stands-still}
use Rattle.mirror.specs.declared.sides.Side.{Side}
use Rattle.mirror.specs.Mirrored.{IsCut, IsDone, SideCommand, SideStands}
use Rattle.mirror.specs.Room.{Prices, FitsOn, IsTightOn, too_many_on}

module _ {S : Type 0} (mounted : S → Area) (stands : S → Geometry → List (List ℕ) → Type 0) (contents : Area → Geometry → List (List ℕ) → Map) (room : Area → Geometry → Room) where
  pub lawful-still : (a d : Device) (area : Area) → d.banks ≡ a.banks → IsLawfulFor a.banks area → IsLawfulFor d.banks area
  lawful-still a d area banks is = subst (λ (b : List Bank). IsLawfulFor b area) (sym banks) is

  -- a side that a call did not touch
  pub side-still : (a d : Device) (side : Side S) → d.banks ≡ a.banks → sectors_of d side.area ≡ sectors_of a side.area → SideStands mounted stands a side → SideStands mounted stands d side
  side-still a d side banks same is = record {
    lawful = lawful-still a d side.area banks is.lawful;
    role = is.role;
    here = is.here;
    up = stands-still mounted stands contents room a d side.store banks (subst (λ (x : Area). sectors_of d x ≡ sectors_of a x) (sym is.here) same) is.up;
  }

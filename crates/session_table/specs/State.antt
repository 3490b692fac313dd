-- The state that lines change and their answers report.
use Rattle.std.specs.Prelude.{◌≡◌, ℕ, Bool, true, false, List}
use Rattle.handlers.specs.declared.handler.HandlerKind.{HandlerKind}
use Rattle.handlers.specs.Registry.{Registered}
use Rattle.backend_api.specs.Map.{Map}

pub record State : Type 0 where
  pub settings : Map
  pub is_on : Bool
  -- the handlers that are registered, in their order
  pub registry : List Registered
  -- the kinds of the handlers that are left
  pub pool : List HandlerKind
  -- the place of the active area in the map
  pub active : ℕ

abbrev pub IsOn : State → Type 0
IsOn state = state.is_on ≡ true

abbrev pub IsOff : State → Type 0
IsOff state = state.is_on ≡ false

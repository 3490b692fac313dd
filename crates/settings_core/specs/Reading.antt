-- How a read of one setting ends.
use Rattle.std.specs.Prelude.{◌≡◌, ℕ, Bool, true, false, List, Option, option_map, Result, Ok, Err}
use Rattle.std.specs.Borrow.{Bor}
use Rattle.std.specs.FinMap as finite
use Rattle.backend_api.specs.Map.{Map}
use Rattle.settings_core.specs.declared.settings.Off.{Off}

-- the value of the name, if the backend is up
abbrev pub GetEnds : Bool → Map → List ℕ → Result (Option (Bor (List ℕ))) Off → Type 0
GetEnds up settings name (Ok value) =
    (up ≡ true) × (option_map (λ bytes. bytes.now) value ≡ finite.get settings name)
GetEnds up settings name (Err off) = up ≡ false

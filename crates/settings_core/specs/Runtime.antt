-- How a set and a read at run time end.
use Rattle.std.specs.Prelude.{◌≡◌, ℕ, true, false, List, [], get_or, Option, Some, None, option_map, Result, Ok, Err}
use Rattle.std.specs.Option.{unwrap_or}
use Rattle.std.specs.Borrow.{Bor}
use Rattle.std.specs.FinMap as finite
use Rattle.setting_name.specs.Match.{matched_rest}
use Rattle.handlers.specs.Best.{best}
use Rattle.handlers.specs.Registry.{Registered, subtrees, nobody, state_at}
use Rattle.settings_core.specs.declared.runtime.RuntimeFault.{RuntimeFault}
use Rattle.settings_core.specs.declared.runtime.RuntimeFault.TheVariants.{NoHandler, Rejected, NoMemory}
use Rattle.settings_core.specs.declared.runtime.NoHandler.{NoHandler as Nobody}
use Rattle.settings_core.specs.Deliveries.{Delivery, delivery, deliver, is_taken}

-- the best handler takes the value
pub record Takes (before after : List Registered) (setting : List ℕ × List ℕ) : Type 0 where
  pub d : Delivery
  pub is : delivery (subtrees before) setting ≡ Some d
  pub takes : is_taken before d ≡ true
  pub after_is : after ≡ deliver before d

-- the best handler accepts the value
pub record Accepts (before : List Registered) (setting : List ℕ × List ℕ) : Type 0 where
  pub d : Delivery
  pub is : delivery (subtrees before) setting ≡ Some d
  pub accepts : is_taken before d ≡ true

-- the best handler does not accept the value
pub record Rejects (before : List Registered) (setting : List ℕ × List ℕ) : Type 0 where
  pub d : Delivery
  pub is : delivery (subtrees before) setting ≡ Some d
  pub rejects : is_taken before d ≡ false

abbrev pub RuntimeSetEnds : List Registered → List Registered → List ℕ → List ℕ
    → Result (Unit {0}) RuntimeFault → Type 0
RuntimeSetEnds before after name value (Ok x) = Takes before after (name, value)
RuntimeSetEnds before after name value (Err NoHandler) =
    (best (subtrees before) name ≡ None) × (after ≡ before)
RuntimeSetEnds before after name value (Err Rejected) = Rejects before (name, value) × (after ≡ before)
RuntimeSetEnds before after name value (Err NoMemory) = Accepts before (name, value) × (after ≡ before)

-- what the handler at this place holds for the name
abbrev pub held_at : List Registered → ℕ → List ℕ → Option (List ℕ)
held_at handlers place name =
    finite.get (state_at handlers place).held
    (unwrap_or (matched_rest name (get_or handlers place nobody).subtree) [])

abbrev pub RuntimeGetEnds : List Registered → List ℕ → Result (Option (Bor (List ℕ))) Nobody → Type 0
RuntimeGetEnds handlers name (Ok value) =
    (place : ℕ) × (best (subtrees handlers) name ≡ Some place)
    × (option_map (λ bytes. bytes.now) value ≡ held_at handlers place name)
RuntimeGetEnds handlers name (Err missing) = best (subtrees handlers) name ≡ None

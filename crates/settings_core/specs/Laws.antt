-- What the laws on loads and saves say.
use Rattle.std.specs.Prelude.{◌≡◌, ℕ, ◌==◌, ◌<◌, ◌↔◌, get_or, None, Bool, true, false, List, [], ◌∷◌, ◌++◌, fold, length, take, Option, Some, Result}
use Rattle.std.specs.List.{filter}
use Rattle.std.specs.FinMap.{insert, entries, empty, get}
use Rattle.flash_sim.specs.Device.{Device}
use Rattle.flash_sim.specs.declared.flash.Loss.{Loss}
use Rattle.backend_api.specs.Room.{Room}
use Rattle.backend_api.specs.Commands.{Command, all_applied, IsPartApplied}
use Rattle.backend_api.specs.Map.{Map, IsValue, IsSettings, IsStored}
use Rattle.handlers.specs.Best.{best}
use Rattle.handlers.specs.Held.{HandlerState, accepts, fresh}
use Rattle.handlers.specs.declared.handler.HandlerKind.{HandlerKind}
use Rattle.handlers.specs.Registry.{Registered, subtrees, nobody, state_at}
use Rattle.settings_core.specs.Carrying.{due, is_idle, SplitsAt, MeetsLoss}
use Rattle.settings_core.specs.Committing.{commit_all}
use Rattle.settings_core.specs.Deliveries.{Delivery, Give, delivery, delivered, offered, deliver, deliver_all}
use Rattle.settings_core.specs.Saving.{AreLawful}
use Rattle.settings_core.specs.Loading.{LoadEnds}
use Rattle.settings_core.specs.Runtime.{RuntimeSetEnds}
use Rattle.settings_core.specs.declared.loading.Loaded.{Loaded}
use Rattle.settings_core.specs.declared.loading.LoadFault.{LoadFault}
use Rattle.settings_core.specs.declared.runtime.RuntimeFault.{RuntimeFault}
use Rattle.setting_name.specs.Match.{joined_text}
use Rattle.setting_name.specs.Name.{IsName}

-- The commands that are due lead to the same settings as all of them. Each changes something. What
-- follows is due in the settings that those before it leave.
pub record DueCommands (settings : Map) (commands : List Command) : Type 0 where
  pub same : all_applied settings (due settings commands) ≡ all_applied settings commands
  pub changes : (done : List Command) (at : Command) (left : List Command)
      → due settings commands ≡ done ++ at ∷ left → is_idle (all_applied settings done) at ≡ false
  pub behind : (others : List Command)
      → due settings (commands ++ others)
      ≡ due settings commands ++ due (all_applied settings commands) others

-- One command is due, or none if the settings are such already; a call can stop at no
-- other command.
pub record OneCommand (settings : Map) (c : Command) : Type 0 where
  pub none : is_idle settings c ≡ true → due settings (c ∷ []) ≡ []
  pub one : is_idle settings c ≡ false → due settings (c ∷ []) ≡ c ∷ []
  pub stops : (count : ℕ) (split : SplitsAt (c ∷ []) count) → (count ≡ 0) × (split.done ≡ []) × (split.at ≡ c)

-- the deliveries for the handler at this place
abbrev pub deliveries_at : ℕ → List Delivery → List Delivery
deliveries_at i deliveries = filter (λ d. d.place == i) deliveries

-- a handler's state after it was offered these, in their order
abbrev pub offered_all : HandlerState → List Delivery → HandlerState
offered_all h deliveries = fold (λ s d. offered s d.rest d.value) h deliveries

-- its earlier values overlaid, in order, with those that it accepts
abbrev pub holds_all : HandlerState → List Delivery → HandlerState
holds_all h deliveries =
    record h {
      held = fold (λ m d. insert m d.rest d.value) h.held (filter (λ d. accepts h.kind d.value) deliveries);
    }

-- each handler holds its earlier values overlaid with those of its deliveries that it accepts
abbrev pub IsDelivered : List Registered → List Delivery → ℕ → Type 0
IsDelivered handlers deliveries i =
    i < length handlers
    → state_at (deliver_all handlers deliveries) i
    ≡ holds_all (state_at handlers i) (deliveries_at i deliveries)

-- the settings have this value for a rest of the handler's subtree, for whose name it is the best,
-- and it accepts the value
pub record IsFor (handlers : List Registered) (settings : Map) (place : ℕ) (rest value : List ℕ) :
    Type 0 where
  pub stored : IsStored settings (joined_text (get_or handlers place nobody).subtree rest) value
  pub best_is : best (subtrees handlers) (joined_text (get_or handlers place nobody).subtree rest)
      ≡ Some place
  pub accepted : accepts (state_at handlers place).kind value ≡ true

-- after a load of all settings, a handler that was empty holds exactly the stored values of the
-- names whose best handler it is, as far as it accepts them
abbrev pub HoldsStored : ℕ → List Registered → Map → ℕ → Type 0
HoldsStored limit handlers settings place =
    IsSettings limit settings → place < length handlers → (state_at handlers place).held ≡ empty
    → (rest value : List ℕ)
    → get
    (state_at (deliver_all handlers (delivered (subtrees handlers) None (entries settings))) place).held
    rest ≡ Some value ↔ IsFor handlers settings place rest value

-- the units before the last loss of the device spell no other record by chance
abbrev pub HasNoChance : (Loss → Bool) → Device → Type 0
HasNoChance chance d = (loss : Loss) → d.last_loss ≡ Some loss → chance loss ≡ false

-- then a call that was cut leaves the settings as the first so many of its commands make them
abbrev pub LeavesPart : Room → (Loss → Bool) → (Command → ℕ → Map → Map → Type 0) → Device → Device → Map
    → Map → List Command → ℕ → Type 0
LeavesPart room chance tears old new before after commands count =
    MeetsLoss room chance tears old new before after commands count → old.is_on ≡ true
    → HasNoChance chance new → IsPartApplied before commands after

-- ---- lawful registries

-- A lawful registry stays lawful when a new handler is registered, when a handler takes a value of
-- a lawful name, when settings are loaded, and when handlers are committed.
pub record StaysLawful (limit : ℕ) (handlers : List Registered) : Type 0 where
  pub registers : (subtree : List ℕ) (kind : HandlerKind)
      → AreLawful limit (handlers ++ record { subtree = subtree; state = fresh kind } ∷ [])
  pub takes : (name value : List ℕ) (d : Delivery) → IsName name → IsValue limit value
      → delivery (subtrees handlers) (name, value) ≡ Some d → AreLawful limit (deliver handlers d)
  pub loads : (subtree : Option (List ℕ)) (settings : Map) → IsSettings limit settings
      → AreLawful limit (deliver_all handlers (delivered (subtrees handlers) subtree (entries settings)))
  pub loads_some : (subtree : Option (List ℕ)) (settings : Map) (count : ℕ) → IsSettings limit settings
      → AreLawful limit
      (deliver_all handlers (delivered (subtrees handlers) subtree (take count (entries settings))))
  pub commits : (subtree : Option (List ℕ)) → AreLawful limit (commit_all subtree handlers)
  -- so it stays lawful however a load or a set at run time ends
  pub load_ends : (up : Bool) (after : List Registered) (old new : Option (List Give))
      (subtree : Option (List ℕ)) (settings : Map) (result : Result Loaded LoadFault)
      → IsSettings limit settings → LoadEnds up handlers after old new subtree (entries settings) result
      → AreLawful limit after
  pub set_ends : (after : List Registered) (name value : List ℕ) (result : Result (Unit {0}) RuntimeFault)
      → IsName name → IsValue limit value → RuntimeSetEnds handlers after name value result
      → AreLawful limit after

-- A registry as the list of its handlers.
use Rattle.std.specs.Prelude.{◌≡◌, ℕ, List, map, ◌++◌, ◌∷◌, [], Result, Ok, Err, Bool, true, false, get_or, set}
use Rattle.std.specs.List.{list_any}
use Rattle.std.specs.Str.{bytes_eq}
use Rattle.handlers.specs.declared.registry.Row.{Row}
use Rattle.handlers.specs.declared.registry.RegistryOf.{RegistryOf}
use Rattle.handlers.specs.declared.registry.RegisterFault.{RegisterFault}
use Rattle.handlers.specs.declared.registry.RegisterFault.TheVariants.{Exists, NoMemory}
use Rattle.handlers.specs.declared.handler.HandlerKind.TheVariants.{Table}
use Rattle.handlers.specs.declared.handler.SetRefusal.{SetRefusal}
use Rattle.handlers.specs.Held.{HandlerState, SetEnds, committed, fresh}

-- a handler that is registered
pub record Registered : Type 0 where
  pub subtree : List ℕ
  pub state : HandlerState

abbrev pub subtrees : List Registered → List (List ℕ)
subtrees handlers = map (λ h. h.subtree) handlers

module _ {B : Type 0} where
  -- whether a subtree is registered
  abbrev pub has_subtree : List (Row B) → List ℕ → Bool
  has_subtree rows subtree = list_any (λ row. bytes_eq subtree row.subtree) rows

  -- how a registration ends; a handler that is refused comes back
  abbrev pub RegisterEnds : List (Row B) → List (Row B) → List ℕ → B → Result (Unit {0}) (RegisterFault × B)
      → Type 0
  RegisterEnds before after subtree handler (Ok x) =
      (has_subtree before subtree ≡ false)
      × (after ≡ before ++ record { subtree = subtree; handler = handler } ∷ [])
  RegisterEnds before after subtree handler (Err (Exists, back)) =
      (has_subtree before subtree ≡ true) × (after ≡ before) × (back ≡ handler)
  RegisterEnds before after subtree handler (Err (NoMemory, back)) =
      (has_subtree before subtree ≡ false) × (after ≡ before) × (back ≡ handler)

  -- a handler with its subtree, by the state that it is in
  abbrev pub row_of : (B → HandlerState) → Row B → Registered
  row_of state row = record { subtree = row.subtree; state = state row.handler }

  -- the handlers of a registry, by their states
  abbrev pub registered : (B → HandlerState) → RegistryOf B → List Registered
  registered state registry = map (row_of state) registry.rows.items

-- ---- one handler

-- what stands for a place past the last one
abbrev pub nobody : Registered
nobody = record { subtree = []; state = fresh Table }

-- the handlers once the one at this place is in this state; all others stay
abbrev pub with_state : List Registered → ℕ → HandlerState → List Registered
with_state handlers i state = set handlers i (record (get_or handlers i nobody) { state = state })

abbrev pub state_at : List Registered → ℕ → HandlerState
state_at handlers i = (get_or handlers i nobody).state

-- a set of the handler at this place
abbrev pub SetsAt : List Registered → List Registered → ℕ → List ℕ → List ℕ → Result (Unit {0}) SetRefusal
    → Type 0
SetsAt before after i rest value result =
    (next : HandlerState) × (after ≡ with_state before i next)
    × SetEnds (state_at before i) next rest value result

-- a commit of the handler at this place
abbrev pub commit_at : List Registered → ℕ → List Registered
commit_at handlers i = with_state handlers i (committed (state_at handlers i))

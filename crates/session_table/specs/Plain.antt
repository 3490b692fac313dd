-- The answers if no power is lost and nothing is refused for want of room. Then only the units
-- are left open.
use Rattle.std.specs.Prelude.{◌≡◌, ℕ, ◌+◌, ◌-◌, ◌==◌, Bool, true, false, not, ◌&&◌, List, [], ◌∷◌, ◌++◌, length, take, map, fold, count_by, Option, Some, None, if◌then◌else◌}
use Rattle.std.specs.FinMap.{get, entries, empty}
use Rattle.script_lines.specs.declared.line.Line.{Line}
use Rattle.script_lines.specs.declared.line.Line.TheVariants.{Set, Get, Del as Delete, Register, Load, Direct, Save, Commit, RunSet, RunGet, Names, Mount, Cut, Uncut, Migrate}
use Rattle.script_lines.specs.declared.answer.Answer.{Answer}
use Rattle.script_lines.specs.declared.answer.Answer.TheVariants.{Done, Value, Absent, Lost, Off, NoSpace, TooMany, Exists, NoKind, NoTarget, Rejected, NoHandler, Loaded, Direct as Applied, Saved, Names as Named}
use Rattle.script_lines.specs.declared.answer.SaveEnd.TheVariants.{Whole, NoSpace as NoRoom, TooMany as ManyNames}
use Rattle.handlers.specs.declared.handler.HandlerKind.{HandlerKind}
use Rattle.handlers.specs.Held.{fresh}
use Rattle.handlers.specs.Registry.{subtrees}
use Rattle.backend_api.specs.Commands.{Command, applied, all_applied}
use Rattle.backend_api.specs.Map.{Map}
use Rattle.backend_api.specs.Room.{Room}
use Rattle.settings_core.specs.Carrying.{is_too_many}
use Rattle.settings_core.specs.Committing.{commit_all}
use Rattle.settings_core.specs.Deliveries.{Delivery, delivery, deliver, deliver_all, is_taken, settings_under}
use Rattle.session_table.specs.Commands.{commands_of, all_puts}
use Rattle.session_table.specs.Rules.{Rules}
use Rattle.session_table.specs.State.{State}
use Rattle.session_table.specs.Step.{reported, as_pair, is_registered, without_first, deliveries_of, give, held_for, needs_power}

-- an answer but for its units
abbrev pub without_units : Answer → Answer
without_units (Done units) = Done 0
without_units (TooMany units) = TooMany 0
without_units (Saved pairs units end) = Saved pairs 0 end
without_units answer = answer

-- refused for want of room
abbrev pub is_refused : Answer → Bool
is_refused (NoSpace units need live) = true
is_refused (Saved pairs units (NoRoom need live)) = true
is_refused answer = false

-- neither lost nor refused for want of room
abbrev pub is_plain : Answer → Bool
is_plain (Lost units chance) = false
is_plain answer = not (is_refused answer)

-- the answer to a line, and the state after it
pub record Outcome : Type 0 where
  pub answer : Answer
  pub state : State

abbrev pub ComesOut : Outcome → Answer → State → Type 0
ComesOut outcome answer new = (without_units answer ≡ outcome.answer) × (new ≡ outcome.state)

-- ---- changing settings

-- how many of the commands come before the first that puts a name too many
abbrev pub free_count : Room → Map → List Command → ℕ
free_count room settings [] = 0
free_count room settings (command ∷ commands) =
    if is_too_many room settings command then 0 else free_count room (applied settings command) commands + 1

abbrev pub all_free : Room → Map → List Command → Bool
all_free room settings commands = free_count room settings commands == length commands

-- the state after these commands
abbrev pub carried_out : Rules → List Command → State → State
carried_out r commands s =
    record s {
      settings = all_applied s.settings (take (free_count (r.room s.active) s.settings commands) commands);
    }

abbrev pub plain_change : Rules → List Command → State → Outcome
plain_change r commands s =
    record {
      answer = if all_free (r.room s.active) s.settings commands then Done 0 else TooMany 0;
      state = carried_out r commands s;
    }

abbrev pub plain_save : Rules → List Command → State → Outcome
plain_save r commands s = record {
  answer =
      Saved (reported (free_count (r.room s.active) s.settings commands)) 0
      (if all_free (r.room s.active) s.settings commands then Whole else ManyNames);
  state = carried_out r commands s;
}

-- ---- asking for settings

abbrev pub value_or_absent : Option (List ℕ) → Answer
value_or_absent (Some value) = Value value
value_or_absent None = Absent

-- ---- handlers

abbrev pub plain_taking : List ℕ → HandlerKind → Option (List HandlerKind) → State → Outcome
plain_taking subtree kind None s = record { answer = NoKind; state = s }
plain_taking subtree kind (Some others) s =
    record {
      answer = Done 0;
      state = record s {
        registry = s.registry ++ record { subtree = subtree; state = fresh kind } ∷ [];
        pool = others;
      };
    }

abbrev pub plain_register : List ℕ → HandlerKind → State → Outcome
plain_register subtree kind s =
    if is_registered subtree s then record { answer = Exists; state = s }
    else plain_taking subtree kind (without_first kind s.pool) s

abbrev pub plain_load : Option (List ℕ) → State → Outcome
plain_load subtree s = record {
  answer =
      Loaded (map (give s.registry) (deliveries_of subtree s))
      (count_by (is_taken s.registry) (deliveries_of subtree s))
      (count_by (λ d. not (is_taken s.registry d)) (deliveries_of subtree s))
      (length (settings_under subtree (entries s.settings)) - length (deliveries_of subtree s));
  state = record s { registry = commit_all subtree (deliver_all s.registry (deliveries_of subtree s)) };
}

abbrev pub plain_offer : Option Delivery → State → Outcome
plain_offer None s = record { answer = NoHandler; state = s }
plain_offer (Some d) s =
    if is_taken s.registry d then
    record { answer = Done 0; state = record s { registry = deliver s.registry d } } else
    record { answer = Rejected; state = s }

abbrev pub plain_asked : Option (Option (List ℕ)) → Answer
plain_asked None = NoHandler
plain_asked (Some held) = value_or_absent held

-- ---- areas

abbrev pub plain_move : Rules → Option ℕ → State → Outcome
plain_move r None s = record { answer = NoTarget; state = s }
plain_move r (Some to) s =
    if all_free (r.room to) empty (all_puts s.settings) then
    record { answer = Done 0; state = record s { active = to } } else
    record { answer = TooMany 0; state = s }

-- ---- all lines

abbrev pub plain_on : Rules → Line → State → Outcome
plain_on r (Set name value) s = plain_change r (commands_of (Set name value) s) s
plain_on r (Delete name) s = plain_change r (commands_of (Delete name) s) s
plain_on r (Save subtree) s = plain_save r (commands_of (Save subtree) s) s
plain_on r (Get name) s = record { answer = value_or_absent (get s.settings name); state = s }
plain_on r (Direct subtree) s =
    record { answer = Applied (map as_pair (settings_under subtree (entries s.settings))); state = s }
plain_on r Names s =
    record { answer = Named (r.label s.active) (map as_pair (entries s.settings)); state = s }
plain_on r (Register subtree kind) s = plain_register subtree kind s
plain_on r (Load subtree) s = plain_load subtree s
plain_on r Commit s = record { answer = Done 0; state = record s { registry = commit_all None s.registry } }
plain_on r (RunSet name value) s = plain_offer (delivery (subtrees s.registry) (name, value)) s
plain_on r (RunGet name) s = record { answer = plain_asked (held_for s.registry name); state = s }
plain_on r Mount s = record { answer = Done 0; state = record s { is_on = true } }
plain_on r (Cut units) s = record { answer = Done 0; state = s }
plain_on r Uncut s = record { answer = Done 0; state = s }
plain_on r Migrate s = plain_move r (r.target s.active) s

abbrev pub plain : Rules → Line → State → Outcome
plain r line s =
    if needs_power line && not s.is_on then record { answer = Off; state = s } else plain_on r line s

-- the answers of a whole run
abbrev pub plain_answers : Rules → List Line → State → List Answer
plain_answers r [] s = []
plain_answers r (line ∷ lines) s = (plain r line s).answer ∷ plain_answers r lines (plain r line s).state

abbrev pub plain_state : Rules → List Line → State → State
plain_state r lines s = fold (λ was line. (plain r line was).state) s lines

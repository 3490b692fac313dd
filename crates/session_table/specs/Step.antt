-- The table: which answers a plain map allows to a line, and the state after each. It leaves open
-- whether power is lost in a line, how many of its commands were carried out then and whether units
-- spelt another record; whether a refusal comes that the room allows; which area is active after a
-- migration that was cut; and the units.
use Rattle.std.specs.Prelude.{◌+◌, ◌≡◌, ◌⊎◌, ℕ, ◌<◌, ◌≤◌, Bool, true, false, not, List, [], ◌∷◌, ◌++◌, length, map, count_by, Option, Some, None, option_map, if◌then◌else◌}
use Rattle.std.specs.List.{list_any}
use Rattle.std.specs.Str.{bytes_eq}
use Rattle.std.specs.FinMap.{get, entries, empty}
use Rattle.script_lines.specs.declared.line.Line.{Line}
use Rattle.script_lines.specs.declared.line.Line.TheVariants.{Set, Get, Del as Delete, Register, Load, Direct, Save, Commit, RunSet, RunGet, Names, Mount, Cut, Uncut, Migrate}
use Rattle.script_lines.specs.declared.answer.Answer.{Answer}
use Rattle.script_lines.specs.declared.answer.Answer.TheVariants.{Done, Value, Absent, Lost, Off, NoSpace, TooMany, Exists, NoKind, NoTarget, Rejected, NoHandler, Loaded, Direct as Applied, Saved, Names as Named}
use Rattle.script_lines.specs.declared.answer.SaveEnd.TheVariants.{Whole, NoSpace as NoRoom, TooMany as ManyNames}
use Rattle.script_lines.specs.declared.lists.Give.{Give}
use Rattle.script_lines.specs.declared.lists.Pair.{Pair}
use Rattle.handlers.specs.declared.handler.HandlerKind.{HandlerKind}
use Rattle.handlers.specs.declared.handler.HandlerKind.TheVariants.{Table, Counter, Level}
use Rattle.handlers.specs.Held.{fresh}
use Rattle.handlers.specs.Registry.{Registered, subtrees, state_at}
use Rattle.backend_api.specs.Commands.{Command, all_applied}
use Rattle.backend_api.specs.Map.{Map, IsStored, IsAbsent}
use Rattle.backend_api.specs.Room.{command_units}
use Rattle.settings_core.specs.Carrying.{AreFree, MeetsNoRoom}
use Rattle.settings_core.specs.Committing.{commit_all}
use Rattle.settings_core.specs.Saving.{more_pairs}
use Rattle.settings_core.specs.Deliveries as deliveries
use Rattle.settings_core.specs.Deliveries.{Delivery, delivery, delivered, deliver, deliver_all, is_taken, settings_under}
use Rattle.session_table.specs.Commands.{commands_of, all_puts, StopsForNames, StopsForPower, StopsTorn}
use Rattle.session_table.specs.Rules.{Rules, IsCounted}
use Rattle.session_table.specs.State.{State, IsOn, IsOff}

-- ---- changing settings

-- all commands are carried out; units are spent exactly if there is one
pub record CommandsDone (r : Rules) (commands : List Command) (units : ℕ) (old new : State) : Type 0 where
  pub free : AreFree (r.room old.active) old.settings commands
  pub none : commands ≡ [] → units ≡ 0
  pub some : ¬ (commands ≡ []) → IsCounted r.last → 0 < units
  pub state : new ≡ record old { settings = all_applied old.settings commands }

-- Power is off, and the first so many of the commands were carried out; by chance also what the
-- units of the next one spell.
abbrev pub CommandsLost : Rules → List Command → Bool → State → State → Type 0
CommandsLost r commands false old new =
    StopsForPower (r.room old.active) commands old.settings new.settings
    × (new ≡ record old { settings = new.settings; is_on = false })
CommandsLost r commands true old new =
    StopsTorn (r.room old.active) (r.tears old.active) commands old.settings new.settings
    × (new ≡ record old { settings = new.settings; is_on = false })

-- a set or a delete, which stands for one command or none
abbrev pub Changes : Rules → List Command → Answer → State → State → Type 0
Changes r commands (Done units) old new =
    (units ≤ command_units (r.geometry old.active)) × CommandsDone r commands units old new
Changes r commands (TooMany units) old new =
    (units ≡ 0) × StopsForNames (r.room old.active) commands 0 old.settings new.settings × (new ≡ old)
Changes r commands (NoSpace units need live) old new =
    (units ≤ command_units (r.geometry old.active))
    × MeetsNoRoom (r.room old.active) (r.geometry old.active).sectors old.settings new.settings commands 0
    need live × (new ≡ old)
Changes r commands (Lost units chance) old new =
    (units ≤ command_units (r.geometry old.active)) × CommandsLost r commands chance old new
Changes r commands answer old new = ⊥

-- a count stays at 2^32 - 1
abbrev pub reported : ℕ → ℕ
reported count = more_pairs 0 count

-- a save, which stands for any number of commands; it spends nothing if it carried none of them out
-- and the name of the first would be one too many
abbrev pub Saves : Rules → List Command → Answer → State → State → Type 0
Saves r commands (Saved pairs units Whole) old new =
    (pairs ≡ reported (length commands)) × CommandsDone r commands units old new
Saves r commands (Saved pairs units ManyNames) old new =
    (done : ℕ) × (pairs ≡ reported done)
    × StopsForNames (r.room old.active) commands done old.settings new.settings
    × (new ≡ record old { settings = new.settings }) × (done ≡ 0 → units ≡ 0)
Saves r commands (Saved pairs units (NoRoom need live)) old new =
    (done : ℕ) × (pairs ≡ reported done)
    × MeetsNoRoom (r.room old.active) (r.geometry old.active).sectors old.settings new.settings commands
    done need live × (new ≡ record old { settings = new.settings })
Saves r commands (Lost units chance) old new = CommandsLost r commands chance old new
Saves r commands answer old new = ⊥

-- ---- asking for settings

abbrev pub Gets : List ℕ → Answer → State → State → Type 0
Gets name (Value value) old new = IsStored old.settings name value × (new ≡ old)
Gets name Absent old new = IsAbsent old.settings name × (new ≡ old)
Gets name answer old new = ⊥

-- a setting as it is reported
abbrev pub as_pair : List ℕ × List ℕ → Pair
as_pair setting = record { name = setting.0; value = setting.1 }

-- the settings of a subtree
abbrev pub Reports : Option (List ℕ) → Answer → State → State → Type 0
Reports subtree (Applied pairs) old new =
    (pairs ≡ map as_pair (settings_under subtree (entries old.settings))) × (new ≡ old)
Reports subtree answer old new = ⊥

abbrev pub ReportsAll : Rules → Answer → State → State → Type 0
ReportsAll r (Named active pairs) old new =
    (active ≡ r.label old.active) × (pairs ≡ map as_pair (entries old.settings)) × (new ≡ old)
ReportsAll r answer old new = ⊥

-- ---- handlers

abbrev pub is_registered : List ℕ → State → Bool
is_registered subtree s = list_any (bytes_eq subtree) (subtrees s.registry)

abbrev pub same_kind : HandlerKind → HandlerKind → Bool
same_kind Table Table = true
same_kind Counter Counter = true
same_kind Level Level = true
same_kind kind other = false

-- the kinds that are left once the first one like this was taken; `None` if there is none
abbrev pub without_first : HandlerKind → List HandlerKind → Option (List HandlerKind)
without_first kind [] = None
without_first kind (first ∷ rest) =
    if same_kind kind first then Some rest else option_map (λ others. first ∷ others)
    (without_first kind rest)

abbrev pub Registers : List ℕ → HandlerKind → Answer → State → State → Type 0
Registers subtree kind Exists old new = (is_registered subtree old ≡ true) × (new ≡ old)
Registers subtree kind NoKind old new =
    (is_registered subtree old ≡ false) × (without_first kind old.pool ≡ None) × (new ≡ old)
Registers subtree kind (Done units) old new =
    (units ≡ 0) × (is_registered subtree old ≡ false) × (without_first kind old.pool ≡ Some new.pool)
    ×
    (new
    ≡ record old {
      registry = old.registry ++ record { subtree = subtree; state = fresh kind } ∷ [];
      pool = new.pool;
    })
Registers subtree kind answer old new = ⊥

abbrev pub deliveries_of : Option (List ℕ) → State → List Delivery
deliveries_of subtree s = delivered (subtrees s.registry) subtree (entries s.settings)

-- a delivery as it is reported
abbrev pub give : List Registered → Delivery → Give
give handlers d =
    let given = deliveries.give handlers d in
    record { subtree = given.subtree; rest = given.rest; value = given.value; taken = given.taken }

-- each setting of the subtree goes to its best handler, or is passed; then the
-- handlers are committed
abbrev pub Loads : Option (List ℕ) → Answer → State → State → Type 0
Loads subtree (Loaded gives taken rejected passed) old new =
    (gives ≡ map (give old.registry) (deliveries_of subtree old))
    × (taken ≡ count_by (is_taken old.registry) (deliveries_of subtree old))
    × (rejected ≡ count_by (λ d. not (is_taken old.registry d)) (deliveries_of subtree old))
    × (passed + length (deliveries_of subtree old) ≡ length (settings_under subtree (entries old.settings)))
    ×
    (new
    ≡ record old { registry = commit_all subtree (deliver_all old.registry (deliveries_of subtree old)) })
Loads subtree answer old new = ⊥

abbrev pub Commits : Answer → State → State → Type 0
Commits (Done units) old new = (units ≡ 0) × (new ≡ record old { registry = commit_all None old.registry })
Commits answer old new = ⊥

-- a value goes to the best handler of its name
abbrev pub Offers : List ℕ → List ℕ → Answer → State → State → Type 0
Offers name value NoHandler old new = (delivery (subtrees old.registry) (name, value) ≡ None) × (new ≡ old)
Offers name value Rejected old new =
    (d : Delivery) × (delivery (subtrees old.registry) (name, value) ≡ Some d)
    × (is_taken old.registry d ≡ false) × (new ≡ old)
Offers name value (Done units) old new =
    (d : Delivery) × (units ≡ 0) × (delivery (subtrees old.registry) (name, value) ≡ Some d)
    × (is_taken old.registry d ≡ true)
    × (new ≡ record old { registry = deliver old.registry d })
Offers name value answer old new = ⊥

-- what the best handler of a name holds for it, if there is one
abbrev pub held_for : List Registered → List ℕ → Option (Option (List ℕ))
held_for handlers name =
    option_map (λ d. get (state_at handlers d.place).held d.rest) (delivery (subtrees handlers) (name, []))

abbrev pub Asks : List ℕ → Answer → State → State → Type 0
Asks name NoHandler old new = (held_for old.registry name ≡ None) × (new ≡ old)
Asks name (Value value) old new = (held_for old.registry name ≡ Some (Some value)) × (new ≡ old)
Asks name Absent old new = (held_for old.registry name ≡ Some None) × (new ≡ old)
Asks name answer old new = ⊥

-- ---- power and areas

-- the settings stay, even if power is lost
abbrev pub Mounts : Answer → State → State → Type 0
Mounts (Done units) old new = new ≡ record old { is_on = true }
Mounts (Lost units false) old new = new ≡ record old { is_on = false }
Mounts answer old new = ⊥

-- a loss is planned, or the plan is dropped
abbrev pub Arms : Answer → State → State → Type 0
Arms (Done units) old new = (units ≡ 0) × (new ≡ old)
Arms answer old new = ⊥

-- All settings are put, one by one, into the empty target, which then becomes the active area.
abbrev pub MovesTo : Rules → ℕ → Answer → State → State → Type 0
MovesTo r to (Done units) old new =
    AreFree (r.room to) empty (all_puts old.settings) × (new ≡ record old { active = to })
MovesTo r to (TooMany units) old new =
    (done : ℕ) × (now : Map) × StopsForNames (r.room to) (all_puts old.settings) done empty now × (new ≡ old)
MovesTo r to (NoSpace units need live) old new =
    (done : ℕ) × (now : Map)
    × MeetsNoRoom (r.room to) (r.geometry to).sectors empty now (all_puts old.settings) done need live
    × (new ≡ old)
MovesTo r to (Lost units false) old new =
    (new ≡ record old { is_on = false })
    ⊎ (AreFree (r.room to) empty (all_puts old.settings)
    × (new ≡ record old { is_on = false; active = to }))
MovesTo r to answer old new = ⊥

abbrev pub Migrates : Rules → Answer → State → State → Type 0
Migrates r NoTarget old new = (r.target old.active ≡ None) × (new ≡ old)
Migrates r answer old new = (to : ℕ) × (r.target old.active ≡ Some to) × MovesTo r to answer old new

-- ---- all lines

-- lines that need power; the others are carried out with power off too
abbrev pub needs_power : Line → Bool
needs_power Mount = false
needs_power (Cut units) = false
needs_power Uncut = false
needs_power line = true

abbrev pub Answers : Rules → Line → Answer → State → State → Type 0
Answers r (Set name value) answer old new = Changes r (commands_of (Set name value) old) answer old new
Answers r (Delete name) answer old new = Changes r (commands_of (Delete name) old) answer old new
Answers r (Save subtree) answer old new = Saves r (commands_of (Save subtree) old) answer old new
Answers r (Get name) answer old new = Gets name answer old new
Answers r (Direct subtree) answer old new = Reports subtree answer old new
Answers r Names answer old new = ReportsAll r answer old new
Answers r (Register subtree kind) answer old new = Registers subtree kind answer old new
Answers r (Load subtree) answer old new = Loads subtree answer old new
Answers r Commit answer old new = Commits answer old new
Answers r (RunSet name value) answer old new = Offers name value answer old new
Answers r (RunGet name) answer old new = Asks name answer old new
Answers r Mount answer old new = Mounts answer old new
Answers r (Cut units) answer old new = Arms answer old new
Answers r Uncut answer old new = Arms answer old new
Answers r Migrate answer old new = Migrates r answer old new

-- with power off the answer is `off` and nothing changes; else it is the line's
abbrev pub Step : Rules → Line → Answer → State → State → Type 0
Step r line Off old new = (needs_power line ≡ true) × IsOff old × (new ≡ old)
Step r line answer old new = (needs_power line ≡ true → IsOn old) × Answers r line answer old new

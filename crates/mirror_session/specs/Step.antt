-- The table: which answers a plain map allows to a line, and the state after each. It leaves
-- open whether power is lost in a line, which of the two areas a command that was cut has
-- reached, and the units.
use Rattle.std.specs.Prelude.{◌≡◌, ◌⊎◌, ℕ, ◌<◌, ◌≤◌, ◌==◌, Bool, true, false, List, [], ◌∷◌, map, Some, None, if◌then◌else◌}
use Rattle.std.specs.FinMap.{entries}
use Rattle.script_lines.specs.declared.answer.Answer.{Answer as settings_answer}
use Rattle.script_lines.specs.declared.answer.Answer.TheVariants as settings
use Rattle.backend_api.specs.Commands.{Command, applied, all_applied}
use Rattle.backend_api.specs.Commands.Command.{Put, Del as Delete}
use Rattle.backend_api.specs.Map.{Map, IsStored, IsAbsent}
use Rattle.settings_core.specs.Carrying.{command_of, is_idle}
use Rattle.session_table.specs.Step.{as_pair}
use Rattle.mirror_session.specs.declared.line.Line.{Line}
use Rattle.mirror_session.specs.declared.line.Line.TheVariants.{Set, Get, Del, Names, Mount, Cut, Uncut, Blank}
use Rattle.mirror_session.specs.declared.answer.Answer.{Answer}
use Rattle.mirror_session.specs.declared.answer.Answer.TheVariants.{Plain, On, NoArea, NotYet}
use Rattle.session_table.specs.Rules.{IsCounted}
use Rattle.mirror_session.specs.State.{State, Rules, IsOn, IsOff, trusted_of}

-- ---- changing settings

-- the command, if it changes something
abbrev pub changing : Map → Command → List Command
changing m command = if is_idle m command then [] else command ∷ []

-- The command that a line stands for, if it changes something. To set the empty value is to delete.
abbrev pub commands_of : Line → Map → List Command
commands_of (Set name value) m = changing m (command_of name value)
commands_of (Del name) m = changing m (Delete name)
commands_of line m = []

-- the name is one too many in neither area
abbrev pub IsFree : Rules → Map → Command → Type 0
IsFree r m (Put name value) = r.is_too_many m name ≡ false
IsFree r m (Delete name) = Unit {0}

-- both areas have room
abbrev pub HasRoom : Rules → Map → Command → Type 0
HasRoom r m (Put name value) = r.lacks m name value ≡ None
HasRoom r m (Delete name) = Unit {0}

-- the command is carried out in both areas; one that changes nothing spends nothing
pub record IsDone (r : Rules) (command : Command) (units : ℕ) (old new : State) : Type 0 where
  pub free : IsFree r old.settings command
  pub room : is_idle old.settings command ≡ false → HasRoom r old.settings command
  pub none : is_idle old.settings command ≡ true → units ≡ 0
  pub some : is_idle old.settings command ≡ false → IsCounted r.last → 0 < units
  pub at_most : units ≤ r.most
  pub state : let after = all_applied old.settings (changing old.settings command) in
      new ≡ record old { settings = after; other = after }

-- without the command, or with it
abbrev pub HasOrNot : Command → Map → Map → Type 0
HasOrNot command before after = (after ≡ before) ⊎ (after ≡ applied before command)

-- Power was lost in a command that both areas take. The area that is read has it or not. The other
-- one has it only if that one has, or if that one is read because the named one is all FF.
pub record IsCut (r : Rules) (command : Command) (units : ℕ) (old new : State) : Type 0 where
  pub free : IsFree r old.settings command
  pub room : HasRoom r old.settings command
  pub changes : is_idle old.settings command ≡ false
  pub here : HasOrNot command old.settings new.settings
  pub there :
      (new.other ≡ old.settings)
      ⊎
      ((new.other ≡ applied old.settings command)
      × ((new.settings ≡ applied old.settings command) ⊎ (new.gone ≡ true)))
  pub at_most : units ≤ r.most
  pub state : new ≡ record old { settings = new.settings; other = new.other; gone = new.gone; is_on = false }

-- A put is refused before anything is programmed: first for its name, then for room.
abbrev pub RefusesName : Rules → Map → Command → Type 0
RefusesName r m (Put name value) = r.is_too_many m name ≡ true
RefusesName r m (Delete name) = ⊥

abbrev pub RefusesRoom : Rules → Map → Command → ℕ → ℕ → Type 0
RefusesRoom r m (Put name value) need live =
    (r.is_too_many m name ≡ false) × (is_idle m (Put name value) ≡ false)
    × (r.lacks m name value ≡ Some (need, live))
RefusesRoom r m (Delete name) need live = ⊥

abbrev pub Changes : Rules → Command → settings_answer → State → State → Type 0
Changes r command (settings.Done units) old new = IsDone r command units old new
Changes r command (settings.TooMany units) old new =
    (units ≡ 0) × RefusesName r old.settings command × (new ≡ old)
Changes r command (settings.NoSpace units need live) old new =
    (units ≡ 0) × RefusesRoom r old.settings command need live × (new ≡ old)
Changes r command (settings.Lost units false) old new = IsCut r command units old new
Changes r command answer old new = ⊥

-- ---- asking for settings

abbrev pub Gets : List ℕ → settings_answer → State → State → Type 0
Gets name (settings.Value value) old new = IsStored old.settings name value × (new ≡ old)
Gets name settings.Absent old new = IsAbsent old.settings name × (new ≡ old)
Gets name answer old new = ⊥

-- The label of the area that is read, which the selector names, and all settings.
abbrev pub ReportsAll : Rules → settings_answer → State → State → Type 0
ReportsAll r (settings.Names active pairs) old new =
    (active ≡ r.label (trusted_of r old)) × (pairs ≡ map as_pair (entries old.settings))
    × (old.gone ≡ false) × (new ≡ old)
ReportsAll r answer old new = ⊥

-- ---- mounts

-- the selector names the trusted area
abbrev pub renamed : Rules → State → State
renamed r s = record s { named = trusted_of r s }

-- The settings stay, and both areas read as them. The selector names the area that is read.
abbrev pub Remounts : Rules → State → State → Type 0
Remounts r old new =
    new ≡ record (renamed r old) { other = old.settings; gone = false; is_on = true; is_whole = true }

-- The settings stay even if power is lost, and are read in the same area. The selector names the
-- area named before, or that one. What is not read may be anything.
pub record StopsMounting (r : Rules) (old new : State) : Type 0 where
  pub names : (new.named ≡ old.named) ⊎ (new.named ≡ trusted_of r old)
  pub trusted : trusted_of r new ≡ trusted_of r old
  pub settings : new.settings ≡ old.settings
  pub off : IsOff new
  pub not_whole : new.is_whole ≡ false

abbrev pub Mounts : Rules → settings_answer → State → State → Type 0
Mounts r (settings.Done units) old new = Remounts r old new
Mounts r (settings.Lost units false) old new = StopsMounting r old new
Mounts r answer old new = ⊥

-- ---- power

-- a loss is planned, or the plan is dropped
abbrev pub Arms : settings_answer → State → State → Type 0
Arms (settings.Done units) old new = (units ≡ 0) × (new ≡ old)
Arms answer old new = ⊥

-- ---- replacing an area

-- A blank area replaces this one. If that was the trusted one, the mirror reads as the other one
-- did. What is not read may be anything.
abbrev pub Replaces : Rules → ℕ → State → State → Type 0
Replaces r place old new =
    let after = if place == trusted_of r old then old.other else old.settings in
    new ≡ record old { settings = after; other = new.other; gone = new.gone; is_whole = false }

abbrev pub Blanks : Rules → List ℕ → Answer → State → State → Type 0
Blanks r label On old new = IsOn old × (new ≡ old)
Blanks r label NoArea old new = IsOff old × (r.place label ≡ None) × (new ≡ old)
Blanks r label NotYet old new =
    IsOff old × ((place : ℕ) × (r.place label ≡ Some place)) × (old.is_whole ≡ false) × (new ≡ old)
Blanks r label (Plain (settings.Done units)) old new =
    (units ≡ 0) × IsOff old × (old.is_whole ≡ true)
    × ((place : ℕ) × (r.place label ≡ Some place) × Replaces r place old new)
Blanks r label answer old new = ⊥

-- ---- all lines

-- lines that need power; the others are carried out with power off too
abbrev pub needs_power : Line → Bool
needs_power Mount = false
needs_power (Cut units) = false
needs_power Uncut = false
needs_power (Blank label) = false
needs_power line = true

-- the answers that lines on settings give too
abbrev pub Reports : Rules → Line → settings_answer → State → State → Type 0
Reports r (Set name value) answer old new = Changes r (command_of name value) answer old new
Reports r (Del name) answer old new = Changes r (Delete name) answer old new
Reports r (Get name) answer old new = Gets name answer old new
Reports r Names answer old new = ReportsAll r answer old new
Reports r Mount answer old new = Mounts r answer old new
Reports r (Cut units) answer old new = Arms answer old new
Reports r Uncut answer old new = Arms answer old new
Reports r (Blank label) answer old new = Blanks r label (Plain answer) old new

-- with power off the answer is `off` and nothing changes; else it is the line's
abbrev pub Step : Rules → Line → Answer → State → State → Type 0
Step r line (Plain settings.Off) old new = (needs_power line ≡ true) × IsOff old × (new ≡ old)
Step r line (Plain answer) old new = (needs_power line ≡ true → IsOn old) × Reports r line answer old new
Step r (Blank label) answer old new = Blanks r label answer old new
Step r line answer old new = ⊥

-- What becomes of the commands of a run, including those whose units spelt another record when
-- power was lost.
use Rattle.std.specs.Prelude.{◌≡◌, ℕ, true, List, [], ◌∷◌, ◌++◌, map}
use Rattle.script_lines.specs.declared.line.Line.{Line}
use Rattle.script_lines.specs.declared.answer.Answer.{Answer}
use Rattle.script_lines.specs.declared.answer.Answer.TheVariants.{Lost}
use Rattle.backend_api.specs.Commands.{Command, applied}
use Rattle.backend_api.specs.Map.{Map}
use Rattle.session_table.specs.Commands.{commands_of}
use Rattle.session_table.specs.Follows.{Follows}
use Rattle.session_table.specs.Prefix.{Stand}
use Rattle.session_table.specs.Rules.{Rules}
use Rattle.session_table.specs.State.{State}
use Rattle.session_table.specs.Step.{Step}

-- a command was carried out; or so many units of it, in the area at this place, spelt
-- another record
pub data Deed : Type 0 where
  did : Command → Deed
  tore : ℕ → Command → ℕ → Deed

abbrev pub Does : Rules → Deed → Map → Map → Type 0
Does r (did command) old new = new ≡ applied old command
Does r (tore place command units) old new = r.tears place command units old new

-- the deeds one after another
abbrev pub DoAll : Rules → List Deed → Map → Map → Type 0
DoAll r [] old new = new ≡ old
DoAll r (deed ∷ deeds) old new = (mid : Map) × Does r deed old mid × DoAll r deeds mid new

-- the first so many commands were carried out, and the next one was torn
pub record TornAt (place : ℕ) (commands : List Command) (deeds : List Deed) : Type 0 where
  pub prefix : List Command
  pub at : Command
  pub rest : List Command
  pub units : ℕ
  pub are : commands ≡ prefix ++ at ∷ rest
  pub deeds_are : deeds ≡ map did prefix ++ tore place at units ∷ []

-- what became of a line's commands: those that stand were carried out, and the next one may have
-- been torn by chance
abbrev pub BecomeOf : ℕ → Answer → List Command → List Deed → Type 0
BecomeOf place (Lost units true) commands deeds = TornAt place commands deeds
BecomeOf place answer commands deeds =
    (done : List Command) × Stand answer commands done × (deeds ≡ map did done)

-- a state, and what became of the commands so far
pub record Applied : Type 0 where
  pub state : State
  pub deeds : List Deed

-- A line adds what became of its commands, which leads from the settings before it to those after it.
pub record DeedStep (r : Rules) (line : Line) (answer : Answer) (old new : Applied) : Type 0 where
  pub step : Step r line answer old.state new.state
  pub done : List Deed
  pub become : BecomeOf old.state.active answer (commands_of line old.state) done
  pub deeds : new.deeds ≡ old.deeds ++ done
  pub settings : DoAll r done old.state.settings new.state.settings

-- The deeds, line by line, lead from the first settings to the last ones.
pub record IsAfterDeeds (r : Rules) (lines : List Line) (answers : List Answer) (old new : State) :
    Type 0 where
  pub deeds : List Deed
  pub runs : Follows (DeedStep r) lines answers (record { state = old; deeds = [] })
      (record { state = new; deeds = deeds })
  pub settings : DoAll r deeds old.settings new.settings

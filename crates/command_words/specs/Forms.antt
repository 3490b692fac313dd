-- The forms as `clap` takes them, and what it finds by one.
use Rattle.std.specs.Prelude.{◌≡◌, true, false, List, [], ◌∷◌, map, find, Option, Some, MatchOption, codes}
use Rattle.std.specs.Option.{option_map_or}
use Rattle.std.specs.Str.{bytes_eq}
use Rattle.clap.specs.Words.{App, Row, Rule, Shape, Text, first_of, new_rule}
use Rattle.clap.specs.Simple.{new_shape}
use Rattle.command_words.specs.Commands.{IsInRange, name_of, operands_of}
use Rattle.command_words.specs.declared.commands.Command.{Command}

-- an operand that is required
abbrev pub operand_rule : Text → Rule
operand_rule id = record (new_rule id) { required = true }

-- the form of a command, from its name and the names of its operands
abbrev pub form : Text → List Text → Shape
form name operands = record (new_shape name) { rules = map operand_rule operands }

-- the program; its words begin with the name of a form
abbrev pub tool : List Shape → App
tool forms = record {
  top = record (new_shape (codes "image_tool")) { no_binary_name = true; is_leaf = false };
  subs = forms;
}

-- each form by its name, with the names of its operands in the order in which they are written
abbrev pub forms : List (Text × List Text)
forms =
    (codes "build", codes "OUT" ∷ codes "SPEC" ∷ [])
    ∷ (codes "run", codes "IMAGE" ∷ codes "SCRIPT" ∷ codes "OUT" ∷ [])
    ∷ (codes "dump", codes "IMAGE" ∷ [])
    ∷ (codes "migrate", codes "IMAGE" ∷ codes "OUT" ∷ [])
    ∷ (codes "gen", codes "OUT" ∷ codes "BACKEND" ∷ codes "N" ∷ [])
    ∷ (codes "log", codes "IMAGE" ∷ codes "SCRIPT" ∷ codes "OUT" ∷ [])
    ∷ (codes "items", codes "IMAGE" ∷ codes "SCRIPT" ∷ codes "OUT" ∷ [])
    ∷ (codes "mirror", codes "IMAGE" ∷ codes "SCRIPT" ∷ codes "OUT" ∷ [])
    ∷ []

abbrev pub image_tool : App
image_tool = tool (map (λ f. form f.0 f.1) forms)

-- the names of the operands of the form with this name
abbrev pub operand_names : Text → List Text
operand_names name = option_map_or (λ f. f.1) (find (λ f. bytes_eq f.0 name) forms) []

-- the value of each of these names
abbrev pub values_at : List Text → List Row → List (Option Text)
values_at names rows = map (λ name. first_of name rows) names

-- the operands of a command that runs a script on an image
abbrev pub script_names : List Text
script_names = codes "IMAGE" ∷ codes "SCRIPT" ∷ codes "OUT" ∷ []

-- the values are all there, and are these words
abbrev pub AreWords : List (Option Text) → List Text → Type 0
AreWords values words = values ≡ map (λ word. Some word) words

-- one of the values is not there
abbrev pub AreNoWords : List (Option Text) → Type 0
AreNoWords values = (words : List Text) → ¬ AreWords values words

-- what was found is the command: its name, and its operands under their names
pub record IsFound (found : Option (Text × List Row)) (command : Command) : Type 0 where
  pub rows : List Row
  pub at : found ≡ Some (name_of command, rows)
  pub values : values_at (operand_names (name_of command)) rows
      ≡ map (λ word. Some word) (operands_of command)
  pub in_range : IsInRange command

-- what was found is no command
abbrev pub IsNoneFound : Option (Text × List Row) → Type 0
IsNoneFound found = (command : Command) → ¬ IsFound found command

-- which command was found, if one was
abbrev pub FindsIn : Option (Text × List Row) → Option Command → Type 0
FindsIn found command = MatchOption command (IsNoneFound found) (IsFound found)

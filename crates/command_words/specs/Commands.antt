-- The words of a command.
use Rattle.std.specs.Prelude.{◌≡◌, ◌==◌, ℕ, ◌≤◌, ⊤, Bool, true, false, not, List, [], ◌∷◌, codes}
use Rattle.std.specs.Fmt.{decimal}
use Rattle.std.specs.List.{list_all}
use Rattle.std.specs.Str.{bytes_eq}
use Rattle.command_words.specs.declared.commands.Command.{Command}
use Rattle.command_words.specs.declared.commands.Command.TheVariants.{Build, Run, Dump, Migrate, Gen, Log, Items, Mirror}
use Rattle.command_words.specs.declared.commands.StoreKind.{StoreKind}
use Rattle.command_words.specs.declared.commands.StoreKind.TheVariants.{Nvs, Zms, Fcb}

-- the word is not empty, and does not begin with a hyphen (45)
abbrev pub is_operand : List ℕ → Bool
is_operand [] = false
is_operand (first ∷ rest) = not (first == 45)

-- the first word is `help`
abbrev pub asks_for_help : List (List ℕ) → Bool
asks_for_help [] = false
asks_for_help (word ∷ rest) = bytes_eq word (codes "help")

-- the word that names a kind of store
abbrev pub store_word : StoreKind → List ℕ
store_word Nvs = codes "nvs"
store_word Zms = codes "zms"
store_word Fcb = codes "fcb"

-- a generated script can have so many lines
abbrev pub IsLines : ℕ → Type 0
IsLines n = (1 ≤ n) × (n ≤ 10_000)

-- the first word of the command
abbrev pub name_of : Command → List ℕ
name_of (Build out spec) = codes "build"
name_of (Run image script out) = codes "run"
name_of (Dump image) = codes "dump"
name_of (Migrate image out) = codes "migrate"
name_of (Gen out backend n) = codes "gen"
name_of (Log image script out) = codes "log"
name_of (Items image script out) = codes "items"
name_of (Mirror image script out) = codes "mirror"

-- The operands of the command, in the order in which they are written. A number is in decimal,
-- without a sign or leading zeros.
abbrev pub operands_of : Command → List (List ℕ)
operands_of (Build out spec) = out.now ∷ spec.now ∷ []
operands_of (Run image script out) = image.now ∷ script.now ∷ out.now ∷ []
operands_of (Dump image) = image.now ∷ []
operands_of (Migrate image out) = image.now ∷ out.now ∷ []
operands_of (Gen out backend n) = out.now ∷ store_word backend ∷ decimal n ∷ []
operands_of (Log image script out) = image.now ∷ script.now ∷ out.now ∷ []
operands_of (Items image script out) = image.now ∷ script.now ∷ out.now ∷ []
operands_of (Mirror image script out) = image.now ∷ script.now ∷ out.now ∷ []

-- the numbers of the command are in range
abbrev pub IsInRange : Command → Type 0
IsInRange (Build out spec) = ⊤
IsInRange (Run image script out) = ⊤
IsInRange (Dump image) = ⊤
IsInRange (Migrate image out) = ⊤
IsInRange (Gen out backend n) = IsLines n
IsInRange (Log image script out) = ⊤
IsInRange (Items image script out) = ⊤
IsInRange (Mirror image script out) = ⊤

-- the words are this command
pub record IsCommand (words : List (List ℕ)) (command : Command) : Type 0 where
  pub written : words ≡ name_of command ∷ operands_of command
  pub operands : list_all is_operand (operands_of command) ≡ true
  pub in_range : IsInRange command

-- the words are no command
abbrev pub IsNoCommand : List (List ℕ) → Type 0
IsNoCommand words = (command : Command) → ¬ IsCommand words command

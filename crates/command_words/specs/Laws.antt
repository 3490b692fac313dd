-- Words are read in one way only.
use Rattle.std.specs.Prelude.{◌≡◌, ℕ, List}
use Rattle.std.specs.Borrow.{Bor}
use Rattle.command_words.specs.Commands.{IsCommand, name_of, operands_of}
use Rattle.command_words.specs.declared.commands.Command.{Command}
use Rattle.command_words.specs.declared.commands.Command.TheVariants.{Gen}
use Rattle.command_words.specs.declared.commands.StoreKind.{StoreKind}

-- two commands with the same words have one name and the same operands
abbrev pub OneCommand : Type 0
OneCommand = (words : List (List ℕ)) (a b : Command) → IsCommand words a → IsCommand words b
    → (name_of a ≡ name_of b) × (operands_of a ≡ operands_of b)

-- two `gen` commands with the same words have one kind of store and one number of lines
abbrev pub OneScript : Type 0
OneScript = (words : List (List ℕ)) (out out' : Bor (List ℕ)) (kind kind' : StoreKind) (n n' : ℕ)
    → IsCommand words (Gen out kind n) → IsCommand words (Gen out' kind' n') → (kind ≡ kind') × (n ≡ n')

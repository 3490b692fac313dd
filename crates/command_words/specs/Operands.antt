-- Operands that are more than text.
use Rattle.std.specs.Prelude.{◌≡◌, ◌≢◌, ℕ, List}
use Rattle.std.specs.Fmt.{decimal}
use Rattle.command_words.specs.Commands.{IsLines, store_word}
use Rattle.command_words.specs.declared.commands.StoreKind.{StoreKind}

-- the word names no kind of store
abbrev pub IsNoStoreWord : List ℕ → Type 0
IsNoStoreWord word = (kind : StoreKind) → word ≢ store_word kind

-- the word is this number of lines
abbrev pub IsLineCount : List ℕ → ℕ → Type 0
IsLineCount word n = (word ≡ decimal n) × IsLines n

-- the word is no number of lines
abbrev pub IsNoLineCount : List ℕ → Type 0
IsNoLineCount word = (n : ℕ) → ¬ IsLineCount word n

-- The lines of a script on settings: their table, and what each says.
use Rattle.std.specs.Prelude.{◌≡◌, ℕ, Option, Some, None, Result, List, [], ◌∷◌, codes}
use Rattle.std.specs.Borrow.{Bor}
use Rattle.script_lines.specs.declared.line.Line.{Line}
use Rattle.script_lines.specs.declared.line.Line.TheVariants.{Set, Get, Del, Register, Load, Direct, Save, Commit, RunSet, RunGet, Names, Mount, Cut, Uncut, Migrate}
use Rattle.script_lines.specs.declared.why.LineFault.{LineFault}
use Rattle.script_lines.specs.declared.reading.Alone.{Alone}
use Rattle.script_lines.specs.declared.reading.Alone.TheVariants as alones
use Rattle.script_lines.specs.declared.reading.OfName.{OfName}
use Rattle.script_lines.specs.declared.reading.OfName.TheVariants as names
use Rattle.script_lines.specs.declared.reading.OfSubtree.{OfSubtree}
use Rattle.script_lines.specs.declared.reading.OfSubtree.TheVariants as subtrees
use Rattle.script_lines.specs.Forms.{Form, Said, Row, form, row, words_of, ReadsRow}
use Rattle.script_lines.specs.Forms.Field.{a_name, a_kind, some_bytes, any_bytes, below}
use Rattle.script_lines.specs.Forms.Said.{name, kind, bytes, number}

abbrev pub settings_forms : List Form
settings_forms =
    form (codes "set") (a_name ∷ any_bytes ∷ [])
    ∷ form (codes "get") (a_name ∷ [])
    ∷ form (codes "del") (a_name ∷ [])
    ∷ form (codes "register") (a_name ∷ a_kind ∷ [])
    ∷ form (codes "load") []
    ∷ form (codes "load") (a_name ∷ [])
    ∷ form (codes "direct") []
    ∷ form (codes "direct") (a_name ∷ [])
    ∷ form (codes "save") []
    ∷ form (codes "save") (a_name ∷ [])
    ∷ form (codes "commit") []
    ∷ form (codes "rset") (a_name ∷ some_bytes ∷ [])
    ∷ form (codes "rget") (a_name ∷ [])
    ∷ form (codes "names") []
    ∷ form (codes "mount") []
    ∷ form (codes "cut") (below 4_294_967_296 ∷ [])
    ∷ form (codes "uncut") []
    ∷ form (codes "migrate") []
    ∷ []

-- one name, or nothing
abbrev pub one_name : Option (List ℕ) → List Said
one_name None = []
one_name (Some text) = name text ∷ []

-- what a line says
abbrev pub row_of : Line → Row
row_of (Set text value) = row (codes "set") (name text ∷ bytes value ∷ [])
row_of (Get text) = row (codes "get") (name text ∷ [])
row_of (Del text) = row (codes "del") (name text ∷ [])
row_of (Register subtree k) = row (codes "register") (name subtree ∷ kind k ∷ [])
row_of (Load subtree) = row (codes "load") (one_name subtree)
row_of (Direct subtree) = row (codes "direct") (one_name subtree)
row_of (Save subtree) = row (codes "save") (one_name subtree)
row_of Commit = row (codes "commit") []
row_of (RunSet text value) = row (codes "rset") (name text ∷ bytes value ∷ [])
row_of (RunGet text) = row (codes "rget") (name text ∷ [])
row_of Names = row (codes "names") []
row_of Mount = row (codes "mount") []
row_of (Cut units) = row (codes "cut") (number units ∷ [])
row_of Uncut = row (codes "uncut") []
row_of Migrate = row (codes "migrate") []

-- How the reading of a line ends.
abbrev pub ReadsLine : ℕ → List (List ℕ) → Result Line LineFault → Type 0
ReadsLine limit words read = ReadsRow settings_forms row_of limit words read

-- The first words of lines of one word, before a name, and before the name of a subtree.

abbrev pub alone_word : Alone → List ℕ
alone_word alones.Commit = codes "commit"
alone_word alones.Names = codes "names"
alone_word alones.Mount = codes "mount"
alone_word alones.Uncut = codes "uncut"
alone_word alones.Migrate = codes "migrate"

abbrev pub name_word : OfName → List ℕ
name_word names.Get = codes "get"
name_word names.Del = codes "del"
name_word names.RunGet = codes "rget"

abbrev pub subtree_word : OfSubtree → List ℕ
subtree_word subtrees.Load = codes "load"
subtree_word subtrees.Direct = codes "direct"
subtree_word subtrees.Save = codes "save"

-- The line says the word alone, the word and a name, or the word and a name that may lack.

abbrev pub IsAlone : Alone → Line → Type 0
IsAlone word line = row_of line ≡ row (alone_word word) []

abbrev pub IsOfName : OfName → List ℕ → Line → Type 0
IsOfName word text line = row_of line ≡ row (name_word word) (name text ∷ [])

abbrev pub IsOfSubtree : OfSubtree → Option (List ℕ) → Line → Type 0
IsOfSubtree word subtree line = row_of line ≡ row (subtree_word word) (one_name subtree)

-- How the reading of the words behind a first word ends.
abbrev pub ReadsBehind : ℕ → List ℕ → Option (Bor (List ℕ)) → Result Line LineFault → Type 0
ReadsBehind limit word rest read = ReadsLine limit (word ∷ words_of rest) read

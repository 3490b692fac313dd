-- What is printed of the answers to lines.
use Rattle.std.specs.Prelude.{ℕ, ◌-◌, Bool, true, false, not, Option, List, [], ◌++◌, length, map, flat_map, sum_by, count_by, slice_get, codes}
use Rattle.std.specs.Option.{option_map_or}
use Rattle.std.specs.FinMap.{entries}
use Rattle.std.specs.Fmt.{decimal}
use Rattle.backend_api.specs.Map.{Map}
use Rattle.script_lines.specs.declared.line.Line.{Line}
use Rattle.script_lines.specs.declared.line.Line.TheVariants.{Set, Get, Del}
use Rattle.script_lines.specs.declared.answer.Answer.{Answer}
use Rattle.script_lines.specs.declared.answer.Answer.TheVariants.{Done, Value, Absent, Names}
use Rattle.script_lines.specs.declared.lists.Pair.{Pair}
use Rattle.script_lines.specs.Answer.{text_of}
use Rattle.session_table.specs.Step.{as_pair}

-- the texts of all answers
abbrev pub texts : List Answer → List ℕ
texts answers = flat_map text_of answers

abbrev pub last_answer : List Answer → Option Answer
last_answer answers = slice_get answers (length answers - 1)

-- the text of the last answer alone
abbrev pub last_text : List Answer → List ℕ
last_text answers = option_map_or text_of (last_answer answers) []

-- ---- the summary of a generated script

abbrev pub is_set : Line → Bool
is_set (Set name value) = true
is_set line = false

abbrev pub is_del : Line → Bool
is_del (Del name) = true
is_del line = false

abbrev pub is_get : Line → Bool
is_get (Get name) = true
is_get line = false

-- done, or an answer to `get`
abbrev pub is_fine : Answer → Bool
is_fine (Done units) = true
is_fine (Value value) = true
is_fine Absent = true
is_fine answer = false

abbrev pub is_refused : Answer → Bool
is_refused answer = not (is_fine answer)

-- the settings in an answer to `names`; none in another answer
abbrev pub pairs_in : Answer → List Pair
pairs_in (Names active pairs) = pairs
pairs_in answer = []

-- the settings that the last answer reports
abbrev pub last_pairs : List Answer → List Pair
last_pairs answers = option_map_or pairs_in (last_answer answers) []

-- settings as an answer to `names` reports them
abbrev pub pairs_of : Map → List Pair
pairs_of settings = map as_pair (entries settings)

abbrev pub counted : List ℕ → ℕ → List ℕ
counted word count = codes " " ++ word ++ codes " " ++ decimal count

-- how many lines set, delete and get; the settings that are left and the bytes of their values; the
-- answers to the lines and to the opening mount that are not fine
abbrev pub summary : List ℕ → ℕ → List Line → List Answer → List Pair → List ℕ
summary backend n lines answers pairs =
    codes "gen " ++ backend ++ codes " " ++ decimal n ++ codes ":"
    ++ counted (codes "set") (count_by is_set lines)
    ++ counted (codes "del") (count_by is_del lines)
    ++ counted (codes "get") (count_by is_get lines)
    ++ counted (codes "names") (length pairs)
    ++ counted (codes "bytes") (sum_by (λ pair. length pair.value) pairs)
    ++ counted (codes "refused") (count_by is_refused answers)
    ++ codes "\n"

-- The texts of answers in a row, and what they show.
use Rattle.std.specs.Prelude.{◌≡◌, ℕ, ◌^◌, ◌<◌, ⊤, List, [], ◌∷◌, ◌++◌, All, length, map, codes, if◌then◌else◌}
use Rattle.std.specs.Str.{bytes_eq}
use Rattle.hex.specs.Hex.{IsBytes}
use Rattle.setting_name.specs.Name.{IsName}
use Rattle.script_lines.specs.declared.lists.Pair.{Pair}
use Rattle.script_lines.specs.declared.lists.Give.{Give}
use Rattle.script_lines.specs.declared.answer.Answer.{Answer}
use Rattle.script_lines.specs.declared.answer.SaveEnd.TheVariants as ends
use Rattle.script_lines.specs.declared.answer.Answer.TheVariants.{Done, Value, Lost, NoSpace, TooMany, Loaded, Direct, Saved, Names}
use Rattle.image_file.specs.Lawful.{IsLabel}
use Rattle.script_lines.specs.Answer.{text_of, lines_of}

abbrev pub transcript : List Answer → List ℕ
transcript [] = []
transcript (answer ∷ answers) = text_of answer ++ transcript answers

-- bytes above the space
abbrev pub IsWord : List ℕ → Type 0
IsWord word = All (λ b. 32 < b) word

pub record IsReportedPair (pair : Pair) : Type 0 where
  pub name : IsName pair.name
  pub value : IsBytes pair.value

-- the rest is what is left of a name
pub record IsReportedGive (give : Give) : Type 0 where
  pub subtree : IsName give.subtree
  pub rest : IsWord give.rest
  pub value : IsBytes give.value

-- numbers have 64 bits, values are bytes, and names are lawful
abbrev pub IsReported : Answer → Type 0
IsReported (Done units) = units < 2 ^ 64
IsReported (Value value) = IsBytes value
IsReported (Lost units chance) = units < 2 ^ 64
IsReported (NoSpace units need live) = units < 2 ^ 64
IsReported (TooMany units) = units < 2 ^ 64
IsReported (Loaded gives taken rejected passed) =
    All IsReportedGive gives × (taken < 2 ^ 64) × (rejected < 2 ^ 64) × (passed < 2 ^ 64)
IsReported (Direct pairs) = All IsReportedPair pairs × (length pairs < 2 ^ 64)
IsReported (Saved pairs units end) = (pairs < 2 ^ 64) × (units < 2 ^ 64)
IsReported (Names active pairs) = IsLabel active × All IsReportedPair pairs
IsReported _ = ⊤

-- The lines of a transcript, answer by answer, follow from its bytes.
abbrev pub OneListOfLines : Type 0
OneListOfLines = (some others : List Answer) → All IsReported some → All IsReported others
    → transcript some ≡ transcript others → map lines_of some ≡ map lines_of others

-- An empty rest is shown as `-`, as a rest that is `-` is.
abbrev pub shown_rest : List ℕ → List ℕ
shown_rest rest = if bytes_eq rest (codes "-") then [] else rest

abbrev pub shown_give : Give → Give
shown_give give = record give { rest = shown_rest give.rest }

-- what an answer shows: all but the bytes that were needed and used, and whether an
-- empty rest was `-`
abbrev pub shown : Answer → Answer
shown (NoSpace units need live) = NoSpace units 0 0
shown (Saved pairs units (ends.NoSpace need live)) = Saved pairs units (ends.NoSpace 0 0)
shown (Loaded gives taken rejected passed) = Loaded (map shown_give gives) taken rejected passed
shown answer = answer

-- A transcript has one reading, except for what answers do not show.
abbrev pub OneTranscript : Type 0
OneTranscript = (some others : List Answer) → All IsReported some → All IsReported others
    → transcript some ≡ transcript others → map shown some ≡ map shown others

-- The lines of words that an answer is printed in, and their text: those of a line on settings, and
-- those that only `blank` gives.
use Rattle.std.specs.Prelude.{ℕ, ⊤, false, List, [], ◌∷◌, codes}
use Rattle.script_lines.specs.declared.answer.Answer.TheVariants as settings
use Rattle.script_lines.specs.Answer.{lines_text, one}
use Rattle.script_lines.specs.Answer as of_settings
use Rattle.mirror_session.specs.declared.answer.Answer.{Answer}
use Rattle.mirror_session.specs.declared.answer.Answer.TheVariants.{Plain, On, NoArea, NotYet}

abbrev pub done : ℕ → Answer
done units = Plain (settings.Done units)

-- with no chance, which only a ring of records has
abbrev pub lost : ℕ → Answer
lost units = Plain (settings.Lost units false)

abbrev pub off : Answer
off = Plain settings.Off

abbrev pub lines_of : Answer → List (List (List ℕ))
lines_of (Plain answer) = of_settings.lines_of answer
lines_of On = one (codes "on" ∷ [])
lines_of NoArea = one (codes "noarea" ∷ [])
lines_of NotYet = one (codes "notyet" ∷ [])

abbrev pub text_of : Answer → List ℕ
text_of answer = lines_text (lines_of answer)

-- what an answer must be to have a text
abbrev pub CanReport : Answer → Type 0
CanReport (Plain answer) = of_settings.CanReport answer
CanReport answer = ⊤

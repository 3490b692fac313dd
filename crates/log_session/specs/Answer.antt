-- The lines of words that an answer is printed in, and their text.
use Rattle.std.specs.Prelude.{ℕ, true, false, List, [], ◌∷◌, ◌++◌, length, map, codes}
use Rattle.std.specs.Fmt.{decimal}
use Rattle.hex.specs.Hex.{encode_lower}
use Rattle.script_lines.specs.Answer.{dashed, lines_text, one}
use Rattle.log_session.specs.declared.answer.Answer.{Answer}
use Rattle.log_session.specs.declared.answer.Answer.TheVariants.{Done, Appended, Log, Lost, Off}

-- an empty body is shown as `-`
abbrev pub record_line : List ℕ → List (List ℕ)
record_line body = codes "record" ∷ dashed (encode_lower body) ∷ []

abbrev pub lines_of : Answer → List (List (List ℕ))
lines_of (Done units) = one (codes "ok" ∷ decimal units ∷ [])
lines_of (Appended units dropped) = one (codes "ok" ∷ decimal units ∷ decimal dropped ∷ [])
lines_of (Log bodies) = map record_line bodies ++ one (codes "log" ∷ decimal (length bodies) ∷ [])
lines_of (Lost units false) = one (codes "lost" ∷ decimal units ∷ [])
lines_of (Lost units true) = one (codes "lost" ∷ decimal units ∷ codes "chance" ∷ [])
lines_of Off = one (codes "off" ∷ [])

abbrev pub text_of : Answer → List ℕ
text_of answer = lines_text (lines_of answer)

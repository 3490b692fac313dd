-- The words that an answer is printed in, and their text.
use Rattle.std.specs.Prelude.{ℕ, List, [], ◌∷◌, codes}
use Rattle.std.specs.Fmt.{decimal}
use Rattle.hex.specs.Hex.{encode_lower}
use Rattle.script_lines.specs.Answer.{lines_text, one}
use Rattle.item_session.specs.declared.answer.Answer.{Answer}
use Rattle.item_session.specs.declared.answer.Answer.TheVariants.{Done, Value, Absent, Deleted, Gone, Space, NoSpace, Lost, Off}

abbrev pub words_of : Answer → List (List ℕ)
words_of (Done units) = codes "ok" ∷ decimal units ∷ []
words_of (Value value) = codes "value" ∷ encode_lower value ∷ []
words_of Absent = codes "none" ∷ []
words_of Deleted = codes "deleted" ∷ []
words_of Gone = codes "gone" ∷ []
words_of (Space live stale free) = codes "space" ∷ decimal live ∷ decimal stale ∷ decimal free ∷ []
words_of (NoSpace units need live) = codes "nospace" ∷ decimal units ∷ []
words_of (Lost units) = codes "lost" ∷ decimal units ∷ []
words_of Off = codes "off" ∷ []

abbrev pub text_of : Answer → List ℕ
text_of answer = lines_text (one (words_of answer))

-- On a log and on items each answer has a text.
use Rattle.std.proofs.Common.{List, [], ◌∷◌}
use Rattle.std.specs.Prelude.{⊤, All}
use Rattle.std.proofs.lemmas.List.Elements.{All-nil, All-cons}

pub each_has_text : {X : Type 0} (answers : List X) → All (λ (x : X). ⊤) answers
each_has_text {X} [] = All-nil (λ (x : X). ⊤)
each_has_text {X} (answer ∷ answers) = All-cons (λ (x : X). ⊤) answer answers tt (each_has_text answers)

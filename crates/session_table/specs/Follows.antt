-- One line after another, each with its answer, for any types of lines, answers and states.
use Rattle.std.specs.Prelude.{◌≡◌, List, [], ◌∷◌}

module _ {Line Answer State : Type 0} where
  -- `step` relates the states before and after a line by its answer
  abbrev pub Follows : (Line → Answer → State → State → Type 0) → List Line → List Answer → State → State
      → Type 0
  Follows step [] [] old new = new ≡ old
  Follows step (line ∷ lines) (answer ∷ answers) old new =
      (mid : State) × step line answer old mid × Follows step lines answers mid new
  Follows step [] (answer ∷ answers) old new = ⊥
  Follows step (line ∷ lines) [] old new = ⊥

-- A body of which only the first bytes were put.
use Rattle.std.specs.Prelude.{◌≡◌, ⊤, ℕ, ◌-◌, List, ◌++◌, length, take, replicate, Option, Some, None}

-- FF stands behind them
abbrev pub torn_body : List ℕ → ℕ → List ℕ
torn_body body put = take put body ++ replicate (length body - put) 0xFF

-- nothing, or the same name with a value of the same length
abbrev pub IsTornOf : Option (List ℕ × List ℕ) → Option (List ℕ × List ℕ) → Type 0
IsTornOf setting None = ⊤
IsTornOf None (Some torn) = ⊥
IsTornOf (Some (name, value)) (Some (other, torn)) = (other ≡ name) × (length torn ≡ length value)

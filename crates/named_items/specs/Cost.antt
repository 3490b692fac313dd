-- What items and settings cost, by the price of a length.
use Rattle.std.specs.Prelude.{ℕ, ◌+◌, List, length, sum_by, Option, Some, None}
use Rattle.std.specs.FinMap.{entries}
use Rattle.backend_api.specs.Map.{Map}

-- an item, which may be missing
abbrev pub item_cost : (ℕ → ℕ) → Option (List ℕ) → ℕ
item_cost price None = 0
item_cost price (Some bytes) = price (length bytes)

-- a name and its value
abbrev pub pair_cost : (ℕ → ℕ) → List ℕ × List ℕ → ℕ
pair_cost price pair = price (length pair.0) + price (length pair.1)

-- all settings together
abbrev pub settings_cost : (ℕ → ℕ) → Map → ℕ
settings_cost price settings = sum_by (pair_cost price) (entries settings)

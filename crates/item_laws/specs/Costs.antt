-- What items cost, by a price of the length of bytes.
use Rattle.std.specs.Prelude.{ℕ, List, length, sum_by}
use Rattle.std.specs.FinMap.{entries}
use Rattle.item_laws.specs.Items.{Items}

-- all items together, each with its bytes
abbrev pub items_cost : (ℕ → ℕ) → Items → ℕ
items_cost price items = sum_by (λ item. price (length item.1)) (entries items)

-- The room of an area whose settings are pairs of items.
use Rattle.std.specs.Prelude.{◌≡◌, ℕ, ◌+◌, ◌≤◌, Bool, true, max, List, length, Option, if◌then◌else◌}
use Rattle.std.specs.FinMap.{contains_key}
use Rattle.backend_api.specs.Map.{Map}
use Rattle.backend_api.specs.Room.{Room}
use Rattle.named_items.specs.Cost.{item_cost, settings_cost}
use Rattle.named_items.specs.Numbering.{Numbering}

-- A new name needs room for its value and the name; a name that has a value needs room for the new
-- value alone. The cost of all settings includes a count, even if the area has none.
abbrev pub pair_room : (ℕ → ℕ) → ℕ → ℕ → (Map → List ℕ → Bool) → Room
pair_room price cap counted too_many = record {
  cap = cap;
  cost = λ settings. counted + settings_cost price settings;
  need =
      λ settings name value. if contains_key settings name then price (length value) else price (length value)
      + price (length name);
  largest =
      λ settings name value. if contains_key settings name then price (length value) else max counted
      (max (price (length value)) (price (length name)));
  too_many = too_many;
}

-- A count costs at most this.
abbrev pub IsCountCost : Numbering → (ℕ → ℕ) → ℕ → Type 0
IsCountCost n price counted =
    (count : Option (List ℕ)) → n.is_count count ≡ true → item_cost price count ≤ counted

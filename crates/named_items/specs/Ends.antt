-- How the calls that change two items end.
use Rattle.std.specs.Prelude.{◌≡◌, ◌⊎◌, ℕ, ◌+◌, ◌-◌, ◌*◌, ◌<◌, List, length, None, Result, Ok, Err}
use Rattle.std.specs.FinMap.{get, insert, remove}
use Rattle.flash_map.specs.declared.faults.WriteFault.{WriteFault}
use Rattle.flash_map.specs.declared.faults.WriteFault.TheVariants.{NoSpace, TooLong, PowerLost}
use Rattle.item_laws.specs.Costs.{items_cost}
use Rattle.item_laws.specs.Items.{Items}

-- Both items are gone; or power was lost, and none is gone, or the first alone, or both.
abbrev pub DeletesPair : {T E : Type 0} → Items → Items → ℕ → ℕ → Result T E → Type 0
DeletesPair before after first second (Ok x) = after ≡ remove (remove before first) second
DeletesPair before after first second (Err lost) =
    (after ≡ before) ⊎ (after ≡ remove before first) ⊎ (after ≡ remove (remove before first) second)

-- One of the two writes was refused: the items, perhaps with the value, leave no room for it.
pub record IsRefused (price : ℕ → ℕ) (cap sectors : ℕ) (before : Items) (name value : List ℕ) : Type 0 where
  pub one : ℕ
  pub is : (one ≡ price (length value)) ⊎ (one ≡ price (length name))
  pub full : (sectors - 1) * (cap - one) < price (length value) + items_cost price before

-- what one of the two writes needs, in bytes
abbrev pub IsNeedOfOne : (ℕ → ℕ) → ℕ → List ℕ → List ℕ → Type 0
IsNeedOfOne price need name value = (need ≡ price (length value)) ⊎ (need ≡ price (length name))

-- Both items are there; or a write was refused, and neither is; or power was lost, and neither is,
-- or the value alone, or both. Only the value can be too long: it costs more, with its entry, than a
-- sector has.
abbrev pub PutsPair : {T : Type 0} → (ℕ → ℕ) → ℕ → ℕ → Items → Items → ℕ → ℕ → List ℕ → List ℕ
    → Result T WriteFault → Type 0
PutsPair price cap sectors before after first second name value (Ok x) =
    after ≡ insert (insert before second value) first name
PutsPair price cap sectors before after first second name value (Err (NoSpace need live)) =
    (after ≡ before) × IsRefused price cap sectors before name value × IsNeedOfOne price need name value
PutsPair price cap sectors before after first second name value (Err TooLong) =
    (after ≡ before) × (cap < price (length value))
PutsPair price cap sectors before after first second name value (Err PowerLost) =
    (after ≡ before) ⊎ (after ≡ insert before second value)
    ⊎ (after ≡ insert (insert before second value) first name)

-- no other item than these two changed
abbrev pub AltersTwo : Items → Items → ℕ → ℕ → Type 0
AltersTwo before after first second =
    (id : ℕ) → ¬ (id ≡ first) → ¬ (id ≡ second) → get after id ≡ get before id

-- the candidate id has neither a name nor a value
abbrev pub IsFree : Items → ℕ → ℕ → Type 0
IsFree items first second = (get items first ≡ None) × (get items second ≡ None)

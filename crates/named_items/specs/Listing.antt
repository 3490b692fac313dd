-- The settings in the order of their ids.
use Rattle.std.specs.Prelude.{◌≡◌, ℕ, ◌+◌, ◌<◌, ◌≤◌, List, Option, Some, None}
use Rattle.std.specs.FinMap.{get}
use Rattle.item_laws.specs.Items.{Items}
use Rattle.named_items.specs.Numbering.{Numbering}
use Rattle.named_items.specs.Pairs.{IsAt}

-- a setting in effect, with its name, its value, and where it stands
pub record IsSettingAt (n : Numbering) (items : Items) (id : ℕ) (name value : List ℕ) : Type 0 where
  pub at : IsAt n items name id
  pub valued : get items (id + n.step) ≡ Some value

-- every setting in effect stands here or lower
abbrev pub IsPastAll : Numbering → Items → ℕ → Type 0
IsPastAll n items after = (name : List ℕ) (id : ℕ) → IsAt n items name id → id ≤ after

-- no setting in effect stands between the two ids
abbrev pub HasNoneBetween : Numbering → Items → ℕ → ℕ → Type 0
HasNoneBetween n items after next =
    (name : List ℕ) (id : ℕ) → IsAt n items name id → after < id → next ≤ id

-- the setting in effect at the least id above `after`, as its id, name and value
abbrev pub IsNextSetting : Numbering → Items → ℕ → Option (ℕ × List ℕ × List ℕ) → Type 0
IsNextSetting n items after None = IsPastAll n items after
IsNextSetting n items after (Some next) =
    (after < next.0) × IsSettingAt n items next.0 next.1 next.2 × HasNoneBetween n items after next.0

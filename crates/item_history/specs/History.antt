-- What a look-up of a version answers.
use Rattle.std.specs.Prelude.{◌≡◌, ℕ, ◌≤◌, List, [], length, slice_get, Some}
use Rattle.item_history.specs.declared.history.Older.{Older}
use Rattle.item_history.specs.declared.history.Older.TheVariants.{Value, Deleted, Gone}

-- That of this number, from the newest, which is 0. No bytes are a delete.
abbrev pub IsVersion : List (List ℕ) → ℕ → Older → Type 0
IsVersion versions n (Value bytes) = (slice_get versions n ≡ Some bytes.now) × (bytes.now ≡ [] → ⊥)
IsVersion versions n Deleted = slice_get versions n ≡ Some []
IsVersion versions n Gone = length versions ≤ n

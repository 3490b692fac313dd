-- The least of some bytes that are greater than others, and items by entries that hold their bytes.
use Rattle.std.specs.Prelude.{◌≡◌, ℕ, ◌+◌, ◌<◌, ◌≤◌, Bool, true, ◌&&◌, List, Option, Some, None, option_map, if◌then◌else◌}
use Rattle.std.specs.FinMap.{get}
use Rattle.std.specs.Ordering.{nat_cmp, is_lt}
use Rattle.std.specs.Cmp.Lexicographic.{slice_cmp}
use Rattle.item_laws.specs.Bytes.{is_behind, IsIdOf}
use Rattle.item_laws.specs.Items.{Items}
use Rattle.item_store.specs.declared.entry.Entry.{Entry}
use Rattle.item_store.specs.declared.entry.IdRange.{IdRange}
use Rattle.item_store.specs.declared.holding.Holder.{Holder}
use Rattle.item_store.specs.Holding.{Holds}
use Rattle.item_store.specs.SectorFormat.{SectorFormat}

-- less than these bytes in byte order, if there are any
abbrev pub is_below : List ℕ → Option (List ℕ) → Bool
is_below bytes None = true
is_below bytes (Some least) = is_lt (slice_cmp nat_cmp bytes least)

-- The bytes of an item, if they are greater than these and less than the least so far; else the
-- least so far.
abbrev pub lesser_of : Option (List ℕ) → Option (List ℕ) → Option (List ℕ) → Option (List ℕ)
lesser_of after None least = least
lesser_of after (Some bytes) least =
    if is_behind after bytes && is_below bytes least then Some bytes else least

-- An entry that gives an id of the range these bytes, in a slot from one number up to another, is of an
-- id whose item does not have them.
abbrev pub NoneIsItem : SectorFormat → List ℕ → Items → IdRange → List ℕ → ℕ → ℕ → Type 0
NoneIsItem k b items ids bytes from to =
    (slot : ℕ) (e : Entry) → from ≤ slot → slot < to → k.in_slot b slot ≡ Some e → Holds k b ids bytes e
    → get items e.id ≡ Some bytes → ⊥

-- an id of the range whose item has these bytes, with the item a step above it; none if no item has
abbrev pub IsHolderOf : IdRange → ℕ → Items → List ℕ → Option Holder → Type 0
IsHolderOf ids step items bytes None = IsIdOf ids.least ids.most items bytes None
IsHolderOf ids step items bytes (Some holder) =
    IsIdOf ids.least ids.most items bytes (Some holder.id)
    × (option_map (λ above. above.now) holder.above ≡ get items (holder.id + step))

-- the same by the entries of one sector: none if no entry of the sector gives its item these bytes
abbrev pub FindsHolderIn : SectorFormat → List ℕ → Items → IdRange → ℕ → List ℕ → Option Holder → Type 0
FindsHolderIn k b items ids step bytes None = NoneIsItem k b items ids bytes k.first (k.first + k.count b)
FindsHolderIn k b items ids step bytes (Some holder) = IsHolderOf ids step items bytes (Some holder)

-- the item of this id, which has these bytes, with the item a step above it; none if it does not
abbrev pub IsHolderAt : ℕ → ℕ → Items → List ℕ → Option Holder → Type 0
IsHolderAt id step items bytes None = ¬ (get items id ≡ Some bytes)
IsHolderAt id step items bytes (Some holder) =
    (holder.id ≡ id) × (get items id ≡ Some bytes)
    × (option_map (λ above. above.now) holder.above ≡ get items (id + step))

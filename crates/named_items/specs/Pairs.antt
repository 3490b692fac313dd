-- Settings as pairs of items: the name of a setting is one item, its value another.
use Rattle.std.specs.Prelude.{◌≡◌, ◌⊎◌, ℕ, ◌+◌, ◌<◌, ◌≤◌, Bool, true, ◌&&◌, List, length, Option, Some, None, nat_le, if◌then◌else◌}
use Rattle.std.specs.List.{filter_map, range_with_len}
use Rattle.std.specs.FinMap.{get, from_entries}
use Rattle.item_laws.specs.Items.{Items}
use Rattle.setting_name.specs.Name.{is_name}
use Rattle.backend_api.specs.Map.{Map}
use Rattle.named_items.specs.Numbering.{Numbering}

module _ (n : Numbering) where
  -- how many names the count allows
  abbrev pub count_in : Items → ℕ
  count_in items = n.count_of (get items n.count_id)

  -- a lawful name at an id of its own, and a value of 1 to the most bytes
  abbrev pub is_pair : ℕ → List ℕ → List ℕ → Bool
  is_pair id name value =
      is_name name && n.is_candidate id name && nat_le 1 (length value) && nat_le (length value) n.longest

  -- the setting that two items are
  abbrev pub pair_of : ℕ → Option (List ℕ) → Option (List ℕ) → Option (List ℕ × List ℕ)
  pair_of id None value = None
  pair_of id (Some name) None = None
  pair_of id (Some name) (Some value) = if is_pair id name value then Some (name, value) else None

  -- the setting whose name stands at this id
  abbrev pub pair_at : Items → ℕ → Option (List ℕ × List ℕ)
  pair_at items id = pair_of id (get items id) (get items (id + n.step))

  -- The map that items read as. Of two settings of one name, the one at the lower id is in effect.
  unfoldable pub settings_in : Items → Map
  settings_in items = from_entries (filter_map (pair_at items) (range_with_len n.first (count_in items)))

-- the setting has this name
abbrev pub HasName : Option (List ℕ × List ℕ) → List ℕ → Type 0
HasName None name = ⊥
HasName (Some pair) name = pair.0 ≡ name

-- the id is one that the count allows for names
pub record IsInside (n : Numbering) (items : Items) (id : ℕ) : Type 0 where
  pub from : n.first ≤ id
  pub to : id < n.first + count_in n items

-- a setting of this name stands there, in effect or not
pub record IsHeld (n : Numbering) (items : Items) (name : List ℕ) (id : ℕ) : Type 0 where
  pub inside : IsInside n items id
  pub here : HasName (pair_at n items id) name

-- no setting of this name stands below the id
abbrev pub IsLowest : Numbering → Items → List ℕ → ℕ → Type 0
IsLowest n items name id =
    (other : ℕ) → n.first ≤ other → other < id → ¬ HasName (pair_at n items other) name

-- the setting in effect of this name stands there
pub record IsAt (n : Numbering) (items : Items) (name : List ℕ) (id : ℕ) : Type 0 where
  pub inside : IsInside n items id
  pub here : HasName (pair_at n items id) name
  pub lowest : IsLowest n items name id

-- where the setting in effect of this name stands, if there is one
abbrev pub IsIdOfName : Numbering → Items → List ℕ → Option ℕ → Type 0
IsIdOfName n items name None = (other : ℕ) → IsInside n items other → ¬ HasName (pair_at n items other) name
IsIdOfName n items name (Some id) = IsAt n items name id

-- the item is a count
pub record IsCount (n : Numbering) (items : Items) (id : ℕ) : Type 0 where
  pub is : id ≡ n.count_id
  pub counts : n.is_count (get items id) ≡ true

-- the item is the name or the value of a setting in effect
pub record IsPart (n : Numbering) (items : Items) (id : ℕ) : Type 0 where
  pub name : List ℕ
  pub candidate : ℕ
  pub at : IsAt n items name candidate
  pub is : (id ≡ candidate) ⊎ (id ≡ candidate + n.step)

abbrev pub IsKept : Numbering → Items → ℕ → Type 0
IsKept n items id = IsCount n items id ⊎ IsPart n items id

-- each item is the count, or a part of a setting in effect
abbrev pub HasNoOrphans : Numbering → Items → Type 0
HasNoOrphans n items = (id : ℕ) → (get items id ≡ None) ⊎ IsKept n items id

-- all other items are the same
abbrev pub AltersOnly : Items → Items → ℕ → Type 0
AltersOnly old new id = (other : ℕ) → ¬ (other ≡ id) → get new other ≡ get old other

-- the item is the name or the value of this candidate id
abbrev pub IsOf : Numbering → ℕ → ℕ → Type 0
IsOf n candidate id = (id ≡ candidate) ⊎ (id ≡ candidate + n.step)

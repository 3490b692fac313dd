-- From an entry of the list to the one before it.
use Rattle.std.specs.Prelude.{◌≡◌, ℕ, ◌-◌, List, ◌∷◌, ◌++◌, Option, Some, None}
use Rattle.std.specs.List.{last_or}
use Rattle.item_laws.specs.Area.{open_sector}
use Rattle.item_laws.specs.Walk.{placed_up_to}
use Rattle.item_store.specs.declared.entry.Placed.{Placed}
use Rattle.item_store.specs.SectorFormat.{SectorFormat, slots}

-- The next older entry of a list: the one before the entry at this place, or the newest if no place
-- is named.
abbrev pub IsNextOlder : List Placed → Option (ℕ × ℕ) → Option Placed → Type 0
IsNextOlder all None next = next ≡ last_or None all
IsNextOlder all (Some place) next =
    (older newer : List Placed) (p : Placed) → all ≡ older ++ p ∷ newer → place ≡ (p.sector, p.slot)
    → next ≡ last_or None older

-- the newest entry before a place, in the round to the open sector, whether an entry stands there
-- or not
abbrev pub newest_before : SectorFormat → List (List ℕ) → ℕ × ℕ → Option Placed
newest_before k sectors place =
    last_or None (placed_up_to (slots k) sectors (open_sector k.reading sectors) place.0 (place.1 - k.first))

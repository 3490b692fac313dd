-- The list up to a place and a slot in it, for any store.
use Rattle.std.specs.Prelude.{ℕ, min, List, [], ◌++◌, length, map, if◌then◌else◌}
use Rattle.std.specs.List.{filter_map, flat_map, range_with_len}
use Rattle.flash_map.specs.Area.{sector_at}
use Rattle.item_laws.specs.Area.{counts_at}
use Rattle.item_laws.specs.RoundParts.{places_before}
use Rattle.item_laws.specs.Entries.{Entries}
use Rattle.item_laws.specs.Live.{counted_in}

module _ {Entry Placed : Type 0} (k : Entries Entry Placed) where
  -- the entries in so many slots from this one on
  abbrev pub entries_from : List ℕ → ℕ → ℕ → List Entry
  entries_from sector from n = filter_map (k.in_slot sector) (range_with_len from n)

  -- those in the first so many slots of a sector's list
  abbrev pub entries_within : List ℕ → ℕ → List Entry
  entries_within sector n = entries_from sector k.first (min (k.slots sector) n)

  -- those with their places, if the sector counts with this one open
  abbrev pub counted_within : List (List ℕ) → ℕ → ℕ → ℕ → List Placed
  counted_within sectors current place n =
      if counts_at k.reading sectors current place then map (k.placed_at place)
      (entries_within (sector_at sectors place) n) else []

  -- the entries of the sectors before this one, and those in its first so many slots
  abbrev pub placed_up_to : List (List ℕ) → ℕ → ℕ → ℕ → List Placed
  placed_up_to sectors current place n =
      flat_map (counted_in k sectors current) (places_before (length sectors) current place)
      ++ counted_within sectors current place n

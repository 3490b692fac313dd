-- The entries of an area's list with their places, and which of them are live: the last of their
-- id, with bytes.
use Rattle.std.specs.Prelude.{ℕ, Bool, false, ◌&&◌, List, [], length, map, fold, Option, Some, None, ◌==◌, nat_lt, if◌then◌else◌}
use Rattle.std.specs.List.{filter_map, flat_map, range_with_len}
use Rattle.std.specs.Option.{option_and_then, option_map, option_map_or}
use Rattle.flash_map.specs.Area.{sector_at}
use Rattle.item_laws.specs.Area.{round, counts_at, open_sector, area_pairs}
use Rattle.item_laws.specs.Entries.{Entries}

module _ {Entry Placed : Type 0} (k : Entries Entry Placed) where
  -- ids with their bytes, from the oldest to the newest
  abbrev pub list_of : List (List ℕ) → List (ℕ × List ℕ)
  list_of sectors = area_pairs k.reading sectors (open_sector k.reading sectors)

  -- the entries of a sector with their places, if it counts with this one open
  abbrev pub counted_in : List (List ℕ) → ℕ → ℕ → List Placed
  counted_in sectors current place =
      if counts_at k.reading sectors current place then map (k.placed_at place)
      (k.entries (sector_at sectors place)) else []

  -- the entries of the list, with their places
  abbrev pub all_placed : List (List ℕ) → List Placed
  all_placed sectors =
      let current = open_sector k.reading sectors in
      flat_map (counted_in sectors current) (round (length sectors) current)

  -- the last of these entries that has the id
  abbrev pub last_of : ℕ → List Placed → Option Placed
  last_of id placed = fold (λ last p. if k.id p == id then Some p else last) None placed

  -- the last entry of an id in one sector
  abbrev pub last_in : ℕ → ℕ → List Entry → Option Entry
  last_in place id entries =
      fold (λ last e. if k.id (k.placed_at place e) == id then Some e else last) None entries

  -- the last entry of an id; it may be a delete
  abbrev pub last_placed : List (List ℕ) → ℕ → Option Placed
  last_placed sectors id = last_of id (all_placed sectors)

  abbrev pub bytes_of : List (List ℕ) → Placed → List ℕ
  bytes_of sectors p = k.bytes (sector_at sectors (k.sector p)) p

  abbrev pub pair_of : List (List ℕ) → Placed → ℕ × List ℕ
  pair_of sectors p = (k.id p, bytes_of sectors p)

  -- where an id's last entry is this one, with bytes
  abbrev pub is_at : Placed → Option Placed → Bool
  is_at p o =
      option_map_or (λ last. (k.sector last == k.sector p) && (k.slot last == k.slot p) && nat_lt 0 (k.len p))
      o false

  -- the entry is the last of its id in the list, and has bytes
  abbrev pub is_live : List (List ℕ) → Placed → Bool
  is_live sectors p = is_at p (last_placed sectors (k.id p))

  -- the live entry in this slot
  abbrev pub live_in : List (List ℕ) → ℕ → ℕ → Option Placed
  live_in sectors place slot =
      option_and_then (λ p. if is_live sectors p then Some p else None)
      (option_map (k.placed_at place) (k.in_slot (sector_at sectors place) slot))

  -- the pairs of the live entries in the first slots of a sector
  abbrev pub live_to : List (List ℕ) → ℕ → ℕ → List (ℕ × List ℕ)
  live_to sectors place slots =
      map (pair_of sectors) (filter_map (live_in sectors place) (range_with_len k.first slots))

  -- it costs so many bytes
  abbrev pub cost_of : Option Placed → ℕ
  cost_of o = option_map_or (λ p. k.cost (k.len p)) o 0

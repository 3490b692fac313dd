-- A cache is the list of its slots, each with a place, which is a sector and a slot in it, or
-- nothing. It also has the greatest slots that were noted in sectors.
use Rattle.std.specs.Prelude.{ℕ, ◌%◌, ◌==◌, ◌&&◌, nat_lt, List, map, length, replicate, slice_index_or, slice_set, Option, Some, None, if◌then◌else◌}

-- the number of an id's cache slot
abbrev pub cache_slot : ℕ → ℕ → ℕ
cache_slot slots id = id % slots

-- what the id's cache slot holds
abbrev pub place_of : List (Option (ℕ × ℕ)) → ℕ → Option (ℕ × ℕ)
place_of cache id = slice_index_or cache (cache_slot (length cache) id) None

-- with this place in the id's cache slot
abbrev pub with_note : List (Option (ℕ × ℕ)) → ℕ → ℕ → ℕ → List (Option (ℕ × ℕ))
with_note cache id sector slot = slice_set cache (cache_slot (length cache) id) (Some (sector, slot))

-- the place, unless it lies in the sector
abbrev pub without_sector : ℕ → Option (ℕ × ℕ) → Option (ℕ × ℕ)
without_sector sector None = None
without_sector sector (Some place) = if place.0 == sector then None else Some place

-- with each cache slot cleared that points into the sector
abbrev pub without : List (Option (ℕ × ℕ)) → ℕ → List (Option (ℕ × ℕ))
without cache sector = map (without_sector sector) cache

-- ---- the greatest slots

-- the slot, if it is greater than the top so far and has 16 bits; else that top
abbrev pub higher : ℕ → ℕ → ℕ
higher top slot = if nat_lt top slot && nat_lt slot 65536 then slot else top

-- the top of a sector; 0 behind the last one that has a top
abbrev pub top_of : List ℕ → ℕ → ℕ
top_of tops sector = slice_index_or tops sector 0

-- with this slot noted in the sector
abbrev pub with_top : List ℕ → ℕ → ℕ → List ℕ
with_top tops sector slot = slice_set tops sector (higher (top_of tops sector) slot)

-- with the sector's top cleared
abbrev pub without_top : List ℕ → ℕ → List ℕ
without_top tops sector = slice_set tops sector 0

-- ---- a cache with both

-- The slots of a cache. For each of the first 64 sectors, the top is the greatest slot that was noted
-- in it since it was last forgotten, or 0.
pub record CacheState : Type 0 where
  pub places : List (Option (ℕ × ℕ))
  pub tops : List ℕ

-- nothing is noted in so many slots
abbrev pub empty_cache : ℕ → CacheState
empty_cache slots = record { places = replicate slots None; tops = replicate 64 0 }

abbrev pub note_entry : CacheState → ℕ → ℕ → ℕ → CacheState
note_entry cache id sector slot =
    record { places = with_note cache.places id sector slot; tops = with_top cache.tops sector slot }

abbrev pub forget_entries : CacheState → ℕ → CacheState
forget_entries cache sector =
    record { places = without cache.places sector; tops = without_top cache.tops sector }

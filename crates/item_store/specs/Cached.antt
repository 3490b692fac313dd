-- The cache of a store: for each cache slot, where the latest entry of its ids stands, and for
-- each sector the greatest slot where an entry was noted.
use Rattle.std.specs.Prelude.{◌≡◌, ◌⊎◌, ℕ, ◌+◌, ◌%◌, List, [], ◌∷◌, ◌++◌, length, fold, Option, Some, None, ◌==◌, if◌then◌else◌}
use Rattle.std.specs.List.{Contains}
use Rattle.std.specs.Option.{option_map}
use Rattle.flash_sim.specs.Device.{Device}
use Rattle.flash_map.specs.declared.area.Area.{Area}
use Rattle.flash_map.specs.declared.area.Geometry.{Geometry}
use Rattle.flash_map.specs.Area.{sector_at}
use Rattle.lookup_cache.specs.Places.{CacheState, place_of, top_of}
use Rattle.item_laws.specs.Area.{next}
use Rattle.item_laws.specs.Forms.{AtRest}
use Rattle.item_laws.specs.Live.{all_placed}
use Rattle.item_store.specs.declared.entry.Placed.{Placed}
use Rattle.item_store.specs.Collecting.{DoesPassAt}
use Rattle.item_store.specs.SectorFormat.{SectorFormat, placed_at, slots}
use Rattle.item_store.specs.Listed.{entries_on}
use Rattle.item_store.specs.Steps.{new_entry}

-- the latest of these entries whose ids have this cache slot, one of 64
abbrev pub latest_of : ℕ → List Placed → Option Placed
latest_of slot placed = fold (λ latest p. if p.id % 64 == slot then Some p else latest) None placed

-- where an entry stands
abbrev pub stands_at : Placed → ℕ × ℕ
stands_at p = (p.sector, p.slot)

-- one of these entries stands in this slot of the sector
pub record HasEntryAt (placed : List Placed) (sector slot : ℕ) : Type 0 where
  pub entry : Placed
  pub among : Contains placed entry
  pub in_sector : entry.sector ≡ sector
  pub in_slot : entry.slot ≡ slot

-- one of these entries stands in the top slot of the sector, if it has a top
abbrev pub IsTopOf : List Placed → ℕ → ℕ → Type 0
IsTopOf placed sector top = (top ≡ 0) ⊎ HasEntryAt placed sector top

-- Each of the 64 cache slots has the place of the latest of these entries whose ids are its own, or
-- nothing if there is none. Where a sector has a top, one of these entries stands there.
pub record IsCacheOf (cache : CacheState) (placed : List Placed) : Type 0 where
  pub slots : length cache.places ≡ 64
  pub latest : (id : ℕ) → place_of cache.places id ≡ option_map stands_at (latest_of (id % 64) placed)
  pub tops : (sector : ℕ) → IsTopOf placed sector (top_of cache.tops sector)

-- one more of these entries, in the last slot of a sector
pub record AddsEntry (k : SectorFormat) (old new : List (List ℕ)) (place id len : ℕ) : Type 0 where
  pub slot : ℕ
  pub last : slot + 1 ≡ k.first + k.count (sector_at new place)
  pub list : all_placed (slots k) new
      ≡ all_placed (slots k) old ++ placed_at place (new_entry slot id len) ∷ []

-- ---- behind a round

-- A round from this sector on turned an area at rest into what it is now.
pub record IsPassDone (k : SectorFormat) (size : ℕ) (old new : List (List ℕ)) (place : ℕ) : Type 0 where
  pub rested : AtRest k.reading old place
  pub long : length new ≡ length old
  pub does_pass : DoesPassAt k size old new place

-- Whatever round made this sector the open one: it turned a cache of the list before it into a
-- cache of the list after it.
abbrev pub FollowsRound : SectorFormat → List (List ℕ) → ℕ → CacheState → CacheState → Type 0
FollowsRound k new newest before behind =
    (size : ℕ) (old : List (List ℕ)) (place : ℕ) → IsPassDone k size old new place → newest ≡ next old place
    → IsCacheOf before (all_placed (slots k) old) → IsCacheOf behind (all_placed (slots k) new)

-- ---- an area on a device

-- the latest entry of an id's cache slot
abbrev pub latest_on : (Geometry → SectorFormat) → Device → Area → ℕ → Option Placed
latest_on format_of d area id = latest_of (id % 64) (entries_on format_of d area)

-- the cache is that of the entries of the list
abbrev pub IsCacheOn : (Geometry → SectorFormat) → Device → Area → CacheState → Type 0
IsCacheOn format_of d area cache = IsCacheOf cache (entries_on format_of d area)

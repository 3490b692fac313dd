-- What was noted in a cache and forgotten from it. The newest event of a history stands first.
use Rattle.std.specs.Prelude.{◌≡◌, ◌≢◌, ℕ, List, [], ◌∷◌, ◌++◌, All, replicate, Option, None}
use Rattle.lookup_cache.specs.Places.{cache_slot, with_note, without}

-- a place was noted for an id, or a sector was forgotten
pub data Event : Type 0 where
  noted : (id sector slot : ℕ) → Event
  forgot : (sector : ℕ) → Event

-- a new cache with this many slots, after the events
unfoldable pub cache_after : ℕ → List Event → List (Option (ℕ × ℕ))
cache_after slots [] = replicate slots None
cache_after slots (noted id sector slot ∷ earlier) = with_note (cache_after slots earlier) id sector slot
cache_after slots (forgot sector ∷ earlier) = without (cache_after slots earlier) sector

-- the event leaves a place in this sector in the id's cache slot
abbrev pub Spares : ℕ → ℕ → ℕ → Event → Type 0
Spares slots id sector (noted other at slot) = cache_slot slots other ≢ cache_slot slots id
Spares slots id sector (forgot gone) = gone ≢ sector

-- The place was noted for an id with the same cache slot. Since then no other place was noted
-- there, and the sector was not forgotten.
pub record IsLastNoted (slots : ℕ) (events : List Event) (id sector slot : ℕ) : Type 0 where
  pub since : List Event
  pub earlier : List Event
  pub noted_id : ℕ
  pub when : events ≡ since ++ noted noted_id sector slot ∷ earlier
  pub shares : cache_slot slots noted_id ≡ cache_slot slots id
  pub spared : All (Spares slots id sector) since

-- The forms that an area has between two units of any call, with power lost there or not.
use Rattle.std.specs.Prelude.{◌≡◌, ℕ, ◌+◌, ◌-◌, ◌<◌, ◌≤◌, ◌⊎◌, true, false, List, ◌++◌, length, drop, nat_lt, nat_le, if◌then◌else◌}
use Rattle.std.specs.List.{range_with_len, flat_map}
use Rattle.item_laws.specs.LivePairs.{live_pairs}
use Rattle.item_laws.specs.Area.{next, is_closed_at, is_blank_at}
use Rattle.flash_map.specs.Area.{sector_at}
use Rattle.item_laws.specs.Reading.{Reading, is_sound}

-- how far a place is after this one, going round
abbrev pub distance : ℕ → ℕ → ℕ → ℕ
distance count from place = if nat_le from place then place - from else count - from + place

-- From the open sector on round stand so many blank sectors, and then closed ones up to the open
-- one.
pub record IsRing (reading : Reading) (sectors : List (List ℕ)) (place blanks : ℕ) : Type 0 where
  pub several : 2 ≤ length sectors
  pub within : place < length sectors
  pub spare : blanks < length sectors
  pub closed : (k : ℕ) → k < length sectors
      → is_closed_at reading sectors k ≡ nat_lt blanks (distance (length sectors) place k)
  pub blank : (k : ℕ) → k < length sectors → (k ≡ place → ⊥) → distance (length sectors) place k ≤ blanks
      → is_blank_at reading sectors k ≡ true
  -- where none is closed, the open one is known by what it holds
  pub started : blanks + 1 ≡ length sectors → (is_blank_at reading sectors place ≡ false) ⊎ (place ≡ 0)

-- at rest: the next sector is blank, and each sector counts
pub record AtRest (reading : Reading) (sectors : List (List ℕ)) (place : ℕ) : Type 0 where
  pub blanks : ℕ
  pub ring : IsRing reading sectors place blanks
  pub some : 0 < blanks
  pub sound : (k : ℕ) → k < length sectors → is_sound reading (sector_at sectors k) ≡ true

-- A garbage collection before gc-done. The open sector is ignored, whatever it holds: it is blank,
-- or has copies, a torn copy or a torn gc-done.
pub record Collecting (reading : Reading) (sectors : List (List ℕ)) (place : ℕ) : Type 0 where
  pub ring : IsRing reading sectors place 0
  pub not_done : reading.has_gc_done (sector_at sectors place) ≡ false
  pub sound : (k : ℕ) → k < length sectors → (k ≡ place → ⊥) → is_sound reading (sector_at sectors k) ≡ true

-- gc-done stands, and the victim, which is ignored, is not erased yet
pub record Collected (reading : Reading) (sectors : List (List ℕ)) (place : ℕ) : Type 0 where
  pub ring : IsRing reading sectors place 0
  pub done : reading.has_gc_done (sector_at sectors place) ≡ true
  pub sound : (k : ℕ) → k < length sectors → (k ≡ next sectors place → ⊥)
      → is_sound reading (sector_at sectors k) ≡ true

-- the invariant, with this sector open
abbrev pub IsForm : Reading → List (List ℕ) → ℕ → Type 0
IsForm reading sectors place =
    AtRest reading sectors place ⊎ Collecting reading sectors place ⊎ Collected reading sectors place

-- ---- what a collection copies

-- all places but this one, from the one after it
abbrev pub others : ℕ → ℕ → List ℕ
others count place = range_with_len (place + 1) (count - (place + 1)) ++ range_with_len 0 place

-- all but this one and the one after it
abbrev pub rest : ℕ → ℕ → List ℕ
rest count place = drop 1 (others count place)

abbrev pub pairs_at : Reading → List (List ℕ) → ℕ → List (ℕ × List ℕ)
pairs_at reading sectors place = reading.pairs (sector_at sectors place)

-- the live pairs of the victim, which is the next sector; the other closed ones follow it
abbrev pub to_copy : Reading → List (List ℕ) → ℕ → List (ℕ × List ℕ)
to_copy reading sectors place =
    live_pairs (pairs_at reading sectors (next sectors place))
    (flat_map (pairs_at reading sectors) (rest (length sectors) place))

-- How a store reads the bytes of one sector. Definitions on a ring of sectors ask nothing else of a
-- sector.
use Rattle.std.specs.Prelude.{◌≡◌, ℕ, Bool, true, false, not, ◌&&◌, ◌||◌, List, []}

pub record Reading : Type 0 where
  pub is_blank : List ℕ → Bool
  pub is_closed : List ℕ → Bool
  pub has_gc_done : List ℕ → Bool
  -- ids with their bytes, in the order in which they were put
  pub pairs : List ℕ → List (ℕ × List ℕ)
  pub has_fence : List ℕ → Bool
  pub is_overfull : List ℕ → Bool

-- A blank sector is open and holds nothing.
pub record IsReading (reading : Reading) : Type 0 where
  pub closed : (sector : List ℕ) → reading.is_blank sector ≡ true → reading.is_closed sector ≡ false
  pub gc_done : (sector : List ℕ) → reading.is_blank sector ≡ true → reading.has_gc_done sector ≡ false
  pub pairs : (sector : List ℕ) → reading.is_blank sector ≡ true → reading.pairs sector ≡ []

-- The sector is blank, or it has a fence and is not overfull.
abbrev pub is_sound : Reading → List ℕ → Bool
is_sound reading sector =
    reading.is_blank sector || (reading.has_fence sector && not (reading.is_overfull sector))

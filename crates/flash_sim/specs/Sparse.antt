-- The bytes of a bank in one buffer: a sector of FF that all erased sectors share, and behind it a
-- place for each sector.
use Rattle.std.specs.Prelude.{◌≡◌, ℕ, ◌+◌, ◌*◌, ◌<◌, List, [], ◌∷◌, ◌++◌, length, take, drop, replicate, slice_index}

-- the bytes of all sectors, each from its start in the buffer on
abbrev pub shown : ℕ → List ℕ → List ℕ → List ℕ
shown size buffer [] = []
shown size buffer (start ∷ starts) = take size (drop start buffer) ++ shown size buffer starts

-- each sector starts at the shared sector or at its own place
pub record IsShaped (size : ℕ) (buffer starts : List ℕ) : Type 0 where
  pub some : 0 < size
  pub long : length buffer ≡ (length starts + 1) * size
  pub blank : take size buffer ≡ replicate size 0xFF
  pub own : (sector : ℕ) → sector < length starts → (slice_index starts sector ≡ 0 → ⊥)
      → slice_index starts sector ≡ (sector + 1) * size

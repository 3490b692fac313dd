-- A division leaves one remainder; a table of the remainders of all bytes.
use Rattle.std.specs.Prelude.{◌≡◌, ℕ, ◌<◌, List, [], ◌∷◌, length, slice_index}
use Rattle.crc8_entry.specs.Crc.{IsCrc}

-- some bytes have one CRC at most, and it is a byte
abbrev pub OneCrc : Type 0
OneCrc =
    (start : ℕ) (bytes : List ℕ) (a b : ℕ) → a < 256 → b < 256 → IsCrc start bytes a → IsCrc start bytes b
    → a ≡ b

-- an entry for each byte, which is that byte's CRC from 0
pub record HasRemainders (table : List ℕ) : Type 0 where
  pub entries : length table ≡ 256
  pub each : (byte : ℕ) → byte < 256 → IsCrc 0 (byte ∷ []) (slice_index table byte)

-- Whole units, and erased bytes.
use Rattle.std.specs.Prelude.{◌≡◌, ℕ, ◌+◌, ◌-◌, ◌*◌, ◌/◌, ◌⊎◌, Bool, not, List, ◌++◌, length, replicate, take, ◌==◌}
use Rattle.std.specs.List.{list_all, suffix_len}

-- the units that a bank may have, in bytes
abbrev pub IsUnit : ℕ → Type 0
IsUnit unit = (unit ≡ 4) ⊎ (unit ≡ 8) ⊎ (unit ≡ 16)

-- n rounded up to the unit
unfoldable pub padded : ℕ → ℕ → ℕ
padded unit n = (n + (unit - 1)) / unit * unit

-- bytes with FF behind them, up to whole units
abbrev pub padded_bytes : ℕ → List ℕ → List ℕ
padded_bytes unit bytes = bytes ++ replicate (padded unit (length bytes) - length bytes) 0xFF

-- each byte is FF
abbrev pub is_erased : List ℕ → Bool
is_erased bytes = list_all (λ byte. byte == 0xFF) bytes

-- a byte is not FF
abbrev pub is_written : List ℕ → Bool
is_written bytes = not (is_erased bytes)

-- the end of the last unit under this place of a sector that is not erased
unfoldable pub written_end : ℕ → ℕ → List ℕ → ℕ
written_end unit place sector = padded unit (place - suffix_len (λ byte. byte == 0xFF) (take place sector))

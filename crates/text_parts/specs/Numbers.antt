-- Numbers in decimal, without a sign or leading zeros.
use Rattle.std.specs.Prelude.{◌≢◌, ℕ, ◌<◌, Bool, ◌==◌, ◌&&◌, ◌||◌, nat_lt, List, length, slice_index}
use Rattle.std.specs.Fmt.{decimal}

-- the word is no number below the limit
abbrev pub IsNoNumber : ℕ → List ℕ → Type 0
IsNoNumber limit word = (n : ℕ) → n < limit → word ≢ decimal n

-- more bytes follow a plus sign or a zero at its beginning
abbrev pub is_padded : List ℕ → Bool
is_padded word = nat_lt 1 (length word) && ((slice_index word 0 == 43) || (slice_index word 0 == 48))

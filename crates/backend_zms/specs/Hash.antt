-- The ids that a name may have, by its hash.
use Rattle.std.specs.Prelude.{ℕ, ◌+◌, ◌*◌, ◌%◌, ◌^◌, List, fold, bit_and, bit_xor}

-- the FNV-1a hash of 32 bits
abbrev pub fnv : List ℕ → ℕ
fnv bytes = fold (λ hash byte. (bit_xor hash byte * 16777619) % 2 ^ 32) 2166136261 bytes

-- the group of a name
unfoldable pub group_of : List ℕ → ℕ
group_of name = bit_and (fnv name) 0xFFF0

-- the first id of its group
abbrev pub first_of : List ℕ → ℕ
first_of name = 0x80000000 + group_of name

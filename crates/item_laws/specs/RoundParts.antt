-- The round to the open sector, up to a place in it.
use Rattle.std.specs.Prelude.{ℕ, ◌+◌, ◌-◌, List, ◌++◌, nat_lt, if◌then◌else◌}
use Rattle.std.specs.List.{range_with_len}

-- the sectors before this one in the round to the open one
abbrev pub places_before : ℕ → ℕ → ℕ → List ℕ
places_before count current place =
    if nat_lt current place then range_with_len (current + 1) (place - (current + 1))
    else range_with_len (current + 1) (count - (current + 1)) ++ range_with_len 0 place

-- and those behind it
abbrev pub places_after : ℕ → ℕ → ℕ → List ℕ
places_after count current place =
    if nat_lt current place then range_with_len (place + 1) (count - (place + 1))
    ++ range_with_len 0 (current + 1)
    else range_with_len (place + 1) (current - place)

-- The order of names, where one may be missing.
use Rattle.std.specs.Prelude.{◌≡◌, ℕ, Bool, true, false, List, Option, Some, None}
use Rattle.std.specs.Ordering.{nat_cmp, is_lt}
use Rattle.std.specs.Cmp.Lexicographic.{slice_cmp}
use Rattle.backend_api.specs.Map.{is_behind}

-- less than the other, if there is one
abbrev pub is_before : List ℕ → Option (List ℕ) → Bool
is_before name None = true
is_before name (Some other) = is_lt (slice_cmp nat_cmp name other)

-- Of the names that pass, this is the least that is greater than the one given; or none is greater.
abbrev pub IsLeast : Option (List ℕ) → (List ℕ → Bool) → Option (List ℕ) → Type 0
IsLeast after has None = (name : List ℕ) → has name ≡ true → is_behind after name ≡ false
IsLeast after has (Some least) =
    (has least ≡ true) × (is_behind after least ≡ true)
    × ((name : List ℕ) → has name ≡ true → is_behind after name ≡ true
    → is_lt (slice_cmp nat_cmp name least) ≡ false)

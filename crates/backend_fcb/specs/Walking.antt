-- What looking at one record says.
use Rattle.std.specs.Prelude.{◌≡◌, ℕ, Bool, true, ◌&&◌, List, Option, Some, None, if◌then◌else◌}
use Rattle.std.specs.Ordering.{nat_cmp, is_le}
use Rattle.std.specs.Cmp.Lexicographic.{slice_cmp}
use Rattle.setting_name.specs.Name.{IsName}
use Rattle.backend_api.specs.Map.{is_behind}
use Rattle.record_settings.specs.Last.{last_value}

-- no greater than this name, if there is one
abbrev pub is_up_to : List ℕ → Option (List ℕ) → Bool
is_up_to name None = true
is_up_to name (Some most) = is_le (slice_cmp nat_cmp name most)

-- what a record says, if its name is greater than the one and no greater than the other
abbrev pub setting_between : Option (List ℕ) → Option (List ℕ) → Option (List ℕ × List ℕ)
    → Option (List ℕ × List ℕ)
setting_between after most None = None
setting_between after most (Some (name, value)) =
    if is_behind after name && is_up_to name most then Some (name, value) else None

-- the name is lawful, and its last record gives it this value
abbrev pub IsLast : ℕ → List (List ℕ) → List ℕ → List ℕ → Type 0
IsLast limit bodies name value = IsName name × (last_value limit name bodies ≡ Some value)

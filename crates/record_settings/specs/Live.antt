-- What garbage collection copies. Lists of bodies run from the oldest record to the newest.
use Rattle.std.specs.Prelude.{ℕ, Bool, false, not, ◌&&◌, List, [], ◌∷◌, ◌++◌, length, Option, Some, None, ◌==◌, if◌then◌else◌}
use Rattle.std.specs.List.{list_any}
use Rattle.std.specs.Str.{bytes_eq}
use Rattle.record_settings.specs.Settings.{setting_of}

-- what a record says is of this name
abbrev pub has_name : List ℕ → Option (List ℕ × List ℕ) → Bool
has_name name None = false
has_name name (Some (other, value)) = bytes_eq other name

-- one of the records is of this name
abbrev pub names : ℕ → List ℕ → List (List ℕ) → Bool
names limit name bodies = list_any (λ body. has_name name (setting_of limit body)) bodies

abbrev pub is_live_by : ℕ → Option (List ℕ × List ℕ) → List (List ℕ) → Bool
is_live_by limit None later = false
is_live_by limit (Some (name, value)) later = not (length value == 0) && not (names limit name later)

-- the record is the last of its name, and has a value
abbrev pub is_live : ℕ → List ℕ → List (List ℕ) → Bool
is_live limit body later = is_live_by limit (setting_of limit body) later

-- The records of the victim that are the last of their name in `victim ++ others` and have a value,
-- in order.
unfoldable pub live_bodies : ℕ → List (List ℕ) → List (List ℕ) → List (List ℕ)
live_bodies limit [] others = []
live_bodies limit (body ∷ rest) others =
    if is_live limit body (rest ++ others) then body ∷ live_bodies limit rest others else live_bodies limit
    rest others

-- the value in a record of this name
abbrev pub value_for : List ℕ → Option (List ℕ × List ℕ) → Option (List ℕ)
value_for name None = None
value_for name (Some (other, value)) = if bytes_eq other name then Some value else None

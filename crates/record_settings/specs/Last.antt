-- What the last record of a name says.
use Rattle.std.specs.Prelude.{ℕ, List, length, filter_map, Option, Some, None, ◌==◌, if◌then◌else◌}
use Rattle.std.specs.List.{last_or}
use Rattle.record_settings.specs.Live.{value_for}
use Rattle.record_settings.specs.Settings.{setting_of}

-- the values that the records of the name give it, in order; no bytes are a delete
abbrev pub values_for : ℕ → List ℕ → List (List ℕ) → List (List ℕ)
values_for limit name bodies = filter_map (λ body. value_for name (setting_of limit body)) bodies

-- the value that the last record of the name gives it
unfoldable pub last_value : ℕ → List ℕ → List (List ℕ) → Option (List ℕ)
last_value limit name bodies = last_or None (values_for limit name bodies)

-- what the name has then
abbrev pub stored : Option (List ℕ) → Option (List ℕ)
stored None = None
stored (Some value) = if length value == 0 then None else Some value

-- What the bodies of records say of settings: the name, `=`, and the value. No value is a delete.
use Rattle.std.specs.Prelude.{ℕ, ◌+◌, not, ◌&&◌, List, ◌∷◌, ◌++◌, length, drop, fold, Option, Some, None, ◌==◌, nat_lt, nat_le, if◌then◌else◌}
use Rattle.std.specs.List.{take_while}
use Rattle.std.specs.FinMap.{empty, insert, remove}
use Rattle.setting_name.specs.Name.{is_name, name_limit}
use Rattle.backend_api.specs.Map.{Map}

-- the first `=` ends the name
abbrev pub name_in : List ℕ → List ℕ
name_in body = take_while (λ byte. not (byte == 0x3D)) body

abbrev pub value_in : List ℕ → List ℕ
value_in body = drop (length (name_in body) + 1) body

-- A lawful name, `=`, and at most `limit` bytes. Every other body says nothing.
unfoldable pub setting_of : ℕ → List ℕ → Option (List ℕ × List ℕ)
setting_of limit body =
    if is_name (name_in body)
    && (nat_lt (length (name_in body)) (length body) && nat_le (length (value_in body)) limit) then Some
    (name_in body, value_in body) else None

-- the most bytes of such a body: a name, `=` and the value
abbrev pub longest : ℕ → ℕ
longest limit = name_limit + 1 + limit

-- the body that gives the name this value
abbrev pub body_of : List ℕ → List ℕ → List ℕ
body_of name value = name ++ 0x3D ∷ value

-- the settings after one more record
abbrev pub with_setting : Map → Option (List ℕ × List ℕ) → Map
with_setting settings None = settings
with_setting settings (Some (name, value)) =
    if length value == 0 then remove settings name else insert settings name value

-- what records with these bodies say, in this order: the last record of a name decides
unfoldable pub settings_of : ℕ → List (List ℕ) → Map
settings_of limit bodies = fold (λ settings body. with_setting settings (setting_of limit body)) empty bodies

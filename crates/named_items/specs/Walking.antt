-- Items as names.
use Rattle.std.specs.Prelude.{◌≡◌, ℕ, List, Option, Some, None}
use Rattle.setting_name.specs.Name.{IsName}

-- the lawful name that the item holds, if it holds one
abbrev pub IsNameIn : Option (List ℕ) → Option (List ℕ) → Type 0
IsNameIn item None = (name : List ℕ) → IsName name → ¬ (item ≡ Some name)
IsNameIn item (Some name) = (item ≡ Some name) × IsName name

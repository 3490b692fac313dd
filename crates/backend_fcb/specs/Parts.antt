-- The parts of bodies.
use Rattle.std.specs.Prelude.{ℕ, List, Option, Some, None, if◌then◌else◌}
use Rattle.setting_name.specs.Name.{is_name}

-- the parts of a body, if the first is a lawful name
abbrev pub if_named : Option (List ℕ × List ℕ) → Option (List ℕ × List ℕ)
if_named None = None
if_named (Some (name, value)) = if is_name name then Some (name, value) else None

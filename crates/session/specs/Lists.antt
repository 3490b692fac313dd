-- Settings as answers list them.
use Rattle.std.specs.Prelude.{ℕ, List, map, Option}
use Rattle.std.specs.FinMap.{entries}
use Rattle.backend_api.specs.Map.{Map}
use Rattle.settings_core.specs.Deliveries.{settings_under}
use Rattle.script_lines.specs.declared.lists.Pair.{Pair}
use Rattle.session_table.specs.Step.{as_pair}

-- a name with its value
abbrev pub as_setting : Pair → List ℕ × List ℕ
as_setting pair = (pair.name, pair.value)

-- the settings that match a subtree, in the byte order of the names
abbrev pub pairs_under : Option (List ℕ) → Map → List Pair
pairs_under subtree settings = map as_pair (settings_under subtree (entries settings))

-- Which handlers a subtree selects, and their commit.
use Rattle.std.specs.Prelude.{ℕ, Bool, true, List, map, Option, Some, None, is_some, if◌then◌else◌}
use Rattle.setting_name.specs.Match.{matched_rest}
use Rattle.handlers.specs.Held.{committed}
use Rattle.handlers.specs.Registry.{Registered}

-- a name or subtree matches the given one; if none is given, each matches
abbrev pub is_under : Option (List ℕ) → List ℕ → Bool
is_under None name = true
is_under (Some subtree) name = is_some (matched_rest name subtree)

-- each handler whose own subtree matches gets one commit more
abbrev pub commit_one : Option (List ℕ) → Registered → Registered
commit_one subtree h = if is_under subtree h.subtree then record h { state = committed h.state } else h

abbrev pub commit_all : Option (List ℕ) → List Registered → List Registered
commit_all subtree handlers = map (commit_one subtree) handlers

-- Laws on settings and commands.
use Rattle.std.specs.Prelude.{◌≡◌, ℕ, ◌+◌, List, [], ◌∷◌, ◌++◌, Some, None}
use Rattle.std.specs.FinMap.{empty, entries, keys}
use Rattle.std.specs.List.{slice_get}
use Rattle.backend_api.specs.Commands.{Command, applied, all_applied, IsPartApplied, puts_of}
use Rattle.backend_api.specs.Map.{Map, next_name}

-- the next name after none is the first key, and after the i-th key the one behind it, or none
pub record WalksKeys (settings : Map) : Type 0 where
  pub first : next_name settings None ≡ slice_get (keys settings) 0
  pub next : (i : ℕ) (name : List ℕ) → slice_get (keys settings) i ≡ Some name
      → next_name settings (Some name) ≡ slice_get (keys settings) (i + 1)

-- puts of all its pairs, in the order of names, make the map from the empty one
abbrev pub IsRebuilt : Map → Type 0
IsRebuilt settings = all_applied empty (puts_of (entries settings)) ≡ settings

-- how commands follow one another
pub record Follow (before : Map) (commands : List Command) : Type 0 where
  pub none : all_applied before [] ≡ before
  pub one : (c : Command) → all_applied before (c ∷ commands) ≡ all_applied (applied before c) commands
  pub more : (others : List Command)
      → all_applied before (commands ++ others) ≡ all_applied (all_applied before commands) others
  pub nothing_done : IsPartApplied before commands before
  pub all_done : IsPartApplied before commands (all_applied before commands)
  pub one_done : (c : Command) (after : Map) → IsPartApplied (applied before c) commands after
      → IsPartApplied before (c ∷ commands) after
  pub part_of_more : (others : List Command) (after : Map) → IsPartApplied before commands after
      → IsPartApplied before (commands ++ others) after
  pub part_behind : (others : List Command) (after : Map)
      → IsPartApplied (all_applied before commands) others after
      → IsPartApplied before (commands ++ others) after

-- How a load without handlers ends.
use Rattle.std.specs.Prelude.{◌≡◌, ℕ, ◌≤◌, Bool, true, false, List, length, take, Option, Result, Ok, Err}
use Rattle.settings_core.specs.declared.loading.LoadFault.{LoadFault}
use Rattle.settings_core.specs.declared.loading.LoadFault.TheVariants.{Off, NoMemory}
use Rattle.settings_core.specs.Deliveries.{settings_under}
use Rattle.settings_core.specs.Reported.{reported_more}

-- memory ran out after the first `count` settings; those of them that match were given
pub record ReportsSome (old new : Option (List (List ℕ × List ℕ))) (subtree : Option (List ℕ))
    (settings : List (List ℕ × List ℕ)) : Type 0 where
  pub count : ℕ
  pub within : count ≤ length settings
  pub reported : new ≡ reported_more old (settings_under subtree (take count settings))

-- by whether the backend is up
abbrev pub DirectEnds : Bool → Option (List (List ℕ × List ℕ)) → Option (List (List ℕ × List ℕ))
    → Option (List ℕ) → List (List ℕ × List ℕ) → Result ℕ LoadFault → Type 0
DirectEnds up old new subtree settings (Ok count) =
    (up ≡ true) × (count ≡ length (settings_under subtree settings))
    × (new ≡ reported_more old (settings_under subtree settings))
DirectEnds up old new subtree settings (Err Off) = (up ≡ false) × (new ≡ old)
DirectEnds up old new subtree settings (Err NoMemory) = (up ≡ true) × ReportsSome old new subtree settings

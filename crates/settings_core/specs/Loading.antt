-- How a load ends.
use Rattle.std.specs.Prelude.{◌≡◌, ℕ, ◌+◌, ◌≤◌, Bool, true, false, not, List, length, map, take, count_by, Option, Result, Ok, Err, ◌⊎◌}
use Rattle.flash_sim.specs.declared.flash.NoMemory.{NoMemory as Lack}
use Rattle.handlers.specs.Registry.{Registered, subtrees}
use Rattle.settings_core.specs.declared.offering.Offered.{Offered}
use Rattle.settings_core.specs.declared.offering.Offered.TheVariants.{Taken, Rejected, Passed}
use Rattle.settings_core.specs.declared.loading.Loaded.{Loaded}
use Rattle.settings_core.specs.declared.loading.LoadFault.{LoadFault}
use Rattle.settings_core.specs.declared.loading.LoadFault.TheVariants.{Off, NoMemory}
use Rattle.settings_core.specs.Committing.{commit_all}
use Rattle.settings_core.specs.Reported.{reported_more}
use Rattle.settings_core.specs.Deliveries.{Give, give, delivered, deliver_all, is_taken, settings_under, OfferEnds}

-- these settings were given to their handlers, reported and counted
pub record Gives (before after : List Registered) (old new : Option (List Give)) (subtree : Option (List ℕ))
    (settings : List (List ℕ × List ℕ)) (loaded : Loaded) : Type 0 where
  pub handlers : after ≡ deliver_all before (delivered (subtrees before) subtree settings)
  pub reported : new ≡ reported_more old (map (give before) (delivered (subtrees before) subtree settings))
  pub taken : loaded.taken ≡ count_by (is_taken before) (delivered (subtrees before) subtree settings)
  pub rejected : loaded.rejected
      ≡ count_by (λ d. not (is_taken before d)) (delivered (subtrees before) subtree settings)
  pub passed : loaded.passed + length (delivered (subtrees before) subtree settings)
      ≡ length (settings_under subtree settings)

-- Memory ran out after the first `count` settings. These were given and reported. The next one may
-- have been given, and was not reported.
pub record GivesSome (before after : List Registered) (old new : Option (List Give))
    (subtree : Option (List ℕ)) (settings : List (List ℕ × List ℕ)) : Type 0 where
  pub count : ℕ
  pub within : count ≤ length settings
  pub reported : new
      ≡ reported_more old (map (give before) (delivered (subtrees before) subtree (take count settings)))
  pub handlers : (after ≡ deliver_all before (delivered (subtrees before) subtree (take count settings)))
      ⊎ (after ≡ deliver_all before (delivered (subtrees before) subtree (take (count + 1) settings)))

-- how a load of these settings ends, by whether the backend is up
abbrev pub LoadEnds : Bool → List Registered → List Registered → Option (List Give) → Option (List Give)
    → Option (List ℕ) → List (List ℕ × List ℕ) → Result Loaded LoadFault → Type 0
LoadEnds up before after old new subtree settings (Ok loaded) =
    (up ≡ true)
    × ((full : List Registered) × Gives before full old new subtree settings loaded
    × (after ≡ commit_all subtree full))
LoadEnds up before after old new subtree settings (Err Off) = (up ≡ false) × (after ≡ before) × (new ≡ old)
LoadEnds up before after old new subtree settings (Err NoMemory) =
    (up ≡ true) × GivesSome before after old new subtree settings

-- ---- one setting

-- the counts after one setting more, by what became of it
abbrev pub counted : Loaded → Offered → Loaded
counted loaded Taken = record loaded { taken = loaded.taken + 1 }
counted loaded Rejected = record loaded { rejected = loaded.rejected + 1 }
counted loaded Passed = record loaded { passed = loaded.passed + 1 }

-- how the load of one setting that matches ends
abbrev pub LoadOneEnds : List Registered → List Registered → Option (List Give) → Option (List Give)
    → List ℕ × List ℕ → Loaded → Loaded → Result (Unit {0}) Lack → Type 0
LoadOneEnds before after old new setting was loaded (Ok x) =
    (o : Offered) × OfferEnds before after old new setting (Ok o) × (loaded ≡ counted was o)
LoadOneEnds before after old new setting was loaded (Err lack) =
    OfferEnds before after old new setting (Err lack)

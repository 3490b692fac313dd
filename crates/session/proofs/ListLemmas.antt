-- What was reported, as answers list it.
use Rattle.std.proofs.Common.{◌≡◌, ℕ, Option, Some, List, [], ◌∷◌, ◌++◌, map, refl, sym, ap, ◌∙◌}
use Rattle.std.specs.Option.{unwrap_or}
use Rattle.std.specs.FinMap.{entries}
use Rattle.flash_sim.specs.Device.{Device}
use Rattle.flash_map.specs.declared.area.Area.{Area}
use Rattle.flash_map.specs.declared.area.Geometry.{Geometry}
use Rattle.flash_map.specs.On.{on}
use Rattle.backend_api.specs.Map.{Map}
use Rattle.settings_core.specs.Deliveries.{settings_under}
use Rattle.settings_core.specs.Reported.{reported_more}
use Rattle.script_lines.specs.declared.lists.Pair.{Pair}
use Rattle.session_table.specs.Step.{as_pair}
use Rattle.session.specs.Lists.{as_setting, pairs_under}

settings_back : (pairs : List Pair) → map as_pair (map as_setting pairs) ≡ pairs
settings_back [] = refl
settings_back (pair ∷ pairs) = ap (λ (rest : List Pair). pair ∷ rest) (settings_back pairs)

pub reported_pairs : (pairs : List Pair) (settings : List (List ℕ × List ℕ)) → Some (map as_setting pairs) ≡ Some settings → pairs ≡ map as_pair settings
reported_pairs pairs settings is = sym (settings_back pairs) ∙ ap (λ (reported : Option (List (List ℕ × List ℕ))). map as_pair (unwrap_or reported [])) is

-- ---- from the start

module _ (contents : Area → Geometry → List (List ℕ) → Map) (d : Device) where
  pub under_reported : (m area : Area) (subtree : Option (List ℕ)) (before pairs : List Pair) → m ≡ area → before ≡ []
      → Some (map as_setting pairs) ≡ reported_more (Some (map as_setting before)) (settings_under subtree (entries (on contents d m))) → pairs ≡ pairs_under subtree (on contents d area)
  under_reported m area subtree before pairs at none is =
      reported_pairs pairs (settings_under subtree (entries (on contents d m)))
      (is ∙ ap (λ (first : List Pair). Some (map as_setting first ++ settings_under subtree (entries (on contents d m)))) none)
      ∙ ap (λ (a : Area). pairs_under subtree (on contents d a)) at

-- Lines that report settings, and the one that moves them, where there is no other area.
use Rattle.std.proofs.Common.{◌≡◌, ℕ, Bool, true, Option, None, List, [], ◌∷◌, map, refl, ap, subst, ◌∙◌}
use Rattle.std.specs.FinMap.{entries}
use Rattle.flash_sim.specs.Device.{Device}
use Rattle.flash_sim.specs.declared.flash.Loss.{Loss}
use Rattle.flash_map.specs.declared.area.Area.{Area}
use Rattle.flash_map.specs.declared.area.Geometry.{Geometry}
use Rattle.flash_map.specs.On.{on}
use Rattle.handlers.specs.declared.handler.HandlerKind.{HandlerKind}
use Rattle.handlers.specs.Registry.{Registered}
use Rattle.backend_api.specs.Commands.{Command}
use Rattle.backend_api.specs.Map.{IsAbsent, IsStored, Map}
use Rattle.backend_api.specs.Room.{Room}
use Rattle.settings_core.specs.Deliveries.{settings_under}
use Rattle.script_lines.specs.declared.lists.Pair.{Pair}
use Rattle.script_lines.specs.declared.line.Line.TheVariants.{Get, Direct, Names, Migrate}
use Rattle.script_lines.specs.declared.answer.Answer.TheVariants.{Absent, NoTarget, Value, Direct as Reported, Names as Named}
use Rattle.migrator.specs.Active.{active_on}
use Rattle.migrator.specs.Areas.{target}
use Rattle.session_table.specs.Step.{as_pair}
use Rattle.session.specs.Lists.{pairs_under}
use Rattle.session.specs.OnMap.{DoneWithin, active_area, meanings, moment}
use Rattle.session.proofs.QuietLemmas.{quiet}

all_under : (settings : List (List ℕ × List ℕ)) → settings_under None settings ≡ settings
all_under [] = refl
all_under (setting ∷ settings) = ap (λ (rest : List (List ℕ × List ℕ)). setting ∷ rest) (all_under settings)

module _ (contents : Area → Geometry → List (List ℕ) → Map) (room : Area → Geometry → Room) (chance : Area → Geometry → List (List ℕ) → Loss → Bool) (tears : Area → Geometry → Command → ℕ → Map → Map → Type 0)
    (areas : List Area) (d : Device) (powered : d.is_on ≡ true) (r : List Registered) (p : List HandlerKind) where
  pub reports : (subtree : Option (List ℕ)) (pairs : List Pair) → pairs ≡ pairs_under subtree (on contents d (active_area areas d)) → DoneWithin (meanings contents room chance tears) areas (Direct subtree) (Reported pairs) (moment d r p) (moment d r p)
  reports subtree pairs is = quiet contents room chance tears areas d (Direct subtree) (Reported pairs) r r p p (λ last. (λ needs. powered, (is, refl))) refl refl refl refl refl tt

  pub names : (active : List ℕ) (pairs : List Pair) → active ≡ (active_area areas d).label.bytes → pairs ≡ pairs_under None (on contents d (active_area areas d)) → DoneWithin (meanings contents room chance tears) areas Names (Named active pairs) (moment d r p) (moment d r p)
  names active pairs label is =
      quiet contents room chance tears areas d Names (Named active pairs) r r p p (λ last. (λ needs. powered, (label, is ∙ ap (map as_pair) (all_under (entries (on contents d (active_area areas d)))), refl))) refl refl refl refl refl tt

  -- by the area that is active
  pub found : (area : Area) (name value : List ℕ) → area ≡ active_area areas d → IsStored (on contents d area) name value → DoneWithin (meanings contents room chance tears) areas (Get name) (Value value) (moment d r p) (moment d r p)
  found area name value at is =
      let stored : IsStored (on contents d (active_area areas d)) name value = subst (λ (a : Area). IsStored (on contents d a) name value) at is in
      quiet contents room chance tears areas d (Get name) (Value value) r r p p (λ last. (λ needs. powered, (stored, refl))) refl refl refl refl refl tt

  pub missing : (area : Area) (name : List ℕ) → area ≡ active_area areas d → IsAbsent (on contents d area) name → DoneWithin (meanings contents room chance tears) areas (Get name) Absent (moment d r p) (moment d r p)
  missing area name at is =
      let absent : IsAbsent (on contents d (active_area areas d)) name = subst (λ (a : Area). IsAbsent (on contents d a) name) at is in
      quiet contents room chance tears areas d (Get name) Absent r r p p (λ last. (λ needs. powered, (absent, refl))) refl refl refl refl refl tt

  -- no area but this one
  pub no_target : target areas (active_on areas d) ≡ None → DoneWithin (meanings contents room chance tears) areas Migrate NoTarget (moment d r p) (moment d r p)
  no_target none = quiet contents room chance tears areas d Migrate NoTarget r r p p (λ last. (λ needs. powered, (none, refl))) refl refl refl refl refl tt

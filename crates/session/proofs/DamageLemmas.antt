-- What a map shows of damage.
use Rattle.std.proofs.Common.{◌≡◌, ℕ, List, [], ◌∷◌, Option, Some, None, refl, sym, ap, subst, ◌∙◌}
use Rattle.std.specs.Prelude.{option_map}
use Rattle.std.specs.Option.{option_or}
use Rattle.std.proofs.lemmas.Option.{none-some}
use Rattle.flash_sim.specs.Bank.{IsLawful}
use Rattle.flash_sim.specs.Device.{Device}
use Rattle.flash_map.specs.declared.area.Area.{Area}
use Rattle.flash_map.specs.declared.area.Geometry.{Geometry}
use Rattle.flash_map.specs.declared.faults.Damaged.{Damaged}
use Rattle.flash_map.specs.On.{on}
use Rattle.flash_map.specs.Touches.{SameOutside}
use Rattle.migrator.specs.Active.{active_on, selector_damage_on}
use Rattle.session_table.specs.Bench.{area_at}
use Rattle.session.specs.OnMap.{IsServedMap, active_area, active_damage, damage_in, selector_damage, selector_place, turned_on}
use Rattle.session.proofs.ActiveAreas.{active_powered, selector_powered, selector_still, selector_beside, active_beside}

module _ {X Y : Type 0} (f g : X → Y) where
  both : (a b : Option X) → option_or (option_map f a) (option_map g b) ≡ None → (a ≡ None) × (b ≡ None)
  both None None is = (refl, refl)
  both None (Some y) is = absurd (none-some (g y) (sym is))
  both (Some x) b is = absurd (none-some (f x) (sym is))

module _ (damage : Area → Geometry → List (List ℕ) → Option Damaged) (areas : List Area) where
  abbrev of : ℕ → Option Damaged → Option (ℕ × Damaged)
  of place o = option_map (λ (x : Damaged). (place, x)) o

  pub damage_none : (d : Device) → selector_damage_on areas d ≡ None → on damage d (active_area areas d) ≡ None → damage_in damage areas d ≡ None
  damage_none d first second =
      ap (λ (o : Option Damaged). option_or (of (selector_place areas) o) (of (active_on areas d) (on damage d (active_area areas d)))) first
      ∙ ap (λ (o : Option Damaged). of (active_on areas d) o) second

  pub none_damage : (d : Device) → damage_in damage areas d ≡ None → (selector_damage_on areas d ≡ None) × (on damage d (active_area areas d) ≡ None)
  none_damage d is = both (λ (x : Damaged). (selector_place areas, x)) (λ (x : Damaged). (active_on areas d, x)) (selector_damage_on areas d) (on damage d (active_area areas d)) is

  -- the selector's damage comes first
  pub selector_shows : (d : Device) (found : ℕ × Damaged) → selector_damage areas d ≡ Some found → damage_in damage areas d ≡ Some found
  selector_shows d found is = ap (λ (o : Option (ℕ × Damaged)). option_or o (active_damage damage areas d)) is

  pub active_shows : (d : Device) (damaged : Damaged) → selector_damage_on areas d ≡ None → on damage d (active_area areas d) ≡ Some damaged → damage_in damage areas d ≡ Some (active_on areas d, damaged)
  active_shows d damaged first second =
      ap (λ (o : Option Damaged). option_or (of (selector_place areas) o) (of (active_on areas d) (on damage d (active_area areas d)))) first
      ∙ ap (λ (o : Option Damaged). of (active_on areas d) o) second

  pub shows_none : (d : Device) → selector_damage_on areas d ≡ None → active_damage damage areas d ≡ None → damage_in damage areas d ≡ None
  shows_none d first second = ap (λ (o : Option Damaged). option_or (of (selector_place areas) o) (active_damage damage areas d)) first ∙ second

  -- the selector shows none where the map showed none before
  pub selector_sound : (old new : Device) → (damage_in damage areas old ≡ None → damage_in damage areas new ≡ None) → selector_damage_on areas old ≡ None → active_damage damage areas old ≡ None → selector_damage_on areas new ≡ None
  selector_sound old new sound first second = (none_damage new (sound (shows_none old first second))).0

  -- by the place
  pub none_at : (d : Device) → on damage d (active_area areas d) ≡ None → active_damage damage areas d ≡ None
  none_at d is = ap (λ (o : Option Damaged). of (active_on areas d) o) is

  -- the active area alone changed, and shows none
  pub none_beside : (serves : Area → Geometry → Type 0) (old new : Device) → IsServedMap serves areas old → IsLawful old.banks old.bytes → IsLawful new.banks new.bytes → new.banks ≡ old.banks → SameOutside (active_area areas old ∷ []) old new
      → (on damage old (active_area areas old) ≡ None → on damage new (active_area areas old) ≡ None) → damage_in damage areas old ≡ None → damage_in damage areas new ≡ None
  none_beside serves old new map lawful lawful_new banks outside sound is =
      let parts = none_damage old is in
      let stays : active_on areas new ≡ active_on areas old = active_beside serves areas old new map lawful lawful_new banks outside in
      damage_none new (selector_still areas old new banks (selector_beside serves areas old new map lawful lawful_new banks outside) ∙ parts.0)
      (subst (λ (place : ℕ). on damage new (area_at areas place) ≡ None) (sym stays) (sound parts.1))

  -- ---- power alone changed

  pub shown_powered : (d : Device) → active_damage damage areas (turned_on d) ≡ active_damage damage areas d
  shown_powered d = ap (λ (place : ℕ). of place (on damage d (area_at areas place))) (active_powered areas d)

  pub damage_powered : (d : Device) → damage_in damage areas (turned_on d) ≡ damage_in damage areas d
  damage_powered d =
      ap (λ (o : Option Damaged). option_or (of (selector_place areas) o) (active_damage damage areas (turned_on d))) (selector_powered areas d)
      ∙ ap (λ (o : Option (ℕ × Damaged)). option_or (selector_damage areas d) o) (shown_powered d)

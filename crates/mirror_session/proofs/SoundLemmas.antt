-- Whether a map shows damage, by the selector and the area that is read.
use Rattle.std.proofs.Common.{◌≡◌, ℕ, List, Option, Some, None, refl, sym, ap, ◌∙◌}
use Rattle.std.specs.Prelude.{is_some}
use Rattle.std.specs.List.{slice_get}
use Rattle.std.specs.Option.{option_and_then, option_map, option_or}
use Rattle.std.proofs.lemmas.Bool.{false≢true}
use Rattle.flash_sim.specs.Device.{Device}
use Rattle.flash_map.specs.declared.area.Area.{Area}
use Rattle.flash_map.specs.declared.area.Geometry.{Geometry}
use Rattle.flash_map.specs.declared.faults.Damaged.{Damaged}
use Rattle.flash_map.specs.On.{on}
use Rattle.migrator.specs.Active.{selector_damage_on}
use Rattle.mirror.specs.Trusted.{damage_shown, selector_place, trusted_damage, trusted_on}

-- damage at a place
abbrev placed : ℕ → Option Damaged → Option (ℕ × Damaged)
placed place o = option_map (λ shown. (place, shown)) o

none_placed : (place : ℕ) (o : Option Damaged) → placed place o ≡ None → o ≡ None
none_placed place None is = refl
none_placed place (Some x) is = absurd (false≢true (sym (ap (λ (o : Option (ℕ × Damaged)). is_some o) is)))

none_behind : (place : ℕ) (o : Option Damaged) (rest : Option (ℕ × Damaged)) → option_or (placed place o) rest ≡ None → rest ≡ None
none_behind place None rest is = is
none_behind place (Some x) rest is = absurd (false≢true (sym (ap (λ (o : Option (ℕ × Damaged)). is_some o) is)))

none_first : (place : ℕ) (o : Option Damaged) (rest : Option (ℕ × Damaged)) → option_or (placed place o) rest ≡ None → o ≡ None
none_first place None rest is = refl
none_first place (Some x) rest is = absurd (false≢true (sym (ap (λ (o : Option (ℕ × Damaged)). is_some o) is)))

pub selector_none : (damage : Area → Geometry → List (List ℕ) → Option Damaged) (areas : List Area) (d : Device) → damage_shown damage areas d ≡ None → selector_damage_on areas d ≡ None
selector_none damage areas d shown = none_first (selector_place areas) (selector_damage_on areas d) (placed (trusted_on areas d) (trusted_damage damage areas d)) shown

module _ (damage : Area → Geometry → List (List ℕ) → Option Damaged) (areas : List Area) (d : Device) (trusted : Area) (there : slice_get areas (trusted_on areas d) ≡ Some trusted) where
  trusted_shows : trusted_damage damage areas d ≡ on damage d trusted
  trusted_shows = ap (λ (o : Option Area). option_and_then (on damage d) o) there

  pub none_shown : selector_damage_on areas d ≡ None → on damage d trusted ≡ None → damage_shown damage areas d ≡ None
  none_shown sound undamaged =
      ap (λ (o : Option Damaged). option_or (placed (selector_place areas) o) (placed (trusted_on areas d) (trusted_damage damage areas d))) sound
      ∙ ap (λ (o : Option Damaged). placed (trusted_on areas d) o) (trusted_shows ∙ undamaged)

  pub trusted_none : damage_shown damage areas d ≡ None → on damage d trusted ≡ None
  trusted_none shown =
      sym trusted_shows
      ∙ none_placed (trusted_on areas d) (trusted_damage damage areas d) (none_behind (selector_place areas) (selector_damage_on areas d) (placed (trusted_on areas d) (trusted_damage damage areas d)) shown)

-- What a mount that was cut leaves: the same area is read, as the same settings.
use Rattle.std.proofs.Common.{◌≡◌, ◌⊎◌, inl, inr, ℕ, ◌&&◌, Bool, true, false, List, [], ◌∷◌, Some, None, refl, sym, ap, subst, ◌∙◌}
use Rattle.std.specs.List.{slice_get}
use Rattle.std.proofs.lemmas.Bool.{false≢true}
use Rattle.flash_sim.specs.Bank.{IsLawful}
use Rattle.flash_sim.specs.declared.flash.Bank.{Bank}
use Rattle.flash_sim.specs.Device.{Device}
use Rattle.flash_map.specs.declared.area.Area.{Area}
use Rattle.flash_map.specs.declared.area.Geometry.{Geometry}
use Rattle.flash_map.specs.Area.{AreApart, geometry_of, sectors_of}
use Rattle.flash_map.specs.On.{on}
use Rattle.flash_map.specs.Touches.{Touches}
use Rattle.backend_api.specs.Map.{Map}
use Rattle.migrator.specs.Active.{active_on}
use Rattle.migrator.proofs.Copies.{geometry-same}
use Rattle.migrator.proofs.Migration.{selector-apart}
use Rattle.mirror.specs.Mounting.{IsCutMount, KeepsTrusted}
use Rattle.mirror.specs.Trusted.{IsMirrorMap, trusted_on}
use Rattle.session_table.specs.Bench.{area_at}
use Rattle.session.proofs.ActiveAreas.{area_there, store_there}
use Rattle.mirror_session.specs.Bench.{Meanings, moment, rules_of, state_of}
use Rattle.mirror_session.specs.LineDone.{FitNow, FitsBoth, StaysSound}
use Rattle.session.specs.OnMap.{turned_on}
use Rattle.mirror_session.specs.State.{trusted_of}
use Rattle.mirror_session.specs.Step.{StopsMounting}
use Rattle.mirror_session.proofs.MountLemmas.{trusted_stores, trusted_there}
use Rattle.mirror_session.proofs.PlaceLemmas.{map_kept, trusted_of_is}
use Rattle.mirror_session.proofs.BlankLemmas.{of_one}
use Rattle.mirror_session.proofs.SelectorLemmas.{same_beyond}
use Rattle.mirror_session.proofs.SoundLemmas.{none_shown, trusted_none}

module _ (m : Meanings) (serves : Area → Geometry → Type 0) (areas : List Area) (old new : Device) (map : IsMirrorMap serves areas old) (lawful : IsLawful old.banks old.bytes) (lawful_new : IsLawful new.banks new.bytes) (banks : new.banks ≡ old.banks)
    (same : trusted_on areas new ≡ trusted_on areas old) where
  -- the area that is read
  abbrev read : Area
  read = area_at areas (trusted_on areas old)

  -- ---- where the selector alone changed

  module _ (touches : Touches (map.selector ∷ []) (turned_on old) new true) where
    stays : sectors_of new read ≡ sectors_of old read
    stays =
        let store = trusted_stores serves areas old map in
        let there = store_there areas (trusted_on areas old) store in
        same_beyond (map.selector ∷ []) read (turned_on old) new lawful lawful_new (map.lawful.each (trusted_on areas old) read there).in_bank
        (of_one (λ a. AreApart a read) map.selector (selector-apart old.banks areas map.selector read (trusted_on areas old) map.lawful map.selected there store).0) touches.banks touches.outside

    stays_so : {X : Type 0} (f : Area → Geometry → List (List ℕ) → X) → on f new read ≡ on f old read
    stays_so f =
        ap (λ (g : Geometry). f read g (sectors_of new read)) (geometry-same old new read banks)
        ∙ ap (λ (l : List (List ℕ)). f read (geometry_of old read) l) stays

  -- ---- later

  module _ (trusted : Area) (there : slice_get areas (trusted_on areas old) ≡ Some trusted) (kept : KeepsTrusted m.damage m.contents areas (turned_on old) new trusted) where
    area_is : read ≡ trusted
    area_is = area_there areas (trusted_on areas old) trusted there

    reads_same : on m.contents new read ≡ on m.contents old read
    reads_same = ap (λ (a : Area). on m.contents new a) area_is ∙ kept.kept.reads ∙ ap (λ (a : Area). on m.contents old a) (sym area_is)

    undamaged_still : on m.damage new read ≡ None
    undamaged_still = ap (λ (a : Area). on m.damage new a) area_is ∙ kept.kept.undamaged

  module _ (cut : IsCutMount m.damage m.contents m.room m.prices areas map.selector (turned_on old) new) (off : new.is_on ≡ false) where
    off_state : (state_of m areas (moment new false)).is_on ≡ false
    off_state = ap (λ (b : Bool). b && false) off

    reads_still : on m.contents new read ≡ on m.contents old read
    reads_still = elim cut.later [
      | inl touches ↦ stays_so touches m.contents
      | inr later ↦ elim later [
        | inl in_trusted ↦ reads_same in_trusted.trusted in_trusted.there in_trusted.kept
        | inr in_other ↦ reads_same in_other.trusted in_other.there in_other.kept
      ]
    ]

    undamaged_read : on m.damage old read ≡ None → on m.damage new read ≡ None
    undamaged_read none = elim cut.later [
      | inl touches ↦ stays_so touches m.damage ∙ none
      | inr later ↦ elim later [
        | inl in_trusted ↦ undamaged_still in_trusted.trusted in_trusted.there in_trusted.kept
        | inr in_other ↦ undamaged_still in_other.trusted in_other.there in_other.kept
      ]
    ]

    settings_are : (was : Bool) → (state_of m areas (moment new false)).settings ≡ (state_of m areas (moment old was)).settings
    settings_are was = ap (λ (p : ℕ). on m.contents new (area_at areas p)) same ∙ reads_still

    pub stays_sound : (was : Bool) → StaysSound m areas (moment old was) (moment new false)
    stays_sound was shown =
        none_shown m.damage areas new (area_at areas (trusted_on areas new)) (trusted_there serves areas new (map_kept serves areas old new banks map)) cut.trust.sound_still
        (ap (λ (p : ℕ). on m.damage new (area_at areas p)) same ∙ undamaged_read (trusted_none m.damage areas old read (trusted_there serves areas old map) shown))

    pub stays_fit : (was : Bool) → FitNow m areas (moment old was) → FitNow m areas (moment new false)
    stays_fit was is = record {
      settings =
          subst (λ (all : List Bank). FitsBoth m areas all (state_of m areas (moment new false)).settings) (sym banks)
          (subst (λ (s : Map). FitsBoth m areas old.banks s) (sym (settings_are was)) is.settings);
      other = λ now. absurd (false≢true now);
    }

    named_or : (last : ℕ) (was : Bool) → (active_on areas new ≡ active_on areas old) ⊎ (active_on areas new ≡ trusted_of (rules_of m areas old.banks last) (state_of m areas (moment old was)))
    named_or last was = elim cut.trust.active [
      | inl same_name ↦ inl same_name
      | inr same_name ↦ inr (same_name ∙ trusted_of_is areas old)
    ]

    pub stops_mounting : (last : ℕ) (was : Bool) → StopsMounting (rules_of m areas old.banks last) (state_of m areas (moment old was)) (state_of m areas (moment new false))
    stops_mounting last was = record {
      names = named_or last was;
      trusted = sym (trusted_of_is areas new) ∙ same ∙ trusted_of_is areas old;
      settings = settings_are was;
      off = off_state;
      not_whole = refl;
    }

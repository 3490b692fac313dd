-- Mounts, as lines.
use Rattle.std.proofs.Common.{◌≡◌, ◌≢◌, ◌⊎◌, inl, inr, ℕ, zero, suc, ◌+◌, ◌-◌, ◌<◌, ◌≤◌, ◌&&◌, Bool, true, false, cond, List, [], ◌∷◌, get_or, Option, Some, None, Ok, Err, refl, sym, ap, subst, ◌∙◌, arith}
use Rattle.std.specs.Prelude.{Contains, Result, max, min, unwrap_or}
use Rattle.std.specs.List.{slice_get}
use Rattle.std.proofs.lemmas.Bool.{false≢true}
use Rattle.flash_sim.specs.Device.{Device}
use Rattle.flash_map.specs.declared.area.Area.{Area}
use Rattle.flash_map.specs.declared.area.Geometry.{Geometry}
use Rattle.flash_map.specs.declared.faults.Damaged.{Damaged}
use Rattle.flash_map.specs.On.{on}
use Rattle.std.specs.FinMap as finite
use Rattle.flash_map.specs.Spending.{SpendsAtMost}
use Rattle.flash_map.specs.Touches.{Touches}
use Rattle.flash_map.proofs.Touches.{wider}
use Rattle.backend_api.specs.Map.{Map}
use Rattle.migrator.specs.Active.{active_on}
use Rattle.migrator.specs.Areas.{is_store_at, selector_of, target}
use Rattle.migrator.proofs.Migration.{active-on, active-store, selector-at}
use Rattle.mirror.specs.declared.mirror.Mirror.{Mirror}
use Rattle.mirror.specs.declared.mounting.MirrorMount.{MirrorMount}
use Rattle.mirror.specs.declared.mounting.MirrorMount.TheVariants.{Damaged as HasDamage, Unfit as IsNotFit, PowerLost, NoMemory as WantsMemory}
use Rattle.mirror.specs.Mounting.{FitsAt, IsAtRest, IsCutMount, MirrorMounts, SparesAreas, UnfitAt, both_units, mount_lost, other_place, trust_units, worked_on}
use Rattle.mirror.specs.Owing.{MountsOwed, naming_units}
use Rattle.mirror.specs.Mirrored.{FitBoth}
use Rattle.mirror.specs.Room.{FitsOn}
use Rattle.mirror.specs.Trusted.{BothRead, IsMirrorMap, MirrorReads, trusted_on}
use Rattle.session_table.specs.Bench.{area_at}
use Rattle.session.proofs.ActiveAreas.{area_there, selector_powered, store_there}
use Rattle.mirror_session.specs.declared.line.Line.TheVariants.{Mount}
use Rattle.mirror_session.specs.Answer.{done, lost}
use Rattle.mirror_session.specs.declared.fault.SessionFault.TheVariants.{Damaged as SessionDamaged, Unfit as SessionUnfit, NoMemory as SessionMemory}
use Rattle.mirror_session.specs.Bench.{Meanings, beside_in, is_gone, moment, rules_of, state_of}
use Rattle.mirror_session.specs.LineDone.{FitNow, FitsBoth, LineDone, MountSpares, MountsWithin, StaysSound}
use Rattle.session.specs.OnMap.{turned_on}
use Rattle.mirror_session.specs.Running.{FindsNoFit, LineStops, MountStops}
use Rattle.mirror_session.specs.Standing.{AtRest, IsHeld}
use Rattle.mirror_session.specs.State.{State, trusted_of}
use Rattle.mirror_session.specs.Step.{Remounts, StopsMounting}
use Rattle.mirror_session.proofs.AccountLemmas.{kept, kept_beside}
use Rattle.mirror_session.proofs.AccountLemmas as counts
use Rattle.mirror_session.proofs.ChangeLemmas.{most_spent, order_cases}
use Rattle.mirror_session.proofs.HeldLemmas.{fit_both, others_are, reads_both, reads_on, settings_are}
use Rattle.mirror_session.proofs.SoundLemmas.{none_shown}
use Rattle.mirror_session.proofs.PlaceLemmas.{beside_some, map_kept, store_is, trusted_of_is}
use Rattle.mirror_session.proofs.SelectorLemmas.{listed}
use Rattle.mirror_session.proofs.SideLemmas.{side_sound}

pub never_on : (b : Bool) → (b && false) ≡ true → ⊥
never_on true is = false≢true is
never_on false is = false≢true is

three_of : (P : Area → Type 0) (one two three x : Area) (k : ℕ) → k < 3 → get_or (one ∷ two ∷ three ∷ []) k x ≡ x → P one → P two → P three → P x
three_of P one two three x zero below is a b c = subst P is a
three_of P one two three x (suc zero) below is a b c = subst P is b
three_of P one two three x (suc (suc zero)) below is a b c = subst P is c
three_of P one two three x (suc (suc (suc k))) below is a b c = absurd (omega arith)

-- ---- where the areas of a map are

module _ (serves : Area → Geometry → Type 0) (areas : List Area) (d : Device) (map : IsMirrorMap serves areas d) where
  pub active_stores : is_store_at areas (active_on areas d) ≡ true
  active_stores = ap (is_store_at areas) (active-on areas d map.selector map.selected) ∙ active-store areas d map.selector map.one map.one_stores

  -- a store area beside another
  beside : (a : ℕ) → is_store_at areas a ≡ true → (b : ℕ) × (is_store_at areas b ≡ true) × (a ≢ b)
  beside a store = elim (map.only a store) [
    | inl one ↦ (map.two, map.two_stores, λ e. map.apart (sym one ∙ e))
    | inr two ↦ (map.one, map.one_stores, λ e. map.apart (sym e ∙ two))
  ]

  pub beside_at : (a : ℕ) → is_store_at areas a ≡ true → (b : ℕ) × (is_store_at areas b ≡ true) × (a ≢ b) × (target areas a ≡ Some b)
  beside_at a store = let b = beside a store in (b.0, b.1, b.2, beside_some serves areas d map a b.0 store b.1 b.2)

  pub trusted_stores : is_store_at areas (trusted_on areas d) ≡ true
  trusted_stores = ap (is_store_at areas) (trusted_of_is areas d) ∙ by (is_gone areas d)
    where
      by : (b : Bool) → is_store_at areas (cond b (beside_in areas (active_on areas d)) (active_on areas d)) ≡ true
      by true = let b = beside_at (active_on areas d) active_stores in ap (λ (o : Option ℕ). is_store_at areas (unwrap_or o (active_on areas d))) b.3 ∙ b.1
      by false = active_stores

  pub trusted_there : slice_get areas (trusted_on areas d) ≡ Some (area_at areas (trusted_on areas d))
  trusted_there = store_there areas (trusted_on areas d) trusted_stores

  pub other_stores : is_store_at areas (other_place areas (trusted_on areas d)) ≡ true
  other_stores = let b = beside_at (trusted_on areas d) trusted_stores in ap (λ (o : Option ℕ). is_store_at areas (unwrap_or o (trusted_on areas d))) b.3 ∙ b.1

  pub other_there : slice_get areas (other_place areas (trusted_on areas d)) ≡ Some (area_at areas (other_place areas (trusted_on areas d)))
  other_there = store_there areas (other_place areas (trusted_on areas d)) other_stores

  pub other_apart : other_place areas (trusted_on areas d) ≢ trusted_on areas d
  other_apart e = let b = beside_at (trusted_on areas d) trusted_stores in b.2 (sym (sym (ap (λ (o : Option ℕ). unwrap_or o (trusted_on areas d)) b.3) ∙ e))

  -- a call on the three areas
  pub in_map : (new : Device) (cut : Bool)
      → ((selector trusted other : Area) → selector_of areas ≡ Some selector → slice_get areas (trusted_on areas d) ≡ Some trusted → slice_get areas (other_place areas (trusted_on areas d)) ≡ Some other → Touches (worked_on selector trusted other) d new cut)
      → Touches areas d new cut
  in_map new cut touches =
      let at = selector-at areas map.selector map.selected in
      wider areas (λ x there. three_of (λ a. Contains areas a) map.selector (area_at areas (trusted_on areas d)) (area_at areas (other_place areas (trusted_on areas d))) x there.0 there.1 there.2
      (listed areas at.index map.selector at.there) (listed areas (trusted_on areas d) (area_at areas (trusted_on areas d)) trusted_there) (listed areas (other_place areas (trusted_on areas d)) (area_at areas (other_place areas (trusted_on areas d))) other_there))
      (touches map.selector (area_at areas (trusted_on areas d)) (area_at areas (other_place areas (trusted_on areas d))) map.selected trusted_there other_there)

-- ---- a mount of a bench, with power turned on first

module _ {S : Type 0} (mounted_on : S → Area) (stands : S → Geometry → List (List ℕ) → Type 0) (m : Meanings) (serves : Area → Geometry → Type 0) (areas : List Area) (old mid new : Device) (map : IsMirrorMap serves areas old)
    (on_first : mid ≡ turned_on old) (result : Result (Mirror S) MirrorMount)
    (touches : (selector trusted other : Area) → selector_of areas ≡ Some selector → slice_get areas (trusted_on areas mid) ≡ Some trusted → slice_get areas (other_place areas (trusted_on areas mid)) ≡ Some other → Touches (worked_on selector trusted other) mid new (mount_lost result))
    (ends : (selector : Area) → selector_of areas ≡ Some selector → MirrorMounts mounted_on stands m.damage m.contents m.room m.prices areas selector mid new result) where
  abbrev before : Device
  before = turned_on old

  map_before : IsMirrorMap serves areas before
  map_before = map_kept serves areas old before refl map

  touched : (x : Result (Mirror S) MirrorMount) → result ≡ x → Touches areas before new (mount_lost x)
  touched x is =
      subst (λ (y : Result (Mirror S) MirrorMount). Touches areas before new (mount_lost y)) is
      (in_map serves areas before map_before new (mount_lost result)
      (subst (λ (d : Device). (selector trusted other : Area) → selector_of areas ≡ Some selector → slice_get areas (trusted_on areas d) ≡ Some trusted → slice_get areas (other_place areas (trusted_on areas d)) ≡ Some other → Touches (worked_on selector trusted other) d new (mount_lost result)) on_first touches))

  -- at whatever area the selector is said to be
  ended_at : (selector : Area) → selector_of areas ≡ Some selector → (x : Result (Mirror S) MirrorMount) → result ≡ x → MirrorMounts mounted_on stands m.damage m.contents m.room m.prices areas selector before new x
  ended_at selector selected x is =
      subst (λ (d : Device). MirrorMounts mounted_on stands m.damage m.contents m.room m.prices areas selector d new x) on_first
      (subst (λ (y : Result (Mirror S) MirrorMount). MirrorMounts mounted_on stands m.damage m.contents m.room m.prices areas selector mid new y) is (ends selector selected))

  ended : (x : Result (Mirror S) MirrorMount) → result ≡ x → MirrorMounts mounted_on stands m.damage m.contents m.room m.prices areas map.selector before new x
  ended x is = ended_at map.selector map.selected x is

  pub banks_stay : new.banks ≡ old.banks
  banks_stay = (touched result refl).banks

  pub spent_risen : mid.spent ≤ new.spent
  spent_risen = let t = touched result refl in let spent = t.spent in let same : mid.spent ≡ old.spent = ap (λ (d : Device). d.spent) on_first in omega (arith, spent, same)

  -- what it spends at most
  abbrev SpendsFrom : Device → Type 0
  SpendsFrom d = (selector trusted other : Area) → selector_of areas ≡ Some selector → slice_get areas (trusted_on areas d) ≡ Some trusted → slice_get areas (other_place areas (trusted_on areas d)) ≡ Some other
      → SpendsAtMost d new (trust_units d selector + both_units d trusted other (finite.len (on m.contents d trusted)))

  abbrev SpendsOnMount : Type 0
  SpendsOnMount = SpendsFrom mid

  -- what the areas owe bounds it too
  abbrev OwedFrom : Device → Type 0
  OwedFrom d = (selector trusted other : Area) → selector_of areas ≡ Some selector → slice_get areas (trusted_on areas d) ≡ Some trusted → slice_get areas (other_place areas (trusted_on areas d)) ≡ Some other
      → MountsOwed m.owes m.damage m.contents (naming_units areas d selector) d new trusted other

  abbrev OwedOnMount : Type 0
  OwedOnMount = OwedFrom mid

  within_most : (units : ℕ) → units ≡ new.spent - mid.spent → SpendsOnMount → MountsWithin m areas units old
  within_most units are most selector trusted other selected there beside =
      subst (λ (n : ℕ). n ≤ trust_units before selector + both_units before trusted other (finite.len (on m.contents before trusted))) (sym (are ∙ ap (λ (d : Device). new.spent - d.spent) on_first))
      (most_spent before new (trust_units before selector + both_units before trusted other (finite.len (on m.contents before trusted))) (subst SpendsFrom on_first most selector trusted other selected there beside))

  -- at rest it changes nothing
  abbrev IdleFrom : Device → Type 0
  IdleFrom d = IsAtRest m.damage m.contents m.rests areas d → new ≡ d

  abbrev IdleOnMount : Type 0
  IdleOnMount = IdleFrom mid

  -- what it spares
  abbrev CopyFrom : Bool → Device → Type 0
  CopyFrom lost d = (selector trusted other : Area) → selector_of areas ≡ Some selector → slice_get areas (trusted_on areas d) ≡ Some trusted → slice_get areas (other_place areas (trusted_on areas d)) ≡ Some other
      → SparesAreas m.damage m.contents m.rests areas lost d new selector trusted other

  abbrev CopyOnMount : Type 0
  CopyOnMount = CopyFrom (mount_lost result) mid

  copied : CopyOnMount → (x : Result (Mirror S) MirrorMount) → result ≡ x → CopyFrom (mount_lost x) before
  copied copy x is = subst (λ (y : Result (Mirror S) MirrorMount). CopyFrom (mount_lost y) before) is (subst (CopyFrom (mount_lost result)) on_first copy)

  at_rest_on : AtRest m areas old → AtRest m areas before
  at_rest_on is = record {
    selector = is.selector;
    named = is.named;
    trusted = is.trusted;
    other = is.other;
    placed = record { trusted_there = is.placed.trusted_there; other_there = is.placed.other_there };
    trusted_rests = is.trusted_rests;
    other_rests = is.other_rests;
    same = record { sound = is.same.sound; reads = is.same.reads };
  }

  unchanged : IdleOnMount → AtRest m areas old → new ≡ before
  unchanged idle is = subst IdleFrom on_first idle (at_rest_on is)

  -- ---- it was whole

  module _ (mirror : Mirror S) (whole : result ≡ Ok mirror) (reads : (state : S) (geometry : Geometry) (sectors : List (List ℕ)) → stands state geometry sectors → m.damage (mounted_on state) geometry sectors ≡ None)
      (same : trusted_on areas new ≡ trusted_on areas mid) where
    pub on_now : new.is_on ≡ true
    on_now = (touched (Ok mirror) whole).ends.on

    map_now : IsMirrorMap serves areas new
    map_now = map_kept serves areas old new banks_stay map

    -- the selector names the area that is read
    not_gone : is_gone areas new ≡ false
    not_gone = by (is_gone areas new) refl
      where
        active : active_on areas new ≡ trusted_on areas new
        active = (ended (Ok mirror) whole).kept.active ∙ sym (same ∙ ap (λ (d : Device). trusted_on areas d) on_first)

        by : (b : Bool) → is_gone areas new ≡ b → is_gone areas new ≡ false
        by true is =
            let beside : beside_in areas (active_on areas new) ≡ active_on areas new =
            sym (trusted_of_is areas new ∙ ap (λ (b : Bool). cond b (beside_in areas (active_on areas new)) (active_on areas new)) is) ∙ sym active in
            absurd (other_apart serves areas new map_now (ap (other_place areas) (sym active) ∙ beside ∙ active))
        by false is = is

    pub held_now : IsHeld mounted_on stands m areas new mirror
    held_now = let e = ended (Ok mirror) whole in record {
      trusted = record {
        there = ap (slice_get areas) e.trusted_at ∙ e.placed.trusted_there;
        stores = store_is areas (trusted_on areas before) mirror.trusted.area e.placed.trusted_there (trusted_stores serves areas before map_before);
        sound = e.kept.kept.undamaged;
      };
      other = record {
        there = ap (slice_get areas) e.other_at ∙ e.placed.other_there;
        stores = store_is areas (other_place areas (trusted_on areas before)) mirror.other.area e.placed.other_there (other_stores serves areas before map_before);
        sound = side_sound mounted_on stands m new mirror.other reads e.mirrors.other_stands;
      };
      apart = λ same. other_apart serves areas before map_before (sym e.other_at ∙ same ∙ e.trusted_at);
      named = e.trusted_at ∙ sym e.kept.active;
      sound = e.kept.sound;
      rests = e.rests;
      up = λ power. e.mirrors;
      read = λ power. not_gone;
    }

    abbrev settings_before : Map
    settings_before = on m.contents old (area_at areas (trusted_on areas old))

    trusted_same : on m.contents new mirror.trusted.area ≡ settings_before
    trusted_same = let e = ended (Ok mirror) whole in
        e.kept.kept.reads ∙ ap (λ (a : Area). on m.contents before a) (sym (area_there areas (trusted_on areas before) mirror.trusted.area e.placed.trusted_there))

    abbrev made : Map → Map → ℕ → Bool → Bool → State
    made settings other named gone power = record { settings = settings; other = other; named = named; gone = gone; is_on = power; is_whole = true }

    remounts : (last : ℕ) (was : Bool) → Remounts (rules_of m areas old.banks last) (state_of m areas (moment old was)) (state_of m areas (moment new true))
    remounts last was = let e = ended (Ok mirror) whole in
        ap (λ (x : Map). made x (on m.contents new (area_at areas (beside_in areas (trusted_on areas new)))) (active_on areas new) (is_gone areas new) (new.is_on && true)) (settings_are mounted_on stands m serves areas new mirror map_now held_now on_now ∙ trusted_same)
        ∙ ap (λ (x : Map). made settings_before x (active_on areas new) (is_gone areas new) (new.is_on && true)) (others_are mounted_on stands m serves areas new mirror map_now held_now on_now ∙ trusted_same)
        ∙ ap (λ (n : ℕ). made settings_before settings_before n (is_gone areas new) (new.is_on && true)) (e.kept.active ∙ trusted_of_is areas old)
        ∙ ap (λ (b : Bool). made settings_before settings_before (trusted_of (rules_of m areas old.banks last) (state_of m areas (moment old was))) b (new.is_on && true)) not_gone
        ∙ ap (λ (b : Bool). made settings_before settings_before (trusted_of (rules_of m areas old.banks last) (state_of m areas (moment old was))) false (b && true)) on_now

    -- what both read as fits both
    fit_now : FitNow m areas (moment new true)
    fit_now = let e = ended (Ok mirror) whole in
        let both : FitBoth m.room m.prices new mirror.trusted.area mirror.other.area (on m.contents new mirror.trusted.area) = record { trusted_fits = e.mirrors.trusted_fits; other_fits = e.mirrors.other_fits } in
        fit_both mounted_on stands m serves areas new mirror map_now held_now new refl true both
        (subst (λ (s : Map). FitBoth m.room m.prices new mirror.trusted.area mirror.other.area s) (sym e.mirrors.same) both)

    both_then : BothRead m.damage m.contents areas new (state_of m areas (moment new true)).settings
    both_then = let e = ended (Ok mirror) whole in
        let are = settings_are mounted_on stands m serves areas new mirror map_now held_now on_now in
        reads_both mounted_on stands m serves areas new mirror map_now held_now new (state_of m areas (moment new true)).settings held_now.sound held_now.trusted.sound held_now.other.sound (sym are) (e.mirrors.same ∙ sym are)

    none_spent : (units : ℕ) → units ≡ new.spent - mid.spent → new ≡ before → done units ≡ done 0
    none_spent units are still =
        let fewer : new.spent ≡ mid.spent = ap (λ (d : Device). d.spent) still ∙ sym (ap (λ (d : Device). d.spent) on_first) in
        ap done (omega (arith, are, fewer))

    whole_spares : (units : ℕ) → units ≡ new.spent - mid.spent → IdleOnMount → CopyOnMount → MountSpares m areas (done units) old new
    whole_spares units are idle copy = record {
      copy = copied copy (Ok mirror) whole;
      rests = λ is. (none_spent units are (unchanged idle is), unchanged idle is);
    }

    pub whole_line : (units : ℕ) (was : Bool) → units ≡ new.spent - mid.spent → SpendsOnMount → IdleOnMount → CopyOnMount → LineDone m areas Mount (done units) (moment old was) (moment new true)
    whole_line units was are most idle copy =
        let touch = touched (Ok mirror) whole in
        let accounts = kept areas Mount (done units) before new touch refl refl (are ∙ ap (λ (d : Device). new.spent - d.spent) on_first) in
        let beside_it = kept_beside areas before new false touch in
        record {
          step = λ last within. (λ needs. absurd (false≢true needs), remounts last was);
          accounts = record { spent = accounts.spent; losses = accounts.losses; allows = accounts.allows; plan = accounts.plan; unplanned = accounts.unplanned };
          keeps = record { banks = beside_it.banks; loaded = beside_it.loaded; outside = beside_it.outside };
          touches = λ plain. touch;
          blanks = tt;
          quiet = λ is. absurd (false≢true is);
          cuts = tt;
          finds = ((ended (Ok mirror) whole).undamaged, within_most units are most);
          spares = whole_spares units are idle copy;
          fits = fit_now;
          fit = λ is. fit_now;
          both = λ was_both power. both_then;
          sound = λ shown.
              none_shown m.damage areas new (area_at areas (trusted_on areas new)) (trusted_there serves areas new map_now) held_now.sound
              (reads_on mounted_on stands m serves areas new mirror map_now held_now new refl (λ a. on m.damage new a) (λ x y. x ≡ None) held_now.trusted.sound held_now.other.sound);
        }

  -- ---- power was lost in it

  module _ (cut : result ≡ Err PowerLost) where
    pub cut_so : IsCutMount m.damage m.contents m.room m.prices areas map.selector (turned_on old) new
    cut_so = ended (Err PowerLost) cut

    pub off_now : new.is_on ≡ false
    off_now = ((touched (Err PowerLost) cut).ends refl).off

    in_selector : Touches (map.selector ∷ []) before new true → (selector : Area) → selector_of areas ≡ Some selector → Touches (selector ∷ []) before new true
    in_selector touch selector selected = subst (λ (s : Area). Touches (s ∷ []) before new true) (some_area map.selector selector (sym map.selected ∙ selected)) touch
      where
        some_area : (x y : Area) → Some x ≡ Some y → x ≡ y
        some_area x y e = cc

    undamaged : (trusted : Area) → slice_get areas (trusted_on areas before) ≡ Some trusted → on m.damage before trusted ≡ None → on m.damage old (area_at areas (trusted_on areas old)) ≡ None
    undamaged trusted there none = ap (λ (a : Area). on m.damage before a) (area_there areas (trusted_on areas before) trusted there) ∙ none

    found : (on m.damage old (area_at areas (trusted_on areas old)) ≡ None) ⊎ ((selector : Area) → selector_of areas ≡ Some selector → Touches (selector ∷ []) before new true)
    found = elim cut_so.later [
      | inl touch ↦ inr (in_selector touch)
      | inr later ↦ elim later [
        | inl in_trusted ↦ inl (undamaged in_trusted.trusted in_trusted.there in_trusted.undamaged)
        | inr in_other ↦ inl (undamaged in_other.trusted in_other.there in_other.undamaged)
      ]
    ]

    -- power is on at rest
    lost_spares : (units : ℕ) → IdleOnMount → CopyOnMount → MountSpares m areas (lost units) old new
    lost_spares units idle copy = record {
      copy = copied copy (Err PowerLost) cut;
      rests = λ is. absurd (false≢true (sym off_now ∙ ap (λ (d : Device). d.is_on) (unchanged idle is)));
    }

    pub lost_line : (units : ℕ) (was : Bool) → units ≡ new.spent - mid.spent → SpendsOnMount → IdleOnMount → CopyOnMount → ((last : ℕ) → StopsMounting (rules_of m areas old.banks last) (state_of m areas (moment old was)) (state_of m areas (moment new false)))
        → StaysSound m areas (moment old was) (moment new false) → (FitNow m areas (moment old was) → FitNow m areas (moment new false)) → LineDone m areas Mount (lost units) (moment old was) (moment new false)
    lost_line units was are most idle copy stops sound fit =
        let touch = touched (Err PowerLost) cut in
        let accounts = counts.lost areas Mount (lost units) before new refl touch refl refl (are ∙ ap (λ (d : Device). new.spent - d.spent) on_first) in
        let beside_it = kept_beside areas before new true touch in
        record {
          step = λ last within. (λ needs. absurd (false≢true needs), stops last);
          accounts = record { spent = accounts.spent; losses = accounts.losses; allows = accounts.allows; plan = accounts.plan; unplanned = accounts.unplanned };
          keeps = record { banks = beside_it.banks; loaded = beside_it.loaded; outside = beside_it.outside };
          touches = λ plain. touch;
          blanks = tt;
          quiet = λ is. absurd (false≢true is);
          cuts = tt;
          finds = (cut_so.trust.sound, found, within_most units are most, cut_so.trust.sound_still);
          spares = lost_spares units idle copy;
          fits = tt;
          fit = fit;
          both = λ was_both power. absurd (never_on new.is_on power);
          sound = sound;
        }

  -- ---- it stopped

  module _ (place : ℕ) (trusted : Area) (there : slice_get areas (trusted_on areas before) ≡ Some trusted) where
    reads_as : on m.contents old (area_at areas (trusted_on areas old)) ≡ on m.contents before trusted
    reads_as = ap (λ (a : Area). on m.contents before a) (area_there areas (trusted_on areas before) trusted there)

    fits_at : FitsBoth m areas old.banks (on m.contents old (area_at areas (trusted_on areas old))) → (p : ℕ) → is_store_at areas p ≡ true → FitsAt m.room m.prices areas before p (on m.contents before trusted)
    fits_at fits p store area at = subst (λ (s : Map). FitsOn m.room m.prices before area s) reads_as (fits p area at (store_is areas p area at store))

    stores : (is_store_at areas (min (trusted_on areas before) (other_place areas (trusted_on areas before))) ≡ true) × (is_store_at areas (max (trusted_on areas before) (other_place areas (trusted_on areas before))) ≡ true)
    stores =
        let one = trusted_stores serves areas before map_before in
        let two = other_stores serves areas before map_before in
        order_cases (λ x y. (is_store_at areas x ≡ true) × (is_store_at areas y ≡ true)) (trusted_on areas before) (other_place areas (trusted_on areas before)) (λ below. (one, two)) (λ past. (two, one))

    no_fit : UnfitAt m.room m.prices areas before (trusted_on areas before) (other_place areas (trusted_on areas before)) (on m.contents before trusted) place → FindsNoFit m areas old
    no_fit (inl low) fits = low.1 (fits_at fits place (ap (is_store_at areas) low.0 ∙ stores.0))
    no_fit (inr high) fits = high.2 (fits_at fits place (ap (is_store_at areas) high.0 ∙ stores.1))

  -- ---- what it leaves, whatever it stopped for

  abbrev KeepsReading : Device → Type 0
  KeepsReading d = (settings : Map) → MirrorReads m.damage m.contents areas d settings → MirrorReads m.damage m.contents areas new settings

  module _ (same : trusted_on areas new ≡ trusted_on areas mid) (keeps : KeepsReading mid) (idle : IdleOnMount) (copy : CopyOnMount) (most : SpendsOnMount) (owed : OwedOnMount) where
    keeps_reading : KeepsReading old
    keeps_reading settings reads =
        subst KeepsReading on_first keeps settings
        (record { sound = selector_powered areas old ∙ reads.sound; area = reads.area; there = reads.there; undamaged = reads.undamaged; reads = reads.reads })

    stopped : (x : Result (Mirror S) MirrorMount) → result ≡ x → mount_lost x ≡ false → MountStops m areas old new
    stopped x is whole = record {
      touches = subst (λ (lost : Bool). Touches areas before new lost) whole (touched x is);
      read = same ∙ ap (λ (d : Device). trusted_on areas d) on_first;
      keeps = keeps_reading;
      rests = λ is. unchanged idle is;
      copy = subst (λ (lost : Bool). CopyFrom lost before) whole (copied copy x is);
      at_most = subst SpendsFrom on_first most;
      owed = subst OwedFrom on_first owed;
    }

    pub damaged_stops : (place : ℕ) (shown : Damaged) → result ≡ Err (HasDamage place shown) → (was : Bool) → LineStops m areas Mount (moment old was) new (SessionDamaged place shown)
    damaged_stops place shown is was = let e = ended (Err (HasDamage place shown)) is in (
      refl,
      e.is_shown,
      λ selector selected. ended_at selector selected (Err (HasDamage place shown)) is,
      λ found seen. e.unchanged found (selector_powered areas old ∙ seen),
      stopped (Err (HasDamage place shown)) is refl,
    )

    pub unfit_stops : (place : ℕ) → result ≡ Err (IsNotFit place) → (was : Bool) → LineStops m areas Mount (moment old was) new (SessionUnfit place)
    unfit_stops place is was = let e = ended (Err (IsNotFit place)) is in
        (refl, e, no_fit place e.trusted e.placed.trusted_there e.unfits, stopped (Err (IsNotFit place)) is refl)

    pub memory_stops : result ≡ Err WantsMemory → (was : Bool) → LineStops m areas Mount (moment old was) new SessionMemory
    memory_stops is was =
        (refl, λ needs. absurd (false≢true needs), tt, (stopped (Err WantsMemory) is refl, λ selector selected. ended_at selector selected (Err WantsMemory) is))

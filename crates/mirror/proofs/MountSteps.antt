-- A mount of a mirror: the selector, and then both areas.
use Rattle.std.proofs.Common.{◌≡◌, ◌≢◌, ◌⊎◌, ℕ, ◌+◌, ◌≤◌, Bool, true, false, min, max, List, [], ◌∷◌, ◌++◌, Option, Some, None, Result, Ok, Err, refl, sym, ap, subst, ◌∙◌, inl, inr, arith}
use Rattle.std.specs.Prelude.{unwrap_or, option_map}
use Rattle.std.specs.FinMap as maps
use Rattle.std.specs.List.{slice_get}
use Rattle.std.specs.Option.{option_and_then, option_or}
use Rattle.std.proofs.lemmas.Bool.{false≢true}
use Rattle.std.proofs.lemmas.List.Elements.{Contains-append_left, Contains-append_right}
use Rattle.flash_sim.specs.Device.{Device}
use Rattle.flash_map.specs.declared.area.Area.{Area}
use Rattle.flash_map.specs.declared.area.Geometry.{Geometry}
use Rattle.flash_map.specs.declared.faults.Damaged.{Damaged}
use Rattle.flash_map.specs.Area.{geometry_of, sectors_of}
use Rattle.flash_map.specs.On.{on, StandsOn}
use Rattle.flash_map.specs.Faults.{mount_lost as store_lost}
use Rattle.flash_map.specs.Spending.{SpendsAtMost}
use Rattle.flash_map.specs.Touches.{Touches}
use Rattle.flash_map.proofs.SpendingLemmas.{most_weaker}
use Rattle.flash_map.specs.declared.faults.MountFault.{MountFault}
use Rattle.flash_map.specs.declared.faults.MountFault.TheVariants.{Damaged as MountDamaged, PowerLost as MountLost, NoMemory as MountNoMemory}
use Rattle.flash_map.proofs.Touches.{first_of_two, second_of_two, then, wider}
use Rattle.fcb_ring.specs.Entries.{HasEntries, states}
use Rattle.fcb_ring.specs.Rings.{first_damage}
use Rattle.fcb_ring.specs.Standing.{entries_on, erases_due, erases_on, ring_damage}
use Rattle.backend_api.specs.Map.{Map}
use Rattle.backend_api.specs.Room.{Room, foreign_units}
use Rattle.migrator.specs.Active.{active_in, active_on, selector_damage_on}
use Rattle.migrator.specs.Areas.{selector_of}
use Rattle.migrator.proofs.Migration.{active-on}
use Rattle.migrator.proofs.Copies.{geometry-same}
use Rattle.migrator.proofs.Moving.{active-still, still}
use Rattle.migrator.proofs.Spent.{most_then}
use Rattle.mirror.specs.declared.mounting.MirrorMount.{MirrorMount}
use Rattle.mirror.specs.declared.mounting.MirrorMount.TheVariants.{Damaged as IsDamaged, Unfit, PowerLost, NoMemory}
use Rattle.mirror.specs.declared.mirror.Mirror.{Mirror}
use Rattle.mirror.specs.Mounting.{BothEnds, FindsDamage, FindsUnfit, FitsAt, IsCutTrust, KeepsArea, KeepsTrusted, MirrorMounts, MountsBoth, NamesTrusted, SelectorRests, SparesAreas, SparesBoth, TrustEnds, UnfitAt, both_mounts, both_units, fault_at, mount_lost, other_place, other_units, trust_units, worked_on}
use Rattle.mirror.specs.Naming.{NamesOnce, SparesRecords}
use Rattle.mirror.specs.Room.{FitsOn, Prices}
use Rattle.mirror.specs.Trusted.{damage_shown, selector_place, trusted_damage, trusted_on}
use Rattle.mirror.proofs.BothSteps.{bytes-behind, fits-still, holds-still, same-bytes}
use Rattle.mirror.proofs.TrustSteps.{damage-with}

-- ---- the selector's damage where its sectors stay

module _ (areas : List Area) (s : Area) (selected : selector_of areas ≡ Some s) (m e : Device) (banks : e.banks ≡ m.banks) (same : sectors_of e s ≡ sectors_of m s) where
  pub selector-damage-still : selector_damage_on areas e ≡ selector_damage_on areas m
  selector-damage-still =
      damage-with areas e s selected
      ∙ still (λ area geometry sectors. first_damage (states geometry.unit sectors)) m e s banks same
      ∙ sym (damage-with areas m s selected)

  pub selector-active-still : active_on areas e ≡ active_on areas m
  selector-active-still = active-on areas e s selected ∙ active-still areas m e s banks same ∙ sym (active-on areas m s selected)

-- ---- both parts

pub both-touch : (s t o : Area) (d m e : Device) (lost : Bool) → Touches (s ∷ []) d m false → Touches (t ∷ o ∷ []) m e lost → Touches (worked_on s t o) d e lost
both-touch s t o d m e lost first second =
    then (wider (worked_on s t o) (λ area has. Contains-append_left (s ∷ []) (t ∷ o ∷ []) area has) first)
    (wider (worked_on s t o) (λ area has. Contains-append_right (s ∷ []) (t ∷ o ∷ []) area has) second)

two-touch : (s t : Area) (d m e : Device) → Touches (s ∷ []) d m false → Touches (t ∷ []) m e true → Touches (s ∷ t ∷ []) d e true
two-touch s t d m e first second = then (first_of_two first) (second_of_two second)

pub first-touches : (s t o : Area) (d m : Device) (lost : Bool) → Touches (s ∷ []) d m lost → Touches (worked_on s t o) d m lost
first-touches s t o d m lost first = wider (worked_on s t o) (λ area has. Contains-append_left (s ∷ []) (t ∷ o ∷ []) area has) first

module _ (damage : Area → Geometry → List (List ℕ) → Option Damaged) where
  pub shown-trusted : (areas : List Area) (d : Device) (t : Area) → slice_get areas (trusted_on areas d) ≡ Some t → trusted_damage damage areas d ≡ on damage d t
  shown-trusted areas d t there = ap (option_and_then (on damage d)) there

  pub shows-none : (areas : List Area) (d : Device) (t : Area) → slice_get areas (trusted_on areas d) ≡ Some t → selector_damage_on areas d ≡ None → on damage d t ≡ None → damage_shown damage areas d ≡ None
  shows-none areas d t there sound none =
      ap (λ (o : Option Damaged). option_or (option_map (λ shown. (selector_place areas, shown)) o) (option_map (λ shown. (trusted_on areas d, shown)) (trusted_damage damage areas d))) sound
      ∙ ap (option_map (λ shown. (trusted_on areas d, shown))) (shown-trusted areas d t there ∙ none)

  pub shows-selector : (areas : List Area) (d : Device) (place : ℕ) (shown : Damaged) → place ≡ selector_place areas → selector_damage_on areas d ≡ Some shown → damage_shown damage areas d ≡ Some (place, shown)
  shows-selector areas d place shown at is =
      ap (λ (o : Option Damaged). option_or (option_map (λ x. (selector_place areas, x)) o) (option_map (λ x. (trusted_on areas d, x)) (trusted_damage damage areas d))) is
      ∙ ap (λ (n : ℕ). Some (n, shown)) (sym at)

  pub shows-trusted : (areas : List Area) (d : Device) (t : Area) (place : ℕ) (shown : Damaged) → slice_get areas (trusted_on areas d) ≡ Some t → selector_damage_on areas d ≡ None → place ≡ trusted_on areas d → on damage d t ≡ Some shown → damage_shown damage areas d ≡ Some (place, shown)
  shows-trusted areas d t place shown there sound at is =
      ap (λ (o : Option Damaged). option_or (option_map (λ x. (selector_place areas, x)) o) (option_map (λ x. (trusted_on areas d, x)) (trusted_damage damage areas d))) sound
      ∙ ap (option_map (λ x. (trusted_on areas d, x))) (shown-trusted areas d t there ∙ is)
      ∙ ap (λ (n : ℕ). Some (n, shown)) (sym at)

none-some : {X : Type 0} (o : Option X) (x : X) → o ≡ None → o ≡ Some x → ⊥
none-some o x none some = cc

module _ {S : Type 0} (mounted : S → Area) (stands : S → Geometry → List (List ℕ) → Type 0) (damage : Area → Geometry → List (List ℕ) → Option Damaged) (contents : Area → Geometry → List (List ℕ) → Map)
    (room : Area → Geometry → Room) (prices : Area → Geometry → Prices) (areas : List Area) (s : Area) (selected : selector_of areas ≡ Some s) where
  -- the selector was not mounted
  pub mounts-fault : (d e : Device) (fault : MirrorMount) → TrustEnds areas d e (Err fault) → Touches (s ∷ []) d e (mount_lost {T = ℕ} (Err fault)) → MirrorMounts mounted stands damage contents room prices areas s d e (Err fault)
  mounts-fault d e (IsDamaged place shown) did touches =
      let is = shows-selector damage areas d place shown did.0 did.1 in
      record {
        is_shown = is;
        still_shown = ap (damage_shown damage areas) did.2 ∙ is;
        trusted = ap (trusted_on areas) did.2;
        active = inl (ap (active_on areas) did.2);
        touches = touches;
        unchanged = λ found at. did.2;
      }
  mounts-fault d e (Unfit place) did touches = absurd did
  mounts-fault d e PowerLost did touches = record { trust = did; later = inl touches }
  mounts-fault d e NoMemory did touches = absurd did

  module _ (d m e : Device) (t o : Area) (there : slice_get areas (trusted_on areas d) ≡ Some t) (other : slice_get areas (other_place areas (trusted_on areas d)) ≡ Some o) (named : NamesTrusted areas d m)
      (banks : m.banks ≡ d.banks) (later : e.banks ≡ m.banks) (t-same : sectors_of m t ≡ sectors_of d t) (o-same : sectors_of m o ≡ sectors_of d o) (s-same : sectors_of e s ≡ sectors_of m s) (touches : Touches (s ∷ []) d m false)
      (again : trusted_on areas m ≡ trusted_on areas d) where
    -- the selector rests
    selector-rests : SelectorRests areas e
    selector-rests x is =
        let same : s ≡ x = some-area s x (sym selected ∙ is) in
        subst (λ (y : Area). erases_on e y ≡ 0) same
        (still (λ area geometry sectors. erases_due (states geometry.unit sectors)) m e s later s-same ∙ named.rests s selected)
      where
        some-area : (x y : Area) → Some x ≡ Some y → x ≡ y
        some-area x y e = cc

    keeps : KeepsArea damage contents m e t → KeepsTrusted damage contents areas d e t
    keeps kept = record {
      sound = selector-damage-still areas s selected m e later s-same ∙ named.sound_still;
      active = selector-active-still areas s selected m e later s-same ∙ named.active;
      kept = record { undamaged = kept.undamaged; reads = kept.reads ∙ still contents d m t banks t-same };
    }

    was : on damage m t ≡ on damage d t
    was = still damage d m t banks t-same

    read : on contents m t ≡ on contents d t
    read = still contents d m t banks t-same

    fits-before : (place : ℕ) → FitsAt room prices areas m place (on contents m t) → FitsAt room prices areas d place (on contents d t)
    fits-before place fits area at = fits-still mounted stands contents room prices m d area (on contents m t) (on contents d t) (sym banks) (sym read) (fits area at)

    fits-after : (place : ℕ) → FitsAt room prices areas d place (on contents d t) → FitsAt room prices areas m place (on contents m t)
    fits-after place fits area at = fits-still mounted stands contents room prices d m area (on contents d t) (on contents m t) banks read (fits area at)

    unfit-still : (place : ℕ) → UnfitAt room prices areas m (trusted_on areas d) (other_place areas (trusted_on areas d)) (on contents m t) place → UnfitAt room prices areas d (trusted_on areas d) (other_place areas (trusted_on areas d)) (on contents d t) place
    unfit-still place is = elim is [
      | inl low ↦ inl (low.0, λ fits. low.1 (fits-after place fits))
      | inr high ↦ inr (high.0, fits-before (min (trusted_on areas d) (other_place areas (trusted_on areas d))) high.1, λ fits. high.2 (fits-after place fits))
    ]

    -- the trusted area is damaged, and nothing was done in it
    finds-trusted : (at : ℕ) (shown : Damaged) → at ≡ trusted_on areas d → on damage m t ≡ Some shown → e ≡ m → FindsDamage damage contents areas s d e at shown
    finds-trusted at shown is seen idle = record {
      is_shown = shows-trusted damage areas d t at shown there named.sound is (sym was ∙ seen);
      still_shown =
          ap (damage_shown damage areas) idle
          ∙ shows-trusted damage areas m t at shown (ap (slice_get areas) again ∙ there) named.sound_still (is ∙ sym again) seen;
      trusted = ap (trusted_on areas) idle ∙ again;
      active = inr (ap (active_on areas) idle ∙ named.active);
      touches = subst (λ (x : Device). Touches (s ∷ []) d x false) (sym idle) touches;
      unchanged = λ found broken. absurd (none-some (selector_damage_on areas d) found named.sound broken);
    }

    -- the damage that the map shows is the trusted area's, as the selector is sound
    finds-shown : ((shown : Damaged) → on damage m t ≡ Some shown → e ≡ m) → (place : ℕ) (shown : Damaged) → damage_shown damage areas d ≡ Some (place, shown) → FindsDamage damage contents areas s d e place shown
    finds-shown idle place shown is = by (on damage d t) refl
      where
        one-pair : (x y : ℕ × Damaged) → Some x ≡ Some y → x ≡ y
        one-pair x y e = cc

        by : (o : Option Damaged) → on damage d t ≡ o → FindsDamage damage contents areas s d e place shown
        by None none = absurd (none-some (damage_shown damage areas d) (place, shown) (shows-none damage areas d t there named.sound none) is)
        by (Some found) seen =
            let known = shows-trusted damage areas d t (trusted_on areas d) found there named.sound refl seen in
            subst (λ (p : ℕ × Damaged). FindsDamage damage contents areas s d e p.0 p.1) (one-pair (trusted_on areas d, found) (place, shown) (sym known ∙ is))
            (finds-trusted (trusted_on areas d) found refl (was ∙ seen) (idle found (was ∙ seen)))

    pub mounts-then : (place : ℕ) (result : Result (Mirror S) MirrorMount) → place ≡ trusted_on areas d → BothEnds mounted stands damage contents room prices areas m e t o (trusted_on areas d) result → MirrorMounts mounted stands damage contents room prices areas s d e result
    mounts-then place (Ok mirror) at did = record {
      undamaged = shows-none damage areas d t there named.sound (sym was ∙ did.sound);
      placed = record {
        trusted_there = there ∙ ap (λ (x : Area). Some x) (sym did.trusted_is);
        other_there = other ∙ ap (λ (x : Area). Some x) (sym did.other_is);
      };
      trusted_at = did.trusted_at;
      other_at = did.other_at;
      kept = subst (λ (x : Area). KeepsTrusted damage contents areas d e x) (sym did.trusted_is) (keeps did.kept);
      rests = selector-rests;
      mirrors = did.mirrors;
    }
    mounts-then place (Err (IsDamaged at shown)) is did = finds-trusted at shown did.0 did.1 did.2
    mounts-then place (Err (Unfit unfit)) is did = record {
      undamaged = shows-none damage areas d t there named.sound (sym was ∙ did.sound);
      trusted = t;
      other = o;
      placed = record { trusted_there = there; other_there = other };
      kept = keeps did.kept;
      untouched = did.untouched ∙ o-same;
      unfits = unfit-still unfit did.unfits;
    }
    mounts-then place (Err PowerLost) is did = record {
      trust = record {
        sound = named.sound;
        sound_still = selector-damage-still areas s selected m e later s-same ∙ named.sound_still;
        active = inr (selector-active-still areas s selected m e later s-same ∙ named.active);
      };
      later = inr (elim did.2 [
        | inl first ↦ inl (record {
          trusted = t;
          there = there;
          undamaged = sym was ∙ did.0;
          kept = keeps did.1;
          touches = two-touch s t d m e touches first;
        })
        | inr fits ↦ inr (record {
          trusted = t;
          there = there;
          undamaged = sym was ∙ did.0;
          kept = keeps did.1;
          fits = fits-before (trusted_on areas d) fits.0;
          other_fits = fits-before (other_place areas (trusted_on areas d)) fits.1;
        })
      ]);
    }
    mounts-then place (Err NoMemory) is did = record {
      sound = named.sound;
      kept = λ x at none.
          let same : t ≡ x = some-area t x (sym there ∙ at) in
          subst (λ (y : Area). KeepsTrusted damage contents areas d e y) same (keeps (did.0 (was ∙ ap (on damage d) same ∙ none)));
      damaged = finds-shown did.1;
    }
      where
        some-area : (x y : Area) → Some x ≡ Some y → x ≡ y
        some-area x y e = cc

-- ---- in the words of the mirror

pub fault-lost : (T U : Type 0) (place : ℕ) (fault : MountFault) (result : MirrorMount) → result ≡ fault_at place fault → store_lost {T = T} (Err fault) ≡ mount_lost {T = U} (Err result)
fault-lost T U place fault result is = by fault ∙ ap (λ (f : MirrorMount). mount_lost {T = U} (Err f)) (sym is)
  where
    by : (f : MountFault) → store_lost {T = T} (Err f) ≡ mount_lost {T = U} (Err (fault_at place f))
    by (MountDamaged shown) = refl
    by MountLost = refl
    by MountNoMemory = refl

-- why a mount stopped, whatever it was to give
pub lost-same : (T U : Type 0) (fault : MirrorMount) → mount_lost {T = T} (Err fault) ≡ mount_lost {T = U} (Err fault)
lost-same T U (IsDamaged place shown) = refl
lost-same T U (Unfit place) = refl
lost-same T U PowerLost = refl
lost-same T U NoMemory = refl

-- ---- what a mount spends

within : (a b : ℕ) → a ≤ a + b
within a b = omega arith

-- the selector alone was worked on
pub mounts-first : (d m : Device) (s : Area) (more : ℕ) → SpendsAtMost d m (trust_units d s) → SpendsAtMost d m (trust_units d s + more)
mounts-first d m s more spent = most_weaker d m (trust_units d s) (trust_units d s + more) (within (trust_units d s) more) spent

-- and then both areas
pub mounts-spend : (d m e : Device) (s t o : Area) (before now : Map) → m.banks ≡ d.banks → now ≡ before → SpendsAtMost d m (trust_units d s) → SpendsAtMost m e (both_units m t o (maps.len now)) → SpendsAtMost d e (trust_units d s + both_units d t o (maps.len before))
mounts-spend d m e s t o before now banks same first second =
    most_then d m e (trust_units d s) (both_units d t o (maps.len before)) first
    (subst (λ (x : Map). SpendsAtMost m e (both_units d t o (maps.len x))) same
    (subst (λ (g : Geometry). SpendsAtMost m e (foreign_units (geometry_of d t) + other_units g (maps.len now))) (geometry-same d m o banks)
    (subst (λ (g : Geometry). SpendsAtMost m e (foreign_units g + other_units (geometry_of m o) (maps.len now))) (geometry-same d m t banks) second)))

-- ---- what it spares

-- the records of the selector, which nothing else touches
pub records-behind : (areas : List Area) (d m e : Device) (s : Area) (lost : Bool) → e.banks ≡ m.banks → sectors_of e s ≡ sectors_of m s → SparesRecords areas false d m s → SparesRecords areas lost d e s
records-behind areas d m e s lost banks same did = record {
  stay = λ named. holds-still (λ area geometry sectors. HasEntries geometry.unit sectors (entries_on d s)) m e s banks same (did.stay named);
  more = λ whole differs. let once : NamesOnce areas d m s (trusted_on areas d) = did.more refl differs in record {
    mounted = once.mounted;
    named = once.named;
    ring = once.ring;
    mounted_banks = once.mounted_banks;
    named_banks = once.named_banks;
    here = once.here;
    kept = once.kept;
    open_ring = once.open_ring;
    chosen = once.chosen;
    still = same ∙ once.still;
  };
}

module _ (damage : Area → Geometry → List (List ℕ) → Option Damaged) (contents : Area → Geometry → List (List ℕ) → Map) (rests : Area → Geometry → List (List ℕ) → Type 0) (d m : Device) (s t o : Area) (banks : m.banks ≡ d.banks)
    (t-same : sectors_of m t ≡ sectors_of d t) (o-same : sectors_of m o ≡ sectors_of d o) (first : SpendsAtMost d m (trust_units d s)) where
  -- the selector alone was worked on
  pub spares-selector : (areas : List Area) (lost : Bool) → (selector_damage_on areas d ≡ None → SparesRecords areas lost d m s) → SparesAreas damage contents rests areas lost d m s t o
  spares-selector areas lost records = record {
    records = records;
    bytes = same-bytes rests d m t t-same;
    held = λ none holds. record {
      holds = record { sound = still damage d m o banks o-same ∙ holds.sound; reads = still contents d m o banks o-same ∙ holds.reads };
      bytes = same-bytes rests d m o o-same;
      at_most = most_weaker d m (trust_units d s) (trust_units d s + both_mounts d t o) (within (trust_units d s) (both_mounts d t o)) first;
    };
  }

  -- and then both areas
  pub spares-all : (e : Device) → SparesBoth damage contents rests m e t o → (areas : List Area) (lost : Bool) → (selector_damage_on areas d ≡ None → SparesRecords areas lost d e s) → SparesAreas damage contents rests areas lost d e s t o
  spares-all e spares areas lost records = record {
    records = records;
    bytes = bytes-behind rests d m e t banks t-same spares.bytes;
    held = λ none holds.
        let read : on contents m t ≡ on contents d t = still contents d m t banks t-same in
        let after = spares.held (still damage d m t banks t-same ∙ none)
        (record { sound = still damage d m o banks o-same ∙ holds.sound; reads = still contents d m o banks o-same ∙ holds.reads ∙ sym read }) in
        record {
          holds = record { sound = after.holds.sound; reads = after.holds.reads ∙ read };
          bytes = bytes-behind rests d m e o banks o-same after.bytes;
          at_most =
              most_then d m e (trust_units d s) (both_mounts d t o) first
              (subst (λ (g : Geometry). SpendsAtMost m e (foreign_units (geometry_of d t) + foreign_units g)) (geometry-same d m o banks)
              (subst (λ (g : Geometry). SpendsAtMost m e (foreign_units g + foreign_units (geometry_of m o))) (geometry-same d m t banks) after.at_most));
        };
  }

-- Mounting the selector, and naming the trusted area.
use Rattle.std.proofs.Common.{◌≡◌, ◌≢◌, ◌⊎◌, ℕ, zero, suc, ◌+◌, ◌*◌, ◌<◌, ◌≤◌, Bool, true, false, not, ◌&&◌, cond, List, [], ◌∷◌, length, Option, Some, None, Result, Ok, Err, is_err, refl, sym, ap, subst, ◌∙◌, inl, inr, arith}
use Rattle.std.specs.Prelude.{OnOk, find, unwrap_or}
use Rattle.std.specs.List.{list_all, range_with_len, slice_get}
use Rattle.std.specs.Option.{option_and_then, option_map_or}
use Rattle.std.proofs.lemmas.Bool.{cases_Bool, false≢true}
use Rattle.std.proofs.lemmas.Option.{none-some, slice_get_within}
use Rattle.flash_sim.specs.Bank.{IsLawful}
use Rattle.flash_sim.specs.Device.{Device}
use Rattle.flash_map.specs.declared.area.Area.{Area}
use Rattle.flash_map.specs.declared.area.Geometry.{Geometry}
use Rattle.flash_map.specs.declared.area.Role.{Role}
use Rattle.flash_map.specs.declared.area.Role.TheVariants.{Nvs, Zms, Fcb, Sel}
use Rattle.flash_map.specs.declared.faults.Damaged.{Damaged}
use Rattle.flash_map.specs.declared.faults.MountFault.{MountFault}
use Rattle.flash_map.specs.declared.faults.MountFault.TheVariants.{Damaged as MountDamaged, PowerLost as MountLost, NoMemory as MountNoMemory}
use Rattle.flash_map.specs.Area.{AreApart, sectors_of, unit_of}
use Rattle.flash_map.specs.Faults.{mount_lost as store_lost}
use Rattle.flash_map.specs.Spending.{Spends, SpendsAtMost}
use Rattle.flash_map.specs.Touches.{Touches}
use Rattle.flash_map.specs.Units.{is_erased}
use Rattle.flash_map.proofs.Apart.{same_apart}
use Rattle.flash_map.proofs.SpendingLemmas.{most_weaker, spends_most}
use Rattle.fcb_ring.specs.Changing.{header_units, record_units}
use Rattle.fcb_ring.specs.declared.ring.Ring.{Ring}
use Rattle.fcb_ring.specs.Standing.{IsRingArea, KeepsEntries, erases_on, ring_damage}
use Rattle.backend_api.specs.Written.{is_blank_on}
use Rattle.migrator.specs.declared.selecting.Selector.{Selector}
use Rattle.migrator.specs.Active.{active_in, active_on, selector_damage_on}
use Rattle.migrator.specs.Areas.{IsLawfulMap, is_store, is_store_at, selector_of, stores, target}
use Rattle.migrator.specs.Choosing.{ChooseEnds, Chooses, IsOpen, OldOrChosen, SelectorMounts, choice_units}
use Rattle.fcb_ring.proofs.RestLemmas.{ready-rests}
use Rattle.migrator.proofs.AreaLemmas.{store-within, target-store}
use Rattle.migrator.proofs.Migration.{active-on, active-store, selector-apart, selector-at, store-of}
use Rattle.migrator.proofs.Spent.{header-same, most_none, most_then, record-same}
use Rattle.mirror.specs.declared.mounting.MirrorMount.{MirrorMount}
use Rattle.mirror.specs.declared.mounting.MirrorMount.TheVariants.{Damaged as IsDamaged, Unfit, PowerLost, NoMemory}
use Rattle.mirror.specs.Mounting.{IsCutTrust, NameEnds, NamesTrusted, TrustEnds, fault_at, trust_units}
use Rattle.mirror.specs.Naming.{SparesRecords}
use Rattle.mirror.specs.Trusted.{IsMirrorMap, is_blank_at, selector_found, selector_place, trusted_on, trusted_with}

some-same : {X : Type 0} (x y : X) → Some x ≡ Some y → x ≡ y
some-same x y e = cc

-- ---- the selector's place

finds : (xs areas : List Area) (k : ℕ) → ((i : ℕ) → slice_get areas (k + i) ≡ slice_get xs i)
    → find (λ area. not (is_store area)) xs ≡ option_and_then (slice_get areas) (find (λ place. not (is_store_at areas place)) (range_with_len k (length xs)))
finds [] areas k same = refl
finds (x ∷ xs) areas k same =
    let k_is : k ≡ k + 0 = omega arith in
    let here : slice_get areas k ≡ Some x = ap (slice_get areas) k_is ∙ same 0 in
    let test : not (is_store_at areas k) ≡ not (is_store x) = ap (λ (o : Option Area). not (option_map_or is_store o false)) here in
    let later : (i : ℕ) → slice_get areas (k + 1 + i) ≡ slice_get xs i = λ i. let e : k + 1 + i ≡ k + suc i = omega arith in ap (slice_get areas) e ∙ same (suc i) in
    elim (cases_Bool (not (is_store x))) [
      | inl yes_it ↦
          ap (λ (b : Bool). cond b (Some x) (find (λ area. not (is_store area)) xs)) yes_it
          ∙ sym (ap (λ (b : Bool). option_and_then (slice_get areas) (cond b (Some k) (find (λ place. not (is_store_at areas place)) (range_with_len (k + 1) (length xs))))) (test ∙ yes_it) ∙ here)
      | inr not_it ↦
          ap (λ (b : Bool). cond b (Some x) (find (λ area. not (is_store area)) xs)) not_it
          ∙ finds xs areas (k + 1) later
          ∙ sym (ap (λ (b : Bool). option_and_then (slice_get areas) (cond b (Some k) (find (λ place. not (is_store_at areas place)) (range_with_len (k + 1) (length xs))))) (test ∙ not_it))
    ]

pub selector-there : (areas : List Area) (s : Area) → selector_of areas ≡ Some s → slice_get areas (selector_place areas) ≡ Some s
selector-there areas s is = by (selector_found areas) refl (sym (finds areas areas 0 (λ i. let e : 0 + i ≡ i = omega arith in ap (slice_get areas) e)) ∙ is)
  where
    by : (o : Option ℕ) → selector_found areas ≡ o → option_and_then (slice_get areas) (selector_found areas) ≡ Some s → slice_get areas (selector_place areas) ≡ Some s
    by None none found = absurd (none-some s (sym (ap (option_and_then (slice_get areas)) none) ∙ found))
    by (Some place) some found = ap (λ (o : Option ℕ). slice_get areas (unwrap_or o 0)) some ∙ sym (ap (option_and_then (slice_get areas)) some) ∙ found

pub selector-within : (areas : List Area) (s : Area) → selector_of areas ≡ Some s → selector_place areas < length areas
selector-within areas s is = slice_get_within areas (selector_place areas) s (selector-there areas s is)

-- the area at its place is the selector's
pub selector-here : (areas : List Area) (s x : Area) (place : ℕ) → selector_of areas ≡ Some s → place ≡ selector_place areas → slice_get areas place ≡ Some x → x ≡ s
selector-here areas s x place is at there = some-same x s (sym there ∙ ap (slice_get areas) at ∙ selector-there areas s is)

none_role : (role : Role) → stores role ≡ false → role ≡ Sel
none_role Sel e = refl
none_role Nvs e = absurd (false≢true (sym e))
none_role Zms e = absurd (false≢true (sym e))
none_role Fcb e = absurd (false≢true (sym e))

module _ (serves : Area → Geometry → Type 0) (areas : List Area) (d : Device) (map : IsMirrorMap serves areas d) where
  pub selector-ring : IsRingArea d.banks map.selector
  selector-ring =
      let at = selector-at areas map.selector map.selected in
      record { lawful = map.lawful.each at.index map.selector at.there; role = inr (none_role map.selector.role at.none) }

  pub active-stores : (m : Device) (s : Area) → is_store_at areas (active_in areas m s) ≡ true
  active-stores m s = active-store areas m s map.one map.one_stores

-- ---- what a mount of the selector leaves of the other areas

module _ (serves : Area → Geometry → Type 0) (areas : List Area) (d m : Device) (s : Area) (lost : Bool) (map : IsMirrorMap serves areas d) (selected : selector_of areas ≡ Some s)
    (lawful : IsLawful d.banks d.bytes) (lawful_mid : IsLawful m.banks m.bytes) (touches : Touches (s ∷ []) d m lost) where
  -- a store area has the same sectors
  pub store-beside : (place : ℕ) (area : Area) → slice_get areas place ≡ Some area → is_store_at areas place ≡ true → sectors_of m area ≡ sectors_of d area
  store-beside place area there store =
      same_apart {area = s} {other = area} {old = d} {new = m} {lost = lost} lawful lawful_mid (map.lawful.each place area there).in_bank
      (selector-apart d.banks areas s area place map.lawful selected there store).0 touches

  blank-beside : (place : ℕ) → is_store_at areas place ≡ true → is_blank_at areas m place ≡ is_blank_at areas d place
  blank-beside place store = by (slice_get areas place) refl
    where
      by : (o : Option Area) → slice_get areas place ≡ o → option_map_or (is_blank_on m) (slice_get areas place) false ≡ option_map_or (is_blank_on d) (slice_get areas place) false
      by None none = ap (λ (o : Option Area). option_map_or (is_blank_on m) o false) none ∙ sym (ap (λ (o : Option Area). option_map_or (is_blank_on d) o false) none)
      by (Some area) some =
          ap (λ (o : Option Area). option_map_or (is_blank_on m) o false) some
          ∙ ap (list_all is_erased) (store-beside place area some store)
          ∙ sym (ap (λ (o : Option Area). option_map_or (is_blank_on d) o false) some)

  with-beside : (active : ℕ) (o : Option ℕ) → is_store_at areas active ≡ true → target areas active ≡ o → trusted_with areas m active o ≡ trusted_with areas d active o
  with-beside active None store is = refl
  with-beside active (Some other) store is =
      ap (λ (t : Bool). cond (t && not (is_blank_at areas m other)) other active) (blank-beside active store)
      ∙ ap (λ (t : Bool). cond (is_blank_at areas d active && not t) other active) (blank-beside other (target-store areas active other is).0)

  -- the trusted area is found as it was
  pub trusted-beside : (active : ℕ) → active ≡ active_on areas d → is_store_at areas active ≡ true → trusted_with areas m active (target areas active) ≡ trusted_on areas d
  trusted-beside active is store =
      with-beside active (target areas active) store refl ∙ ap (λ (a : ℕ). trusted_with areas d a (target areas a)) is

pub damage-with : (areas : List Area) (d : Device) (s : Area) → selector_of areas ≡ Some s → selector_damage_on areas d ≡ ring_damage d s
damage-with areas d s is = ap (option_and_then (ring_damage d)) is

-- ---- how it ends

module _ (areas : List Area) (d : Device) (s : Area) (selected : selector_of areas ≡ Some s) where
  pub trust-fault : (m : Device) (place : ℕ) (r : Result Selector MountFault) (fault : MountFault) → r ≡ Err fault → place ≡ selector_place areas → SelectorMounts d m s r → (ring_damage d s ≡ None → ring_damage m s ≡ None)
      → (ring_damage d s ≡ None → active_in areas m s ≡ active_in areas d s) → TrustEnds areas d m (Err (fault_at place fault))
  trust-fault m place r fault is at ends sound active = by fault (subst (λ (x : Result Selector MountFault). SelectorMounts d m s x) is ends)
    where
      by : (f : MountFault) → SelectorMounts d m s (Err f) → TrustEnds areas d m (Err (fault_at place f))
      by (MountDamaged shown) did = (at, damage-with areas d s selected ∙ did.0, did.1)
      by MountLost none = record {
        sound = damage-with areas d s selected ∙ none;
        sound_still = damage-with areas m s selected ∙ sound none;
        active = inl (active-on areas m s selected ∙ active none ∙ sym (active-on areas d s selected));
      }
      by MountNoMemory none = absurd none

  -- the selector was mounted, and named the trusted area
  pub trust-named : (m e : Device) (trusted : ℕ) → ring_damage d s ≡ None → trusted ≡ trusted_on areas d → (active_in areas e s ≡ trusted) × (ring_damage e s ≡ None) → erases_on e s ≡ 0 → TrustEnds areas d e (Ok trusted)
  trust-named m e trusted none is did rests = (
    is,
    record {
      sound = damage-with areas d s selected ∙ none;
      sound_still = damage-with areas e s selected ∙ did.1;
      active = active-on areas e s selected ∙ did.0 ∙ is;
      rests = λ x at. subst (λ (y : Area). erases_on e y ≡ 0) (some-same s x (sym selected ∙ at)) rests;
    },
  )

  -- or did not, for want of power
  pub trust-cut : (m e : Device) (trusted : ℕ) → ring_damage d s ≡ None → trusted ≡ trusted_on areas d → active_in areas m s ≡ active_in areas d s → OldOrChosen areas m e s trusted × (ring_damage e s ≡ None) → TrustEnds areas d e (Err PowerLost)
  trust-cut m e trusted none is active did = record {
    sound = damage-with areas d s selected ∙ none;
    sound_still = damage-with areas e s selected ∙ did.1;
    active = elim did.0 [
      | inl old ↦ inl (active-on areas e s selected ∙ old ∙ active ∙ sym (active-on areas d s selected))
      | inr new ↦ inr (active-on areas e s selected ∙ new ∙ is)
    ];
  }

-- ---- the trusted area stores settings

with-stores : (areas : List Area) (d : Device) (active : ℕ) (o : Option ℕ) → is_store_at areas active ≡ true → target areas active ≡ o → is_store_at areas (trusted_with areas d active o) ≡ true
with-stores areas d active None store is = store
with-stores areas d active (Some other) store is = elim (cases_Bool (is_blank_at areas d active && not (is_blank_at areas d other))) [
  | inl over ↦ ap (λ (t : Bool). is_store_at areas (cond t other active)) over ∙ (target-store areas active other is).0
  | inr stays ↦ ap (λ (t : Bool). is_store_at areas (cond t other active)) stays ∙ store
]

pub trusted-stores : (serves : Area → Geometry → Type 0) (areas : List Area) (d : Device) (map : IsMirrorMap serves areas d) → is_store_at areas (trusted_on areas d) ≡ true
trusted-stores serves areas d map =
    let store = ap (is_store_at areas) (active-on areas d map.selector map.selected) ∙ active-stores serves areas d map d map.selector in
    with-stores areas d (active_on areas d) (target areas (active_on areas d)) store refl

-- ---- the trusted area, found again

second-false : (a b : Bool) → (a && not b) ≡ true → b ≡ false
second-false true true e = absurd (false≢true e)
second-false true false e = refl
second-false false b e = absurd (false≢true e)

-- an area that is not all FF is trusted where the selector names it
written-trusted : (areas : List Area) (d : Device) (place : ℕ) (o : Option ℕ) → is_blank_at areas d place ≡ false → trusted_with areas d place o ≡ place
written-trusted areas d place None written = refl
written-trusted areas d place (Some other) written = ap (λ (t : Bool). cond (t && not (is_blank_at areas d other)) other place) written

-- where the selector names the trusted area, that one is trusted
fixed-by : (areas : List Area) (d : Device) (active : ℕ) (o : Option ℕ) → target areas active ≡ o
    → trusted_with areas d (trusted_with areas d active (target areas active)) (target areas (trusted_with areas d active (target areas active))) ≡ trusted_with areas d active (target areas active)
fixed-by areas d active None none =
    let is : trusted_with areas d active (target areas active) ≡ active = ap (trusted_with areas d active) none in
    subst (λ (n : ℕ). trusted_with areas d n (target areas n) ≡ n) (sym is) is
fixed-by areas d active (Some other) some = elim (cases_Bool (is_blank_at areas d active && not (is_blank_at areas d other))) [
  | inl over ↦
      let is : trusted_with areas d active (target areas active) ≡ other = ap (trusted_with areas d active) some ∙ ap (λ (t : Bool). cond t other active) over in
      subst (λ (n : ℕ). trusted_with areas d n (target areas n) ≡ n) (sym is) (written-trusted areas d other (target areas other) (second-false (is_blank_at areas d active) (is_blank_at areas d other) over))
  | inr stays ↦
      let is : trusted_with areas d active (target areas active) ≡ active = ap (trusted_with areas d active) some ∙ ap (λ (t : Bool). cond t other active) stays in
      subst (λ (n : ℕ). trusted_with areas d n (target areas n) ≡ n) (sym is) is
]

pub trusted-fixed : (areas : List Area) (d : Device) → trusted_with areas d (trusted_on areas d) (target areas (trusted_on areas d)) ≡ trusted_on areas d
trusted-fixed areas d = fixed-by areas d (active_on areas d) (target areas (active_on areas d)) refl

-- and so it is where only the selector changed, and names that one, or the one of before
pub trusted-again : (serves : Area → Geometry → Type 0) (areas : List Area) (d m : Device) (s : Area) (lost : Bool) (map : IsMirrorMap serves areas d) (selected : selector_of areas ≡ Some s)
    (lawful : IsLawful d.banks d.bytes) (lawful_mid : IsLawful m.banks m.bytes) (touches : Touches (s ∷ []) d m lost)
    → (active_on areas m ≡ active_on areas d) ⊎ (active_on areas m ≡ trusted_on areas d) → trusted_on areas m ≡ trusted_on areas d
trusted-again serves areas d m s lost map selected lawful lawful_mid touches (inl old) =
    trusted-beside serves areas d m s lost map selected lawful lawful_mid touches (active_on areas m) old (ap (is_store_at areas) (active-on areas m s selected) ∙ active-stores serves areas d map m s)
trusted-again serves areas d m s lost map selected lawful lawful_mid touches (inr new) =
    ap (λ (n : ℕ). trusted_with areas m n (target areas n)) new
    ∙ with-beside serves areas d m s lost map selected lawful lawful_mid touches (trusted_on areas d) (target areas (trusted_on areas d)) (trusted-stores serves areas d map) refl
    ∙ trusted-fixed areas d

-- ---- what it spends, and where there is nothing to do

pub selector-most : (d m : Device) (s : Area) (r : Result Selector MountFault) → SelectorMounts d m s r → OnOk r (Spends d m (erases_on d s)) → (store_lost r ≡ true → SpendsAtMost d m (erases_on d s)) → SpendsAtMost d m (erases_on d s)
selector-most d m s (Ok x) ends units bound = spends_most d m (erases_on d s) units
selector-most d m s (Err (MountDamaged shown)) ends units bound = most_none d m (erases_on d s) ends.1
selector-most d m s (Err MountLost) ends units bound = bound refl
selector-most d m s (Err MountNoMemory) ends units bound = absurd ends

within : (a b : ℕ) → a ≤ a + b
within a b = omega arith

-- the selector was not mounted
pub trust-first : (d m : Device) (a s : Area) → a ≡ s → SpendsAtMost d m (erases_on d a) → SpendsAtMost d m (trust_units d s)
trust-first d m a s same spent =
    most_weaker d m (erases_on d s) (trust_units d s) (within (erases_on d s) (choice_units d s)) (subst (λ (x : Area). SpendsAtMost d m (erases_on d x)) same spent)

-- it was, and then an area was chosen
pub trust-then : (d m e : Device) (a b s : Area) → m.banks ≡ d.banks → a ≡ s → b ≡ s → SpendsAtMost d m (erases_on d a) → SpendsAtMost m e (choice_units m b) → SpendsAtMost d e (trust_units d s)
trust-then d m e a b s banks same other first second =
    let units : choice_units m b ≡ choice_units d s = ap (λ (h : ℕ). 2 * h + 2 * record_units m b 2 + 1) (header-same d m s b banks other) ∙ ap (λ (r : ℕ). 2 * header_units d s + 2 * r + 1) (record-same d m s b banks other) in
    most_then d m e (erases_on d s) (choice_units d s) (subst (λ (x : Area). SpendsAtMost d m (erases_on d x)) same first) (subst (λ (n : ℕ). SpendsAtMost m e n) units second)

-- a ring that takes records has nothing to erase
pub open-rests : (e : Device) (ring : Ring) (s : Area) → ring.area ≡ s → IsOpen e ring → erases_on e s ≡ 0
open-rests e ring s same opened = subst (λ (x : Area). erases_on e x ≡ 0) same (ready-rests (unit_of e ring.area) (sectors_of e ring.area) ring opened.stands.sectors opened.ready)

pub chosen-opens : {E : Type 0} (areas : List Area) (d e : Device) (before after : Ring) (index : ℕ) (r : Result (Unit {0}) E) → ChooseEnds areas d e before after index r → OnOk r (IsOpen e after)
chosen-opens areas d e before after index (Ok x) ends = ends.0
chosen-opens areas d e before after index (Err x) ends = tt

-- ---- the records of the selector

module _ (areas : List Area) (d m : Device) (s : Area) (none : ring_damage d s ≡ None) (list : KeepsEntries d m s) where
  -- it was not mounted
  pub records-fault : (r : Result Selector MountFault) (fault : MountFault) (lost : Bool) → r ≡ Err fault → store_lost {T = Selector} (Err fault) ≡ lost → SelectorMounts d m s r → SparesRecords areas lost d m s
  records-fault r fault lost is said ends = record {
    stay = λ named. list;
    more = λ whole differs. absurd (by fault (said ∙ whole) (subst (λ (x : Result Selector MountFault). SelectorMounts d m s x) is ends));
  }
    where
      by : (f : MountFault) → store_lost {T = Selector} (Err f) ≡ false → SelectorMounts d m s (Err f) → ⊥
      by (MountDamaged shown) whole did = none-some shown (sym none ∙ did.0)
      by MountLost whole did = false≢true (sym whole)
      by MountNoMemory whole did = did

  -- it was, and named the trusted area, or did not for want of power
  pub records-then : (e : Device) (ring : Ring) (active trusted : ℕ) (lost : Bool) → m.banks ≡ d.banks → e.banks ≡ m.banks → ring.area ≡ s → IsOpen m ring → active ≡ active_on areas d → trusted ≡ trusted_on areas d
      → (active ≡ trusted → e ≡ m) → (lost ≡ false → active ≢ trusted → Chooses areas m e ring trusted) → SparesRecords areas lost d e s
  records-then e ring active trusted lost first second here opened was is idle chooses = record {
    stay = λ named. subst (λ (x : Device). KeepsEntries d x s) (sym (idle (was ∙ named ∙ sym is))) list;
    more = λ whole differs. record {
      mounted = m;
      named = e;
      ring = ring;
      mounted_banks = first;
      named_banks = second ∙ first;
      here = here;
      kept = list;
      open_ring = opened;
      chosen = subst (λ (n : ℕ). Chooses areas m e ring n) is (chooses whole (λ same. differs (sym was ∙ same ∙ is)));
      still = refl;
    };
  }

-- The two store areas of a map, and mounting both.
use Rattle.std.proofs.Common.{◌≡◌, ◌≢◌, ◌⊎◌, ℕ, ◌<◌, ◌≤◌, Bool, true, false, min, max, List, [], ◌∷◌, length, Option, Some, None, Result, Ok, Err, refl, sym, ap, subst, ◌∙◌, inl, inr, arith}
use Rattle.std.specs.Prelude.{unwrap_or}
use Rattle.std.specs.List.{slice_get}
use Rattle.std.specs.Option.{option_map_or}
use Rattle.std.proofs.lemmas.Bool.{cases_lt, false≢true}
use Rattle.std.proofs.lemmas.Bool.Decides.{nat_tests}
use Rattle.std.proofs.lemmas.Option.{none-some}
use Rattle.flash_sim.specs.Device.{Device}
use Rattle.flash_sim.specs.declared.flash.Bank.{Bank}
use Rattle.flash_map.specs.declared.area.Area.{Area}
use Rattle.flash_map.specs.declared.area.Geometry.{Geometry}
use Rattle.flash_map.specs.declared.faults.Damaged.{Damaged}
use Rattle.flash_map.specs.Area.{AreApart, geometry_of, sectors_of}
use Rattle.flash_map.specs.Lawful.{IsLawfulFor}
use Rattle.flash_map.specs.On.{on, StandsOn}
use Rattle.flash_map.specs.Touches.{Touches}
use Rattle.flash_map.proofs.Touches.{first_of_two, second_of_two, then}
use Rattle.backend_api.specs.Map.{Map}
use Rattle.backend_api.specs.Room.{Room}
use Rattle.migrator.specs.Areas.{IsLawfulMap, is_store, is_store_at, selector_of, target}
use Rattle.migrator.proofs.AreaLemmas.{store-within, target-none, target-store}
use Rattle.migrator.proofs.Copies.{geometry-same}
use Rattle.flash_sim.specs.Bank.{IsLawful}
use Rattle.flash_map.proofs.Apart.{same_apart}
use Rattle.migrator.proofs.Migration.{selector-apart, selector-at, store-of}
use Rattle.migrator.proofs.Moving.{still}
use Rattle.mirror.specs.declared.mounting.MirrorMount.{MirrorMount}
use Rattle.mirror.specs.declared.mounting.MirrorMount.TheVariants.{Damaged as IsDamaged, Unfit, PowerLost, NoMemory}
use Rattle.mirror.specs.declared.mirror.Mirror.{Mirror}
use Rattle.mirror.specs.declared.sides.Side.{Side}
use Rattle.mirror.specs.Mirrored.{IsMirror, SideStands}
use Rattle.mirror.specs.Mounting.{BothEnds, BothFitEnds, FitEnds, FitsAt, KeepsArea, MountsBoth, UnfitAt, mount_lost, other_place}
use Rattle.mirror.specs.Room.{FitsOn, IsMirrored, Prices}
use Rattle.mirror.specs.Trusted.{IsMirrorMap}
use Rattle.mirror.proofs.BothSteps.{fits-still}
use Rattle.mirror.proofs.CommandSteps.{side-still}
use Rattle.mirror.proofs.RepairSteps.{fits-one, fits-two, unfit-one}

pub some-area : (x y : Area) → Some x ≡ Some y → x ≡ y
some-area x y e = cc

pub store-max : (areas : List Area) (a b : ℕ) → is_store_at areas a ≡ true → is_store_at areas b ≡ true → is_store_at areas (max a b) ≡ true
store-max areas a b one two = elim (cases_lt a b) [
  | inl less ↦ let e : max a b ≡ b = grind (arith, nat_tests, less) in ap (is_store_at areas) e ∙ two
  | inr more ↦ let e : max a b ≡ a = grind (arith, nat_tests, more) in ap (is_store_at areas) e ∙ one
]

module _ (room : Area → Geometry → Room) (prices : Area → Geometry → Prices) (areas : List Area) (d : Device) (settings : Map) where
  -- the lower area fits; and the higher one, or not
  pub both-fit : {T : Type 0} (trusted other lowest highest : ℕ) (low high : Area) (r : Result T MirrorMount) → lowest ≡ min trusted other → highest ≡ max trusted other → slice_get areas lowest ≡ Some low → slice_get areas highest ≡ Some high
      → FitsOn room prices d low settings → FitEnds room prices d high highest settings r → BothFitEnds room prices areas d trusted other settings r
  both-fit trusted other lowest highest low high (Ok x) is_low is_high low_there high_there fits did =
      fits-two room prices areas d settings trusted other
      (subst (λ (n : ℕ). FitsAt room prices areas d n settings) is_low (fits-one room prices areas d settings lowest low low_there fits))
      (subst (λ (n : ℕ). FitsAt room prices areas d n settings) is_high (fits-one room prices areas d settings highest high high_there did))
  both-fit trusted other lowest highest low high (Err (IsDamaged place shown)) is_low is_high low_there high_there fits did = absurd did
  both-fit trusted other lowest highest low high (Err (Unfit place)) is_low is_high low_there high_there fits did = inr (
    did.0 ∙ is_high,
    subst (λ (n : ℕ). FitsAt room prices areas d n settings) is_low (fits-one room prices areas d settings lowest low low_there fits),
    unfit-one room prices areas d settings place high (ap (slice_get areas) did.0 ∙ high_there) did.1,
  )
  both-fit trusted other lowest highest low high (Err PowerLost) is_low is_high low_there high_there fits did = absurd did
  both-fit trusted other lowest highest low high (Err NoMemory) is_low is_high low_there high_there fits did = tt

module _ (serves : Area → Geometry → Type 0) (areas : List Area) (d : Device) (map : IsMirrorMap serves areas d) where
  pub record IsOther (place : ℕ) : Type 0 where
    pub stores : is_store_at areas (other_place areas place) ≡ true
    pub differs : other_place areas place ≢ place

  -- the store area beside a store area
  pub other-is : (place : ℕ) → IsOther place
  other-is place = by (target areas place) refl
    where
      by : (o : Option ℕ) → target areas place ≡ o → IsOther place
      by None none =
          let all = target-none areas place none in
          absurd (map.apart (all map.one map.one_stores ∙ sym (all map.two map.two_stores)))
      by (Some index) some =
          let is : other_place areas place ≡ index = ap (λ (o : Option ℕ). unwrap_or o place) some in
          let t = target-store areas place index some in
          record { stores = ap (is_store_at areas) is ∙ t.0; differs = λ same. t.1 (sym is ∙ same) }

  pub map-still : (m : Device) → m.banks ≡ d.banks → IsMirrorMap serves areas m
  map-still m banks = record {
    lawful = subst (λ (b : List Bank). IsLawfulMap b areas) (sym banks) map.lawful;
    served = λ place area there store. subst (λ (g : Geometry). serves area g) (sym (geometry-same d m area banks)) (map.served place area there store);
    roles = map.roles;
    selector = map.selector;
    selected = map.selected;
    one = map.one;
    two = map.two;
    apart = map.apart;
    one_stores = map.one_stores;
    two_stores = map.two_stores;
    only = map.only;
  }

  module _ {S : Type 0} (mounted : S → Area) (stands : S → Geometry → List (List ℕ) → Type 0) (damage : Area → Geometry → List (List ℕ) → Option Damaged) (contents : Area → Geometry → List (List ℕ) → Map)
      (room : Area → Geometry → Room) (prices : Area → Geometry → Prices) (m e : Device) (t o : Area) (place : ℕ) (banks : m.banks ≡ d.banks) (later : e.banks ≡ m.banks)
      (there : slice_get areas place ≡ Some t) (other_there : slice_get areas (other_place areas place) ≡ Some o) (store : is_store_at areas place ≡ true)
      (t-same : sectors_of e t ≡ sectors_of m t) (was : on damage d t ≡ None) (now : on damage m t ≡ None) (read : on contents m t ≡ on contents d t) where
    pub kept : KeepsArea damage contents d e t
    kept = record { undamaged = still damage m e t later t-same ∙ now; reads = still contents m e t later t-same ∙ read }

    pub both-mounted : (side other : Side S) → side.area ≡ t → side.place ≡ place → SideStands mounted stands m side → other.area ≡ o → other.place ≡ other_place areas place → mounted other.store ≡ o → StandsOn mounted stands e other.store
        → on contents e o ≡ on contents m t → FitsAt room prices areas m place (on contents m t) → FitsAt room prices areas m (other_place areas place) (on contents m t)
        → MountsBoth damage contents mounted stands room prices areas d e t o place (record { trusted = side; other = other })
    both-mounted side other area at up other_area other_at here other_up same fits other_fits =
        let is = other-is place in
        let have : on contents e t ≡ on contents m t = still contents m e t later t-same in
        let apart : AreApart t o = map.lawful.apart place (other_place areas place) t o there other_there (λ e. is.differs (sym e)) in
        let apart_too : AreApart o t = map.lawful.apart (other_place areas place) place o t other_there there is.differs in
        record {
          sound = was;
          trusted_is = area;
          trusted_at = at;
          other_is = other_area;
          other_at = other_at;
          kept = kept;
          mirrors = record {
            trusted_stands = side-still mounted stands contents room m e side later (subst (λ (x : Area). sectors_of e x ≡ sectors_of m x) (sym area) t-same) up;
            other_stands = record {
              lawful = subst (λ (b : List Bank). IsLawfulFor b other.area) (sym (later ∙ banks)) (subst (λ (x : Area). IsLawfulFor d.banks x) (sym other_area) (map.lawful.each (other_place areas place) o other_there));
              role = subst IsMirrored (sym other_area) (map.roles (other_place areas place) o other_there (store-of areas (other_place areas place) o other_there is.stores));
              here = here ∙ sym other_area;
              up = other_up;
            };
            apart = subst (λ (x : Area). AreApart x other.area) (sym area) (subst (λ (x : Area). AreApart t x) (sym other_area) apart);
            apart_too = subst (λ (x : Area). AreApart x side.area) (sym other_area) (subst (λ (x : Area). AreApart o x) (sym area) apart_too);
            version = ap (λ (x : Area). x.version) area ∙ map.lawful.versions place (other_place areas place) t o there other_there ∙ sym (ap (λ (x : Area). x.version) other_area);
            places = λ same. is.differs (sym other_at ∙ sym same ∙ at);
            same = ap (on contents e) other_area ∙ same ∙ sym have ∙ sym (ap (on contents e) area);
            trusted_fits = subst (λ (x : Area). FitsOn room prices e x (on contents e side.area)) (sym area) (fits-still mounted stands contents room prices m e t (on contents m t) (on contents e side.area) later (ap (on contents e) area ∙ have) (fits t there));
            other_fits = subst (λ (x : Area). FitsOn room prices e x (on contents e side.area)) (sym other_area) (fits-still mounted stands contents room prices m e o (on contents m t) (on contents e side.area) later (ap (on contents e) area ∙ have) (other_fits o other_there));
          };
        }

-- an area that stores settings is in the map
pub store-there : (areas : List Area) (place : ℕ) → is_store_at areas place ≡ true → (area : Area) × (slice_get areas place ≡ Some area)
store-there areas place store = by (slice_get areas place) refl
  where
    by : (o : Option Area) → slice_get areas place ≡ o → (area : Area) × (slice_get areas place ≡ Some area)
    by None none = absurd (false≢true (sym (ap (λ (o : Option Area). option_map_or is_store o false) none) ∙ store))
    by (Some area) some = (area, some)

-- a call on a store area leaves the selector
pub selector-still : (serves : Area → Geometry → Type 0) (areas : List Area) (d m : Device) (map : IsMirrorMap serves areas d) (s area : Area) (place : ℕ) (lost : Bool) → selector_of areas ≡ Some s → slice_get areas place ≡ Some area → is_store_at areas place ≡ true
    → IsLawful d.banks d.bytes → IsLawful m.banks m.bytes → Touches (area ∷ []) d m lost → sectors_of m s ≡ sectors_of d s
selector-still serves areas d m map s area place lost selected there store flash after touches =
    let at = selector-at areas s selected in
    same_apart {area = area} {other = s} {old = d} {new = m} {lost = lost} flash after (map.lawful.each at.index s at.there).in_bank (selector-apart d.banks areas s area place map.lawful selected there store).1 touches

-- ---- settings that do not fit both areas

pub look-lost : (V : Type 0) (room : Area → Geometry → Room) (prices : Area → Geometry → Prices) (areas : List Area) (m : Device) (a b : ℕ) (settings : Map) (fault : MirrorMount) → BothFitEnds {T = V} room prices areas m a b settings (Err fault) → mount_lost {T = V} (Err fault) ≡ false
look-lost V room prices areas m a b settings (IsDamaged place shown) did = absurd did
look-lost V room prices areas m a b settings (Unfit place) did = refl
look-lost V room prices areas m a b settings PowerLost did = absurd did
look-lost V room prices areas m a b settings NoMemory did = refl

module _ {S : Type 0} (mounted : S → Area) (stands : S → Geometry → List (List ℕ) → Type 0) (damage : Area → Geometry → List (List ℕ) → Option Damaged) (contents : Area → Geometry → List (List ℕ) → Map)
    (room : Area → Geometry → Room) (prices : Area → Geometry → Prices) (areas : List Area) (d m : Device) (t o : Area) (place : ℕ) (banks : m.banks ≡ d.banks)
    (was : on damage d t ≡ None) (now : on damage m t ≡ None) (read : on contents m t ≡ on contents d t) (o-same : sectors_of m o ≡ sectors_of d o) where
  fits-before : (x : ℕ) → FitsAt room prices areas m x (on contents m t) → FitsAt room prices areas d x (on contents d t)
  fits-before x fits area at = fits-still mounted stands contents room prices m d area (on contents m t) (on contents d t) (sym banks) (sym read) (fits area at)

  fits-after : (x : ℕ) → FitsAt room prices areas d x (on contents d t) → FitsAt room prices areas m x (on contents m t)
  fits-after x fits area at = fits-still mounted stands contents room prices d m area (on contents d t) (on contents m t) banks read (fits area at)

  pub look-ends : (V : Type 0) (fault : MirrorMount) → BothFitEnds {T = V} room prices areas m place (other_place areas place) (on contents m t) (Err fault) → BothEnds mounted stands damage contents room prices areas d m t o place (Err fault)
  look-ends V (IsDamaged at shown) did = absurd did
  look-ends V (Unfit unfit) did = record {
    sound = was;
    kept = record { undamaged = now; reads = read };
    untouched = o-same;
    unfits = elim did [
      | inl low ↦ inl (low.0, λ fits. low.1 (fits-after unfit fits))
      | inr high ↦ inr (high.0, fits-before (min place (other_place areas place)) high.1, λ fits. high.2 (fits-after unfit fits))
    ];
  }
  look-ends V PowerLost did = absurd did
  look-ends V NoMemory did = (λ none. record { undamaged = now; reads = read }, λ shown is. absurd (none-some shown (sym was ∙ is)))

-- A mirror that is held: the areas that it is on, and what they read as.
use Rattle.std.proofs.Common.{◌≡◌, ◌≢◌, ◌==◌, not, inl, inr, ℕ, cond, ◌&&◌, Bool, true, false, List, Option, Some, None, refl, sym, ap, subst, ◌∙◌}
use Rattle.std.specs.FinMap.{empty}
use Rattle.std.specs.List.{slice_get}
use Rattle.std.specs.Option.{option_map_or}
use Rattle.flash_sim.specs.Bank.{IsLawful}
use Rattle.flash_map.specs.Lawful.{IsLawfulFor}
use Rattle.std.proofs.lemmas.Bool.{and_parts, cases_Bool, cases_eq}
use Rattle.flash_sim.specs.Device.{Device}
use Rattle.flash_map.specs.declared.area.Area.{Area}
use Rattle.flash_map.specs.declared.area.Geometry.{Geometry}
use Rattle.flash_map.specs.declared.area.TheConstants.{VALUE_LIMIT, LONG_VALUE_LIMIT}
use Rattle.std.specs.Prelude.{is_some, unwrap_or}
use Rattle.std.proofs.lemmas.Bool.{false≢true}
use Rattle.flash_map.specs.Area.{geometry_of, sectors_of, value_limit}
use Rattle.flash_map.specs.On.{on, HoldsOn}
use Rattle.backend_api.specs.Map.{Map}
use Rattle.migrator.specs.Active.{active_on, selector_damage_on}
use Rattle.migrator.specs.Areas.{first_store, is_store, is_store_at, target}
use Rattle.mirror.specs.declared.mirror.Mirror.{Mirror}
use Rattle.mirror.specs.Mirrored.{FitBoth, SideStands}
use Rattle.mirror.specs.Mounting.{other_place}
use Rattle.mirror.specs.declared.sides.Side.{Side}
use Rattle.mirror.specs.Room.{FitsOn}
use Rattle.mirror.specs.Trusted.{BothRead, IsMirrorMap, is_blank_at, is_blank_on, trusted_on}
use Rattle.session_table.specs.Bench.{area_at}
use Rattle.session.specs.OnMap.{limit_of}
use Rattle.session.proofs.ActiveAreas.{area_there, store_there}
use Rattle.mirror_session.specs.Bench.{Meanings, beside_in, is_gone, moment}
use Rattle.mirror_session.specs.LineDone.{FitNow, FitsBoth}
use Rattle.mirror_session.specs.Standing.{AtRest, IsHeld, IsReady, RestsNow}
use Rattle.mirror_session.proofs.PlaceLemmas.{beside_some, first_stores, other_is, reads_either, store_at, trusted_of_is}

pub side_rests : {S : Type 0} (mounted_on : S → Area) (stands : S → Geometry → List (List ℕ) → Type 0) (d : Device) (side : Side S) (rests : Area → Geometry → List (List ℕ) → Type 0)
    → ((state : S) (geometry : Geometry) (sectors : List (List ℕ)) → stands state geometry sectors → rests (mounted_on state) geometry sectors) → SideStands mounted_on stands d side → HoldsOn rests d side.area
side_rests mounted_on stands d side rests law up =
    subst (λ (a : Area). HoldsOn rests d a) up.here (law side.store (geometry_of d (mounted_on side.store)) (sectors_of d (mounted_on side.store)) up.up)

module _ {S : Type 0} (mounted_on : S → Area) (stands : S → Geometry → List (List ℕ) → Type 0) (m : Meanings) (serves : Area → Geometry → Type 0) (areas : List Area) (d : Device) (mirror : Mirror S)
    (map : IsMirrorMap serves areas d) (held : IsHeld mounted_on stands m areas d mirror) where
  pub at_here : is_store_at areas mirror.trusted.place ≡ true
  at_here = store_at areas mirror.trusted.place mirror.trusted.area held.trusted.there held.trusted.stores

  pub at_there : is_store_at areas mirror.other.place ≡ true
  at_there = store_at areas mirror.other.place mirror.other.area held.other.there held.other.stores

  pub differs : mirror.trusted.place ≢ mirror.other.place
  differs e = held.apart (sym e)

  pub beside_here : target areas mirror.trusted.place ≡ Some mirror.other.place
  beside_here = beside_some serves areas d map mirror.trusted.place mirror.other.place at_here at_there differs

  pub beside_there : target areas mirror.other.place ≡ Some mirror.trusted.place
  beside_there = beside_some serves areas d map mirror.other.place mirror.trusted.place at_there at_here held.apart

  -- also on a bench where the selector names the same area
  pub reads_on : (e : Device) → active_on areas e ≡ active_on areas d → {X : Type 0} (f : Area → X) (P : X → X → Type 0) → P (f mirror.trusted.area) (f mirror.other.area) → P (f mirror.other.area) (f mirror.trusted.area)
      → P (f (area_at areas (trusted_on areas e))) (f (area_at areas (beside_in areas (trusted_on areas e))))
  reads_on e still f P one two =
      reads_either areas e mirror.trusted.place mirror.other.place mirror.trusted.area mirror.other.area (held.named ∙ sym still) beside_here beside_there held.trusted.there held.other.there f P one two

  pub settings_are : d.is_on ≡ true → on m.contents d (area_at areas (trusted_on areas d)) ≡ on m.contents d mirror.trusted.area
  settings_are power =
      reads_on d refl (λ a. on m.contents d a) (λ x y. x ≡ on m.contents d mirror.trusted.area) refl (held.up power).same

  pub others_are : d.is_on ≡ true → on m.contents d (area_at areas (beside_in areas (trusted_on areas d))) ≡ on m.contents d mirror.trusted.area
  others_are power =
      reads_on d refl (λ a. on m.contents d a) (λ x y. y ≡ on m.contents d mirror.trusted.area) (held.up power).same refl

  pub named_area : area_at areas (active_on areas d) ≡ mirror.trusted.area
  named_area = ap (area_at areas) (sym held.named) ∙ area_there areas mirror.trusted.place mirror.trusted.area held.trusted.there

  some_same : (x y : Area) → Some x ≡ Some y → x ≡ y
  some_same x y e = cc

  -- what holds of the two areas of the mirror holds of both of the map
  pub of_both : (P : Area → Type 0) → P mirror.trusted.area → P mirror.other.area → (place : ℕ) (area : Area) → slice_get areas place ≡ Some area → is_store area ≡ true → P area
  of_both P one two place area there store = elim (cases_eq place mirror.trusted.place) [
    | inl same ↦ subst P (some_same mirror.trusted.area area (sym held.trusted.there ∙ ap (slice_get areas) (sym same) ∙ there)) one
    | inr differ ↦
        let at : place ≡ mirror.other.place = other_is serves areas d map mirror.trusted.place mirror.other.place place at_here at_there (store_at areas place area there store) differs differ in
        subst P (some_same mirror.other.area area (sym held.other.there ∙ ap (slice_get areas) (sym at) ∙ there)) two
  ]

  -- settings that fit the two areas of the mirror fit both of the map
  pub fits_both : (e : Device) (settings : Map) → FitsOn m.room m.prices e mirror.trusted.area settings → FitsOn m.room m.prices e mirror.other.area settings → FitsBoth m areas e.banks settings
  fits_both e settings one two place area there store = of_both (λ a. FitsOn m.room m.prices e a settings) one two place area there store

  -- both read as these settings
  pub reads_both : (e : Device) (settings : Map) → selector_damage_on areas e ≡ None → on m.damage e mirror.trusted.area ≡ None → on m.damage e mirror.other.area ≡ None
      → on m.contents e mirror.trusted.area ≡ settings → on m.contents e mirror.other.area ≡ settings → BothRead m.damage m.contents areas e settings
  reads_both e settings sound one two first second = record {
    sound = sound;
    undamaged = λ place area there store. of_both (λ a. on m.damage e a ≡ None) one two place area there store;
    reads = λ place area there store. of_both (λ a. on m.contents e a ≡ settings) first second place area there store;
  }

  -- what both read as fits, where the selector names the same area
  pub fit_both : (e : Device) → active_on areas e ≡ active_on areas d → (whole : Bool) → FitBoth m.room m.prices e mirror.trusted.area mirror.other.area (on m.contents e mirror.trusted.area)
      → FitBoth m.room m.prices e mirror.trusted.area mirror.other.area (on m.contents e mirror.other.area) → FitNow m areas (moment e whole)
  fit_both e still whole one two =
      let first = fits_both e (on m.contents e mirror.trusted.area) one.trusted_fits one.other_fits in
      let second = fits_both e (on m.contents e mirror.other.area) two.trusted_fits two.other_fits in
      let have = reads_on e still (λ a. on m.contents e a) (λ x y. FitsBoth m areas e.banks x × FitsBoth m areas e.banks y) (first, second) (second, first) in
      record { settings = have.0; other = λ now. have.1 }

  -- the selector names the area that is read, where it does so once that area is all FF
  pub read_if : (e : Device) → active_on areas e ≡ active_on areas d → (is_blank_on e mirror.trusted.area ≡ true → is_gone areas e ≡ false) → is_gone areas e ≡ false
  read_if e still blank = elim (cases_Bool (is_gone areas e)) [
    | inl gone ↦
        let parts = and_parts (is_blank_at areas e (active_on areas e)) (not (is_blank_at areas e (beside_in areas (active_on areas e)))) gone in
        let there : slice_get areas (active_on areas e) ≡ Some mirror.trusted.area = ap (slice_get areas) (still ∙ sym held.named) ∙ held.trusted.there in
        blank (sym (ap (λ (o : Option Area). option_map_or (is_blank_on e) o false) there) ∙ parts.0)
    | inr named ↦ named
  ]

  -- a mount has nothing to do
  pub at_rest : ((state : S) (geometry : Geometry) (sectors : List (List ℕ)) → stands state geometry sectors → m.rests (mounted_on state) geometry sectors)
      → d.is_on ≡ true → AtRest m areas d
  at_rest law power =
      let up = held.up power in
      let active : active_on areas d ≡ trusted_on areas d = sym (trusted_of_is areas d ∙ ap (λ (b : Bool). cond b (beside_in areas (active_on areas d)) (active_on areas d)) (held.read power)) in
      let trusted : trusted_on areas d ≡ mirror.trusted.place = sym active ∙ sym held.named in
      let other : other_place areas (trusted_on areas d) ≡ mirror.other.place = ap (other_place areas) trusted ∙ ap (λ (o : Option ℕ). unwrap_or o mirror.trusted.place) beside_here in
      record {
        selector = held.rests;
        named = active;
        trusted = mirror.trusted.area;
        other = mirror.other.area;
        placed = record { trusted_there = ap (slice_get areas) trusted ∙ held.trusted.there; other_there = ap (slice_get areas) other ∙ held.other.there };
        trusted_rests = side_rests mounted_on stands d mirror.trusted m.rests law up.trusted_stands;
        other_rests = side_rests mounted_on stands d mirror.other m.rests law up.other_stands;
        same = record { sound = held.other.sound; reads = up.same };
      }

  -- the longest value is that of the map
  pub limit_is : value_limit mirror.trusted.area ≡ limit_of areas
  limit_is =
      ap (λ (n : ℕ). cond (n == 2) LONG_VALUE_LIMIT VALUE_LIMIT)
      (map.lawful.versions mirror.trusted.place (first_store areas) mirror.trusted.area (area_at areas (first_store areas)) held.trusted.there (store_there areas (first_store areas) (first_stores serves areas d map)))

-- where an area that is all FF has no settings
abbrev pub EmptyWhereBlank : (Area → Geometry → Type 0) → Meanings → Type 0
EmptyWhereBlank serves m =
    (x : Device) (area : Area) → IsLawful x.banks x.bytes → IsLawfulFor x.banks area → serves area (geometry_of x area) → is_blank_on x area ≡ true → on m.contents x area ≡ empty

-- the same, where the session says whether its mirror is up
module _ {S : Type 0} (mounted_on : S → Area) (stands : S → Geometry → List (List ℕ) → Type 0) (m : Meanings) (serves : Area → Geometry → Type 0) (areas : List Area) (d : Device) (map : IsMirrorMap serves areas d)
    (law : (state : S) (geometry : Geometry) (sectors : List (List ℕ)) → stands state geometry sectors → m.rests (mounted_on state) geometry sectors) where
  never_up : (b : Bool) → (b && false) ≡ true → ⊥
  never_up true is = false≢true is
  never_up false is = false≢true is

  is_up : (b : Bool) → (b && true) ≡ true → b ≡ true
  is_up true is = refl
  is_up false is = is

  pub rests_now : (o : Option (Mirror S)) → IsReady mounted_on stands m areas d o → RestsNow m areas (moment d (is_some o))
  rests_now None ready power = absurd (never_up d.is_on power)
  rests_now (Some mirror) ready power = at_rest mounted_on stands m serves areas d mirror map ready law (is_up d.is_on power)

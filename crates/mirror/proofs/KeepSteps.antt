-- An image goes on mirror-reading as its map.
use Rattle.std.proofs.Common.{◌≡◌, ◌⊎◌, ℕ, Bool, true, false, not, ◌&&◌, cond, List, [], ◌∷◌, Option, Some, None, Result, Ok, Err, refl, sym, ap, subst, ◌∙◌, inl, inr}
use Rattle.std.specs.Prelude.{OnOk, unwrap_or}
use Rattle.std.specs.FinMap as maps
use Rattle.std.specs.List.{list_all, slice_get}
use Rattle.std.specs.Option.{option_map_or}
use Rattle.std.proofs.lemmas.Bool.{cases_Bool, false≢true}
use Rattle.flash_sim.specs.Bank.{IsLawful}
use Rattle.flash_sim.specs.Device.{Device}
use Rattle.flash_map.specs.declared.area.Area.{Area}
use Rattle.flash_map.specs.declared.area.Geometry.{Geometry}
use Rattle.flash_map.specs.declared.faults.Damaged.{Damaged}
use Rattle.flash_map.specs.Area.{geometry_of, sectors_of}
use Rattle.flash_map.specs.Lawful.{IsLawfulFor}
use Rattle.flash_map.specs.On.{on, HoldsOn}
use Rattle.flash_map.specs.Touches.{Touches}
use Rattle.flash_map.specs.Units.{is_erased}
use Rattle.backend_api.specs.Map.{Map}
use Rattle.backend_api.specs.Room.{Room}
use Rattle.backend_api.specs.Written.{is_blank_on}
use Rattle.migrator.specs.Active.{active_on, selector_damage_on}
use Rattle.migrator.specs.Areas.{is_store_at, selector_of, target}
use Rattle.migrator.proofs.Migration.{store-of}
use Rattle.migrator.proofs.Moving.{still}
use Rattle.mirror.specs.declared.mounting.MirrorMount.{MirrorMount}
use Rattle.mirror.specs.declared.mounting.MirrorMount.TheVariants.{Damaged as IsDamaged, Unfit, PowerLost, NoMemory}
use Rattle.mirror.specs.declared.mirror.Mirror.{Mirror}
use Rattle.mirror.specs.declared.sides.Side.{Side}
use Rattle.mirror.specs.Mirrored.{SideStands}
use Rattle.mirror.specs.Mounting.{HoldsMap, IsAtRest, MirrorMounts, SparesBoth, TrustEnds, other_place}
use Rattle.mirror.specs.Room.{Prices}
use Rattle.mirror.specs.Trusted.{IsMirrorMap, MirrorReads, is_blank_at, trusted_on, trusted_with}
use Rattle.mirror.proofs.MapSteps.{map-still, other-is, some-area}
use Rattle.mirror.proofs.TrustSteps.{store-beside, trusted-again, trusted-fixed, trusted-stores}

-- where the trusted one is all FF, so is the other one
both-blank : (a b : Bool) (here there : ℕ) → (there ≡ here → ⊥) → a ≡ true → cond (a && not b) there here ≡ here → b ≡ true
both-blank true true here there apart a_is stays = refl
both-blank true false here there apart a_is stays = absurd (apart stays)
both-blank false b here there apart a_is stays = absurd (false≢true a_is)

stays-here : (a : Bool) (there here : ℕ) → cond (a && not true) there here ≡ here
stays-here true there here = refl
stays-here false there here = refl

blank-here : (areas : List Area) (d : Device) (place : ℕ) (area : Area) → slice_get areas place ≡ Some area → is_blank_at areas d place ≡ is_blank_on d area
blank-here areas d place area there = ap (λ (o : Option Area). option_map_or (is_blank_on d) o false) there

pub other-target : (serves : Area → Geometry → Type 0) (areas : List Area) (d : Device) (map : IsMirrorMap serves areas d) (place : ℕ) → target areas place ≡ Some (other_place areas place)
other-target serves areas d map place = by (target areas place) refl
  where
    by : (o : Option ℕ) → target areas place ≡ o → target areas place ≡ Some (other_place areas place)
    by None none = absurd ((other-is serves areas d map place).differs (ap (λ (o : Option ℕ). unwrap_or o place) none))
    by (Some index) some = some ∙ ap (λ (n : ℕ). Some n) (sym (ap (λ (o : Option ℕ). unwrap_or o place) some))

module _ (damage : Area → Geometry → List (List ℕ) → Option Damaged) (contents : Area → Geometry → List (List ℕ) → Map) (serves : Area → Geometry → Type 0) (areas : List Area) (d m : Device) (s : Area) (lost : Bool)
    (map : IsMirrorMap serves areas d) (selected : selector_of areas ≡ Some s) (lawful : IsLawful d.banks d.bytes) (mid : IsLawful m.banks m.bytes) (touches : Touches (s ∷ []) d m lost) where
  -- ---- a call on the selector

  reads-beside : (settings : Map) → selector_damage_on areas m ≡ None → trusted_on areas m ≡ trusted_on areas d → MirrorReads damage contents areas d settings → MirrorReads damage contents areas m settings
  reads-beside settings sound same was =
      let rest = store-beside serves areas d m s lost map selected lawful mid touches (trusted_on areas d) was.area was.there (trusted-stores serves areas d map) in
      record {
        sound = sound;
        area = was.area;
        there = ap (slice_get areas) same ∙ was.there;
        undamaged = still damage d m was.area touches.banks rest ∙ was.undamaged;
        reads = still contents d m was.area touches.banks rest ∙ was.reads;
      }

  -- which stopped
  pub keeps-fault : (fault : MirrorMount) → TrustEnds areas d m (Err fault) → (settings : Map) → MirrorReads damage contents areas d settings → MirrorReads damage contents areas m settings
  keeps-fault (IsDamaged place shown) did settings was = subst (λ (x : Device). MirrorReads damage contents areas x settings) (sym did.2) was
  keeps-fault (Unfit place) did settings was = absurd did
  keeps-fault PowerLost did settings was = reads-beside settings did.sound_still (trusted-again serves areas d m s lost map selected lawful mid touches did.active) was
  keeps-fault NoMemory did settings was = absurd did

  -- the same area is trusted
  pub trusted-fault : (fault : MirrorMount) → TrustEnds areas d m (Err fault) → trusted_on areas m ≡ trusted_on areas d
  trusted-fault (IsDamaged place shown) did = ap (trusted_on areas) did.2
  trusted-fault (Unfit place) did = absurd did
  trusted-fault PowerLost did = trusted-again serves areas d m s lost map selected lawful mid touches did.active
  trusted-fault NoMemory did = absurd did

  -- ---- and then on both areas, where the selector names the trusted one

  module _ (rests : Area → Geometry → List (List ℕ) → Type 0)
      (reads_none : (x : Device) (area : Area) → IsLawful x.banks x.bytes → IsLawfulFor x.banks area → serves area (geometry_of x area) → is_blank_on x area ≡ true → on damage x area ≡ None)
      (reads_empty : (x : Device) (area : Area) → IsLawful x.banks x.bytes → IsLawfulFor x.banks area → serves area (geometry_of x area) → is_blank_on x area ≡ true → on contents x area ≡ maps.empty)
      (reads_rest : (x : Device) (area : Area) → IsLawful x.banks x.bytes → IsLawfulFor x.banks area → serves area (geometry_of x area) → is_blank_on x area ≡ true → HoldsOn rests x area)
      (e : Device) (t o : Area) (there : slice_get areas (trusted_on areas d) ≡ Some t) (beside : slice_get areas (other_place areas (trusted_on areas d)) ≡ Some o)
      (active : active_on areas e ≡ trusted_on areas d) (spares : SparesBoth damage contents rests m e t o)
      (idle : HoldsOn rests m t → HoldsOn rests m o → HoldsMap damage contents m o (on contents m t) → e ≡ m) where
    abbrev here : ℕ
    here = trusted_on areas d

    abbrev next : ℕ
    next = other_place areas (trusted_on areas d)

    o-stores : is_store_at areas next ≡ true
    o-stores = (other-is serves areas d map here).stores

    t-stores : is_store_at areas here ≡ true
    t-stores = trusted-stores serves areas d map

    t-same : sectors_of m t ≡ sectors_of d t
    t-same = store-beside serves areas d m s lost map selected lawful mid touches here t there t-stores

    o-same : sectors_of m o ≡ sectors_of d o
    o-same = store-beside serves areas d m s lost map selected lawful mid touches next o beside o-stores

    trusted-now : trusted_on areas e ≡ cond (is_blank_at areas e here && not (is_blank_at areas e next)) next here
    trusted-now = ap (λ (n : ℕ). trusted_with areas e n (target areas n)) active ∙ ap (trusted_with areas e here) (other-target serves areas d map here)

    -- where the trusted one is all FF, both were so before, and nothing changed
    nothing-done : is_blank_at areas e here ≡ true → (e ≡ m) × (is_blank_on m o ≡ true)
    nothing-done blank =
        let mapped : IsMirrorMap serves areas m = map-still serves areas d map m touches.banks in
        let now : is_blank_on m t ≡ true = spares.bytes.written (sym (blank-here areas e here t there) ∙ blank) in
        let was : is_blank_on d t ≡ true = sym (ap (list_all is_erased) t-same) ∙ now in
        let other-was : is_blank_at areas d next ≡ true =
        both-blank (is_blank_at areas d here) (is_blank_at areas d next) here next (other-is serves areas d map here).differs (blank-here areas d here t there ∙ was)
        (sym (ap (trusted_with areas d here) (other-target serves areas d map here)) ∙ trusted-fixed areas d) in
        let other-now : is_blank_on m o ≡ true = ap (list_all is_erased) o-same ∙ sym (blank-here areas d next o beside) ∙ other-was in
        let t_lawful = mapped.lawful.each here t there in
        let o_lawful = mapped.lawful.each next o beside in
        let t_serves = mapped.served here t there (store-of areas here t there t-stores) in
        let o_serves = mapped.served next o beside (store-of areas next o beside o-stores) in (
          idle (reads_rest m t mid t_lawful t_serves now) (reads_rest m o mid o_lawful o_serves other-now)
              (record { sound = reads_none m o mid o_lawful o_serves other-now; reads = reads_empty m o mid o_lawful o_serves other-now ∙ sym (reads_empty m t mid t_lawful t_serves now) }),
          other-now,
        )

    pub trusted-both : trusted_on areas e ≡ trusted_on areas d
    trusted-both = elim (cases_Bool (is_blank_at areas e here)) [
      | inl blank ↦
          let none = nothing-done blank in
          let other : is_blank_at areas e next ≡ true = blank-here areas e next o beside ∙ ap (λ (x : Device). is_blank_on x o) none.0 ∙ none.1 in
          trusted-now ∙ ap (λ (b : Bool). cond (is_blank_at areas e here && not b) next here) other ∙ stays-here (is_blank_at areas e here) next here
      | inr written ↦ trusted-now ∙ ap (λ (b : Bool). cond (b && not (is_blank_at areas e next)) next here) written
    ]

    pub keeps-both : selector_damage_on areas e ≡ None → (settings : Map) → MirrorReads damage contents areas d settings → MirrorReads damage contents areas e settings
    keeps-both sound settings was =
        let same : was.area ≡ t = some-area was.area t (sym was.there ∙ there) in
        let none : on damage m t ≡ None = still damage d m t touches.banks t-same ∙ subst (λ (x : Area). on damage d x ≡ None) same was.undamaged in
        let read : on contents m t ≡ settings = still contents d m t touches.banks t-same ∙ subst (λ (x : Area). on contents d x ≡ settings) same was.reads in
        let kept = spares.kept none in
        record {
          sound = sound;
          area = t;
          there = ap (slice_get areas) trusted-both ∙ there;
          undamaged = kept.undamaged;
          reads = kept.reads ∙ read;
        }

-- ---- behind a mount that was whole

module _ {S : Type 0} (mounted : S → Area) (stands : S → Geometry → List (List ℕ) → Type 0) (damage : Area → Geometry → List (List ℕ) → Option Damaged) (contents : Area → Geometry → List (List ℕ) → Map)
    (rests : Area → Geometry → List (List ℕ) → Type 0)
    (reads : (state : S) (geometry : Geometry) (sectors : List (List ℕ)) → stands state geometry sectors → damage (mounted state) geometry sectors ≡ None)
    (rest : (state : S) (geometry : Geometry) (sectors : List (List ℕ)) → stands state geometry sectors → rests (mounted state) geometry sectors) (e : Device) where
  side-sound : (side : Side S) → SideStands mounted stands e side → on damage e side.area ≡ None
  side-sound side is = subst (λ (x : Area). on damage e x ≡ None) is.here (reads side.store (geometry_of e (mounted side.store)) (sectors_of e (mounted side.store)) is.up)

  side-rests : (side : Side S) → SideStands mounted stands e side → HoldsOn rests e side.area
  side-rests side is = subst (λ (x : Area). HoldsOn rests e x) is.here (rest side.store (geometry_of e (mounted side.store)) (sectors_of e (mounted side.store)) is.up)

  -- a mount has nothing to do
  pub rests-behind : (room : Area → Geometry → Room) (prices : Area → Geometry → Prices) (areas : List Area) (s : Area) (d : Device) (r : Result (Mirror S) MirrorMount) → trusted_on areas e ≡ trusted_on areas d
      → MirrorMounts mounted stands damage contents room prices areas s d e r → OnOk r (IsAtRest damage contents rests areas e)
  rests-behind room prices areas s d (Err fault) same ends = tt
  rests-behind room prices areas s d (Ok mirror) same ends = record {
    selector = ends.rests;
    named = ends.kept.active ∙ sym same;
    trusted = mirror.trusted.area;
    other = mirror.other.area;
    placed = record {
      trusted_there = ap (slice_get areas) same ∙ ends.placed.trusted_there;
      other_there = ap (λ (n : ℕ). slice_get areas (other_place areas n)) same ∙ ends.placed.other_there;
    };
    trusted_rests = side-rests mirror.trusted ends.mirrors.trusted_stands;
    other_rests = side-rests mirror.other ends.mirrors.other_stands;
    same = record { sound = side-sound mirror.other ends.mirrors.other_stands; reads = ends.mirrors.same };
  }

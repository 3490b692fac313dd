-- Looking whether settings fit, and repairing the other area.
use Rattle.std.proofs.Common.{◌≡◌, ℕ, ◌≤◌, Bool, true, false, min, max, List, [], ◌∷◌, length, Option, Some, None, Result, Ok, Err, sym, ap, subst, ◌∙◌, inl, inr, arith}
use Rattle.std.specs.Prelude.{All, IfOk}
use Rattle.std.specs.List.{list_any, slice_get}
use Rattle.std.specs.FinMap as maps
use Rattle.std.specs.Ordering.{eq_by_cmp}
use Rattle.std.proofs.lemmas.Bool.{cases_lt, false≢true, or_cases}
use Rattle.std.proofs.lemmas.Bool.Decides.{nat_tests}
use Rattle.std.proofs.lemmas.List.Elements.{All-head, All-tail}
use Rattle.flash_sim.specs.Device.{Device}
use Rattle.flash_map.specs.declared.area.Area.{Area}
use Rattle.flash_map.specs.declared.area.Geometry.{Geometry}
use Rattle.flash_map.specs.declared.faults.Damaged.{Damaged}
use Rattle.flash_sim.specs.declared.flash.Bank.{Bank}
use Rattle.flash_map.specs.Area.{geometry_of, sectors_of, value_limit}
use Rattle.flash_map.specs.Lawful.{IsLawfulFor}
use Rattle.flash_map.specs.On.{on, StandsOn}
use Rattle.setting_name.specs.Name.{IsName, name_limit}
use Rattle.backend_api.specs.Map.{Map, IsSettings, IsStored}
use Rattle.backend_api.specs.Room.{Room}
use Rattle.backend_api.proofs.LeastLemmas.{cmp}
use Rattle.backend_api.proofs.MapLemmas.{ties_same}
use Rattle.migrator.specs.declared.migrating.MigrateFault.{MigrateFault}
use Rattle.migrator.specs.declared.migrating.MigrateFault.TheVariants.{NoTarget, NoSpace, TooManyNames, PowerLost as MoveLost, NoMemory as MoveNoMemory}
use Rattle.migrator.specs.Migrating.{FillEnds, migrate_lost}
use Rattle.migrator.proofs.Copies.{geometry-same, stands-still}
use Rattle.migrator.proofs.Moving.{still}
use Rattle.mirror.specs.declared.mounting.MirrorMount.{MirrorMount}
use Rattle.mirror.specs.Mounting.{FitsAt, HoldEnds, IsKeptIf, IsNotRefused, MayCopyTrusted, OtherEnds, RepairsAs, mount_lost}
use Rattle.mirror.specs.Room.{Fits, FitsOn, IsRoomBy, Prices}
use Rattle.mirror.proofs.FitLemmas.{none-full, none-many}
use Rattle.mirror.proofs.ReadLemmas.{stored-short}

all-key : (P : List ℕ → Type 0) (keys : List (List ℕ)) (name : List ℕ) → All P keys → list_any (eq_by_cmp cmp name) keys ≡ true → P name
all-key P [] name all has = absurd (false≢true has)
all-key P (key ∷ keys) name all has = elim (or_cases (eq_by_cmp cmp name key) (list_any (eq_by_cmp cmp name) keys) has) [
  | inl here ↦ subst P (sym (ties_same name key here)) (All-head P key keys all)
  | inr later ↦ all-key P keys name (All-tail P key keys all) later
]

stored-name : (limit : ℕ) (m : Map) (name value : List ℕ) → IsSettings limit m → IsStored m name value → length name ≤ name_limit
stored-name limit m name value lawful stored =
    (all-key IsName (maps.keys m) name lawful.names (sym (maps.contains_key-keys m name) ∙ ap some_of stored)).short
  where
    some_of : Option (List ℕ) → Bool
    some_of None = false
    some_of (Some x) = true

module _ {S : Type 0} (room : Room) (p : Prices) (is : IsRoomBy room p) (sectors limit : ℕ) (m : Map) (fits : Fits room p sectors limit m) (lawful : IsSettings limit m) where
  -- no set of a repair is refused
  pub not-refused : (copy : Map) (result : Result S MigrateFault) → FillEnds room sectors m copy result → IsNotRefused result
  not-refused copy (Ok x) did = tt
  not-refused copy (Err NoTarget) did = did
  not-refused copy (Err (NoSpace need live)) did = none-full room p is sectors limit m fits (λ name value stored. stored-name limit m name value lawful stored) (λ name value stored. stored-short limit m name value lawful stored) need live did
  not-refused copy (Err TooManyNames) did = none-many room p is sectors limit m fits did
  not-refused copy (Err MoveLost) did = tt
  not-refused copy (Err MoveNoMemory) did = tt

pub repair-lost : {S : Type 0} (filled : Result S MigrateFault) (result : Result S MirrorMount) → RepairsAs filled result → migrate_lost filled ≡ mount_lost result
repair-lost (Ok x) result is = ap mount_lost (sym is)
repair-lost (Err NoTarget) result is = absurd is
repair-lost (Err (NoSpace need live)) result is = absurd is
repair-lost (Err TooManyNames) result is = absurd is
repair-lost (Err MoveLost) result is = ap mount_lost (sym is)
repair-lost (Err MoveNoMemory) result is = ap mount_lost (sym is)

pub repair-ends : {S : Type 0} (mounted : S → Area) (stands : S → Geometry → List (List ℕ) → Type 0) (room : Room) (sectors : ℕ) (settings copy : Map) (e : Device) (area : Area) (filled : Result S MigrateFault) (result : Result S MirrorMount)
    → FillEnds room sectors settings copy filled → RepairsAs filled result
    → IfOk filled (λ x. mounted x ≡ area) → IfOk filled (λ x. StandsOn mounted stands e x) → OtherEnds mounted stands e area (copy ≡ settings) result
repair-ends {S} mounted stands room sectors settings copy e area (Ok x) result did is here stand = subst (λ (r : Result S MirrorMount). OtherEnds mounted stands e area (copy ≡ settings) r) (sym is) (here, stand, did.0)
repair-ends mounted stands room sectors settings copy e area (Err NoTarget) result did is here stand = absurd did
repair-ends mounted stands room sectors settings copy e area (Err (NoSpace need live)) result did is here stand = absurd is
repair-ends mounted stands room sectors settings copy e area (Err TooManyNames) result did is here stand = absurd is
repair-ends {S} mounted stands room sectors settings copy e area (Err MoveLost) result did is here stand = subst (λ (r : Result S MirrorMount). OtherEnds mounted stands e area (copy ≡ settings) r) (sym is) tt
repair-ends {S} mounted stands room sectors settings copy e area (Err MoveNoMemory) result did is here stand = subst (λ (r : Result S MirrorMount). OtherEnds mounted stands e area (copy ≡ settings) r) (sym is) tt

-- ---- two areas, the one at the lower place first

module _ (room : Area → Geometry → Room) (prices : Area → Geometry → Prices) (areas : List Area) (d : Device) (settings : Map) where
  pub fits-one : (place : ℕ) (area : Area) → slice_get areas place ≡ Some area → FitsOn room prices d area settings → FitsAt room prices areas d place settings
  fits-one place area there fits other at = subst (λ (x : Area). FitsOn room prices d x settings) (some-area area other (sym there ∙ at)) fits
    where
      some-area : (x y : Area) → Some x ≡ Some y → x ≡ y
      some-area x y e = cc

  pub unfit-one : (place : ℕ) (area : Area) → slice_get areas place ≡ Some area → ¬ FitsOn room prices d area settings → ¬ FitsAt room prices areas d place settings
  unfit-one place area there not fits = not (fits area there)

  pub fits-two : (trusted other : ℕ) → FitsAt room prices areas d (min trusted other) settings → FitsAt room prices areas d (max trusted other) settings → FitsAt room prices areas d trusted settings × FitsAt room prices areas d other settings
  fits-two trusted other low high = elim (cases_lt trusted other) [
    | inl less ↦
        let a : min trusted other ≡ trusted = grind (arith, nat_tests, less) in
        let b : max trusted other ≡ other = grind (arith, nat_tests, less) in
        (subst (λ (n : ℕ). FitsAt room prices areas d n settings) a low, subst (λ (n : ℕ). FitsAt room prices areas d n settings) b high)
    | inr more ↦
        let a : min trusted other ≡ other = grind (arith, nat_tests, more) in
        let b : max trusted other ≡ trusted = grind (arith, nat_tests, more) in
        (subst (λ (n : ℕ). FitsAt room prices areas d n settings) b high, subst (λ (n : ℕ). FitsAt room prices areas d n settings) a low)
  ]

-- ---- the other area

pub hold-ends : {S : Type 0} (mounted : S → Area) (stands : S → Geometry → List (List ℕ) → Type 0) (damage : Area → Geometry → List (List ℕ) → Option Damaged) (contents : Area → Geometry → List (List ℕ) → Map) (d m : Device) (area source : Area) (store : S) (o : Option S)
    → mounted store ≡ area → StandsOn mounted stands m store
    → on contents m source ≡ on contents d source → (on damage d area ≡ None → on contents m area ≡ on contents d area) → IsKeptIf o store (on contents m (mounted store) ≡ on contents m source)
    → HoldEnds mounted stands damage contents d m area (on contents d source) (Ok o)
hold-ends mounted stands damage contents d m area source store (Some kept) here up same keeps is =
    let on_it : mounted kept ≡ area = ap mounted is.0 ∙ here in
    (on_it, subst (λ x. StandsOn mounted stands m x) (sym is.0) up, ap (on contents m) (sym here) ∙ is.1 ∙ same)
hold-ends mounted stands damage contents d m area source store None here up same keeps differs =
    λ holds. differs (ap (on contents m) here ∙ keeps holds.sound ∙ holds.reads ∙ sym same)

-- It stays so on another device with the same banks, where the trusted area's sectors are as they were.
pub may-copy-still : {S : Type 0} (serves : Area → Geometry → Type 0) (mounted_on : S → Area)
    (stands : S → Geometry → List (List ℕ) → Type 0) (contents : Area → Geometry → List (List ℕ) → Map)
    (room : Area → Geometry → Room) (prices : Area → Geometry → Prices) (a d : Device) (trusted : S) (other : Area)
    → d.banks ≡ a.banks → sectors_of d (mounted_on trusted) ≡ sectors_of a (mounted_on trusted)
    → MayCopyTrusted serves mounted_on stands contents room prices a trusted other
    → MayCopyTrusted serves mounted_on stands contents room prices d trusted other
may-copy-still serves mounted_on stands contents room prices a d trusted other banks same may =
    let geometry : geometry_of d other ≡ geometry_of a other = geometry-same a d other banks in
    record {
      lawful_trusted = subst (λ (b : List Bank). IsLawfulFor b (mounted_on trusted)) (sym banks) may.lawful_trusted;
      stands_trusted = stands-still mounted_on stands contents room a d trusted banks same may.stands_trusted;
      lawful = subst (λ (b : List Bank). IsLawfulFor b other) (sym banks) may.lawful;
      role = may.role;
      served = subst (λ (g : Geometry). serves other g) (sym geometry) may.served;
      apart = may.apart;
      version = may.version;
      fits = subst (λ (m : Map). FitsOn room prices d other m) (sym (still contents a d (mounted_on trusted) banks same))
          (subst (λ (g : Geometry). Fits (room other g) (prices other g) other.sectors (value_limit other) (on contents a (mounted_on trusted))) (sym geometry) may.fits);
    }

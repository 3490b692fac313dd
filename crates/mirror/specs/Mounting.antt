-- How a mount of a mirror changes its areas, and how it ends.
use Rattle.std.specs.Prelude.{◌≡◌, ◌⊎◌, ⊤, ℕ, ◌+◌, Bool, true, false, min, max, List, [], ◌∷◌, Option, Some, None, Result, Ok, Err, unwrap_or}
use Rattle.std.specs.List.{slice_get}
use Rattle.flash_sim.specs.Device.{Device}
use Rattle.flash_map.specs.declared.area.Area.{Area}
use Rattle.flash_map.specs.declared.area.Geometry.{Geometry}
use Rattle.flash_map.specs.declared.faults.Damaged.{Damaged}
use Rattle.flash_map.specs.declared.faults.MountFault.{MountFault}
use Rattle.flash_map.specs.declared.faults.MountFault.TheVariants.{Damaged as MountDamaged, PowerLost as MountLost, NoMemory as MountNoMemory}
use Rattle.flash_map.specs.Area.{geometry_of, sectors_of, AreApart}
use Rattle.flash_map.specs.Lawful.{IsLawfulFor}
use Rattle.flash_map.specs.On.{on, HoldsOn, StandsOn}
use Rattle.flash_map.specs.Spending.{SpendsAtMost}
use Rattle.flash_map.specs.Touches.{Touches}
use Rattle.fcb_ring.specs.Standing.{erases_on, ring_damage}
use Rattle.backend_api.specs.Map.{Map}
use Rattle.backend_api.specs.Room.{Room, foreign_units}
use Rattle.backend_api.specs.Written.{StaysWritten}
use Rattle.migrator.specs.Active.{active_in, active_on, selector_damage_on}
use Rattle.migrator.specs.Areas.{selector_of, target}
use Rattle.migrator.specs.Choosing.{OldOrChosen, choice_units}
use Rattle.migrator.specs.Migrating.{fill_units}
use Rattle.migrator.specs.declared.migrating.MigrateFault.{MigrateFault}
use Rattle.migrator.specs.declared.migrating.MigrateFault.TheVariants.{NoTarget, NoSpace, TooManyNames, PowerLost as MoveLost, NoMemory as MoveNoMemory}
use Rattle.mirror.specs.declared.mounting.MirrorMount.{MirrorMount}
use Rattle.mirror.specs.declared.mounting.MirrorMount.TheVariants.{Damaged as IsDamaged, Unfit, PowerLost, NoMemory}
use Rattle.mirror.specs.declared.mirror.Mirror.{Mirror}
use Rattle.mirror.specs.declared.sides.Side.{Side}
use Rattle.mirror.specs.Mirrored.{IsMirror, SideStands}
use Rattle.mirror.specs.Naming.{SparesRecords}
use Rattle.mirror.specs.Room.{Prices, FitsOn, IsMirrored}
use Rattle.mirror.specs.Trusted.{damage_shown, selector_place, trusted_on}

-- the answer says that power was lost
abbrev pub mount_lost : {T : Type 0} → Result T MirrorMount → Bool
mount_lost (Ok x) = false
mount_lost (Err (IsDamaged area damage)) = false
mount_lost (Err (Unfit area)) = false
mount_lost (Err PowerLost) = true
mount_lost (Err NoMemory) = false

-- why the area at this place was not mounted, as the mirror's mount answers it
abbrev pub fault_at : ℕ → MountFault → MirrorMount
fault_at place (MountDamaged shown) = IsDamaged place shown
fault_at place MountLost = PowerLost
fault_at place MountNoMemory = NoMemory

-- the store area beside this one
abbrev pub other_place : List Area → ℕ → ℕ
other_place areas trusted = unwrap_or (target areas trusted) trusted

-- the areas on which a mount works: the selector's, the trusted one, and the other one
abbrev pub worked_on : Area → Area → Area → List Area
worked_on selector trusted other = selector ∷ trusted ∷ other ∷ []

-- ---- the selector

-- how the naming of an area ends: the selector names it; or power was lost, and it names it or
-- the one before
abbrev pub NameEnds : {T E : Type 0} → List Area → Device → Device → Area → ℕ → Result T E → Type 0
NameEnds areas old new selector index (Ok x) =
    (active_in areas new selector ≡ index) × (ring_damage new selector ≡ None)
NameEnds areas old new selector index (Err lost) =
    OldOrChosen areas old new selector index × (ring_damage new selector ≡ None)

-- Power was lost while the selector was mounted or named the trusted area. The selector
-- is not damaged.
pub record IsCutTrust (areas : List Area) (old new : Device) : Type 0 where
  pub sound : selector_damage_on areas old ≡ None
  pub sound_still : selector_damage_on areas new ≡ None
  pub active : (active_on areas new ≡ active_on areas old) ⊎ (active_on areas new ≡ trusted_on areas old)

-- a mount of the selector has nothing to erase
abbrev pub SelectorRests : List Area → Device → Type 0
SelectorRests areas d = (selector : Area) → selector_of areas ≡ Some selector → erases_on d selector ≡ 0

-- The selector is not damaged, names the area that the map trusts, and has nothing left to do.
pub record NamesTrusted (areas : List Area) (old new : Device) : Type 0 where
  pub sound : selector_damage_on areas old ≡ None
  pub sound_still : selector_damage_on areas new ≡ None
  pub active : active_on areas new ≡ trusted_on areas old
  pub rests : SelectorRests areas new

-- how the mount of the selector ends, with the place of the trusted area
abbrev pub TrustEnds : List Area → Device → Device → Result ℕ MirrorMount → Type 0
TrustEnds areas old new (Ok place) = (place ≡ trusted_on areas old) × NamesTrusted areas old new
TrustEnds areas old new (Err (IsDamaged place shown)) =
    (place ≡ selector_place areas) × (selector_damage_on areas old ≡ Some shown) × (new ≡ old)
TrustEnds areas old new (Err (Unfit place)) = ⊥
TrustEnds areas old new (Err PowerLost) = IsCutTrust areas old new
TrustEnds areas old new (Err NoMemory) = ⊥

-- ---- both areas

-- the most units and erases of the mounts of two areas
abbrev pub both_mounts : Device → Area → Area → ℕ
both_mounts d trusted other = foreign_units (geometry_of d trusted) + foreign_units (geometry_of d other)

-- how the mount of one area ends
abbrev pub SideEnds : {S : Type 0} → (S → Area) → (S → Geometry → List (List ℕ) → Type 0)
    → (Area → Geometry → List (List ℕ) → Option Damaged) → Device → Device → Area → ℕ
    → Result (Side S) MirrorMount → Type 0
SideEnds mounted_on stands damage old new area place (Ok side) =
    (on damage old area ≡ None) × (side.area ≡ area) × (side.place ≡ place)
    × SideStands mounted_on stands new side
SideEnds mounted_on stands damage old new area place (Err (IsDamaged other shown)) =
    (other ≡ place) × (on damage old area ≡ Some shown) × (new ≡ old)
SideEnds mounted_on stands damage old new area place (Err (Unfit other)) = ⊥
SideEnds mounted_on stands damage old new area place (Err PowerLost) = on damage old area ≡ None
SideEnds mounted_on stands damage old new area place (Err NoMemory) = new ≡ old

-- how the check whether settings fit one area ends
abbrev pub FitEnds : {T : Type 0} → (Area → Geometry → Room) → (Area → Geometry → Prices) → Device → Area → ℕ
    → Map → Result T MirrorMount → Type 0
FitEnds room prices d area place settings (Ok x) = FitsOn room prices d area settings
FitEnds room prices d area place settings (Err (IsDamaged other shown)) = ⊥
FitEnds room prices d area place settings (Err (Unfit other)) =
    (other ≡ place) × ¬ FitsOn room prices d area settings
FitEnds room prices d area place settings (Err PowerLost) = ⊥
FitEnds room prices d area place settings (Err NoMemory) = ⊤

-- settings fit the area at this place
abbrev pub FitsAt : (Area → Geometry → Room) → (Area → Geometry → Prices) → List Area → Device → ℕ → Map
    → Type 0
FitsAt room prices areas d place settings =
    (area : Area) → slice_get areas place ≡ Some area → FitsOn room prices d area settings

-- Settings do not fit the area at the lower of two places; or they fit that one, and not the one at
-- the higher place.
abbrev pub UnfitAt : (Area → Geometry → Room) → (Area → Geometry → Prices) → List Area → Device → ℕ → ℕ → Map
    → ℕ → Type 0
UnfitAt room prices areas d trusted other settings place =
    ((place ≡ min trusted other) × ¬ FitsAt room prices areas d place settings)
    ⊎
    ((place ≡ max trusted other) × FitsAt room prices areas d (min trusted other) settings
    × ¬ FitsAt room prices areas d place settings)

-- how the check whether settings fit two areas ends
abbrev pub BothFitEnds : {T : Type 0} → (Area → Geometry → Room) → (Area → Geometry → Prices) → List Area
    → Device → ℕ → ℕ → Map → Result T MirrorMount → Type 0
BothFitEnds room prices areas d trusted other settings (Ok x) =
    FitsAt room prices areas d trusted settings × FitsAt room prices areas d other settings
BothFitEnds room prices areas d trusted other settings (Err (IsDamaged place shown)) = ⊥
BothFitEnds room prices areas d trusted other settings (Err (Unfit place)) =
    UnfitAt room prices areas d trusted other settings place
BothFitEnds room prices areas d trusted other settings (Err PowerLost) = ⊥
BothFitEnds room prices areas d trusted other settings (Err NoMemory) = ⊤

-- a store that is kept exactly if this holds
abbrev pub IsKeptIf : {S : Type 0} → Option S → S → Type 0 → Type 0
IsKeptIf (Some kept) store holds = (kept ≡ store) × holds
IsKeptIf None store holds = ¬ holds

-- An area that can become a copy of the trusted store: it shares no sector with that store's area,
-- has the same version, and has room for the map.
pub record MayCopyTrusted {S : Type 0} (serves : Area → Geometry → Type 0) (mounted_on : S → Area)
    (stands : S → Geometry → List (List ℕ) → Type 0) (contents : Area → Geometry → List (List ℕ) → Map)
    (room : Area → Geometry → Room) (prices : Area → Geometry → Prices) (d : Device) (trusted : S)
    (other : Area) : Type 0 where
  pub lawful_trusted : IsLawfulFor d.banks (mounted_on trusted)
  pub stands_trusted : StandsOn mounted_on stands d trusted
  pub lawful : IsLawfulFor d.banks other
  pub role : IsMirrored other
  pub served : serves other (geometry_of d other)
  pub apart : AreApart other (mounted_on trusted)
  pub version : other.version ≡ (mounted_on trusted).version
  pub fits : FitsOn room prices d other (on contents d (mounted_on trusted))

-- The area is not damaged, and has these settings.
pub record HoldsMap (damage : Area → Geometry → List (List ℕ) → Option Damaged)
    (contents : Area → Geometry → List (List ℕ) → Map)
    (d : Device) (area : Area) (settings : Map) : Type 0 where
  pub sound : on damage d area ≡ None
  pub reads : on contents d area ≡ settings

-- The area is not formatted: it is all FF afterwards only if it was so before. If a mount of it has
-- nothing to do, its bytes stay.
pub record KeepsBytes (rests : Area → Geometry → List (List ℕ) → Type 0) (old new : Device) (area : Area) :
    Type 0 where
  pub written : StaysWritten old new area
  pub unchanged : HoldsOn rests old area → sectors_of new area ≡ sectors_of old area

-- An area that holds these settings is neither repaired nor formatted: it holds them afterwards, however
-- the call ends, and the call spends no more than this.
pub record KeepsCopy (damage : Area → Geometry → List (List ℕ) → Option Damaged)
    (contents : Area → Geometry → List (List ℕ) → Map) (rests : Area → Geometry → List (List ℕ) → Type 0)
    (old new : Device) (area : Area) (settings : Map) (most : ℕ) : Type 0 where
  pub holds : HoldsMap damage contents new area settings
  pub bytes : KeepsBytes rests old new area
  pub at_most : SpendsAtMost old new most

-- How the mount of the other area ends: it holds the map of the trusted one; or there is no store,
-- because it was damaged or held another map.
abbrev pub HoldEnds : {S : Type 0} → (S → Area) → (S → Geometry → List (List ℕ) → Type 0)
    → (Area → Geometry → List (List ℕ) → Option Damaged) → (Area → Geometry → List (List ℕ) → Map)
    → Device → Device → Area → Map → Result (Option S) MirrorMount → Type 0
HoldEnds mounted_on stands damage contents old new area settings (Ok (Some store)) =
    (mounted_on store ≡ area) × StandsOn mounted_on stands new store × (on contents new area ≡ settings)
HoldEnds mounted_on stands damage contents old new area settings (Ok None) =
    ¬ HoldsMap damage contents old area settings
HoldEnds mounted_on stands damage contents old new area settings (Err (IsDamaged place shown)) = ⊥
HoldEnds mounted_on stands damage contents old new area settings (Err (Unfit place)) = ⊥
HoldEnds mounted_on stands damage contents old new area settings (Err PowerLost) = ⊤
HoldEnds mounted_on stands damage contents old new area settings (Err NoMemory) = ⊤

-- no put of a repair was refused
abbrev pub IsNotRefused : {S : Type 0} → Result S MigrateFault → Type 0
IsNotRefused (Ok store) = ⊤
IsNotRefused (Err NoTarget) = ⊥
IsNotRefused (Err (NoSpace need live)) = ⊥
IsNotRefused (Err TooManyNames) = ⊥
IsNotRefused (Err MoveLost) = ⊤
IsNotRefused (Err MoveNoMemory) = ⊤

-- the result of a repair, as the mirror's mount answers it
abbrev pub RepairsAs : {S : Type 0} → Result S MigrateFault → Result S MirrorMount → Type 0
RepairsAs (Ok store) result = result ≡ Ok store
RepairsAs (Err NoTarget) result = ⊥
RepairsAs (Err (NoSpace need live)) result = ⊥
RepairsAs (Err TooManyNames) result = ⊥
RepairsAs (Err MoveLost) result = result ≡ Err PowerLost
RepairsAs (Err MoveNoMemory) result = result ≡ Err NoMemory

-- how the opening of the other area ends: it holds the map of the trusted one
abbrev pub OtherEnds : {S : Type 0} → (S → Area) → (S → Geometry → List (List ℕ) → Type 0) → Device → Area
    → Type 0 → Result S MirrorMount → Type 0
OtherEnds mounted_on stands new area same (Ok store) =
    (mounted_on store ≡ area) × StandsOn mounted_on stands new store × same
OtherEnds mounted_on stands new area same (Err (IsDamaged place shown)) = ⊥
OtherEnds mounted_on stands new area same (Err (Unfit place)) = ⊥
OtherEnds mounted_on stands new area same (Err PowerLost) = ⊤
OtherEnds mounted_on stands new area same (Err NoMemory) = ⊤

module _ (damage : Area → Geometry → List (List ℕ) → Option Damaged)
    (contents : Area → Geometry → List (List ℕ) → Map) where
  -- The area has the settings that it had, and is not damaged.
  pub record KeepsArea (old new : Device) (area : Area) : Type 0 where
    pub undamaged : on damage new area ≡ None
    pub reads : on contents new area ≡ on contents old area

  module _ {S : Type 0} (mounted_on : S → Area) (stands : S → Geometry → List (List ℕ) → Type 0)
      (room : Area → Geometry → Room) (prices : Area → Geometry → Prices) where
    -- Both stores are up on these areas and hold the map of the trusted one, which was not damaged.
    pub record MountsBoth (areas : List Area) (old new : Device) (trusted other : Area) (place : ℕ)
        (mirror : Mirror S) : Type 0 where
      pub sound : on damage old trusted ≡ None
      pub trusted_is : mirror.trusted.area ≡ trusted
      pub trusted_at : mirror.trusted.place ≡ place
      pub other_is : mirror.other.area ≡ other
      pub other_at : mirror.other.place ≡ other_place areas place
      pub kept : KeepsArea old new trusted
      pub mirrors : IsMirror mounted_on stands contents room prices new mirror.trusted mirror.other

  -- Settings do not fit both areas. The other one is untouched.
  pub record FindsUnfit (room : Area → Geometry → Room) (prices : Area → Geometry → Prices)
      (areas : List Area) (old new : Device) (trusted other : Area) (place unfit : ℕ) : Type 0 where
    pub sound : on damage old trusted ≡ None
    pub kept : KeepsArea old new trusted
    pub untouched : sectors_of new other ≡ sectors_of old other
    pub unfits : UnfitAt room prices areas old place (other_place areas place) (on contents old trusted) unfit

  -- Power was lost in the trusted area while it was mounted, and the other one is untouched; or it
  -- was lost later, in the other one, and the map fits both.
  abbrev pub StopsIn : (Area → Geometry → Room) → (Area → Geometry → Prices) → List Area → Device → Device
      → Area → Area → ℕ → Type 0
  StopsIn room prices areas old new trusted other place =
      Touches (trusted ∷ []) old new true
      ⊎
      (FitsAt room prices areas old place (on contents old trusted)
      × FitsAt room prices areas old (other_place areas place) (on contents old trusted))

  -- What a mount of both areas keeps, however it ends. The trusted one keeps its settings, and is not
  -- formatted. If the other one holds the same map, it is neither repaired nor formatted.
  pub record SparesBoth (rests : Area → Geometry → List (List ℕ) → Type 0) (old new : Device)
      (trusted other : Area) : Type 0 where
    pub bytes : KeepsBytes rests old new trusted
    pub kept : on damage old trusted ≡ None → KeepsArea old new trusted
    pub held :
        on damage old trusted ≡ None → HoldsMap damage contents old other (on contents old trusted)
        → KeepsCopy damage contents rests old new other (on contents old trusted)
        (both_mounts old trusted other)

-- how the mount of both areas ends; the one at this place is trusted
abbrev pub BothEnds : {S : Type 0} → (S → Area) → (S → Geometry → List (List ℕ) → Type 0)
    → (Area → Geometry → List (List ℕ) → Option Damaged) → (Area → Geometry → List (List ℕ) → Map)
    → (Area → Geometry → Room) → (Area → Geometry → Prices) → List Area → Device → Device → Area → Area → ℕ
    → Result (Mirror S) MirrorMount → Type 0
BothEnds mounted_on stands damage contents room prices areas old new trusted other place (Ok mirror) =
    MountsBoth damage contents mounted_on stands room prices areas old new trusted other place mirror
BothEnds mounted_on stands damage contents room prices areas old new trusted other place
    (Err (IsDamaged at shown)) =
    (at ≡ place) × (on damage old trusted ≡ Some shown) × (new ≡ old)
BothEnds mounted_on stands damage contents room prices areas old new trusted other place (Err (Unfit unfit)) =
    FindsUnfit damage contents room prices areas old new trusted other place unfit
BothEnds mounted_on stands damage contents room prices areas old new trusted other place (Err PowerLost) =
    (on damage old trusted ≡ None) × KeepsArea damage contents old new trusted
    × StopsIn damage contents room prices areas old new trusted other place
BothEnds mounted_on stands damage contents room prices areas old new trusted other place (Err NoMemory) =
    (on damage old trusted ≡ None → KeepsArea damage contents old new trusted)
    × ((shown : Damaged) → on damage old trusted ≡ Some shown → new ≡ old)

-- ---- the mount

-- these are the trusted area of the map and the other one
pub record ArePlaced (areas : List Area) (d : Device) (trusted other : Area) : Type 0 where
  pub trusted_there : slice_get areas (trusted_on areas d) ≡ Some trusted
  pub other_there : slice_get areas (other_place areas (trusted_on areas d)) ≡ Some other

module _ (damage : Area → Geometry → List (List ℕ) → Option Damaged)
    (contents : Area → Geometry → List (List ℕ) → Map) where
  -- The selector names the trusted area, which has the settings that it had; neither is damaged.
  pub record KeepsTrusted (areas : List Area) (old new : Device) (trusted : Area) : Type 0 where
    pub sound : selector_damage_on areas new ≡ None
    pub active : active_on areas new ≡ trusted_on areas old
    pub kept : KeepsArea damage contents old new trusted

  module _ {S : Type 0} (mounted_on : S → Area) (stands : S → Geometry → List (List ℕ) → Type 0)
      (room : Area → Geometry → Room) (prices : Area → Geometry → Prices) where
    -- Both stores are up and hold the map of the trusted area. Neither that area nor the
    -- selector was damaged.
    pub record IsMounted (areas : List Area) (old new : Device) (mirror : Mirror S) : Type 0 where
      pub undamaged : damage_shown damage areas old ≡ None
      pub placed : ArePlaced areas old mirror.trusted.area mirror.other.area
      pub trusted_at : mirror.trusted.place ≡ trusted_on areas old
      pub other_at : mirror.other.place ≡ other_place areas (trusted_on areas old)
      pub kept : KeepsTrusted areas old new mirror.trusted.area
      pub rests : SelectorRests areas new
      pub mirrors : IsMirror mounted_on stands contents room prices new mirror.trusted mirror.other

  -- The map of the trusted area does not fit the area at the lower place; or it fits that one, and
  -- not the one at the higher place. The other area is untouched.
  pub record IsUnfit (room : Area → Geometry → Room) (prices : Area → Geometry → Prices) (areas : List Area)
      (old new : Device) (unfit : ℕ) : Type 0 where
    pub undamaged : damage_shown damage areas old ≡ None
    pub trusted : Area
    pub other : Area
    pub placed : ArePlaced areas old trusted other
    pub kept : KeepsTrusted areas old new trusted
    pub untouched : sectors_of new other ≡ sectors_of old other
    pub unfits : UnfitAt room prices areas old (trusted_on areas old)
        (other_place areas (trusted_on areas old)) (on contents old trusted) unfit

  -- The selector or the trusted area is damaged. No byte of a store area changed. The map
  -- trusts the same area and shows the same damage. The selector names the area that it named,
  -- or the trusted one.
  pub record FindsDamage (areas : List Area) (selector : Area) (old new : Device) (place : ℕ)
      (shown : Damaged) : Type 0 where
    pub is_shown : damage_shown damage areas old ≡ Some (place, shown)
    pub still_shown : damage_shown damage areas new ≡ Some (place, shown)
    pub trusted : trusted_on areas new ≡ trusted_on areas old
    pub active : (active_on areas new ≡ active_on areas old) ⊎ (active_on areas new ≡ trusted_on areas old)
    pub touches : Touches (selector ∷ []) old new false
    pub unchanged : (found : Damaged) → selector_damage_on areas old ≡ Some found → new ≡ old

  -- Power was lost after the selector's mount, in the trusted area, which was undamaged and keeps
  -- its settings. The other one is untouched.
  pub record StopsInTrusted (areas : List Area) (selector : Area) (old new : Device) : Type 0 where
    pub trusted : Area
    pub there : slice_get areas (trusted_on areas old) ≡ Some trusted
    pub undamaged : on damage old trusted ≡ None
    pub kept : KeepsTrusted areas old new trusted
    pub touches : Touches (selector ∷ trusted ∷ []) old new true

  -- Power was lost later still, in the other area, while it was mounted or repaired: the
  -- map fits both.
  pub record StopsInOther (room : Area → Geometry → Room) (prices : Area → Geometry → Prices)
      (areas : List Area) (old new : Device) : Type 0 where
    pub trusted : Area
    pub there : slice_get areas (trusted_on areas old) ≡ Some trusted
    pub undamaged : on damage old trusted ≡ None
    pub kept : KeepsTrusted areas old new trusted
    pub fits : FitsAt room prices areas old (trusted_on areas old) (on contents old trusted)
    pub other_fits : FitsAt room prices areas old (other_place areas (trusted_on areas old))
        (on contents old trusted)

  -- Power was lost: while the selector was mounted or named the trusted area; or later, in the
  -- trusted area; or later still, in the other one.
  pub record IsCutMount (room : Area → Geometry → Room) (prices : Area → Geometry → Prices)
      (areas : List Area) (selector : Area) (old new : Device) : Type 0 where
    pub trust : IsCutTrust areas old new
    pub later :
        Touches (selector ∷ []) old new true
        ⊎ StopsInTrusted areas selector old new
        ⊎ StopsInOther room prices areas old new

  -- There was not enough memory. If the trusted area was undamaged, it keeps its settings; a damaged
  -- one stays as it was, as in a mount that finds its damage.
  pub record LacksMemory (areas : List Area) (selector : Area) (old new : Device) : Type 0 where
    pub sound : selector_damage_on areas old ≡ None
    pub kept : (trusted : Area) → slice_get areas (trusted_on areas old) ≡ Some trusted
        → on damage old trusted ≡ None → KeepsTrusted areas old new trusted
    pub damaged : (place : ℕ) (shown : Damaged) → damage_shown damage areas old ≡ Some (place, shown)
        → FindsDamage areas selector old new place shown

-- how a mount ends
abbrev pub MirrorMounts : {S : Type 0} → (S → Area) → (S → Geometry → List (List ℕ) → Type 0)
    → (Area → Geometry → List (List ℕ) → Option Damaged) → (Area → Geometry → List (List ℕ) → Map)
    → (Area → Geometry → Room) → (Area → Geometry → Prices) → List Area → Area → Device → Device
    → Result (Mirror S) MirrorMount → Type 0
MirrorMounts mounted_on stands damage contents room prices areas selector old new (Ok mirror) =
    IsMounted damage contents mounted_on stands room prices areas old new mirror
MirrorMounts mounted_on stands damage contents room prices areas selector old new
    (Err (IsDamaged place shown)) =
    FindsDamage damage contents areas selector old new place shown
MirrorMounts mounted_on stands damage contents room prices areas selector old new (Err (Unfit place)) =
    IsUnfit damage contents room prices areas old new place
MirrorMounts mounted_on stands damage contents room prices areas selector old new (Err PowerLost) =
    IsCutMount damage contents room prices areas selector old new
MirrorMounts mounted_on stands damage contents room prices areas selector old new (Err NoMemory) =
    LacksMemory damage contents areas selector old new

-- A mount has nothing to do in the selector, which names the trusted area, nor in the two areas,
-- which hold one map.
pub record IsAtRest (damage : Area → Geometry → List (List ℕ) → Option Damaged)
    (contents : Area → Geometry → List (List ℕ) → Map) (rests : Area → Geometry → List (List ℕ) → Type 0)
    (areas : List Area) (d : Device) : Type 0 where
  pub selector : SelectorRests areas d
  pub named : active_on areas d ≡ trusted_on areas d
  pub trusted : Area
  pub other : Area
  pub placed : ArePlaced areas d trusted other
  pub trusted_rests : HoldsOn rests d trusted
  pub other_rests : HoldsOn rests d other
  pub same : HoldsMap damage contents d other (on contents d trusted)

-- ---- what it spends

-- the most units and erases of the mount and the repair of the other area, with so many names
abbrev pub other_units : Geometry → ℕ → ℕ
other_units geometry names = foreign_units geometry + fill_units geometry names

-- the most units and erases of the mount of both areas, if the map has so many names
abbrev pub both_units : Device → Area → Area → ℕ → ℕ
both_units d trusted other names =
    foreign_units (geometry_of d trusted) + other_units (geometry_of d other) names

-- the most units and erases of a mount of the selector that then names the trusted area
abbrev pub trust_units : Device → Area → ℕ
trust_units d selector = erases_on d selector + choice_units d selector

-- What a mount spares, however it ends. The selector gets no record that it does not need. The trusted
-- area is not formatted. An other area that is not damaged and holds the map of the trusted one is neither
-- repaired nor formatted: it holds the map afterwards, and the mount spends no more than the selector's
-- mount, one choice, and the mounts of both areas.
pub record SparesAreas (damage : Area → Geometry → List (List ℕ) → Option Damaged)
    (contents : Area → Geometry → List (List ℕ) → Map) (rests : Area → Geometry → List (List ℕ) → Type 0)
    (areas : List Area) (lost : Bool) (old new : Device) (selector trusted other : Area) : Type 0 where
  pub records : selector_damage_on areas old ≡ None → SparesRecords areas lost old new selector
  pub bytes : KeepsBytes rests old new trusted
  pub held :
      on damage old trusted ≡ None → HoldsMap damage contents old other (on contents old trusted)
      → KeepsCopy damage contents rests old new other (on contents old trusted)
      (trust_units old selector + both_mounts old trusted other)

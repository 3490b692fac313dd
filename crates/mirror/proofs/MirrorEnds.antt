-- How the commands of a mirror end, by how they ended on each side.
use Rattle.std.proofs.Common.{◌≡◌, ◌⊎◌, ℕ, ◌+◌, ◌<◌, ◌≤◌, Bool, true, false, ◌&&◌, List, [], ◌∷◌, length, Option, Some, None, Result, Ok, Err, is_err, refl, sym, ap, subst, ◌∙◌, inl, inr}
use Rattle.std.specs.FinMap.{insert, remove}
use Rattle.std.proofs.lemmas.Bool.{false≢true}
use Rattle.flash_sim.specs.Bank.{IsLawful}
use Rattle.flash_sim.specs.Device.{Device}
use Rattle.flash_sim.specs.declared.flash.Bank.{Bank}
use Rattle.flash_sim.specs.declared.flash.PowerLost.{PowerLost as Lost}
use Rattle.flash_map.specs.declared.area.Area.{Area}
use Rattle.flash_map.specs.declared.area.Geometry.{Geometry}
use Rattle.flash_map.specs.declared.faults.Damaged.{Damaged}
use Rattle.flash_map.specs.Area.{IsLawfulArea, geometry_of, sectors_of, value_limit}
use Rattle.flash_map.specs.On.{on, StandsOn}
use Rattle.flash_map.specs.Touches.{Touches}
use Rattle.flash_map.proofs.Apart.{same_apart}
use Rattle.flash_map.proofs.Touches.{untouched}
use Rattle.backend_api.specs.Ends.{SpendsSome, set_lost}
use Rattle.backend_api.specs.Map.{Map, IsAbsent, IsStored}
use Rattle.backend_api.specs.Room.{Room, HasNoRoom}
use Rattle.backend_api.specs.declared.backend.SetFault.{SetFault}
use Rattle.backend_api.specs.declared.backend.SetFault.TheVariants.{NoSpace, TooManyNames, PowerLost}
use Rattle.migrator.specs.Migrating.{room_on}
use Rattle.migrator.proofs.Copies.{geometry-same}
use Rattle.migrator.proofs.Moving.{still}
use Rattle.mirror.specs.declared.sides.Side.{Side}
use Rattle.mirror.specs.Mirrored.{BothHave, DeletesBoth, FitEither, HasRoom, IsCut, IsCutBoth, IsDone, IsMirror, LooksForBoth, MirrorDeletes, SameSide, SetsBoth, SideCommand, SideStands}
use Rattle.mirror.specs.Room.{FitsOn, IsRoomBy, Prices, prices_on, too_many_on}
use Rattle.mirror.proofs.BothSteps.{cut-first, cut-second, done-both, fits-still, mirrors-then, put-or-same, some-both}
use Rattle.mirror.proofs.CommandSteps.{side-still}
use Rattle.mirror.proofs.FitLemmas.{removed-fits}

pub refused-touches : {S : Type 0} (T : Type 0) (room : Area → Geometry → Room) (d : Device) (trusted other : Side S) (areas : List Area) (settings : Map) (name value : List ℕ) (fault : SetFault) → LooksForBoth {T = T} room d trusted other settings name value (Err fault) → Touches areas d d (set_lost {T = T} (Err fault))
refused-touches T room d trusted other areas settings name value TooManyNames looked = untouched areas d
refused-touches T room d trusted other areas settings name value (NoSpace need live) looked = untouched areas d
refused-touches T room d trusted other areas settings name value PowerLost looked = absurd looked

pub no-first : (a b : Bool) → a ≡ false → (a && b) ≡ false
no-first true b e = absurd (false≢true (sym e))
no-first false b e = refl

pub no-second : (a b : Bool) → b ≡ false → (a && b) ≡ false
no-second true b e = e
no-second false b e = refl

module _ {S : Type 0} (mounted : S → Area) (stands : S → Geometry → List (List ℕ) → Type 0) (damage : Area → Geometry → List (List ℕ) → Option Damaged) (contents : Area → Geometry → List (List ℕ) → Map) (room : Area → Geometry → Room) (prices : Area → Geometry → Prices)
    (d : Device) (t o : Side S) (is : IsMirror mounted stands contents room prices d t o) (lawful : IsLawful d.banks d.bytes) where
  -- the settings of both
  abbrev pub before : Map
  before = on contents d t.area

  pub beside : (m : Device) (lost : Bool) → IsLawful m.banks m.bytes → Touches (t.area ∷ []) d m lost → sectors_of m o.area ≡ sectors_of d o.area
  beside m lost after touches = same_apart {area = t.area} {other = o.area} {old = d} {new = m} {lost = lost} lawful after is.other_stands.lawful.in_bank is.apart touches

  pub back : (m e : Device) (lost : Bool) → IsLawful m.banks m.bytes → IsLawful e.banks e.bytes → m.banks ≡ d.banks → Touches (o.area ∷ []) m e lost → sectors_of e t.area ≡ sectors_of m t.area
  back m e lost mid after banks touches =
      same_apart {area = o.area} {other = t.area} {old = m} {new = e} {lost = lost} mid after (subst (λ (b : List Bank). IsLawfulArea b t.area) (sym banks) is.trusted_stands.lawful.in_bank) is.apart_too touches

  module _ (reads : (state : S) (geometry : Geometry) (sectors : List (List ℕ)) → stands state geometry sectors → damage (mounted state) geometry sectors ≡ None) where
    -- the other area is not damaged
    other-sound : on damage d o.area ≡ None
    other-sound = subst (λ (x : Area). on damage d x ≡ None) is.other_stands.here (reads o.store (geometry_of d (mounted o.store)) (sectors_of d (mounted o.store)) is.other_stands.up)

    pub first-cut : (m : Device) (nothing : Type 0) (after : Map) (lost : Bool) → IsLawful m.banks m.bytes → Touches (t.area ∷ []) d m lost → on damage m t.area ≡ None → IsCut contents d m t.area nothing after → IsCutBoth damage contents m t.area o.area before after
    first-cut m nothing after lost mid touches sound cut = cut-first damage contents d m t.area o.area nothing after touches.banks (beside m lost mid touches) is.same other-sound sound cut

  -- the settings of before fit both areas, and so do the new ones
  pub fit-either : (e : Device) (after : Map) → e.banks ≡ d.banks → FitsOn room prices d t.area after → FitsOn room prices d o.area after → FitEither room prices e t.area o.area before after
  fit-either e after banks here there = (
    record {
      trusted_fits = fits-still mounted stands contents room prices d e t.area before before banks refl is.trusted_fits;
      other_fits = fits-still mounted stands contents room prices d e o.area before before banks refl is.other_fits;
    },
    record {
      trusted_fits = fits-still mounted stands contents room prices d e t.area after after banks refl here;
      other_fits = fits-still mounted stands contents room prices d e o.area after after banks refl there;
    },
  )

  module _ (tr : IsRoomBy (room_on room d t.area) (prices_on prices d t.area)) (or : IsRoomBy (room_on room d o.area) (prices_on prices d o.area)) where
    pub put-fits : (e : Device) (name value : List ℕ) → e.banks ≡ d.banks → HasRoom room d t.area o.area before name value → FitEither room prices e t.area o.area before (insert before name value)
    put-fits e name value banks has =
        fit-either e (insert before name value) banks
        (put-or-same (room_on room d t.area) (prices_on prices d t.area) t.area.sectors (value_limit t.area) before name value tr is.trusted_fits has.few.trusted_few has.trusted_room)
        (put-or-same (room_on room d o.area) (prices_on prices d o.area) o.area.sectors (value_limit o.area) before name value or is.other_fits has.few.other_few has.other_room)

    pub removed-fit : (e : Device) (name : List ℕ) → e.banks ≡ d.banks → FitEither room prices e t.area o.area before (remove before name)
    removed-fit e name banks =
        fit-either e (remove before name) banks
        (removed-fits (room_on room d t.area) (prices_on prices d t.area) tr t.area.sectors (value_limit t.area) before is.trusted_fits name)
        (removed-fits (room_on room d o.area) (prices_on prices d o.area) or o.area.sectors (value_limit o.area) before is.other_fits name)

  -- the other side behind the command on the trusted one
  pub other-stands : (m : Device) (lost : Bool) → IsLawful m.banks m.bytes → Touches (t.area ∷ []) d m lost → SideStands mounted stands m o
  other-stands m lost mid touches = side-still mounted stands contents room d m o touches.banks (beside m lost mid touches) is.other_stands

  pub other-has : (m : Device) (lost : Bool) → IsLawful m.banks m.bytes → Touches (t.area ∷ []) d m lost → on contents m o.area ≡ before
  other-has m lost mid touches = still contents d m o.area touches.banks (beside m lost mid touches) ∙ is.same

  pub few-then : (m : Device) (lost : Bool) (name : List ℕ) → IsLawful m.banks m.bytes → Touches (t.area ∷ []) d m lost → too_many_on room d o.area before name ≡ false → too_many_on room m o.area (on contents m o.area) name ≡ false
  few-then m lost name mid touches few =
      ap (λ (x : Map). too_many_on room m o.area x name) (other-has m lost mid touches)
      ∙ ap (λ (g : Geometry). (room o.area g).too_many before name) (geometry-same d m o.area touches.banks) ∙ few

  pub room-then : (m : Device) (lost : Bool) (name value : List ℕ) → IsLawful m.banks m.bytes → Touches (t.area ∷ []) d m lost
      → (¬ IsStored before name value → ¬ HasNoRoom (room_on room d o.area) o.area.sectors before name value)
      → ¬ IsStored (on contents m o.area) name value → ¬ HasNoRoom (room_on room m o.area) o.area.sectors (on contents m o.area) name value
  room-then m lost name value mid touches free =
      subst (λ (x : Map). ¬ IsStored x name value → ¬ HasNoRoom (room_on room m o.area) o.area.sectors x name value) (sym (other-has m lost mid touches))
      (subst (λ (g : Geometry). ¬ IsStored before name value → ¬ HasNoRoom (room o.area g) o.area.sectors before name value) (sym (geometry-same d m o.area touches.banks)) free)

  module _ (m e : Device) (lost : Bool) (mid : IsLawful m.banks m.bytes) (end : IsLawful e.banks e.bytes) (first : Touches (t.area ∷ []) d m false) (second : Touches (o.area ∷ []) m e lost)
      (nothing : Map → Type 0) (after : Map → Map) (one : IsDone contents d m t.area (nothing (on contents d t.area)) (after (on contents d t.area))) where
    was : on contents m o.area ≡ before
    was = other-has m false mid first

    there : sectors_of e t.area ≡ sectors_of m t.area
    there = back m e lost mid end first.banks second

    pub both-have : IsDone contents m e o.area (nothing (on contents m o.area)) (after (on contents m o.area)) → BothHave contents e t.area o.area (after before)
    both-have two = done-both damage contents d m e t.area o.area (nothing before) nothing after first.banks second.banks (beside m false mid first) there is.same one two

    pub both-idle : IsDone contents m e o.area (nothing (on contents m o.area)) (after (on contents m o.area)) → nothing before → e ≡ d
    both-idle two none = two.idle (subst nothing (sym was) none) ∙ one.idle none

    pub both-spend : IsDone contents m e o.area (nothing (on contents m o.area)) (after (on contents m o.area)) → ¬ nothing before → SpendsSome d e
    both-spend two some = some-both d m e (one.spends some) (two.spends (λ none. some (subst nothing was none)))

    pub both-cut : on damage m t.area ≡ None → on damage e o.area ≡ None → IsCut contents m e o.area (nothing (on contents m o.area)) (after (on contents m o.area)) → IsCutBoth damage contents e t.area o.area before (after before)
    both-cut sound other cut = cut-second damage contents d m e t.area o.area (nothing before) nothing after first.banks second.banks (beside m false mid first) there is.same sound other one cut

    -- the mirror behind both
    pub both-mirror : (t' o' : Side S) → SameSide t t' → SameSide o o' → SideStands mounted stands m t' → SideStands mounted stands e o' → BothHave contents e t.area o.area (after before)
        → FitsOn room prices d t.area (after before) → FitsOn room prices d o.area (after before) → IsMirror mounted stands contents room prices e t' o'
    both-mirror t' o' st so ts os have tf of =
        mirrors-then mounted stands contents room prices d e t o t' o' (after before) is st so (second.banks ∙ first.banks)
        (side-still mounted stands contents room m e t' second.banks (subst (λ (x : Area). sectors_of e x ≡ sectors_of m x) (sym st.area) there) ts) os have.trusted_has have.other_has tf of

  -- ---- deletes

  pub delete-ends : (m e : Device) (lost : Bool) (name : List ℕ) (r : Result (Unit {0}) Lost) → IsLawful m.banks m.bytes → IsLawful e.banks e.bytes → Touches (t.area ∷ []) d m false → Touches (o.area ∷ []) m e lost
      → IsDone contents d m t.area (IsAbsent (on contents d t.area) name) (remove (on contents d t.area) name) → on damage m t.area ≡ None → on damage e o.area ≡ None
      → IsRoomBy (room_on room d t.area) (prices_on prices d t.area) → IsRoomBy (room_on room d o.area) (prices_on prices d o.area)
      → SideCommand contents m e o.area (IsAbsent (on contents m o.area) name) (remove (on contents m o.area) name) r → MirrorDeletes damage contents room prices d e t o name r
  delete-ends m e lost name (Ok x) mid end first second one sound other tr or two = record {
    settings = both-have m e lost mid end first second (λ (x : Map). IsAbsent x name) (λ (x : Map). remove x name) one two;
    absent = both-idle m e lost mid end first second (λ (x : Map). IsAbsent x name) (λ (x : Map). remove x name) one two;
    spends = both-spend m e lost mid end first second (λ (x : Map). IsAbsent x name) (λ (x : Map). remove x name) one two;
  }
  delete-ends m e lost name (Err x) mid end first second one sound other tr or cut = (
    λ none. cut.some (subst (λ (x : Map). IsAbsent x name) (sym (other-has m false mid first)) none),
    both-cut m e lost mid end first second (λ (x : Map). IsAbsent x name) (λ (x : Map). remove x name) one sound other cut,
    removed-fit tr or e name (second.banks ∙ first.banks),
  )

  pub delete-mirror : (m e : Device) (lost : Bool) (name : List ℕ) (r : Result (Unit {0}) Lost) (t' o' : Side S) → IsLawful m.banks m.bytes → IsLawful e.banks e.bytes → Touches (t.area ∷ []) d m false → Touches (o.area ∷ []) m e lost
      → IsDone contents d m t.area (IsAbsent (on contents d t.area) name) (remove (on contents d t.area) name)
      → SideCommand contents m e o.area (IsAbsent (on contents m o.area) name) (remove (on contents m o.area) name) r → is_err r ≡ false
      → SameSide t t' → SameSide o o' → SideStands mounted stands m t' → SideStands mounted stands e o'
      → IsRoomBy (room_on room d t.area) (prices_on prices d t.area) → IsRoomBy (room_on room d o.area) (prices_on prices d o.area) → IsMirror mounted stands contents room prices e t' o'
  delete-mirror m e lost name (Ok x) t' o' mid end first second one two whole st so ts os tr or =
      both-mirror m e lost mid end first second (λ (x : Map). IsAbsent x name) (λ (x : Map). remove x name) one t' o' st so ts os
      (both-have m e lost mid end first second (λ (x : Map). IsAbsent x name) (λ (x : Map). remove x name) one two)
      (removed-fits (room_on room d t.area) (prices_on prices d t.area) tr t.area.sectors (value_limit t.area) before is.trusted_fits name)
      (removed-fits (room_on room d o.area) (prices_on prices d o.area) or o.area.sectors (value_limit o.area) before is.other_fits name)
  delete-mirror m e lost name (Err x) t' o' mid end first second one two whole st so ts os tr or = absurd (false≢true (sym whole))

  -- ---- sets

  pub set-done : (m e : Device) (lost : Bool) (name value : List ℕ) → IsLawful m.banks m.bytes → IsLawful e.banks e.bytes → Touches (t.area ∷ []) d m false → Touches (o.area ∷ []) m e lost
      → IsDone contents d m t.area (IsStored (on contents d t.area) name value) (insert (on contents d t.area) name value)
      → IsDone contents m e o.area (IsStored (on contents m o.area) name value) (insert (on contents m o.area) name value) → SetsBoth contents d e t.area o.area name value
  set-done m e lost name value mid end first second one two = record {
    settings = both-have m e lost mid end first second (λ (x : Map). IsStored x name value) (λ (x : Map). insert x name value) one two;
    same = both-idle m e lost mid end first second (λ (x : Map). IsStored x name value) (λ (x : Map). insert x name value) one two;
    spends = both-spend m e lost mid end first second (λ (x : Map). IsStored x name value) (λ (x : Map). insert x name value) one two;
  }

  pub set-cut : (m e : Device) (lost : Bool) (name value : List ℕ) → IsLawful m.banks m.bytes → IsLawful e.banks e.bytes → Touches (t.area ∷ []) d m false → Touches (o.area ∷ []) m e lost
      → IsDone contents d m t.area (IsStored (on contents d t.area) name value) (insert (on contents d t.area) name value) → on damage m t.area ≡ None → on damage e o.area ≡ None
      → IsCut contents m e o.area (IsStored (on contents m o.area) name value) (insert (on contents m o.area) name value)
      → (¬ IsStored before name value) × IsCutBoth damage contents e t.area o.area before (insert before name value)
  set-cut m e lost name value mid end first second one sound other cut = (
    λ stored. cut.some (subst (λ (x : Map). IsStored x name value) (sym (other-has m false mid first)) stored),
    both-cut m e lost mid end first second (λ (x : Map). IsStored x name value) (λ (x : Map). insert x name value) one sound other cut,
  )

  pub set-mirror : (m e : Device) (lost : Bool) (name value : List ℕ) (t' o' : Side S) → IsLawful m.banks m.bytes → IsLawful e.banks e.bytes → Touches (t.area ∷ []) d m false → Touches (o.area ∷ []) m e lost
      → IsDone contents d m t.area (IsStored (on contents d t.area) name value) (insert (on contents d t.area) name value)
      → IsDone contents m e o.area (IsStored (on contents m o.area) name value) (insert (on contents m o.area) name value)
      → SameSide t t' → SameSide o o' → SideStands mounted stands m t' → SideStands mounted stands e o' → HasRoom room d t.area o.area before name value
      → IsRoomBy (room_on room d t.area) (prices_on prices d t.area) → IsRoomBy (room_on room d o.area) (prices_on prices d o.area) → IsMirror mounted stands contents room prices e t' o'
  set-mirror m e lost name value t' o' mid end first second one two st so ts os has tr or =
      both-mirror m e lost mid end first second (λ (x : Map). IsStored x name value) (λ (x : Map). insert x name value) one t' o' st so ts os
      (both-have m e lost mid end first second (λ (x : Map). IsStored x name value) (λ (x : Map). insert x name value) one two)
      (put-or-same (room_on room d t.area) (prices_on prices d t.area) t.area.sectors (value_limit t.area) before name value tr is.trusted_fits has.few.trusted_few has.trusted_room)
      (put-or-same (room_on room d o.area) (prices_on prices d o.area) o.area.sectors (value_limit o.area) before name value or is.other_fits has.few.other_few has.other_room)

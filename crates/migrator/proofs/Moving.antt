-- Filling an area with all settings, and making it the active one.
use Rattle.std.proofs.Common.{◌≡◌, ℕ, Bool, true, false, List, [], ◌∷◌, Option, None, Result, Ok, Err, is_err, refl, sym, ap, subst, ◌∙◌, inl, inr}
use Rattle.std.specs.Prelude.{IfOk, OnOk}
use Rattle.std.proofs.lemmas.Bool.{false≢true}
use Rattle.flash_sim.specs.Bank.{IsLawful}
use Rattle.flash_sim.specs.Device.{Device}
use Rattle.flash_sim.specs.declared.flash.Bank.{Bank}
use Rattle.flash_sim.specs.declared.flash.PowerLost.{PowerLost as Lost}
use Rattle.flash_map.specs.declared.area.Area.{Area}
use Rattle.flash_map.specs.declared.area.Geometry.{Geometry}
use Rattle.flash_map.specs.declared.faults.Damaged.{Damaged}
use Rattle.flash_map.specs.Area.{sectors_of, geometry_of}
use Rattle.flash_map.specs.Touches.{Touches}
use Rattle.flash_map.proofs.Touches.{then}
use Rattle.fcb_ring.specs.declared.ring.Ring.{Ring}
use Rattle.fcb_ring.specs.Standing.{IsRingArea, Stands, is_up, ring_damage}
use Rattle.backend_api.specs.Ends.{set_lost}
use Rattle.backend_api.specs.Map.{Map}
use Rattle.flash_map.specs.On.{on, HoldsOn, StandsOn}
use Rattle.backend_api.specs.Room.{Room}
use Rattle.backend_api.specs.declared.backend.SetFault.{SetFault}
use Rattle.backend_api.specs.declared.backend.SetFault.TheVariants.{NoSpace as NoPlace, TooManyNames as OneTooMany, PowerLost as CopyLost}
use Rattle.migrator.specs.declared.migrating.MigrateFault.{MigrateFault}
use Rattle.migrator.specs.declared.migrating.MigrateFault.TheVariants.{NoTarget, NoSpace, TooManyNames, PowerLost, NoMemory}
use Rattle.migrator.specs.Active.{active_in, active_by}
use Rattle.migrator.specs.Choosing.{IsOpen, ChooseEnds, Chooses}
use Rattle.migrator.specs.Copying.{NoneTooMany, CopyEnds}
use Rattle.migrator.specs.Migrating.{ActiveRests, migrate_lost, is_refused, filled_as, moved_as, OpenEnds, Fills, FillEnds, FillsAndChooses, MoveEnds, StaysActive}
use Rattle.migrator.proofs.Collecting.{kept-itself}
use Rattle.migrator.proofs.Copies.{geometry-same}

-- ---- filling

pub filled-lost : {T : Type 0} (to : T) (copied : Result (Unit {0}) SetFault) → set_lost copied ≡ migrate_lost (filled_as to copied)
filled-lost to (Ok x) = refl
filled-lost to (Err (NoPlace need live)) = refl
filled-lost to (Err OneTooMany) = refl
filled-lost to (Err CopyLost) = refl

filled-ends : {T : Type 0} (to : T) (room : Room) (sectors : ℕ) (settings copy : Map) (copied : Result (Unit {0}) SetFault) → CopyEnds room sectors settings copy copied → FillEnds room sectors settings copy (filled_as to copied)
filled-ends to room sectors settings copy (Ok x) ends = ends
filled-ends to room sectors settings copy (Err (NoPlace need live)) ends = ends
filled-ends to room sectors settings copy (Err OneTooMany) ends = ends
filled-ends to room sectors settings copy (Err CopyLost) ends = tt

-- the area was not opened
pub blank-ends : (T : Type 0) (room : Room) (sectors : ℕ) (settings copy : Map) (fault : MigrateFault) → OpenEnds {T = T} copy (Err fault) → FillEnds {T = T} room sectors settings copy (Err fault)
blank-ends T room sectors settings copy NoTarget ends = ends
blank-ends T room sectors settings copy TooManyNames ends = absurd ends
blank-ends T room sectors settings copy (NoSpace need live) ends = absurd ends
blank-ends T room sectors settings copy PowerLost ends = tt
blank-ends T room sectors settings copy NoMemory ends = tt

-- what holds of the store unless power was lost
pub filled-if : {T : Type 0} (P : T → Type 0) (to : T) (copied : Result (Unit {0}) SetFault) (result : Result T MigrateFault) → result ≡ filled_as to copied → (set_lost copied ≡ false → P to) → IfOk result P
filled-if {T} P to copied result is kept = subst (λ (r : Result T MigrateFault). IfOk r P) (sym is) (at copied kept)
  where
    at : (r : Result (Unit {0}) SetFault) → (set_lost r ≡ false → P to) → IfOk (filled_as to r) P
    at (Ok x) kept = kept refl
    at (Err (NoPlace need live)) kept = tt
    at (Err OneTooMany) kept = tt
    at (Err CopyLost) kept = tt

module _ {S : Type 0} (mounted : S → Area) (contents : Area → Geometry → List (List ℕ) → Map) (room : Area → Geometry → Room) where
  -- an area was opened, and then these settings were put into it
  pub fill-ends : (a b e : Device) (area : Area) (settings : Map) (to after : S) (copied : Result (Unit {0}) SetFault) (result : Result S MigrateFault) → b.banks ≡ a.banks → mounted to ≡ area
      → CopyEnds (room (mounted to) (geometry_of b (mounted to))) (mounted to).sectors settings (on contents e (mounted to)) copied → result ≡ filled_as after copied
      → FillEnds (room area (geometry_of a area)) area.sectors settings (on contents e area) result
  fill-ends a b e area settings to after copied result banks is ends result-is =
      let first : CopyEnds (room area (geometry_of b area)) area.sectors settings (on contents e area) copied =
      subst (λ (x : Area). CopyEnds (room x (geometry_of b x)) x.sectors settings (on contents e x) copied) is ends in
      let second : CopyEnds (room area (geometry_of a area)) area.sectors settings (on contents e area) copied =
      subst (λ (g : Geometry). CopyEnds (room area g) area.sectors settings (on contents e area) copied) (geometry-same a b area banks) first in
      subst (λ (r : Result S MigrateFault). FillEnds (room area (geometry_of a area)) area.sectors settings (on contents e area) r) (sym result-is)
      (filled-ends after (room area (geometry_of a area)) area.sectors settings (on contents e area) copied second)

  pub fill-touches : (a b e : Device) (area : Area) (to after : S) (copied : Result (Unit {0}) SetFault) (result : Result S MigrateFault) → mounted to ≡ area → Touches (area ∷ []) a b false → Touches (mounted to ∷ []) b e (set_lost copied) → result ≡ filled_as after copied
      → Touches (area ∷ []) a e (migrate_lost result)
  fill-touches a b e area to after copied result is first second result-is =
      subst (λ (lost : Bool). Touches (area ∷ []) a e lost) (filled-lost after copied ∙ ap migrate_lost (sym result-is))
      (then first (subst (λ (x : Area). Touches (x ∷ []) b e (set_lost copied)) is second))

-- ---- a selector whose area another call does not touch

unit-still : (a b : Device) (area : Area) → b.banks ≡ a.banks → (geometry_of b area).unit ≡ (geometry_of a area).unit
unit-still a b area banks = ap (λ (g : Geometry). g.unit) (geometry-same a b area banks)

pub open-still : (a b : Device) (ring : Ring) → b.banks ≡ a.banks → sectors_of b ring.area ≡ sectors_of a ring.area → IsOpen a ring → IsOpen b ring
open-still a b ring banks same is = record {
  stands = record {
    area = subst (λ (x : List Bank). IsRingArea x ring.area) (sym banks) is.stands.area;
    sectors =
        subst (λ (u : ℕ). Stands u (sectors_of b ring.area) ring) (sym (unit-still a b ring.area banks))
        (subst (λ (s : List (List ℕ)). Stands (geometry_of a ring.area).unit s ring) (sym same) is.stands.sectors);
  };
  ready = is.ready;
  reserve = is.reserve;
}

pub active-still : (areas : List Area) (a b : Device) (area : Area) → b.banks ≡ a.banks → sectors_of b area ≡ sectors_of a area → active_in areas b area ≡ active_in areas a area
active-still areas a b area banks same =
    ap (λ (g : Geometry). active_by areas g (sectors_of b area)) (geometry-same a b area banks) ∙ ap (active_by areas (geometry_of a area)) same

pub open-sound : (d : Device) (ring : Ring) → IsLawful d.banks d.bytes → IsOpen d ring → ring_damage d ring.area ≡ None
open-sound d ring lawful is = (kept-itself d ring lawful is.stands).undamaged

-- ---- the record that names the area

pub moved-lost : {T : Type 0} (moved : T) (chosen : Result (Unit {0}) Lost) → is_err chosen ≡ migrate_lost (moved_as moved chosen)
moved-lost moved (Ok x) = refl
moved-lost moved (Err lost) = refl

pub fault-lost : (T U : Type 0) (fault : MigrateFault) → migrate_lost {T = T} (Err fault) ≡ migrate_lost {T = U} (Err fault)
fault-lost T U NoTarget = refl
fault-lost T U (NoSpace need live) = refl
fault-lost T U TooManyNames = refl
fault-lost T U PowerLost = refl
fault-lost T U NoMemory = refl

pub chosen-sound : (areas : List Area) (b e : Device) (before after : Ring) (index : ℕ) (chosen : Result (Unit {0}) Lost) → IsLawful e.banks e.bytes → after.area ≡ before.area → ChooseEnds areas b e before after index chosen → ring_damage e before.area ≡ None
chosen-sound areas b e before after index (Ok x) lawful area ends = sym (ap (ring_damage e) area) ∙ open-sound e after lawful ends.0
chosen-sound areas b e before after index (Err lost) lawful area ends = ends.1

pub chosen-open : {T : Type 0} (areas : List Area) (b e : Device) (before after : Ring) (index : ℕ) (moved : T) (chosen : Result (Unit {0}) Lost) (result : Result T MigrateFault) → ChooseEnds areas b e before after index chosen → result ≡ moved_as moved chosen → migrate_lost result ≡ false → IsOpen e after
chosen-open areas b e before after index moved chosen result ends is kept = at chosen ends (ap migrate_lost (sym is) ∙ kept)
  where
    at : (r : Result (Unit {0}) Lost) → ChooseEnds areas b e before after index r → migrate_lost (moved_as moved r) ≡ false → IsOpen e after
    at (Ok x) ends kept = ends.0
    at (Err lost) ends kept = absurd (false≢true (sym kept))

-- where power was lost in the choice, the ring is down
pub chosen-down : {T : Type 0} (areas : List Area) (b e : Device) (before after : Ring) (index : ℕ) (moved : T) (chosen : Result (Unit {0}) Lost) (result : Result T MigrateFault) → ChooseEnds areas b e before after index chosen → result ≡ moved_as moved chosen → migrate_lost result ≡ true → is_up after.stage ≡ false
chosen-down areas b e before after index moved chosen result ends is lost = at chosen ends (ap migrate_lost (sym is) ∙ lost)
  where
    at : (r : Result (Unit {0}) Lost) → ChooseEnds areas b e before after index r → migrate_lost (moved_as moved r) ≡ true → is_up after.stage ≡ false
    at (Ok x) ends lost = absurd (false≢true lost)
    at (Err cut) ends lost = ends.2

-- a choice is done or cut, but not refused
pub chosen-or-cut : {T : Type 0} (moved : T) (chosen : Result (Unit {0}) Lost) (result : Result T MigrateFault) → result ≡ moved_as moved chosen → is_refused result ≡ false
chosen-or-cut {T} moved chosen result is = ap is_refused is ∙ at chosen
  where
    at : (r : Result (Unit {0}) Lost) → is_refused (moved_as moved r) ≡ false
    at (Ok x) = refl
    at (Err lost) = refl

-- the area was filled, and then chosen
pub filled-chosen : {T : Type 0} (areas : List Area) (a b e : Device) (ring : Ring) (area : Area) (index names : ℕ) (moved : T) (chosen : Result (Unit {0}) Lost) (result : Result T MigrateFault) → b.banks ≡ a.banks → sectors_of b ring.area ≡ sectors_of a ring.area
    → Fills a b area names → OnOk chosen (Chooses areas b e ring index) → result ≡ moved_as moved chosen
    → OnOk result (FillsAndChooses areas a e ring area index names)
filled-chosen {T} areas a b e ring area index names moved chosen result banks same filled chooses is =
    subst (λ (r : Result T MigrateFault). OnOk r (FillsAndChooses areas a e ring area index names)) (sym is) (at chosen chooses)
  where
    at : (r : Result (Unit {0}) Lost) → OnOk r (Chooses areas b e ring index) → OnOk (moved_as moved r) (FillsAndChooses areas a e ring area index names)
    at (Ok x) chooses = record { mid = b; banks = banks; filled = filled; selector = same; chosen = chooses }
    at (Err lost) chooses = tt

-- the area rests, and may be the active one now
pub chosen-rests : (rests : Area → Geometry → List (List ℕ) → Type 0) (areas : List Area) (area : Area) (index : ℕ) (a b e : Device) (before after : Ring) (chosen : Result (Unit {0}) Lost) → StaysActive areas before.area a b → HoldsOn rests e area
    → ChooseEnds areas b e before after index chosen → ActiveRests rests areas before.area area index a e
chosen-rests rests areas area index a b e before after (Ok x) stays held ends = inr (ends.1, held)
chosen-rests rests areas area index a b e before after (Err lost) stays held ends = elim ends.0 [
  | inl old ↦ inl (old ∙ stays)
  | inr new ↦ inr (new, held)
]

-- on another device with the same banks and sectors
pub still : {T : Type 0} (f : Area → Geometry → List (List ℕ) → T) (a d : Device) (area : Area) → d.banks ≡ a.banks → sectors_of d area ≡ sectors_of a area → on f d area ≡ on f a area
still f a d area banks same = ap (λ (g : Geometry). f area g (sectors_of d area)) (geometry-same a d area banks) ∙ ap (f area (geometry_of a area)) same

module _ {S : Type 0} (mounted : S → Area) (stands : S → Geometry → List (List ℕ) → Type 0) (damage : Area → Geometry → List (List ℕ) → Option Damaged) (contents : Area → Geometry → List (List ℕ) → Map) where
  -- a refusal before the record
  pub refused-ends : (U : Type 0) (room : Room) (areas : List Area) (selector area : Area) (index : ℕ) (settings copy : Map) (a b : Device) (fault : MigrateFault) → StaysActive areas selector a b → FillEnds {T = U} room area.sectors settings copy (Err fault)
      → MoveEnds mounted damage contents room areas selector area index settings a b (Err fault)
  refused-ends U room areas selector area index settings copy a b NoTarget stays ends = ends
  refused-ends U room areas selector area index settings copy a b (NoSpace need live) stays ends = (ends, stays)
  refused-ends U room areas selector area index settings copy a b TooManyNames stays ends = (ends, stays)
  refused-ends U room areas selector area index settings copy a b PowerLost stays ends = inl stays
  refused-ends U room areas selector area index settings copy a b NoMemory stays ends = stays

  -- the area was filled, and then the record was put
  pub chosen-ends : (room : Room) (areas : List Area) (area : Area) (index : ℕ) (settings : Map) (a b e : Device) (before after : Ring) (to late : S) (chosen : Result (Unit {0}) Lost) (result : Result (S × ℕ) MigrateFault)
      → StaysActive areas before.area a b → mounted to ≡ area → late ≡ to
      → on damage e area ≡ None → on contents e area ≡ settings → NoneTooMany room settings None
      → ChooseEnds areas b e before after index chosen → result ≡ moved_as (late, index) chosen
      → MoveEnds mounted damage contents room areas before.area area index settings a e result
  chosen-ends room areas area index settings a b e before after to late chosen result stays is same undamaged reads free ends result-is =
      subst (λ (r : Result (S × ℕ) MigrateFault). MoveEnds mounted damage contents room areas before.area area index settings a e r) (sym result-is) (at chosen ends)
    where
      at : (r : Result (Unit {0}) Lost) → ChooseEnds areas b e before after index r → MoveEnds mounted damage contents room areas before.area area index settings a e (moved_as (late, index) r)
      at (Ok x) ends = (refl, ap mounted same ∙ is, record { active = ends.1; undamaged = undamaged; reads = reads; free = free })
      at (Err lost) ends = elim ends.0 [
        | inl old ↦ inl (old ∙ stays)
        | inr new ↦ inr (record { active = new; undamaged = undamaged; reads = reads; free = free })
      ]

  pub chosen-stands : (e : Device) (index : ℕ) (late : S) (chosen : Result (Unit {0}) Lost) (result : Result (S × ℕ) MigrateFault) → StandsOn mounted stands e late → result ≡ moved_as (late, index) chosen → IfOk result (λ (moved : S × ℕ). StandsOn mounted stands e moved.0)
  chosen-stands e index late chosen result is result-is = subst (λ (r : Result (S × ℕ) MigrateFault). IfOk r (λ (moved : S × ℕ). StandsOn mounted stands e moved.0)) (sym result-is) (at chosen)
    where
      at : (r : Result (Unit {0}) Lost) → IfOk {T = S × ℕ} (moved_as (late, index) r) (λ (moved : S × ℕ). StandsOn mounted stands e moved.0)
      at (Ok x) = is
      at (Err lost) = tt

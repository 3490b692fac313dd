-- What a mount erases after a call: of a ring that was ready at most one sector.
use Rattle.std.proofs.Common.{◌≡◌, ℕ, zero, suc, ◌+◌, ◌≤◌, Bool, true, false, cond, not, ◌&&◌, List, [], ◌∷◌, set, refl, sym, ap, subst, ◌∙◌, inl, inr, arith, Err}
use Rattle.std.specs.Prelude.{count_by}
use Rattle.std.proofs.lemmas.Bool.{cases_Bool}
use Rattle.std.proofs.lemmas.List.Sums.{sum_by-cons}
use Rattle.flash_sim.specs.Device.{Device}
use Rattle.flash_map.specs.declared.area.Area.{Area}
use Rattle.flash_map.specs.declared.faults.MountFault.{MountFault}
use Rattle.flash_map.specs.declared.faults.MountFault.TheVariants.{Damaged as HasDamage, PowerLost as MountLost, NoMemory}
use Rattle.flash_map.specs.Area.{unit_of, sectors_of, sector_at, OthersStay}
use Rattle.flash_map.specs.Faults.{mount_lost}
use Rattle.fcb_ring.specs.declared.ring.Ring.{Ring}
use Rattle.fcb_ring.specs.declared.sector.SectorState.{SectorState}
use Rattle.fcb_ring.specs.Changing.{Begun, StopsErasing, next_place}
use Rattle.fcb_ring.specs.Entries.{states}
use Rattle.fcb_ring.specs.Rings.{is_full}
use Rattle.fcb_ring.specs.SectorStates.{is_torn, state_of, mended, mended_up_to}
use Rattle.fcb_ring.specs.Standing.{MountEnds, erases_due, erases_on}
use Rattle.fcb_ring.proofs.AppendLemmas.{unit-after}
use Rattle.fcb_ring.proofs.OthersLemmas.{others_same, others_then}
use Rattle.fcb_ring.proofs.RestLemmas.{ready-rests}
use Rattle.fcb_ring.proofs.StandLemmas.{torn-free, torn-state, mended-free, mended-not, mended-used}
use Rattle.event_ring.specs.Standing.{IsOpen}

-- ---- counts

and-less : (a b : Bool) → cond {A = ℕ} (a && b) 1 0 ≤ cond {A = ℕ} b 1 0
and-less true b = omega arith
and-less false b = omega arith

most-one : (b : Bool) → cond {A = ℕ} b 1 0 ≤ 1
most-one true = omega arith
most-one false = omega arith

and-both : (a b c : Bool) → cond {A = ℕ} b 1 0 ≤ cond {A = ℕ} c 1 0 → cond {A = ℕ} (a && b) 1 0 ≤ cond {A = ℕ} (a && c) 1 0
and-both true b c le = le
and-both false b c le = omega arith

module _ (unit : ℕ) where
  abbrev torn_count : List (List ℕ) → ℕ
  torn_count sectors = count_by (λ (state : SectorState). state.is_torn) (states unit sectors)

  abbrev full_count : List (List ℕ) → ℕ
  full_count sectors = cond {A = ℕ} (is_full (states unit sectors)) 1 0

  torn-cons : (x : List ℕ) (xs : List (List ℕ)) → torn_count (x ∷ xs) ≡ cond {A = ℕ} (state_of unit x).is_torn 1 0 + torn_count xs
  torn-cons x xs = sum_by-cons (λ (state : SectorState). cond {A = ℕ} state.is_torn 1 0) (state_of unit x) (states unit xs)

  -- One sector changed. If its header is torn, it is free, so that not all are in use.
  changed : (sectors : List (List ℕ)) (place : ℕ) (sector : List ℕ) → torn_count (set sectors place sector) + full_count (set sectors place sector) ≤ torn_count sectors + 1
  changed [] place sector = omega arith
  changed (x ∷ xs) zero sector =
      let new : torn_count (sector ∷ xs) ≡ cond {A = ℕ} (state_of unit sector).is_torn 1 0 + torn_count xs = torn-cons sector xs in
      let old : torn_count (x ∷ xs) ≡ cond {A = ℕ} (state_of unit x).is_torn 1 0 + torn_count xs = torn-cons x xs in
      let here : torn_count (sector ∷ xs) + full_count (sector ∷ xs) ≤ torn_count (x ∷ xs) + 1 = elim (cases_Bool (state_of unit sector).is_torn) [
        | inl torn ↦
            let free : (state_of unit sector).is_free ≡ true = torn-free unit sector (sym (torn-state unit sector) ∙ torn) in
            let none : full_count (sector ∷ xs) ≡ 0 = ap (λ (f : Bool). cond {A = ℕ} (not f && is_full (states unit xs)) 1 0) free in
            let one : cond {A = ℕ} (state_of unit sector).is_torn 1 0 ≡ 1 = ap (λ (t : Bool). cond {A = ℕ} t 1 0) torn in
            omega arith
        | inr whole ↦
            let none : cond {A = ℕ} (state_of unit sector).is_torn 1 0 ≡ 0 = ap (λ (t : Bool). cond {A = ℕ} t 1 0) whole in
            let full : full_count (sector ∷ xs) ≤ 1 = most-one (is_full (states unit (sector ∷ xs))) in
            omega arith
      ] in
      here
  changed (x ∷ xs) (suc place) sector =
      let new : torn_count (x ∷ set xs place sector) ≡ cond {A = ℕ} (state_of unit x).is_torn 1 0 + torn_count (set xs place sector) = torn-cons x (set xs place sector) in
      let old : torn_count (x ∷ xs) ≡ cond {A = ℕ} (state_of unit x).is_torn 1 0 + torn_count xs = torn-cons x xs in
      let rest : torn_count (set xs place sector) + full_count (set xs place sector) ≤ torn_count xs + 1 = changed xs place sector in
      let full : full_count (x ∷ set xs place sector) ≤ full_count (set xs place sector) = and-less (not (state_of unit x).is_free) (is_full (states unit (set xs place sector))) in
      let here : torn_count (x ∷ set xs place sector) + full_count (x ∷ set xs place sector) ≤ torn_count (x ∷ xs) + 1 = omega arith in
      here

  -- a sector that is mended is torn or in use only if it was so before
  mended-torn : (x : List ℕ) → cond {A = ℕ} (state_of unit (mended x)).is_torn 1 0 ≤ cond {A = ℕ} (state_of unit x).is_torn 1 0
  mended-torn x = elim (cases_Bool (is_torn x)) [
    | inl torn ↦
        let one : cond {A = ℕ} (state_of unit x).is_torn 1 0 ≡ 1 = ap (λ (t : Bool). cond {A = ℕ} t 1 0) (torn-state unit x ∙ torn) in
        let most = most-one (state_of unit (mended x)).is_torn in
        omega arith
    | inr whole ↦
        let same : cond {A = ℕ} (state_of unit (mended x)).is_torn 1 0 ≡ cond {A = ℕ} (state_of unit x).is_torn 1 0 = ap (λ (l : List ℕ). cond {A = ℕ} (state_of unit l).is_torn 1 0) (mended-not x whole) in
        omega arith
  ]

  mended-full : (x : List ℕ) (xs ys : List (List ℕ)) → full_count ys ≤ full_count xs → full_count (mended x ∷ ys) ≤ full_count (x ∷ xs)
  mended-full x xs ys le = elim (cases_Bool (state_of unit x).is_free) [
    | inl free ↦
        let none : full_count (mended x ∷ ys) ≡ 0 = ap (λ (f : Bool). cond {A = ℕ} (not f && is_full (states unit ys)) 1 0) (mended-free unit x free) in
        omega arith
    | inr used ↦ subst (λ (l : List ℕ). full_count (l ∷ ys) ≤ full_count (x ∷ xs)) (sym (mended-used unit x used)) (and-both (not (state_of unit x).is_free) (is_full (states unit ys)) (is_full (states unit xs)) le)
  ]

  mended-less : (done : ℕ) (sectors : List (List ℕ)) → (torn_count (mended_up_to done sectors) ≤ torn_count sectors) × (full_count (mended_up_to done sectors) ≤ full_count sectors)
  mended-less zero sectors = (omega arith, omega arith)
  mended-less (suc done) [] = (omega arith, omega arith)
  mended-less (suc done) (x ∷ xs) =
      let rest = mended-less done xs in
      let new : torn_count (mended x ∷ mended_up_to done xs) ≡ cond {A = ℕ} (state_of unit (mended x)).is_torn 1 0 + torn_count (mended_up_to done xs) = torn-cons (mended x) (mended_up_to done xs) in
      let old : torn_count (x ∷ xs) ≡ cond {A = ℕ} (state_of unit x).is_torn 1 0 + torn_count xs = torn-cons x xs in
      let one = mended-torn x in
      let fewer : torn_count (mended x ∷ mended_up_to done xs) ≤ torn_count (x ∷ xs) = omega (arith, rest.0) in
      let full : full_count (mended x ∷ mended_up_to done xs) ≤ full_count (x ∷ xs) = mended-full x xs (mended_up_to done xs) rest.1 in
      (fewer, full)

  pub changed-due : (old new : List (List ℕ)) (place : ℕ) (sector : List ℕ) → new ≡ set old place sector → erases_due (states unit old) ≡ 0 → erases_due (states unit new) ≤ 1
  changed-due old new place sector only none =
      let most = changed old place sector in
      subst (λ (l : List (List ℕ)). erases_due (states unit l) ≤ 1) (sym only) (omega arith)

  pub mended-due : (done : ℕ) (old new : List (List ℕ)) → new ≡ mended_up_to done old → erases_due (states unit new) ≤ erases_due (states unit old)
  mended-due done old new is =
      let less = mended-less done old in
      subst (λ (l : List (List ℕ)). erases_due (states unit l) ≤ erases_due (states unit old)) (sym is) (omega (arith, less.0, less.1))

-- ---- a log that is open owes nothing

pub open-due : (d : Device) (ring : Ring) → IsOpen d ring → erases_on d ring.area ≡ 0
open-due d ring mounted = ready-rests (unit_of d ring.area) (sectors_of d ring.area) ring mounted.stands.sectors mounted.ready

pub open-left : (d : Device) (ring : Ring) (area : Area) (most : ℕ) → ring.area ≡ area → IsOpen d ring → erases_on d area ≤ most
open-left d ring area most same mounted = let none = open-due d ring mounted in subst (λ (x : Area). erases_on d x ≤ most) same (omega arith)

-- ---- one sector of it changed

pub put-left : (d e : Device) (ring : Ring) (place : ℕ) → IsOpen d ring → e.banks ≡ d.banks → OthersStay d e ring.area place → erases_on e ring.area ≤ 1
put-left d e ring place mounted banks others =
    subst (λ (u : ℕ). erases_due (states u (sectors_of e ring.area)) ≤ 1) (sym (unit-after d e ring.area ring.area banks refl))
    (changed-due (unit_of d ring.area) (sectors_of d ring.area) (sectors_of e ring.area) place (sector_at (sectors_of e ring.area) place) others (open-due d ring mounted))

-- the erase that ends a drop was cut
pub drop-left : (d m e : Device) (before ring : Ring) → IsOpen d before → Begun d m before ring → e.banks ≡ m.banks → sectors_of e ring.area ≡ sectors_of m ring.area → erases_on e before.area ≤ 1
drop-left d m e before ring mounted begun banks same =
    let same_area : sectors_of e before.area ≡ sectors_of m before.area = subst (λ (x : Area). sectors_of e x ≡ sectors_of m x) begun.area same in
    put-left d e before (next_place before) mounted (banks ∙ begun.banks) (others_then d m e before.area (next_place before) begun.others (others_same m e before.area (next_place before) same_area))

-- ---- a mount

part-left : (d e : Device) (area : Area) → e.banks ≡ d.banks → StopsErasing d e area → erases_on e area ≤ erases_on d area
part-left d e area banks stops =
    subst (λ (u : ℕ). erases_due (states u (sectors_of e area)) ≤ erases_on d area) (sym (unit-after d e area area banks refl))
    (mended-due (unit_of d area) stops.done (sectors_of d area) (sectors_of e area) stops.sectors)

-- it was refused or cut
pub mount-left : (d e : Device) (area : Area) → e.banks ≡ d.banks → (fault : MountFault) → MountEnds d e area 0 (Err fault) → (mount_lost {T = Ring} (Err fault) ≡ true → StopsErasing d e area) → erases_on e area ≤ erases_on d area
mount-left d e area banks (HasDamage damaged) ends part = subst (λ (x : Device). erases_on x area ≤ erases_on d area) (sym ends.1) (omega arith)
mount-left d e area banks MountLost ends part = part-left d e area banks (part refl)
mount-left d e area banks NoMemory ends part = absurd ends

-- What a mount of a ring's area erases after a call that was cut.
use Rattle.std.proofs.Common.{◌≡◌, ℕ, zero, suc, ◌+◌, ◌-◌, ◌≤◌, Bool, true, false, cond, not, ◌&&◌, List, [], ◌∷◌, Result, Err, set, refl, sym, ap, subst, ◌∙◌, inl, inr, arith}
use Rattle.std.specs.Prelude.{count_by}
use Rattle.std.proofs.lemmas.Bool.{cases_Bool, false≢true}
use Rattle.std.proofs.lemmas.List.Sums.{sum_by-cons}
use Rattle.flash_sim.specs.Device.{Device}
use Rattle.flash_map.specs.declared.area.Area.{Area}
use Rattle.flash_map.specs.declared.faults.MountFault.{MountFault}
use Rattle.flash_map.specs.declared.faults.MountFault.TheVariants.{Damaged as HasDamage, PowerLost as MountLost, NoMemory}
use Rattle.flash_map.specs.Area.{unit_of, sectors_of, sector_at, ChangesOnly, OthersStay}
use Rattle.flash_map.specs.Faults.{mount_lost}
use Rattle.fcb_ring.specs.declared.ring.Ring.{Ring}
use Rattle.fcb_ring.specs.declared.ring.Stage.TheVariants.{Ready}
use Rattle.fcb_ring.specs.declared.sector.SectorState.{SectorState}
use Rattle.fcb_ring.specs.Changing.{Begun, StopsErasing, newest_place, next_place}
use Rattle.fcb_ring.specs.Entries.{states}
use Rattle.fcb_ring.specs.Rings.{turned, is_full}
use Rattle.fcb_ring.specs.SectorStates.{is_torn, state_of, mended, mended_up_to}
use Rattle.fcb_ring.specs.Standing.{MountEnds, StandsOn, erases_due, erases_on}
use Rattle.fcb_ring.proofs.AppendLemmas.{unit-after}
use Rattle.fcb_ring.proofs.OthersLemmas.{others_then}
use Rattle.fcb_ring.proofs.RestLemmas.{ready-rests}
use Rattle.fcb_ring.proofs.StandLemmas.{torn-free, torn-state, mended-not, mended-free}

flag-most : (t : Bool) → cond {A = ℕ} t 1 0 ≤ 1
flag-most true = omega arith
flag-most false = omega arith

abbrev torn_count : ℕ → List (List ℕ) → ℕ
torn_count unit sectors = count_by (λ (state : SectorState). state.is_torn) (states unit sectors)

count-cons : (unit : ℕ) (x : List ℕ) (xs : List (List ℕ)) → torn_count unit (x ∷ xs) ≡ cond (state_of unit x).is_torn 1 0 + torn_count unit xs
count-cons unit x xs = sum_by-cons (λ (state : SectorState). cond state.is_torn 1 0) (state_of unit x) (states unit xs)

-- ---- a mount that was cut

free-mended : (unit : ℕ) (x : List ℕ) → (state_of unit (mended x)).is_free ≡ (state_of unit x).is_free
free-mended unit x = elim (cases_Bool (is_torn x)) [
  | inl torn ↦ mended-free unit x (torn-free unit x torn) ∙ sym (torn-free unit x torn)
  | inr whole ↦ ap (λ (y : List ℕ). (state_of unit y).is_free) (mended-not x whole)
]

torn-mended : (unit : ℕ) (x : List ℕ) → cond {A = ℕ} (state_of unit (mended x)).is_torn 1 0 ≤ cond {A = ℕ} (state_of unit x).is_torn 1 0
torn-mended unit x = elim (cases_Bool (is_torn x)) [
  | inl torn ↦
      let one : cond {A = ℕ} (state_of unit x).is_torn 1 0 ≡ 1 = ap (λ (b : Bool). cond {A = ℕ} b 1 0) (torn-state unit x ∙ torn) in
      let few : cond {A = ℕ} (state_of unit (mended x)).is_torn 1 0 ≤ 1 = flag-most (state_of unit (mended x)).is_torn in
      omega (arith, one, few)
  | inr whole ↦
      let same : cond {A = ℕ} (state_of unit (mended x)).is_torn 1 0 ≡ cond {A = ℕ} (state_of unit x).is_torn 1 0 = ap (λ (y : List ℕ). cond {A = ℕ} (state_of unit y).is_torn 1 0) (mended-not x whole) in
      omega (arith, same)
]

full-mended : (unit n : ℕ) (sectors : List (List ℕ)) → is_full (states unit (mended_up_to n sectors)) ≡ is_full (states unit sectors)
full-mended unit zero sectors = refl
full-mended unit (suc n) [] = refl
full-mended unit (suc n) (x ∷ sectors) =
    ap (λ (b : Bool). not b && is_full (states unit (mended_up_to n sectors))) (free-mended unit x) ∙ ap (λ (b : Bool). not (state_of unit x).is_free && b) (full-mended unit n sectors)

fewer-torn : (unit n : ℕ) (sectors : List (List ℕ)) → torn_count unit (mended_up_to n sectors) ≤ torn_count unit sectors
fewer-torn unit zero sectors = omega arith
fewer-torn unit (suc n) [] = omega arith
fewer-torn unit (suc n) (x ∷ sectors) =
    let one : torn_count unit (mended_up_to (suc n) (x ∷ sectors)) ≡ cond (state_of unit (mended x)).is_torn 1 0 + torn_count unit (mended_up_to n sectors) = count-cons unit (mended x) (mended_up_to n sectors) in
    let two : torn_count unit (x ∷ sectors) ≡ cond (state_of unit x).is_torn 1 0 + torn_count unit sectors = count-cons unit x sectors in
    let here = torn-mended unit x in
    let rest = fewer-torn unit n sectors in
    omega arith

mended-left : (unit n : ℕ) (sectors : List (List ℕ)) → erases_due (states unit (mended_up_to n sectors)) ≤ erases_due (states unit sectors)
mended-left unit n sectors =
    let fewer : torn_count unit (mended_up_to n sectors) ≤ torn_count unit sectors = fewer-torn unit n sectors in
    let same : cond {A = ℕ} (is_full (states unit (mended_up_to n sectors))) 1 0 ≡ cond {A = ℕ} (is_full (states unit sectors)) 1 0 = ap (λ (b : Bool). cond {A = ℕ} b 1 0) (full-mended unit n sectors) in
    omega (arith, fewer, same)

pub part-left : (d e : Device) (area : Area) → e.banks ≡ d.banks → StopsErasing d e area → erases_on e area ≤ erases_on d area
part-left d e area banks stops =
    subst (λ (u : ℕ). erases_due (states u (sectors_of e area)) ≤ erases_on d area) (sym (unit-after d e area area banks refl))
    (subst (λ (l : List (List ℕ)). erases_due (states (unit_of d area) l) ≤ erases_on d area) (sym stops.sectors) (mended-left (unit_of d area) stops.done (sectors_of d area)))

-- a ring that is ready leaves nothing to erase
pub ready-left : (e : Device) (ring : Ring) (area : Area) → ring.area ≡ area → StandsOn e ring → ring.stage ≡ Ready → erases_on e area ≡ 0
ready-left e ring area same stands ready = subst (λ (x : Area). erases_on e x ≡ 0) same (ready-rests (unit_of e ring.area) (sectors_of e ring.area) ring stands.sectors ready)

-- and so at most one sector
pub ready-few : (e : Device) (ring : Ring) (area : Area) → ring.area ≡ area → StandsOn e ring → ring.stage ≡ Ready → erases_on e area ≤ 1
ready-few e ring area same stands ready = let none = ready-left e ring area same stands ready in omega arith

pub fault-left : (T : Type 0) (d e : Device) (area : Area) (reserve : ℕ) (fault : MountFault) → e.banks ≡ d.banks → MountEnds d e area reserve (Err fault) → (mount_lost {T = T} (Err fault) ≡ true → StopsErasing d e area) → erases_on e area ≤ erases_on d area
fault-left T d e area reserve (HasDamage damaged) banks ends part = let same : erases_on e area ≡ erases_on d area = ap (λ (x : Device). erases_on x area) ends.1 in omega arith
fault-left T d e area reserve MountLost banks ends part = part-left d e area banks (part refl)
fault-left T d e area reserve NoMemory banks ends part = absurd ends

-- ---- one sector changed

none-here : (unit : ℕ) (x : List ℕ) (xs : List (List ℕ)) → torn_count unit (x ∷ xs) ≡ 0 → (cond {A = ℕ} (state_of unit x).is_torn 1 0 ≡ 0) × (torn_count unit xs ≡ 0)
none-here unit x xs none = let two : torn_count unit (x ∷ xs) ≡ cond (state_of unit x).is_torn 1 0 + torn_count unit xs = count-cons unit x xs in (omega arith, omega arith)

both-less : (a b : Bool) → cond (a && b) 1 0 ≤ cond b 1 0
both-less true b = omega arith
both-less false b = omega arith

-- a torn sector is free, so that not all are in use
here-few : (unit : ℕ) (x : List ℕ) (all : Bool) → cond (state_of unit x).is_torn 1 0 + cond (not (state_of unit x).is_free && all) 1 0 ≤ 1
here-few unit x all = elim (cases_Bool (is_torn x)) [
  | inl torn ↦
      let one : cond {A = ℕ} (state_of unit x).is_torn 1 0 ≡ 1 = ap (λ (b : Bool). cond b 1 0) (torn-state unit x ∙ torn) in
      let none : cond {A = ℕ} (not (state_of unit x).is_free && all) 1 0 ≡ 0 = ap (λ (b : Bool). cond (not b && all) 1 0) (torn-free unit x torn) in
      omega arith
  | inr whole ↦
      let none : cond {A = ℕ} (state_of unit x).is_torn 1 0 ≡ 0 = ap (λ (b : Bool). cond b 1 0) (torn-state unit x ∙ whole) in
      let few = flag-most (not (state_of unit x).is_free && all) in
      omega arith
]

one-left : (unit : ℕ) (sectors : List (List ℕ)) (place : ℕ) (new : List ℕ) → torn_count unit sectors ≡ 0 → erases_due (states unit (set sectors place new)) ≤ 1
one-left unit [] place new none = let few = flag-most (is_full (states unit [])) in omega arith
one-left unit (x ∷ sectors) zero new none =
    let here : torn_count unit (new ∷ sectors) ≡ cond (state_of unit new).is_torn 1 0 + torn_count unit sectors = count-cons unit new sectors in
    let rest : torn_count unit sectors ≡ 0 = (none-here unit x sectors none).1 in
    let few = here-few unit new (is_full (states unit sectors)) in
    omega arith
one-left unit (x ∷ sectors) (suc place) new none =
    let here : torn_count unit (x ∷ set sectors place new) ≡ cond (state_of unit x).is_torn 1 0 + torn_count unit (set sectors place new) = count-cons unit x (set sectors place new) in
    let first : cond {A = ℕ} (state_of unit x).is_torn 1 0 ≡ 0 = (none-here unit x sectors none).0 in
    let rest = one-left unit sectors place new (none-here unit x sectors none).1 in
    let less = both-less (not (state_of unit x).is_free) (is_full (states unit (set sectors place new))) in
    omega arith

-- a call on a ring that was ready changed one sector
pub changed-left : (d e : Device) (ring : Ring) → StandsOn d ring → ring.stage ≡ Ready → e.banks ≡ d.banks → (place : ℕ) → OthersStay d e ring.area place → erases_on e ring.area ≤ 1
changed-left d e ring stands ready banks place others =
    let none : erases_on d ring.area ≡ 0 = ready-left d ring ring.area refl stands ready in
    let none-torn : torn_count (unit_of d ring.area) (sectors_of d ring.area) ≡ 0 = omega (arith, none) in
    subst (λ (u : ℕ). erases_due (states u (sectors_of e ring.area)) ≤ 1) (sym (unit-after d e ring.area ring.area banks refl))
    (subst (λ (l : List (List ℕ)). erases_due (states (unit_of d ring.area) l) ≤ 1) (sym others) (one-left (unit_of d ring.area) (sectors_of d ring.area) place (sector_at (sectors_of e ring.area) place) none-torn))

-- ---- a collection that was cut

module _ (a b : Device) (before ring : Ring) (begun : Begun a b before ring) where
  -- the copies go to the sector that was opened for them
  scratch-is : newest_place ring ≡ next_place before
  scratch-is =
      let back : ring.used - 1 ≡ before.used = omega (arith, begun.goes_on.used) in
      ap (λ (x : Area). turned x.sectors ring.oldest (ring.used - 1)) begun.area ∙ ap (λ (o : ℕ). turned before.area.sectors o (ring.used - 1)) begun.goes_on.oldest ∙ ap (turned before.area.sectors before.oldest) back

  pub scratch-others : (d : Device) → OthersStay b d ring.area (newest_place ring) → OthersStay a d before.area (next_place before)
  scratch-others d copied =
      others_then a b d before.area (next_place before) begun.others
      (subst (λ (p : ℕ). OthersStay b d before.area p) scratch-is (subst (λ (x : Area). OthersStay b d x (newest_place ring)) begun.area copied))

-- the erase that ends it leaves the sectors as they are
pub same-others : (a d e : Device) (area : Area) (place : ℕ) → OthersStay a d area place → sectors_of e area ≡ sectors_of d area → OthersStay a e area place
same-others a d e area place others same = subst (λ (l : List (List ℕ)). ChangesOnly (sectors_of a area) l place) (sym same) others

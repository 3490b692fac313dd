-- What a mount erases after a call that was cut: at most one sector.
use Rattle.std.proofs.Common.{◌≡◌, ℕ, zero, suc, ◌+◌, ◌-◌, ◌<◌, ◌≤◌, Bool, true, false, cond, not, List, [], length, take, refl, sym, ap, subst, ◌∙◌, inl, inr, arith}
use Rattle.std.specs.Prelude.{count_by}
use Rattle.std.proofs.lemmas.Bool.{cases_Bool, cases_eq, cases_lt, both_ways}
use Rattle.std.proofs.lemmas.List.{take_all, length-set, get_or-set_other}
use Rattle.std.proofs.lemmas.List.Folds.{list_all_at}
use Rattle.std.proofs.lemmas.List.Sums.{count_by_more_no, count_by_more_yes}
use Rattle.flash_sim.specs.Device.{Device}
use Rattle.flash_map.specs.declared.area.Area.{Area}
use Rattle.flash_map.specs.Area.{unit_of, sectors_of, sector_at, ChangesOnly, OthersStay}
use Rattle.fcb_ring.specs.declared.ring.Ring.{Ring}
use Rattle.fcb_ring.specs.declared.ring.Stage.{Stage}
use Rattle.fcb_ring.specs.declared.ring.Stage.TheVariants.{Ready}
use Rattle.fcb_ring.specs.declared.sector.SectorState.{SectorState}
use Rattle.fcb_ring.specs.Changing.{Begun, StopsErasing, newest_place, next_place}
use Rattle.fcb_ring.specs.Entries.{states}
use Rattle.fcb_ring.specs.Rings.{no_state, state_at, turned, is_full, IsRing}
use Rattle.fcb_ring.specs.SectorStates.{is_torn, mended_up_to}
use Rattle.fcb_ring.specs.Standing.{Stands, StandsOn, FitsStage, uncounted, states_on, erases_due, erases_on}
use Rattle.fcb_ring.proofs.AppendLemmas.{unit-after}
use Rattle.fcb_ring.proofs.AreaLemmas.{state-at, length-states}
use Rattle.fcb_ring.proofs.OthersLemmas.{others_then}
use Rattle.fcb_ring.proofs.RestLemmas.{ready-rests}
use Rattle.fcb_ring.proofs.RingLemmas.{by_distance, full-no, full-yes, turned-within}
use Rattle.fcb_ring.proofs.StandLemmas.{torn-free, torn-state, kept-form, length-mended, mended-at, mended-behind, mended-not, mended-run}

-- ---- counts

-- no element but one passes
module _ (p : SectorState → Bool) (xs : List SectorState) (place : ℕ) (others : (j : ℕ) → j < length xs → ¬ (j ≡ place) → p (state_at xs j) ≡ false) where
  none-yet : (j : ℕ) → j ≤ length xs → j ≤ place → count_by p (take j xs) ≡ 0
  none-yet zero le below = refl
  none-yet (suc j) le below =
      let before = none-yet j (omega arith) (omega arith) in
      let apart : ¬ (j ≡ place) = λ (e : j ≡ place). absurd (omega arith) in
      let same : count_by p (take (j + 1) xs) ≡ count_by p (take j xs) = count_by_more_no p xs j no_state (omega arith) (others j (omega arith) apart) in
      let step : suc j ≡ j + 1 = omega arith in
      ap (λ (n : ℕ). count_by p (take n xs)) step ∙ same ∙ before

  one-so_far : (j : ℕ) → j ≤ length xs → count_by p (take j xs) ≤ 1
  one-so_far zero le = let none : count_by p (take zero xs) ≡ 0 = refl in omega arith
  one-so_far (suc j) le =
      let up : suc j ≡ j + 1 = omega arith in
      let step : count_by p (take (suc j) xs) ≡ count_by p (take (j + 1) xs) = ap (λ (n : ℕ). count_by p (take n xs)) up in
      elim (cases_eq j place) [
        | inl e ↦
            let none : count_by p (take j xs) ≡ 0 = none-yet j (omega arith) (omega arith) in
            elim (cases_Bool (p (state_at xs j))) [
              | inl passes ↦ let more : count_by p (take (j + 1) xs) ≡ count_by p (take j xs) + 1 = count_by_more_yes p xs j no_state (omega arith) passes in omega arith
              | inr fails ↦ let same : count_by p (take (j + 1) xs) ≡ count_by p (take j xs) = count_by_more_no p xs j no_state (omega arith) fails in omega arith
            ]
        | inr apart ↦
            let same : count_by p (take (j + 1) xs) ≡ count_by p (take j xs) = count_by_more_no p xs j no_state (omega arith) (others j (omega arith) apart) in
            let before = one-so_far j (omega arith) in
            omega arith
      ]

  one-passes : count_by p xs ≤ 1
  one-passes = subst (λ (l : List SectorState). count_by p l ≤ 1) (take_all (length xs) xs (omega arith)) (one-so_far (length xs) (omega arith))

-- none passes
none-so_far : (p : SectorState → Bool) (xs : List SectorState) → ((j : ℕ) → j < length xs → p (state_at xs j) ≡ false) → (j : ℕ) → j ≤ length xs → count_by p (take j xs) ≡ 0
none-so_far p xs fails zero le = refl
none-so_far p xs fails (suc j) le =
    let before = none-so_far p xs fails j (omega arith) in
    let same : count_by p (take (j + 1) xs) ≡ count_by p (take j xs) = count_by_more_no p xs j no_state (omega arith) (fails j (omega arith)) in
    let step : suc j ≡ j + 1 = omega arith in
    ap (λ (n : ℕ). count_by p (take n xs)) step ∙ same ∙ before

none-passes : (p : SectorState → Bool) (xs : List SectorState) → ((j : ℕ) → j < length xs → p (state_at xs j) ≡ false) → count_by p xs ≡ 0
none-passes p xs fails = sym (ap (count_by p) (take_all (length xs) xs (omega arith))) ∙ none-so_far p xs fails (length xs) (omega arith)

-- each that passes in the one list passes in the other
module _ (p : SectorState → Bool) (xs ys : List SectorState) (long : length ys ≡ length xs) (fewer : (j : ℕ) → j < length xs → p (state_at ys j) ≡ true → p (state_at xs j) ≡ true) where
  fewer-so_far : (j : ℕ) → j ≤ length xs → count_by p (take j ys) ≤ count_by p (take j xs)
  fewer-so_far zero le = let one : count_by p (take zero ys) ≡ 0 = refl in omega arith
  fewer-so_far (suc j) le =
      let before = fewer-so_far j (omega arith) in
      let up : suc j ≡ j + 1 = omega arith in
      let step-x : count_by p (take (suc j) xs) ≡ count_by p (take (j + 1) xs) = ap (λ (n : ℕ). count_by p (take n xs)) up in
      let step-y : count_by p (take (suc j) ys) ≡ count_by p (take (j + 1) ys) = ap (λ (n : ℕ). count_by p (take n ys)) up in
      elim (cases_Bool (p (state_at ys j))) [
        | inl passes ↦
            let y : count_by p (take (j + 1) ys) ≡ count_by p (take j ys) + 1 = count_by_more_yes p ys j no_state (omega arith) passes in
            let x : count_by p (take (j + 1) xs) ≡ count_by p (take j xs) + 1 = count_by_more_yes p xs j no_state (omega arith) (fewer j (omega arith) passes) in
            omega arith
        | inr fails ↦
            let y : count_by p (take (j + 1) ys) ≡ count_by p (take j ys) = count_by_more_no p ys j no_state (omega arith) fails in
            elim (cases_Bool (p (state_at xs j))) [
              | inl passes ↦ let x : count_by p (take (j + 1) xs) ≡ count_by p (take j xs) + 1 = count_by_more_yes p xs j no_state (omega arith) passes in omega arith
              | inr none ↦ let x : count_by p (take (j + 1) xs) ≡ count_by p (take j xs) = count_by_more_no p xs j no_state (omega arith) none in omega arith
            ]
      ]

  fewer-pass : count_by p ys ≤ count_by p xs
  fewer-pass =
      let x : count_by p (take (length xs) xs) ≡ count_by p xs = ap (count_by p) (take_all (length xs) xs (omega arith)) in
      let y : count_by p (take (length xs) ys) ≡ count_by p ys = ap (count_by p) (take_all (length xs) ys (omega arith)) in
      let all = fewer-so_far (length xs) (omega arith) in
      omega arith

-- ---- one sector changed

torn-at : (unit : ℕ) (sectors : List (List ℕ)) (place : ℕ) → place < length sectors → (state_at (states unit sectors) place).is_torn ≡ is_torn (sector_at sectors place)
torn-at unit sectors place lt = ap (λ (x : SectorState). x.is_torn) (state-at unit sectors place lt) ∙ torn-state unit (sector_at sectors place)

flag-most : (t : Bool) → cond t 1 0 ≤ 1
flag-most true = omega arith
flag-most false = omega arith

flag-zero : (t : Bool) → t ≡ false → cond {A = ℕ} t 1 0 ≡ 0
flag-zero true is = absurd (both_ways true is refl)
flag-zero false is = refl

flag-less : (t s : Bool) → (s ≡ false → t ≡ false) → cond t 1 0 ≤ cond s 1 0
flag-less true true less = omega arith
flag-less true false less = absurd (both_ways true (less refl) refl)
flag-less false true less = omega arith
flag-less false false less = omega arith

module _ (unit : ℕ) (old new : List (List ℕ)) (place : ℕ) (only : ChangesOnly old new place) (whole : (j : ℕ) → j < length old → is_torn (sector_at old j) ≡ false) where
  long : length new ≡ length old
  long = ap (λ (l : List (List ℕ)). length l) only ∙ length-set old place (sector_at new place)

  others-whole : (j : ℕ) → j < length (states unit new) → ¬ (j ≡ place) → (state_at (states unit new) j).is_torn ≡ false
  others-whole j lt apart =
      let inside : j < length new = omega (arith, length-states unit new) in
      torn-at unit new j inside
      ∙ ap is_torn (ap (λ (l : List (List ℕ)). sector_at l j) only ∙ get_or-set_other old place j (sector_at new place) [] apart) ∙ whole j (omega (arith, long))

  -- a torn sector is free, so that not all are in use
  torn-due : place < length (states unit new) → (state_at (states unit new) place).is_torn ≡ true → erases_due (states unit new) ≤ 1
  torn-due lt torn =
      let inside : place < length new = omega (arith, length-states unit new) in
      let free : (state_at (states unit new) place).is_free ≡ true = ap (λ (x : SectorState). x.is_free) (state-at unit new place inside) ∙ torn-free unit (sector_at new place) (sym (torn-at unit new place inside) ∙ torn) in
      let open-one : is_full (states unit new) ≡ false = list_all_at (λ (state : SectorState). not state.is_free) (states unit new) place no_state lt (ap not free) in
      let none = flag-zero (is_full (states unit new)) open-one in
      let one = one-passes (λ (state : SectorState). state.is_torn) (states unit new) place others-whole in
      omega arith

  whole-due : ((j : ℕ) → j < length (states unit new) → (state_at (states unit new) j).is_torn ≡ false) → erases_due (states unit new) ≤ 1
  whole-due all =
      let none = none-passes (λ (state : SectorState). state.is_torn) (states unit new) all in
      let flag = flag-most (is_full (states unit new)) in
      omega arith

  pub changed-due : erases_due (states unit new) ≤ 1
  changed-due = elim (cases_lt place (length (states unit new))) [
    | inl lt ↦ elim (cases_Bool (state_at (states unit new) place).is_torn) [
      | inl torn ↦ torn-due lt torn
      | inr sound ↦ whole-due (λ j inside. elim (cases_eq j place) [
        | inl e ↦ subst (λ (k : ℕ). (state_at (states unit new) k).is_torn ≡ false) (sym e) sound
        | inr apart ↦ others-whole j inside apart
      ])
    ]
    | inr above ↦ whole-due (λ j inside. others-whole j inside (λ (e : j ≡ place). absurd (omega arith)))
  ]

-- ---- a ring that is ready

module _ (unit : ℕ) (sectors : List (List ℕ)) (ring : Ring) (stands : Stands unit sectors ring) (ready : ring.stage ≡ Ready) where
  form : IsRing (states unit sectors) ring.oldest ring.used
  form = subst (λ (n : ℕ). IsRing (states unit sectors) ring.oldest n) (ap (λ (s : Stage). ring.used + uncounted s) ready ∙ omega arith) stands.form

  fits : FitsStage Ready (states unit sectors) ring.oldest ring.used
  fits = subst (λ (s : Stage). FitsStage s (states unit sectors) ring.oldest ring.used) ready stands.stage

  used-whole : (place : ℕ) → place < length sectors → (state_at (states unit sectors) place).is_free ≡ false → (state_at (states unit sectors) place).is_torn ≡ false
  used-whole place lt used_one = elim (cases_Bool (is_torn (sector_at sectors place))) [
    | inl torn ↦ absurd (both_ways (state_at (states unit sectors) place).is_free used_one (ap (λ (x : SectorState). x.is_free) (state-at unit sectors place lt) ∙ torn-free unit (sector_at sectors place) torn))
    | inr sound ↦ torn-at unit sectors place lt ∙ sound
  ]

  none-torn : (place : ℕ) → place < length (states unit sectors) → (state_at (states unit sectors) place).is_torn ≡ false
  none-torn = by_distance (length (states unit sectors)) ring.oldest (λ (place : ℕ). (state_at (states unit sectors) place).is_torn ≡ false) form.within
      (λ k lt. elim (cases_lt k ring.used) [
        | inl below ↦
            let inside = turned-within (length (states unit sectors)) ring.oldest k form.within (omega arith) in
            used-whole (turned (length (states unit sectors)) ring.oldest k) (omega (arith, length-states unit sectors)) (form.used_ones k below)
        | inr above ↦ fits.1 k above lt
      ])

  pub ready-whole : (place : ℕ) → place < length sectors → is_torn (sector_at sectors place) ≡ false
  ready-whole place lt = sym (torn-at unit sectors place lt) ∙ none-torn place (omega (arith, length-states unit sectors))

-- a call that was cut changed one sector of a ring that was ready
pub cut-due : (d e : Device) (ring : Ring) → StandsOn d ring → ring.stage ≡ Ready → e.banks ≡ d.banks → (place : ℕ) → OthersStay d e ring.area place → erases_on e ring.area ≤ 1
cut-due d e ring stands ready banks place others =
    subst (λ (u : ℕ). erases_due (states u (sectors_of e ring.area)) ≤ 1) (sym (unit-after d e ring.area ring.area banks refl))
    (changed-due (unit_of d ring.area) (sectors_of d ring.area) (sectors_of e ring.area) place others (ready-whole (unit_of d ring.area) (sectors_of d ring.area) ring stands.sectors ready))

-- a ring that is ready owes nothing
pub ready-due : (e : Device) (ring : Ring) (area : Area) → ring.area ≡ area → StandsOn e ring → ring.stage ≡ Ready → erases_on e area ≡ 0
ready-due e ring area same stands ready = subst (λ (x : Area). erases_on e x ≡ 0) same (ready-rests (unit_of e ring.area) (sectors_of e ring.area) ring stands.sectors ready)

-- ---- a collection that was cut

module _ (a b : Device) (before ring : Ring) (begun : Begun a b before ring) where
  -- the copies go to the sector that was opened for them
  scratch-is : newest_place ring ≡ next_place before
  scratch-is =
      let back : ring.used - 1 ≡ before.used = omega (arith, begun.goes_on.used) in
      ap (λ (x : Area). turned x.sectors ring.oldest (ring.used - 1)) begun.area ∙ ap (λ (o : ℕ). turned before.area.sectors o (ring.used - 1)) begun.goes_on.oldest ∙ ap (turned before.area.sectors before.oldest) back

  pub scratch-others : (d : Device) → OthersStay b d ring.area (newest_place ring) → OthersStay a d before.area (next_place before)
  scratch-others d copied =
      others_then a b d before.area (next_place before) begun.others
      (subst (λ (p : ℕ). OthersStay b d before.area p) scratch-is (subst (λ (x : Area). OthersStay b d x (newest_place ring)) begun.area copied))

-- the erase that ends it leaves the sectors as they are
pub same-others : (a d e : Device) (area : Area) (place : ℕ) → OthersStay a d area place → sectors_of e area ≡ sectors_of d area → OthersStay a e area place
same-others a d e area place others same = subst (λ (l : List (List ℕ)). ChangesOnly (sectors_of a area) l place) (sym same) others

-- ---- a mount that was cut

module _ (unit : ℕ) (old : List (List ℕ)) (oldest used done : ℕ) (ring : IsRing (states unit old) oldest used) where
  mended-long : length (states unit (mended_up_to done old)) ≡ length (states unit old)
  mended-long = length-states unit (mended_up_to done old) ∙ length-mended done old ∙ sym (length-states unit old)

  -- what is torn still was so before
  still-torn : (j : ℕ) → j < length (states unit old) → (state_at (states unit (mended_up_to done old)) j).is_torn ≡ true → (state_at (states unit old) j).is_torn ≡ true
  still-torn j lt torn =
      let inside : j < length old = omega (arith, length-states unit old) in
      let there : j < length (mended_up_to done old) = omega (arith, length-mended done old) in
      elim (cases_Bool (is_torn (sector_at old j))) [
        | inl was ↦ torn-at unit old j inside ∙ was
        | inr whole ↦
            let same : sector_at (mended_up_to done old) j ≡ sector_at old j = elim (cases_lt j done) [
              | inl below ↦ mended-at done old j inside below ∙ mended-not (sector_at old j) whole
              | inr above ↦ mended-behind done old j inside above
            ] in
            torn-at unit old j inside ∙ ap is_torn (sym same) ∙ sym (torn-at unit (mended_up_to done old) j there) ∙ torn
      ]

  mended-ring : IsRing (states unit (mended_up_to done old)) oldest used
  mended-ring = kept-form unit old (mended_up_to done old) oldest used used (mended-run unit old oldest used done ring) ring (omega arith) ring.empty

  full-less : cond (is_full (states unit (mended_up_to done old))) 1 0 ≤ cond (is_full (states unit old)) 1 0
  full-less = flag-less (is_full (states unit (mended_up_to done old))) (is_full (states unit old)) (λ open-one. elim (cases_lt used (length (states unit old))) [
    | inl free ↦ full-no (states unit (mended_up_to done old)) oldest used mended-ring (omega (arith, mended-long))
    | inr all ↦ absurd (both_ways (is_full (states unit old)) open-one (full-yes (states unit old) oldest used ring (omega (arith, ring.most))))
  ])

  pub mended-due : erases_due (states unit (mended_up_to done old)) ≤ erases_due (states unit old)
  mended-due =
      let torn = fewer-pass (λ (state : SectorState). state.is_torn) (states unit old) (states unit (mended_up_to done old)) mended-long still-torn in
      let full = full-less in
      omega arith

pub left-due : (d e : Device) (area : Area) → e.banks ≡ d.banks → (oldest used : ℕ) → IsRing (states_on d area) oldest used → StopsErasing d e area → erases_on e area ≤ erases_on d area
left-due d e area banks oldest used ring stops =
    subst (λ (u : ℕ). erases_due (states u (sectors_of e area)) ≤ erases_on d area) (sym (unit-after d e area area banks refl))
    (subst (λ (l : List (List ℕ)). erases_due (states (unit_of d area) l) ≤ erases_on d area) (sym stops.sectors)
    (mended-due (unit_of d area) (sectors_of d area) oldest used stops.done ring))

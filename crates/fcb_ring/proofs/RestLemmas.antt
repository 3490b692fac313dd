-- A ring that is ready for its next record leaves nothing for a mount to erase.
use Rattle.std.proofs.Common.{◌≡◌, ℕ, zero, suc, ◌+◌, ◌<◌, ◌≤◌, Bool, false, cond, List, length, take, inl, inr, refl, sym, ap, subst, ◌∙◌, arith}
use Rattle.std.specs.Prelude.{count_by}
use Rattle.std.proofs.lemmas.Bool.{both_ways, cases_Bool, cases_lt}
use Rattle.std.proofs.lemmas.List.{take_all}
use Rattle.std.proofs.lemmas.List.Sums.{count_by_more_no}
use Rattle.flash_map.specs.Area.{sector_at}
use Rattle.fcb_ring.specs.declared.ring.Ring.{Ring}
use Rattle.fcb_ring.specs.declared.ring.Stage.{Stage}
use Rattle.fcb_ring.specs.declared.ring.Stage.TheVariants.{Ready}
use Rattle.fcb_ring.specs.declared.sector.SectorState.{SectorState}
use Rattle.fcb_ring.specs.Entries.{states}
use Rattle.fcb_ring.specs.Rings.{no_state, state_at, turned, is_full, IsRing}
use Rattle.fcb_ring.specs.SectorStates.{is_torn}
use Rattle.fcb_ring.specs.Standing.{Stands, FitsStage, uncounted, erases_due}
use Rattle.fcb_ring.proofs.AreaLemmas.{state-at, length-states}
use Rattle.fcb_ring.proofs.RingLemmas.{by_distance, full-no, turned-within}
use Rattle.fcb_ring.proofs.StandLemmas.{torn-free, torn-state}

count-prefix_none : (p : SectorState → Bool) (xs : List SectorState) → ((j : ℕ) → j < length xs → p (state_at xs j) ≡ false) → (j : ℕ) → j ≤ length xs → count_by p (take j xs) ≡ 0
count-prefix_none p xs fails zero le = refl
count-prefix_none p xs fails (suc j) le =
    let before = count-prefix_none p xs fails j (omega arith) in
    let more : count_by p (take j xs) ≡ count_by p (take (j + 1) xs) = sym (count_by_more_no p xs j no_state (omega arith) (fails j (omega arith))) in
    let step : suc j ≡ j + 1 = omega arith in
    ap (λ (n : ℕ). count_by p (take n xs)) step ∙ sym more ∙ before

count-none : (p : SectorState → Bool) (xs : List SectorState) → ((j : ℕ) → j < length xs → p (state_at xs j) ≡ false) → count_by p xs ≡ 0
count-none p xs fails = sym (ap (count_by p) (take_all (length xs) xs (omega arith))) ∙ count-prefix_none p xs fails (length xs) (omega arith)

module _ (unit : ℕ) (sectors : List (List ℕ)) (oldest used : ℕ) (form : IsRing (states unit sectors) oldest used) where
  -- a used sector is not torn
  used-whole : (place : ℕ) → place < length sectors → (state_at (states unit sectors) place).is_free ≡ false → (state_at (states unit sectors) place).is_torn ≡ false
  used-whole place lt used_one = elim (cases_Bool (is_torn (sector_at sectors place))) [
    | inl torn ↦
        let is = state-at unit sectors place lt in
        absurd (both_ways (state_at (states unit sectors) place).is_free used_one (ap (λ (x : SectorState). x.is_free) is ∙ torn-free unit (sector_at sectors place) torn))
    | inr whole ↦ ap (λ (x : SectorState). x.is_torn) (state-at unit sectors place lt) ∙ torn-state unit (sector_at sectors place) ∙ whole
  ]

  none-torn : ((k : ℕ) → used ≤ k → k < length (states unit sectors) → (state_at (states unit sectors) (turned (length (states unit sectors)) oldest k)).is_torn ≡ false)
      → (place : ℕ) → place < length (states unit sectors) → (state_at (states unit sectors) place).is_torn ≡ false
  none-torn free_ones = by_distance (length (states unit sectors)) oldest (λ (place : ℕ). (state_at (states unit sectors) place).is_torn ≡ false) form.within
      (λ k lt. elim (cases_lt k used) [
        | inl below ↦
            let inside = turned-within (length (states unit sectors)) oldest k form.within (omega arith) in
            used-whole (turned (length (states unit sectors)) oldest k) (omega (arith, length-states unit sectors)) (form.used_ones k below)
        | inr above ↦ free_ones k above lt
      ])

  pub none-due : FitsStage Ready (states unit sectors) oldest used → erases_due (states unit sectors) ≡ 0
  none-due fits =
      let torn : count_by (λ (x : SectorState). x.is_torn) (states unit sectors) ≡ 0 = count-none (λ (x : SectorState). x.is_torn) (states unit sectors) (none-torn fits.1) in
      let free : is_full (states unit sectors) ≡ false = full-no (states unit sectors) oldest used form fits.0 in
      ap (λ (n : ℕ). n + cond (is_full (states unit sectors)) 1 0) torn ∙ ap (λ (b : Bool). 0 + cond b 1 0) free

pub ready-rests : (unit : ℕ) (sectors : List (List ℕ)) (ring : Ring) → Stands unit sectors ring → ring.stage ≡ Ready → erases_due (states unit sectors) ≡ 0
ready-rests unit sectors ring stands ready =
    let fits : FitsStage Ready (states unit sectors) ring.oldest ring.used = subst (λ (s : Stage). FitsStage s (states unit sectors) ring.oldest ring.used) ready stands.stage in
    none-due unit sectors ring.oldest ring.used (form ready) fits
  where
    form : ring.stage ≡ Ready → IsRing (states unit sectors) ring.oldest ring.used
    form is = subst (λ (n : ℕ). IsRing (states unit sectors) ring.oldest n) (ap (λ (s : Stage). ring.used + uncounted s) is ∙ omega arith) stands.form

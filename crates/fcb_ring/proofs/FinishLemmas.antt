-- The ring before and after the erases of mounting.
use Rattle.std.proofs.Common.{◌≡◌, ℕ, ◌+◌, ◌-◌, ◌<◌, ◌≤◌, min, Bool, true, false, cond, List, [], length, map, set, replicate, inl, inr, refl, sym, ap, subst, ◌∙◌, arith}
use Rattle.std.specs.Prelude.{count_by}
use Rattle.std.proofs.lemmas.Bool.{cases_eq, cases_Bool, cond-true, cond-false}
use Rattle.std.proofs.lemmas.List.{get_or-set_same, get_or-set_other}
use Rattle.std.proofs.lemmas.List.Folds.{fold-map}
use Rattle.flash_sim.specs.Bank.{bank_at}
use Rattle.flash_sim.specs.Device.{Device}
use Rattle.flash_sim.specs.declared.flash.Bank.{Bank}
use Rattle.flash_map.specs.declared.area.Area.{Area}
use Rattle.flash_map.specs.Area.{unit_of, sector_size, sectors_of}
use Rattle.fcb_ring.specs.declared.ring.Ring.{Ring}
use Rattle.fcb_ring.specs.declared.ring.Stage.{Stage}
use Rattle.fcb_ring.specs.declared.ring.Stage.TheVariants.{Inspected, Ready, Collecting, Down}
use Rattle.fcb_ring.specs.declared.sector.SectorState.{SectorState}
use Rattle.fcb_ring.specs.SectorStates.{is_torn, mended, mended_up_to, state_of}
use Rattle.fcb_ring.specs.Rings.{state_at, before, turned, oldest_place, is_full, IsRing, AreClean}
use Rattle.fcb_ring.specs.Entries.{states, entries, HasEntries}
use Rattle.flash_map.specs.Area.{sector_at}
use Rattle.fcb_ring.specs.Standing.{Stands, FitsStage, IsWritten, is_finished, is_uncounted, uncounted, erases_due, newest_of_all, mounted_sectors}
use Rattle.fcb_ring.proofs.RingLemmas.{turned-within, full-yes, full-no, newest-is}
use Rattle.fcb_ring.proofs.AreaLemmas.{HasSize, count-sectors, state-at, length-states}
use Rattle.fcb_ring.proofs.StandLemmas.{KeepsRun, kept-form, kept-clean, kept-has, same-state, mended-run, mended-at, length-mended, mended-untorn, erased-run, blank-untorn}
use Rattle.fcb_ring.proofs.MountLemmas.{mends_all}

-- a fact of the unit holds after a call that leaves the banks
pub with_unit : (P : ℕ → Type 0) (old new : Device) (area : Area) → new.banks ≡ old.banks → P (unit_of old area) → P (unit_of new area)
with_unit P old new area banks p = subst (λ (all : List Bank). P (bank_at all area.bank).unit) (sym banks) p

-- the sectors after both kinds of erases
pub after_erases : (a b c : Device) (area : Area) (place oldest used : ℕ) → place ≡ turned area.sectors oldest used → (due : Bool) → b.banks ≡ a.banks
    → sectors_of b area ≡ map mended (sectors_of a area)
    → sectors_of c area ≡ cond due (set (sectors_of b area) place (replicate (sector_size b area) 255)) (sectors_of b area)
    → sectors_of c area ≡ cond due (set (map mended (sectors_of a area)) (turned (length (sectors_of a area)) oldest used) (replicate (sector_size a area) 255)) (map mended (sectors_of a area))
after_erases a b c area place oldest used is due banks first second =
    second
    ∙ ap (λ (l : List (List ℕ)). cond due (set l place (replicate (sector_size b area) 255)) l) first
    ∙ ap (λ (all : List Bank). cond due (set (map mended (sectors_of a area)) place (replicate (bank_at all area.bank).sector 255)) (map mended (sectors_of a area))) banks
    ∙ ap (λ (p : ℕ). cond due (set (map mended (sectors_of a area)) p (replicate (sector_size a area) 255)) (map mended (sectors_of a area))) (is ∙ ap (λ (n : ℕ). turned n oldest used) (sym (count-sectors a area)))

pub count-torn : (unit : ℕ) (sectors : List (List ℕ)) → count_by (λ s. s.is_torn) (states unit sectors) ≡ count_by is_torn sectors
unfolding state_of
count-torn unit sectors = fold-map (λ a (s : SectorState). a + cond s.is_torn 1 0) (state_of unit) 0 sectors

module _ (unit size : ℕ) (old : List (List ℕ)) (has : HasSize unit size old) (ring : Ring) (stands : Stands unit old ring) (unfinished : is_finished ring.stage ≡ false) where
  long : length (states unit old) ≡ length old
  long = length-states unit old

  -- how many count
  abbrev Counts : Stage → Type 0
  Counts stage = (min (ring.used + uncounted stage) (length (states unit old) - 1) ≡ ring.used) × (ring.used < length (states unit old)) × (is_uncounted stage ≡ true → ring.used + uncounted stage ≡ length (states unit old))

  counts-by : (stage : Stage) → is_finished stage ≡ false → FitsStage stage (states unit old) ring.oldest ring.used → Counts stage
  counts-by (Inspected true) un fits = (omega arith, omega arith, λ _. fits)
  counts-by (Inspected false) un fits = (omega arith, omega arith, λ e. absurd (clash e))
    where
      clash : false ≡ true → ⊥
      clash e = cc
  counts-by Ready un fits = absurd (clash un)
    where
      clash : true ≡ false → ⊥
      clash e = cc
  counts-by Collecting un fits = absurd (clash un)
    where
      clash : true ≡ false → ⊥
      clash e = cc
  counts-by Down un fits = absurd fits

  counts : Counts ring.stage
  counts = counts-by ring.stage unfinished stands.stage

  pub place-within : (ring.oldest < length old) × (ring.used ≤ length old)
  place-within = (omega (arith, stands.form.within, long), omega (arith, counts.1, long))

  abbrev all : ℕ
  all = ring.used + uncounted ring.stage

  mended-kept : (n : ℕ) → KeepsRun unit old (mended_up_to n old) ring.oldest (ring.used + uncounted ring.stage)
  mended-kept n = mended-run unit old ring.oldest (ring.used + uncounted ring.stage) n stands.form

  pub mended-form : (n : ℕ) → IsRing (states unit (mended_up_to n old)) ring.oldest (ring.used + uncounted ring.stage)
  mended-form n = kept-form unit old (mended_up_to n old) ring.oldest all all (mended-kept n) stands.form (omega arith) stands.form.empty

  clean-count : AreClean (states unit old) ring.oldest (min (ring.used + uncounted ring.stage) (length old - 1))
  clean-count k lt = stands.clean k (omega (arith, counts.0, long))

  -- wherever the erases of torn headers stop
  pub mended-has : (n : ℕ) → HasEntries unit (mended_up_to n old) (entries unit old)
  mended-has n = kept-has unit old (mended_up_to n old) ring.oldest all all (mended-kept n) stands.form (omega arith) stands.form.empty clean-count refl

  mended-state : (n k : ℕ) → k < ring.used → state_at (states unit (mended_up_to n old)) (turned (length (states unit (mended_up_to n old))) ring.oldest k) ≡ state_at (states unit old) (turned (length (states unit old)) ring.oldest k)
  mended-state n k lt = same-state unit old (mended_up_to n old) ring.oldest all all (mended-kept n) stands.form (omega arith) stands.form.empty k (omega arith)

  abbrev b : List (List ℕ)
  b = mended_up_to (length old) old

  untorn-b : (place : ℕ) → place < length old → (state_of unit (sector_at (mended_up_to (length old) old) place)).is_torn ≡ false
  untorn-b place lt = ap (λ (l : List ℕ). (state_of unit l).is_torn) (mended-at (length old) old place lt lt) ∙ mended-untorn unit (sector_at old place) (omega (arith, has.each place lt, has.at_least))

  -- ---- and then the newest is erased, where no sector is free

  newest-kept : is_uncounted ring.stage ≡ true → KeepsRun unit (mended_up_to (length old) old) (set (mended_up_to (length old) old) (turned (length old) ring.oldest ring.used) (replicate size 255)) ring.oldest ring.used
  newest-kept full =
      let sum = counts.2 full in
      let one : uncounted ring.stage ≡ 1 = ap (λ (t : Bool). cond t 1 0) full in
      let lb = length-mended (length old) old in
      let ring-b : IsRing (states unit (mended_up_to (length old) old)) ring.oldest (length (mended_up_to (length old) old)) = subst (λ (n : ℕ). IsRing (states unit (mended_up_to (length old) old)) ring.oldest n) (omega (arith, sum, long, lb)) (mended-form (length old)) in
      let last : length (mended_up_to (length old) old) - 1 ≡ ring.used = omega (arith, sum, one, long, lb) in
      subst (λ (n : ℕ). KeepsRun unit b (set b (turned n ring.oldest ring.used) (replicate size 255)) ring.oldest ring.used) lb
      (subst (λ (n : ℕ). KeepsRun unit b (set b (turned (length b) ring.oldest n) (replicate size 255)) ring.oldest n) last (erased-run unit b ring.oldest size ring-b))

  empty-first : ring.used ≡ 0 → is_uncounted ring.stage ≡ true → ring.oldest ≡ 0
  empty-first none full = absurd (omega (arith, counts.2 full, stands.form.several, one))
    where
      one : uncounted ring.stage ≡ 1
      one = ap (λ (t : Bool). cond t 1 0) full

  abbrev final : Bool → List (List ℕ)
  final due = cond due (set b (turned (length old) ring.oldest ring.used) (replicate size 255)) b

  abbrev pub Finished : List (List ℕ) → Type 0
  Finished c = Stands unit c (record ring { stage = Ready }) × HasEntries unit c (entries unit old)

  written : (c : List (List ℕ)) → (0 < ring.used → state_at (states unit c) (turned (length (states unit c)) ring.oldest (ring.used - 1)) ≡ state_at (states unit old) (turned (length (states unit old)) ring.oldest (ring.used - 1)))
      → 0 < ring.used → IsWritten (state_at (states unit c) (turned (length (states unit c)) ring.oldest (ring.used - 1))) (record ring { stage = Ready })
  written c same positive =
      let before = stands.last positive in
      record { end = before.end ∙ ap (λ (s : SectorState). s.end) (sym (same positive)); id = before.id ∙ ap (λ (s : SectorState). s.id) (sym (same positive)) }

  none-torn : (c : List (List ℕ)) → length c ≡ length old → ((place : ℕ) → place < length old → (state_of unit (sector_at c place)).is_torn ≡ false)
      → (k : ℕ) → ring.used ≤ k → k < length (states unit c) → (state_at (states unit c) (turned (length (states unit c)) ring.oldest k)).is_torn ≡ false
  none-torn c long-c each k le lt =
      let lc = length-states unit c in
      let inside : turned (length (states unit c)) ring.oldest k < length old =
      let w = turned-within (length (states unit c)) ring.oldest k (omega (arith, stands.form.within, long)) (omega arith) in omega arith in
      ap (λ (s : SectorState). s.is_torn) (state-at unit c (turned (length (states unit c)) ring.oldest k) (omega arith)) ∙ each (turned (length (states unit c)) ring.oldest k) inside

  finished-full : is_uncounted ring.stage ≡ true → Finished (set (mended_up_to (length old) old) (turned (length old) ring.oldest ring.used) (replicate size 255))
  finished-full full =
      let c = set (mended_up_to (length old) old) (turned (length old) ring.oldest ring.used) (replicate size 255) in
      let kept = newest-kept full in
      let form-b = mended-form (length old) in
      let lb = length-mended (length old) old in
      let lsb = length-states unit (mended_up_to (length old) old) in
      let one : uncounted ring.stage ≡ 1 = ap (λ (t : Bool). cond t 1 0) full in
      let sum = counts.2 full in
      let empty : ring.used ≡ 0 → ring.oldest ≡ 0 = λ none. empty-first none full in
      let clean-b : AreClean (states unit (mended_up_to (length old) old)) ring.oldest ring.used =
      kept-clean unit old (mended_up_to (length old) old) ring.oldest all all (mended-kept (length old)) stands.form (omega arith) stands.form.empty ring.used (omega arith) stands.clean in
      let clean-count-b : AreClean (states unit (mended_up_to (length old) old)) ring.oldest (min ring.used (length (mended_up_to (length old) old) - 1)) = λ k lt. clean-b k (omega arith) in
      let has-b = mended-has (length old) in
      let has-c = kept-has unit b c ring.oldest all ring.used kept form-b (omega arith) empty clean-count-b (omega (arith, sum, one, lb, long)) in (
        record {
          form = subst (λ (n : ℕ). IsRing (states unit c) ring.oldest n) (omega arith) (kept-form unit b c ring.oldest all ring.used kept form-b (omega arith) empty);
          clean = kept-clean unit b c ring.oldest all ring.used kept form-b (omega arith) empty ring.used (omega arith) clean-b;
          last = written c (λ positive. same-state unit b c ring.oldest all ring.used kept form-b (omega arith) empty (ring.used - 1) (omega arith) ∙ mended-state (length old) (ring.used - 1) (omega arith));
          stage = (
            omega (arith, length-states unit c, kept.long, lb, sum, one, long),
            none-torn c (kept.long ∙ lb) (λ place lt.
                elim (cases_eq place (turned (length old) ring.oldest ring.used)) [
                  | inl same ↦
                      ap (λ (l : List ℕ). (state_of unit l).is_torn) (ap (sector_at c) same ∙ get_or-set_same b (turned (length old) ring.oldest ring.used) (replicate size 255) [] (omega (arith, same, lb)))
                      ∙ blank-untorn unit size (omega (arith, has.at_least))
                  | inr apart ↦ ap (λ (l : List ℕ). (state_of unit l).is_torn) (get_or-set_other b (turned (length old) ring.oldest ring.used) place (replicate size 255) [] apart) ∙ untorn-b place lt
                ]),
          );
        },
        record { undamaged = has-c.undamaged; are = has-c.are ∙ has-b.are },
      )

  finished-free : is_uncounted ring.stage ≡ false → Finished (mended_up_to (length old) old)
  finished-free free =
      let none : uncounted ring.stage ≡ 0 = ap (λ (t : Bool). cond t 1 0) free in
      let lb = length-mended (length old) old in (
        record {
          form = subst (λ (n : ℕ). IsRing (states unit (mended_up_to (length old) old)) ring.oldest n) (omega arith) (mended-form (length old));
          clean = kept-clean unit old (mended_up_to (length old) old) ring.oldest all all (mended-kept (length old)) stands.form (omega arith) stands.form.empty ring.used (omega arith) stands.clean;
          last = written (mended_up_to (length old) old) (λ positive. mended-state (length old) (ring.used - 1) (omega arith));
          stage = (omega (arith, length-states unit (mended_up_to (length old) old), lb, counts.1, long), none-torn (mended_up_to (length old) old) lb untorn-b);
        },
        mended-has (length old),
      )

  finished-by : (due : Bool) → due ≡ is_uncounted ring.stage → Finished (final due)
  finished-by true is = finished-full (sym is)
  finished-by false is = finished-free (sym is)

  pub finished : (c : List (List ℕ)) (due : Bool) → due ≡ is_uncounted ring.stage → c ≡ cond due (set (map mended old) (turned (length old) ring.oldest ring.used) (replicate size 255)) (map mended old) → Finished c
  finished c due is after =
      let whole : map mended old ≡ mended_up_to (length old) old = sym (mends_all old (length old) (omega arith)) in
      subst Finished (sym (after ∙ ap (λ (l : List (List ℕ)). cond due (set l (turned (length old) ring.oldest ring.used) (replicate size 255)) l) whole)) (finished-by due is)

  -- ---- what they spend

  full-is : is_full (states unit old) ≡ is_uncounted ring.stage
  full-is = elim (cases_Bool (is_uncounted ring.stage)) [
    | inl full ↦ full-yes (states unit old) ring.oldest all stands.form (counts.2 full) ∙ sym full
    | inr free ↦ let none : uncounted ring.stage ≡ 0 = ap (λ (t : Bool). cond t 1 0) free in full-no (states unit old) ring.oldest all stands.form (omega (arith, counts.1)) ∙ sym free
  ]

  pub due-is : (due : Bool) → due ≡ is_uncounted ring.stage → erases_due (states unit old) ≡ count_by is_torn old + cond due 1 0
  due-is due is =
      ap (λ (n : ℕ). n + cond (is_full (states unit old)) 1 0) (count-torn unit old) ∙ ap (λ (t : Bool). count_by is_torn old + cond t 1 0) (full-is ∙ sym is)

  -- ---- and which sectors they leave

  pub newest-place : is_uncounted ring.stage ≡ true → newest_of_all unit old ≡ turned (length old) ring.oldest ring.used
  newest-place full =
      let one : uncounted ring.stage ≡ 1 = ap (λ (t : Bool). cond t 1 0) full in
      let last : length (states unit old) - 1 ≡ ring.used = omega (arith, counts.2 full) in
      ap (λ (n : ℕ). before n (oldest_place (states unit old))) (sym long)
      ∙ newest-is (states unit old) ring.oldest all stands.form
      ∙ ap (λ (n : ℕ). turned n ring.oldest (length (states unit old) - 1)) long
      ∙ ap (turned (length old) ring.oldest) last

  mounted-by : (due : Bool) → due ≡ is_uncounted ring.stage → cond due (set (map mended old) (turned (length old) ring.oldest ring.used) (replicate size 255)) (map mended old) ≡ mounted_sectors unit old
  mounted-by true is =
      let place = newest-place (sym is) in
      let inside : newest_of_all unit old < length old = omega (arith, place, turned-within (length old) ring.oldest ring.used place-within.0 place-within.1) in
      ap (λ (p : ℕ). set (map mended old) p (replicate size 255)) (sym place)
      ∙ ap (λ (n : ℕ). set (map mended old) (newest_of_all unit old) (replicate n 255)) (sym (has.each (newest_of_all unit old) inside))
      ∙ sym (cond-true (is_full (states unit old)) (set (map mended old) (newest_of_all unit old) (replicate (length (sector_at old (newest_of_all unit old))) 255)) (map mended old) (full-is ∙ sym is))
  mounted-by false is = sym (cond-false (is_full (states unit old)) (set (map mended old) (newest_of_all unit old) (replicate (length (sector_at old (newest_of_all unit old))) 255)) (map mended old) (full-is ∙ sym is))

  pub mounted-is : (c : List (List ℕ)) (due : Bool) → due ≡ is_uncounted ring.stage → c ≡ cond due (set (map mended old) (turned (length old) ring.oldest ring.used) (replicate size 255)) (map mended old) → c ≡ mounted_sectors unit old
  mounted-is c due is after = after ∙ mounted-by due is

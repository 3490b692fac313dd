-- What stays of items where a run of sectors stays, and the form of an area that shows no damage.
use Rattle.std.proofs.Common.{◌≡◌, ℕ, zero, suc, ◌+◌, ◌-◌, ◌<◌, ◌≤◌, min, Bool, true, false, List, length, map, set, replicate, None, inl, inr, refl, sym, ap, subst, ◌∙◌, arith}
use Rattle.std.specs.List.{range_with_len, flat_map}
use Rattle.std.proofs.lemmas.Bool.{cases_Bool, cases_eq, cond-true, cond-false}
use Rattle.flash_map.specs.Area.{sector_at}
use Rattle.fcb_ring.specs.Entries.{states}
use Rattle.fcb_ring.specs.Rings.{state_at, turned, before, oldest_place, is_full, first_damage, IsRing}
use Rattle.fcb_ring.specs.SectorStates.{mended, mended_up_to}
use Rattle.fcb_ring.specs.Standing.{newest_of_all, mounted_sectors}
use Rattle.fcb_ring.proofs.AreaLemmas.{HasSize, length-states}
use Rattle.fcb_ring.proofs.MountLemmas.{mends_all}
use Rattle.fcb_ring.proofs.RingLemmas.{turned-within, ring-form, full-yes, full-no, newest-is}
use Rattle.fcb_ring.proofs.StandLemmas.{KeepsRun, kept-form, mended-run, erased-run, length-mended}
use Rattle.event_ring.specs.Items.{Item, sector_items, items, items_cost}
use Rattle.event_ring.proofs.PartLemmas.{part, items-are, parts-same, AreFilled, filled-parts, parts-filled}

-- ---- the form of an area without damage

record IsRunOf (taken : ℕ → Bool) (n : ℕ) : Type 0 where
  count : ℕ
  most : count ≤ n
  each : (k : ℕ) → k < count → taken k ≡ false
  stops : count < n → taken count ≡ true

run-of : (free : ℕ → Bool) (n : ℕ) → IsRunOf free n
run-of free zero = record { count = 0; most = omega arith; each = λ k lt. absurd (omega arith); stops = λ lt. absurd (omega arith) }
run-of free (suc n) =
    let ih = run-of free n in
    elim (cases_eq ih.count n) [
      | inl all ↦ elim (cases_Bool (free n)) [
        | inl stops ↦ record { count = n; most = omega arith; each = λ k lt. ih.each k (omega arith); stops = λ lt. stops }
        | inr goes ↦ record {
          count = suc n;
          most = omega arith;
          each = λ k lt. elim (cases_eq k n) [
            | inl same ↦ ap free same ∙ goes
            | inr apart ↦ ih.each k (omega arith)
          ];
          stops = λ lt. absurd (omega arith);
        }
      ]
      | inr apart ↦ record { count = ih.count; most = omega (arith, ih.most); each = ih.each; stops = λ lt. ih.stops (omega (arith, ih.most)) }
    ]

pub record HasForm (unit : ℕ) (sectors : List (List ℕ)) : Type 0 where
  pub oldest : ℕ
  pub used : ℕ
  pub form : IsRing (states unit sectors) oldest used

pub form-of : (unit size : ℕ) (sectors : List (List ℕ)) → HasSize unit size sectors → first_damage (states unit sectors) ≡ None → HasForm unit sectors
form-of unit size sectors has none =
    let long = length-states unit sectors in
    let run = run-of (λ k. (state_at (states unit sectors) (turned (length (states unit sectors)) (oldest_place (states unit sectors)) k)).is_free) (length (states unit sectors)) in
    record {
      oldest = oldest_place (states unit sectors);
      used = run.count;
      form = ring-form (states unit sectors) (omega (arith, has.several)) (omega (arith, has.few)) none run.count run.most run.each run.stops;
    }

-- ---- where a run stays

module _ (unit : ℕ) (old new : List (List ℕ)) (oldest used count : ℕ) (kept : KeepsRun unit old new oldest count) (form : IsRing (states unit old) oldest used) (fewer : count ≤ used) (empty : count ≡ 0 → oldest ≡ 0)
    (same : min used (length old - 1) ≡ min count (length old - 1)) where
  new-form : IsRing (states unit new) oldest count
  new-form = kept-form unit old new oldest used count kept form fewer empty

  part-kept : (k : ℕ) → k < count → part unit new oldest k ≡ part unit old oldest k
  part-kept k lt = ap (λ (n : ℕ). sector_items unit (sector_at new (turned n oldest k))) kept.long ∙ ap (sector_items unit) (kept.same k lt)

  all-new : min count (length new - 1) ≡ min used (length old - 1)
  all-new = omega (arith, kept.long, same)

  pub items-kept : items unit new ≡ items unit old
  items-kept =
      items-are unit new oldest count new-form
      ∙ ap (λ (n : ℕ). flat_map (part unit new oldest) (range_with_len 0 n)) all-new
      ∙ parts-same (part unit new oldest) (part unit old oldest) (min used (length old - 1)) (λ k lt. part-kept k (omega (arith, same)))
      ∙ sym (items-are unit old oldest used form)

  pub filled-kept : (room longest : ℕ) → AreFilled unit room longest old → AreFilled unit room longest new
  filled-kept room longest filled =
      let parts = filled-parts unit old oldest used form room longest filled in
      parts-filled unit new oldest count new-form room longest (λ k lt.
      subst (λ (l : List Item). room < items_cost unit l + longest) (sym (part-kept k (omega arith))) (parts k (omega (arith, all-new))))

-- ---- the erases of mounting

module _ (unit size : ℕ) (old : List (List ℕ)) (has : HasSize unit size old) (none : first_damage (states unit old) ≡ None) where
  it : HasForm unit old
  it = form-of unit size old has none

  abbrev oldest : ℕ
  oldest = it.oldest

  mended-kept : (n : ℕ) → KeepsRun unit old (mended_up_to n old) it.oldest it.used
  mended-kept n = mended-run unit old it.oldest it.used n it.form

  -- wherever those of torn headers stop
  pub items-mended : (n : ℕ) → items unit (mended_up_to n old) ≡ items unit old
  items-mended n = items-kept unit old (mended_up_to n old) it.oldest it.used it.used (mended-kept n) it.form (omega arith) it.form.empty refl

  pub filled-mended : (n room longest : ℕ) → AreFilled unit room longest old → AreFilled unit room longest (mended_up_to n old)
  filled-mended n = filled-kept unit old (mended_up_to n old) it.oldest it.used it.used (mended-kept n) it.form (omega arith) it.form.empty refl

  whole : map mended old ≡ mended_up_to (length old) old
  whole = sym (mends_all old (length old) (omega arith))

  -- and once the newest is erased, where no sector is free
  module _ (full : it.used ≡ length old) where
    abbrev b : List (List ℕ)
    b = mended_up_to (length old) old

    long-b : length (mended_up_to (length old) old) ≡ length old
    long-b = length-mended (length old) old

    abbrev c : List (List ℕ)
    c = set b (turned (length b) it.oldest (length b - 1)) (replicate size 255)

    form-b : IsRing (states unit (mended_up_to (length old) old)) it.oldest (length (mended_up_to (length old) old))
    form-b = subst (λ (n : ℕ). IsRing (states unit (mended_up_to (length old) old)) it.oldest n) (omega (arith, full, long-b)) (kept-form unit old (mended_up_to (length old) old) it.oldest it.used it.used (mended-kept (length old)) it.form (omega arith) it.form.empty)

    kept-c : KeepsRun unit b c it.oldest (length b - 1)
    kept-c = erased-run unit b it.oldest size form-b

    items-c : items unit c ≡ items unit old
    items-c = items-kept unit b c it.oldest (length b) (length b - 1) kept-c form-b (omega arith) (λ zero. absurd (omega (arith, long-b, has.several))) (omega arith) ∙ items-mended (length old)

    filled-c : (room longest : ℕ) → AreFilled unit room longest old → AreFilled unit room longest c
    filled-c room longest filled = filled-kept unit b c it.oldest (length b) (length b - 1) kept-c form-b (omega arith) (λ zero. absurd (omega (arith, long-b, has.several))) (omega arith) room longest (filled-mended (length old) room longest filled)

    newest : newest_of_all unit old ≡ turned (length old) it.oldest (length old - 1)
    newest =
        ap (λ (n : ℕ). before n (oldest_place (states unit old))) (sym (length-states unit old)) ∙ newest-is (states unit old) it.oldest it.used it.form
        ∙ ap (λ (n : ℕ). turned n it.oldest (n - 1)) (length-states unit old)

    newest-in : newest_of_all unit old < length old
    newest-in = let w = turned-within (length old) it.oldest (length old - 1) (omega (arith, it.form.within, length-states unit old)) (omega arith) in omega (arith, newest)

    newest-long : length (sector_at old (newest_of_all unit old)) ≡ size
    newest-long = has.each (newest_of_all unit old) newest-in

    is-c : mounted_sectors unit old ≡ c
    is-c =
        cond-true (is_full (states unit old)) (set (map mended old) (newest_of_all unit old) (replicate (length (sector_at old (newest_of_all unit old))) 255)) (map mended old) (full-yes (states unit old) it.oldest it.used it.form (omega (arith, full, length-states unit old)))
        ∙ ap (λ (l : List (List ℕ)). set l (newest_of_all unit old) (replicate (length (sector_at old (newest_of_all unit old))) 255)) whole
        ∙ ap (λ (n : ℕ). set b (newest_of_all unit old) (replicate n 255)) newest-long
        ∙ ap (λ (p : ℕ). set b p (replicate size 255)) (newest ∙ ap (λ (n : ℕ). turned n it.oldest (n - 1)) (sym long-b))

  not-full : (it.used ≡ length old → ⊥) → mounted_sectors unit old ≡ mended_up_to (length old) old
  not-full apart =
      cond-false (is_full (states unit old)) (set (map mended old) (newest_of_all unit old) (replicate (length (sector_at old (newest_of_all unit old))) 255)) (map mended old)
      (full-no (states unit old) it.oldest it.used it.form (omega (arith, apart, it.form.most, length-states unit old))) ∙ whole

  pub items-mounted : items unit (mounted_sectors unit old) ≡ items unit old
  items-mounted = elim (cases_eq it.used (length old)) [
    | inl full ↦ ap (items unit) (is-c full) ∙ items-c full
    | inr apart ↦ ap (items unit) (not-full apart) ∙ items-mended (length old)
  ]

  pub filled-mounted : (room longest : ℕ) → AreFilled unit room longest old → AreFilled unit room longest (mounted_sectors unit old)
  filled-mounted room longest filled = elim (cases_eq it.used (length old)) [
    | inl full ↦ subst (AreFilled unit room longest) (sym (is-c full)) (filled-c full room longest filled)
    | inr apart ↦ subst (AreFilled unit room longest) (sym (not-full apart)) (filled-mended (length old) room longest filled)
  ]

-- The sector in which a ring writes, and the area once bytes are laid behind its records.
use Rattle.std.proofs.Common.{◌≡◌, ℕ, ◌+◌, ◌-◌, ◌%◌, ◌<◌, ◌≤◌, min, true, false, cond, List, [], ◌∷◌, ◌++◌, length, length-drop, drop, set, replicate, None, refl, sym, ap, subst, ◌∙◌, append_assoc, arith}
use Rattle.std.specs.List.{range_with_len, flat_map}
use Rattle.std.proofs.lemmas.Bool.{not-false}
use Rattle.std.proofs.lemmas.List.{append-nil, length-set, get_or-set_same}
use Rattle.std.proofs.lemmas.Grind.{flat_map-append}
use Rattle.flash_sim.specs.Device.{overwritten}
use Rattle.flash_map.specs.Area.{sector_at}
use Rattle.flash_map.specs.Units.{padded, is_erased}
use Rattle.fcb_ring.specs.declared.record.RecordAt.{RecordAt}
use Rattle.fcb_ring.specs.declared.ring.Ring.{Ring}
use Rattle.fcb_ring.specs.declared.ring.Stage.{Stage}
use Rattle.fcb_ring.specs.declared.ring.Stage.TheVariants.{Inspected, Ready, Collecting, Down}
use Rattle.fcb_ring.specs.declared.sector.SectorState.{SectorState}
use Rattle.fcb_ring.specs.Records.{records_end, checks_at}
use Rattle.fcb_ring.specs.SectorStates.{IsSector, state_of}
use Rattle.fcb_ring.specs.Rings.{state_at, turned, is_full, first_damage, IsRing, AreClean}
use Rattle.fcb_ring.specs.Entries.{states, sector_entries, entries}
use Rattle.fcb_ring.specs.Standing.{Stands, FitsStage, is_finished, uncounted}
use Rattle.fcb_ring.proofs.PlaceLemmas.{range-append}
use Rattle.fcb_ring.proofs.RingLemmas.{turned-within, full-yes, full-no}
use Rattle.fcb_ring.proofs.AreaLemmas.{HasSize, state-at, length-states, sector_is}
use Rattle.flash_map.proofs.ErasedBytes.{erased_is}
use Rattle.fcb_ring.proofs.LayLemmas.{CanLay, laid-header, laid-id, laid-used, laid-end_state, laid-not_overfull, laid-not_dirty, laid_entry, laid-entries}
use Rattle.fcb_ring.proofs.StandLemmas.{part, entries-are}
use Rattle.fcb_ring.proofs.GrowLemmas.{IsGood, there, elsewhere, grown-form, grown-clean, grown-entries, grown-uncounted, grown-undamaged}

uncounted-none : (stage : Stage) → is_finished stage ≡ true → uncounted stage ≡ 0
uncounted-none (Inspected full) e = absurd (clash e)
  where
    clash : false ≡ true → ⊥
    clash e = cc
uncounted-none Ready e = refl
uncounted-none Collecting e = refl
uncounted-none Down e = absurd (clash e)
  where
    clash : false ≡ true → ⊥
    clash e = cc

end-of_state : (unit : ℕ) (s : List ℕ) → (state_of unit s).end ≡ records_end unit s
unfolding state_of
end-of_state unit s = refl

blank-of : (unit : ℕ) (s : List ℕ) → (state_of unit s).is_dirty ≡ false → is_erased (drop (records_end unit s) s) ≡ true
unfolding state_of
blank-of unit s clean = not-false (is_erased (drop (records_end unit s) s)) clean

module _ (unit size : ℕ) (old : List (List ℕ)) (has : HasSize unit size old) (ring : Ring) (stands : Stands unit old ring) (writes : is_finished ring.stage ≡ true) where
  long : length (states unit old) ≡ length old
  long = length-states unit old

  pub run-form : IsRing (states unit old) ring.oldest ring.used
  run-form = subst (λ (n : ℕ). IsRing (states unit old) ring.oldest n) (omega (arith, uncounted-none ring.stage writes)) stands.form

  pub run-within : (ring.oldest < length old) × (ring.used ≤ length old)
  run-within = (omega (arith, run-form.within, long), omega (arith, run-form.most, long))

  module _ (some : 0 < ring.used) where
    pub newest-in : turned (length old) ring.oldest (ring.used - 1) < length old
    newest-in = turned-within (length old) ring.oldest (ring.used - 1) run-within.0 (omega (arith, run-within.1))

    newest-state : state_at (states unit old) (turned (length (states unit old)) ring.oldest (ring.used - 1)) ≡ state_of unit (sector_at old (turned (length old) ring.oldest (ring.used - 1)))
    newest-state = ap (λ (n : ℕ). state_at (states unit old) (turned n ring.oldest (ring.used - 1))) long ∙ state-at unit old (turned (length old) ring.oldest (ring.used - 1)) newest-in

    pub newest-long : length (sector_at old (turned (length old) ring.oldest (ring.used - 1))) ≡ size
    newest-long = has.each (turned (length old) ring.oldest (ring.used - 1)) newest-in

    pub newest-sector : IsSector unit (sector_at old (turned (length old) ring.oldest (ring.used - 1)))
    newest-sector = sector_is has (sector_at old (turned (length old) ring.oldest (ring.used - 1))) newest-long

    pub newest-end : ring.end ≡ records_end unit (sector_at old (turned (length old) ring.oldest (ring.used - 1)))
    newest-end = (stands.last some).end ∙ ap (λ (x : SectorState). x.end) newest-state ∙ end-of_state unit (sector_at old (turned (length old) ring.oldest (ring.used - 1)))

    pub newest-blank : drop (records_end unit (sector_at old (turned (length old) ring.oldest (ring.used - 1)))) (sector_at old (turned (length old) ring.oldest (ring.used - 1)))
        ≡ replicate (length (sector_at old (turned (length old) ring.oldest (ring.used - 1))) - records_end unit (sector_at old (turned (length old) ring.oldest (ring.used - 1)))) 255
    newest-blank =
        let s = sector_at old (turned (length old) ring.oldest (ring.used - 1)) in
        let clean : (state_of unit (sector_at old (turned (length old) ring.oldest (ring.used - 1)))).is_dirty ≡ false = sym (ap (λ (x : SectorState). x.is_dirty) newest-state) ∙ (stands.clean (ring.used - 1) (omega arith)).1 in
        erased_is (drop (records_end unit s) s) (blank-of unit s clean) ∙ ap (λ (n : ℕ). replicate n 255) (length-drop-is (records_end unit s) s)
      where
        length-drop-is : (n : ℕ) (l : List ℕ) → length (drop n l) ≡ length l - n
        length-drop-is n l = simp length-drop

    module _ (y : List ℕ) (len : ℕ) (lay : CanLay unit (sector_at old (turned (length old) ring.oldest (ring.used - 1))) y len) where
      abbrev s : List ℕ
      s = sector_at old (turned (length old) ring.oldest (ring.used - 1))

      abbrev t : List ℕ
      t = overwritten s (records_end unit s) y

      abbrev j : ℕ
      j = ring.used - 1

      abbrev pub laid_area : List (List ℕ)
      laid_area = set old (turned (length old) ring.oldest (ring.used - 1)) (overwritten (sector_at old (turned (length old) ring.oldest (ring.used - 1))) (records_end unit (sector_at old (turned (length old) ring.oldest (ring.used - 1)))) y)

      has-header : (state_of unit s).has_header ≡ true
      has-header = sym (ap (λ (x : SectorState). x.has_header) newest-state) ∙ run-form.headers (ring.used - 1) (omega arith)

      good : IsGood (state_of unit t)
      good = record { used = laid-used unit s y len lay has-header; header = laid-header unit s y len lay ∙ has-header; ends = laid-not_overfull unit s y len lay; clean = laid-not_dirty unit s y len lay }

      follows : 0 < ring.used - 1 → (state_of unit t).id ≡ ((state_of unit (sector_at old (turned (length old) ring.oldest (ring.used - 1 - 1)))).id + 1) % 65536
      follows positive =
          let one : ring.used - 1 - 1 + 1 ≡ ring.used - 1 = omega arith in
          let before = turned-within (length old) ring.oldest (ring.used - 1 - 1) run-within.0 (omega (arith, run-within.1)) in
          laid-id unit s y len lay
          ∙ sym (ap (λ (x : SectorState). x.id) newest-state)
          ∙ subst (λ (k : ℕ). (state_at (states unit old) (turned (length (states unit old)) ring.oldest k)).id ≡ ((state_at (states unit old) (turned (length (states unit old)) ring.oldest (ring.used - 1 - 1))).id + 1) % 65536) one (run-form.ids (ring.used - 1 - 1) (omega arith))
          ∙ ap (λ (i : ℕ). (i + 1) % 65536) (ap (λ (n : ℕ). (state_at (states unit old) (turned n ring.oldest (ring.used - 1 - 1))).id) long ∙ ap (λ (x : SectorState). x.id) (state-at unit old (turned (length old) ring.oldest (ring.used - 1 - 1)) before))

      inside : ring.used - 1 < length old
      inside = omega (arith, run-within.1)

      again : ring.used - 1 + 1 ≡ ring.used
      again = omega arith

      pub put-form : IsRing (states unit laid_area) ring.oldest ring.used
      put-form = subst (λ (n : ℕ). IsRing (states unit laid_area) ring.oldest n) again (grown-form unit old ring.oldest ring.used j t run-form (omega arith) (omega arith) inside good follows)

      old-clean : AreClean (states unit old) ring.oldest (ring.used - 1)
      old-clean k lt = stands.clean k (omega arith)

      put-clean : AreClean (states unit laid_area) ring.oldest ring.used
      put-clean = subst (λ (n : ℕ). AreClean (states unit laid_area) ring.oldest n) again (grown-clean unit old ring.oldest ring.used j t run-form (omega arith) (omega arith) inside good follows old-clean)

      elsewhere-is : (k : ℕ) → k < length old → (k ≡ ring.used - 1 → ⊥) → state_at (states unit laid_area) (turned (length (states unit laid_area)) ring.oldest k) ≡ state_at (states unit old) (turned (length (states unit old)) ring.oldest k)
      elsewhere-is = elsewhere unit old ring.oldest ring.used j t run-form (omega arith) (omega arith) inside good follows

      there-is : state_at (states unit laid_area) (turned (length (states unit laid_area)) ring.oldest (ring.used - 1)) ≡ state_of unit t
      there-is = there unit old ring.oldest ring.used j t run-form (omega arith) (omega arith) inside good follows

      states-long : length (states unit laid_area) ≡ length (states unit old)
      states-long = length-states unit laid_area ∙ length-set old (turned (length old) ring.oldest (ring.used - 1)) t ∙ sym long

      fits-by : (stage : Stage) → is_finished stage ≡ true → FitsStage stage (states unit old) ring.oldest ring.used → FitsStage stage (states unit laid_area) ring.oldest ring.used
      fits-by (Inspected full) e fits = absurd (clash e)
        where
          clash : false ≡ true → ⊥
          clash e = cc
      fits-by Ready e fits = (omega (arith, fits.0, states-long), λ k le lt. ap (λ (x : SectorState). x.is_torn) (elsewhere-is k (omega (arith, states-long, long)) (λ (is : k ≡ ring.used - 1). omega arith)) ∙ fits.1 k le (omega (arith, states-long)))
      fits-by Collecting e fits = omega (arith, fits, states-long)
      fits-by Down e fits = absurd fits

      pub put-stands : Stands unit laid_area (record ring { end = ring.end + length y })
      put-stands = record {
        form = subst (λ (n : ℕ). IsRing (states unit laid_area) ring.oldest n) (omega (arith, uncounted-none ring.stage writes)) put-form;
        clean = put-clean;
        last = λ positive. record {
          end = ap (λ (n : ℕ). n + length y) (newest-end) ∙ sym (laid-end_state unit s y len lay) ∙ sym (ap (λ (x : SectorState). x.end) there-is);
          id = (stands.last some).id ∙ ap (λ (x : SectorState). x.id) newest-state ∙ sym (laid-id unit s y len lay) ∙ sym (ap (λ (x : SectorState). x.id) there-is);
        };
        stage = fits-by ring.stage writes stands.stage;
      }

      pub put-undamaged : first_damage (states unit laid_area) ≡ None
      put-undamaged = grown-undamaged unit old ring.oldest ring.used j t run-form (omega arith) (omega arith) inside good follows old-clean

      -- where all sectors are used no sector is free
      pub put-full : ring.used ≡ length old → is_full (states unit laid_area) ≡ true
      put-full full = full-yes (states unit laid_area) ring.oldest ring.used put-form (omega (arith, full, states-long, long))

      -- else one is free
      pub put-free : ring.used < length old → is_full (states unit laid_area) ≡ false
      put-free free = full-no (states unit laid_area) ring.oldest ring.used put-form (omega (arith, states-long, long))

      -- the records of the sector
      pub put-here : sector_entries unit (turned (length old) ring.oldest (ring.used - 1)) (sector_at laid_area (turned (length old) ring.oldest (ring.used - 1)))
          ≡ sector_entries unit (turned (length old) ring.oldest (ring.used - 1)) s ++ cond (checks_at y 0 unit len (unit + padded unit len)) (laid_entry unit s y len lay (turned (length old) ring.oldest (ring.used - 1)) ∷ []) []
      put-here =
          ap (sector_entries unit (turned (length old) ring.oldest (ring.used - 1))) (get_or-set_same old (turned (length old) ring.oldest (ring.used - 1)) t [] newest-in)
          ∙ laid-entries unit s y len lay (turned (length old) ring.oldest (ring.used - 1))

      prefix : List (RecordAt × List ℕ)
      prefix = flat_map (part unit old ring.oldest) (range_with_len 0 (ring.used - 1))

      -- and of the area, where the sector counts
      pub put-list : ring.used < length old → entries unit laid_area ≡ entries unit old ++ cond (checks_at y 0 unit len (unit + padded unit len)) (laid_entry unit s y len lay (turned (length old) ring.oldest (ring.used - 1)) ∷ []) []
      put-list free =
          let added : List (RecordAt × List ℕ) = cond (checks_at y 0 unit len (unit + padded unit len)) (laid_entry unit s y len lay (turned (length old) ring.oldest (ring.used - 1)) ∷ []) [] in
          let here : List (RecordAt × List ℕ) = part unit old ring.oldest (ring.used - 1) in
          grown-entries unit old ring.oldest ring.used j t run-form (omega arith) (omega arith) inside good follows (omega (arith, again))
          ∙ ap (λ (l : List (RecordAt × List ℕ)). flat_map (part unit old ring.oldest) (range_with_len 0 (ring.used - 1)) ++ l) (laid-entries unit s y len lay (turned (length old) ring.oldest (ring.used - 1)))
          ∙ sym (append_assoc (flat_map (part unit old ring.oldest) (range_with_len 0 (ring.used - 1))) here added)
          ∙ ap (λ (l : List (RecordAt × List ℕ)). l ++ added) (sym (whole (omega arith)))
        where
          whole : min ring.used (length old - 1) ≡ ring.used - 1 + 1 → entries unit old ≡ flat_map (part unit old ring.oldest) (range_with_len 0 (ring.used - 1)) ++ part unit old ring.oldest (ring.used - 1)
          whole count =
              entries-are unit old ring.oldest ring.used run-form
              ∙ ap (λ (n : ℕ). flat_map (part unit old ring.oldest) (range_with_len 0 n)) count
              ∙ ap (flat_map (part unit old ring.oldest)) (range-append 0 (ring.used - 1) 1)
              ∙ flat_map-append (part unit old ring.oldest) (range_with_len 0 (ring.used - 1)) (range_with_len (0 + (ring.used - 1)) 1)
              ∙ ap (λ (n : ℕ). flat_map (part unit old ring.oldest) (range_with_len 0 (ring.used - 1)) ++ (part unit old ring.oldest n ++ [])) (omega arith)
              ∙ ap (λ (l : List (RecordAt × List ℕ)). flat_map (part unit old ring.oldest) (range_with_len 0 (ring.used - 1)) ++ l) (append-nil (part unit old ring.oldest (ring.used - 1)))

      -- where it does not count, the list stays
      pub put-uncounted : ring.used ≡ length old → entries unit laid_area ≡ entries unit old
      put-uncounted full =
          let count : min ring.used (length old - 1) ≡ ring.used - 1 = omega arith in
          grown-uncounted unit old ring.oldest ring.used j t run-form (omega arith) (omega arith) inside good follows (omega (arith, again))
          ∙ ap (λ (n : ℕ). flat_map (part unit old ring.oldest) (range_with_len 0 n)) (sym count)
          ∙ sym (entries-are unit old ring.oldest ring.used run-form)

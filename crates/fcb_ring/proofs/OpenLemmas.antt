-- Opening the sector behind the newest, and what a cut header leaves.
use Rattle.std.proofs.Common.{◌≡◌, ℕ, ◌+◌, ◌-◌, ◌*◌, ◌/◌, ◌%◌, ◌<◌, min, true, false, cond, eqb, List, ◌++◌, length, set, take, replicate, inl, inr, refl, sym, ap, subst, ◌∙◌, arith}
use Rattle.std.specs.List.{range_with_len, flat_map}
use Rattle.std.proofs.lemmas.Bool.{cases_eq, or_cases, both_ways, cond-false, ne_eqb}
use Rattle.std.proofs.lemmas.List.{append-nil, length-set}
use Rattle.flash_sim.specs.Device.{overwritten}
use Rattle.flash_map.specs.Units.{padded, is_erased}
use Rattle.fcb_ring.specs.declared.ring.Ring.{Ring}
use Rattle.fcb_ring.specs.declared.ring.Stage.{Stage}
use Rattle.fcb_ring.specs.declared.ring.Stage.TheVariants.{Inspected, Ready, Collecting, Down}
use Rattle.fcb_ring.specs.declared.sector.SectorState.{SectorState}
use Rattle.fcb_ring.specs.SectorStates.{is_torn, state_of}
use Rattle.fcb_ring.specs.Rings.{state_at, turned, IsRing, AreClean}
use Rattle.fcb_ring.specs.Entries.{states, entries, HasEntries}
use Rattle.flash_map.specs.Area.{sector_at}
use Rattle.fcb_ring.specs.Standing.{Stands, FitsStage, IsWritten, uncounted}
use Rattle.fcb_ring.specs.Changing.{FitsOpened}
use Rattle.fcb_ring.specs.Writing.{header_image}
use Rattle.fcb_ring.proofs.RingLemmas.{turned-within}
use Rattle.fcb_ring.proofs.AreaLemmas.{HasSize, state-at, length-states}
use Rattle.flash_map.proofs.ErasedBytes.{erased_is}
use Rattle.fcb_ring.proofs.StandLemmas.{KeepsRun, kept-has, kept-form, part, entries-are, set-there, set-elsewhere}
use Rattle.fcb_ring.proofs.HeaderLemmas.{opened, opened-entries, opened-header, opened-used, opened-id, opened-not_overfull, opened-not_dirty, opened-end_state, cut_header}
use Rattle.fcb_ring.proofs.GrowLemmas.{IsGood, there, elsewhere, grown-form, grown-clean, grown-entries, grown-uncounted, grown-undamaged}

free-erased : (unit : ℕ) (s : List ℕ) → (state_of unit s).is_free ≡ true → (state_of unit s).is_torn ≡ false → is_erased s ≡ true
unfolding state_of
free-erased unit s free whole = elim (or_cases (is_erased s) (is_torn s) free) [
  | inl erased ↦ erased
  | inr torn ↦ absurd (both_ways (is_torn s) whole torn)
]

module _ (unit size : ℕ) (old : List (List ℕ)) (has : HasSize unit size old) (ring : Ring) (stands : Stands unit old ring) (ready : ring.stage ≡ Ready) where
  long : length (states unit old) ≡ length old
  long = length-states unit old

  stage-is : FitsStage Ready (states unit old) ring.oldest ring.used
  stage-is = subst (λ (s : Stage). FitsStage s (states unit old) ring.oldest ring.used) ready stands.stage

  form : IsRing (states unit old) ring.oldest ring.used
  form = subst (λ (n : ℕ). IsRing (states unit old) ring.oldest n) (omega arith) (subst (λ (s : Stage). IsRing (states unit old) ring.oldest (ring.used + uncounted s)) ready stands.form)

  pub open-place : (ring.oldest < length old) × (ring.used < length old)
  open-place = (omega (arith, form.within, long), omega (arith, stage-is.0, long))

  place-in : turned (length old) ring.oldest ring.used < length old
  place-in = turned-within (length old) ring.oldest ring.used open-place.0 (omega (arith, open-place.1))

  -- the next sector is erased
  pub next-blank : sector_at old (turned (length old) ring.oldest ring.used) ≡ replicate size 255
  next-blank =
      let s = sector_at old (turned (length old) ring.oldest ring.used) in
      let free : (state_of unit (sector_at old (turned (length old) ring.oldest ring.used))).is_free ≡ true =
      sym (ap (λ (x : SectorState). x.is_free) (state-at unit old (turned (length old) ring.oldest ring.used) place-in)) ∙ subst (λ (n : ℕ). (state_at (states unit old) (turned n ring.oldest ring.used)).is_free ≡ true) long (form.free_ones ring.used (omega arith) stage-is.0) in
      let whole : (state_of unit (sector_at old (turned (length old) ring.oldest ring.used))).is_torn ≡ false =
      sym (ap (λ (x : SectorState). x.is_torn) (state-at unit old (turned (length old) ring.oldest ring.used) place-in)) ∙ subst (λ (n : ℕ). (state_at (states unit old) (turned n ring.oldest ring.used)).is_torn ≡ false) long (stage-is.1 ring.used (omega arith) stage-is.0) in
      erased_is s (free-erased unit s free whole) ∙ ap (λ (n : ℕ). replicate n 255) (has.each (turned (length old) ring.oldest ring.used) place-in)

  abbrev written : List ℕ → List (List ℕ)
  written t = set old (turned (length old) ring.oldest ring.used) t

  clean-count : AreClean (states unit old) ring.oldest (min ring.used (length old - 1))
  clean-count k lt = stands.clean k (omega arith)

  old-list : entries unit old ≡ flat_map (part unit old ring.oldest) (range_with_len 0 ring.used)
  old-list = entries-are unit old ring.oldest ring.used form ∙ ap (λ (n : ℕ). flat_map (part unit old ring.oldest) (range_with_len 0 n)) (omega (arith, open-place.1))

  -- a header that was cut leaves the sectors that are used
  cut-kept : (id done : ℕ) → done < padded unit 8 / unit
      → KeepsRun unit old (set old (turned (length old) ring.oldest ring.used) (overwritten (replicate size 255) 0 (take (done * unit) (header_image unit id)))) ring.oldest ring.used
  cut-kept id done lt =
      let t = overwritten (replicate size 255) 0 (take (done * unit) (header_image unit id)) in
      let free : (state_of unit (overwritten (replicate size 255) 0 (take (done * unit) (header_image unit id)))).is_free ≡ true = cut_header unit id size done has.is_unit (omega (arith, has.at_least)) lt in
      record {
        long = length-set old (turned (length old) ring.oldest ring.used) t;
        same = λ k below. set-elsewhere old ring.oldest ring.used k t open-place.0 open-place.1 (omega (arith, open-place.1)) (λ (e : k ≡ ring.used). omega arith);
        free = λ k le inside. elim (cases_eq k ring.used) [
          | inl same ↦ ap (λ (m : ℕ). (state_of unit (sector_at (written t) (turned (length old) ring.oldest m))).is_free) same ∙ ap (λ (l : List ℕ). (state_of unit l).is_free) (set-there old ring.oldest ring.used t open-place.0 open-place.1) ∙ free
          | inr apart ↦
              ap (λ (l : List ℕ). (state_of unit l).is_free) (set-elsewhere old ring.oldest ring.used k t open-place.0 open-place.1 inside apart)
              ∙ sym (ap (λ (x : SectorState). x.is_free) (state-at unit old (turned (length old) ring.oldest k) (turned-within (length old) ring.oldest k open-place.0 (omega arith))))
              ∙ subst (λ (n : ℕ). (state_at (states unit old) (turned n ring.oldest k)).is_free ≡ true) long (form.free_ones k le (omega (arith, long)))
        ];
      }

  -- and the list
  pub open-cut : (id done : ℕ) → done < padded unit 8 / unit
      → HasEntries unit (set old (turned (length old) ring.oldest ring.used) (overwritten (replicate size 255) 0 (take (done * unit) (header_image unit id)))) (entries unit old)
  open-cut id done lt =
      kept-has unit old (written (overwritten (replicate size 255) 0 (take (done * unit) (header_image unit id)))) ring.oldest ring.used ring.used (cut-kept id done lt) form (omega arith) form.empty clean-count refl

  pub open-cut-form : (id done : ℕ) → done < padded unit 8 / unit
      → IsRing (states unit (set old (turned (length old) ring.oldest ring.used) (overwritten (replicate size 255) 0 (take (done * unit) (header_image unit id))))) ring.oldest ring.used
  open-cut-form id done lt = kept-form unit old (written (overwritten (replicate size 255) 0 (take (done * unit) (header_image unit id)))) ring.oldest ring.used ring.used (cut-kept id done lt) form (omega arith) form.empty

  module _ (id : ℕ) (id-is : id ≡ cond (eqb ring.used 0) 0 ((ring.id + 1) % 65536)) where
    abbrev t : List ℕ
    t = opened id size

    good : IsGood (state_of unit (opened id size))
    good = record { used = opened-used unit id size has.is_unit has.at_least; header = opened-header unit id size has.is_unit has.at_least; ends = opened-not_overfull unit id size has.is_unit has.at_least; clean = opened-not_dirty unit id size has.is_unit has.at_least }

    follows : 0 < ring.used → (state_of unit (opened id size)).id ≡ ((state_of unit (sector_at old (turned (length old) ring.oldest (ring.used - 1)))).id + 1) % 65536
    follows positive =
        let last = stands.last positive in
        let inside = turned-within (length old) ring.oldest (ring.used - 1) open-place.0 (omega (arith, open-place.1)) in
        opened-id unit id size has.is_unit has.at_least ∙ id-is ∙ cond-false (eqb ring.used 0) 0 ((ring.id + 1) % 65536) (ne_eqb ring.used 0 (λ (e : ring.used ≡ 0). omega arith))
        ∙ ap (λ (i : ℕ). (i + 1) % 65536) (last.id ∙ ap (λ (n : ℕ). (state_at (states unit old) (turned n ring.oldest (ring.used - 1))).id) long ∙ ap (λ (x : SectorState). x.id) (state-at unit old (turned (length old) ring.oldest (ring.used - 1)) inside))

    open-list : entries unit (set old (turned (length old) ring.oldest ring.used) (opened id size)) ≡ entries unit old
    open-list = elim (cases_eq (ring.used + 1) (length old)) [
      | inl full ↦ grown-uncounted unit old ring.oldest ring.used ring.used t form (omega arith) (omega arith) open-place.1 good follows full ∙ sym old-list
      | inr apart ↦
          grown-entries unit old ring.oldest ring.used ring.used t form (omega arith) (omega arith) open-place.1 good follows (omega (arith, apart, open-place.1))
          ∙ ap (λ xs. flat_map (part unit old ring.oldest) (range_with_len 0 ring.used) ++ xs) (opened-entries unit id size has.is_unit has.at_least (turned (length old) ring.oldest ring.used))
          ∙ append-nil (flat_map (part unit old ring.oldest) (range_with_len 0 ring.used)) ∙ sym old-list
    ]

    pub open-has : HasEntries unit (set old (turned (length old) ring.oldest ring.used) (opened id size)) (entries unit old)
    open-has = record { undamaged = grown-undamaged unit old ring.oldest ring.used ring.used t form (omega arith) (omega arith) open-place.1 good follows stands.clean; are = open-list }

    abbrev pub opened_area : List (List ℕ)
    opened_area = set old (turned (length old) ring.oldest ring.used) (opened id size)

    opened-long : length (states unit opened_area) ≡ length old
    opened-long = length-states unit opened_area ∙ length-set old (turned (length old) ring.oldest ring.used) t

    there-is : state_at (states unit opened_area) (turned (length (states unit opened_area)) ring.oldest ring.used) ≡ state_of unit t
    there-is = there unit old ring.oldest ring.used ring.used t form (omega arith) (omega arith) open-place.1 good follows

    fits-by : (next : Stage) → FitsOpened next (ring.used + 1) (length old) → FitsStage next (states unit opened_area) ring.oldest (ring.used + 1)
    fits-by (Inspected full) fits = absurd fits
    fits-by Ready fits = (
      omega (arith, fits, opened-long),
      λ k le lt.
          ap (λ (x : SectorState). x.is_torn) (elsewhere unit old ring.oldest ring.used ring.used t form (omega arith) (omega arith) open-place.1 good follows k (omega (arith, opened-long)) (λ (is : k ≡ ring.used). omega arith))
          ∙ stage-is.1 k (omega arith) (omega (arith, opened-long, long)),
    )
    fits-by Collecting fits = omega (arith, fits, opened-long)
    fits-by Down fits = absurd fits

    none-uncounted : (next : Stage) → FitsOpened next (ring.used + 1) (length old) → ring.used + 1 ≡ ring.used + 1 + uncounted next
    none-uncounted (Inspected full) fits = absurd fits
    none-uncounted Ready fits = omega arith
    none-uncounted Collecting fits = omega arith
    none-uncounted Down fits = absurd fits

    pub open-stands : (next : Stage) → FitsOpened next (ring.used + 1) (length old) → Stands unit opened_area (record ring { used = ring.used + 1; id = id; end = padded unit 8; stage = next })
    open-stands next fits = record {
      form = subst (λ (n : ℕ). IsRing (states unit opened_area) ring.oldest n) (none-uncounted next fits) (grown-form unit old ring.oldest ring.used ring.used t form (omega arith) (omega arith) open-place.1 good follows);
      clean = grown-clean unit old ring.oldest ring.used ring.used t form (omega arith) (omega arith) open-place.1 good follows stands.clean;
      last = λ positive.
          let back : ring.used ≡ ring.used + 1 - 1 = omega arith in
          subst (λ (n : ℕ). IsWritten (state_at (states unit opened_area) (turned (length (states unit opened_area)) ring.oldest n)) (record ring { used = ring.used + 1; id = id; end = padded unit 8; stage = next })) back
          (record {
            end = sym (opened-end_state unit id size has.is_unit has.at_least) ∙ sym (ap (λ (x : SectorState). x.end) there-is);
            id = sym (opened-id unit id size has.is_unit has.at_least) ∙ sym (ap (λ (x : SectorState). x.id) there-is);
          });
      stage = fits-by next fits;
    }

-- How the calls that read a ring meet the area's list.
use Rattle.std.proofs.Common.{◌≡◌, ℕ, ◌+◌, ◌-◌, ◌%◌, ◌<◌, ◌≤◌, min, Bool, true, false, eqb, drop, List, ◌++◌, length, Option, Some, None, refl, sym, ap, ◌∙◌, arith}
use Rattle.std.specs.Prelude.{slice_range, Contains, is_some, find}
use Rattle.std.specs.List.{flat_map, range_with_len, slice_get, starts_with}
use Rattle.flash_map.specs.Units.{padded}
use Rattle.fcb_ring.specs.declared.record.RecordAt.{RecordAt}
use Rattle.fcb_ring.specs.declared.ring.Ring.{Ring}
use Rattle.fcb_ring.specs.declared.ring.Stage.{Stage}
use Rattle.fcb_ring.specs.declared.ring.Stage.TheVariants.{Inspected, Ready, Collecting, Down}
use Rattle.fcb_ring.specs.Rings.{turned, distance}
use Rattle.fcb_ring.specs.Entries.{states, entries, sector_entries, following, records_from, HasEntries}
use Rattle.flash_map.specs.Area.{sector_at}
use Rattle.fcb_ring.specs.Standing.{Stands, FitsStage, uncounted, record_places, IsNextWith, first_with}
use Rattle.fcb_ring.proofs.RingLemmas.{turned-within, distance-turned, undamaged}
use Rattle.fcb_ring.proofs.AreaLemmas.{HasSize, length-states}
use Rattle.fcb_ring.proofs.StandLemmas.{part, entries-are}
use Rattle.fcb_ring.proofs.NextLemmas.{IsAcross, after_of, following-all, following-is, following-end, following-rest, behind, behind-is, contained_at, entry_at, body_is, find-prefix, find-behind, found-at, with-bodies, listed_from}
use Rattle.flash_map.proofs.Rounding.{padding}

module _ (unit size : ℕ) (sectors : List (List ℕ)) (has : HasSize unit size sectors) (ring : Ring) (stands : Stands unit sectors ring) (n : ℕ) (count-is : n ≡ length sectors) where
  abbrev all : ℕ
  all = ring.used + uncounted ring.stage

  counted-by : (stage : Stage) → FitsStage stage (states unit sectors) ring.oldest ring.used → (min (ring.used + uncounted stage) (length sectors - 1) ≡ min ring.used (length sectors - 1)) × (ring.used ≤ length sectors)
  counted-by (Inspected true) fits = let l = length-states unit sectors in (omega arith, omega arith)
  counted-by (Inspected false) fits = let l = length-states unit sectors in (omega arith, omega arith)
  counted-by Ready fits = let l = length-states unit sectors in let f = fits.0 in (omega arith, omega arith)
  counted-by Collecting fits = let l = length-states unit sectors in (omega arith, omega arith)
  counted-by Down fits = absurd fits

  counted-is : min (ring.used + uncounted ring.stage) (length sectors - 1) ≡ min ring.used (n - 1)
  counted-is = let c = counted-by ring.stage stands.stage in omega arith

  -- the list is that of the sectors that count, one after the other
  pub entries-counted : entries unit sectors ≡ flat_map (λ k. sector_entries unit (turned n ring.oldest k) (sector_at sectors (turned n ring.oldest k))) (range_with_len 0 (min ring.used (n - 1)))
  entries-counted =
      entries-are unit sectors ring.oldest all stands.form
      ∙ ap (λ (m : ℕ). flat_map (part unit sectors ring.oldest) (range_with_len 0 m)) counted-is
      ∙ ap (λ (m : ℕ). flat_map (λ k. sector_entries unit (turned m ring.oldest k) (sector_at sectors (turned m ring.oldest k))) (range_with_len 0 (min ring.used (n - 1)))) (sym count-is)

  -- the area of a ring that stands is not damaged
  pub stands-has : HasEntries unit sectors (entries unit sectors)
  stands-has = record {
    undamaged =
        let l = length-states unit sectors in
        undamaged (states unit sectors) ring.oldest (ring.used + uncounted ring.stage) stands.form (λ k lt. let c = counted-by ring.stage stands.stage in stands.clean k (omega arith));
    are = refl;
  }

  pub place-facts : (ring.oldest < n) × (ring.used ≤ n)
  place-facts = let c = counted-by ring.stage stands.stage in (omega (arith, stands.form.within, length-states unit sectors), omega arith)

  abbrev pub rest_of : ℕ → ℕ → List RecordAt
  rest_of k from = following unit sectors ring.oldest (min ring.used (n - 1)) k from

  moved : (k from : ℕ) → following unit sectors ring.oldest (min all (length sectors - 1)) k from ≡ rest_of k from
  moved k from = ap (λ (c : ℕ). following unit sectors ring.oldest c k from) counted-is

  -- the test on the body of a record
  abbrev pub test_of : List ℕ → RecordAt → Bool
  test_of prefix r = starts_with eqb (slice_range (sector_at sectors r.sector) r.body (r.body + r.len)) prefix

  as-entries : (prefix : List ℕ) (i : ℕ) → find (test_of prefix) (drop i (record_places (entries unit sectors))) ≡ first_with prefix (drop i (entries unit sectors))
  as-entries prefix i =
      with-bodies (λ (body : List ℕ). starts_with eqb body prefix) (λ (r : RecordAt). slice_range (sector_at sectors r.sector) r.body (r.body + r.len)) (entries unit sectors)
      (λ k entry e. body_is unit sectors ring.oldest all stands.form k entry e) i

  pub first-is : (prefix : List ℕ) (result : Option RecordAt) → result ≡ find (test_of prefix) (following unit sectors ring.oldest (min ring.used (n - 1)) 0 (padded unit 8)) → IsNextWith (entries unit sectors) prefix None result
  first-is prefix result is = is ∙ ap (find (test_of prefix)) (sym (moved 0 (padded unit 8)) ∙ following-all unit size sectors has ring.oldest all stands.form) ∙ as-entries prefix 0

  pub found-listed : (prefix : List ℕ) (i : ℕ) (result : Option RecordAt) → result ≡ first_with prefix (drop i (entries unit sectors)) → (r : RecordAt) → result ≡ Some r → Contains (record_places (entries unit sectors)) r
  found-listed prefix i result is r some =
      let at = found-at (test_of prefix) (record_places (entries unit sectors)) i r (as-entries prefix i ∙ sym is ∙ some) in
      listed_from (record_places (entries unit sectors)) at.0 (Some r) (sym at.1) r refl

  -- a record of the list, with what follows it
  pub record IsThere (r : RecordAt) : Type 0 where
    pub sector : r.sector < n
    pub fits : r.body + r.len ≤ size
    pub aligned : after_of unit r % unit ≡ 0
    pub within : after_of unit r ≤ size

  across-there : (i : ℕ) (r : RecordAt) → IsAcross unit size sectors has ring.oldest all stands.form 0 (min all (length sectors - 1)) i r → IsThere r
  across-there i r h =
      let inside : turned (length sectors) ring.oldest h.j < length sectors = turned-within (length sectors) ring.oldest h.j (omega (arith, stands.form.within, length-states unit sectors)) (omega (arith, h.below)) in
      record {
        sector = omega (arith, h.here, inside, count-is);
        fits = omega (arith, h.within, (padding unit has.is_unit).no_less r.len);
        aligned = h.aligned;
        within = h.within;
      }

  pub there : (r : RecordAt) → Contains (record_places (entries unit sectors)) r → IsThere r
  there r contained =
      let at = contained_at (record_places (entries unit sectors)) r contained in
      across-there at.0 r (behind unit size sectors has ring.oldest all stands.form at.0 r at.1)

  pub later-is : (prefix : List ℕ) (r : RecordAt) (further : ℕ) (result : Option RecordAt) → further ≡ distance n ring.oldest r.sector
      → result ≡ find (test_of prefix) (following unit sectors ring.oldest (min ring.used (n - 1)) further (after_of unit r)) → IsNextWith (entries unit sectors) prefix (Some r) result
  later-is prefix r further result far is i listed =
      let h = behind unit size sectors has ring.oldest all stands.form i r listed in
      let j : distance n ring.oldest r.sector ≡ h.j =
      ap (λ (m : ℕ). distance m ring.oldest r.sector) count-is ∙ ap (distance (length sectors) ring.oldest) h.here
      ∙ distance-turned (length sectors) ring.oldest h.j (omega (arith, stands.form.within, length-states unit sectors)) (omega (arith, h.below)) in
      is ∙ ap (λ (k : ℕ). find (test_of prefix) (following unit sectors ring.oldest (min ring.used (n - 1)) k (after_of unit r))) (far ∙ j)
      ∙ ap (find (test_of prefix)) (sym (moved h.j (after_of unit r)) ∙ sym (behind-is unit size sectors has ring.oldest all stands.form i r h)) ∙ as-entries prefix (i + 1)

  -- one sector after the other
  abbrev from_there : ℕ → ℕ → List RecordAt
  from_there k from = records_from unit (turned n ring.oldest k) (sector_at sectors (turned n ring.oldest k)) from

  part-of : (k from : ℕ) → k < min ring.used (n - 1) → following unit sectors ring.oldest (min ring.used (n - 1)) k from
      ≡ records_from unit (turned n ring.oldest k) (sector_at sectors (turned n ring.oldest k)) from ++ following unit sectors ring.oldest (min ring.used (n - 1)) (k + 1) (padded unit 8)
  part-of k from lt =
      sym (moved k from) ∙ following-is unit size sectors has ring.oldest all stands.form k from (omega (arith, counted-is))
      ∙ ap (λ (l : List RecordAt). records_from unit (turned (length sectors) ring.oldest k) (sector_at sectors (turned (length sectors) ring.oldest k)) from ++ l) (following-rest unit size sectors has ring.oldest all stands.form k (omega (arith, counted-is)) ∙ moved (k + 1) (padded unit 8))
      ∙ ap (λ (m : ℕ). records_from unit (turned m ring.oldest k) (sector_at sectors (turned m ring.oldest k)) from ++ following unit sectors ring.oldest (min ring.used (n - 1)) (k + 1) (padded unit 8)) (sym count-is)

  pub found-there : (test : RecordAt → Bool) (k from : ℕ) (r : RecordAt) → k < min ring.used (n - 1) → find test (records_from unit (turned n ring.oldest k) (sector_at sectors (turned n ring.oldest k)) from) ≡ Some r
      → find test (following unit sectors ring.oldest (min ring.used (n - 1)) k from) ≡ Some r
  found-there test k from r lt found =
      ap (find test) (part-of k from lt)
      ∙ find-prefix test (records_from unit (turned n ring.oldest k) (sector_at sectors (turned n ring.oldest k)) from) (following unit sectors ring.oldest (min ring.used (n - 1)) (k + 1) (padded unit 8)) r found

  pub none-there : (test : RecordAt → Bool) (k from : ℕ) → k < min ring.used (n - 1) → find test (records_from unit (turned n ring.oldest k) (sector_at sectors (turned n ring.oldest k)) from) ≡ None
      → find test (following unit sectors ring.oldest (min ring.used (n - 1)) k from) ≡ find test (following unit sectors ring.oldest (min ring.used (n - 1)) (k + 1) (padded unit 8))
  none-there test k from lt none =
      ap (find test) (part-of k from lt)
      ∙ find-behind test (records_from unit (turned n ring.oldest k) (sector_at sectors (turned n ring.oldest k)) from) (following unit sectors ring.oldest (min ring.used (n - 1)) (k + 1) (padded unit 8)) none

  pub none-behind : (test : RecordAt → Bool) (k from : ℕ) → min ring.used (n - 1) ≤ k → find test (following unit sectors ring.oldest (min ring.used (n - 1)) k from) ≡ None
  none-behind test k from ge = ap (find test) (sym (moved k from) ∙ following-end unit size sectors has ring.oldest all stands.form k from (omega (arith, counted-is)))

  pub body-there : (r : RecordAt) (i : ℕ) → slice_get (record_places (entries unit sectors)) i ≡ Some r → slice_get (entries unit sectors) i ≡ Some (r, slice_range (sector_at sectors r.sector) r.body (r.body + r.len))
  body-there r i listed =
      let e = entry_at (entries unit sectors) i r listed in
      e.1 ∙ ap (λ (b : List ℕ). Some (r, b)) (body_is unit sectors ring.oldest all stands.form i (r, e.0) e.1)

pub is_none_from : (o : Option RecordAt) → is_some o ≡ false → o ≡ None
is_none_from None e = refl
is_none_from (Some r) e = absurd (clash e)
  where
    clash : true ≡ false → ⊥
    clash e = cc

pub some_from : (o : Option RecordAt) → is_some o ≡ true → (r : RecordAt) × (o ≡ Some r)
some_from None e = absurd (clash e)
  where
    clash : false ≡ true → ⊥
    clash e = cc
some_from (Some r) e = (r, refl)

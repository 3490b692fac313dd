-- Counting the records of the oldest sector by a walk over the list.
use Rattle.std.proofs.Common.{◌≡◌, ◌≢◌, ℕ, zero, suc, ◌+◌, ◌-◌, ◌^◌, ◌<◌, ◌≤◌, min, Bool, true, false, cond, eqb, not, List, [], ◌∷◌, ◌++◌, length, length-append, map, Option, Some, None, refl, sym, ap, subst, ◌∙◌, arith}
use Rattle.std.specs.List.{range_with_len, filter, flat_map, slice_get, All}
use Rattle.std.proofs.lemmas.List.Elements.{All-nil, All-cons, All-head, All-tail, All-append, All-push, All-weaker}
use Rattle.std.proofs.lemmas.List.Sums.{sum_by-cons}
use Rattle.std.specs.Option.{option_eq}
use Rattle.std.proofs.lemmas.Bool.{both_ways, ne_eqb, eq-eqb, eqb-true, not-false}
use Rattle.std.proofs.lemmas.Option.{none-some}
use Rattle.flash_sim.specs.Bank.{IsLawful}
use Rattle.flash_sim.specs.Device.{Device}
use Rattle.flash_map.specs.Area.{unit_of, sectors_of, sector_at}
use Rattle.flash_map.specs.Units.{IsUnit}
use Rattle.flash_map.proofs.Rounding.{padding}
use Rattle.fcb_ring.specs.declared.record.Record.{Record}
use Rattle.fcb_ring.specs.declared.record.RecordAt.{RecordAt}
use Rattle.fcb_ring.specs.declared.ring.Ring.{Ring}
use Rattle.fcb_ring.specs.Changing.{sector_list}
use Rattle.fcb_ring.specs.Entries.{entry_of, sector_entries}
use Rattle.fcb_ring.specs.Records.{records}
use Rattle.fcb_ring.specs.Rings.{turned}
use Rattle.fcb_ring.specs.Standing.{IsNext, entries_on, record_places}
use Rattle.fcb_ring.specs.Writing.{record_cost}
use Rattle.fcb_ring.proofs.AreaLemmas.{sector_is}
use Rattle.fcb_ring.proofs.CostLemmas.{entries-cost, list_cost}
use Rattle.fcb_ring.proofs.LayLemmas.{end-after-header}
use Rattle.fcb_ring.proofs.RingLemmas.{turned-same, turned-zero}
use Rattle.fcb_ring.proofs.StandLemmas.{entries-are, part}
use Rattle.fcb_ring.proofs.WalkLemmas.{Entry, IsAt, start, step, first-of}
use Rattle.event_ring.specs.Standing.{IsOpen}
use Rattle.event_ring.proofs.PartLemmas.{parts-first}
use Rattle.event_ring.proofs.PutSteps.{has, within, form, all-count}

-- all of this sector
abbrev pub AreOf : ℕ → List Entry → Type 0
AreOf place list = All (λ entry. entry.0.sector ≡ place) list

-- none of it
abbrev pub AreNotOf : ℕ → List Entry → Type 0
AreNotOf place list = All (λ entry. entry.0.sector ≢ place) list

all-of : (place : ℕ) (sector : List ℕ) (rs : List Record) → AreOf place (map (entry_of place sector) rs)
all-of place sector [] = All-nil (λ (entry : Entry). entry.0.sector ≡ place)
all-of place sector (r ∷ rs) = All-cons (λ (entry : Entry). entry.0.sector ≡ place) (entry_of place sector r) (map (entry_of place sector) rs) refl (all-of place sector rs)

entries-of : (unit place : ℕ) (sector : List ℕ) → AreOf place (sector_entries unit place sector)
unfolding sector_entries
entries-of unit place sector = all-of place sector (filter (λ r. r.checks) (records unit sector))

parts-not : (place : ℕ) (f : ℕ → List Entry) (g : ℕ → ℕ) (a n : ℕ) → ((k : ℕ) → a ≤ k → k < a + n → AreOf (g k) (f k)) → ((k : ℕ) → a ≤ k → k < a + n → g k ≢ place) → AreNotOf place (flat_map f (range_with_len a n))
parts-not place f g a zero are apart = All-nil (λ (entry : Entry). entry.0.sector ≢ place)
parts-not place f g a (suc n) are apart =
    All-append (λ (entry : Entry). entry.0.sector ≢ place) (f a) (flat_map f (range_with_len (a + 1) n))
    (All-weaker (λ (entry : Entry). entry.0.sector ≡ g a) (λ (entry : Entry). entry.0.sector ≢ place) (λ entry e same. apart a (omega arith) (omega arith) (sym e ∙ same)) (f a) (are a (omega arith) (omega arith)))
    (parts-not place f g (a + 1) n (λ k low high. are k (omega arith) (omega arith)) (λ k low high. apart k (omega arith) (omega arith)))

-- ---- the front of the list

module _ (d : Device) (ring : Ring) (lawful : IsLawful d.banks d.bytes) (mounted : IsOpen d ring) (some : 0 < ring.used) where
  abbrev f : ℕ → List Entry
  f = part (unit_of d ring.area) (sectors_of d ring.area) ring.oldest

  abbrev n : ℕ
  n = length (sectors_of d ring.area)

  abbrev pub behind : List Entry
  behind = flat_map (λ k. part (unit_of d ring.area) (sectors_of d ring.area) ring.oldest (k + 1)) (range_with_len 0 (ring.used - 1))

  pub list-prefix : entries_on d ring.area ≡ sector_list d ring.area ring.oldest ++ behind
  list-prefix =
      let again : min ring.used (length (sectors_of d ring.area) - 1) ≡ 1 + (ring.used - 1) = all-count d ring lawful mounted ∙ omega arith in
      let w = within d ring lawful mounted in
      entries-are (unit_of d ring.area) (sectors_of d ring.area) ring.oldest ring.used (form d ring lawful mounted)
      ∙ ap (λ (m : ℕ). flat_map (part (unit_of d ring.area) (sectors_of d ring.area) ring.oldest) (range_with_len 0 m)) again
      ∙ parts-first (part (unit_of d ring.area) (sectors_of d ring.area) ring.oldest) (ring.used - 1)
      ∙ ap (λ (p : ℕ). sector_entries (unit_of d ring.area) p (sector_at (sectors_of d ring.area) p) ++ behind) (turned-zero (length (sectors_of d ring.area)) ring.oldest w.0)

  pub prefix-of : AreOf ring.oldest (sector_list d ring.area ring.oldest)
  prefix-of = entries-of (unit_of d ring.area) ring.oldest (sector_at (sectors_of d ring.area) ring.oldest)

  pub behind-not : AreNotOf ring.oldest behind
  behind-not =
      let w = within d ring lawful mounted in
      parts-not ring.oldest (λ k. part (unit_of d ring.area) (sectors_of d ring.area) ring.oldest (k + 1)) (λ k. turned (length (sectors_of d ring.area)) ring.oldest (k + 1)) 0 (ring.used - 1)
      (λ k low high. entries-of (unit_of d ring.area) (turned (length (sectors_of d ring.area)) ring.oldest (k + 1)) (sector_at (sectors_of d ring.area) (turned (length (sectors_of d ring.area)) ring.oldest (k + 1))))
      (λ k low high (same : turned (length (sectors_of d ring.area)) ring.oldest (k + 1) ≡ ring.oldest).
      let is = turned-same (length (sectors_of d ring.area)) ring.oldest (k + 1) 0 w.0 (omega (arith, w.1)) (omega (arith, w.1)) (same ∙ sym (turned-zero (length (sectors_of d ring.area)) ring.oldest w.0)) in omega arith)

  -- a sector has room for fewer records than it has bytes
  pub prefix-few : length (sector_list d ring.area ring.oldest) < 2 ^ 16
  prefix-few =
      let size = has d ring lawful mounted in
      let w = within d ring lawful mounted in
      let s : List ℕ = sector_at (sectors_of d ring.area) ring.oldest in
      let long = size.each ring.oldest w.0 in
      let cost = entries-cost (unit_of d ring.area) ring.oldest (sector_at (sectors_of d ring.area) ring.oldest) size.is_unit in
      let end = end-after-header (unit_of d ring.area) (sector_at (sectors_of d ring.area) ring.oldest) (sector_is size (sector_at (sectors_of d ring.area) ring.oldest) long) in
      let few = length-cost (unit_of d ring.area) (sector_list d ring.area ring.oldest) size.is_unit in
      omega (arith, cost, end.1, few, long, size.at_most)
    where
      length-cost : (unit : ℕ) (list : List Entry) → IsUnit unit → length list ≤ list_cost unit list
      length-cost unit [] is_unit = omega arith
      length-cost unit (e ∷ list) is_unit =
          let more = sum_by-cons (λ (entry : Entry). record_cost unit (length entry.1)) e list in
          let ih = length-cost unit list is_unit in
          let pad = padding unit is_unit in
          omega (arith, pad.positive)

-- ---- the walk

heads-same : (x y : Entry) (ys zs : List Entry) → x ∷ ys ≡ y ∷ zs → (x ≡ y) × (ys ≡ zs)
heads-same x y ys zs e = (cc, cc)

-- where a list is cut before the first that is not of the sector, the front is that of the sector
prefix-is : (place : ℕ) (xs rest done later : List Entry) → xs ++ rest ≡ done ++ later → AreOf place xs → AreNotOf place rest → AreOf place done
    → ((e : Entry) (more : List Entry) → later ≡ e ∷ more → e.0.sector ≢ place) → length done ≡ length xs
prefix-is place [] rest [] later same of not of_done next = refl
prefix-is place [] rest (y ∷ done) later same of not of_done next =
    let there : AreNotOf place (y ∷ (done ++ later)) = subst (AreNotOf place) same not in
    absurd (All-head (λ (entry : Entry). entry.0.sector ≢ place) y (done ++ later) there (All-head (λ (entry : Entry). entry.0.sector ≡ place) y done of_done))
prefix-is place (x ∷ xs) rest [] later same of not of_done next = absurd (next x (xs ++ rest) (sym same) (All-head (λ (entry : Entry). entry.0.sector ≡ place) x xs of))
prefix-is place (x ∷ xs) rest (y ∷ done) later same of not of_done next =
    ap suc (prefix-is place xs rest done later (heads-same x y (xs ++ rest) (done ++ later) same).1 (All-tail (λ (entry : Entry). entry.0.sector ≡ place) x xs of) not (All-tail (λ (entry : Entry). entry.0.sector ≡ place) y done of_done) next)

-- so many records of the sector were passed
pub record Counts (list : List Entry) (place : ℕ) (at : Option RecordAt) (count : ℕ) : Type 0 where
  pub done : List Entry
  pub later : List Entry
  pub is_at : IsAt list at done later
  pub of : AreOf place done
  pub is : count ≡ length done

pub counts-start : (list : List Entry) (place : ℕ) (next : Option RecordAt) → IsNext list None next → Counts list place next 0
counts-start list place next is = record { done = []; later = list; is_at = start list next is; of = All-nil (λ (entry : Entry). entry.0.sector ≡ place); is = refl }

pub counts-step : (list : List Entry) (place : ℕ) (r : RecordAt) (count : ℕ) → Counts list place (Some r) count → r.sector ≡ place → (next : Option RecordAt) → IsNext list (Some r) next → Counts list place next (count + 1)
counts-step list place r count so_far here next is =
    let f = first-of so_far.later r so_far.is_at.here in
    let are : list ≡ so_far.done ++ (r, f.0) ∷ f.1 = so_far.is_at.are ∙ ap (λ (l : List Entry). so_far.done ++ l) f.2 in
    record {
      done = so_far.done ++ (r, f.0) ∷ [];
      later = f.1;
      is_at = step list r so_far.done f.0 f.1 next are is;
      of = All-push (λ (entry : Entry). entry.0.sector ≡ place) so_far.done (r, f.0) so_far.of here;
      is = omega (arith, so_far.is, length-append so_far.done ((r, f.0) ∷ []));
    }

module _ (d : Device) (ring : Ring) (lawful : IsLawful d.banks d.bytes) (mounted : IsOpen d ring) (some : 0 < ring.used) (count : ℕ) where
  counted : (at : Option RecordAt) → (so_far : Counts (entries_on d ring.area) ring.oldest at count) → ((e : Entry) (more : List Entry) → so_far.later ≡ e ∷ more → e.0.sector ≢ ring.oldest) → count ≡ length (sector_list d ring.area ring.oldest)
  counted at so_far next =
      so_far.is
      ∙ prefix-is ring.oldest (sector_list d ring.area ring.oldest) (behind d ring lawful mounted some) so_far.done so_far.later (sym (list-prefix d ring lawful mounted some) ∙ so_far.is_at.are)
      (prefix-of d ring lawful mounted some) (behind-not d ring lawful mounted some) so_far.of next

  -- at the end of the list
  pub counted-all : Counts (entries_on d ring.area) ring.oldest None count → count ≡ length (sector_list d ring.area ring.oldest)
  counted-all so_far = counted None so_far (λ e more is. none-left so_far.later so_far.is_at.here e more is)
    where
      none-left : (later : List Entry) → None ≡ slice_get (record_places later) 0 → (e : Entry) (more : List Entry) → later ≡ e ∷ more → e.0.sector ≢ ring.oldest
      none-left later here e more is = absurd (none-some e.0 (here ∙ ap (λ (l : List Entry). slice_get (record_places l) 0) is))

  -- at a record of another sector
  pub counted-prefix : (r : RecordAt) → Counts (entries_on d ring.area) ring.oldest (Some r) count → r.sector ≢ ring.oldest → count ≡ length (sector_list d ring.area ring.oldest)
  counted-prefix r so_far other = counted (Some r) so_far (λ e more is. next so_far.later so_far.is_at.here e more is)
    where
      some-same : (x y : RecordAt) → Some x ≡ Some y → x ≡ y
      some-same x y e = cc

      next : (later : List Entry) → Some r ≡ slice_get (record_places later) 0 → (e : Entry) (more : List Entry) → later ≡ e ∷ more → e.0.sector ≢ ring.oldest
      next later here e more is same = other (ap (λ (x : RecordAt). x.sector) (some-same r e.0 (here ∙ ap (λ (l : List Entry). slice_get (record_places l) 0) is)) ∙ same)

  -- no more were passed than the sector has
  pub counted-few : (at : Option RecordAt) → Counts (entries_on d ring.area) ring.oldest at count → count < 2 ^ 16
  counted-few at so_far =
      let few = prefix-few d ring lawful mounted some in
      let le = prefix-less ring.oldest (sector_list d ring.area ring.oldest) (behind d ring lawful mounted some) so_far.done so_far.later (sym (list-prefix d ring lawful mounted some) ∙ so_far.is_at.are) (behind-not d ring lawful mounted some) so_far.of in
      omega (arith, so_far.is)
    where
      prefix-less : (place : ℕ) (xs rest done later : List Entry) → xs ++ rest ≡ done ++ later → AreNotOf place rest → AreOf place done → length done ≤ length xs
      prefix-less place xs rest [] later same not of_done = omega arith
      prefix-less place [] rest (y ∷ done) later same not of_done =
          let there : AreNotOf place (y ∷ (done ++ later)) = subst (AreNotOf place) same not in
          absurd (All-head (λ (entry : Entry). entry.0.sector ≢ place) y (done ++ later) there (All-head (λ (entry : Entry). entry.0.sector ≡ place) y done of_done))
      prefix-less place (x ∷ xs) rest (y ∷ done) later same not of_done =
          let ih = prefix-less place xs rest done later (heads-same x y (xs ++ rest) (done ++ later) same).1 not (All-tail (λ (entry : Entry). entry.0.sector ≡ place) y done of_done) in omega arith

-- ---- whether a record is of the oldest sector

module _ (used oldest sector : ℕ) (some : 0 < used) (found : Option ℕ) (found-is : found ≡ cond (eqb used 0) None (Some oldest)) (other : Bool) (other-is : other ≡ not (option_eq eqb (Some sector) found)) where
  found-some : found ≡ Some oldest
  found-some = found-is ∙ ap (λ (b : Bool). cond b None (Some oldest)) (ne_eqb used 0 (λ (none : used ≡ 0). omega arith))

  tests : other ≡ not (eqb sector oldest)
  tests = other-is ∙ ap (λ (o : Option ℕ). not (option_eq eqb (Some sector) o)) found-some

  pub sector-same : other ≡ false → sector ≡ oldest
  sector-same isnt = eqb-true sector oldest (not-false (eqb sector oldest) (sym tests ∙ isnt))

  pub sector-other : other ≡ true → sector ≢ oldest
  sector-other is same = both_ways other (tests ∙ ap not (eq-eqb sector oldest same)) is

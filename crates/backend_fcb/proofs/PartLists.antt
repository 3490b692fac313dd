-- The parts of a ring: the bodies of each of its sectors.
use Rattle.std.proofs.Common.{◌≡◌, ℕ, ◌-◌, ◌<◌, ◌≤◌, min, List, [], ◌∷◌, ◌++◌, length, map, get_or, inl, inr, refl, sym, ap, subst, ◌∙◌, arith}
use Rattle.flash_map.specs.Area.{value_limit}
use Rattle.std.specs.List.{range_with_len, flat_map, sum_by, All}
use Rattle.std.proofs.lemmas.Bool.{cases_lt}
use Rattle.std.proofs.lemmas.List.FromFn.{get_or-map-range_with_len, length-map-range_with_len}
use Rattle.flash_sim.specs.Device.{Device}
use Rattle.fcb_ring.specs.declared.ring.Ring.{Ring}
use Rattle.fcb_ring.specs.Entries.{bodies}
use Rattle.fcb_ring.specs.Rings.{turned}
use Rattle.fcb_ring.specs.Standing.{StandsOn, entries_on, uncounted}
use Rattle.fcb_ring.proofs.PlaceLemmas.{All-map}
use Rattle.fcb_ring.proofs.RingLemmas.{by_distance, turned-within}
use Rattle.backend_fcb.specs.Changing.{parts_on}
use Rattle.record_settings.specs.Room.{cap, put_cost}
use Rattle.backend_fcb.specs.Reading.{puts_cost}
use Rattle.item_laws.specs.PairRounds.{joined}
use Rattle.backend_fcb.specs.Standing.{bodies_on}
use Rattle.backend_fcb.proofs.PutsCosts.{CostsFit, costs-at, costs-from, puts-of, puts-none}
use Rattle.backend_fcb.proofs.RingLists.{part_at, entries-parts, of-part, of-other, within}
use Rattle.backend_fcb.proofs.SectorLists.{bodies-append}
use Rattle.backend_fcb.proofs.WalkLemmas.{Entry}

pub joined-bodies : (p : ℕ → List Entry) (xs : List ℕ) → joined (map (λ k. bodies (p k)) xs) ≡ bodies (flat_map p xs)
joined-bodies p [] = refl
joined-bodies p (x ∷ xs) = ap (λ (l : List (List ℕ)). bodies (p x) ++ l) (joined-bodies p xs) ∙ sym (bodies-append (p x) (flat_map p xs))

-- a part whose values fit a sector
abbrev pub FitsOne : ℕ → ℕ → ℕ → List (List ℕ) → Type 0
FitsOne limit unit size part = sum_by (put_cost limit unit) part ≤ cap unit size

module _ (d : Device) (ring : Ring) (on : StandsOn d ring) (none : uncounted ring.stage ≡ 0) (free : ring.used < ring.area.sectors) where
  pub joined-on : joined (parts_on d ring) ≡ bodies_on d ring.area
  joined-on =
      let n : ring.used ≡ min ring.used (ring.area.sectors - 1) = omega arith in
      joined-bodies (part_at d ring) (range_with_len 0 ring.used) ∙ ap (λ (m : ℕ). bodies (flat_map (part_at d ring) (range_with_len 0 m))) n ∙ sym (ap bodies (entries-parts d ring on none))

  pub count-parts : length (parts_on d ring) ≡ ring.used
  count-parts = length-map-range_with_len (λ k. bodies (part_at d ring k)) 0 ring.used

  pub parts-fit : (unit size : ℕ) → CostsFit (value_limit ring.area) unit size (entries_on d ring.area) ring.area.sectors → All (FitsOne (value_limit ring.area) unit size) (parts_on d ring)
  parts-fit unit size fit =
      All-map (FitsOne (value_limit ring.area) unit size) (λ k. bodies (part_at d ring k)) 0 ring.used
      (λ k from below.
      let at : turned ring.area.sectors ring.oldest k < ring.area.sectors = turned-within ring.area.sectors ring.oldest k (within d ring on none) (omega arith) in
      let le = costs-at (value_limit ring.area) unit size (entries_on d ring.area) ring.area.sectors fit (turned ring.area.sectors ring.oldest k) at in
      let e = puts-of (value_limit ring.area) unit (entries_on d ring.area) (part_at d ring k) (turned ring.area.sectors ring.oldest k) (of-part d ring on none k (omega arith)) in
      omega arith)

  part-of-all : (unit size k : ℕ) → k < ring.used → All (FitsOne (value_limit ring.area) unit size) (parts_on d ring) → FitsOne (value_limit ring.area) unit size (bodies (part_at d ring k))
  part-of-all unit size k lt all =
      let count = count-parts in
      let is : get_or (parts_on d ring) k [] ≡ bodies (part_at d ring k) = get_or-map-range_with_len (λ j. bodies (part_at d ring j)) 0 ring.used k k [] lt (omega arith) in
      subst (FitsOne (value_limit ring.area) unit size) is (all k [] (omega arith))

  pub fit-parts : (unit size : ℕ) → All (FitsOne (value_limit ring.area) unit size) (parts_on d ring) → CostsFit (value_limit ring.area) unit size (entries_on d ring.area) ring.area.sectors
  fit-parts unit size all =
      costs-from (value_limit ring.area) unit size (entries_on d ring.area) ring.area.sectors
      (by_distance ring.area.sectors ring.oldest (λ place. puts_cost (value_limit ring.area) unit (entries_on d ring.area) place ≤ cap unit size) (within d ring on none)
      (λ k lt. elim (cases_lt k ring.used) [
        | inl used ↦
            let one : sum_by (put_cost (value_limit ring.area) unit) (bodies (part_at d ring k)) ≤ cap unit size = part-of-all unit size k used all in
            let e = puts-of (value_limit ring.area) unit (entries_on d ring.area) (part_at d ring k) (turned ring.area.sectors ring.oldest k) (of-part d ring on none k (omega arith)) in
            omega arith
        | inr free ↦
            let e = puts-none (value_limit ring.area) unit (entries_on d ring.area) (turned ring.area.sectors ring.oldest k) (of-other d ring on none k (omega arith) lt) in
            omega arith
      ]))

-- The records of a ring, sector by sector.
use Rattle.std.proofs.Common.{◌≡◌, ◌≢◌, ℕ, suc, ◌+◌, ◌-◌, ◌<◌, ◌≤◌, min, List, ◌++◌, length, refl, sym, ap, subst, ◌∙◌, arith}
use Rattle.std.specs.List.{range_with_len, flat_map}
use Rattle.flash_sim.specs.Bank.{IsLawful}
use Rattle.flash_sim.specs.Device.{Device}
use Rattle.flash_map.specs.Area.{unit_of, sector_size, sectors_of, sector_at}
use Rattle.flash_map.specs.Units.{padded}
use Rattle.fcb_ring.specs.declared.ring.Ring.{Ring}
use Rattle.fcb_ring.specs.declared.ring.Stage.TheVariants.{Ready, Collecting}
use Rattle.fcb_ring.specs.declared.sector.SectorState.{SectorState}
use Rattle.fcb_ring.specs.Changing.{newest_place, sector_list}
use Rattle.fcb_ring.specs.Entries.{states, sector_entries}
use Rattle.fcb_ring.specs.Records.{records_end}
use Rattle.fcb_ring.specs.Rings.{state_at, turned}
use Rattle.fcb_ring.specs.SectorStates.{state_of}
use Rattle.fcb_ring.specs.Standing.{StandsOn, entries_on, uncounted}
use Rattle.fcb_ring.proofs.AreaLemmas.{has_size, count-sectors, length-states, state-at, sector_is}
use Rattle.fcb_ring.proofs.CostLemmas.{list_cost, entries-cost}
use Rattle.fcb_ring.proofs.LayLemmas.{end-after-header}
use Rattle.fcb_ring.proofs.RingLemmas.{turned-within, turned-zero, turned-same}
use Rattle.fcb_ring.proofs.StandLemmas.{entries-are}
use Rattle.backend_fcb.proofs.SectorLists.{AreOf, AreNotOf, of_sector, entries-of, parts-not, parts-one}
use Rattle.backend_fcb.proofs.WalkLemmas.{Entry}

-- the records of the sector so far behind the oldest
abbrev pub part_at : Device → Ring → ℕ → List Entry
part_at d ring k = sector_list d ring.area (turned ring.area.sectors ring.oldest k)

state-end : (unit : ℕ) (sector : List ℕ) → (state_of unit sector).end ≡ records_end unit sector
unfolding state_of
state-end unit sector = refl

module _ (d : Device) (ring : Ring) (on : StandsOn d ring) (none : uncounted ring.stage ≡ 0) where
  pub entries-parts : entries_on d ring.area ≡ flat_map (part_at d ring) (range_with_len 0 (min ring.used (ring.area.sectors - 1)))
  entries-parts =
      let unit = unit_of d ring.area in
      let sectors = sectors_of d ring.area in
      entries-are (unit_of d ring.area) (sectors_of d ring.area) ring.oldest (ring.used + uncounted ring.stage) on.sectors.form
      ∙ ap (λ (n : ℕ). flat_map (λ k. sector_entries (unit_of d ring.area) (turned n ring.oldest k) (sector_at (sectors_of d ring.area) (turned n ring.oldest k))) (range_with_len 0 (min (ring.used + uncounted ring.stage) (n - 1)))) (count-sectors d ring.area)
      ∙ ap (λ (m : ℕ). flat_map (part_at d ring) (range_with_len 0 (min m (ring.area.sectors - 1)))) (omega (arith, none))

  pub within : ring.oldest < ring.area.sectors
  within = omega (arith, on.sectors.form.within, length-states (unit_of d ring.area) (sectors_of d ring.area), count-sectors d ring.area)

  pub part-of : (k : ℕ) → AreOf (turned ring.area.sectors ring.oldest k) (part_at d ring k)
  part-of k = entries-of (unit_of d ring.area) (turned ring.area.sectors ring.oldest k) (sector_at (sectors_of d ring.area) (turned ring.area.sectors ring.oldest k))

  pub place-apart : (j k : ℕ) → j < ring.area.sectors → k < ring.area.sectors → j ≢ k → turned ring.area.sectors ring.oldest j ≢ turned ring.area.sectors ring.oldest k
  place-apart j k a b apart same = apart (turned-same ring.area.sectors ring.oldest j k within a b same)

  -- the records of a sector that counts
  pub of-part : (j : ℕ) → j < min ring.used (ring.area.sectors - 1) → of_sector (turned ring.area.sectors ring.oldest j) (entries_on d ring.area) ≡ part_at d ring j
  of-part j lt =
      ap (of_sector (turned ring.area.sectors ring.oldest j)) entries-parts
      ∙ parts-one (part_at d ring) (turned ring.area.sectors ring.oldest) 0 (min ring.used (ring.area.sectors - 1)) j (omega arith) (omega arith) (λ k from below. part-of k)
      (λ k from below same. turned-same ring.area.sectors ring.oldest k j within (omega arith) (omega arith) same)

  -- no other sector has any
  pub of-other : (j : ℕ) → min ring.used (ring.area.sectors - 1) ≤ j → j < ring.area.sectors → AreNotOf (turned ring.area.sectors ring.oldest j) (entries_on d ring.area)
  of-other j from lt =
      subst (AreNotOf (turned ring.area.sectors ring.oldest j)) (sym entries-parts)
      (parts-not (turned ring.area.sectors ring.oldest j) (part_at d ring) (turned ring.area.sectors ring.oldest) 0 (min ring.used (ring.area.sectors - 1)) (λ k low below. part-of k)
      (λ k low below same. let e = turned-same ring.area.sectors ring.oldest k j within (omega arith) (omega arith) same in omega arith))

  -- the records of the oldest sector come first
  pub oldest-first : 0 < min ring.used (ring.area.sectors - 1) → entries_on d ring.area ≡ sector_list d ring.area ring.oldest ++ flat_map (part_at d ring) (range_with_len 1 (min ring.used (ring.area.sectors - 1) - 1))
  oldest-first some =
      let n : min ring.used (ring.area.sectors - 1) ≡ suc (min ring.used (ring.area.sectors - 1) - 1) = omega arith in
      entries-parts
      ∙ ap (λ (m : ℕ). flat_map (part_at d ring) (range_with_len 0 m)) n
      ∙ ap (λ (p : ℕ). sector_list d ring.area p ++ flat_map (part_at d ring) (range_with_len 1 (min ring.used (ring.area.sectors - 1) - 1))) (turned-zero ring.area.sectors ring.oldest within)

  pub rest-not : 0 < min ring.used (ring.area.sectors - 1) → AreNotOf ring.oldest (flat_map (part_at d ring) (range_with_len 1 (min ring.used (ring.area.sectors - 1) - 1)))
  rest-not some =
      parts-not ring.oldest (part_at d ring) (turned ring.area.sectors ring.oldest) 1 (min ring.used (ring.area.sectors - 1) - 1) (λ k low below. part-of k)
      (λ k low below same. let e = turned-same ring.area.sectors ring.oldest k 0 within (omega arith) (omega arith) (same ∙ sym (turned-zero ring.area.sectors ring.oldest within)) in omega arith)

  -- the records of the newest sector end where the ring says
  newest-in : 0 < ring.used → ring.used ≤ ring.area.sectors → newest_place ring < length (sectors_of d ring.area)
  newest-in some most = omega (arith, turned-within ring.area.sectors ring.oldest (ring.used - 1) within (omega arith), count-sectors d ring.area)

  end-is : 0 < ring.used → ring.used ≤ ring.area.sectors → ring.end ≡ records_end (unit_of d ring.area) (sector_at (sectors_of d ring.area) (newest_place ring))
  end-is some most =
      let written = on.sectors.last some in
      let at : turned (length (states (unit_of d ring.area) (sectors_of d ring.area))) ring.oldest (ring.used - 1) ≡ newest_place ring =
      ap (λ (n : ℕ). turned n ring.oldest (ring.used - 1)) (length-states (unit_of d ring.area) (sectors_of d ring.area) ∙ count-sectors d ring.area) in
      let state : state_at (states (unit_of d ring.area) (sectors_of d ring.area)) (newest_place ring) ≡ state_of (unit_of d ring.area) (sector_at (sectors_of d ring.area) (newest_place ring)) =
      state-at (unit_of d ring.area) (sectors_of d ring.area) (newest_place ring) (newest-in some most) in
      written.end ∙ ap (λ (p : ℕ). (state_at (states (unit_of d ring.area) (sectors_of d ring.area)) p).end) at ∙ ap (λ (s : SectorState). s.end) state ∙ state-end (unit_of d ring.area) (sector_at (sectors_of d ring.area) (newest_place ring))

  pub newest-cost : IsLawful d.banks d.bytes → 0 < ring.used → ring.used ≤ ring.area.sectors → padded (unit_of d ring.area) 8 + list_cost (unit_of d ring.area) (sector_list d ring.area (newest_place ring)) ≤ ring.end
  newest-cost lawful some most =
      let has = has_size d ring.area lawful on.area in
      let cost = entries-cost (unit_of d ring.area) (newest_place ring) (sector_at (sectors_of d ring.area) (newest_place ring)) has.is_unit in
      omega (arith, end-is some most)

  pub end-within : IsLawful d.banks d.bytes → 0 < ring.used → ring.used ≤ ring.area.sectors → ring.end ≤ sector_size d ring.area
  end-within lawful some most =
      let has = has_size d ring.area lawful on.area in
      let long = has.each (newest_place ring) (newest-in some most) in
      let le = (end-after-header (unit_of d ring.area) (sector_at (sectors_of d ring.area) (newest_place ring)) (sector_is has (sector_at (sectors_of d ring.area) (newest_place ring)) long)).1 in
      omega (arith, end-is some most, long)

pub ready-none : (ring : Ring) → ring.stage ≡ Ready → uncounted ring.stage ≡ 0
ready-none ring ready = ap uncounted ready

pub collecting-none : (ring : Ring) → ring.stage ≡ Collecting → uncounted ring.stage ≡ 0
collecting-none ring collecting = ap uncounted collecting

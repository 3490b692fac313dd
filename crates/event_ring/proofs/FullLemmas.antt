-- Drops come only where a log is full, and a blank area is filled.
use Rattle.std.proofs.Common.{◌≡◌, ℕ, ◌+◌, ◌-◌, ◌*◌, ◌<◌, ◌≤◌, min, true, false, not, List, [], length, inl, inr, refl, sym, ap, subst, ◌∙◌, arith}
use Rattle.std.specs.Prelude.{count_by}
use Rattle.std.specs.List.{range_with_len, flat_map}
use Rattle.std.proofs.lemmas.Bool.{cases_lt, and_parts, not-true, not-false, or_left}
use Rattle.flash_sim.specs.Bank.{IsLawful}
use Rattle.flash_sim.specs.Device.{Device}
use Rattle.flash_map.specs.declared.area.Area.{Area}
use Rattle.flash_map.specs.Area.{unit_of, sector_size, sectors_of, sector_at}
use Rattle.flash_map.specs.Units.{is_erased, is_written}
use Rattle.fcb_ring.specs.declared.ring.Ring.{Ring}
use Rattle.fcb_ring.specs.declared.sector.SectorState.{SectorState}
use Rattle.fcb_ring.specs.Changing.{stays_for, is_scratch_left}
use Rattle.fcb_ring.specs.Entries.{states}
use Rattle.fcb_ring.specs.Rings.{state_at, turned, IsRing}
use Rattle.fcb_ring.specs.SectorStates.{is_torn, state_of}
use Rattle.fcb_ring.specs.Standing.{IsRingArea}
use Rattle.fcb_ring.proofs.AreaLemmas.{HasSize, has_size, state-at, length-states}
use Rattle.fcb_ring.proofs.MountLemmas.{none-due}
use Rattle.fcb_ring.proofs.RingLemmas.{turned-within}
use Rattle.event_ring.specs.Items.{items_on, items_cost, cost_in}
use Rattle.event_ring.specs.Appending.{is_too_long, drops_for}
use Rattle.event_ring.specs.Room.{room_on, longest_on, IsFilled}
use Rattle.event_ring.specs.Standing.{IsOpen}
use Rattle.event_ring.proofs.DropSteps.{left-used}
use Rattle.event_ring.proofs.EndLemmas.{newest-filled, longest-fits}
use Rattle.event_ring.proofs.PartLemmas.{part, items-are, parts-least, parts-filled, PartsFilled}
use Rattle.event_ring.proofs.PutSteps.{items-ready, filled-ready}

-- what a drop needs
pub drops-says : (d : Device) (ring : Ring) (body : List ℕ) → drops_for d ring body ≡ true → (stays_for d ring body 0 ≡ false) × (is_scratch_left ring ≡ true)
drops-says d ring body drops =
    let both = and_parts (not (stays_for d ring body 0)) (is_scratch_left ring) drops in
    (not-true (stays_for d ring body 0) both.0, both.1)

-- no sector that is used has room for the longest record
pub all-filled : (d : Device) (ring : Ring) (body : List ℕ) (lawful : IsLawful d.banks d.bytes) (mounted : IsOpen d ring) → is_too_long ring.area (length body) ≡ false → stays_for d ring body 0 ≡ false → 0 < ring.used → IsFilled d ring.area
    → PartsFilled (unit_of d ring.area) (room_on d ring.area) (longest_on d ring.area) (sectors_of d ring.area) ring.oldest (ring.used + 1)
all-filled d ring body lawful mounted short stays some filled k lt = elim (cases_lt (k + 1) ring.used) [
  | inl below ↦ filled-ready d ring lawful mounted filled k below
  | inr last ↦
      let is : ring.used - 1 ≡ k = omega arith in
      subst (λ (j : ℕ). room_on d ring.area < items_cost (unit_of d ring.area) (part (unit_of d ring.area) (sectors_of d ring.area) ring.oldest j) + longest_on d ring.area) is (newest-filled d ring lawful mounted body short stays some)
]

pub drops-full : (d : Device) (ring : Ring) (body : List ℕ) → IsLawful d.banks d.bytes → IsOpen d ring → IsFilled d ring.area → is_too_long ring.area (length body) ≡ false → drops_for d ring body ≡ true
    → (ring.area.sectors - 1) * (room_on d ring.area - longest_on d ring.area) < cost_in d ring.area (items_on d ring.area)
drops-full d ring body lawful mounted filled short drops =
    let says = drops-says d ring body drops in
    let used = left-used d ring mounted says.1 in
    let each = all-filled d ring body lawful mounted short says.0 used.0 filled in
    let fits = longest-fits d ring.area (has_size d ring.area lawful mounted.stands.area).is_unit mounted.stands.area in
    let least : ring.used * (room_on d ring.area - longest_on d ring.area + 1) ≤ items_cost (unit_of d ring.area) (flat_map (part (unit_of d ring.area) (sectors_of d ring.area) ring.oldest) (range_with_len 0 ring.used)) =
    parts-least (unit_of d ring.area) (room_on d ring.area - longest_on d ring.area + 1) (part (unit_of d ring.area) (sectors_of d ring.area) ring.oldest) ring.used (λ k lt. let more = each k (omega arith) in omega (arith, more, fits)) in
    let all : items_cost (unit_of d ring.area) (items_on d ring.area) ≡ items_cost (unit_of d ring.area) (flat_map (part (unit_of d ring.area) (sectors_of d ring.area) ring.oldest) (range_with_len 0 ring.used)) =
    ap (items_cost (unit_of d ring.area)) (items-ready d ring lawful mounted) in
    let count : ring.area.sectors - 1 ≡ ring.used = omega (arith, used.1) in
    subst (λ (n : ℕ). n * (room_on d ring.area - longest_on d ring.area) < items_cost (unit_of d ring.area) (items_on d ring.area)) (sym count)
    (more-than ring.used (room_on d ring.area - longest_on d ring.area) (items_cost (unit_of d ring.area) (items_on d ring.area)) used.0 (subst (λ (n : ℕ). ring.used * (room_on d ring.area - longest_on d ring.area + 1) ≤ n) (sym all) least))
  where
    more-than : (n q c : ℕ) → 0 < n → n * (q + 1) ≤ c → n * q < c
    more-than n q c some le = let e : n * (q + 1) ≡ n * q + n = omega arith in omega arith

-- ---- a blank area

erased-free : (unit : ℕ) (s : List ℕ) → is_erased s ≡ true → (state_of unit s).is_free ≡ true
unfolding state_of
erased-free unit s erased = or_left (is_erased s) (is_torn s) erased

module _ (unit size : ℕ) (sectors : List (List ℕ)) (has : HasSize unit size sectors) (blank : count_by is_written sectors ≡ 0) where
  long : length (states unit sectors) ≡ length sectors
  long = length-states unit sectors

  all-free : (k : ℕ) → k < length (states unit sectors) → (state_at (states unit sectors) (turned (length (states unit sectors)) 0 k)).is_free ≡ true
  all-free k lt =
      let place : ℕ = turned (length (states unit sectors)) 0 k in
      let inside : turned (length (states unit sectors)) 0 k < length sectors = let w = turned-within (length (states unit sectors)) 0 k (omega (arith, has.several, long)) (omega arith) in omega (arith, long) in
      ap (λ (s : SectorState). s.is_free) (state-at unit sectors place inside)
      ∙ erased-free unit (sector_at sectors place) (not-false (is_erased (sector_at sectors place)) (none-due is_written sectors place inside blank))

  pub blank-form : IsRing (states unit sectors) 0 0
  blank-form = record {
    several = omega (arith, has.several, long);
    few = omega (arith, has.few, long);
    within = omega (arith, has.several, long);
    most = omega arith;
    empty = λ _. refl;
    used_ones = λ k lt. absurd (omega arith);
    free_ones = λ k le lt. all-free k lt;
    headers = λ k lt. absurd (omega arith);
    ids = λ k lt. absurd (omega arith);
  }

pub blank-items : (d : Device) (area : Area) → IsLawful d.banks d.bytes → IsRingArea d.banks area → count_by is_written (sectors_of d area) ≡ 0 → items_on d area ≡ []
blank-items d area lawful ring blank =
    items-are (unit_of d area) (sectors_of d area) 0 0 (blank-form (unit_of d area) (sector_size d area) (sectors_of d area) (has_size d area lawful ring) blank)
    ∙ ap (λ (n : ℕ). flat_map (part (unit_of d area) (sectors_of d area) 0) (range_with_len 0 n)) (none (length (sectors_of d area) - 1))
  where
    none : (n : ℕ) → min 0 n ≡ 0
    none n = omega arith

pub blank-filled : (d : Device) (area : Area) → IsLawful d.banks d.bytes → IsRingArea d.banks area → count_by is_written (sectors_of d area) ≡ 0 → IsFilled d area
blank-filled d area lawful ring blank =
    parts-filled (unit_of d area) (sectors_of d area) 0 0 (blank-form (unit_of d area) (sector_size d area) (sectors_of d area) (has_size d area lawful ring) blank) (room_on d area) (longest_on d area) (λ k lt. absurd (omega arith))

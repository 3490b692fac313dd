-- The erases of a mount are no more than the most units of a mount of such an area.
use Rattle.std.proofs.Common.{ℕ, ◌+◌, ◌*◌, ◌/◌, ◌≤◌, Bool, true, false, cond, arith}
use Rattle.std.proofs.Math.Nat.{mul-le-mul_left}
use Rattle.std.proofs.lemmas.List.Sums.{count_by-le-length}
use Rattle.flash_sim.specs.Device.{Device}
use Rattle.flash_map.specs.declared.area.Area.{Area}
use Rattle.flash_map.specs.Area.{geometry_of, sectors_of, sector_size, unit_of}
use Rattle.flash_map.specs.Lawful.{IsLawfulFor}
use Rattle.flash_map.specs.Spending.{SpendsAtMost}
use Rattle.flash_map.proofs.SpendingLemmas.{most_weaker}
use Rattle.fcb_ring.specs.declared.sector.SectorState.{SectorState}
use Rattle.fcb_ring.specs.Rings.{is_full}
use Rattle.fcb_ring.specs.Standing.{erases_on, states_on}
use Rattle.fcb_ring.proofs.AreaLemmas.{length-states, count-sectors}
use Rattle.backend_api.specs.Room.{foreign_units}

one-more : (t : Bool) → cond t 1 0 ≤ 1
one-more true = omega arith
one-more false = omega arith

sectors-within : (sectors units : ℕ) → 1 ≤ sectors → sectors + 1 ≤ 12 * sectors * (units + 3)
sectors-within sectors units some = let more : 12 * sectors * 3 ≤ 12 * sectors * (units + 3) = mul-le-mul_left (12 * sectors) (omega arith) in omega arith

module _ (d : Device) (area : Area) (lawful : IsLawfulFor d.banks area) where
  erases-le : erases_on d area ≤ area.sectors + 1
  erases-le =
      let long = length-states (unit_of d area) (sectors_of d area) in
      let count = count-sectors d area in
      let torn = count_by-le-length (λ (state : SectorState). state.is_torn) (states_on d area) in
      let newest = one-more (is_full (states_on d area)) in
      omega arith

  pub erases-within : erases_on d area ≤ foreign_units (geometry_of d area)
  erases-within =
      let le = erases-le in
      let several = lawful.several in
      let all = sectors-within area.sectors (sector_size d area / unit_of d area) (omega arith) in
      omega arith

  pub mount-most : (e : Device) → SpendsAtMost d e (erases_on d area) → SpendsAtMost d e (foreign_units (geometry_of d area))
  mount-most e spent = most_weaker d e (erases_on d area) (foreign_units (geometry_of d area)) erases-within spent

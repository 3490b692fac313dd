-- The limit of a value: a record of the longest fits one program, and every sector of the area has room for it.
use Rattle.std.proofs.Common.{◌≡◌, ℕ, ◌+◌, ◌≤◌, eqb, inl, inr, arith}
use Rattle.std.proofs.lemmas.Bool.{cases_Bool, cond-true, cond-false, eqb-true}
use Rattle.flash_sim.specs.Device.{Device}
use Rattle.flash_sim.specs.declared.flash.TheConstants.{PROGRAM_LIMIT}
use Rattle.flash_map.specs.Area.{value_limit, sector_size}
use Rattle.flash_map.specs.Units.{IsUnit}
use Rattle.flash_map.specs.declared.area.Area.{Area}
use Rattle.flash_map.specs.declared.area.TheConstants.{VALUE_LIMIT, LONG_VALUE_LIMIT}
use Rattle.flash_map.proofs.Rounding.{padding}
use Rattle.fcb_ring.specs.Standing.{IsRingArea}
use Rattle.fcb_ring.specs.Writing.{record_cost}
use Rattle.record_settings.specs.Settings.{longest}

pub limit-most : (area : Area) → value_limit area ≤ LONG_VALUE_LIMIT
limit-most area = elim (cases_Bool (eqb area.version 2)) [
  | inl two ↦ let e : value_limit area ≡ LONG_VALUE_LIMIT = cond-true (eqb area.version 2) LONG_VALUE_LIMIT VALUE_LIMIT two in omega arith
  | inr one ↦ let e : value_limit area ≡ VALUE_LIMIT = cond-false (eqb area.version 2) LONG_VALUE_LIMIT VALUE_LIMIT one in omega arith
]

pub limit-least : (area : Area) → VALUE_LIMIT ≤ value_limit area
limit-least area = elim (cases_Bool (eqb area.version 2)) [
  | inl two ↦ let e : value_limit area ≡ LONG_VALUE_LIMIT = cond-true (eqb area.version 2) LONG_VALUE_LIMIT VALUE_LIMIT two in omega arith
  | inr one ↦ let e : value_limit area ≡ VALUE_LIMIT = cond-false (eqb area.version 2) LONG_VALUE_LIMIT VALUE_LIMIT one in omega arith
]

-- beside it a sector has room for its header, a name and the reserve
pub limit-size : (d : Device) (area : Area) → IsRingArea d.banks area → value_limit area + 256 ≤ sector_size d area
limit-size d area ring = elim (cases_Bool (eqb area.version 2)) [
  | inl two ↦
      let e : value_limit area ≡ LONG_VALUE_LIMIT = cond-true (eqb area.version 2) LONG_VALUE_LIMIT VALUE_LIMIT two in
      let long = ring.lawful.long_values (eqb-true area.version 2 two) in
      omega arith
  | inr one ↦
      let e : value_limit area ≡ VALUE_LIMIT = cond-false (eqb area.version 2) LONG_VALUE_LIMIT VALUE_LIMIT one in
      omega (arith, ring.lawful.at_least)
]

pub one-program : (unit limit len : ℕ) → IsUnit unit → limit ≤ LONG_VALUE_LIMIT → len ≤ longest limit → record_cost unit len ≤ PROGRAM_LIMIT
one-program unit limit len is most short =
    let pad = padding unit is in
    omega (arith, pad.small, pad.no_more len)

-- How long a value may be, against the sectors of its area.
use Rattle.std.specs.Prelude.{◌≡◌, ℕ, ◌+◌, ◌≤◌}
use Rattle.std.proofs.Common.{eqb, ◌⊎◌, inl, inr, arith}
use Rattle.std.proofs.lemmas.Bool.{cases_eq, cond-true, cond-false, eq-eqb, ne_eqb}
use Rattle.flash_sim.specs.Device.{Device}
use Rattle.flash_map.specs.declared.area.Area.{Area}
use Rattle.flash_map.specs.Area.{value_limit, sector_size}
use Rattle.flash_map.specs.Lawful.{IsLawfulFor}

-- one of the two limits; only an area of version 2 has the longer one
limits : (area : Area) → ((area.version ≡ 2) × (value_limit area ≡ 2048)) ⊎ (value_limit area ≡ 256)
limits area =
    elim (cases_eq area.version 2) [
      | inl two ↦ inl (two, cond-true (eqb area.version 2) 2048 256 (eq-eqb area.version 2 two))
      | inr one ↦ inr (cond-false (eqb area.version 2) 2048 256 (ne_eqb area.version 2 one))
    ]

pub limit-small : (area : Area) → value_limit area ≤ 2048
limit-small area = elim (limits area) [ inl long ↦ let e = long.1 in omega arith | inr e ↦ omega arith ]

pub limit-least : (area : Area) → 256 ≤ value_limit area
limit-least area = elim (limits area) [ inl long ↦ let e = long.1 in omega arith | inr e ↦ omega arith ]

-- a sector has at least 256 bytes more than the longest value
pub value-leaves_room : (d : Device) (area : Area) (length : ℕ) → IsLawfulFor d.banks area
    → length ≤ value_limit area → length + 256 ≤ sector_size d area
value-leaves_room d area length lawful short =
    let least : 512 ≤ sector_size d area = lawful.at_least in
    elim (limits area) [
      | inl long ↦ let e =
          long.1 in let more : 4096 ≤ sector_size d area = lawful.long_values long.0 in omega arith
      | inr e ↦ omega arith
    ]

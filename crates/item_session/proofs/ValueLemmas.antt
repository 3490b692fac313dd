-- A value within an area's limit fits a sector of it.
use Rattle.std.proofs.Common.{◌≡◌, ℕ, ◌+◌, ◌≤◌, Bool, true, false, cond, eqb, refl, subst, inl, inr, arith}
use Rattle.std.proofs.lemmas.Bool.{cases_Bool, cond-true, cond-false, eqb-true}
use Rattle.std.specs.Prelude.{nat_le}
use Rattle.flash_sim.specs.Device.{Device}
use Rattle.flash_map.specs.declared.area.Area.{Area}
use Rattle.flash_map.specs.declared.area.Role.{Role}
use Rattle.flash_map.specs.Area.{sector_size, unit_of, value_limit}
use Rattle.flash_map.specs.Lawful.{HasUnit, IsLawfulFor}
use Rattle.flash_map.specs.Units.{IsUnit, padded}
use Rattle.flash_map.proofs.Rounding.{padding}
use Rattle.nvs_store.specs.Geometry as nvs
use Rattle.nvs_store.proofs.SlotReads.{slot_widths}
use Rattle.zms_cycle.specs.Sector as zms
use Rattle.item_session.specs.Laws.{NvsTakesValues, ZmsTakesValues}

-- so much room as the limit wants, in either version
by_limit : (d : Device) (area : Area) (len : ℕ) (Fits : ℕ → Type 0) → IsLawfulFor d.banks area → len ≤ value_limit area → (512 ≤ sector_size d area → len ≤ 256 → Fits len) → (4096 ≤ sector_size d area → len ≤ 2048 → Fits len)
    → Fits len
by_limit d area len Fits lawful short one two =
    elim (cases_Bool (eqb area.version 2)) [
      | inl long ↦
          let limit : value_limit area ≡ 2048 = cond-true (eqb area.version 2) 2048 256 long in
          two (lawful.long_values (eqb-true area.version 2 long)) (omega arith)
      | inr other ↦
          let limit : value_limit area ≡ 256 = cond-false (eqb area.version 2) 2048 256 other in
          one lawful.at_least (omega arith)
    ]

nvs_short : (unit sector len : ℕ) → IsUnit unit → 512 ≤ sector → len ≤ 256 → nvs.cost unit len ≤ nvs.capacity unit sector
nvs_short unit sector len is large short =
    let widths = slot_widths unit is in
    let pad = padding unit is in
    let padded_len = pad.no_more len in
    omega (arith, widths.no_more, padded_len)

nvs_long : (unit sector len : ℕ) → IsUnit unit → 4096 ≤ sector → len ≤ 2048 → nvs.cost unit len ≤ nvs.capacity unit sector
nvs_long unit sector len is large short =
    let widths = slot_widths unit is in
    let pad = padding unit is in
    let padded_len = pad.no_more len in
    omega (arith, widths.no_more, padded_len)

pub nvs_takes_values : NvsTakesValues
nvs_takes_values d area is len short =
    let unit : IsUnit (unit_of d area) = subst (λ (r : Role). HasUnit r (unit_of d area)) is.role_is is.lawful.unit in
    by_limit d area len (λ (n : ℕ). nvs.cost (unit_of d area) n ≤ nvs.capacity (unit_of d area) (sector_size d area)) is.lawful short
    (λ large few. nvs_short (unit_of d area) (sector_size d area) len unit large few) (λ large few. nvs_long (unit_of d area) (sector_size d area) len unit large few)

zms_data : (len : ℕ) → zms.data_len len ≤ len + 15
unfolding zms.data_len
zms_data len = go (nat_le len 8)
  where
    go : (few : Bool) → cond few 0 (padded 16 len) ≤ len + 15
    go true = omega arith
    go false = (padding 16 (inr (inr refl))).no_more len

zms_short : (sector len : ℕ) → 512 ≤ sector → len ≤ 256 → zms.cost len ≤ zms.capacity sector
zms_short sector len large short = let few = zms_data len in omega arith

zms_long : (sector len : ℕ) → 4096 ≤ sector → len ≤ 2048 → zms.cost len ≤ zms.capacity sector
zms_long sector len large short = let few = zms_data len in omega arith

pub zms_takes_values : ZmsTakesValues
zms_takes_values d area is len short =
    by_limit d area len (λ (n : ℕ). zms.cost n ≤ zms.capacity (sector_size d area)) is.lawful short
    (λ large few. zms_short (sector_size d area) len large few) (λ large few. zms_long (sector_size d area) len large few)

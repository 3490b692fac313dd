-- What is kept of the open sector of an NVS area.
use Rattle.std.proofs.Common.{◌≡◌, ℕ, ◌+◌, ◌-◌, ◌*◌, ◌/◌, ◌≤◌, Bool, List, length, ap, ◌∙◌, arith}
use Rattle.std.proofs.Math.Nat.{mul-div_cancel}
use Rattle.flash_map.specs.Units.{IsUnit}
use Rattle.nvs_store.specs.Geometry.{slot_size}
use Rattle.nvs_store.specs.Sector.{low, data_end, has_gc_done, used_slots}
use Rattle.nvs_store.proofs.Lookups.{used_inside}
use Rattle.nvs_store.proofs.SlotReads.{slot_size_bounds}
use Rattle.nvs_gc.specs.declared.sectors.NvsOpen.{NvsOpen}

pub kept_is : (unit : ℕ) (b : List ℕ) (lowest end : ℕ) (done : Bool) → lowest ≡ low unit b → end ≡ data_end unit b → done ≡ has_gc_done unit b
    → ◌≡◌ {A = NvsOpen} (record { low = lowest; data_end = end; gc_done = done }) (record { low = low unit b; data_end = data_end unit b; gc_done = has_gc_done unit b })
kept_is unit b lowest end done low-is end-is done-is =
    ap (λ (x : ℕ). record { low = x; data_end = end; gc_done = done }) low-is
    ∙ ap (λ (x : ℕ). record { low = low unit b; data_end = x; gc_done = done }) end-is
    ∙ ap (λ (x : Bool). record { low = low unit b; data_end = data_end unit b; gc_done = x }) done-is

-- ---- the slots under its end

module _ (unit : ℕ) (b : List ℕ) (sector lowest size : ℕ) (is-unit : IsUnit unit) (long : 16 ≤ length b) (whole : sector ≡ length b) (low-is : lowest ≡ low unit b) (is : size ≡ slot_size unit) where
  fits : (length (used_slots unit b) + 1) * slot_size unit ≤ length b
  fits = let wide = slot_size_bounds unit is-unit in used_inside unit b (length (used_slots unit b)) (omega (arith, wide)) (omega (arith, wide, long)) (omega arith)

  pub low_inside : lowest ≤ sector
  low_inside = omega (arith, whole, low-is)

  -- their number and one more
  by_low : (sector - lowest) / size ≡ length (used_slots unit b) + 1
  by_low =
      let wide = slot_size_bounds unit is-unit in
      let inside = fits in
      let all : sector - lowest ≡ (length (used_slots unit b) + 1) * slot_size unit = omega (arith, whole, low-is, inside) in
      ap (λ (n : ℕ). n / size) all ∙ ap (λ (n : ℕ). (length (used_slots unit b) + 1) * slot_size unit / n) is ∙ mul-div_cancel (length (used_slots unit b) + 1) (omega (arith, wide))

  pub some_by_low : 1 ≤ (sector - lowest) / size
  some_by_low = omega (arith, by_low)

  -- how many there are
  pub slots_by_low : (sector - lowest) / size - 1 ≡ length (used_slots unit b)
  slots_by_low = omega (arith, by_low)

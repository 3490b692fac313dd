-- The slots of a sector of NVS, by index.
use Rattle.std.proofs.Common.{◌≡◌, ℕ, ◌+◌, ◌-◌, ◌*◌, ◌%◌, ◌≤◌, max, List, length, refl, arith}
use Rattle.std.specs.Prelude.{slice_range}
use Rattle.flash_map.specs.Units.{IsUnit, padded}
use Rattle.flash_map.proofs.Rounding.{by_unit}
use Rattle.item_laws.specs.Slots as shared
use Rattle.nvs_store.specs.Geometry.{slot_size}
use Rattle.nvs_store.specs.Sector.{slot_at}

pub record HasSlotWidth (unit : ℕ) : Type 0 where
  pub aligned : slot_size unit % unit ≡ 0
  pub no_less : 8 ≤ slot_size unit
  pub no_more : slot_size unit ≤ 16

pub slot_widths : (unit : ℕ) → IsUnit unit → HasSlotWidth unit
unfolding slot_size padded
slot_widths = by_unit HasSlotWidth
    (record { aligned = refl; no_less = omega arith; no_more = omega arith })
    (record { aligned = refl; no_less = omega arith; no_more = omega arith })
    (record { aligned = refl; no_less = omega arith; no_more = omega arith })

pub slot_size_bounds : (unit : ℕ) → IsUnit unit → (8 ≤ slot_size unit) × (slot_size unit ≤ 16)
slot_size_bounds unit h = let widths = slot_widths unit h in (widths.no_less, widths.no_more)

-- with no division
pub slot_size-is : (unit : ℕ) → IsUnit unit → max unit 8 ≡ slot_size unit
unfolding slot_size padded
slot_size-is = by_unit (λ unit. max unit 8 ≡ slot_size unit) refl refl refl

pub slot_at-parts : (unit : ℕ) (b : List ℕ) (k : ℕ) → ((slot_at unit b k).start ≡ length b - (k + 1) * slot_size unit)
    × ((slot_at unit b k).bytes ≡ slice_range b (length b - (k + 1) * slot_size unit) (length b - (k + 1) * slot_size unit + slot_size unit))
unfolding shared.slot_at
slot_at-parts unit b k = (refl, refl)

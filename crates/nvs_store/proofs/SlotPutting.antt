-- A slot that is programmed in one call: an entry's bytes, with FF behind them.
use Rattle.std.proofs.Common.{◌≡◌, ℕ, ◌+◌, ◌-◌, ◌≤◌, List, ◌++◌, length, take, replicate, sym, ap, ◌∙◌, arith}
use Rattle.std.proofs.Math.Seq.{take-append-add}
use Rattle.std.proofs.lemmas.List.{take-replicate}
use Rattle.flash_sim.specs.Device.{Device}
use Rattle.flash_map.specs.declared.area.Area.{Area}
use Rattle.flash_map.specs.Area.{CanProgramIn}
use Rattle.flash_map.specs.Pieces.{CanProgramAll}
use Rattle.flash_map.specs.Units.{IsUnit, padded, padded_bytes}
use Rattle.flash_map.proofs.PaddedLemmas.{length-padded_bytes}
use Rattle.nvs_store.specs.Geometry.{slot_size}
use Rattle.nvs_store.proofs.Putting.{slot_size-is}
use Rattle.nvs_store.proofs.SlotReads.{slot_widths}

-- the slot's part of what the code fills
pub slot_filled : (unit size : ℕ) (bytes : List ℕ) → IsUnit unit → length bytes ≡ 8 → size ≡ slot_size unit → take size (bytes ++ replicate 8 0xFF) ≡ padded_bytes unit bytes
slot_filled unit size bytes is-unit eight is =
    let widths = slot_widths unit is-unit in
    let at_least = widths.no_less in
    let at_most = widths.no_more in
    let whole : size ≡ length bytes + (slot_size unit - 8) = omega arith in
    let fill : slot_size unit - 8 ≡ padded unit (length bytes) - length bytes = ap (λ (n : ℕ). n - 8) (slot_size-is unit) ∙ ap (λ (n : ℕ). padded unit n - n) (sym eight) in
    ap (λ (n : ℕ). take n (bytes ++ replicate 8 0xFF)) whole
    ∙ take-append-add bytes (replicate 8 0xFF) (slot_size unit - 8)
    ∙ ap (λ (ys : List ℕ). bytes ++ ys) (take-replicate (slot_size unit - 8) 8 0xFF (omega arith))
    ∙ ap (λ (n : ℕ). bytes ++ replicate n 0xFF) fill

-- how long a slot is
pub slot_long : (unit : ℕ) (bytes : List ℕ) → IsUnit unit → length bytes ≡ 8 → (8 ≤ length (padded_bytes unit bytes)) × (length (padded_bytes unit bytes) ≤ 16)
slot_long unit bytes is-unit eight =
    let widths = slot_widths unit is-unit in
    let at_least = widths.no_less in
    let at_most = widths.no_more in
    let same : length (padded_bytes unit bytes) ≡ slot_size unit = length-padded_bytes unit bytes is-unit ∙ ap (padded unit) eight ∙ sym (slot_size-is unit) in
    (omega arith, omega arith)

-- it may be programmed in one call
pub can_slot : (d : Device) (area : Area) (sector start : ℕ) (bytes : List ℕ) → (8 ≤ length bytes) × (length bytes ≤ 16) → CanProgramAll d area sector start bytes → CanProgramIn d area sector start bytes
can_slot d area sector start bytes long can =
    let at_least = long.0 in
    let at_most = long.1 in
    record {
      has_sector = can.has_sector;
      some = omega arith;
      at_most = omega arith;
      whole_units = can.whole_units;
      aligned = can.aligned;
      in_sector = can.in_sector;
      erased = can.erased;
    }

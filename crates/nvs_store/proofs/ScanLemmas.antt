-- What a scan says, by its parts.
use Rattle.std.proofs.Common.{◌≡◌, ℕ, ◌+◌, ◌-◌, ◌*◌, ◌≤◌, ◌<◌, Bool, true, eqb, List, [], length, get_or, map, max, replicate, refl, ap, ◌∙◌, arith}
use Rattle.std.specs.Prelude.{fold, sum_by}
use Rattle.std.specs.List.{filter_map}
use Rattle.std.proofs.Math.Nat.{zero-mod}
use Rattle.std.proofs.lemmas.Bool.{eqb-true}
use Rattle.std.proofs.lemmas.List.Sums.{AllPass-from_list_all, list_all-from_AllPass}
use Rattle.std.proofs.lemmas.List.Elements.{All-replicate}
use Rattle.flash_map.specs.Units.{IsUnit, padded, is_erased}
use Rattle.item_laws.specs.Slots.{Slot}
use Rattle.nvs_store.specs.declared.scan.SlotEntry.{SlotEntry}
use Rattle.nvs_store.specs.declared.scan.Redo.TheVariants.{Nothing}
use Rattle.nvs_store.specs.Geometry.{slot_size}
use Rattle.flash_map.specs.Units.{written_end}
use Rattle.nvs_store.specs.Sector.{counting_entry, entries, entry_end, low, data_end, has_gc_done}
use Rattle.nvs_store.specs.Scans.{sector_scan}
use Rattle.flash_map.proofs.WrittenEnds.{written_end-le}
use Rattle.nvs_store.proofs.Blank.{blank-used}

pub scan_is : (unit place : ℕ) (b : List ℕ) (lowest end : ℕ) (gc_done : Bool) → lowest ≡ low unit b → end ≡ data_end unit b → gc_done ≡ has_gc_done unit b
    → record { current = place; low = lowest; data_end = end; gc_done = gc_done; redo = Nothing } ≡ sector_scan unit place b
scan_is unit place b lowest end gc_done low-is end-is done-is =
    ap (λ (x : ℕ). record { current = place; low = x; data_end = end; gc_done = gc_done; redo = Nothing }) low-is
    ∙ ap (λ (x : ℕ). record { current = place; low = low unit b; data_end = x; gc_done = gc_done; redo = Nothing }) end-is
    ∙ ap (λ (x : Bool). record { current = place; low = low unit b; data_end = data_end unit b; gc_done = x; redo = Nothing }) done-is

-- ---- a blank sector

pub erased-replicate : (n : ℕ) → is_erased (replicate n 255) ≡ true
erased-replicate n = list_all-from_AllPass (λ byte. eqb byte 255) (replicate n 255) (All-replicate (λ (byte : ℕ). eqb byte 255 ≡ true) n 255 refl)

pub blank-low : (unit : ℕ) (b : List ℕ) → is_erased b ≡ true → low unit b ≡ length b - slot_size unit
blank-low unit b blank = ap (λ (xs : List Slot). length b - (length xs + 1) * slot_size unit) (blank-used unit b blank) ∙ omega arith

pub blank-byte : (b : List ℕ) → is_erased b ≡ true → (k : ℕ) → k < length b → get_or b k 0 ≡ 255
blank-byte b blank k lt = eqb-true (get_or b k 0) 255 (AllPass-from_list_all (λ byte. eqb byte 255) b blank k 0 lt)

pub blank-data_end : (unit : ℕ) (b : List ℕ) → IsUnit unit → is_erased b ≡ true → data_end unit b ≡ 0
unfolding data_end
blank-data_end unit b is-unit blank =
    let none : entries unit b ≡ [] = ap (filter_map (counting_entry unit)) (blank-used unit b blank) in
    let ends : fold max 0 (map (entry_end unit) (entries unit b)) ≡ 0 = ap (λ (fs : List SlotEntry). fold max 0 (map (entry_end unit) fs)) none in
    let sums : sum_by (λ f. padded unit f.entry.len) (entries unit b) ≡ 0 = ap (sum_by (λ (f : SlotEntry). padded unit f.entry.len)) none in
    let written : written_end unit (low unit b - slot_size unit) b ≤ 0 =
    written_end-le unit (low unit b - slot_size unit) b 0 is-unit (zero-mod unit) (omega arith) (λ k from below. blank-byte b blank k (omega arith)) in
    omega arith

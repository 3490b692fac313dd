-- How a blank sector reads.
use Rattle.std.proofs.Common.{◌≡◌, ℕ, ◌+◌, ◌-◌, ◌*◌, ◌/◌, true, false, eqb, List, [], length, map, take, drop, ap, ◌∙◌, arith}
use Rattle.std.specs.List.{filter_map, list_any}
use Rattle.std.proofs.lemmas.Bool.{not_from_true}
use Rattle.std.proofs.lemmas.List.Elements.{All-take, All-drop}
use Rattle.std.proofs.lemmas.List.Sums.{AllPass-from_list_all, list_all-from_AllPass, prefix_len_is}
use Rattle.std.proofs.lemmas.List.FromFn.{get_or-map-range_with_len, length-map-range_with_len}
use Rattle.item_laws.specs.Slots as shared
use Rattle.item_laws.specs.Reading.{IsReading}
use Rattle.nvs_store.specs.Geometry.{slot_size}
use Rattle.flash_map.specs.Units.{is_erased}
use Rattle.item_laws.specs.Slots.{Slot}
use Rattle.nvs_store.specs.Sector.{is_closed, has_gc_done, pairs, pair_of, counting_entry, is_gc_done, slot_at, slots, is_used, used_slots}
use Rattle.nvs_store.specs.Scans.{reading}

pub erased-part : (sector : List ℕ) (start n : ℕ) → is_erased sector ≡ true → is_erased (take n (drop start sector)) ≡ true
erased-part sector start n h =
    list_all-from_AllPass (λ byte. eqb byte 255) (take n (drop start sector))
    (All-take (λ byte. eqb byte 255 ≡ true) n (drop start sector) (All-drop (λ byte. eqb byte 255 ≡ true) start sector (AllPass-from_list_all (λ byte. eqb byte 255) sector h)))

pub blank-slot : (unit : ℕ) (sector : List ℕ) (k : ℕ) → is_erased sector ≡ true → is_used (slot_at unit sector k) ≡ false
unfolding shared.slot_at
blank-slot unit sector k h =
    let start = length sector - (k + 1) * slot_size unit in
    not_from_true (is_erased (take (start + slot_size unit - start) (drop start sector))) (erased-part sector start (start + slot_size unit - start) h)

pub blank-closed : (unit : ℕ) (sector : List ℕ) → is_erased sector ≡ true → is_closed unit sector ≡ false
blank-closed unit sector h = blank-slot unit sector 0 h

pub blank-used : (unit : ℕ) (sector : List ℕ) → is_erased sector ≡ true → used_slots unit sector ≡ []
unfolding shared.used_slots
blank-used unit sector h =
    let d : Slot = slot_at unit sector 0 in
    let count = length sector / slot_size unit - 1 in
    let long = length-map-range_with_len (slot_at unit sector) 1 count in
    ap (λ (n : ℕ). take n (slots unit sector))
    (prefix_len_is is_used (slots unit sector) 0 d (omega arith) (λ k lt. absurd (omega arith))
    (λ lt. ap is_used (get_or-map-range_with_len (slot_at unit sector) 1 count 0 1 d (omega arith) (omega arith)) ∙ blank-slot unit sector 1 h))

pub blank-pairs : (unit : ℕ) (sector : List ℕ) → is_erased sector ≡ true → pairs unit sector ≡ []
blank-pairs unit sector h = ap (λ used. map (pair_of sector) (filter_map (counting_entry unit) used)) (blank-used unit sector h)

pub blank-not_done : (unit : ℕ) (sector : List ℕ) → is_erased sector ≡ true → has_gc_done unit sector ≡ false
blank-not_done unit sector h = ap (λ used. list_any is_gc_done used) (blank-used unit sector h)

-- NVS reads a blank sector as one that holds nothing.
pub reads-blank : (unit : ℕ) → IsReading (reading unit)
reads-blank unit = record { closed = blank-closed unit; gc_done = blank-not_done unit; pairs = blank-pairs unit }

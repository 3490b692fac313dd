-- What the code's functions on slots need.
use Rattle.std.proofs.Common.{◌≡◌, ℕ, ◌+◌, ◌-◌, ◌*◌, ◌/◌, ◌<◌, ◌≤◌, max, min, Bool, true, cond, eqb, ltb, ◌||◌, List, length, map, take, Some, None, sym, ap, subst, ◌∙◌, inl, inr, not, arith}
use Rattle.std.specs.Prelude.{fold, sum_by}
use Rattle.std.specs.Option.{option_and_then}
use Rattle.std.specs.List.{filter_map, list_any, suffix_len}
use Rattle.std.proofs.lemmas.Bool.{cases_lt, lt-ltb, le-ltb}
use Rattle.std.proofs.lemmas.Nat.{le-div}
use Rattle.std.proofs.lemmas.List.{length-take-le}
use Rattle.std.proofs.lemmas.List.FromFn.{length-map-range_with_len}
use Rattle.nvs_store.specs.declared.entry.Entry.{Entry}
use Rattle.nvs_store.specs.declared.scan.SlotEntry.{SlotEntry}
use Rattle.flash_map.specs.Units.{padded, is_erased}
use Rattle.nvs_store.specs.Geometry.{slot_size, capacity}
use Rattle.nvs_store.specs.Entries.{decoded}
use Rattle.item_laws.specs.Slots.{Slot}
use Rattle.flash_map.specs.Units.{written_end}
use Rattle.nvs_store.specs.Sector.{slot_at, slots, is_used, used_slots, counts, counting_entry, entries, entry_end, data_end, low, entries_within, has_fence, is_overfull, entry_cost}
use Rattle.item_laws.specs.Slots as shared
use Rattle.item_laws.proofs.SlotCounts as counting
use Rattle.item_laws.proofs.SlotWalks as walk
use Rattle.item_laws.proofs.SlotEntries.{slots_within}

-- the three outcomes of reading a slot
pub counting_entry-none : (unit : ℕ) (slot : Slot) → decoded slot.bytes ≡ None → counting_entry unit slot ≡ None
unfolding counting_entry
counting_entry-none unit slot is = ap (option_and_then (λ e. cond (counts unit slot.start e) (Some (record { slot = slot.index; entry = e })) None)) is

pub counting_entry-some : (unit : ℕ) (b : List ℕ) (k : ℕ) (e : Entry) (counted : Bool) → decoded (slot_at unit b k).bytes ≡ Some e → counts unit (length b - (k + 1) * slot_size unit) e ≡ counted
    → counting_entry unit (slot_at unit b k) ≡ cond counted (Some (record { slot = k; entry = e })) None
unfolding counting_entry shared.slot_at
counting_entry-some unit b k e counted is test =
    ap (option_and_then (λ e. cond (counts unit (slot_at unit b k).start e) (Some (record { slot = (slot_at unit b k).index; entry = e })) None)) is
    ∙ ap (λ (t : Bool). cond t (Some (record { slot = k; entry = e })) None) test

-- ---- the used slots

-- a used slot and those above it stand in the sector
pub used_inside : (unit : ℕ) (b : List ℕ) (k : ℕ) → 0 < slot_size unit → slot_size unit ≤ length b → k ≤ length (used_slots unit b) → (k + 1) * slot_size unit ≤ length b
used_inside unit b k positive room le = counting.used_inside is_used 1 (slot_size unit) b k (omega arith) (le-div 1 (length b) (slot_size unit) positive (omega arith))

-- ---- going over the used slots

abbrev pub entries_to : ℕ → List ℕ → ℕ → List SlotEntry
entries_to unit b n = walk.entries_to (counting_entry unit) 1 (slot_size unit) b n

-- ---- a loop's step

pub used_more : (unit : ℕ) (b : List ℕ) (used : ℕ) → ((k : ℕ) → 1 ≤ k → k ≤ used → is_used (slot_at unit b k) ≡ true) → is_used (slot_at unit b (used + 1)) ≡ true → (k : ℕ) → 1 ≤ k → k ≤ used + 1 → is_used (slot_at unit b k) ≡ true
used_more unit b used before this k low high =
    elim (cases_lt k (used + 1)) [
      | inl lt ↦ before k low (omega arith)
      | inr ge ↦ let e : used + 1 ≡ k = omega arith in subst (λ (j : ℕ). is_used (slot_at unit b j) ≡ true) e this
    ]

pub used_read : (unit : ℕ) (b : List ℕ) (k : ℕ) (bytes : List ℕ) (used : Bool) → bytes ≡ (slot_at unit b k).bytes → used ≡ not (is_erased bytes) → is_used (slot_at unit b k) ≡ used
used_read unit b k bytes used same read = ap (λ (x : List ℕ). not (is_erased x)) (sym same) ∙ sym read

-- the entries of the first so many used slots
pub entries_to_within : (unit : ℕ) (b : List ℕ) (n index : ℕ) → index ≡ min (length (used_slots unit b)) n → entries_to unit b index ≡ entries_within unit b n
entries_to_within unit b n index is = ap (filter_map (counting_entry unit)) (slots_within is_used 1 (slot_size unit) b n index is)

-- ---- what the scan says

pub data_end_is : (unit : ℕ) (b under : List ℕ) (trimmed written ends lens : ℕ) → low unit b - slot_size unit ≤ length b → under ≡ take (low unit b - slot_size unit) b → trimmed ≡ length under - suffix_len (λ byte. eqb byte 255) under → written ≡ padded unit trimmed
    → ends ≡ fold max 0 (map (entry_end unit) (entries unit b)) → lens ≡ sum_by (λ f. padded unit f.entry.len) (entries unit b) → max written (max ends lens) ≡ data_end unit b
unfolding data_end written_end
data_end_is unit b under trimmed written ends lens inside is trim pad at sums =
    let len : length (take (low unit b - slot_size unit) b) ≡ low unit b - slot_size unit = length-take-le (low unit b - slot_size unit) b inside in
    let trimmed-is : trimmed ≡ low unit b - slot_size unit - suffix_len (λ byte. eqb byte 255) (take (low unit b - slot_size unit) b) =
    trim ∙ ap (λ (xs : List ℕ). length xs - suffix_len (λ byte. eqb byte 255) xs) is ∙ ap (λ (k : ℕ). k - suffix_len (λ byte. eqb byte 255) (take (low unit b - slot_size unit) b)) len in
    ap (λ (x : ℕ). max x (max ends lens)) (pad ∙ ap (padded unit) trimmed-is)
    ∙ ap (λ (x : ℕ). max (padded unit (low unit b - slot_size unit - suffix_len (λ byte. eqb byte 255) (take (low unit b - slot_size unit) b))) (max x lens)) at
    ∙ ap (λ (x : ℕ). max (padded unit (low unit b - slot_size unit - suffix_len (λ byte. eqb byte 255) (take (low unit b - slot_size unit) b))) (max (fold max 0 (map (entry_end unit) (entries unit b))) x)) sums

pub entries_to_used : (unit : ℕ) (b : List ℕ) (n : ℕ) → n ≡ length (used_slots unit b) → entries_to unit b n ≡ entries unit b
entries_to_used unit b n is = ap (filter_map (counting_entry unit)) (counting.slots_to_used is_used 1 (slot_size unit) b n is)

-- the code's test for a fence
pub fence_test : (unit : ℕ) (b : List ℕ) (used count : ℕ) → used ≡ length (used_slots unit b) → count ≡ length b / slot_size unit → ltb (used + 1) count ≡ has_fence unit b
fence_test unit b used count is at =
    let len : length (slots unit b) ≡ length b / slot_size unit - 1 = length-map-range_with_len (shared.slot_at (slot_size unit) b) 1 (length b / slot_size unit - 1) in
    elim (cases_lt (used + 1) count) [
      | inl lt ↦ lt-ltb (used + 1) count lt ∙ sym (lt-ltb (length (used_slots unit b)) (length (slots unit b)) (omega arith))
      | inr ge ↦ le-ltb (used + 1) count ge ∙ sym (le-ltb (length (used_slots unit b)) (length (slots unit b)) (omega arith))
    ]

-- the code's test of ends and costs
pub overfull_is : (unit : ℕ) (b : List ℕ) (fence cap costs : ℕ) (passes : Bool) → fence ≡ low unit b - slot_size unit → cap ≡ capacity unit (length b) → passes ≡ list_any (λ f. ltb fence (f.entry.offset + f.entry.len)) (entries unit b)
    → costs ≡ sum_by (entry_cost unit) (entries unit b) → (passes || ltb cap costs) ≡ is_overfull unit b
overfull_is unit b fence cap costs passes at room ends sums =
    ap (λ (t : Bool). t || ltb cap costs) (ends ∙ ap (λ (n : ℕ). list_any (λ (f : SlotEntry). ltb n (f.entry.offset + f.entry.len)) (entries unit b)) at)
    ∙ ap (λ (n : ℕ). list_any (λ f. ltb (low unit b - slot_size unit) (f.entry.offset + f.entry.len)) (entries unit b) || ltb n costs) room
    ∙ ap (λ (n : ℕ). list_any (λ f. ltb (low unit b - slot_size unit) (f.entry.offset + f.entry.len)) (entries unit b) || ltb (capacity unit (length b)) n) sums

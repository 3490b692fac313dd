-- When a sector has a fence and is not overfull, and what its entries cost.
use Rattle.std.proofs.Common.{◌≡◌, ℕ, ◌+◌, ◌-◌, ◌*◌, ◌/◌, ◌<◌, ◌≤◌, max, Bool, true, false, not, ◌&&◌, ◌||◌, cond, eqb, leb, ltb, List, [], ◌∷◌, length, map, Some, None, refl, sym, ap, ◌∙◌, inl, inr, ◌⊎◌, arith}
use Rattle.std.specs.Prelude.{fold, sum_by}
use Rattle.std.specs.List.{filter_map, list_any}
use Rattle.std.proofs.lemmas.Nat.{le-div}
use Rattle.std.proofs.lemmas.Bool.{false≢true, cases_Bool, cond-true, cond-false, lt-ltb, le-ltb, ltb-false, leb-true, ne_eqb, and_parts, and_left, or_parts, or_from, or_right, or_cases, and_from, not_from_false, not-true}
use Rattle.std.proofs.lemmas.List.Sums.{sum_by_push}
use Rattle.std.proofs.lemmas.List.FromFn.{length-map-range_with_len}
use Rattle.nvs_store.specs.declared.scan.SlotEntry.{SlotEntry}
use Rattle.flash_map.specs.Units.{IsUnit, padded, is_erased}
use Rattle.nvs_store.specs.Geometry.{slot_size, cost, capacity}
use Rattle.nvs_store.specs.Entries.{entry_of}
use Rattle.item_laws.specs.Slots.{Slot}
use Rattle.nvs_store.specs.Sector.{slot_at, slots, is_used, used_slots, counting_entry, counts, entries, is_gc_done, has_gc_done, low, data_end, entry_end, pairs, KeepsList, AddsPair, MarksDone, Closes}
use Rattle.item_laws.specs.Steps.{IsFurther}
use Rattle.nvs_store.specs.Scans.{reading, fits, free, sector_scan, nvs}
use Rattle.flash_map.proofs.Rounding.{IsPadding, padding}
use Rattle.nvs_store.proofs.SlotReads.{slot_widths}
use Rattle.item_laws.proofs.SlotLemmas.{HasFence-from_low}
use Rattle.nvs_store.proofs.NvsEntries.{are_nvs}
use Rattle.nvs_store.proofs.Room.{data_end-above, HasRoom}
use Rattle.nvs_store.proofs.EntryBytes.{decoded_cases, counting_entry-is, is_gc_done-is}
use Rattle.item_laws.proofs.SlotCosts as by_slots
use Rattle.item_laws.proofs.SlotCosts.{fold_max-ge}
use Rattle.item_laws.proofs.SectorCosts.{costs_are}
use Rattle.nvs_store.specs.Sector.{is_used, has_fence, is_overfull, is_sound, entry_cost, pairs_cost}
use Rattle.nvs_store.proofs.Blank.{blank-pairs, blank-used}

-- ---- costs by entries and by pairs

abbrev pair_cost : ℕ → ℕ × List ℕ → ℕ
pair_cost unit pair = cond (eqb (length pair.1) 0) 0 (cost unit (length pair.1))

pub entries_cost : (unit : ℕ) (b : List ℕ) → sum_by (entry_cost unit) (entries unit b) ≡ pairs_cost unit (pairs unit b)
entries_cost unit b = sym (costs_are (nvs unit) (are_nvs unit) b 0 refl)

-- ---- sound, from the room under the fence

ends_within : (unit limit : ℕ) → IsPadding unit → (fs : List SlotEntry) (a : ℕ) → fold max a (map (entry_end unit) fs) ≤ limit → list_any (λ f. ltb limit (f.entry.offset + f.entry.len)) fs ≡ false
ends_within unit limit pad [] a le = refl
ends_within unit limit pad (f ∷ fs) a le =
    let least = fold_max-ge (max a (entry_end unit f)) (map (entry_end unit) fs) in
    let rounded = pad.no_less f.entry.len in
    or_from (ltb limit (f.entry.offset + f.entry.len)) (list_any (λ f. ltb limit (f.entry.offset + f.entry.len)) fs) (le-ltb limit (f.entry.offset + f.entry.len) (omega arith)) (ends_within unit limit pad fs (max a (entry_end unit f)) le)

fence_from : (unit : ℕ) (b : List ℕ) → IsUnit unit → slot_size unit ≤ low unit b → has_fence unit b ≡ true
fence_from unit b is-unit room =
    let pad = padding unit is-unit in
    let widths = slot_widths unit is-unit in
    let fence = HasFence-from_low is_used 1 (slot_size unit) b (omega arith) room in
    let n = length (used_slots unit b) in
    let within : (length (used_slots unit b) + 2) * slot_size unit ≤ length b = omega (arith, fence.within) in
    let count : length (used_slots unit b) + 2 ≤ length b / slot_size unit = le-div (length (used_slots unit b) + 2) (length b) (slot_size unit) (omega arith) within in
    let long : length (slots unit b) ≡ length b / slot_size unit - 1 = length-map-range_with_len (slot_at unit b) 1 (length b / slot_size unit - 1) in
    lt-ltb (length (used_slots unit b)) (length (slots unit b)) (omega arith)

pub sound-from : (unit : ℕ) (b : List ℕ) → IsUnit unit → fold max 0 (map (entry_end unit) (entries unit b)) + slot_size unit ≤ low unit b → pairs_cost unit (pairs unit b) ≤ capacity unit (length b) → is_sound unit b ≡ true
sound-from unit b is-unit ends costs =
    let pad = padding unit is-unit in
    let widths = slot_widths unit is-unit in
    let fence : has_fence unit b ≡ true = fence_from unit b is-unit (omega arith) in
    let no_end : list_any (λ f. ltb (low unit b - slot_size unit) (f.entry.offset + f.entry.len)) (entries unit b) ≡ false = ends_within unit (low unit b - slot_size unit) pad (entries unit b) 0 (omega arith) in
    let no_cost : ltb (capacity unit (length b)) (sum_by (entry_cost unit) (entries unit b)) ≡ false = le-ltb (capacity unit (length b)) (sum_by (entry_cost unit) (entries unit b)) (let e = entries_cost unit b in omega arith) in
    let full : is_overfull unit b ≡ false = or_from _ _ no_end no_cost in
    or_right (is_erased b) (has_fence unit b && not (is_overfull unit b)) (and_from (has_fence unit b) (not (is_overfull unit b)) fence (not_from_false (is_overfull unit b) full))

-- what Overfull says of a sector's costs
pub sound-costs : (unit : ℕ) (b : List ℕ) → is_sound unit b ≡ true → pairs_cost unit (pairs unit b) ≤ capacity unit (length b)
sound-costs unit b sound =
    elim (or_cases (is_erased b) (has_fence unit b && not (is_overfull unit b)) sound) [
      | inl blank ↦ let e : pairs_cost unit (pairs unit b) ≡ 0 = ap (pairs_cost unit) (blank-pairs unit b blank) in omega arith
      | inr parts ↦
          let full : is_overfull unit b ≡ false = not-true (is_overfull unit b) ((and_parts (has_fence unit b) (not (is_overfull unit b)) parts).1) in
          let costs = ltb-false (capacity unit (length b)) (sum_by (entry_cost unit) (entries unit b)) ((or_parts (list_any (λ f. ltb (low unit b - slot_size unit) (f.entry.offset + f.entry.len)) (entries unit b)) (ltb (capacity unit (length b)) (sum_by (entry_cost unit) (entries unit b))) full).1) in
          let e = entries_cost unit b in omega arith
    ]

-- ---- steps keep a sector sound

pub keeps-further : (unit len : ℕ) (old new : List ℕ) → HasRoom unit old len → is_sound unit old ≡ true → KeepsList unit old new → IsFurther (reading unit) old new
keeps-further unit len old new h sound keeps =
    let above = data_end-above unit old in
    let room = h.room in
    let lower = keeps.lower in
    let ends : fold max 0 (map (entry_end unit) (entries unit new)) ≡ fold max 0 (map (entry_end unit) (entries unit old)) = ap (λ (fs : List SlotEntry). fold max 0 (map (entry_end unit) fs)) keeps.same_entries in
    let costs = sound-costs unit old sound in
    let same_costs : pairs_cost unit (pairs unit new) ≡ pairs_cost unit (pairs unit old) = ap (pairs_cost unit) keeps.list in
    let same_cap : capacity unit (length new) ≡ capacity unit (length old) = ap (capacity unit) keeps.long in
    record { used = keeps.used; sound = sound-from unit new h.is_unit (omega (arith, above.ends)) (omega arith) }

pub adds-used : (unit id : ℕ) (old new bytes : List ℕ) → IsUnit unit → slot_size unit ≤ low unit old → AddsPair unit old new id bytes → is_erased new ≡ false
adds-used unit id old new bytes is-unit room adds =
    let pad = padding unit is-unit in
    let widths = slot_widths unit is-unit in
    elim (cases_Bool (is_erased new)) [
      | inr used ↦ used
      | inl blank ↦
          let none : length (used_slots unit new) ≡ 0 = ap length (blank-used unit new blank) in
          let top : low unit new ≡ length new - (0 + 1) * slot_size unit = ap (λ (n : ℕ). length new - (n + 1) * slot_size unit) none in
          let lower = adds.lower in
          let long = adds.long in
          absurd (omega (arith, widths.no_less))
    ]

pub adds-further : (unit id : ℕ) (old new bytes : List ℕ) → HasRoom unit old (length bytes) → pairs_cost unit (pairs unit old) + cond (eqb (length bytes) 0) 0 (cost unit (length bytes)) ≤ capacity unit (length old) → AddsPair unit old new id bytes → IsFurther (reading unit) old new
adds-further unit id old new bytes h costs adds =
    let above = data_end-above unit new in
    let room = h.room in
    let lower = adds.lower in
    let grown = adds.grown in
    let more : pairs_cost unit (pairs unit new) ≡ pairs_cost unit (pairs unit old) + pair_cost unit (id, bytes) = ap (pairs_cost unit) adds.list ∙ sum_by_push (pair_cost unit) (pairs unit old) (id, bytes) in
    let same_cap : capacity unit (length new) ≡ capacity unit (length old) = ap (capacity unit) adds.long in
    record { used = λ full. adds-used unit id old new bytes h.is_unit (omega arith) adds; sound = sound-from unit new h.is_unit (omega (arith, above.ends)) (omega arith) }

pub marks-sound : (unit : ℕ) (old new : List ℕ) → HasRoom unit old 0 → pairs_cost unit (pairs unit old) ≤ capacity unit (length old) → MarksDone unit old new → is_sound unit new ≡ true
marks-sound unit old new h costs marks =
    let above = data_end-above unit new in
    let room = h.room in
    let lower = marks.lower in
    let same_end = marks.same_end in
    let same_costs : pairs_cost unit (pairs unit new) ≡ pairs_cost unit (pairs unit old) = ap (pairs_cost unit) marks.list in
    let same_cap : capacity unit (length new) ≡ capacity unit (length old) = ap (capacity unit) marks.long in
    sound-from unit new h.is_unit (omega (arith, above.ends)) (omega arith)

pub close-sound : (unit : ℕ) (old new : List ℕ) → is_erased old ≡ false → is_sound unit old ≡ true → Closes unit old new → is_sound unit new ≡ true
close-sound unit old new full sound closes =
    let fence : has_fence unit new ≡ has_fence unit old =
    ap (λ (xs : List Slot). ltb (length xs) (length (slots unit new))) closes.same_slots
    ∙ ap (λ (n : ℕ). ltb (length (used_slots unit old)) n)
    (length-map-range_with_len (slot_at unit new) 1 (length new / slot_size unit - 1) ∙ ap (λ (m : ℕ). m / slot_size unit - 1) closes.long ∙ sym (length-map-range_with_len (slot_at unit old) 1 (length old / slot_size unit - 1))) in
    let over : is_overfull unit new ≡ is_overfull unit old =
    ap (λ (xs : List Slot). list_any (λ (f : SlotEntry). ltb (length new - (length xs + 1) * slot_size unit - slot_size unit) (f.entry.offset + f.entry.len)) (filter_map (counting_entry unit) xs) || ltb (capacity unit (length new)) (sum_by (entry_cost unit) (filter_map (counting_entry unit) xs))) closes.same_slots
    ∙ ap (λ (m : ℕ). list_any (λ (f : SlotEntry). ltb (m - (length (used_slots unit old) + 1) * slot_size unit - slot_size unit) (f.entry.offset + f.entry.len)) (entries unit old) || ltb (capacity unit m) (sum_by (entry_cost unit) (entries unit old))) closes.long in
    elim (or_cases (is_erased old) (has_fence unit old && not (is_overfull unit old)) sound) [
      | inl blank ↦ absurd (false≢true (sym full ∙ blank))
      | inr parts ↦
          let both = and_parts (has_fence unit old) (not (is_overfull unit old)) parts in
          or_right (is_erased new) (has_fence unit new && not (is_overfull unit new))
          (and_from (has_fence unit new) (not (is_overfull unit new)) (fence ∙ both.0) (ap not over ∙ both.1))
    ]

-- ---- what fits keeps within the capacity

-- a slot of an entry that counts is no gc-done
counts_not_done : (unit : ℕ) (slot : Slot) → (counting_entry unit slot ≡ None) ⊎ ((f : SlotEntry) × (counting_entry unit slot ≡ Some f) × (is_gc_done slot ≡ false))
counts_not_done unit slot =
    elim (decoded_cases slot.bytes) [
      | inl none ↦ inl (counting_entry-is unit slot None none)
      | inr some ↦
          let read = counting_entry-is unit slot (Some (entry_of slot.bytes)) some in
          let mark = is_gc_done-is slot (Some (entry_of slot.bytes)) some in
          elim (cases_Bool (counts unit slot.start (entry_of slot.bytes))) [
            | inl counted ↦
                let ordinary : eqb (entry_of slot.bytes).id 65535 ≡ false = not-true (eqb (entry_of slot.bytes).id 65535) ((and_parts _ _ ((and_parts _ _ counted).0)).0) in
                inr (record { slot = slot.index; entry = entry_of slot.bytes }, read ∙ ap (λ (b : Bool). cond b (Some (record { slot = slot.index; entry = entry_of slot.bytes })) None) counted, mark ∙ and_left (eqb (entry_of slot.bytes).id 65535) (eqb (entry_of slot.bytes).len 0) ordinary)
            | inr passed ↦ inl (read ∙ ap (λ (b : Bool). cond b (Some (record { slot = slot.index; entry = entry_of slot.bytes })) None) passed)
          ]
    ]

entry_unmarked : (unit : ℕ) (slot : Slot) (f : SlotEntry) → counting_entry unit slot ≡ Some f → is_gc_done slot ≡ false
entry_unmarked unit slot f is =
    elim (counts_not_done unit slot) [
      | inl none ↦ absurd (none_some (sym none ∙ is))
      | inr (g, some, unmarked) ↦ unmarked
    ]
  where
    none_some : None ≡ Some f → ⊥
    none_some e = cc

entry_cost-le : (unit : ℕ) (f : SlotEntry) → entry_cost unit f ≤ padded unit f.entry.len + slot_size unit
entry_cost-le unit f =
    elim (cases_Bool (eqb f.entry.len 0)) [
      | inl none ↦ let e : entry_cost unit f ≡ 0 = cond-true (eqb f.entry.len 0) 0 (cost unit f.entry.len) none in omega arith
      | inr some ↦ let e : entry_cost unit f ≡ cost unit f.entry.len = cond-false (eqb f.entry.len 0) 0 (cost unit f.entry.len) some in omega arith
    ]

slots_cost : (unit : ℕ) (ss : List Slot) → sum_by (entry_cost unit) (filter_map (counting_entry unit) ss) + cond (list_any is_gc_done ss) (slot_size unit) 0 ≤ sum_by (λ f. padded unit f.entry.len) (filter_map (counting_entry unit) ss) + length ss * slot_size unit
slots_cost unit ss = by_slots.slots_cost (counting_entry unit) is_gc_done (slot_size unit) (entry_cost unit) (λ f. padded unit f.entry.len) (entry_cost-le unit) (entry_unmarked unit) ss

-- What fits keeps the costs within the capacity.
pub fits-costs : (unit place : ℕ) (b : List ℕ) (len : ℕ) → IsUnit unit → 0 < len → fits unit (sector_scan unit place b) len ≡ true → pairs_cost unit (pairs unit b) + cost unit len ≤ capacity unit (length b)
fits-costs unit place b len is-unit some fitting =
    let pad = padding unit is-unit in
    let widths = slot_widths unit is-unit in
    let size = widths.no_less in
    let all = slots_cost unit (used_slots unit b) in
    let above = (data_end-above unit b).sums in
    let e = entries_cost unit b in
    let room : cost unit len + cond (has_gc_done unit b) 2 3 * slot_size unit ≤ low unit b - data_end unit b =
    leb-true (cost unit len + cond (has_gc_done unit b) 2 3 * slot_size unit) (free (sector_scan unit place b))
    (sym (cond-false (eqb len 0) (leb (2 * slot_size unit) (free (sector_scan unit place b))) (leb (cost unit len + cond (has_gc_done unit b) 2 3 * slot_size unit) (free (sector_scan unit place b))) (ne_eqb len 0 (λ (z : len ≡ 0). omega arith))) ∙ fitting) in
    elim (cases_Bool (has_gc_done unit b)) [
      | inl done ↦
          let two : cond (has_gc_done unit b) 2 3 ≡ 2 = ap (λ (t : Bool). cond t 2 3) done in
          let twice : cond (has_gc_done unit b) 2 3 * slot_size unit ≡ 2 * slot_size unit = ap (λ (n : ℕ). n * slot_size unit) two in
          let mark : cond (has_gc_done unit b) (slot_size unit) 0 ≡ slot_size unit = ap (λ (t : Bool). cond t (slot_size unit) 0) done in
          omega arith
      | inr none ↦
          let three : cond (has_gc_done unit b) 2 3 ≡ 3 = ap (λ (t : Bool). cond t 2 3) none in
          let thrice : cond (has_gc_done unit b) 2 3 * slot_size unit ≡ 3 * slot_size unit = ap (λ (n : ℕ). n * slot_size unit) three in
          omega arith
    ]

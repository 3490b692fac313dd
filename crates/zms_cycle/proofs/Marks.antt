-- What the close entry and emptying make of a sector.
use Rattle.std.proofs.Common.{◌≡◌, ℕ, ◌+◌, ◌-◌, ◌*◌, ◌/◌, ◌%◌, ◌≤◌, max, Bool, true, false, not, ◌&&◌, cond, eqb, leb, ltb, List, [], ◌∷◌, length, map, take, replicate, Option, Some, None, refl, sym, ap, subst, ◌∙◌, inl, inr, arith}
use Rattle.std.specs.Prelude.{fold, slice_range, is_some}
use Rattle.std.specs.List.{filter_map, list_any, list_all, suffix_len}
use Rattle.std.specs.Option.{option_map_or}
use Rattle.std.proofs.lemmas.Bool.{false≢true, cases_Bool, cases_lt, cond-true, cond-false, and_from, and_left, and_right, and_parts, or_from, or_parts, eq-eqb, eqb-true, ne_eqb, le-leb, lt-ltb, le-ltb}
use Rattle.std.proofs.lemmas.List.{get_or-replicate, length-replicate}
use Rattle.std.proofs.lemmas.List.Edits.{length-between}
use Rattle.flash_sim.specs.declared.flash.Kind.{Kind}
use Rattle.flash_sim.specs.declared.flash.Kind.TheVariants.{Erasing, Rewritable}
use Rattle.flash_map.specs.Units.{padded, is_erased, written_end}
use Rattle.flash_map.proofs.Ranges.{get_or_below}
use Rattle.flash_map.proofs.WrittenEnds.{erased_range}
use Rattle.item_laws.specs.Slots.{Slot, used_slots}
use Rattle.item_laws.proofs.SlotChanges.{slot_at-same, slot_at-from, used_slots-under}
use Rattle.item_laws.proofs.SlotLemmas.{bytes-slot_at, used_slots-from}
use Rattle.zms_cycle.specs.declared.entry.ZEntry.{ZEntry}
use Rattle.zms_cycle.specs.Entries.{encoded, decoded, fill, offset_of, is_empty, close_entry, empty_entry}
use Rattle.zms_cycle.specs.declared.reading.SlotEntry.{SlotEntry}
use Rattle.zms_cycle.specs.Sector.{slot_of, is_valid_under, is_valid, cycle_of, valid_slots, holds_close, is_closed, is_fresh, can_close, entry_in, entries, holds_done, value_end, end_of, written, data_end, is_under, is_sound, low, value_of, pair_of, pairs}
use Rattle.zms_cycle.specs.Changes.{with_slot, guarded, IsFilled, KeepsSlots, KeepsList, Closes, next_cycle, Empties, reaches_slot_1, guards_over_value}
use Rattle.zms_cycle.proofs.AreaFacts.{not_erasing}
use Rattle.zms_cycle.proofs.Bytes.{length-encoded, decoded-encoded, IsEntry-close, IsEntry-empty, close-is_close, empty-is_empty}
use Rattle.zms_cycle.proofs.ErasedSlots.{erased_invalid, written_below, written-never}
use Rattle.zms_cycle.proofs.Slots16.{Covers, valid-is, close-is, cycle_of-is, not_valid, slot-put, with_slot-above, with_slot-below, decoded-put, covers-fill, covers-guarded, covers-higher, covers-lower, guarded-not_valid}
use Rattle.zms_cycle.proofs.Frames.{IsSound, sound-parts, sound-ends, under-parts, pad, value_end-long, value-by, pairs-same, cycle_of-same, closed-same, slots-keep}

from_start : (n : ℕ) (xs : List ℕ) → slice_range xs 0 n ≡ take n xs
from_start n xs = let is : n - 0 ≡ n = omega arith in ap (λ (k : ℕ). take k xs) is

-- what is written stays where the bytes under the slots do
written_end-same : (place : ℕ) (old new : List ℕ) → take place new ≡ take place old → written_end 16 place new ≡ written_end 16 place old
unfolding written_end
written_end-same place old new same = ap (λ (under : List ℕ). padded 16 (place - suffix_len (λ byte. eqb byte 255) under)) same

written-same : (kind : Kind) (old new : List ℕ) → cycle_of new ≡ cycle_of old → low new ≡ low old → slice_range new 0 (low old) ≡ slice_range old 0 (low old) → written kind new ≡ written kind old
unfolding written
written-same Rewritable old new cycle lower same = refl
written-same Erasing old new cycle lower same =
    ap (λ (o : Option ℕ). cond (is_some o) (written_end 16 (low new) new) 0) cycle
    ∙ ap (λ (n : ℕ). cond (is_some (cycle_of old)) (written_end 16 n new) 0) lower
    ∙ ap (λ (n : ℕ). cond (is_some (cycle_of old)) n 0) (written_end-same (low old) old new (sym (from_start (low old) new) ∙ same ∙ from_start (low old) old))

-- the close entry in slot 1, after steps that kept the list
pub closes : (kind : Kind) (a b : List ℕ) (cycle place : ℕ) → IsSound a → KeepsList kind 0 a b → cycle_of a ≡ Some cycle → place ≡ low a → (kind ≡ Rewritable → IsFilled b (length (valid_slots a) + 2) ((length a - data_end kind a) / 16))
    → Closes kind a (with_slot b 1 (encoded (close_entry cycle place)))
closes kind a b cycle place sound keeps of_cycle at filled =
    let entry = IsEntry-close cycle place in
    let sixteen : length (encoded (close_entry cycle place)) ≡ 16 = length-encoded (close_entry cycle place) entry in
    let guard = sound.guard in
    let long-b = keeps.kept.long in
    let low-b = keeps.kept.lower in
    let inside : (1 + 1) * 16 ≤ length b = omega arith in
    let new = with_slot b 1 (encoded (close_entry cycle place)) in
    let same = with_slot-above b 1 (encoded (close_entry cycle place)) sixteen inside in
    let below = with_slot-below b 1 (encoded (close_entry cycle place)) sixteen inside in
    let cycle-b : cycle_of new ≡ cycle_of b = cycle_of-same b new (slot_at-from 16 (length b - 1 * 16) b new same 0 (omega arith)) in
    let all : cycle_of new ≡ cycle_of a = cycle-b ∙ keeps.kept.cycle in
    let read : decoded (slot_of new 1).bytes ≡ Some (close_entry cycle place) = ap decoded (slot-put b 1 (encoded (close_entry cycle place)) sixteen inside) ∙ decoded-encoded (close_entry cycle place) entry in
    let valid : is_valid (cycle_of new) (slot_of new 1) ≡ true =
    ap (λ (c : Option ℕ). is_valid c (slot_of new 1)) (all ∙ of_cycle) ∙ valid-is cycle (slot_of new 1) (Some (close_entry cycle place)) read ∙ eq-eqb cycle cycle refl in
    let under : valid_slots new ≡ valid_slots b =
    ap (λ (c : Option ℕ). used_slots (is_valid c) 2 16 new) cycle-b ∙ used_slots-under (is_valid (cycle_of b)) 2 16 b new (omega arith) same.long (λ i j le. below i j (omega arith)) in
    let slots : valid_slots new ≡ valid_slots a = under ∙ keeps.kept.slots in
    let long : length new ≡ length a = same.long ∙ long-b in
    let found : entries new ≡ entries b = ap (filter_map entry_in) under in
    let counted : length (valid_slots new) ≡ length (valid_slots b) = ap length under in
    let lower-b : low new ≡ low b = omega arith in
    let reads : data_end kind new ≡ data_end kind b =
    ap (λ (fs : List SlotEntry). max (end_of fs) (written kind new)) found
    ∙ ap (λ (n : ℕ). max (end_of (entries b)) n) (written-same kind b new cycle-b lower-b (below 0 (low b) (omega arith))) in
    let from : data_end kind a ≤ data_end kind b = keeps.end_from in
    let to : data_end kind b ≤ data_end kind a + 0 = keeps.end_to in
    let stays : data_end kind b ≡ data_end kind a = omega arith in
    let ends : fold max 0 (map value_end (entries b)) ≤ low a - 16 = subst (λ (fs : List SlotEntry). fold max 0 (map value_end fs) ≤ low a - 16) (sym keeps.kept.same_entries) (sound-ends a sound) in
    record {
      list = ap (map (pair_of new)) found ∙ pairs-same (low a - 16) b new (λ i j le. below i j (omega arith)) (entries b) 0 ends ∙ keeps.list;
      long = long;
      cycle = all;
      closed = and_from (is_valid (cycle_of new) (slot_of new 1)) (holds_close (slot_of new 1)) valid (close-is (slot_of new 1) (Some (close_entry cycle place)) read ∙ close-is_close cycle place);
      mark = λ c is. read ∙ ap (λ (n : ℕ). Some (close_entry cycle n)) at ∙ ap (λ (k : ℕ). Some (close_entry k (low a))) (ap (λ (o : Option ℕ). option_map_or (λ n. n) o 0) (sym of_cycle ∙ is));
      filled = λ rewritable k from below_end. ap (λ (slot : Slot). slot.bytes) (slot_at-same 16 b new k same.long (below (length b - (k + 1) * 16) (length b - (k + 1) * 16 + 16) (omega arith))) ∙ filled rewritable k from below_end;
      slots = slots;
      gc_done = ap (list_any holds_done) slots;
      same_entries = ap (filter_map entry_in) slots;
      lower = let count = ap length slots in omega arith;
      same_end = reads ∙ stays;
    }

-- Emptying.

end_of-none : end_of [] ≡ 0
unfolding end_of
end_of-none = refl

-- where slot 2 is not valid, none is
pub no_slots : (b : List ℕ) → 48 ≤ length b → is_valid (cycle_of b) (slot_of b 2) ≡ false → valid_slots b ≡ []
no_slots b long second = used_slots-from (is_valid (cycle_of b)) 2 16 b 0 (omega arith) (record { used = λ k from below. absurd (omega arith); fence = second; within = omega arith })

valid_once : (o : Option ZEntry) (c d : ℕ) → option_map_or (λ e. eqb e.cycle c) o false ≡ true → (c ≡ d → ⊥) → option_map_or (λ e. eqb e.cycle d) o false ≡ false
valid_once None c d valid apart = refl
valid_once (Some e) c d valid apart = ne_eqb e.cycle d (λ z. apart (sym (eqb-true e.cycle c valid) ∙ z))

-- what is valid under the next cycle is not valid under this one
other_cycle : (cycle : Option ℕ) (slot : Slot) → is_valid_under (next_cycle cycle) slot ≡ true → is_valid cycle slot ≡ false
other_cycle None slot valid = refl
other_cycle (Some c) slot valid =
    valid-is c slot (decoded slot.bytes) refl ∙ valid_once (decoded slot.bytes) ((c + 1) % 256) c (sym (valid-is ((c + 1) % 256) slot (decoded slot.bytes) refl) ∙ valid) (λ z. omega (arith, z))

-- Values that the guard of slot 1 does not touch.

value-apart : (old new : List ℕ) (f : SlotEntry) → Covers 1 old new → reaches_slot_1 (length old) f ≡ false → value_of new f.entry ≡ value_of old f.entry
unfolding reaches_slot_1
value-apart old new f covers apart = value-by old new f (λ long.
    let over : (ltb (offset_of f.entry) (length old - 16) && ltb (length old - 32) (offset_of f.entry + f.entry.len)) ≡ false =
    sym (ap (λ (t : Bool). not t && ltb (offset_of f.entry) (length old - 16) && ltb (length old - 32) (offset_of f.entry + f.entry.len)) long) ∙ apart in
    elim (cases_lt (offset_of f.entry) (length old - 16)) [
      | inr ge ↦ covers.above.bytes (offset_of f.entry) (offset_of f.entry + f.entry.len) (omega arith)
      | inl lt ↦ elim (cases_lt (length old - 32) (offset_of f.entry + f.entry.len)) [
        | inr le ↦ covers.below (offset_of f.entry) (offset_of f.entry + f.entry.len) (omega arith)
        | inl gt ↦ absurd (false≢true (sym over ∙ and_from (ltb (offset_of f.entry) (length old - 16)) (ltb (length old - 32) (offset_of f.entry + f.entry.len)) (lt-ltb (offset_of f.entry) (length old - 16) lt) (lt-ltb (length old - 32) (offset_of f.entry + f.entry.len) gt)))
      ]
    ])

pairs-apart : (old new : List ℕ) (fs : List SlotEntry) → Covers 1 old new → list_any (reaches_slot_1 (length old)) fs ≡ false → map (pair_of new) fs ≡ map (pair_of old) fs
pairs-apart old new [] covers apart = refl
pairs-apart old new (f ∷ fs) covers apart =
    let parts = or_parts (reaches_slot_1 (length old) f) (list_any (reaches_slot_1 (length old)) fs) apart in
    ap (λ (bytes : List ℕ). (f.entry.id, bytes) ∷ map (pair_of new) fs) (value-apart old new f covers parts.0)
    ∙ ap (λ ps. pair_of old f ∷ ps) (pairs-apart old new fs covers parts.1)

under-apart : (limit size : ℕ) (f : SlotEntry) → is_under limit f ≡ true → limit + 32 ≤ size → reaches_slot_1 size f ≡ false
unfolding reaches_slot_1
under-apart limit size f under le = elim (cases_Bool (leb f.entry.len 8)) [
  | inl short ↦ ap (λ (t : Bool). not t && ltb (offset_of f.entry) (size - 16) && ltb (size - 32) (offset_of f.entry + f.entry.len)) short
  | inr long ↦
      let here = under-parts limit f under in
      let below = here.0 in
      let end = value_end-long f long in
      let rounded = pad f.entry.len in
      and_right (not (leb f.entry.len 8) && ltb (offset_of f.entry) (size - 16)) (ltb (size - 32) (offset_of f.entry + f.entry.len)) (le-ltb (size - 32) (offset_of f.entry + f.entry.len) (omega arith))
]

all-apart : (limit size : ℕ) (fs : List SlotEntry) → list_all (is_under limit) fs ≡ true → limit + 32 ≤ size → list_any (reaches_slot_1 size) fs ≡ false
all-apart limit size [] under le = refl
all-apart limit size (f ∷ fs) under le =
    let parts = and_parts (is_under limit f) (list_all (is_under limit) fs) under in
    or_from (reaches_slot_1 size f) (list_any (reaches_slot_1 size) fs) (under-apart limit size f parts.0 le) (all-apart limit size fs parts.1 le)

-- In a sound sector every value ends at or below the guard slot, so emptying guards over none.
pub sound-apart : (b : List ℕ) → is_sound b ≡ true → guards_over_value b ≡ false
sound-apart b is =
    let parts = sound-parts b is in
    let guard = parts.guard in
    and_right (is_valid_under (next_cycle (cycle_of b)) (slot_of b 1)) (list_any (reaches_slot_1 (length b)) (entries b)) (all-apart (low b - 16) (length b) (entries b) parts.under (omega arith))

-- the slots and the marks stay, and the bytes of all pairs where no guard was put over a value
pub record KeepsState (old new : List ℕ) : Type 0 where
  pub kept : KeepsSlots old new
  pub list : guards_over_value old ≡ false → pairs new ≡ pairs old

pub state_same : (b : List ℕ) → KeepsState b b
state_same b = record { kept = slots-keep b b refl refl refl refl; list = λ apart. refl }

-- the slots and the marks stay, and all pairs
record KeepsPairs (old new : List ℕ) : Type 0 where
  kept : KeepsSlots old new
  list : pairs new ≡ pairs old

-- the guard of slot 1 for the next cycle
pub first_guard : (b : List ℕ) → 48 ≤ length b → KeepsState b (guarded Rewritable (next_cycle (cycle_of b)) 1 b)
first_guard b long = elim (cases_Bool (is_valid_under (next_cycle (cycle_of b)) (slot_of b 1))) [
  | inr other ↦ subst (λ (new : List ℕ). KeepsState b new) (sym (cond-false (is_valid_under (next_cycle (cycle_of b)) (slot_of b 1)) (with_slot b 1 fill) b other)) (state_same b)
  | inl valid ↦ subst (λ (new : List ℕ). KeepsState b new) (sym (cond-true (is_valid_under (next_cycle (cycle_of b)) (slot_of b 1)) (with_slot b 1 fill) b valid)) (
      let new = with_slot b 1 fill in
      let covers : Covers 1 b new = covers-fill 1 b (omega arith) in
      let cycle : cycle_of new ≡ cycle_of b = cycle_of-same b new (covers-higher 1 0 b new covers (omega arith)) in
      let before : is_closed b ≡ false = and_left (is_valid (cycle_of b) (slot_of b 1)) (holds_close (slot_of b 1)) (other_cycle (cycle_of b) (slot_of b 1) valid) in
      let after : is_closed new ≡ false = and_left (is_valid (cycle_of new) (slot_of new 1)) (holds_close (slot_of new 1)) (not_valid (cycle_of new) (slot_of new 1) (decoded-put b 1 (omega arith))) in
      let slots : valid_slots new ≡ valid_slots b =
      ap (λ (c : Option ℕ). used_slots (is_valid c) 2 16 new) cycle ∙ used_slots-under (is_valid (cycle_of b)) 2 16 b new (omega arith) covers.above.long (λ i j le. covers.below i j (omega arith)) in
      record {
        kept = slots-keep b new covers.above.long cycle (after ∙ sym before) slots;
        list = λ apart.
            let none : list_any (reaches_slot_1 (length b)) (entries b) ≡ false =
            sym (ap (λ (t : Bool). t && list_any (reaches_slot_1 (length b)) (entries b)) valid) ∙ apart in
            ap (map (pair_of new)) (ap (filter_map entry_in) slots) ∙ pairs-apart b new (entries b) covers none;
      })
]

-- The guard of slot 2 for the next cycle. Where that slot is valid under it, the list is empty before and after.
second_guard : (b : List ℕ) → 48 ≤ length b → KeepsPairs b (guarded Rewritable (next_cycle (cycle_of b)) 2 b)
second_guard b long = elim (cases_Bool (is_valid_under (next_cycle (cycle_of b)) (slot_of b 2))) [
  | inr other ↦ subst (λ (new : List ℕ). KeepsPairs b new) (sym (cond-false (is_valid_under (next_cycle (cycle_of b)) (slot_of b 2)) (with_slot b 2 fill) b other)) (record { kept = slots-keep b b refl refl refl refl; list = refl })
  | inl valid ↦ subst (λ (new : List ℕ). KeepsPairs b new) (sym (cond-true (is_valid_under (next_cycle (cycle_of b)) (slot_of b 2)) (with_slot b 2 fill) b valid)) (
      let new = with_slot b 2 fill in
      let covers : Covers 2 b new = covers-fill 2 b (omega arith) in
      let cycle : cycle_of new ≡ cycle_of b = cycle_of-same b new (covers-higher 2 0 b new covers (omega arith)) in
      let closed : is_closed new ≡ is_closed b = closed-same b new cycle (covers-higher 2 1 b new covers (omega arith)) in
      let before : valid_slots b ≡ [] = no_slots b long (other_cycle (cycle_of b) (slot_of b 2) valid) in
      let after : valid_slots new ≡ [] = no_slots new (let same = covers.above.long in omega arith) (not_valid (cycle_of new) (slot_of new 2) (decoded-put b 2 (omega arith))) in
      record {
        kept = slots-keep b new covers.above.long cycle closed (after ∙ sym before);
        list = ap (λ (ss : List Slot). map (pair_of new) (filter_map entry_in ss)) after ∙ sym (ap (λ (ss : List Slot). map (pair_of b) (filter_map entry_in ss)) before);
      })
]

state_then : {a b c : List ℕ} → KeepsState a b → KeepsPairs b c → KeepsState a c
state_then {a} {b} {c} first second = record {
  kept = slots-keep a c (second.kept.long ∙ first.kept.long) (second.kept.cycle ∙ first.kept.cycle) (second.kept.closed ∙ first.kept.closed) (second.kept.slots ∙ first.kept.slots);
  list = λ apart. second.list ∙ first.list apart;
}

-- both guards
pub both_guards : (b : List ℕ) → 48 ≤ length b → KeepsState b (guarded Rewritable (next_cycle (cycle_of b)) 2 (guarded Rewritable (next_cycle (cycle_of b)) 1 b))
both_guards b long =
    let first = first_guard b long in
    let mid = guarded Rewritable (next_cycle (cycle_of b)) 1 b in
    let same : next_cycle (cycle_of mid) ≡ next_cycle (cycle_of b) = ap next_cycle first.kept.cycle in
    state_then first (subst (λ (c : ℕ). KeepsPairs mid (guarded Rewritable c 2 mid)) same (second_guard mid (let size = first.kept.long in omega arith)))

rewritable-closable : (b : List ℕ) → can_close Rewritable b ≡ true
unfolding can_close
rewritable-closable b = refl

-- and the empty entry of the next cycle in slot 0
pub empties : (b : List ℕ) → 64 ≤ length b → Empties Rewritable b (with_slot (guarded Rewritable (next_cycle (cycle_of b)) 2 (guarded Rewritable (next_cycle (cycle_of b)) 1 b)) 0 (encoded (empty_entry (next_cycle (cycle_of b)))))
empties b long =
    let c = next_cycle (cycle_of b) in
    let one = guarded Rewritable (next_cycle (cycle_of b)) 1 b in
    let two = guarded Rewritable (next_cycle (cycle_of b)) 2 one in
    let e = empty_entry (next_cycle (cycle_of b)) in
    let new = with_slot two 0 (encoded e) in
    let entry = IsEntry-empty (next_cycle (cycle_of b)) in
    let sixteen : length (encoded e) ≡ 16 = length-encoded e entry in
    let first : Covers 1 b one = covers-guarded Rewritable (next_cycle (cycle_of b)) 1 b (omega arith) in
    let long-one : length one ≡ length b = first.above.long in
    let second : Covers 2 one two = covers-guarded Rewritable (next_cycle (cycle_of b)) 2 one (omega arith) in
    let long-two : length two ≡ length b = second.above.long ∙ long-one in
    let same = with_slot-above two 0 (encoded e) sixteen (omega arith) in
    let below = with_slot-below two 0 (encoded e) sixteen (omega arith) in
    let size : length new ≡ length b = same.long ∙ long-two in
    let read : decoded (slot_of new 0).bytes ≡ Some e = ap decoded (slot-put two 0 (encoded e) sixteen (omega arith)) ∙ decoded-encoded e entry in
    let cycle : cycle_of new ≡ Some (next_cycle (cycle_of b)) = cycle_of-is new (Some e) read ∙ cond-true (is_empty e) (Some (next_cycle (cycle_of b))) None (empty-is_empty (next_cycle (cycle_of b))) in
    let slot-one : slot_of new 1 ≡ slot_of one 1 =
    slot_at-same 16 two new 1 same.long (below (length two - (1 + 1) * 16) (length two - (1 + 1) * 16 + 16) (omega arith)) ∙ covers-higher 2 1 one two second (omega arith) in
    let slot-two : slot_of new 2 ≡ slot_of two 2 = slot_at-same 16 two new 2 same.long (below (length two - (2 + 1) * 16) (length two - (2 + 1) * 16 + 16) (omega arith)) in
    let slot-three : slot_of new 3 ≡ slot_of b 3 =
    slot_at-same 16 two new 3 same.long (below (length two - (3 + 1) * 16) (length two - (3 + 1) * 16 + 16) (omega arith))
    ∙ covers-lower 2 3 one two second (omega arith) (omega arith) ∙ covers-lower 1 3 b one first (omega arith) (omega arith) in
    let first_not : is_valid_under c (slot_of new 1) ≡ false = ap (is_valid_under c) slot-one ∙ guarded-not_valid c 1 b (omega arith) in
    let second_not : is_valid_under c (slot_of new 2) ≡ false = ap (is_valid_under c) slot-two ∙ guarded-not_valid c 2 one (omega arith) in
    let none : valid_slots new ≡ [] = no_slots new (omega arith) (ap (λ (o : Option ℕ). is_valid o (slot_of new 2)) cycle ∙ second_not) in
    let ended : end_of (entries new) ≡ 0 = ap (λ (ss : List Slot). end_of (filter_map entry_in ss)) none ∙ end_of-none in
    let unwritten = written-never new in
    let lowest : low new ≡ length new - 32 = ap (λ (ss : List Slot). length new - (length ss + 2) * 16) none in
    record {
      long = size;
      cycle = cycle;
      closed = and_left (is_valid (cycle_of new) (slot_of new 1)) (holds_close (slot_of new 1)) (ap (λ (o : Option ℕ). is_valid o (slot_of new 1)) cycle ∙ first_not);
      second = second_not;
      third = λ rewritable. slot-three;
      slots = none;
      gc_done = ap (list_any holds_done) none;
      list = ap (λ (ss : List Slot). map (pair_of new) (filter_map entry_in ss)) none;
      lower = lowest;
      same_end = omega arith;
      closable = rewritable-closable new;
      fresh = λ erasing. absurd (not_erasing erasing);
      sound = and_from (leb 16 (low new)) (list_all (is_under (low new - 16)) (entries new)) (le-leb 16 (low new) (omega arith)) (ap (λ (ss : List Slot). list_all (is_under (low new - 16)) (filter_map entry_in ss)) none);
    }

-- The empty entry in a sector that is all FF.

erasing-closable : (b : List ℕ) → is_erased (slot_of b 1).bytes ≡ true → can_close Erasing b ≡ true
unfolding can_close
erasing-closable b erased = erased

fresh-by : (b : List ℕ) (c n : ℕ) → cycle_of b ≡ Some c → length b ≡ n → is_erased (take (n - 16) b) ≡ true → is_fresh b ≡ true
unfolding is_fresh
fresh-by b c n of_cycle long erased =
    and_from (is_some (cycle_of b)) (is_erased (take (length b - 16) b)) (ap (λ (o : Option ℕ). is_some o) of_cycle) (ap (λ (k : ℕ). is_erased (take (k - 16) b)) long ∙ erased)

pub blank_range : (n i j : ℕ) → j ≤ n → is_erased (slice_range (replicate n 255) i j) ≡ true
blank_range n i j within =
    let blank : List ℕ = replicate n 255 in
    let long : length blank ≡ n = length-replicate n 255 in
    erased_range blank i j (omega arith) (λ k from below. get_or-replicate n k 255 0 (omega arith))

pub blank_slot : (n k : ℕ) → (k + 1) * 16 ≤ n → is_erased (slot_of (replicate n 255) k).bytes ≡ true
blank_slot n k inside =
    let blank : List ℕ = replicate n 255 in
    let long : length blank ≡ n = length-replicate n 255 in
    ap is_erased (sym (bytes-slot_at 16 blank k (n - (k + 1) * 16) (omega arith))) ∙ blank_range n (n - (k + 1) * 16) (n - (k + 1) * 16 + 16) (omega arith)

length-slot : (b : List ℕ) (k : ℕ) → (k + 1) * 16 ≤ length b → length (slot_of b k).bytes ≡ 16
length-slot b k inside =
    ap length (sym (bytes-slot_at 16 b k (length b - (k + 1) * 16) refl)) ∙ length-between b (length b - (k + 1) * 16) (length b - (k + 1) * 16 + 16) (omega arith) ∙ omega arith

pub empties_blank : (b : List ℕ) → 48 ≤ length b → Empties Erasing b (with_slot (replicate (length b) 255) 0 (encoded (empty_entry (next_cycle (cycle_of b)))))
empties_blank b long =
    let c = next_cycle (cycle_of b) in
    let blank : List ℕ = replicate (length b) 255 in
    let e = empty_entry (next_cycle (cycle_of b)) in
    let new = with_slot blank 0 (encoded e) in
    let entry = IsEntry-empty (next_cycle (cycle_of b)) in
    let sixteen : length (encoded e) ≡ 16 = length-encoded e entry in
    let long-blank : length blank ≡ length b = length-replicate (length b) 255 in
    let same = with_slot-above blank 0 (encoded e) sixteen (omega arith) in
    let below = with_slot-below blank 0 (encoded e) sixteen (omega arith) in
    let size : length new ≡ length b = same.long ∙ long-blank in
    let read : decoded (slot_of new 0).bytes ≡ Some e = ap decoded (slot-put blank 0 (encoded e) sixteen (omega arith)) ∙ decoded-encoded e entry in
    let cycle : cycle_of new ≡ Some (next_cycle (cycle_of b)) = cycle_of-is new (Some e) read ∙ cond-true (is_empty e) (Some (next_cycle (cycle_of b))) None (empty-is_empty (next_cycle (cycle_of b))) in
    let slot-one : slot_of new 1 ≡ slot_of blank 1 = slot_at-same 16 blank new 1 same.long (below (length blank - (1 + 1) * 16) (length blank - (1 + 1) * 16 + 16) (omega arith)) in
    let slot-two : slot_of new 2 ≡ slot_of blank 2 = slot_at-same 16 blank new 2 same.long (below (length blank - (2 + 1) * 16) (length blank - (2 + 1) * 16 + 16) (omega arith)) in
    let first_erased : is_erased (slot_of new 1).bytes ≡ true = ap (λ (slot : Slot). is_erased slot.bytes) slot-one ∙ blank_slot (length b) 1 (omega arith) in
    let second_erased : is_erased (slot_of new 2).bytes ≡ true = ap (λ (slot : Slot). is_erased slot.bytes) slot-two ∙ blank_slot (length b) 2 (omega arith) in
    let first_not : is_valid_under c (slot_of new 1) ≡ false = erased_invalid c (slot_of new 1) (length-slot new 1 (omega arith)) first_erased in
    let second_not : is_valid_under c (slot_of new 2) ≡ false = erased_invalid c (slot_of new 2) (length-slot new 2 (omega arith)) second_erased in
    let none : valid_slots new ≡ [] = no_slots new (omega arith) (ap (λ (o : Option ℕ). is_valid o (slot_of new 2)) cycle ∙ second_not) in
    let ended : end_of (entries new) ≡ 0 = ap (λ (ss : List Slot). end_of (filter_map entry_in ss)) none ∙ end_of-none in
    let lowest : low new ≡ length new - 32 = ap (λ (ss : List Slot). length new - (length ss + 2) * 16) none in
    let unwritten : written Erasing new ≤ 0 =
    written_below new c 0 cycle refl (λ k from under.
    get_or_below blank (length blank - (0 + 1) * 16) (encoded e) k (omega arith) (omega arith) ∙ get_or-replicate (length b) k 255 0 (omega arith)) in
    record {
      long = size;
      cycle = cycle;
      closed = and_left (is_valid (cycle_of new) (slot_of new 1)) (holds_close (slot_of new 1)) (ap (λ (o : Option ℕ). is_valid o (slot_of new 1)) cycle ∙ first_not);
      second = second_not;
      third = λ rewritable. absurd (not_erasing (sym rewritable));
      slots = none;
      gc_done = ap (list_any holds_done) none;
      list = ap (λ (ss : List Slot). map (pair_of new) (filter_map entry_in ss)) none;
      lower = lowest;
      same_end = omega arith;
      closable = erasing-closable new first_erased;
      fresh = λ erasing. fresh-by new c (length b) cycle size (ap is_erased (sym (from_start (length b - 16) new) ∙ below 0 (length b - 16) (omega arith)) ∙ blank_range (length b) 0 (length b - 16) (omega arith));
      sound = and_from (leb 16 (low new)) (list_all (is_under (low new - 16)) (entries new)) (le-leb 16 (low new) (omega arith)) (ap (λ (ss : List Slot). list_all (is_under (low new - 16)) (filter_map entry_in ss)) none);
    }

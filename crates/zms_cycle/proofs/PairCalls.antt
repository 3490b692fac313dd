-- An entry with its value, and gc-done, in a sector of an area.
use Rattle.std.proofs.Common.{◌≡◌, ℕ, ◌+◌, ◌-◌, ◌*◌, ◌%◌, ◌^◌, ◌<◌, ◌≤◌, Bool, true, false, cond, eqb, leb, List, length, Option, Some, refl, sym, ap, subst, ◌∙◌, inl, inr, arith}
use Rattle.std.specs.Prelude.{slice_range, replicate}
use Rattle.std.proofs.lemmas.Bool.{cases_Bool, cond-true, cond-false, leb-true, eqb-true}
use Rattle.std.proofs.lemmas.List.{take_at, take_all}
use Rattle.flash_sim.specs.Device.{overwritten}
use Rattle.flash_sim.specs.declared.flash.Kind.{Kind}
use Rattle.flash_sim.specs.declared.flash.Kind.TheVariants.{Erasing, Rewritable}
use Rattle.flash_map.specs.Units.{padded, padded_bytes}
use Rattle.std.proofs.lemmas.List.Edits.{length-between}
use Rattle.flash_map.proofs.Ranges.{range_at}
use Rattle.flash_map.proofs.PaddedLemmas.{length-padded_bytes}
use Rattle.item_laws.proofs.SlotLemmas.{bytes-slot_at}
use Rattle.zms_cycle.specs.declared.entry.ZEntry.{ZEntry}
use Rattle.zms_cycle.specs.Entries.{encoded, value_entry, done_entry}
use Rattle.zms_cycle.specs.Sector.{slot_of, is_valid_under, is_valid, cycle_of, valid_slots, has_gc_done, data_len, cost, low, data_end, free, fits}
use Rattle.zms_cycle.specs.Changes.{with_slot, guarded, with_value, HasPart, KeepsList, left_over, AddsPair, MarksDone}
use Rattle.zms_cycle.proofs.Bytes.{IsEntry, IsEntry-value, IsEntry-done}
use Rattle.zms_cycle.proofs.Slots16.{Covers, covers-guarded, guarded-not_valid}
use Rattle.zms_cycle.proofs.ErasedSlots.{slot_free, erased_invalid}
use Rattle.zms_cycle.proofs.Frames.{IsSound, pad, data_len-short, data_len-long, data_len-aligned, data_end-aligned, keeps_same}
use Rattle.zms_cycle.proofs.Ends.{left_over-le, keeps_on, keeps_data, keeps_guarded}
use Rattle.zms_cycle.proofs.Appends.{HasSlotMore, has_slot_more, marks_done, adds_pair}

at_least_two : (t : Bool) → 2 ≤ cond t 2 3
at_least_two true = omega arith
at_least_two false = omega arith

-- what fits has room
pub fits_room : (kind : Kind) (b : List ℕ) (len : ℕ) → fits kind b len ≡ true → data_end kind b + data_len len + 32 ≤ low b
fits_room kind b len fitting = elim (cases_Bool (eqb len 0)) [
  | inl zero_len ↦
      let none : len ≡ 0 = eqb-true len 0 zero_len in
      let nothing = data_len-short len (omega arith) in
      let room = leb-true 32 (free kind b) (sym (cond-true (eqb len 0) (leb 32 (free kind b)) (leb (cost len + cond (has_gc_done b) 2 3 * 16) (free kind b)) zero_len) ∙ fitting) in
      omega arith
  | inr some_len ↦
      let few = at_least_two (has_gc_done b) in
      let room = leb-true (cost len + cond (has_gc_done b) 2 3 * 16) (free kind b) (sym (cond-false (eqb len 0) (leb 32 (free kind b)) (leb (cost len + cond (has_gc_done b) 2 3 * 16) (free kind b)) some_len) ∙ fitting) in
      omega arith
]

-- a value at the data end
pub value_kept : (kind : Kind) (b : List ℕ) (cycle : ℕ) (bytes : List ℕ) → cycle_of b ≡ Some cycle → IsSound b → data_end kind b + data_len (length bytes) + 32 ≤ low b → KeepsList kind (left_over kind (data_len (length bytes))) b (with_value b (data_end kind b) bytes)
value_kept kind b cycle bytes of_cycle sound room = elim (cases_Bool (leb (length bytes) 8)) [
  | inl short ↦
      subst (λ (mid : List ℕ). KeepsList kind (left_over kind (data_len (length bytes))) b mid) (sym (cond-true (leb (length bytes) 8) b (overwritten b (data_end kind b) (padded_bytes 16 bytes)) short))
      (keeps_same kind (left_over kind (data_len (length bytes))) b)
  | inr long ↦
      let size = length-padded_bytes 16 bytes (inr (inr refl)) in
      let some = data_len-long (length bytes) long in
      subst (λ (mid : List ℕ). KeepsList kind (left_over kind (data_len (length bytes))) b mid) (sym (cond-false (leb (length bytes) 8) b (overwritten b (data_end kind b) (padded_bytes 16 bytes)) long))
      (keeps_data kind b (padded_bytes 16 bytes) cycle (data_len (length bytes)) of_cycle sound.guard (data_end-aligned kind b sound) (data_len-aligned (length bytes)) (omega arith) (omega arith))
]

module _ (b : List ℕ) (end : ℕ) (bytes : List ℕ) (room : end + data_len (length bytes) + 32 ≤ low b) (long : leb (length bytes) 8 ≡ false) where
  pub value_stored : slice_range (with_value b end bytes) end (end + length bytes) ≡ bytes
  value_stored =
      let size = length-padded_bytes 16 bytes (inr (inr refl)) in
      let some = data_len-long (length bytes) long in
      let rounded = pad (length bytes) in
      ap (λ (mid : List ℕ). slice_range mid end (end + length bytes)) (cond-false (leb (length bytes) 8) b (overwritten b end (padded_bytes 16 bytes)) long)
      ∙ range_at b end (padded_bytes 16 bytes) (length bytes) (omega arith) (omega arith)
      ∙ take_at bytes (replicate (padded 16 (length bytes) - length bytes) 255) (length bytes) refl

  pub units_stored : slice_range (with_value b end bytes) end (end + data_len (length bytes)) ≡ padded_bytes 16 bytes
  units_stored =
      let size = length-padded_bytes 16 bytes (inr (inr refl)) in
      let some = data_len-long (length bytes) long in
      ap (λ (mid : List ℕ). slice_range mid end (end + data_len (length bytes))) (cond-false (leb (length bytes) 8) b (overwritten b end (padded_bytes 16 bytes)) long)
      ∙ range_at b end (padded_bytes 16 bytes) (data_len (length bytes)) (omega arith) (omega arith)
      ∙ take_all (data_len (length bytes)) (padded_bytes 16 bytes) (omega arith)

-- a part of a value
pub part_kept : (kind : Kind) (b new : List ℕ) (cycle most : ℕ) → cycle_of b ≡ Some cycle → IsSound b → most % 16 ≡ 0 → data_end kind b + most + 32 ≤ low b → HasPart b new (data_end kind b) most → KeepsList kind (left_over kind most) b new
part_kept kind b new cycle most of_cycle sound whole room part =
    let le = part.1 in
    subst (λ (c : List ℕ). KeepsList kind (left_over kind most) b c) (sym part.2) (keeps_data kind b part.0 cycle most of_cycle sound.guard (data_end-aligned kind b sound) whole le (omega arith))

-- the slot under that of the next entry is not valid once it is guarded
guard_stops : (kind : Kind) (mid : List ℕ) (cycle n : ℕ) → cycle_of mid ≡ Some cycle → length (valid_slots mid) ≡ n → data_end kind mid + 32 ≤ low mid → is_valid_under cycle (slot_of (guarded kind cycle (n + 2 + 1) mid) (n + 2 + 1)) ≡ false
guard_stops Rewritable mid cycle n of_cycle count room = guarded-not_valid cycle (n + 2 + 1) mid (omega arith)
guard_stops Erasing mid cycle n of_cycle count room =
    let start = length mid - (n + 2 + 1 + 1) * 16 in
    let sixteen : length (slot_of mid (n + 2 + 1)).bytes ≡ 16 = ap length (sym (bytes-slot_at 16 mid (n + 2 + 1) (length mid - (n + 2 + 1 + 1) * 16) refl)) ∙ length-between mid (length mid - (n + 2 + 1 + 1) * 16) (length mid - (n + 2 + 1 + 1) * 16 + 16) (omega arith) ∙ omega arith in
    erased_invalid cycle (slot_of mid (n + 2 + 1)) sixteen (slot_free mid cycle of_cycle (n + 2 + 1) (omega arith) (omega arith))

-- The guard, and then an entry in the guard slot.
module _ (kind : Kind) (most : ℕ) (b mid : List ℕ) (cycle n : ℕ) (keeps : KeepsList kind most b mid) (of_cycle : cycle_of b ≡ Some cycle) (room : data_end kind b + most + 32 ≤ low b) (count : n ≡ length (valid_slots b)) where
  mid_count : length (valid_slots mid) ≡ n
  mid_count = ap length keeps.kept.slots ∙ sym count

  mid_room : data_end kind mid + 32 ≤ low mid
  mid_room = let end = keeps.end_to in let lower = keeps.kept.lower in omega arith

  covers : Covers (n + 2 + 1) mid (guarded kind cycle (n + 2 + 1) mid)
  covers = let long = keeps.kept.long in covers-guarded kind cycle (n + 2 + 1) mid (omega arith)

  guard_keeps_mid : KeepsList kind 0 mid (guarded kind cycle (n + 2 + 1) mid)
  guard_keeps_mid =
      let under = mid_room in
      let counted = mid_count in
      keeps_guarded kind mid cycle (n + 2 + 1) (omega arith) (omega arith) (omega arith) (omega arith)

  pub guard_keeps : KeepsList kind most b (guarded kind cycle (n + 2 + 1) mid)
  guard_keeps = keeps_on kind most keeps guard_keeps_mid

  guarded_count : length (valid_slots (guarded kind cycle (n + 2 + 1) mid)) ≡ n
  guarded_count = ap length guard_keeps.kept.slots ∙ sym count

  pub below_guard : (i j : ℕ) → j ≤ low b - 32 → slice_range (guarded kind cycle (n + 2 + 1) mid) i j ≡ slice_range mid i j
  below_guard i j le = let long = keeps.kept.long in covers.below i j (omega arith)

  pub more_in_guard : (e : ZEntry) → e.cycle ≡ cycle → IsEntry e → HasSlotMore (guarded kind cycle (n + 2 + 1) mid) (with_slot (guarded kind cycle (n + 2 + 1) mid) (n + 2) (encoded e)) e
  more_in_guard e same is_entry =
      let lower = guard_keeps.kept.lower in
      let long = keeps.kept.long in
      let cycle-is : cycle_of (guarded kind cycle (n + 2 + 1) mid) ≡ Some cycle = guard_keeps.kept.cycle ∙ of_cycle in
      let invalid : is_valid (cycle_of (guarded kind cycle (n + 2 + 1) mid)) (slot_of (guarded kind cycle (n + 2 + 1) mid) (n + 2 + 1)) ≡ false =
      ap (λ (o : Option ℕ). is_valid o (slot_of (guarded kind cycle (n + 2 + 1) mid) (n + 2 + 1))) cycle-is ∙ guard_stops kind mid cycle n (keeps.kept.cycle ∙ of_cycle) mid_count mid_room in
      let at = guarded_count in
      subst (λ (k : ℕ). HasSlotMore (guarded kind cycle (n + 2 + 1) mid) (with_slot (guarded kind cycle (n + 2 + 1) mid) (k + 2) (encoded e)) e) at
      (has_slot_more (guarded kind cycle (n + 2 + 1) mid) e (omega arith) is_entry (cycle-is ∙ ap (λ (c : ℕ). Some c) (sym same))
      (subst (λ (k : ℕ). is_valid (cycle_of (guarded kind cycle (n + 2 + 1) mid)) (slot_of (guarded kind cycle (n + 2 + 1) mid) (k + 2 + 1)) ≡ false) (sym at) invalid))

-- the whole of gc-done
pub done_put : (kind : Kind) (b : List ℕ) (cycle n : ℕ) → IsSound b → cycle_of b ≡ Some cycle → data_end kind b + 32 ≤ low b → n ≡ length (valid_slots b) → MarksDone kind b (with_slot (guarded kind cycle (n + 2 + 1) b) (n + 2) (encoded (done_entry cycle (data_end kind b))))
done_put kind b cycle n sound of_cycle room count =
    let little : data_end kind b + 0 + 32 ≤ low b = omega arith in
    marks_done kind b (guarded kind cycle (n + 2 + 1) b) (with_slot (guarded kind cycle (n + 2 + 1) b) (n + 2) (encoded (done_entry cycle (data_end kind b)))) cycle sound of_cycle
    (guard_keeps kind 0 b b cycle n (keeps_same kind 0 b) of_cycle little count) room
    (more_in_guard kind 0 b b cycle n (keeps_same kind 0 b) of_cycle little count (done_entry cycle (data_end kind b)) refl (IsEntry-done cycle (data_end kind b)))

-- the whole of an entry, after its value
pub pair_put : (kind : Kind) (b mid : List ℕ) (cycle n id : ℕ) (bytes : List ℕ) → IsSound b → length b ≤ 2 ^ 15 → cycle_of b ≡ Some cycle → n ≡ length (valid_slots b) → id < 0xFFFFFFFF → data_end kind b + data_len (length bytes) + 32 ≤ low b
    → KeepsList kind (left_over kind (data_len (length bytes))) b mid → (leb (length bytes) 8 ≡ false → slice_range mid (data_end kind b) (data_end kind b + length bytes) ≡ bytes) → (leb (length bytes) 8 ≡ false → slice_range mid (data_end kind b) (data_end kind b + data_len (length bytes)) ≡ padded_bytes 16 bytes)
    → AddsPair kind b (with_slot (guarded kind cycle (n + 2 + 1) mid) (n + 2) (encoded (value_entry cycle id bytes (data_end kind b)))) id bytes
pair_put kind b mid cycle n id bytes sound size of_cycle count ordinary room keeps stored whole =
    let most = left_over kind (data_len (length bytes)) in
    let over = left_over-le kind (data_len (length bytes)) in
    let little : data_end kind b + left_over kind (data_len (length bytes)) + 32 ≤ low b = omega arith in
    let rounded = pad (length bytes) in
    let short : length bytes < 2 ^ 16 = elim (cases_Bool (leb (length bytes) 8)) [
      | inl tiny ↦ let le = leb-true (length bytes) 8 tiny in omega arith
      | inr long ↦ let some = data_len-long (length bytes) long in omega arith
    ] in
    adds_pair kind b (guarded kind cycle (n + 2 + 1) mid) (with_slot (guarded kind cycle (n + 2 + 1) mid) (n + 2) (encoded (value_entry cycle id bytes (data_end kind b)))) cycle id bytes sound size of_cycle
    (guard_keeps kind most b mid cycle n keeps of_cycle little count) room ordinary
    (λ long. let some = data_len-long (length bytes) long in below_guard kind most b mid cycle n keeps of_cycle little count (data_end kind b) (data_end kind b + length bytes) (omega arith) ∙ stored long)
    (λ long. below_guard kind most b mid cycle n keeps of_cycle little count (data_end kind b) (data_end kind b + data_len (length bytes)) (omega arith) ∙ whole long)
    (more_in_guard kind most b mid cycle n keeps of_cycle little count (value_entry cycle id bytes (data_end kind b)) refl (IsEntry-value cycle id (data_end kind b) bytes (omega arith) short))

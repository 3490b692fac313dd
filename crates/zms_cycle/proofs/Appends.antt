-- What an entry in the guard slot makes of a sector.
use Rattle.std.proofs.Common.{◌≡◌, ℕ, ◌+◌, ◌-◌, ◌*◌, ◌%◌, ◌^◌, ◌<◌, ◌≤◌, max, Bool, true, false, ◌&&◌, ◌||◌, cond, eqb, leb, List, [], ◌∷◌, ◌++◌, length, map, take, Option, Some, None, refl, sym, ap, subst, ◌∙◌, inl, inr, arith}
use Rattle.std.specs.Prelude.{slice_range, fold}
use Rattle.std.specs.List.{filter_map, cons_option, list_any, list_all}
use Rattle.std.specs.Int.{w32, from_le_bytes}
use Rattle.std.proofs.lemmas.Bool.{cases_Bool, cond-true, cond-false, and_from, and_parts, leb-true, eqb-true, eq-eqb, le-leb, or_right}
use Rattle.std.proofs.lemmas.List.{map_push, append-nil, length-append}
use Rattle.std.proofs.lemmas.List.Folds.{list_any-append}
use Rattle.std.proofs.lemmas.List.Elements.{filter_map-append}
use Rattle.flash_sim.specs.declared.flash.Kind.{Kind}
use Rattle.flash_map.specs.Units.{padded}
use Rattle.item_laws.proofs.SlotCosts.{fold_max-ge}
use Rattle.item_laws.specs.Slots.{Slot, used_slots}
use Rattle.item_laws.proofs.SlotChanges.{SameFrom, slot_at-same, slot_at-from, used_slots-more}
use Rattle.item_laws.proofs.SlotLemmas.{index-slot_at}
use Rattle.zms_cycle.specs.declared.entry.ZEntry.{ZEntry}
use Rattle.zms_cycle.specs.Entries.{encoded, decoded, offset_of, value_entry, done_entry}
use Rattle.zms_cycle.specs.declared.reading.SlotEntry.{SlotEntry}
use Rattle.zms_cycle.specs.Sector.{slot_of, is_valid, cycle_of, valid_slots, is_closed, entry_in, entries, holds_done, data_len, low, value_end, end_of, data_end, is_under, is_sound, value_of, pair_of, pairs}
use Rattle.flash_map.specs.Units.{padded_bytes}
use Rattle.zms_cycle.specs.Changes.{with_slot, KeepsList, left_over, AddsPair, MarksDone}
use Rattle.zms_cycle.proofs.Bytes.{IsEntry, length-encoded, decoded-encoded, four_bytes, value_entry-short, value_entry-long, take-short, ordinary-not_special, ordinary-not_done, done-is_done}
use Rattle.zms_cycle.proofs.Slots16.{valid-is, done-is, entry_in-is, slot-put, with_slot-above, with_slot-below}
use Rattle.zms_cycle.proofs.Frames.{IsSound, pad, data_len-long, data_len-aligned, value_end-long, end_of-above, pairs-same, data_end-aligned, cycle_of-same, closed-same, fence_of}
use Rattle.zms_cycle.proofs.Ends.{byte_same, written_in, end_more, left_over-le}

-- The sector has one valid slot more, with this entry, and reads as before elsewhere.
pub record HasSlotMore (old new : List ℕ) (e : ZEntry) : Type 0 where
  pub long : length new ≡ length old
  pub cycle : cycle_of new ≡ cycle_of old
  pub closed : is_closed new ≡ is_closed old
  pub slots : valid_slots new ≡ valid_slots old ++ slot_of new (length (valid_slots old) + 2) ∷ []
  pub read : decoded (slot_of new (length (valid_slots old) + 2)).bytes ≡ Some e
  pub close_slot : (slot_of new 1).bytes ≡ (slot_of old 1).bytes
  pub lower : low new + 16 ≡ low old
  pub below : (i j : ℕ) → j ≤ low old - 16 → slice_range new i j ≡ slice_range old i j

pub has_slot_more : (b : List ℕ) (e : ZEntry) → 32 ≤ low b → IsEntry e → cycle_of b ≡ Some e.cycle → is_valid (cycle_of b) (slot_of b (length (valid_slots b) + 2 + 1)) ≡ false → HasSlotMore b (with_slot b (length (valid_slots b) + 2) (encoded e)) e
has_slot_more b e room is_entry of_cycle guarded =
    let n = length (valid_slots b) in
    let sixteen : length (encoded e) ≡ 16 = length-encoded e is_entry in
    let inside : (length (valid_slots b) + 2 + 1) * 16 ≤ length b = omega arith in
    let new = with_slot b (length (valid_slots b) + 2) (encoded e) in
    let same : SameFrom (length b - (length (valid_slots b) + 2) * 16) b new = with_slot-above b (length (valid_slots b) + 2) (encoded e) sixteen inside in
    let below = with_slot-below b (length (valid_slots b) + 2) (encoded e) sixteen inside in
    let read : decoded (slot_of new (length (valid_slots b) + 2)).bytes ≡ Some e = ap decoded (slot-put b (length (valid_slots b) + 2) (encoded e) sixteen inside) ∙ decoded-encoded e is_entry in
    let used : is_valid (cycle_of b) (slot_of new (length (valid_slots b) + 2)) ≡ true =
    ap (λ (c : Option ℕ). is_valid c (slot_of new (length (valid_slots b) + 2))) of_cycle ∙ valid-is e.cycle (slot_of new (length (valid_slots b) + 2)) (Some e) read ∙ eq-eqb e.cycle e.cycle refl in
    let under : slot_of new (length (valid_slots b) + 2 + 1) ≡ slot_of b (length (valid_slots b) + 2 + 1) =
    slot_at-same 16 b new (length (valid_slots b) + 2 + 1) same.long (below (length b - (length (valid_slots b) + 2 + 1 + 1) * 16) (length b - (length (valid_slots b) + 2 + 1 + 1) * 16 + 16) (omega arith)) in
    let turned : length (valid_slots b) + 2 + 1 ≡ length (valid_slots b) + 1 + 2 = omega arith in
    let stop : is_valid (cycle_of b) (slot_of new (length (valid_slots b) + 1 + 2)) ≡ false =
    subst (λ (k : ℕ). is_valid (cycle_of b) (slot_of new k) ≡ false) turned (ap (λ (slot : Slot). is_valid (cycle_of b) slot) under ∙ guarded) in
    let cycle : cycle_of new ≡ cycle_of b = cycle_of-same b new (slot_at-from 16 (length b - (length (valid_slots b) + 2) * 16) b new same 0 (omega arith)) in
    let slots : valid_slots new ≡ valid_slots b ++ slot_of new (length (valid_slots b) + 2) ∷ [] =
    ap (λ (c : Option ℕ). used_slots (is_valid c) 2 16 new) cycle
    ∙ used_slots-more (is_valid (cycle_of b)) 2 16 (length b - (length (valid_slots b) + 2) * 16) b new (length (valid_slots b)) (omega arith) same (fence_of b (omega arith)) (omega arith) used stop (omega arith) in
    let count : length (valid_slots new) ≡ length (valid_slots b) + 1 = ap length slots ∙ length-append (valid_slots b) (slot_of new (length (valid_slots b) + 2) ∷ []) in
    let long = same.long in
    record {
      long = long;
      cycle = cycle;
      closed = closed-same b new cycle (slot_at-from 16 (length b - (length (valid_slots b) + 2) * 16) b new same 1 (omega arith));
      slots = slots;
      read = read;
      close_slot = ap (λ (slot : Slot). slot.bytes) (slot_at-from 16 (length b - (length (valid_slots b) + 2) * 16) b new same 1 (omega arith));
      lower = omega arith;
      below = λ i j le. below i j (omega arith);
    }

list_any_push : {X : Type 0} (p : X → Bool) (xs : List X) (x : X) → p x ≡ false → list_any p (xs ++ x ∷ []) ≡ list_any p xs
list_any_push p [] x fails = rw fails refl
list_any_push p (y ∷ xs) x fails = ap (λ (b : Bool). p y || b) (list_any_push p xs x fails)

list_all_push : {X : Type 0} (p : X → Bool) (xs : List X) (x : X) → list_all p xs ≡ true → p x ≡ true → list_all p (xs ++ x ∷ []) ≡ true
list_all_push p [] x all last = and_from (p x) true last refl
list_all_push p (y ∷ xs) x all last = let parts = and_parts (p y) (list_all p xs) all in and_from (p y) (list_all p (xs ++ x ∷ [])) parts.0 (list_all_push p xs x parts.1 last)

is_under-short : (limit : ℕ) (f : SlotEntry) → leb f.entry.len 8 ≡ true → is_under limit f ≡ true
unfolding is_under
is_under-short limit f short = cond-true (leb f.entry.len 8) true (eqb (offset_of f.entry % 16) 0 && leb (offset_of f.entry + padded 16 f.entry.len) limit) short

is_under-long : (limit : ℕ) (f : SlotEntry) → leb f.entry.len 8 ≡ false → offset_of f.entry % 16 ≡ 0 → offset_of f.entry + padded 16 f.entry.len ≤ limit → is_under limit f ≡ true
unfolding is_under
is_under-long limit f long aligned le =
    cond-false (leb f.entry.len 8) true (eqb (offset_of f.entry % 16) 0 && leb (offset_of f.entry + padded 16 f.entry.len) limit) long
    ∙ and_from (eqb (offset_of f.entry % 16) 0) (leb (offset_of f.entry + padded 16 f.entry.len) limit) (eq-eqb (offset_of f.entry % 16) 0 aligned) (le-leb (offset_of f.entry + padded 16 f.entry.len) limit le)

is_under-aligned : (limit : ℕ) (f : SlotEntry) → leb f.entry.len 8 ≡ false → is_under limit f ≡ true → offset_of f.entry % 16 ≡ 0
unfolding is_under
is_under-aligned limit f long is =
    let parts = and_parts (eqb (offset_of f.entry % 16) 0) (leb (offset_of f.entry + padded 16 f.entry.len) limit) (sym (cond-false (leb f.entry.len 8) true (eqb (offset_of f.entry % 16) 0 && leb (offset_of f.entry + padded 16 f.entry.len) limit) long) ∙ is) in
    eqb-true (offset_of f.entry % 16) 0 parts.0

-- under a lower limit that the ends keep
is_under-lower : (limit lower : ℕ) (f : SlotEntry) → is_under limit f ≡ true → value_end f ≤ lower → is_under lower f ≡ true
is_under-lower limit lower f is end = elim (cases_Bool (leb f.entry.len 8)) [
  | inl short ↦ is_under-short lower f short
  | inr long ↦ let ends = value_end-long f long in is_under-long lower f long (is_under-aligned limit f long is) (omega arith)
]

under-lower : (limit lower : ℕ) (fs : List SlotEntry) (a : ℕ) → list_all (is_under limit) fs ≡ true → fold max a (map value_end fs) ≤ lower → list_all (is_under lower) fs ≡ true
under-lower limit lower [] a all le = refl
under-lower limit lower (f ∷ fs) a all le =
    let parts = and_parts (is_under limit f) (list_all (is_under limit) fs) all in
    let least = fold_max-ge (max a (value_end f)) (map value_end fs) in
    and_from (is_under lower f) (list_all (is_under lower) fs) (is_under-lower limit lower f parts.0 (omega arith)) (under-lower limit lower fs (max a (value_end f)) parts.1 le)

-- a sector whose guard slot is one lower, under the same values and maybe one more
pub sound-lower : (b new : List ℕ) → IsSound b → low new + 16 ≡ low b → 32 ≤ low b → entries new ≡ entries b → end_of (entries b) ≤ low b - 32 → is_sound new ≡ true
sound-lower b new sound lower room same end =
    let above = (end_of-above (entries b)).ends in
    let limit : low new - 16 ≡ low b - 32 = omega arith in
    and_from (leb 16 (low new)) (list_all (is_under (low new - 16)) (entries new)) (le-leb 16 (low new) (omega arith))
    (ap (λ (n : ℕ). list_all (is_under n) (entries new)) limit ∙ ap (list_all (is_under (low b - 32))) same ∙ under-lower (low b - 16) (low b - 32) (entries b) 0 sound.under (omega arith))

pub sound-more : (b new : List ℕ) (f : SlotEntry) → IsSound b → low new + 16 ≡ low b → 32 ≤ low b → entries new ≡ entries b ++ f ∷ [] → end_of (entries b) ≤ low b - 32 → is_under (low b - 32) f ≡ true → is_sound new ≡ true
sound-more b new f sound lower room more end here =
    let above = (end_of-above (entries b)).ends in
    let limit : low new - 16 ≡ low b - 32 = omega arith in
    and_from (leb 16 (low new)) (list_all (is_under (low new - 16)) (entries new)) (le-leb 16 (low new) (omega arith))
    (ap (λ (n : ℕ). list_all (is_under n) (entries new)) limit ∙ ap (list_all (is_under (low b - 32))) more
    ∙ list_all_push (is_under (low b - 32)) (entries b) f (under-lower (low b - 16) (low b - 32) (entries b) 0 sound.under (omega arith)) here)

-- one cycle
pub same_number : (x y : ℕ) → Some x ≡ Some y → x ≡ y
same_number x y h = cc

-- gc-done in the guard slot
pub marks_done : (kind : Kind) (b mid new : List ℕ) (cycle : ℕ) → IsSound b → cycle_of b ≡ Some cycle → KeepsList kind 0 b mid → data_end kind b + 32 ≤ low b → HasSlotMore mid new (done_entry cycle (data_end kind b)) → MarksDone kind b new
marks_done kind b mid new cycle sound of_cycle keeps room more =
    let slot = slot_of new (length (valid_slots mid) + 2) in
    let found : entries new ≡ entries mid =
    ap (filter_map entry_in) more.slots ∙ filter_map-append entry_in (valid_slots mid) (slot ∷ [])
    ∙ ap (λ (o : Option SlotEntry). entries mid ++ cons_option o []) (entry_in-is slot (Some (done_entry cycle (data_end kind b))) more.read) ∙ append-nil (entries mid) in
    let all : entries new ≡ entries b = found ∙ keeps.kept.same_entries in
    let lower : low new + 16 ≡ low b = more.lower ∙ keeps.kept.lower in
    let above = (end_of-above (entries mid)).ends in
    let from = keeps.end_from in
    let to = keeps.end_to in
    let low-mid = keeps.kept.lower in
    let lower-mid = more.lower in
    let of_mid = keeps.kept.cycle ∙ of_cycle in
    let written = written_in kind mid new cycle cycle (data_end kind b) of_mid (more.cycle ∙ of_mid) (data_end-aligned kind b sound) (omega arith) (omega arith) (omega arith) (byte_same mid new (low new) (λ i j le. more.below i j (omega arith))) in
    let ends = ap end_of all in
    let ends-mid = ap end_of keeps.kept.same_entries in
    record {
      list = ap (map (pair_of new)) found ∙ pairs-same (low mid - 16) mid new more.below (entries mid) 0 (omega arith) ∙ keeps.list;
      long = more.long ∙ keeps.kept.long;
      cycle = more.cycle ∙ keeps.kept.cycle;
      closed = more.closed ∙ keeps.kept.closed;
      gc_done = ap (list_any holds_done) more.slots ∙ list_any-append holds_done (valid_slots mid) (slot ∷ []) ∙ or_right (list_any holds_done (valid_slots mid)) (holds_done slot || false) (ap (λ (t : Bool). t || false) (done-is slot (Some (done_entry cycle (data_end kind b))) more.read ∙ done-is_done cycle (data_end kind b)));
      mark = λ c is.
          subst (λ (k : ℕ). decoded (slot_of new (length (valid_slots b) + 2)).bytes ≡ Some (done_entry k (data_end kind b))) (same_number cycle c (sym of_cycle ∙ is))
          (ap (λ (ss : List Slot). decoded (slot_of new (length ss + 2)).bytes) (sym keeps.kept.slots) ∙ more.read);
      same_entries = all;
      close_slot = more.close_slot ∙ keeps.close_slot;
      lower = lower;
      same_end = let least = written.0 in let most = written.1 in omega arith;
      sound = sound-lower b new sound lower (omega arith) all (omega arith);
    }

-- a value and its entry in the guard slot
pub adds_pair : (kind : Kind) (b mid new : List ℕ) (cycle id : ℕ) (bytes : List ℕ) → IsSound b → length b ≤ 2 ^ 15 → cycle_of b ≡ Some cycle → KeepsList kind (left_over kind (data_len (length bytes))) b mid → data_end kind b + data_len (length bytes) + 32 ≤ low b → id < 0xFFFFFFFF
    → (leb (length bytes) 8 ≡ false → slice_range mid (data_end kind b) (data_end kind b + length bytes) ≡ bytes) → (leb (length bytes) 8 ≡ false → slice_range mid (data_end kind b) (data_end kind b + data_len (length bytes)) ≡ padded_bytes 16 bytes) → HasSlotMore mid new (value_entry cycle id bytes (data_end kind b)) → AddsPair kind b new id bytes
adds_pair kind b mid new cycle id bytes sound size of_cycle keeps room ordinary stored whole more =
    let e = value_entry cycle id bytes (data_end kind b) in
    let slot = slot_of new (length (valid_slots mid) + 2) in
    let f : SlotEntry = record { slot = slot.index; entry = value_entry cycle id bytes (data_end kind b) } in
    let plain = ordinary-not_special e ordinary in
    let read : entry_in slot ≡ Some f = entry_in-is slot (Some (value_entry cycle id bytes (data_end kind b))) more.read ∙ ap (λ (t : Bool). cond t None (Some f)) plain in
    let found : entries new ≡ entries mid ++ f ∷ [] =
    ap (filter_map entry_in) more.slots ∙ filter_map-append entry_in (valid_slots mid) (slot ∷ []) ∙ ap (λ (o : Option SlotEntry). entries mid ++ cons_option o []) read in
    let all : entries new ≡ entries b ++ f ∷ [] = found ∙ ap (λ (fs : List SlotEntry). fs ++ f ∷ []) keeps.kept.same_entries in
    let lower : low new + 16 ≡ low b = more.lower ∙ keeps.kept.lower in
    let low-mid = keeps.kept.lower in
    let lower-mid = more.lower in
    let from = keeps.end_from in
    let to = keeps.end_to in
    let over = left_over-le kind (data_len (length bytes)) in
    let above = (end_of-above (entries mid)).ends in
    let rounded = pad (length bytes) in
    let offset : leb (length bytes) 8 ≡ false → offset_of e ≡ data_end kind b = λ long. ap (λ (xs : List ℕ). from_le_bytes w32 (take 4 xs)) (value_entry-long cycle id (data_end kind b) bytes long) ∙ four_bytes (data_end kind b) (omega arith) in
    let value : value_of new e ≡ bytes = elim (cases_Bool (leb (length bytes) 8)) [
      | inl short ↦
          cond-true (leb (length bytes) 8) (take (length bytes) e.tail) (slice_range new (offset_of e) (offset_of e + length bytes)) short
          ∙ ap (take (length bytes)) (value_entry-short cycle id (data_end kind b) bytes short) ∙ take-short bytes (leb-true (length bytes) 8 short)
      | inr long ↦
          let some = data_len-long (length bytes) long in
          cond-false (leb (length bytes) 8) (take (length bytes) e.tail) (slice_range new (offset_of e) (offset_of e + length bytes)) long
          ∙ ap (λ (n : ℕ). slice_range new n (n + length bytes)) (offset long)
          ∙ more.below (data_end kind b) (data_end kind b + length bytes) (omega arith) ∙ stored long
    ] in
    let aligned = data_end-aligned kind b sound in
    let units = data_len-aligned (length bytes) in
    let under : is_under (low b - 32) f ≡ true = elim (cases_Bool (leb (length bytes) 8)) [
      | inl short ↦ is_under-short (low b - 32) f short
      | inr long ↦
          let some = data_len-long (length bytes) long in
          let place = offset long in
          is_under-long (low b - 32) f long (ap (λ (n : ℕ). n % 16) place ∙ aligned) (omega arith)
    ] in
    let of_mid = keeps.kept.cycle ∙ of_cycle in
    let written = written_in kind mid new cycle cycle (data_end kind b + data_len (length bytes)) of_mid (more.cycle ∙ of_mid) (omega arith) (omega arith) (omega arith) (omega arith) (byte_same mid new (low new) (λ i j le. more.below i j (omega arith))) in
    let ends-mid = ap end_of keeps.kept.same_entries in
    record {
      list =
          ap (map (pair_of new)) found ∙ map_push (pair_of new) (entries mid) f
          ∙ ap (λ ps. ps ++ pair_of new f ∷ []) (pairs-same (low mid - 16) mid new more.below (entries mid) 0 (omega arith) ∙ keeps.list)
          ∙ ap (λ (d : List ℕ). pairs b ++ (id, d) ∷ []) value;
      long = more.long ∙ keeps.kept.long;
      cycle = more.cycle ∙ keeps.kept.cycle;
      closed = more.closed ∙ keeps.kept.closed;
      gc_done = ap (list_any holds_done) more.slots ∙ list_any_push holds_done (valid_slots mid) slot (done-is slot (Some (value_entry cycle id bytes (data_end kind b))) more.read ∙ ordinary-not_done e plain) ∙ keeps.kept.gc_done;
      found = f;
      more = all;
      slot = index-slot_at 16 new (length (valid_slots mid) + 2) ∙ ap (λ (ss : List Slot). length ss + 2) keeps.kept.slots;
      entry_id = refl;
      entry_len = refl;
      of_cycle = of_cycle;
      entry = refl;
      stored = λ long. more.below (data_end kind b) (data_end kind b + data_len (length bytes)) (omega arith) ∙ whole long;
      close_slot = more.close_slot ∙ keeps.close_slot;
      lower = lower;
      grown = end_more kind b new f all offset written.1 (let least = written.0 in omega arith);
      sound = sound-more b new f sound lower (omega arith) all (omega arith) under;
    }

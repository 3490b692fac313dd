-- What stays of a sector where its slots and its values are not touched.
use Rattle.std.proofs.Common.{◌≡◌, ℕ, ◌+◌, ◌-◌, ◌*◌, ◌%◌, ◌≤◌, max, Bool, true, false, not, ◌&&◌, ◌||◌, eqb, leb, ltb, List, [], ◌∷◌, length, map, take, Option, Some, None, refl, sym, ap, subst, ◌∙◌, inl, inr, arith}
use Rattle.std.specs.Prelude.{slice_range, fold, sum_by}
use Rattle.std.specs.List.{filter_map, list_any, list_all}
use Rattle.std.proofs.lemmas.Bool.{false≢true, cases_Bool, cases_lt, cond-true, cond-false, and_parts, or_parts, not-false, leb-true, eqb-true, le-leb}
use Rattle.flash_map.specs.Units.{padded}
use Rattle.flash_map.proofs.Rounding.{padding}
use Rattle.flash_sim.specs.declared.flash.Kind.{Kind}
use Rattle.flash_sim.specs.declared.flash.Kind.TheVariants.{Rewritable}
use Rattle.item_laws.specs.Slots.{Slot, used_slots}
use Rattle.item_laws.proofs.SlotCosts.{fold_max-ge}
use Rattle.item_laws.proofs.SlotLemmas.{HasFence, HasFence-from_low}
use Rattle.item_laws.proofs.SlotChanges.{SameFrom, slot_at-from, used_slots-kept}
use Rattle.zms_cycle.specs.Entries.{offset_of, decoded}
use Rattle.zms_cycle.specs.declared.reading.SlotEntry.{SlotEntry}
use Rattle.zms_cycle.specs.Sector.{slot_of, is_valid, cycle_of, valid_slots, holds_close, is_closed, entry_in, entries, holds_done, data_len, capacity, low, value_end, end_of, written, data_end, is_under, has_guard, is_sound, entry_cost, holds_too_much, is_overfull, value_of, pair_of, pairs, part_of_list}
use Rattle.zms_cycle.specs.Changes.{KeepsSlots, KeepsList}
use Rattle.zms_cycle.proofs.ErasedSlots.{written_aligned, written-never}
use Rattle.zms_cycle.proofs.Slots16.{Covers, covers-not_valid, covers-higher, cycle_of-is}

pub pad : (n : ℕ) → (n ≤ padded 16 n) × (padded 16 n ≤ n + 15)
pad n = let facts = padding 16 (inr (inr refl)) in (facts.no_less n, facts.no_more n)

pub padded-aligned : (n : ℕ) → padded 16 n % 16 ≡ 0
padded-aligned n = (padding 16 (inr (inr refl))).aligned n

-- Room.

pub data_len-short : (len : ℕ) → len ≤ 8 → data_len len ≡ 0
unfolding data_len
data_len-short len short = cond-true (leb len 8) 0 (padded 16 len) (le-leb len 8 short)

pub data_len-long : (len : ℕ) → leb len 8 ≡ false → data_len len ≡ padded 16 len
unfolding data_len
data_len-long len long = cond-false (leb len 8) 0 (padded 16 len) long

pub value_end-long : (f : SlotEntry) → leb f.entry.len 8 ≡ false → value_end f ≡ offset_of f.entry + padded 16 f.entry.len
unfolding value_end
value_end-long f long = cond-false (leb f.entry.len 8) 0 (offset_of f.entry + padded 16 f.entry.len) long

pub value_end-short : (f : SlotEntry) → leb f.entry.len 8 ≡ true → value_end f ≡ 0
unfolding value_end
value_end-short f short = cond-true (leb f.entry.len 8) 0 (offset_of f.entry + padded 16 f.entry.len) short

pub record IsEndOf (found : List SlotEntry) (limit : ℕ) : Type 0 where
  pub ends : fold max 0 (map value_end found) ≤ limit
  pub sums : sum_by (λ f. data_len f.entry.len) found ≤ limit

pub end_of-above : (found : List SlotEntry) → IsEndOf found (end_of found)
unfolding end_of
end_of-above found = record { ends = omega arith; sums = omega arith }

-- Values that stay.

-- a value is the same where its range reads the same
pub value-by : (old new : List ℕ) (f : SlotEntry) → (leb f.entry.len 8 ≡ false → slice_range new (offset_of f.entry) (offset_of f.entry + f.entry.len) ≡ slice_range old (offset_of f.entry) (offset_of f.entry + f.entry.len)) → value_of new f.entry ≡ value_of old f.entry
value-by old new f same = elim (cases_Bool (leb f.entry.len 8)) [
  | inl short ↦
      cond-true (leb f.entry.len 8) (take f.entry.len f.entry.tail) (slice_range new (offset_of f.entry) (offset_of f.entry + f.entry.len)) short
      ∙ sym (cond-true (leb f.entry.len 8) (take f.entry.len f.entry.tail) (slice_range old (offset_of f.entry) (offset_of f.entry + f.entry.len)) short)
  | inr long ↦
      cond-false (leb f.entry.len 8) (take f.entry.len f.entry.tail) (slice_range new (offset_of f.entry) (offset_of f.entry + f.entry.len)) long
      ∙ same long
      ∙ sym (cond-false (leb f.entry.len 8) (take f.entry.len f.entry.tail) (slice_range old (offset_of f.entry) (offset_of f.entry + f.entry.len)) long)
]

pub value-same : (limit : ℕ) (old new : List ℕ) → ((i j : ℕ) → j ≤ limit → slice_range new i j ≡ slice_range old i j) → (f : SlotEntry) → value_end f ≤ limit → value_of new f.entry ≡ value_of old f.entry
value-same limit old new same f le = value-by old new f (λ long.
    let end = value_end-long f long in
    let rounded = pad f.entry.len in
    same (offset_of f.entry) (offset_of f.entry + f.entry.len) (omega arith))

pub pairs-same : (limit : ℕ) (old new : List ℕ) → ((i j : ℕ) → j ≤ limit → slice_range new i j ≡ slice_range old i j) → (fs : List SlotEntry) (a : ℕ) → fold max a (map value_end fs) ≤ limit → map (pair_of new) fs ≡ map (pair_of old) fs
pairs-same limit old new same [] a le = refl
pairs-same limit old new same (f ∷ fs) a le =
    let least = fold_max-ge (max a (value_end f)) (map value_end fs) in
    ap (λ (bytes : List ℕ). (f.entry.id, bytes) ∷ map (pair_of new) fs) (value-same limit old new same f (omega arith))
    ∙ ap (λ ps. pair_of old f ∷ ps) (pairs-same limit old new same fs (max a (value_end f)) le)

-- Sound sectors.

pub record IsSound (b : List ℕ) : Type 0 where
  pub guard : 16 ≤ low b
  pub under : list_all (is_under (low b - 16)) (entries b) ≡ true

pub sound-parts : (b : List ℕ) → is_sound b ≡ true → IsSound b
sound-parts b is =
    let parts = and_parts (has_guard b) (list_all (is_under (low b - 16)) (entries b)) is in
    record { guard = leb-true 16 (low b) parts.0; under = parts.1 }

none_over : (p : SlotEntry → Bool) (fs : List SlotEntry) → list_any (λ f. not (p f)) fs ≡ false → list_all p fs ≡ true
none_over p [] h = refl
none_over p (f ∷ fs) h =
    elim (cases_Bool (p f)) [
      | inl under ↦ ap (λ (t : Bool). t && list_all p fs) under ∙ none_over p fs (sym (ap (λ (t : Bool). not t || list_any (λ f. not (p f)) fs) under) ∙ h)
      | inr over ↦ absurd (false≢true (sym h ∙ ap (λ (t : Bool). not t || list_any (λ f. not (p f)) fs) over))
    ]

-- a sector that is not overfull has its values under its guard slot
pub sound_of : (b : List ℕ) → is_overfull b ≡ false → is_sound b ≡ true
unfolding holds_too_much
sound_of b roomy =
    let rows = or_parts (not (has_guard b)) (list_any (λ f. not (is_under (low b - 16) f)) (entries b) || ltb (capacity (length b)) (sum_by entry_cost (entries b))) roomy in
    let under = none_over (is_under (low b - 16)) (entries b) (or_parts (list_any (λ f. not (is_under (low b - 16) f)) (entries b)) (ltb (capacity (length b)) (sum_by entry_cost (entries b))) rows.1).0 in
    ap (λ (t : Bool). t && list_all (is_under (low b - 16)) (entries b)) (not-false (has_guard b) rows.0) ∙ under

pub under-parts : (limit : ℕ) (f : SlotEntry) → is_under limit f ≡ true → (value_end f ≤ limit) × (value_end f % 16 ≡ 0)
unfolding is_under
under-parts limit f is = elim (cases_Bool (leb f.entry.len 8)) [
  | inl short ↦ let end = value_end-short f short in (omega arith, ap (λ (n : ℕ). n % 16) end)
  | inr long ↦
      let end = value_end-long f long in
      let parts = and_parts (eqb (offset_of f.entry % 16) 0) (leb (offset_of f.entry + padded 16 f.entry.len) limit) (sym (cond-false (leb f.entry.len 8) true (eqb (offset_of f.entry % 16) 0 && leb (offset_of f.entry + padded 16 f.entry.len) limit) long) ∙ is) in
      let aligned = eqb-true (offset_of f.entry % 16) 0 parts.0 in
      let under = leb-true (offset_of f.entry + padded 16 f.entry.len) limit parts.1 in
      let whole = padded-aligned f.entry.len in
      (omega arith, omega arith)
]

ends-aligned : (limit : ℕ) (fs : List SlotEntry) (a : ℕ) → list_all (is_under limit) fs ≡ true → a % 16 ≡ 0 → fold max a (map value_end fs) % 16 ≡ 0
ends-aligned limit [] a all aligned = aligned
ends-aligned limit (f ∷ fs) a all aligned =
    let parts = and_parts (is_under limit f) (list_all (is_under limit) fs) all in
    let here = under-parts limit f parts.0 in
    let both : max a (value_end f) % 16 ≡ 0 = elim (cases_lt a (value_end f)) [
      | inl lt ↦ let is : max a (value_end f) ≡ value_end f = omega arith in ap (λ (n : ℕ). n % 16) is ∙ here.1
      | inr ge ↦ let is : max a (value_end f) ≡ a = omega arith in ap (λ (n : ℕ). n % 16) is ∙ aligned
    ] in
    ends-aligned limit fs (max a (value_end f)) parts.1 both

pub data_len-aligned : (len : ℕ) → data_len len % 16 ≡ 0
data_len-aligned len = elim (cases_Bool (leb len 8)) [
  | inl short ↦ ap (λ (n : ℕ). n % 16) (data_len-short len (leb-true len 8 short))
  | inr long ↦ ap (λ (n : ℕ). n % 16) (data_len-long len long) ∙ padded-aligned len
]

sum-aligned : (fs : List SlotEntry) (a : ℕ) → a % 16 ≡ 0 → fold (λ a f. a + data_len f.entry.len) a fs % 16 ≡ 0
sum-aligned [] a aligned = aligned
sum-aligned (f ∷ fs) a aligned = let here = data_len-aligned f.entry.len in sum-aligned fs (a + data_len f.entry.len) (omega arith)

max-aligned : (m n : ℕ) → m % 16 ≡ 0 → n % 16 ≡ 0 → max m n % 16 ≡ 0
max-aligned m n first second = elim (cases_lt m n) [
  | inl lt ↦ let is : max m n ≡ n = omega arith in ap (λ (k : ℕ). k % 16) is ∙ second
  | inr ge ↦ let is : max m n ≡ m = omega arith in ap (λ (k : ℕ). k % 16) is ∙ first
]

end_of-aligned : (b : List ℕ) → IsSound b → end_of (entries b) % 16 ≡ 0
unfolding end_of
end_of-aligned b sound =
    let ends = ends-aligned (low b - 16) (entries b) 0 sound.under refl in
    let sums : sum_by (λ f. data_len f.entry.len) (entries b) % 16 ≡ 0 = sum-aligned (entries b) 0 refl in
    max-aligned (fold max 0 (map value_end (entries b))) (sum_by (λ f. data_len f.entry.len) (entries b)) ends sums

pub data_end-aligned : (kind : Kind) (b : List ℕ) → IsSound b → data_end kind b % 16 ≡ 0
data_end-aligned kind b sound = max-aligned (end_of (entries b)) (written kind b) (end_of-aligned b sound) (written_aligned kind b)

-- every value of a sound sector stands under its guard slot
ends-under : (limit : ℕ) (fs : List SlotEntry) (a : ℕ) → list_all (is_under limit) fs ≡ true → a ≤ limit → fold max a (map value_end fs) ≤ limit
ends-under limit [] a all le = le
ends-under limit (f ∷ fs) a all le =
    let parts = and_parts (is_under limit f) (list_all (is_under limit) fs) all in
    let here = under-parts limit f parts.0 in
    ends-under limit fs (max a (value_end f)) parts.1 (let below = here.0 in omega arith)

pub sound-ends : (b : List ℕ) → IsSound b → fold max 0 (map value_end (entries b)) ≤ low b - 16
sound-ends b sound = ends-under (low b - 16) (entries b) 0 sound.under (omega arith)

-- Slots and marks that stay.

pub cycle_of-same : (old new : List ℕ) → slot_of new 0 ≡ slot_of old 0 → cycle_of new ≡ cycle_of old
cycle_of-same old new same =
    cycle_of-is new (decoded (slot_of old 0).bytes) (ap (λ (slot : Slot). decoded slot.bytes) same) ∙ sym (cycle_of-is old (decoded (slot_of old 0).bytes) refl)

pub closed-same : (old new : List ℕ) → cycle_of new ≡ cycle_of old → slot_of new 1 ≡ slot_of old 1 → is_closed new ≡ is_closed old
closed-same old new cycle same =
    ap (λ (c : Option ℕ). is_valid c (slot_of new 1) && holds_close (slot_of new 1)) cycle ∙ ap (λ (slot : Slot). is_valid (cycle_of old) slot && holds_close slot) same

pub fence_of : (b : List ℕ) → 16 ≤ low b → HasFence (is_valid (cycle_of b)) 2 16 b (length (valid_slots b))
fence_of b guard = HasFence-from_low (is_valid (cycle_of b)) 2 16 b (omega arith) guard

-- the same slots under the same marks
pub slots-keep : (old new : List ℕ) → length new ≡ length old → cycle_of new ≡ cycle_of old → is_closed new ≡ is_closed old → valid_slots new ≡ valid_slots old → KeepsSlots old new
slots-keep old new long cycle closed slots = record {
  long = long;
  cycle = cycle;
  closed = closed;
  slots = slots;
  same_entries = ap (filter_map entry_in) slots;
  gc_done = ap (list_any holds_done) slots;
  lower = let count = ap length slots in omega arith;
}

pub keeps_slots : (b new : List ℕ) → 16 ≤ low b → SameFrom (low b) b new → is_valid (cycle_of b) (slot_of new (length (valid_slots b) + 2)) ≡ false → KeepsSlots b new
keeps_slots b new guard same stop =
    let cycle : cycle_of new ≡ cycle_of b = cycle_of-same b new (slot_at-from 16 (low b) b new same 0 (omega arith)) in
    slots-keep b new same.long cycle
    (closed-same b new cycle (slot_at-from 16 (low b) b new same 1 (omega arith)))
    (ap (λ (c : Option ℕ). used_slots (is_valid c) 2 16 new) cycle
    ∙ used_slots-kept (is_valid (cycle_of b)) 2 16 (low b) b new (length (valid_slots b)) (omega arith) same (fence_of b guard) (omega arith) stop)

-- and the values stay where nothing under the data end changes
pub keeps_list : (kind : Kind) (most : ℕ) (b new : List ℕ) → KeepsSlots b new → (slot_of new 1).bytes ≡ (slot_of b 1).bytes → written kind b ≤ written kind new → written kind new ≤ data_end kind b + most
    → ((i j : ℕ) → j ≤ data_end kind b → slice_range new i j ≡ slice_range b i j) → KeepsList kind most b new
keeps_list kind most b new kept close from to below =
    let ends : end_of (entries new) ≡ end_of (entries b) = ap end_of kept.same_entries in
    record {
      kept = kept;
      list = ap (map (pair_of new)) kept.same_entries ∙ pairs-same (end_of (entries b)) b new (λ i j le. below i j (omega arith)) (entries b) 0 (end_of-above (entries b)).ends;
      close_slot = close;
      end_from = omega arith;
      end_to = omega arith;
    }

pub keeps_then : {kind : Kind} {m n : ℕ} {a b c : List ℕ} → KeepsList kind m a b → KeepsList kind n b c → KeepsList kind (m + n) a c
keeps_then {kind} {m} {n} {a} {b} {c} first second =
    let from-a : data_end kind a ≤ data_end kind b = first.end_from in
    let from-b : data_end kind b ≤ data_end kind c = second.end_from in
    let to-a : data_end kind b ≤ data_end kind a + m = first.end_to in
    let to-b : data_end kind c ≤ data_end kind b + n = second.end_to in
    record {
      kept = record {
        long = second.kept.long ∙ first.kept.long;
        cycle = second.kept.cycle ∙ first.kept.cycle;
        closed = second.kept.closed ∙ first.kept.closed;
        slots = second.kept.slots ∙ first.kept.slots;
        same_entries = second.kept.same_entries ∙ first.kept.same_entries;
        gc_done = second.kept.gc_done ∙ first.kept.gc_done;
        lower = second.kept.lower ∙ first.kept.lower;
      };
      list = second.list ∙ first.list;
      close_slot = second.close_slot ∙ first.close_slot;
      end_from = omega arith;
      end_to = omega arith;
    }

pub keeps_same : (kind : Kind) (most : ℕ) (b : List ℕ) → KeepsList kind most b b
keeps_same kind most b = record { kept = slots-keep b b refl refl refl refl; list = refl; close_slot = refl; end_from = omega arith; end_to = omega arith }

pub sound-same : (old new : List ℕ) → KeepsSlots old new → is_sound new ≡ is_sound old
sound-same old new kept = ap (λ (n : ℕ). leb 16 n && list_all (is_under (n - 16)) (entries new)) kept.lower ∙ ap (λ (fs : List SlotEntry). leb 16 (low old) && list_all (is_under (low old - 16)) fs) kept.same_entries

pub overfull-same : (old new : List ℕ) → KeepsSlots old new → is_overfull new ≡ is_overfull old
unfolding holds_too_much
overfull-same old new kept =
    ap (λ (n : ℕ). not (leb 16 n) || (list_any (λ f. not (is_under (n - 16) f)) (entries new) || ltb (capacity (length new)) (sum_by entry_cost (entries new)))) kept.lower
    ∙ ap (λ (fs : List SlotEntry). not (has_guard old) || (list_any (λ f. not (is_under (low old - 16) f)) fs || ltb (capacity (length new)) (sum_by entry_cost fs))) kept.same_entries
    ∙ ap (λ (n : ℕ). not (has_guard old) || (list_any (λ f. not (is_under (low old - 16) f)) (entries old) || ltb (capacity n) (sum_by entry_cost (entries old)))) kept.long

-- the sector's part of the list stays where its slots do, and its values unless it is overfull
pub part-same : (old new : List ℕ) → KeepsSlots old new → (is_overfull old ≡ false → pairs new ≡ pairs old) → part_of_list new ≡ part_of_list old
part-same old new kept list =
    let same = overfull-same old new kept in
    elim (cases_Bool (is_overfull old)) [
      | inl over ↦ cond-true (is_overfull new) None (Some (pairs new)) (same ∙ over) ∙ sym (cond-true (is_overfull old) None (Some (pairs old)) over)
      | inr roomy ↦
          cond-false (is_overfull new) None (Some (pairs new)) (same ∙ roomy)
          ∙ ap (λ (ps : List (ℕ × List ℕ)). Some ps) (list roomy)
          ∙ sym (cond-false (is_overfull old) None (Some (pairs old)) roomy)
    ]

-- the guard slot or one under it is overwritten, on a bank that is never erased
pub keeps-covered : (b new : List ℕ) (k : ℕ) → 16 ≤ low b → length (valid_slots b) + 2 ≤ k → (k + 1) * 16 ≤ length b → data_end Rewritable b ≤ length b - (k + 1) * 16 → Covers k b new → KeepsList Rewritable 0 b new
keeps-covered b new k guard lower inside above covers =
    let same : SameFrom (low b) b new = record { long = covers.above.long; bytes = λ i j le. covers.above.bytes i j (omega arith) } in
    let stop : is_valid (cycle_of b) (slot_of new (length (valid_slots b) + 2)) ≡ false = elim (cases_lt (length (valid_slots b) + 2) k) [
      | inl lt ↦ ap (λ (slot : Slot). is_valid (cycle_of b) slot) (covers-higher k (length (valid_slots b) + 2) b new covers lt) ∙ (fence_of b guard).fence
      | inr ge ↦
          let is : k ≡ length (valid_slots b) + 2 = omega arith in
          subst (λ (j : ℕ). is_valid (cycle_of b) (slot_of new j) ≡ false) is (covers-not_valid (cycle_of b) k b new covers (subst (λ (j : ℕ). is_valid (cycle_of b) (slot_of b j) ≡ false) (sym is) (fence_of b guard).fence))
    ] in
    let close : slot_of new 1 ≡ slot_of b 1 = slot_at-from 16 (low b) b new same 1 (omega arith) in
    let none = written-never b in
    let still = written-never new in
    keeps_list Rewritable 0 b new (keeps_slots b new guard same stop) (ap (λ (slot : Slot). slot.bytes) close) (omega arith) (omega arith) (λ i j le. covers.below i j (omega arith))

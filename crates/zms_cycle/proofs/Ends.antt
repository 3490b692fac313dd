-- Where the data of a sector ends, by the kind of its bank, and what stays of the sector where bytes are put there.
use Rattle.std.proofs.Common.{◌≡◌, ℕ, ◌+◌, ◌-◌, ◌*◌, ◌%◌, ◌<◌, ◌≤◌, max, true, false, leb, List, [], ◌∷◌, ◌++◌, length, map, get_or, Some, refl, sym, ap, subst, ◌∙◌, inl, inr, arith}
use Rattle.std.specs.Prelude.{slice_range, fold, sum_by}
use Rattle.std.proofs.lemmas.Bool.{cases_Bool, cases_lt, leb-true}
use Rattle.std.proofs.lemmas.List.{map_push}
use Rattle.std.proofs.lemmas.List.Edits.{get_or-between}
use Rattle.std.proofs.lemmas.List.Sums.{fold_push, sum_by_push}
use Rattle.flash_sim.specs.Device.{overwritten}
use Rattle.flash_sim.specs.declared.flash.Kind.{Kind}
use Rattle.flash_sim.specs.declared.flash.Kind.TheVariants.{Erasing, Rewritable}
use Rattle.flash_map.specs.Units.{is_erased}
use Rattle.flash_map.proofs.Ranges.{range_above, range_below, get_or_above, get_or_below}
use Rattle.flash_map.proofs.Sectors.{length-overwritten}
use Rattle.flash_map.proofs.WrittenEnds.{written_end-le}
use Rattle.item_laws.specs.Slots.{Slot}
use Rattle.item_laws.proofs.SlotChanges.{SameFrom, slot_at-from}
use Rattle.zms_cycle.specs.Entries.{offset_of}
use Rattle.zms_cycle.specs.declared.reading.SlotEntry.{SlotEntry}
use Rattle.zms_cycle.specs.Sector.{slot_of, is_valid, cycle_of, valid_slots, entries, data_len, low, value_end, end_of, written, data_end}
use Rattle.zms_cycle.specs.Changes.{guarded, KeepsSlots, KeepsList, left_over}
use Rattle.zms_cycle.proofs.ErasedSlots.{written-is, written-never, written_aligned, written_below, above_written, above_end, slot_free}
use Rattle.zms_cycle.proofs.Slots16.{covers-guarded}
use Rattle.zms_cycle.proofs.AreaFacts.{not_erasing}
use Rattle.zms_cycle.proofs.Frames.{data_len-short, data_len-long, value_end-long, value_end-short, fence_of, keeps_slots, keeps_list, keeps_then, keeps_same, keeps-covered}

-- lists whose ranges are the same have the same bytes
pub byte_same : (old new : List ℕ) (limit : ℕ) → ((i j : ℕ) → j ≤ limit → slice_range new i j ≡ slice_range old i j) → (k : ℕ) → k < limit → get_or new k 0 ≡ get_or old k 0
byte_same old new limit same k lt =
    let none : k + 0 ≡ k = omega arith in
    ap (λ (n : ℕ). get_or new n 0) (sym none) ∙ sym (get_or-between new k (k + 1) 0 0 (omega arith))
    ∙ ap (λ (xs : List ℕ). get_or xs 0 0) (same k (k + 1) (omega arith))
    ∙ get_or-between old k (k + 1) 0 0 (omega arith) ∙ ap (λ (n : ℕ). get_or old n 0) none

-- What is written.

-- no less is written where what was written stands under the slots and stays
pub written_kept : (old new : List ℕ) (c e : ℕ) → cycle_of old ≡ Some c → cycle_of new ≡ Some e → written Erasing old ≤ low new → ((k : ℕ) → k < written Erasing old → get_or new k 0 ≡ get_or old k 0) → written Erasing old ≤ written Erasing new
written_kept old new c e used still under same =
    let is = written-is old c used in
    let le = written_end-le 16 (low old) old (written Erasing new) (inr (inr refl)) (written_aligned Erasing new) (omega arith)
    (λ k from lt. elim (cases_lt k (written Erasing old)) [
      | inl below ↦ sym (same k below) ∙ above_written new e k still from (omega (arith, under, below))
      | inr over ↦ above_written old c k used over lt
    ]) in
    omega (arith, is, le)

-- bytes that stay up to slots that may begin lower
pub written_in : (kind : Kind) (old new : List ℕ) (c e limit : ℕ) → cycle_of old ≡ Some c → cycle_of new ≡ Some e → limit % 16 ≡ 0 → data_end kind old ≤ limit → limit ≤ low new → low new ≤ low old → ((k : ℕ) → k < low new → get_or new k 0 ≡ get_or old k 0)
    → (written kind old ≤ written kind new) × (written kind new ≤ limit)
written_in Rewritable old new c e limit used still aligned end under lower same = let a = written-never old in let b = written-never new in (omega arith, omega arith)
written_in Erasing old new c e limit used still aligned end under lower same = (
  written_kept old new c e used still (omega arith) (λ k lt. same k (omega arith)),
  written_below new e limit still aligned (λ k from lt. same k lt ∙ above_end old c used k (omega arith) (omega arith)),
)

-- Where the data ends.

-- so much may be put there, and the bytes outside of it stay
pub written_put : (kind : Kind) (old new : List ℕ) (c most : ℕ) → cycle_of old ≡ Some c → cycle_of new ≡ Some c → low new ≡ low old → data_end kind old % 16 ≡ 0 → most % 16 ≡ 0 → data_end kind old + most ≤ low old
    → ((k : ℕ) → k < data_end kind old → get_or new k 0 ≡ get_or old k 0) → ((k : ℕ) → data_end kind old + most ≤ k → get_or new k 0 ≡ get_or old k 0)
    → (written kind old ≤ written kind new) × (written kind new ≤ data_end kind old + left_over kind most)
written_put Rewritable old new c most used still lower aligned whole room below above = let a = written-never old in let b = written-never new in (omega arith, omega arith)
written_put Erasing old new c most used still lower aligned whole room below above = (
  written_kept old new c c used still (omega arith) (λ k lt. below k (omega arith)),
  written_below new c (data_end Erasing old + most) still (omega arith) (λ k from lt. above k from ∙ above_end old c used k (omega arith) (omega arith)),
)

end_of-short : (fs : List SlotEntry) (f : SlotEntry) → leb f.entry.len 8 ≡ true → end_of (fs ++ f ∷ []) ≡ end_of fs
unfolding end_of
end_of-short fs f short =
    let ends : fold max 0 (map value_end (fs ++ f ∷ [])) ≡ max (fold max 0 (map value_end fs)) (value_end f) = ap (fold max 0) (map_push value_end fs f) ∙ fold_push max 0 (map value_end fs) (value_end f) in
    let sums : sum_by (λ f. data_len f.entry.len) (fs ++ f ∷ []) ≡ sum_by (λ f. data_len f.entry.len) fs + data_len f.entry.len = sum_by_push (λ f. data_len f.entry.len) fs f in
    let none = value_end-short f short in
    let nothing = data_len-short f.entry.len (leb-true f.entry.len 8 short) in
    omega arith

end_of-long : (fs : List SlotEntry) (f : SlotEntry) (at : ℕ) → leb f.entry.len 8 ≡ false → offset_of f.entry ≡ at → end_of fs ≤ at → end_of (fs ++ f ∷ []) ≡ at + data_len f.entry.len
unfolding end_of
end_of-long fs f at long place above =
    let ends : fold max 0 (map value_end (fs ++ f ∷ [])) ≡ max (fold max 0 (map value_end fs)) (value_end f) = ap (fold max 0) (map_push value_end fs f) ∙ fold_push max 0 (map value_end fs) (value_end f) in
    let sums : sum_by (λ f. data_len f.entry.len) (fs ++ f ∷ []) ≡ sum_by (λ f. data_len f.entry.len) fs + data_len f.entry.len = sum_by_push (λ f. data_len f.entry.len) fs f in
    let end = value_end-long f long in
    let some = data_len-long f.entry.len long in
    omega arith

-- an entry more, whose value stands at the data end
pub end_more : (kind : Kind) (b new : List ℕ) (f : SlotEntry) → entries new ≡ entries b ++ f ∷ [] → (leb f.entry.len 8 ≡ false → offset_of f.entry ≡ data_end kind b) → written kind new ≤ data_end kind b + data_len f.entry.len → data_end kind b ≤ max (end_of (entries b)) (written kind new)
    → data_end kind new ≡ data_end kind b + data_len f.entry.len
end_more kind b new f more at most least =
    let all = ap end_of more in
    elim (cases_Bool (leb f.entry.len 8)) [
      | inl short ↦ let same = end_of-short (entries b) f short in let nothing = data_len-short f.entry.len (leb-true f.entry.len 8 short) in omega arith
      | inr long ↦ let grown = end_of-long (entries b) f (data_end kind b) long (at long) (omega arith) in omega arith
    ]

-- What stays of the sector's list.

pub left_over-le : (kind : Kind) (len : ℕ) → left_over kind len ≤ len
left_over-le Rewritable len = omega arith
left_over-le Erasing len = omega arith

pub nothing_left : (kind : Kind) → left_over kind 0 ≡ 0
nothing_left Rewritable = refl
nothing_left Erasing = refl

-- and then nothing more is gone
pub keeps_on : {a b c : List ℕ} (kind : Kind) (most : ℕ) → KeepsList kind most a b → KeepsList kind 0 b c → KeepsList kind most a c
keeps_on {a} {b} {c} kind most first second = let all : most + 0 ≡ most = omega arith in subst (λ (n : ℕ). KeepsList kind n a c) all (keeps_then first second)

-- bytes that are put at the data end, under the guard slot
pub keeps_data : (kind : Kind) (b p : List ℕ) (c most : ℕ) → cycle_of b ≡ Some c → 16 ≤ low b → data_end kind b % 16 ≡ 0 → most % 16 ≡ 0 → length p ≤ most → data_end kind b + most ≤ low b - 16 → KeepsList kind (left_over kind most) b (overwritten b (data_end kind b) p)
keeps_data kind b p c most used guard aligned whole part fits =
    let inside : data_end kind b + length p ≤ length b = omega arith in
    let same : SameFrom (low b - 16) b (overwritten b (data_end kind b) p) = record { long = length-overwritten b (data_end kind b) p inside; bytes = λ i j le. range_above b (data_end kind b) p i j inside (omega arith) } in
    let from_low : SameFrom (low b) b (overwritten b (data_end kind b) p) = record { long = same.long; bytes = λ i j le. same.bytes i j (omega arith) } in
    let guard_same = slot_at-from 16 (low b - 16) b (overwritten b (data_end kind b) p) same (length (valid_slots b) + 2) (omega arith) in
    let kept : KeepsSlots b (overwritten b (data_end kind b) p) = keeps_slots b (overwritten b (data_end kind b) p) guard from_low (ap (λ (slot : Slot). is_valid (cycle_of b) slot) guard_same ∙ (fence_of b guard).fence) in
    let ends = written_put kind b (overwritten b (data_end kind b) p) c most used (kept.cycle ∙ used) kept.lower aligned whole (omega arith)
    (λ k lt. get_or_below b (data_end kind b) p k (omega arith) lt) (λ k le. get_or_above b (data_end kind b) p k inside (omega arith)) in
    keeps_list kind (left_over kind most) b (overwritten b (data_end kind b) p) kept (ap (λ (slot : Slot). slot.bytes) (slot_at-from 16 (low b - 16) b (overwritten b (data_end kind b) p) same 1 (omega arith)))
    ends.0 ends.1 (λ i j le. range_below b (data_end kind b) p i j (omega arith) le)

-- the guard slot or one under it is guarded
pub keeps_guarded : (kind : Kind) (b : List ℕ) (cycle k : ℕ) → 16 ≤ low b → length (valid_slots b) + 2 ≤ k → (k + 1) * 16 ≤ length b → data_end kind b ≤ length b - (k + 1) * 16 → KeepsList kind 0 b (guarded kind cycle k b)
keeps_guarded Erasing b cycle k guard lower inside above = keeps_same Erasing 0 b
keeps_guarded Rewritable b cycle k guard lower inside above = keeps-covered b (guarded Rewritable cycle k b) k guard lower inside above (covers-guarded Rewritable cycle k b inside)

-- The slot of the next entry can be programmed, where the sector's list is kept.
pub next_free : (kind : Kind) (b mid : List ℕ) (cycle n most : ℕ) → cycle_of b ≡ Some cycle → n ≡ length (valid_slots b) → KeepsList kind most b mid → data_end kind b + most + 32 ≤ low b → kind ≡ Erasing → is_erased (slot_of mid (n + 2)).bytes ≡ true
next_free Rewritable b mid cycle n most used count keeps room erasing = absurd (not_erasing erasing)
next_free Erasing b mid cycle n most used count keeps room erasing =
    let counted : length (valid_slots mid) ≡ n = ap length keeps.kept.slots ∙ sym count in
    let lower = keeps.kept.lower in
    let end = keeps.end_to in
    slot_free mid cycle (keeps.kept.cycle ∙ used) (n + 2) (omega arith) (omega arith)

-- On a bank that is erased: what is erased above the data end of a used sector, and where what is written ends.
use Rattle.std.proofs.Common.{◌≡◌, ℕ, ◌+◌, ◌-◌, ◌*◌, ◌%◌, ◌<◌, ◌≤◌, true, false, cond, eqb, List, length, get_or, take, replicate, Option, Some, None, refl, sym, ap, ◌∙◌, inl, inr, arith}
use Rattle.std.specs.Prelude.{slice_range, is_some, IsSome}
use Rattle.std.specs.List.{suffix_len}
use Rattle.std.proofs.lemmas.Bool.{cases_lt}
use Rattle.std.proofs.lemmas.List.{length-take-le}
use Rattle.flash_sim.specs.declared.flash.Kind.{Kind}
use Rattle.flash_sim.specs.declared.flash.Kind.TheVariants.{Erasing, Rewritable}
use Rattle.flash_map.specs.Units.{IsUnit, padded, is_erased, written_end}
use Rattle.flash_map.proofs.ErasedBytes.{erased_is}
use Rattle.flash_map.proofs.Rounding.{padding}
use Rattle.flash_map.proofs.WrittenEnds.{erased_above, written_end-le, erased_range}
use Rattle.item_laws.specs.Slots.{Slot}
use Rattle.item_laws.proofs.SlotLemmas.{bytes-slot_at}
use Rattle.zms_cycle.specs.Entries.{decoded}
use Rattle.zms_cycle.specs.Sector.{slot_of, is_valid_under, cycle_of, valid_slots, low, written, data_end}
use Rattle.zms_cycle.proofs.Bytes.{decoded-erased}
use Rattle.zms_cycle.proofs.Slots16.{valid-is}

sixteen : IsUnit 16
sixteen = inr (inr refl)

-- ---- what is written

pub written-is : (b : List ℕ) (c : ℕ) → cycle_of b ≡ Some c → written Erasing b ≡ written_end 16 (low b) b
unfolding written
written-is b c used = ap (λ (o : Option ℕ). cond (is_some o) (written_end 16 (low b) b) 0) used

pub written-blank : (b : List ℕ) → cycle_of b ≡ None → written Erasing b ≡ 0
unfolding written
written-blank b blank = ap (λ (o : Option ℕ). cond (is_some o) (written_end 16 (low b) b) 0) blank

pub written-never : (b : List ℕ) → written Rewritable b ≡ 0
unfolding written
written-never b = refl

end_aligned : (b : List ℕ) → written_end 16 (low b) b % 16 ≡ 0
unfolding written_end
end_aligned b = (padding 16 sixteen).aligned _

aligned_by : (o : Option ℕ) (b : List ℕ) → cond (is_some o) (written_end 16 (low b) b) 0 % 16 ≡ 0
aligned_by None b = refl
aligned_by (Some c) b = end_aligned b

-- what is written ends with a unit
pub written_aligned : (kind : Kind) (b : List ℕ) → written kind b % 16 ≡ 0
unfolding written
written_aligned Rewritable b = refl
written_aligned Erasing b = aligned_by (cycle_of b) b

end_under : (b : List ℕ) → length b % 16 ≡ 0 → written_end 16 (low b) b ≤ low b
end_under b whole = written_end-le 16 (low b) b (low b) sixteen (omega arith) (omega arith) (λ k le lt. absurd (omega arith))

under_by : (o : Option ℕ) (b : List ℕ) → length b % 16 ≡ 0 → cond (is_some o) (written_end 16 (low b) b) 0 ≤ low b
under_by None b whole = omega arith
under_by (Some c) b whole = end_under b whole

-- and under the slots
pub written_under : (kind : Kind) (b : List ℕ) → length b % 16 ≡ 0 → written kind b ≤ low b
unfolding written
written_under Rewritable b whole = omega arith
written_under Erasing b whole = under_by (cycle_of b) b whole

-- what is erased from a unit on up to the slots is not written
pub written_below : (new : List ℕ) (c limit : ℕ) → cycle_of new ≡ Some c → limit % 16 ≡ 0 → ((k : ℕ) → limit ≤ k → k < low new → get_or new k 0 ≡ 255) → written Erasing new ≤ limit
written_below new c limit used aligned erased =
    let is = written-is new c used in
    let le = written_end-le 16 (low new) new limit sixteen aligned (omega arith) erased in
    omega (arith, is, le)

pub above_written : (b : List ℕ) (c k : ℕ) → cycle_of b ≡ Some c → written Erasing b ≤ k → k < low b → get_or b k 0 ≡ 255
above_written b c k used le lt =
    let is = written-is b c used in
    erased_above 16 (low b) b (written Erasing b) sixteen (omega arith) (omega (arith, is)) k le lt

-- no less is written where the bytes under its end stay
pub written_stays : (old new : List ℕ) (c e : ℕ) → cycle_of old ≡ Some c → cycle_of new ≡ Some e → low new ≡ low old → ((k : ℕ) → k < written Erasing old → get_or new k 0 ≡ get_or old k 0) → written Erasing old ≤ written Erasing new
written_stays old new c e used still lower same =
    let is = written-is old c used in
    let le = written_end-le 16 (low old) old (written Erasing new) sixteen (written_aligned Erasing new) (omega arith)
    (λ k from lt. elim (cases_lt k (written Erasing old)) [
      | inl under ↦ sym (same k under) ∙ above_written new e k still from (omega (arith, lower, lt))
      | inr over ↦ above_written old c k used over lt
    ]) in
    omega (arith, is, le)

some_kept : (o : Option ℕ) (n : ℕ) → IsSome o → n ≡ cond (is_some o) n 0
some_kept None n some = cc
some_kept (Some c) n some = refl

-- what is written, by what is left where the erased bytes under the slots are cut off
pub written_from : (b : List ℕ) (n lower trimmed : ℕ) → IsSome (cycle_of b) → n ≡ length (valid_slots b) → lower ≡ length b - (n + 2) * 16 → trimmed ≡ length (take lower b) - suffix_len (λ byte. eqb byte 255) (take lower b) → padded 16 trimmed ≡ written Erasing b
unfolding written written_end
written_from b n lower trimmed used count at cut =
    let lower-is : lower ≡ low b = at ∙ ap (λ (k : ℕ). length b - (k + 2) * 16) count in
    let long = length-take-le lower b (omega (arith, at)) in
    ap (padded 16) (cut ∙ ap (λ (k : ℕ). k - suffix_len (λ byte. eqb byte 255) (take lower b)) long)
    ∙ ap (λ (k : ℕ). padded 16 (k - suffix_len (λ byte. eqb byte 255) (take k b))) lower-is
    ∙ some_kept (cycle_of b) (written_end 16 (low b) b) used

-- ---- what is erased

-- each byte from the data end up to the slots
pub above_end : (b : List ℕ) (c : ℕ) → cycle_of b ≡ Some c → (k : ℕ) → data_end Erasing b ≤ k → k < low b → get_or b k 0 ≡ 255
above_end b c used k le lt = above_written b c k used (omega arith) lt

pub range_free : (b : List ℕ) (c : ℕ) → cycle_of b ≡ Some c → (at len : ℕ) → data_end Erasing b ≤ at → at + len ≤ low b → is_erased (slice_range b at (at + len)) ≡ true
range_free b c used at len from room =
    erased_range b at (at + len) (omega (arith, room)) (λ k le lt. above_end b c used k (omega (arith, from, le)) (omega (arith, room, lt)))

-- so is a slot from the guard slot on that ends no lower
pub slot_free : (b : List ℕ) (c : ℕ) → cycle_of b ≡ Some c → (n : ℕ) → length (valid_slots b) + 2 ≤ n → data_end Erasing b + (n + 1) * 16 ≤ length b → is_erased (slot_of b n).bytes ≡ true
slot_free b c used n under room =
    ap is_erased (sym (bytes-slot_at 16 b n (length b - (n + 1) * 16) refl))
    ∙ range_free b c used (length b - (n + 1) * 16) 16 (omega arith) (omega arith)

-- sixteen FF never check
pub erased_invalid : (c : ℕ) (slot : Slot) → length slot.bytes ≡ 16 → is_erased slot.bytes ≡ true → is_valid_under c slot ≡ false
erased_invalid c slot long erased =
    valid-is c slot None (ap decoded (erased_is slot.bytes erased ∙ ap (λ (n : ℕ). replicate n 255) long) ∙ decoded-erased)

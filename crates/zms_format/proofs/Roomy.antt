-- What a sector that counts is: its values stand under its guard slot, and cost no more than it has for them.
use Rattle.std.proofs.Common.{◌≡◌, ℕ, ◌+◌, ◌-◌, ◌*◌, ◌<◌, ◌≤◌, Bool, true, false, not, ◌&&◌, ◌||◌, leb, ltb, List, [], ◌∷◌, length, map, take, get_or, Option, Some, None, refl, sym, ap, ◌∙◌, inl, inr, arith}
use Rattle.std.specs.Prelude.{sum_by, is_some, IsSome}
use Rattle.std.specs.List.{filter_map, list_all, list_any}
use Rattle.std.proofs.lemmas.Bool.{false≢true, cases_Bool, and_left, and_parts, or_from, le-ltb, le-leb, not-true}
use Rattle.item_laws.specs.PairRounds.{stored_cost}
use Rattle.flash_sim.specs.declared.flash.Kind.{Kind}
use Rattle.flash_sim.specs.declared.flash.Kind.TheVariants.{Erasing, Rewritable}
use Rattle.item_laws.specs.Slots.{Slot}
use Rattle.item_laws.specs.Reading.{is_sound as ring_sound}
use Rattle.item_laws.proofs.SectorCosts.{costs_are as sector_costs}
use Rattle.zms_cycle.specs.declared.reading.SlotEntry.{SlotEntry}
use Rattle.zms_cycle.specs.Changes.{Empties}
use Rattle.zms_cycle.specs.Sector.{slot_of, is_valid, cycle_of, holds_close, is_closed, is_fresh, can_close, entry_in, entries, cost, capacity, low, written, data_end, has_guard, is_under, is_sound, pair_of, pairs, entry_cost, holds_too_much}
use Rattle.std.proofs.lemmas.List.{get_or-take, get_or-replicate, length-take-le}
use Rattle.flash_map.specs.Units.{is_erased}
use Rattle.flash_map.proofs.ErasedBytes.{erased_is}
use Rattle.flash_map.proofs.WrittenEnds.{erased_range}
use Rattle.item_laws.proofs.SlotLemmas.{bytes-slot_at}
use Rattle.zms_cycle.proofs.ErasedSlots.{written-never, written_below, erased_invalid}
use Rattle.zms_cycle.proofs.CopyCalls.{length-range}
use Rattle.zms_cycle.proofs.Frames.{sound-parts, sound_of}
use Rattle.zms_format.specs.Area.{is_begun, may_close, is_unused, is_clean, reading, zms}
use Rattle.zms_format.proofs.Sectors.{unused-is, empty_end, written-none, blank_may, closable_may, unused_slots, unused_may, unused_sound, costs_of}
use Rattle.zms_format.proofs.ZmsEntries.{are_zms}

-- A sector that is not in use.

pub unused_of : (kind : Kind) (b : List ℕ) → is_valid (cycle_of b) (slot_of b 2) ≡ false → is_closed b ≡ false → may_close kind b ≡ true → is_unused kind b ≡ true
unfolding is_unused is_begun
unused_of kind b invalid open_here may =
    ap (λ (t : Bool). not t && (not (is_closed b) && may_close kind b)) invalid ∙ ap (λ (t : Bool). not t && may_close kind b) open_here ∙ may

pub empties_unused : (kind : Kind) (old new : List ℕ) → Empties kind old new → is_unused kind new ≡ true
empties_unused kind old new empties =
    unused_of kind new (ap (λ (o : Option ℕ). is_valid o (slot_of new 2)) empties.cycle ∙ empties.second) empties.closed (closable_may kind new empties.closable)

pub no_cycle : (kind : Kind) (b : List ℕ) → cycle_of b ≡ None → is_unused kind b ≡ true
no_cycle kind b none =
    let first : is_valid (cycle_of b) (slot_of b 1) ≡ false = ap (λ (o : Option ℕ). is_valid o (slot_of b 1)) none in
    unused_of kind b (ap (λ (o : Option ℕ). is_valid o (slot_of b 2)) none) (and_left (is_valid (cycle_of b) (slot_of b 1)) (holds_close (slot_of b 1)) first) (blank_may kind b none)

-- Clean sectors.

pub clean_unused : (kind : Kind) (b : List ℕ) → is_clean kind b ≡ true → is_unused kind b ≡ true
unfolding is_clean
clean_unused Rewritable b clean = clean
clean_unused Erasing b clean = (and_parts (is_unused Erasing b) (not (is_some (cycle_of b)) || is_fresh b) clean).0

pub unused_clean : (b : List ℕ) → is_unused Rewritable b ≡ true → is_clean Rewritable b ≡ true
unfolding is_clean
unused_clean b unused = unused

and_both : (x y : Bool) → x ≡ true → y ≡ true → (x && y) ≡ true
and_both true true a b = refl
and_both true false a b = b
and_both false y a b = a

or_second : (x y : Bool) → y ≡ true → (x || y) ≡ true
or_second true y e = refl
or_second false y e = e

pub clean_blank : (kind : Kind) (b : List ℕ) → cycle_of b ≡ None → is_clean kind b ≡ true
unfolding is_clean
clean_blank Rewritable b none = no_cycle Rewritable b none
clean_blank Erasing b none = and_both (is_unused Erasing b) (not (is_some (cycle_of b)) || is_fresh b) (no_cycle Erasing b none) (ap (λ (o : Option ℕ). not (is_some o) || is_fresh b) none)

pub empties_clean : (kind : Kind) (old new : List ℕ) → Empties kind old new → is_clean kind new ≡ true
unfolding is_clean
empties_clean Rewritable old new empties = empties_unused Rewritable old new empties
empties_clean Erasing old new empties =
    and_both (is_unused Erasing new) (not (is_some (cycle_of new)) || is_fresh new) (empties_unused Erasing old new empties) (or_second (not (is_some (cycle_of new))) (is_fresh new) (empties.fresh refl))

-- a sector that is not clean has a cycle
pub not_clean_cycle : (kind : Kind) (b : List ℕ) → is_clean kind b ≡ false → IsSome (cycle_of b)
not_clean_cycle kind b not_clean = by_cycle (cycle_of b) refl
  where
    by_cycle : (o : Option ℕ) → cycle_of b ≡ o → IsSome (cycle_of b)
    by_cycle None none = absurd (false≢true (sym not_clean ∙ clean_blank kind b none))
    by_cycle (Some c) some = ap (λ (o : Option ℕ). is_some o) some

-- A fresh sector: each byte under slot 0 is FF.
module _ (b : List ℕ) (long : 48 ≤ length b) (fresh : is_fresh b ≡ true) where
  under_slot_0 : (k : ℕ) → k < length b - 16 → get_or b k 0 ≡ 255
  unfolding is_fresh
  under_slot_0 k lt =
      let parts = and_parts (is_some (cycle_of b)) (is_erased (take (length b - 16) b)) fresh in
      let all = length-take-le (length b - 16) b (omega arith) in
      sym (get_or-take (length b - 16) b k 0 (omega arith)) ∙ ap (λ (l : List ℕ). get_or l k 0) (erased_is (take (length b - 16) b) parts.1) ∙ get_or-replicate (length (take (length b - 16) b)) k 255 0 (omega arith)

  erased_slot : (n : ℕ) → 1 ≤ n → n ≤ 2 → is_erased (slot_of b n).bytes ≡ true
  erased_slot n from to =
      ap is_erased (sym (bytes-slot_at 16 b n (length b - (n + 1) * 16) refl))
      ∙ erased_range b (length b - (n + 1) * 16) (length b - (n + 1) * 16 + 16) (omega arith) (λ k le lt. under_slot_0 k (omega arith))

  slot_long : (n : ℕ) → 1 ≤ n → n ≤ 2 → length (slot_of b n).bytes ≡ 16
  slot_long n from to = ap length (sym (bytes-slot_at 16 b n (length b - (n + 1) * 16) refl)) ∙ length-range b (length b - (n + 1) * 16) 16 (omega arith)

  invalid_slot : (n : ℕ) → 1 ≤ n → n ≤ 2 → (o : Option ℕ) → is_valid o (slot_of b n) ≡ false
  invalid_slot n from to None = refl
  invalid_slot n from to (Some c) = erased_invalid c (slot_of b n) (slot_long n from to) (erased_slot n from to)

  fresh_closable : can_close Erasing b ≡ true
  unfolding can_close
  fresh_closable = erased_slot 1 (omega arith) (omega arith)

  pub fresh_unused : is_unused Erasing b ≡ true
  fresh_unused =
      unused_of Erasing b (invalid_slot 2 (omega arith) (omega arith) (cycle_of b))
      (and_left (is_valid (cycle_of b) (slot_of b 1)) (holds_close (slot_of b 1)) (invalid_slot 1 (omega arith) (omega arith) (cycle_of b)))
      (closable_may Erasing b fresh_closable)

  -- so under its slots nothing is written
  fresh_end : written Erasing b ≡ 0
  fresh_end = by_cycle (cycle_of b) refl
    where
      by_cycle : (o : Option ℕ) → cycle_of b ≡ o → written Erasing b ≡ 0
      by_cycle None is = written-none Erasing b is
      by_cycle (Some c) is = let le = written_below b c 0 is refl (λ k from lt. under_slot_0 k (omega arith)) in omega arith

-- What the code says of a clean sector.

not_twice : (x : Bool) → not (not x) ≡ x
not_twice true = refl
not_twice false = refl

pub clean_never : (kind : Kind) (b : List ℕ) (used : Bool) → kind ≡ Rewritable → used ≡ (is_begun b || is_closed b) → not used ≡ is_clean kind b
unfolding is_clean
clean_never Rewritable b used is reported = ap not (reported ∙ unused-is b) ∙ not_twice (is_unused Rewritable b)
clean_never Erasing b used is reported = absurd (not_erasing is)
  where
    not_erasing : Erasing ≡ Rewritable → ⊥
    not_erasing h = cc

none_of : (o : Option ℕ) → not (is_some o) ≡ true → o ≡ None
none_of None h = refl
none_of (Some c) h = absurd (false≢true h)

pub clean_erasing : (kind : Kind) (b : List ℕ) (blank : Bool) → kind ≡ Erasing → blank ≡ not (is_some (cycle_of b)) → blank ≡ true → blank ≡ is_clean kind b
clean_erasing kind b blank is reported yes_it = yes_it ∙ sym (clean_blank kind b (none_of (cycle_of b) (sym reported ∙ yes_it)))

pub fresh_clean : (kind : Kind) (b : List ℕ) (blank : Bool) → 48 ≤ length b → kind ≡ Erasing → blank ≡ not (is_some (cycle_of b)) → blank ≡ false → is_fresh b ≡ is_clean kind b
unfolding is_clean
fresh_clean Rewritable b blank long is reported used = absurd (not_erasing is)
  where
    not_erasing : Rewritable ≡ Erasing → ⊥
    not_erasing h = cc
fresh_clean Erasing b blank long is reported used =
    let no_blank : not (is_some (cycle_of b)) ≡ false = sym reported ∙ used in
    let rest : is_clean Erasing b ≡ (is_unused Erasing b && is_fresh b) = ap (λ (t : Bool). is_unused Erasing b && (t || is_fresh b)) no_blank in
    elim (cases_Bool (is_fresh b)) [
      | inl fresh ↦ fresh ∙ sym (rest ∙ and_both (is_unused Erasing b) (is_fresh b) (fresh_unused b long fresh) fresh)
      | inr other ↦ other ∙ sym (rest ∙ ap (λ (t : Bool). is_unused Erasing b && t) other ∙ and_false (is_unused Erasing b))
    ]
  where
    and_false : (x : Bool) → (x && false) ≡ false
    and_false true = refl
    and_false false = refl

pub clean_end : (kind : Kind) (b : List ℕ) → 48 ≤ length b → is_clean kind b ≡ true → data_end kind b ≡ 0
unfolding is_clean
clean_end Rewritable b long clean = empty_end Rewritable b (unused_slots Rewritable b clean) (written-never b)
clean_end Erasing b long clean =
    let parts = and_parts (is_unused Erasing b) (not (is_some (cycle_of b)) || is_fresh b) clean in
    let empty = unused_slots Erasing b parts.0 in
    empty_end Erasing b empty (by_cycle (cycle_of b) refl)
  where
    by_cycle : (o : Option ℕ) → cycle_of b ≡ o → written Erasing b ≡ 0
    by_cycle None none = written-none Erasing b none
    by_cycle (Some c) some =
        let parts = and_parts (is_unused Erasing b) (not (is_some (cycle_of b)) || is_fresh b) clean in
        fresh_end b long (sym (ap (λ (o : Option ℕ). not (is_some o) || is_fresh b) some) ∙ parts.1)

-- What the values of a sector cost, by its entries and by its pairs.

pub costs_are : (b : List ℕ) → is_sound b ≡ true → stored_cost cost (pairs b) ≡ sum_by entry_cost (entries b)
unfolding entry_cost
costs_are b sound = sector_costs (zms Rewritable) (are_zms Rewritable) b 0 sound

-- A sector whose values stand under its guard slot and cost no more than it has for them is one that counts, where it is
-- closed or can be.
pub ring_sound_of : (kind : Kind) (b : List ℕ) → may_close kind b ≡ true → is_sound b ≡ true → stored_cost cost (pairs b) ≤ capacity (length b) → ring_sound (reading kind) b ≡ true
unfolding holds_too_much
ring_sound_of kind b may sound fits =
    let parts = sound-parts b sound in
    let costs = costs_are b sound in
    let guard = le-leb 16 (low b) parts.guard in
    let none : list_any (λ f. not (is_under (low b - 16) f)) (entries b) ≡ false = none_over (is_under (low b - 16)) (entries b) parts.under in
    let roomy : (list_any (λ f. not (is_under (low b - 16) f)) (entries b) || ltb (capacity (length b)) (sum_by entry_cost (entries b))) ≡ false =
    ap (λ (t : Bool). t || ltb (capacity (length b)) (sum_by entry_cost (entries b))) none ∙ le-ltb (capacity (length b)) (sum_by entry_cost (entries b)) (omega arith) in
    or_right (is_unused kind b)
    (ap (λ (t : Bool). (t && may_close kind b) && not (list_any (λ f. not (is_under (low b - 16) f)) (entries b) || ltb (capacity (length b)) (sum_by entry_cost (entries b)))) guard
    ∙ ap (λ (t : Bool). t && not (list_any (λ f. not (is_under (low b - 16) f)) (entries b) || ltb (capacity (length b)) (sum_by entry_cost (entries b)))) may
    ∙ ap (λ (t : Bool). not t) roomy)
  where
    or_right : (x : Bool) {y : Bool} → y ≡ true → (x || y) ≡ true
    or_right true e = refl
    or_right false e = e

    none_over : (p : SlotEntry → Bool) (fs : List SlotEntry) → list_all p fs ≡ true → list_any (λ f. not (p f)) fs ≡ false
    none_over p [] h = refl
    none_over p (f ∷ fs) h =
        let both = and_parts (p f) (list_all p fs) h in
        ap (λ (t : Bool). not t || list_any (λ f. not (p f)) fs) both.0 ∙ none_over p fs both.1

pub record IsRoomy (kind : Kind) (b : List ℕ) : Type 0 where
  pub sound : is_sound b ≡ true
  pub costs : stored_cost cost (pairs b) ≤ capacity (length b)
  pub may : may_close kind b ≡ true

-- and the other way round
pub roomy_of : (kind : Kind) (b : List ℕ) → 48 ≤ length b → ring_sound (reading kind) b ≡ true → IsRoomy kind b
roomy_of kind b long sound =
    elim (cases_Bool (is_unused kind b)) [
      | inl unused ↦
          let empty : pairs b ≡ [] = ap (λ (ss : List Slot). map (pair_of b) (filter_map entry_in ss)) (unused_slots kind b unused) in
          let none : stored_cost cost (pairs b) ≡ 0 = ap (stored_cost cost) empty in
          record { sound = unused_sound kind b long unused; costs = omega arith; may = unused_may kind b unused }
      | inr used ↦
          let parts = and_parts (has_guard b && may_close kind b) (not (holds_too_much b)) (sym (ap (λ (t : Bool). t || ((has_guard b && may_close kind b) && not (holds_too_much b))) used) ∙ sound) in
          let fence = and_parts (has_guard b) (may_close kind b) parts.0 in
          let roomy = not-true (holds_too_much b) parts.1 in
          let zms = sound_of b (or_from (not (has_guard b)) (holds_too_much b) (ap not fence.0) roomy) in
          let le = costs_of b roomy in
          let same = costs_are b zms in
          record { sound = zms; costs = omega arith; may = fence.1 }
    ]

-- A sector whose slots and values stay.

sound_same : (old new : List ℕ) → low new ≡ low old → entries new ≡ entries old → is_sound new ≡ is_sound old
sound_same old new lower same = ap (λ (n : ℕ). leb 16 n && list_all (is_under (n - 16)) (entries new)) lower ∙ ap (λ (fs : List SlotEntry). leb 16 (low old) && list_all (is_under (low old - 16)) fs) same

pub ring_same : (kind : Kind) (old new : List ℕ) → 48 ≤ length old → may_close kind new ≡ true → length new ≡ length old → low new ≡ low old → entries new ≡ entries old → pairs new ≡ pairs old → ring_sound (reading kind) old ≡ true → ring_sound (reading kind) new ≡ true
ring_same kind old new large may long lower same list sound =
    let roomy = roomy_of kind old large sound in
    let costs = roomy.costs in
    let stored = ap (stored_cost cost) list in
    ring_sound_of kind new may (sound_same old new lower same ∙ roomy.sound) (omega arith)

-- Slot 1 stays, and the marks.
closable_same : (kind : Kind) (old new : List ℕ) → (slot_of new 1).bytes ≡ (slot_of old 1).bytes → can_close kind new ≡ can_close kind old
unfolding can_close
closable_same Rewritable old new slot = refl
closable_same Erasing old new slot = ap is_erased slot

pub may_same : (kind : Kind) (old new : List ℕ) → cycle_of new ≡ cycle_of old → is_closed new ≡ is_closed old → (slot_of new 1).bytes ≡ (slot_of old 1).bytes → may_close kind new ≡ may_close kind old
unfolding may_close
may_same kind old new cycle closed slot =
    ap (λ (t : Bool). t || (not (is_some (cycle_of new)) || can_close kind new)) closed
    ∙ ap (λ (o : Option ℕ). is_closed old || (not (is_some o) || can_close kind new)) cycle
    ∙ ap (λ (t : Bool). is_closed old || (not (is_some (cycle_of old)) || t)) (closable_same kind old new slot)

-- One slot of a sector is overwritten: what the slots read.
use Rattle.std.proofs.Common.{◌≡◌, ℕ, ◌+◌, ◌-◌, ◌*◌, ◌<◌, ◌≤◌, false, cond, eqb, ◌⊎◌, List, length, Option, Some, None, refl, sym, ap, subst, ◌∙◌, inl, inr, arith}
use Rattle.std.specs.Prelude.{slice_range}
use Rattle.std.specs.Option.{option_and_then, option_map_or}
use Rattle.std.proofs.lemmas.Bool.{cases_Bool, cond-true, cond-false}
use Rattle.std.proofs.lemmas.List.{take_all}
use Rattle.flash_sim.specs.declared.flash.Kind.{Kind}
use Rattle.flash_sim.specs.declared.flash.Kind.TheVariants.{Erasing, Rewritable}
use Rattle.flash_map.proofs.Ranges.{range_above, range_below, range_at}
use Rattle.flash_map.proofs.Sectors.{length-overwritten}
use Rattle.item_laws.specs.Slots.{Slot}
use Rattle.item_laws.proofs.SlotLemmas.{bytes-slot_at}
use Rattle.item_laws.proofs.SlotChanges.{SameFrom, slot_at-same, slot_at-from}
use Rattle.zms_cycle.specs.declared.entry.ZEntry.{ZEntry}
use Rattle.zms_cycle.specs.Entries.{decoded, fill, is_special, is_empty, is_close, is_done}
use Rattle.zms_cycle.specs.Sector.{slot_of, is_valid_under, is_valid, cycle_of, holds_close, holds_done, entry_in}
use Rattle.zms_cycle.specs.Changes.{with_slot, guarded}
use Rattle.zms_cycle.proofs.Bytes.{decoded-fill, length-fill}

-- A slot by what it decodes to.

pub valid-is : (cycle : ℕ) (slot : Slot) (o : Option ZEntry) → decoded slot.bytes ≡ o → is_valid_under cycle slot ≡ option_map_or (λ e. eqb e.cycle cycle) o false
unfolding is_valid_under
valid-is cycle slot o is = ap (λ (p : Option ZEntry). option_map_or (λ e. eqb e.cycle cycle) p false) is

pub close-is : (slot : Slot) (o : Option ZEntry) → decoded slot.bytes ≡ o → holds_close slot ≡ option_map_or is_close o false
unfolding holds_close
close-is slot o is = ap (λ (p : Option ZEntry). option_map_or is_close p false) is

pub done-is : (slot : Slot) (o : Option ZEntry) → decoded slot.bytes ≡ o → holds_done slot ≡ option_map_or is_done o false
unfolding holds_done
done-is slot o is = ap (λ (p : Option ZEntry). option_map_or is_done p false) is

pub entry_in-is : (slot : Slot) (o : Option ZEntry) → decoded slot.bytes ≡ o → entry_in slot ≡ option_and_then (λ e. cond (is_special e) None (Some (record { slot = slot.index; entry = e }))) o
unfolding entry_in
entry_in-is slot o is = ap (λ (p : Option ZEntry). option_and_then (λ e. cond (is_special e) None (Some (record { slot = slot.index; entry = e }))) p) is

pub cycle_of-is : (sector : List ℕ) (o : Option ZEntry) → decoded (slot_of sector 0).bytes ≡ o → cycle_of sector ≡ option_and_then (λ e. cond (is_empty e) (Some e.cycle) None) o
unfolding cycle_of
cycle_of-is sector o is = ap (λ (p : Option ZEntry). option_and_then (λ e. cond (is_empty e) (Some e.cycle) None) p) is

-- what does not check is valid under no cycle
pub not_valid : (cycle : Option ℕ) (slot : Slot) → decoded slot.bytes ≡ None → is_valid cycle slot ≡ false
not_valid None slot none = refl
not_valid (Some c) slot none = valid-is c slot None none

-- One slot is overwritten.

module _ (b : List ℕ) (k : ℕ) (p : List ℕ) (sixteen : length p ≡ 16) (inside : (k + 1) * 16 ≤ length b) where
  fits : length b - (k + 1) * 16 + length p ≤ length b
  fits = omega arith

  pub length-with_slot : length (with_slot b k p) ≡ length b
  length-with_slot = length-overwritten b (length b - (k + 1) * 16) p fits

  pub slot-put : (slot_of (with_slot b k p) k).bytes ≡ p
  slot-put =
      let long = length-with_slot in
      let start : length b - (k + 1) * 16 ≡ length (with_slot b k p) - (k + 1) * 16 = omega arith in
      sym (bytes-slot_at 16 (with_slot b k p) k (length b - (k + 1) * 16) start)
      ∙ range_at b (length b - (k + 1) * 16) p 16 (omega arith) (omega arith) ∙ take_all 16 p (omega arith)

  pub with_slot-above : SameFrom (length b - k * 16) b (with_slot b k p)
  with_slot-above = record { long = length-with_slot; bytes = λ i j le. range_above b (length b - (k + 1) * 16) p i j fits (omega arith) }

  pub with_slot-below : (i j : ℕ) → j ≤ length b - (k + 1) * 16 → slice_range (with_slot b k p) i j ≡ slice_range b i j
  with_slot-below i j le = range_below b (length b - (k + 1) * 16) p i j (omega arith) le

-- The new sector reads as the old one outside a slot, whose bytes are the old ones or never check.
pub record Covers (k : ℕ) (old new : List ℕ) : Type 0 where
  pub above : SameFrom (length old - k * 16) old new
  pub below : (i j : ℕ) → j ≤ length old - (k + 1) * 16 → slice_range new i j ≡ slice_range old i j
  pub unit : (slot_of new k ≡ slot_of old k) ⊎ (decoded (slot_of new k).bytes ≡ None)

pub covers-same : (k : ℕ) (b : List ℕ) → Covers k b b
covers-same k b = record { above = record { long = refl; bytes = λ i j le. refl }; below = λ i j le. refl; unit = inl refl }

pub decoded-put : (b : List ℕ) (k : ℕ) → (k + 1) * 16 ≤ length b → decoded (slot_of (with_slot b k fill) k).bytes ≡ None
decoded-put b k inside = ap decoded (slot-put b k fill length-fill inside) ∙ decoded-fill

-- a slot with the fill unit is valid under no cycle
pub slot-filled : (cycle : ℕ) (b : List ℕ) (k : ℕ) → (k + 1) * 16 ≤ length b → is_valid_under cycle (slot_of (with_slot b k fill) k) ≡ false
slot-filled cycle b k inside = valid-is cycle (slot_of (with_slot b k fill) k) None (decoded-put b k inside)

pub covers-fill : (k : ℕ) (b : List ℕ) → (k + 1) * 16 ≤ length b → Covers k b (with_slot b k fill)
covers-fill k b inside = record { above = with_slot-above b k fill length-fill inside; below = with_slot-below b k fill length-fill inside; unit = inr (decoded-put b k inside) }

pub covers-guarded : (kind : Kind) (cycle k : ℕ) (b : List ℕ) → (k + 1) * 16 ≤ length b → Covers k b (guarded kind cycle k b)
covers-guarded Erasing cycle k b inside = covers-same k b
covers-guarded Rewritable cycle k b inside = elim (cases_Bool (is_valid_under cycle (slot_of b k))) [
  | inl valid ↦ subst (λ (new : List ℕ). Covers k b new) (sym (cond-true (is_valid_under cycle (slot_of b k)) (with_slot b k fill) b valid)) (covers-fill k b inside)
  | inr other ↦ subst (λ (new : List ℕ). Covers k b new) (sym (cond-false (is_valid_under cycle (slot_of b k)) (with_slot b k fill) b other)) (covers-same k b)
]

-- THE law of the guard: after it the slot is not valid under the cycle.
pub guarded-not_valid : (cycle k : ℕ) (b : List ℕ) → (k + 1) * 16 ≤ length b → is_valid_under cycle (slot_of (guarded Rewritable cycle k b) k) ≡ false
guarded-not_valid cycle k b inside = elim (cases_Bool (is_valid_under cycle (slot_of b k))) [
  | inl valid ↦ ap (λ (new : List ℕ). is_valid_under cycle (slot_of new k)) (cond-true (is_valid_under cycle (slot_of b k)) (with_slot b k fill) b valid) ∙ slot-filled cycle b k inside
  | inr other ↦ ap (λ (new : List ℕ). is_valid_under cycle (slot_of new k)) (cond-false (is_valid_under cycle (slot_of b k)) (with_slot b k fill) b other) ∙ other
]

-- a slot that is not valid stays so
pub covers-not_valid : (cycle : Option ℕ) (k : ℕ) (old new : List ℕ) → Covers k old new → is_valid cycle (slot_of old k) ≡ false → is_valid cycle (slot_of new k) ≡ false
covers-not_valid cycle k old new covers invalid = elim covers.unit [
  | inl same ↦ ap (λ (slot : Slot). is_valid cycle slot) same ∙ invalid
  | inr none ↦ not_valid cycle (slot_of new k) none
]

-- the other slots stay
pub covers-higher : (k j : ℕ) (old new : List ℕ) → Covers k old new → j < k → slot_of new j ≡ slot_of old j
covers-higher k j old new covers lt = slot_at-from 16 (length old - k * 16) old new covers.above j (omega arith)

pub covers-lower : (k j : ℕ) (old new : List ℕ) → Covers k old new → k < j → (j + 1) * 16 ≤ length old → slot_of new j ≡ slot_of old j
covers-lower k j old new covers lt inside = slot_at-same 16 old new j covers.above.long (covers.below (length old - (j + 1) * 16) (length old - (j + 1) * 16 + 16) (omega arith))

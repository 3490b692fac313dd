-- What fits a sector leaves its costs at or below the capacity.
use Rattle.std.proofs.Common.{◌≡◌, ℕ, ◌+◌, ◌*◌, ◌≤◌, Bool, true, false, ◌&&◌, cond, eqb, leb, length, List, Option, Some, None, refl, sym, ap, ◌∙◌, inl, inr, arith}
use Rattle.std.specs.Option.{option_map_or}
use Rattle.std.proofs.lemmas.Bool.{cases_Bool, cases_eq, cond-true, cond-false, eq-eqb, ne_eqb, leb-true}
use Rattle.item_laws.specs.PairRounds.{stored_cost}
use Rattle.flash_sim.specs.declared.flash.Kind.{Kind}
use Rattle.item_laws.specs.Slots.{Slot}
use Rattle.item_laws.proofs.SlotCosts.{slots_cost}
use Rattle.zms_cycle.specs.declared.entry.ZEntry.{ZEntry}
use Rattle.zms_cycle.specs.declared.reading.SlotEntry.{SlotEntry}
use Rattle.zms_cycle.specs.Entries.{is_special, is_done, mark_of}
use Rattle.zms_cycle.specs.Sector.{valid_slots, entry_in, entries, has_gc_done, holds_done, data_len, cost, capacity, data_end, free, fits, is_sound, pairs, entry_cost}
use Rattle.zms_cycle.proofs.Frames.{end_of-above}
use Rattle.zms_cycle.proofs.Slots16.{entry_in-is}
use Rattle.zms_cycle.proofs.EntryReads.{is_read}
use Rattle.zms_format.proofs.Roomy.{costs_are}

-- a slot with an entry holds no gc-done
entry_not_done : (slot : Slot) (f : SlotEntry) → entry_in slot ≡ Some f → holds_done slot ≡ false
unfolding holds_done is_done
entry_not_done slot f is =
    let read = (is_read slot f is).read in
    elim (cases_Bool (is_special f.entry)) [
      | inl special ↦ absurd (none_some (sym (entry_in-is slot (Some f.entry) read ∙ cond-true (is_special f.entry) None (Some (record { slot = slot.index; entry = f.entry })) special) ∙ is))
      | inr ordinary ↦ ap (λ (o : Option ZEntry). option_map_or is_done o false) read ∙ ap (λ (t : Bool). t && eqb f.entry.len 0 && eqb (mark_of f.entry) 2) ordinary
    ]
  where
    none_some : {X : Type 0} {x : X} → None ≡ Some x → ⊥
    none_some h = cc

entry_cost-le : (f : SlotEntry) → entry_cost f ≤ data_len f.entry.len + 16
unfolding entry_cost
entry_cost-le f = let le : entry_cost f ≤ 16 + data_len f.entry.len = at_most (eqb f.entry.len 0) (16 + data_len f.entry.len) in omega arith
  where
    at_most : (t : Bool) (n : ℕ) → cond t 0 n ≤ n
    at_most true n = omega arith
    at_most false n = omega arith

stored-le_slots : (kind : Kind) (b : List ℕ) → is_sound b ≡ true → stored_cost cost (pairs b) + cond (has_gc_done b) 16 0 ≤ 16 * length (valid_slots b) + data_end kind b
stored-le_slots kind b sound =
    let costs = costs_are b sound in
    let slots = slots_cost entry_in holds_done 16 entry_cost (λ (f : SlotEntry). data_len f.entry.len) entry_cost-le entry_not_done (valid_slots b) in
    let above = end_of-above (entries b) in
    let sums = above.sums in
    omega arith

spare : (t : Bool) → cond t 2 3 * 16 + cond t 16 0 ≡ 48
spare true = refl
spare false = refl

pub fits-costs : (kind : Kind) (b : List ℕ) (len : ℕ) → is_sound b ≡ true → stored_cost cost (pairs b) ≤ capacity (length b) → fits kind b len ≡ true → stored_cost cost (pairs b) + cond (eqb len 0) 0 (cost len) ≤ capacity (length b)
fits-costs kind b len sound costs fitting =
    elim (cases_eq len 0) [
      | inl none ↦ let own = cond-true (eqb len 0) 0 (cost len) (eq-eqb len 0 none) in omega arith
      | inr some ↦
          let own = cond-false (eqb len 0) 0 (cost len) (ne_eqb len 0 some) in
          let room = leb-true (cost len + cond (has_gc_done b) 2 3 * 16) (free kind b) (sym (cond-false (eqb len 0) (leb 32 (free kind b)) (leb (cost len + cond (has_gc_done b) 2 3 * 16) (free kind b)) (ne_eqb len 0 some)) ∙ fitting) in
          let slots = stored-le_slots kind b sound in
          let both = spare (has_gc_done b) in
          omega arith
    ]

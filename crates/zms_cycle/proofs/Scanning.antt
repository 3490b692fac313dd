-- Going over the entries of a sector.
use Rattle.std.proofs.Common.{◌≡◌, ℕ, ◌+◌, ◌-◌, ◌*◌, ◌^◌, ◌≤◌, min, max, Bool, false, ◌&&◌, ◌||◌, cond, List, length, map, Option, Some, None, refl, sym, ap, ◌∙◌, arith}
use Rattle.std.specs.Prelude.{fold, is_some, sum_by, IsSome}
use Rattle.std.specs.List.{filter_map, list_any}
use Rattle.std.specs.Option.{option_and_then, option_map_or}
use Rattle.flash_sim.specs.declared.flash.Kind.{Kind}
use Rattle.item_laws.specs.Slots.{Slot, used_slots}
use Rattle.item_laws.proofs.SlotLemmas.{index-slot_at}
use Rattle.item_laws.proofs.SlotCounts.{slots_to, slots_to_used, used_count_fits}
use Rattle.item_laws.proofs.SlotWalks.{most_step, slot_step, sum_step}
use Rattle.zms_cycle.specs.declared.entry.ZEntry.{ZEntry}
use Rattle.zms_cycle.specs.declared.reading.SlotEntry.{SlotEntry}
use Rattle.zms_cycle.specs.declared.reading.SectorState.{SectorState}
use Rattle.zms_cycle.specs.declared.reading.SectorState.TheVariants.{Blank, Used}
use Rattle.zms_cycle.specs.Entries.{decoded, is_special, is_done}
use Rattle.zms_cycle.specs.Sector.{slot_of, is_valid, is_valid_under, cycle_of, valid_slots, holds_close, entry_in, holds_done, value_end, data_len, end_of, written, data_end}
use Rattle.zms_cycle.specs.States.{state_of}
use Rattle.zms_cycle.proofs.Slots16.{entry_in-is, done-is}

-- the entries of so many slots
abbrev pub entries_to : List ℕ → ℕ → List SlotEntry
entries_to b n = filter_map entry_in (slots_to 2 16 b n)

-- what the code reads of a slot
pub found_is : (b : List ℕ) (k : ℕ) (entry : Option ZEntry) (found : Option SlotEntry) → entry ≡ decoded (slot_of b k).bytes → found ≡ option_and_then (λ e. cond (is_special e) None (Some (record { slot = k; entry = e }))) entry → found ≡ entry_in (slot_of b k)
found_is b k entry found read is =
    is ∙ ap (λ (i : ℕ). option_and_then (λ e. cond (is_special e) None (Some (record { slot = i; entry = e }))) entry) (sym (index-slot_at 16 b k)) ∙ sym (entry_in-is (slot_of b k) entry (sym read))

pub ends_step : (b : List ℕ) (n k : ℕ) (found : Option SlotEntry) (ends : ℕ) → k ≡ 2 + n → found ≡ entry_in (slot_of b k) → ends ≡ fold max 0 (map value_end (entries_to b n)) → max (option_map_or value_end found 0) ends ≡ fold max 0 (map value_end (entries_to b (n + 1)))
ends_step b n k found ends at is so_far = most_step entry_in 2 16 b value_end n k (n + 1) found ends (option_map_or value_end found 0) at refl is so_far refl

pub lens_step : (b : List ℕ) (n k : ℕ) (found : Option SlotEntry) (lens : ℕ) → k ≡ 2 + n → found ≡ entry_in (slot_of b k) → lens ≡ sum_by (λ f. data_len f.entry.len) (entries_to b n) → lens + option_map_or (λ f. data_len f.entry.len) found 0 ≡ sum_by (λ f. data_len f.entry.len) (entries_to b (n + 1))
lens_step b n k found lens at is so_far = sum_step entry_in 2 16 b (λ (f : SlotEntry). data_len f.entry.len) n k (n + 1) found lens (option_map_or (λ f. data_len f.entry.len) found 0) at refl is so_far refl

pub done_step : (b : List ℕ) (n k : ℕ) (entry : Option ZEntry) (done : Bool) → k ≡ 2 + n → entry ≡ decoded (slot_of b k).bytes → done ≡ list_any holds_done (slots_to 2 16 b n) → (done || option_map_or is_done entry false) ≡ list_any holds_done (slots_to 2 16 b (n + 1))
done_step b n k entry done at read so_far = slot_step holds_done 2 16 b n k (n + 1) done (option_map_or is_done entry false) at refl so_far (sym (done-is (slot_of b k) entry (sym read)))

-- the state of a sector of this cycle
abbrev state_with : Kind → Option ℕ → List ℕ → SectorState
state_with kind cycle b =
    option_map_or
    (λ c. Used c (is_valid cycle (slot_of b 1) && holds_close (slot_of b 1)) (length (used_slots (is_valid cycle) 2 16 b)) (min (max (end_of (filter_map entry_in (used_slots (is_valid cycle) 2 16 b))) (written kind b)) (2 ^ 32 - 1)) (list_any holds_done (used_slots (is_valid cycle) 2 16 b)))
    cycle Blank

end_of-is : (fs : List SlotEntry) (ends lens : ℕ) → ends ≡ fold max 0 (map value_end fs) → lens ≡ sum_by (λ f. data_len f.entry.len) fs → max ends lens ≡ end_of fs
unfolding end_of
end_of-is fs ends lens ends-is lens-is = omega arith

pub state_is : (kind : Kind) (b : List ℕ) (cycle n ends lens low : ℕ) (closed done : Bool) → cycle_of b ≡ Some cycle → closed ≡ (is_valid_under cycle (slot_of b 1) && holds_close (slot_of b 1)) → n ≡ length (used_slots (is_valid (Some cycle)) 2 16 b)
    → ends ≡ fold max 0 (map value_end (entries_to b n)) → lens ≡ sum_by (λ f. data_len f.entry.len) (entries_to b n) → low ≡ written kind b → done ≡ list_any holds_done (slots_to 2 16 b n)
    → Used cycle closed n (min (max (max ends lens) low) (2 ^ 32 - 1)) done ≡ state_of kind b
state_is kind b cycle n ends lens low closed done of_cycle closed-is n-is ends-is lens-is low-is done-is =
    let slots : slots_to 2 16 b n ≡ used_slots (is_valid (Some cycle)) 2 16 b = slots_to_used (is_valid (Some cycle)) 2 16 b n n-is in
    ap (λ (t : Bool). Used cycle t n (min (max (max ends lens) low) (2 ^ 32 - 1)) done) closed-is
    ∙ ap (λ (k : ℕ). Used cycle (is_valid_under cycle (slot_of b 1) && holds_close (slot_of b 1)) k (min (max (max ends lens) low) (2 ^ 32 - 1)) done) n-is
    ∙ ap (λ (k : ℕ). Used cycle (is_valid_under cycle (slot_of b 1) && holds_close (slot_of b 1)) (length (used_slots (is_valid (Some cycle)) 2 16 b)) (min (max (max ends lens) k) (2 ^ 32 - 1)) done) low-is
    ∙ ap (λ (k : ℕ). Used cycle (is_valid_under cycle (slot_of b 1) && holds_close (slot_of b 1)) (length (used_slots (is_valid (Some cycle)) 2 16 b)) (min (max k (written kind b)) (2 ^ 32 - 1)) done) (end_of-is (entries_to b n) ends lens ends-is lens-is ∙ ap (λ (ss : List Slot). end_of (filter_map entry_in ss)) slots)
    ∙ ap (λ (t : Bool). Used cycle (is_valid_under cycle (slot_of b 1) && holds_close (slot_of b 1)) (length (used_slots (is_valid (Some cycle)) 2 16 b)) (min (max (end_of (filter_map entry_in (used_slots (is_valid (Some cycle)) 2 16 b))) (written kind b)) (2 ^ 32 - 1)) t) (done-is ∙ ap (list_any holds_done) slots)
    ∙ ap (λ (o : Option ℕ). state_with kind o b) (sym of_cycle)

pub blank_is : (kind : Kind) (b : List ℕ) → cycle_of b ≡ None → Blank ≡ state_of kind b
blank_is kind b none = ap (λ (o : Option ℕ). state_with kind o b) (sym none)

-- what a used state says, whatever the cycle is
used_with : (kind : Kind) (o : Option ℕ) (b : List ℕ) (cycle n end : ℕ) (closed done : Bool) → Used cycle closed n end done ≡ state_with kind o b
    → (o ≡ Some cycle) × (n ≡ length (used_slots (is_valid o) 2 16 b)) × (end ≡ min (max (end_of (filter_map entry_in (used_slots (is_valid o) 2 16 b))) (written kind b)) (2 ^ 32 - 1))
used_with kind None b cycle n end closed done is = cc
used_with kind (Some c) b cycle n end closed done is = (cc, cc, cc)

pub used_parts : (kind : Kind) (b : List ℕ) (cycle n end : ℕ) (closed done : Bool) → Used cycle closed n end done ≡ state_of kind b → (cycle_of b ≡ Some cycle) × (n ≡ length (valid_slots b)) × (end ≡ min (data_end kind b) (2 ^ 32 - 1))
used_parts kind b = used_with kind (cycle_of b) b

-- a used sector has no blank state
not_blank_with : (kind : Kind) (o : Option ℕ) (b : List ℕ) → IsSome o → Blank ≡ state_with kind o b → ⊥
not_blank_with kind None b some is = cc
not_blank_with kind (Some c) b some is = cc

pub not_blank : (kind : Kind) (b : List ℕ) → IsSome (cycle_of b) → Blank ≡ state_of kind b → ⊥
not_blank kind b = not_blank_with kind (cycle_of b) b

-- a sector of a cycle is in use, and these are its slots
pub used_some : (b : List ℕ) (cycle : ℕ) → cycle_of b ≡ Some cycle → IsSome (cycle_of b)
used_some b cycle is = ap is_some is

pub listed_count : (b : List ℕ) (cycle n : ℕ) → cycle_of b ≡ Some cycle → n ≡ length (used_slots (is_valid (Some cycle)) 2 16 b) → n ≡ length (valid_slots b)
listed_count b cycle n is count = count ∙ ap (λ (o : Option ℕ). length (used_slots (is_valid o) 2 16 b)) (sym is)

-- they stand in the sector
pub listed_fits : (b : List ℕ) (n : ℕ) → 48 ≤ length b → n ≡ length (valid_slots b) → (n + 2) * 16 ≤ length b
listed_fits b n long count = let few = used_count_fits (is_valid (cycle_of b)) 2 16 b in omega (arith, long, count, few)

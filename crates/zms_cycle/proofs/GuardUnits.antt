-- The unit that a guard takes, as the sector shows it before the step.
use Rattle.std.proofs.Common.{◌≡◌, ℕ, ◌+◌, ◌-◌, ◌≤◌, Bool, cond, leb, List, length, Option, Some, refl, sym, ap, ◌∙◌, inl, inr, arith}
use Rattle.std.proofs.lemmas.Bool.{cases_Bool, cond-true, cond-false}
use Rattle.flash_sim.specs.Device.{overwritten, Device}
use Rattle.flash_sim.specs.declared.flash.Kind.{Kind}
use Rattle.flash_sim.specs.declared.flash.Kind.TheVariants.{Erasing, Rewritable}
use Rattle.flash_map.specs.declared.area.Area.{Area}
use Rattle.flash_map.specs.Area.{sector_bytes}
use Rattle.flash_map.specs.Units.{padded_bytes}
use Rattle.flash_map.proofs.PaddedLemmas.{length-padded_bytes}
use Rattle.flash_map.proofs.Ranges.{range_above}
use Rattle.flash_map.proofs.Sectors.{length-overwritten}
use Rattle.item_laws.specs.Slots.{Slot}
use Rattle.item_laws.proofs.SlotChanges.{SameFrom, slot_at-from}
use Rattle.zms_cycle.specs.Areas.{kind_on}
use Rattle.zms_cycle.specs.Sector.{slot_of, is_valid, cycle_of, valid_slots, data_len, low, data_end}
use Rattle.zms_cycle.specs.Changes.{guarded, guard_units, with_value, next_cycle, Empties, first_guard}
use Rattle.zms_cycle.specs.OnArea.{Makes, next_guard}
use Rattle.zms_cycle.proofs.AreaFacts.{same_kind}
use Rattle.zms_cycle.proofs.EntryCalls.{IsReady}
use Rattle.zms_cycle.proofs.Frames.{data_len-long}
use Rattle.zms_cycle.proofs.Slots16.{covers-guarded, covers-lower}

-- a value reaches no slot under the guard slot
pub value_under : (kind : Kind) (b bytes : List ℕ) (at : ℕ) → at ≡ data_end kind b → data_end kind b + data_len (length bytes) + 32 ≤ low b → slot_of (with_value b at bytes) (length (valid_slots b) + 2 + 1) ≡ slot_of b (length (valid_slots b) + 2 + 1)
value_under kind b bytes at is room =
    elim (cases_Bool (leb (length bytes) 8)) [
      | inl short ↦ ap (λ (c : List ℕ). slot_of c (length (valid_slots b) + 2 + 1)) (cond-true (leb (length bytes) 8) b (overwritten b at (padded_bytes 16 bytes)) short)
      | inr long ↦
          let size = length-padded_bytes 16 bytes (inr (inr refl)) in
          let some = data_len-long (length bytes) long in
          let inside : data_end kind b + length (padded_bytes 16 bytes) ≤ length b = omega arith in
          let same : SameFrom (low b - 32) b (overwritten b (data_end kind b) (padded_bytes 16 bytes)) =
          record { long = length-overwritten b (data_end kind b) (padded_bytes 16 bytes) inside; bytes = λ i j le. range_above b (data_end kind b) (padded_bytes 16 bytes) i j inside (omega arith) } in
          ap (λ (c : List ℕ). slot_of c (length (valid_slots b) + 2 + 1)) (cond-false (leb (length bytes) 8) b (overwritten b at (padded_bytes 16 bytes)) long ∙ ap (λ (n : ℕ). overwritten b n (padded_bytes 16 bytes)) is)
          ∙ slot_at-from 16 (low b - 32) b (overwritten b (data_end kind b) (padded_bytes 16 bytes)) same (length (valid_slots b) + 2 + 1) (omega arith)
    ]

-- a guard takes the same where the slot and the cycle are the same
pub units_same : (kind : Kind) (o p : Option ℕ) (k j : ℕ) (b c : List ℕ) → o ≡ p → k ≡ j → slot_of c j ≡ slot_of b j → guard_units kind o k c ≡ guard_units kind p j b
units_same Erasing o p k j b c is at same = refl
units_same Rewritable o p k j b c is at same =
    let chosen : Bool → ℕ = λ (t : Bool). cond t 1 0 in
    ap (λ (q : Option ℕ). chosen (is_valid q (slot_of c k))) is
    ∙ ap (λ (m : ℕ). chosen (is_valid p (slot_of c m))) at
    ∙ ap (λ (slot : Slot). chosen (is_valid p slot)) same

-- the guard under an entry, after its value
pub entry_guard : (d : Device) (area : Area) (sector cycle n end room e : ℕ) (mid : List ℕ) → IsReady d area sector cycle n end room → e ≡ cycle
    → slot_of mid (length (valid_slots (sector_bytes d area sector)) + 2 + 1) ≡ slot_of (sector_bytes d area sector) (length (valid_slots (sector_bytes d area sector)) + 2 + 1)
    → guard_units (kind_on d area) (Some e) (n + 2 + 1) mid ≡ guard_units (kind_on d area) (cycle_of (sector_bytes d area sector)) (length (valid_slots (sector_bytes d area sector)) + 2 + 1) (sector_bytes d area sector)
entry_guard d area sector cycle n end room e mid r is same =
    units_same (kind_on d area) (Some e) (cycle_of (sector_bytes d area sector)) (n + 2 + 1) (length (valid_slots (sector_bytes d area sector)) + 2 + 1) (sector_bytes d area sector) mid
    (ap (λ (k : ℕ). Some k) is ∙ sym r.of_cycle) (ap (λ (m : ℕ). m + 2 + 1) r.count) same

-- the guards of an emptying
pub first_unit : (kind : Kind) (b : List ℕ) (cycle : ℕ) → cycle ≡ next_cycle (cycle_of b) → guard_units kind (Some cycle) 1 b ≡ guard_units kind (Some (next_cycle (cycle_of b))) 1 b
first_unit kind b cycle is = ap (λ (k : ℕ). guard_units kind (Some k) 1 b) is

pub second_unit : (kind : Kind) (b one : List ℕ) (cycle : ℕ) → 48 ≤ length b → cycle ≡ next_cycle (cycle_of b) → one ≡ guarded kind cycle 1 b → guard_units kind (Some cycle) 2 one ≡ guard_units kind (Some (next_cycle (cycle_of b))) 2 b
second_unit kind b one cycle long is first =
    units_same kind (Some cycle) (Some (next_cycle (cycle_of b))) 2 2 b one (ap (λ (k : ℕ). Some k) is) refl
    (ap (λ (c : List ℕ). slot_of c 2) first ∙ covers-lower 1 2 b (guarded kind cycle 1 b) (covers-guarded kind cycle 1 b (omega arith)) (omega arith) (omega arith))

-- the guard under the first entry of a sector that was emptied, as the sector shows it before
pub emptied_guard : (kind : Kind) (b e : List ℕ) → Empties kind b e → guard_units kind (cycle_of e) (length (valid_slots e) + 2 + 1) e ≡ first_guard kind b
emptied_guard Erasing b e empties = refl
emptied_guard Rewritable b e empties =
    units_same Rewritable (cycle_of e) (Some (next_cycle (cycle_of b))) (length (valid_slots e) + 2 + 1) 3 b e empties.cycle (ap (λ (ss : List Slot). length ss + 2 + 1) empties.slots) (empties.third refl)

-- the same on a device
pub emptied_guard_on : (old new : Device) (area : Area) (sector : ℕ) → new.banks ≡ old.banks → Makes Empties old new area sector → next_guard new area sector ≡ first_guard (kind_on old area) (sector_bytes old area sector)
emptied_guard_on old new area sector banks empties =
    ap (λ (k : Kind). guard_units k (cycle_of (sector_bytes new area sector)) (length (valid_slots (sector_bytes new area sector)) + 2 + 1) (sector_bytes new area sector)) (same_kind old new area banks)
    ∙ emptied_guard (kind_on old area) (sector_bytes old area sector) (sector_bytes new area sector) empties

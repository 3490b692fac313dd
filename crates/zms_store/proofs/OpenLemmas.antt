-- What is kept of the open sector of a ZMS area, and what each step in it makes of that.
use Rattle.std.proofs.Common.{◌≡◌, ℕ, ◌+◌, ◌-◌, ◌^◌, ◌<◌, ◌≤◌, min, ◌&&◌, Bool, true, false, leb, List, length, Option, Some, None, refl, sym, ap, ◌∙◌, inl, inr, arith}
use Rattle.std.specs.Prelude.{is_some, IsSome}
use Rattle.std.proofs.lemmas.Bool.{and_parts, cases_Bool, leb-true}
use Rattle.flash_sim.specs.declared.flash.Kind.{Kind as BankKind}
use Rattle.flash_map.specs.declared.area.Geometry.{Geometry}
use Rattle.item_laws.specs.Slots.{Slot}
use Rattle.zms_cycle.specs.Changes.{AddsPair, MarksDone, Empties, next_cycle}
use Rattle.zms_cycle.specs.States.{state_of, IsOpened}
use Rattle.zms_cycle.specs.declared.reading.Opened.{Opened}
use Rattle.zms_cycle.specs.declared.reading.SectorState.TheVariants.{Blank, Used}
use Rattle.zms_cycle.specs.Sector.{cycle_of, valid_slots, has_gc_done, data_len, cost, data_end, free, is_sound}
use Rattle.zms_cycle.proofs.Frames.{pad, data_len-long}
use Rattle.zms_format.specs.declared.sector.Marks.{Marks}
use Rattle.zms_format.specs.Area.{may_close}
use Rattle.zms_format.proofs.Sectors.{few_slots, blank_is, used_is, marks_blank}
use Rattle.zms_format.proofs.StepLemmas.{one_slot}
use Rattle.zms_store.specs.declared.sectors.ZmsOpen.{ZmsOpen}

-- a sector that takes entries is sound
pub ready_sound : (kind : BankKind) (b : List ℕ) → (is_some (cycle_of b) && (is_sound b && may_close kind b)) ≡ true → is_sound b ≡ true
ready_sound kind b ready = (and_parts (is_sound b) (may_close kind b) (and_parts (is_some (cycle_of b)) (is_sound b && may_close kind b) ready).1).0

-- what is kept of a sector
abbrev pub open_of : BankKind → List ℕ → ZmsOpen
open_of bank b = record { gc_done = has_gc_done b; cycle = cycle_of b; slots = length (valid_slots b); data_end = min (data_end bank b) (2 ^ 32 - 1) }

pub kept_is : (bank : BankKind) (b : List ℕ) (done : Bool) (cycle : Option ℕ) (count end : ℕ) → done ≡ has_gc_done b → cycle ≡ cycle_of b → count ≡ length (valid_slots b) → end ≡ min (data_end bank b) (2 ^ 32 - 1)
    → ◌≡◌ {A = ZmsOpen} (record { gc_done = done; cycle = cycle; slots = count; data_end = end }) (record { gc_done = has_gc_done b; cycle = cycle_of b; slots = length (valid_slots b); data_end = min (data_end bank b) (2 ^ 32 - 1) })
kept_is bank b done cycle count end done-is cycle-is count-is end-is =
    ap (λ (x : Bool). record { gc_done = x; cycle = cycle; slots = count; data_end = end }) done-is
    ∙ ap (λ (x : Option ℕ). record { gc_done = has_gc_done b; cycle = x; slots = count; data_end = end }) cycle-is
    ∙ ap (λ (x : ℕ). record { gc_done = has_gc_done b; cycle = cycle_of b; slots = x; data_end = end }) count-is
    ∙ ap (λ (x : ℕ). record { gc_done = has_gc_done b; cycle = cycle_of b; slots = length (valid_slots b); data_end = x }) end-is

-- what is kept of a sector by its state
pub kept_blank : (bank : BankKind) (b : List ℕ) → Blank ≡ state_of bank b → ◌≡◌ {A = ZmsOpen} (record { gc_done = false; cycle = None; slots = 0; data_end = 0 }) (open_of bank b)
kept_blank bank b is =
    let marks = marks_blank bank b is in
    kept_is bank b false None 0 0 (ap (λ (m : Marks). m.gc_done) marks) (sym (blank_is bank b (cycle_of b) refl is)) (ap (λ (m : Marks). m.slots) marks) (ap (λ (m : Marks). m.data_end) marks)

pub kept_used : (bank : BankKind) (b : List ℕ) (cycle slots end : ℕ) (closed done : Bool) → Used cycle closed slots end done ≡ state_of bank b → ◌≡◌ {A = ZmsOpen} (record { gc_done = done; cycle = Some cycle; slots = slots; data_end = end }) (open_of bank b)
kept_used bank b cycle slots end closed done is =
    let u = used_is bank b cycle slots end closed done (cycle_of b) refl is in
    kept_is bank b done (Some cycle) slots end u.marked (sym u.of_cycle) u.count u.ends

-- a value costs no less than its bytes
pub cost_above : (len : ℕ) → len ≤ cost len
cost_above len =
    elim (cases_Bool (leb len 8)) [
      | inl short ↦ let few = leb-true len 8 short in omega arith
      | inr long ↦ let some = data_len-long len long in let units = (pad len).0 in omega arith
    ]

module _ (geometry : Geometry) (b : List ℕ) (opened : ZmsOpen) (kept : opened ≡ open_of geometry.kind b) where
  pub kept_done : opened.gc_done ≡ has_gc_done b
  kept_done = ap (λ (o : ZmsOpen). o.gc_done) kept

  pub kept_cycle : opened.cycle ≡ cycle_of b
  kept_cycle = ap (λ (o : ZmsOpen). o.cycle) kept

  pub kept_some : is_some (cycle_of b) ≡ true → IsSome opened.cycle
  kept_some some = ap (λ (o : Option ℕ). is_some o) kept_cycle ∙ some

  pub kept_slots : opened.slots ≡ length (valid_slots b)
  kept_slots = ap (λ (o : ZmsOpen). o.slots) kept

  pub kept_end : opened.data_end ≡ min (data_end geometry.kind b) (2 ^ 32 - 1)
  kept_end = ap (λ (o : ZmsOpen). o.data_end) kept

  -- what a step has to know
  pub kept_opened : (o : Opened) → opened.cycle ≡ Some o.cycle → o.slots ≡ opened.slots → o.data_end ≡ opened.data_end → IsOpened geometry.kind b o
  kept_opened o cycle slots end = record { cycle = sym kept_cycle ∙ cycle; slots = slots ∙ kept_slots; data_end = end ∙ kept_end }

  pub kept_few : opened.slots ≤ length b
  kept_few = let few = few_slots b in let at = kept_slots in omega arith

  -- where some bytes are free, its data ends in the sector
  module _ (small : length b ≤ 2 ^ 15) (price : ℕ) (some : 0 < price) (room : price ≤ free geometry.kind b) where
    pub end_is : opened.data_end ≡ data_end geometry.kind b
    end_is = let at = kept_end in omega arith

    pub end_room : opened.data_end + price ≤ length b
    end_room = let at = end_is in omega arith

  -- one entry more
  pub kept_added : (e : List ℕ) → 512 ≤ length b → length b ≤ 2 ^ 15 → (id : ℕ) (bytes : List ℕ) (price : ℕ) → price ≡ cost (length bytes) → price ≤ free geometry.kind b → AddsPair geometry.kind b e id bytes
      → ◌≡◌ {A = ZmsOpen} (record { gc_done = opened.gc_done; cycle = opened.cycle; slots = opened.slots + 1; data_end = opened.data_end + (price - 16) }) (open_of geometry.kind e)
  kept_added e wide small id bytes price is room h =
      let end : opened.data_end ≡ data_end geometry.kind b = end_is small price (omega arith) room in
      let within : opened.data_end + price ≤ length b = end_room small price (omega arith) room in
      let grown : data_end geometry.kind e ≡ data_end geometry.kind b + data_len (length bytes) = h.grown in
      let count : length (valid_slots e) ≡ length (valid_slots b) + 1 = one_slot geometry b e wide h.long h.lower in
      let slots = kept_slots in
      kept_is geometry.kind e opened.gc_done opened.cycle (opened.slots + 1) (opened.data_end + (price - 16))
      (kept_done ∙ sym h.gc_done)
      (kept_cycle ∙ sym h.cycle)
      (omega arith)
      (omega arith)

  -- gc-done
  pub kept_marked : (e : List ℕ) → 512 ≤ length b → MarksDone geometry.kind b e
      → ◌≡◌ {A = ZmsOpen} (record { gc_done = true; cycle = opened.cycle; slots = opened.slots + 1; data_end = opened.data_end }) (open_of geometry.kind e)
  kept_marked e wide h =
      let count : length (valid_slots e) ≡ length (valid_slots b) + 1 = one_slot geometry b e wide h.long h.lower in
      let slots = kept_slots in
      kept_is geometry.kind e true opened.cycle (opened.slots + 1) opened.data_end
      (sym h.gc_done)
      (kept_cycle ∙ sym h.cycle)
      (omega arith)
      (kept_end ∙ ap (λ (n : ℕ). min n (2 ^ 32 - 1)) (sym h.same_end))

-- a sector that was blank and was emptied
pub kept_emptied : (bank : BankKind) (b e : List ℕ) → cycle_of b ≡ None → Empties bank b e → ◌≡◌ {A = ZmsOpen} (record { gc_done = false; cycle = Some 1; slots = 0; data_end = 0 }) (open_of bank e)
kept_emptied bank b e none h =
    kept_is bank e false (Some 1) 0 0
    (sym h.gc_done)
    (sym (h.cycle ∙ ap (λ (o : Option ℕ). Some (next_cycle o)) none))
    (ap (λ (ss : List Slot). length ss) (sym h.slots))
    (ap (λ (n : ℕ). min n (2 ^ 32 - 1)) (sym h.same_end))

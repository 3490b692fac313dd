use Rattle.std.proofs.Common.{◌≡◌, ℕ, ◌+◌, ◌-◌, ◌≤◌, min, List, ◌++◌, length, Option, sym, ap, subst, ◌∙◌, inl, inr, arith}
use Rattle.std.specs.Prelude.{slice_index}
use Rattle.std.proofs.lemmas.Bool.{cases_lt}
use Rattle.std.proofs.lemmas.List.{append-nil}
use Rattle.item_laws.specs.Slots.{used_slots}
use Rattle.item_laws.proofs.SlotCounts.{used_count_fits}
use Rattle.item_store.proofs.OlderSteps.{placed_to}
use Rattle.item_store.proofs.SeenSteps.{seen_slot}
use Rattle.zms_cycle.specs.Sector.{slot_of, is_valid, cycle_of, valid_slots}
use Rattle.zms_cycle.proofs.SlotSearch.{other_cycle, valid_before, none_listed}
use Rattle.zms_format.specs.Formats.{format_of}
use Rattle.zms_store.proofs.entries.note_entries.Goals as goal

pub returns-in_default : goal.returns-in_default
returns-in_default g c = λ geometry start before noted.
    let none = none_listed c.args.bytes.now (sym c.cycle_of.ensures ∙ c.in_default.is) in
    subst (λ (n : ℕ). g.N.Notes.noted start (format_of geometry).ids c.args.notes.now (before ++ placed_to (format_of geometry) c.args.bytes.now c.args.place n)) none
    (subst (g.N.Notes.noted start (format_of geometry).ids c.args.notes.now) (sym (append-nil before)) noted)

pub loop-slot-init : goal.loop-slot-init
loop-slot-init g c = record {
  known = c.requires.known;
  from = omega arith;
  noted = λ geometry start before noted.
      let none : 0 ≡ min (2 - 2) (length (valid_slots c.args.bytes.now)) = omega arith in
      subst (λ (n : ℕ). g.N.Notes.noted start (format_of geometry).ids c.args.notes.now (before ++ placed_to (format_of geometry) c.args.bytes.now c.args.place n)) none
      (subst (g.N.Notes.noted start (format_of geometry).ids c.args.notes.now) (sym (append-nil before)) noted);
}

-- the list ends before a slot of another cycle
pub returns-then-fields-cycle : goal.returns-then-fields-cycle
returns-then-fields-cycle g c = λ geometry start before noted.
    let b : List ℕ = c.args.bytes.now in
    let other = other_cycle c.in-Some.cycle (slot_of b c.loop-slot.slot) (λ e. c.if-fields-cycle.true (ap (λ (xs : List ℕ). slice_index xs 1) c.slot_of-fields.ensures.bytes ∙ e)) in
    let stop = subst (λ (o : Option ℕ). length (used_slots (is_valid o) 2 16 b) + 2 ≤ c.loop-slot.slot) c.in-Some.ensures (valid_before c.in-Some.cycle b c.loop-slot.slot (omega (arith, c.loop-slot.invariant.from)) other) in
    let all : min (c.loop-slot.slot - 2) (length (valid_slots b)) ≡ length (valid_slots b) = omega (arith, stop) in
    subst (λ (n : ℕ). g.N.Notes.noted start (format_of geometry).ids c.loop-slot.notes (before ++ placed_to (format_of geometry) b c.args.place n)) all (c.loop-slot.invariant.noted geometry start before noted)

pub loop-slot-preserved : goal.loop-slot-preserved
loop-slot-preserved g c = record {
  known = c.note_slot-checked.ensures.known;
  from = omega (arith, c.loop-slot.invariant.from);
  noted = λ geometry start before noted.
      let b : List ℕ = c.args.bytes.now in
      let so_far = c.loop-slot.invariant.noted geometry start before noted in
      elim (cases_lt c.loop-slot.slot (length (valid_slots b) + 2)) [
        | inl lt ↦
            let here : min (c.loop-slot.slot - 2) (length (valid_slots b)) ≡ c.loop-slot.slot - 2 = omega (arith, lt) in
            seen_slot (format_of geometry) (g.N.Notes.noted start (format_of geometry).ids c.note_slot-checked.new.notes) before b c.args.place (c.loop-slot.slot - 2) (min (c.loop-slot.slot + 1 - 2) (length (valid_slots b))) c.loop-slot.slot
            (omega (arith, c.loop-slot.invariant.from)) (omega (arith, lt, c.loop-slot.invariant.from))
            (c.note_slot-checked.ensures.noted geometry start (before ++ placed_to (format_of geometry) b c.args.place (c.loop-slot.slot - 2)) lt
            (subst (λ (n : ℕ). g.N.Notes.noted start (format_of geometry).ids c.loop-slot.notes (before ++ placed_to (format_of geometry) b c.args.place n)) here so_far))
        | inr ge ↦
            let same : min (c.loop-slot.slot - 2) (length (valid_slots b)) ≡ min (c.loop-slot.slot + 1 - 2) (length (valid_slots b)) = omega (arith, ge) in
            subst (λ (n : ℕ). g.N.Notes.noted start (format_of geometry).ids c.note_slot-checked.new.notes (before ++ placed_to (format_of geometry) b c.args.place n)) same
            (subst (λ (x : g.row.N.Denot). g.N.Notes.noted start (format_of geometry).ids x (before ++ placed_to (format_of geometry) b c.args.place (min (c.loop-slot.slot - 2) (length (valid_slots b))))) (sym (c.note_slot-checked.ensures.passed ge)) so_far)
      ];
}

pub returns : goal.returns
returns g c = λ geometry start before noted.
    let b : List ℕ = c.args.bytes.now in
    let fits = used_count_fits (is_valid (cycle_of b)) 2 16 b in
    let all : min (c.loop-slot.slot - 2) (length (valid_slots b)) ≡ length (valid_slots b) = omega (arith, fits) in
    subst (λ (n : ℕ). g.N.Notes.noted start (format_of geometry).ids c.loop-slot.notes (before ++ placed_to (format_of geometry) b c.args.place n)) all (c.loop-slot.invariant.noted geometry start before noted)

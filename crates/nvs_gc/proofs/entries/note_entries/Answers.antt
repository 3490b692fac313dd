use Rattle.std.proofs.Common.{◌≡◌, ℕ, ◌+◌, ◌-◌, ◌≤◌, ◌++◌, length, sym, subst, arith}
use Rattle.std.proofs.lemmas.List.{append-nil}
use Rattle.item_store.proofs.OlderSteps.{placed_to}
use Rattle.item_store.proofs.SeenSteps.{seen_slot}
use Rattle.nvs_store.specs.Geometry.{slot_size}
use Rattle.nvs_store.specs.Sector.{used_slots}
use Rattle.nvs_store.proofs.Lookups.{used_inside}
use Rattle.nvs_store.proofs.SlotReads.{slot_size_bounds}
use Rattle.nvs_format.specs.Formats.{format_in}
use Rattle.nvs_gc.proofs.entries.note_entries.Goals as goal

pub loop-slot-init : goal.loop-slot-init
loop-slot-init g c =
    λ start before noted. subst (g.N.Notes.noted start 0xFFFF c.args.notes.now) (sym (append-nil before)) noted

pub note_slot-requires-clause-inside : goal.note_slot-requires-clause-inside
note_slot-requires-clause-inside g c =
    let size = slot_size_bounds c.args.unit c.requires.unit in
    let large : slot_size c.args.unit ≤ length c.args.bytes.now = omega (arith, size, c.requires.long) in
    let used : c.used_count-slot-end.result ≡ length (used_slots c.args.unit c.args.bytes.now) = c.used_count-slot-end.ensures.count in
    let listed : c.loop-slot.slot ≤ length (used_slots c.args.unit c.args.bytes.now) = omega arith in
    used_inside c.args.unit c.args.bytes.now c.loop-slot.slot (omega (arith, size)) large listed

pub loop-slot-preserved : goal.loop-slot-preserved
loop-slot-preserved g c =
    λ start before noted.
    seen_slot (format_in c.args.unit) (g.N.Notes.noted start 0xFFFF c.note_slot.new.notes) before c.args.bytes.now c.args.place (c.loop-slot.slot - 1) (c.loop-slot.slot + 1 - 1) c.loop-slot.slot (omega arith) (omega arith)
    (c.note_slot.ensures start (before ++ placed_to (format_in c.args.unit) c.args.bytes.now c.args.place (c.loop-slot.slot - 1)) (c.loop-slot.invariant start before noted))

pub returns : goal.returns
returns g c =
    let used : c.used_count-slot-end.result ≡ length (used_slots c.args.unit c.args.bytes.now) = c.used_count-slot-end.ensures.count in
    let all : c.loop-slot.slot - 1 ≡ length (used_slots c.args.unit c.args.bytes.now) = omega arith in
    λ start before noted.
    subst (λ (n : ℕ). g.N.Notes.noted start 0xFFFF c.loop-slot.notes (before ++ placed_to (format_in c.args.unit) c.args.bytes.now c.args.place n)) all (c.loop-slot.invariant start before noted)

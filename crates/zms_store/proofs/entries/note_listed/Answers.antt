use Rattle.std.proofs.Common.{◌≡◌, Option, Some, ap, sym, ◌∙◌, arith}
use Rattle.std.specs.Option.{option_map}
use Rattle.item_store.specs.declared.entry.Placed.{Placed}
use Rattle.item_store.specs.SectorFormat.{placed_at}
use Rattle.zms_cycle.specs.declared.reading.SlotEntry.{SlotEntry}
use Rattle.zms_cycle.specs.Sector.{slot_of}
use Rattle.zms_cycle.proofs.CopyCalls.{ordinary_id}
use Rattle.zms_format.specs.Formats.{entry_of, format_of}
use Rattle.item_store.proofs.SeenSteps.{seen_some, seen_same}
use Rattle.zms_store.proofs.entries.note_listed.Goals as goal

pub returns-in-Some : goal.returns-in-Some
returns-in-Some g c = λ geometry start before noted.
    let same : c.placed.result.id ≡ c.in-Some.found.entry.id = ap (λ (p : Placed). p.id) c.placed.ensures.placed in
    let below = ordinary_id (slot_of c.args.bytes.now c.args.slot) c.in-Some.found.entry c.in-Some.found.slot (let wide = c.placed.ensures.wide in omega arith) (sym c.listed_entry.ensures ∙ c.in-Some.is) in
    seen_some (g.N.Notes.noted start 0xFFFFFFFF c.note.new.self) before c.placed.result (option_map (placed_at c.args.place) ((format_of geometry).in_slot c.args.bytes.now c.args.slot))
    (sym (ap (λ (o : Option SlotEntry). option_map (placed_at c.args.place) (option_map entry_of o)) (sym c.listed_entry.ensures ∙ c.in-Some.is) ∙ ap (λ (p : Placed). Some p) (sym c.placed.ensures.placed)))
    (c.note.ensures start 0xFFFFFFFF before (omega arith) noted)

pub returns-in-None : goal.returns-in-None
returns-in-None g c = λ geometry start before noted.
    seen_same (g.N.Notes.noted start 0xFFFFFFFF c.args.notes.now) before (option_map (placed_at c.args.place) ((format_of geometry).in_slot c.args.bytes.now c.args.slot))
    (sym (ap (λ (o : Option SlotEntry). option_map (placed_at c.args.place) (option_map entry_of o)) (sym c.listed_entry.ensures ∙ c.in-None.is)))
    noted

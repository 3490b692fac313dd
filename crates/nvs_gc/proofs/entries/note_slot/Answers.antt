use Rattle.std.proofs.Common.{◌≡◌, ℕ, ◌+◌, ◌<◌, List, length, Option, Some, None, refl, sym, ap, ◌∙◌, arith}
use Rattle.std.specs.Option.{option_map}
use Rattle.item_store.specs.declared.entry.Placed.{Placed}
use Rattle.item_store.specs.SectorFormat.{placed_at}
use Rattle.item_store.proofs.SeenSteps.{seen_some, seen_same}
use Rattle.nvs_store.specs.declared.scan.SlotEntry.{SlotEntry}
use Rattle.nvs_store.specs.declared.scan.Found.{Found}
use Rattle.nvs_store.specs.Sector.{slot_at, counting_entry}
use Rattle.nvs_store.proofs.InArea.{slot-in}
use Rattle.nvs_format.specs.Formats.{entry_of, placed_of, format_in}
use Rattle.nvs_gc.proofs.entries.note_slot.Goals as goal

pub returns-then-is_moot : goal.returns-then-is_moot
returns-then-is_moot g c = λ start before noted. c.is_moot.ensures c.args.place start before c.if-is_moot.true noted

pub returns-in-Some : goal.returns-in-Some
returns-in-Some g c =
    let unit : ℕ = c.args.unit in
    let b : List ℕ = c.args.bytes.now in
    let read : Some c.in-Some.found ≡ counting_entry unit (slot_at unit b c.args.slot) = sym c.in-Some.is ∙ c.counting_entry.ensures in
    let other = (slot-in unit b c.args.slot (c.args.place + 1) (length b) c.args.place c.in-Some.found read refl (omega arith)).ordinary in
    let same : c.placed.result.id ≡ c.in-Some.found.entry.id = ap (λ (p : Placed). p.id) c.placed.ensures.value ∙ ap (λ (f : Found). f.entry.id) c.at.ensures in
    let small : c.placed.result.id < 0xFFFF = omega (arith, same, other, c.placed.ensures.small) in
    let is : Some c.placed.result ≡ option_map (placed_at c.args.place) ((format_in unit).in_slot b c.args.slot) =
    ap (λ (p : Placed). Some p) (c.placed.ensures.value ∙ ap placed_of c.at.ensures) ∙ ap (λ (o : Option SlotEntry). option_map (placed_at c.args.place) (option_map entry_of o)) read in
    λ start before noted.
    seen_some (g.N.Notes.noted start 0xFFFF c.note.new.self) before c.placed.result (option_map (placed_at c.args.place) ((format_in unit).in_slot b c.args.slot)) is
    (c.note.ensures start 0xFFFF before small noted)

pub returns-in-None : goal.returns-in-None
returns-in-None g c =
    let unit : ℕ = c.args.unit in
    let b : List ℕ = c.args.bytes.now in
    let is : None ≡ option_map (placed_at c.args.place) ((format_in unit).in_slot b c.args.slot) =
    ap (λ (o : Option SlotEntry). option_map (placed_at c.args.place) (option_map entry_of o)) (sym c.in-None.is ∙ c.counting_entry.ensures) in
    λ start before noted. seen_same (g.N.Notes.noted start 0xFFFF c.args.notes.now) before (option_map (placed_at c.args.place) ((format_in unit).in_slot b c.args.slot)) is noted

use Rattle.std.proofs.Common.{Some, sym, ap, ◌∙◌, arith}
use Rattle.std.specs.Option.{option_map}
use Rattle.item_store.specs.declared.entry.Placed.{Placed}
use Rattle.item_store.specs.SectorFormat.{placed_at}
use Rattle.nvs_format.specs.Formats.{placed_of}
use Rattle.nvs_format.proofs.FindLemmas.{last_same, none-large}
use Rattle.nvs_gc.proofs.entries.last_of.Goals as goal

pub returns-then-id-gt65535 : goal.returns-then-id-gt65535
returns-then-id-gt65535 c =
    ap (option_map (placed_at c.args.place)) (sym (none-large c.args.unit c.args.bytes.now c.requires.unit (λ k. omega (arith, c.type_inv.bytes k)) c.args.place c.args.id (omega (arith, c.if-id-gt65535.true))))

pub returns-in-Some : goal.returns-in-Some
returns-in-Some c =
    ap (λ (p : Placed). Some p) c.placed.ensures.value
    ∙ ap (option_map placed_of) (sym c.in-Some.is ∙ c.find_in.ensures)
    ∙ last_same c.args.unit c.args.bytes.now c.args.place c.args.id 32768 (omega (arith, c.requires.short))

pub returns-in-None : goal.returns-in-None
returns-in-None c =
    ap (option_map placed_of) (sym c.in-None.is ∙ c.find_in.ensures)
    ∙ last_same c.args.unit c.args.bytes.now c.args.place c.args.id 32768 (omega (arith, c.requires.short))

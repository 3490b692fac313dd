use Rattle.std.proofs.Common.{sym, ap, ◌∙◌, ◌&&◌, Bool, eqb, Some, None, eq-eqb}
use Rattle.std.proofs.lemmas.Bool.{and_left, ne_eqb}
use Rattle.nvs_store.specs.Sector.{slot_at}
use Rattle.nvs_store.proofs.EntryBytes.{is_gc_done-is}
use Rattle.nvs_store.proofs.slots.is_gc_done.Goals as goal

pub returns-then-entry : goal.returns-then-entry
returns-then-entry c =
    let e = c.in-Some.entry in
    sym (is_gc_done-is (slot_at c.args.unit c.args.bytes.now c.args.index) (Some e) (sym c.in-Some.ensures)
    ∙ ap (λ (b : Bool). b && eqb e.len 0) (eq-eqb e.id 65535 c.if-entry.true))

pub returns-else-entry : goal.returns-else-entry
returns-else-entry c =
    let e = c.in-Some.entry in
    let other = ne_eqb e.id 65535 c.if-entry.false in
    other ∙ sym (is_gc_done-is (slot_at c.args.unit c.args.bytes.now c.args.index) (Some e) (sym c.in-Some.ensures) ∙ and_left _ _ other)

pub returns-in-None : goal.returns-in-None
returns-in-None c = sym (is_gc_done-is (slot_at c.args.unit c.args.bytes.now c.args.index) None (sym c.in-None.ensures))

use Rattle.std.proofs.Common.{ℕ, sym, ap, ◌∙◌, true, false}
use Rattle.nvs_store.specs.Sector.{slot_at, counts}
use Rattle.nvs_store.proofs.Lookups.{counting_entry-some, counting_entry-none}
use Rattle.nvs_store.proofs.slots.counting_entry.Goals as goal

pub returns-in-Some : goal.returns-in-Some
returns-in-Some c =
    sym (counting_entry-some c.args.unit c.args.bytes.now c.args.index c.in-Some.entry true (sym c.in-Some.ensures)
    (ap (λ (x : ℕ). counts c.args.unit x c.in-Some.entry) (sym c.slot_start.ensures) ∙ sym c.counts.ensures ∙ c.if-counts.true))

pub returns-in_default : goal.returns-in_default
returns-in_default c =
    sym (counting_entry-some c.args.unit c.args.bytes.now c.args.index c.in-Some.entry false (sym c.in-Some.ensures)
    (ap (λ (x : ℕ). counts c.args.unit x c.in-Some.entry) (sym c.slot_start.ensures) ∙ sym c.counts.ensures ∙ c.if-counts.false))

pub returns-in_default-2 : goal.returns-in_default-2
returns-in_default-2 c = sym (counting_entry-none c.args.unit (slot_at c.args.unit c.args.bytes.now c.args.index) (sym (sym c.in_default.is ∙ c.entry_in.ensures)))

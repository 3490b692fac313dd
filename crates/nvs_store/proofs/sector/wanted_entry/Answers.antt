use Rattle.std.proofs.Common.{◌≡◌, ℕ, List, true, false, sym, ap, ◌∙◌}
use Rattle.nvs_store.specs.Entries.{entry_of}
use Rattle.nvs_store.specs.Sector.{slot_at, is_wanted}
use Rattle.nvs_store.proofs.WantedSlots.{named_read}
use Rattle.nvs_store.proofs.sector.wanted_entry.Goals as goal

pub returns-then-names : goal.returns-then-names
returns-then-names c =
    let named : is_wanted c.args.wanted (entry_of (slot_at c.args.unit c.args.bytes.now c.args.index).bytes) ≡ true =
    ap (λ (xs : List ℕ). is_wanted c.args.wanted (entry_of xs)) (sym c.slot_of.ensures.bytes) ∙ sym c.names.ensures ∙ c.if-names.true in
    c.counting_entry.ensures ∙ named_read c.args.unit (slot_at c.args.unit c.args.bytes.now c.args.index) c.args.wanted true named

pub returns-else-names : goal.returns-else-names
returns-else-names c =
    let named : is_wanted c.args.wanted (entry_of (slot_at c.args.unit c.args.bytes.now c.args.index).bytes) ≡ false =
    ap (λ (xs : List ℕ). is_wanted c.args.wanted (entry_of xs)) (sym c.slot_of.ensures.bytes) ∙ sym c.names.ensures ∙ c.if-names.false in
    named_read c.args.unit (slot_at c.args.unit c.args.bytes.now c.args.index) c.args.wanted false named

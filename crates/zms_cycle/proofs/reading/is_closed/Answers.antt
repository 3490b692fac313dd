use Rattle.std.proofs.Common.{ℕ, List, ap, sym, ◌∙◌}
use Rattle.zms_cycle.specs.Entries.{entry_of, is_close}
use Rattle.zms_cycle.specs.Sector.{slot_of, is_valid_under}
use Rattle.zms_cycle.proofs.SlotSearch.{close_none, close_read}
use Rattle.zms_cycle.proofs.reading.is_closed.Goals as goal

pub returns-then-not-is_close : goal.returns-then-not-is_close
returns-then-not-is_close c =
    let slot = slot_of c.args.sector.now 1 in
    close_none slot (is_valid_under c.args.cycle slot) (sym (ap (λ (xs : List ℕ). is_close (entry_of xs)) c.slot_of.ensures.bytes) ∙ sym c.is_close.ensures ∙ c.if-not-is_close.true)

pub returns : goal.returns
returns c =
    let slot = slot_of c.args.sector.now 1 in
    c.is_valid.ensures ∙ close_read c.args.cycle slot (sym (ap (λ (xs : List ℕ). is_close (entry_of xs)) c.slot_of.ensures.bytes) ∙ sym c.is_close.ensures ∙ c.if-not-is_close.false)

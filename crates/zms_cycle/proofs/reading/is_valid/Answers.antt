use Rattle.std.proofs.Common.{ℕ, List, ap, sym, drop, ◌∙◌}
use Rattle.std.specs.Prelude.{slice_index}
use Rattle.crc8_entry.specs.Crc.{crc}
use Rattle.zms_cycle.specs.Sector.{slot_of}
use Rattle.zms_cycle.proofs.SlotSearch.{other_cycle, valid_checked, take_drop_all}
use Rattle.zms_cycle.proofs.reading.is_valid.Goals as goal

pub returns-then-fields-cycle : goal.returns-then-fields-cycle
returns-then-fields-cycle c =
    sym (other_cycle c.args.cycle (slot_of c.args.sector.now c.args.slot) (λ e. c.if-fields-cycle.true (ap (λ (xs : List ℕ). slice_index xs 1) c.slot_of-fields.ensures.bytes ∙ e)))

pub returns : goal.returns
returns c =
    let same = c.slot_of-fields.ensures.bytes in
    let rest = take_drop_all c.slot_of-fields.result.now in
    valid_checked c.args.cycle (slot_of c.args.sector.now c.args.slot) c.checks.result (sym (ap (λ (xs : List ℕ). slice_index xs 1) same) ∙ c.if-fields-cycle.false)
    (λ is. sym (ap (λ (xs : List ℕ). crc 255 (drop 1 xs)) same) ∙ sym (ap (crc 255) rest) ∙ c.checks.ensures.0 is ∙ ap (λ (xs : List ℕ). slice_index xs 0) same)
    (λ is. c.checks.ensures.1 (ap (crc 255) rest ∙ ap (λ (xs : List ℕ). crc 255 (drop 1 xs)) same ∙ is ∙ sym (ap (λ (xs : List ℕ). slice_index xs 0) same)))

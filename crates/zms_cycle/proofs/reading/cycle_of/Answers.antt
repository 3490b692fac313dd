use Rattle.std.proofs.Common.{ℕ, Bool, drop, cond, List, Some, None, ap, sym, ◌∙◌}
use Rattle.std.specs.Prelude.{slice_index}
use Rattle.crc8_entry.specs.Crc.{crc}
use Rattle.zms_cycle.specs.Entries.{entry_of, is_empty}
use Rattle.zms_cycle.specs.Sector.{slot_of}
use Rattle.zms_cycle.proofs.SlotSearch.{checked, cycle_none, cycle_read, take_drop_all}
use Rattle.zms_cycle.proofs.reading.cycle_of.Goals as goal

pub returns-then-not-is_empty : goal.returns-then-not-is_empty
returns-then-not-is_empty c =
    let same = c.slot_of-fields.ensures.bytes in
    sym (cycle_none c.args.sector.now (sym (ap (λ (xs : List ℕ). is_empty (entry_of xs)) same) ∙ sym c.is_empty.ensures ∙ c.if-not-is_empty.true))

pub returns-then-not-checks : goal.returns-then-not-checks
returns-then-not-checks c =
    let b : List ℕ = c.args.sector.now in
    let e = entry_of (slot_of b 0).bytes in
    let same = c.slot_of-fields.ensures.bytes in
    let rest = take_drop_all c.slot_of-fields.result.now in
    let read =
    checked (slot_of b 0).bytes c.checks.result
    (λ is. sym (ap (λ (xs : List ℕ). crc 255 (drop 1 xs)) same) ∙ sym (ap (crc 255) rest) ∙ c.checks.ensures.0 is ∙ ap (λ (xs : List ℕ). slice_index xs 0) same)
    (λ is. c.checks.ensures.1 (ap (crc 255) rest ∙ ap (λ (xs : List ℕ). crc 255 (drop 1 xs)) same ∙ is ∙ sym (ap (λ (xs : List ℕ). slice_index xs 0) same))) in
    let empty = sym (ap (λ (xs : List ℕ). is_empty (entry_of xs)) same) ∙ sym c.is_empty.ensures ∙ c.if-not-is_empty.false in
    sym (cycle_read b c.checks.result empty read ∙ ap (λ (t : Bool). cond t (Some e.cycle) None) c.if-not-checks.true)

pub returns : goal.returns
returns c =
    let b : List ℕ = c.args.sector.now in
    let e = entry_of (slot_of b 0).bytes in
    let same = c.slot_of-fields.ensures.bytes in
    let rest = take_drop_all c.slot_of-fields.result.now in
    let read =
    checked (slot_of b 0).bytes c.checks.result
    (λ is. sym (ap (λ (xs : List ℕ). crc 255 (drop 1 xs)) same) ∙ sym (ap (crc 255) rest) ∙ c.checks.ensures.0 is ∙ ap (λ (xs : List ℕ). slice_index xs 0) same)
    (λ is. c.checks.ensures.1 (ap (crc 255) rest ∙ ap (λ (xs : List ℕ). crc 255 (drop 1 xs)) same ∙ is ∙ sym (ap (λ (xs : List ℕ). slice_index xs 0) same))) in
    let empty = sym (ap (λ (xs : List ℕ). is_empty (entry_of xs)) same) ∙ sym c.is_empty.ensures ∙ c.if-not-is_empty.false in
    ap (λ (xs : List ℕ). Some (slice_index xs 1)) same ∙ sym (cycle_read b c.checks.result empty read ∙ ap (λ (t : Bool). cond t (Some e.cycle) None) c.if-not-checks.false)

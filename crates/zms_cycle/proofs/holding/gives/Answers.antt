use Rattle.std.proofs.Common.{◌≡◌, ◌≤◌, length, sym, ap, ◌∙◌, arith}
use Rattle.zms_cycle.specs.Entries.{entry_of}
use Rattle.zms_cycle.proofs.HoldingSteps.{short_given, long_cut}
use Rattle.zms_cycle.proofs.holding.gives.Goals as goal

pub returns-then-len-le-TAIL-clause-value : goal.returns-then-len-le-TAIL-clause-value
returns-then-len-le-TAIL-clause-value c = λ same.
    let count : c.from-count.result ≡ (entry_of c.args.fields.now).len = c.from-count.ensures ∙ c.len_in-len.ensures in
    let short : c.from-count.result ≤ 8 = omega (arith, c.from-count.ensures, c.if-len-le-TAIL.true) in
    short_given c.args.sector.now c.args.fields.now c.from-count.result count short ∙ c.is_same.ensures.0 same

pub returns-then-len-le-TAIL-clause-each : goal.returns-then-len-le-TAIL-clause-each
returns-then-len-le-TAIL-clause-each c = λ len is.
    let count : c.from-count.result ≡ (entry_of c.args.fields.now).len = c.from-count.ensures ∙ c.len_in-len.ensures in
    let short : c.from-count.result ≤ 8 = omega (arith, c.from-count.ensures, c.if-len-le-TAIL.true) in
    c.is_same.ensures.1 (sym (short_given c.args.sector.now c.args.fields.now c.from-count.result count short) ∙ is)

pub returns-then-count-saturating_sub-clause-each : goal.returns-then-count-saturating_sub-clause-each
returns-then-count-saturating_sub-clause-each c = λ len is.
    let count : c.from-count.result ≡ (entry_of c.args.fields.now).len = c.from-count.ensures ∙ c.len_in-len.ensures in
    absurd (long_cut c.args.sector.now (entry_of c.args.fields.now) (length c.args.bytes.now) (omega (arith, count, c.from-count.ensures, c.if-len-le-TAIL.false)) (omega (arith, count, c.from-count.ensures, c.if-len-le-TAIL.false, c.if-count-saturating_sub.true, c.saturating_sub.ensures, c.offset_in-offset.ensures)) len (ap length is))

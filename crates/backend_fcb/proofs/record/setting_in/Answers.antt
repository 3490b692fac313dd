use Rattle.std.proofs.Common.{sym, ◌∙◌}
use Rattle.backend_fcb.proofs.BodyOf.{named, unnamed, is_ok}
use Rattle.backend_fcb.proofs.record.setting_in.Goals as goal

pub returns-in_err-parts : goal.returns-in_err-parts
returns-in_err-parts c = rw c.from_residual.ensures (sym c.in_err-parts.ensures)

pub returns-then-is_err : goal.returns-then-is_err
returns-then-is_err c =
    let parts = c.in_ok-parts.parts in
    sym (c.in_ok-parts.ensures ∙ unnamed parts.name.now parts.value.now c.read.result (sym c.is_err.ensures.value ∙ c.if-is_err.true) c.read.ensures.names.1)

pub returns : goal.returns
returns c =
    let parts = c.in_ok-parts.parts in
    sym (c.in_ok-parts.ensures ∙ named parts.name.now parts.value.now (c.read.ensures.names.0 (is_ok c.read.result (sym c.is_err.ensures.value ∙ c.if-is_err.false))))

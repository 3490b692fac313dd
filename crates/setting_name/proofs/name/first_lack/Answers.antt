use Rattle.std.proofs.Common.{◌&&◌, get_or, ne_eqb, ◌∙◌, ap, arith}
use Rattle.setting_name.specs.Name.{is_slash}
use Rattle.setting_name.proofs.Lacks.{began_more, whole_at_end, and_false}
use Rattle.setting_name.proofs.name.first_lack.Goals as goal
use Rattle.setting_name.proofs.name.first_lack.Goals.{else-due-via-then-due+else-ends, else-due-via-else-due}

pub loop-place-preserved : goal.loop-place-preserved
loop-place-preserved c =
    let byte = get_or c.args.text.now c.loop-place.place 0 in
    began_more c.args.text.now c.loop-place.place c.loop-place.due (omega arith) c.loop-place.invariant
    (elim c.else-due.branch [
      | else-due-via-then-due+else-ends w ↦ ap (λ b. c.loop-place.due && b) (ne_eqb byte 47 w.if-ends.false) ∙ and_false c.loop-place.due
      | else-due-via-else-due w ↦ ap (λ b. b && is_slash byte) w.if-due.false
    ])

pub returns-else-due-2 : goal.returns-else-due-2
returns-else-due-2 c =
    whole_at_end c.args.text.now c.loop-place.place c.loop-place.due (omega arith) (omega arith) c.if-due-2.false c.loop-place.invariant

use Rattle.script_lines.proofs.TextLemmas.{lines_more, lines_whole}
use Rattle.log_session.specs.Answer.{record_line}
use Rattle.log_session.proofs.answer.record_lines.Goals as goal

pub loop-body-preserved : goal.loop-body-preserved
loop-body-preserved c = lines_more record_line c.args.bodies.now c.loop-body.body-index c.body-item.result c.loop-body.text.items c.add_record.new.text.items c.loop-body-test.true c.body-item.is c.loop-body.invariant c.in_ok-add_record.ensures

pub returns : goal.returns
returns c = lines_whole record_line c.args.bodies.now c.loop-body.body-index c.loop-body.text.items c.loop-body-test.false c.loop-body.auto.body-index-end c.loop-body.invariant

use Rattle.script_lines.specs.Answer.{give_line}
use Rattle.script_lines.proofs.TextLemmas.{lines_more, lines_whole}
use Rattle.script_lines.proofs.answer.give_lines.Goals as goal

pub loop-give-preserved : goal.loop-give-preserved
loop-give-preserved c = lines_more give_line c.args.gives.now c.loop-give.give-index c.give-item.result c.loop-give.text.items c.add_give.new.text.items c.loop-give-test.true c.give-item.is c.loop-give.invariant c.in_ok-add_give.ensures

pub returns : goal.returns
returns c = lines_whole give_line c.args.gives.now c.loop-give.give-index c.loop-give.text.items c.loop-give-test.false c.loop-give.auto.give-index-end c.loop-give.invariant

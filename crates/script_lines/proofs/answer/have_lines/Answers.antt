use Rattle.script_lines.specs.Answer.{have_line}
use Rattle.script_lines.proofs.TextLemmas.{lines_more, lines_whole}
use Rattle.script_lines.proofs.answer.have_lines.Goals as goal

pub loop-pair-preserved : goal.loop-pair-preserved
loop-pair-preserved c = lines_more have_line c.args.pairs.now c.loop-pair.pair-index c.pair-item.result c.loop-pair.text.items c.add_have.new.text.items c.loop-pair-test.true c.pair-item.is c.loop-pair.invariant c.in_ok-add_have.ensures

pub returns : goal.returns
returns c = lines_whole have_line c.args.pairs.now c.loop-pair.pair-index c.loop-pair.text.items c.loop-pair-test.false c.loop-pair.auto.pair-index-end c.loop-pair.invariant

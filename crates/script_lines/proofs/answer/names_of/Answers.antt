use Rattle.serde_json.specs.View.{members_view}
use Rattle.script_lines.proofs.NameTexts.{names_more, names_whole}
use Rattle.script_lines.proofs.answer.names_of.Goals as goal

pub loop-pair-preserved : goal.loop-pair-preserved
loop-pair-preserved c =
    names_more c.args.pairs.now c.loop-pair.pair-index c.pair-item.result (members_view c.loop-pair.names.entries) (members_view c.put_name.new.names.entries) c.requires c.loop-pair-test.true c.pair-item.is c.loop-pair.invariant c.in_ok-put_name.ensures

pub returns : goal.returns
returns c = names_whole c.args.pairs.now c.loop-pair.pair-index (members_view c.loop-pair.names.entries) c.loop-pair-test.false c.loop-pair.auto.pair-index-end c.loop-pair.invariant

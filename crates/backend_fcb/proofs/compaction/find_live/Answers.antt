use Rattle.std.proofs.Common.{sym, ◌∙◌}
use Rattle.backend_fcb.specs.Compaction.{is_within}
use Rattle.backend_fcb.specs.declared.compaction.Kept.{Kept}
use Rattle.backend_fcb.proofs.CompactionSteps.{both-walks, within-some}
use Rattle.backend_fcb.proofs.compaction.find_live.Goals as goal

pub returns-clause-within : goal.returns-clause-within
returns-clause-within g c = c.strike_from.ensures.some (λ (kept : Kept). is_within c.args.part kept.at) c.find_live_in-next.ensures.within

pub returns-clause-finds_live : goal.returns-clause-finds_live
returns-clause-finds_live g c =
    both-walks (g.F.Flash.device c.args.flash.now) c.args.ring.now.area c.args.part c.args.from c.find_live_in-next.result c.if_within.result c.find_live_in-next.new.table.items c.strike_from.new.table.items c.find_live_in-next.ensures.passes c.strike_from.ensures.strikes
    c.find_live_in-next.ensures.full c.if_within.ensures

pub returns-clause-listed : goal.returns-clause-listed
returns-clause-listed g c q same = c.find_live_in-next.ensures.listed q (within-some c.args.part c.find_live_in-next.result q (sym c.if_within.ensures ∙ same)).0

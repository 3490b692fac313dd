use Rattle.std.proofs.Common.{ℕ, subst}
use Rattle.zms_cycle.specs.Calls.{PutsDone}
use Rattle.zms_cycle.proofs.appending.put_done.Goals as goal

pub opened_sector-opened-requires-clause-zms : goal.opened_sector-opened-requires-clause-zms
opened_sector-opened-requires-clause-zms g c = c.requires.takes.zms

pub returns : goal.returns
returns g c =
    subst (λ (n : ℕ). PutsDone (g.F.Flash.device c.args.flash.now) (g.F.Flash.device c.put_done_at.new.flash) c.args.area.now c.args.sector n c.put_done_at.new.steps c.put_done_at.result)
    c.opened_sector-opened.ensures.step c.put_done_at.ensures

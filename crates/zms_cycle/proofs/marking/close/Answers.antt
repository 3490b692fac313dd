use Rattle.std.proofs.Common.{ℕ, subst}
use Rattle.zms_cycle.specs.Calls.{ClosesSector}
use Rattle.zms_cycle.proofs.marking.close.Goals as goal

pub opened_sector-opened-requires-clause-zms : goal.opened_sector-opened-requires-clause-zms
opened_sector-opened-requires-clause-zms g c = c.requires.takes.zms

pub returns : goal.returns
returns g c =
    subst (λ (n : ℕ). ClosesSector (g.F.Flash.device c.args.flash.now) (g.F.Flash.device c.close_at.new.flash) c.args.area.now c.args.sector n c.close_at.new.steps c.close_at.result)
    c.opened_sector-opened.ensures.step c.close_at.ensures

use Rattle.std.proofs.Common.{ℕ, subst}
use Rattle.zms_cycle.specs.Calls.{CopiesEntry}
use Rattle.zms_cycle.proofs.copying.copy_entry.Goals as goal

pub opened_sector-opened-requires-clause-zms : goal.opened_sector-opened-requires-clause-zms
opened_sector-opened-requires-clause-zms g c = c.requires.takes.zms

pub returns : goal.returns
returns g c =
    subst (λ (n : ℕ). CopiesEntry (g.F.Flash.device c.args.flash.now) (g.F.Flash.device c.copy_entry_at.new.flash) c.args.area.now c.args.sector c.args.from_sector c.args.from_slot n c.copy_entry_at.new.steps c.copy_entry_at.result)
    c.opened_sector-opened.ensures.step c.copy_entry_at.ensures

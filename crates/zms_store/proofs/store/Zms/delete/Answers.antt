use Rattle.zms_store.proofs.DeleteUnits.{delete_spends}
use Rattle.zms_store.proofs.store.Zms.delete.Goals as goal

pub returns-clause-units : goal.returns-clause-units
returns-clause-units g c =
    delete_spends (g.F.Flash.device c.args.flash.now) c.args.self.now (g.met.F.Flash.is_lawful c.args.flash.now) c.requires (g.F.Flash.device c.delete.new.flash) c.args.id c.delete.result c.delete.ensures.ends

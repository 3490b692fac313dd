use Rattle.zms_store.proofs.Numbers.{write_spends}
use Rattle.zms_store.proofs.store.Zms.write.Goals as goal

pub returns-clause-units : goal.returns-clause-units
returns-clause-units g c = write_spends (g.F.Flash.device c.args.flash.now) (g.F.Flash.device c.write.new.flash) c.args.self.now.store.area c.args.id c.args.bytes.now c.write.result c.write.ensures.ends

use Rattle.zms_store.proofs.Numbers.{round_spends}
use Rattle.zms_store.proofs.store.Zms.close_and_collect.Goals as goal

pub returns-clause-at_most : goal.returns-clause-at_most
returns-clause-at_most g c = round_spends (g.F.Flash.device c.args.flash.now) (g.F.Flash.device c.close_and_collect.new.flash) c.args.self.now.store.area c.args.self.now.store.current c.close_and_collect.result c.close_and_collect.ensures.ends

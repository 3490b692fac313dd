use Rattle.zms_store.proofs.Numbers.{mount_spends}
use Rattle.zms_store.proofs.store.Zms.mount.Goals as goal

pub returns-in-Ok-clause-copies : goal.returns-in-Ok-clause-copies
returns-in-Ok-clause-copies g c = mount_spends (g.F.Flash.device c.args.flash.now) (g.F.Flash.device c.mount.new.flash) c.args.area c.mount.result c.mount.ensures.ends

pub returns-in-Err-clause-copies : goal.returns-in-Err-clause-copies
returns-in-Err-clause-copies g c = mount_spends (g.F.Flash.device c.args.flash.now) (g.F.Flash.device c.mount.new.flash) c.args.area c.mount.result c.mount.ensures.ends

use Rattle.std.proofs.Common.{map}
use Rattle.migrator.specs.Copying.{pair_of}
use Rattle.migrator.proofs.Copies.{HasPut}
use Rattle.migrator.proofs.copying.put_all.Given as goal

abbrev pub invariant-loop-setting : goal.invariant-loop-setting
invariant-loop-setting g l = HasPut g.K.Backend.mounted_on g.K.Backend.stands g.K.Backend.contents g.K.Backend.room (g.F.Flash.device l.initial.flash) (g.F.Flash.device l.flash) l.initial.to l.to (map pair_of l.settings) l.setting-index

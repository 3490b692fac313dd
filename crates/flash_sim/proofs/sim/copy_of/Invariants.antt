use Rattle.std.proofs.Common.{◌≡◌, map, take}
use Rattle.flash_sim.specs.Contents.{contents}
use Rattle.flash_sim.proofs.sim.copy_of.Given as goal

abbrev pub invariant-loop-store : goal.invariant-loop-store
invariant-loop-store g l = contents l.copy.items ≡ map g.S.Storage.held (take l.store-index l.all.items)

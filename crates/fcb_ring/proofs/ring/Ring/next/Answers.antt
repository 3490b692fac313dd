use Rattle.fcb_ring.specs.Standing.{entries_on}
use Rattle.fcb_ring.proofs.NextLemmas.{next-any}
use Rattle.fcb_ring.proofs.ring.Ring.next.Goals as goal

pub returns-clause-next : goal.returns-clause-next
returns-clause-next g c = next-any (entries_on (g.F.Flash.device c.args.flash.now) c.args.self.now.area) c.args.after c.next_with.result c.next_with.ensures.next

use Rattle.std.proofs.Common.{sym, ◌∙◌}
use Rattle.fcb_ring.proofs.AppendLemmas.{more-free}
use Rattle.fcb_ring.proofs.ring.Ring.rotate.Goals as goal

pub open_next-requires-clause-fits : goal.open_next-requires-clause-fits
open_next-requires-clause-fits g c = more-free (g.F.Flash.device c.args.flash.now) c.args.self.now c.requires.stands c.requires.ready (sym c.is_scratch_left.ensures ∙ c.if-is_scratch_left.false)

use Rattle.std.proofs.Common.{take}
use Rattle.backend_fcb.proofs.CopySteps.{CopiesTable}
use Rattle.backend_fcb.proofs.collecting.copy_all.Given as goal

abbrev pub invariant-loop-kept : goal.invariant-loop-kept
invariant-loop-kept g l = CopiesTable (g.F.Flash.device l.initial.flash) (g.F.Flash.device l.flash) l.initial.ring l.ring (take l.kept-index l.live)

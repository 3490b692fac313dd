use Rattle.std.proofs.Common.{List, sym, subst}
use Rattle.std.specs.List.{All}
use Rattle.backend_fcb.specs.Compaction.{IsKept}
use Rattle.backend_fcb.specs.declared.compaction.Kept.{Kept}
use Rattle.backend_fcb.proofs.compaction.strike_name.Goals as goal

pub place_of-place-requires-clause-kept : goal.place_of-place-requires-clause-kept
place_of-place-requires-clause-kept g c = subst (λ (l : List Kept). All (IsKept (g.F.Flash.device c.args.flash.now) c.args.ring.now.area) l) (sym c.as_slice.ensures.value) c.requires.kept

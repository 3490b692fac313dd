use Rattle.std.proofs.Common.{◌-◌, length, option_map}
use Rattle.settings_core.proofs.CommitLemmas.{CommittedBelow}
use Rattle.settings_core.proofs.committing.commit.Given as goal

abbrev pub invariant-loop-i : goal.invariant-loop-i
invariant-loop-i g l =
    CommittedBelow (option_map (λ name. name.now) l.subtree) l.i (g.H.PlacedHandlers.placed l.fn.registry) (g.H.PlacedHandlers.placed l.registry)

abbrev pub decreases-loop-i : goal.decreases-loop-i
decreases-loop-i g l = length (g.H.PlacedHandlers.placed l.registry) - l.i

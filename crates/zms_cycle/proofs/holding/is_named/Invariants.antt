use Rattle.std.proofs.Common.{◌≤◌}
use Rattle.zms_cycle.specs.Holding.{EndsSlot, number_below, NoneNamed}
use Rattle.zms_cycle.proofs.holding.is_named.Given as goal

-- the slots so far name other ids
abbrev pub invariant-loop-end : goal.invariant-loop-end
invariant-loop-end l = record {
  inside : EndsSlot l.sector l.end;
  behind : l.from ≤ number_below l.sector l.end;
  none : NoneNamed l.sector l.from (number_below l.sector l.end) l.id;
}

abbrev pub decreases-loop-end : goal.decreases-loop-end
decreases-loop-end l = l.end

use Rattle.std.proofs.Common.{◌≡◌, ℕ, ◌+◌, ◌<◌, ◌≤◌, false}
use Rattle.zms_cycle.specs.Holding.{EndsSlot, number_below}
use Rattle.zms_cycle.specs.Sector.{slot_of}
use Rattle.zms_cycle.specs.Searches.{names}
use Rattle.zms_cycle.proofs.searching.reach_of.Given as goal

-- the slots so far behind the last that names an id of the range name others
abbrev pub invariant-loop-end : goal.invariant-loop-end
invariant-loop-end l = record {
  inside : EndsSlot l.sector l.end;
  within : l.reach + 2 ≤ number_below l.sector l.end;
  others : (k : ℕ) → l.reach + 2 ≤ k → k < number_below l.sector l.end → names l.least l.most (slot_of l.sector k) ≡ false;
}

abbrev pub decreases-loop-end : goal.decreases-loop-end
decreases-loop-end l = l.end

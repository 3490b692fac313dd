use Rattle.std.proofs.Common.{◌≡◌, ℕ, ◌+◌, ◌<◌, ◌≤◌, false}
use Rattle.zms_cycle.specs.Sector.{slot_of}
use Rattle.zms_cycle.specs.Searches.{names}
use Rattle.zms_cycle.proofs.searching.reach_within.Given as goal

-- the slots behind those that are left name others
abbrev pub invariant-loop-reach : goal.invariant-loop-reach
invariant-loop-reach l = record {
  few : l.reach ≤ l.slots;
  others : (k : ℕ) → l.reach + 2 ≤ k → k < l.slots + 2 → names l.least l.most (slot_of l.sector k) ≡ false;
}

abbrev pub decreases-loop-reach : goal.decreases-loop-reach
decreases-loop-reach l = l.reach

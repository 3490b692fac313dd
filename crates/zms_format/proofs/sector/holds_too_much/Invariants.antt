use Rattle.std.proofs.Common.{◌≡◌, ◌-◌, ◌*◌, ◌^◌, ◌≤◌, not}
use Rattle.std.specs.Prelude.{sum_by}
use Rattle.std.specs.List.{list_any}
use Rattle.zms_cycle.specs.Sector.{is_under, entry_cost}
use Rattle.zms_cycle.proofs.Scanning.{entries_to}
use Rattle.zms_format.proofs.sector.holds_too_much.Given as goal

abbrev pub invariant-loop-slot : goal.invariant-loop-slot
invariant-loop-slot l = record {
  over : l.over ≡ list_any (λ f. not (is_under l.limit f)) (entries_to l.sector (l.slot - 2));
  costs : l.costs ≡ sum_by entry_cost (entries_to l.sector (l.slot - 2));
  small : l.costs ≤ (l.slot - 2) * 2 ^ 18;
}

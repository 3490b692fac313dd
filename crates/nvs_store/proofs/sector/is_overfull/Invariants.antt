use Rattle.std.proofs.Common.{◌≡◌, ◌+◌, ◌-◌, ◌*◌, ◌^◌, ◌≤◌, ltb}
use Rattle.std.specs.Prelude.{sum_by}
use Rattle.std.specs.List.{list_any}
use Rattle.nvs_store.specs.Sector.{entry_cost}
use Rattle.nvs_store.proofs.Lookups.{entries_to}
use Rattle.nvs_store.proofs.sector.is_overfull.Given as goal

abbrev pub invariant-loop-index : goal.invariant-loop-index
invariant-loop-index l = record {
  passes : l.passes ≡ list_any (λ f. ltb l.fence (f.entry.offset + f.entry.len)) (entries_to l.unit l.bytes (l.index - 1));
  costs : l.costs ≡ sum_by (entry_cost l.unit) (entries_to l.unit l.bytes (l.index - 1));
  small : l.costs ≤ l.index * 2 ^ 17;
}

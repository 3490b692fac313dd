use Rattle.std.proofs.Common.{◌≡◌, ◌<◌, ltb, arith, rules}
use Rattle.std.specs.Prelude.{length, slice_index_or}
use Rattle.std.proofs.lemmas.List.Sorted.{IsPartitionPoint-from_clause, IsPartitionedBy-ltb}
use Rattle.item_store.specs.declared.entry.Placed.{Placed}
use Rattle.item_store.proofs.TablePlaces.{rises-up, split-there, split-none}
use Rattle.item_store.proofs.latest.search.Goals as goal
use Rattle.item_store.proofs.latest.search.Goals.{else-at-entries-via-then-at-entries+else-entries-at, else-at-entries-via-else-at-entries}

abbrev nothing : Placed
nothing = record { sector = 0; slot = 0; id = 0; len = 0 }

pub returns-then-entries-at-clause-splits : goal.returns-then-entries-at-clause-splits
returns-then-entries-at-clause-splits c =
    λ rises.
    let parted = IsPartitionedBy-ltb (λ (p : Placed). p.id) c.args.entries.now c.args.id (rises-up c.args.entries.now rises) in
    let point = IsPartitionPoint-from_clause (λ (p : Placed). ltb p.id c.args.id) _ _ c.partition_point-at.ensures.partitioned parted (λ a r q k. search rules) in
    split-there c.args.entries.now c.args.id c.partition_point-at.result rises nothing point.0 c.if-at-entries.true c.if-entries-at.true

pub returns-else-at-entries-clause-splits : goal.returns-else-at-entries-clause-splits
returns-else-at-entries-clause-splits c =
    λ rises.
    let parted = IsPartitionedBy-ltb (λ (p : Placed). p.id) c.args.entries.now c.args.id (rises-up c.args.entries.now rises) in
    let point = IsPartitionPoint-from_clause (λ (p : Placed). ltb p.id c.args.id) _ _ c.partition_point-at.ensures.partitioned parted (λ a r q k. search rules) in
    let apart : c.partition_point-at.result < length c.args.entries.now → (slice_index_or c.args.entries.now c.partition_point-at.result nothing).id ≡ c.args.id → ⊥ =
    λ within is. elim c.else-at-entries.branch [
      | else-at-entries-via-then-at-entries+else-entries-at w ↦ w.if-entries-at.false is
      | else-at-entries-via-else-at-entries w ↦ absurd (omega (arith, w.if-at-entries.false))
    ] in
    split-none c.args.entries.now c.args.id c.partition_point-at.result rises nothing point.0 point.1 apart

use Rattle.std.proofs.Common.{ℕ, ◌/◌, length, ap}
use Rattle.nvs_store.proofs.Lookups.{fence_test}
use Rattle.nvs_store.proofs.sector.has_fence.Goals as goal

pub returns : goal.returns
returns c =
    fence_test c.args.unit c.args.bytes.now c.used_count.result (length c.args.bytes.now / c.slot_size.result) c.used_count.ensures.count (ap (λ (size : ℕ). length c.args.bytes.now / size) c.slot_size.ensures.size)

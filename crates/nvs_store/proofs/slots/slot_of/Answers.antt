use Rattle.std.proofs.Common.{ℕ, List, slice_range, ap, ◌+◌, ◌∙◌}
use Rattle.item_laws.proofs.SlotLemmas.{bytes-slot_at}
use Rattle.nvs_store.specs.Geometry.{slot_size}
use Rattle.nvs_store.proofs.slots.slot_of.Goals as goal

pub returns-clause-bytes : goal.returns-clause-bytes
returns-clause-bytes c =
    let b : List ℕ = c.args.bytes.now in
    ap (λ (size : ℕ). slice_range b c.slot_start-start.result (c.slot_start-start.result + size)) c.slot_size-size.ensures.size
    ∙ bytes-slot_at (slot_size c.args.unit) b c.args.index c.slot_start-start.result c.slot_start-start.ensures

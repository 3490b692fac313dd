use Rattle.std.proofs.Common.{◌≡◌, ℕ, ◌+◌, ◌-◌, ◌*◌, length, ap, ◌∙◌, arith}
use Rattle.nvs_store.specs.Geometry.{slot_size}
use Rattle.nvs_format.proofs.FindLemmas.{named, named_from}
use Rattle.nvs_gc.proofs.entries.named_id.Goals as goal

pub returns-clause-named : goal.returns-clause-named
returns-clause-named c =
    let times : (c.args.slot + 1) * c.slot_size-size.result ≡ (c.args.slot + 1) * slot_size c.args.unit = ap (λ (n : ℕ). (c.args.slot + 1) * n) c.slot_size-size.ensures.size in
    let at : length c.args.bytes.now - (c.args.slot + 1) * c.slot_size-size.result + (c.args.slot + 1) * slot_size c.args.unit ≡ length c.args.bytes.now = omega (arith, times, c.requires.inside) in
    named c.args.unit c.args.bytes.now c.args.slot c.id_at.result
    (c.id_at.ensures.value ∙ named_from c.args.unit c.args.bytes.now c.args.slot (length c.args.bytes.now - (c.args.slot + 1) * c.slot_size-size.result) c.requires.unit at)

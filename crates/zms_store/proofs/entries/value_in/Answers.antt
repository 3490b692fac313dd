use Rattle.std.proofs.Common.{◌≡◌, ◌+◌, ◌-◌, ◌*◌, ℕ, List, length, sym, ap, ◌∙◌, arith}
use Rattle.std.specs.Prelude.{slice_range}
use Rattle.zms_cycle.proofs.EntryReads.{short_there}
use Rattle.zms_store.proofs.entries.value_in.Goals as goal

pub returns : goal.returns
returns c =
    let b : List ℕ = c.args.bytes.now in
    let start : ℕ = length c.args.bytes.now - (c.args.found.now.slot + 1) * 16 + 8 in
    let count : c.from-len.result ≡ c.args.found.now.entry.len = c.from-len.ensures in
    ap (λ (n : ℕ). slice_range b start (start + n)) count
    ∙ sym (short_there c.args.bytes.now c.args.found.now.slot c.args.found.now c.requires.inside c.requires.there (omega (arith, c.if-found-gt-TAIL.false)))

use Rattle.std.proofs.Common.{ap, ◌∙◌}
use Rattle.item_store.specs.Seen.{has_bit}
use Rattle.item_store.proofs.seen.Seen.has.Goals as goal

pub returns : goal.returns
returns c =
    c.has_bit.ensures ∙ ap (has_bit c.args.self.now.bits) c.key_of.ensures.key

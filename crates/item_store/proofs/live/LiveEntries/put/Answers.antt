use Rattle.std.proofs.Common.{Bool, ◌||◌, sym, ap, ◌∙◌}
use Rattle.item_store.specs.Seen.{has_bit}
use Rattle.item_store.proofs.SeenSteps.{or-true, or-false}
use Rattle.item_store.proofs.live.LiveEntries.put.Goals as goal

pub returns-then-live-clause-put : goal.returns-then-live-clause-put
returns-then-live-clause-put c =
    c.set_bit.ensures.set ∙ sym (ap (λ (t : Bool). has_bit c.args.self.now.bits c.args.index || t) c.if-live.true ∙ or-true (has_bit c.args.self.now.bits c.args.index))

pub returns-else-live-clause-put : goal.returns-else-live-clause-put
returns-else-live-clause-put c =
    sym (ap (λ (t : Bool). has_bit c.args.self.now.bits c.args.index || t) c.if-live.false ∙ or-false (has_bit c.args.self.now.bits c.args.index))

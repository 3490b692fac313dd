use Rattle.std.proofs.Common.{Option, sym, ap, ◌∙◌}
use Rattle.std.specs.Prelude.{is_some}
use Rattle.std.proofs.lemmas.Bool.{false≢true}
use Rattle.item_store.specs.declared.entry.Placed.{Placed}
use Rattle.item_store.proofs.IndexSteps.{table-some}
use Rattle.item_store.proofs.latest.LastSlots.has.Goals as goal

pub returns-then-not-knows_of : goal.returns-then-not-knows_of
returns-then-not-knows_of c =
    λ limit later knows yes_it. absurd (false≢true yes_it)

pub returns : goal.returns
returns c =
    λ limit later knows yes_it.
    table-some limit c.args.self.now c.args.id later knows (c.knows_of.ensures.yes_it c.if-not-knows_of.false)
    (sym (ap (λ (o : Option Placed). is_some o) (c.entry_of.ensures knows.below.rises)) ∙ (sym c.is_some.ensures ∙ yes_it))

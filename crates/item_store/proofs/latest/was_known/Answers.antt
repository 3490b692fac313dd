use Rattle.std.proofs.Common.{sym, ◌∙◌}
use Rattle.std.proofs.lemmas.Bool.{false≢true}
use Rattle.item_store.proofs.IndexSteps.{seen-short, seen-exact}
use Rattle.item_store.proofs.latest.was_known.Goals as goal

pub returns-then-not-has : goal.returns-then-not-has
returns-then-not-has g c =
    λ geometry later short covers yes_it. absurd (false≢true yes_it)

pub returns-then-has_short_ids : goal.returns-then-has_short_ids
returns-then-has_short_ids g c =
    λ geometry later short covers yes_it.
    let few = c.has_short_ids.ensures.short geometry c.if-has_short_ids.true in
    seen-short (g.T.SlotSectors.format_of geometry).ids c.args.id c.args.seen.now later covers.ids few (short few) (sym c.has.ensures ∙ c.if-not-has.false)

pub returns-then-is_exact : goal.returns-then-is_exact
returns-then-is_exact g c =
    λ geometry later short covers yes_it.
    seen-exact (g.T.SlotSectors.format_of geometry).ids c.args.id c.args.seen.now later covers.ids (c.is_exact.ensures c.if-is_exact.true) (sym c.has.ensures ∙ c.if-not-has.false)

pub returns : goal.returns
returns g c =
    λ geometry later short covers yes_it. c.has-2.ensures (g.T.SlotSectors.format_of geometry).ids later covers.covered yes_it

use Rattle.std.proofs.Common.{sym, ◌∙◌}
use Rattle.settings_core.proofs.OfferLemmas.{takes, rejects, wants}
use Rattle.settings_core.proofs.runtime.runtime_set.Goals as goal

pub returns-in-Ok-true : goal.returns-in-Ok-true
returns-in-Ok-true g c =
    takes _ _ c.args.name.now c.args.value.now c.rest_of-rest.result.now c.subtree_at-subtree.result c.in-Some.place c.in-Ok-true.field-0
    (sym c.best.ensures ∙ c.in-Some.is) c.subtree_at-subtree.ensures c.rest_of-rest.ensures c.in-Ok-true.ensures c.in-Ok-true.field-0-test

pub returns-in-Ok-false : goal.returns-in-Ok-false
returns-in-Ok-false g c =
    rejects _ _ c.args.name.now c.args.value.now c.rest_of-rest.result.now c.subtree_at-subtree.result c.in-Some.place c.in-Ok-false.field-0
    (sym c.best.ensures ∙ c.in-Some.is) c.subtree_at-subtree.ensures c.rest_of-rest.ensures c.in-Ok-false.ensures c.in-Ok-false.field-0-test

pub returns-in-Err : goal.returns-in-Err
returns-in-Err g c =
    wants _ _ c.args.name.now c.args.value.now c.rest_of-rest.result.now c.subtree_at-subtree.result c.in-Some.place
    (sym c.best.ensures ∙ c.in-Some.is) c.subtree_at-subtree.ensures c.rest_of-rest.ensures c.in-Err.ensures

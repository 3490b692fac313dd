use Rattle.std.proofs.Common.{[], ◌∷◌, refl, ap, sym, ◌∙◌, inr}
use Rattle.handlers.specs.Registry.{registered}
use Rattle.settings_core.specs.Reported.{reported_more}
use Rattle.settings_core.proofs.OfferLemmas.{best_within, delivers, delivery-best, delivery-none, offer_lacks}
use Rattle.settings_core.proofs.offering.offer.Goals as goal

pub returns-in-Ok : goal.returns-in-Ok
returns-in-Ok g c =
    delivers _ _ _ _ c.args.name.now c.args.value.now c.rest_of-rest.result.now c.subtree_at-subtree.result c.in-Some.place c.in_ok-taken.taken _
    (sym c.best.ensures ∙ c.in-Some.is) c.subtree_at-subtree.ensures c.rest_of-rest.ensures c.in_ok-taken.ensures
    (c.in-Ok.ensures.ok ∙ ap (λ v. reported_more (g.R.Report.gives c.args.report.now) (record { subtree = c.subtree_at-subtree.result; rest = c.rest_of-rest.result.now; value = v; taken = c.in_ok-taken.taken } ∷ [])) c.of.ensures) c.if-taken.true

pub returns-in-Ok-2 : goal.returns-in-Ok-2
returns-in-Ok-2 g c =
    delivers _ _ _ _ c.args.name.now c.args.value.now c.rest_of-rest.result.now c.subtree_at-subtree.result c.in-Some.place c.in_ok-taken.taken _
    (sym c.best.ensures ∙ c.in-Some.is) c.subtree_at-subtree.ensures c.rest_of-rest.ensures c.in_ok-taken.ensures
    (c.in-Ok-2.ensures.ok ∙ ap (λ v. reported_more (g.R.Report.gives c.args.report.now) (record { subtree = c.subtree_at-subtree.result; rest = c.rest_of-rest.result.now; value = v; taken = c.in_ok-taken.taken } ∷ [])) c.of.ensures) c.if-taken.false

pub returns-in-Err : goal.returns-in-Err
returns-in-Err g c = (
  c.in-Err.ensures.err,
  inr (
    record { place = c.in-Some.place; rest = c.rest_of-rest.result.now; value = c.args.value.now },
    delivery-best _ c.args.name.now c.args.value.now c.rest_of-rest.result.now c.subtree_at-subtree.result c.in-Some.place (sym c.best.ensures ∙ c.in-Some.is) c.subtree_at-subtree.ensures c.rest_of-rest.ensures,
    c.in_ok-taken.ensures.1,
  ),
)

pub returns-in_default : goal.returns-in_default
returns-in_default g c =
    (delivery-none (registered (λ b. (goal.Handler-dyn g (b.vtable, b.value)).state b.value) c.args.registry.now) c.args.name.now c.args.value.now (sym c.best.ensures ∙ c.in_default.is), refl, refl)

pub subtree_at-subtree-requires : goal.subtree_at-subtree-requires
subtree_at-subtree-requires g c =
    best_within (registered (λ b. (goal.Handler-dyn g (b.vtable, b.value)).state b.value) c.args.registry.now) c.args.name.now c.in-Some.place (sym c.best.ensures ∙ c.in-Some.is)

pub deliver_at-requires : goal.deliver_at-requires
deliver_at-requires g c =
    best_within (registered (λ b. (goal.Handler-dyn g (b.vtable, b.value)).state b.value) c.args.registry.now) c.args.name.now c.in-Some.place (sym c.best.ensures ∙ c.in-Some.is)

pub returns-in_err-taken : goal.returns-in_err-taken
returns-in_err-taken g c =
    let given = g.R.Report.gives c.args.report.now in
    offer_lacks (registered (λ b. (goal.Handler-dyn g (b.vtable, b.value)).state b.value) c.args.registry.now) _ given given (c.args.name.now, c.args.value.now) c.from_residual.result c.from_residual.ensures.0 c.in_err-taken.ensures.1 refl

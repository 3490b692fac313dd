use Rattle.std.proofs.Common.{arith, ◌≡◌, ◌+◌, ◌^◌, ◌<◌, ◌∷◌, [], ap, refl, sym, ◌∙◌}
use Rattle.settings_core.specs.Reported.{reported_more}
use Rattle.settings_core.proofs.ListedLemmas.{listed, next_listed, none_listed}
use Rattle.settings_core.proofs.DirectLemmas.{all_reported, beside_reported, next_reported, none_reported, room_reported, some_reported}
use Rattle.settings_core.proofs.direct.give_all.Goals as goal

pub loop-name-init : goal.loop-name-init
loop-name-init g c = none_reported _ _ _ _ (ap listed c.into_iter-name-iterator.ensures.into_iter_gives.0)

pub loop-name-preserved-then-not-is_under : goal.loop-name-preserved-then-not-is_under
loop-name-preserved-then-not-is_under g c =
    let step : listed c.loop-name.name-iterator ≡ (c.in-Some.name.now, c.in-Some.value.now.now) ∷ listed c.next.new.self = next_listed c.loop-name.name-iterator c.next.new.self c.next.result (c.in-Some.name, c.in-Some.value) c.in-Some.is c.next.ensures.steps in
    beside_reported _ _ _ _ _ _ _ _ step (sym c.is_under.ensures ∙ c.if-not-is_under.true) c.loop-name.invariant

pub overflow_add-count : goal.overflow_add-count
overflow_add-count g c =
    let step : listed c.loop-name.name-iterator ≡ (c.in-Some.name.now, c.in-Some.value.now.now) ∷ listed c.next.new.self = next_listed c.loop-name.name-iterator c.next.new.self c.next.result (c.in-Some.name, c.in-Some.value) c.in-Some.is c.next.ensures.steps in
    let room : c.loop-name.count + 1 < 2 ^ 32 = room_reported _ _ _ _ _ _ _ _ step c.requires.few c.loop-name.invariant in
    omega (arith, room)

pub loop-name-preserved : goal.loop-name-preserved
loop-name-preserved g c =
    let given : g.E.Each.had c.have.new.self ≡ reported_more (g.E.Each.had c.loop-name.each) ((c.in-Some.name.now, c.in-Some.value.now.now) ∷ []) = c.in-Ok.ensures.ok ∙ ap (λ value. reported_more (g.E.Each.had c.loop-name.each) ((c.in-Some.name.now, value) ∷ [])) c.of.ensures in
    let step : listed c.loop-name.name-iterator ≡ (c.in-Some.name.now, c.in-Some.value.now.now) ∷ listed c.next.new.self = next_listed c.loop-name.name-iterator c.next.new.self c.next.result (c.in-Some.name, c.in-Some.value) c.in-Some.is c.next.ensures.steps in
    next_reported _ _ _ _ _ _ _ _ step _ (sym c.is_under.ensures ∙ c.if-not-is_under.false) given c.loop-name.invariant

pub returns-in-Err : goal.returns-in-Err
returns-in-Err g c =
    let step : listed c.loop-name.name-iterator ≡ (c.in-Some.name.now, c.in-Some.value.now.now) ∷ listed c.next.new.self = next_listed c.loop-name.name-iterator c.next.new.self c.next.result (c.in-Some.name, c.in-Some.value) c.in-Some.is c.next.ensures.steps in
    (refl, some_reported _ _ _ _ _ _ _ _ step _ c.in-Err.ensures.err c.loop-name.invariant)

pub returns : goal.returns
returns g c =
    let none : listed c.loop-name.name-iterator ≡ [] = none_listed c.loop-name.name-iterator c.next.new.self c.next.result c.in-None.is c.next.ensures.steps in
    let all = all_reported _ _ _ _ _ _ none c.loop-name.invariant in
    (refl, all.0, all.1)

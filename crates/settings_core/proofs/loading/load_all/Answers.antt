use Rattle.std.proofs.Common.{◌≡◌, ◌∷◌, [], ap, refl, sym, ◌∙◌}
use Rattle.settings_core.proofs.ListedLemmas.{listed, next_listed, none_listed}
use Rattle.settings_core.proofs.LoadLemmas.{all_so_far, beside_so_far, given_so_far, none_so_far, room_so_far, some_so_far}
use Rattle.settings_core.proofs.loading.load_all.Goals as goal

pub loop-name-init : goal.loop-name-init
loop-name-init g c = none_so_far _ _ _ _ _ (ap listed c.into_iter-name-iterator.ensures.into_iter_gives.0)

pub loop-name-preserved-then-not-is_under : goal.loop-name-preserved-then-not-is_under
loop-name-preserved-then-not-is_under g c =
    let step : listed c.loop-name.name-iterator ≡ (c.in-Some.name.now, c.in-Some.value.now.now) ∷ listed c.next.new.self = next_listed c.loop-name.name-iterator c.next.new.self c.next.result (c.in-Some.name, c.in-Some.value) c.in-Some.is c.next.ensures.steps in
    beside_so_far _ _ _ _ _ _ _ _ _ _ step (sym c.is_under.ensures ∙ c.if-not-is_under.true) c.loop-name.invariant

pub load_one-requires : goal.load_one-requires
load_one-requires g c =
    let step : listed c.loop-name.name-iterator ≡ (c.in-Some.name.now, c.in-Some.value.now.now) ∷ listed c.next.new.self = next_listed c.loop-name.name-iterator c.next.new.self c.next.result (c.in-Some.name, c.in-Some.value) c.in-Some.is c.next.ensures.steps in
    record { room = room_so_far _ _ _ _ _ _ _ _ _ _ step c.requires.few c.loop-name.invariant }

pub loop-name-preserved : goal.loop-name-preserved
loop-name-preserved g c =
    let step : listed c.loop-name.name-iterator ≡ (c.in-Some.name.now, c.in-Some.value.now.now) ∷ listed c.next.new.self = next_listed c.loop-name.name-iterator c.next.new.self c.next.result (c.in-Some.name, c.in-Some.value) c.in-Some.is c.next.ensures.steps in
    given_so_far _ _ _ _ _ _ _ _ _ _ step _ _ c.load_one.new.loaded (sym c.is_under.ensures ∙ c.if-not-is_under.false) c.in-Ok.ensures c.loop-name.invariant

pub returns-in-Err : goal.returns-in-Err
returns-in-Err g c =
    let step : listed c.loop-name.name-iterator ≡ (c.in-Some.name.now, c.in-Some.value.now.now) ∷ listed c.next.new.self = next_listed c.loop-name.name-iterator c.next.new.self c.next.result (c.in-Some.name, c.in-Some.value) c.in-Some.is c.next.ensures.steps in
    (refl, some_so_far _ _ _ _ _ _ _ _ _ _ step _ _ c.load_one.new.loaded c.in-Err.field-0 (sym c.is_under.ensures ∙ c.if-not-is_under.false) c.in-Err.ensures c.loop-name.invariant)

pub returns : goal.returns
returns g c =
    let none : listed c.loop-name.name-iterator ≡ [] = none_listed c.loop-name.name-iterator c.next.new.self c.next.result c.in-None.is c.next.ensures.steps in
    (refl, (_, all_so_far _ _ _ _ _ _ _ _ none c.loop-name.invariant, c.commit.ensures))

use Rattle.std.proofs.Common.{◌≡◌, ◌++◌, ◌∷◌, [], List, map, sym, ap, ◌∙◌, append_assoc}
use Rattle.std.proofs.lemmas.List.{append-nil}
use Rattle.script_lines.specs.declared.lists.Pair.{Pair}
use Rattle.settings_core.proofs.ListedLemmas.{Setting, listed, next_listed, none_listed}
use Rattle.session_table.specs.Step.{as_pair}
use Rattle.mirror_session.proofs.reporting.all_settings.Goals as goal

pub loop-name-init : goal.loop-name-init
loop-name-init g c =
    ap (λ pairs. pairs ++ map as_pair (listed c.into_iter-name-iterator.result)) c.new-pairs.ensures
    ∙ ap (λ left. map as_pair (listed left)) c.into_iter-name-iterator.ensures.into_iter_gives.0 ∙ ap (map as_pair) c.in_ok-settings.ensures

-- one pair more
pushed : (all : List Pair) (left after : List Setting) (setting : Setting) (pair : Pair) (pairs more : List Pair) → left ≡ setting ∷ after → pair ≡ as_pair setting → more ≡ pairs ++ pair ∷ [] → pairs ++ map as_pair left ≡ all → more ++ map as_pair after ≡ all
pushed all left after setting pair pairs more step is longer so_far =
    ap (λ l. l ++ map as_pair after) longer ∙ append_assoc pairs (pair ∷ []) (map as_pair after)
    ∙ ap (λ p. pairs ++ p ∷ map as_pair after) is ∙ ap (λ l. pairs ++ map as_pair l) (sym step) ∙ so_far

pub loop-name-preserved : goal.loop-name-preserved
loop-name-preserved g c =
    pushed _ (listed c.loop-name.name-iterator) (listed c.next.new.self) (c.in-Some.name.now, c.in-Some.value.now.now) c.in_ok-pair.pair c.loop-name.pairs c.push.new.self
    (next_listed c.loop-name.name-iterator c.next.new.self c.next.result (c.in-Some.name, c.in-Some.value) c.in-Some.is c.next.ensures.steps) c.in_ok-pair.ensures c.in_ok-push.ensures.ok c.loop-name.invariant

pub returns : goal.returns
returns g c =
    let none : listed c.loop-name.name-iterator ≡ [] = none_listed c.loop-name.name-iterator c.next.new.self c.next.result c.in-None.is c.next.ensures.steps in
    sym (append-nil c.loop-name.pairs) ∙ ap (λ left. c.loop-name.pairs ++ map as_pair left) (sym none) ∙ c.loop-name.invariant

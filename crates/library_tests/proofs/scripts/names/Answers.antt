use Rattle.std.proofs.Common.{◌≡◌, List, [], ◌∷◌, ◌++◌, sym, ap, subst, ◌∙◌}
use Rattle.script_lines.specs.Answer.{Rise}
use Rattle.script_lines.specs.declared.lists.Pair.{Pair}
use Rattle.library_tests.proofs.scripts.names.Goals as goal

one_pair : (old new : List Pair) (item : Pair) → old ≡ [] → new ≡ old ++ item ∷ [] → Rise new
one_pair old new item empty is = subst (λ (pairs : List Pair). Rise pairs) (sym (is ∙ ap (λ (pairs : List Pair). pairs ++ item ∷ []) empty)) tt

pub returns : goal.returns
returns c = ((c.in-Ok.ensures 0).1, one_pair c.new-pairs.result c.push.new.self (record { name = c.in_ok-name.name; value = c.in_ok-value.value }) c.new-pairs.ensures c.in-Ok-push.ensures.ok)

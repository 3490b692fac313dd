use Rattle.std.proofs.Common.{◌+◌, ◌∙◌, refl, inr, ◌≡◌, ◌<◌, ◌≤◌, arith}
use Rattle.std.specs.FinMap.{get, insert}
use Rattle.named_items.specs.Pairs.{count_in}
use Rattle.named_items.proofs.CostLemmas.{get-put_other}
use Rattle.named_items.proofs.PairLemmas.{id-bare, no-name}
use Rattle.named_items.proofs.laws.value_written.Goals as goal

pub returns : goal.returns
returns c = λ n items candidate value laws inside none.
    let low : n.first ≤ candidate = inside.from in
    let high : candidate < n.first + count_in n items = inside.to in
    let few : count_in n items ≤ n.step = laws.few (get items n.count_id) in
    let apart : ¬ (candidate ≡ candidate + n.step) = λ (e : candidate ≡ candidate + n.step). absurd (omega arith) in
    id-bare n items (insert items (candidate + n.step) value) (candidate + n.step) (λ other off. get-put_other items (candidate + n.step) value other off) laws candidate inside (inr refl)
    (no-name n candidate (get items candidate) (get items (candidate + n.step)) none)
    (no-name n candidate (get (insert items (candidate + n.step) value) candidate) (get (insert items (candidate + n.step) value) (candidate + n.step)) (get-put_other items (candidate + n.step) value candidate apart ∙ none))

use Rattle.std.proofs.Common.{◌+◌, refl, inl, ◌≡◌, ◌≤◌, arith}
use Rattle.std.specs.FinMap.{get, remove}
use Rattle.named_items.proofs.CostLemmas.{get-cut, get-cut_other}
use Rattle.named_items.proofs.PairLemmas.{id-taken, no-name}
use Rattle.named_items.proofs.OrphanLemmas.{one-id}
use Rattle.named_items.proofs.laws.name_deleted.Goals as goal

pub returns : goal.returns
returns c = λ n items name candidate laws clean at.
    id-taken n items (remove items candidate) candidate (λ other apart. get-cut_other items candidate other apart) laws candidate at.inside (inl refl) name at
    (no-name n candidate (get (remove items candidate) candidate) (get (remove items candidate) (candidate + n.step)) (get-cut items candidate))
    (λ other above to has.
    let low : n.first ≤ candidate = at.inside.from in
    let same : candidate ≡ other = one-id n laws items clean name candidate other at.inside (record { from = omega arith; to = to }) at.here has in
    absurd (omega arith))

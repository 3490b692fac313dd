use Rattle.std.proofs.Common.{◌≡◌, ◌+◌, ◌<◌, ◌≤◌, [], ◌∷◌, ap, arith}
use Rattle.std.specs.FinMap.{get, empty, insert}
use Rattle.item_laws.specs.Items.{Items}
use Rattle.named_items.proofs.CostLemmas.{get-put}
use Rattle.backend_nvs.specs.IdLayout.{count_of, count-few}
use Rattle.backend_nvs.proofs.numbering.NvsIdLayoutIdLayout.all_candidates.Goals as goal

pub returns-clause-ids : goal.returns-clause-ids
returns-clause-ids g area = record {
  from = omega arith;
  to = omega arith;
  least = omega arith;
  most = omega arith;
  few = omega arith;
}

-- the count is 511 at most
pub returns-clause-candidates : goal.returns-clause-candidates
returns-clause-candidates g area = λ items id inside.
    let few = count-few (get items 0x8000) in
    let from : 0x8001 ≤ id = inside.from in
    let to : id < 0x8001 + count_of (get items 0x8000) = inside.to in
    record { from = from; to = omega arith }

-- and may be 511
pub returns-clause-only : goal.returns-clause-only
returns-clause-only g area = λ id among.
    let items : Items = insert empty 0x8000 (255 ∷ 1 ∷ []) in
    let full : count_of (get items 0x8000) ≡ 511 = ap count_of (get-put empty 0x8000 (255 ∷ 1 ∷ [])) in
    let from : 0x8001 ≤ id = among.from in
    let to : id ≤ 0x81FF = among.to in
    (items, record { from = from; to = omega arith })

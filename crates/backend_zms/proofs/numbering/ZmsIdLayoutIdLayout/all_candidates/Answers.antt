use Rattle.std.proofs.Common.{◌+◌, ◌<◌, ◌≤◌, arith}
use Rattle.std.specs.FinMap.{empty}
use Rattle.item_laws.specs.Items.{Items}
use Rattle.backend_zms.specs.IdLayout.{name_ids}
use Rattle.backend_zms.proofs.GroupLemmas.{all-ids}
use Rattle.backend_zms.proofs.numbering.ZmsIdLayoutIdLayout.all_candidates.Goals as goal

pub returns-clause-ids : goal.returns-clause-ids
returns-clause-ids g area = record {
  from = omega arith;
  to = omega arith;
  least = omega arith;
  most = omega arith;
  few = omega arith;
}

pub returns-clause-candidates : goal.returns-clause-candidates
returns-clause-candidates g area = λ items id inside.
    let all = all-ids in
    let from : 0x80000000 ≤ id = inside.from in
    let to : id < 0x80000000 + name_ids = inside.to in
    record { from = from; to = omega arith }

pub returns-clause-only : goal.returns-clause-only
returns-clause-only g area = λ id among.
    let items : Items = empty in
    let all = all-ids in
    let from : 0x80000000 ≤ id = among.from in
    let to : id ≤ 0x8000FFFF = among.to in
    (items, record { from = from; to = omega arith })

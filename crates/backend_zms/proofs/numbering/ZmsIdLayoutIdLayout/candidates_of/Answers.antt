use Rattle.std.proofs.Common.{◌≡◌, ◌+◌, ◌<◌, ◌≤◌, arith}
use Rattle.std.specs.FinMap.{empty}
use Rattle.flash_map.specs.Area.{value_limit}
use Rattle.item_laws.specs.Items.{Items}
use Rattle.named_items.proofs.CandidateLemmas.{candidate-here}
use Rattle.backend_zms.specs.Hash.{first_of}
use Rattle.backend_zms.specs.IdLayout.{name_ids, zms_numbering}
use Rattle.backend_zms.proofs.GroupLemmas.{all-ids, group-candidates}
use Rattle.backend_zms.proofs.numbering.ZmsIdLayoutIdLayout.candidates_of.Goals as goal

pub returns-clause-ids : goal.returns-clause-ids
returns-clause-ids g area =
    let group = group-candidates (value_limit area) empty g.args.name.now in
    let low : 0x80000000 ≤ first_of g.args.name.now = group.low in
    let high : first_of g.args.name.now + 16 ≤ 0x80000000 + name_ids = group.high in
    let all : name_ids ≡ 65536 = all-ids in
    let least : g.group_of.result.least ≡ first_of g.args.name.now = g.group_of.ensures.least in
    let most : g.group_of.result.most ≡ first_of g.args.name.now + 15 = g.group_of.ensures.most in
    record {
      from = omega arith;
      to = omega arith;
      least = omega arith;
      most = omega arith;
      few = omega arith;
    }

-- the ids of the name's group
pub returns-clause-candidates : goal.returns-clause-candidates
returns-clause-candidates g area = λ items id inside candidate.
    let least : g.group_of.result.least ≡ first_of g.args.name.now = g.group_of.ensures.least in
    let most : g.group_of.result.most ≡ first_of g.args.name.now + 15 = g.group_of.ensures.most in
    let between = (group-candidates (value_limit area) items g.args.name.now).only id inside candidate in
    let from : first_of g.args.name.now ≤ id = between.0 in
    let to : id < first_of g.args.name.now + 16 = between.1 in
    record { from = omega arith; to = omega arith }

pub returns-clause-only : goal.returns-clause-only
returns-clause-only g area = λ id among.
    let items : Items = empty in
    let least : g.group_of.result.least ≡ first_of g.args.name.now = g.group_of.ensures.least in
    let most : g.group_of.result.most ≡ first_of g.args.name.now + 15 = g.group_of.ensures.most in
    let from : g.group_of.result.least ≤ id = among.from in
    let to : id ≤ g.group_of.result.most = among.to in
    (items, candidate-here (zms_numbering (value_limit area)) items g.args.name.now (first_of g.args.name.now) 16 (group-candidates (value_limit area) items g.args.name.now) id (omega arith) (omega arith))

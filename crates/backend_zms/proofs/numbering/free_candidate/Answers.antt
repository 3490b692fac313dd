use Rattle.std.proofs.Common.{◌≡◌, ◌+◌, arith}
use Rattle.flash_map.specs.Area.{value_limit}
use Rattle.flash_map.specs.On.{on}
use Rattle.named_items.proofs.CandidateLemmas.{least-free}
use Rattle.backend_zms.specs.Hash.{first_of}
use Rattle.backend_zms.specs.IdLayout.{numbering_of}
use Rattle.backend_zms.proofs.GroupLemmas.{group-candidates}
use Rattle.backend_zms.proofs.numbering.free_candidate.Goals as goal

pub returns : goal.returns
returns g c =
    let area = g.S.ItemStore.mounted_on c.args.store.now in
    let items = on g.S.ItemStore.contents (g.F.Flash.device c.args.flash.now) area in
    let most : c.group_of.result.most ≡ first_of c.args.name.now + 15 = c.group_of.ensures.most in
    least-free (numbering_of area) items c.args.name.now (first_of c.args.name.now) 16 (group-candidates (value_limit area) items c.args.name.now)
    c.group_of.result c.group_of.ensures.least (omega arith) c.least_free.result c.least_free.ensures

use Rattle.std.proofs.Common.{◌+◌, ◌-◌, refl, arith}
use Rattle.flash_map.specs.declared.area.Area.{Area}
use Rattle.flash_map.specs.Area.{value_limit}
use Rattle.flash_map.specs.On.{on}
use Rattle.item_laws.specs.Items.{Items}
use Rattle.named_items.proofs.CandidateLemmas.{least-free}
use Rattle.backend_nvs.specs.IdLayout.{numbering_of}
use Rattle.backend_nvs.proofs.CountSteps.{count-candidates}
use Rattle.backend_nvs.proofs.lookup.free_candidate.Goals as goal

pub returns : goal.returns
returns g c = λ name.
    let area : Area = g.S.ItemStore.mounted_on c.args.store.now in
    let items : Items = on g.S.ItemStore.contents (g.F.Flash.device c.args.flash.now) area in
    least-free (numbering_of area) items name 0x8001 c.args.count (count-candidates (value_limit area) items name c.args.count c.requires.counted)
    (record { least = 0x8001; most = 0x8001 + c.args.count - 1 }) refl (omega arith) c.least_free.result c.least_free.ensures

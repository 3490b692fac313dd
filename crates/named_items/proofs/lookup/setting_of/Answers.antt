use Rattle.std.proofs.Common.{ℕ, ◌+◌, ◌<◌, List, subst}
use Rattle.flash_map.specs.declared.area.Area.{Area}
use Rattle.flash_map.specs.On.{on}
use Rattle.item_laws.specs.Items.{Items}
use Rattle.item_store.specs.declared.entry.IdRange.{IdRange}
use Rattle.item_store.specs.Asking.{IsHolderOf}
use Rattle.named_items.specs.Numbering.{Numbering}
use Rattle.named_items.proofs.IdSteps.{id-found, value-found}
use Rattle.named_items.proofs.lookup.setting_of.Goals as goal

pub returns-clause-candidate : goal.returns-clause-candidate
returns-clause-candidate g c =
    let area : Area = g.S.ItemStore.mounted_on c.args.store.now in
    let items : Items = on g.S.ItemStore.contents (g.F.Flash.device c.args.flash.now) area in
    let ids : IdRange = c.candidates_of-ids.result in
    id-found (g.N.IdLayout.numbering area) (g.met.N.IdLayout.is_numbering area) items c.requires.clean g.N.IdLayout.top ids (c.candidates_of-ids.ensures.ids area) c.args.name.now (c.candidates_of-ids.ensures.candidates area) c.step.result c.holder_of.result
    (subst (λ (bytes : List ℕ). IsHolderOf ids c.step.result items bytes c.holder_of.result) c.bytes.ensures.value c.holder_of.ensures)

pub returns-clause-value : goal.returns-clause-value
returns-clause-value g c =
    let area : Area = g.S.ItemStore.mounted_on c.args.store.now in
    let items : Items = on g.S.ItemStore.contents (g.F.Flash.device c.args.flash.now) area in
    value-found c.candidates_of-ids.result items c.bytes.result.now c.step.result (g.N.IdLayout.numbering area).step (c.step.ensures area) c.holder_of.result c.holder_of.ensures

pub holder_of-requires-clause-step : goal.holder_of-requires-clause-step
holder_of-requires-clause-step g c =
    let area : Area = g.S.ItemStore.mounted_on c.args.store.now in
    subst (λ (step : ℕ). 0 < step) (c.step.ensures area) (g.met.N.IdLayout.is_numbering area).apart

pub holder_of-requires-clause-known : goal.holder_of-requires-clause-known
holder_of-requires-clause-known g c =
    let area : Area = g.S.ItemStore.mounted_on c.args.store.now in
    let n : Numbering = g.N.IdLayout.numbering area in
    let ids : IdRange = c.candidates_of-ids.result in
    subst (λ (step : ℕ). g.S.ItemStore.is_id (ids.most + step)) (c.step.ensures area) (c.requires.ids.all (ids.most + n.step) (c.candidates_of-ids.ensures.ids area).most)

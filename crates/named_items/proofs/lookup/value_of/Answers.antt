use Rattle.std.proofs.Common.{◌≡◌, ℕ, ◌+◌, Some, sym, subst, ◌∙◌}
use Rattle.std.specs.FinMap.{get}
use Rattle.flash_map.specs.declared.area.Area.{Area}
use Rattle.flash_map.specs.On.{on}
use Rattle.item_laws.specs.Items.{Items}
use Rattle.named_items.specs.Numbering.{Numbering}
use Rattle.named_items.proofs.NameLemmas.{get-at, get-nowhere, at-value}
use Rattle.named_items.proofs.lookup.value_of.Goals as goal

pub returns-then-not-may_have : goal.returns-then-not-may_have
returns-then-not-may_have g c =
    let area : Area = g.S.ItemStore.mounted_on c.args.store.now in
    let items : Items = on g.S.ItemStore.contents (g.F.Flash.device c.args.flash.now) area in
    sym (get-nowhere (g.N.IdLayout.numbering area) items c.args.name.now (c.may_have.ensures c.if-not-may_have.true))

pub returns-in_err-candidate : goal.returns-in_err-candidate
returns-in_err-candidate g c =
    let area : Area = g.S.ItemStore.mounted_on c.args.store.now in
    let items : Items = on g.S.ItemStore.contents (g.F.Flash.device c.args.flash.now) area in
    rw c.from_residual.ensures (sym (get-nowhere (g.N.IdLayout.numbering area) items c.args.name.now c.in_err-candidate.ensures))

pub returns : goal.returns
returns g c =
    let area : Area = g.S.ItemStore.mounted_on c.args.store.now in
    let n : Numbering = g.N.IdLayout.numbering area in
    let items : Items = on g.S.ItemStore.contents (g.F.Flash.device c.args.flash.now) area in
    let value = at-value n items c.args.name.now c.in_ok-candidate.candidate c.in_ok-candidate.ensures in
    let stored : get items (c.in_ok-candidate.candidate + c.step.result) ≡ Some value.0 = subst (λ (k : ℕ). get items (c.in_ok-candidate.candidate + k) ≡ Some value.0) (c.step.ensures area) value.1 in
    c.get_by.ensures ∙ stored ∙ sym (get-at n items c.args.name.now value.0 c.in_ok-candidate.candidate c.in_ok-candidate.ensures value.1)

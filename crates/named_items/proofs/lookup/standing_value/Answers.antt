use Rattle.std.proofs.Common.{ℕ, sym, ◌∙◌}
use Rattle.flash_map.specs.declared.area.Area.{Area}
use Rattle.flash_map.specs.On.{on}
use Rattle.item_laws.specs.Items.{Items}
use Rattle.named_items.specs.Numbering.{Numbering}
use Rattle.named_items.proofs.NameLemmas.{get-at, get-nowhere, at-value}
use Rattle.named_items.proofs.lookup.standing_value.Goals as goal

pub returns-then-not-may_have : goal.returns-then-not-may_have
returns-then-not-may_have g c =
    let area : Area = g.S.ItemStore.mounted_on c.args.store.now in
    let items : Items = on g.S.ItemStore.contents (g.F.Flash.device c.args.flash.now) area in
    sym (get-nowhere (g.N.IdLayout.numbering area) items c.args.name.now (c.may_have.ensures c.if-not-may_have.true))

pub returns-in_err-setting_of : goal.returns-in_err-setting_of
returns-in_err-setting_of g c =
    let area : Area = g.S.ItemStore.mounted_on c.args.store.now in
    let items : Items = on g.S.ItemStore.contents (g.F.Flash.device c.args.flash.now) area in
    rw c.from_residual.ensures (sym (get-nowhere (g.N.IdLayout.numbering area) items c.args.name.now c.in_err-setting_of.ensures.candidate))

pub returns : goal.returns
returns g c =
    let area : Area = g.S.ItemStore.mounted_on c.args.store.now in
    let n : Numbering = g.N.IdLayout.numbering area in
    let items : Items = on g.S.ItemStore.contents (g.F.Flash.device c.args.flash.now) area in
    let candidate : ℕ = c.in_ok-setting_of.field-0.id in
    let value = at-value n items c.args.name.now candidate c.in_ok-setting_of.ensures.candidate in
    c.in_ok-setting_of.ensures.value ∙ value.1 ∙ sym (get-at n items c.args.name.now value.0 candidate c.in_ok-setting_of.ensures.candidate value.1)

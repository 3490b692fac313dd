-- the item is reported, or memory was wanting for its bytes; or there is none
use Rattle.std.proofs.Common.{◌≡◌, None, sym, subst}
use Rattle.std.specs.FinMap.{get}
use Rattle.flash_map.specs.declared.area.Area.{Area}
use Rattle.item_store.specs.Listed.{items_on}
use Rattle.item_session.proofs.LineLemmas.{none_reported, value_at}
use Rattle.item_session.proofs.MemoryLemmas.{item_wants}
use Rattle.item_session.proofs.reporting.report_item.Goals as goal

pub returns-in-Some-clause-done : goal.returns-in-Some-clause-done
returns-in-Some-clause-done g c =
    let d = g.B.Flash.device c.args.bench.now in
    value_at g.T.SlotSectors.format_of c.args.area.now c.args.store.now.area d c.args.id c.in-Some.bytes.now c.value_of.result c.requires.on c.requires.area (sym c.in-Some.ensures.value) c.value_of.ensures

pub returns-in-Some-clause-wants : goal.returns-in-Some-clause-wants
returns-in-Some-clause-wants g c =
    let d = g.B.Flash.device c.args.bench.now in
    item_wants g.T.SlotSectors.format_of c.args.area.now c.args.store.now.area d c.requires.on c.requires.area c.args.id c.in-Some.bytes.now c.value_of.result (sym c.in-Some.ensures.value)

pub returns-in-None-clause-done : goal.returns-in-None-clause-done
returns-in-None-clause-done g c =
    let d = g.B.Flash.device c.args.bench.now in
    let format_of = g.T.SlotSectors.format_of in
    none_reported format_of c.args.area.now d c.args.id c.requires.on
    (subst (λ (a : Area). get (items_on format_of d a) c.args.id ≡ None) c.requires.area (sym c.in-None.ensures.value))

use Rattle.std.proofs.Common.{◌≡◌, ℕ, true, false, List, refl, sym, ap, ◌∙◌}
use Rattle.flash_sim.specs.Device.{Device}
use Rattle.flash_map.specs.Area.{geometry_of, sectors_of, sector_at}
use Rattle.item_laws.specs.Area.{next, is_closed_at}
use Rattle.item_laws.proofs.AreaReads.{next_there}
use Rattle.item_store.specs.SectorFormat.{SectorFormat}
use Rattle.item_store.proofs.Areas.{unit_is}
use Rattle.item_store.proofs.CollectSteps.{redo_is}
use Rattle.item_store.proofs.collecting.what_to_redo.Goals as goal

pub returns-then-has_gc_done : goal.returns-then-has_gc_done
returns-then-has_gc_done g c =
    let d : Device = g.F.Flash.device c.args.flash.now in
    let k : SectorFormat = g.T.SlotSectors.format_of (geometry_of d c.args.area.now) in
    let sectors : List (List ℕ) = sectors_of d c.args.area.now in
    let after : c.next.result ≡ next sectors c.args.current = c.next.ensures.value ∙ next_there d c.args.area.now c.args.current in
    let shut : is_closed_at k.reading sectors (next sectors c.args.current) ≡ true = ap (is_closed_at k.reading sectors) (sym after) ∙ sym c.is_closed.ensures.value ∙ c.if-is_closed.true in
    let done = c.has_gc_done.ensures (geometry_of d c.args.area.now) (sector_at sectors c.args.current) c.requires.kept in
    sym (redo_is k (g.met.T.SlotSectors.lawful (geometry_of d c.args.area.now) (unit_is d c.args.area.now (g.met.F.Flash.is_lawful c.args.flash.now) c.requires.area.lawful)) sectors c.args.current true true shut (sym done ∙ c.if-has_gc_done.true))

pub returns-else-has_gc_done : goal.returns-else-has_gc_done
returns-else-has_gc_done g c =
    let d : Device = g.F.Flash.device c.args.flash.now in
    let k : SectorFormat = g.T.SlotSectors.format_of (geometry_of d c.args.area.now) in
    let sectors : List (List ℕ) = sectors_of d c.args.area.now in
    let after : c.next.result ≡ next sectors c.args.current = c.next.ensures.value ∙ next_there d c.args.area.now c.args.current in
    let shut : is_closed_at k.reading sectors (next sectors c.args.current) ≡ true = ap (is_closed_at k.reading sectors) (sym after) ∙ sym c.is_closed.ensures.value ∙ c.if-is_closed.true in
    let done = c.has_gc_done.ensures (geometry_of d c.args.area.now) (sector_at sectors c.args.current) c.requires.kept in
    sym (redo_is k (g.met.T.SlotSectors.lawful (geometry_of d c.args.area.now) (unit_is d c.args.area.now (g.met.F.Flash.is_lawful c.args.flash.now) c.requires.area.lawful)) sectors c.args.current true false shut (sym done ∙ c.if-has_gc_done.false))

pub returns-else-is_closed : goal.returns-else-is_closed
returns-else-is_closed g c =
    let d : Device = g.F.Flash.device c.args.flash.now in
    let k : SectorFormat = g.T.SlotSectors.format_of (geometry_of d c.args.area.now) in
    let sectors : List (List ℕ) = sectors_of d c.args.area.now in
    let after : c.next.result ≡ next sectors c.args.current = c.next.ensures.value ∙ next_there d c.args.area.now c.args.current in
    sym (redo_is k (g.met.T.SlotSectors.lawful (geometry_of d c.args.area.now) (unit_is d c.args.area.now (g.met.F.Flash.is_lawful c.args.flash.now) c.requires.area.lawful)) sectors c.args.current false (k.reading.has_gc_done (sector_at sectors c.args.current)) (ap (is_closed_at k.reading sectors) (sym after) ∙ sym c.is_closed.ensures.value ∙ c.if-is_closed.false) refl)

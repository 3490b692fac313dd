use Rattle.std.proofs.Common.{ℕ, ◌+◌, ◌-◌, Option, subst, arith}
use Rattle.flash_sim.specs.Device.{Device}
use Rattle.flash_map.specs.declared.area.Area.{Area}
use Rattle.flash_map.specs.Area.{geometry_of}
use Rattle.item_store.specs.declared.entry.IdRange.{IdRange}
use Rattle.item_store.specs.Free.{IsFirstUnmarked}
use Rattle.item_store.specs.SectorFormat.{IsSectorFormat}
use Rattle.item_store.proofs.Areas.{unit_is}
use Rattle.item_store.proofs.FreeSteps.{none-free, some-free}
use Rattle.item_store.proofs.KnownSlots.{known_on}
use Rattle.item_store.proofs.store.Store.least_free.Goals as goal

pub note_all-requires : goal.note_all-requires
note_all-requires g c =
    let d : Device = g.F.Flash.device c.args.flash.now in
    let area : Area = c.args.self.now.area in
    let law : IsSectorFormat (g.T.SlotSectors.format_of (geometry_of d area)) = g.met.T.SlotSectors.lawful (geometry_of d area) (unit_is d area (g.met.F.Flash.is_lawful c.args.flash.now) c.requires.stands.area.lawful) in
    record { on = record { area = c.requires.stands.area; kept = c.requires.stands.opened; current = c.requires.stands.current; known = known_on g.T.SlotSectors.role g.T.SlotSectors.format_of g.T.SlotSectors.kept d c.args.self.now law (g.met.F.Flash.is_lawful c.args.flash.now) c.requires.stands c.tops-tops.result.now c.tops-tops.ensures } }

pub returns-in-Some : goal.returns-in-Some
returns-in-Some g c =
    let d : Device = g.F.Flash.device c.args.flash.now in
    let area : Area = c.args.self.now.area in
    let ids : IdRange = c.args.ids.now in
    let count : ℕ = c.args.ids.now.most - c.args.ids.now.least + 1 in
    let law : IsSectorFormat (g.T.SlotSectors.format_of (geometry_of d area)) = g.met.T.SlotSectors.lawful (geometry_of d area) (unit_is d area (g.met.F.Flash.is_lawful c.args.flash.now) c.requires.stands.area.lawful) in
    some-free g.T.SlotSectors.role g.T.SlotSectors.format_of g.T.SlotSectors.kept d c.args.self.now law (g.met.F.Flash.is_lawful c.args.flash.now) c.requires.stands ids c.args.step c.new-taken.result c.note_all.new.notes c.new-taken.ensures.lower c.new-taken.ensures.upper
    (c.note_all.ensures c.new-taken.result c.new-taken.ensures.none) count c.in-Some.n (omega arith) (omega arith)
    (subst (λ (o : Option ℕ). IsFirstUnmarked c.note_all.new.notes count o) c.in-Some.is c.first_free.ensures)

pub returns-in-None : goal.returns-in-None
returns-in-None g c =
    let d : Device = g.F.Flash.device c.args.flash.now in
    let area : Area = c.args.self.now.area in
    let ids : IdRange = c.args.ids.now in
    let count : ℕ = c.args.ids.now.most - c.args.ids.now.least + 1 in
    let law : IsSectorFormat (g.T.SlotSectors.format_of (geometry_of d area)) = g.met.T.SlotSectors.lawful (geometry_of d area) (unit_is d area (g.met.F.Flash.is_lawful c.args.flash.now) c.requires.stands.area.lawful) in
    none-free g.T.SlotSectors.role g.T.SlotSectors.format_of g.T.SlotSectors.kept d c.args.self.now law (g.met.F.Flash.is_lawful c.args.flash.now) c.requires.stands ids c.args.step c.new-taken.result c.note_all.new.notes c.new-taken.ensures.lower c.new-taken.ensures.upper
    (c.note_all.ensures c.new-taken.result c.new-taken.ensures.none) count (omega arith) (omega arith)
    (subst (λ (o : Option ℕ). IsFirstUnmarked c.note_all.new.notes count o) c.in-None.is c.first_free.ensures)

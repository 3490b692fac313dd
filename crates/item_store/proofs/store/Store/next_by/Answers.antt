use Rattle.std.proofs.lemmas.Option.{IfSome_then}
use Rattle.flash_sim.specs.Device.{Device}
use Rattle.flash_map.specs.declared.area.Area.{Area}
use Rattle.flash_map.specs.Area.{geometry_of}
use Rattle.item_store.specs.SectorFormat.{IsSectorFormat}
use Rattle.item_store.proofs.Areas.{unit_is}
use Rattle.item_store.proofs.TableFacts.{next-some, next-known, next-none, next-ungiven}
use Rattle.item_store.proofs.store.Store.next_by.Goals as goal

pub returns-in-Some-clause-next : goal.returns-in-Some-clause-next
returns-in-Some-clause-next g c =
    let d : Device = g.F.Flash.device c.args.flash.now in
    let area : Area = c.args.self.now.area in
    let law : IsSectorFormat (g.T.SlotSectors.format_of (geometry_of d area)) = g.met.T.SlotSectors.lawful (geometry_of d area) (unit_is d area (g.met.F.Flash.is_lawful c.args.flash.now) c.requires.stands.area.lawful) in
    next-some g.T.SlotSectors.role g.T.SlotSectors.format_of g.T.SlotSectors.kept d c.args.self.now law (g.met.F.Flash.is_lawful c.args.flash.now) c.requires.stands c.args.last.now c.requires.last c.args.after c.in-Some.placed
    (c.in-Some.ensures c.requires.last.below.rises)

pub returns-in-Some-clause-known : goal.returns-in-Some-clause-known
returns-in-Some-clause-known g c =
    let d : Device = g.F.Flash.device c.args.flash.now in
    let area : Area = c.args.self.now.area in
    let law : IsSectorFormat (g.T.SlotSectors.format_of (geometry_of d area)) = g.met.T.SlotSectors.lawful (geometry_of d area) (unit_is d area (g.met.F.Flash.is_lawful c.args.flash.now) c.requires.stands.area.lawful) in
    next-known g.T.SlotSectors.role g.T.SlotSectors.format_of g.T.SlotSectors.kept d c.args.self.now law (g.met.F.Flash.is_lawful c.args.flash.now) c.requires.stands c.args.last.now c.requires.last c.args.after c.in-Some.placed
    (c.in-Some.ensures c.requires.last.below.rises)

pub returns-then-knows_all-clause-next : goal.returns-then-knows_all-clause-next
returns-then-knows_all-clause-next g c =
    let d : Device = g.F.Flash.device c.args.flash.now in
    let area : Area = c.args.self.now.area in
    let law : IsSectorFormat (g.T.SlotSectors.format_of (geometry_of d area)) = g.met.T.SlotSectors.lawful (geometry_of d area) (unit_is d area (g.met.F.Flash.is_lawful c.args.flash.now) c.requires.stands.area.lawful) in
    next-none g.T.SlotSectors.role g.T.SlotSectors.format_of g.T.SlotSectors.kept d c.args.self.now law (g.met.F.Flash.is_lawful c.args.flash.now) c.requires.stands c.args.last.now c.requires.last c.args.after
    (c.knows_all.ensures.yes_it c.if-knows_all.true) (c.in-None.ensures c.requires.last.below.rises)

pub returns-else-knows_all-clause-covered : goal.returns-else-knows_all-clause-covered
returns-else-knows_all-clause-covered g c =
    let d : Device = g.F.Flash.device c.args.flash.now in
    let area : Area = c.args.self.now.area in
    let law : IsSectorFormat (g.T.SlotSectors.format_of (geometry_of d area)) = g.met.T.SlotSectors.lawful (geometry_of d area) (unit_is d area (g.met.F.Flash.is_lawful c.args.flash.now) c.requires.stands.area.lawful) in
    IfSome_then c.next_id.result
    (next-ungiven g.T.SlotSectors.role g.T.SlotSectors.format_of g.T.SlotSectors.kept d c.args.self.now law (g.met.F.Flash.is_lawful c.args.flash.now) c.requires.stands c.args.last.now c.requires.last c.args.after c.next_id.result
    (c.in-None.ensures c.requires.last.below.rises) c.next_id.ensures.next)
    (λ id apart covered. absurd (apart covered))

pub returns-else-knows_all-clause-all : goal.returns-else-knows_all-clause-all
returns-else-knows_all-clause-all g c = λ all. absurd (c.knows_all.ensures.not_it c.if-knows_all.false all)

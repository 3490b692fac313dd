use Rattle.std.proofs.Common.{◌≡◌, ◌+◌, ◌-◌, sym, ◌∙◌, arith}
use Rattle.flash_sim.specs.Device.{Device}
use Rattle.flash_map.specs.declared.area.Area.{Area}
use Rattle.flash_map.specs.Area.{geometry_of}
use Rattle.item_store.specs.SectorFormat.{IsSectorFormat}
use Rattle.item_store.proofs.Areas.{unit_is}
use Rattle.item_store.proofs.HoldingSteps.{placed-latest, last-near}
use Rattle.item_store.proofs.ReadFacts.{placed_inside}
use Rattle.item_store.proofs.store.Store.last_before.Goals as goal

pub entry_in-requires-clause-inside : goal.entry_in-requires-clause-inside
entry_in-requires-clause-inside g c =
    let d : Device = g.F.Flash.device c.args.flash.now in
    let area : Area = c.args.self.now.area in
    let law : IsSectorFormat (g.T.SlotSectors.format_of (geometry_of d area)) = g.met.T.SlotSectors.lawful (geometry_of d area) (unit_is d area (g.met.F.Flash.is_lawful c.args.flash.now) c.requires.stands.area.lawful) in
    placed_inside g.T.SlotSectors.role g.T.SlotSectors.format_of g.T.SlotSectors.kept d c.args.self.now law (g.met.F.Flash.is_lawful c.args.flash.now) c.requires.stands c.args.latest.now
    (placed-latest g.T.SlotSectors.role g.T.SlotSectors.format_of g.T.SlotSectors.kept d c.args.self.now law (g.met.F.Flash.is_lawful c.args.flash.now) c.requires.stands c.args.id c.args.latest.now c.requires.latest)

pub entry_in-requires-clause-listed : goal.entry_in-requires-clause-listed
entry_in-requires-clause-listed g c =
    let d : Device = g.F.Flash.device c.args.flash.now in
    let area : Area = c.args.self.now.area in
    let law : IsSectorFormat (g.T.SlotSectors.format_of (geometry_of d area)) = g.met.T.SlotSectors.lawful (geometry_of d area) (unit_is d area (g.met.F.Flash.is_lawful c.args.flash.now) c.requires.stands.area.lawful) in
    let placed = placed-latest g.T.SlotSectors.role g.T.SlotSectors.format_of g.T.SlotSectors.kept d c.args.self.now law (g.met.F.Flash.is_lawful c.args.flash.now) c.requires.stands c.args.id c.args.latest.now c.requires.latest in
    let from = placed.listed.from in
    let listed = placed.listed.listed in
    let few = c.requires.few in
    let first : c.first_slot.result ≡ (g.T.SlotSectors.format_of (geometry_of d area)).first = c.first_slot.ensures.value (geometry_of d area) in
    (omega (arith, few, first, c.requires.some_left), omega (arith, from, listed, few, first, c.requires.some_left))

pub returns-then-placed-id-clause-last : goal.returns-then-placed-id-clause-last
returns-then-placed-id-clause-last g c =
    let d : Device = g.F.Flash.device c.args.flash.now in
    let area : Area = c.args.self.now.area in
    let law : IsSectorFormat (g.T.SlotSectors.format_of (geometry_of d area)) = g.met.T.SlotSectors.lawful (geometry_of d area) (unit_is d area (g.met.F.Flash.is_lawful c.args.flash.now) c.requires.stands.area.lawful) in
    let placed = placed-latest g.T.SlotSectors.role g.T.SlotSectors.format_of g.T.SlotSectors.kept d c.args.self.now law (g.met.F.Flash.is_lawful c.args.flash.now) c.requires.stands c.args.id c.args.latest.now c.requires.latest in
    let first : c.first_slot.result ≡ (g.T.SlotSectors.format_of (geometry_of d area)).first = c.first_slot.ensures.value (geometry_of d area) in
    last-near g.T.SlotSectors.role g.T.SlotSectors.format_of g.T.SlotSectors.kept d c.args.self.now law (g.met.F.Flash.is_lawful c.args.flash.now) c.requires.stands c.args.latest.now placed c.args.id c.args.reach (c.first_slot.result + (c.args.reach - 1)) c.in-Some.placed (sym c.requires.latest) c.requires.other
    c.requires.some_left c.requires.few c.requires.others (omega (arith, first)) (sym c.in-Some.is ∙ c.entry_in.ensures.entry) c.if-placed-id.true

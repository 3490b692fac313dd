use Rattle.std.proofs.Common.{◌≡◌, ℕ, ◌-◌, List, subst, arith}
use Rattle.flash_sim.specs.Device.{Device}
use Rattle.flash_map.specs.declared.area.Area.{Area}
use Rattle.flash_map.specs.Area.{geometry_of, sector_at, sectors_of}
use Rattle.item_store.specs.Lasts.{AreOthers}
use Rattle.item_store.specs.SectorFormat.{SectorFormat, IsSectorFormat}
use Rattle.item_store.proofs.Areas.{unit_is}
use Rattle.item_store.proofs.HoldingSteps.{placed-latest}
use Rattle.item_store.proofs.ReadFacts.{placed_inside}
use Rattle.item_store.proofs.store.Store.reach_before.Goals as goal

pub reach_of-requires-clause-inside : goal.reach_of-requires-clause-inside
reach_of-requires-clause-inside g c =
    let d : Device = g.F.Flash.device c.args.flash.now in
    let area : Area = c.args.self.now.area in
    let law : IsSectorFormat (g.T.SlotSectors.format_of (geometry_of d area)) = g.met.T.SlotSectors.lawful (geometry_of d area) (unit_is d area (g.met.F.Flash.is_lawful c.args.flash.now) c.requires.stands.area.lawful) in
    placed_inside g.T.SlotSectors.role g.T.SlotSectors.format_of g.T.SlotSectors.kept d c.args.self.now law (g.met.F.Flash.is_lawful c.args.flash.now) c.requires.stands c.args.latest.now
    (placed-latest g.T.SlotSectors.role g.T.SlotSectors.format_of g.T.SlotSectors.kept d c.args.self.now law (g.met.F.Flash.is_lawful c.args.flash.now) c.requires.stands c.args.id c.args.latest.now c.requires.latest)

pub overflow_sub-before : goal.overflow_sub-before
overflow_sub-before g c =
    let d : Device = g.F.Flash.device c.args.flash.now in
    let area : Area = c.args.self.now.area in
    let law : IsSectorFormat (g.T.SlotSectors.format_of (geometry_of d area)) = g.met.T.SlotSectors.lawful (geometry_of d area) (unit_is d area (g.met.F.Flash.is_lawful c.args.flash.now) c.requires.stands.area.lawful) in
    let placed = placed-latest g.T.SlotSectors.role g.T.SlotSectors.format_of g.T.SlotSectors.kept d c.args.self.now law (g.met.F.Flash.is_lawful c.args.flash.now) c.requires.stands c.args.id c.args.latest.now c.requires.latest in
    let from = placed.listed.from in
    let first : c.first_slot.result ≡ (g.T.SlotSectors.format_of (geometry_of d area)).first = c.first_slot.ensures.value (geometry_of d area) in
    omega (arith, from, first)

pub reach_of-requires-clause-listed : goal.reach_of-requires-clause-listed
reach_of-requires-clause-listed g c =
    let d : Device = g.F.Flash.device c.args.flash.now in
    let area : Area = c.args.self.now.area in
    let law : IsSectorFormat (g.T.SlotSectors.format_of (geometry_of d area)) = g.met.T.SlotSectors.lawful (geometry_of d area) (unit_is d area (g.met.F.Flash.is_lawful c.args.flash.now) c.requires.stands.area.lawful) in
    let placed = placed-latest g.T.SlotSectors.role g.T.SlotSectors.format_of g.T.SlotSectors.kept d c.args.self.now law (g.met.F.Flash.is_lawful c.args.flash.now) c.requires.stands c.args.id c.args.latest.now c.requires.latest in
    let from = placed.listed.from in
    let listed = placed.listed.listed in
    let first : c.first_slot.result ≡ (g.T.SlotSectors.format_of (geometry_of d area)).first = c.first_slot.ensures.value (geometry_of d area) in
    omega (arith, from, listed, first)

pub returns-clause-few : goal.returns-clause-few
returns-clause-few g c =
    let d : Device = g.F.Flash.device c.args.flash.now in
    let area : Area = c.args.self.now.area in
    let few = c.reach_of.ensures.few in
    let first : c.first_slot.result ≡ (g.T.SlotSectors.format_of (geometry_of d area)).first = c.first_slot.ensures.value (geometry_of d area) in
    omega (arith, few, first)

pub returns-clause-others : goal.returns-clause-others
returns-clause-others g c =
    let d : Device = g.F.Flash.device c.args.flash.now in
    let area : Area = c.args.self.now.area in
    let k : SectorFormat = g.T.SlotSectors.format_of (geometry_of d area) in
    let b : List ℕ = sector_at (sectors_of d area) c.args.latest.now.sector in
    let first : c.first_slot.result ≡ (g.T.SlotSectors.format_of (geometry_of d area)).first = c.first_slot.ensures.value (geometry_of d area) in
    subst (λ (n : ℕ). AreOthers k b c.reach_of.result (c.args.latest.now.slot - n) c.args.id c.args.id) first c.reach_of.ensures.others

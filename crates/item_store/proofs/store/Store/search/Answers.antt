use Rattle.std.proofs.Common.{Some, None, sym, ap, ◌∙◌, arith}
use Rattle.std.specs.Option.{option_map}
use Rattle.flash_sim.specs.Device.{Device}
use Rattle.flash_map.specs.declared.area.Area.{Area}
use Rattle.flash_map.specs.Area.{geometry_of}
use Rattle.item_store.specs.SectorFormat.{IsSectorFormat}
use Rattle.item_store.proofs.Areas.{unit_is}
use Rattle.item_store.proofs.ReadFacts.{last_placed_on, value_by}
use Rattle.item_store.proofs.store.Store.search.Goals as goal

pub returns-in_err-placed-clause-value : goal.returns-in_err-placed-clause-value
returns-in_err-placed-clause-value g c =
    let d : Device = g.F.Flash.device c.args.flash.now in
    let area : Area = c.args.self.now.area in
    let law : IsSectorFormat (g.T.SlotSectors.format_of (geometry_of d area)) = g.met.T.SlotSectors.lawful (geometry_of d area) (unit_is d area (g.met.F.Flash.is_lawful c.args.flash.now) c.requires.stands.area.lawful) in
    ap (option_map (λ bytes. bytes.now)) c.from_residual.ensures
    ∙ sym (value_by g.T.SlotSectors.role g.T.SlotSectors.format_of g.T.SlotSectors.kept d c.args.self.now law (g.met.F.Flash.is_lawful c.args.flash.now) c.requires.stands None c.args.id c.in_err-placed.ensures.last)

pub bytes_at-requires-clause-placed : goal.bytes_at-requires-clause-placed
bytes_at-requires-clause-placed g c =
    let d : Device = g.F.Flash.device c.args.flash.now in
    let area : Area = c.args.self.now.area in
    let law : IsSectorFormat (g.T.SlotSectors.format_of (geometry_of d area)) = g.met.T.SlotSectors.lawful (geometry_of d area) (unit_is d area (g.met.F.Flash.is_lawful c.args.flash.now) c.requires.stands.area.lawful) in
    last_placed_on g.T.SlotSectors.role g.T.SlotSectors.format_of g.T.SlotSectors.kept d c.args.self.now law (g.met.F.Flash.is_lawful c.args.flash.now) c.requires.stands (Some c.in_ok-placed.placed) c.args.id c.in_ok-placed.ensures.last

pub returns-clause-value : goal.returns-clause-value
returns-clause-value g c =
    let d : Device = g.F.Flash.device c.args.flash.now in
    let area : Area = c.args.self.now.area in
    let law : IsSectorFormat (g.T.SlotSectors.format_of (geometry_of d area)) = g.met.T.SlotSectors.lawful (geometry_of d area) (unit_is d area (g.met.F.Flash.is_lawful c.args.flash.now) c.requires.stands.area.lawful) in
    c.bytes_at.ensures.value ∙ sym (value_by g.T.SlotSectors.role g.T.SlotSectors.format_of g.T.SlotSectors.kept d c.args.self.now law (g.met.F.Flash.is_lawful c.args.flash.now) c.requires.stands (Some c.in_ok-placed.placed) c.args.id c.in_ok-placed.ensures.last)

pub returns-in_err-placed-clause-steps : goal.returns-in_err-placed-clause-steps
returns-in_err-placed-clause-steps g c = omega (arith, c.in_err-placed.ensures.steps)

pub returns-clause-steps : goal.returns-clause-steps
returns-clause-steps g c = omega (arith, c.in_ok-placed.ensures.steps, c.bytes_at.ensures.step)

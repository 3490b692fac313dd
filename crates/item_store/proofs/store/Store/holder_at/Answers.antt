use Rattle.std.proofs.Common.{refl, arith}
use Rattle.flash_sim.specs.Device.{Device}
use Rattle.flash_map.specs.declared.area.Area.{Area}
use Rattle.flash_map.specs.Area.{geometry_of}
use Rattle.item_store.specs.SectorFormat.{IsSectorFormat}
use Rattle.item_store.proofs.Areas.{unit_is}
use Rattle.item_store.proofs.HeldSteps.{few-behind}
use Rattle.item_store.proofs.ReadFacts.{current_on, placed_inside}
use Rattle.item_store.proofs.store.Store.holder_at.Goals as goal

pub may_have_later-may-requires : goal.may_have_later-may-requires
may_have_later-may-requires g c =
    record {
      stands = c.requires.stands;
      placed = c.requires.placed;
      small = c.requires.small;
    }

pub gives_item-requires : goal.gives_item-requires
gives_item-requires g c =
    record {
      stands = c.requires.stands;
      placed = c.requires.placed;
      holds = c.requires.holds;
      none = c.may_have_later-may.ensures.rules.lower;
    }

pub returns-then-not-gives_item-clause-holder : goal.returns-then-not-gives_item-clause-holder
returns-then-not-gives_item-clause-holder g c =
    c.gives_item.ensures.not_it c.if-not-gives_item.true

pub returns-then-not-gives_item-clause-none : goal.returns-then-not-gives_item-clause-none
returns-then-not-gives_item-clause-none g c =
    let d : Device = g.F.Flash.device c.args.flash.now in
    let area : Area = c.args.self.now.area in
    let law : IsSectorFormat (g.T.SlotSectors.format_of (geometry_of d area)) = g.met.T.SlotSectors.lawful (geometry_of d area) (unit_is d area (g.met.F.Flash.is_lawful c.args.flash.now) c.requires.stands.area.lawful) in
    let low = current_on g.T.SlotSectors.role g.T.SlotSectors.format_of g.T.SlotSectors.kept d c.args.self.now law (g.met.F.Flash.is_lawful c.args.flash.now) c.requires.stands in
    let high = placed_inside g.T.SlotSectors.role g.T.SlotSectors.format_of g.T.SlotSectors.kept d c.args.self.now law (g.met.F.Flash.is_lawful c.args.flash.now) c.requires.stands c.args.holder.now c.requires.placed in
    let few = few-behind area.sectors c.args.self.now.current c.args.holder.now.sector low high in
    λ _. omega (arith, few, c.may_have_later-may.ensures.steps, c.gives_item.ensures.steps)

pub returns-then-not-gives_item-clause-steps : goal.returns-then-not-gives_item-clause-steps
returns-then-not-gives_item-clause-steps g c =
    let d : Device = g.F.Flash.device c.args.flash.now in
    let area : Area = c.args.self.now.area in
    let law : IsSectorFormat (g.T.SlotSectors.format_of (geometry_of d area)) = g.met.T.SlotSectors.lawful (geometry_of d area) (unit_is d area (g.met.F.Flash.is_lawful c.args.flash.now) c.requires.stands.area.lawful) in
    let low = current_on g.T.SlotSectors.role g.T.SlotSectors.format_of g.T.SlotSectors.kept d c.args.self.now law (g.met.F.Flash.is_lawful c.args.flash.now) c.requires.stands in
    let high = placed_inside g.T.SlotSectors.role g.T.SlotSectors.format_of g.T.SlotSectors.kept d c.args.self.now law (g.met.F.Flash.is_lawful c.args.flash.now) c.requires.stands c.args.holder.now c.requires.placed in
    let few = few-behind area.sectors c.args.self.now.current c.args.holder.now.sector low high in
    omega (arith, few, c.may_have_later-may.ensures.steps, c.gives_item.ensures.steps)

pub get-above-requires : goal.get-above-requires
get-above-requires g c = c.requires.stands

pub returns-clause-holder : goal.returns-clause-holder
returns-clause-holder g c =
    (refl, c.gives_item.ensures.yes_it c.if-not-gives_item.false, c.get-above.ensures.value)

pub returns-clause-none : goal.returns-clause-none
returns-clause-none g c = λ e. cc

pub returns-clause-steps : goal.returns-clause-steps
returns-clause-steps g c =
    let d : Device = g.F.Flash.device c.args.flash.now in
    let area : Area = c.args.self.now.area in
    let law : IsSectorFormat (g.T.SlotSectors.format_of (geometry_of d area)) = g.met.T.SlotSectors.lawful (geometry_of d area) (unit_is d area (g.met.F.Flash.is_lawful c.args.flash.now) c.requires.stands.area.lawful) in
    let low = current_on g.T.SlotSectors.role g.T.SlotSectors.format_of g.T.SlotSectors.kept d c.args.self.now law (g.met.F.Flash.is_lawful c.args.flash.now) c.requires.stands in
    let high = placed_inside g.T.SlotSectors.role g.T.SlotSectors.format_of g.T.SlotSectors.kept d c.args.self.now law (g.met.F.Flash.is_lawful c.args.flash.now) c.requires.stands c.args.holder.now c.requires.placed in
    let few = few-behind area.sectors c.args.self.now.current c.args.holder.now.sector low high in
    omega (arith, few, c.may_have_later-may.ensures.steps, c.gives_item.ensures.steps, c.get-above.ensures.steps)

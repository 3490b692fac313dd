use Rattle.std.proofs.Common.{◌≡◌, ℕ, ◌+◌, ◌-◌, ◌<◌, List, length, ap, arith}
use Rattle.flash_sim.specs.Device.{Device}
use Rattle.flash_map.specs.declared.area.Area.{Area}
use Rattle.flash_map.specs.Area.{geometry_of, sectors_of}
use Rattle.item_laws.proofs.AreaReads.{length-sectors}
use Rattle.item_store.specs.SectorFormat.{SectorFormat, IsSectorFormat}
use Rattle.item_store.proofs.Areas.{unit_is}
use Rattle.item_store.proofs.HoldingSteps.{none-later, or-rules-out}
use Rattle.item_store.proofs.ReadFacts.{current_on, placed_inside}
use Rattle.item_store.proofs.KnownSlots.{known_on}
use Rattle.item_store.proofs.store.Store.may_have_later.Goals as goal

pub may_have-here-requires-clause-inside : goal.may_have-here-requires-clause-inside
may_have-here-requires-clause-inside g c =
    let d : Device = g.F.Flash.device c.args.flash.now in
    let area : Area = c.args.self.now.area in
    let law : IsSectorFormat (g.T.SlotSectors.format_of (geometry_of d area)) = g.met.T.SlotSectors.lawful (geometry_of d area) (unit_is d area (g.met.F.Flash.is_lawful c.args.flash.now) c.requires.stands.area.lawful) in
    placed_inside g.T.SlotSectors.role g.T.SlotSectors.format_of g.T.SlotSectors.kept d c.args.self.now law (g.met.F.Flash.is_lawful c.args.flash.now) c.requires.stands c.args.holder.now c.requires.placed

pub may_have_behind-requires-clause-inside : goal.may_have_behind-requires-clause-inside
may_have_behind-requires-clause-inside g c =
    let d : Device = g.F.Flash.device c.args.flash.now in
    let area : Area = c.args.self.now.area in
    let law : IsSectorFormat (g.T.SlotSectors.format_of (geometry_of d area)) = g.met.T.SlotSectors.lawful (geometry_of d area) (unit_is d area (g.met.F.Flash.is_lawful c.args.flash.now) c.requires.stands.area.lawful) in
    placed_inside g.T.SlotSectors.role g.T.SlotSectors.format_of g.T.SlotSectors.kept d c.args.self.now law (g.met.F.Flash.is_lawful c.args.flash.now) c.requires.stands c.args.holder.now c.requires.placed

pub may_have_behind-requires-clause-on : goal.may_have_behind-requires-clause-on
may_have_behind-requires-clause-on g c =
    let d : Device = g.F.Flash.device c.args.flash.now in
    let area : Area = c.args.self.now.area in
    let law : IsSectorFormat (g.T.SlotSectors.format_of (geometry_of d area)) = g.met.T.SlotSectors.lawful (geometry_of d area) (unit_is d area (g.met.F.Flash.is_lawful c.args.flash.now) c.requires.stands.area.lawful) in
    record { area = c.requires.stands.area; kept = c.requires.stands.opened; current = c.requires.stands.current; known = known_on g.T.SlotSectors.role g.T.SlotSectors.format_of g.T.SlotSectors.kept d c.args.self.now law (g.met.F.Flash.is_lawful c.args.flash.now) c.requires.stands c.tops-tops.result.now c.tops-tops.ensures }

pub returns-clause-rules : goal.returns-clause-rules
returns-clause-rules g c =
    let d : Device = g.F.Flash.device c.args.flash.now in
    let area : Area = c.args.self.now.area in
    let k : SectorFormat = g.T.SlotSectors.format_of (geometry_of d area) in
    let sectors : List (List ℕ) = sectors_of d area in
    let law : IsSectorFormat (g.T.SlotSectors.format_of (geometry_of d area)) = g.met.T.SlotSectors.lawful (geometry_of d area) (unit_is d area (g.met.F.Flash.is_lawful c.args.flash.now) c.requires.stands.area.lawful) in
    let inside = current_on g.T.SlotSectors.role g.T.SlotSectors.format_of g.T.SlotSectors.kept d c.args.self.now law (g.met.F.Flash.is_lawful c.args.flash.now) c.requires.stands in
    let low : c.args.self.now.current < length sectors = omega (arith, length-sectors d area) in
    let up : c.args.holder.now.slot - c.first_slot.result + 1 ≡ c.args.holder.now.slot - k.first + 1 = ap (λ (n : ℕ). c.args.holder.now.slot - n + 1) (c.first_slot.ensures.value (geometry_of d area)) in
    record {
      lower = λ none.
          let both = or-rules-out c.may_have-here.result.lower c.may_have_behind.result.lower c.or.result.lower c.or.ensures.lower none in
          none-later k sectors c.args.self.now.current c.args.ids.now.lower low c.args.holder.now (c.args.holder.now.slot - c.first_slot.result + 1) c.requires.placed.listed up (c.may_have-here.ensures.rules.lower both.0) (c.may_have_behind.ensures.rules.lower both.1);
      upper = λ none.
          let both = or-rules-out c.may_have-here.result.upper c.may_have_behind.result.upper c.or.result.upper c.or.ensures.upper none in
          none-later k sectors c.args.self.now.current c.args.ids.now.upper low c.args.holder.now (c.args.holder.now.slot - c.first_slot.result + 1) c.requires.placed.listed up (c.may_have-here.ensures.rules.upper both.0) (c.may_have_behind.ensures.rules.upper both.1);
    }

pub returns-clause-steps : goal.returns-clause-steps
returns-clause-steps g c = omega (arith, c.may_have-here.ensures.step, c.may_have_behind.ensures.steps)

use Rattle.std.proofs.Common.{ℕ, ◌-◌, refl, sym, subst, ◌∙◌, arith}
use Rattle.flash_sim.specs.Device.{Device}
use Rattle.flash_map.specs.declared.area.Area.{Area}
use Rattle.flash_map.specs.Area.{geometry_of, sector_at, sectors_of}
use Rattle.item_laws.proofs.AreaReads.{length-sectors}
use Rattle.item_store.specs.Lasts.{AreOthers}
use Rattle.item_store.specs.SectorFormat.{IsSectorFormat}
use Rattle.item_store.proofs.Areas.{unit_is}
use Rattle.item_store.proofs.HoldingSteps.{placed-latest, none-here}
use Rattle.item_store.proofs.ReadFacts.{current_on, placed_inside}
use Rattle.item_store.proofs.SearchSteps.{search-enough, search-before}
use Rattle.item_store.proofs.KnownSlots.{known_on}
use Rattle.item_store.proofs.store.Store.last_entry.Goals as goal

pub reach_before-reach-requires : goal.reach_before-reach-requires
reach_before-reach-requires g c =
    record {
      stands = c.requires.stands;
      latest = c.requires.latest;
    }

pub find_before-requires : goal.find_before-requires
find_before-requires g c =
    let d : Device = g.F.Flash.device c.args.flash.now in
    let area : Area = c.args.self.now.area in
    let law : IsSectorFormat (g.T.SlotSectors.format_of (geometry_of d area)) = g.met.T.SlotSectors.lawful (geometry_of d area) (unit_is d area (g.met.F.Flash.is_lawful c.args.flash.now) c.requires.stands.area.lawful) in
    record {
      on = record { area = c.requires.stands.area; kept = c.requires.stands.opened; current = current_on g.T.SlotSectors.role g.T.SlotSectors.format_of g.T.SlotSectors.kept d c.args.self.now law (g.met.F.Flash.is_lawful c.args.flash.now) c.requires.stands; known = known_on g.T.SlotSectors.role g.T.SlotSectors.format_of g.T.SlotSectors.kept d c.args.self.now law (g.met.F.Flash.is_lawful c.args.flash.now) c.requires.stands c.tops-tops.result.now c.tops-tops.ensures };
      rested = c.requires.stands.rested;
      inside = placed_inside g.T.SlotSectors.role g.T.SlotSectors.format_of g.T.SlotSectors.kept d c.args.self.now law (g.met.F.Flash.is_lawful c.args.flash.now) c.requires.stands c.args.latest.now
          (placed-latest g.T.SlotSectors.role g.T.SlotSectors.format_of g.T.SlotSectors.kept d c.args.self.now law (g.met.F.Flash.is_lawful c.args.flash.now) c.requires.stands c.args.id c.args.latest.now c.requires.latest);
    }

pub returns-then-reach-eq0-clause-last : goal.returns-then-reach-eq0-clause-last
returns-then-reach-eq0-clause-last g c =
    let d : Device = g.F.Flash.device c.args.flash.now in
    let area : Area = c.args.self.now.area in
    let law : IsSectorFormat (g.T.SlotSectors.format_of (geometry_of d area)) = g.met.T.SlotSectors.lawful (geometry_of d area) (unit_is d area (g.met.F.Flash.is_lawful c.args.flash.now) c.requires.stands.area.lawful) in
    let placed = placed-latest g.T.SlotSectors.role g.T.SlotSectors.format_of g.T.SlotSectors.kept d c.args.self.now law (g.met.F.Flash.is_lawful c.args.flash.now) c.requires.stands c.args.id c.args.latest.now c.requires.latest in
    let low = current_on g.T.SlotSectors.role g.T.SlotSectors.format_of g.T.SlotSectors.kept d c.args.self.now law (g.met.F.Flash.is_lawful c.args.flash.now) c.requires.stands in
    let none = none-here g.T.SlotSectors.role g.T.SlotSectors.format_of g.T.SlotSectors.kept d c.args.self.now law (g.met.F.Flash.is_lawful c.args.flash.now) c.requires.stands c.args.latest.now placed c.args.id (sym c.requires.latest) c.requires.other
    (subst (λ (n : ℕ). AreOthers (g.T.SlotSectors.format_of (geometry_of d area)) (sector_at (sectors_of d area) c.args.latest.now.sector) n (c.args.latest.now.slot - (g.T.SlotSectors.format_of (geometry_of d area)).first) c.args.id c.args.id) c.if-reach-eq0.true c.reach_before-reach.ensures.others) in
    c.find_before.ensures.last
    ∙ search-before (g.T.SlotSectors.format_of (geometry_of d area)) (sectors_of d area) c.args.self.now.current c.args.latest.now.sector c.requires.stands.current (omega (arith, length-sectors d area, low)) placed.listed.within law c.args.id c.args.latest.now (sym c.requires.latest) refl none

pub returns-then-reach-eq0-clause-steps : goal.returns-then-reach-eq0-clause-steps
returns-then-reach-eq0-clause-steps g c = omega (arith, c.reach_before-reach.ensures.step, c.find_before.ensures.steps)

pub last_before-requires : goal.last_before-requires
last_before-requires g c =
    record {
      stands = c.requires.stands;
      latest = c.requires.latest;
      other = c.requires.other;
      some_left = omega (arith, c.if-reach-eq0.false);
      few = c.reach_before-reach.ensures.few;
      others = c.reach_before-reach.ensures.others;
    }

pub returns-in-Some-clause-last : goal.returns-in-Some-clause-last
returns-in-Some-clause-last g c = c.in-Some.ensures.last

pub returns-in-Some-clause-steps : goal.returns-in-Some-clause-steps
returns-in-Some-clause-steps g c = omega (arith, c.reach_before-reach.ensures.step, c.last_before.ensures.step)

pub find_up_to-requires : goal.find_up_to-requires
find_up_to-requires g c =
    let d : Device = g.F.Flash.device c.args.flash.now in
    let area : Area = c.args.self.now.area in
    let law : IsSectorFormat (g.T.SlotSectors.format_of (geometry_of d area)) = g.met.T.SlotSectors.lawful (geometry_of d area) (unit_is d area (g.met.F.Flash.is_lawful c.args.flash.now) c.requires.stands.area.lawful) in
    record {
      on = record { area = c.requires.stands.area; kept = c.requires.stands.opened; current = current_on g.T.SlotSectors.role g.T.SlotSectors.format_of g.T.SlotSectors.kept d c.args.self.now law (g.met.F.Flash.is_lawful c.args.flash.now) c.requires.stands; known = known_on g.T.SlotSectors.role g.T.SlotSectors.format_of g.T.SlotSectors.kept d c.args.self.now law (g.met.F.Flash.is_lawful c.args.flash.now) c.requires.stands c.tops-tops.result.now c.tops-tops.ensures };
      rested = c.requires.stands.rested;
      inside = placed_inside g.T.SlotSectors.role g.T.SlotSectors.format_of g.T.SlotSectors.kept d c.args.self.now law (g.met.F.Flash.is_lawful c.args.flash.now) c.requires.stands c.args.latest.now
          (placed-latest g.T.SlotSectors.role g.T.SlotSectors.format_of g.T.SlotSectors.kept d c.args.self.now law (g.met.F.Flash.is_lawful c.args.flash.now) c.requires.stands c.args.id c.args.latest.now c.requires.latest);
    }

pub returns-clause-last : goal.returns-clause-last
returns-clause-last g c =
    let d : Device = g.F.Flash.device c.args.flash.now in
    let area : Area = c.args.self.now.area in
    let law : IsSectorFormat (g.T.SlotSectors.format_of (geometry_of d area)) = g.met.T.SlotSectors.lawful (geometry_of d area) (unit_is d area (g.met.F.Flash.is_lawful c.args.flash.now) c.requires.stands.area.lawful) in
    let placed = placed-latest g.T.SlotSectors.role g.T.SlotSectors.format_of g.T.SlotSectors.kept d c.args.self.now law (g.met.F.Flash.is_lawful c.args.flash.now) c.requires.stands c.args.id c.args.latest.now c.requires.latest in
    let low = current_on g.T.SlotSectors.role g.T.SlotSectors.format_of g.T.SlotSectors.kept d c.args.self.now law (g.met.F.Flash.is_lawful c.args.flash.now) c.requires.stands in
    c.find_up_to.ensures.last
    ∙ search-enough (g.T.SlotSectors.format_of (geometry_of d area)) (sectors_of d area) c.args.self.now.current c.args.latest.now.sector c.requires.stands.current (omega (arith, length-sectors d area, low)) placed.listed.within law c.args.id c.args.latest.now (sym c.requires.latest) refl

pub returns-clause-steps : goal.returns-clause-steps
returns-clause-steps g c = omega (arith, c.reach_before-reach.ensures.step, c.last_before.ensures.step, c.find_up_to.ensures.steps)

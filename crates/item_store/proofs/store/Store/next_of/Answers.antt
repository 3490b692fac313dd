use Rattle.std.proofs.Common.{◌≡◌, ◌⊎◌, ℕ, ◌+◌, ◌<◌, List, length, Option, sym, subst, ◌∙◌, arith}
use Rattle.std.specs.Prelude.{IfSome}
use Rattle.std.specs.Option.{option_map}
use Rattle.flash_sim.specs.Device.{Device}
use Rattle.flash_map.specs.declared.area.Area.{Area}
use Rattle.flash_map.specs.Area.{geometry_of, sectors_of}
use Rattle.item_laws.proofs.AreaReads.{length-sectors}
use Rattle.item_store.specs.declared.entry.Placed.{Placed}
use Rattle.item_store.specs.SectorFormat.{SectorFormat, IsSectorFormat}
use Rattle.item_store.specs.Lasts.{slots_left, views_left, WasGiven, IsLastIn, GivesNext}
use Rattle.item_store.specs.Listed.{items_on, IsPlacedOn}
use Rattle.item_store.proofs.Areas.{unit_is, open_inside}
use Rattle.item_store.proofs.AskingSteps.{IsLeastTo, KnownBytes, least-step, least-end, value, has-bytes, covered-all, covered-more}
use Rattle.item_store.proofs.KnownSlots.{known_on}
use Rattle.item_store.proofs.ViewSteps.{start-walks}
use Rattle.item_store.proofs.store.Store.next_of.Goals as goal

pub start-lasts-requires : goal.start-lasts-requires
start-lasts-requires g c =
    let d : Device = g.F.Flash.device c.args.flash.now in
    let area : Area = c.args.self.now.area in
    let law : IsSectorFormat (g.T.SlotSectors.format_of (geometry_of d area)) = g.met.T.SlotSectors.lawful (geometry_of d area) (unit_is d area (g.met.F.Flash.is_lawful c.args.flash.now) c.requires.stands.area.lawful) in
    record {
      on = record { area = c.requires.stands.area; kept = c.requires.stands.opened; current = c.requires.stands.current; known = known_on g.T.SlotSectors.role g.T.SlotSectors.format_of g.T.SlotSectors.kept d c.args.self.now law (g.met.F.Flash.is_lawful c.args.flash.now) c.requires.stands c.tops-tops.result.now c.tops-tops.ensures };
      rested = c.requires.stands.rested;
      range = c.requires.range;
    }

pub loop-placed-init : goal.loop-placed-init
loop-placed-init g c =
    let d : Device = g.F.Flash.device c.args.flash.now in
    let area : Area = c.args.self.now.area in
    let k : SectorFormat = g.T.SlotSectors.format_of (geometry_of d area) in
    let sectors : List (List ℕ) = sectors_of d area in
    let within = open_inside k d area c.args.self.now.current c.requires.stands.area.lawful c.requires.stands.current in
    let low : c.args.self.now.current < length sectors = omega (arith, within, length-sectors d area) in
    let start = c.start-lasts.ensures in
    record {
      at = start.at;
      views = start-walks k sectors c.args.self.now.current c.start-lasts.result c.args.steps.now c.start-lasts.new.steps low start.newest start.at.left start.step;
      from = start.least;
      to = start.most;
      so_far = λ bytes t. absurd (start.none t.placed t.covered);
    }

pub next-requires-clause-on : goal.next-requires-clause-on
next-requires-clause-on g c =
    let d : Device = g.F.Flash.device c.args.flash.now in
    let area : Area = c.args.self.now.area in
    let law : IsSectorFormat (g.T.SlotSectors.format_of (geometry_of d area)) = g.met.T.SlotSectors.lawful (geometry_of d area) (unit_is d area (g.met.F.Flash.is_lawful c.args.flash.now) c.requires.stands.area.lawful) in
    record { area = c.requires.stands.area; kept = c.requires.stands.opened; current = c.requires.stands.current; known = known_on g.T.SlotSectors.role g.T.SlotSectors.format_of g.T.SlotSectors.kept d c.args.self.now law (g.met.F.Flash.is_lawful c.args.flash.now) c.requires.stands c.tops-tops.result.now c.tops-tops.ensures }

pub next-requires-clause-rested : goal.next-requires-clause-rested
next-requires-clause-rested g c = c.requires.stands.rested

pub next-requires-clause-at : goal.next-requires-clause-at
next-requires-clause-at g c = c.loop-placed.invariant.at

pub lesser_bytes-found-requires : goal.lesser_bytes-found-requires
lesser_bytes-found-requires g c =
    record {
      stands = c.requires.stands;
      placed = subst (λ (o : Option Placed). IfSome o (IsPlacedOn g.T.SlotSectors.format_of (g.F.Flash.device c.args.flash.now) c.args.self.now.area c.args.self.now.current)) c.in-Some.is c.next.ensures.placed;
    }

pub loop-placed-smaller : goal.loop-placed-smaller
loop-placed-smaller g c =
    subst (λ (o : Option Placed). IfSome o (λ _. slots_left c.args.self.now.area.sectors c.args.self.now.current c.next.new.self < slots_left c.args.self.now.area.sectors c.args.self.now.current c.loop-placed.lasts)) c.in-Some.is c.next.ensures.fewer

pub loop-placed-preserved : goal.loop-placed-preserved
loop-placed-preserved g c =
    let d : Device = g.F.Flash.device c.args.flash.now in
    let area : Area = c.args.self.now.area in
    let k : SectorFormat = g.T.SlotSectors.format_of (geometry_of d area) in
    let sectors : List (List ℕ) = sectors_of d area in
    let law : IsSectorFormat (g.T.SlotSectors.format_of (geometry_of d area)) = g.met.T.SlotSectors.lawful (geometry_of d area) (unit_is d area (g.met.F.Flash.is_lawful c.args.flash.now) c.requires.stands.area.lawful) in
    let now = c.loop-placed.invariant in
    let last : IsLastIn k sectors c.loop-placed.lasts c.in-Some.placed × ((q : Placed) → WasGiven k sectors c.args.self.now.current c.next.new.self q → (q ≡ c.in-Some.placed) ⊎ WasGiven k sectors c.args.self.now.current c.loop-placed.lasts q) =
    subst (GivesNext k sectors c.args.self.now.current c.loop-placed.lasts c.next.new.self) c.in-Some.is c.next.ensures.next in
    let spared : c.next.new.steps + views_left k sectors c.args.self.now.current c.next.new.self < c.loop-placed.steps + views_left k sectors c.args.self.now.current c.loop-placed.lasts =
    subst (λ (o : Option Placed). IfSome o (λ _. c.next.new.steps + views_left k sectors c.args.self.now.current c.next.new.self < c.loop-placed.steps + views_left k sectors c.args.self.now.current c.loop-placed.lasts)) c.in-Some.is c.next.ensures.views.spared in
    record {
      at = c.next.ensures.at;
      views = omega (arith, spared, c.lesser_bytes-found.ensures.step, now.views);
      from = c.next.ensures.range.0 ∙ now.from;
      to = c.next.ensures.range.1 ∙ now.to;
      so_far = subst (IsLeastTo c.args.least c.args.most (items_on g.T.SlotSectors.format_of d area) (option_map (λ other. other.now) c.args.after)
          (KnownBytes g.T.SlotSectors.role g.T.SlotSectors.format_of g.T.SlotSectors.kept d c.args.self.now c.next.new.self)) (sym c.lesser_bytes-found.ensures.lesser)
          (least-step c.args.least c.args.most (items_on g.T.SlotSectors.format_of d area) (option_map (λ other. other.now) c.args.after)
          (KnownBytes g.T.SlotSectors.role g.T.SlotSectors.format_of g.T.SlotSectors.kept d c.args.self.now c.loop-placed.lasts)
          (KnownBytes g.T.SlotSectors.role g.T.SlotSectors.format_of g.T.SlotSectors.kept d c.args.self.now c.next.new.self)
          (value g.T.SlotSectors.role g.T.SlotSectors.format_of g.T.SlotSectors.kept d c.args.self.now c.in-Some.placed) (option_map (λ bytes. bytes.now) c.loop-placed.found)
          (λ bytes is. (c.in-Some.placed.id, has-bytes g.T.SlotSectors.role g.T.SlotSectors.format_of g.T.SlotSectors.kept d c.args.self.now law (g.met.F.Flash.is_lawful c.args.flash.now) c.requires.stands c.loop-placed.lasts c.args.least c.args.most now.from now.to c.in-Some.placed last.0 bytes is))
          (covered-more g.T.SlotSectors.role g.T.SlotSectors.format_of g.T.SlotSectors.kept d c.args.self.now law (g.met.F.Flash.is_lawful c.args.flash.now) c.requires.stands c.loop-placed.lasts c.next.new.self c.in-Some.placed last.1)
          now.so_far);
    }

pub returns-clause-next : goal.returns-clause-next
returns-clause-next g c =
    let d : Device = g.F.Flash.device c.args.flash.now in
    let area : Area = c.args.self.now.area in
    let k : SectorFormat = g.T.SlotSectors.format_of (geometry_of d area) in
    let sectors : List (List ℕ) = sectors_of d area in
    let law : IsSectorFormat (g.T.SlotSectors.format_of (geometry_of d area)) = g.met.T.SlotSectors.lawful (geometry_of d area) (unit_is d area (g.met.F.Flash.is_lawful c.args.flash.now) c.requires.stands.area.lawful) in
    let now = c.loop-placed.invariant in
    let all : (p : Placed) → IsLastIn k sectors c.loop-placed.lasts p → WasGiven k sectors c.args.self.now.current c.loop-placed.lasts p =
    subst (GivesNext k sectors c.args.self.now.current c.loop-placed.lasts c.next.new.self) c.in_default.is c.next.ensures.next in
    least-end c.args.least c.args.most (items_on g.T.SlotSectors.format_of d area) (option_map (λ other. other.now) c.args.after)
    (KnownBytes g.T.SlotSectors.role g.T.SlotSectors.format_of g.T.SlotSectors.kept d c.args.self.now c.loop-placed.lasts) (option_map (λ bytes. bytes.now) c.loop-placed.found)
    (covered-all g.T.SlotSectors.role g.T.SlotSectors.format_of g.T.SlotSectors.kept d c.args.self.now law (g.met.F.Flash.is_lawful c.args.flash.now) c.requires.stands c.loop-placed.lasts c.args.least c.args.most now.from now.to all) now.so_far

pub returns-clause-steps : goal.returns-clause-steps
returns-clause-steps g c =
    let d : Device = g.F.Flash.device c.args.flash.now in
    omega (arith, c.next.ensures.views.steps, c.loop-placed.invariant.views, length-sectors d c.args.self.now.area)

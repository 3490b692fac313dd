use Rattle.std.proofs.Common.{◌≡◌, ℕ, ◌-◌, ◌<◌, List, Option, None, sym, ap, subst, ◌∙◌, arith}
use Rattle.item_laws.specs.Live.{all_placed}
use Rattle.item_laws.proofs.AreaReads.{length-sectors}
use Rattle.std.specs.Prelude.{IfSome}
use Rattle.std.specs.List.{last_or}
use Rattle.item_laws.specs.Area.{open_sector}
use Rattle.item_laws.specs.Walk.{placed_up_to}
use Rattle.item_store.specs.Older.{IsNextOlder, newest_before}
use Rattle.item_store.proofs.OlderSteps.{walked-newest, walked-older}
use Rattle.flash_sim.specs.Device.{Device}
use Rattle.flash_map.specs.declared.area.Area.{Area}
use Rattle.flash_map.specs.Area.{geometry_of, sectors_of}
use Rattle.item_store.specs.SectorFormat.{SectorFormat, IsSectorFormat, slots}
use Rattle.item_store.proofs.Areas.{unit_is, open_inside}
use Rattle.item_store.proofs.walking.walk.Goals as goal

pub newest_up_to-requires-clause-on : goal.newest_up_to-requires-clause-on
newest_up_to-requires-clause-on g c =
    let d : Device = g.F.Flash.device c.args.flash.now in
    let area : Area = c.args.on.now.area.now in
    let k : SectorFormat = g.T.SlotSectors.format_of (geometry_of d area) in
    let within = open_inside k d area c.args.on.now.current c.requires.on.area.lawful c.requires.on.current in
    record { area = c.requires.on.area; kept = c.requires.on.kept; current = within; known = c.requires.on.known }

pub newest_up_to-requires-clause-inside : goal.newest_up_to-requires-clause-inside
newest_up_to-requires-clause-inside g c =
    rw c.in-Some.is at c.requires.inside

pub slots-all-requires : goal.slots-all-requires
slots-all-requires g c =
    let d : Device = g.F.Flash.device c.args.flash.now in
    let area : Area = c.args.on.now.area.now in
    let k : SectorFormat = g.T.SlotSectors.format_of (geometry_of d area) in
    let within = open_inside k d area c.args.on.now.current c.requires.on.area.lawful c.requires.on.current in
    record {
      area = c.requires.on.area;
      inside = within;
    }

pub newest_up_to-requires-in-None-clause-on : goal.newest_up_to-requires-in-None-clause-on
newest_up_to-requires-in-None-clause-on g c =
    let d : Device = g.F.Flash.device c.args.flash.now in
    let area : Area = c.args.on.now.area.now in
    let k : SectorFormat = g.T.SlotSectors.format_of (geometry_of d area) in
    let within = open_inside k d area c.args.on.now.current c.requires.on.area.lawful c.requires.on.current in
    record { area = c.requires.on.area; kept = c.requires.on.kept; current = within; known = c.requires.on.known }

pub newest_up_to-requires-in-None-clause-inside : goal.newest_up_to-requires-in-None-clause-inside
newest_up_to-requires-in-None-clause-inside g c =
    let d : Device = g.F.Flash.device c.args.flash.now in
    let area : Area = c.args.on.now.area.now in
    let k : SectorFormat = g.T.SlotSectors.format_of (geometry_of d area) in
    let within = open_inside k d area c.args.on.now.current c.requires.on.area.lawful c.requires.on.current in
    within

pub returns-in-Some : goal.returns-in-Some
returns-in-Some g c =
    let d : Device = g.F.Flash.device c.args.flash.now in
    let area : Area = c.args.on.now.area.now in
    let k : SectorFormat = g.T.SlotSectors.format_of (geometry_of d area) in
    let sectors : List (List ℕ) = sectors_of d area in
    let law : IsSectorFormat (g.T.SlotSectors.format_of (geometry_of d area)) = g.met.T.SlotSectors.lawful (geometry_of d area) (unit_is d area (g.met.F.Flash.is_lawful c.args.flash.now) c.requires.on.area.lawful) in
    let within = open_inside k d area c.args.on.now.current c.requires.on.area.lawful c.requires.on.current in
    let count = length-sectors d area in
    let inside : c.in-Some.sector < area.sectors = rw c.in-Some.is at c.requires.inside in
    let first = c.first_slot.ensures.value (geometry_of d area) in
    let limit : c.saturating_sub-limit.result ≡ c.in-Some.slot - k.first = c.saturating_sub-limit.ensures ∙ ap (λ (n : ℕ). c.in-Some.slot - n) first in
    record {
      older = subst (λ (after : Option (ℕ × ℕ)). IsNextOlder (all_placed (slots k) sectors) after c.newest_up_to.result) (sym c.in-Some.is)
          (walked-older k law sectors c.args.on.now.current c.in-Some.sector c.in-Some.slot c.saturating_sub-limit.result c.newest_up_to.result (sym c.requires.on.current) (omega arith) (omega arith) limit c.newest_up_to.ensures.last);
      before = subst (λ (after : Option (ℕ × ℕ)). IfSome after (λ place. c.newest_up_to.result ≡ newest_before k sectors place)) (sym c.in-Some.is)
          (c.newest_up_to.ensures.last
          ∙ ap (λ (p : ℕ). last_or None (placed_up_to (slots k) sectors p c.in-Some.sector c.saturating_sub-limit.result)) c.requires.on.current
          ∙ ap (λ (n : ℕ). last_or None (placed_up_to (slots k) sectors (open_sector k.reading sectors) c.in-Some.sector n)) limit);
      placed = c.newest_up_to.ensures.placed;
    }

pub returns-in-None : goal.returns-in-None
returns-in-None g c =
    let d : Device = g.F.Flash.device c.args.flash.now in
    let area : Area = c.args.on.now.area.now in
    let k : SectorFormat = g.T.SlotSectors.format_of (geometry_of d area) in
    let sectors : List (List ℕ) = sectors_of d area in
    let law : IsSectorFormat (g.T.SlotSectors.format_of (geometry_of d area)) = g.met.T.SlotSectors.lawful (geometry_of d area) (unit_is d area (g.met.F.Flash.is_lawful c.args.flash.now) c.requires.on.area.lawful) in
    let within = open_inside k d area c.args.on.now.current c.requires.on.area.lawful c.requires.on.current in
    let count = length-sectors d area in
    record {
      older = subst (λ (after : Option (ℕ × ℕ)). IsNextOlder (all_placed (slots k) sectors) after c.newest_up_to-in-None.result) (sym c.in-None.is)
          (walked-newest k law sectors c.args.on.now.current c.slots-all.result c.newest_up_to-in-None.result (sym c.requires.on.current) (omega arith) (omega (arith, c.slots-all.ensures.value)) c.newest_up_to-in-None.ensures.last);
      before = subst (λ (after : Option (ℕ × ℕ)). IfSome after (λ place. c.newest_up_to-in-None.result ≡ newest_before k sectors place)) (sym c.in-None.is) tt;
      placed = c.newest_up_to-in-None.ensures.placed;
    }

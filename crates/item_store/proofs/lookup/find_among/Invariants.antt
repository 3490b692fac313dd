use Rattle.std.proofs.Common.{◌≡◌, ◌+◌, ◌-◌, ◌≤◌, None}
use Rattle.flash_map.specs.Area.{geometry_of, sectors_of}
use Rattle.item_laws.specs.Live.{last_of}
use Rattle.item_laws.proofs.LastLemmas.{among}
use Rattle.item_store.specs.SectorFormat.{slots}
use Rattle.item_store.proofs.lookup.find_among.Given as goal

abbrev pub invariant-loop-place : goal.invariant-loop-place
invariant-loop-place g l = record {
  low : l.first ≤ l.place;
  high : l.place ≤ l.end;
  steps : l.steps ≤ l.initial.steps + (l.end - l.place);
  none : last_of (slots (g.T.SlotSectors.format_of (geometry_of (g.F.Flash.device l.flash) l.on.area.now))) l.id (among (slots (g.T.SlotSectors.format_of (geometry_of (g.F.Flash.device l.flash) l.on.area.now))) (sectors_of (g.F.Flash.device l.flash) l.on.area.now) l.on.current l.place (l.end - l.place)) ≡ None;
}

abbrev pub decreases-loop-place : goal.decreases-loop-place
decreases-loop-place g l = l.place

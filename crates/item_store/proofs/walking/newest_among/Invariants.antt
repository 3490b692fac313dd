use Rattle.std.proofs.Common.{◌≡◌, ◌-◌, ◌≤◌, None}
use Rattle.std.specs.List.{last_or}
use Rattle.flash_map.specs.Area.{sectors_of}
use Rattle.item_laws.proofs.LastLemmas.{among}
use Rattle.item_store.specs.SectorFormat.{slots}
use Rattle.item_store.specs.Listed.{format_on}
use Rattle.item_store.proofs.walking.newest_among.Given as goal

abbrev pub invariant-loop-place : goal.invariant-loop-place
invariant-loop-place g l = record {
  low : l.first ≤ l.place;
  high : l.place ≤ l.end;
  none : last_or None (among (slots (format_on g.T.SlotSectors.format_of (g.F.Flash.device l.flash) l.on.area.now)) (sectors_of (g.F.Flash.device l.flash) l.on.area.now) l.on.current l.place (l.end - l.place)) ≡ None;
}

abbrev pub decreases-loop-place : goal.decreases-loop-place
decreases-loop-place g l = l.place

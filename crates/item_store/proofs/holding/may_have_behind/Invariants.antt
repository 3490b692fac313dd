use Rattle.std.proofs.Common.{◌≡◌, ◌+◌, ◌<◌, ◌≤◌, false, length}
use Rattle.flash_map.specs.Area.{sectors_of}
use Rattle.item_laws.specs.RoundParts.{places_after}
use Rattle.item_store.specs.Latest.{last_of_id}
use Rattle.item_store.specs.Listed.{format_on}
use Rattle.item_store.specs.Seen.{behind}
use Rattle.item_store.proofs.holding.may_have_behind.Given as goal

abbrev pub invariant-loop-at : goal.invariant-loop-at
invariant-loop-at g l = record {
  within : l.at < l.on.area.now.sectors;
  steps : l.steps + length (places_after l.on.area.now.sectors l.on.current l.at) ≤ l.initial.steps + length (places_after l.on.area.now.sectors l.on.current l.place);
  lower : let k = format_on g.T.SlotSectors.format_of (g.F.Flash.device l.flash) l.on.area.now in let sectors = sectors_of (g.F.Flash.device l.flash) l.on.area.now in
      l.may.lower ≡ false → last_of_id l.ids.lower (behind k sectors l.on.current l.place) ≡ last_of_id l.ids.lower (behind k sectors l.on.current l.at);
  upper : let k = format_on g.T.SlotSectors.format_of (g.F.Flash.device l.flash) l.on.area.now in let sectors = sectors_of (g.F.Flash.device l.flash) l.on.area.now in
      l.may.upper ≡ false → last_of_id l.ids.upper (behind k sectors l.on.current l.place) ≡ last_of_id l.ids.upper (behind k sectors l.on.current l.at);
}

abbrev pub decreases-loop-at : goal.decreases-loop-at
decreases-loop-at g l = length (places_after l.on.area.now.sectors l.on.current l.at)

use Rattle.std.proofs.Common.{◌≡◌, ◌-◌, ◌≤◌, None}
use Rattle.flash_map.specs.Area.{unit_of, sectors_of}
use Rattle.nvs_store.specs.Scans.{last_wanted}
use Rattle.nvs_store.proofs.LastLemmas.{among}
use Rattle.nvs_store.proofs.lookup.find_among.Given as goal

abbrev pub invariant-loop-place : goal.invariant-loop-place
invariant-loop-place g l = record {
  low : l.first ≤ l.place;
  high : l.place ≤ l.end;
  none : last_wanted l.wanted (among (unit_of (g.F.Flash.device l.flash) l.area) (sectors_of (g.F.Flash.device l.flash) l.area) l.scan.current l.place (l.end - l.place)) ≡ None;
}

abbrev pub decreases-loop-place : goal.decreases-loop-place
decreases-loop-place g l = l.place

use Rattle.std.proofs.Common.{◌≡◌, ◌+◌, ◌-◌, ◌≤◌, min}
use Rattle.std.specs.List.{flat_map, range_with_len}
use Rattle.fcb_ring.specs.Changing.{sector_list}
use Rattle.fcb_ring.specs.Rings.{turned}
use Rattle.fcb_ring.specs.Standing.{entries_on, last_with}
use Rattle.fcb_ring.proofs.ring.Ring.last_with.Given as goal

abbrev pub invariant-loop-left : goal.invariant-loop-left
invariant-loop-left g l = record {
  at_most : l.left ≤ min l.self.used (l.self.area.sectors - 1);
  same : last_with l.prefix l.most (flat_map (λ k. sector_list (g.F.Flash.device l.flash) l.self.area (turned l.self.area.sectors l.self.oldest k)) (range_with_len 0 l.left))
      ≡ last_with l.prefix l.most (entries_on (g.F.Flash.device l.flash) l.self.area);
  read : l.steps ≡ l.initial.steps + (min l.self.used (l.self.area.sectors - 1) - l.left);
}

abbrev pub decreases-loop-left : goal.decreases-loop-left
decreases-loop-left g l = l.left

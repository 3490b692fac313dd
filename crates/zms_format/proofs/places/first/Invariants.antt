use Rattle.std.proofs.Common.{◌≡◌, ℕ, ◌<◌, ◌≤◌, false}
use Rattle.zms_cycle.specs.Areas.{kind_on}
use Rattle.flash_map.specs.Area.{sectors_of}
use Rattle.zms_format.specs.Lookup.{is_match}
use Rattle.zms_format.proofs.places.first.Given as goal

abbrev pub invariant-loop-place : goal.invariant-loop-place
invariant-loop-place g l = (k : ℕ) → l.fn.from ≤ k → k < l.place → is_match l.lookup (kind_on (g.F.Flash.device l.flash) l.area) (sectors_of (g.F.Flash.device l.flash) l.area) k ≡ false

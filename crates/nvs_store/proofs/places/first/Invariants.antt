use Rattle.std.proofs.Common.{◌≡◌, ℕ, ◌<◌, ◌≤◌, false}
use Rattle.flash_map.specs.Area.{unit_of, sectors_of}
use Rattle.nvs_store.specs.Lookup.{is_match}
use Rattle.nvs_store.proofs.places.first.Given as goal

abbrev pub invariant-loop-place : goal.invariant-loop-place
invariant-loop-place g l = (k : ℕ) → l.fn.from ≤ k → k < l.place → is_match l.lookup (unit_of (g.F.Flash.device l.flash) l.area) (sectors_of (g.F.Flash.device l.flash) l.area) k ≡ false

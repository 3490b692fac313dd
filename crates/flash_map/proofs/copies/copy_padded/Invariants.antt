use Rattle.std.proofs.Common.{◌≡◌, ◌+◌, ◌%◌, ◌-◌, ◌/◌, ◌<◌, ◌≤◌, ◌∷◌, [], false, take}
use Rattle.flash_map.specs.Area.{unit_of, Writes}
use Rattle.flash_map.specs.Copies.{source, pieces_of}
use Rattle.flash_map.specs.Spending.{Spends}
use Rattle.flash_map.specs.Touches.{Touches}
use Rattle.flash_map.specs.Units.{padded_bytes}
use Rattle.flash_map.proofs.copies.copy_padded.Given as goal

abbrev pub invariant-loop-done : goal.invariant-loop-done
invariant-loop-done g l = record {
  in_range : l.done ≤ l.all;
  whole_units : l.done % unit_of (g.F.Flash.device l.initial.flash) l.area ≡ 0;
  touches : Touches (l.area ∷ []) (g.F.Flash.device l.initial.flash) (g.F.Flash.device l.flash) false;
  written : Writes (g.F.Flash.device l.initial.flash) (g.F.Flash.device l.flash) l.area l.sector l.offset (take l.done (padded_bytes (unit_of (g.F.Flash.device l.initial.flash) l.area) (source (g.F.Flash.device l.initial.flash) l.area l.from)));
  spent : Spends (g.F.Flash.device l.initial.flash) (g.F.Flash.device l.flash) (l.done / unit_of (g.F.Flash.device l.initial.flash) l.area);
  whole_pieces : l.done < l.all → l.done % 32 ≡ 0;
  viewed : l.steps ≡ l.initial.steps + pieces_of l.done;
}

abbrev pub decreases-loop-done : goal.decreases-loop-done
decreases-loop-done g l = l.all - l.done

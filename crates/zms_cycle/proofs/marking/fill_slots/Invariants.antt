use Rattle.std.proofs.Common.{◌+◌, ◌-◌, ◌≤◌, ◌∷◌, [], false}
use Rattle.flash_sim.specs.declared.flash.Kind.TheVariants.{Rewritable}
use Rattle.flash_map.specs.Area.{sector_bytes, OthersStay}
use Rattle.flash_map.specs.Spending.{SpendsBetween}
use Rattle.flash_map.specs.Touches.{Touches}
use Rattle.zms_cycle.specs.Changes.{IsFilled, KeepsList}
use Rattle.zms_cycle.proofs.marking.fill_slots.Given as goal

abbrev pub invariant-loop-slot : goal.invariant-loop-slot
invariant-loop-slot g l = record {
  below : l.slot ≤ l.top;
  over : l.top - l.slot ≤ l.top - l.bottom;
  touches : Touches (l.area ∷ []) (g.F.Flash.device l.initial.flash) (g.F.Flash.device l.flash) false;
  others : OthersStay (g.F.Flash.device l.initial.flash) (g.F.Flash.device l.flash) l.area l.sector;
  keeps : KeepsList Rewritable 0 (sector_bytes (g.F.Flash.device l.initial.flash) l.area l.sector) (sector_bytes (g.F.Flash.device l.flash) l.area l.sector);
  filled : IsFilled (sector_bytes (g.F.Flash.device l.flash) l.area l.sector) l.slot l.top;
  read : l.steps ≤ l.initial.steps + (l.top - l.slot);
  spends : SpendsBetween (g.F.Flash.device l.initial.flash) (g.F.Flash.device l.flash) 0 (l.top - l.slot);
}

abbrev pub decreases-loop-slot : goal.decreases-loop-slot
decreases-loop-slot g l = l.slot

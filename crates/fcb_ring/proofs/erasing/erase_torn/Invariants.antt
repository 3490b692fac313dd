use Rattle.std.proofs.Common.{◌≡◌, ◌≤◌, ◌∷◌, [], false, take}
use Rattle.std.specs.Prelude.{count_by}
use Rattle.flash_sim.specs.Device.{counted}
use Rattle.flash_map.specs.Area.{sectors_of}
use Rattle.flash_map.specs.Touches.{Touches}
use Rattle.fcb_ring.specs.SectorStates.{is_torn, mended_up_to}
use Rattle.fcb_ring.proofs.erasing.erase_torn.Given as goal

abbrev pub invariant-loop-sector : goal.invariant-loop-sector
invariant-loop-sector g l = record {
  within : l.sector ≤ l.sector-end;
  touches : Touches (l.area ∷ []) (g.F.Flash.device l.initial.flash) (g.F.Flash.device l.flash) false;
  so_far : sectors_of (g.F.Flash.device l.flash) l.area ≡ mended_up_to l.sector (sectors_of (g.F.Flash.device l.initial.flash) l.area);
  idle : count_by is_torn (sectors_of (g.F.Flash.device l.initial.flash) l.area) ≡ 0 → g.F.Flash.device l.flash ≡ g.F.Flash.device l.initial.flash;
  spent : (g.F.Flash.device l.flash).spent ≡ counted (g.F.Flash.device l.initial.flash).spent (count_by is_torn (take l.sector (sectors_of (g.F.Flash.device l.initial.flash) l.area)));
}

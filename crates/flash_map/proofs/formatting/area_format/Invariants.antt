use Rattle.std.proofs.Common.{◌≡◌, ◌≤◌, ◌∷◌, [], false, take}
use Rattle.std.specs.Prelude.{count_by}
use Rattle.flash_sim.specs.Device.{counted}
use Rattle.flash_map.specs.Area.{sectors_of}
use Rattle.flash_map.specs.Touches.{Touches}
use Rattle.flash_map.specs.Sectors.{blanked_up_to}
use Rattle.flash_map.specs.Units.{is_written}
use Rattle.flash_map.proofs.formatting.area_format.Given as goal

abbrev pub invariant-loop-sector : goal.invariant-loop-sector
invariant-loop-sector g l = record {
  within : l.sector ≤ l.sector-end;
  touches : Touches (l.area ∷ []) (g.F.Flash.device l.initial.flash) (g.F.Flash.device l.flash) false;
  spent : (g.F.Flash.device l.flash).spent ≡ counted (g.F.Flash.device l.initial.flash).spent (count_by is_written (take l.sector (sectors_of (g.F.Flash.device l.initial.flash) l.area)));
  so_far : sectors_of (g.F.Flash.device l.flash) l.area ≡ blanked_up_to l.sector (sectors_of (g.F.Flash.device l.initial.flash) l.area);
}

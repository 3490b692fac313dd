use Rattle.std.proofs.Common.{◌≡◌, take}
use Rattle.std.specs.List.{list_all}
use Rattle.flash_map.specs.Area.{sectors_of}
use Rattle.flash_map.specs.Units.{is_erased}
use Rattle.mirror.proofs.areas.is_blank.Given as goal

abbrev pub invariant-loop-sector : goal.invariant-loop-sector
invariant-loop-sector g l = l.blank ≡ list_all is_erased (take l.sector (sectors_of (g.F.Flash.device l.flash) l.area))

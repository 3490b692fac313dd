-- Areas that are all FF.
use Rattle.std.specs.Prelude.{◌≡◌, Bool, true}
use Rattle.std.specs.List.{list_all}
use Rattle.flash_sim.specs.Device.{Device}
use Rattle.flash_map.specs.declared.area.Area.{Area}
use Rattle.flash_map.specs.Area.{sectors_of}
use Rattle.flash_map.specs.Units.{is_erased}

-- each byte of the area is FF
abbrev pub is_blank_on : Device → Area → Bool
is_blank_on d area = list_all is_erased (sectors_of d area)

-- The area is all FF afterwards only if it was all FF before.
abbrev pub StaysWritten : Device → Device → Area → Type 0
StaysWritten old new area = is_blank_on new area ≡ true → is_blank_on old area ≡ true

-- The unit of an area.
use Rattle.flash_sim.specs.Bank.{IsLawful}
use Rattle.flash_sim.specs.Device.{Device}
use Rattle.flash_map.specs.declared.area.Area.{Area}
use Rattle.flash_map.specs.Area.{IsLawfulArea, unit_of}
use Rattle.flash_map.specs.Units.{IsUnit}
use Rattle.flash_map.proofs.Rounding.{is_unit}

pub unit_is : (d : Device) (area : Area) → IsLawful d.banks d.bytes → IsLawfulArea d.banks area → IsUnit (unit_of d area)
unit_is d area lawful is_area = is_unit (unit_of d area) (lawful.each_bank area.bank is_area.has_bank).unit

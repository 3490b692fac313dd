-- Which results are `PowerLost`.
use Rattle.std.specs.Prelude.{Bool, true, false, Result, Ok, Err}
use Rattle.flash_map.specs.declared.faults.MountFault.{MountFault}
use Rattle.flash_map.specs.declared.faults.MountFault.TheVariants.{Damaged as HasDamage, PowerLost as MountLost, NoMemory}
use Rattle.flash_map.specs.declared.faults.WriteFault.{WriteFault}
use Rattle.flash_map.specs.declared.faults.WriteFault.TheVariants.{NoSpace, TooLong, PowerLost}

abbrev pub mount_lost : {T : Type 0} → Result T MountFault → Bool
mount_lost (Ok state) = false
mount_lost (Err (HasDamage damaged)) = false
mount_lost (Err MountLost) = true
mount_lost (Err NoMemory) = false

abbrev pub write_lost : {T : Type 0} → Result T WriteFault → Bool
write_lost (Ok done) = false
write_lost (Err (NoSpace need live)) = false
write_lost (Err TooLong) = false
write_lost (Err PowerLost) = true

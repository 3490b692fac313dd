-- What a command works on and may change.
use Rattle.std.specs.Prelude.{List}
use Rattle.flash_sim.specs.Device.{Device}
use Rattle.zs_host.specs.Outside.{Outside}
use Rattle.handlers.specs.Registry.{Registered}
use Rattle.image_jobs.specs.Stages.{Stage, stage}

-- the host's files, print and faults; and the flash with the registered handlers
pub record World : Type 0 where
  pub outside : Outside
  pub stage : Stage

abbrev pub with_stage : Outside → Stage → World
with_stage outside on_it = record { outside = outside; stage = on_it }

abbrev pub world : Outside → Device → List Registered → World
world outside bench registry = with_stage outside (stage bench registry)

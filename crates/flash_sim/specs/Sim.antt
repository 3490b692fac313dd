-- The device that a simulated flash is.
use Rattle.std.specs.Prelude.{ℕ, Option, Some, None, map}
use Rattle.flash_sim.specs.declared.sim.Sim.{Sim}
use Rattle.flash_sim.specs.declared.storage.Storage.{Ghosts}
use Rattle.flash_sim.specs.Device.{Device, Plan, Never, After}

abbrev pub plan_of : Option ℕ → Plan
plan_of (Some left) = After left
plan_of None = Never

module _ {S : Type 0} {g : Ghosts S} where
  abbrev pub device_of : Sim S g → Device
  device_of sim = record {
    banks = sim.banks.items;
    bytes = map g.held sim.stores.items;
    is_on = sim.is_on;
    losses = sim.losses;
    spent = sim.spent;
    loads = sim.loads;
    last_loss = sim.last_loss;
    plan = plan_of sim.plan;
  }

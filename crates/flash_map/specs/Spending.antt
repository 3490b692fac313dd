-- How many units and erases a call carries out.
use Rattle.std.specs.Prelude.{◌≡◌, ℕ, ◌≤◌, Result, OnOk, OnErr}
use Rattle.flash_sim.specs.Device.{Device, counted}

-- exactly so many
abbrev pub Spends : Device → Device → ℕ → Type 0
Spends old new units = new.spent ≡ counted old.spent units

-- so many, or fewer
abbrev pub SpendsAtMost : Device → Device → ℕ → Type 0
SpendsAtMost old new most = (units : ℕ) × (units ≤ most) × Spends old new units

-- at least and at most so many
pub record SpendsBetween (old new : Device) (least most : ℕ) : Type 0 where
  pub units : ℕ
  pub at_least : least ≤ units
  pub at_most : units ≤ most
  pub spent : new.spent ≡ counted old.spent units

-- A call that completes spends exactly so many. One that is cut spends no more.
pub record SpendsOrLoses {X E : Type 0} (old new : Device) (units : ℕ) (result : Result X E) : Type 0 where
  pub whole : OnOk result (Spends old new units)
  pub cut : OnErr result (SpendsAtMost old new units)

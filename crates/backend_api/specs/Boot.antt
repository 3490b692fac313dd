-- What a mount of an area spends, by what commands that were cut left to it. `owing` says that a mount
-- of these sectors spends at most so many units and erases, cut or not.
use Rattle.std.specs.Prelude.{◌≡◌, ℕ, Bool, true, List}
use Rattle.flash_sim.specs.Device.{Device}
use Rattle.flash_map.specs.declared.area.Area.{Area}
use Rattle.flash_map.specs.declared.area.Geometry.{Geometry}
use Rattle.flash_map.specs.Area.{geometry_of, sectors_of}
use Rattle.flash_map.specs.Spending.{SpendsAtMost}

-- at most so many, as the area stands on this device
abbrev pub Owes : (Area → Geometry → List (List ℕ) → ℕ → Type 0) → Device → Area → ℕ → Type 0
Owes owing d area most = owing area (geometry_of d area) (sectors_of d area) most

-- A mount spends at most `limit` units and erases, and at most what the area owes. It leaves no more to
-- the next one.
pub record MountUnits (owing : Area → Geometry → List (List ℕ) → ℕ → Type 0) (limit : ℕ) (old new : Device)
    (area : Area) : Type 0 where
  pub at_most : SpendsAtMost old new limit
  pub owed : (most : ℕ) → Owes owing old area most → SpendsAtMost old new most
  pub left : (most : ℕ) → Owes owing old area most → Owes owing new area most

-- A command spends at most `limit` units and erases. If it was cut, it leaves at most `boot` of them to
-- the next mount.
pub record CommandUnits (owing : Area → Geometry → List (List ℕ) → ℕ → Type 0) (boot limit : ℕ)
    (old new : Device) (area : Area) (lost : Bool) : Type 0 where
  pub at_most : SpendsAtMost old new limit
  pub owes : lost ≡ true → Owes owing new area boot

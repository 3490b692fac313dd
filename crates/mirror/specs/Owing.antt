-- What a mount of a mirror spends, by what the calls that were cut left to its areas.
use Rattle.std.specs.Prelude.{◌≡◌, ◌⊎◌, ℕ, ◌+◌, ◌≤◌, ◌==◌, List, Option, None, if◌then◌else◌}
use Rattle.std.specs.FinMap as finite
use Rattle.flash_sim.specs.Device.{Device}
use Rattle.flash_map.specs.declared.area.Area.{Area}
use Rattle.flash_map.specs.declared.area.Geometry.{Geometry}
use Rattle.flash_map.specs.declared.faults.Damaged.{Damaged}
use Rattle.flash_map.specs.Area.{geometry_of}
use Rattle.flash_map.specs.On.{on, HoldsOn}
use Rattle.flash_map.specs.Spending.{SpendsAtMost}
use Rattle.fcb_ring.specs.Standing.{erases_on}
use Rattle.backend_api.specs.Boot.{Owes}
use Rattle.backend_api.specs.Map.{Map}
use Rattle.migrator.specs.Active.{active_on}
use Rattle.migrator.specs.Choosing.{choice_units}
use Rattle.migrator.specs.Migrating.{fill_units}
use Rattle.mirror.specs.Mounting.{HoldsMap, other_units}
use Rattle.mirror.specs.Trusted.{trusted_on}

-- ---- the selector

-- A mount of the selector erases no more afterwards than before, or at most one sector.
abbrev pub LeavesDue : Device → Device → Area → Type 0
LeavesDue old new selector =
    (due : ℕ) → 1 ≤ due → erases_on old selector ≤ due → erases_on new selector ≤ due

-- the most units and erases of a mount of the selector, which then names the trusted area if it named
-- another one
abbrev pub naming_units : List Area → Device → Area → ℕ
naming_units areas d selector =
    erases_on d selector + (if active_on areas d == trusted_on areas d then 0 else choice_units d selector)

-- ---- commands

-- the area owes at most what one cut command leaves to the next mount
abbrev pub OwesBoot : (Area → Geometry → List (List ℕ) → ℕ → Type 0) → (Area → Geometry → ℕ) → Device → Area
    → Type 0
OwesBoot owing boot d area = Owes owing d area (boot area (geometry_of d area))

-- Power was lost in a command on both areas. One of them owes at most what one cut command leaves. A
-- mount of the other one has nothing to do.
abbrev pub OneOwes : (Area → Geometry → List (List ℕ) → ℕ → Type 0) → (Area → Geometry → ℕ)
    → (Area → Geometry → List (List ℕ) → Type 0) → Device → Area → Area → Type 0
OneOwes owing boot rests d trusted other =
    (OwesBoot owing boot d trusted × HoldsOn rests d other)
    ⊎ (HoldsOn rests d trusted × OwesBoot owing boot d other)

-- ---- mounts

module _ (owing : Area → Geometry → List (List ℕ) → ℕ → Type 0)
    (damage : Area → Geometry → List (List ℕ) → Option Damaged)
    (contents : Area → Geometry → List (List ℕ) → Map) where
  -- The other area was opened: that spent what it owed, and at most one repair for these settings. If it
  -- held them, it was not repaired, and owes no more than before.
  pub record OpensOwed (old new : Device) (area : Area) (settings : Map) : Type 0 where
    pub owed : (most : ℕ) → Owes owing old area most
        → SpendsAtMost old new (most + fill_units (geometry_of old area) (finite.len settings))
    pub held : HoldsMap damage contents old area settings → (most : ℕ) → Owes owing old area most
        → SpendsAtMost old new most × Owes owing new area most

  -- At most `first` units and erases were spent in the selector. Both areas were mounted then: the trusted
  -- one spent at most what it owed, and owes no more than before. The other one spent at most what it owed,
  -- and one repair for the map's names; if it held the map, no repair, and it owes no more than before.
  pub record MountsOwed (first : ℕ) (old new : Device) (trusted other : Area) : Type 0 where
    pub owed : (most : ℕ) → Owes owing old trusted most
        → SpendsAtMost old new
        (first
        + (most + other_units (geometry_of old other) (finite.len (on contents old trusted))))
    pub both : (most more : ℕ) → Owes owing old trusted most → Owes owing old other more
        → SpendsAtMost old new
        (first
        + (most + (more + fill_units (geometry_of old other) (finite.len (on contents old trusted)))))
    pub held :
        on damage old trusted ≡ None → HoldsMap damage contents old other (on contents old trusted)
        → (most more : ℕ) → Owes owing old trusted most → Owes owing old other more
        → SpendsAtMost old new (first + (most + more)) × Owes owing new other more
    pub left : (most : ℕ) → Owes owing old trusted most → Owes owing new trusted most

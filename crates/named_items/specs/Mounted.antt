-- A mounted store of settings, before and after a call.
use Rattle.std.specs.Prelude.{◌≡◌, ℕ, Bool, true, false, List, Option, None}
use Rattle.flash_sim.specs.Device.{Device}
use Rattle.flash_map.specs.declared.area.Area.{Area}
use Rattle.flash_map.specs.declared.area.Geometry.{Geometry}
use Rattle.flash_map.specs.declared.faults.Damaged.{Damaged}
use Rattle.flash_map.specs.Lawful.{IsLawfulFor}
use Rattle.flash_map.specs.On.{on, StandsOn}
use Rattle.item_laws.specs.Items.{Items}
use Rattle.named_items.specs.Numbering.{Numbering}
use Rattle.named_items.specs.Pairs.{HasNoOrphans}

-- The store is mounted on a lawful area, and what it keeps in memory is true of it. No
-- item is an orphan.
pub record IsMounted {S : Type 0} (mounted_on : S → Area) (stands : S → Geometry → List (List ℕ) → Type 0)
    (contents : Area → Geometry → List (List ℕ) → Items) (numbering : Area → Numbering) (d : Device)
    (store : S)
    : Type 0 where
  pub lawful : IsLawfulFor d.banks (mounted_on store)
  pub up : StandsOn mounted_on stands d store
  pub clean : HasNoOrphans (numbering (mounted_on store)) (on contents d (mounted_on store))

-- what a mount on this area gives: such a store
pub record IsMountedOn {S : Type 0} (mounted_on : S → Area) (stands : S → Geometry → List (List ℕ) → Type 0)
    (contents : Area → Geometry → List (List ℕ) → Items) (numbering : Area → Numbering) (d : Device)
    (area : Area) (store : S) : Type 0 where
  pub on_it : mounted_on store ≡ area
  pub up : StandsOn mounted_on stands d store
  pub clean : HasNoOrphans (numbering area) (on contents d area)

-- The store keeps its area, which shows no damage. What it keeps in memory stays true; if power was
-- lost, it is down.
pub record StaysMounted {S : Type 0} (mounted_on : S → Area) (stands : S → Geometry → List (List ℕ) → Type 0)
    (runs : S → Bool) (damage : Area → Geometry → List (List ℕ) → Option Damaged) (e : Device) (old new : S)
    (lost : Bool) : Type 0 where
  pub area : mounted_on new ≡ mounted_on old
  pub sound : on damage e (mounted_on old) ≡ None
  pub up : lost ≡ false → StandsOn mounted_on stands e new
  pub down : lost ≡ true → runs new ≡ false

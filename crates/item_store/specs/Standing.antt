-- When a store stands on the bytes of its area. A format is that of the area's geometry.
use Rattle.std.specs.Prelude.{◌≡◌, ℕ, List, None, Result, Ok, Err}
use Rattle.flash_sim.specs.Device.{Device}
use Rattle.flash_sim.specs.declared.flash.Bank.{Bank}
use Rattle.flash_sim.specs.declared.flash.PowerLost.{PowerLost}
use Rattle.flash_map.specs.declared.area.Area.{Area}
use Rattle.flash_map.specs.declared.area.Role.{Role}
use Rattle.flash_map.specs.Area.{sectors_of}
use Rattle.flash_map.specs.Lawful.{IsLawfulFor}
use Rattle.flash_map.specs.Spending.{SpendsBetween}
use Rattle.item_laws.specs.Items.{Items, items_of}
use Rattle.item_laws.specs.Area.{open_sector}
use Rattle.item_laws.specs.Forms.{AtRest}
use Rattle.item_laws.specs.Live as live
use Rattle.item_store.specs.SectorFormat.{Range, SectorFormat, slots}
use Rattle.item_store.specs.Versions.{KeepsVersions}

-- an area of this role, lawful on these banks
pub record IsStoreArea (role : Role) (banks : List Bank) (area : Area) : Type 0 where
  pub lawful : IsLawfulFor banks area
  pub role_is : area.role ≡ role

-- ids with their bytes, from the oldest to the newest
abbrev pub list_of : SectorFormat → List (List ℕ) → List (ℕ × List ℕ)
list_of k sectors = live.list_of (slots k) sectors

abbrev pub items : SectorFormat → List (List ℕ) → Items
items k sectors = items_of (list_of k sectors)

-- ---- the same of an area on a device

abbrev pub list_at : SectorFormat → Device → Area → List (ℕ × List ℕ)
list_at k d area = list_of k (sectors_of d area)

abbrev pub items_at : SectorFormat → Device → Area → Items
items_at k d area = items k (sectors_of d area)

abbrev pub IsUndamagedAt : SectorFormat → Device → Area → Type 0
IsUndamagedAt k d area = k.damage (sectors_of d area) ≡ None

-- a mount has nothing to do
abbrev pub RestsAt : SectorFormat → Device → Area → Type 0
RestsAt k d area = AtRest k.reading (sectors_of d area) (open_sector k.reading (sectors_of d area))

-- the sectors read as the same items, of each of which the newest versions stay, and are not
-- damaged
pub record KeepsItems (k : SectorFormat) (old new : List (List ℕ)) : Type 0 where
  pub items : items k new ≡ items k old
  pub versions : KeepsVersions (list_of k old) (list_of k new)
  pub undamaged : k.damage new ≡ None

-- a call that completes spends from the least to the most units of the range
abbrev pub SpendsIn : Device → Device → Range → Type 0
SpendsIn old new range = SpendsBetween old new range.least range.most

-- a call that was cut
abbrev pub SpendsUpTo : Device → Device → Range → Type 0
SpendsUpTo old new range = SpendsBetween old new 0 range.lost

-- a call, by how it ended
abbrev pub SpendsBy : {T : Type 0} → Device → Device → Range → Result T PowerLost → Type 0
SpendsBy old new range (Ok value) = SpendsIn old new range
SpendsBy old new range (Err lost) = SpendsUpTo old new range

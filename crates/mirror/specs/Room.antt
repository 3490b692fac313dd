-- How much a map may cost, so that no put of its settings finds an area full.
use Rattle.std.specs.Prelude.{◌≡◌, ◌⊎◌, ℕ, ◌-◌, ◌*◌, ◌+◌, ◌<◌, ◌≤◌, ◌==◌, ◌&&◌, Bool, true, not, nat_le, List, count_by, replicate}
use Rattle.std.specs.List.{list_all}
use Rattle.std.specs.FinMap.{empty, contains_key, keys}
use Rattle.flash_sim.specs.Device.{Device}
use Rattle.flash_map.specs.declared.area.Area.{Area}
use Rattle.flash_map.specs.declared.area.Geometry.{Geometry}
use Rattle.flash_map.specs.declared.area.Role.TheVariants.{Nvs, Zms}
use Rattle.flash_map.specs.Area.{geometry_of, value_limit}
use Rattle.setting_name.specs.Name.{name_limit}
use Rattle.backend_api.specs.Map.{Map}
use Rattle.backend_api.specs.Room.{Room}
use Rattle.named_items.specs.PairRoom.{pair_room}
use Rattle.migrator.specs.Migrating.{room_on}

-- The prices from which the `Room` of an area follows, if a name and its value are an item each.
pub record Prices : Type 0 where
  -- what an item of this length costs with its entry, in bytes
  pub price : ℕ → ℕ
  -- what a count of names costs
  pub counted : ℕ
  -- what a sector has for items
  pub cap : ℕ
  -- the class of a name, and how many names of one class an area may have
  pub class : List ℕ → ℕ
  pub most : ℕ

-- how many names have the class of this one
abbrev pub alike : Prices → Map → List ℕ → ℕ
alike p settings name = count_by (λ other. p.class other == p.class name) (keys settings)

-- the name is new, and its class has as many names as it may
abbrev pub too_many : Prices → Map → List ℕ → Bool
too_many p settings name = not (contains_key settings name) && nat_le p.most (alike p settings name)

-- the `Room` that follows from the prices
abbrev pub room_by : Prices → Room
room_by p = pair_room p.price p.cap p.counted (too_many p)

-- The `Room` follows from these prices, and longer items cost no less.
pub record IsRoomBy (room : Room) (p : Prices) : Type 0 where
  pub cap : room.cap ≡ p.cap
  pub cost : (settings : Map) → room.cost settings ≡ (room_by p).cost settings
  pub need : (settings : Map) (name value : List ℕ)
      → room.need settings name value ≡ (room_by p).need settings name value
  pub largest : (settings : Map) (name value : List ℕ)
      → room.largest settings name value ≡ (room_by p).largest settings name value
  pub too_many : (settings : Map) (name : List ℕ) → room.too_many settings name ≡ too_many p settings name
  pub rises : (short long : ℕ) → short ≤ long → p.price short ≤ p.price long

-- areas of these roles can be mirrored
abbrev pub IsMirrored : Area → Type 0
IsMirrored area = (area.role ≡ Nvs) ⊎ (area.role ≡ Zms)

-- the greatest cost of one write: a new name of the greatest length, with a value as long as
-- the area allows
abbrev pub greatest : Room → ℕ → ℕ
greatest room limit = room.largest empty (replicate name_limit 0x6E) (replicate limit 0)

-- The most that a map may cost in an area of so many sectors. One of the sectors is kept free, and
-- each of the others has room for one write more as long as it is no fuller than this.
abbrev pub mirror_room : Room → ℕ → ℕ → ℕ
mirror_room room sectors limit = (sectors - 1) * (room.cap - greatest room limit)

-- no class has more names than it may
abbrev pub HasFewNames : Prices → Map → Type 0
HasFewNames p settings = (name : List ℕ) → contains_key settings name ≡ true → alike p settings name ≤ p.most

-- in a list of classes, each stands at most `most` times
abbrev pub have_few : ℕ → List ℕ → Bool
have_few most classes = list_all (λ class. nat_le (count_by (λ other. other == class) classes) most) classes

-- the map fits an area of so many sectors
pub record Fits (room : Room) (p : Prices) (sectors limit : ℕ) (settings : Map) : Type 0 where
  pub cost : room.cost settings ≤ mirror_room room sectors limit
  pub few : HasFewNames p settings

-- with the put it would cost more than it may
abbrev pub IsTight : Room → ℕ → ℕ → Map → List ℕ → List ℕ → Type 0
IsTight room sectors limit settings name value =
    mirror_room room sectors limit < room.cost settings + room.need settings name value

-- ---- on a device, by what a backend says of areas

abbrev pub prices_on : (Area → Geometry → Prices) → Device → Area → Prices
prices_on prices d area = prices area (geometry_of d area)

abbrev pub FitsOn : (Area → Geometry → Room) → (Area → Geometry → Prices) → Device → Area → Map → Type 0
FitsOn room prices d area settings =
    Fits (room_on room d area) (prices_on prices d area) area.sectors (value_limit area) settings

abbrev pub IsTightOn : (Area → Geometry → Room) → Device → Area → Map → List ℕ → List ℕ → Type 0
IsTightOn room d area settings name value =
    IsTight (room_on room d area) area.sectors (value_limit area) settings name value

abbrev pub too_many_on : (Area → Geometry → Room) → Device → Area → Map → List ℕ → Bool
too_many_on room d area settings name = (room_on room d area).too_many settings name

-- What the table knows of a map of areas, by its bytes.
use Rattle.std.specs.Prelude.{ℕ, ◌+◌, min, max, ◌&&◌, ◌||◌, nat_lt, Bool, not, List, length, find, Option, Some, None, unwrap_or, if◌then◌else◌}
use Rattle.std.specs.List.{range_with_len}
use Rattle.std.specs.Option.{option_or}
use Rattle.flash_sim.specs.Device.{Device}
use Rattle.flash_sim.specs.declared.flash.Bank.{Bank}
use Rattle.flash_map.specs.declared.area.Area.{Area}
use Rattle.flash_map.specs.declared.area.Geometry.{Geometry}
use Rattle.flash_map.specs.declared.faults.Damaged.{Damaged}
use Rattle.flash_map.specs.Area.{value_limit}
use Rattle.flash_map.specs.Map.{has_label}
use Rattle.flash_map.specs.On.{on}
use Rattle.backend_api.specs.Map.{Map}
use Rattle.backend_api.specs.Room.{Room, command_units}
use Rattle.migrator.specs.Active.{active_on}
use Rattle.migrator.specs.Areas.{first_store, is_store_at, target}
use Rattle.mirror.specs.Room.{Prices, mirror_room}
use Rattle.mirror.specs.Trusted.{is_blank_at, trusted_on}
use Rattle.session_table.specs.Bench.{area_at, geometry_in}
use Rattle.mirror_session.specs.State.{State, Rules}

-- What the bytes of areas mean to the stores that work on them. On bytes that rest, a mount has
-- nothing to do. On bytes that owe so many units and erases, it spends at most these.
pub record Meanings : Type 1 where
  pub damage : Area → Geometry → List (List ℕ) → Option Damaged
  pub contents : Area → Geometry → List (List ℕ) → Map
  pub rests : Area → Geometry → List (List ℕ) → Type 0
  pub room : Area → Geometry → Room
  pub prices : Area → Geometry → Prices
  pub owes : Area → Geometry → List (List ℕ) → ℕ → Type 0

abbrev pub meanings : (Area → Geometry → List (List ℕ) → Option Damaged)
    → (Area → Geometry → List (List ℕ) → Map) → (Area → Geometry → List (List ℕ) → Type 0)
    → (Area → Geometry → Room) → (Area → Geometry → Prices)
    → (Area → Geometry → List (List ℕ) → ℕ → Type 0) → Meanings
meanings damage contents rests room prices owes = record {
  damage = damage;
  contents = contents;
  rests = rests;
  room = room;
  prices = prices;
  owes = owes;
}

-- a bench, and whether the last mount was whole and no area was replaced after it
pub record Moment : Type 0 where
  pub device : Device
  pub whole : Bool

abbrev pub moment : Device → Bool → Moment
moment d whole = record { device = d; whole = whole }

-- ---- places

-- the store area beside the one at this place
abbrev pub beside_in : List Area → ℕ → ℕ
beside_in areas place = unwrap_or (target areas place) place

-- the area that the selector names is all FF, and the one beside it is not
abbrev pub is_gone : List Area → Device → Bool
is_gone areas d =
    is_blank_at areas d (active_on areas d) && not (is_blank_at areas d (beside_in areas (active_on areas d)))

abbrev pub is_labelled : List Area → List ℕ → ℕ → Bool
is_labelled areas label place = is_store_at areas place && has_label label (area_at areas place)

-- the store area with this label
abbrev pub labelled : List Area → List ℕ → Option ℕ
labelled areas label = find (is_labelled areas label) (range_with_len 0 (length areas))

-- ---- numbers

-- what a put needs and what all settings cost, if an area of so many sectors has no room for it
abbrev pub lacking : Room → ℕ → ℕ → Map → List ℕ → List ℕ → Option (ℕ × ℕ)
lacking room sectors limit settings name value =
    if nat_lt (mirror_room room sectors limit) (room.cost settings + room.need settings name value)
    then Some (room.need settings name value, room.cost settings)
    else None

-- the room of the area at this place
abbrev pub room_at : Meanings → List Area → List Bank → ℕ → Room
room_at m areas banks place = m.room (area_at areas place) (geometry_in banks (area_at areas place))

abbrev pub lacking_at : Meanings → List Area → List Bank → Map → List ℕ → List ℕ → ℕ → Option (ℕ × ℕ)
lacking_at m areas banks settings name value place =
    lacking (room_at m areas banks place) (area_at areas place).sectors (value_limit (area_at areas place))
    settings name value

abbrev pub is_too_many_at : Meanings → List Area → List Bank → Map → List ℕ → ℕ → Bool
is_too_many_at m areas banks settings name place = (room_at m areas banks place).too_many settings name

abbrev pub most_at : List Area → List Bank → ℕ → ℕ
most_at areas banks place = command_units (geometry_in banks (area_at areas place))

-- the places of the two store areas, in the order of the map
abbrev pub lower_place : List Area → ℕ
lower_place areas = min (first_store areas) (beside_in areas (first_store areas))

abbrev pub higher_place : List Area → ℕ
higher_place areas = max (first_store areas) (beside_in areas (first_store areas))

-- the rules of the two areas, for a run whose last count of units is `last`
abbrev pub rules_of : Meanings → List Area → List Bank → ℕ → Rules
rules_of m areas banks last = record {
  beside = beside_in areas;
  label = λ place. (area_at areas place).label.bytes;
  place = labelled areas;
  is_too_many = λ settings name.
      is_too_many_at m areas banks settings name (lower_place areas)
      || is_too_many_at m areas banks settings name (higher_place areas);
  lacks = λ settings name value.
      option_or
      (lacking_at m areas banks settings name value (lower_place areas))
      (lacking_at m areas banks settings name value (higher_place areas));
  most = most_at areas banks (lower_place areas) + most_at areas banks (higher_place areas);
  last = last;
}

-- ---- states

abbrev pub state_of : Meanings → List Area → Moment → State
state_of m areas now = record {
  settings = on m.contents now.device (area_at areas (trusted_on areas now.device));
  other = on m.contents now.device (area_at areas (beside_in areas (trusted_on areas now.device)));
  named = active_on areas now.device;
  gone = is_gone areas now.device;
  is_on = now.device.is_on && now.whole;
  is_whole = now.whole;
}

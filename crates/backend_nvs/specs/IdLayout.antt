-- Where the settings of an NVS area are among its items: the count of names at 0x8000, the names above
-- it, and each value 0x4000 above its name. An area has at most 511 names.
use Rattle.std.specs.Prelude.{◌≡◌, ℕ, ◌+◌, ◌*◌, ◌/◌, ◌%◌, ◌^◌, ◌<◌, ◌≤◌, ◌∷◌, [], min, Bool, false, true, not, ◌&&◌, List, length, slice_index, Option, Some, None, ◌==◌, nat_le, if◌then◌else◌}
use Rattle.std.proofs.Common.{cond, refl, ap, arith}
use Rattle.std.proofs.lemmas.Bool.{false≢true}
use Rattle.std.proofs.lemmas.Bool.Decides.{nat_tests}
use Rattle.std.specs.FinMap.{contains_key, len}
use Rattle.flash_map.specs.declared.area.Area.{Area}
use Rattle.flash_map.specs.declared.area.Geometry.{Geometry}
use Rattle.flash_map.specs.Area.{value_limit}
use Rattle.item_laws.specs.Items.{Items}
use Rattle.backend_api.specs.Map.{Map}
use Rattle.backend_api.specs.Room.{Room}
use Rattle.named_items.specs.Numbering.{Numbering, IsNumbering}
use Rattle.named_items.specs.PairRoom.{IsCountCost}
use Rattle.named_items.specs.Pairs.{settings_in}
use Rattle.named_items.specs.Putting.{room_in}

-- an item of another length than two bytes counts as 0
abbrev pub number_of : List ℕ → ℕ
number_of bytes = if length bytes == 2 then min 511 (slice_index bytes 0 + 256 * slice_index bytes 1) else 0

abbrev pub count_of : Option (List ℕ) → ℕ
count_of None = 0
count_of (Some bytes) = number_of bytes

abbrev pub is_count : Option (List ℕ) → Bool
is_count None = false
is_count (Some bytes) = length bytes == 2

-- the count in two bytes, the low one first
abbrev pub count_bytes : ℕ → List ℕ
count_bytes count = count % 256 ∷ count / 256 ∷ []

abbrev pub nvs_numbering : ℕ → Numbering
nvs_numbering limit = record {
  count_id = 0x8000;
  count_of = count_of;
  is_count = is_count;
  count_bytes = count_bytes;
  first = 0x8001;
  step = 0x4000;
  is_candidate = λ id name. true;
  longest = limit;
}

-- how the items of an area are numbered
abbrev pub numbering_of : Area → Numbering
numbering_of area = nvs_numbering (value_limit area)

-- the settings that they read as
abbrev pub settings_of : Area → Items → Map
settings_of area items = settings_in (numbering_of area) items

-- ---- room

-- the count has two bytes
abbrev pub nvs_counted : (ℕ → ℕ) → ℕ
nvs_counted price = price 2

-- a new name would be the 512th
abbrev pub too_many : Map → List ℕ → Bool
too_many settings name = not (contains_key settings name) && nat_le 511 (len settings)

abbrev pub nvs_room : (Geometry → ℕ → ℕ) → (Geometry → ℕ) → Geometry → Room
nvs_room price cap geometry = room_in nvs_counted too_many price cap geometry

-- ---- laws of the numbering

number-few : (bytes : List ℕ) → number_of bytes ≤ 511
number-few bytes = grind (arith, nat_tests)

pub count-few : (o : Option (List ℕ)) → count_of o ≤ 511
count-few None = omega arith
count-few (Some bytes) = number-few bytes

no-count : (o : Option (List ℕ)) → is_count o ≡ false → count_of o ≡ 0
no-count None none = refl
no-count (Some bytes) none =
    ap (λ (b : Bool). cond b (min 511 (slice_index bytes 0 + 256 * slice_index bytes 1)) 0) none

pub nvs-numbering : (limit : ℕ) → IsNumbering (nvs_numbering limit)
nvs-numbering limit = record {
  below = omega arith;
  apart = omega arith;
  few = λ o. let few = count-few o in omega arith;
  none = refl;
  other = no-count;
}

pub nvs-within : (count : Option (List ℕ)) → 0x8001 + count_of count + 0x4000 ≤ 0xFFFF
nvs-within count = let few = count-few count in omega arith

pub nvs-top : 0xFFFF < 2 ^ 32
nvs-top = omega arith

pub nvs-counts : (limit : ℕ) (price : ℕ → ℕ) → IsCountCost (nvs_numbering limit) price (nvs_counted price)
nvs-counts limit price None is = absurd (false≢true is)
nvs-counts limit price (Some bytes) is =
    let two : length bytes ≡ 2 = two_bytes (length bytes) is in
    let same : price (length bytes) ≡ price 2 = ap price two in
    omega arith
  where
    two_bytes : (n : ℕ) → (n == 2) ≡ true → n ≡ 2
    two_bytes n is = grind (arith, nat_tests)

-- a name that has a value is never one too many
pub nvs-stored : (settings : Map) (name : List ℕ) → contains_key settings name ≡ true
    → too_many settings name ≡ false
nvs-stored settings name stored = ap (λ (b : Bool). not b && nat_le 511 (len settings)) stored

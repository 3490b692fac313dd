-- Where the settings of a ZMS area are among its items: each name at one of the 16 ids of its
-- group, and its value 0x40000000 above it.
use Rattle.std.specs.Prelude.{◌≡◌, ℕ, ◌+◌, ◌^◌, ◌<◌, ◌≤◌, Bool, true, false, not, ◌&&◌, List, [], Option, ◌==◌, nat_le, nat_lt, count_by, refl}
use Rattle.std.proofs.Common.{ap, lit<, lit≤}
use Rattle.std.proofs.lemmas.Bool.{false≢true}
use Rattle.std.specs.FinMap.{contains_key, keys}
use Rattle.flash_map.specs.declared.area.Area.{Area}
use Rattle.flash_map.specs.declared.area.Geometry.{Geometry}
use Rattle.flash_map.specs.Area.{value_limit}
use Rattle.backend_api.specs.Map.{Map}
use Rattle.backend_api.specs.Room.{Room}
use Rattle.named_items.specs.Cost.{item_cost}
use Rattle.named_items.specs.Numbering.{Numbering, IsNumbering}
use Rattle.named_items.specs.Putting.{room_in}
use Rattle.backend_zms.specs.Hash.{group_of, first_of}

-- how many ids are for names
unfoldable pub name_ids : ℕ
name_ids = 0xFFF0 + 16

-- the id is one of those of the name's group
abbrev pub is_candidate_of : ℕ → List ℕ → Bool
is_candidate_of id name = nat_le (first_of name) id && nat_lt id (first_of name + 16)

-- No item is a count: names may stand at all of these ids.
abbrev pub zms_numbering : ℕ → Numbering
zms_numbering limit = record {
  count_id = 0;
  count_of = λ count. name_ids;
  is_count = λ count. false;
  count_bytes = λ count. [];
  first = 0x80000000;
  step = 0x40000000;
  is_candidate = is_candidate_of;
  longest = limit;
}

name_ids-few : name_ids ≤ 0x40000000
unfolding name_ids
name_ids-few = lit≤ tt

pub zms-numbering : (limit : ℕ) → IsNumbering (zms_numbering limit)
zms-numbering limit = record {
  below = lit< tt;
  apart = lit< tt;
  few = λ count. name_ids-few;
  none = refl;
  other = λ count none. refl;
}

abbrev pub numbering_of : Area → Numbering
numbering_of area = zms_numbering (value_limit area)

-- a store of such items has the ids below this one
abbrev pub top : ℕ
top = 0xFFFFFFFF

pub zms-within : 0x80000000 + name_ids + 0x40000000 ≤ top
unfolding name_ids
zms-within = lit≤ tt

pub no-count : (price : ℕ → ℕ) (count : Option (List ℕ)) → false ≡ true → item_cost price count ≤ 0
no-count price count counts = absurd (false≢true counts)

-- the name is new, and its group has as many names as ids
abbrev pub too_many : Map → List ℕ → Bool
too_many settings name =
    not (contains_key settings name)
    && nat_le 16 (count_by (λ other. group_of other == group_of name) (keys settings))

pub stored-one : (settings : Map) (name : List ℕ) → contains_key settings name ≡ true
    → too_many settings name ≡ false
stored-one settings name has =
    ap
    (λ (b : Bool). not b
    && nat_le 16 (count_by (λ other. group_of other == group_of name) (keys settings))) has

-- The room of an area, by the store's price and what a sector has for data. There is no count.
abbrev pub zms_room : (Geometry → ℕ → ℕ) → (Geometry → ℕ) → Geometry → Room
zms_room price cap geometry = room_in (λ price. 0) too_many price cap geometry

pub step-small : 0x40000000 < 2 ^ 32
step-small = lit< tt

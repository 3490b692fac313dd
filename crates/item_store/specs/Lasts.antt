-- The last entries of the ids in a range, given one after the other from the newest back.
use Rattle.std.specs.Prelude.{◌≡◌, ◌⊎◌, ℕ, ◌+◌, ◌-◌, ◌*◌, ◌^◌, ◌<◌, ◌≤◌, Bool, true, false, ◌&&◌, List, [], length, map, ◌++◌, Option, Some, None, option_map, IfSome, sum_by, ◌==◌, nat_le, nat_lt, if◌then◌else◌}
use Rattle.std.specs.List.{filter_map, list_any, range_with_len}
use Rattle.flash_map.specs.Area.{sector_at}
use Rattle.item_laws.specs.Area.{counts_at}
use Rattle.item_laws.specs.Live.{last_placed}
use Rattle.item_laws.specs.RoundParts.{places_before}
use Rattle.item_store.specs.declared.entry.Entry.{Entry}
use Rattle.item_store.specs.declared.entry.IdRange.{IdRange}
use Rattle.item_store.specs.declared.entry.LookBack.{LookBack}
use Rattle.item_store.specs.declared.entry.Placed.{Placed}
use Rattle.item_store.specs.declared.lasts.Lasts.{Lasts}
use Rattle.item_store.specs.SectorFormat.{SectorFormat, placed_at, slots}
use Rattle.item_store.specs.Latest.{last_of_id}
use Rattle.item_store.specs.Seen.{has_bit, behind}

-- one of the ids from `least` to `most`
abbrev pub in_range : ℕ → ℕ → ℕ → Bool
in_range least most id = nat_le least id && nat_le id most

-- a slot has no entry of these ids
abbrev pub IsOther : ℕ → ℕ → Option Entry → Type 0
IsOther least most None = Unit {0}
IsOther least most (Some e) = in_range least most e.id ≡ false

-- no entry in the slots of a sector's list from this number up to another one has an id of the
-- range
abbrev pub AreOthers : SectorFormat → List ℕ → ℕ → ℕ → ℕ → ℕ → Type 0
AreOthers k b from to least most =
    (slot : ℕ) → k.first + from ≤ slot → slot < k.first + to → IsOther least most (k.in_slot b slot)

-- the entry in the slot behind the first so many of a sector's list, and how many of these have to be
-- read for the ids of a range
pub record LooksBack (k : SectorFormat) (b : List ℕ) (place before : ℕ) (ids : IdRange) (look : LookBack)
    : Type 0 where
  pub entry : look.entry ≡ option_map (placed_at place) (k.in_slot b (k.first + before))
  pub few : look.reach ≤ before
  pub others : AreOthers k b look.reach before ids.least ids.most

-- some entry has this id
abbrev pub has_id : ℕ → List Placed → Bool
has_id id placed = list_any (λ p. p.id == id) placed

-- the entries of a sector that counts, but those in its first so many slots
abbrev pub counted_from : SectorFormat → List (List ℕ) → ℕ → ℕ → ℕ → List Placed
counted_from k sectors current place left =
    let b = sector_at sectors place in
    if counts_at k.reading sectors current place
    then map (placed_at place) (filter_map (k.in_slot b) (range_with_len (k.first + left) (k.count b - left)))
    else []

-- the entries behind the first so many slots of a sector, in the round to the open one
abbrev pub given_at : SectorFormat → List (List ℕ) → ℕ → ℕ → ℕ → List Placed
given_at k sectors current place left =
    counted_from k sectors current place left ++ behind k sectors current place

-- A walk stands at a place of the list. The ids of the entries behind it are noted, as far as they
-- are in its range.
pub record IsAt (k : SectorFormat) (sectors : List (List ℕ)) (current : ℕ) (walk : Lasts) : Type 0 where
  pub inside : walk.place < length sectors
  pub left : walk.left ≤ k.count (sector_at sectors walk.place)
  pub few : walk.left ≤ 2 ^ 15
  pub counts : 0 < walk.left → counts_at k.reading sectors current walk.place ≡ true
  pub range : walk.most < walk.least + 0x1_0020
  pub noted : (id : ℕ) → in_range walk.least walk.most id ≡ true
      → has_bit walk.seen (id - walk.least) ≡ has_id id (given_at k sectors current walk.place walk.left)

-- an entry of the range that a walk gave: the last one of its id
pub record WasGiven (k : SectorFormat) (sectors : List (List ℕ)) (current : ℕ) (walk : Lasts) (p : Placed) :
    Type 0 where
  pub own : in_range walk.least walk.most p.id ≡ true
  pub last : last_of_id p.id (given_at k sectors current walk.place walk.left) ≡ Some p

-- an entry of the range that is the last one of its id in the whole list
pub record IsLastIn (k : SectorFormat) (sectors : List (List ℕ)) (walk : Lasts) (p : Placed) : Type 0 where
  pub own : in_range walk.least walk.most p.id ≡ true
  pub last : last_placed (slots k) sectors p.id ≡ Some p

-- The walk gives the next one, or there is none left.
abbrev pub GivesNext : SectorFormat → List (List ℕ) → ℕ → Lasts → Lasts → Option Placed → Type 0
GivesNext k sectors current old new None =
    (p : Placed) → IsLastIn k sectors old p → WasGiven k sectors current old p
GivesNext k sectors current old new (Some next) =
    IsLastIn k sectors old next
    × ((p : Placed) → WasGiven k sectors current new p → (p ≡ next) ⊎ WasGiven k sectors current old p)

-- the same range
abbrev pub SameRange : Lasts → Lasts → Type 0
SameRange old new = (new.least ≡ old.least) × (new.most ≡ old.most)

-- ---- how far a walk is from its end

-- how many sectors stand before a place in the round to the open one
abbrev pub sectors_left : ℕ → ℕ → ℕ → ℕ
sectors_left count current place =
    if nat_lt current place then place - (current + 1) else place + (count - (current + 1))

-- At most so many slots are left to be read: no sector has more than 2 ^ 15.
abbrev pub slots_left : ℕ → ℕ → Lasts → ℕ
slots_left count current walk = sectors_left count current walk.place * 0x8001 + walk.left

-- ---- what a walk views

-- how many slots the lists of the sectors before a place have, in the round to the open one
abbrev pub slots_before : SectorFormat → List (List ℕ) → ℕ → ℕ → ℕ
slots_before k sectors current place =
    sum_by (λ p. k.count (sector_at sectors p)) (places_before (length sectors) current place)

-- how many slots all lists have
abbrev pub slots_in_all : SectorFormat → List (List ℕ) → ℕ
slots_in_all k sectors = sum_by (λ p. k.count (sector_at sectors p)) (range_with_len 0 (length sectors))

-- What a walk may still view: each sector that it comes to, the entry in each slot, and the bytes of each
-- entry that it gives, once each.
abbrev pub views_left : SectorFormat → List (List ℕ) → ℕ → Lasts → ℕ
views_left k sectors current walk =
    sectors_left (length sectors) current walk.place
    + 2 * (walk.left + slots_before k sectors current walk.place)

-- A slot is read, in at most one step.
pub record ReadsSlot (old new : Lasts) (before after : ℕ) : Type 0 where
  pub fewer : new.left < old.left
  pub steps : after ≤ before + 1

-- The same for the slots up to one that gives an entry. A second step for each is kept for its bytes.
pub record ReadsSlots (old new : Lasts) (before after : ℕ) (found : Option Placed) : Type 0 where
  pub fewer : IfSome found (λ _. new.left < old.left)
  pub steps : after + 2 * new.left ≤ before + 2 * old.left
  pub spared : IfSome found (λ _. after + 2 * new.left < before + 2 * old.left)

-- The walk takes no more steps than it may, and one less where it gives an entry: the one for its bytes.
pub record WalksOn (k : SectorFormat) (sectors : List (List ℕ)) (current : ℕ) (old new : Lasts)
    (before after : ℕ) (found : Option Placed) : Type 0 where
  pub steps : after + views_left k sectors current new ≤ before + views_left k sectors current old
  pub spared : IfSome found
      (λ _. after + views_left k sectors current new < before + views_left k sectors current old)

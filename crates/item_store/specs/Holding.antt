-- Slots of a sector whose entries give an id of a range certain bytes.
use Rattle.std.specs.Prelude.{◌≡◌, ℕ, ◌+◌, ◌-◌, ◌*◌, ◌<◌, ◌≤◌, Bool, false, ◌&&◌, ◌==◌, List, length, Option, Some, None, bytes_eq, sum_by, if◌then◌else◌}
use Rattle.std.specs.List.{range_with_len}
use Rattle.flash_map.specs.Area.{sector_at}
use Rattle.item_store.specs.declared.entry.Entry.{Entry}
use Rattle.item_store.specs.declared.entry.IdPair.{IdPair}
use Rattle.item_store.specs.declared.entry.IdRange.{IdRange}
use Rattle.item_store.specs.declared.entry.MayHave.{MayHave}
use Rattle.item_store.specs.declared.entry.Placed.{Placed}
use Rattle.item_store.specs.declared.holding.Holder.{Holder}
use Rattle.item_store.specs.Lasts.{in_range, AreOthers, given_at}
use Rattle.item_store.specs.Latest.{last_of_id}
use Rattle.item_store.specs.Seen.{behind}
use Rattle.item_store.specs.SectorFormat.{SectorFormat, placed_at}

-- the entry gives an id of the range these bytes
pub record Holds (k : SectorFormat) (b : List ℕ) (ids : IdRange) (wanted : List ℕ) (e : Entry) : Type 0 where
  pub from : ids.least ≤ e.id
  pub to : e.id ≤ ids.most
  pub bytes : k.bytes b e.slot ≡ wanted

-- no slot from one number up to another has such an entry
abbrev pub NoneHolds : SectorFormat → List ℕ → IdRange → List ℕ → ℕ → ℕ → Type 0
NoneHolds k b ids wanted from to =
    (slot : ℕ) (e : Entry) → from ≤ slot → slot < to → k.in_slot b slot ≡ Some e → ¬ Holds k b ids wanted e

-- no entry of a sector's list does
abbrev pub NoneHoldsIn : SectorFormat → List ℕ → IdRange → List ℕ → Type 0
NoneHoldsIn k b ids wanted = NoneHolds k b ids wanted k.first (k.first + k.count b)

-- nor one of any of the first so many sectors
abbrev pub NoneHoldsAt : SectorFormat → List (List ℕ) → ℕ → IdRange → List ℕ → Type 0
NoneHoldsAt k sectors count ids wanted =
    (place : ℕ) → place < count → NoneHoldsIn k (sector_at sectors place) ids wanted

-- the first such entry of a sector's list from a slot on, at its place
pub record IsFirstHolder (k : SectorFormat) (b : List ℕ) (place : ℕ) (ids : IdRange) (wanted : List ℕ)
    (start : ℕ) (p : Placed) : Type 0 where
  pub entry : Entry
  pub is : p ≡ placed_at place entry
  pub from : start ≤ p.slot
  pub listed : p.slot < k.first + k.count b
  pub read : k.in_slot b p.slot ≡ Some entry
  pub holds : Holds k b ids wanted entry
  pub first : NoneHolds k b ids wanted start p.slot

-- the first such entry behind the first so many slots of a sector's list; none if there is none
abbrev pub FindsBytes : SectorFormat → List ℕ → ℕ → IdRange → List ℕ → ℕ → Option Placed → Type 0
FindsBytes k b place ids wanted skipped None =
    NoneHolds k b ids wanted (k.first + skipped) (k.first + k.count b)
FindsBytes k b place ids wanted skipped (Some p) = IsFirstHolder k b place ids wanted (k.first + skipped) p

-- no slot of a sector's list behind the first so many has an id that is ruled out
pub record RulesOut (k : SectorFormat) (b : List ℕ) (skipped : ℕ) (ids : IdPair) (may : MayHave)
    : Type 0 where
  pub lower : may.lower ≡ false → AreOthers k b skipped (k.count b) ids.lower ids.lower
  pub upper : may.upper ≡ false → AreOthers k b skipped (k.count b) ids.upper ids.upper

-- no entry in the sectors behind this one has an id that is ruled out
pub record RulesOutBehind (k : SectorFormat) (sectors : List (List ℕ)) (current place : ℕ) (ids : IdPair)
    (may : MayHave) : Type 0 where
  pub lower : may.lower ≡ false → last_of_id ids.lower (behind k sectors current place) ≡ None
  pub upper : may.upper ≡ false → last_of_id ids.upper (behind k sectors current place) ≡ None

-- no entry behind this one, in its sector or in those behind that, has the id
abbrev pub NoneLater : SectorFormat → List (List ℕ) → ℕ → Placed → ℕ → Type 0
NoneLater k sectors current p id =
    last_of_id id (given_at k sectors current p.sector (p.slot - k.first + 1)) ≡ None

-- no entry behind this one has an id that is ruled out
pub record RulesOutLater (k : SectorFormat) (sectors : List (List ℕ)) (current : ℕ) (p : Placed)
    (ids : IdPair) (may : MayHave) : Type 0 where
  pub lower : may.lower ≡ false → NoneLater k sectors current p ids.lower
  pub upper : may.upper ≡ false → NoneLater k sectors current p ids.upper

-- ---- how many entries have the bytes, and what a search for them views

-- whether an entry gives an id of the range these bytes
abbrev pub does_hold : SectorFormat → List ℕ → IdRange → List ℕ → Option Entry → Bool
does_hold k b ids wanted None = false
does_hold k b ids wanted (Some e) = in_range ids.least ids.most e.id && bytes_eq (k.bytes b e.slot) wanted

-- how many slots of a sector have such an entry, of so many from one on
abbrev pub held_from : SectorFormat → List ℕ → IdRange → List ℕ → ℕ → ℕ → ℕ
held_from k b ids wanted from n =
    sum_by (λ slot. if does_hold k b ids wanted (k.in_slot b slot) then 1 else 0) (range_with_len from n)

-- of those of its list
abbrev pub held_in : SectorFormat → List ℕ → IdRange → List ℕ → ℕ
held_in k b ids wanted = held_from k b ids wanted k.first (k.count b)

-- of those of all lists
abbrev pub held_in_all : SectorFormat → List (List ℕ) → IdRange → List ℕ → ℕ
held_in_all k sectors ids wanted =
    sum_by (λ place. held_in k (sector_at sectors place) ids wanted) (range_with_len 0 (length sectors))

-- What such an entry may cost in an area of so many sectors: one view for the search that finds it, one
-- of each sector from its own to the open one, and a look-up of its id.
abbrev pub holder_views : ℕ → ℕ
holder_views count = 1 + count + (count + 4)

-- What a search of one sector views, where so many of its entries have the bytes: the sector once, and what
-- each of these costs. The one that ends the search costs a look-up more, of the item above.
abbrev pub SearchesSector : ℕ → ℕ → ℕ → ℕ → Option Holder → Type 0
SearchesSector count held before after None = after ≤ before + 1 + held * holder_views count
SearchesSector count held before after (Some _) =
    (0 < held) × (after ≤ before + held * holder_views count + (count + 4))

-- What a search of all sectors may view, where so many of their entries have the bytes.
abbrev pub search_views : ℕ → ℕ → ℕ
search_views count held = count + held * holder_views count + (if held == 0 then 0 else count + 4)

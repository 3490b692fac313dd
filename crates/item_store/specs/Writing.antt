-- How writing and deleting end.
use Rattle.std.specs.Prelude.{◌≡◌, ◌⊎◌, ℕ, ◌+◌, ◌-◌, ◌*◌, ◌≤◌, List, [], ◌∷◌, ◌++◌, Bool, true, false, length, Some, None, Result, Ok, Err}
use Rattle.std.specs.FinMap.{get, insert, remove}
use Rattle.flash_sim.specs.Device.{Device}
use Rattle.flash_sim.specs.declared.flash.PowerLost.{PowerLost as Lost}
use Rattle.flash_map.specs.declared.area.Area.{Area}
use Rattle.flash_map.specs.declared.faults.WriteFault.{WriteFault}
use Rattle.flash_map.specs.declared.faults.WriteFault.TheVariants.{NoSpace, TooLong, PowerLost}
use Rattle.flash_map.specs.Area.{sector_size, sectors_of}
use Rattle.flash_map.specs.Spending.{SpendsBetween}
use Rattle.item_laws.specs.PairRounds.{joined, live_cost}
use Rattle.item_store.specs.SectorFormat.{SectorFormat}
use Rattle.item_store.specs.Room.{open_bytes, has_room_at, IsShort, parts_at, collected, rounds_units, MakesRoom, FindsFull, StopsMakingRoom}
use Rattle.item_store.specs.Spending.{both}
use Rattle.item_store.specs.Standing.{list_at, items_at, IsUndamagedAt, RestsAt, SpendsIn, SpendsUpTo}
use Rattle.item_store.specs.Versions.{KeepsVersions, AddsVersion}

-- ---- one entry

-- The units of a value of this length and its entry in this sector, which is made ready first.
abbrev pub SpendsEntry : SectorFormat → Device → Device → List ℕ → ℕ → Type 0
SpendsEntry k old new sector len = SpendsIn old new (both (k.units.begin sector) (k.units.put sector len))

-- The same if power was lost while the sector was made ready, or after that.
abbrev pub StopsEntry : SectorFormat → Device → Device → List ℕ → ℕ → Type 0
StopsEntry k old new sector len = SpendsUpTo old new (both (k.units.begin sector) (k.units.put sector len))

-- the bytes of the open sector
abbrev pub open_at : SectorFormat → Device → Area → List ℕ
open_at k d area = open_bytes k (sectors_of d area)

-- the list is as before, or has one more pair
abbrev pub KeepsOrAdds : SectorFormat → Device → Device → Area → ℕ × List ℕ → Type 0
KeepsOrAdds k old new area pair =
    (list_at k new area ≡ list_at k old area) ⊎ (list_at k new area ≡ list_at k old area ++ pair ∷ [])

-- the newest versions of each item stay, or the item has one more
abbrev pub KeepsOrAddsVersion : SectorFormat → Device → Device → Area → ℕ → List ℕ → Type 0
KeepsOrAddsVersion k old new area id bytes =
    KeepsVersions (list_at k old area) (list_at k new area)
    ⊎ AddsVersion (list_at k old area) (list_at k new area) id bytes

-- The list has one more pair, whose cost is gone from what was free in the open sector, and a mount
-- would have nothing to do.
pub record PutsPair (k : SectorFormat) (old new : Device) (area : Area) (id : ℕ) (bytes : List ℕ)
    : Type 0 where
  pub list : list_at k new area ≡ list_at k old area ++ (id, bytes) ∷ []
  pub undamaged : IsUndamagedAt k new area
  pub rests : RestsAt k new area
  pub room : k.free (open_at k new area) + k.cost (length bytes) ≡ k.free (open_at k old area)
  pub entry : SpendsEntry k old new (open_at k old area) (length bytes)

-- Power was lost: the list is the old one, or has the pair. No more is gone of what was free than
-- the pair costs, and a mount would have nothing to do.
pub record StopsPutting (k : SectorFormat) (old new : Device) (area : Area) (id : ℕ) (bytes : List ℕ)
    : Type 0 where
  pub list : KeepsOrAdds k old new area (id, bytes)
  pub undamaged : IsUndamagedAt k new area
  pub rests : RestsAt k new area
  pub room : k.free (open_at k old area) ≤ k.free (open_at k new area) + k.cost (length bytes)
  pub entry : StopsEntry k old new (open_at k old area) (length bytes)
  pub at_most : SpendsBetween old new 0 (k.units.entry (length bytes))

-- ---- rounds that make room, and the entry behind them

-- rounds made room, and the pair was appended
pub record Appends (k : SectorFormat) (old new : Device) (area : Area) (id : ℕ) (bytes : List ℕ)
    : Type 0 where
  -- the device behind the last round
  pub mid : Device
  pub makes : MakesRoom k old mid area (length bytes)
  pub room : has_room_at k mid area (length bytes) ≡ true
  pub puts : PutsPair k mid new area id bytes
  pub list :
      let left = collected (length makes.before) (parts_at k old area) in
      list_at k new area ≡ joined left ++ (id, bytes) ∷ []
  pub spends :
      let sector = open_at k mid area in
      let entry = both (k.units.begin sector) (k.units.put sector (length bytes)) in
      SpendsIn old new (both (rounds_units k makes.before) entry)

-- power was lost in the entry, behind the last round
pub record StopsInEntry (k : SectorFormat) (old new : Device) (area : Area) (id : ℕ) (bytes : List ℕ)
    : Type 0 where
  pub mid : Device
  pub makes : MakesRoom k old mid area (length bytes)
  pub room : has_room_at k mid area (length bytes) ≡ true
  pub stops : StopsPutting k mid new area id bytes

-- power was lost in a round, or in the entry behind the last round
abbrev pub StopsAppending : SectorFormat → Device → Device → Area → ℕ → List ℕ → Type 0
StopsAppending k old new area id bytes =
    StopsMakingRoom k old new area (length bytes) ⊎ StopsInEntry k old new area id bytes

-- how an append ends; the answer says whether there was room
abbrev pub AppendEnds : {T : Type 0} → SectorFormat → Device → Device → Area → ℕ → List ℕ → Result Bool T
    → Type 0
AppendEnds k old new area id bytes (Ok true) = Appends k old new area id bytes
AppendEnds k old new area id bytes (Ok false) = FindsFull k old new area (length bytes)
AppendEnds k old new area id bytes (Err _) = StopsAppending k old new area id bytes

-- so many rounds, and then an entry with a value of this length, at most
abbrev pub write_units : SectorFormat → ℕ → ℕ → ℕ → ℕ
write_units k size rounds len = rounds * k.units.round size + k.units.entry len

-- a round for each sector but the blank one, and then such an entry
abbrev pub most_write : SectorFormat → Device → Area → ℕ → ℕ
most_write k d area len = write_units k (sector_size d area) (area.sectors - 1) len

-- ---- writing

-- these bytes are the item's already
abbrev pub Holds : SectorFormat → Device → Area → ℕ → List ℕ → Type 0
Holds k d area id bytes = get (items_at k d area) id ≡ Some bytes

-- the item has these bytes, and all others stay
pub record Writes (k : SectorFormat) (old new : Device) (area : Area) (id : ℕ) (bytes : List ℕ) : Type 0 where
  pub short : IsShort k old area (length bytes)
  pub items : items_at k new area ≡ insert (items_at k old area) id bytes
  pub versions : ¬ Holds k old area id bytes
      → AddsVersion (list_at k old area) (list_at k new area) id bytes
  pub equal : Holds k old area id bytes → new ≡ old
  pub appends : ¬ Holds k old area id bytes → Appends k old new area id bytes
  pub fitting : ¬ Holds k old area id bytes → has_room_at k old area (length bytes) ≡ true
      → SpendsEntry k old new (open_at k old area) (length bytes)
  pub at_most : SpendsBetween old new 0 (most_write k old area (length bytes))

-- no number of rounds makes room
pub record FindsNoSpace (k : SectorFormat) (old new : Device) (area : Area) (id : ℕ) (bytes : List ℕ)
    (need live : ℕ)
    : Type 0 where
  pub needs : need ≡ k.cost (length bytes)
  pub lives : live ≡ live_cost k.cost (list_at k old area)
  pub short : IsShort k old area (length bytes)
  pub other : ¬ Holds k old area id bytes
  pub unfit : has_room_at k old area (length bytes) ≡ false
  pub finds : FindsFull k old new area (length bytes)
  pub at_most : SpendsBetween old new 0 (most_write k old area (length bytes))

-- power was lost: the items are the old ones, or those with the pair
pub record StopsWriting (k : SectorFormat) (old new : Device) (area : Area) (id : ℕ) (bytes : List ℕ)
    : Type 0 where
  pub short : IsShort k old area (length bytes)
  pub other : ¬ Holds k old area id bytes
  pub stops : StopsAppending k old new area id bytes
  pub items : (items_at k new area ≡ items_at k old area)
      ⊎ (items_at k new area ≡ insert (items_at k old area) id bytes)
  pub versions : KeepsOrAddsVersion k old new area id bytes
  pub fitting : has_room_at k old area (length bytes) ≡ true
      → SpendsBetween old new 0 (k.units.entry (length bytes))
  pub entry : has_room_at k old area (length bytes) ≡ true
      → StopsEntry k old new (open_at k old area) (length bytes)
  pub at_most : SpendsBetween old new 0 (most_write k old area (length bytes))

-- how a write ends
abbrev pub WriteEnds : {T : Type 0} → SectorFormat → Device → Device → Area → ℕ → List ℕ → Result T WriteFault
    → Type 0
WriteEnds k old new area id bytes (Ok _) = Writes k old new area id bytes
WriteEnds k old new area id bytes (Err (NoSpace need live)) = FindsNoSpace k old new area id bytes need live
WriteEnds k old new area id bytes (Err TooLong) = (¬ IsShort k old area (length bytes)) × (new ≡ old)
WriteEnds k old new area id bytes (Err PowerLost) = StopsWriting k old new area id bytes

-- ---- deleting

-- the id has no item
abbrev pub IsAbsent : SectorFormat → Device → Area → ℕ → Type 0
IsAbsent k d area id = get (items_at k d area) id ≡ None

-- the id has no item any more, and all others stay
pub record Deletes (k : SectorFormat) (old new : Device) (area : Area) (id : ℕ) : Type 0 where
  pub items : items_at k new area ≡ remove (items_at k old area) id
  pub versions : ¬ IsAbsent k old area id
      → AddsVersion (list_at k old area) (list_at k new area) id []
  pub absent : IsAbsent k old area id → new ≡ old
  pub appends : ¬ IsAbsent k old area id → Appends k old new area id []
  pub fitting : ¬ IsAbsent k old area id → has_room_at k old area 0 ≡ true
      → SpendsEntry k old new (open_at k old area) 0
  pub at_most : SpendsBetween old new 0 (write_units k (sector_size old area) 1 0)

-- power was lost: the items are the old ones, or those without the id
pub record StopsDeleting (k : SectorFormat) (old new : Device) (area : Area) (id : ℕ) : Type 0 where
  pub present : ¬ IsAbsent k old area id
  pub stops : StopsAppending k old new area id []
  pub items : (items_at k new area ≡ items_at k old area)
      ⊎ (items_at k new area ≡ remove (items_at k old area) id)
  pub versions : KeepsOrAddsVersion k old new area id []
  pub fitting : has_room_at k old area 0 ≡ true → SpendsBetween old new 0 (k.units.entry 0)
  pub entry : has_room_at k old area 0 ≡ true → StopsEntry k old new (open_at k old area) 0
  pub at_most : SpendsBetween old new 0 (write_units k (sector_size old area) 1 0)

-- how a delete ends
abbrev pub DeleteEnds : {T : Type 0} → SectorFormat → Device → Device → Area → ℕ → Result T Lost → Type 0
DeleteEnds k old new area id (Ok _) = Deletes k old new area id
DeleteEnds k old new area id (Err _) = StopsDeleting k old new area id

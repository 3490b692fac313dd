-- Room for a value: rounds of close and collect, as many as it takes.
use Rattle.std.specs.Prelude.{◌≡◌, ◌⊎◌, ℕ, zero, suc, ◌+◌, ◌-◌, ◌*◌, ◌<◌, ◌≤◌, Bool, true, false, List, [], ◌∷◌, length, fold}
use Rattle.flash_sim.specs.Device.{Device}
use Rattle.flash_map.specs.declared.area.Area.{Area}
use Rattle.flash_map.specs.Area.{sector_at, sector_size, sectors_of}
use Rattle.flash_map.specs.Spending.{SpendsBetween}
use Rattle.item_laws.specs.PairRounds.{joined, collect_oldest, live_cost}
use Rattle.item_laws.specs.Area.{open_sector}
use Rattle.item_laws.specs.Rounds.{parts, IsCrammed}
use Rattle.item_store.specs.SectorFormat.{Range, SectorFormat, fits}
use Rattle.item_store.specs.Collecting.{fits_beside, DoesPassAt, RoundMarksFirst}
use Rattle.item_store.specs.Spending.{none, both, round_units}
use Rattle.item_store.specs.Standing.{list_at, KeepsItems, SpendsIn}

-- the bytes of the open sector
abbrev pub open_bytes : SectorFormat → List (List ℕ) → List ℕ
open_bytes k sectors = sector_at sectors (open_sector k.reading sectors)

-- whether a value of this length fits the open sector; a length of 0 is a delete
abbrev pub has_room : SectorFormat → List (List ℕ) → ℕ → Bool
has_room k sectors len = fits k (open_bytes k sectors) len

-- a value of this length and its entry cost no more than a sector has for them
abbrev pub IsShort : SectorFormat → Device → Area → ℕ → Type 0
IsShort k d area len = k.cost len ≤ k.cap (sector_size d area)

-- the parts of the list: those of all sectors but the blank one, the oldest first
abbrev pub parts_of : SectorFormat → List (List ℕ) → List (List (ℕ × List ℕ))
parts_of k sectors = parts k.reading sectors (open_sector k.reading sectors)

-- what so many collections make of the parts
abbrev pub collected : ℕ → List (List (ℕ × List ℕ)) → List (List (ℕ × List ℕ))
collected zero ps = ps
collected (suc n) ps = collect_oldest (collected n ps)

-- the newest part, which the last of them wrote
abbrev pub newest : List (List (ℕ × List ℕ)) → List (ℕ × List ℕ)
newest ps = fold (λ older part. part) [] ps

-- whether a value of this length has room beside what so many collections leave in the newest part
abbrev pub leaves_room : SectorFormat → ℕ → ℕ → List (List (ℕ × List ℕ)) → ℕ → Bool
leaves_room k size len ps n = fits_beside k size (newest (collected n ps)) len

-- Rounds, given by the sectors before each, the last round first. Before each of them a value of
-- this length had no room.
abbrev pub Rounds : SectorFormat → ℕ → ℕ → List (List ℕ) → List (List (List ℕ)) → List (List ℕ) → Type 0
Rounds k size len old [] new = new ≡ old
Rounds k size len old (mid ∷ before) new =
    Rounds k size len old before mid
    × (has_room k mid len ≡ false)
    × DoesPassAt k size mid new (open_sector k.reading mid)

-- what the next one spends
abbrev pub round_at : SectorFormat → List (List ℕ) → Range
round_at k sectors = round_units k sectors (open_sector k.reading sectors)

-- what they spend
abbrev pub rounds_units : SectorFormat → List (List (List ℕ)) → Range
rounds_units k [] = none
rounds_units k (mid ∷ before) = both (rounds_units k before) (round_at k mid)

-- ---- the same of an area on a device

abbrev pub has_room_at : SectorFormat → Device → Area → ℕ → Bool
has_room_at k d area len = has_room k (sectors_of d area) len

abbrev pub parts_at : SectorFormat → Device → Area → List (List (ℕ × List ℕ))
parts_at k d area = parts_of k (sectors_of d area)

abbrev pub leaves_room_at : SectorFormat → Device → Area → ℕ → ℕ → Bool
leaves_room_at k d area len n = leaves_room k (sector_size d area) len (parts_at k d area) n

-- rounds that led from the area to these sectors
abbrev pub RoundsFrom : SectorFormat → Device → Area → ℕ → List (List (List ℕ)) → List (List ℕ) → Type 0
RoundsFrom k d area len before new = Rounds k (sector_size d area) len (sectors_of d area) before new

-- so many rounds, at most
abbrev pub most_rounds : SectorFormat → Device → Area → ℕ → ℕ
most_rounds k d area rounds = rounds * k.units.round (sector_size d area)

-- Rounds were made until a value of this length had room, or one for each sector but the blank one.
-- If it had room at first, none was made. The items stay. For a delete one round is enough.
pub record MakesRoom (k : SectorFormat) (old new : Device) (area : Area) (len : ℕ) : Type 0 where
  pub before : List (List (List ℕ))
  pub rounds : RoundsFrom k old area len before (sectors_of new area)
  pub parts : parts_at k new area ≡ collected (length before) (parts_at k old area)
  pub none : before ≡ [] → new ≡ old
  -- the list says how many they are: the least number above 0 that leaves room
  pub least : 0 < len → (n : ℕ) → 0 < n → n < length before → leaves_room_at k old area len n ≡ false
  pub exact : 0 < len → 0 < length before
      → has_room_at k new area len ≡ leaves_room_at k old area len (length before)
  pub all : has_room_at k new area len ≡ false → length before + 1 ≡ area.sectors
  pub few : length before < area.sectors
  pub once : len ≡ 0 → (length before ≤ 1) × (has_room_at k new area 0 ≡ true)
  pub items : KeepsItems k (sectors_of old area) (sectors_of new area)
  pub spends : SpendsIn old new (rounds_units k before)
  pub at_most : SpendsBetween old new 0 (most_rounds k old area (length before))

-- what a sector of the area has for values and entries
abbrev pub cap_at : SectorFormat → Device → Area → ℕ
cap_at k d area = k.cap (sector_size d area)

-- Each pair of the area is live, and each sector but the blank one has no room for so many bytes
-- beside its pairs.
abbrev pub IsCrammedFor : SectorFormat → Device → Area → ℕ → Type 0
IsCrammedFor k d area need =
    IsCrammed k.reading k.cost need (cap_at k d area) (sectors_of d area)
    (open_sector k.reading (sectors_of d area))

-- After a round for each sector but the blank one there is no room: the live items leave none,
-- neither in all sectors together nor in any of them.
pub record IsFull (k : SectorFormat) (old new : Device) (area : Area) (len : ℕ) : Type 0 where
  pub full : (area.sectors - 1) * (cap_at k old area - k.cost len) < live_cost k.cost (list_at k old area)
  pub crammed : IsCrammedFor k new area (k.cost len)

-- rounds made no room for a value of this length
abbrev pub FindsFull : SectorFormat → Device → Device → Area → ℕ → Type 0
FindsFull k old new area len =
    MakesRoom k old new area len × (has_room_at k new area len ≡ false) × IsFull k old new area len

-- Power was lost in a round, after so many whole ones. The items stay.
pub record StopsMakingRoom (k : SectorFormat) (old new : Device) (area : Area) (len : ℕ) : Type 0 where
  pub before : List (List (List ℕ))
  -- the sectors before the round that was cut
  pub mid : List (List ℕ)
  pub rounds : RoundsFrom k old area len before mid
  pub unfit : has_room k mid len ≡ false
  pub few : length before + 1 < area.sectors
  pub once : len ≡ 0 → before ≡ []
  pub items : KeepsItems k (sectors_of old area) (sectors_of new area)
  -- the list is what the whole rounds leave, or what one more does
  pub list :
      (list_at k new area ≡ joined (collected (length before) (parts_at k old area)))
      ⊎ (list_at k new area ≡ joined (collected (suc (length before)) (parts_at k old area)))
  pub spends :
      let whole = rounds_units k before in
      SpendsBetween old new whole.least (whole.most + (round_at k mid).lost)
  pub at_most : SpendsBetween old new 0 (most_rounds k old area (length before + 1))
  -- where the cut round took a byte of its victim, gc-done stands
  pub marks : RoundMarksFirst k mid (sectors_of new area) (open_sector k.reading mid)

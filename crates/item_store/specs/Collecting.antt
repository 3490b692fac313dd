-- How far a collection has come, and what its steps make of an area.
use Rattle.std.specs.Prelude.{◌≡◌, ◌⊎◌, ℕ, ◌+◌, ◌*◌, ◌<◌, Bool, true, false, List, ◌++◌, length, Option, Some, None, nat_le}
use Rattle.std.specs.List.{flat_map}
use Rattle.flash_map.specs.Area.{sector_at, ChangesOnly}
use Rattle.item_laws.specs.Area.{next, is_blank_at, is_closed_at}
use Rattle.item_laws.specs.Forms.{rest, to_copy, pairs_at}
use Rattle.item_laws.specs.PairRounds.{copies_cost, joined, collect_oldest}
use Rattle.item_laws.specs.Rounds.{Collects, IsRound, parts}
use Rattle.item_laws.specs.Live as live
use Rattle.item_store.specs.declared.entry.Placed.{Placed}
use Rattle.item_store.specs.declared.entry.Redo.{Redo}
use Rattle.item_store.specs.declared.entry.Redo.TheVariants.{Nothing, ClearNext, CollectAgain}
use Rattle.item_store.specs.SectorFormat.{Range, SectorFormat, slots, fits}
use Rattle.item_store.specs.Spending.{none, again_units, has_victim}
use Rattle.item_store.specs.Standing.{list_of}
use Rattle.item_store.specs.Steps.{Keeps, Adds, Closes, Clears}
use Rattle.std.specs.Prelude.{if◌then◌else◌}

-- The open sector has no entry and all its room, and is ready for an entry. No other sector
-- changed.
pub record HasBegun (k : SectorFormat) (old new : List (List ℕ)) (place : ℕ) : Type 0 where
  pub only : ChangesOnly old new place
  pub clean : k.is_clean (sector_at new place) ≡ true
  pub ready : k.is_ready (sector_at new place) ≡ true
  pub long : length (sector_at new place) ≡ length (sector_at old place)

-- The open sector has no entry and all its room, and is ready for an entry if sectors are made so
-- as they open. No other sector changed.
pub record HasOpened (k : SectorFormat) (old new : List (List ℕ)) (place : ℕ) : Type 0 where
  pub only : ChangesOnly old new place
  pub clean : k.is_clean (sector_at new place) ≡ true
  pub ready : k.opens_ready ≡ true → k.is_ready (sector_at new place) ≡ true
  pub long : length (sector_at new place) ≡ length (sector_at old place)

-- Into the open sector, which had no entry, these pairs were copied. No other sector changed.
pub record HasCopied (k : SectorFormat) (old new : List (List ℕ)) (place : ℕ) (pairs : List (ℕ × List ℕ)) :
    Type 0 where
  pub only : ChangesOnly old new place
  pub ready : k.is_ready (sector_at new place) ≡ true
  pub list : k.reading.pairs (sector_at new place) ≡ pairs
  pub closed : k.reading.is_closed (sector_at new place) ≡ false
  pub gc_done : k.reading.has_gc_done (sector_at new place) ≡ false
  pub long : length (sector_at new place) ≡ length (sector_at old place)
  -- what the copies cost is gone from the room
  pub room : k.free (sector_at new place) + copies_cost k.cost pairs
      ≡ k.cap (length (sector_at old place)) + 3 * k.slot

-- copying was cut: the open sector is still ignored
pub record StopsCopying (k : SectorFormat) (old new : List (List ℕ)) (place : ℕ) : Type 0 where
  pub only : ChangesOnly old new place
  pub closed : k.reading.is_closed (sector_at new place) ≡ false
  pub gc_done : k.reading.has_gc_done (sector_at new place) ≡ false

-- one entry was copied, if there is one
abbrev pub CopiesOne : SectorFormat → List (List ℕ) → List (List ℕ) → ℕ → Option Placed → Type 0
CopiesOne k old new place None = new ≡ old
CopiesOne k old new place (Some p) =
    ChangesOnly old new place
    × Adds k (sector_at old place) (sector_at new place) p.id (live.bytes_of (slots k) old p)

-- the victim of a collection into this open sector has no entry and all its room, and can be opened
abbrev pub EmptiesVictim : SectorFormat → List (List ℕ) → List (List ℕ) → ℕ → Type 0
EmptiesVictim k old new place =
    Clears k (sector_at old (next old place)) (sector_at new (next old place))

-- what the copy of an entry spends, if there is one
abbrev pub copy_units : SectorFormat → Option Placed → Range
copy_units k None = none
copy_units k (Some p) = k.units.any_copy p.len

-- A whole collection, and the room that it leaves in the open sector. gc-done stands there, and the
-- victim is emptied.
pub record CollectsAt (k : SectorFormat) (old new : List (List ℕ)) (place : ℕ) : Type 0 where
  pub collects : Collects k.reading old place new
  pub list : k.reading.pairs (sector_at new place) ≡ to_copy k.reading old place
  pub gc_done : k.reading.has_gc_done (sector_at new place) ≡ true
  pub empties : EmptiesVictim k old new place
  pub long : length (sector_at new place) ≡ length (sector_at old place)
  pub room : k.free (sector_at new place) + copies_cost k.cost (to_copy k.reading old place)
      ≡ k.cap (length (sector_at old place)) + 2 * k.slot
  -- no sector changed but the open one and the victim
  pub others : (j : ℕ) → (j ≡ place → ⊥) → (j ≡ next old place → ⊥) → sector_at new j ≡ sector_at old j

-- whether these pairs and a value of this length cost no more than a sector of this size has
abbrev pub fits_beside : SectorFormat → ℕ → List (ℕ × List ℕ) → ℕ → Bool
fits_beside k size pairs len = nat_le (copies_cost k.cost pairs + k.cost len) (k.cap size)

-- A whole round. It closes the open sector, opens the next one, and empties the victim, if there is
-- one; then gc-done stands in the new open sector. Afterwards a value fits that one exactly if it
-- fits beside the copies, and a delete fits.
pub record DoesPassAt (k : SectorFormat) (size : ℕ) (old new : List (List ℕ)) (place : ℕ) : Type 0 where
  pub round : IsRound k.reading old place new
  pub gc_done : has_victim k old place ≡ true → k.reading.has_gc_done (sector_at new (next old place)) ≡ true
  pub empties : has_victim k old place ≡ true → EmptiesVictim k old new (next old place)
  pub ready : k.opens_ready ≡ true → k.is_ready (sector_at new (next old place)) ≡ true
  pub room : (len : ℕ) → 0 < len → fits k (sector_at new (next old place)) len
      ≡ fits_beside k size (pairs_at k.reading new (next old place)) len
  pub delete : fits k (sector_at new (next old place)) 0 ≡ true
  -- the sector that was open is closed, unless it is the victim
  pub closes : (place ≡ next old (next old place) → ⊥) → Closes k (sector_at old place) (sector_at new place)
  -- no byte changed but in that one, the new open one and the victim, if there is one
  pub others : (j : ℕ) → (j ≡ place → ⊥) → (j ≡ next old place → ⊥)
      → (has_victim k old place ≡ true → j ≡ next old (next old place) → ⊥)
      → sector_at new j ≡ sector_at old j

-- ---- gc-done and the victim

-- A collection into this open sector, cut or not: gc-done stands there before a byte of the victim
-- changes.
abbrev pub MarksFirst : SectorFormat → List (List ℕ) → List (List ℕ) → ℕ → Type 0
MarksFirst k old new place =
    (sector_at new (next old place) ≡ sector_at old (next old place))
    ⊎ (k.reading.has_gc_done (sector_at new place) ≡ true)

-- A round was cut in its close: the sector's list is as before, or the sector is closed. No other
-- sector changed.
pub record StopsInClose (k : SectorFormat) (old new : List (List ℕ)) (place : ℕ) : Type 0 where
  pub only : ChangesOnly old new place
  pub either : Keeps k (sector_at old place) (sector_at new place)
      ⊎ Closes k (sector_at old place) (sector_at new place)
  pub blank : is_blank_at k.reading old place ≡ true
      → (sector_at new place ≡ sector_at old place) ⊎ Closes k (sector_at old place) (sector_at new place)

-- A round closed its sector. In the collection that followed, gc-done stands first.
pub record GoesOnMarking (k : SectorFormat) (old new : List (List ℕ)) (place : ℕ) : Type 0 where
  -- the sectors behind the close
  pub closed : List (List ℕ)
  pub only : ChangesOnly old closed place
  pub closes : Closes k (sector_at old place) (sector_at closed place)
  pub marks : MarksFirst k closed new (next old place)

-- a round, cut or not
abbrev pub RoundMarksFirst : SectorFormat → List (List ℕ) → List (List ℕ) → ℕ → Type 0
RoundMarksFirst k old new place = StopsInClose k old new place ⊎ GoesOnMarking k old new place

-- ---- the list

-- that of an area whose victim is gone: its live pairs stand last
abbrev pub collected_list : SectorFormat → List (List ℕ) → ℕ → List (ℕ × List ℕ)
collected_list k sectors place =
    flat_map (pairs_at k.reading sectors) (rest (length sectors) place) ++ to_copy k.reading sectors place

-- a collection may have been cut: the list is as before, or what it leaves
abbrev pub KeepsOrCollects : SectorFormat → List (List ℕ) → List (List ℕ) → ℕ → Type 0
KeepsOrCollects k old new place =
    (list_of k new ≡ list_of k old) ⊎ (list_of k new ≡ collected_list k old place)

-- the same of a round from an area at rest, by the parts of its list
abbrev pub KeepsOrDoesPass : SectorFormat → List (List ℕ) → List (List ℕ) → ℕ → Type 0
KeepsOrDoesPass k old new place =
    (list_of k new ≡ list_of k old)
    ⊎ (list_of k new ≡ joined (collect_oldest (parts k.reading old place)))

-- ---- mounting

-- What a mount has to do with this sector open. The next sector is closed only while a collection
-- lasts.
abbrev pub redo_of : SectorFormat → List (List ℕ) → ℕ → Redo
redo_of k sectors place =
    if is_closed_at k.reading sectors (next sectors place) then
    (if k.reading.has_gc_done (sector_at sectors place) then ClearNext else CollectAgain) else Nothing

-- the list that it leaves
abbrev pub redo_list : SectorFormat → List (List ℕ) → ℕ → Redo → List (ℕ × List ℕ)
redo_list k sectors place Nothing = list_of k sectors
redo_list k sectors place ClearNext = list_of k sectors
redo_list k sectors place CollectAgain = collected_list k sectors place

-- a mount that was cut
abbrev pub KeepsOrRedoes : SectorFormat → List (List ℕ) → List (List ℕ) → ℕ → Type 0
KeepsOrRedoes k old new place =
    (list_of k new ≡ list_of k old)
    ⊎ (list_of k new ≡ redo_list k old place (redo_of k old place))

-- what that spends
abbrev pub redo_units : SectorFormat → List (List ℕ) → ℕ → Redo → Range
redo_units k sectors place Nothing = none
redo_units k sectors place ClearNext = k.units.clear (sector_at sectors (next sectors place))
redo_units k sectors place CollectAgain = again_units k sectors place

-- What a step makes of its sector.
use Rattle.std.specs.Prelude.{◌≡◌, ◌⊎◌, ℕ, ◌+◌, ◌≤◌, true, false, List, [], ◌∷◌, ◌++◌, length}
use Rattle.item_laws.specs.Reading.{is_sound}
use Rattle.item_laws.specs.PairRounds.{stored_cost}
use Rattle.item_laws.specs.Steps as ring
use Rattle.item_store.specs.declared.entry.Entry.{Entry}
use Rattle.item_store.specs.SectorFormat.{SectorFormat, entries}

-- the sector's list and marks stay, and it is in use and sound as before
pub record Keeps (k : SectorFormat) (old new : List ℕ) : Type 0 where
  pub list : ring.KeepsList k.reading old new
  pub long : length new ≡ length old
  pub used : k.reading.is_blank old ≡ false → k.reading.is_blank new ≡ false
  pub sound : is_sound k.reading old ≡ true → is_sound k.reading new ≡ true

-- no more than this is lost of the free bytes between its values and its slots
abbrev pub LeavesRoom : SectorFormat → List ℕ → List ℕ → ℕ → Type 0
LeavesRoom k old new cost = k.free old ≤ k.free new + cost

-- its marks stay
pub record KeepsMarks (k : SectorFormat) (old new : List ℕ) : Type 0 where
  pub closed : k.reading.is_closed new ≡ k.reading.is_closed old
  pub gc_done : k.reading.has_gc_done new ≡ k.reading.has_gc_done old

-- A sector with no entry is ready for one, and has none yet. One in use, or ready before, is as it
-- was. A clean one stays clean. What an entry spends in it stays the same.
pub record Begins (k : SectorFormat) (old new : List ℕ) : Type 0 where
  pub blank : k.reading.is_blank old ≡ true → k.reading.is_blank new ≡ true
  pub clean : k.is_clean old ≡ true → k.is_clean new ≡ true
  pub idle : k.is_ready old ≡ true → new ≡ old
  pub used : k.reading.is_blank old ≡ false → new ≡ old
  pub ready : k.is_ready new ≡ true
  pub put : (len : ℕ) → k.units.put new len ≡ k.units.put old len
  pub long : length new ≡ length old

-- the entry of an id in a slot, with so many bytes
abbrev pub new_entry : ℕ → ℕ → ℕ → Entry
new_entry slot id len = record { slot = slot; id = id; len = len }

-- the sector's list has one more pair, whose cost is gone from the room
pub record Adds (k : SectorFormat) (old new : List ℕ) (id : ℕ) (bytes : List ℕ) : Type 0 where
  pub list : ring.AddsPair k.reading old new id bytes
  pub long : length new ≡ length old
  -- the entry stands in the slot behind the last one
  pub entry : entries k new ≡ entries k old ++ new_entry (k.first + k.count old) id (length bytes) ∷ []
  pub count : k.count new ≡ k.count old + 1
  pub ready : k.is_ready new ≡ true
  pub free : k.free new + k.cost (length bytes) ≡ k.free old

-- gc-done takes one more slot; the sector is sound if its list costs no more than it has for it
pub record Marks (k : SectorFormat) (old new : List ℕ) : Type 0 where
  pub list : ring.MarksDone k.reading old new
  pub long : length new ≡ length old
  pub free : k.free new + k.slot ≡ k.free old
  pub sound : stored_cost k.cost (k.reading.pairs old) ≤ k.cap (length old) → is_sound k.reading new ≡ true

-- the sector is closed, and its list stays
pub record Closes (k : SectorFormat) (old new : List ℕ) : Type 0 where
  pub list : ring.Closes k.reading old new
  -- each entry stays in its slot
  pub same_entries : entries k new ≡ entries k old
  pub long : length new ≡ length old
  pub sound : is_sound k.reading old ≡ true → is_sound k.reading new ≡ true
  -- what the sector's emptying spends now
  pub emptying : k.is_clean old ≡ false → k.reading.is_closed old ≡ false
      → k.units.clear new ≡ k.units.clear_closed

-- the sector has no entry and all its room, and is ready for an entry
pub record Clears (k : SectorFormat) (old new : List ℕ) : Type 0 where
  pub clean : k.is_clean new ≡ true
  pub ready : k.is_ready new ≡ true
  pub long : length new ≡ length old

-- The emptying was cut: the marks stay, or the sector is clean. If sectors are made ready as they
-- open, it is as before, or clean.
pub record StopsClearing (k : SectorFormat) (old new : List ℕ) : Type 0 where
  pub either : KeepsMarks k old new ⊎ (k.is_clean new ≡ true)
  pub opens : k.opens_ready ≡ true → (new ≡ old) ⊎ (k.is_clean new ≡ true)

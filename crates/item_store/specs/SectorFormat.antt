-- What a store of items asks of its sectors. Nothing else in this crate knows how a sector holds an
-- entry, what is programmed for it, or what damage looks like.
use Rattle.std.specs.Prelude.{◌≡◌, ℕ, ◌+◌, ◌*◌, ◌<◌, ◌≤◌, max, Bool, true, false, List, length, map, Option, Some, None, ◌==◌, nat_le, if◌then◌else◌}
use Rattle.std.specs.List.{filter_map, range_with_len}
use Rattle.flash_map.specs.declared.faults.Damaged.{Damaged}
use Rattle.flash_map.specs.Area.{sector_at}
use Rattle.item_laws.specs.Area.{first_damage}
use Rattle.item_laws.specs.Reading.{Reading, IsReading, is_sound}
use Rattle.item_laws.specs.PairRounds.{copies_cost, stored_cost}
use Rattle.item_laws.specs.Entries.{Entries}
use Rattle.item_store.specs.declared.entry.Entry.{Entry}
use Rattle.item_store.specs.declared.entry.Placed.{Placed}

-- A step that completes spends from `least` to `most` units. One that is cut spends at most `lost`.
pub record Range : Type 0 where
  pub least : ℕ
  pub most : ℕ
  pub lost : ℕ

-- the one range lies in the other
pub record LiesIn (one wide : Range) : Type 0 where
  pub least : wide.least ≤ one.least
  pub most : one.most ≤ wide.most
  pub lost : one.lost ≤ wide.lost

-- a cut step may spend as much as a whole one
abbrev pub CoversWhole : Range → Type 0
CoversWhole range = range.most ≤ range.lost

-- What the steps in one sector spend, by the bytes of the sector before.
pub record Units : Type 0 where
  -- making a sector with no entry ready for entries
  pub begin : List ℕ → Range
  -- a value of this length and its entry, in a sector that is ready, or is made so before
  pub put : List ℕ → ℕ → Range
  -- a copy of an entry with a value of this length, in a ready sector
  pub copy : List ℕ → ℕ → Range
  pub done : List ℕ → Range
  pub close : List ℕ → Range
  pub clear : List ℕ → Range
  -- the same in any sector, and the emptying of any closed one: the units of a collection follow from
  -- what is copied and from the victim's bytes, not from what the bytes of a sector become on the way
  pub any_copy : ℕ → Range
  pub any_done : Range
  pub any_clear : Range
  -- the emptying of a sector that was not clean, once a close has closed it
  pub clear_closed : Range
  -- a round of close and collect in sectors of this size, at most
  pub round : ℕ → ℕ
  -- a mount in an area with sectors of this size, at most
  pub mount : ℕ → ℕ
  -- a value of this length and its entry, at most, with what makes their sector ready
  pub entry : ℕ → ℕ

-- Each range covers whole steps, and those of any sector have room for each one's.
pub record AreUnits (u : Units) : Type 0 where
  pub begins : (b : List ℕ) → CoversWhole (u.begin b)
  pub puts : (b : List ℕ) (len : ℕ) → CoversWhole (u.put b len)
  pub closes : (b : List ℕ) → CoversWhole (u.close b)
  pub clears : (b : List ℕ) → CoversWhole (u.clear b)
  pub any_copies : (len : ℕ) → CoversWhole (u.any_copy len)
  pub any_dones : CoversWhole u.any_done
  pub any_clears : CoversWhole u.any_clear
  pub closed_clears : CoversWhole u.clear_closed
  pub copy_in : (b : List ℕ) (len : ℕ) → LiesIn (u.copy b len) (u.any_copy len)
  pub done_in : (b : List ℕ) → LiesIn (u.done b) u.any_done
  pub clear_lost : (b : List ℕ) → (u.clear b).lost ≤ u.any_clear.lost
  pub closed_lost : u.clear_closed.lost ≤ u.any_clear.lost

-- how the sectors of an area of one geometry hold entries
pub record SectorFormat : Type 0 where
  pub reading : Reading
  -- where the slots of a sector's list begin, how many they are, and the entry in one
  pub first : ℕ
  pub count : List ℕ → ℕ
  pub in_slot : List ℕ → ℕ → Option Entry
  -- the bytes of the entry in a slot
  pub bytes : List ℕ → ℕ → List ℕ
  -- those of each entry lie in the sector
  pub within : List ℕ → Bool
  -- what bytes of this length and their entry take up
  pub cost : ℕ → ℕ
  -- the bytes of a slot
  pub slot : ℕ
  -- what a sector of this size has for values and entries
  pub cap : ℕ → ℕ
  -- the bytes between the values of a sector, torn ones included, and its slots
  pub free : List ℕ → ℕ
  -- the sector has no entry and all its space is free
  pub is_clean : List ℕ → Bool
  -- entries can be put into the sector
  pub is_ready : List ℕ → Bool
  -- a sector is made clean and ready as soon as it is the open one
  pub opens_ready : Bool
  pub damage : List (List ℕ) → Option Damaged
  -- an item has an id below this one
  pub ids : ℕ
  pub units : Units

abbrev pub is_clean_at : SectorFormat → List (List ℕ) → ℕ → Bool
is_clean_at k sectors place = k.is_clean (sector_at sectors place)

-- what it takes to make a sector clean and ready
abbrev pub making_ready : SectorFormat → List ℕ → Range
making_ready k b = if k.is_clean b then k.units.begin b else k.units.clear b

abbrev pub placed_at : ℕ → Entry → Placed
placed_at place e = record { sector = place; slot = e.slot; id = e.id; len = e.len }

-- the entries of a sector, in the order of their slots
abbrev pub entries : SectorFormat → List ℕ → List Entry
entries k b = filter_map (k.in_slot b) (range_with_len k.first (k.count b))

-- how its slots read, as the laws on live entries ask for it
abbrev pub slots : SectorFormat → Entries Entry Placed
slots k = record {
  reading = k.reading;
  entries = entries k;
  in_slot = k.in_slot;
  first = k.first;
  slots = k.count;
  is_sound = k.within;
  placed_at = placed_at;
  sector = λ p. p.sector;
  slot = λ p. p.slot;
  id = λ p. p.id;
  len = λ p. p.len;
  bytes = λ b p. k.bytes b p.slot;
  cost = k.cost;
}

-- The laws of a sector format. A sector has at least 512 bytes.
pub record IsSectorFormat (k : SectorFormat) : Type 0 where
  pub reads : IsReading k.reading
  -- the list of a sector is that of its entries
  pub pairs : (b : List ℕ) → k.reading.pairs b ≡ map (λ e. (e.id, k.bytes b e.slot)) (entries k b)
  pub own_slot : (b : List ℕ) (n : ℕ) (e : Entry) → k.in_slot b n ≡ Some e → e.slot ≡ n
  -- no entry has the id behind those of items
  pub reserved : (b : List ℕ) (n : ℕ) (e : Entry) → k.in_slot b n ≡ Some e → e.id ≡ k.ids → ⊥
  pub long : (b : List ℕ) (n : ℕ) (e : Entry) → k.within b ≡ true → k.first ≤ n → n < k.first + k.count b
      → k.in_slot b n ≡ Some e → length (k.bytes b e.slot) ≡ e.len
  pub sound : (b : List ℕ) → 512 ≤ length b → is_sound k.reading b ≡ true → k.within b ≡ true
  pub costs : (b : List ℕ) → 512 ≤ length b → is_sound k.reading b ≡ true
      → stored_cost k.cost (k.reading.pairs b) ≤ k.cap (length b)
  -- a clean sector holds nothing, and has room for three slots beside what it has for values and
  -- entries
  pub clean : (b : List ℕ) → k.is_clean b ≡ true → k.reading.is_blank b ≡ true
  -- so is each sector with no entry, if sectors are not made ready as they open
  pub blank : k.opens_ready ≡ false → (b : List ℕ) → k.reading.is_blank b ≡ true → k.is_clean b ≡ true
  pub room : (b : List ℕ) → 512 ≤ length b → k.is_clean b ≡ true → k.free b ≡ k.cap (length b) + 3 * k.slot
  -- an open sector that is not clean takes entries
  pub used : (b : List ℕ) → 512 ≤ length b → is_sound k.reading b ≡ true → k.is_clean b ≡ false
      → k.reading.is_closed b ≡ false → k.is_ready b ≡ true
  pub begun : (b : List ℕ) → k.is_ready b ≡ true → k.units.begin b ≡ record { least = 0; most = 0; lost = 0 }
  pub units : AreUnits k.units
  pub clear_in : (b : List ℕ) → k.reading.is_closed b ≡ true → LiesIn (k.units.clear b) k.units.any_clear
  -- a value takes up at least its bytes, and a sector has at most its size
  pub least : (len : ℕ) → len ≤ k.cost len
  pub most : (size : ℕ) → k.cap size ≤ size
  -- a round's close, and its copies of pairs that a sector has room for, into a sector that held
  -- nothing
  pub round : (size : ℕ) (closed opened : List ℕ) (pairs : List (ℕ × List ℕ)) → 512 ≤ size
      → length closed ≡ size → k.reading.is_blank opened ≡ true → copies_cost k.cost pairs ≤ k.cap size
      → (k.units.close closed).lost
      + ((making_ready k opened).lost
      + (copies_cost (λ len. (k.units.any_copy len).lost) pairs
      + (k.units.any_done.lost + k.units.any_clear.lost))) ≤ k.units.round size
  -- the copies of a mount, which makes their sector ready or empties it first
  pub mount : (size : ℕ) (opened : List ℕ) (pairs : List (ℕ × List ℕ)) → 512 ≤ size
      → copies_cost k.cost pairs ≤ k.cap size
      → max (k.units.begin opened).lost k.units.any_clear.lost
      + (copies_cost (λ len. (k.units.any_copy len).lost) pairs
      + (k.units.any_done.lost + k.units.any_clear.lost)) ≤ k.units.mount size
  pub entry : (before begun : List ℕ) (len : ℕ)
      → (k.units.begin before).lost + (k.units.put begun len).lost ≤ k.units.entry len
  pub damaged : (sectors : List (List ℕ)) → k.damage sectors ≡ None → first_damage k.reading sectors ≡ None
  pub undamaged : (sectors : List (List ℕ)) → first_damage k.reading sectors ≡ None → k.damage sectors ≡ None

-- Whether a value of this length fits a sector. A length of 0 is a delete. Slots stay for gc-done,
-- a delete and the fence.
abbrev pub fits : SectorFormat → List ℕ → ℕ → Bool
fits k b len =
    if len == 0 then nat_le (2 * k.slot) (k.free b) else nat_le
    (k.cost len + (if k.reading.has_gc_done b then 2 else 3) * k.slot) (k.free b)

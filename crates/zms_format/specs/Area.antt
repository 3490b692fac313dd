-- How a ZMS area reads: its list of pairs, or its damage.
use Rattle.std.specs.Prelude.{◌≡◌, ℕ, ◌+◌, ◌-◌, ◌^◌, ◌<◌, ◌≤◌, min, is_some, Bool, true, not, ◌&&◌, ◌||◌, List, length, fold, Option, Some, None, ◌==◌, if◌then◌else◌}
use Rattle.std.specs.List.{list_all}
use Rattle.std.specs.Option.{option_or}
use Rattle.flash_sim.specs.declared.flash.Kind.{Kind as BankKind}
use Rattle.flash_sim.specs.declared.flash.Kind.TheVariants.{Erasing, Rewritable}
use Rattle.flash_map.specs.declared.faults.Damaged.{Damaged}
use Rattle.flash_map.specs.declared.faults.Why.TheVariants.{AllClosed, TwoOpen, Dirty, Overfull}
use Rattle.flash_map.specs.Area.{sector_at}
use Rattle.item_laws.specs.Area.{places, previous, is_closed_at, counts_at, looked_at, open_sector, area_pairs, first_of_kind}
use Rattle.item_laws.specs.Reading.{Reading}
use Rattle.item_laws.specs.Entries.{Entries}
use Rattle.zms_cycle.specs.declared.reading.SlotEntry.{SlotEntry}
use Rattle.zms_cycle.specs.Sector.{slot_of, is_valid, cycle_of, valid_slots, is_closed, entry_in, entries, has_gc_done, cost, data_end, has_guard, is_sound, holds_too_much, is_overfull, is_fresh, can_close, value_of, pairs}
use Rattle.zms_format.specs.declared.sector.Marks.{Marks}
use Rattle.zms_format.specs.declared.sector.Found.{Found}

-- One sector.

-- slot 2 is valid under the sector's cycle
unfoldable pub is_begun : List ℕ → Bool
is_begun sector = is_valid (cycle_of sector) (slot_of sector 2)

-- The close entry stands, or it can be programmed, by the kind of the bank. A blank sector is
-- emptied before.
unfoldable pub may_close : BankKind → List ℕ → Bool
may_close kind sector = is_closed sector || (not (is_some (cycle_of sector)) || can_close kind sector)

-- It is not closed, its slot 2 is not valid, and it may be closed. Valid slots under slot 2 are
-- ignored.
unfoldable pub is_unused : BankKind → List ℕ → Bool
is_unused kind sector = not (is_begun sector) && (not (is_closed sector) && may_close kind sector)

-- A garbage collection into it can begin at once, or as soon as a blank one is emptied. On an
-- erasing bank a sector that is not in use may hold bytes of a torn value; a clean one is blank or
-- fresh.
unfoldable pub is_clean : BankKind → List ℕ → Bool
is_clean Rewritable sector = is_unused Rewritable sector
is_clean Erasing sector = is_unused Erasing sector && (not (is_some (cycle_of sector)) || is_fresh sector)

-- how ZMS reads a sector, on a bank of this kind
abbrev pub reading : BankKind → Reading
reading kind = record {
  is_blank = is_unused kind;
  is_closed = is_closed;
  has_gc_done = has_gc_done;
  pairs = pairs;
  has_fence = λ sector. has_guard sector && may_close kind sector;
  is_overfull = holds_too_much;
}

-- what the calls on an area have to know of a sector
abbrev pub marks_of : BankKind → List ℕ → Marks
marks_of kind sector = record {
  blank = not (is_some (cycle_of sector));
  begun = is_begun sector;
  closed = is_closed sector;
  gc_done = has_gc_done sector;
  slots = length (valid_slots sector);
  data_end = min (data_end kind sector) (2 ^ 32 - 1);
}

-- The area.

-- whatever stands in slot 1, as on a rewritable bank
abbrev pub plain : Reading
plain = reading Rewritable

-- If no sector is closed, the open one is the first whose slot 2 is valid, or sector 0.
abbrev pub open_place : List (List ℕ) → ℕ
open_place sectors = open_sector plain sectors

-- not the open sector and not closed, it follows a closed one or its slot 2 is valid
abbrev pub is_second_open : List (List ℕ) → ℕ → ℕ → Bool
is_second_open sectors open_at place =
    not (is_closed_at plain sectors place)
    && (not (place == open_at)
    && (is_begun (sector_at sectors place) || is_closed_at plain sectors (previous sectors place)))

-- A sector that counts is not closed and has an empty entry, but cannot take the close entry.
abbrev pub is_dirty_at : BankKind → List (List ℕ) → ℕ → ℕ → Bool
is_dirty_at kind sectors open_at place =
    counts_at plain sectors open_at place && not (may_close kind (sector_at sectors place))

-- A sector that counts holds more than it may. One that is not in use has its guard slot and no
-- entry.
abbrev pub is_overfull_at : List (List ℕ) → ℕ → ℕ → Bool
is_overfull_at sectors open_at place =
    looked_at plain sectors open_at place && is_overfull (sector_at sectors place)

-- the first kind of damage, at the first sector that shows it
unfoldable pub damage_of : BankKind → List (List ℕ) → Option Damaged
damage_of kind sectors =
    let open_at = open_place sectors in
    if list_all (is_closed_at plain sectors) (places sectors) then Some
    (record { sector = 0; why = AllClosed })
    else option_or (first_of_kind TwoOpen (is_second_open sectors open_at) sectors)
    (option_or (first_of_kind Dirty (is_dirty_at kind sectors open_at) sectors)
    (first_of_kind Overfull (is_overfull_at sectors open_at) sectors))

-- ids with their bytes, from the oldest to the newest
abbrev pub list_of : BankKind → List (List ℕ) → List (ℕ × List ℕ)
list_of kind sectors = area_pairs (reading kind) sectors (open_sector (reading kind) sectors)

-- Entries at their places.

abbrev pub placed_at : ℕ → SlotEntry → Found
placed_at place f = record { sector = place; slot = f.slot; entry = f.entry }

-- how the entries of ZMS stand in their slots, and what they say
abbrev pub zms : BankKind → Entries SlotEntry Found
zms kind = record {
  reading = reading kind;
  entries = entries;
  in_slot = λ b n. entry_in (slot_of b n);
  first = 2;
  slots = λ b. length (valid_slots b);
  is_sound = is_sound;
  placed_at = placed_at;
  sector = λ p. p.sector;
  slot = λ p. p.slot;
  id = λ p. p.entry.id;
  len = λ p. p.entry.len;
  bytes = λ b p. value_of b p.entry;
  cost = cost;
}

-- the last entry of an id in one sector
abbrev pub last_in : ℕ → List SlotEntry → Option SlotEntry
last_in id found = fold (λ last f. if f.entry.id == id then Some f else last) None found

-- an entry that is read from this slot of the sector
pub record IsListed (sector : List ℕ) (p : Found) : Type 0 where
  pub from : 2 ≤ p.slot
  pub listed : p.slot < length (valid_slots sector) + 2
  pub entry : entry_in (slot_of sector p.slot) ≡ Some (record { slot = p.slot; entry = p.entry })

-- an entry of a sector that counts with this one open
pub record IsPlaced (sectors : List (List ℕ)) (current : ℕ) (p : Found) : Type 0 where
  pub within : p.sector < length sectors
  pub counts : counts_at plain sectors current p.sector ≡ true
  pub listed : IsListed (sector_at sectors p.sector) p

-- How the sectors of ZMS hold entries, and what steps in them spend.
use Rattle.std.specs.Prelude.{ℕ, ◌+◌, ◌*◌, ◌/◌, Bool, true, false, ◌&&◌, List, [], length, is_some, if◌then◌else◌}
use Rattle.std.specs.Option.{option_map, option_map_or}
use Rattle.flash_map.specs.declared.area.Geometry.{Geometry}
use Rattle.item_store.specs.declared.entry.Entry.{Entry}
use Rattle.item_store.specs.declared.entry.Placed.{Placed}
use Rattle.item_store.specs.SectorFormat.{Range, Units, SectorFormat}
use Rattle.zms_cycle.specs.declared.reading.SlotEntry.{SlotEntry}
use Rattle.flash_sim.specs.declared.flash.Kind.{Kind as BankKind}
use Rattle.flash_sim.specs.declared.flash.Kind.TheVariants.{Erasing, Rewritable}
use Rattle.zms_cycle.specs.Changes.{guard_units, emptying, first_guard, closing_most}
use Rattle.zms_cycle.specs.Sector.{slot_of, cycle_of, valid_slots, entry_in, cost, capacity, free, is_sound, value_of}
use Rattle.zms_format.specs.declared.sector.Found.{Found}
use Rattle.zms_format.specs.Area.{may_close, reading, is_clean, damage_of}

-- an entry as `item_store` sees it
abbrev pub entry_of : SlotEntry → Entry
entry_of f = record { slot = f.slot; id = f.entry.id; len = f.entry.len }

-- an entry in its sector, as a store of items has it
abbrev pub placed_of : Found → Placed
placed_of p = record { sector = p.sector; slot = p.slot; id = p.entry.id; len = p.entry.len }

-- exactly so many units, and no more if cut
abbrev pub just : ℕ → Range
just units = record { least = units; most = units; lost = units }

-- a guard, at most, by the kind of the bank
abbrev pub guard_most : BankKind → ℕ
guard_most Rewritable = 1
guard_most Erasing = 0

-- an emptying, at most: the guards of slots 1 and 2, or an erase; and the empty entry
abbrev pub emptying_most : BankKind → ℕ
emptying_most Rewritable = 3
emptying_most Erasing = 2

-- That of a closed sector, at least: on an erasing bank it is not erased yet. It is exactly this if
-- the sector was in use and a close has just closed it: then slots 1 and 2 are of its own cycle.
abbrev pub emptying_least : BankKind → ℕ
emptying_least Rewritable = 1
emptying_least Erasing = 2

-- what an emptying spends: exactly so much, by the bytes of the sector
abbrev pub emptying_units : BankKind → List ℕ → Range
emptying_units kind b = just (emptying kind b)

-- The guard under the next entry. A sector without a cycle is emptied before, which leaves slot 3
-- as it is on a rewritable bank.
abbrev pub next_guard : BankKind → List ℕ → ℕ
next_guard kind b =
    if is_some (cycle_of b) then guard_units kind (cycle_of b) (length (valid_slots b) + 2 + 1) b else
    first_guard kind b

-- what an entry and its value, which take up so many units, spend with the guard; a cut one at most
-- as much as with a guard
abbrev pub entry_units : BankKind → List ℕ → ℕ → Range
entry_units kind b units = record {
  least = units + next_guard kind b;
  most = units + next_guard kind b;
  lost = units + guard_most kind;
}

-- The most units and erases of a round, of a mount, and of what makes a sector ready for an entry,
-- in sectors of this size. On an erasing bank no entry has a guard, and a close fills nothing.
abbrev pub round_limit : BankKind → ℕ → ℕ
round_limit Rewritable size = 3 * (size / 16) + 9
round_limit Erasing size = size / 16 + 1

abbrev pub mount_limit : BankKind → ℕ → ℕ
mount_limit Rewritable size = 2 * (size / 16)
mount_limit Erasing size = size / 16

abbrev pub ready_limit : BankKind → ℕ
ready_limit Rewritable = 4
ready_limit Erasing = 2

-- The bytes of a sector say exactly what a step in it spends; of a close they say the least and the
-- most. In any sector of a rewritable bank a guard may be due or not. On an erasing bank a closed
-- sector is emptied by exactly an erase and an empty entry.
abbrev pub units_of : BankKind → Units
units_of kind = record {
  begin = λ b. if is_some (cycle_of b) then just 0 else emptying_units kind b;
  put = λ b len. entry_units kind b (cost len / 16);
  copy = λ b len. entry_units kind b (cost len / 16);
  done = λ b. entry_units kind b 1;
  close =
      λ b.
      record { least = 1; most = closing_most kind (free kind b); lost = closing_most kind (free kind b) };
  clear = emptying_units kind;
  any_copy =
      λ len.
      record {
        least = cost len / 16;
        most = cost len / 16 + guard_most kind;
        lost = cost len / 16 + guard_most kind;
      };
  any_done = record { least = 1; most = 1 + guard_most kind; lost = 1 + guard_most kind };
  any_clear = record { least = emptying_least kind; most = emptying_most kind; lost = emptying_most kind };
  clear_closed = just (emptying_least kind);
  round = round_limit kind;
  mount = mount_limit kind;
  entry = λ len. cost len / 16 + ready_limit kind;
}

-- a sector of an erasing bank is made ready as soon as it is the open one
abbrev pub opens_ready : BankKind → Bool
opens_ready Rewritable = false
opens_ready Erasing = true

-- the format in an area of this geometry
abbrev pub format_of : Geometry → SectorFormat
format_of geometry = record {
  reading = reading geometry.kind;
  first = 2;
  count = λ b. length (valid_slots b);
  in_slot = λ b n. option_map entry_of (entry_in (slot_of b n));
  bytes = λ b n. option_map_or (λ f. value_of b f.entry) (entry_in (slot_of b n)) [];
  within = is_sound;
  cost = cost;
  slot = 16;
  cap = capacity;
  free = free geometry.kind;
  is_clean = is_clean geometry.kind;
  is_ready = λ b. is_some (cycle_of b) && (is_sound b && may_close geometry.kind b);
  opens_ready = opens_ready geometry.kind;
  damage = damage_of geometry.kind;
  ids = 0xFFFFFFFF;
  units = units_of geometry.kind;
}

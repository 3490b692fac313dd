-- How the sectors of NVS hold entries, and what steps in them spend.
use Rattle.std.specs.Prelude.{◌≡◌, ℕ, ◌+◌, ◌-◌, ◌/◌, true, false, List, [], length, slice_range, Some}
use Rattle.std.specs.Option.{option_map, option_map_or}
use Rattle.flash_map.specs.declared.area.Geometry.{Geometry}
use Rattle.flash_map.specs.Area.{sector_at}
use Rattle.item_store.specs.declared.entry.Entry.{Entry}
use Rattle.item_store.specs.declared.entry.Placed.{Placed}
use Rattle.item_store.specs.SectorFormat.{Range, Units, SectorFormat}
use Rattle.nvs_store.specs.declared.scan.SlotEntry.{SlotEntry}
use Rattle.nvs_store.specs.declared.scan.Found.{Found}
use Rattle.nvs_store.specs.Geometry.{slot_size, cost, capacity}
use Rattle.nvs_store.specs.Sector.{slot_at, used_slots, counting_entry, low, data_end}
use Rattle.nvs_store.specs.Scans.{reading, damage_of}

-- an entry as `item_store` sees it
abbrev pub entry_of : SlotEntry → Entry
entry_of f = record { slot = f.slot; id = f.entry.id; len = f.entry.len }

-- the same of an entry at its place
abbrev pub placed_of : Found → Placed
placed_of p = record { sector = p.sector; slot = p.slot; id = p.entry.id; len = p.entry.len }

-- the entry at a place, as NVS reads it
pub record ReadsAs (unit : ℕ) (sectors : List (List ℕ)) (p : Placed) (own : Found) : Type 0 where
  pub read : counting_entry unit (slot_at unit (sector_at sectors p.sector) p.slot)
      ≡ Some (record { slot = own.slot; entry = own.entry })
  pub sector : own.sector ≡ p.sector
  pub id : own.entry.id ≡ p.id
  pub len : own.entry.len ≡ p.len

-- the bytes that an entry names
abbrev pub found_bytes : List ℕ → SlotEntry → List ℕ
found_bytes b f = slice_range b f.entry.offset (f.entry.offset + f.entry.len)

-- a step that completes spends exactly so many units, and one that is cut no more
abbrev pub just : ℕ → Range
just units = record { least = units; most = units; lost = units }

-- what the steps spend: each exactly the units of its bytes, and an erase one
abbrev pub units_of : ℕ → Units
units_of unit = record {
  begin = λ b. just 0;
  put = λ b len. just (cost unit len / unit);
  copy = λ b len. just (cost unit len / unit);
  done = λ b. just (slot_size unit / unit);
  close = λ b. just (slot_size unit / unit);
  clear = λ b. just 1;
  any_copy = λ len. just (cost unit len / unit);
  any_done = just (slot_size unit / unit);
  any_clear = just 1;
  clear_closed = just 1;
  round = λ size. size / unit + 1;
  mount = λ size. size / unit;
  entry = λ len. cost unit len / unit;
}

-- the format for units of so many bytes
abbrev pub format_in : ℕ → SectorFormat
format_in unit = record {
  reading = reading unit;
  first = 1;
  count = λ b. length (used_slots unit b);
  in_slot = λ b n. option_map entry_of (counting_entry unit (slot_at unit b n));
  bytes = λ b n. option_map_or (found_bytes b) (counting_entry unit (slot_at unit b n)) [];
  within = λ b. true;
  cost = cost unit;
  slot = slot_size unit;
  cap = capacity unit;
  free = λ b. low unit b - data_end unit b;
  is_clean = (reading unit).is_blank;
  is_ready = λ b. true;
  opens_ready = false;
  damage = damage_of unit;
  ids = 0xFFFF;
  units = units_of unit;
}

-- the format in an area of this geometry
abbrev pub format_of : Geometry → SectorFormat
format_of geometry = format_in geometry.unit

-- The bytes that a step programs, and the sector with them.
use Rattle.std.specs.Prelude.{ℕ, ◌-◌, List, ◌++◌, length, replicate}
use Rattle.flash_sim.specs.Device.{overwritten}
use Rattle.flash_map.specs.Units.{padded_bytes}
use Rattle.nvs_store.specs.declared.entry.Entry.{Entry}
use Rattle.nvs_store.specs.Geometry.{slot_size}
use Rattle.nvs_store.specs.Entries.{encoded}
use Rattle.nvs_store.specs.Sector.{low, data_end, special_entry}

-- data, padded to the unit with FF
abbrev pub data_image : ℕ → List ℕ → List ℕ
data_image unit bytes = padded_bytes unit bytes

-- an entry, padded to its slot with FF
abbrev pub entry_image : ℕ → Entry → List ℕ
entry_image unit e = encoded e ++ replicate (slot_size unit - 8) 0xFF

-- the sector after data at the data end, and these bytes of the next slot
abbrev pub with_slot : ℕ → List ℕ → List ℕ → List ℕ → List ℕ
with_slot unit sector lower upper =
    overwritten (overwritten sector (data_end unit sector) lower) (low unit sector - slot_size unit) upper

-- the sector after these bytes of the next slot, with no data
abbrev pub with_mark : ℕ → List ℕ → List ℕ → List ℕ
with_mark unit sector upper = overwritten sector (low unit sector - slot_size unit) upper

-- the sector after these bytes of slot 0
abbrev pub with_close : ℕ → List ℕ → List ℕ → List ℕ
with_close unit sector upper = overwritten sector (length sector - slot_size unit) upper

-- ---- what a whole step leaves

-- The entry of the next pair: its data stands at the data end. The entry of a delete names that
-- place too.
abbrev pub next_entry : ℕ → List ℕ → ℕ → List ℕ → Entry
next_entry unit sector id bytes =
    record { id = id; offset = data_end unit sector; len = length bytes; part = 0xFF }

-- the sector with the next pair: its data, and its entry in the next slot
abbrev pub after_append : ℕ → List ℕ → ℕ → List ℕ → List ℕ
after_append unit sector id bytes =
    with_slot unit sector (data_image unit bytes) (entry_image unit (next_entry unit sector id bytes))

-- the sector with gc-done in the next slot, which names the data end
abbrev pub after_gc_done : ℕ → List ℕ → List ℕ
after_gc_done unit sector = with_mark unit sector (entry_image unit (special_entry (data_end unit sector)))

-- the sector with the close entry in slot 0, which names the start of the lowest used slot
abbrev pub after_close : ℕ → List ℕ → List ℕ
after_close unit sector = with_close unit sector (entry_image unit (special_entry (low unit sector)))

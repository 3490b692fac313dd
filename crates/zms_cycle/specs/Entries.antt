-- Entries, and their sixteen bytes. An entry with the id FFFFFFFF is a special one and holds no
-- value.
use Rattle.std.specs.Prelude.{ℕ, ◌-◌, Bool, ◌&&◌, List, ◌∷◌, ◌++◌, length, nat_le, take, drop, replicate, slice_range, slice_index, Option, Some, None, ◌==◌, if◌then◌else◌}
use Rattle.std.specs.List.{list_all}
use Rattle.std.specs.Int.{w16, w32, to_le_bytes, from_le_bytes}
use Rattle.crc8_entry.specs.Crc.{crc}
use Rattle.zms_cycle.specs.declared.entry.ZEntry.{ZEntry}

-- the bytes that the CRC covers
abbrev pub fields : ZEntry → List ℕ
fields e = e.cycle ∷ to_le_bytes w16 e.len ++ to_le_bytes w32 e.id ++ e.tail

-- the sixteen bytes of an entry: the CRC of its fields, and these
unfoldable pub encoded : ZEntry → List ℕ
encoded e = crc 0xFF (fields e) ∷ fields e

-- what these bytes say as an entry, whether the CRC matches or not
abbrev pub entry_of : List ℕ → ZEntry
entry_of bytes = record {
  cycle = slice_index bytes 1;
  len = from_le_bytes w16 (slice_range bytes 2 4);
  id = from_le_bytes w32 (slice_range bytes 4 8);
  tail = slice_range bytes 8 16;
}

-- the entry in sixteen bytes, if its CRC matches
unfoldable pub decoded : List ℕ → Option ZEntry
decoded bytes = if crc 0xFF (drop 1 bytes) == slice_index bytes 0 then Some (entry_of bytes) else None

-- the fill unit, which never passes as an entry: the CRC of 15 bytes 00 is 90
unfoldable pub fill : List ℕ
fill = 0x6F ∷ replicate 15 0

-- where a value of more than 8 bytes stands in the sector
abbrev pub offset_of : ZEntry → ℕ
offset_of e = from_le_bytes w32 (take 4 e.tail)

-- Special entries.

abbrev pub is_special : ZEntry → Bool
is_special e = e.id == 0xFFFFFFFF

-- what distinguishes close from gc-done
abbrev pub mark_of : ZEntry → ℕ
mark_of e = from_le_bytes w32 (drop 4 e.tail)

unfoldable pub is_empty : ZEntry → Bool
is_empty e = is_special e && (e.len == 0xFFFF) && list_all (λ byte. byte == 0) e.tail

unfoldable pub is_close : ZEntry → Bool
is_close e = is_special e && (e.len == 0) && (mark_of e == 1)

unfoldable pub is_done : ZEntry → Bool
is_done e = is_special e && (e.len == 0) && (mark_of e == 2)

-- gives a sector this cycle
abbrev pub empty_entry : ℕ → ZEntry
empty_entry cycle = record { cycle = cycle; len = 0xFFFF; id = 0xFFFFFFFF; tail = replicate 8 0 }

-- closes a sector whose lowest used slot starts there
abbrev pub close_entry : ℕ → ℕ → ZEntry
close_entry cycle low =
    record { cycle = cycle; len = 0; id = 0xFFFFFFFF; tail = to_le_bytes w32 low ++ to_le_bytes w32 1 }

-- marks a sector whose data ends there
abbrev pub done_entry : ℕ → ℕ → ZEntry
done_entry cycle end =
    record { cycle = cycle; len = 0; id = 0xFFFFFFFF; tail = to_le_bytes w32 end ++ to_le_bytes w32 2 }

-- Ordinary entries.

-- the entry of a value; if it has more than 8 bytes, they stand at the offset
abbrev pub value_entry : ℕ → ℕ → List ℕ → ℕ → ZEntry
value_entry cycle id bytes offset = record {
  cycle = cycle;
  len = length bytes;
  id = id;
  tail =
      if nat_le (length bytes) 8 then bytes ++ replicate (8 - length bytes) 0 else to_le_bytes w32 offset
      ++ replicate 4 0;
}

-- the entry of the same value in another sector
abbrev pub moved_entry : ℕ → ZEntry → ℕ → ZEntry
moved_entry cycle e offset = record {
  cycle = cycle;
  len = e.len;
  id = e.id;
  tail =
      if nat_le e.len 8 then take e.len e.tail ++ replicate (8 - e.len) 0 else to_le_bytes w32 offset
      ++ replicate 4 0;
}

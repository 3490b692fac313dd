-- What a search for the ids of a range reads of a slot before its CRC.
use Rattle.std.specs.Prelude.{ℕ, Bool, ◌&&◌, nat_le}
use Rattle.item_laws.specs.Slots.{Slot}
use Rattle.zms_cycle.specs.Entries.{entry_of}

-- The id field of the slot is from `least` to `most`, whether its CRC matches or not.
abbrev pub names : ℕ → ℕ → Slot → Bool
names least most slot = nat_le least (entry_of slot.bytes).id && nat_le (entry_of slot.bytes).id most

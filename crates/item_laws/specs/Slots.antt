-- A sector's slots. Slot k of a sector starts k + 1 slots before its end, so slots run downward.
use Rattle.std.specs.Prelude.{ℕ, ◌+◌, ◌-◌, ◌*◌, ◌/◌, Bool, List, length, map, slice_range}
use Rattle.std.specs.List.{range_with_len, take_while}

pub record Slot : Type 0 where
  pub index : ℕ
  pub start : ℕ
  pub bytes : List ℕ

-- slot 0 ends at the sector's end
unfoldable pub slot_at : ℕ → List ℕ → ℕ → Slot
slot_at size sector k =
    let start = length sector - (k + 1) * size in
    record { index = k; start = start; bytes = slice_range sector start (start + size) }

-- the slots from the first one for entries on, downward to the sector's start
abbrev pub slots : ℕ → ℕ → List ℕ → List Slot
slots first size sector = map (slot_at size sector) (range_with_len first (length sector / size - first))

-- those before the first that is not used, the fence
unfoldable pub used_slots : (Slot → Bool) → ℕ → ℕ → List ℕ → List Slot
used_slots is_used first size sector = take_while is_used (slots first size sector)

-- the start of the lowest used slot; the slots above the first count as used
abbrev pub low : (Slot → Bool) → ℕ → ℕ → List ℕ → ℕ
low is_used first size sector = length sector - (length (used_slots is_used first size sector) + first) * size

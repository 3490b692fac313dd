-- What an entry takes up of a sector.
use Rattle.std.specs.Prelude.{ℕ, ◌+◌, ◌-◌, ◌*◌}
use Rattle.flash_map.specs.Units.{padded}

-- an entry has eight bytes
unfoldable pub slot_size : ℕ → ℕ
slot_size unit = padded unit 8

-- what data of this length and its entry take up
abbrev pub cost : ℕ → ℕ → ℕ
cost unit len = slot_size unit + padded unit len

-- what a sector has for data and entries: all but the slots for close, gc-done, one delete and the
-- fence
abbrev pub capacity : ℕ → ℕ → ℕ
capacity unit sector = sector - 4 * slot_size unit

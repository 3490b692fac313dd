-- What a step of NVS that was cut leaves free.
use Rattle.std.proofs.Common.{ℕ, ◌+◌, ◌≤◌, List, length, arith}
use Rattle.flash_map.specs.Units.{padded}
use Rattle.item_store.specs.Steps.{LeavesRoom}
use Rattle.nvs_store.specs.Geometry.{slot_size, cost}
use Rattle.nvs_store.specs.Sector.{low, data_end, StopsAdding}
use Rattle.nvs_format.specs.Formats.{format_in}

-- a put takes no more than its entry and its padded bytes
pub stops_room : (unit : ℕ) (b e : List ℕ) (id : ℕ) (bytes : List ℕ) → StopsAdding unit b e id bytes
    → LeavesRoom (format_in unit) b e (cost unit (length bytes))
stops_room unit b e id bytes stops =
    let lower : low unit b ≤ low unit e + slot_size unit = stops.lower in
    let grown : data_end unit e ≤ data_end unit b + padded unit (length bytes) = stops.grown in
    omega arith

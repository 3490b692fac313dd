-- What one sector is: free, or used by the ring.
use Rattle.std.specs.Prelude.{◌≡◌, ◌%◌, ◌≤◌, length, ℕ, ◌+◌, ◌*◌, Bool, not, ◌&&◌, ◌||◌, List, [], ◌∷◌, ◌++◌, map, count_by, take, drop, replicate, slice_index, nat_eq, if◌then◌else◌}
use Rattle.std.specs.List.{starts_with}
use Rattle.flash_map.specs.Units.{IsUnit, is_erased}
use Rattle.fcb_ring.specs.declared.sector.SectorState.{SectorState}
use Rattle.fcb_ring.specs.Records.{has_record, records_end}

-- all bytes of a sector on which a ring may stand
pub record IsSector (unit : ℕ) (bytes : List ℕ) : Type 0 where
  pub is_unit : IsUnit unit
  pub long : 512 ≤ length bytes
  pub short : length bytes ≤ 32768
  pub whole : length bytes % unit ≡ 0

-- the four bytes that a header begins with
abbrev pub magic : List ℕ
magic = 0xEE ∷ 0xEE ∷ 0xFF ∷ 0xC0 ∷ []

-- and all of it before the id: the magic, the version and a byte of padding
abbrev pub lead : List ℕ
lead = magic ++ 0x01 ∷ 0xFF ∷ []

-- a torn header: its first four bytes, and nothing behind them
unfoldable pub is_torn : List ℕ → Bool
is_torn sector = starts_with nat_eq sector magic && is_erased (drop 4 sector)

-- an id of two bytes, low byte first
unfoldable pub id_of : List ℕ → ℕ
id_of sector = slice_index sector 6 + 0x100 * slice_index sector 7

-- the state of a sector with these bytes
unfoldable pub state_of : ℕ → List ℕ → SectorState
state_of unit sector = record {
  is_torn = is_torn sector;
  is_free = is_erased sector || is_torn sector;
  has_header = starts_with nat_eq sector lead;
  id = id_of sector;
  end = records_end unit sector;
  -- a record stands behind the last one that lies in the sector, so it passes the sector's end
  is_overfull = has_record sector (records_end unit sector);
  is_dirty = not (is_erased (drop (records_end unit sector) sector));
}

-- a sector whose torn header is erased
unfoldable pub mended : List ℕ → List ℕ
mended sector = if is_torn sector then replicate (length sector) 0xFF else sector

-- how many sectors have one
abbrev pub torn_count : List (List ℕ) → ℕ
torn_count sectors = count_by is_torn sectors

-- the first so many sectors are mended
abbrev pub mended_up_to : ℕ → List (List ℕ) → List (List ℕ)
mended_up_to n sectors = map mended (take n sectors) ++ drop n sectors

-- What the ring programs: headers and records.
use Rattle.std.specs.Prelude.{◌≡◌, ◌≢◌, ℕ, ◌+◌, ◌-◌, ◌*◌, ◌/◌, ◌%◌, ◌<◌, List, [], ◌∷◌, ◌++◌, length, take, replicate, slice_range, true, nat_lt, if◌then◌else◌}
use Rattle.crc8_entry.specs.Crc.{crc}
use Rattle.flash_map.specs.Units.{padded}
use Rattle.fcb_ring.specs.Records.{record_of}
use Rattle.fcb_ring.specs.SectorStates.{lead}

-- a part, filled up to whole units with FF
unfoldable pub filled : ℕ → List ℕ → List ℕ
filled unit part = part ++ replicate (padded unit (length part) - length part) 0xFF

-- a length below 128 is one byte; a longer one has its low seven bits, with the top bit set, and
-- then the rest
unfoldable pub length_field : ℕ → List ℕ
length_field len = if nat_lt len 0x80 then len ∷ [] else (len % 0x80 + 0x80) ∷ (len / 0x80) ∷ []

-- the length field, the body, and the CRC over both without their padding
unfoldable pub record_image : ℕ → List ℕ → List ℕ
record_image unit body =
    let field = length_field (length body) in
    filled unit field ++ (filled unit body ++ filled unit (crc 0xFF (field ++ body) ∷ []))

-- the bytes of a record with a body of this length
abbrev pub record_cost : ℕ → ℕ → ℕ
record_cost unit len = unit + padded unit len + unit

-- a header with this id, padded to the unit
unfoldable pub header_image : ℕ → ℕ → List ℕ
header_image unit id = filled unit (lead ++ (id % 0x100) ∷ (id / 0x100) ∷ [])

-- a torn record: so many of its units, and FF behind them
abbrev pub cut_record : ℕ → List ℕ → ℕ → List ℕ
cut_record unit body done =
    take (done * unit) (record_image unit body)
    ++ replicate (record_cost unit (length body) - done * unit) 0xFF

-- the body that it spells
abbrev pub spelled : ℕ → List ℕ → ℕ → List ℕ
spelled unit body done = slice_range (cut_record unit body done) unit (unit + length body)

-- it checks by chance, and is not the record
pub record IsChance (unit : ℕ) (body : List ℕ) (done : ℕ) : Type 0 where
  pub some : 0 < done
  pub fewer : done < record_cost unit (length body) / unit
  pub checks : (record_of unit (cut_record unit body done) 0).checks ≡ true
  pub differs : cut_record unit body done ≢ record_image unit body

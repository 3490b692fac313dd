-- The records of a sector, one behind the other. A record is a length field, a body and a CRC, each
-- padded to the unit.
use Rattle.std.specs.Prelude.{ℕ, zero, suc, ◌+◌, ◌*◌, ◌%◌, Bool, not, ◌&&◌, ◌||◌, List, [], ◌∷◌, ◌++◌, length, slice_index, slice_range, Option, Some, None, ◌==◌, filter, find, nat_eq, nat_lt, nat_le, if◌then◌else◌}
use Rattle.std.specs.List.{last_or, starts_with}
use Rattle.std.specs.Option.{option_map, option_map_or}
use Rattle.crc8_entry.specs.Crc.{crc}
use Rattle.flash_map.specs.Units.{padded}
use Rattle.fcb_ring.specs.declared.record.Record.{Record}
use Rattle.fcb_ring.specs.declared.record.Extent.{Extent}

-- A first byte below 128 is the length. Otherwise it has the low seven bits, and the second byte
-- has the rest.
unfoldable pub body_len : ℕ → ℕ → ℕ
body_len first second = if nat_lt first 0x80 then first else first % 0x80 + 0x80 * second

-- how many bytes the length field has
unfoldable pub field_width : ℕ → ℕ
field_width first = if nat_lt first 0x80 then 1 else 2

-- Two bytes FF FF are an erased length field. It ends the records, as the sector's end does.
unfoldable pub has_record : List ℕ → ℕ → Bool
has_record sector at =
    nat_lt at (length sector)
    && not ((slice_index sector at == 0xFF) && (slice_index sector (at + 1) == 0xFF))

-- The CRC covers the length as it is written, and the body, without their padding.
unfoldable pub checks_at : List ℕ → ℕ → ℕ → ℕ → ℕ → Bool
checks_at sector at body len crc_at =
    crc 0xFF
    (slice_range sector at (at + field_width (slice_index sector at))
    ++ slice_range sector body (body + len)) == slice_index sector crc_at

-- what the bytes from a place on read as, if a record stands there
unfoldable pub record_of : ℕ → List ℕ → ℕ → Record
record_of unit sector at =
    let len = body_len (slice_index sector at) (slice_index sector (at + 1)) in
    let body = at + unit in
    let crc_at = body + padded unit len in
    record {
      offset = at;
      body = body;
      len = len;
      end = crc_at + unit;
      checks = checks_at sector at body len crc_at;
    }

-- the record at a place; none if the records end there, or if it would pass the sector's end
unfoldable pub record_at : ℕ → List ℕ → ℕ → Option Record
record_at unit sector at =
    if has_record sector at
    && nat_le (record_of unit sector at).end (length sector) then Some (record_of unit sector at) else None

-- how far it goes
abbrev pub extent_of : Record → Extent
extent_of r = record { len = r.len; end = r.end }

-- its body begins with these bytes, and it checks
abbrev pub passes : List ℕ → List ℕ → Record → Bool
passes sector prefix r = starts_with nat_eq (slice_range sector r.body (r.body + r.len)) prefix && r.checks

-- the body begins with the prefix, and has at most so many bytes
abbrev pub is_alike : List ℕ → ℕ → List ℕ → Bool
is_alike prefix most body = starts_with nat_eq body prefix && nat_le (length body) most

-- the record's body is alike, and it checks if that is asked for
abbrev pub is_wanted : List ℕ → List ℕ → ℕ → Bool → Record → Bool
is_wanted sector prefix most checked r =
    (not checked || r.checks) && is_alike prefix most (slice_range sector r.body (r.body + r.len))

-- the record, taken as one that does not check unless its body begins with the prefix
abbrev pub with_prefix : List ℕ → List ℕ → Record → Record
with_prefix sector prefix r = record r { checks = passes sector prefix r }

-- The records from a place on; `step` reads one of them. The first number bounds how many there
-- are.
abbrev pub walk : (ℕ → Option Record) → ℕ → ℕ → List Record
walk step zero at = []
walk step (suc n) at = option_map_or (λ r. r ∷ walk step n r.end) (step at) []

-- the first of them from a place on that passes
abbrev pub first_passing : ℕ → List ℕ → List ℕ → ℕ → Option Record
first_passing unit sector prefix from =
    option_map (with_prefix sector prefix)
    (find (passes sector prefix) (walk (record_at unit sector) (length sector) from))

-- the records of a sector, those that do not check too; they begin behind the header's eight bytes
unfoldable pub records : ℕ → List ℕ → List Record
records unit sector = walk (record_at unit sector) (length sector) (padded unit 8)

-- the last of them that is wanted
abbrev pub last_wanted : ℕ → List ℕ → List ℕ → ℕ → Bool → Option Record
last_wanted unit sector prefix most checked =
    last_or None (filter (is_wanted sector prefix most checked) (records unit sector))

-- the end of the last of these records; if there is none, this place
abbrev pub last_end : ℕ → List Record → ℕ
last_end place records = option_map_or (λ r. r.end) (last_or None records) place

-- where the sector's records end; with none, behind the header
unfoldable pub records_end : ℕ → List ℕ → ℕ
records_end unit sector = last_end (padded unit 8) (records unit sector)

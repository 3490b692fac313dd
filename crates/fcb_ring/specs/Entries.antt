-- How an area reads: the bodies of the records that check, each with its place, or the area's
-- damage.
use Rattle.std.specs.Prelude.{◌≡◌, ℕ, ◌+◌, ◌-◌, List, [], ◌++◌, length, nat_lt, if◌then◌else◌, map, filter, flat_map, slice_range, None}
use Rattle.flash_map.specs.Area.{sector_at}
use Rattle.std.specs.List.{range_with_len}
use Rattle.flash_map.specs.Units.{padded}
use Rattle.fcb_ring.specs.declared.record.Record.{Record}
use Rattle.fcb_ring.specs.declared.record.RecordAt.{RecordAt}
use Rattle.fcb_ring.specs.declared.sector.SectorState.{SectorState}
use Rattle.fcb_ring.specs.Records.{records, walk, record_at}
use Rattle.fcb_ring.specs.Rings.{counting, first_damage, turned}
use Rattle.fcb_ring.specs.SectorStates.{state_of}

abbrev pub states : ℕ → List (List ℕ) → List SectorState
states unit sectors = map (state_of unit) sectors

abbrev pub placed : ℕ → Record → RecordAt
placed place r = record { sector = place; offset = r.offset; body = r.body; len = r.len }

-- a record of this place, and its body
abbrev pub entry_of : ℕ → List ℕ → Record → RecordAt × List ℕ
entry_of place sector r = (placed place r, slice_range sector r.body (r.body + r.len))

-- the records of a sector that check
unfoldable pub sector_entries : ℕ → ℕ → List ℕ → List (RecordAt × List ℕ)
sector_entries unit place sector = map (entry_of place sector) (filter (λ r. r.checks) (records unit sector))

-- the area's records that check, the oldest first
unfoldable pub entries : ℕ → List (List ℕ) → List (RecordAt × List ℕ)
entries unit sectors =
    flat_map (λ place. sector_entries unit place (sector_at sectors place)) (counting (states unit sectors))

-- the records of a sector that check, from an offset on
abbrev pub records_from : ℕ → ℕ → List ℕ → ℕ → List RecordAt
records_from unit place sector from =
    map (placed place) (filter (λ r. r.checks) (walk (record_at unit sector) (length sector) from))

-- and those of the sectors behind it; so many count, from the oldest on
unfoldable pub following : ℕ → List (List ℕ) → ℕ → ℕ → ℕ → ℕ → List RecordAt
following unit sectors oldest count k from =
    let at = turned (length sectors) oldest in
    if nat_lt k count then
    records_from unit (at k) (sector_at sectors (at k)) from
    ++ flat_map (λ j. records_from unit (at j) (sector_at sectors (at j)) (padded unit 8))
    (range_with_len (k + 1) (count - (k + 1)))
    else []

abbrev pub bodies : List (RecordAt × List ℕ) → List (List ℕ)
bodies list = map (λ entry. entry.1) list

-- the area is not damaged, and has these records
pub record HasEntries (unit : ℕ) (sectors : List (List ℕ)) (list : List (RecordAt × List ℕ)) : Type 0 where
  pub undamaged : first_damage (states unit sectors) ≡ None
  pub are : entries unit sectors ≡ list

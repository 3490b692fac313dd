-- What appending, rotating and collecting make of an area and of its ring.
use Rattle.std.specs.Prelude.{◌≡◌, ◌⊎◌, ℕ, ◌+◌, ◌-◌, ◌/◌, ◌%◌, ◌<◌, ◌≤◌, Bool, true, false, not, ◌&&◌, ◌||◌, List, [], ◌∷◌, ◌++◌, length, slice_range, Some, Result, Ok, Err, ◌==◌, nat_eq, nat_lt, nat_le, if◌then◌else◌}
use Rattle.std.specs.List.{starts_with}
use Rattle.flash_sim.specs.Device.{Device}
use Rattle.flash_sim.specs.declared.flash.Loss.{Loss}
use Rattle.flash_sim.specs.declared.flash.TheConstants.{PROGRAM_LIMIT}
use Rattle.flash_map.specs.Area.{unit_of, sector_size, sectors_of, sector_bytes, place_of, Writes, OthersStay}
use Rattle.flash_map.specs.Spending.{Spends, SpendsAtMost}
use Rattle.flash_map.specs.Units.{padded}
use Rattle.flash_map.specs.declared.area.Area.{Area}
use Rattle.fcb_ring.specs.declared.ring.Ring.{Ring}
use Rattle.fcb_ring.specs.declared.ring.Stage.{Stage}
use Rattle.fcb_ring.specs.declared.ring.Stage.TheVariants.{Ready, Collecting}
use Rattle.fcb_ring.specs.declared.record.RecordAt.{RecordAt}
use Rattle.fcb_ring.specs.declared.writing.AppendFault.{AppendFault}
use Rattle.fcb_ring.specs.declared.writing.AppendFault.TheVariants.{Full, TooLong, PowerLost}
use Rattle.fcb_ring.specs.Entries.{sector_entries, HasEntries}
use Rattle.fcb_ring.specs.Rings.{turned, is_full}
use Rattle.fcb_ring.specs.Standing.{StandsOn, states_on, entries_on, HasEntriesOn, KeepsEntries, is_up, newest_of_all}
use Rattle.fcb_ring.specs.SectorStates.{mended_up_to}
use Rattle.fcb_ring.specs.Writing.{header_image, record_image, record_cost, cut_record, spelled, IsChance}

-- ---- what is programmed, in the units of an area

-- the bytes of a header
abbrev pub header_on : Device → Area → ℕ
header_on d area = padded (unit_of d area) 8

-- its units
abbrev pub header_units : Device → Area → ℕ
header_units d area = header_on d area / unit_of d area

-- the bytes of a record with a body of this length
abbrev pub cost_on : Device → Area → ℕ → ℕ
cost_on d area len = record_cost (unit_of d area) len

-- its units
abbrev pub record_units : Device → Area → ℕ → ℕ
record_units d area len = cost_on d area len / unit_of d area

-- a record with this body
abbrev pub image_on : Device → Area → List ℕ → List ℕ
image_on d area body = record_image (unit_of d area) body

-- ---- room

-- the room in bytes that a record leaves in its sector
abbrev pub kept_room : Ring → Bool → ℕ
kept_room ring into_reserve = if into_reserve then 0 else ring.reserve

-- No sector could hold a record with a body of this length.
abbrev pub is_too_long : ℕ → ℕ → ℕ → ℕ → Bool
is_too_long unit size kept len = (len == 0) || nat_lt (size - padded unit 8 - kept) (record_cost unit len)

-- a record with a body of this length fits behind those of the newest sector
abbrev pub has_room : ℕ → ℕ → Ring → ℕ → ℕ → Bool
has_room unit size ring kept len = nat_lt 0 ring.used && nat_le (ring.end + record_cost unit len + kept) size

-- only the scratch sector is free
abbrev pub is_scratch_left : Ring → Bool
is_scratch_left ring = ring.used + 1 == ring.area.sectors

-- ---- sectors

-- the sector in which the ring writes
abbrev pub newest_place : Ring → ℕ
newest_place ring = turned ring.area.sectors ring.oldest (ring.used - 1)

-- and the one that it opens next
abbrev pub next_place : Ring → ℕ
next_place ring = turned ring.area.sectors ring.oldest ring.used

-- the records of one sector that check
abbrev pub sector_list : Device → Area → ℕ → List (RecordAt × List ℕ)
sector_list d area place = sector_entries (unit_of d area) place (sector_bytes d area place)

-- the stage of a ring of which so many sectors are used
abbrev pub FitsOpened : Stage → ℕ → ℕ → Type 0
FitsOpened Ready used count = used < count
FitsOpened Collecting used count = used ≡ count
FitsOpened stage used count = ⊥

-- ---- one record

-- A record with this body stands behind the others of the newest sector, and in the list if that
-- sector counts.
pub record PutsRecord (old new : Device) (ring : Ring) (body : List ℕ) : Type 0 where
  pub at : RecordAt
  pub sector : at.sector ≡ newest_place ring
  pub here : sector_list new ring.area (newest_place ring)
      ≡ sector_list old ring.area (newest_place ring) ++ (at, body) ∷ []
  pub list : HasEntriesOn new ring.area
      (entries_on old ring.area ++ (if ring.used == ring.area.sectors then [] else ((at, body) ∷ [])))

-- the list has one more record, with this body, in this sector
abbrev pub AddsRecord : Device → Device → Area → ℕ → List ℕ → Type 0
AddsRecord old new area place body =
    (at : RecordAt) × (at.sector ≡ place) × HasEntriesOn new area (entries_on old area ++ (at, body) ∷ [])

-- What stands behind a list once so many units of a record were put into this sector: nothing that
-- checks; the record, if all else of it is FF; or by chance the body that these units spell.
abbrev pub CutList : ℕ → List (List ℕ) → List (RecordAt × List ℕ) → ℕ → List ℕ → ℕ → Type 0
CutList unit sectors list place body done =
    ((IsChance unit body done → ⊥) × HasEntries unit sectors list)
    ⊎
    ((at : RecordAt) × (at.sector ≡ place) × (cut_record unit body done ≡ record_image unit body)
    × HasEntries unit sectors (list ++ (at, body) ∷ []))
    ⊎
    ((at : RecordAt) × (at.sector ≡ place) × IsChance unit body done
    × HasEntries unit sectors (list ++ (at, spelled unit body done) ∷ []))

-- power was lost after so many units of a record at this offset of this sector, which it does not
-- begin
pub record IsRecordLoss (new : Device) (area : Area) (place offset : ℕ) (body : List ℕ) (done : ℕ) :
    Type 0 where
  pub has_sector : place < area.sectors
  pub behind_header : 8 ≤ offset
  pub in_sector : offset + cost_on new area (length body) ≤ sector_size new area
  pub one_program : cost_on new area (length body) ≤ PROGRAM_LIMIT
  pub fewer : done < record_units new area (length body)
  pub loss : new.last_loss
      ≡ Some
      (record {
        at = place_of new area place offset;
        want = record { items = image_on new area body };
        done = done;
      })

-- if power was on, it was lost in a record with this body behind those of the ring
abbrev pub LosesRecord : Device → Device → Ring → List ℕ → Type 0
LosesRecord old new ring body =
    old.is_on ≡ true → (done : ℕ) × IsRecordLoss new ring.area (newest_place ring) ring.end body done

-- power was lost in the header of this sector, which begins it
pub record IsHeaderLoss (new : Device) (area : Area) (place : ℕ) : Type 0 where
  pub loss : Loss
  pub has_sector : place < area.sectors
  pub last : new.last_loss ≡ Some loss
  pub at : loss.at ≡ place_of new area place 0

-- if power was on, it was lost in the header of the sector that the ring opens next
abbrev pub LosesHeader : Device → Device → Ring → Type 0
LosesHeader old new ring = old.is_on ≡ true → IsHeaderLoss new ring.area (next_place ring)

-- power was lost in the erase of this sector
abbrev pub IsEraseLoss : Device → Area → ℕ → Type 0
IsEraseLoss new area place =
    new.last_loss ≡ Some (record { at = place_of new area place 0; want = record { items = [] }; done = 0 })

-- Of the sectors with a torn header, those before one are blank. Power was lost in the erase of
-- that one.
abbrev pub StopsMending : Device → Device → Area → Type 0
StopsMending old new area =
    (n : ℕ) × (sectors_of new area ≡ mended_up_to n (sectors_of old area))
    × (old.is_on ≡ true → IsEraseLoss new area n)

-- The erase of this sector was lost while an area was mounted. Of the sectors before it those with
-- a torn header are blank; or all of those are, and it is the newest one.
pub record StopsErasing (old new : Device) (area : Area) : Type 0 where
  pub done : ℕ
  pub sectors : sectors_of new area ≡ mended_up_to done (sectors_of old area)
  pub place : ℕ
  pub which : (place ≡ done)
      ⊎ ((done ≡ area.sectors) × (place ≡ newest_of_all (unit_of old area) (sectors_of old area)))
  pub lost : old.is_on ≡ true → IsEraseLoss new area place

-- an append to this sector that was cut in the sector's header
pub record StopsInHeader (old new : Device) (area : Area) (place : ℕ) : Type 0 where
  pub list : KeepsEntries old new area
  pub loss : old.is_on ≡ true → IsHeaderLoss new area place

-- and one that was cut in the record; a sector is still free
pub record StopsInRecord (old new : Device) (area : Area) (place : ℕ) (body : List ℕ) : Type 0 where
  pub offset : ℕ
  pub done : ℕ
  pub loss : IsRecordLoss new area place offset body done
  pub free : is_full (states_on new area) ≡ false
  pub list : CutList (unit_of new area) (sectors_of new area) (entries_on old area) place body done

-- an append to this sector that was cut, in the sector's header or in the record
abbrev pub CutAppend : Device → Device → Area → ℕ → List ℕ → Type 0
CutAppend old new area place body = StopsInHeader old new area place ⊎ StopsInRecord old new area place body

-- ---- calls

-- the call returned `PowerLost`
abbrev pub append_lost : {T : Type 0} → Result T AppendFault → Bool
append_lost (Ok x) = false
append_lost (Err Full) = false
append_lost (Err TooLong) = false
append_lost (Err PowerLost) = true

-- the units of an append, which opens a sector if the newest has no room
abbrev pub append_units : ℕ → ℕ → Bool → ℕ
append_units unit len here = record_cost unit len / unit + (if here then 0 else (padded unit 8 / unit))

-- of one that opens the next
abbrev pub opening_units : Device → Area → List ℕ → ℕ
opening_units d area body = append_units (unit_of d area) (length body) false

-- the id of the sector that is opened next: they count up from 0, round the end
abbrev pub next_id : Ring → ℕ
next_id ring = if ring.used == 0 then 0 else ((ring.id + 1) % 65536)

-- the ring after a call that stays in its newest sector, or else opens the next
pub record GoesOn (before after : Ring) (stays : Bool) : Type 0 where
  pub oldest : after.oldest ≡ before.oldest
  pub used : after.used ≡ before.used + (if stays then 0 else 1)
  pub id : after.id ≡ (if stays then before.id else next_id before)

-- where the records of the newest sector end after an append of one of this length
abbrev pub end_after : ℕ → Ring → ℕ → Bool → ℕ
end_after unit before len stays = (if stays then before.end else padded unit 8) + record_cost unit len

-- a record with this body is the last thing in this sector before the ring's end
abbrev pub EndsWithRecord : Device → Ring → ℕ → List ℕ → Type 0
EndsWithRecord d ring place body =
    slice_range (sector_bytes d ring.area place) (ring.end - cost_on d ring.area (length body)) ring.end
    ≡ image_on d ring.area body

-- the ring stands, ready for the next record, and exactly so many units were spent
pub record IsReady (old new : Device) (after : Ring) (spent : ℕ) : Type 0 where
  pub stands : StandsOn new after
  pub stage : after.stage ≡ Ready
  pub units : Spends old new spent

-- nothing changed
pub record IsRefused (old new : Device) (before after : Ring) : Type 0 where
  pub flash : new ≡ old
  pub ring : after ≡ before

-- the ring is down, and at most so many units were spent
pub record IsDown (old new : Device) (after : Ring) (most : ℕ) : Type 0 where
  pub down : is_up after.stage ≡ false
  pub units : SpendsAtMost old new most

-- No sector could hold a record with this body, which leaves so much room.
abbrev pub too_long_for : Device → Ring → List ℕ → ℕ → Bool
too_long_for d ring body kept = is_too_long (unit_of d ring.area) (sector_size d ring.area) kept (length body)

-- it fits behind those of the newest sector
abbrev pub stays_for : Device → Ring → List ℕ → ℕ → Bool
stays_for d ring body kept = has_room (unit_of d ring.area) (sector_size d ring.area) ring kept (length body)

-- it fits there, or a sector besides the scratch one is free
pub record CanAppend (d : Device) (ring : Ring) (body : List ℕ) (kept : ℕ) : Type 0 where
  pub short : too_long_for d ring body kept ≡ false
  pub room : (stays_for d ring body kept || not (is_scratch_left ring)) ≡ true

-- the sector into which it goes
abbrev pub place_for : Device → Ring → List ℕ → ℕ → ℕ
place_for d ring body kept = if stays_for d ring body kept then newest_place ring else next_place ring

-- the units that it spends
abbrev pub units_for : Device → Ring → List ℕ → ℕ → ℕ
units_for d ring body kept = append_units (unit_of d ring.area) (length body) (stays_for d ring body kept)

-- and where the records of the newest sector end after it
abbrev pub end_for : Device → Ring → List ℕ → ℕ → ℕ
end_for d ring body kept = end_after (unit_of d ring.area) ring (length body) (stays_for d ring body kept)

-- how an append of a record that leaves so much room ends
abbrev pub AppendEnds : {T : Type 0} → Device → Device → Ring → Ring → List ℕ → ℕ → Result T AppendFault
    → Type 0
AppendEnds old new before after body kept (Ok x) =
    CanAppend old before body kept × AddsRecord old new before.area (place_for old before body kept) body
    × GoesOn before after (stays_for old before body kept)
    × IsReady old new after (units_for old before body kept)
AppendEnds old new before after body kept (Err TooLong) =
    (too_long_for old before body kept ≡ true) × IsRefused old new before after
AppendEnds old new before after body kept (Err Full) =
    (too_long_for old before body kept ≡ false) × (stays_for old before body kept ≡ false)
    × (is_scratch_left before ≡ true) × IsRefused old new before after
AppendEnds old new before after body kept (Err PowerLost) =
    CanAppend old before body kept × CutAppend old new before.area (place_for old before body kept) body
    × IsDown old new after (units_for old before body kept)

-- The next sector gets a whole header with the next id, padding too. All other bytes of the area stay.
abbrev pub WritesHeader : Device → Device → Ring → Type 0
WritesHeader old new ring =
    Writes old new ring.area (next_place ring) 0 (header_image (unit_of old ring.area) (next_id ring))

-- What an append writes: the record, behind those of the newest sector; or else into the next
-- sector, behind its whole header, padding too. All other bytes of the area stay.
abbrev pub WritesRecord : Bool → Device → Device → Ring → List ℕ → Type 0
WritesRecord true old new ring body =
    Writes old new ring.area (newest_place ring) ring.end (image_on old ring.area body)
WritesRecord false old new ring body =
    Writes old new ring.area (next_place ring) 0
    (header_image (unit_of old ring.area) (next_id ring) ++ image_on old ring.area body)

-- how a rotation ends
abbrev pub RotateEnds : {T : Type 0} → Device → Device → Ring → Ring → Result T AppendFault → Type 0
RotateEnds old new before after (Ok x) =
    (is_scratch_left before ≡ false) × KeepsEntries old new before.area × GoesOn before after false
    × IsReady old new after (header_units old before.area) × WritesHeader old new before
RotateEnds old new before after (Err TooLong) = ⊥
RotateEnds old new before after (Err Full) = (is_scratch_left before ≡ true) × IsRefused old new before after
RotateEnds old new before after (Err PowerLost) =
    (is_scratch_left before ≡ false) × StopsInHeader old new before.area (next_place before)
    × IsDown old new after (header_units old before.area)

-- ---- a collection

-- The scratch sector is open, and has no copies yet. The list is the old one.
pub record Begun (old new : Device) (before after : Ring) : Type 0 where
  pub banks : new.banks ≡ old.banks
  pub written : WritesHeader old new before
  pub list : KeepsEntries old new before.area
  pub others : OthersStay old new before.area (next_place before)
  pub area : after.area ≡ before.area
  pub reserve : after.reserve ≡ before.reserve
  pub stands : StandsOn new after
  pub stage : after.stage ≡ Collecting
  pub goes_on : GoesOn before after false
  pub end : after.end ≡ header_on old before.area
  pub fresh : sector_list new before.area (newest_place after) ≡ []
  pub units : Spends old new (header_units old before.area)

-- power was lost while the scratch sector was opened
pub record StopsBeginning (old new : Device) (before after : Ring) : Type 0 where
  pub banks : new.banks ≡ old.banks
  pub list : KeepsEntries old new before.area
  pub others : OthersStay old new before.area (next_place before)
  pub area : after.area ≡ before.area
  pub reserve : after.reserve ≡ before.reserve
  pub down : is_up after.stage ≡ false
  pub lost : LosesHeader old new before
  pub bound : SpendsAtMost old new (header_units old before.area)

-- The oldest sector is erased, and the next is the oldest: its records are gone from the head of
-- the list, and the copies stand at its end.
pub record EndsCollection (old new : Device) (before after : Ring) : Type 0 where
  pub rest : List (RecordAt × List ℕ)
  pub old_list : entries_on old before.area ≡ sector_list old before.area before.oldest ++ rest
  pub new_list : HasEntriesOn new before.area (rest ++ sector_list old before.area (newest_place before))
  pub oldest : after.oldest ≡ turned before.area.sectors before.oldest 1
  pub used : after.used + 1 ≡ before.used
  pub id : after.id ≡ before.id

-- the body of a record
abbrev pub body_at : Device → Area → RecordAt → List ℕ
body_at d area r = slice_range (sector_bytes d area r.sector) r.body (r.body + r.len)

-- it begins with these bytes
abbrev pub begins_with : Device → Area → List ℕ → RecordAt → Bool
begins_with d area prefix r = starts_with nat_eq (body_at d area r) prefix

-- a record with the body of this one stands behind the copies in the newest sector
abbrev pub CopiesRecord : Device → Device → Ring → RecordAt → Type 0
CopiesRecord old new ring r =
    (at : RecordAt) × (at.sector ≡ newest_place ring)
    × (sector_list new ring.area (newest_place ring)
    ≡ sector_list old ring.area (newest_place ring) ++ (at, body_at old ring.area r) ∷ [])

-- A copy of this record stands behind the others in the scratch sector. The list is the old one.
pub record CopiedRecord (old new : Device) (before after : Ring) (r : RecordAt) : Type 0 where
  pub banks : new.banks ≡ old.banks
  pub list : KeepsEntries old new before.area
  pub others : OthersStay old new before.area (newest_place before)
  pub area : after.area ≡ before.area
  pub reserve : after.reserve ≡ before.reserve
  pub stands : StandsOn new after
  pub stage : after.stage ≡ Collecting
  pub oldest : after.oldest ≡ before.oldest
  pub used : after.used ≡ before.used
  pub end : after.end ≡ before.end + cost_on old before.area r.len
  pub written : Writes old new before.area (newest_place before) before.end
      (image_on old before.area (body_at old before.area r))
  pub copies : CopiesRecord old new before r
  pub units : Spends old new (record_units old before.area r.len)

-- Power was lost in the copy of this record. No sector is free, so that nothing of it counts.
pub record StopsCopyingRecord (old new : Device) (before after : Ring) (r : RecordAt) : Type 0 where
  pub banks : new.banks ≡ old.banks
  pub list : KeepsEntries old new before.area
  pub others : OthersStay old new before.area (newest_place before)
  pub area : after.area ≡ before.area
  pub reserve : after.reserve ≡ before.reserve
  pub down : is_up after.stage ≡ false
  pub full : is_full (states_on new before.area) ≡ true
  pub lost : LosesRecord old new before (body_at old before.area r)
  pub bound : SpendsAtMost old new (record_units old before.area r.len)

-- All records of a sector, those that do not check too, and what an append makes of them, whole or
-- cut.
use Rattle.std.specs.Prelude.{◌≡◌, ◌⊎◌, ℕ, ◌+◌, Bool, true, false, List, [], ◌∷◌, ◌++◌, length, map, slice_range}
use Rattle.flash_sim.specs.Device.{Device}
use Rattle.flash_map.specs.declared.area.Area.{Area}
use Rattle.flash_map.specs.Area.{unit_of, sector_bytes}
use Rattle.fcb_ring.specs.declared.record.Record.{Record}
use Rattle.fcb_ring.specs.declared.ring.Ring.{Ring}
use Rattle.fcb_ring.specs.Changing.{newest_place, next_place, IsRecordLoss, IsHeaderLoss}
use Rattle.fcb_ring.specs.Records.{records}
use Rattle.fcb_ring.specs.Rings.{IsRing}
use Rattle.fcb_ring.specs.Standing.{states_on}
use Rattle.fcb_ring.specs.Writing.{record_image, cut_record, spelled, IsChance}

-- a record of a sector, and what stands in its body's place
abbrev pub with_body : List ℕ → Record → Record × List ℕ
with_body sector r = (r, slice_range sector r.body (r.body + r.len))

-- all records of a sector, each with its body
unfoldable pub sector_records : ℕ → List ℕ → List (Record × List ℕ)
sector_records unit sector = map (with_body sector) (records unit sector)

-- those of one sector of an area
abbrev pub records_in : Device → Area → ℕ → List (Record × List ℕ)
records_in d area place = sector_records (unit_of d area) (sector_bytes d area place)

-- One more record stands behind those of a sector, with this body. It checks, or does not.
pub record GainsRecord (old new : Device) (area : Area) (place : ℕ) (body : List ℕ) (checked : Bool) :
    Type 0 where
  pub last : Record
  pub len : last.len ≡ length body
  pub checks : last.checks ≡ checked
  pub all : records_in new area place ≡ records_in old area place ++ (last, body) ∷ []

-- What stands behind a sector's records once so many units of one were put there: nothing; a record
-- that does not check; the record, if all else of it is FF; or by chance one with the body that
-- these units spell.
abbrev pub CutRecords : ℕ → Device → Device → Area → ℕ → List ℕ → ℕ → Type 0
CutRecords unit old new area place body done =
    ((IsChance unit body done → ⊥) × (records_in new area place ≡ records_in old area place))
    ⊎ ((IsChance unit body done → ⊥) × GainsRecord old new area place (spelled unit body done) false)
    ⊎ ((cut_record unit body done ≡ record_image unit body) × GainsRecord old new area place body true)
    ⊎ (IsChance unit body done × GainsRecord old new area place (spelled unit body done) true)

-- power was lost in the header of the sector that the ring opens next, which is still free
pub record CutInHeader (old new : Device) (ring : Ring) : Type 0 where
  pub loss : IsHeaderLoss new ring.area (next_place ring)
  pub form : IsRing (states_on new ring.area) ring.oldest ring.used

-- Power was lost in a record with this body, behind those of this sector. It is the newest of so
-- many that are used.
pub record CutInRecord (old new : Device) (ring : Ring) (place used : ℕ) (body : List ℕ) : Type 0 where
  pub offset : ℕ
  pub done : ℕ
  pub loss : IsRecordLoss new ring.area place offset body done
  pub form : IsRing (states_on new ring.area) ring.oldest used
  pub records : CutRecords (unit_of new ring.area) old new ring.area place body done

-- what a cut append leaves of the records: its record stays in the newest sector, or else opens the
-- next
abbrev pub CutRing : Bool → Device → Device → Ring → List ℕ → Type 0
CutRing true old new ring body = CutInRecord old new ring (newest_place ring) ring.used body
CutRing false old new ring body =
    CutInHeader old new ring ⊎ CutInRecord old new ring (next_place ring) (ring.used + 1) body

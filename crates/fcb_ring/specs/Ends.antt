-- How the ring's calls end: when they complete, and when power is lost.
use Rattle.std.specs.Prelude.{◌≡◌, ℕ, ◌+◌, ◌<◌, true, false, List, [], length}
use Rattle.flash_sim.specs.Device.{Device}
use Rattle.flash_map.specs.Area.{sectors_of, Writes}
use Rattle.flash_map.specs.Spending.{Spends, SpendsAtMost}
use Rattle.fcb_ring.specs.declared.ring.Ring.{Ring}
use Rattle.fcb_ring.specs.declared.ring.Stage.{Stage}
use Rattle.fcb_ring.specs.declared.ring.Stage.TheVariants.{Ready}
use Rattle.fcb_ring.specs.Changing.{header_on, header_units, cost_on, record_units, opening_units, image_on, next_id, newest_place, next_place, sector_list, GoesOn, PutsRecord, AddsRecord, EndsWithRecord, IsReady, IsDown, LosesRecord, LosesHeader, CutAppend, IsEraseLoss, StopsErasing, EndsCollection, WritesHeader, WritesRecord}
use Rattle.fcb_ring.specs.Gains.{records_in, GainsRecord, CutInRecord, CutRing}
use Rattle.fcb_ring.specs.Rings.{is_full, IsRing}
use Rattle.fcb_ring.specs.Standing.{StandsOn, states_on, KeepsEntries, is_up, erases_on, mounted_on}

-- ---- the ring

-- It goes on in its newest sector, whose records end so many bytes further.
pub record Continues (before after : Ring) (bytes : ℕ) : Type 0 where
  pub area : after.area ≡ before.area
  pub reserve : after.reserve ≡ before.reserve
  pub oldest : after.oldest ≡ before.oldest
  pub used : after.used ≡ before.used
  pub id : after.id ≡ before.id
  pub end : after.end ≡ before.end + bytes
  pub stage : after.stage ≡ before.stage

-- It goes on in the next sector, behind a header of so many bytes.
pub record Advances (before after : Ring) (header : ℕ) (reached : Stage) : Type 0 where
  pub area : after.area ≡ before.area
  pub reserve : after.reserve ≡ before.reserve
  pub oldest : after.oldest ≡ before.oldest
  pub used : after.used ≡ before.used + 1
  pub id : after.id ≡ next_id before
  pub end : after.end ≡ header
  pub stage : after.stage ≡ reached

-- It is down. It keeps its area and its reserve.
pub record GoesDown (before after : Ring) : Type 0 where
  pub area : after.area ≡ before.area
  pub reserve : after.reserve ≡ before.reserve
  pub down : is_up after.stage ≡ false

-- ---- opening the next sector

-- The next sector is open, and has no records yet.
pub record Opened (old new : Device) (before after : Ring) (reached : Stage) : Type 0 where
  pub ring : Advances before after (header_on old before.area) reached
  pub stands : StandsOn new after
  pub written : WritesHeader old new before
  pub fresh : sector_list new before.area (newest_place after) ≡ []
  pub empty : records_in new before.area (next_place before) ≡ records_in old before.area (next_place before)
  pub units : Spends old new (header_units old before.area)

-- Power was lost in its header. It is still free.
pub record StopsOpening (old new : Device) (before after : Ring) : Type 0 where
  pub ring : GoesDown before after
  pub form : IsRing (states_on new before.area) before.oldest before.used
  pub lost : LosesHeader old new before
  pub bound : SpendsAtMost old new (header_units old before.area)

-- ---- putting a record

-- A record with this body stands behind the others of the newest sector.
pub record PutsInNewest (old new : Device) (before after : Ring) (body : List ℕ) : Type 0 where
  pub ring : Continues before after (cost_on old before.area (length body))
  pub stands : StandsOn new after
  pub written : Writes old new before.area (newest_place before) before.end (image_on old before.area body)
  pub ends_with : EndsWithRecord new after (newest_place before) body
  pub puts : PutsRecord old new before body
  pub gains : GainsRecord old new before.area (newest_place before) body true
  pub units : Spends old new (record_units old before.area (length body))

-- Power was lost in that record. If no sector is free, the newest one does not count, and the list
-- stays.
pub record StopsInNewest (old new : Device) (before after : Ring) (body : List ℕ) : Type 0 where
  pub ring : GoesDown before after
  pub lost : LosesRecord old new before body
  pub counted : before.used < before.area.sectors → CutAppend old new before.area (newest_place before) body
  pub torn : old.is_on ≡ true → CutInRecord old new before (newest_place before) before.used body
  pub full : before.used ≡ before.area.sectors → is_full (states_on new before.area) ≡ true
  pub uncounted : before.used ≡ before.area.sectors → KeepsEntries old new before.area
  pub bound : SpendsAtMost old new (record_units old before.area (length body))

-- A record with this body is the first of the next sector, which was opened for it.
pub record PutsInNext (old new : Device) (before after : Ring) (body : List ℕ) : Type 0 where
  pub area : after.area ≡ before.area
  pub reserve : after.reserve ≡ before.reserve
  pub goes_on : GoesOn before after false
  pub end : after.end ≡ header_on old before.area + cost_on old before.area (length body)
  pub written : WritesRecord false old new before body
  pub adds : AddsRecord old new before.area (next_place before) body
  pub ends_with : EndsWithRecord new after (next_place before) body
  pub gains : GainsRecord old new before.area (next_place before) body true
  pub ready : IsReady old new after (opening_units old before.area body)

-- Power was lost in the header of that sector, or in the record.
pub record StopsInNext (old new : Device) (before after : Ring) (body : List ℕ) : Type 0 where
  pub area : after.area ≡ before.area
  pub reserve : after.reserve ≡ before.reserve
  pub cut : CutAppend old new before.area (next_place before) body
  pub torn : old.is_on ≡ true → CutRing false old new before body
  pub down : IsDown old new after (opening_units old before.area body)

-- ---- finishing a mount

-- The sectors that a mount erases are blank.
pub record Finished (old new : Device) (before after : Ring) : Type 0 where
  pub area : after.area ≡ before.area
  pub reserve : after.reserve ≡ before.reserve
  pub stands : StandsOn new after
  pub ready : after.stage ≡ Ready
  pub erased : sectors_of new before.area ≡ mounted_on old before.area
  pub units : Spends old new (erases_on old before.area)

-- Power was lost in one of these erases.
pub record StopsFinishing (old new : Device) (before after : Ring) : Type 0 where
  pub ring : GoesDown before after
  pub part : StopsErasing old new before.area
  pub bound : SpendsAtMost old new (erases_on old before.area)

-- ---- ending a collection

-- The oldest sector is erased, and the copies count.
pub record Collected (old new : Device) (before after : Ring) : Type 0 where
  pub area : after.area ≡ before.area
  pub reserve : after.reserve ≡ before.reserve
  pub stands : StandsOn new after
  pub ready : after.stage ≡ Ready
  pub end : after.end ≡ before.end
  pub ends : EndsCollection old new before after
  pub units : Spends old new 1

-- Power was lost in that erase. The sectors are as before.
pub record StopsCollecting (old new : Device) (before after : Ring) : Type 0 where
  pub ring : GoesDown before after
  pub list : KeepsEntries old new before.area
  pub same : sectors_of new before.area ≡ sectors_of old before.area
  pub lost : old.is_on ≡ true → IsEraseLoss new before.area before.oldest
  pub bound : SpendsAtMost old new 1

-- When a ring stands on the bytes of its area.
use Rattle.std.specs.Prelude.{◌≡◌, ◌⊎◌, ℕ, ◌+◌, ◌-◌, ◌<◌, ◌≤◌, Bool, true, false, List, length, map, count_by, slice_set, min, Contains, drop, filter, find, option_map, nat_eq, Option, Some, None, if◌then◌else◌, Result, Ok, Err}
use Rattle.std.specs.List.{last_or, slice_get, starts_with}
use Rattle.flash_sim.specs.Device.{Device}
use Rattle.flash_sim.specs.declared.flash.Bank.{Bank}
use Rattle.flash_map.specs.declared.area.Area.{Area}
use Rattle.flash_map.specs.declared.faults.Damaged.{Damaged}
use Rattle.flash_map.specs.declared.faults.MountFault.{MountFault}
use Rattle.flash_map.specs.declared.faults.MountFault.TheVariants.{Damaged as HasDamage, PowerLost, NoMemory}
use Rattle.flash_map.specs.declared.area.Role.TheVariants.{Fcb, Sel}
use Rattle.flash_map.specs.Area.{unit_of, sectors_of, sector_at, sector_bytes}
use Rattle.flash_map.specs.Lawful.{IsAreaFor}
use Rattle.flash_map.specs.Sectors.{blanked}
use Rattle.flash_map.specs.Spending.{Spends, SpendsAtMost}
use Rattle.fcb_ring.specs.declared.record.RecordAt.{RecordAt}
use Rattle.fcb_ring.specs.declared.ring.Ring.{Ring}
use Rattle.fcb_ring.specs.declared.ring.Stage.{Stage}
use Rattle.fcb_ring.specs.declared.ring.Stage.TheVariants.{Inspected, Ready, Collecting, Down}
use Rattle.fcb_ring.specs.declared.sector.SectorState.{SectorState}
use Rattle.fcb_ring.specs.Entries.{states, entries, HasEntries, records_from, following}
use Rattle.fcb_ring.specs.SectorStates.{mended, state_of}
use Rattle.fcb_ring.specs.Records.{is_alike}
use Rattle.fcb_ring.specs.Rings.{state_at, before, turned, distance, oldest_place, is_full, first_damage, IsRing, AreClean}

-- an area on which a ring may stand
abbrev pub IsRingArea : List Bank → Area → Type 0
IsRingArea banks area = IsAreaFor (λ role. (role ≡ Fcb) ⊎ (role ≡ Sel)) banks area

-- no call has returned `PowerLost`
abbrev pub is_up : Stage → Bool
is_up Down = false
is_up stage = true

-- the erases of the mount are done
abbrev pub is_finished : Stage → Bool
is_finished Ready = true
is_finished Collecting = true
is_finished stage = false

-- a garbage collection is under way
abbrev pub is_collecting : Stage → Bool
is_collecting Collecting = true
is_collecting stage = false

-- no sector is free, and the newest waits to be erased
abbrev pub is_uncounted : Stage → Bool
is_uncounted (Inspected full) = full
is_uncounted stage = false

abbrev pub uncounted : Stage → ℕ
uncounted stage = if is_uncounted stage then 1 else 0

-- what the stage says of the sectors
abbrev pub FitsStage : Stage → List SectorState → ℕ → ℕ → Type 0
FitsStage (Inspected true) sectors oldest used = used + 1 ≡ length sectors
FitsStage (Inspected false) sectors oldest used = used < length sectors
FitsStage Ready sectors oldest used =
    (used < length sectors)
    × ((k : ℕ) → used ≤ k → k < length sectors
    → (state_at sectors (turned (length sectors) oldest k)).is_torn ≡ false)
FitsStage Collecting sectors oldest used = used ≡ length sectors
FitsStage Down sectors oldest used = ⊥

-- the sector in which the ring writes goes on where the ring says, and has the id that it says
pub record IsWritten (state : SectorState) (ring : Ring) : Type 0 where
  pub end : ring.end ≡ state.end
  pub id : ring.id ≡ state.id

-- the ring knows the sectors as they are
pub record Stands (unit : ℕ) (sectors : List (List ℕ)) (ring : Ring) : Type 0 where
  pub form : IsRing (states unit sectors) ring.oldest (ring.used + uncounted ring.stage)
  pub clean : AreClean (states unit sectors) ring.oldest ring.used
  pub last : 0 < ring.used
      → IsWritten
      (state_at (states unit sectors) (turned (length (states unit sectors)) ring.oldest (ring.used - 1)))
      ring
  pub stage : FitsStage ring.stage (states unit sectors) ring.oldest ring.used

-- the ring stands on this device
pub record StandsOn (d : Device) (ring : Ring) : Type 0 where
  pub area : IsRingArea d.banks ring.area
  pub sectors : Stands (unit_of d ring.area) (sectors_of d ring.area) ring

abbrev pub states_on : Device → Area → List SectorState
states_on d area = states (unit_of d area) (sectors_of d area)

-- one of its sectors
abbrev pub state_on : Device → Area → ℕ → SectorState
state_on d area place = state_of (unit_of d area) (sector_bytes d area place)

-- the records that the area holds, with their bodies
abbrev pub entries_on : Device → Area → List (RecordAt × List ℕ)
entries_on d area = entries (unit_of d area) (sectors_of d area)

-- the area is not damaged, and holds these records
abbrev pub HasEntriesOn : Device → Area → List (RecordAt × List ℕ) → Type 0
HasEntriesOn d area list = HasEntries (unit_of d area) (sectors_of d area) list

-- the area is not damaged, and holds the same records
abbrev pub KeepsEntries : Device → Device → Area → Type 0
KeepsEntries old new area = HasEntriesOn new area (entries_on old area)

abbrev pub record_places : List (RecordAt × List ℕ) → List RecordAt
record_places list = map (λ entry. entry.0) list

-- those of the area
abbrev pub places_on : Device → Area → List RecordAt
places_on d area = record_places (entries_on d area)

-- the record is one of them
abbrev pub IsListed : Device → Area → RecordAt → Type 0
IsListed d area r = Contains (places_on d area) r

-- these bytes are its body
abbrev pub IsBodyOf : Device → Area → RecordAt → List ℕ → Type 0
IsBodyOf d area r body =
    (i : ℕ) → slice_get (places_on d area) i ≡ Some r → slice_get (entries_on d area) i ≡ Some (r, body)

-- the records of one sector that check, from an offset on
abbrev pub records_on : Device → Area → ℕ → ℕ → List RecordAt
records_on d area place from = records_from (unit_of d area) place (sector_bytes d area place) from

-- the records that check from an offset on, in the sector so far behind the oldest, and in those
-- after it
abbrev pub following_on : Device → Ring → ℕ → ℕ → List RecordAt
following_on d ring further from =
    following (unit_of d ring.area) (sectors_of d ring.area) ring.oldest
    (min ring.used (ring.area.sectors - 1)) further from

-- the record after this one, or the first of all
abbrev pub IsNext : List (RecordAt × List ℕ) → Option RecordAt → Option RecordAt → Type 0
IsNext list None next = next ≡ slice_get (record_places list) 0
IsNext list (Some r) next =
    (i : ℕ) → slice_get (record_places list) i ≡ Some r → next ≡ slice_get (record_places list) (i + 1)

-- the first whose body begins with these bytes
abbrev pub first_with : List ℕ → List (RecordAt × List ℕ) → Option RecordAt
first_with prefix list =
    option_map (λ entry. entry.0) (find (λ entry. starts_with nat_eq entry.1 prefix) list)

-- the last whose body begins with these bytes, and has at most so many
abbrev pub last_with : List ℕ → ℕ → List (RecordAt × List ℕ) → Option RecordAt
last_with prefix most list =
    option_map (λ entry. entry.0) (last_or None (filter (λ entry. is_alike prefix most entry.1) list))

-- how many sectors count, from the newest back to that of the record; without one, how many there are
abbrev pub newest_to : Ring → Option RecordAt → ℕ
newest_to ring None = min ring.used (ring.area.sectors - 1)
newest_to ring (Some r) =
    min ring.used (ring.area.sectors - 1) - distance ring.area.sectors ring.oldest r.sector

-- the first such record after this one, or of all
abbrev pub IsNextWith : List (RecordAt × List ℕ) → List ℕ → Option RecordAt → Option RecordAt → Type 0
IsNextWith list prefix None next = next ≡ first_with prefix list
IsNextWith list prefix (Some r) next =
    (i : ℕ) → slice_get (record_places list) i ≡ Some r → next ≡ first_with prefix (drop (i + 1) list)

-- what a mount erases: each sector with a torn header, and the newest one if no sector is free
abbrev pub erases_due : List SectorState → ℕ
erases_due sectors = count_by (λ state. state.is_torn) sectors + (if is_full sectors then 1 else 0)

-- those of an area
abbrev pub erases_on : Device → Area → ℕ
erases_on d area = erases_due (states_on d area)

-- its damage
abbrev pub ring_damage : Device → Area → Option Damaged
ring_damage d area = first_damage (states_on d area)

-- the newest sector, if no sector is free
abbrev pub newest_of_all : ℕ → List (List ℕ) → ℕ
newest_of_all unit sectors = before (length sectors) (oldest_place (states unit sectors))

-- The sectors after these erases: each with a torn header is blank, and so is the newest one if no
-- sector is free.
abbrev pub mounted_sectors : ℕ → List (List ℕ) → List (List ℕ)
mounted_sectors unit sectors =
    if is_full (states unit sectors) then slice_set (map mended sectors) (newest_of_all unit sectors)
    (blanked (sector_at sectors (newest_of_all unit sectors))) else map mended sectors

-- those of the area
abbrev pub mounted_on : Device → Area → List (List ℕ)
mounted_on d area = mounted_sectors (unit_of d area) (sectors_of d area)

-- How a mount ends. If the area is damaged, nothing changed.
abbrev pub MountEnds : Device → Device → Area → ℕ → Result Ring MountFault → Type 0
MountEnds old new area reserve (Ok ring) =
    (ring_damage old area ≡ None) × StandsOn new ring × (ring.stage ≡ Ready) × (ring.area ≡ area)
    × (ring.reserve ≡ reserve)
    × Spends old new (erases_on old area)
MountEnds old new area reserve (Err (HasDamage damaged)) = (ring_damage old area ≡ Some damaged) × (new ≡ old)
MountEnds old new area reserve (Err PowerLost) =
    (ring_damage old area ≡ None) × SpendsAtMost old new (erases_on old area)
MountEnds old new area reserve (Err NoMemory) = ⊥

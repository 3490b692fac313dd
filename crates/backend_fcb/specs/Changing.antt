-- What collecting and appending make of an area.
use Rattle.std.specs.Prelude.{◌≡◌, ℕ, ◌+◌, ◌-◌, ◌*◌, ◌/◌, ◌<◌, ◌≤◌, true, false, List, ◌∷◌, ◌++◌, [], length, map, All, Some, None, Result, Ok, Err}
use Rattle.std.specs.List.{range_with_len}
use Rattle.flash_sim.specs.Device.{Device}
use Rattle.flash_map.specs.Area.{value_limit, unit_of, sector_size}
use Rattle.flash_map.specs.Spending.{Spends, SpendsAtMost}
use Rattle.flash_map.specs.Units.{padded}
use Rattle.fcb_ring.specs.Chance.{HasNoChance}
use Rattle.fcb_ring.specs.Changing.{newest_place, sector_list, stays_for}
use Rattle.fcb_ring.specs.Entries.{bodies}
use Rattle.fcb_ring.specs.Rings.{turned}
use Rattle.fcb_ring.specs.Standing.{StandsOn as RingStandsOn, entries_on, erases_on, is_up}
use Rattle.fcb_ring.specs.Writing.{record_cost}
use Rattle.fcb_ring.specs.declared.record.RecordAt.{RecordAt}
use Rattle.fcb_ring.specs.declared.ring.Ring.{Ring}
use Rattle.fcb_ring.specs.declared.ring.Stage.TheVariants.{Collecting}
use Rattle.fcb_ring.specs.declared.writing.AppendFault.{AppendFault}
use Rattle.fcb_ring.specs.declared.writing.AppendFault.TheVariants.{Full, TooLong, PowerLost}
use Rattle.backend_api.specs.Ends.{SpendsSome}
use Rattle.backend_fcb.specs.Compaction.{AreKeptWithin, AreShort, IsKept, bodies_at}
use Rattle.record_settings.specs.Live.{live_bodies}
use Rattle.record_settings.specs.Room.{cap}
use Rattle.item_laws.specs.PairRounds.{joined}
use Rattle.record_settings.specs.Rounds.{bodies_cost, FindsNoRoom}
use Rattle.record_settings.specs.Settings.{setting_of, with_setting}
use Rattle.backend_fcb.specs.Standing.{damage_on, settings_on, IsReady}
use Rattle.backend_fcb.specs.Tearing.{StopsPutting}
use Rattle.backend_fcb.specs.declared.compaction.Kept.{Kept}

-- the bodies of the records of each sector that counts, the oldest sector first
abbrev pub parts_on : Device → Ring → List (List (List ℕ))
parts_on d ring =
    map (λ k. bodies (sector_list d ring.area (turned ring.area.sectors ring.oldest k)))
    (range_with_len 0 ring.used)

-- The ring goes on collecting, with these bodies behind the copies in the scratch sector.
pub record Copies (old new : Device) (before after : Ring) (copies : List (List ℕ)) : Type 0 where
  pub stands : RingStandsOn new after
  pub stage : after.stage ≡ Collecting
  pub oldest : after.oldest ≡ before.oldest
  pub used : after.used ≡ before.used
  pub scratch : bodies (sector_list new before.area (newest_place before))
      ≡ bodies (sector_list old before.area (newest_place before)) ++ copies
  pub end : after.end ≡ before.end + bodies_cost (unit_of old before.area) copies
  pub units : ℕ
  pub spent : Spends old new units
  pub bound : units * unit_of old before.area + before.end ≤ after.end

-- the ring is down, and no more was spent than the scratch sector has room for
pub record StopsCopying (old new : Device) (before after : Ring) : Type 0 where
  pub down : is_up after.stage ≡ false
  pub units : ℕ
  pub spent : Spends old new units
  pub bound : units * unit_of old before.area + before.end ≤ sector_size old before.area

-- the records of the oldest sector that are the last of their name and have a value are copied
abbrev pub CopiesLive : Device → Device → Ring → Ring → Type 0
CopiesLive old new before after =
    (rest : List (RecordAt × List ℕ))
    → entries_on old before.area ≡ sector_list old before.area before.oldest ++ rest
    → Copies old new before after
    (live_bodies (value_limit before.area) (bodies (sector_list old before.area before.oldest))
    (bodies rest))

-- The oldest part is gone, and its live records are the new last one, behind the header of an else
-- empty sector.
pub record Collects (old new : Device) (before after : Ring) : Type 0 where
  pub victim : List (List ℕ)
  pub others : List (List (List ℕ))
  pub old_parts : parts_on old before ≡ victim ∷ others
  pub new_parts : parts_on new after
      ≡ others ++ live_bodies (value_limit before.area) victim (joined others) ∷ []
  pub end : after.end
      ≡ padded (unit_of old before.area) 8
      + bodies_cost (unit_of old before.area) (live_bodies (value_limit before.area) victim (joined others))
  pub within : bodies_cost (unit_of old before.area)
      (live_bodies (value_limit before.area) victim (joined others))
      ≤ cap (unit_of old before.area) (sector_size old before.area)

-- the most units and erases of one collection
abbrev pub collect_units : Device → Ring → ℕ
collect_units d ring = sector_size d ring.area / unit_of d ring.area + 3

-- what a record that leaves so much room needs does not fit behind the others of the newest sector
abbrev pub IsFull : Device → Ring → ℕ → ℕ → Type 0
IsFull d ring len kept = sector_size d ring.area < ring.end + record_cost (unit_of d ring.area) len + kept

-- Power was off, or was lost while a record with this body was put: the ring is down, the area shows
-- no damage, and a mount erases at most one sector.
pub record StopsDown (old new : Device) (before after : Ring) (body : List ℕ) : Type 0 where
  pub down : is_up after.stage ≡ false
  pub undamaged : damage_on new before.area ≡ None
  pub due : erases_on new before.area ≤ 1
  pub stops : old.is_on ≡ true → StopsPutting old new before.area body

-- if the record fits behind those of the newest sector, exactly its own units were spent
abbrev pub SpendsCost : Device → Device → Ring → List ℕ → ℕ → Type 0
SpendsCost old new before body kept =
    stays_for old before body kept ≡ true
    → Spends old new (record_cost (unit_of old before.area) (length body) / unit_of old before.area)

-- and at most so many
abbrev pub SpendsUpToCost : Device → Device → Ring → List ℕ → ℕ → Type 0
SpendsUpToCost old new before body kept =
    stays_for old before body kept ≡ true
    → SpendsAtMost old new (record_cost (unit_of old before.area) (length body) / unit_of old before.area)

-- how one append of a record ends
abbrev pub TryEnds : {T : Type 0} → Device → Device → Ring → Ring → List ℕ → ℕ → Result T AppendFault → Type 0
TryEnds old new before after body kept (Ok x) =
    IsReady new after
    × (settings_on new before.area
    ≡ with_setting (settings_on old before.area) (setting_of (value_limit before.area) body))
    × SpendsCost old new before body kept × (units : ℕ) × (0 < units) × (units ≤ collect_units old before)
    × Spends old new units
TryEnds old new before after body kept (Err Full) =
    (new ≡ old) × (after ≡ before) × IsFull old before (length body) kept
    × (before.used + 1 ≡ before.area.sectors)
    × (record_cost (unit_of old before.area) (length body)
    ≤ sector_size old before.area - padded (unit_of old before.area) 8 - kept)
TryEnds old new before after body kept (Err TooLong) = ⊥
TryEnds old new before after body kept (Err PowerLost) =
    StopsDown old new before after body × SpendsAtMost old new (collect_units old before)
    × SpendsUpToCost old new before body kept

-- No collection made room: the record does not fit, and after each of so many collections it did
-- not.
pub record HasNoPlace (old new : Device) (before after : Ring) (len kept rounds : ℕ) : Type 0 where
  pub ready : IsReady new after
  pub settings : settings_on new before.area ≡ settings_on old before.area
  pub short : record_cost (unit_of old before.area) len
      ≤ sector_size old before.area - padded (unit_of old before.area) 8 - kept
  pub full : IsFull new after len kept
  pub left : before.used + 1 ≡ before.area.sectors
  pub none : FindsNoRoom (value_limit before.area) (unit_of old before.area)
      (record_cost (unit_of old before.area) len)
      (sector_size old before.area - padded (unit_of old before.area) 8 - kept) (parts_on old before)
      (parts_on new after) rounds
  -- after a collection a sector has no more than the values that were in one
  pub end : 0 < rounds
      → after.end
      ≤ padded (unit_of old before.area) 8 + cap (unit_of old before.area) (sector_size old before.area)

-- how a put of a record ends, with up to so many collections
abbrev pub PutEnds : {T : Type 0} → Device → Device → Ring → Ring → List ℕ → ℕ → ℕ → Result T AppendFault
    → Type 0
PutEnds old new before after body kept rounds (Ok x) =
    IsReady new after
    × (settings_on new before.area
    ≡ with_setting (settings_on old before.area) (setting_of (value_limit before.area) body))
    × SpendsCost old new before body kept × SpendsSome old new
PutEnds old new before after body kept rounds (Err Full) =
    HasNoPlace old new before after (length body) kept rounds
PutEnds old new before after body kept rounds (Err TooLong) = ⊥
PutEnds old new before after body kept rounds (Err PowerLost) =
    StopsDown old new before after body × SpendsUpToCost old new before body kept

-- ---- the calls of a collection

-- The records of a table are listed in the oldest sector, and fit the scratch sector.
pub record CanCopy (d : Device) (ring : Ring) (live : List Kept) : Type 0 where
  pub kept : All (IsKept d ring.area) live
  pub of_oldest : AreKeptWithin (Some ring.oldest) live
  pub short : AreShort d ring.area live
  pub fits : ring.end + bodies_cost (unit_of d ring.area) (bodies_at d ring.area live)
      ≤ sector_size d ring.area

-- The ring is ready again, and the oldest part is collected.
pub record IsCollected (old new : Device) (before after : Ring) : Type 0 where
  pub ready : IsReady new after
  pub collects : Collects old new before after
  pub used : after.used ≡ before.used
  pub reserve : after.reserve ≡ before.reserve

-- Power was lost in the collection. The ring is down, a mount erases at most one sector, and the loss
-- spells no other record by chance.
pub record StopsCollecting (old new : Device) (before after : Ring) : Type 0 where
  pub down : is_up after.stage ≡ false
  pub due : erases_on new before.area ≤ 1
  pub lost : old.is_on ≡ true → HasNoChance new before.area

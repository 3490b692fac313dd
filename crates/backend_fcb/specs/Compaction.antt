-- Compaction finds the live records of a part of a list, some at a time: those that are the last of
-- their name in the whole list, and have a value.
use Rattle.std.specs.Prelude.{◌≡◌, ℕ, ◌+◌, ◌*◌, ◌%◌, ◌≤◌, Bool, true, List, [], ◌∷◌, ◌++◌, length, map, fold, Option, Some, None, ◌==◌, if◌then◌else◌, All}
use Rattle.std.specs.List.{slice_get, AllPass}
use Rattle.std.specs.List as lists
use Rattle.flash_sim.specs.Device.{Device}
use Rattle.flash_map.specs.Area.{value_limit}
use Rattle.flash_map.specs.declared.area.Area.{Area}
use Rattle.fcb_ring.specs.Changing.{body_at}
use Rattle.fcb_ring.specs.Entries.{bodies}
use Rattle.fcb_ring.specs.Standing.{entries_on, record_places, IsListed}
use Rattle.fcb_ring.specs.declared.record.RecordAt.{RecordAt}
use Rattle.record_settings.specs.Live.{has_name, live_bodies}
use Rattle.record_settings.specs.Settings.{setting_of, longest}
use Rattle.backend_fcb.specs.declared.compaction.Kept.{Kept}
use Rattle.backend_fcb.specs.declared.compaction.TheConstants.{TABLE}

-- a number by which most names differ
unfoldable pub mark : List ℕ → ℕ
mark name = fold (λ mark byte. (mark * 31 + byte) % 65536) 0 name

-- the record is of the part: of this sector, or of any
abbrev pub is_within : Option ℕ → RecordAt → Bool
is_within None r = true
is_within (Some sector) r = r.sector == sector

-- all of these are
abbrev pub AreWithin : Option ℕ → List (RecordAt × List ℕ) → Type 0
AreWithin part list = All (λ entry. is_within part entry.0 ≡ true) list

-- all of a table are
abbrev pub AreKeptWithin : Option ℕ → List Kept → Type 0
AreKeptWithin part table = AllPass (λ kept. is_within part kept.at) table

-- A record of the area is kept with the mark of its name.
pub record IsKept (d : Device) (area : Area) (kept : Kept) : Type 0 where
  pub listed : IsListed d area kept.at
  pub mark : (name value : List ℕ)
      → setting_of (value_limit area) (body_at d area kept.at) ≡ Some (name, value) → kept.mark ≡ mark name

-- the bodies of the records in a table
abbrev pub bodies_at : Device → Area → List Kept → List (List ℕ)
bodies_at d area table = map (λ kept. body_at d area kept.at) table

-- none of these is longer than the longest name with the longest value
abbrev pub AreShort : Device → Area → List Kept → Type 0
AreShort d area table = All (λ body. length body ≤ longest (value_limit area)) (bodies_at d area table)

-- the record that is kept is of this name
abbrev pub is_kept_of : Device → Area → List ℕ → Kept → Bool
is_kept_of d area name kept = has_name name (setting_of (value_limit area) (body_at d area kept.at))

-- a list without the first element that passes
unfoldable pub without_first : {X : Type 0} → (X → Bool) → List X → List X
without_first p [] = []
without_first p (x ∷ rest) = if p x then rest else x ∷ without_first p rest

-- and without the one at a place
abbrev pub without_place : {X : Type 0} → List X → Option ℕ → List X
without_place list None = list
without_place list (Some place) = lists.remove list place

abbrev pub struck_by : Device → Area → Option (List ℕ × List ℕ) → List Kept → List Kept
struck_by d area None table = table
struck_by d area (Some (name, value)) table = without_first (is_kept_of d area name) table

-- the table once a later record has this body: the one of its name is gone
abbrev pub struck : Device → Area → List ℕ → List Kept → List Kept
struck d area body table = struck_by d area (setting_of (value_limit area) body) table

abbrev pub noted_by : RecordAt → Option (List ℕ × List ℕ) → List Kept
noted_by r None = []
noted_by r (Some (name, value)) = if length value == 0 then [] else record { at = r; mark = mark name } ∷ []

-- what is kept of a record, if it has a value
abbrev pub noted : Device → Area → RecordAt → List Kept
noted d area r = noted_by r (setting_of (value_limit area) (body_at d area r))

-- the list goes on at this record
abbrev pub BeginsAt : Option RecordAt → List (RecordAt × List ℕ) → Type 0
BeginsAt place later = place ≡ slice_get (record_places later) 0

-- A walk passed the records `passed`, all of the part, and the table has those of them that are
-- live among them. It is at this place now.
pub record Passes (d : Device) (area : Area) (part : Option ℕ) (later : List (RecordAt × List ℕ))
    (table : List Kept) (place : Option RecordAt) : Type 0 where
  pub passed : List (RecordAt × List ℕ)
  pub rest : List (RecordAt × List ℕ)
  pub are : later ≡ passed ++ rest
  pub within : AreWithin part passed
  pub here : BeginsAt place rest
  pub live : bodies_at d area table ≡ live_bodies (value_limit area) (bodies passed) []

-- the same, wherever in the list the walk began
abbrev pub PassesFrom : Device → Area → Option ℕ → Option RecordAt → List Kept → Option RecordAt → Type 0
PassesFrom d area part from table place =
    (done later : List (RecordAt × List ℕ)) → entries_on d area ≡ done ++ later → BeginsAt from later
    → Passes d area part later table place

-- Of the records that were live among some, those stay that are still live with the records from
-- this place on behind them.
abbrev pub StrikesFrom : Device → Area → Option RecordAt → List Kept → List Kept → Type 0
StrikesFrom d area from old new =
    (done later : List (RecordAt × List ℕ)) (passed : List (List ℕ)) → entries_on d area ≡ done ++ later
    → BeginsAt from later
    → bodies_at d area old ≡ live_bodies (value_limit area) passed []
    → bodies_at d area new ≡ live_bodies (value_limit area) passed (bodies later)

-- the record, if it is of the part
abbrev pub if_within : Option ℕ → Option RecordAt → Option RecordAt
if_within part None = None
if_within part (Some r) = if is_within part r then Some r else None

-- Of the records from a place on, `passed` are the first, all of the part. Those of them are found
-- that are live in the whole list, in its order. The next is the one behind them, if it is of the
-- part; and then they are no fewer than a table has room for.
pub record FindsLive (d : Device) (area : Area) (part : Option ℕ) (later : List (RecordAt × List ℕ))
    (found : List Kept) (onward : Option RecordAt) : Type 0 where
  pub passed : List (RecordAt × List ℕ)
  pub rest : List (RecordAt × List ℕ)
  pub are : later ≡ passed ++ rest
  pub within : AreWithin part passed
  pub live : bodies_at d area found ≡ live_bodies (value_limit area) (bodies passed) (bodies rest)
  pub next : onward ≡ if_within part (slice_get (record_places rest) 0)
  pub many : (r : RecordAt) → onward ≡ Some r → TABLE ≤ length passed

-- the same, wherever in the list the walk began
abbrev pub FindsLiveFrom : Device → Area → Option ℕ → Option RecordAt → List Kept → Option RecordAt → Type 0
FindsLiveFrom d area part from found next =
    (done later : List (RecordAt × List ℕ)) → entries_on d area ≡ done ++ later → BeginsAt from later
    → FindsLive d area part later found next

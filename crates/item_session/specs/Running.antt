-- How lines end.
use Rattle.std.specs.Prelude.{◌≡◌, ◌⊎◌, ℕ, ◌<◌, Some, None, Result, Ok, Err, true, List, ◌∷◌, ◌++◌, length, slice_get}
use Rattle.flash_sim.specs.Device.{Device}
use Rattle.flash_map.specs.declared.area.Area.{Area}
use Rattle.flash_map.specs.declared.area.Geometry.{Geometry}
use Rattle.session_table.specs.Follows.{Follows}
use Rattle.item_session.specs.declared.line.Line.{Line}
use Rattle.item_session.specs.declared.line.Line.TheVariants.{Get, Older, Mount}
use Rattle.item_session.specs.declared.answer.Answer.{Answer}
use Rattle.item_store.specs.SectorFormat.{SectorFormat}
use Rattle.item_session.specs.declared.fault.SessionFault.{SessionFault}
use Rattle.item_session.specs.declared.fault.SessionFault.TheVariants.{Damaged as IsDamaged, NoMemory}
use Rattle.item_session.specs.Device.{state_of, turned_on}
use Rattle.item_session.specs.LineDone.{LineDone, Runs}
use Rattle.item_session.specs.Standing.{ShowsDamage, damage_on}
use Rattle.item_session.specs.Step.{IsStored, kept}

-- Why a mount was not carried out: the area shows this damage, or memory ran out. Except for power,
-- which is on, nothing changed.
abbrev pub MountStops : (Geometry → SectorFormat) → Area → Device → Device → SessionFault → Type 0
MountStops format_of area old new (IsDamaged damaged) = ShowsDamage format_of area old new damaged
MountStops format_of area old new NoMemory = new ≡ turned_on old

-- Memory ran out for a line, which left the bench as it was, except that a mount turned power on:
-- for the bytes that the line reports, with power on, or for what a mount keeps of the area. No
-- other line takes memory.
abbrev pub WantsMemory : (Geometry → SectorFormat) → Area → Line → Device → Device → Type 0
WantsMemory format_of area (Get id) old new =
    (new ≡ old) × (old.is_on ≡ true) × ((value : List ℕ) × IsStored (state_of format_of area old) id value)
WantsMemory format_of area (Older id n) old new =
    (new ≡ old) × (old.is_on ≡ true)
    × ((value : List ℕ) × (slice_get (kept (state_of format_of area old) id) n ≡ Some value)
    × (0 < length value))
WantsMemory format_of area Mount old new = new ≡ turned_on old
WantsMemory format_of area line old new = ⊥

-- Lines were carried out one after another. As a whole they follow the table; the counts, the plan
-- and the bytes of the bench are as the answers say.
pub record Ran (format_of : Geometry → SectorFormat) (area : Area) (lines : List Line) (answers : List Answer)
    (old new : Device)
    : Type 0 where
  pub in_turn : Follows (LineDone format_of area) lines answers old new
  pub whole : Runs format_of area lines answers old new

-- The first lines were carried out, and then memory ran out, for the next one or for an answer.
-- Nothing changed after them, except that power may be on if a mount was next.
pub record RunStops (format_of : Geometry → SectorFormat) (area : Area) (lines : List Line)
    (old new : Device) :
    Type 0 where
  pub prefix : List Line
  pub rest : List Line
  pub are : lines ≡ prefix ++ rest
  pub answers : List Answer
  pub mid : Device
  pub ran : Ran format_of area prefix answers old mid
  pub left : (new ≡ mid) ⊎ ((more : List Line) × (rest ≡ Mount ∷ more) × (new ≡ turned_on mid))

-- All lines were carried out, with these answers; or the opening mount found the damage that the
-- area shows; or memory ran out. If all were carried out, the area showed no damage.
abbrev pub RunEnds : (Geometry → SectorFormat) → Area → List Line → Device → Device
    → Result (List Answer) SessionFault → Type 0
RunEnds format_of area lines old new (Ok answers) =
    (damage_on format_of old area ≡ None) × Ran format_of area lines answers old new
RunEnds format_of area lines old new (Err (IsDamaged damaged)) = ShowsDamage format_of area old new damaged
RunEnds format_of area lines old new (Err NoMemory) = RunStops format_of area lines old new

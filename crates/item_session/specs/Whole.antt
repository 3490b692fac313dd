-- How long an area keeps the whole history of each id.
use Rattle.std.specs.Prelude.{◌≡◌, ℕ, ◌+◌, ◌*◌, ◌≤◌, true, List, [], length}
use Rattle.std.specs.List.{All}
use Rattle.flash_sim.specs.Device.{Device}
use Rattle.flash_map.specs.declared.area.Area.{Area}
use Rattle.flash_map.specs.declared.area.Geometry.{Geometry}
use Rattle.flash_map.specs.Area.{sector_size, sectors_of}
use Rattle.flash_map.specs.Units.{is_erased}
use Rattle.item_session.specs.declared.line.Line.{Line}
use Rattle.item_session.specs.declared.line.Line.TheVariants.{Set, Delete, Older}
use Rattle.item_session.specs.declared.answer.Answer.{Answer}
use Rattle.item_session.specs.declared.answer.Answer.TheVariants as answers
use Rattle.item_store.specs.SectorFormat.{SectorFormat}
use Rattle.item_store.specs.Listed.{format_on, list_on}
use Rattle.item_store.specs.Versions.{versions}
use Rattle.item_store.specs.Writing.{open_at}
use Rattle.session_table.specs.Follows.{Follows}
use Rattle.item_session.specs.Device.{RestsOn, state_of}
use Rattle.item_session.specs.History.{Records}
use Rattle.item_session.specs.LineDone.{LineDone}

-- what a set or a delete costs
abbrev pub line_cost : (ℕ → ℕ) → Line → ℕ
line_cost cost (Set id value) = cost (length value)
line_cost cost (Delete id) = cost 0
line_cost cost line = 0

-- what a line adds to the costs: nothing if it was answered `off`, and otherwise what it costs, whether
-- it was carried out, lost or refused
abbrev pub cost_after : (ℕ → ℕ) → Line → Answer → ℕ
cost_after cost line answers.Off = 0
cost_after cost line answer = line_cost cost line

-- what is free in the open sector, in bytes
abbrev pub free_on : (Geometry → SectorFormat) → Device → Area → ℕ
free_on format_of d area = let k = format_on format_of d area in k.free (open_at k d area)

-- what a sector of the area has for values and entries, and the slots that it keeps beside
-- these, in bytes
abbrev pub cap_on : (Geometry → SectorFormat) → Device → Area → ℕ
cap_on format_of d area = (format_on format_of d area).cap (sector_size d area)

abbrev pub spare_on : (Geometry → SectorFormat) → Device → Area → ℕ
spare_on format_of d area = 3 * (format_on format_of d area).slot

-- each byte of the area is FF
abbrev pub IsBlankOn : Device → Area → Type 0
IsBlankOn d area = All (λ sector. is_erased sector ≡ true) (sectors_of d area)

-- no pair was written yet, and the open sector is all free
pub record IsFresh (format_of : Geometry → SectorFormat) (d : Device) (area : Area) : Type 0 where
  pub list : list_on format_of d area ≡ []
  pub rests : RestsOn format_of d area
  pub room : cap_on format_of d area + spare_on format_of d area ≤ free_on format_of d area

-- a bench, all sets and deletes that were carried out so far, and what the lines so far cost: each
-- set and delete that was carried out, lost or refused, and none that was answered `off`
pub record Tracked : Type 0 where
  pub device : Device
  pub all : List (ℕ × List ℕ)
  pub costs : ℕ

-- The history goes on. All of it is kept as long as the sets and deletes of the lines so far that
-- were not answered `off` cost at most what a sector has. Until then `gone` reports that there never
-- was such a version.
pub record WholeStep (format_of : Geometry → SectorFormat) (area : Area) (line : Line) (answer : Answer)
    (old new : Tracked)
    : Type 0 where
  pub done : LineDone format_of area line answer old.device new.device
  pub records :
      Records new.device.spent line answer
      (record { state = state_of format_of area old.device; all = old.all })
      (record { state = state_of format_of area new.device; all = new.all })
  pub costs :
      new.costs ≡ old.costs + cost_after (format_on format_of old.device area).cost line answer
  pub whole : new.costs ≤ cap_on format_of new.device area → list_on format_of new.device area ≡ new.all
  pub gone :
      (id n : ℕ) → line ≡ Older id n → answer ≡ answers.Gone
      → old.costs ≤ cap_on format_of old.device area → length (versions old.all id) ≤ n

-- The history begins empty, and goes on line by line.
pub record KeepsWhole (format_of : Geometry → SectorFormat) (area : Area) (lines : List Line)
    (answers : List Answer)
    (old new : Device) : Type 0 where
  pub all : List (ℕ × List ℕ)
  pub costs : ℕ
  pub runs :
      Follows (WholeStep format_of area) lines answers
      (record { device = old; all = []; costs = 0 })
      (record { device = new; all = all; costs = costs })

-- How lines end.
use Rattle.std.specs.Prelude.{◌≡◌, ◌<◌, None, Result, Ok, Err, List, ◌++◌, length}
use Rattle.flash_sim.specs.Device.{Device}
use Rattle.flash_map.specs.declared.area.Area.{Area}
use Rattle.fcb_ring.specs.Standing.{ring_damage}
use Rattle.session_table.specs.Follows.{Follows}
use Rattle.log_session.specs.declared.line.Line.{Line}
use Rattle.log_session.specs.declared.answer.Answer.{Answer}
use Rattle.log_session.specs.declared.fault.SessionFault.{SessionFault}
use Rattle.log_session.specs.declared.fault.SessionFault.TheVariants.{Damaged as IsDamaged, NoMemory}
use Rattle.log_session.specs.LineDone.{LineDone, Runs}
use Rattle.log_session.specs.Standing.{ShowsDamage}

-- Lines were carried out one after another. As a whole they follow the table; the counts, the plan
-- and the bytes of the bench are as the answers say.
pub record Ran (area : Area) (lines : List Line) (answers : List Answer) (old new : Device) : Type 0 where
  pub in_turn : Follows (LineDone area) lines answers old new
  pub whole : Runs area lines answers old new

-- the mount and the first lines were carried out, and then memory ran out
pub record RunStops (area : Area) (lines : List Line) (old new : Device) : Type 0 where
  pub prefix : List Line
  pub rest : List Line
  pub are : lines ≡ prefix ++ rest
  pub some : 0 < length prefix
  pub answers : List Answer
  pub ran : Ran area prefix answers old new

-- All lines were carried out, with these answers; or the opening mount found the damage that the
-- area shows; or memory ran out. Only in the second case was the area damaged.
abbrev pub RunEnds : Area → List Line → Device → Device → Result (List Answer) SessionFault → Type 0
RunEnds area lines old new (Ok answers) = (ring_damage old area ≡ None) × Ran area lines answers old new
RunEnds area lines old new (Err (IsDamaged damaged)) = ShowsDamage area old new damaged
RunEnds area lines old new (Err NoMemory) = (ring_damage old area ≡ None) × RunStops area lines old new

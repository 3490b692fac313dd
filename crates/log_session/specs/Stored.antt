-- Which items a log has had, the torn ones too, and when some of them were dropped.
use Rattle.std.specs.Prelude.{◌≡◌, ◌⊎◌, ℕ, ◌+◌, ◌<◌, true, false, List, [], ◌∷◌, ◌++◌, length, count_by}
use Rattle.flash_sim.specs.Device.{Device}
use Rattle.flash_map.specs.declared.area.Area.{Area}
use Rattle.flash_map.specs.Area.{sectors_of, unit_of}
use Rattle.flash_map.specs.Units.{is_written}
use Rattle.fcb_ring.specs.Writing.{record_cost}
use Rattle.event_ring.specs.Appending.{torn_body}
use Rattle.event_ring.specs.Items.{Item, Whole, Torn, items_on}
use Rattle.event_ring.specs.Room.{IsFull}
use Rattle.session_table.specs.Follows.{Follows}
use Rattle.log_session.specs.declared.line.Line.{Line}
use Rattle.log_session.specs.declared.line.Line.TheVariants.{Put}
use Rattle.log_session.specs.declared.answer.Answer.{Answer}
use Rattle.log_session.specs.declared.answer.Answer.TheVariants.{Appended, Lost}
use Rattle.log_session.specs.LineDone.{LineDone}

-- no byte of the area is written
abbrev pub IsBlankOn : Device → Area → Type 0
IsBlankOn d area = count_by is_written (sectors_of d area) ≡ 0

-- What an append adds at the end of the items: its record; if power was lost, its record, a torn one
-- of the same cost, or none, or by chance a record with a part of its body, from its start, and then
-- FF.
abbrev pub AppendAdds : ℕ → List ℕ → Answer → List Item → Type 0
AppendAdds unit body (Appended units dropped) items = items ≡ Whole body ∷ []
AppendAdds unit body (Lost units false) items =
    (items ≡ []) ⊎ (items ≡ Torn (record_cost unit (length body)) ∷ []) ⊎ (items ≡ Whole body ∷ [])
AppendAdds unit body (Lost units true) items =
    (n : ℕ) × (n < length body) × (items ≡ Whole (torn_body body n) ∷ [])
AppendAdds unit body answer items = items ≡ []

-- other lines add none
abbrev pub AddsItems : ℕ → Line → Answer → List Item → Type 0
AddsItems unit (Put body) answer items = AppendAdds unit body answer items
AddsItems unit line answer items = items ≡ []

-- a bench, all items that were in the log so far, the oldest first, and how many of them were dropped
pub record Stored : Type 0 where
  pub bench : Device
  pub all : List Item
  pub dropped : ℕ

-- the items in the area are all items but the first ones, which were dropped
pub record HoldsItems (area : Area) (now : Stored) : Type 0 where
  pub prefix : List Item
  pub are : now.all ≡ prefix ++ items_on now.bench area
  pub count : length prefix ≡ now.dropped

-- A line adds items, and drops the oldest ones or none. It drops some only if the items before it
-- cost more than all sectors but one have room for, less the longest record in each.
pub record StoredStep (area : Area) (line : Line) (answer : Answer) (old new : Stored) : Type 0 where
  pub done : LineDone area line answer old.bench new.bench
  pub added : List Item
  pub adds : AddsItems (unit_of old.bench area) line answer added
  pub all : new.all ≡ old.all ++ added
  pub taken : ℕ
  pub dropped : new.dropped ≡ old.dropped + taken
  pub holds : HoldsItems area new
  pub full : 0 < taken → IsFull old.bench area

-- The items begin empty, and go on line by line.
pub record DropsForRoom (area : Area) (lines : List Line) (answers : List Answer) (old new : Device) :
    Type 0 where
  pub all : List Item
  pub dropped : ℕ
  pub runs :
      Follows (StoredStep area) lines answers
      (record { bench = old; all = []; dropped = 0 })
      (record { bench = new; all = all; dropped = dropped })

-- Which records a log has had, and which of these were dropped.
use Rattle.std.specs.Prelude.{◌≡◌, ◌⊎◌, ℕ, ◌+◌, ◌<◌, Bool, true, false, List, [], ◌∷◌, ◌++◌, length, if◌then◌else◌}
use Rattle.flash_map.specs.declared.area.Geometry.{Geometry}
use Rattle.event_ring.specs.Appending.{torn_body}
use Rattle.session_table.specs.Follows.{Follows}
use Rattle.log_session.specs.declared.line.Line.{Line}
use Rattle.log_session.specs.declared.line.Line.TheVariants.{Put, Mount}
use Rattle.log_session.specs.declared.answer.Answer.{Answer}
use Rattle.log_session.specs.declared.answer.Answer.TheVariants.{Appended, Lost}
use Rattle.log_session.specs.Plan.{is_lost}
use Rattle.log_session.specs.Step.{Drops, State, Step}

-- What an append adds at the end of the log: its record; if power was lost, its record or none, or
-- by chance one with a part of its body, from its start, and then FF. Other lines add none.
abbrev pub Leaves : Line → Answer → List (List ℕ) → Type 0
Leaves (Put body) (Appended units dropped) records = records ≡ body ∷ []
Leaves (Put body) (Lost units false) records = (records ≡ []) ⊎ (records ≡ body ∷ [])
Leaves (Put body) (Lost units true) records = (n : ℕ) × (n < length body) × (records ≡ torn_body body n ∷ [])
Leaves line answer records = records ≡ []

-- so many of the oldest records are dropped; one sector has room for them
abbrev pub TakesPrefix : Geometry → List (List ℕ) → ℕ → Type 0
TakesPrefix geometry log taken = (rest : List (List ℕ)) × Drops geometry taken log rest

-- How many of the oldest records a line drops: an append as many as it reports, or any number if
-- power was lost; other lines none.
abbrev pub Takes : Geometry → Line → Answer → List (List ℕ) → ℕ → Type 0
Takes geometry (Put body) (Appended units dropped) log taken =
    (taken ≡ dropped) × TakesPrefix geometry log taken
Takes geometry (Put body) (Lost units chance) log taken = TakesPrefix geometry log taken
Takes geometry line answer log taken = taken ≡ 0

-- a state, all records that were in the log so far, the oldest first, and how many of
-- them were dropped
pub record Logged : Type 0 where
  pub state : State
  pub all : List (List ℕ)
  pub dropped : ℕ

-- the log is all records but the first ones, which were dropped
pub record HoldsRest (now : Logged) : Type 0 where
  pub prefix : List (List ℕ)
  pub are : now.all ≡ prefix ++ now.state.log
  pub count : length prefix ≡ now.dropped

-- what a line adds to the records and to the dropped ones
pub record Records (geometry : Geometry) (line : Line) (answer : Answer) (old new : Logged) : Type 0 where
  pub left : List (List ℕ)
  pub leaves : Leaves line answer left
  pub all : new.all ≡ old.all ++ left
  pub taken : ℕ
  pub takes : Takes geometry line answer old.state.log taken
  pub dropped : new.dropped ≡ old.dropped + taken

abbrev pub LogStep : Geometry → ℕ → Line → Answer → Logged → Logged → Type 0
LogStep geometry last line answer old new =
    Step geometry last line answer old.state new.state × Records geometry line answer old new × HoldsRest new

-- After each line the log is all records so far, from those of the start on, except the first ones,
-- which were dropped.
pub record IsAfterDrops (geometry : Geometry) (last : ℕ) (lines : List Line) (answers : List Answer)
    (old new : State) : Type 0 where
  pub all : List (List ℕ)
  pub dropped : ℕ
  pub runs :
      Follows (LogStep geometry last) lines answers
      (record { state = old; all = old.log; dropped = 0 })
      (record { state = new; all = all; dropped = dropped })

-- ---- power

-- the line restores power
abbrev pub restores : Line → Bool
restores Mount = true
restores line = false

-- Power is off after a line in which it was lost, until a mount answers `ok`.
abbrev pub power_after : Line → Answer → Bool → Bool
power_after line answer was = if is_lost answer then false else (if restores line then true else was)

abbrev pub PowerStep : Line → Answer → Bool → Bool → Type 0
PowerStep line answer old new = new ≡ power_after line answer old

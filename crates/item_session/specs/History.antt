-- The whole history of each id, and what is kept of it.
use Rattle.std.specs.Prelude.{◌≡◌, ◌⊎◌, ℕ, ◌<◌, ⊤, Bool, true, false, List, [], ◌∷◌, ◌++◌, slice_get, Some, None, if◌then◌else◌}
use Rattle.std.specs.FinMap.{get}
use Rattle.item_laws.specs.Items.{Items, items_of}
use Rattle.item_session.specs.declared.line.Line.{Line}
use Rattle.item_session.specs.declared.line.Line.TheVariants.{Set, Get, Delete, Older, Mount}
use Rattle.item_session.specs.declared.answer.Answer.{Answer}
use Rattle.item_session.specs.declared.answer.Answer.TheVariants as answers
use Rattle.item_session.specs.Plan.{is_lost}
use Rattle.item_store.specs.Versions.{versions, KeepsVersions}
use Rattle.session_table.specs.Follows.{Follows}
use Rattle.session_table.specs.Rules.{IsCounted}
use Rattle.item_session.specs.Step.{Rules, State, Step, items}

-- a state; the pairs of its area at the start, followed by each set and delete that was carried out
-- since, the oldest first
pub record Recorded : Type 0 where
  pub state : State
  pub all : List (ℕ × List ℕ)

-- all versions that an id ever had, the newest first
abbrev pub history : Recorded → ℕ → List (List ℕ)
history now id = versions now.all id

-- the map of a plain list of sets and deletes
abbrev pub plain_items : Recorded → Items
plain_items now = items_of now.all

-- What a set or a delete adds: itself if it was done with units, nothing if it needed none, either
-- of the two if power was lost in it.
abbrev pub AddsPair : ℕ → ℕ × List ℕ → Answer → List (ℕ × List ℕ) → Type 0
AddsPair last pair (answers.Done units) added =
    ((units ≡ 0) × (added ≡ [])) ⊎ ((IsCounted last → 0 < units) × (added ≡ pair ∷ []))
AddsPair last pair (answers.Lost units) added = (added ≡ []) ⊎ (added ≡ pair ∷ [])
AddsPair last pair answer added = added ≡ []

-- other lines add nothing
abbrev pub Adds : ℕ → Line → Answer → List (ℕ × List ℕ) → Type 0
Adds last (Set id value) answer added = AddsPair last (id, value) answer added
Adds last (Delete id) answer added = AddsPair last (id, []) answer added
Adds last line answer added = added ≡ []

-- Of each id the newest of all its versions are kept, at least one if it has a value. The items are
-- those of the plain list.
pub record IsKept (now : Recorded) : Type 0 where
  pub versions_are : KeepsVersions now.all now.state.list
  pub items_are : items now.state ≡ plain_items now

-- `get` reports the item of the plain list. `older` reports the version of the whole history, if it
-- reports one; it reports none at 0 only if the id has no value.
abbrev pub ReportsHistory : Line → Answer → Recorded → Type 0
ReportsHistory (Get id) (answers.Value value) now = get (plain_items now) id ≡ Some value
ReportsHistory (Get id) answers.Absent now = get (plain_items now) id ≡ None
ReportsHistory (Older id n) (answers.Value value) now = slice_get (history now id) n ≡ Some value
ReportsHistory (Older id n) answers.Deleted now = slice_get (history now id) n ≡ Some []
ReportsHistory (Older id n) answers.Gone now = n ≡ 0 → get (plain_items now) id ≡ None
ReportsHistory line answer now = ⊤

pub record Records (last : ℕ) (line : Line) (answer : Answer) (old new : Recorded) : Type 0 where
  pub added : List (ℕ × List ℕ)
  pub adds : Adds last line answer added
  pub all : new.all ≡ old.all ++ added
  pub reports : ReportsHistory line answer old
  pub keeps : IsKept new

abbrev pub HistoryStep : Rules → ℕ → Line → Answer → Recorded → Recorded → Type 0
HistoryStep rules last line answer old new =
    Step rules last line answer old.state new.state × Records last line answer old new

-- The history begins with the pairs of the area at the start, and goes on line by line.
pub record HasHistory (rules : Rules) (last : ℕ) (lines : List Line) (answers : List Answer) (old new : State)
    : Type 0 where
  pub all : List (ℕ × List ℕ)
  pub runs :
      Follows (HistoryStep rules last) lines answers
      (record { state = old; all = old.list })
      (record { state = new; all = all })

-- ---- power

-- the line restores power
abbrev pub restores : Line → Bool
restores Mount = true
restores line = false

-- Power is off after a line in which it was lost, until a mount answers `ok`.
abbrev pub power_after : Line → Answer → Bool → Bool
power_after line answer was = if is_lost answer then false else (if restores line then true else was)

abbrev pub PowerStep : Line → Answer → Bool → Bool → Type 0
PowerStep line answer old new = new ≡ power_after line answer old

-- The table: which answers plain items with their versions allow to a line, and the state after
-- each. It leaves open whether power is lost in a line, whether a set or a delete stands then, how
-- many of the oldest versions are dropped, and the units.
use Rattle.std.specs.Prelude.{◌≡◌, ◌⊎◌, ℕ, ◌+◌, ◌-◌, ◌*◌, ◌<◌, ◌≤◌, Bool, true, false, List, [], length, slice_get, Some, None}
use Rattle.std.specs.FinMap.{get, insert, remove}
use Rattle.item_laws.specs.Costs.{items_cost}
use Rattle.item_laws.specs.Items.{Items, items_of}
use Rattle.item_history.specs.Usage.{stale_cost}
use Rattle.session_table.specs.Rules.{IsCounted}
use Rattle.item_session.specs.declared.line.Line.{Line}
use Rattle.item_session.specs.declared.line.Line.TheVariants.{Set, Get, Delete, Older, Space, Cut, Uncut, Mount}
use Rattle.item_session.specs.declared.answer.Answer.{Answer}
use Rattle.item_session.specs.declared.answer.Answer.TheVariants as answers
use Rattle.item_store.specs.Versions.{versions, AddsVersion, KeepsVersions}

pub record State : Type 0 where
  -- the pairs of the area, from the oldest to the newest: an id with its bytes, or with none if
  -- it was deleted
  pub list : List (ℕ × List ℕ)
  pub is_on : Bool

-- each id with the bytes of its last pair, if there are any
abbrev pub items : State → Items
items state = items_of state.list

-- what is kept of an id: its versions, the newest first
abbrev pub kept : State → ℕ → List (List ℕ)
kept state id = versions state.list id

abbrev pub IsOn : State → Type 0
IsOn state = state.is_on ≡ true

abbrev pub IsOff : State → Type 0
IsOff state = state.is_on ≡ false

-- ---- room and units

-- the figures of the area's store
pub record Rules : Type 0 where
  -- the bytes that a value of this length takes with its entry
  pub cost : ℕ → ℕ
  -- the bytes that a sector has for values and entries
  pub cap : ℕ
  pub sectors : ℕ
  -- the most units of a round, of a value of this length with its entry, and of a mount
  pub round : ℕ
  pub entry : ℕ → ℕ
  pub mount : ℕ

-- Before its entry, a set makes at most one round for each sector but one. One round is enough for
-- a delete, whose entry has no bytes.
abbrev pub most_to_set : Rules → List ℕ → ℕ
most_to_set rules value = (rules.sectors - 1) * rules.round + rules.entry (length value)

abbrev pub most_to_delete : Rules → ℕ
most_to_delete rules = 1 * rules.round + rules.entry 0

-- ---- what becomes of the items and of their versions

abbrev pub IsStored : State → ℕ → List ℕ → Type 0
IsStored state id value = get (items state) id ≡ Some value

abbrev pub IsAbsent : State → ℕ → Type 0
IsAbsent state id = get (items state) id ≡ None

-- the items stay, and so do the newest versions of each id
pub record Stays (old new : State) : Type 0 where
  pub items_are : items new ≡ items old
  pub versions_are : KeepsVersions old.list new.list

-- the id has this value, which is its newest version, and all other items stay
pub record Gets (id : ℕ) (value : List ℕ) (old new : State) : Type 0 where
  pub items_are : items new ≡ insert (items old) id value
  pub versions_are : AddsVersion old.list new.list id value

-- the id has no value, a delete is its newest version, and all other items stay
pub record Loses (id : ℕ) (old new : State) : Type 0 where
  pub items_are : items new ≡ remove (items old) id
  pub versions_are : AddsVersion old.list new.list id []

-- ---- sets

-- the set of a value that is stored already changes nothing
abbrev pub SetIsDone : ℕ → ℕ → List ℕ → ℕ → State → State → Type 0
SetIsDone last id value units old new =
    (IsStored old id value × (units ≡ 0) × (new ≡ old))
    ⊎ ((¬ IsStored old id value) × (IsCounted last → 0 < units) × Gets id value old new × IsOn new)

-- the items leave too little room in each of the sectors but one
pub record SetIsRefused (rules : Rules) (id : ℕ) (value : List ℕ) (need live : ℕ) (old new : State)
    : Type 0 where
  pub other : ¬ IsStored old id value
  pub needs : need ≡ rules.cost (length value)
  pub lives : live ≡ items_cost rules.cost (items old)
  pub full : (rules.sectors - 1) * (rules.cap - need) < live
  pub stays : Stays old new
  pub on : IsOn new

-- the value is stored, or it is not
pub record SetIsLost (id : ℕ) (value : List ℕ) (old new : State) : Type 0 where
  pub other : ¬ IsStored old id value
  pub left : Stays old new ⊎ Gets id value old new
  pub off : IsOff new

abbrev pub Sets : Rules → ℕ → ℕ → List ℕ → Answer → State → State → Type 0
Sets rules last id value (answers.Done units) old new =
    (units ≤ most_to_set rules value) × SetIsDone last id value units old new
Sets rules last id value (answers.NoSpace units need live) old new =
    (units ≤ most_to_set rules value) × SetIsRefused rules id value need live old new
Sets rules last id value (answers.Lost units) old new =
    (units ≤ most_to_set rules value) × SetIsLost id value old new
Sets rules last id value answer old new = ⊥

-- ---- deletes

abbrev pub DeleteIsDone : ℕ → ℕ → ℕ → State → State → Type 0
DeleteIsDone last id units old new =
    (IsAbsent old id × (units ≡ 0) × (new ≡ old))
    ⊎ ((¬ IsAbsent old id) × (IsCounted last → 0 < units) × Loses id old new × IsOn new)

pub record DeleteIsLost (id : ℕ) (old new : State) : Type 0 where
  pub present : ¬ IsAbsent old id
  pub left : Stays old new ⊎ Loses id old new
  pub off : IsOff new

abbrev pub Deletes : Rules → ℕ → ℕ → Answer → State → State → Type 0
Deletes rules last id (answers.Done units) old new =
    (units ≤ most_to_delete rules) × DeleteIsDone last id units old new
Deletes rules last id (answers.Lost units) old new = (units ≤ most_to_delete rules) × DeleteIsLost id old new
Deletes rules last id answer old new = ⊥

-- ---- lines that ask

abbrev pub Reports : ℕ → Answer → State → State → Type 0
Reports id (answers.Value value) old new = (get (items old) id ≡ Some value) × (new ≡ old)
Reports id answers.Absent old new = (get (items old) id ≡ None) × (new ≡ old)
Reports id answer old new = ⊥

-- the n-th version that is kept of the id
abbrev pub ReportsOlder : ℕ → ℕ → Answer → State → State → Type 0
ReportsOlder id n (answers.Value value) old new =
    (slice_get (kept old id) n ≡ Some value) × (0 < length value) × (new ≡ old)
ReportsOlder id n answers.Deleted old new = (slice_get (kept old id) n ≡ Some []) × (new ≡ old)
ReportsOlder id n answers.Gone old new = (length (kept old id) ≤ n) × (new ≡ old)
ReportsOlder id n answer old new = ⊥

-- what the items cost, what the other kept versions cost, and what a collection of these
-- would leave free
abbrev pub ReportsSpace : Rules → Answer → State → State → Type 0
ReportsSpace rules (answers.Space live stale free) old new =
    (live ≡ items_cost rules.cost (items old))
    × (stale ≡ stale_cost rules.cost old.list)
    × (free ≡ (rules.sectors - 1) * rules.cap - live)
    × (new ≡ old)
ReportsSpace rules answer old new = ⊥

-- ---- power

-- the items stay, even if power is lost
abbrev pub Mounts : Rules → Answer → State → State → Type 0
Mounts rules (answers.Done units) old new = (units ≤ rules.mount) × Stays old new × IsOn new
Mounts rules (answers.Lost units) old new = (units ≤ rules.mount) × Stays old new × IsOff new
Mounts rules answer old new = ⊥

-- a loss is planned, or the plan is dropped
abbrev pub Arms : Answer → State → State → Type 0
Arms (answers.Done units) old new = (units ≡ 0) × (new ≡ old)
Arms answer old new = ⊥

-- ---- all lines

-- lines that need power; the others are carried out with power off too
abbrev pub needs_power : Line → Bool
needs_power Mount = false
needs_power (Cut units) = false
needs_power Uncut = false
needs_power line = true

abbrev pub Answers : Rules → ℕ → Line → Answer → State → State → Type 0
Answers rules last (Set id value) answer old new = Sets rules last id value answer old new
Answers rules last (Delete id) answer old new = Deletes rules last id answer old new
Answers rules last (Get id) answer old new = Reports id answer old new
Answers rules last (Older id n) answer old new = ReportsOlder id n answer old new
Answers rules last Space answer old new = ReportsSpace rules answer old new
Answers rules last Mount answer old new = Mounts rules answer old new
Answers rules last (Cut units) answer old new = Arms answer old new
Answers rules last Uncut answer old new = Arms answer old new

-- with power off the answer is `off` and nothing changes; else it is the line's
abbrev pub Step : Rules → ℕ → Line → Answer → State → State → Type 0
Step rules last line answers.Off old new = (needs_power line ≡ true) × IsOff old × (new ≡ old)
Step rules last line answer old new =
    (needs_power line ≡ true → IsOn old) × Answers rules last line answer old new

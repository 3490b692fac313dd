-- The table: which answers a plain list of records allows to a line, and the state after each. It
-- leaves open whether power is lost in a line, what a lost append leaves then, how many of the
-- oldest records an append drops, and the units.
use Rattle.std.specs.Prelude.{◌≡◌, ◌⊎◌, ℕ, ◌+◌, ◌-◌, ◌/◌, ◌<◌, ◌≤◌, Bool, true, false, List, [], ◌∷◌, ◌++◌, length, sum_by}
use Rattle.flash_map.specs.declared.area.Geometry.{Geometry}
use Rattle.flash_map.specs.Units.{padded}
use Rattle.fcb_ring.specs.Writing.{record_cost}
use Rattle.event_ring.specs.Appending.{LeavesLog}
use Rattle.session_table.specs.Rules.{IsCounted}
use Rattle.log_session.specs.declared.line.Line.{Line}
use Rattle.log_session.specs.declared.line.Line.TheVariants.{Put, Records, Cut, Uncut, Mount}
use Rattle.log_session.specs.declared.answer.Answer.{Answer}
use Rattle.log_session.specs.declared.answer.Answer.TheVariants.{Done, Appended, Log, Lost, Off}

pub record State : Type 0 where
  -- the bodies of the records, the oldest first
  pub log : List (List ℕ)
  pub is_on : Bool

abbrev pub IsOn : State → Type 0
IsOn state = state.is_on ≡ true

abbrev pub IsOff : State → Type 0
IsOff state = state.is_on ≡ false

-- ---- units and bytes

-- the units of a record with this body
abbrev pub record_units : Geometry → List ℕ → ℕ
record_units geometry body = record_cost geometry.unit (length body) / geometry.unit

-- the units of a sector's header
abbrev pub header_units : Geometry → ℕ
header_units geometry = padded geometry.unit 8 / geometry.unit

-- the most units and erases of an append: it drops the oldest sector, opens the next one, and
-- puts its record
abbrev pub most_to_put : Geometry → List ℕ → ℕ
most_to_put geometry body = header_units geometry + 1 + record_units geometry body

-- An append spends the units of its record; those of a header too, if a sector is opened; and an
-- erase as well, if the oldest sector is dropped. Only then can records be dropped.
abbrev pub PutUnits : Geometry → List ℕ → ℕ → ℕ → Type 0
PutUnits geometry body dropped units =
    ((units ≡ record_units geometry body) × (dropped ≡ 0))
    ⊎ ((units ≡ record_units geometry body + header_units geometry) × (dropped ≡ 0))
    ⊎ (units ≡ most_to_put geometry body)

-- the bytes of records with these bodies
abbrev pub records_cost : Geometry → List (List ℕ) → ℕ
records_cost geometry bodies = sum_by (λ body. record_cost geometry.unit (length body)) bodies

-- ---- appending

-- So many of the oldest records are dropped, and these are left. One sector has room for
-- the dropped ones.
pub record Drops (geometry : Geometry) (dropped : ℕ) (log rest : List (List ℕ)) : Type 0 where
  pub prefix : List (List ℕ)
  pub are : log ≡ prefix ++ rest
  pub count : dropped ≡ length prefix
  pub one_sector : records_cost geometry prefix ≤ geometry.sector - padded geometry.unit 8

-- so many records are dropped, and this one stands after the others
pub record AddsRecord (geometry : Geometry) (last : ℕ) (body : List ℕ) (units dropped : ℕ) (old new : State) :
    Type 0 where
  pub rest : List (List ℕ)
  pub drops : Drops geometry dropped old.log rest
  pub state : new ≡ record old { log = rest ++ body ∷ [] }
  pub units_are : IsCounted last → PutUnits geometry body dropped units
  pub at_most : units ≤ most_to_put geometry body

-- all records of the first log stand, and more may follow
abbrev pub KeepsAll : List (List ℕ) → List (List ℕ) → Type 0
KeepsAll log after = (more : List (List ℕ)) × (after ≡ log ++ more)

-- Power is off. Nothing was dropped, or the oldest records were, but not before the next sector was
-- opened and the oldest erased. Then the record stands, or by chance a torn one, or neither.
pub record LosesRecord (geometry : Geometry) (last : ℕ) (body : List ℕ) (units : ℕ) (chance : Bool)
    (old new : State) : Type 0 where
  pub dropped : ℕ
  pub rest : List (List ℕ)
  pub drops : Drops geometry dropped old.log rest
  pub log : LeavesLog chance old.log rest body new.log
  pub order : IsCounted last → units < header_units geometry + 1 → KeepsAll old.log new.log
  pub off : IsOff new
  pub at_most : units ≤ most_to_put geometry body

abbrev pub Appends : Geometry → ℕ → List ℕ → Answer → State → State → Type 0
Appends geometry last body (Appended units dropped) old new =
    AddsRecord geometry last body units dropped old new
Appends geometry last body (Lost units chance) old new = LosesRecord geometry last body units chance old new
Appends geometry last body answer old new = ⊥

-- ---- the other lines

abbrev pub Reports : Answer → State → State → Type 0
Reports (Log bodies) old new = (bodies ≡ old.log) × (new ≡ old)
Reports answer old new = ⊥

-- the log stays, even if power is lost
abbrev pub Mounts : Answer → State → State → Type 0
Mounts (Done units) old new = new ≡ record old { is_on = true }
Mounts (Lost units false) old new = new ≡ record old { is_on = false }
Mounts answer old new = ⊥

-- a loss is planned, or the plan is dropped
abbrev pub Arms : Answer → State → State → Type 0
Arms (Done units) old new = (units ≡ 0) × (new ≡ old)
Arms answer old new = ⊥

-- lines that need power; the others are carried out with power off too
abbrev pub needs_power : Line → Bool
needs_power Mount = false
needs_power (Cut units) = false
needs_power Uncut = false
needs_power line = true

abbrev pub Answers : Geometry → ℕ → Line → Answer → State → State → Type 0
Answers geometry last (Put body) answer old new = Appends geometry last body answer old new
Answers geometry last Records answer old new = Reports answer old new
Answers geometry last Mount answer old new = Mounts answer old new
Answers geometry last (Cut units) answer old new = Arms answer old new
Answers geometry last Uncut answer old new = Arms answer old new

-- with power off the answer is `off` and nothing changes; else it is the line's
abbrev pub Step : Geometry → ℕ → Line → Answer → State → State → Type 0
Step geometry last line Off old new = (needs_power line ≡ true) × IsOff old × (new ≡ old)
Step geometry last line answer old new =
    (needs_power line ≡ true → IsOn old) × Answers geometry last line answer old new

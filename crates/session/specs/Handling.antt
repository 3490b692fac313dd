-- Lines on handlers.
use Rattle.std.specs.Prelude.{◌≡◌, ℕ, ◌<◌, ◌++◌, ◌∷◌, [], ⊤, true, false, List, length, take, slice_index_or, Option, Some, None, Result, Ok, Err, All}
use Rattle.std.specs.List.{list_any, remove, slice_get}
use Rattle.flash_sim.specs.Device.{Device}
use Rattle.flash_map.specs.declared.area.Area.{Area}
use Rattle.flash_map.specs.declared.area.Geometry.{Geometry}
use Rattle.flash_map.specs.declared.faults.Damaged.{Damaged}
use Rattle.handlers.specs.declared.handler.HandlerKind.{HandlerKind}
use Rattle.handlers.specs.Held.{HandlerState}
use Rattle.handlers.specs.Registry.{Registered, registered}
use Rattle.handlers.specs.declared.registry.RegistryOf.{RegistryOf}
use Rattle.handlers.specs.declared.registry.Row.{Row}
use Rattle.settings_core.specs.Deliveries as deliveries
use Rattle.script_lines.specs.declared.answer.Answer.{Answer}
use Rattle.script_lines.specs.declared.answer.Answer.TheVariants.{Done, Off}
use Rattle.script_lines.specs.declared.line.Line.{Line}
use Rattle.script_lines.specs.declared.line.Line.TheVariants.{Register, Load, Commit, RunSet, Mount}
use Rattle.script_lines.specs.declared.lists.Give.{Give}
use Rattle.session_table.specs.Bench.{Meanings, Moment}
use Rattle.session_table.specs.Follows.{Follows}
use Rattle.session_table.specs.State.{State}
use Rattle.session_table.specs.Step.{same_kind, without_first}
use Rattle.session.specs.declared.fault.SessionFault.{SessionFault}
use Rattle.session.specs.declared.fault.SessionFault.TheVariants.{Damaged as IsDamaged, NoMemory}
use Rattle.session.specs.OnMap.{kinds, IsFresh, LineRan, LineStops, moment}

-- a state with these handlers registered, and handlers of these kinds left
abbrev pub beside : State → List Registered → List HandlerKind → State
beside s registry pool = record s { registry = registry; pool = pool }

-- what a load gave, as it was reported
abbrev pub as_given : Give → deliveries.Give
as_given give = record { subtree = give.subtree; rest = give.rest; value = give.value; taken = give.taken }

-- the place of the first handler of the kind, if there is one
abbrev pub FirstAt : HandlerKind → List HandlerKind → Option ℕ → Type 0
FirstAt kind kinds (Some i) =
    (i < length kinds) × (list_any (same_kind kind) (take i kinds) ≡ false)
    × (same_kind kind (slice_index_or kinds i kind) ≡ true)
FirstAt kind kinds None = list_any (same_kind kind) kinds ≡ false

module _ {B : Type 0} where
  -- The first handler of the kind was taken out of the others, which stay in their order. Those
  -- that were new still are.
  pub record TakesFirst (state : B → HandlerState) (kind : HandlerKind) (before after : List B) (taken : B) :
      Type 0 where
    pub place : ℕ
    pub first : FirstAt kind (kinds state before) (Some place)
    pub there : slice_get before place ≡ Some taken
    pub left : after ≡ remove before place
    pub others : without_first kind (kinds state before) ≡ Some (kinds state after)
    pub of_kind : (state taken).kind ≡ kind
    pub new : All (IsFresh state) before → IsFresh state taken × All (IsFresh state) after

  -- how taking the first handler of a kind ends
  abbrev pub TakeEnds : (B → HandlerState) → HandlerKind → List B → List B → Option B → Type 0
  TakeEnds state kind before after (Some taken) = TakesFirst state kind before after taken
  TakeEnds state kind before after None = (without_first kind (kinds state before) ≡ None) × (after ≡ before)

  -- The first handler of the kind left the others, which stay in their order. It stands behind the
  -- registered ones, with this subtree.
  pub record RegistersFirst (state : B → HandlerState) (subtree : List ℕ) (kind : HandlerKind)
      (before after : List B) (rows now : List (Row B)) : Type 0 where
    pub handler : B
    pub taken : TakesFirst state kind before after handler
    pub last : now ≡ rows ++ record { subtree = subtree; handler = handler } ∷ []

  -- which handlers a registration moves
  abbrev pub RegisterMoves : (B → HandlerState) → List ℕ → HandlerKind → Answer → List B → List B
      → RegistryOf B → RegistryOf B → Type 0
  RegisterMoves state subtree kind (Done units) before after old new =
      RegistersFirst state subtree kind before after old.rows.items new.rows.items
  RegisterMoves state subtree kind answer before after old new = (after ≡ before) × (new ≡ old)

  -- with power off no handler is called, and the registry stays
  abbrev pub StaysWhileOff : Answer → RegistryOf B → RegistryOf B → Type 0
  StaysWhileOff Off old new = new ≡ old
  StaysWhileOff answer old new = ⊤

  -- Which handlers a line moves from those that are left into the registry: only a registration
  -- moves one. The registry stays at all other lines but those that, with power on, give its
  -- handlers values or commit them.
  abbrev pub MovesHandlers : (B → HandlerState) → Line → Answer → List B → List B → RegistryOf B
      → RegistryOf B → Type 0
  MovesHandlers state (Register subtree kind) answer before after old new =
      RegisterMoves state subtree kind answer before after old new
  MovesHandlers state (Load subtree) answer before after old new =
      (after ≡ before) × StaysWhileOff answer old new
  MovesHandlers state Commit answer before after old new = (after ≡ before) × StaysWhileOff answer old new
  MovesHandlers state (RunSet name value) answer before after old new =
      (after ≡ before) × StaysWhileOff answer old new
  MovesHandlers state line answer before after old new = (after ≡ before) × (new ≡ old)

  -- where a mount found damage, the handlers that are left and the registry stay
  abbrev pub StaysAtDamage : SessionFault → List B → List B → RegistryOf B → RegistryOf B → Type 0
  StaysAtDamage (IsDamaged place damaged) before after old new = (after ≡ before) × (new ≡ old)
  StaysAtDamage NoMemory before after old new = ⊤

  -- which handlers a line moves, whether it is answered or found damage
  abbrev pub LeavesHandlers : (B → HandlerState) → Line → Result Answer SessionFault → List B → List B
      → RegistryOf B → RegistryOf B → Type 0
  LeavesHandlers state line (Ok answer) before after old new =
      MovesHandlers state line answer before after old new
  LeavesHandlers state line (Err fault) before after old new = StaysAtDamage fault before after old new

-- ---- a run

-- a bench, the handlers that are registered, and those that are left
pub record Boxes (B : Type 0) : Type 0 where
  pub device : Device
  pub registry : RegistryOf B
  pub left : List B

module _ {B : Type 0} where
  abbrev pub boxes : Device → RegistryOf B → List B → Boxes B
  boxes device registry left = record { device = device; registry = registry; left = left }

  -- as the table sees them
  abbrev pub moment_of : (B → HandlerState) → Boxes B → Moment
  moment_of state now = moment now.device (registered state now.registry) (kinds state now.left)

  -- a line of a run was carried out, and moved handlers
  pub record LineMoves (state : B → HandlerState) (m : Meanings)
      (damage : Area → Geometry → List (List ℕ) → Option Damaged)
      (rests : Area → Geometry → List (List ℕ) → Type 0) (areas : List Area) (line : Line) (answer : Answer)
      (old new : Boxes B) : Type 0 where
    pub ran : LineRan m damage rests areas line answer (moment_of state old) (moment_of state new)
    pub moves : MovesHandlers state line answer old.left new.left old.registry new.registry

  -- Lines were carried out one after another, and moved handlers. At the end some are left.
  abbrev pub RunMoves : (B → HandlerState) → Meanings
      → (Area → Geometry → List (List ℕ) → Option Damaged) → (Area → Geometry → List (List ℕ) → Type 0)
      → List Area → List Line → List Answer → Boxes B → Device → RegistryOf B → Type 0
  RunMoves state m damage rests areas lines answers old new registry =
      (left : List B)
      × Follows (LineMoves state m damage rests areas) lines answers old (boxes new registry left)

  -- The first lines were carried out, and moved handlers. A mount then found damage: the registry is
  -- as the first lines left it.
  pub record MovesUntil (state : B → HandlerState) (m : Meanings)
      (damage : Area → Geometry → List (List ℕ) → Option Damaged)
      (rests : Area → Geometry → List (List ℕ) → Type 0) (areas : List Area) (lines : List Line)
      (fault : SessionFault) (old : Boxes B) (new : Device) (registry : RegistryOf B) : Type 0 where
    pub prefix : List Line
    pub rest : List Line
    pub are : lines ≡ prefix ++ Mount ∷ rest
    pub answers : List Answer
    pub mid : Boxes B
    pub moves : Follows (LineMoves state m damage rests areas) prefix answers old mid
    pub stops : LineStops m damage areas Mount mid.device new fault
    pub stays : registry ≡ mid.registry

  -- which handlers a run moves, whether all lines were carried out or one found damage
  abbrev pub RunLeaves : (B → HandlerState) → Meanings
      → (Area → Geometry → List (List ℕ) → Option Damaged) → (Area → Geometry → List (List ℕ) → Type 0)
      → List Area → List Line → Result (List Answer) SessionFault → Boxes B → Device → RegistryOf B → Type 0
  RunLeaves state m damage rests areas lines (Ok answers) old new registry =
      RunMoves state m damage rests areas lines answers old new registry
  RunLeaves state m damage rests areas lines (Err (IsDamaged place damaged)) old new registry =
      MovesUntil state m damage rests areas lines (IsDamaged place damaged) old new registry
  RunLeaves state m damage rests areas lines (Err NoMemory) old new registry = ⊤

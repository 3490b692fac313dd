-- A session on the settings of a map of areas, one of which is active.
use Rattle.std.specs.Prelude.{◌≡◌, ◌⊎◌, All, ℕ, ◌+◌, ◌≤◌, ⊤, Bool, true, false, not, List, [], ◌∷◌, ◌++◌, length, map, find, Option, Some, None, Result, Ok, Err, unwrap_or, option_map}
use Rattle.std.specs.List.{range_with_len, slice_get}
use Rattle.std.specs.Option.{ForSome, option_or, option_map_or}
use Rattle.std.specs.FinMap.{len}
use Rattle.flash_sim.specs.Device.{Device}
use Rattle.flash_sim.specs.declared.flash.Loss.{Loss}
use Rattle.flash_map.specs.declared.area.Area.{Area}
use Rattle.flash_map.specs.declared.area.Geometry.{Geometry}
use Rattle.flash_map.specs.declared.faults.Damaged.{Damaged}
use Rattle.flash_map.specs.Area.{geometry_of, sectors_of, value_limit}
use Rattle.flash_map.specs.On.{on, HoldsOn, StandsOn}
use Rattle.flash_map.specs.Spending.{Spends, SpendsAtMost}
use Rattle.flash_map.specs.Touches.{Touches}
use Rattle.fcb_ring.specs.Standing.{entries_on, erases_on}
use Rattle.fcb_ring.specs.declared.ring.Ring.{Ring}
use Rattle.handlers.specs.declared.handler.HandlerKind.{HandlerKind}
use Rattle.handlers.specs.Held.{HandlerState, fresh}
use Rattle.handlers.specs.Registry.{Registered}
use Rattle.backend_api.specs.Commands.{Command, puts_of}
use Rattle.backend_api.specs.Map.{Map}
use Rattle.backend_api.specs.Room.{Room, foreign_units}
use Rattle.migrator.specs.declared.selecting.Selector.{Selector}
use Rattle.migrator.specs.Active.{active_on, selector_damage_on}
use Rattle.migrator.specs.Areas.{IsLawfulMap, is_store, is_store_at, first_store, selector_of, target}
use Rattle.migrator.specs.Choosing.{IsOpen}
use Rattle.migrator.specs.Migrating.{FillsAndChooses, worked_on, migrate_units}
use Rattle.settings_core.specs.declared.settings.Settings.{Settings}
use Rattle.settings_core.specs.Carrying.{due_units}
use Rattle.settings_core.specs.Saving.{AreLawful, exported}
use Rattle.script_lines.specs.declared.line.Line.{Line}
use Rattle.script_lines.specs.declared.line.Line.TheVariants.{Set, Del, Register, Load, Save, Commit, RunSet, RunGet, Mount, Cut, Uncut, Migrate}
use Rattle.script_lines.specs.declared.answer.Answer.{Answer}
use Rattle.script_lines.specs.declared.answer.Answer.TheVariants.{Done, Lost}
use Rattle.script_lines.specs.Plan.{is_lost, replan, units_of}
use Rattle.script_lines.specs.Plan.Replan.{keeps}
use Rattle.session_table.specs.Bench.{Meanings, Moment, LineDone, Runs, area_at, is_selector, places_of, rules_of}
use Rattle.session_table.specs.Bench.{worked_on as places_worked_on}
use Rattle.session_table.specs.Follows.{Follows}
use Rattle.session_table.specs.Step.{needs_power}
use Rattle.session.specs.declared.fault.SessionFault.{SessionFault}
use Rattle.session.specs.declared.fault.SessionFault.TheVariants.{Damaged as IsDamaged, NoMemory}

-- what the bytes of areas mean to a backend
abbrev pub meanings : (Area → Geometry → List (List ℕ) → Map) → (Area → Geometry → Room)
    → (Area → Geometry → List (List ℕ) → Loss → Bool) → (Area → Geometry → Command → ℕ → Map → Map → Type 0)
    → Meanings
meanings contents room chance tears =
    record { contents = contents; room = room; chance = chance; tears = tears }

-- a bench, with its registered handlers and the kinds of those that are left
abbrev pub moment : Device → List Registered → List HandlerKind → Moment
moment d registry pool = record { device = d; registry = registry; pool = pool }

module _ {B : Type 0} where
  -- the kinds of handlers
  abbrev pub kinds : (B → HandlerState) → List B → List HandlerKind
  kinds state pool = map (λ b. (state b).kind) pool

  -- a handler that holds nothing and was never committed
  abbrev pub IsFresh : (B → HandlerState) → B → Type 0
  IsFresh state b = state b ≡ fresh (state b).kind

  -- The registered handlers hold settings that the areas take; those that are left hold nothing.
  pub record HandlersFit (state : B → HandlerState) (limit : ℕ) (handlers : List Registered) (left : List B) :
      Type 0 where
    pub registry : AreLawful limit handlers
    pub pool : All (IsFresh state) left

-- ---- maps

abbrev pub active_area : List Area → Device → Area
active_area areas d = area_at areas (active_on areas d)

-- how many bytes a value may have; it is the same in all areas of a map
abbrev pub limit_of : List Area → ℕ
limit_of areas = value_limit (area_at areas (first_store areas))

-- The map is one that an image may have: its areas are lawful, each store area is served, there is
-- at least one, and without a selector there is only one.
pub record IsServedMap (serves : Area → Geometry → Type 0) (areas : List Area) (d : Device) : Type 0 where
  pub lawful : IsLawfulMap d.banks areas
  pub served : (place : ℕ) (area : Area) → slice_get areas place ≡ Some area → is_store area ≡ true
      → serves area (geometry_of d area)
  pub some : is_store_at areas (first_store areas) ≡ true
  pub one : selector_of areas ≡ None → target areas (first_store areas) ≡ None

-- the areas take the line's value
abbrev pub IsServed : ℕ → Line → Type 0
IsServed limit (Set name value) = length value ≤ limit
IsServed limit (RunSet name value) = (1 ≤ length value) × (length value ≤ limit)
IsServed limit line = ⊤

-- ---- damage

-- the place of the selector's area, the first that stores no settings; `None` if there is none
abbrev pub selector_found : List Area → Option ℕ
selector_found areas = find (λ place. not (is_store_at areas place)) (range_with_len 0 (length areas))

abbrev pub selector_place : List Area → ℕ
selector_place areas = unwrap_or (selector_found areas) 0

-- the damage that the selector shows, with its place
abbrev pub selector_damage : List Area → Device → Option (ℕ × Damaged)
selector_damage areas d = option_map (λ damaged. (selector_place areas, damaged)) (selector_damage_on areas d)

-- the damage that the active area shows, with its place
abbrev pub active_damage : (Area → Geometry → List (List ℕ) → Option Damaged) → List Area → Device
    → Option (ℕ × Damaged)
active_damage damage areas d =
    option_map (λ damaged. (active_on areas d, damaged)) (on damage d (active_area areas d))

-- the damage that a mount of the map finds: the selector's; if it shows none, that of
-- the active area
abbrev pub damage_in : (Area → Geometry → List (List ℕ) → Option Damaged) → List Area → Device
    → Option (ℕ × Damaged)
damage_in damage areas d = option_or (selector_damage areas d) (active_damage damage areas d)

-- the selector's area, if there is one
abbrev pub selectors : List Area → List Area
selectors areas = option_map_or (λ area. area ∷ []) (selector_of areas) []

abbrev pub turned_on : Device → Device
turned_on d = record d { is_on = true }

-- A mount found no damage; or it found none in the selector, and power was lost in the selector's
-- area. The selector shows none afterwards.
abbrev pub FindsNone : (Area → Geometry → List (List ℕ) → Option Damaged) → List Area → Answer → Device
    → Device → Type 0
FindsNone damage areas answer old new =
    (selector_damage_on areas old ≡ None)
    × (selector_damage_on areas new ≡ None)
    ×
    ((active_damage damage areas old ≡ None)
    ⊎ ((is_lost answer ≡ true) × Touches (selectors areas) (turned_on old) new true))

-- a mount has nothing to do in the selector's area and in the active one
pub record IsAtRest (rests : Area → Geometry → List (List ℕ) → Type 0) (areas : List Area) (d : Device) :
    Type 0 where
  pub selector : (area : Area) → selector_of areas ≡ Some area → erases_on d area ≡ 0
  pub active : HoldsOn rests d (active_area areas d)

-- the erases that are due in the selector's area; 0 if there is none
abbrev pub selector_erases : List Area → Device → ℕ
selector_erases areas d = option_map_or (λ area. erases_on d area) (selector_of areas) 0

-- the most units and erases of a mount: the selector's erases, and the most of a mount of
-- the active area
abbrev pub mount_bound : List Area → Device → ℕ
mount_bound areas d = selector_erases areas d + foreign_units (geometry_of d (active_area areas d))

-- the most units and erases of a save: those of one set for each pair that differs
abbrev pub save_bound : Meanings → List Area → Option (List ℕ) → Moment → ℕ
save_bound m areas subtree now =
    due_units (geometry_of now.device (active_area areas now.device))
    (on m.contents now.device (active_area areas now.device))
    (puts_of (exported subtree now.registry))

-- the most units and erases of a migration from the active area
abbrev pub move_bound : Meanings → List Area → Device → ℕ
move_bound m areas d =
    option_map_or
    (λ selector. migrate_units d areas selector (active_on areas d)
    (len (on m.contents d (active_area areas d)))) (selector_of areas) 0

-- the map's selector, if there is one, has the same records
abbrev pub SameRecords : List Area → Device → Device → Type 0
SameRecords areas old new = (s : Area) → selector_of areas ≡ Some s → entries_on new s ≡ entries_on old s

-- its sectors are the same
abbrev pub SameSelector : List Area → Device → Device → Type 0
SameSelector areas old new = (s : Area) → selector_of areas ≡ Some s → sectors_of new s ≡ sectors_of old s

-- ---- one line

-- The line may have put a record into the selector: a migration that moved the settings, or in which
-- power was lost.
abbrev pub may_choose : Line → Answer → Bool
may_choose Migrate (Done units) = true
may_choose Migrate (Lost units chance) = true
may_choose line answer = false

-- A line that puts no record leaves the selector's sectors. A mount, which finishes what a choice that
-- was cut left to do, leaves its records.
abbrev pub LeavesSelector : Line → List Area → Device → Device → Type 0
LeavesSelector Mount areas old new = SameRecords areas old new
LeavesSelector line areas old new = SameSelector areas old new

-- the target was filled, and then the selector chose it, by one record more
pub record PutsOne (m : Meanings) (areas : List Area) (old new : Device) : Type 0 where
  pub ring : Ring
  pub selected : selector_of areas ≡ Some ring.area
  pub opened : IsOpen old ring
  pub index : ℕ
  pub is : target areas (active_on areas old) ≡ Some index
  pub moved : FillsAndChooses areas old new ring (area_at areas index) index
      (len (on m.contents old (active_area areas old)))

-- a migration that moved the settings put one record
abbrev pub ChoosesOnce : Meanings → List Area → Line → Answer → Device → Device → Type 0
ChoosesOnce m areas Migrate (Done units) old new = PutsOne m areas old new
ChoosesOnce m areas line answer old new = ⊤

-- a mount turns power on first
abbrev pub powered_for : Line → Device → Device
powered_for Mount d = turned_on d
powered_for line d = d

-- the areas that a line works on
abbrev pub areas_worked_on : Meanings → List Area → Line → Answer → Device → List Area
areas_worked_on m areas line answer d =
    map (area_at areas)
    (places_worked_on (rules_of m areas d.banks 0) (places_of is_selector areas) line answer
    (active_on areas d ∷ []))

-- A line that is not itself about the plan touched the bench only in the areas that it works on: a
-- power loss lies in one of them, and without a unit no byte changed.
abbrev pub TouchesWorked : Meanings → List Area → Line → Answer → Device → Device → Type 0
TouchesWorked m areas line answer old new =
    replan line ≡ keeps
    → Touches (areas_worked_on m areas line answer old) (powered_for line old) new (is_lost answer)

-- the plan alone may differ
abbrev pub SameButPlan : Device → Device → Type 0
SameButPlan old new = new ≡ record old { plan = new.plan }

-- a save and a migration spent at most their bound, even if they were cut
abbrev pub KeepsWithin : Meanings → List Area → Line → Answer → Moment → Type 0
KeepsWithin m areas (Save subtree) answer old = units_of answer ≤ save_bound m areas subtree old
KeepsWithin m areas Migrate answer old = units_of answer ≤ move_bound m areas old.device
KeepsWithin m areas line answer old = ⊤

-- A line was carried out by the table, and touched the bench only where it works. A save and a
-- migration kept within their bounds.
pub record DoneWithin (m : Meanings) (areas : List Area) (line : Line) (answer : Answer) (old new : Moment) :
    Type 0 where
  pub done : LineDone m areas line answer old new
  pub touches : TouchesWorked m areas line answer old.device new.device
  pub most : KeepsWithin m areas line answer old

-- A line was carried out by the table, and touched the bench only where it works. A line on the plan
-- changed nothing else. A mount, even one that was cut, found no damage and kept within its bound, as
-- did a save and a migration. A map without damage shows none afterwards. A migration that moved the
-- settings put one record into the selector. No other line put any, but a migration that was cut may
-- have.
pub record LineCarried (m : Meanings) (damage : Area → Geometry → List (List ℕ) → Option Damaged)
    (areas : List Area) (line : Line) (answer : Answer) (old new : Moment) : Type 0 where
  pub done : LineDone m areas line answer old new
  pub touches : TouchesWorked m areas line answer old.device new.device
  pub plans : (replan line ≡ keeps → ⊥) → SameButPlan old.device new.device
  pub most : KeepsWithin m areas line answer old
  pub finds : line ≡ Mount → FindsNone damage areas answer old.device new.device
  pub few : line ≡ Mount → units_of answer ≤ mount_bound areas old.device
  pub undamaged : damage_in damage areas old.device ≡ None → damage_in damage areas new.device ≡ None
  pub records : may_choose line answer ≡ false → LeavesSelector line areas old.device new.device
  pub chosen : ChoosesOnce m areas line answer old.device new.device

-- a mount spent nothing, and did no more than to turn power on
abbrev pub DoesNothing : Answer → Device → Device → Type 0
DoesNothing answer old new = (answer ≡ Done 0) × (new ≡ turned_on old)

-- A line of a run was carried out. A mount of a map at rest did nothing. If power is on behind the
-- line, the map is at rest: a mount would have nothing to do.
pub record LineRan (m : Meanings) (damage : Area → Geometry → List (List ℕ) → Option Damaged)
    (rests : Area → Geometry → List (List ℕ) → Type 0) (areas : List Area) (line : Line) (answer : Answer)
    (old new : Moment) : Type 0 where
  pub carried : LineCarried m damage areas line answer old new
  pub idle : line ≡ Mount → IsAtRest rests areas old.device → DoesNothing answer old.device new.device
  pub at_rest : new.device.is_on ≡ true → IsAtRest rests areas new.device

-- the handlers stayed, whatever they are
abbrev pub DoneBeside : Meanings → List Area → Line → Answer → Device → Device → Type 0
DoneBeside m areas line answer old new =
    (registry : List Registered) (pool : List HandlerKind)
    → DoneWithin m areas line answer (moment old registry pool) (moment new registry pool)

abbrev pub CarriedBeside : Meanings → (Area → Geometry → List (List ℕ) → Option Damaged) → List Area → Line
    → Answer → Device → Device → Type 0
CarriedBeside m damage areas line answer old new =
    (registry : List Registered) (pool : List HandlerKind)
    → LineCarried m damage areas line answer (moment old registry pool) (moment new registry pool)

-- the line needs power, and changes no area but the active one
abbrev pub is_local : Line → Bool
is_local Mount = false
is_local (Cut units) = false
is_local Uncut = false
is_local Migrate = false
is_local line = true

-- the line is about handlers
abbrev pub is_handled : Line → Bool
is_handled (Register subtree kind) = true
is_handled (Load subtree) = true
is_handled (Save subtree) = true
is_handled Commit = true
is_handled (RunSet name value) = true
is_handled (RunGet name) = true
is_handled line = false

-- Power was turned on, and the selector was mounted, which shows no damage before or after. The
-- mount finished what a choice that was cut had left to do, and put no record.
pub record OpensSelector (areas : List Area) (old new : Device) : Type 0 where
  pub selector : Area
  pub is : selector_of areas ≡ Some selector
  pub sound : selector_damage_on areas old ≡ None
  pub sound_still : selector_damage_on areas new ≡ None
  pub touches : Touches (selectors areas) (turned_on old) new false
  pub units : Spends (turned_on old) new (erases_on old selector)
  pub active : active_on areas new ≡ active_on areas old
  pub records : entries_on new selector ≡ entries_on old selector

-- power was turned on, and the selector, if the map has one, may have been mounted
abbrev pub BeginsMount : List Area → Device → Device → Type 0
BeginsMount areas old new = (new ≡ turned_on old) ⊎ OpensSelector areas old new

-- There is a target. It may have changed, within the bound of a migration; the selector and the active
-- area are the same.
pub record BeginsMove (m : Meanings) (areas : List Area) (old new : Device) : Type 0 where
  pub selector : Area
  pub is : selector_of areas ≡ Some selector
  pub index : ℕ
  pub target : target areas (active_on areas old) ≡ Some index
  pub at_most : SpendsAtMost old new (move_bound m areas old)
  pub touches : Touches (worked_on areas selector (active_on areas old)) old new false
  pub active : active_on areas new ≡ active_on areas old
  pub stays : sectors_of new selector ≡ sectors_of old selector

-- carrying the line out takes memory
abbrev pub takes_memory : Line → Bool
takes_memory (Set name value) = false
takes_memory (Del name) = false
takes_memory (Save subtree) = false
takes_memory Commit = false
takes_memory (Cut units) = false
takes_memory Uncut = false
takes_memory line = true

-- How a line for which memory ran out leaves the bench: a mount, of a map whose selector shows no damage,
-- and a migration may have begun; no other line changed it.
abbrev pub BeginsLine : Meanings → List Area → Line → Device → Device → Type 0
BeginsLine m areas Mount old new = (selector_damage_on areas old ≡ None) × BeginsMount areas old new
BeginsLine m areas Migrate old new = BeginsMove m areas old new
BeginsLine m areas line old new = new ≡ old

-- Why a line was not carried out: a mount found the damage that the map shows; or memory ran out
-- for a line that takes some, with power on if the line needs it.
abbrev pub LineStops : Meanings → (Area → Geometry → List (List ℕ) → Option Damaged)
    → List Area → Line → Device → Device → SessionFault → Type 0
LineStops m damage areas line old new (IsDamaged place damaged) =
    (line ≡ Mount) × (damage_in damage areas old ≡ Some (place, damaged)) × BeginsMount areas old new
LineStops m damage areas line old new NoMemory =
    (takes_memory line ≡ true) × (needs_power line ≡ true → old.is_on ≡ true)
    × BeginsLine m areas line old new

-- ---- between two lines

-- the selector is open, if the map has one
pub record HasSelector (areas : List Area) (d : Device) (selector : Option Selector) : Type 0 where
  pub selected : selector_of areas ≡ option_map (λ s. s.ring.area) selector
  pub opened : ForSome selector (λ s. IsOpen d s.ring)

-- Settings stand on the active area, which is at this place, and the selector is open, if
-- the map has one.
pub record StandsOnMap {K : Type 0} (mounted_on : K → Area) (stands : K → Geometry → List (List ℕ) → Type 0)
    (runs : K → Bool)
    (areas : List Area) (d : Device) (selector : Option Selector) (active : ℕ) (settings : Settings K) :
    Type 0 where
  pub is_active : active ≡ active_on areas d
  pub there : slice_get areas active ≡ Some (mounted_on settings.backend)
  pub up : runs settings.backend ≡ true
  pub standing : StandsOn mounted_on stands d settings.backend
  pub selects : HasSelector areas d selector

-- the session is ready while power is on
abbrev pub IsReady : {K : Type 0} → (K → Area) → (K → Geometry → List (List ℕ) → Type 0) → (K → Bool)
    → List Area → Device → Option Selector → ℕ → Option (Settings K) → Type 0
IsReady mounted_on stands runs areas d selector active None = d.is_on ≡ false
IsReady mounted_on stands runs areas d selector active (Some settings) =
    d.is_on ≡ true → StandsOnMap mounted_on stands runs areas d selector active settings

-- ---- a line with power on

-- Power is on, and settings stand on this area, which is the active one.
pub record StandsOnActive {K : Type 0} (mounted_on : K → Area)
    (stands : K → Geometry → List (List ℕ) → Type 0) (runs : K → Bool)
    (areas : List Area) (d : Device) (area : Area) (backend : K) : Type 0 where
  pub powered : d.is_on ≡ true
  pub active : area ≡ active_area areas d
  pub mounted : mounted_on backend ≡ area
  pub up : runs backend ≡ true
  pub standing : StandsOn mounted_on stands d backend

-- The settings are still those of this area, and stand on it unless power was lost.
pub record StaysOnArea {K : Type 0} (mounted_on : K → Area)
    (stands : K → Geometry → List (List ℕ) → Type 0) (runs : K → Bool)
    (d : Device) (area : Area) (backend : K) : Type 0 where
  pub mounted : mounted_on backend ≡ area
  pub up : d.is_on ≡ true → runs backend ≡ true
  pub standing : d.is_on ≡ true → StandsOn mounted_on stands d backend

-- Memory ran out for a line that takes some, and nothing changed.
pub record StopsUnchanged (line : Line) (old new : Device) : Type 0 where
  pub takes : takes_memory line ≡ true
  pub same : new ≡ old

-- ---- all lines

-- Lines were carried out one after another. As a whole they follow the table; the counts, the plan
-- and the bytes of the bench are as the answers say.
pub record Ran (m : Meanings) (damage : Area → Geometry → List (List ℕ) → Option Damaged)
    (rests : Area → Geometry → List (List ℕ) → Type 0) (areas : List Area) (lines : List Line)
    (answers : List Answer) (old new : Moment) : Type 0 where
  pub in_turn : Follows (LineRan m damage rests areas) lines answers old new
  pub whole : Runs m areas lines answers old new

-- lines were carried out, and memory ran out for the answer to the last of them
abbrev pub LacksAnswer : List Line → Device → Device → SessionFault → Type 0
LacksAnswer prefix old new fault = (1 ≤ length prefix) × (fault ≡ NoMemory) × (new ≡ old)

-- After the first lines the next one stopped; or memory ran out for the answer to the line before.
abbrev pub StopsAt : Meanings → (Area → Geometry → List (List ℕ) → Option Damaged)
    → List Area → List Line → List Line → Device → Device → SessionFault → Type 0
StopsAt m damage areas prefix [] old new fault = LacksAnswer prefix old new fault
StopsAt m damage areas prefix (line ∷ lines) old new fault =
    LacksAnswer prefix old new fault ⊎ LineStops m damage areas line old new fault

-- The first lines were carried out, and then a line stopped.
pub record RunStops (m : Meanings) (damage : Area → Geometry → List (List ℕ) → Option Damaged)
    (rests : Area → Geometry → List (List ℕ) → Type 0) (areas : List Area) (lines : List Line)
    (old : Moment) (new : Device) (fault : SessionFault) : Type 0 where
  pub prefix : List Line
  pub rest : List Line
  pub are : lines ≡ prefix ++ rest
  pub answers : List Answer
  pub mid : Moment
  pub runs : Ran m damage rests areas prefix answers old mid
  pub stops : StopsAt m damage areas prefix rest mid.device new fault

-- How lines end: all were carried out, with these answers, on this bench and these handlers;
-- or one stopped.
abbrev pub RunEnds : Meanings → (Area → Geometry → List (List ℕ) → Option Damaged)
    → (Area → Geometry → List (List ℕ) → Type 0) → List Area → List Line
    → Moment → Device → List Registered → Result (List Answer) SessionFault → Type 0
RunEnds m damage rests areas lines old new registry (Ok answers) =
    (left : List HandlerKind) × Ran m damage rests areas lines answers old (moment new registry left)
RunEnds m damage rests areas lines old new registry (Err fault) =
    RunStops m damage rests areas lines old new fault

-- How lines change a bench.
use Rattle.std.specs.Prelude.{◌≡◌, ◌⊎◌, ℕ, ◌+◌, ◌*◌, ◌≤◌, ⊤, Bool, true, false, List, [], ◌∷◌, length, replicate, slice_set, Some, None, if◌then◌else◌}
use Rattle.std.specs.FinMap as finite
use Rattle.std.specs.List.{slice_get}
use Rattle.flash_sim.specs.declared.flash.Bank.{Bank}
use Rattle.flash_sim.specs.Device.{Device, bytes_of, counted, loaded, overwritten}
use Rattle.flash_map.specs.declared.area.Area.{Area}
use Rattle.flash_map.specs.Area.{sector_size, value_limit}
use Rattle.flash_map.specs.On.{on}
use Rattle.flash_map.specs.Touches.{SameOutside, Touches}
use Rattle.backend_api.specs.Commands.{Command, applied}
use Rattle.backend_api.specs.Commands.Command.{Del as Delete}
use Rattle.backend_api.specs.Map.{Map}
use Rattle.settings_core.specs.Carrying.{command_of}
use Rattle.migrator.specs.Active.{active_on, selector_damage_on}
use Rattle.migrator.specs.Areas.{is_store, selector_of}
use Rattle.mirror.specs.Mirrored.{IsCutBoth}
use Rattle.mirror.specs.Mounting.{SparesAreas, both_units, other_place, trust_units}
use Rattle.mirror.specs.Room.{Fits}
use Rattle.mirror.specs.Trusted.{BothRead, damage_shown, trusted_on}
use Rattle.script_lines.specs.declared.answer.Answer.TheVariants as settings
use Rattle.script_lines.specs.Plan.Replan.{keeps as keeps_plan}
use Rattle.session.specs.OnMap.{turned_on}
use Rattle.session_table.specs.Bench.{area_at, geometry_in, CountsAndPlan}
use Rattle.mirror_session.specs.declared.line.Line.{Line}
use Rattle.mirror_session.specs.declared.line.Line.TheVariants.{Set, Del, Mount, Blank}
use Rattle.mirror_session.specs.declared.answer.Answer.{Answer}
use Rattle.mirror_session.specs.declared.answer.Answer.TheVariants.{Plain}
use Rattle.mirror_session.specs.Plan.{units_of, is_lost, replan, Allows, plan_after, PlansNoLoss}
use Rattle.mirror_session.specs.Answer.{done}
use Rattle.mirror_session.specs.Bench.{Meanings, Moment, beside_in, labelled, rules_of, state_of}
use Rattle.mirror_session.specs.Standing.{AtRest}
use Rattle.mirror_session.specs.State.{State, IsOn}
use Rattle.mirror_session.specs.Step.{Step}

-- the areas take the line's value
abbrev pub IsServed : ℕ → Line → Type 0
IsServed limit (Set name value) = length value ≤ limit
IsServed limit line = ⊤

-- a mount turns power on first
abbrev pub powered_for : Line → Device → Device
powered_for Mount d = turned_on d
powered_for line d = d

-- an area was replaced
abbrev pub replaces : Line → Answer → Bool
replaces (Blank label) (Plain (settings.Done units)) = true
replaces line answer = false

-- the banks and each byte outside the areas stay, and so many loads were counted
pub record Keeps (areas : List Area) (loads : ℕ) (old new : Device) : Type 0 where
  pub banks : new.banks ≡ old.banks
  pub loaded : new.loads ≡ counted old.loads loads
  pub outside : SameOutside areas old new

-- the counts and the plan after a line
abbrev pub Accounts : Line → Answer → Device → Device → Type 0
Accounts line answer old new =
    CountsAndPlan (units_of answer) (is_lost answer) (Allows old.plan answer)
    (plan_after old.plan line answer) (PlansNoLoss line) old new

-- ---- what a line does to the areas

-- the store area that the selector names, and the other one
abbrev pub store_areas : List Area → Device → List Area
store_areas areas d =
    area_at areas (active_on areas d) ∷ area_at areas (beside_in areas (active_on areas d)) ∷ []

-- the flash is loaded anew, with FF in each byte of an area
abbrev pub blanked : Device → Area → Device
blanked d area =
    let size = sector_size d area in
    let bytes =
    overwritten (bytes_of d area.bank) (area.first * size) (replicate (area.sectors * size) 0xFF) in
    loaded d d.banks (slice_set d.bytes area.bank bytes)

-- the area with the label is blank now; nothing else changed, except that the flash has power
abbrev pub Blanks : List Area → List ℕ → Device → Device → Type 0
Blanks areas label old new =
    (place : ℕ) × (labelled areas label ≡ Some place) × (new ≡ blanked old (area_at areas place))

-- how a line that replaced an area left the bytes
abbrev pub Replaced : List Area → Line → Answer → Device → Device → Type 0
Replaced areas (Blank label) (Plain (settings.Done units)) old new = Blanks areas label old new
Replaced areas line answer old new = ⊤

-- the areas that a line works on: a command on the two store areas, every other line on
-- those of the map
abbrev pub worked_on : List Area → Line → Device → List Area
worked_on areas (Set name value) d = store_areas areas d
worked_on areas (Del name) d = store_areas areas d
worked_on areas line d = areas

-- Power was lost in the command. Neither the named area nor the other one is damaged. Each has the
-- old settings or the new ones; the other one has the new ones only if the named one has.
abbrev pub CutsBoth : Meanings → List Area → Command → Device → Device → Type 0
CutsBoth m areas command old new =
    let named = area_at areas (active_on areas old) in
    let other = area_at areas (beside_in areas (active_on areas old)) in
    let before = on m.contents old named in
    IsCutBoth m.damage m.contents new named other before (applied before command)

abbrev pub Cuts : Meanings → List Area → Line → Answer → Device → Device → Type 0
Cuts m areas (Set name value) (Plain (settings.Lost units chance)) old new =
    CutsBoth m areas (command_of name value) old new
Cuts m areas (Del name) (Plain (settings.Lost units chance)) old new = CutsBoth m areas (Delete name) old new
Cuts m areas line answer old new = ⊤

-- A mount spends at most the units and erases of the selector's mount, one choice, the mounts of
-- both areas, and one repair for the map's names.
abbrev pub MountsWithin : Meanings → List Area → ℕ → Device → Type 0
MountsWithin m areas units old =
    (selector trusted other : Area) → selector_of areas ≡ Some selector
    → slice_get areas (trusted_on areas old) ≡ Some trusted
    → slice_get areas (other_place areas (trusted_on areas old)) ≡ Some other
    → units ≤ trust_units old selector + both_units old trusted other (finite.len (on m.contents old trusted))

-- A whole mount found no damage. One that was cut found none in the selector, and left none there; it
-- found none in the area that is read either, or power was lost in the selector's area.
abbrev pub Finds : Meanings → List Area → Line → Answer → Device → Device → Type 0
Finds m areas Mount (Plain (settings.Done units)) old new =
    (damage_shown m.damage areas old ≡ None) × MountsWithin m areas units old
Finds m areas Mount (Plain (settings.Lost units chance)) old new =
    (selector_damage_on areas old ≡ None)
    × ((on m.damage old (area_at areas (trusted_on areas old)) ≡ None)
    ⊎ ((selector : Area) → selector_of areas ≡ Some selector
    → Touches (selector ∷ []) (turned_on old) new true))
    × MountsWithin m areas units old × (selector_damage_on areas new ≡ None)
Finds m areas line answer old new = ⊤

-- What a mount leaves alone. At rest it answers `ok 0`, turns power on, and does nothing else. Even if
-- it is cut, it does not format the area that is read, and neither repairs nor formats an other area that
-- holds the same settings. A selector that names the area that is read keeps its records; one that names
-- the other area gets exactly one more, unless the mount is cut.
pub record MountSpares (m : Meanings) (areas : List Area) (answer : Answer) (old new : Device) : Type 0 where
  pub rests : AtRest m areas old → (answer ≡ done 0) × (new ≡ turned_on old)
  pub copy : (selector trusted other : Area) → selector_of areas ≡ Some selector
      → slice_get areas (trusted_on areas old) ≡ Some trusted
      → slice_get areas (other_place areas (trusted_on areas old)) ≡ Some other
      → SparesAreas m.damage m.contents m.rests areas (is_lost answer) (turned_on old) new selector trusted
      other

abbrev pub Spares : Meanings → List Area → Line → Answer → Device → Device → Type 0
Spares m areas Mount answer old new = MountSpares m areas answer old new
Spares m areas line answer old new = ⊤

-- settings fit an area of these banks
abbrev pub FitsIn : Meanings → List Bank → Area → Map → Type 0
FitsIn m banks area settings =
    let geometry = geometry_in banks area in
    Fits (m.room area geometry) (m.prices area geometry) area.sectors (value_limit area) settings

-- the settings fit both store areas
abbrev pub FitsBoth : Meanings → List Area → List Bank → Map → Type 0
FitsBoth m areas banks settings =
    (place : ℕ) (area : Area) → slice_get areas place ≡ Some area → is_store area ≡ true
    → FitsIn m banks area settings

-- The settings of the mirror fit both store areas. So do those of the other area, as long as an
-- area may be replaced.
pub record AllFit (m : Meanings) (areas : List Area) (banks : List Bank) (s : State) : Type 0 where
  pub settings : FitsBoth m areas banks s.settings
  pub other : s.is_whole ≡ true → FitsBoth m areas banks s.other

-- this holds at this moment
abbrev pub FitNow : Meanings → List Area → Moment → Type 0
FitNow m areas now = AllFit m areas now.device.banks (state_of m areas now)

-- this holds after a whole mount
abbrev pub FitsThen : Meanings → List Area → Line → Answer → Moment → Type 0
FitsThen m areas Mount (Plain (settings.Done units)) new = FitNow m areas new
FitsThen m areas line answer new = ⊤

-- a map without damage shows none afterwards
abbrev pub StaysSound : Meanings → List Area → Moment → Moment → Type 0
StaysSound m areas old new =
    damage_shown m.damage areas old.device ≡ None → damage_shown m.damage areas new.device ≡ None

-- with power on, neither area is damaged, and both read as the settings
abbrev pub BothNow : Meanings → List Area → Moment → Type 0
BothNow m areas now =
    IsOn (state_of m areas now)
    → BothRead m.damage m.contents areas now.device (state_of m areas now).settings

-- the line changes neither bytes nor counts
abbrev pub is_quiet : Line → Answer → Bool
is_quiet (Set name value) (Plain settings.Off) = true
is_quiet (Set name value) answer = false
is_quiet (Del name) (Plain settings.Off) = true
is_quiet (Del name) answer = false
is_quiet Mount answer = false
is_quiet (Blank label) (Plain (settings.Done units)) = false
is_quiet line answer = true

-- the plan alone may differ
abbrev pub SameButPlan : Device → Device → Type 0
SameButPlan old new = new ≡ record old { plan = new.plan }

-- A line was carried out by the table. Except for the plan and for an area that is replaced, the
-- bench was touched only in the areas that the line works on: a power loss lies in one of them, and
-- without a unit no byte changed.
pub record LineDone (m : Meanings) (areas : List Area) (line : Line) (answer : Answer) (old new : Moment) :
    Type 0 where
  pub step :
      (last : ℕ) → new.device.spent ≤ last
      → Step (rules_of m areas old.device.banks last) line answer (state_of m areas old)
      (state_of m areas new)
  pub accounts : Accounts line answer old.device new.device
  pub keeps : Keeps areas (if replaces line answer then 1 else 0) old.device new.device
  pub touches : replan line answer ≡ keeps_plan
      → Touches (worked_on areas line old.device) (powered_for line old.device) new.device (is_lost answer)
  pub blanks : Replaced areas line answer old.device new.device
  pub quiet : is_quiet line answer ≡ true → SameButPlan old.device new.device
  pub cuts : Cuts m areas line answer old.device new.device
  pub finds : Finds m areas line answer old.device new.device
  pub spares : Spares m areas line answer old.device new.device
  pub fits : FitsThen m areas line answer new
  pub fit : FitNow m areas old → FitNow m areas new
  pub sound : StaysSound m areas old new
  pub both : BothNow m areas old → BothNow m areas new

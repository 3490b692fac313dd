-- What the mounts of a mirror report, by what the lines that were cut left to its areas.
use Rattle.std.specs.Prelude.{◌≡◌, ℕ, ◌+◌, ◌≤◌, ◌==◌, Bool, true, false, List, ◌∷◌, Option, Some, None, if◌then◌else◌}
use Rattle.std.specs.FinMap as finite
use Rattle.std.specs.List.{slice_get}
use Rattle.flash_sim.specs.Device.{Device}
use Rattle.flash_map.specs.declared.area.Area.{Area}
use Rattle.flash_map.specs.declared.area.Geometry.{Geometry}
use Rattle.flash_map.specs.declared.faults.Damaged.{Damaged}
use Rattle.flash_map.specs.Area.{geometry_of}
use Rattle.flash_map.specs.On.{on}
use Rattle.fcb_ring.specs.Standing.{erases_on}
use Rattle.backend_api.specs.Boot.{Owes}
use Rattle.backend_api.specs.Map.{Map}
use Rattle.migrator.specs.Active.{active_on}
use Rattle.migrator.specs.Areas.{is_store, selector_of}
use Rattle.migrator.specs.Choosing.{choice_units}
use Rattle.migrator.specs.Migrating.{fill_units}
use Rattle.mirror.specs.Mounting.{HoldsMap, other_place, other_units}
use Rattle.mirror.specs.Owing.{naming_units}
use Rattle.mirror.specs.Trusted.{trusted_on}
use Rattle.session_table.specs.Follows.{Follows}
use Rattle.mirror_session.specs.declared.line.Line.{Line}
use Rattle.mirror_session.specs.declared.line.Line.TheVariants.{Mount}
use Rattle.mirror_session.specs.declared.answer.Answer.{Answer}
use Rattle.mirror_session.specs.Plan.{units_of}
use Rattle.mirror_session.specs.Bench.{Meanings, Moment, moment}
use Rattle.mirror_session.specs.LineDone.{LineDone}
use Rattle.mirror_session.specs.Running.{is_mounted}

-- each of the two store areas owes at most so many units and erases
abbrev pub BothOwe : (Area → Geometry → List (List ℕ) → ℕ → Type 0) → List Area → Device → ℕ → Type 0
BothOwe owing areas d most =
    (place : ℕ) (area : Area) → slice_get areas place ≡ Some area → is_store area ≡ true
    → Owes owing d area most

-- At most `due` erases are due in the selector, and the area that is read owes at most `most` units and
-- erases. So does each of the two areas, as long as an area may be replaced.
pub record OwesAt (owing : Area → Geometry → List (List ℕ) → ℕ → Type 0) (areas : List Area) (now : Moment)
    (due most : ℕ) : Type 0 where
  pub selector : (area : Area) → selector_of areas ≡ Some area → erases_on now.device area ≤ due
  pub read : (area : Area) → slice_get areas (trusted_on areas now.device) ≡ Some area
      → Owes owing now.device area most
  pub both : now.whole ≡ true → BothOwe owing areas now.device most

-- The mirror owes no more than before, or at most one erase in the selector and so many in its areas.
abbrev pub OwesUpTo : (Area → Geometry → List (List ℕ) → ℕ → Type 0) → ℕ → List Area → Moment → Moment
    → Type 0
OwesUpTo owing limit areas old new =
    (due most : ℕ) → 1 ≤ due → limit ≤ most → OwesAt owing areas old due most
    → OwesAt owing areas new due most

module _ (owing : Area → Geometry → List (List ℕ) → ℕ → Type 0)
    (damage : Area → Geometry → List (List ℕ) → Option Damaged)
    (contents : Area → Geometry → List (List ℕ) → Map) where
  -- What a mount reports is at most what is spent in the selector, and what both areas owe, and one repair
  -- for the names of the settings; no repair, if the other area holds the settings.
  pub record MountReports (old : Device) (units : ℕ) (areas : List Area) (selector trusted other : Area) :
      Type 0 where
    pub owed : (most : ℕ) → Owes owing old trusted most
        → units
        ≤ naming_units areas old selector
        + (most + other_units (geometry_of old other) (finite.len (on contents old trusted)))
    pub both : (most more : ℕ) → Owes owing old trusted most → Owes owing old other more
        → units
        ≤ naming_units areas old selector
        + (most + (more + fill_units (geometry_of old other) (finite.len (on contents old trusted))))
    pub held :
        on damage old trusted ≡ None → HoldsMap damage contents old other (on contents old trusted)
        → (most more : ℕ) → Owes owing old trusted most → Owes owing old other more
        → units ≤ naming_units areas old selector + (most + more)

  -- the same, of the areas of a map
  abbrev pub ReportsOwed : List Area → Device → ℕ → Type 0
  ReportsOwed areas old units =
      (selector trusted other : Area) → selector_of areas ≡ Some selector
      → slice_get areas (trusted_on areas old) ≡ Some trusted
      → slice_get areas (other_place areas (trusted_on areas old)) ≡ Some other
      → MountReports old units areas selector trusted other

-- the units and erases of a choice, if the selector names another area than the one that is read
abbrev pub renaming_units : List Area → Device → Area → ℕ
renaming_units areas d selector =
    if active_on areas d == trusted_on areas d then 0 else choice_units d selector

-- whether the last mount was whole, after this line
abbrev pub mounted_by : Line → Answer → Bool → Bool
mounted_by Mount answer was = is_mounted Mount answer
mounted_by line answer was = was

-- the same after these lines
abbrev pub mounted_last : Bool → List Line → List Answer → Bool
mounted_last was (line ∷ lines) (answer ∷ answers) = mounted_last (mounted_by line answer was) lines answers
mounted_last was lines answers = was

-- A line was carried out. If it is a mount, it reports at most `due` erases of the selector, the units of
-- its new name, `most`, and the opening of the other area, which may be mounted and then filled with as
-- many settings as there were. If both areas owe at most `most` before it, the mount of the other area is
-- within `most` too. After a whole mount both do, and then until a mount is cut: also after a command that
-- was cut, and after an area was replaced.
pub record BootDone (owing : Area → Geometry → List (List ℕ) → ℕ → Type 0) (m : Meanings) (areas : List Area)
    (due most : ℕ) (line : Line) (answer : Answer) (old new : Moment) : Type 0 where
  pub done : LineDone m areas line answer old new
  pub boot : line ≡ Mount → (selector trusted other : Area) → selector_of areas ≡ Some selector
      → slice_get areas (trusted_on areas old.device) ≡ Some trusted
      → slice_get areas (other_place areas (trusted_on areas old.device)) ≡ Some other
      → units_of answer
      ≤ due + renaming_units areas old.device selector
      + (most + other_units (geometry_of old.device other) (finite.len (on m.contents old.device trusted)))
  pub behind : line ≡ Mount → BothOwe owing areas old.device most → (selector trusted other : Area)
      → selector_of areas ≡ Some selector → slice_get areas (trusted_on areas old.device) ≡ Some trusted
      → slice_get areas (other_place areas (trusted_on areas old.device)) ≡ Some other
      → units_of answer
      ≤ due + renaming_units areas old.device selector
      + (most
      + (most + fill_units (geometry_of old.device other) (finite.len (on m.contents old.device trusted))))
  pub both : (was : Bool) → (was ≡ true → BothOwe owing areas old.device most)
      → mounted_by line answer was ≡ true → BothOwe owing areas new.device most

-- Lines were carried out one after another, and each mount among them reports no more than that. If the
-- last of these mounts was whole, both areas owe at most `most` at the end.
pub record BootsWithin (owing : Area → Geometry → List (List ℕ) → ℕ → Type 0) (m : Meanings)
    (areas : List Area) (due most : ℕ) (lines : List Line) (answers : List Answer) (old : Moment)
    (new : Device) : Type 0 where
  pub whole : Bool
  pub runs : Follows (BootDone owing m areas due most) lines answers old (moment new whole)
  pub both : mounted_last false lines answers ≡ true → BothOwe owing areas new most

-- What a mount of a map spends, by what the lines that were cut left to it.
use Rattle.std.specs.Prelude.{◌≡◌, ℕ, ◌+◌, ◌≤◌, max, ⊤, List, [], ◌∷◌, length, Option, None, if◌then◌else◌}
use Rattle.flash_sim.specs.Device.{Device}
use Rattle.flash_sim.specs.declared.flash.Bank.{Bank}
use Rattle.flash_map.specs.declared.area.Area.{Area}
use Rattle.flash_map.specs.declared.area.Geometry.{Geometry}
use Rattle.flash_map.specs.declared.faults.Damaged.{Damaged}
use Rattle.flash_map.specs.Spending.{SpendsAtMost}
use Rattle.backend_api.specs.Boot.{Owes}
use Rattle.migrator.specs.Areas.{is_store}
use Rattle.script_lines.specs.declared.line.Line.{Line}
use Rattle.script_lines.specs.declared.line.Line.TheVariants.{Mount}
use Rattle.script_lines.specs.declared.answer.Answer.{Answer}
use Rattle.script_lines.specs.Plan.{units_of}
use Rattle.session_table.specs.Bench.{geometry_in}
use Rattle.session.specs.OnMap.{active_area, damage_in, selector_erases, selectors}

-- The map owes at most so many units and erases: those that its active area owes, and the erases that
-- are due in its selector.
pub record OwesOnMap (owing : Area → Geometry → List (List ℕ) → ℕ → Type 0) (areas : List Area) (d : Device)
    (most : ℕ) : Type 0 where
  pub units : ℕ
  pub owed : Owes owing d (active_area areas d) units
  pub within : selector_erases areas d + units ≤ most

-- the most that one of these areas owes after a command on it was cut
abbrev pub greatest_boot : (Area → Geometry → ℕ) → List Bank → List Area → ℕ
greatest_boot boot banks [] = 0
greatest_boot boot banks (area ∷ areas) =
    max (if is_store area then boot area (geometry_in banks area) else 0) (greatest_boot boot banks areas)

-- The most that a line that was cut leaves to the next mount: what its area owes then; or one erase in
-- the selector, if the map has one, but never both.
abbrev pub map_boot : (Area → Geometry → ℕ) → List Bank → List Area → ℕ
map_boot boot banks areas = max (greatest_boot boot banks areas) (length (selectors areas))

-- A mount spends at most what the map owes. It leaves no more to the next one.
pub record MapUnits (owing : Area → Geometry → List (List ℕ) → ℕ → Type 0) (areas : List Area)
    (old new : Device) : Type 0 where
  pub owed : (most : ℕ) → OwesOnMap owing areas old most → SpendsAtMost old new most
  pub left : (most : ℕ) → OwesOnMap owing areas old most → OwesOnMap owing areas new most

-- the answer reports at most as many units and erases as the map owed
abbrev pub ReportsOwed : (Area → Geometry → List (List ℕ) → ℕ → Type 0) → List Area → Device → Answer
    → Type 0
ReportsOwed owing areas old answer = (most : ℕ) → OwesOnMap owing areas old most → units_of answer ≤ most

-- The map owes no more than before, or at most so many.
abbrev pub OwesUpTo : (Area → Geometry → List (List ℕ) → ℕ → Type 0) → ℕ → List Area → Device → Device
    → Type 0
OwesUpTo owing limit areas old new =
    (most : ℕ) → limit ≤ most → OwesOnMap owing areas old most → OwesOnMap owing areas new most

-- the map has no damage if it had none, and owes no more than before, or at most so many
pub record LeavesMap (damage : Area → Geometry → List (List ℕ) → Option Damaged)
    (owing : Area → Geometry → List (List ℕ) → ℕ → Type 0) (limit : ℕ) (areas : List Area)
    (old new : Device) : Type 0 where
  pub undamaged : damage_in damage areas old ≡ None → damage_in damage areas new ≡ None
  pub owed : OwesUpTo owing limit areas old new

-- each answer to a mount reports at most so many units and erases
abbrev pub MountsWithin : ℕ → List Line → List Answer → Type 0
MountsWithin most [] [] = ⊤
MountsWithin most (line ∷ lines) (answer ∷ answers) =
    (line ≡ Mount → units_of answer ≤ most) × MountsWithin most lines answers
MountsWithin most [] (answer ∷ answers) = ⊥
MountsWithin most (line ∷ lines) [] = ⊥

-- What a mount of a log spends, by what the lines that were cut left to it.
use Rattle.std.specs.Prelude.{◌≡◌, ℕ, ◌≤◌, ⊤, List, [], ◌∷◌}
use Rattle.flash_sim.specs.Device.{Device}
use Rattle.flash_map.specs.declared.area.Area.{Area}
use Rattle.fcb_ring.specs.Standing.{erases_on}
use Rattle.log_session.specs.declared.line.Line.{Line}
use Rattle.log_session.specs.declared.line.Line.TheVariants.{Mount}
use Rattle.log_session.specs.declared.answer.Answer.{Answer}
use Rattle.log_session.specs.Plan.{units_of}

-- A mount of the area spends at most so many units and erases: the erases that are due.
abbrev pub OwesOn : Device → Area → ℕ → Type 0
OwesOn d area most = erases_on d area ≤ most

-- the most that a line that was cut leaves to the next mount: one erase
abbrev pub boot_units : ℕ
boot_units = 1

-- the answer reports at most as many units and erases as the area owed
abbrev pub ReportsOwed : Area → Device → Answer → Type 0
ReportsOwed area old answer = (most : ℕ) → OwesOn old area most → units_of answer ≤ most

-- The area owes no more than before, or at most so many.
abbrev pub OwesUpTo : ℕ → Area → Device → Device → Type 0
OwesUpTo limit area old new = (most : ℕ) → limit ≤ most → OwesOn old area most → OwesOn new area most

-- each answer to a mount reports at most so many units and erases
abbrev pub MountsWithin : ℕ → List Line → List Answer → Type 0
MountsWithin most [] [] = ⊤
MountsWithin most (line ∷ lines) (answer ∷ answers) =
    (line ≡ Mount → units_of answer ≤ most) × MountsWithin most lines answers
MountsWithin most [] (answer ∷ answers) = ⊥
MountsWithin most (line ∷ lines) [] = ⊥

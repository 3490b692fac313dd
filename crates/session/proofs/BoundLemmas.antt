-- What lines spend at most.
use Rattle.std.proofs.Common.{◌≡◌, ℕ, ◌-◌, ◌≤◌, List, arith}
use Rattle.flash_sim.specs.Device.{Device}
use Rattle.flash_map.specs.declared.area.Area.{Area}
use Rattle.flash_map.specs.Spending.{SpendsAtMost}
use Rattle.script_lines.specs.declared.line.Line.{Line}
use Rattle.script_lines.specs.declared.line.Line.TheVariants.{Save, Migrate}
use Rattle.script_lines.specs.declared.answer.Answer.{Answer}
use Rattle.script_lines.specs.Plan.{units_of}
use Rattle.session_table.specs.Bench.{Meanings, Moment}
use Rattle.session.specs.OnMap.{KeepsWithin, save_bound, move_bound}

pub spent_most : (old new : Device) (most units : ℕ) → units ≡ new.spent - old.spent → SpendsAtMost old new most → units ≤ most
spent_most old new most units is spends = let few = spends.1 in let spent = spends.2 in omega arith

none_most : (units most : ℕ) → units ≡ 0 → units ≤ most
none_most units most is = omega arith

-- a line that spends nothing
pub none_within : (m : Meanings) (areas : List Area) (line : Line) (answer : Answer) (old : Moment) → units_of answer ≡ 0 → KeepsWithin m areas line answer old
none_within m areas (Save subtree) answer old none = none_most (units_of answer) (save_bound m areas subtree old) none
none_within m areas Migrate answer old none = none_most (units_of answer) (move_bound m areas old.device) none
none_within m areas line answer old none = tt

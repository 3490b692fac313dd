-- What a program that calls this crate wants: how long a value may be.
use Rattle.std.proofs.Common.{ℕ, ◌≤◌, Bool, true, false, cond, arith}
use Rattle.std.specs.Prelude.{◌==◌}
use Rattle.flash_map.specs.Area.{value_limit}
use Rattle.flash_map.specs.declared.area.Area.{Area}
use Rattle.flash_map.specs.declared.area.TheConstants.{VALUE_LIMIT, LONG_VALUE_LIMIT}

-- each partition takes values of 256 bytes
pub short_value : (n : ℕ) (area : Area) → n ≤ 256 → n ≤ value_limit area
short_value n area short = at (area.version == 2)
  where
    at : (b : Bool) → n ≤ cond b LONG_VALUE_LIMIT VALUE_LIMIT
    at true = omega arith
    at false = omega arith

-- What the steps in a sector spend at most, whatever its bytes.
use Rattle.std.specs.Prelude.{ℕ, ◌+◌, ◌/◌, ◌≤◌, List, Option}
use Rattle.flash_sim.specs.declared.flash.Kind.{Kind}
use Rattle.zms_cycle.specs.Changes.{guard_units, emptying, closing_most}

-- A guard, an emptying, and a close with so much room.
pub record StepsAreBounded : Type 0 where
  pub guards : (kind : Kind) (cycle : Option ℕ) (slot : ℕ) (b : List ℕ) → guard_units kind cycle slot b ≤ 1
  pub empties : (kind : Kind) (b : List ℕ) → 1 ≤ emptying kind b
  pub empties_most : (kind : Kind) (b : List ℕ) → emptying kind b ≤ 3
  pub closes : (kind : Kind) (room : ℕ) → 1 ≤ closing_most kind room
  pub closes_most : (kind : Kind) (room : ℕ) → closing_most kind room ≤ room / 16 + 1

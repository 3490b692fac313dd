-- The two sides of a mirror.
use Rattle.std.proofs.Common.{◌≡◌, ℕ, Bool, true, false, cond}
use Rattle.std.specs.Prelude.{nat_lt}
use Rattle.flash_map.specs.declared.area.Area.{Area}
use Rattle.mirror.specs.declared.sides.Side.{Side}
use Rattle.mirror.specs.Mirrored.{higher, lower}

-- what holds of both areas holds of the one that comes first, and of the other one
either-of : (P : Area → Type 0) (a b : Area) (t : Bool) → P a → P b → P (cond t a b)
either-of P a b true here there = here
either-of P a b false here there = there

pub of-lower : {S : Type 0} (P : Area → Type 0) (trusted other : Side S) → P trusted.area → P other.area → P (lower trusted other)
of-lower P trusted other here there = either-of P trusted.area other.area (nat_lt trusted.place other.place) here there

pub of-higher : {S : Type 0} (P : Area → Type 0) (trusted other : Side S) → P trusted.area → P other.area → P (higher trusted other)
of-higher P trusted other here there = either-of P other.area trusted.area (nat_lt trusted.place other.place) there here

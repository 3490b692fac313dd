-- What bytes of a ZMS value take up at most.
use Rattle.std.proofs.Common.{ℕ, ◌+◌, ◌≤◌, Bool, true, false, cond, inr, refl, arith}
use Rattle.std.specs.Prelude.{nat_le}
use Rattle.flash_map.specs.Units.{padded}
use Rattle.flash_map.proofs.Rounding.{padding}
use Rattle.zms_cycle.specs.Sector.{data_len}

pub data-small : (len : ℕ) → data_len len ≤ len + 15
unfolding data_len
data-small len = go (nat_le len 8)
  where
    go : (short : Bool) → cond short 0 (padded 16 len) ≤ len + 15
    go true = omega arith
    go false = (padding 16 (inr (inr refl))).no_more len

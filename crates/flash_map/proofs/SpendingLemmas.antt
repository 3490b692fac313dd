-- Units of one call after another.
use Rattle.std.proofs.Common.{◌≡◌, inl, inr, ℕ, ◌+◌, ◌-◌, ◌/◌, ◌%◌, ◌≤◌, List, length, ap, subst, ◌∙◌, arith}
use Rattle.flash_sim.specs.Device.{Device, counted, Programs, FailsToProgram, units_in}
use Rattle.flash_sim.specs.declared.flash.At.{At}
use Rattle.flash_sim.specs.Bank.{bank_at}
use Rattle.flash_sim.specs.declared.flash.Bank.{Bank}
use Rattle.flash_map.specs.declared.area.Area.{Area}
use Rattle.flash_map.specs.Area.{unit_of}
use Rattle.flash_map.specs.Spending.{Spends, SpendsAtMost}
use Rattle.flash_map.specs.Units.{IsUnit}
use Rattle.flash_map.proofs.Plans.{counted_counted}
use Rattle.flash_map.proofs.Rounding.{by_unit}

pub spends_none : (d : Device) → Spends d d 0
spends_none d = omega arith

pub spends_then : (a b c : Device) (first second : ℕ) → Spends a b first → Spends b c second → Spends a c (first + second)
spends_then a b c first second one two = two ∙ ap (λ (n : ℕ). counted n second) one ∙ counted_counted a.spent first second

pub spends_most : (old new : Device) (units : ℕ) → Spends old new units → SpendsAtMost old new units
spends_most old new units is = (units, omega arith, is)

pub spends_then_most : (a b c : Device) (first most : ℕ) → Spends a b first → SpendsAtMost b c most → SpendsAtMost a c (first + most)
spends_then_most a b c first most one two = (first + two.0, omega (arith, two.1), spends_then a b c first two.0 one two.2)

pub most_weaker : (old new : Device) (most more : ℕ) → most ≤ more → SpendsAtMost old new most → SpendsAtMost old new more
most_weaker old new most more le is = (is.0, omega (arith, is.1), is.2)

pub spends-programs : (old new : Device) (at : At) (bytes : List ℕ) → Programs old new at bytes → Spends old new (units_in old at.bank bytes)
spends-programs old new at bytes puts = ap (λ (d : Device). d.spent) puts.is

pub most-fails : (old new : Device) (at : At) (bytes : List ℕ) → FailsToProgram old new at bytes → SpendsAtMost old new (units_in old at.bank bytes)
most-fails old new at bytes (inl off) = let same : new.spent ≡ old.spent = ap (λ (d : Device). d.spent) off.is in (0, omega arith, omega arith)
most-fails old new at bytes (inr (done, below, short)) = (done, omega arith, ap (λ (d : Device). d.spent) short.is)

-- units of a part, and of what follows it
pub units_sum : (unit m n : ℕ) → IsUnit unit → m % unit ≡ 0 → m ≤ n → m / unit + (n - m) / unit ≡ n / unit
units_sum unit m n h whole le = by_unit (λ unit. (m n : ℕ) → m % unit ≡ 0 → m ≤ n → m / unit + (n - m) / unit ≡ n / unit)
    (λ m n whole le. omega arith) (λ m n whole le. omega arith) (λ m n whole le. omega arith) unit h m n whole le

pub units_le : (unit m n : ℕ) → IsUnit unit → m ≤ n → m / unit ≤ n / unit
units_le unit m n h le = by_unit (λ unit. (m n : ℕ) → m ≤ n → m / unit ≤ n / unit) (λ m n le. omega arith) (λ m n le. omega arith) (λ m n le. omega arith) unit h m n le

-- One piece more. The bytes before it were `done` of them, and it goes to `end`.
module _ (a b c : Device) (area : Area) (is-unit : IsUnit (unit_of a area)) (done end : ℕ) (piece : List ℕ) (long : length piece ≡ end - done) (whole : done % unit_of a area ≡ 0) (before : done ≤ end) (banks : b.banks ≡ a.banks) (so_far : Spends a b (done / unit_of a area)) where
  same_unit : unit_of b area ≡ unit_of a area
  same_unit = ap (λ (l : List Bank). (bank_at l area.bank).unit) banks

  piece_units : done / unit_of a area + length piece / unit_of b area ≡ end / unit_of a area
  piece_units =
      ap (λ (unit : ℕ). done / unit_of a area + length piece / unit) same_unit ∙ ap (λ (n : ℕ). done / unit_of a area + n / unit_of a area) long
      ∙ units_sum (unit_of a area) done end is-unit whole before

  pub piece_spends : Spends b c (length piece / unit_of b area) → Spends a c (end / unit_of a area)
  piece_spends spent = subst (λ (units : ℕ). Spends a c units) piece_units (spends_then a b c (done / unit_of a area) (length piece / unit_of b area) so_far spent)

  pub piece_at_most : (all : ℕ) → end ≤ all → SpendsAtMost b c (length piece / unit_of b area) → SpendsAtMost a c (all / unit_of a area)
  piece_at_most all within spent =
      most_weaker a c (end / unit_of a area) (all / unit_of a area) (units_le (unit_of a area) end all is-unit within)
      (subst (λ (units : ℕ). SpendsAtMost a c units) piece_units (spends_then_most a b c (done / unit_of a area) (length piece / unit_of b area) so_far spent))

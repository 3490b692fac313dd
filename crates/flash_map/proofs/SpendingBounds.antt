-- What calls in a row spend, where it is known within bounds.
use Rattle.std.proofs.Common.{◌≡◌, ℕ, ◌+◌, ◌/◌, ◌≤◌, inl, inr, List, ◌∙◌, ap, arith}
use Rattle.std.proofs.Math.Nat.{zero-div}
use Rattle.flash_sim.specs.Device.{Device, counted, Programs, FailsToProgram, units_in}
use Rattle.flash_sim.specs.declared.flash.At.{At}
use Rattle.flash_map.specs.Spending.{Spends, SpendsAtMost, SpendsBetween}
use Rattle.flash_map.proofs.Plans.{counted_counted}

pub between_none : (d : Device) → SpendsBetween d d 0 0
between_none d = record { units = 0; at_least = omega arith; at_most = omega arith; spent = omega arith }

-- a call, and then another
pub between_then : {a b c : Device} {least most more_least more_most : ℕ} → SpendsBetween a b least most → SpendsBetween b c more_least more_most → SpendsBetween a c (least + more_least) (most + more_most)
between_then {a} first second = record {
  units = first.units + second.units;
  at_least = omega (arith, first.at_least, second.at_least);
  at_most = omega (arith, first.at_most, second.at_most);
  spent = second.spent ∙ ap (λ (n : ℕ). counted n second.units) first.spent ∙ counted_counted a.spent first.units second.units;
}

-- bounds that are further apart
pub between_within : {old new : Device} {least most : ℕ} → SpendsBetween old new least most → (lower upper : ℕ) → lower ≤ least → most ≤ upper → SpendsBetween old new lower upper
between_within s lower upper low high = record { units = s.units; at_least = omega (arith, s.at_least); at_most = omega (arith, s.at_most); spent = s.spent }

pub between_program : (old new : Device) (at : At) (bytes : List ℕ) → Programs old new at bytes → SpendsBetween old new (units_in old at.bank bytes) (units_in old at.bank bytes)
between_program old new at bytes programs = record { units = units_in old at.bank bytes; at_least = omega arith; at_most = omega arith; spent = ap (λ (d : Device). d.spent) programs.is }

pub between_part : (old new : Device) (at : At) (bytes : List ℕ) → FailsToProgram old new at bytes → SpendsBetween old new 0 (units_in old at.bank bytes)
between_part old new at bytes fails = elim fails [
  | inl off ↦ record { units = 0; at_least = omega arith; at_most = omega arith; spent = let same : new.spent ≡ old.spent = ap (λ (d : Device). d.spent) off.is in omega arith }
  | inr cuts ↦ record { units = cuts.0; at_least = omega arith; at_most = omega (arith, cuts.1); spent = ap (λ (d : Device). d.spent) cuts.2.is }
]

-- no bytes are no units
pub between_nothing : (d : Device) (unit : ℕ) → SpendsBetween d d (0 / unit) (0 / unit)
between_nothing d unit = let none : 0 / unit ≡ 0 = zero-div unit in between_within (between_none d) (0 / unit) (0 / unit) (omega arith) (omega arith)

-- just so many
pub between_exact : (old new : Device) (units : ℕ) → Spends old new units → SpendsBetween old new units units
between_exact old new units spends = record { units = units; at_least = omega arith; at_most = omega arith; spent = spends }

pub between_most : (old new : Device) (most : ℕ) → SpendsAtMost old new most → SpendsBetween old new 0 most
between_most old new most some = record { units = some.0; at_least = omega arith; at_most = some.1; spent = some.2 }

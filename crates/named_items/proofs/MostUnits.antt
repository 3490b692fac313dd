-- The most units of a write or a delete, by the geometry of the area.
use Rattle.std.proofs.Common.{◌≡◌, ℕ, ◌+◌, ◌*◌, ◌/◌, ◌<◌, ◌≤◌, ap, ◌∙◌, arith}
use Rattle.std.proofs.Math.Nat.{mul-le-mul_left, mul-le-mul_right, div-mul-le_self}
use Rattle.std.proofs.lemmas.Nat.{le-div}
use Rattle.flash_sim.specs.Device.{Device, counted}
use Rattle.flash_map.specs.Spending.{SpendsAtMost, SpendsBetween}

-- rounds of at most so many units, and then some more
pub rounds-within : (sectors units round rounds last : ℕ) → rounds + 1 ≤ sectors → round ≤ 3 * (units + 3) → last ≤ 3 * (units + 3) → rounds * round + last ≤ 3 * sectors * (units + 3)
rounds-within sectors units round rounds last few short small =
    let one : rounds * round ≤ rounds * (3 * (units + 3)) = mul-le-mul_left rounds short in
    let all : (rounds + 1) * (3 * (units + 3)) ≤ sectors * (3 * (units + 3)) = mul-le-mul_right (3 * (units + 3)) few in
    let open_up : (rounds + 1) * (3 * (units + 3)) ≡ rounds * (3 * (units + 3)) + 3 * (units + 3) = step rounds (3 * (units + 3)) in
    let whole : sectors * (3 * (units + 3)) ≡ 3 * sectors * (units + 3) = regroup sectors (units + 3) in
    omega arith
  where
    step : (a b : ℕ) → (a + 1) * b ≡ a * b + b
    step a b = grind arith

    regroup : (a b : ℕ) → a * (3 * b) ≡ 3 * a * b
    regroup a b = grind arith

-- a call that spends nothing
pub spends-none : (d e : Device) (most : ℕ) → e ≡ d → SpendsAtMost d e most
spends-none d e most same = (0, omega arith, ap (λ (x : Device). x.spent) same ∙ none d.spent)
  where
    none : (n : ℕ) → n ≡ counted n 0
    none n = omega arith

pub spends-fewer : (d e : Device) (some most : ℕ) → some ≤ most → SpendsAtMost d e some → SpendsAtMost d e most
spends-fewer d e some most less spent = let within : spent.0 ≤ some = spent.1 in (spent.0, omega arith, spent.2)

pub between-most : (d e : Device) (least some most : ℕ) → some ≤ most → SpendsBetween d e least some → SpendsAtMost d e most
between-most d e least some most less spent = let within : spent.units ≤ some = spent.at_most in (spent.units, omega arith, spent.spent)

-- what is no longer than a sector has no more units
pub units-within : (cost size unit : ℕ) → 0 < unit → cost ≤ size → cost / unit ≤ size / unit
units-within cost size unit some le =
    let back : cost / unit * unit ≤ cost = div-mul-le_self cost unit in
    le-div (cost / unit) size unit some (omega arith)

pub between-same : (d e : Device) (least most : ℕ) → SpendsBetween d e least most → SpendsAtMost d e most
between-same d e least most spent = (spent.units, spent.at_most, spent.spent)

-- The counts and the plan of a line, from what its call on areas did.
use Rattle.std.proofs.Common.{◌≡◌, ℕ, ◌+◌, ◌-◌, ◌^◌, ◌<◌, ◌≤◌, Bool, true, false, cond, List, sym, ap, ◌∙◌, refl, subst, arith, MatchBool}
use Rattle.std.proofs.lemmas.Bool.{false≢true}
use Rattle.flash_sim.specs.Device.{Device, Plan, Lasts, LostAfter, counted, lowered, dropped}
use Rattle.flash_map.specs.declared.area.Area.{Area}
use Rattle.flash_map.specs.Touches.{Touches}
use Rattle.session_table.specs.Bench.{CountsAndPlan}

spent_is : (spent spent' more : ℕ) → spent' ≡ counted spent more → spent + (spent' - spent) ≡ spent'
spent_is spent spent' more is = omega arith

-- as long as the count is not at its end, it gives the units
pub units_are : (spent spent' more : ℕ) → spent' ≡ counted spent more → spent' < 2 ^ 64 - 1 → more ≡ spent' - spent
units_are spent spent' more is below = omega arith

-- and else no more than they are
pub units_most : (spent spent' more : ℕ) → spent' ≡ counted spent more → spent' - spent ≤ more
units_most spent spent' more is = omega arith

pub at_most : (a b c : ℕ) → a ≤ b → b ≤ c → a ≤ c
at_most a b c one two = omega arith

pub counted_none : (count : ℕ) → count ≡ counted count 0
counted_none count = omega arith

-- what the plan allows for so many units
abbrev pub allowed : Plan → ℕ → Bool → Type 0
allowed plan units was_lost = MatchBool was_lost (LostAfter plan units) (Lasts plan units)

-- the plan behind so many units
abbrev pub behind : Plan → ℕ → Bool → Plan
behind plan units was_lost = cond was_lost (dropped plan) (lowered plan units)

-- power lasted, or was lost while it was on
pub counts : (areas : List Area) (units : ℕ) (was_lost : Bool) (planned : Plan) (plans_none : Type 0) (old new : Device)
    → Touches areas old new was_lost → (was_lost ≡ true → old.is_on ≡ true) → units ≡ new.spent - old.spent → planned ≡ behind old.plan units was_lost
    → CountsAndPlan units was_lost (allowed old.plan units was_lost) planned plans_none old new
counts areas units false planned plans_none old new touches on is plan = record {
  spent = ap (λ (n : ℕ). old.spent + n) is ∙ spent_is old.spent new.spent touches.units touches.spent;
  losses = touches.ends.losses ∙ counted_none old.losses;
  allows = λ below. subst (λ (n : ℕ). Lasts old.plan n) (units_are old.spent new.spent touches.units touches.spent below ∙ sym is) touches.ends.lasts;
  plan = λ below. touches.ends.plan ∙ ap (lowered old.plan) (units_are old.spent new.spent touches.units touches.spent below ∙ sym is) ∙ sym plan;
  unplanned = λ free never. (touches.ends.plan ∙ ap (λ (plan : Plan). lowered plan touches.units) never, touches.ends.losses);
}
counts areas units true planned plans_none old new touches on is plan =
    let cut = touches.ends (on refl) in
    record {
      spent = ap (λ (n : ℕ). old.spent + n) is ∙ spent_is old.spent new.spent touches.units touches.spent;
      losses = cut.losses;
      allows = λ below. subst (λ (n : ℕ). LostAfter old.plan n) (units_are old.spent new.spent touches.units touches.spent below ∙ sym is) cut.lost;
      plan = λ below. cut.plan ∙ sym plan;
      unplanned = λ free never. absurd (subst (λ (plan : Plan). LostAfter plan touches.units) never cut.lost);
    }

-- for a call in which power lasted, nothing is to be known of the power before
pub lasted : (was_lost : Bool) (old : Device) → was_lost ≡ false → was_lost ≡ true → old.is_on ≡ true
lasted was_lost old lasts lost = absurd (false≢true (sym lasts ∙ lost))

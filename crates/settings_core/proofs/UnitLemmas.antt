-- What commands that are due spend at most, one after another.
use Rattle.std.proofs.Common.{◌≡◌, ℕ, ◌+◌, ◌*◌, false, List, [], ◌∷◌, ◌++◌, length, length-append, sym, ap, subst, ◌∙◌, arith}
use Rattle.flash_sim.specs.Device.{Device}
use Rattle.flash_map.specs.declared.area.Geometry.{Geometry}
use Rattle.flash_map.specs.Spending.{SpendsAtMost}
use Rattle.flash_map.proofs.SpendingLemmas.{most_weaker, spends_then}
use Rattle.backend_api.specs.Commands.{Command, all_applied}
use Rattle.backend_api.specs.Map.{Map}
use Rattle.backend_api.specs.Room.{command_units}
use Rattle.settings_core.specs.Carrying.{is_idle, due, due_units}
use Rattle.settings_core.proofs.CarryLemmas.{due_one, due-append}

-- one that is due
pub one_due : (old new : Device) (g : Geometry) (settings : Map) (c : Command) → is_idle settings c ≡ false → SpendsAtMost old new (command_units g) → SpendsAtMost old new (due_units g settings (c ∷ []))
one_due old new g settings c isnt spent =
    subst (λ (l : List Command). SpendsAtMost old new (length l * command_units g)) (sym (due_one settings c isnt)) (most_weaker old new (command_units g) (1 * command_units g) (omega arith) spent)

both : (first second most : ℕ) → first * most + second * most ≡ (first + second) * most
both first second most = grind arith

units_append : (g : Geometry) (settings : Map) (xs ys : List Command) → due_units g settings xs + due_units g (all_applied settings xs) ys ≡ due_units g settings (xs ++ ys)
units_append g settings xs ys =
    both (length (due settings xs)) (length (due (all_applied settings xs) ys)) (command_units g)
    ∙ ap (λ (n : ℕ). n * command_units g) (sym (length-append (due settings xs) (due (all_applied settings xs) ys)))
    ∙ ap (λ (l : List Command). length l * command_units g) (sym (due-append settings xs ys))

-- some, and then others
pub due_then : (old mid new : Device) (g then_g : Geometry) (settings now : Map) (xs ys : List Command) → then_g ≡ g → now ≡ all_applied settings xs → SpendsAtMost old mid (due_units g settings xs) → SpendsAtMost mid new (due_units then_g now ys)
    → SpendsAtMost old new (due_units g settings (xs ++ ys))
due_then old mid new g then_g settings now xs ys geometry now_is first second =
    let more : SpendsAtMost mid new (due_units g (all_applied settings xs) ys) =
    subst (λ (m : Map). SpendsAtMost mid new (due_units g m ys)) now_is (subst (λ (k : Geometry). SpendsAtMost mid new (due_units k now ys)) geometry second) in
    let low = first.1 in
    let high = more.1 in
    subst (λ (n : ℕ). SpendsAtMost old new n) (units_append g settings xs ys) (first.0 + more.0, omega arith, spends_then old mid new first.0 more.0 first.2 more.2)

-- those behind them are not carried out
pub due_more : (old new : Device) (g : Geometry) (settings : Map) (xs ys : List Command) → SpendsAtMost old new (due_units g settings xs) → SpendsAtMost old new (due_units g settings (xs ++ ys))
due_more old new g settings xs ys spent =
    let all = units_append g settings xs ys in
    most_weaker old new (due_units g settings xs) (due_units g settings (xs ++ ys)) (omega arith) spent

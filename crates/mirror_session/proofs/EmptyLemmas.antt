-- To set the empty value is to delete.
use Rattle.std.proofs.Common.{◌≡◌, ◌∙◌, ℕ, List, refl, sym, subst}
use Rattle.flash_sim.specs.Device.{Device}
use Rattle.flash_map.specs.declared.area.Area.{Area}
use Rattle.backend_api.specs.Commands.{Command}
use Rattle.backend_api.specs.Commands.Command.{Del as Delete}
use Rattle.settings_core.specs.Carrying.{command_of}
use Rattle.script_lines.specs.declared.answer.Answer.TheVariants as settings
use Rattle.mirror_session.specs.declared.line.Line.TheVariants.{Set, Del}
use Rattle.mirror_session.specs.declared.answer.Answer.{Answer}
use Rattle.mirror_session.specs.declared.answer.Answer.TheVariants.{Plain}
use Rattle.mirror_session.specs.Bench.{Meanings, Moment, rules_of, state_of}
use Rattle.mirror_session.specs.LineDone.{Cuts, CutsBoth, LineDone, is_quiet}
use Rattle.mirror_session.specs.State.{Rules, State}
use Rattle.mirror_session.specs.Step.{Changes, Step}

module _ (m : Meanings) (areas : List Area) (name value : List ℕ) (is_delete : command_of name value ≡ Delete name) where
  as_set_step : (r : Rules) (answer : Answer) (old new : State) → Step r (Del name) answer old new → Step r (Set name value) answer old new
  as_set_step r (Plain settings.Off) old new is = is
  as_set_step r (Plain answer) old new is = (is.0, subst (λ (c : Command). Changes r c answer old new) (sym is_delete) is.1)
  as_set_step r answer old new none = absurd none

  as_set_cuts : (answer : Answer) (old new : Device) → Cuts m areas (Del name) answer old new → Cuts m areas (Set name value) answer old new
  as_set_cuts (Plain (settings.Lost units chance)) old new is = subst (λ (c : Command). CutsBoth m areas c old new) (sym is_delete) is
  as_set_cuts answer old new is = tt

  as_quiet : (answer : Answer) → is_quiet (Set name value) answer ≡ is_quiet (Del name) answer
  as_quiet (Plain settings.Off) = refl
  as_quiet answer = refl

  pub as_set_line : (answer : Answer) (old new : Moment) → LineDone m areas (Del name) answer old new → LineDone m areas (Set name value) answer old new
  as_set_line answer old new is = record {
    step = λ last within. as_set_step (rules_of m areas old.device.banks last) answer (state_of m areas old) (state_of m areas new) (is.step last within);
    accounts = record { spent = is.accounts.spent; losses = is.accounts.losses; allows = is.accounts.allows; plan = is.accounts.plan; unplanned = is.accounts.unplanned };
    keeps = is.keeps;
    touches = is.touches;
    blanks = tt;
    quiet = λ same. is.quiet (sym (as_quiet answer) ∙ same);
    cuts = as_set_cuts answer old.device new.device is.cuts;
    finds = tt;
    spares = tt;
    fits = tt;
    fit = is.fit;
    both = is.both;
    sound = is.sound;
  }

-- When power is off; when both areas read as the settings, and the named one is read.
use Rattle.std.proofs.Common.{◌≡◌, ◌⊎◌, inl, inr, ℕ, Bool, true, false, cond, List, refl, sym, ap, subst, ◌∙◌}
use Rattle.std.proofs.lemmas.Bool.{false≢true}
use Rattle.script_lines.specs.declared.answer.Answer.{Answer as settings_answer}
use Rattle.script_lines.specs.declared.answer.Answer.TheVariants as settings
use Rattle.backend_api.specs.Commands.{Command}
use Rattle.backend_api.specs.Commands.Command.{Del as Delete}
use Rattle.settings_core.specs.Carrying.{command_of}
use Rattle.session_table.specs.Follows.{Follows}
use Rattle.session_table.proofs.FollowsLemmas.{kept, seen, then}
use Rattle.mirror_session.specs.declared.line.Line.{Line}
use Rattle.mirror_session.specs.declared.line.Line.TheVariants.{Set, Get, Del, Names, Mount, Cut, Uncut, Blank}
use Rattle.mirror_session.specs.declared.answer.Answer.{Answer}
use Rattle.mirror_session.specs.declared.answer.Answer.TheVariants.{Plain, On, NoArea, NotYet}
use Rattle.mirror_session.specs.Plan.{is_lost}
use Rattle.mirror_session.specs.History.{IsMirrored, NamesRead, PowerStep}
use Rattle.mirror_session.specs.Laws.{KeepsNamed, KeepsNamesRead, LosesPower, RunsInRow, StaysMirrored}
use Rattle.mirror_session.specs.State.{State, Rules}
use Rattle.mirror_session.specs.Step.{Arms, Blanks, Changes, Gets, IsDone, Mounts, Remounts, Step, Reports, ReportsAll}

-- power stays but for a loss
abbrev StaysOn : Answer → State → State → Type 0
StaysOn answer old new = new.is_on ≡ cond (is_lost answer) false old.is_on

power : (old new : State) → new ≡ old → new.is_on ≡ old.is_on
power old new same = ap (λ (s : State). s.is_on) same

module _ (r : Rules) where
  change_power : (command : Command) (answer : settings_answer) (old new : State) → Changes r command answer old new → StaysOn (Plain answer) old new
  change_power command (settings.Done units) old new is = ap (λ (s : State). s.is_on) is.state
  change_power command (settings.TooMany units) old new is = power old new is.2
  change_power command (settings.NoSpace units need live) old new is = power old new is.2
  change_power command (settings.Lost units false) old new is = ap (λ (s : State). s.is_on) is.state
  change_power command answer old new none = absurd none

  get_power : (name : List ℕ) (answer : settings_answer) (old new : State) → Gets name answer old new → StaysOn (Plain answer) old new
  get_power name (settings.Value value) old new is = power old new is.1
  get_power name settings.Absent old new is = power old new is.1
  get_power name answer old new none = absurd none

  names_power : (answer : settings_answer) (old new : State) → ReportsAll r answer old new → StaysOn (Plain answer) old new
  names_power (settings.Names active pairs) old new is = power old new is.3
  names_power answer old new none = absurd none

  mount_power : (answer : settings_answer) (old new : State) → Mounts r answer old new → new.is_on ≡ cond (is_lost (Plain answer)) false true
  mount_power (settings.Done units) old new is = ap (λ (s : State). s.is_on) is
  mount_power (settings.Lost units false) old new is = is.off
  mount_power answer old new none = absurd none

  arm_power : (answer : settings_answer) (old new : State) → Arms answer old new → StaysOn (Plain answer) old new
  arm_power (settings.Done units) old new is = power old new is.1
  arm_power answer old new none = absurd none

  blank_power : (label : List ℕ) (answer : Answer) (old new : State) → Blanks r label answer old new → StaysOn answer old new
  blank_power label On old new is = power old new is.1
  blank_power label NoArea old new is = power old new is.2
  blank_power label NotYet old new is = power old new is.3
  blank_power label (Plain (settings.Done units)) old new is = ap (λ (s : State). s.is_on) is.3.2
  blank_power label answer old new none = absurd none

  line_power : (line : Line) (answer : settings_answer) (old new : State) → Reports r line answer old new → PowerStep line (Plain answer) old.is_on new.is_on
  line_power (Set name value) answer old new is = change_power (command_of name value) answer old new is
  line_power (Del name) answer old new is = change_power (Delete name) answer old new is
  line_power (Get name) answer old new is = get_power name answer old new is
  line_power Names answer old new is = names_power answer old new is
  line_power Mount answer old new is = mount_power answer old new is
  line_power (Cut units) answer old new is = arm_power answer old new is
  line_power Uncut answer old new is = arm_power answer old new is
  line_power (Blank label) answer old new is = blank_power label (Plain answer) old new is

  step_power : (line : Line) (answer : Answer) (old new : State) → Step r line answer old new → PowerStep line answer old.is_on new.is_on
  step_power Mount (Plain settings.Off) old new is = absurd (false≢true is.0)
  step_power line (Plain settings.Off) old new is = power old new is.2
  step_power line (Plain answer) old new is = line_power line answer old new is.1
  step_power (Blank label) answer old new is = blank_power label answer old new is
  step_power line answer old new none = absurd none

-- ---- what holds with power on

-- What holds of any state with power off, stays where a command is done, and holds after a mount, stays in every line.
module _ (r : Rules) (P : State → Type 0) (off : (s : State) → s.is_on ≡ false → P s) (done : (command : Command) (units : ℕ) (old new : State) → P old → IsDone r command units old new → P new)
    (mounted : (old new : State) → Remounts r old new → P new) where
  same_kept : (old new : State) → new ≡ old → P old → P new
  same_kept old new same was = subst P (sym same) was

  change_kept : (command : Command) (answer : settings_answer) (old new : State) → P old → Changes r command answer old new → P new
  change_kept command (settings.Done units) old new was is = done command units old new was is
  change_kept command (settings.TooMany units) old new was is = same_kept old new is.2 was
  change_kept command (settings.NoSpace units need live) old new was is = same_kept old new is.2 was
  change_kept command (settings.Lost units false) old new was is = off new (ap (λ (s : State). s.is_on) is.state)
  change_kept command answer old new was none = absurd none

  get_kept : (name : List ℕ) (answer : settings_answer) (old new : State) → P old → Gets name answer old new → P new
  get_kept name (settings.Value value) old new was is = same_kept old new is.1 was
  get_kept name settings.Absent old new was is = same_kept old new is.1 was
  get_kept name answer old new was none = absurd none

  names_kept : (answer : settings_answer) (old new : State) → P old → ReportsAll r answer old new → P new
  names_kept (settings.Names active pairs) old new was is = same_kept old new is.3 was
  names_kept answer old new was none = absurd none

  mount_kept : (answer : settings_answer) (old new : State) → Mounts r answer old new → P new
  mount_kept (settings.Done units) old new is = mounted old new is
  mount_kept (settings.Lost units false) old new is = off new is.off
  mount_kept answer old new none = absurd none

  arm_kept : (answer : settings_answer) (old new : State) → P old → Arms answer old new → P new
  arm_kept (settings.Done units) old new was is = same_kept old new is.1 was
  arm_kept answer old new was none = absurd none

  blank_kept : (label : List ℕ) (answer : Answer) (old new : State) → P old → Blanks r label answer old new → P new
  blank_kept label On old new was is = same_kept old new is.1 was
  blank_kept label NoArea old new was is = same_kept old new is.2 was
  blank_kept label NotYet old new was is = same_kept old new is.3 was
  blank_kept label (Plain (settings.Done units)) old new was is = off new (ap (λ (s : State). s.is_on) is.3.2 ∙ is.1)
  blank_kept label answer old new was none = absurd none

  line_kept : (line : Line) (answer : settings_answer) (old new : State) → P old → Reports r line answer old new → P new
  line_kept (Set name value) answer old new was is = change_kept (command_of name value) answer old new was is
  line_kept (Del name) answer old new was is = change_kept (Delete name) answer old new was is
  line_kept (Get name) answer old new was is = get_kept name answer old new was is
  line_kept Names answer old new was is = names_kept answer old new was is
  line_kept Mount answer old new was is = mount_kept answer old new is
  line_kept (Cut units) answer old new was is = arm_kept answer old new was is
  line_kept Uncut answer old new was is = arm_kept answer old new was is
  line_kept (Blank label) answer old new was is = blank_kept label (Plain answer) old new was is

  step_kept : (line : Line) (answer : Answer) (old new : State) → Step r line answer old new → P old → P new
  step_kept line (Plain settings.Off) old new is was = same_kept old new is.2 was
  step_kept line (Plain answer) old new is was = line_kept line answer old new was is.1
  step_kept (Blank label) answer old new is was = blank_kept label answer old new was is
  step_kept line answer old new none was = absurd none

  run_kept : (lines : List Line) (answers : List Answer) (old new : State) → P old → Follows (Step r) lines answers old new → P new
  run_kept lines answers old new was runs =
      kept (Step r) (λ a b. P a → P b) (λ s is. is) (λ a b c one two is. two (one is)) step_kept lines answers old new runs was

-- both areas read as the settings

pub off_mirrored : (s : State) → s.is_on ≡ false → IsMirrored s
off_mirrored s off on = absurd (false≢true (sym off ∙ on))

module _ (r : Rules) where
  done_mirrored : (command : Command) (units : ℕ) (old new : State) → IsMirrored old → IsDone r command units old new → IsMirrored new
  done_mirrored command units old new was is on = ap (λ (s : State). s.other) is.state ∙ sym (ap (λ (s : State). s.settings) is.state)

  mount_mirrored : (old new : State) → Remounts r old new → IsMirrored new
  mount_mirrored old new is on = ap (λ (s : State). s.other) is ∙ sym (ap (λ (s : State). s.settings) is)

  pub step_mirrored : (line : Line) (answer : Answer) (old new : State) → Step r line answer old new → IsMirrored old → IsMirrored new
  step_mirrored = step_kept r IsMirrored off_mirrored done_mirrored mount_mirrored

pub stays_mirrored : StaysMirrored
stays_mirrored r = run_kept r IsMirrored off_mirrored (done_mirrored r) (mount_mirrored r)

-- the named area is read

off_read : (s : State) → s.is_on ≡ false → NamesRead s
off_read s off on = absurd (false≢true (sym off ∙ on))

module _ (r : Rules) where
  done_read : (command : Command) (units : ℕ) (old new : State) → NamesRead old → IsDone r command units old new → NamesRead new
  done_read command units old new was is on = ap (λ (s : State). s.gone) is.state ∙ was (sym (ap (λ (s : State). s.is_on) is.state) ∙ on)

  mount_read : (old new : State) → Remounts r old new → NamesRead new
  mount_read old new is on = ap (λ (s : State). s.gone) is

pub keeps_names_read : KeepsNamesRead
keeps_names_read r = run_kept r NamesRead off_read (done_read r) (mount_read r)

-- ---- the named area

-- the same one, or after a mount the other one
abbrev IsNamed : Rules → Line → State → State → Type 0
IsNamed r line old new = (new.named ≡ old.named) ⊎ ((line ≡ Mount) × (old.gone ≡ true) × (new.named ≡ r.beside old.named))

module _ (r : Rules) where
  same_named : (line : Line) (old new : State) → new ≡ old → IsNamed r line old new
  same_named line old new same = inl (ap (λ (s : State). s.named) same)

  change_named : (line : Line) (command : Command) (answer : settings_answer) (old new : State) → Changes r command answer old new → IsNamed r line old new
  change_named line command (settings.Done units) old new is = inl (ap (λ (s : State). s.named) is.state)
  change_named line command (settings.TooMany units) old new is = same_named line old new is.2
  change_named line command (settings.NoSpace units need live) old new is = same_named line old new is.2
  change_named line command (settings.Lost units false) old new is = inl (ap (λ (s : State). s.named) is.state)
  change_named line command answer old new none = absurd none

  get_named : (name : List ℕ) (answer : settings_answer) (old new : State) → Gets name answer old new → IsNamed r (Get name) old new
  get_named name (settings.Value value) old new is = same_named (Get name) old new is.1
  get_named name settings.Absent old new is = same_named (Get name) old new is.1
  get_named name answer old new none = absurd none

  names_named : (answer : settings_answer) (old new : State) → ReportsAll r answer old new → IsNamed r Names old new
  names_named (settings.Names active pairs) old new is = same_named Names old new is.3
  names_named answer old new none = absurd none

  trusted_named : (old new : State) (gone : Bool) → old.gone ≡ gone → new.named ≡ cond gone (r.beside old.named) old.named → IsNamed r Mount old new
  trusted_named old new true gone is = inr (refl, gone, is)
  trusted_named old new false gone is = inl is

  mount_named : (answer : settings_answer) (old new : State) → Mounts r answer old new → IsNamed r Mount old new
  mount_named (settings.Done units) old new is = trusted_named old new old.gone refl (ap (λ (s : State). s.named) is)
  mount_named (settings.Lost units false) old new is = elim is.names [
    | inl same ↦ inl same
    | inr same ↦ trusted_named old new old.gone refl same
  ]
  mount_named answer old new none = absurd none

  arm_named : (line : Line) (answer : settings_answer) (old new : State) → Arms answer old new → IsNamed r line old new
  arm_named line (settings.Done units) old new is = same_named line old new is.1
  arm_named line answer old new none = absurd none

  blank_named : (label : List ℕ) (answer : Answer) (old new : State) → Blanks r label answer old new → IsNamed r (Blank label) old new
  blank_named label On old new is = same_named (Blank label) old new is.1
  blank_named label NoArea old new is = same_named (Blank label) old new is.2
  blank_named label NotYet old new is = same_named (Blank label) old new is.3
  blank_named label (Plain (settings.Done units)) old new is = inl (ap (λ (s : State). s.named) is.3.2)
  blank_named label answer old new none = absurd none

  line_named : (line : Line) (answer : settings_answer) (old new : State) → Reports r line answer old new → IsNamed r line old new
  line_named (Set name value) answer old new is = change_named (Set name value) (command_of name value) answer old new is
  line_named (Del name) answer old new is = change_named (Del name) (Delete name) answer old new is
  line_named (Get name) answer old new is = get_named name answer old new is
  line_named Names answer old new is = names_named answer old new is
  line_named Mount answer old new is = mount_named answer old new is
  line_named (Cut units) answer old new is = arm_named (Cut units) answer old new is
  line_named Uncut answer old new is = arm_named Uncut answer old new is
  line_named (Blank label) answer old new is = blank_named label (Plain answer) old new is

  step_named : (line : Line) (answer : Answer) (old new : State) → Step r line answer old new → IsNamed r line old new
  step_named line (Plain settings.Off) old new is = same_named line old new is.2
  step_named line (Plain answer) old new is = line_named line answer old new is.1
  step_named (Blank label) answer old new is = blank_named label answer old new is
  step_named line answer old new none = absurd none

pub keeps_named : KeepsNamed
keeps_named r line answer old new is = step_named r line answer old new is

pub loses_power : LosesPower
loses_power r lines answers old new runs = seen (Step r) PowerStep (λ s. s.is_on) (step_power r) lines answers old new runs

pub runs_in_row : RunsInRow
runs_in_row r lines more answers others old mid new runs rest = then (Step r) lines more answers others old mid new runs rest

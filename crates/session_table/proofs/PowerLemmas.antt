-- When power is off.
use Rattle.std.proofs.Common.{◌≡◌, ℕ, Bool, true, false, cond, Option, List, ap, inl, inr}
use Rattle.std.proofs.lemmas.Bool.{false≢true}
use Rattle.script_lines.specs.declared.line.Line.{Line}
use Rattle.script_lines.specs.declared.line.Line.TheVariants.{Set, Get, Del as Delete, Register, Load, Direct, Save, Commit, RunSet, RunGet, Names, Mount, Cut, Uncut, Migrate}
use Rattle.script_lines.specs.declared.answer.Answer.{Answer}
use Rattle.script_lines.specs.declared.answer.Answer.TheVariants.{Done, Value, Absent, Lost, Off, NoSpace, TooMany, Exists, NoKind, NoTarget, Rejected, NoHandler, Loaded, Direct as Applied, Saved, Names as Named}
use Rattle.script_lines.specs.declared.answer.SaveEnd.TheVariants.{Whole, NoSpace as NoRoom, TooMany as ManyNames}
use Rattle.handlers.specs.declared.handler.HandlerKind.{HandlerKind}
use Rattle.backend_api.specs.Commands.{Command}
use Rattle.script_lines.specs.Plan.{is_lost}
use Rattle.session_table.specs.Commands.{commands_of}
use Rattle.session_table.specs.Follows.{Follows}
use Rattle.session_table.specs.Prefix.{power_after, PowerStep}
use Rattle.session_table.specs.Rules.{Rules}
use Rattle.session_table.specs.State.{State}
use Rattle.session_table.specs.Step.{Step, Answers, CommandsLost, Changes, Saves, Gets, Reports, ReportsAll, Registers, Loads, Commits, Offers, Asks, Mounts, Arms, Migrates, MovesTo}
use Rattle.session_table.proofs.FollowsLemmas.{seen}

-- power stays but for a loss
abbrev StaysOn : Answer → State → State → Type 0
StaysOn answer old new = new.is_on ≡ cond (is_lost answer) false old.is_on

power : (old new : State) → new ≡ old → new.is_on ≡ old.is_on
power old new same = ap (λ (s : State). s.is_on) same

module _ (r : Rules) where
  lost_power : (commands : List Command) (chance : Bool) (old new : State) → CommandsLost r commands chance old new → new.is_on ≡ false
  lost_power commands true old new is = ap (λ (s : State). s.is_on) is.1
  lost_power commands false old new is = ap (λ (s : State). s.is_on) is.1

  change_power : (commands : List Command) (answer : Answer) (old new : State) → Changes r commands answer old new → StaysOn answer old new
  change_power commands (Done units) old new is = ap (λ (s : State). s.is_on) is.1.state
  change_power commands (TooMany units) old new is = power old new is.2
  change_power commands (NoSpace units need live) old new is = power old new is.2
  change_power commands (Lost units chance) old new is = lost_power commands chance old new is.1
  change_power commands answer old new none = absurd none

  save_power : (commands : List Command) (answer : Answer) (old new : State) → Saves r commands answer old new → StaysOn answer old new
  save_power commands (Saved pairs units Whole) old new is = ap (λ (s : State). s.is_on) is.1.state
  save_power commands (Saved pairs units ManyNames) old new is = ap (λ (s : State). s.is_on) is.3
  save_power commands (Saved pairs units (NoRoom need live)) old new is = ap (λ (s : State). s.is_on) is.3
  save_power commands (Lost units chance) old new is = lost_power commands chance old new is
  save_power commands answer old new none = absurd none

  move_power : (to : ℕ) (answer : Answer) (old new : State) → MovesTo r to answer old new → StaysOn answer old new
  move_power to (Done units) old new is = ap (λ (s : State). s.is_on) is.1
  move_power to (TooMany units) old new is = power old new is.3
  move_power to (NoSpace units need live) old new is = power old new is.3
  move_power to (Lost units false) old new (inl is) = ap (λ (s : State). s.is_on) is
  move_power to (Lost units false) old new (inr is) = ap (λ (s : State). s.is_on) is.1
  move_power to answer old new none = absurd none

  migrate_power : (answer : Answer) (old new : State) → Migrates r answer old new → StaysOn answer old new
  migrate_power NoTarget old new is = power old new is.1
  migrate_power answer old new is = move_power is.0 answer old new is.2

get_power : (name : List ℕ) (answer : Answer) (old new : State) → Gets name answer old new → StaysOn answer old new
get_power name (Value value) old new is = power old new is.1
get_power name Absent old new is = power old new is.1
get_power name answer old new none = absurd none

report_power : (subtree : Option (List ℕ)) (answer : Answer) (old new : State) → Reports subtree answer old new → StaysOn answer old new
report_power subtree (Applied pairs) old new is = power old new is.1
report_power subtree answer old new none = absurd none

report_all_power : (r : Rules) (answer : Answer) (old new : State) → ReportsAll r answer old new → StaysOn answer old new
report_all_power r (Named active pairs) old new is = power old new is.2
report_all_power r answer old new none = absurd none

register_power : (subtree : List ℕ) (kind : HandlerKind) (answer : Answer) (old new : State) → Registers subtree kind answer old new → StaysOn answer old new
register_power subtree kind Exists old new is = power old new is.1
register_power subtree kind NoKind old new is = power old new is.2
register_power subtree kind (Done units) old new is = ap (λ (s : State). s.is_on) is.3
register_power subtree kind answer old new none = absurd none

load_power : (subtree : Option (List ℕ)) (answer : Answer) (old new : State) → Loads subtree answer old new → StaysOn answer old new
load_power subtree (Loaded gives taken rejected passed) old new is = ap (λ (s : State). s.is_on) is.4
load_power subtree answer old new none = absurd none

commit_power : (answer : Answer) (old new : State) → Commits answer old new → StaysOn answer old new
commit_power (Done units) old new is = ap (λ (s : State). s.is_on) is.1
commit_power answer old new none = absurd none

offer_power : (name value : List ℕ) (answer : Answer) (old new : State) → Offers name value answer old new → StaysOn answer old new
offer_power name value NoHandler old new is = power old new is.1
offer_power name value Rejected old new is = power old new is.3
offer_power name value (Done units) old new is = ap (λ (s : State). s.is_on) is.4
offer_power name value answer old new none = absurd none

ask_power : (name : List ℕ) (answer : Answer) (old new : State) → Asks name answer old new → StaysOn answer old new
ask_power name NoHandler old new is = power old new is.1
ask_power name (Value value) old new is = power old new is.1
ask_power name Absent old new is = power old new is.1
ask_power name answer old new none = absurd none

arm_power : (answer : Answer) (old new : State) → Arms answer old new → StaysOn answer old new
arm_power (Done units) old new is = power old new is.1
arm_power answer old new none = absurd none

mount_power : (answer : Answer) (old new : State) → Mounts answer old new → new.is_on ≡ power_after Mount answer old.is_on
mount_power (Done units) old new is = ap (λ (s : State). s.is_on) is
mount_power (Lost units false) old new is = ap (λ (s : State). s.is_on) is
mount_power answer old new none = absurd none

line_power : (r : Rules) (line : Line) (answer : Answer) (old new : State) → Answers r line answer old new → new.is_on ≡ power_after line answer old.is_on
line_power r (Set name value) answer old new is = change_power r (commands_of (Set name value) old) answer old new is
line_power r (Delete name) answer old new is = change_power r (commands_of (Delete name) old) answer old new is
line_power r (Save subtree) answer old new is = save_power r (commands_of (Save subtree) old) answer old new is
line_power r (Get name) answer old new is = get_power name answer old new is
line_power r (Direct subtree) answer old new is = report_power subtree answer old new is
line_power r Names answer old new is = report_all_power r answer old new is
line_power r (Register subtree kind) answer old new is = register_power subtree kind answer old new is
line_power r (Load subtree) answer old new is = load_power subtree answer old new is
line_power r Commit answer old new is = commit_power answer old new is
line_power r (RunSet name value) answer old new is = offer_power name value answer old new is
line_power r (RunGet name) answer old new is = ask_power name answer old new is
line_power r Mount answer old new is = mount_power answer old new is
line_power r (Cut units) answer old new is = arm_power answer old new is
line_power r Uncut answer old new is = arm_power answer old new is
line_power r Migrate answer old new is = migrate_power r answer old new is

pub step_power : (r : Rules) (line : Line) (answer : Answer) (old new : State) → Step r line answer old new → PowerStep line answer old.is_on new.is_on
step_power r Mount Off old new is = absurd (false≢true is.0)
step_power r line Off old new is = power old new is.2
step_power r line answer old new is = line_power r line answer old new is.1

-- power in a run
pub run_power : (r : Rules) (lines : List Line) (answers : List Answer) (old new : State) → Follows (Step r) lines answers old new → Follows PowerStep lines answers old.is_on new.is_on
run_power r lines answers old new runs = seen (Step r) PowerStep (λ s. s.is_on) (step_power r) lines answers old new runs

-- Which commands of a run stand.
use Rattle.std.proofs.Common.{◌≡◌, ℕ, Bool, true, false, Option, List, [], ◌∷◌, ◌++◌, refl, sym, ap, ◌∙◌, inl, inr}
use Rattle.std.specs.Prelude.{All}
use Rattle.std.proofs.lemmas.Bool.{false≢true}
use Rattle.std.proofs.lemmas.List.Sums.{fold-append}
use Rattle.std.proofs.lemmas.List.Elements.{All-head, All-tail}
use Rattle.script_lines.specs.declared.line.Line.{Line}
use Rattle.script_lines.specs.declared.line.Line.TheVariants.{Set, Get, Del as Delete, Register, Load, Direct, Save, Commit, RunSet, RunGet, Names, Mount, Cut, Uncut, Migrate}
use Rattle.script_lines.specs.declared.answer.Answer.{Answer}
use Rattle.script_lines.specs.declared.answer.Answer.TheVariants.{Done, Value, Absent, Lost, Off, NoSpace, TooMany, Exists, NoKind, NoTarget, Rejected, NoHandler, Loaded, Direct as Applied, Saved, Names as Named}
use Rattle.script_lines.specs.declared.answer.SaveEnd.TheVariants.{Whole, NoSpace as NoRoom, TooMany as ManyNames}
use Rattle.handlers.specs.declared.handler.HandlerKind.{HandlerKind}
use Rattle.backend_api.specs.Commands.{Command, applied, all_applied}
use Rattle.backend_api.specs.Map.{Map}
use Rattle.session_table.specs.Commands.{commands_of}
use Rattle.session_table.specs.Follows.{Follows}
use Rattle.session_table.specs.Prefix.{IsPrefix, is_torn, Stand, LogStep, IsAfterPrefix}
use Rattle.session_table.specs.Rules.{Rules}
use Rattle.session_table.specs.State.{State}
use Rattle.session_table.specs.Step.{Step, Answers, CommandsLost, Changes, Saves, Gets, Reports, ReportsAll, Registers, Loads, Commits, Offers, Asks, Mounts, Arms, Migrates, MovesTo, reported}
use Rattle.session_table.proofs.CommandLemmas.{none_applied}

-- the settings are those after the commands of the line that stand
pub record After (commands : List Command) (answer : Answer) (old new : State) : Type 0 where
  pub done : List Command
  pub stand : Stand answer commands done
  pub settings : new.settings ≡ all_applied old.settings done

all_commands : (answer : Answer) (commands : List Command) (old new : State) → Stand answer commands commands → new.settings ≡ all_applied old.settings commands → After commands answer old new
all_commands answer commands old new stand is = record { done = commands; stand = stand; settings = is }

no_command : (answer : Answer) (commands : List Command) (old new : State) → Stand answer commands [] → new.settings ≡ old.settings → After commands answer old new
no_command answer commands old new stand is = record { done = []; stand = stand; settings = is ∙ sym (none_applied old.settings) }

some_commands : (answer : Answer) (commands prefix rest : List Command) (old new : State) → (IsPrefix prefix commands → Stand answer commands prefix) → commands ≡ prefix ++ rest
    → new.settings ≡ all_applied old.settings prefix → After commands answer old new
some_commands answer commands prefix rest old new stand are is = record { done = prefix; stand = stand (record { rest = rest; are = are }); settings = is }

same : (old new : State) → new ≡ old → new.settings ≡ old.settings
same old new is = ap (λ (s : State). s.settings) is

module _ (r : Rules) where
  lost_after : (commands : List Command) (units : ℕ) (chance : Bool) (old new : State) → CommandsLost r commands chance old new → chance ≡ false → After commands (Lost units chance) old new
  lost_after commands units true old new is torn = absurd (false≢true (sym torn))
  lost_after commands units false old new is torn = some_commands (Lost units false) commands is.0.prefix is.0.rest old new (λ prefix. prefix) is.0.are is.0.settings

  change_after : (commands : List Command) (answer : Answer) (old new : State) → Changes r commands answer old new → is_torn answer ≡ false → After commands answer old new
  change_after commands (Done units) old new is torn = all_commands (Done units) commands old new refl (ap (λ (s : State). s.settings) is.1.state)
  change_after commands (TooMany units) old new is torn = no_command (TooMany units) commands old new refl (same old new is.2)
  change_after commands (NoSpace units need live) old new is torn = no_command (NoSpace units need live) commands old new refl (same old new is.2)
  change_after commands (Lost units chance) old new is torn = lost_after commands units chance old new is.1 torn
  change_after commands answer old new none torn = absurd none

  save_after : (commands : List Command) (answer : Answer) (old new : State) → Saves r commands answer old new → is_torn answer ≡ false → After commands answer old new
  save_after commands (Saved pairs units Whole) old new is torn = all_commands (Saved pairs units Whole) commands old new refl (ap (λ (s : State). s.settings) is.1.state)
  save_after commands (Saved pairs units ManyNames) old new is torn =
      some_commands (Saved pairs units ManyNames) commands is.2.split.done (is.2.split.at ∷ is.2.split.left) old new (λ prefix. (prefix, is.1 ∙ ap reported is.2.split.count_is)) is.2.split.is is.2.settings
  save_after commands (Saved pairs units (NoRoom need live)) old new is torn =
      some_commands (Saved pairs units (NoRoom need live)) commands is.2.split.done (is.2.split.at ∷ is.2.split.left) old new (λ prefix. (prefix, is.1 ∙ ap reported is.2.split.count_is)) is.2.split.is is.2.settings
  save_after commands (Lost units chance) old new is torn = lost_after commands units chance old new is torn
  save_after commands answer old new none torn = absurd none

  move_after : (to : ℕ) (answer : Answer) (old new : State) → MovesTo r to answer old new → After [] answer old new
  move_after to (Done units) old new is = no_command (Done units) [] old new refl (ap (λ (s : State). s.settings) is.1)
  move_after to (TooMany units) old new is = no_command (TooMany units) [] old new refl (same old new is.3)
  move_after to (NoSpace units need live) old new is = no_command (NoSpace units need live) [] old new refl (same old new is.3)
  move_after to (Lost units false) old new (inl is) = no_command (Lost units false) [] old new (record { rest = []; are = refl }) (ap (λ (s : State). s.settings) is)
  move_after to (Lost units false) old new (inr is) = no_command (Lost units false) [] old new (record { rest = []; are = refl }) (ap (λ (s : State). s.settings) is.1)
  move_after to answer old new none = absurd none

  migrate_after : (answer : Answer) (old new : State) → Migrates r answer old new → After [] answer old new
  migrate_after NoTarget old new is = no_command NoTarget [] old new refl (same old new is.1)
  migrate_after answer old new is = move_after is.0 answer old new is.2

get_after : (name : List ℕ) (answer : Answer) (old new : State) → Gets name answer old new → After [] answer old new
get_after name (Value value) old new is = no_command (Value value) [] old new refl (same old new is.1)
get_after name Absent old new is = no_command Absent [] old new refl (same old new is.1)
get_after name answer old new none = absurd none

report_after : (subtree : Option (List ℕ)) (answer : Answer) (old new : State) → Reports subtree answer old new → After [] answer old new
report_after subtree (Applied pairs) old new is = no_command (Applied pairs) [] old new refl (same old new is.1)
report_after subtree answer old new none = absurd none

report_all_after : (r : Rules) (answer : Answer) (old new : State) → ReportsAll r answer old new → After [] answer old new
report_all_after r (Named active pairs) old new is = no_command (Named active pairs) [] old new refl (same old new is.2)
report_all_after r answer old new none = absurd none

register_after : (subtree : List ℕ) (kind : HandlerKind) (answer : Answer) (old new : State) → Registers subtree kind answer old new → After [] answer old new
register_after subtree kind Exists old new is = no_command Exists [] old new refl (same old new is.1)
register_after subtree kind NoKind old new is = no_command NoKind [] old new refl (same old new is.2)
register_after subtree kind (Done units) old new is = no_command (Done units) [] old new refl (ap (λ (s : State). s.settings) is.3)
register_after subtree kind answer old new none = absurd none

load_after : (subtree : Option (List ℕ)) (answer : Answer) (old new : State) → Loads subtree answer old new → After [] answer old new
load_after subtree (Loaded gives taken rejected passed) old new is = no_command (Loaded gives taken rejected passed) [] old new refl (ap (λ (s : State). s.settings) is.4)
load_after subtree answer old new none = absurd none

commit_after : (answer : Answer) (old new : State) → Commits answer old new → After [] answer old new
commit_after (Done units) old new is = no_command (Done units) [] old new refl (ap (λ (s : State). s.settings) is.1)
commit_after answer old new none = absurd none

offer_after : (name value : List ℕ) (answer : Answer) (old new : State) → Offers name value answer old new → After [] answer old new
offer_after name value NoHandler old new is = no_command NoHandler [] old new refl (same old new is.1)
offer_after name value Rejected old new is = no_command Rejected [] old new refl (same old new is.3)
offer_after name value (Done units) old new is = no_command (Done units) [] old new refl (ap (λ (s : State). s.settings) is.4)
offer_after name value answer old new none = absurd none

ask_after : (name : List ℕ) (answer : Answer) (old new : State) → Asks name answer old new → After [] answer old new
ask_after name NoHandler old new is = no_command NoHandler [] old new refl (same old new is.1)
ask_after name (Value value) old new is = no_command (Value value) [] old new refl (same old new is.1)
ask_after name Absent old new is = no_command Absent [] old new refl (same old new is.1)
ask_after name answer old new none = absurd none

arm_after : (answer : Answer) (old new : State) → Arms answer old new → After [] answer old new
arm_after (Done units) old new is = no_command (Done units) [] old new refl (same old new is.1)
arm_after answer old new none = absurd none

mount_after : (answer : Answer) (old new : State) → Mounts answer old new → After [] answer old new
mount_after (Done units) old new is = no_command (Done units) [] old new refl (ap (λ (s : State). s.settings) is)
mount_after (Lost units false) old new is = no_command (Lost units false) [] old new (record { rest = []; are = refl }) (ap (λ (s : State). s.settings) is)
mount_after answer old new none = absurd none

line_after : (r : Rules) (line : Line) (answer : Answer) (old new : State) → Answers r line answer old new → is_torn answer ≡ false → After (commands_of line old) answer old new
line_after r (Set name value) answer old new is torn = change_after r (commands_of (Set name value) old) answer old new is torn
line_after r (Delete name) answer old new is torn = change_after r (commands_of (Delete name) old) answer old new is torn
line_after r (Save subtree) answer old new is torn = save_after r (commands_of (Save subtree) old) answer old new is torn
line_after r (Get name) answer old new is torn = get_after name answer old new is
line_after r (Direct subtree) answer old new is torn = report_after subtree answer old new is
line_after r Names answer old new is torn = report_all_after r answer old new is
line_after r (Register subtree kind) answer old new is torn = register_after subtree kind answer old new is
line_after r (Load subtree) answer old new is torn = load_after subtree answer old new is
line_after r Commit answer old new is torn = commit_after answer old new is
line_after r (RunSet name value) answer old new is torn = offer_after name value answer old new is
line_after r (RunGet name) answer old new is torn = ask_after name answer old new is
line_after r Mount answer old new is torn = mount_after answer old new is
line_after r (Cut units) answer old new is torn = arm_after answer old new is
line_after r Uncut answer old new is torn = arm_after answer old new is
line_after r Migrate answer old new is torn = migrate_after r answer old new is

pub step_after : (r : Rules) (line : Line) (answer : Answer) (old new : State) → Step r line answer old new → is_torn answer ≡ false → After (commands_of line old) answer old new
step_after r line Off old new is torn = no_command Off (commands_of line old) old new refl (same old new is.2)
step_after r line answer old new is torn = line_after r line answer old new is.1 torn

-- ---- a whole run

applied_then : (settings : Map) (first more : List Command) → all_applied settings (first ++ more) ≡ all_applied (all_applied settings first) more
unfolding all_applied
applied_then settings first more = fold-append applied settings first more

-- from a state on, with the commands that stand before it
record Continues (r : Rules) (lines : List Line) (answers : List Answer) (first : Map) (before : List Command) (old new : State) : Type 0 where
  pub log : List Command
  pub runs : Follows (LogStep r first) lines answers (record { state = old; log = before }) (record { state = new; log = log })
  pub settings : new.settings ≡ all_applied first log

continues : (r : Rules) (lines : List Line) (answers : List Answer) (first : Map) (before : List Command) (old new : State) → old.settings ≡ all_applied first before
    → Follows (Step r) lines answers old new → All (λ answer. is_torn answer ≡ false) answers → Continues r lines answers first before old new
continues r [] [] first before old new so_far is whole =
    record { log = before; runs = ap (λ (s : State). record { state = s; log = before }) is; settings = ap (λ (s : State). s.settings) is ∙ so_far }
continues r [] (answer ∷ answers) first before old new so_far none whole = absurd none
continues r (line ∷ lines) [] first before old new so_far none whole = absurd none
continues r (line ∷ lines) (answer ∷ answers) first before old new so_far runs whole =
    let head = step_after r line answer old runs.0 runs.1 (All-head (λ answer. is_torn answer ≡ false) answer answers whole) in
    let mid : runs.0.settings ≡ all_applied first (before ++ head.done) = head.settings ∙ ap (λ (m : Map). all_applied m head.done) so_far ∙ sym (applied_then first before head.done) in
    let tail = continues r lines answers first (before ++ head.done) runs.0 new mid runs.2 (All-tail (λ answer. is_torn answer ≡ false) answer answers whole) in
    record {
      log = tail.log;
      runs = (
        record { state = runs.0; log = before ++ head.done },
        record { step = runs.1; done = head.done; stand = head.stand; log = refl; settings = mid },
        tail.runs,
      );
      settings = tail.settings;
    }

pub run_after : (r : Rules) (lines : List Line) (answers : List Answer) (old new : State) → Follows (Step r) lines answers old new → All (λ answer. is_torn answer ≡ false) answers
    → IsAfterPrefix r lines answers old new
run_after r lines answers old new runs whole =
    let all = continues r lines answers old.settings [] old new (sym (none_applied old.settings)) runs whole in
    record { log = all.log; runs = all.runs; settings = all.settings }

-- Which commands of a run stand. Until it is settled, a command in which power was lost may stand or not: what is carried from line to
-- line are the commands after which the trusted area reads, and those after which the other one does.
use Rattle.std.proofs.Common.{◌≡◌, ◌⊎◌, inl, inr, ℕ, ◌==◌, Bool, true, false, cond, List, [], ◌∷◌, ◌++◌, append-nil, refl, sym, ap, subst, ◌∙◌}
use Rattle.std.proofs.lemmas.Bool.{cond-false, false≢true}
use Rattle.std.proofs.lemmas.List.Sums.{fold-append}
use Rattle.script_lines.specs.declared.answer.Answer.{Answer as settings_answer}
use Rattle.script_lines.specs.declared.answer.Answer.TheVariants as settings
use Rattle.backend_api.specs.Commands.{Command, applied, all_applied}
use Rattle.backend_api.specs.Commands.Command.{Del as Delete}
use Rattle.backend_api.specs.Map.{Map}
use Rattle.settings_core.specs.Carrying.{command_of, is_idle}
use Rattle.session_table.specs.Follows.{Follows}
use Rattle.session_table.specs.Prefix.{Stand}
use Rattle.mirror_session.specs.declared.line.Line.{Line}
use Rattle.mirror_session.specs.declared.line.Line.TheVariants.{Set, Get, Del, Names, Mount, Cut, Uncut, Blank}
use Rattle.mirror_session.specs.declared.answer.Answer.{Answer}
use Rattle.mirror_session.specs.declared.answer.Answer.TheVariants.{Plain, On, NoArea, NotYet}
use Rattle.mirror_session.specs.Plan.{as_plain}
use Rattle.mirror_session.specs.History.{IsAfterPrefix, IsMirrored, LogStep}
use Rattle.mirror_session.specs.Laws.{HoldsAcknowledged}
use Rattle.mirror_session.specs.State.{State, Rules, IsOn, IsOff, trusted_of}
use Rattle.mirror_session.specs.Step.{Arms, Blanks, Changes, Gets, HasOrNot, Mounts, Step, StopsMounting, Reports, ReportsAll, changing, commands_of}
use Rattle.mirror_session.proofs.PowerLemmas.{off_mirrored, step_mirrored}

pub none_applied : (m : Map) → all_applied m [] ≡ m
unfolding all_applied
none_applied m = refl

pub one_applied : (m : Map) (c : Command) → all_applied m (c ∷ []) ≡ applied m c
unfolding all_applied
one_applied m c = refl

both_applied : (m : Map) (prefix back : List Command) → all_applied m (prefix ++ back) ≡ all_applied (all_applied m prefix) back
unfolding all_applied
both_applied m prefix back = fold-append applied m prefix back

on_or_off : {A : Type 0} (b : Bool) → b ≡ true → b ≡ false → A
on_or_off b on off = absurd (false≢true (sym off ∙ on))

module _ (r : Rules) (start : Map) where
  -- the trusted area reads as the start after the first of these, and the other one after the second; with power on they are the same
  record Holds (s : State) (first second : List Command) : Type 0 where
    pub settings : s.settings ≡ all_applied start first
    pub other : s.is_whole ≡ true → s.other ≡ all_applied start second
    pub same : IsOn s → second ≡ first

  -- one of them; the second only with power off
  abbrev IsOneOf : State → List Command → List Command → List Command → Type 0
  IsOneOf s first second log = (log ≡ first) ⊎ ((log ≡ second) × IsOff s)

  -- from one of those before the line, these are had by what the line adds
  record ComesFrom (line : Line) (answer : Answer) (old new : State) (first second log : List Command) : Type 0 where
    pub before : List Command
    pub is : IsOneOf old first second before
    pub done : List Command
    pub stand : Stand (as_plain answer) (commands_of line old.settings) done
    pub more : log ≡ before ++ done
    pub reads : IsOn new → new.settings ≡ all_applied start log

  record Goes (line : Line) (answer : Answer) (old new : State) (first second : List Command) : Type 0 where
    pub one : List Command
    pub two : List Command
    pub holds : Holds new one two
    pub comes : (log : List Command) → IsOneOf new one two log → ComesFrom line answer old new first second log

  module _ (old : State) (first second : List Command) (was : Holds old first second) where
    -- the state stays
    still : (line : Line) (answer : Answer) (new : State) → new ≡ old → Stand (as_plain answer) (commands_of line old.settings) []
        → Goes line answer old new first second
    still line answer new same stand = record {
      one = first;
      two = second;
      holds = subst (λ (s : State). Holds s first second) (sym same) was;
      comes = λ log is. record {
        before = log;
        is = subst (λ (s : State). IsOneOf s first second log) same is;
        done = [];
        stand = stand;
        more = sym (append-nil log);
        reads = λ on. ap (λ (s : State). s.settings) same ∙ was.settings ∙ ap (all_applied start) (sym (read_log log is on));
      };
    }
      where
        read_log : (log : List Command) → IsOneOf new first second log → IsOn new → log ≡ first
        read_log log (inl is) on = is
        read_log log (inr is) on = on_or_off new.is_on on is.1

    -- some commands were carried out in the trusted area, and some in the other one
    goes_by : (line : Line) (answer : Answer) (new : State) (here there : List Command) → Stand (as_plain answer) (commands_of line old.settings) here → Stand (as_plain answer) (commands_of line old.settings) there
        → new.settings ≡ all_applied old.settings here → (new.is_whole ≡ true → new.other ≡ all_applied old.settings there) → (IsOn new → there ≡ here) → Goes line answer old new first second
    goes_by line answer new here there stand also is other on = record {
      one = first ++ here;
      two = first ++ there;
      holds = record {
        settings = read;
        other = λ whole. other whole ∙ after there;
        same = λ now. ap (λ (l : List Command). first ++ l) (on now);
      };
      comes = come;
    }
      where
        after : (done : List Command) → all_applied old.settings done ≡ all_applied start (first ++ done)
        after done = ap (λ (m : Map). all_applied m done) was.settings ∙ sym (both_applied start first done)

        read : new.settings ≡ all_applied start (first ++ here)
        read = is ∙ after here

        come : (log : List Command) → IsOneOf new (first ++ here) (first ++ there) log → ComesFrom line answer old new first second log
        come log (inl same) = record { before = first; is = inl refl; done = here; stand = stand; more = same; reads = λ now. read ∙ ap (all_applied start) (sym same) }
        come log (inr same) = record { before = first; is = inl refl; done = there; stand = also; more = same.0; reads = λ now. on_or_off new.is_on now same.1 }

    -- no command, and the settings stay
    stays : (line : Line) (answer : Answer) (new : State) → Stand (as_plain answer) (commands_of line old.settings) [] → new.settings ≡ old.settings → (new.is_whole ≡ true → new.other ≡ old.settings)
        → Goes line answer old new first second
    stays line answer new stand is other =
        goes_by line answer new [] [] stand stand (is ∙ sym (none_applied old.settings)) (λ whole. other whole ∙ sym (none_applied old.settings)) (λ now. refl)

    -- the trusted area was replaced
    moved : (line : Line) (answer : Answer) (new : State) → Stand (as_plain answer) (commands_of line old.settings) [] → IsOff old → old.is_whole ≡ true → new.is_whole ≡ false → new.settings ≡ old.other
        → Goes line answer old new first second
    moved line answer new stand off whole not is = record {
      one = second;
      two = second;
      holds = record { settings = is ∙ was.other whole; other = λ now. on_or_off new.is_whole now not; same = λ now. refl };
      comes = come;
    }
      where
        by : (log : List Command) → log ≡ second → ComesFrom line answer old new first second log
        by log same = record { before = second; is = inr (refl, off); done = []; stand = stand; more = same ∙ sym (append-nil second); reads = λ now. is ∙ was.other whole ∙ ap (all_applied start) (sym same) }

        come : (log : List Command) → IsOneOf new second second log → ComesFrom line answer old new first second log
        come log (inl same) = by log same
        come log (inr same) = by log same.0

    -- ---- a command

    module _ (line : Line) (command : Command) (are : commands_of line old.settings ≡ changing old.settings command) where
      one_changes : is_idle old.settings command ≡ false → changing old.settings command ≡ command ∷ []
      one_changes busy = cond-false (is_idle old.settings command) [] (command ∷ []) busy

      stands_all : (units : ℕ) → is_idle old.settings command ≡ false → Stand (settings.Lost units false) (commands_of line old.settings) (command ∷ [])
      stands_all units busy = record { rest = []; are = are ∙ one_changes busy }

      stands_none : (units : ℕ) → Stand (settings.Lost units false) (commands_of line old.settings) []
      stands_none units = record { rest = commands_of line old.settings; are = refl }

      lost : (units : ℕ) (new : State) → is_idle old.settings command ≡ false → new.is_on ≡ false → HasOrNot command old.settings new.settings → HasOrNot command old.settings new.other
          → Goes line (Plain (settings.Lost units false)) old new first second
      lost units new busy off here there = let one = parted here in let two = parted there in
          goes_by line (Plain (settings.Lost units false)) new one.0 two.0 one.1 two.1 one.2 (λ whole. two.2) (λ now. on_or_off new.is_on now off)
        where
          parted : {after : Map} → HasOrNot command old.settings after
              → (done : List Command) × Stand (settings.Lost units false) (commands_of line old.settings) done × (after ≡ all_applied old.settings done)
          parted (inl none) = ([], stands_none units, none ∙ sym (none_applied old.settings))
          parted (inr all) = (command ∷ [], stands_all units busy, all ∙ sym (one_applied old.settings command))

      has_or : {A : Type 0} {after : Map} → (after ≡ old.settings) ⊎ ((after ≡ applied old.settings command) × A) → HasOrNot command old.settings after
      has_or (inl none) = inl none
      has_or (inr some) = inr some.0

      changes : (answer : settings_answer) (new : State) → Changes r command answer old new → Goes line (Plain answer) old new first second
      changes (settings.Done units) new is =
          goes_by line (Plain (settings.Done units)) new (changing old.settings command) (changing old.settings command) (sym are) (sym are) (ap (λ (s : State). s.settings) is.state) (λ whole. ap (λ (s : State). s.other) is.state) (λ now. refl)
      changes (settings.TooMany units) new is = still line (Plain (settings.TooMany units)) new is.2 refl
      changes (settings.NoSpace units need live) new is = still line (Plain (settings.NoSpace units need live)) new is.2 refl
      changes (settings.Lost units false) new is = lost units new is.changes (ap (λ (s : State). s.is_on) is.state) is.here (has_or is.there)
      changes answer new none = absurd none

    -- ---- the other lines

    gets : (name : List ℕ) (answer : settings_answer) (new : State) → Gets name answer old new → Goes (Get name) (Plain answer) old new first second
    gets name (settings.Value value) new is = still (Get name) (Plain (settings.Value value)) new is.1 refl
    gets name settings.Absent new is = still (Get name) (Plain settings.Absent) new is.1 refl
    gets name answer new none = absurd none

    reports_all : (answer : settings_answer) (new : State) → ReportsAll r answer old new → Goes Names (Plain answer) old new first second
    reports_all (settings.Names active pairs) new is = still Names (Plain (settings.Names active pairs)) new is.3 refl
    reports_all answer new none = absurd none

    not_mounted : (units : ℕ) (new : State) → StopsMounting r old new → Goes Mount (Plain (settings.Lost units false)) old new first second
    not_mounted units new is =
        stays Mount (Plain (settings.Lost units false)) new (record { rest = []; are = refl }) is.settings (λ whole. on_or_off new.is_whole whole is.not_whole)

    mounts : (answer : settings_answer) (new : State) → Mounts r answer old new → Goes Mount (Plain answer) old new first second
    mounts (settings.Done units) new is = stays Mount (Plain (settings.Done units)) new refl (ap (λ (s : State). s.settings) is) (λ whole. ap (λ (s : State). s.other) is)
    mounts (settings.Lost units false) new is = not_mounted units new is
    mounts answer new none = absurd none

    arms : (line : Line) (answer : settings_answer) (new : State) → commands_of line old.settings ≡ [] → Arms answer old new → Goes line (Plain answer) old new first second
    arms line (settings.Done units) new none is = still line (Plain (settings.Done units)) new is.1 (sym none)
    arms line answer new none not = absurd not

    replaced : (label : List ℕ) (units place : ℕ) (new : State) (b : Bool) → (place == trusted_of r old) ≡ b → IsOff old → old.is_whole ≡ true
        → new ≡ record old { settings = cond b old.other old.settings; other = new.other; gone = new.gone; is_whole = false }
        → Goes (Blank label) (Plain (settings.Done units)) old new first second
    replaced label units place new true is off whole same =
        moved (Blank label) (Plain (settings.Done units)) new refl off whole (ap (λ (s : State). s.is_whole) same) (ap (λ (s : State). s.settings) same)
    replaced label units place new false is off whole same =
        stays (Blank label) (Plain (settings.Done units)) new refl (ap (λ (s : State). s.settings) same) (λ now. on_or_off new.is_whole now (ap (λ (s : State). s.is_whole) same))

    blanks : (label : List ℕ) (answer : settings_answer) (new : State) → Blanks r label (Plain answer) old new → Goes (Blank label) (Plain answer) old new first second
    blanks label (settings.Done units) new is =
        replaced label units is.3.0 new (is.3.0 == trusted_of r old) refl is.1 is.2 is.3.2
    blanks label answer new none = absurd none

    by_line : (line : Line) (answer : settings_answer) (new : State) → Reports r line answer old new → Goes line (Plain answer) old new first second
    by_line (Set name value) answer new is = changes (Set name value) (command_of name value) refl answer new is
    by_line (Del name) answer new is = changes (Del name) (Delete name) refl answer new is
    by_line (Get name) answer new is = gets name answer new is
    by_line Names answer new is = reports_all answer new is
    by_line Mount answer new is = mounts answer new is
    by_line (Cut units) answer new is = arms (Cut units) answer new refl is
    by_line Uncut answer new is = arms Uncut answer new refl is
    by_line (Blank label) answer new is = blanks label answer new is

    goes_on : (line : Line) (answer : Answer) (new : State) → Step r line answer old new → Goes line answer old new first second
    goes_on line (Plain settings.Off) new is = still line (Plain settings.Off) new is.2 refl
    goes_on line (Plain answer) new is = by_line line answer new is.1
    goes_on (Blank label) On new is = still (Blank label) On new is.1 refl
    goes_on (Blank label) NoArea new is = still (Blank label) NoArea new is.2 refl
    goes_on (Blank label) NotYet new is = still (Blank label) NotYet new is.3 refl
    goes_on line answer new none = absurd none

  -- ---- a whole run

  record Continues (lines : List Line) (answers : List Answer) (old : State) (first second : List Command) (new : State) : Type 0 where
    pub before : List Command
    pub is : IsOneOf old first second before
    pub log : List Command
    pub runs : Follows (LogStep r start) lines answers (record { state = old; log = before }) (record { state = new; log = log })
    pub settings : new.settings ≡ all_applied start log

  one_more : (line : Line) (lines : List Line) (answer : Answer) (answers : List Answer) (old mid new : State) (first second : List Command) → Step r line answer old mid → IsMirrored mid
      → (head : Goes line answer old mid first second) → Continues lines answers mid head.one head.two new → Continues (line ∷ lines) (answer ∷ answers) old first second new
  one_more line lines answer answers old mid new first second step both head tail =
      let from = head.comes tail.before tail.is in
      record {
        before = from.before;
        is = from.is;
        log = tail.log;
        runs = (
          record { state = mid; log = tail.before },
          record { step = step; done = from.done; stand = from.stand; log = from.more; reads = from.reads; both = both },
          tail.runs,
        );
        settings = tail.settings;
      }

  continues : (lines : List Line) (answers : List Answer) (old new : State) (first second : List Command) → Holds old first second → IsMirrored old → Follows (Step r) lines answers old new
      → Continues lines answers old first second new
  continues [] [] old new first second was both same = record {
    before = first;
    is = inl refl;
    log = first;
    runs = ap (λ (s : State). record { state = s; log = first }) same;
    settings = ap (λ (s : State). s.settings) same ∙ was.settings;
  }
  continues [] (answer ∷ answers) old new first second was both none = absurd none
  continues (line ∷ lines) [] old new first second was both none = absurd none
  continues (line ∷ lines) (answer ∷ answers) old new first second was both runs =
      let head = goes_on old first second was line answer runs.0 runs.1 in
      let both_then = step_mirrored r line answer old runs.0 runs.1 both in
      one_more line lines answer answers old runs.0 new first second runs.1 both_then head (continues lines answers runs.0 new head.one head.two head.holds both_then runs.2)

pub holds_acknowledged : HoldsAcknowledged
holds_acknowledged r lines answers old new not off runs = by (continues r old.settings lines answers old new [] [] start (off_mirrored old off) runs)
  where
    start : Holds r old.settings old [] []
    start = record { settings = sym (none_applied old.settings); other = λ now. on_or_off old.is_whole now not; same = λ now. refl }

    none_before : (log : List Command) → IsOneOf r old.settings old [] [] log → log ≡ []
    none_before log (inl is) = is
    none_before log (inr is) = is.0

    by : Continues r old.settings lines answers old [] [] new → IsAfterPrefix r lines answers old new
    by is = record {
      log = is.log;
      runs =
          subst (λ (l : List Command). Follows (LogStep r old.settings) lines answers (record { state = old; log = l }) (record { state = new; log = is.log }))
          (none_before is.before is.is) is.runs;
      settings = is.settings;
    }

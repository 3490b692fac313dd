-- All records of a run, and its power.
use Rattle.std.proofs.Common.{◌≡◌, inl, inr, ℕ, ◌+◌, Bool, true, false, List, [], ◌∷◌, ◌++◌, length, length-append, append_assoc, append-nil, refl, sym, ap, ◌∙◌, arith}
use Rattle.std.proofs.lemmas.Bool.{false≢true}
use Rattle.flash_map.specs.declared.area.Geometry.{Geometry}
use Rattle.event_ring.specs.Appending.{LeavesLog, torn_body}
use Rattle.session_table.specs.Follows.{Follows}
use Rattle.session_table.proofs.FollowsLemmas.{seen, then}
use Rattle.log_session.specs.declared.line.Line.{Line}
use Rattle.log_session.specs.declared.line.Line.TheVariants.{Put, Records as AllRecords, Cut, Uncut, Mount}
use Rattle.log_session.specs.declared.answer.Answer.{Answer}
use Rattle.log_session.specs.declared.answer.Answer.TheVariants.{Done, Appended, Log, Lost, Off}
use Rattle.log_session.specs.History.{HoldsRest, Leaves, LogStep, Logged, PowerStep, Takes, TakesPrefix}
use Rattle.log_session.specs.Laws.{HoldsAcknowledged, LosesPower, RunsInRow}
use Rattle.log_session.specs.Step.{Answers, Appends, Arms, Drops, Mounts, State, Step, Reports}

-- what became of a line's records, and that the log is the rest of all
record GoesOn (geometry : Geometry) (line : Line) (answer : Answer) (log all : List (List ℕ)) (dropped : ℕ) (new : State) : Type 0 where
  pub left : List (List ℕ)
  pub leaves : Leaves line answer left
  pub taken : ℕ
  pub takes : Takes geometry line answer log taken
  pub rest : HoldsRest (record { state = new; all = all ++ left; dropped = dropped + taken })

module _ (geometry : Geometry) (all : List (List ℕ)) (dropped : ℕ) (old : State) (holds : HoldsRest (record { state = old; all = all; dropped = dropped })) where
  -- a line that leaves the log
  stays : (line : Line) (answer : Answer) (new : State) → Leaves line answer [] → Takes geometry line answer old.log 0 → new.log ≡ old.log → GoesOn geometry line answer old.log all dropped new
  stays line answer new leaves takes same = record {
    left = [];
    leaves = leaves;
    taken = 0;
    takes = takes;
    rest = record {
      prefix = holds.prefix;
      are = append-nil all ∙ holds.are ∙ ap (λ (log : List (List ℕ)). holds.prefix ++ log) (sym same);
      count = holds.count ∙ omega arith;
    };
  }

  -- some of the oldest records are dropped, and these are put behind the others
  goes : (line : Line) (answer : Answer) (new : State) (taken : ℕ) (rest left : List (List ℕ)) → Leaves line answer left → Takes geometry line answer old.log taken → Drops geometry taken old.log rest → new.log ≡ rest ++ left
      → GoesOn geometry line answer old.log all dropped new
  goes line answer new taken rest left leaves takes drops same = record {
    left = left;
    leaves = leaves;
    taken = taken;
    takes = takes;
    rest = record {
      prefix = holds.prefix ++ drops.prefix;
      are =
          ap (λ (a : List (List ℕ)). a ++ left) (holds.are ∙ ap (λ (log : List (List ℕ)). holds.prefix ++ log) drops.are ∙ sym (append_assoc holds.prefix drops.prefix rest))
          ∙ append_assoc (holds.prefix ++ drops.prefix) rest left ∙ ap (λ (log : List (List ℕ)). holds.prefix ++ drops.prefix ++ log) (sym same);
      count = length-append holds.prefix drops.prefix ∙ ap (λ (n : ℕ). n + length drops.prefix) holds.count ∙ ap (λ (n : ℕ). dropped + n) (sym drops.count);
    };
  }

  none_taken : TakesPrefix geometry old.log 0
  none_taken = (old.log, record { prefix = []; are = refl; count = refl; one_sector = omega arith })

  lost : (body : List ℕ) (units : ℕ) (chance : Bool) (new : State) (taken : ℕ) (rest : List (List ℕ)) → Drops geometry taken old.log rest → LeavesLog chance old.log rest body new.log
      → GoesOn geometry (Put body) (Lost units chance) old.log all dropped new
  lost body units true new taken rest drops log = goes (Put body) (Lost units true) new taken rest (torn_body body log.0 ∷ []) (log.0, log.1, refl) (rest, drops) drops log.2
  lost body units false new taken rest drops (inl same) = stays (Put body) (Lost units false) new (inl refl) none_taken same
  lost body units false new taken rest drops (inr (inl same)) = goes (Put body) (Lost units false) new taken rest [] (inl refl) (rest, drops) drops (same ∙ sym (append-nil rest))
  lost body units false new taken rest drops (inr (inr same)) = goes (Put body) (Lost units false) new taken rest (body ∷ []) (inr refl) (rest, drops) drops same

  appends : (last : ℕ) (body : List ℕ) (answer : Answer) (new : State) → Appends geometry last body answer old new → GoesOn geometry (Put body) answer old.log all dropped new
  appends last body (Appended units taken) new is = goes (Put body) (Appended units taken) new taken is.rest (body ∷ []) refl (refl, (is.rest, is.drops)) is.drops (ap (λ (s : State). s.log) is.state)
  appends last body (Lost units chance) new is = lost body units chance new is.dropped is.rest is.drops is.log
  appends last body answer new none = absurd none

  reports : (answer : Answer) (new : State) → Reports answer old new → GoesOn geometry AllRecords answer old.log all dropped new
  reports (Log bodies) new is = stays AllRecords (Log bodies) new refl refl (ap (λ (s : State). s.log) is.1)
  reports answer new none = absurd none

  mounts : (answer : Answer) (new : State) → Mounts answer old new → GoesOn geometry Mount answer old.log all dropped new
  mounts (Done units) new is = stays Mount (Done units) new refl refl (ap (λ (s : State). s.log) is)
  mounts (Lost units false) new is = stays Mount (Lost units false) new refl refl (ap (λ (s : State). s.log) is)
  mounts answer new none = absurd none

  arms_cut : (units : ℕ) (answer : Answer) (new : State) → Arms answer old new → GoesOn geometry (Cut units) answer old.log all dropped new
  arms_cut units (Done spent) new is = stays (Cut units) (Done spent) new refl refl (ap (λ (s : State). s.log) is.1)
  arms_cut units answer new none = absurd none

  arms_uncut : (answer : Answer) (new : State) → Arms answer old new → GoesOn geometry Uncut answer old.log all dropped new
  arms_uncut (Done spent) new is = stays Uncut (Done spent) new refl refl (ap (λ (s : State). s.log) is.1)
  arms_uncut answer new none = absurd none

  by_line : (last : ℕ) (line : Line) (answer : Answer) (new : State) → Answers geometry last line answer old new → GoesOn geometry line answer old.log all dropped new
  by_line last (Put body) answer new is = appends last body answer new is
  by_line last AllRecords answer new is = reports answer new is
  by_line last Mount answer new is = mounts answer new is
  by_line last (Cut units) answer new is = arms_cut units answer new is
  by_line last Uncut answer new is = arms_uncut answer new is

  off_line : (line : Line) (new : State) → new ≡ old → GoesOn geometry line Off old.log all dropped new
  off_line (Put body) new same = stays (Put body) Off new refl refl (ap (λ (s : State). s.log) same)
  off_line AllRecords new same = stays AllRecords Off new refl refl (ap (λ (s : State). s.log) same)
  off_line Mount new same = stays Mount Off new refl refl (ap (λ (s : State). s.log) same)
  off_line (Cut units) new same = stays (Cut units) Off new refl refl (ap (λ (s : State). s.log) same)
  off_line Uncut new same = stays Uncut Off new refl refl (ap (λ (s : State). s.log) same)

  goes_on : (last : ℕ) (line : Line) (answer : Answer) (new : State) → Step geometry last line answer old new → GoesOn geometry line answer old.log all dropped new
  goes_on last line Off new is = off_line line new is.2
  goes_on last line answer new is = by_line last line answer new is.1

-- ---- a whole run

-- from a state on
record Continues (geometry : Geometry) (last : ℕ) (lines : List Line) (answers : List Answer) (from : Logged) (new : State) : Type 0 where
  pub all : List (List ℕ)
  pub dropped : ℕ
  pub runs : Follows (LogStep geometry last) lines answers from (record { state = new; all = all; dropped = dropped })

continues : (geometry : Geometry) (last : ℕ) (lines : List Line) (answers : List Answer) (all : List (List ℕ)) (dropped : ℕ) (old new : State) → HoldsRest (record { state = old; all = all; dropped = dropped })
    → Follows (Step geometry last) lines answers old new → Continues geometry last lines answers (record { state = old; all = all; dropped = dropped }) new
continues geometry last [] [] all dropped old new holds same = record { all = all; dropped = dropped; runs = ap (λ (s : State). record { state = s; all = all; dropped = dropped }) same }
continues geometry last [] (answer ∷ answers) all dropped old new holds none = absurd none
continues geometry last (line ∷ lines) [] all dropped old new holds none = absurd none
continues geometry last (line ∷ lines) (answer ∷ answers) all dropped old new holds runs =
    let head = goes_on geometry all dropped old holds last line answer runs.0 runs.1 in
    let tail = continues geometry last lines answers (all ++ head.left) (dropped + head.taken) runs.0 new head.rest runs.2 in
    record {
      all = tail.all;
      dropped = tail.dropped;
      runs = (
        record { state = runs.0; all = all ++ head.left; dropped = dropped + head.taken },
        (runs.1, record { left = head.left; leaves = head.leaves; all = refl; taken = head.taken; takes = head.takes; dropped = refl }, head.rest),
        tail.runs,
      );
    }

pub holds_acknowledged : HoldsAcknowledged
holds_acknowledged geometry last lines answers old new runs =
    let whole = continues geometry last lines answers old.log 0 old new (record { prefix = []; are = refl; count = refl }) runs in
    record { all = whole.all; dropped = whole.dropped; runs = whole.runs }

-- ---- power

power : (old new : State) → new ≡ old → new.is_on ≡ old.is_on
power old new same = ap (λ (s : State). s.is_on) same

line_power : (geometry : Geometry) (last : ℕ) (line : Line) (answer : Answer) (old new : State) → Answers geometry last line answer old new → PowerStep line answer old.is_on new.is_on
line_power geometry last (Put body) (Appended units dropped) old new is = ap (λ (s : State). s.is_on) is.state
line_power geometry last (Put body) (Lost units chance) old new is = is.off
line_power geometry last (Put body) answer old new none = absurd none
line_power geometry last AllRecords (Log bodies) old new is = power old new is.1
line_power geometry last AllRecords answer old new none = absurd none
line_power geometry last Mount (Done units) old new is = ap (λ (s : State). s.is_on) is
line_power geometry last Mount (Lost units false) old new is = ap (λ (s : State). s.is_on) is
line_power geometry last Mount answer old new none = absurd none
line_power geometry last (Cut after) (Done units) old new is = power old new is.1
line_power geometry last (Cut after) answer old new none = absurd none
line_power geometry last Uncut (Done units) old new is = power old new is.1
line_power geometry last Uncut answer old new none = absurd none

step_power : (geometry : Geometry) (last : ℕ) (line : Line) (answer : Answer) (old new : State) → Step geometry last line answer old new → PowerStep line answer old.is_on new.is_on
step_power geometry last Mount Off old new is = absurd (false≢true is.0)
step_power geometry last line Off old new is = power old new is.2
step_power geometry last line answer old new is = line_power geometry last line answer old new is.1

pub loses_power : LosesPower
loses_power geometry last lines answers old new runs = seen (Step geometry last) PowerStep (λ s. s.is_on) (step_power geometry last) lines answers old new runs

pub runs_in_row : RunsInRow
runs_in_row geometry last lines more answers others old mid new runs rest = then (Step geometry last) lines more answers others old mid new runs rest

-- What becomes of the commands of a run.
use Rattle.std.proofs.Common.{◌≡◌, ℕ, true, false, List, [], ◌∷◌, ◌++◌, map, refl, sym, ap, subst}
use Rattle.script_lines.specs.declared.line.Line.{Line}
use Rattle.script_lines.specs.declared.line.Line.TheVariants.{Set, Get, Del as Delete, Register, Load, Direct, Save, Commit, RunSet, RunGet, Names, Mount, Cut, Uncut, Migrate}
use Rattle.script_lines.specs.declared.answer.Answer.{Answer}
use Rattle.script_lines.specs.declared.answer.Answer.TheVariants.{Done, Value, Absent, Lost, Off, NoSpace, TooMany, Exists, NoKind, NoTarget, Rejected, NoHandler, Loaded, Direct as Named, Saved, Names as AllNamed}
use Rattle.backend_api.specs.Commands.{Command, applied, all_applied}
use Rattle.backend_api.specs.Map.{Map}
use Rattle.session_table.specs.Commands.{commands_of}
use Rattle.session_table.specs.Follows.{Follows}
use Rattle.session_table.specs.Prefix.{Stand}
use Rattle.session_table.specs.Rules.{Rules}
use Rattle.session_table.specs.State.{State}
use Rattle.session_table.specs.Step.{Step, CommandsLost}
use Rattle.session_table.specs.Torn.{Deed, DoAll, BecomeOf, DeedStep, IsAfterDeeds}
use Rattle.session_table.specs.Torn.Deed.{did, tore}
use Rattle.session_table.proofs.CommandLemmas.{none_applied, one_applied}
use Rattle.session_table.proofs.PrefixLemmas.{After, step_after}

module _ (r : Rules) where
  did_all : (settings : Map) (commands : List Command) → DoAll r (map did commands) settings (all_applied settings commands)
  did_all settings [] = none_applied settings
  did_all settings (command ∷ commands) =
      (applied settings command, refl, subst (λ (m : Map). DoAll r (map did commands) (applied settings command) m) (sym (one_applied settings command commands)) (did_all (applied settings command) commands))

  do_then : (first more : List Deed) (old mid new : Map) → DoAll r first old mid → DoAll r more mid new → DoAll r (first ++ more) old new
  do_then [] more old mid new same rest = subst (λ (m : Map). DoAll r more m new) same rest
  do_then (deed ∷ first) more old mid new deeds rest = (deeds.0, deeds.1, do_then first more deeds.0 mid new deeds.2 rest)

  -- what became of a line's commands made the settings
  record Became (place : ℕ) (answer : Answer) (commands : List Command) (old new : Map) : Type 0 where
    pub deeds : List Deed
    pub become : BecomeOf place answer commands deeds
    pub made : DoAll r deeds old new

  torn_became : (units : ℕ) (commands : List Command) (old new : State) → CommandsLost r commands true old new → Became old.active (Lost units true) commands old.settings new.settings
  torn_became units commands old new is = let torn = is.0 in record {
    deeds = map did torn.split.done ++ tore old.active torn.split.at torn.units ∷ [];
    become = record { prefix = torn.split.done; at = torn.split.at; rest = torn.split.left; units = torn.units; are = torn.split.is; deeds_are = refl };
    made = do_then (map did torn.split.done) (tore old.active torn.split.at torn.units ∷ []) old.settings (all_applied old.settings torn.split.done) new.settings (did_all old.settings torn.split.done)
        (new.settings, torn.torn, refl);
  }

  -- by the lines in which a loss may tear
  torn_line : (line : Line) (units : ℕ) (old new : State) → Step r line (Lost units true) old new → Became old.active (Lost units true) (commands_of line old) old.settings new.settings
  torn_line (Set name value) units old new is = torn_became units (commands_of (Set name value) old) old new is.1.1
  torn_line (Delete name) units old new is = torn_became units (commands_of (Delete name) old) old new is.1.1
  torn_line (Save subtree) units old new is = torn_became units (commands_of (Save subtree) old) old new is.1
  torn_line (Get name) units old new is = absurd is.1
  torn_line (Direct subtree) units old new is = absurd is.1
  torn_line Names units old new is = absurd is.1
  torn_line (Register subtree kind) units old new is = absurd is.1
  torn_line (Load subtree) units old new is = absurd is.1
  torn_line Commit units old new is = absurd is.1
  torn_line (RunSet name value) units old new is = absurd is.1
  torn_line (RunGet name) units old new is = absurd is.1
  torn_line Mount units old new is = absurd is.1
  torn_line (Cut cut) units old new is = absurd is.1
  torn_line Uncut units old new is = absurd is.1
  torn_line Migrate units old new is = absurd is.1.2

  whole : (place : ℕ) (answer : Answer) (commands : List Command) (old new : State) → ((deeds : List Deed) → ((done : List Command) × Stand answer commands done × (deeds ≡ map did done)) → BecomeOf place answer commands deeds)
      → After commands answer old new → Became place answer commands old.settings new.settings
  whole place answer commands old new as_such after = record {
    deeds = map did after.done;
    become = as_such (map did after.done) (after.done, after.stand, refl);
    made = subst (λ (m : Map). DoAll r (map did after.done) old.settings m) (sym after.settings) (did_all old.settings after.done);
  }

  became : (line : Line) (answer : Answer) (old new : State) → Step r line answer old new → Became old.active answer (commands_of line old) old.settings new.settings
  became line (Lost units true) old new is = torn_line line units old new is
  became line (Lost units false) old new is = whole old.active (Lost units false) (commands_of line old) old new (λ deeds such. such) (step_after r line (Lost units false) old new is refl)
  became line (Done units) old new is = whole old.active (Done units) (commands_of line old) old new (λ deeds such. such) (step_after r line (Done units) old new is refl)
  became line (Value value) old new is = whole old.active (Value value) (commands_of line old) old new (λ deeds such. such) (step_after r line (Value value) old new is refl)
  became line Absent old new is = whole old.active Absent (commands_of line old) old new (λ deeds such. such) (step_after r line Absent old new is refl)
  became line Off old new is = whole old.active Off (commands_of line old) old new (λ deeds such. such) (step_after r line Off old new is refl)
  became line (NoSpace units need live) old new is = whole old.active (NoSpace units need live) (commands_of line old) old new (λ deeds such. such) (step_after r line (NoSpace units need live) old new is refl)
  became line (TooMany units) old new is = whole old.active (TooMany units) (commands_of line old) old new (λ deeds such. such) (step_after r line (TooMany units) old new is refl)
  became line Exists old new is = whole old.active Exists (commands_of line old) old new (λ deeds such. such) (step_after r line Exists old new is refl)
  became line NoKind old new is = whole old.active NoKind (commands_of line old) old new (λ deeds such. such) (step_after r line NoKind old new is refl)
  became line NoTarget old new is = whole old.active NoTarget (commands_of line old) old new (λ deeds such. such) (step_after r line NoTarget old new is refl)
  became line Rejected old new is = whole old.active Rejected (commands_of line old) old new (λ deeds such. such) (step_after r line Rejected old new is refl)
  became line NoHandler old new is = whole old.active NoHandler (commands_of line old) old new (λ deeds such. such) (step_after r line NoHandler old new is refl)
  became line (Loaded gives taken rejected passed) old new is =
      whole old.active (Loaded gives taken rejected passed) (commands_of line old) old new (λ deeds such. such) (step_after r line (Loaded gives taken rejected passed) old new is refl)
  became line (Named pairs) old new is = whole old.active (Named pairs) (commands_of line old) old new (λ deeds such. such) (step_after r line (Named pairs) old new is refl)
  became line (Saved pairs units end) old new is = whole old.active (Saved pairs units end) (commands_of line old) old new (λ deeds such. such) (step_after r line (Saved pairs units end) old new is refl)
  became line (AllNamed active pairs) old new is = whole old.active (AllNamed active pairs) (commands_of line old) old new (λ deeds such. such) (step_after r line (AllNamed active pairs) old new is refl)

  -- from a state on, with what became of the commands before it
  record GoesOn (lines : List Line) (answers : List Answer) (first : Map) (before : List Deed) (old new : State) : Type 0 where
    pub deeds : List Deed
    pub runs : Follows (DeedStep r) lines answers (record { state = old; deeds = before }) (record { state = new; deeds = deeds })
    pub settings : DoAll r deeds first new.settings

  goes_on : (lines : List Line) (answers : List Answer) (first : Map) (before : List Deed) (old new : State) → DoAll r before first old.settings → Follows (Step r) lines answers old new → GoesOn lines answers first before old new
  goes_on [] [] first before old new so_far is =
      record { deeds = before; runs = ap (λ (s : State). record { state = s; deeds = before }) is; settings = subst (λ (s : State). DoAll r before first s.settings) (sym is) so_far }
  goes_on [] (answer ∷ answers) first before old new so_far none = absurd none
  goes_on (line ∷ lines) [] first before old new so_far none = absurd none
  goes_on (line ∷ lines) (answer ∷ answers) first before old new so_far runs =
      let head = became line answer old runs.0 runs.1 in
      let mid = do_then before head.deeds first old.settings runs.0.settings so_far head.made in
      let tail = goes_on lines answers first (before ++ head.deeds) runs.0 new mid runs.2 in
      record {
        deeds = tail.deeds;
        runs = (
          record { state = runs.0; deeds = before ++ head.deeds },
          record { step = runs.1; done = head.deeds; become = head.become; deeds = refl; settings = head.made },
          tail.runs,
        );
        settings = tail.settings;
      }

  pub run_deeds : (lines : List Line) (answers : List Answer) (old new : State) → Follows (Step r) lines answers old new → IsAfterDeeds r lines answers old new
  run_deeds lines answers old new runs =
      let all = goes_on lines answers old.settings [] old new refl runs in
      record { deeds = all.deeds; runs = all.runs; settings = all.settings }

-- Lines one after another, behind the mount that opens a session.
use Rattle.std.proofs.Common.{◌≡◌, ℕ, ◌+◌, ◌<◌, ◌≤◌, List, [], ◌∷◌, ◌++◌, length, take, drop, get_or, None, true, sym, ap, subst, ◌∙◌, arith}
use Rattle.std.proofs.lemmas.List.{take_more, take_all, take-append-drop}
use Rattle.flash_sim.specs.Device.{Device}
use Rattle.flash_map.specs.declared.area.Area.{Area}
use Rattle.fcb_ring.specs.Standing.{erases_on, ring_damage}
use Rattle.session_table.specs.Follows.{Follows}
use Rattle.session_table.proofs.FollowsLemmas.{last, one}
use Rattle.log_session.specs.declared.line.Line.{Line}
use Rattle.log_session.specs.declared.line.Line.TheVariants.{Mount}
use Rattle.log_session.specs.declared.answer.Answer.{Answer}
use Rattle.log_session.specs.LineDone.{LineDone}
use Rattle.log_session.specs.declared.session.LogSession.{LogSession}
use Rattle.log_session.specs.Running.{Ran, RunStops}
use Rattle.log_session.specs.Standing.{IsReady}
use Rattle.log_session.proofs.LineLemmas.{at_rest}
use Rattle.log_session.proofs.RunLemmas.{runs_of}

lines_on : (lines : List Line) (i : ℕ) (line : Line) → i < length lines → line ≡ get_or lines i line → take (i + 1) lines ≡ take i lines ++ line ∷ []
lines_on lines i line below is = take_more lines i line below ∙ ap (λ (x : Line). take i lines ++ x ∷ []) (sym is)

module _ (area : Area) where
  -- the mount and so many lines were carried out
  abbrev pub RanTo : List Line → ℕ → List Answer → Device → Device → Type 0
  RanTo lines i answers first now = Follows (LineDone area) (Mount ∷ take i lines) answers first now

  pub opened : (lines : List Line) (answer : Answer) (first now : Device) → LineDone area Mount answer first now → RanTo lines 0 ([] ++ answer ∷ []) first now
  opened lines answer first now is = one (LineDone area) Mount answer first now is

  pub one_more : (lines : List Line) (i : ℕ) (line : Line) (answers : List Answer) (answer : Answer) (first mid new : Device) → i < length lines → line ≡ get_or lines i line → RanTo lines i answers first mid
      → LineDone area line answer mid new → RanTo lines (i + 1) (answers ++ answer ∷ []) first new
  one_more lines i line answers answer first mid new below is so_far done =
      subst (λ (prefix : List Line). Follows (LineDone area) (Mount ∷ prefix) (answers ++ answer ∷ []) first new) (sym (lines_on lines i line below is))
      (last (LineDone area) (Mount ∷ take i lines) line answers answer first mid new so_far done)

  -- what a run is as a whole
  whole : (lines : List Line) (answers : List Answer) (old new : Device) → Follows (LineDone area) lines answers old new → Ran area lines answers old new
  whole lines answers old new turns = record { in_turn = turns; whole = runs_of area lines answers old new turns }

  pub ran : (lines : List Line) (i : ℕ) (answers : List Answer) (first now : Device) → length lines ≤ i → RanTo lines i answers first now → Ran area (Mount ∷ lines) answers first now
  ran lines i answers first now all so_far =
      whole (Mount ∷ lines) answers first now (subst (λ (prefix : List Line). Follows (LineDone area) (Mount ∷ prefix) answers first now) (take_all i lines all) so_far)

  -- memory was wanting behind the first ones
  pub stops : (lines : List Line) (i : ℕ) (answers : List Answer) (first now : Device) → RanTo lines i answers first now → RunStops area (Mount ∷ lines) first now
  stops lines i answers first now so_far = record {
    prefix = Mount ∷ take i lines;
    rest = drop i lines;
    are = ap (λ (rest : List Line). Mount ∷ rest) (sym (take-append-drop i lines));
    some = omega arith;
    answers = answers;
    ran = whole (Mount ∷ take i lines) answers first now so_far;
  }

-- ---- the session behind them

pub sound_still : (area : Area) (d : Device) (session : LogSession) → session.area ≡ area → IsReady d session → ring_damage d area ≡ None
sound_still area d session same ready = subst (λ (a : Area). ring_damage d a ≡ None) same ready.sound.undamaged

pub rested_still : (area : Area) (d : Device) (session : LogSession) → session.area ≡ area → IsReady d session → d.is_on ≡ true → erases_on d area ≡ 0
rested_still area d session same ready on = subst (λ (a : Area). erases_on d a ≡ 0) same (at_rest d session.area session.log ready.mounted on)

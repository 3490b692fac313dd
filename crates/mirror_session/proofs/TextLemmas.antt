-- Answers have texts: the label of the area that is read is one, and names rise.
use Rattle.std.proofs.Common.{◌≡◌, ℕ, ◌≤◌, Bool, true, cond, List, [], ◌∷◌, sym, ap, subst, ◌∙◌, arith}
use Rattle.std.specs.Prelude.{All}
use Rattle.std.proofs.lemmas.List.Elements.{All-nil, All-cons}
use Rattle.flash_map.specs.declared.area.Area.{Area}
use Rattle.image_file.specs.Lawful.{IsLabel}
use Rattle.migrator.specs.Active.{active_on}
use Rattle.migrator.specs.Areas.{first_store, is_store_at}
use Rattle.script_lines.specs.declared.answer.Answer.{Answer as settings_answer}
use Rattle.script_lines.specs.declared.answer.Answer.TheVariants.{Done, Value, Absent, Lost, Off, NoSpace, TooMany, Exists, NoKind, NoTarget, Rejected, NoHandler, Loaded, Direct as Listed, Saved, Names as Named}
use Rattle.script_lines.specs.declared.lists.Pair.{Pair}
use Rattle.script_lines.specs.Answer.{CanReport as CanReportSettings, Rise}
use Rattle.session_table.specs.Follows.{Follows}
use Rattle.session.specs.Texts.{AreLabelled}
use Rattle.session.proofs.TextLemmas.{active_is_store, names_rise}
use Rattle.mirror_session.specs.declared.line.Line.{Line}
use Rattle.mirror_session.specs.declared.line.Line.TheVariants.{Set, Get, Del, Names, Mount, Cut, Uncut, Blank}
use Rattle.mirror_session.specs.declared.answer.Answer.{Answer}
use Rattle.mirror_session.specs.declared.answer.Answer.TheVariants.{Plain, On, NoArea, NotYet}
use Rattle.mirror_session.specs.Answer.{CanReport}
use Rattle.mirror_session.specs.Bench.{Meanings, Moment, rules_of, state_of}
use Rattle.mirror_session.specs.LineDone.{LineDone}
use Rattle.mirror_session.specs.State.{Rules, State}
use Rattle.mirror_session.specs.Step.{Step}

-- ---- one answer on a mirror

named_label : (r : Rules) (line : Line) (label : List ℕ) (pairs : List Pair) (old new : State) → IsLabel (r.label old.named) → Step r line (Plain (Named label pairs)) old new
    → CanReportSettings (Named label pairs)
named_label r Names label pairs old new is step =
    (subst IsLabel (sym (step.1.0 ∙ ap (λ (b : Bool). r.label (cond b (r.beside old.named) old.named)) step.1.2)) is, subst Rise (sym step.1.1) (names_rise old.settings))
named_label r (Set name value) label pairs old new is step = absurd step.1
named_label r (Get name) label pairs old new is step = absurd step.1
named_label r (Del name) label pairs old new is step = absurd step.1
named_label r Mount label pairs old new is step = absurd step.1
named_label r (Cut units) label pairs old new is step = absurd step.1
named_label r Uncut label pairs old new is step = absurd step.1
named_label r (Blank label') label pairs old new is step = absurd step.1

can_report_settings : (r : Rules) (line : Line) (answer : settings_answer) (old new : State) → IsLabel (r.label old.named) → Step r line (Plain answer) old new → CanReportSettings answer
can_report_settings r line (Named label pairs) old new is step = named_label r line label pairs old new is step
can_report_settings r line (Done units) old new is step = tt
can_report_settings r line (Value value) old new is step = tt
can_report_settings r line Absent old new is step = tt
can_report_settings r line (Lost units chance) old new is step = tt
can_report_settings r line Off old new is step = tt
can_report_settings r line (NoSpace units need live) old new is step = tt
can_report_settings r line (TooMany units) old new is step = tt
can_report_settings r line Exists old new is step = tt
can_report_settings r line NoKind old new is step = tt
can_report_settings r line NoTarget old new is step = tt
can_report_settings r line Rejected old new is step = tt
can_report_settings r line NoHandler old new is step = tt
can_report_settings r line (Loaded gives taken rejected passed) old new is step = tt
can_report_settings r line (Listed pairs) old new is step = tt
can_report_settings r line (Saved pairs units end) old new is step = tt

can_report : (r : Rules) (line : Line) (answer : Answer) (old new : State) → IsLabel (r.label old.named) → Step r line answer old new → CanReport answer
can_report r line (Plain answer) old new is step = can_report_settings r line answer old new is step
can_report r line On old new is step = tt
can_report r line NoArea old new is step = tt
can_report r line NotYet old new is step = tt

-- ---- all of them

module _ (m : Meanings) (areas : List Area) (some : is_store_at areas (first_store areas) ≡ true) (labels : AreLabelled areas) where
  pub can_report_all : (lines : List Line) (answers : List Answer) (old new : Moment) → Follows (LineDone m areas) lines answers old new → All CanReport answers
  can_report_all [] [] old new runs = All-nil CanReport
  can_report_all [] (answer ∷ answers) old new runs = absurd runs
  can_report_all (line ∷ lines) [] old new runs = absurd runs
  can_report_all (line ∷ lines) (answer ∷ answers) old new (mid, done, rest) =
      let last : mid.device.spent ≤ mid.device.spent = omega arith in
      let step = done.step mid.device.spent last in
      let one = can_report (rules_of m areas old.device.banks mid.device.spent) line answer (state_of m areas old) (state_of m areas mid) (labels (active_on areas old.device) (active_is_store areas old.device some)) step in
      All-cons CanReport answer answers one (can_report_all lines answers mid new rest)

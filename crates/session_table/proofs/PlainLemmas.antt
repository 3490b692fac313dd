-- The table leaves nothing open but the units where no power is lost and nothing is refused for want of room.
use Rattle.std.proofs.Common.{◌≡◌, ℕ, Bool, true, false, cond, Option, Some, List, [], ◌∷◌, length, take, map, refl, sym, ap, subst, ◌∙◌, arith}
use Rattle.std.specs.Prelude.{◌-◌, All, not, ◌&&◌}
use Rattle.std.specs.FinMap.{get, entries, empty}
use Rattle.std.proofs.lemmas.Bool.{cond-true, cond-false, false≢true}
use Rattle.std.proofs.lemmas.List.{take_all}
use Rattle.std.proofs.lemmas.List.Elements.{All-head, All-tail}
use Rattle.script_lines.specs.declared.line.Line.{Line}
use Rattle.script_lines.specs.declared.line.Line.TheVariants.{Set, Get, Del as Delete, Register, Load, Direct, Save, Commit, RunSet, RunGet, Names, Mount, Cut, Uncut, Migrate}
use Rattle.script_lines.specs.declared.answer.Answer.{Answer}
use Rattle.script_lines.specs.declared.answer.Answer.TheVariants.{Done, Value, Absent, Lost, Off, NoSpace, TooMany, Exists, NoKind, NoTarget, Rejected, NoHandler, Loaded, Direct as Applied, Saved, Names as Named}
use Rattle.script_lines.specs.declared.answer.SaveEnd.{SaveEnd}
use Rattle.script_lines.specs.declared.answer.SaveEnd.TheVariants.{Whole, NoSpace as NoRoom, TooMany as ManyNames}
use Rattle.script_lines.specs.declared.lists.Give.{Give}
use Rattle.script_lines.specs.declared.lists.Pair.{Pair}
use Rattle.handlers.specs.declared.handler.HandlerKind.{HandlerKind}
use Rattle.handlers.specs.Registry.{subtrees}
use Rattle.backend_api.specs.Commands.{Command, all_applied}
use Rattle.backend_api.specs.Map.{Map}
use Rattle.settings_core.specs.Deliveries.{Delivery, delivery, is_taken, settings_under}
use Rattle.session_table.specs.Commands.{commands_of, all_puts, StopsForNames}
use Rattle.session_table.specs.Follows.{Follows}
use Rattle.session_table.specs.Rules.{Rules}
use Rattle.session_table.specs.State.{State, IsOn}
use Rattle.session_table.specs.Step.{Step, Answers, Changes, Saves, Gets, Reports, ReportsAll, Registers, Loads, Commits, Offers, Asks, Mounts, Arms, Migrates, MovesTo, reported, as_pair, deliveries_of, is_registered, without_first, held_for, needs_power}
use Rattle.session_table.specs.Plain.{Outcome, ComesOut, without_units, is_plain, free_count, all_free, carried_out, plain_change, plain_save, plain_taking, plain_register, plain_load, plain_offer, plain_asked, plain_move, plain_on, plain as plain_of, plain_answers, plain_state, value_or_absent}
use Rattle.session_table.proofs.CommandLemmas.{count_all, all_are_free, stops_at, not_all_free, prefix_is}

-- an outcome by a test
by_true : (test : Bool) (x y : Outcome) (answer : Answer) (new : State) → test ≡ true → ComesOut x answer new → ComesOut (cond test x y) answer new
by_true test x y answer new is comes = subst (λ (o : Outcome). ComesOut o answer new) (sym (cond-true test x y is)) comes

by_false : (test : Bool) (x y : Outcome) (answer : Answer) (new : State) → test ≡ false → ComesOut y answer new → ComesOut (cond test x y) answer new
by_false test x y answer new is comes = subst (λ (o : Outcome). ComesOut o answer new) (sym (cond-false test x y is)) comes

module _ (r : Rules) where
  -- where no command puts a name too many
  all_state : (commands : List Command) (old new : State) → free_count (r.room old.active) old.settings commands ≡ length commands
      → new ≡ record old { settings = all_applied old.settings commands } → new ≡ carried_out r commands old
  all_state commands old new count is =
      let prefix : take (free_count (r.room old.active) old.settings commands) commands ≡ commands = take_all (free_count (r.room old.active) old.settings commands) commands (omega (arith, count)) in
      is ∙ sym (ap (λ (cs : List Command). record old { settings = all_applied old.settings cs }) prefix)

  prefix_state : (commands : List Command) (count : ℕ) (old new : State) → StopsForNames (r.room old.active) commands count old.settings new.settings
      → new ≡ record old { settings = new.settings } → new ≡ carried_out r commands old
  prefix_state commands count old new stops is =
      is ∙ ap (λ (m : Map). record old { settings = m }) stops.settings
      ∙ sym (ap (λ (cs : List Command). record old { settings = all_applied old.settings cs }) (prefix_is (r.room old.active) commands count old.settings new.settings stops))

  change_plain : (commands : List Command) (answer : Answer) (old new : State) → Changes r commands answer old new → is_plain answer ≡ true → ComesOut (plain_change r commands old) answer new
  change_plain commands (Done units) old new is plain = (
    sym (cond-true (all_free (r.room old.active) old.settings commands) (Done 0) (TooMany 0) (all_are_free (r.room old.active) old.settings commands is.1.free)),
    all_state commands old new (count_all (r.room old.active) old.settings commands is.1.free) is.1.state,
  )
  change_plain commands (TooMany units) old new is plain = (
    sym (cond-false (all_free (r.room old.active) old.settings commands) (Done 0) (TooMany 0) (not_all_free (r.room old.active) commands 0 old.settings new.settings is.1)),
    prefix_state commands 0 old new is.1 (is.2 ∙ ap (λ (m : Map). record old { settings = m }) (sym (ap (λ (s : State). s.settings) is.2))),
  )
  change_plain commands (NoSpace units need live) old new is plain = absurd (false≢true plain)
  change_plain commands (Lost units chance) old new is plain = absurd (false≢true plain)
  change_plain commands answer old new none plain = absurd none

  save_plain : (commands : List Command) (answer : Answer) (old new : State) → Saves r commands answer old new → is_plain answer ≡ true → ComesOut (plain_save r commands old) answer new
  save_plain commands (Saved pairs units Whole) old new is plain =
      let count = count_all (r.room old.active) old.settings commands is.1.free in (
        ap (λ (n : ℕ). Saved n 0 Whole) (is.0 ∙ ap reported (sym count))
            ∙ ap (λ (e : SaveEnd). Saved (reported (free_count (r.room old.active) old.settings commands)) 0 e)
            (sym (cond-true (all_free (r.room old.active) old.settings commands) Whole ManyNames (all_are_free (r.room old.active) old.settings commands is.1.free))),
        all_state commands old new count is.1.state,
      )
  save_plain commands (Saved pairs units ManyNames) old new is plain =
      let at = stops_at (r.room old.active) commands is.0 old.settings new.settings is.2 in (
        ap (λ (n : ℕ). Saved n 0 ManyNames) (is.1 ∙ ap reported (is.2.split.count_is ∙ sym at))
            ∙ ap (λ (e : SaveEnd). Saved (reported (free_count (r.room old.active) old.settings commands)) 0 e)
            (sym (cond-false (all_free (r.room old.active) old.settings commands) Whole ManyNames (not_all_free (r.room old.active) commands is.0 old.settings new.settings is.2))),
        prefix_state commands is.0 old new is.2 is.3,
      )
  save_plain commands (Saved pairs units (NoRoom need live)) old new is plain = absurd (false≢true plain)
  save_plain commands (Lost units chance) old new is plain = absurd (false≢true plain)
  save_plain commands answer old new none plain = absurd none

  move_plain : (to : ℕ) (answer : Answer) (old new : State) → r.target old.active ≡ Some to → MovesTo r to answer old new → is_plain answer ≡ true → ComesOut (plain_move r (Some to) old) answer new
  move_plain to (Done units) old new at is plain =
      by_true (all_free (r.room to) empty (all_puts old.settings)) (record { answer = Done 0; state = record old { active = to } }) (record { answer = TooMany 0; state = old }) (Done units) new
      (all_are_free (r.room to) empty (all_puts old.settings) is.0) (refl, is.1)
  move_plain to (TooMany units) old new at is plain =
      by_false (all_free (r.room to) empty (all_puts old.settings)) (record { answer = Done 0; state = record old { active = to } }) (record { answer = TooMany 0; state = old }) (TooMany units) new
      (not_all_free (r.room to) (all_puts old.settings) is.0 empty is.1 is.2) (refl, is.3)
  move_plain to (NoSpace units need live) old new at is plain = absurd (false≢true plain)
  move_plain to (Lost units chance) old new at is plain = absurd (false≢true plain)
  move_plain to answer old new at none plain = absurd none

  to_target : (answer : Answer) (old new : State) → (to : ℕ) × (r.target old.active ≡ Some to) × MovesTo r to answer old new → is_plain answer ≡ true → ComesOut (plain_move r (r.target old.active) old) answer new
  to_target answer old new is plain = subst (λ (o : Option ℕ). ComesOut (plain_move r o old) answer new) (sym is.1) (move_plain is.0 answer old new is.1 is.2 plain)

  migrate_plain : (answer : Answer) (old new : State) → Migrates r answer old new → is_plain answer ≡ true → ComesOut (plain_move r (r.target old.active) old) answer new
  migrate_plain NoTarget old new is plain = subst (λ (o : Option ℕ). ComesOut (plain_move r o old) NoTarget new) (sym is.0) (refl, is.1)
  migrate_plain answer old new is plain = to_target answer old new is plain

get_plain : (name : List ℕ) (answer : Answer) (old new : State) → Gets name answer old new → ComesOut (record { answer = value_or_absent (get old.settings name); state = old }) answer new
get_plain name (Value value) old new is = (sym (ap value_or_absent is.0), is.1)
get_plain name Absent old new is = (sym (ap value_or_absent is.0), is.1)
get_plain name answer old new none = absurd none

register_plain : (subtree : List ℕ) (kind : HandlerKind) (answer : Answer) (old new : State) → Registers subtree kind answer old new → ComesOut (plain_register subtree kind old) answer new
register_plain subtree kind Exists old new is =
    by_true (is_registered subtree old) (record { answer = Exists; state = old }) (plain_taking subtree kind (without_first kind old.pool) old) Exists new is.0 (refl, is.1)
register_plain subtree kind NoKind old new is =
    by_false (is_registered subtree old) (record { answer = Exists; state = old }) (plain_taking subtree kind (without_first kind old.pool) old) NoKind new is.0
    (subst (λ (o : Option (List HandlerKind)). ComesOut (plain_taking subtree kind o old) NoKind new) (sym is.1) (refl, is.2))
register_plain subtree kind (Done units) old new is =
    by_false (is_registered subtree old) (record { answer = Exists; state = old }) (plain_taking subtree kind (without_first kind old.pool) old) (Done units) new is.1
    (subst (λ (o : Option (List HandlerKind)). ComesOut (plain_taking subtree kind o old) (Done units) new) (sym is.2) (refl, is.3))
register_plain subtree kind answer old new none = absurd none

loaded_same : (gives gives' : List Give) (taken taken' rejected rejected' passed passed' : ℕ) → gives ≡ gives' → taken ≡ taken' → rejected ≡ rejected' → passed ≡ passed'
    → Loaded gives taken rejected passed ≡ Loaded gives' taken' rejected' passed'
loaded_same gives gives' taken taken' rejected rejected' passed passed' a b c d = cc

load_plain : (subtree : Option (List ℕ)) (answer : Answer) (old new : State) → Loads subtree answer old new → ComesOut (plain_load subtree old) answer new
load_plain subtree (Loaded gives taken rejected passed) old new is =
    let total = is.3 in
    let left : passed ≡ length (settings_under subtree (entries old.settings)) - length (deliveries_of subtree old) = omega (arith, total) in
    (loaded_same gives _ taken _ rejected _ passed _ is.0 is.1 is.2 left, is.4)
load_plain subtree answer old new none = absurd none

offer_plain : (name value : List ℕ) (answer : Answer) (old new : State) → Offers name value answer old new → ComesOut (plain_offer (delivery (subtrees old.registry) (name, value)) old) answer new
offer_plain name value NoHandler old new is = subst (λ (o : Option Delivery). ComesOut (plain_offer o old) NoHandler new) (sym is.0) (refl, is.1)
offer_plain name value Rejected old new is =
    subst (λ (o : Option Delivery). ComesOut (plain_offer o old) Rejected new) (sym is.1) (by_false (is_taken old.registry is.0) _ _ Rejected new is.2 (refl, is.3))
offer_plain name value (Done units) old new is =
    subst (λ (o : Option Delivery). ComesOut (plain_offer o old) (Done units) new) (sym is.2) (by_true (is_taken old.registry is.0) _ _ (Done units) new is.3 (refl, is.4))
offer_plain name value answer old new none = absurd none

ask_plain : (name : List ℕ) (answer : Answer) (old new : State) → Asks name answer old new → ComesOut (record { answer = plain_asked (held_for old.registry name); state = old }) answer new
ask_plain name NoHandler old new is = (sym (ap plain_asked is.0), is.1)
ask_plain name (Value value) old new is = (sym (ap plain_asked is.0), is.1)
ask_plain name Absent old new is = (sym (ap plain_asked is.0), is.1)
ask_plain name answer old new none = absurd none

report_plain : (subtree : Option (List ℕ)) (r : Rules) (answer : Answer) (old new : State) → Reports subtree answer old new → ComesOut (plain_on r (Direct subtree) old) answer new
report_plain subtree r (Applied pairs) old new is = (ap Applied is.0, is.1)
report_plain subtree r answer old new none = absurd none

named_same : (label label' : List ℕ) (pairs pairs' : List Pair) → label ≡ label' → pairs ≡ pairs' → Named label pairs ≡ Named label' pairs'
named_same label label' pairs pairs' a b = cc

report_all_plain : (r : Rules) (answer : Answer) (old new : State) → ReportsAll r answer old new → ComesOut (plain_on r Names old) answer new
report_all_plain r (Named active pairs) old new is = (named_same active (r.label old.active) pairs (map as_pair (entries old.settings)) is.0 is.1, is.2)
report_all_plain r answer old new none = absurd none

commit_plain : (r : Rules) (answer : Answer) (old new : State) → Commits answer old new → ComesOut (plain_on r Commit old) answer new
commit_plain r (Done units) old new is = (refl, is.1)
commit_plain r answer old new none = absurd none

mount_plain : (r : Rules) (answer : Answer) (old new : State) → Mounts answer old new → is_plain answer ≡ true → ComesOut (plain_on r Mount old) answer new
mount_plain r (Done units) old new is plain = (refl, is)
mount_plain r (Lost units chance) old new is plain = absurd (false≢true plain)
mount_plain r answer old new none plain = absurd none

arm_plain : (answer : Answer) (old new : State) → Arms answer old new → ComesOut (record { answer = Done 0; state = old }) answer new
arm_plain (Done units) old new is = (refl, is.1)
arm_plain answer old new none = absurd none

on_plain : (r : Rules) (line : Line) (answer : Answer) (old new : State) → Answers r line answer old new → is_plain answer ≡ true → ComesOut (plain_on r line old) answer new
on_plain r (Set name value) answer old new is plain = change_plain r (commands_of (Set name value) old) answer old new is plain
on_plain r (Delete name) answer old new is plain = change_plain r (commands_of (Delete name) old) answer old new is plain
on_plain r (Save subtree) answer old new is plain = save_plain r (commands_of (Save subtree) old) answer old new is plain
on_plain r (Get name) answer old new is plain = get_plain name answer old new is
on_plain r (Direct subtree) answer old new is plain = report_plain subtree r answer old new is
on_plain r Names answer old new is plain = report_all_plain r answer old new is
on_plain r (Register subtree kind) answer old new is plain = register_plain subtree kind answer old new is
on_plain r (Load subtree) answer old new is plain = load_plain subtree answer old new is
on_plain r Commit answer old new is plain = commit_plain r answer old new is
on_plain r (RunSet name value) answer old new is plain = offer_plain name value answer old new is
on_plain r (RunGet name) answer old new is plain = ask_plain name answer old new is
on_plain r Mount answer old new is plain = mount_plain r answer old new is plain
on_plain r (Cut units) answer old new is plain = arm_plain answer old new is
on_plain r Uncut answer old new is plain = arm_plain answer old new is
on_plain r Migrate answer old new is plain = migrate_plain r answer old new is plain

off_test : (needs on : Bool) → needs ≡ true → on ≡ false → (needs && not on) ≡ true
off_test true false a b = refl
off_test true true a b = absurd (false≢true (sym b))
off_test false on a b = absurd (false≢true a)

on_test : (needs on : Bool) → (needs ≡ true → on ≡ true) → (needs && not on) ≡ false
on_test false on is = refl
on_test true true is = refl
on_test true false is = absurd (false≢true (is refl))

-- with power on, or at a line that needs none
powered : (r : Rules) (line : Line) (answer : Answer) (old new : State) → (needs_power line ≡ true → IsOn old) → Answers r line answer old new → is_plain answer ≡ true → ComesOut (plain_of r line old) answer new
powered r line answer old new on is plain =
    by_false (needs_power line && not old.is_on) (record { answer = Off; state = old }) (plain_on r line old) answer new (on_test (needs_power line) old.is_on on) (on_plain r line answer old new is plain)

pub step_plain : (r : Rules) (line : Line) (answer : Answer) (old new : State) → Step r line answer old new → is_plain answer ≡ true → ComesOut (plain_of r line old) answer new
step_plain r line Off old new is plain =
    by_true (needs_power line && not old.is_on) (record { answer = Off; state = old }) (plain_on r line old) Off new (off_test (needs_power line) old.is_on is.0 is.1) (refl, is.2)
step_plain r line answer old new is plain = powered r line answer old new is.0 is.1 plain

two_same : (a b : Answer) (rest others : List Answer) → a ≡ b → rest ≡ others → a ∷ rest ≡ b ∷ others
two_same a b rest others head tail = ap (λ (x : Answer). x ∷ rest) head ∙ ap (λ (xs : List Answer). b ∷ xs) tail

-- a whole run
pub run_plain : (r : Rules) (lines : List Line) (answers : List Answer) (old new : State) → Follows (Step r) lines answers old new → All (λ answer. is_plain answer ≡ true) answers
    → (map without_units answers ≡ plain_answers r lines old) × (new ≡ plain_state r lines old)
run_plain r [] [] old new same plain = (refl, same)
run_plain r [] (answer ∷ answers) old new none plain = absurd none
run_plain r (line ∷ lines) [] old new none plain = absurd none
run_plain r (line ∷ lines) (answer ∷ answers) old new runs plain =
    let head = step_plain r line answer old runs.0 runs.1 (All-head (λ answer. is_plain answer ≡ true) answer answers plain) in
    let tail = run_plain r lines answers runs.0 new runs.2 (All-tail (λ answer. is_plain answer ≡ true) answer answers plain) in (
      two_same (without_units answer) ((plain_of r line old).answer) (map without_units answers) (plain_answers r lines (plain_of r line old).state) head.0
          (tail.0 ∙ ap (plain_answers r lines) head.1),
      tail.1 ∙ ap (plain_state r lines) head.1,
    )

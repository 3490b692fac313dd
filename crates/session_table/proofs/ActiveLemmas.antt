-- When the active area changes.
use Rattle.std.proofs.Common.{◌≡◌, ◌⊎◌, ℕ, Bool, true, false, Option, Some, List, [], ◌∷◌, ◌++◌, refl, sym, ap, subst, inl, inr}
use Rattle.std.specs.Prelude.{Contains, filter_map}
use Rattle.std.proofs.lemmas.Bool.{false≢true}
use Rattle.std.proofs.lemmas.List.Elements.{Contains-append_left, Contains-append_right}
use Rattle.script_lines.specs.declared.line.Line.{Line}
use Rattle.script_lines.specs.declared.line.Line.TheVariants.{Set, Get, Del as Delete, Register, Load, Direct, Save, Commit, RunSet, RunGet, Names, Mount, Cut, Uncut, Migrate}
use Rattle.script_lines.specs.declared.answer.Answer.{Answer}
use Rattle.script_lines.specs.declared.answer.Answer.TheVariants.{Done, Value, Absent, Lost, Off, NoSpace, TooMany, Exists, NoKind, NoTarget, Rejected, NoHandler, Loaded, Direct as Applied, Saved, Names as Named}
use Rattle.script_lines.specs.declared.answer.SaveEnd.TheVariants.{Whole, NoSpace as NoRoom, TooMany as ManyNames}
use Rattle.handlers.specs.declared.handler.HandlerKind.{HandlerKind}
use Rattle.backend_api.specs.Commands.{Command}
use Rattle.session_table.specs.Commands.{commands_of}
use Rattle.session_table.specs.Rules.{Rules}
use Rattle.session_table.specs.State.{State}
use Rattle.session_table.specs.Step.{Step, Answers, CommandsLost, Changes, Saves, Gets, Reports, ReportsAll, Registers, Loads, Commits, Offers, Asks, Mounts, Arms, MovesTo}
use Rattle.session_table.specs.Bench.{worked_on, actives_after}
use Rattle.session_table.proofs.PlaceLemmas.{IsWithin, one_within, beside_within, given_of, given_within}

-- the line moves the settings to another area
abbrev pub moves : Line → Bool
moves Migrate = true
moves line = false

active : (old new : State) → new ≡ old → new.active ≡ old.active
active old new same = ap (λ (s : State). s.active) same

module _ (r : Rules) where
  lost_active : (commands : List Command) (chance : Bool) (old new : State) → CommandsLost r commands chance old new → new.active ≡ old.active
  lost_active commands true old new is = ap (λ (s : State). s.active) is.1
  lost_active commands false old new is = ap (λ (s : State). s.active) is.1

  change_active : (commands : List Command) (answer : Answer) (old new : State) → Changes r commands answer old new → new.active ≡ old.active
  change_active commands (Done units) old new is = ap (λ (s : State). s.active) is.1.state
  change_active commands (TooMany units) old new is = active old new is.2
  change_active commands (NoSpace units need live) old new is = active old new is.2
  change_active commands (Lost units chance) old new is = lost_active commands chance old new is.1
  change_active commands answer old new none = absurd none

  save_active : (commands : List Command) (answer : Answer) (old new : State) → Saves r commands answer old new → new.active ≡ old.active
  save_active commands (Saved pairs units Whole) old new is = ap (λ (s : State). s.active) is.1.state
  save_active commands (Saved pairs units ManyNames) old new is = ap (λ (s : State). s.active) is.3
  save_active commands (Saved pairs units (NoRoom need live)) old new is = ap (λ (s : State). s.active) is.3
  save_active commands (Lost units chance) old new is = lost_active commands chance old new is
  save_active commands answer old new none = absurd none

get_active : (name : List ℕ) (answer : Answer) (old new : State) → Gets name answer old new → new.active ≡ old.active
get_active name (Value value) old new is = active old new is.1
get_active name Absent old new is = active old new is.1
get_active name answer old new none = absurd none

report_active : (subtree : Option (List ℕ)) (answer : Answer) (old new : State) → Reports subtree answer old new → new.active ≡ old.active
report_active subtree (Applied pairs) old new is = active old new is.1
report_active subtree answer old new none = absurd none

report_all_active : (r : Rules) (answer : Answer) (old new : State) → ReportsAll r answer old new → new.active ≡ old.active
report_all_active r (Named label pairs) old new is = active old new is.2
report_all_active r answer old new none = absurd none

register_active : (subtree : List ℕ) (kind : HandlerKind) (answer : Answer) (old new : State) → Registers subtree kind answer old new → new.active ≡ old.active
register_active subtree kind Exists old new is = active old new is.1
register_active subtree kind NoKind old new is = active old new is.2
register_active subtree kind (Done units) old new is = ap (λ (s : State). s.active) is.3
register_active subtree kind answer old new none = absurd none

load_active : (subtree : Option (List ℕ)) (answer : Answer) (old new : State) → Loads subtree answer old new → new.active ≡ old.active
load_active subtree (Loaded gives taken rejected passed) old new is = ap (λ (s : State). s.active) is.4
load_active subtree answer old new none = absurd none

commit_active : (answer : Answer) (old new : State) → Commits answer old new → new.active ≡ old.active
commit_active (Done units) old new is = ap (λ (s : State). s.active) is.1
commit_active answer old new none = absurd none

offer_active : (name value : List ℕ) (answer : Answer) (old new : State) → Offers name value answer old new → new.active ≡ old.active
offer_active name value NoHandler old new is = active old new is.1
offer_active name value Rejected old new is = active old new is.3
offer_active name value (Done units) old new is = ap (λ (s : State). s.active) is.4
offer_active name value answer old new none = absurd none

ask_active : (name : List ℕ) (answer : Answer) (old new : State) → Asks name answer old new → new.active ≡ old.active
ask_active name NoHandler old new is = active old new is.1
ask_active name (Value value) old new is = active old new is.1
ask_active name Absent old new is = active old new is.1
ask_active name answer old new none = absurd none

arm_active : (answer : Answer) (old new : State) → Arms answer old new → new.active ≡ old.active
arm_active (Done units) old new is = active old new is.1
arm_active answer old new none = absurd none

mount_active : (answer : Answer) (old new : State) → Mounts answer old new → new.active ≡ old.active
mount_active (Done units) old new is = ap (λ (s : State). s.active) is
mount_active (Lost units false) old new is = ap (λ (s : State). s.active) is
mount_active answer old new none = absurd none

line_active : (r : Rules) (line : Line) (answer : Answer) (old new : State) → Answers r line answer old new → moves line ≡ false → new.active ≡ old.active
line_active r (Set name value) answer old new is other = change_active r (commands_of (Set name value) old) answer old new is
line_active r (Delete name) answer old new is other = change_active r (commands_of (Delete name) old) answer old new is
line_active r (Save subtree) answer old new is other = save_active r (commands_of (Save subtree) old) answer old new is
line_active r (Get name) answer old new is other = get_active name answer old new is
line_active r (Direct subtree) answer old new is other = report_active subtree answer old new is
line_active r Names answer old new is other = report_all_active r answer old new is
line_active r (Register subtree kind) answer old new is other = register_active subtree kind answer old new is
line_active r (Load subtree) answer old new is other = load_active subtree answer old new is
line_active r Commit answer old new is other = commit_active answer old new is
line_active r (RunSet name value) answer old new is other = offer_active name value answer old new is
line_active r (RunGet name) answer old new is other = ask_active name answer old new is
line_active r Mount answer old new is other = mount_active answer old new is
line_active r (Cut units) answer old new is other = arm_active answer old new is
line_active r Uncut answer old new is other = arm_active answer old new is
line_active r Migrate answer old new is other = absurd (false≢true (sym other))

-- where a migration leads
record IsTarget (r : Rules) (old new : State) : Type 0 where
  pub to : ℕ
  pub is : r.target old.active ≡ Some to
  pub active : new.active ≡ to

moved : (r : Rules) (to : ℕ) (answer : Answer) (old new : State) → r.target old.active ≡ Some to → MovesTo r to answer old new → (new.active ≡ old.active) ⊎ IsTarget r old new
moved r to (Done units) old new at is = inr (record { to = to; is = at; active = ap (λ (s : State). s.active) is.1 })
moved r to (TooMany units) old new at is = inl (active old new is.3)
moved r to (NoSpace units need live) old new at is = inl (active old new is.3)
moved r to (Lost units false) old new at (inl is) = inl (ap (λ (s : State). s.active) is)
moved r to (Lost units false) old new at (inr is) = inr (record { to = to; is = at; active = ap (λ (s : State). s.active) is.1 })
moved r to answer old new at none = absurd none

stays : (actives : List ℕ) (old new : State) → new.active ≡ old.active → Contains actives old.active → Contains actives new.active
stays actives old new same has = subst (λ (a : ℕ). Contains actives a) (sym same) has

leads : (r : Rules) (actives : List ℕ) (old new : State) → IsTarget r old new → Contains actives old.active → Contains (filter_map r.target actives) new.active
leads r actives old new found has = subst (λ (a : ℕ). Contains (filter_map r.target actives) a) (sym found.active) (given_of r.target actives old.active found.to has found.is)

stays_or_leads : (r : Rules) (actives : List ℕ) (old new : State) → (new.active ≡ old.active) ⊎ IsTarget r old new → Contains actives old.active → Contains (actives ++ filter_map r.target actives) new.active
stays_or_leads r actives old new (inl same) has = Contains-append_left actives (filter_map r.target actives) new.active (stays actives old new same has)
stays_or_leads r actives old new (inr to) has = Contains-append_right actives (filter_map r.target actives) new.active (leads r actives old new to has)

-- the active area is one of those that may be
pub goes_on : (r : Rules) (line : Line) (answer : Answer) (old new : State) (actives : List ℕ) → Step r line answer old new → Contains actives old.active → Contains (actives_after r line answer actives) new.active
goes_on r Migrate (Done units) old new actives is has = leads r actives old new (record { to = is.1.0; is = is.1.1; active = ap (λ (s : State). s.active) is.1.2.1 }) has
goes_on r Migrate (Lost units chance) old new actives is has = stays_or_leads r actives old new (moved r is.1.0 (Lost units chance) old new is.1.1 is.1.2) has
goes_on r Migrate NoTarget old new actives is has = stays actives old new (active old new is.1.1) has
goes_on r Migrate (TooMany units) old new actives is has = stays actives old new (active old new is.1.2.3) has
goes_on r Migrate (NoSpace units need live) old new actives is has = stays actives old new (active old new is.1.2.3) has
goes_on r Migrate Off old new actives is has = stays actives old new (active old new is.2) has
goes_on r Migrate answer old new actives is has = absurd is.1.2
goes_on r line Off old new actives is has = stays actives old new (active old new is.2) has
goes_on r line answer old new actives is has = stays actives old new (line_active r line answer old new is.1 refl) has

-- a line works on no other areas where more may be active
pub works_within : (r : Rules) (selector : List ℕ) (line : Line) (answer : Answer) (a : ℕ) (actives : List ℕ) → Contains actives a
    → IsWithin (worked_on r selector line answer (a ∷ [])) (worked_on r selector line answer actives)
works_within r selector line Off a actives has = λ x is. is
works_within r selector (Set name value) answer a actives has = one_within a actives has
works_within r selector (Delete name) answer a actives has = one_within a actives has
works_within r selector (Save subtree) answer a actives has = one_within a actives has
works_within r selector Mount answer a actives has = beside_within selector (a ∷ []) actives (one_within a actives has)
works_within r selector Migrate NoTarget a actives has = λ x is. is
works_within r selector Migrate answer a actives has = beside_within selector (filter_map r.target (a ∷ [])) (filter_map r.target actives) (given_within r.target a actives has)
works_within r selector line answer a actives has = λ x is. is

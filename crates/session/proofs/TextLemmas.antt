-- Answers have texts: the label of the active area is one, and names rise.
use Rattle.std.proofs.Common.{◌≡◌, ℕ, ◌≤◌, Bool, true, false, ◌&&◌, T, List, [], ◌∷◌, map, Option, Some, None, Ordering, Less, Equal, Greater, refl, sym, subst, arith}
use Rattle.std.specs.Prelude.{All}
use Rattle.std.specs.Ordering.{nat_cmp, is_lt}
use Rattle.std.specs.Cmp.Lexicographic.{slice_cmp}
use Rattle.std.specs.FinMap.{entries, entries_sorted}
use Rattle.std.specs.FinMap.Entries.{below_all, is_sorted}
use Rattle.std.proofs.lemmas.List.Elements.{All-nil, All-cons}
use Rattle.flash_sim.specs.Device.{Device}
use Rattle.flash_map.specs.declared.area.Area.{Area}
use Rattle.flash_map.specs.declared.area.Geometry.{Geometry}
use Rattle.flash_map.specs.declared.faults.Damaged.{Damaged}
use Rattle.backend_api.specs.Map.{Map}
use Rattle.image_file.specs.Lawful.{IsLabel}
use Rattle.migrator.specs.Active.{active_on, active_with}
use Rattle.migrator.specs.Areas.{is_store_at, first_store, selector_of}
use Rattle.migrator.proofs.Migration.{active-store}
use Rattle.script_lines.specs.declared.line.Line.{Line}
use Rattle.script_lines.specs.declared.line.Line.TheVariants.{Set, Get, Del as Delete, Register, Load, Direct, Save, Commit, RunSet, RunGet, Names, Mount, Cut, Uncut, Migrate}
use Rattle.script_lines.specs.declared.answer.Answer.{Answer}
use Rattle.script_lines.specs.declared.answer.Answer.TheVariants.{Done, Value, Absent, Lost, Off, NoSpace, TooMany, Exists, NoKind, NoTarget, Rejected, NoHandler, Loaded, Direct as Reported, Saved, Names as Named}
use Rattle.script_lines.specs.declared.lists.Pair.{Pair}
use Rattle.script_lines.specs.Answer.{CanReport, Rise}
use Rattle.session_table.specs.Bench.{Meanings, Moment, rules_of, state_of}
use Rattle.session_table.specs.Follows.{Follows}
use Rattle.session_table.specs.Rules.{Rules}
use Rattle.session_table.specs.State.{State}
use Rattle.session_table.specs.Step.{Step, as_pair}
use Rattle.session.specs.OnMap.{LineRan}
use Rattle.session.specs.Texts.{AreLabelled}

-- ---- names rise

first_of : (a b : Bool) → T (a && b) → T a
first_of true b p = tt
first_of false b p = p

rest_of : (a b : Bool) → T (a && b) → T b
rest_of true b p = p
rest_of false b p = absurd p

less_is : (o : Ordering) → T (is_lt o) → o ≡ Less
less_is Less p = refl
less_is Equal p = absurd p
less_is Greater p = absurd p

abbrev by_bytes : List ℕ → List ℕ → Ordering
by_bytes = slice_cmp nat_cmp

rises : (pairs : List (List ℕ × List ℕ)) → T (is_sorted by_bytes pairs) → Rise (map as_pair pairs)
rises [] sorted = tt
rises (pair ∷ []) sorted = tt
rises (pair ∷ next ∷ pairs) sorted =
    let before = first_of (below_all by_bytes pair.0 (next ∷ pairs)) (is_sorted by_bytes (next ∷ pairs)) sorted in (
      less_is (by_bytes pair.0 next.0) (first_of (is_lt (by_bytes pair.0 next.0)) (below_all by_bytes pair.0 pairs) before),
      rises (next ∷ pairs) (rest_of (below_all by_bytes pair.0 (next ∷ pairs)) (is_sorted by_bytes (next ∷ pairs)) sorted),
    )

pub names_rise : (settings : Map) → Rise (map as_pair (entries settings))
names_rise settings = rises (entries settings) (entries_sorted settings)

-- ---- the active area stores settings

active_with_store : (areas : List Area) (d : Device) → is_store_at areas (first_store areas) ≡ true → (selector : Option Area) → is_store_at areas (active_with areas d selector) ≡ true
active_with_store areas d some None = some
active_with_store areas d some (Some selector) = active-store areas d selector (first_store areas) some

pub active_is_store : (areas : List Area) (d : Device) → is_store_at areas (first_store areas) ≡ true → is_store_at areas (active_on areas d) ≡ true
active_is_store areas d some = active_with_store areas d some (selector_of areas)

-- ---- answers

named_label : (r : Rules) (line : Line) (label : List ℕ) (pairs : List Pair) (old new : State) → IsLabel (r.label old.active) → Step r line (Named label pairs) old new → CanReport (Named label pairs)
named_label r Names label pairs old new is step = (subst IsLabel (sym step.1.0) is, subst Rise (sym step.1.1) (names_rise old.settings))
named_label r (Set name value) label pairs old new is step = absurd step.1
named_label r (Get name) label pairs old new is step = absurd step.1
named_label r (Delete name) label pairs old new is step = absurd step.1
named_label r (Register subtree kind) label pairs old new is step = absurd step.1
named_label r (Load subtree) label pairs old new is step = absurd step.1
named_label r (Direct subtree) label pairs old new is step = absurd step.1
named_label r (Save subtree) label pairs old new is step = absurd step.1
named_label r Commit label pairs old new is step = absurd step.1
named_label r (RunSet name value) label pairs old new is step = absurd step.1
named_label r (RunGet name) label pairs old new is step = absurd step.1
named_label r Mount label pairs old new is step = absurd step.1
named_label r (Cut units) label pairs old new is step = absurd step.1
named_label r Uncut label pairs old new is step = absurd step.1
named_label r Migrate label pairs old new is step = absurd step.1.2

can_report : (r : Rules) (line : Line) (answer : Answer) (old new : State) → IsLabel (r.label old.active) → Step r line answer old new → CanReport answer
can_report r line (Named label pairs) old new is step = named_label r line label pairs old new is step
can_report r line (Done units) old new is step = tt
can_report r line (Value value) old new is step = tt
can_report r line Absent old new is step = tt
can_report r line (Lost units chance) old new is step = tt
can_report r line Off old new is step = tt
can_report r line (NoSpace units need live) old new is step = tt
can_report r line (TooMany units) old new is step = tt
can_report r line Exists old new is step = tt
can_report r line NoKind old new is step = tt
can_report r line NoTarget old new is step = tt
can_report r line Rejected old new is step = tt
can_report r line NoHandler old new is step = tt
can_report r line (Loaded gives taken rejected passed) old new is step = tt
can_report r line (Reported pairs) old new is step = tt
can_report r line (Saved pairs units end) old new is step = tt

module _ (m : Meanings) (damage : Area → Geometry → List (List ℕ) → Option Damaged) (rests : Area → Geometry → List (List ℕ) → Type 0) (areas : List Area) (some : is_store_at areas (first_store areas) ≡ true) (labels : AreLabelled areas) where
  pub can_report_all : (lines : List Line) (answers : List Answer) (old new : Moment) → Follows (LineRan m damage rests areas) lines answers old new → All CanReport answers
  can_report_all [] [] old new runs = All-nil CanReport
  can_report_all [] (answer ∷ answers) old new runs = absurd runs
  can_report_all (line ∷ lines) [] old new runs = absurd runs
  can_report_all (line ∷ lines) (answer ∷ answers) old new (mid, ran, rest) =
      let last : mid.device.spent ≤ mid.device.spent = omega arith in
      let step = ran.carried.done.step mid.device.spent last in
      let one = can_report (rules_of m areas old.device.banks mid.device.spent) line answer (state_of m areas old) (state_of m areas mid) (labels (active_on areas old.device) (active_is_store areas old.device some)) step in
      All-cons CanReport answer answers one (can_report_all lines answers mid new rest)

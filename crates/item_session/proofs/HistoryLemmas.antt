-- The history of each id in a run, and its power.
use Rattle.std.proofs.Common.{◌≡◌, inl, inr, ℕ, ◌≤◌, true, List, [], ◌∷◌, ◌++◌, length, length-append, append-nil, Option, Some, None, refl, sym, ap, subst, ◌∙◌, arith}
use Rattle.std.specs.FinMap.{get}
use Rattle.std.specs.List.{slice_get}
use Rattle.std.specs.Option.{option_and_then}
use Rattle.std.proofs.lemmas.Bool.{false≢true}
use Rattle.std.proofs.lemmas.List.{get_or_append_left}
use Rattle.std.proofs.lemmas.Option.{get_or_from_slice_get, slice_get-get_or, slice_get_past, slice_get_within}
use Rattle.item_laws.specs.Items.{Items, items_of, value_of}
use Rattle.item_laws.proofs.ItemLemmas.{get-items_of, same_map}
use Rattle.item_session.specs.declared.line.Line.{Line}
use Rattle.item_session.specs.declared.line.Line.TheVariants.{Set, Get, Delete, Older, Space, Cut, Uncut, Mount}
use Rattle.item_session.specs.declared.answer.Answer.{Answer}
use Rattle.item_session.specs.declared.answer.Answer.TheVariants as answers
use Rattle.item_store.specs.Versions.{versions, AddsVersion, KeepsVersions}
use Rattle.item_store.proofs.VersionLemmas.{keeps_all, keeps_more, keeps-push, newest-is, versions-items}
use Rattle.session_table.specs.Follows.{Follows}
use Rattle.session_table.proofs.FollowsLemmas.{seen, then}
use Rattle.item_session.specs.History.{Adds, HistoryStep, IsKept, PowerStep, Recorded, ReportsHistory}
use Rattle.item_session.specs.Laws.{HoldsAcknowledged, LosesPower, RunsInRow}
use Rattle.item_session.specs.Step.{Answers, Arms, Deletes, Mounts, Rules, Sets, State, Step, Reports, ReportsOlder, ReportsSpace}

-- ---- versions

-- what a front has at a place the whole has there
prefix_get : (xs ys : List (List ℕ)) (n : ℕ) (v : List ℕ) → slice_get xs n ≡ Some v → slice_get (xs ++ ys) n ≡ Some v
prefix_get xs ys n v is =
    let below = slice_get_within xs n v is in
    let long = length-append xs ys in
    slice_get-get_or (xs ++ ys) n v (omega (arith, long, below)) ∙ ap Some (get_or_append_left xs ys v n below ∙ get_or_from_slice_get xs n v v is)

-- an id of which nothing is kept has no value
none_kept : (pairs : List (ℕ × List ℕ)) (id : ℕ) → length (versions pairs id) ≤ 0 → get (items_of pairs) id ≡ None
none_kept pairs id none =
    get-items_of pairs id ∙ newest-is pairs id ∙ ap (λ (o : Option (List ℕ)). option_and_then value_of o) (slice_get_past (versions pairs id) 0 none)

-- ---- one line

-- what a line adds to the plain list, that its report is true of it, and that what is kept is
-- the newest of it
pub record GoesOn (last : ℕ) (line : Line) (answer : Answer) (all : List (ℕ × List ℕ)) (old new : State) : Type 0 where
  pub added : List (ℕ × List ℕ)
  pub adds : Adds last line answer added
  pub reports : ReportsHistory line answer (record { state = old; all = all })
  pub keeps : IsKept (record { state = new; all = all ++ added })

pub kept_by : (all : List (ℕ × List ℕ)) (new : State) → KeepsVersions all new.list → IsKept (record { state = new; all = all })
kept_by all new keeps = record { versions_are = keeps; items_are = same_map new.list all (versions-items all new.list keeps) }

module _ (last : ℕ) (all : List (ℕ × List ℕ)) (old : State) (holds : IsKept (record { state = old; all = all })) where
  -- a line that adds nothing
  stays : (line : Line) (answer : Answer) (new : State) → Adds last line answer [] → ReportsHistory line answer (record { state = old; all = all }) → KeepsVersions old.list new.list → GoesOn last line answer all old new
  stays line answer new adds reports keeps = record {
    added = [];
    adds = adds;
    reports = reports;
    keeps = kept_by (all ++ []) new
        (subst (λ (pairs : List (ℕ × List ℕ)). KeepsVersions pairs new.list) (sym (append-nil all)) (keeps_more all old.list new.list holds.versions_are keeps));
  }

  same : (line : Line) (answer : Answer) (new : State) → Adds last line answer [] → ReportsHistory line answer (record { state = old; all = all }) → new ≡ old → GoesOn last line answer all old new
  same line answer new adds reports is = stays line answer new adds reports (keeps_all old.list new.list (ap (λ (s : State). s.list) is))

  -- a line that adds a set or a delete
  puts : (line : Line) (answer : Answer) (new : State) (id : ℕ) (bytes : List ℕ) → Adds last line answer ((id, bytes) ∷ []) → ReportsHistory line answer (record { state = old; all = all }) → AddsVersion old.list new.list id bytes
      → GoesOn last line answer all old new
  puts line answer new id bytes adds reports more = record {
    added = (id, bytes) ∷ [];
    adds = adds;
    reports = reports;
    keeps = kept_by (all ++ (id, bytes) ∷ []) new
        (keeps_more (all ++ (id, bytes) ∷ []) (old.list ++ (id, bytes) ∷ []) new.list (keeps-push all old.list (id, bytes) holds.versions_are) more.keeps);
  }

  sets : (rules : Rules) (id : ℕ) (value : List ℕ) (answer : Answer) (new : State) → Sets rules last id value answer old new → GoesOn last (Set id value) answer all old new
  sets rules id value (answers.Done units) new (few, inl (stored, none, is)) = same (Set id value) (answers.Done units) new (inl (none, refl)) tt is
  sets rules id value (answers.Done units) new (few, inr (other, some, gets, on)) = puts (Set id value) (answers.Done units) new id value (inr (some, refl)) tt gets.versions_are
  sets rules id value (answers.NoSpace units need live) new is = stays (Set id value) (answers.NoSpace units need live) new refl tt is.1.stays.versions_are
  sets rules id value (answers.Lost units) new is = elim is.1.left [
    | inl kept ↦ stays (Set id value) (answers.Lost units) new (inl refl) tt kept.versions_are
    | inr gets ↦ puts (Set id value) (answers.Lost units) new id value (inr refl) tt gets.versions_are
  ]
  sets rules id value answer new none = absurd none

  deletes : (rules : Rules) (id : ℕ) (answer : Answer) (new : State) → Deletes rules last id answer old new → GoesOn last (Delete id) answer all old new
  deletes rules id (answers.Done units) new (few, inl (absent, none, is)) = same (Delete id) (answers.Done units) new (inl (none, refl)) tt is
  deletes rules id (answers.Done units) new (few, inr (present, some, loses, on)) = puts (Delete id) (answers.Done units) new id [] (inr (some, refl)) tt loses.versions_are
  deletes rules id (answers.Lost units) new is = elim is.1.left [
    | inl kept ↦ stays (Delete id) (answers.Lost units) new (inl refl) tt kept.versions_are
    | inr loses ↦ puts (Delete id) (answers.Lost units) new id [] (inr refl) tt loses.versions_are
  ]
  deletes rules id answer new none = absurd none

  -- what the plain list has of an id
  reported : (id : ℕ) (o : Option (List ℕ)) → get (items_of old.list) id ≡ o → get (items_of all) id ≡ o
  reported id o is = ap (λ (m : Items). get m id) (sym holds.items_are) ∙ is

  version : (id n : ℕ) (v : List ℕ) → slice_get (versions old.list id) n ≡ Some v → slice_get (versions all id) n ≡ Some v
  version id n v is =
      ap (λ (vs : List (List ℕ)). slice_get vs n) (holds.versions_are.newest id) ∙ prefix_get (versions old.list id) (holds.versions_are.gone id) n v is

  reports : (id : ℕ) (answer : Answer) (new : State) → Reports id answer old new → GoesOn last (Get id) answer all old new
  reports id (answers.Value value) new is = same (Get id) (answers.Value value) new refl (reported id (Some value) is.0) is.1
  reports id answers.Absent new is = same (Get id) answers.Absent new refl (reported id None is.0) is.1
  reports id answer new none = absurd none

  reports_older : (id n : ℕ) (answer : Answer) (new : State) → ReportsOlder id n answer old new → GoesOn last (Older id n) answer all old new
  reports_older id n (answers.Value value) new is = same (Older id n) (answers.Value value) new refl (version id n value is.0) is.2
  reports_older id n answers.Deleted new is = same (Older id n) answers.Deleted new refl (version id n [] is.0) is.1
  reports_older id n answers.Gone new is =
      same (Older id n) answers.Gone new refl
      (λ first. reported id None (none_kept old.list id (subst (λ (m : ℕ). length (versions old.list id) ≤ m) first is.0))) is.1
  reports_older id n answer new none = absurd none

  reports_space : (rules : Rules) (answer : Answer) (new : State) → ReportsSpace rules answer old new → GoesOn last Space answer all old new
  reports_space rules (answers.Space live stale free) new is = same Space (answers.Space live stale free) new refl tt is.3
  reports_space rules answer new none = absurd none

  mounts : (rules : Rules) (answer : Answer) (new : State) → Mounts rules answer old new → GoesOn last Mount answer all old new
  mounts rules (answers.Done units) new is = stays Mount (answers.Done units) new refl tt is.1.versions_are
  mounts rules (answers.Lost units) new is = stays Mount (answers.Lost units) new refl tt is.1.versions_are
  mounts rules answer new none = absurd none

  arms_cut : (after : ℕ) (answer : Answer) (new : State) → Arms answer old new → GoesOn last (Cut after) answer all old new
  arms_cut after (answers.Done units) new is = same (Cut after) (answers.Done units) new refl tt is.1
  arms_cut after answer new none = absurd none

  arms_uncut : (answer : Answer) (new : State) → Arms answer old new → GoesOn last Uncut answer all old new
  arms_uncut (answers.Done units) new is = same Uncut (answers.Done units) new refl tt is.1
  arms_uncut answer new none = absurd none

  by_line : (rules : Rules) (line : Line) (answer : Answer) (new : State) → Answers rules last line answer old new → GoesOn last line answer all old new
  by_line rules (Set id value) answer new is = sets rules id value answer new is
  by_line rules (Delete id) answer new is = deletes rules id answer new is
  by_line rules (Get id) answer new is = reports id answer new is
  by_line rules (Older id n) answer new is = reports_older id n answer new is
  by_line rules Space answer new is = reports_space rules answer new is
  by_line rules Mount answer new is = mounts rules answer new is
  by_line rules (Cut units) answer new is = arms_cut units answer new is
  by_line rules Uncut answer new is = arms_uncut answer new is

  off_line : (line : Line) (new : State) → new ≡ old → GoesOn last line answers.Off all old new
  off_line (Set id value) new is = same (Set id value) answers.Off new refl tt is
  off_line (Delete id) new is = same (Delete id) answers.Off new refl tt is
  off_line (Get id) new is = same (Get id) answers.Off new refl tt is
  off_line (Older id n) new is = same (Older id n) answers.Off new refl tt is
  off_line Space new is = same Space answers.Off new refl tt is
  off_line Mount new is = same Mount answers.Off new refl tt is
  off_line (Cut units) new is = same (Cut units) answers.Off new refl tt is
  off_line Uncut new is = same Uncut answers.Off new refl tt is

  pub goes_on : (rules : Rules) (line : Line) (answer : Answer) (new : State) → Step rules last line answer old new → GoesOn last line answer all old new
  goes_on rules line answers.Off new is = off_line line new is.2
  goes_on rules line answer new is = by_line rules line answer new is.1

-- ---- a whole run

-- from a state on
record Continues (rules : Rules) (last : ℕ) (lines : List Line) (answers : List Answer) (from : Recorded) (new : State) : Type 0 where
  pub all : List (ℕ × List ℕ)
  pub runs : Follows (HistoryStep rules last) lines answers from (record { state = new; all = all })

continues : (rules : Rules) (last : ℕ) (lines : List Line) (answers : List Answer) (all : List (ℕ × List ℕ)) (old new : State) → IsKept (record { state = old; all = all })
    → Follows (Step rules last) lines answers old new → Continues rules last lines answers (record { state = old; all = all }) new
continues rules last [] [] all old new holds same = record { all = all; runs = ap (λ (s : State). record { state = s; all = all }) same }
continues rules last [] (answer ∷ answers) all old new holds none = absurd none
continues rules last (line ∷ lines) [] all old new holds none = absurd none
continues rules last (line ∷ lines) (answer ∷ answers) all old new holds runs =
    let head = goes_on last all old holds rules line answer runs.0 runs.1 in
    let tail = continues rules last lines answers (all ++ head.added) runs.0 new head.keeps runs.2 in
    record {
      all = tail.all;
      runs = (
        record { state = runs.0; all = all ++ head.added },
        (runs.1, record { added = head.added; adds = head.adds; all = refl; reports = head.reports; keeps = head.keeps }),
        tail.runs,
      );
    }

pub holds_acknowledged : HoldsAcknowledged
holds_acknowledged rules last lines answers old new runs =
    let whole = continues rules last lines answers old.list old new (kept_by old.list old (keeps_all old.list old.list refl)) runs in
    record { all = whole.all; runs = whole.runs }

-- ---- power

power : (old new : State) → new ≡ old → new.is_on ≡ old.is_on
power old new same = ap (λ (s : State). s.is_on) same

set_power : (rules : Rules) (last id : ℕ) (value : List ℕ) (answer : Answer) (old new : State) → old.is_on ≡ true → Sets rules last id value answer old new → PowerStep (Set id value) answer old.is_on new.is_on
set_power rules last id value (answers.Done units) old new on (few, inl is) = power old new is.2
set_power rules last id value (answers.Done units) old new on (few, inr is) = is.3 ∙ sym on
set_power rules last id value (answers.NoSpace units need live) old new on is = is.1.on ∙ sym on
set_power rules last id value (answers.Lost units) old new on is = is.1.off
set_power rules last id value answer old new on none = absurd none

delete_power : (rules : Rules) (last id : ℕ) (answer : Answer) (old new : State) → old.is_on ≡ true → Deletes rules last id answer old new → PowerStep (Delete id) answer old.is_on new.is_on
delete_power rules last id (answers.Done units) old new on (few, inl is) = power old new is.2
delete_power rules last id (answers.Done units) old new on (few, inr is) = is.3 ∙ sym on
delete_power rules last id (answers.Lost units) old new on is = is.1.off
delete_power rules last id answer old new on none = absurd none

get_power : (id : ℕ) (answer : Answer) (old new : State) → Reports id answer old new → PowerStep (Get id) answer old.is_on new.is_on
get_power id (answers.Value value) old new is = power old new is.1
get_power id answers.Absent old new is = power old new is.1
get_power id answer old new none = absurd none

older_power : (id n : ℕ) (answer : Answer) (old new : State) → ReportsOlder id n answer old new → PowerStep (Older id n) answer old.is_on new.is_on
older_power id n (answers.Value value) old new is = power old new is.2
older_power id n answers.Deleted old new is = power old new is.1
older_power id n answers.Gone old new is = power old new is.1
older_power id n answer old new none = absurd none

space_power : (rules : Rules) (answer : Answer) (old new : State) → ReportsSpace rules answer old new → PowerStep Space answer old.is_on new.is_on
space_power rules (answers.Space live stale free) old new is = power old new is.3
space_power rules answer old new none = absurd none

mount_power : (rules : Rules) (answer : Answer) (old new : State) → Mounts rules answer old new → PowerStep Mount answer old.is_on new.is_on
mount_power rules (answers.Done units) old new is = is.2
mount_power rules (answers.Lost units) old new is = is.2
mount_power rules answer old new none = absurd none

cut_power : (after : ℕ) (answer : Answer) (old new : State) → Arms answer old new → PowerStep (Cut after) answer old.is_on new.is_on
cut_power after (answers.Done units) old new is = power old new is.1
cut_power after answer old new none = absurd none

uncut_power : (answer : Answer) (old new : State) → Arms answer old new → PowerStep Uncut answer old.is_on new.is_on
uncut_power (answers.Done units) old new is = power old new is.1
uncut_power answer old new none = absurd none

step_power : (rules : Rules) (last : ℕ) (line : Line) (answer : Answer) (old new : State) → Step rules last line answer old new → PowerStep line answer old.is_on new.is_on
step_power rules last Mount answers.Off old new is = absurd (false≢true is.0)
step_power rules last line answers.Off old new is = power old new is.2
step_power rules last (Set id value) answer old new is = set_power rules last id value answer old new (is.0 refl) is.1
step_power rules last (Delete id) answer old new is = delete_power rules last id answer old new (is.0 refl) is.1
step_power rules last (Get id) answer old new is = get_power id answer old new is.1
step_power rules last (Older id n) answer old new is = older_power id n answer old new is.1
step_power rules last Space answer old new is = space_power rules answer old new is.1
step_power rules last Mount answer old new is = mount_power rules answer old new is.1
step_power rules last (Cut after) answer old new is = cut_power after answer old new is.1
step_power rules last Uncut answer old new is = uncut_power answer old new is.1

pub loses_power : LosesPower
loses_power rules last lines answers old new runs = seen (Step rules last) PowerStep (λ s. s.is_on) (step_power rules last) lines answers old new runs

pub runs_in_row : RunsInRow
runs_in_row rules last lines more answers others old mid new runs rest = then (Step rules last) lines more answers others old mid new runs rest

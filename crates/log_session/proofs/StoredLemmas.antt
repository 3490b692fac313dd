-- All items of a run, and when some of them are dropped.
use Rattle.std.proofs.Common.{◌≡◌, inl, inr, ℕ, ◌+◌, ◌<◌, Bool, true, false, cond, Some, Ok, Err, List, [], ◌∷◌, ◌++◌, length, length-append, append_assoc, append-nil, refl, sym, ap, subst, ◌∙◌, arith}
use Rattle.std.proofs.lemmas.Bool.{cases_Bool}
use Rattle.flash_sim.specs.Bank.{bank_at}
use Rattle.flash_sim.specs.Device.{Device, Plan}
use Rattle.flash_sim.specs.declared.flash.Bank.{Bank}
use Rattle.flash_sim.specs.declared.flash.Loss.{Loss}
use Rattle.flash_map.specs.declared.area.Area.{Area}
use Rattle.flash_map.specs.Area.{unit_of}
use Rattle.fcb_ring.specs.declared.ring.Ring.{Ring}
use Rattle.fcb_ring.specs.Chance.{chance_on}
use Rattle.fcb_ring.specs.Writing.{record_cost}
use Rattle.event_ring.specs.declared.appending.LogFault.TheVariants.{PowerLost}
use Rattle.event_ring.specs.Appending.{Keeps, LeavesItems, dropped_for, drops_for, torn_body}
use Rattle.event_ring.specs.Items.{Item, Whole, Torn, items_in, items_on}
use Rattle.event_ring.specs.Room.{IsFilled, IsFull}
use Rattle.event_ring.proofs.FullLemmas.{blank-filled, blank-items}
use Rattle.session_table.specs.Follows.{Follows}
use Rattle.log_session.specs.declared.line.Line.{Line}
use Rattle.log_session.specs.declared.line.Line.TheVariants.{Put, Records, Cut, Uncut, Mount}
use Rattle.log_session.specs.declared.answer.Answer.{Answer}
use Rattle.log_session.specs.declared.answer.Answer.TheVariants.{Done, Appended, Log, Lost, Off}
use Rattle.log_session.specs.Laws.{BlankDropsForRoom}
use Rattle.log_session.specs.LineDone.{AppendsOn, LineDone, SameButPlan, ShowsChance}
use Rattle.log_session.specs.Stored.{AddsItems, HoldsItems, Stored, StoredStep}
use Rattle.log_session.proofs.LineLemmas.{no_keeping, no_dropping}
use Rattle.log_session.proofs.ReachLemmas.{off_put}

-- what became of the items in a line, and that the area is filled after it
record GoesOn (area : Area) (line : Line) (answer : Answer) (old new : Device) (all : List Item) (dropped : ℕ) : Type 0 where
  pub added : List Item
  pub adds : AddsItems (unit_of old area) line answer added
  pub taken : ℕ
  pub holds : HoldsItems area (record { bench = new; all = all ++ added; dropped = dropped + taken })
  pub full : 0 < taken → IsFull old area
  pub filled : IsFilled new area

some_same : (x y : Loss) → Some x ≡ Some y → x ≡ y
some_same x y e = cc

module _ (area : Area) (old new : Device) (all : List Item) (dropped : ℕ) (holds : HoldsItems area (record { bench = old; all = all; dropped = dropped })) (filled : IsFilled old area) where
  -- a line that leaves the items
  stays : (line : Line) (answer : Answer) → AddsItems (unit_of old area) line answer [] → items_on new area ≡ items_on old area → IsFilled new area → GoesOn area line answer old new all dropped
  stays line answer adds same after = record {
    added = [];
    adds = adds;
    taken = 0;
    holds = record {
      prefix = holds.prefix;
      are = append-nil all ∙ holds.are ∙ ap (λ (l : List Item). holds.prefix ++ l) (sym same);
      count = holds.count ∙ omega arith;
    };
    full = λ some. absurd (omega arith);
    filled = after;
  }

  -- the oldest items are dropped, and these are put behind the others
  goes : (line : Line) (answer : Answer) (gone rest left : List Item) → AddsItems (unit_of old area) line answer left → items_on old area ≡ gone ++ rest → items_on new area ≡ rest ++ left
      → (0 < length gone → IsFull old area) → IsFilled new area → GoesOn area line answer old new all dropped
  goes line answer gone rest left adds are same full after = record {
    added = left;
    adds = adds;
    taken = length gone;
    holds = record {
      prefix = holds.prefix ++ gone;
      are =
          ap (λ (a : List Item). a ++ left) (holds.are ∙ ap (λ (l : List Item). holds.prefix ++ l) are ∙ sym (append_assoc holds.prefix gone rest))
          ∙ append_assoc (holds.prefix ++ gone) rest left ∙ ap (λ (l : List Item). holds.prefix ++ gone ++ l) (sym same);
      count = length-append holds.prefix gone ∙ ap (λ (n : ℕ). n + length gone) holds.count;
    };
    full = full;
    filled = after;
  }

  -- ---- appends

  module _ (ring : Ring) (body : List ℕ) (rest : List Item) (kept : Keeps old ring body rest) (same : ring.area ≡ area) where
    kept_items : items_on old area ≡ dropped_for old ring body ++ rest
    kept_items = subst (λ (a : Area). items_on old a ≡ dropped_for old ring body ++ rest) same kept.items

    filled_there : IsFilled old ring.area
    filled_there = subst (λ (a : Area). IsFilled old a) (sym same) filled

    full_by : 0 < length (dropped_for old ring body) → IsFull old area
    full_by some = elim (cases_Bool (drops_for old ring body)) [
      | inl drops ↦ subst (λ (a : Area). IsFull old a) same (kept.full filled_there drops)
      | inr none ↦
          let zero : length (dropped_for old ring body) ≡ 0 = ap (λ (b : Bool). length (cond b (items_in old ring.area ring.oldest) [])) none in
          absurd (omega arith)
    ]

  whole : (body : List ℕ) (units count : ℕ) → AppendsOn area body (Ok count) old new → GoesOn area (Put body) (Appended units count) old new all dropped
  whole body units count puts =
      let adds = puts.ends.1 in
      goes (Put body) (Appended units count) (dropped_for old puts.before body) adds.rest (Whole body ∷ []) refl
      (kept_items puts.before body adds.rest adds.kept puts.same_area)
      (subst (λ (a : Area). items_on new a ≡ adds.rest ++ Whole body ∷ []) puts.same_area adds.items)
      (full_by puts.before body adds.rest adds.kept puts.same_area)
      (subst (λ (a : Area). IsFilled new a) puts.same_area (adds.filled (filled_there puts.before body adds.rest adds.kept puts.same_area)))

  lost_by : (body : List ℕ) (units : ℕ) (chance : Bool) (gone rest : List Item) → items_on old area ≡ gone ++ rest → (0 < length gone → IsFull old area) → IsFilled new area
      → LeavesItems chance (unit_of old area) (items_on old area) rest body (items_on new area) → GoesOn area (Put body) (Lost units chance) old new all dropped
  lost_by body units true gone rest are full after (n, fewer, is) = goes (Put body) (Lost units true) gone rest (Whole (torn_body body n) ∷ []) (n, fewer, refl) are is full after
  lost_by body units false gone rest are full after (inl same) = stays (Put body) (Lost units false) (inl refl) same after
  lost_by body units false gone rest are full after (inr (inl same)) = goes (Put body) (Lost units false) gone rest [] (inl refl) are (same ∙ sym (append-nil rest)) full after
  lost_by body units false gone rest are full after (inr (inr (inl same))) = goes (Put body) (Lost units false) gone rest (Torn (record_cost (unit_of old area) (length body)) ∷ []) (inr (inl refl)) are same full after
  lost_by body units false gone rest are full after (inr (inr (inr same))) = goes (Put body) (Lost units false) gone rest (Whole body ∷ []) (inr (inr refl)) are same full after

  lost : (body : List ℕ) (units : ℕ) (chance : Bool) → new.banks ≡ old.banks → old.is_on ≡ true → ShowsChance area chance new → AppendsOn area body (Err PowerLost) old new → GoesOn area (Put body) (Lost units chance) old new all dropped
  lost body units chance banks on shows puts =
      let loses = puts.ends.1 in
      let cut = loses.cut on in
      let here : LeavesItems (chance_on new area cut.loss) (unit_of new area) (items_on old area) loses.rest body (items_on new area) =
      subst (λ (a : Area). LeavesItems (chance_on new a cut.loss) (unit_of new a) (items_on old a) loses.rest body (items_on new a)) puts.same_area cut.items in
      let unit : unit_of new area ≡ unit_of old area = ap (λ (b : List Bank). (bank_at b area.bank).unit) banks in
      let loss : cut.loss ≡ shows.loss = some_same cut.loss shows.loss (sym cut.last ∙ shows.last) in
      let is : chance_on new area cut.loss ≡ chance = ap (chance_on new area) loss ∙ sym shows.is in
      lost_by body units chance (dropped_for old puts.before body) loses.rest (kept_items puts.before body loses.rest loses.kept puts.same_area)
      (full_by puts.before body loses.rest loses.kept puts.same_area)
      (subst (λ (a : Area). IsFilled new a) puts.same_area (loses.filled (filled_there puts.before body loses.rest loses.kept puts.same_area)))
      (subst (λ (b : Bool). LeavesItems b (unit_of old area) (items_on old area) loses.rest body (items_on new area)) is
      (subst (λ (u : ℕ). LeavesItems (chance_on new area cut.loss) u (items_on old area) loses.rest body (items_on new area)) unit here))

  -- ---- the other lines

  same_filled : (plan : Plan) → IsFilled (record old { plan = plan }) area
  same_filled plan = filled

  same_items : (plan : Plan) → items_on (record old { plan = plan }) area ≡ items_on old area
  same_items plan = refl

  nothing : (line : Line) (answer : Answer) → AddsItems (unit_of old area) line answer [] → new ≡ old → GoesOn area line answer old new all dropped
  nothing line answer adds same = stays line answer adds (ap (λ (d : Device). items_on d area) same) (subst (λ (d : Device). IsFilled d area) (sym same) filled)

  but_plan : (line : Line) (answer : Answer) → AddsItems (unit_of old area) line answer [] → SameButPlan old new → GoesOn area line answer old new all dropped
  but_plan line answer adds same =
      stays line answer adds (ap (λ (d : Device). items_on d area) same ∙ same_items new.plan) (subst (λ (d : Device). IsFilled d area) (sym same) (same_filled new.plan))

each : (area : Area) (line : Line) (answer : Answer) (old new : Device) (all : List Item) (dropped : ℕ) → HoldsItems area (record { bench = old; all = all; dropped = dropped }) → IsFilled old area
    → LineDone area line answer old new → GoesOn area line answer old new all dropped
each area (Put body) (Appended units count) old new all dropped holds filled done = whole area old new all dropped holds filled body units count done.puts
each area (Put body) (Lost units chance) old new all dropped holds filled done =
    let step = done.step new.spent (omega arith) in
    lost area old new all dropped holds filled body units chance done.keeps.banks (step.0 refl) done.chance done.puts
each area (Put body) Off old new all dropped holds filled done = nothing area old new all dropped holds filled (Put body) Off refl (off_put area old new body done)
each area (Put body) (Done units) old new all dropped holds filled done = let step = done.step new.spent (omega arith) in absurd step.1
each area (Put body) (Log bodies) old new all dropped holds filled done = let step = done.step new.spent (omega arith) in absurd step.1
each area Records answer old new all dropped holds filled done = nothing area old new all dropped holds filled Records answer refl (done.reports refl)
each area Mount answer old new all dropped holds filled done =
    let mounts = done.mounts refl in
    stays area old new all dropped holds filled Mount answer refl mounts.items.items (mounts.items.filled filled)
each area (Cut units) answer old new all dropped holds filled done = but_plan area old new all dropped holds filled (Cut units) answer refl (done.plans (no_keeping units))
each area Uncut answer old new all dropped holds filled done = but_plan area old new all dropped holds filled Uncut answer refl (done.plans no_dropping)

-- ---- a whole run

-- from a bench on
record Continues (area : Area) (lines : List Line) (answers : List Answer) (from : Stored) (new : Device) : Type 0 where
  pub all : List Item
  pub dropped : ℕ
  pub runs : Follows (StoredStep area) lines answers from (record { bench = new; all = all; dropped = dropped })

continues : (area : Area) (lines : List Line) (answers : List Answer) (all : List Item) (dropped : ℕ) (old new : Device) → HoldsItems area (record { bench = old; all = all; dropped = dropped }) → IsFilled old area
    → Follows (LineDone area) lines answers old new → Continues area lines answers (record { bench = old; all = all; dropped = dropped }) new
continues area [] [] all dropped old new holds filled same = record { all = all; dropped = dropped; runs = ap (λ (d : Device). record { bench = d; all = all; dropped = dropped }) same }
continues area [] (answer ∷ answers) all dropped old new holds filled none = absurd none
continues area (line ∷ lines) [] all dropped old new holds filled none = absurd none
continues area (line ∷ lines) (answer ∷ answers) all dropped old new holds filled runs =
    let head = each area line answer old runs.0 all dropped holds filled runs.1 in
    let tail = continues area lines answers (all ++ head.added) (dropped + head.taken) runs.0 new head.holds head.filled runs.2 in
    record {
      all = tail.all;
      dropped = tail.dropped;
      runs = (
        record { bench = runs.0; all = all ++ head.added; dropped = dropped + head.taken },
        record { done = runs.1; added = head.added; adds = head.adds; all = refl; taken = head.taken; dropped = refl; holds = head.holds; full = head.full },
        tail.runs,
      );
    }

pub blank_drops_for_room : BlankDropsForRoom
blank_drops_for_room area lines answers old new lawful is_area blank runs =
    let start : HoldsItems area (record { bench = old; all = []; dropped = 0 }) = record { prefix = []; are = sym (blank-items old area lawful is_area blank); count = refl } in
    let went = continues area lines answers [] 0 old new start (blank-filled old area lawful is_area blank) runs in
    record { all = went.all; dropped = went.dropped; runs = went.runs }

-- The whole history is kept while all sets and deletes fit a sector.
use Rattle.std.proofs.Common.{◌≡◌, ◌⊎◌, inl, inr, ℕ, ◌+◌, ◌*◌, ◌<◌, ◌≤◌, Bool, true, false, cond, eqb, leb, List, [], ◌∷◌, ◌++◌, length, append-nil, refl, sym, ap, subst, ◌∙◌, arith}
use Rattle.std.proofs.lemmas.Bool.{cases_lt, false≢true, le-leb}
use Rattle.flash_sim.specs.Device.{Device}
use Rattle.flash_map.specs.declared.area.Area.{Area}
use Rattle.item_store.proofs.Areas.{same_geometry}
use Rattle.flash_map.specs.declared.area.Geometry.{Geometry}
use Rattle.item_session.specs.declared.line.Line.{Line}
use Rattle.item_session.specs.declared.line.Line.TheVariants.{Set, Get, Delete, Older, Space, Cut, Uncut, Mount}
use Rattle.item_session.specs.declared.answer.Answer.{Answer}
use Rattle.item_session.specs.declared.answer.Answer.TheVariants as answers
use Rattle.item_store.specs.SectorFormat.{IsSectorFormat, SectorFormat, fits}
use Rattle.item_store.specs.Listed.{format_on, list_on}
use Rattle.item_store.specs.Versions.{versions}
use Rattle.item_store.specs.Writing.{open_at}
use Rattle.item_store.proofs.CallFacts.{from_geometry}
use Rattle.item_store.proofs.VersionLemmas.{keeps_all}
use Rattle.session_table.specs.Follows.{Follows}
use Rattle.item_session.specs.Device.{RestsOn, rules_on, state_of, turned_on}
use Rattle.item_session.specs.Fits.{FitsOpen}
use Rattle.item_session.specs.History.{Adds, IsKept, ReportsHistory}
use Rattle.item_session.specs.Laws.{HistoryStaysWhole}
use Rattle.item_session.specs.LineDone.{LineDone}
use Rattle.item_session.specs.Whole.{Tracked, WholeStep, cap_on, cost_after, free_on, line_cost, spare_on}
use Rattle.item_session.proofs.FitLemmas.{forgets_for_room}
use Rattle.item_session.proofs.HistoryLemmas.{GoesOn, goes_on, kept_by}
use Rattle.item_session.proofs.LineLemmas.{no_dropping, no_keeping}
use Rattle.item_session.proofs.RoomLemmas.{LeavesRoom, delete_room, set_room}

-- ---- what fits

module _ (k : SectorFormat) (b : List ℕ) (len : ℕ) (enough : k.cost len + 3 * k.slot ≤ k.free b) where
  by_mark : (t : Bool) → leb (k.cost len + cond t 2 3 * k.slot) (k.free b) ≡ true
  by_mark true = le-leb (k.cost len + 2 * k.slot) (k.free b) (omega (arith, enough))
  by_mark false = le-leb (k.cost len + 3 * k.slot) (k.free b) enough

  by_len : (t : Bool) → cond t (leb (2 * k.slot) (k.free b)) (leb (k.cost len + cond (k.reading.has_gc_done b) 2 3 * k.slot) (k.free b)) ≡ true
  by_len true = le-leb (2 * k.slot) (k.free b) (omega (arith, enough))
  by_len false = by_mark (k.reading.has_gc_done b)

  room_fits : fits k b len ≡ true
  room_fits = by_len (eqb len 0)

-- ---- an area that kept the whole history so far

record WholeNow (format_of : Geometry → SectorFormat) (area : Area) (d : Device) (all : List (ℕ × List ℕ)) (costs : ℕ) : Type 0 where
  pub list : list_on format_of d area ≡ all
  pub rests : RestsOn format_of d area
  pub room : cap_on format_of d area + spare_on format_of d area ≤ free_on format_of d area + costs

-- what of that is no list
record RoomNow (format_of : Geometry → SectorFormat) (area : Area) (d : Device) (costs : ℕ) : Type 0 where
  pub rests : RestsOn format_of d area
  pub room : cap_on format_of d area + spare_on format_of d area ≤ free_on format_of d area + costs

module _ (format_of : Geometry → SectorFormat) (area : Area) (old new : Device) where
  same_cap : new.banks ≡ old.banks → cap_on format_of new area ≡ cap_on format_of old area
  same_cap banks = ap (λ (g : Geometry). (format_of g).cap g.sector) (same_geometry old new area banks)

  same_spare : new.banks ≡ old.banks → spare_on format_of new area ≡ spare_on format_of old area
  same_spare banks = ap (λ (g : Geometry). 3 * (format_of g).slot) (same_geometry old new area banks)

  module _ (law : IsSectorFormat (format_on format_of old area)) (all : List (ℕ × List ℕ)) (costs : ℕ) (now : WholeNow format_of area old all costs) where
    -- so much more fits
    entry_fits : (len : ℕ) → costs + (format_on format_of old area).cost len ≤ cap_on format_of old area → fits (format_on format_of old area) (open_at (format_on format_of old area) old area) len ≡ true
    entry_fits len few = let room = now.room in room_fits (format_on format_of old area) (open_at (format_on format_of old area) old area) len (omega (arith, room, few))

    line_fits : (line : Line) → costs + line_cost (format_on format_of old area).cost line ≤ cap_on format_of old area → FitsOpen format_of old area line
    line_fits (Set id value) few = entry_fits (length value) few
    line_fits (Delete id) few = entry_fits 0 few
    line_fits Mount few = now.rests
    line_fits (Get id) few = tt
    line_fits (Older id n) few = tt
    line_fits Space few = tt
    line_fits (Cut units) few = tt
    line_fits Uncut few = tt

    as_before : RoomNow format_of area old (costs + 0)
    as_before = let room = now.room in record { rests = now.rests; room = omega (arith, room) }

    moved : (x : Device) → new ≡ x → RoomNow format_of area x (costs + 0) → RoomNow format_of area new (costs + 0)
    moved x is room = subst (λ (d : Device). RoomNow format_of area d (costs + 0)) (sym is) room

    after_write : (cost : ℕ) → new.banks ≡ old.banks → LeavesRoom format_of area old new cost → RoomNow format_of area new (costs + cost)
    after_write cost banks leaves =
        let room = now.room in
        let cap = same_cap banks in
        let spare = same_spare banks in
        let left = leaves.room in
        record { rests = leaves.rests; room = omega (arith, room, cap, spare, left) }

    after : (line : Line) (answer : Answer) → LineDone format_of area line answer old new → costs + line_cost (format_on format_of old area).cost line ≤ cap_on format_of old area → RoomNow format_of area new (costs + line_cost (format_on format_of old area).cost line)
    after (Set id value) answer is few =
        after_write ((format_on format_of old area).cost (length value)) is.keeps.banks (set_room format_of area old new now.rests law id value answer (entry_fits (length value) few) is)
    after (Delete id) answer is few = after_write ((format_on format_of old area).cost 0) is.keeps.banks (delete_room format_of area old new now.rests law id answer (entry_fits 0 few) is)
    after (Get id) answer is few = moved old (is.reports refl) as_before
    after (Older id n) answer is few = moved old (is.reports refl) as_before
    after Space answer is few = moved old (is.reports refl) as_before
    after Mount answer is few =
        let mounts = is.mounts refl in
        let rests = mounts.rests now.rests in
        let before = as_before in
        moved (turned_on old) rests.1 (record { rests = before.rests; room = before.room })
    after (Cut units) answer is few = let before = as_before in moved (record old { plan = new.plan }) (is.plans (no_keeping units)) (record { rests = before.rests; room = before.room })
    after Uncut answer is few = let before = as_before in moved (record old { plan = new.plan }) (is.plans no_dropping) (record { rests = before.rests; room = before.room })

-- ---- lines that were answered `off`

-- the answer is `off`, or what the line costs is counted
counted_or_off : (cost : ℕ → ℕ) (line : Line) (answer : Answer) → (answer ≡ answers.Off) ⊎ (cost_after cost line answer ≡ line_cost cost line)
counted_or_off cost line answers.Off = inl refl
counted_or_off cost line (answers.Done units) = inr refl
counted_or_off cost line (answers.Value value) = inr refl
counted_or_off cost line answers.Absent = inr refl
counted_or_off cost line answers.Deleted = inr refl
counted_or_off cost line answers.Gone = inr refl
counted_or_off cost line (answers.Space live stale free) = inr refl
counted_or_off cost line (answers.NoSpace units need live) = inr refl
counted_or_off cost line (answers.Lost units) = inr refl

-- they add nothing to the history
off_adds : (last : ℕ) (line : Line) (added : List (ℕ × List ℕ)) → Adds last line answers.Off added → added ≡ []
off_adds last (Set id value) added is = is
off_adds last (Delete id) added is = is
off_adds last (Get id) added is = is
off_adds last (Older id n) added is = is
off_adds last Space added is = is
off_adds last Mount added is = is
off_adds last (Cut units) added is = is
off_adds last Uncut added is = is

-- they change nothing
off_changes : (format_of : Geometry → SectorFormat) (area : Area) (old new : Device) (line : Line) → LineDone format_of area line answers.Off old new → new ≡ old
off_changes format_of area old new (Set id value) done = let step = done.step new.spent (omega arith) in let touches = done.touches refl in touches.off step.1
off_changes format_of area old new (Delete id) done = let step = done.step new.spent (omega arith) in let touches = done.touches refl in touches.off step.1
off_changes format_of area old new (Get id) done = done.reports refl
off_changes format_of area old new (Older id n) done = done.reports refl
off_changes format_of area old new Space done = done.reports refl
off_changes format_of area old new Mount done = let step = done.step new.spent (omega arith) in absurd (false≢true step.0)
off_changes format_of area old new (Cut units) done = let step = done.step new.spent (omega arith) in absurd (false≢true step.0)
off_changes format_of area old new Uncut done = let step = done.step new.spent (omega arith) in absurd (false≢true step.0)

-- ---- one line

abbrev WholeSoFar : (Geometry → SectorFormat) → Area → Device → List (ℕ × List ℕ) → ℕ → Type 0
WholeSoFar format_of area d all costs = costs ≤ cap_on format_of d area → WholeNow format_of area d all costs

record Goes (format_of : Geometry → SectorFormat) (area : Area) (line : Line) (answer : Answer) (old new : Device) (all : List (ℕ × List ℕ)) (costs : ℕ) : Type 0 where
  pub added : List (ℕ × List ℕ)
  pub adds : Adds new.spent line answer added
  pub reports : ReportsHistory line answer (record { state = state_of format_of area old; all = all })
  pub keeps : IsKept (record { state = state_of format_of area new; all = all ++ added })
  pub whole : WholeSoFar format_of area new (all ++ added) (costs + cost_after (format_on format_of old area).cost line answer)

module _ (format_of : Geometry → SectorFormat) (area : Area) (line : Line) (answer : Answer) (old new : Device) (all : List (ℕ × List ℕ)) (costs : ℕ) (law : IsSectorFormat (format_on format_of old area))
    (kept : IsKept (record { state = state_of format_of area old; all = all })) (so_far : WholeSoFar format_of area old all costs) (is : LineDone format_of area line answer old new) where
  reported : GoesOn new.spent line answer all (state_of format_of area old) (state_of format_of area new)
  reported = goes_on new.spent all (state_of format_of area old) kept (rules_on format_of old area) line answer (state_of format_of area new) (is.step new.spent (omega arith))

  -- nothing changed, and nothing was added
  still : WholeSoFar format_of area old (all ++ []) (costs + 0)
  still = λ few. let now = so_far (omega (arith, few)) in let room = now.room in record { list = now.list ∙ sym (append-nil all); rests = now.rests; room = omega (arith, room) }

  goes_off : answer ≡ answers.Off → Goes format_of area line answer old new all costs
  goes_off off =
      let done = subst (λ (a : Answer). LineDone format_of area line a old new) off is in
      let same = off_changes format_of area old new line done in
      let none = off_adds new.spent line reported.added (subst (λ (a : Answer). Adds new.spent line a reported.added) off reported.adds) in
      let free = ap (λ (a : Answer). cost_after (format_on format_of old area).cost line a) off in
      record {
        added = reported.added;
        adds = reported.adds;
        reports = reported.reports;
        keeps = reported.keeps;
        whole = subst (λ (n : ℕ). WholeSoFar format_of area new (all ++ reported.added) (costs + n)) (sym free)
            (subst (λ (pairs : List (ℕ × List ℕ)). WholeSoFar format_of area new (all ++ pairs) (costs + 0)) (sym none)
            (subst (λ (d : Device). WholeSoFar format_of area d (all ++ []) (costs + 0)) (sym same) still));
      }

  module _ (counts : cost_after (format_on format_of old area).cost line answer ≡ line_cost (format_on format_of old area).cost line) where
    -- it is counted with what the line costs
    as_counted : (pairs : List (ℕ × List ℕ)) → WholeSoFar format_of area new pairs (costs + line_cost (format_on format_of old area).cost line)
        → WholeSoFar format_of area new pairs (costs + cost_after (format_on format_of old area).cost line answer)
    as_counted pairs whole = subst (λ (n : ℕ). WholeSoFar format_of area new pairs (costs + n)) (sym counts) whole

    -- more than a sector has
    goes_past : cap_on format_of old area < costs + line_cost (format_on format_of old area).cost line → Goes format_of area line answer old new all costs
    goes_past many =
        let keeps = is.keeps in
        let cap = same_cap format_of area old new keeps.banks in
        record { added = reported.added; adds = reported.adds; reports = reported.reports; keeps = reported.keeps; whole = as_counted (all ++ reported.added) (λ few. absurd (omega (arith, many, cap, few))) }

    goes_whole : costs + line_cost (format_on format_of old area).cost line ≤ cap_on format_of old area → Goes format_of area line answer old new all costs
    goes_whole few =
        let now = so_far (omega (arith, few)) in
        let forgets = forgets_for_room format_of area line answer old new law is (line_fits format_of area old new law all costs now line few) in
        let room = after format_of area old new law all costs now line answer is few in
        let list : list_on format_of new area ≡ all ++ forgets.added = forgets.list ∙ ap (λ (pairs : List (ℕ × List ℕ)). pairs ++ forgets.added) now.list in
        record {
          added = forgets.added;
          adds = forgets.adds;
          reports = reported.reports;
          keeps = kept_by (all ++ forgets.added) (state_of format_of area new) (keeps_all (all ++ forgets.added) (list_on format_of new area) list);
          whole = as_counted (all ++ forgets.added) (λ within. record { list = list; rests = room.rests; room = room.room });
        }

    goes_counted : Goes format_of area line answer old new all costs
    goes_counted = elim (cases_lt (cap_on format_of old area) (costs + line_cost (format_on format_of old area).cost line)) [
      | inl many ↦ goes_past many
      | inr few ↦ goes_whole few
    ]

  goes : Goes format_of area line answer old new all costs
  goes = elim (counted_or_off (format_on format_of old area).cost line answer) [
    | inl off ↦ goes_off off
    | inr counts ↦ goes_counted counts
  ]

  -- what is kept no more there never was
  gone : (id n : ℕ) → line ≡ Older id n → answer ≡ answers.Gone → costs ≤ cap_on format_of old area → length (versions all id) ≤ n
  gone id n asked reported within =
      let now = so_far within in
      let done = subst (λ (l : Line). LineDone format_of area l answers.Gone old new) asked (subst (λ (a : Answer). LineDone format_of area line a old new) reported is) in
      let step = done.step new.spent (omega arith) in
      subst (λ (pairs : List (ℕ × List ℕ)). length (versions pairs id) ≤ n) now.list step.1.0

-- ---- a whole run

record Continues (format_of : Geometry → SectorFormat) (area : Area) (lines : List Line) (answers : List Answer) (from : Tracked) (new : Device) : Type 0 where
  pub all : List (ℕ × List ℕ)
  pub costs : ℕ
  pub runs : Follows (WholeStep format_of area) lines answers from (record { device = new; all = all; costs = costs })

continues : (format_of : Geometry → SectorFormat) (area : Area) (lines : List Line) (answers : List Answer) (old new : Device) (all : List (ℕ × List ℕ)) (costs : ℕ) → IsSectorFormat (format_on format_of old area) → IsKept (record { state = state_of format_of area old; all = all })
    → WholeSoFar format_of area old all costs → Follows (LineDone format_of area) lines answers old new → Continues format_of area lines answers (record { device = old; all = all; costs = costs }) new
continues format_of area [] [] old new all costs law kept so_far same = record { all = all; costs = costs; runs = ap (λ (d : Device). record { device = d; all = all; costs = costs }) same }
continues format_of area [] (answer ∷ answers) old new all costs law kept so_far none = absurd none
continues format_of area (line ∷ lines) [] old new all costs law kept so_far none = absurd none
continues format_of area (line ∷ lines) (answer ∷ answers) old new all costs law kept so_far runs =
    let mid : Device = runs.0 in
    let head = goes format_of area line answer old mid all costs law kept so_far runs.1 in
    let there = from_geometry (λ (u : Geometry). IsSectorFormat (format_of u)) old mid area runs.1.keeps.banks law in
    let tail = continues format_of area lines answers mid new (all ++ head.added) (costs + cost_after (format_on format_of old area).cost line answer) there head.keeps head.whole runs.2 in
    record {
      all = tail.all;
      costs = tail.costs;
      runs = (
        record { device = mid; all = all ++ head.added; costs = costs + cost_after (format_on format_of old area).cost line answer },
        record {
          done = runs.1;
          records = record { added = head.added; adds = head.adds; all = refl; reports = head.reports; keeps = head.keeps };
          costs = refl;
          whole = λ within. let now = head.whole within in now.list;
          gone = gone format_of area line answer old mid all costs law kept so_far runs.1;
        },
        tail.runs,
      );
    }

pub history_stays_whole : HistoryStaysWhole
history_stays_whole format_of area lines answers old new law fresh runs =
    let room = fresh.room in
    let whole = continues format_of area lines answers old new [] 0 law (kept_by [] (state_of format_of area old) (keeps_all [] (list_on format_of old area) fresh.list))
    (λ within. record { list = fresh.list; rests = fresh.rests; room = omega (arith, room) }) runs in
    record { all = whole.all; costs = whole.costs; runs = whole.runs }

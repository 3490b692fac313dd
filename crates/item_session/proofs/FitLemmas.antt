-- A line whose entry fits the open sector forgets nothing.
use Rattle.std.proofs.Common.{◌≡◌, ◌⊎◌, inl, inr, ℕ, true, false, List, [], ◌∷◌, ◌++◌, length, append-nil, refl, sym, ap, subst, ◌∙◌, arith}
use Rattle.std.proofs.lemmas.Bool.{false≢true}
use Rattle.flash_sim.specs.Device.{Device}
use Rattle.flash_map.specs.declared.area.Area.{Area}
use Rattle.flash_map.specs.declared.area.Geometry.{Geometry}
use Rattle.flash_map.specs.Area.{sector_size, sectors_of}
use Rattle.item_session.specs.declared.line.Line.{Line}
use Rattle.item_session.specs.declared.line.Line.TheVariants.{Set, Get, Delete, Older, Space, Cut, Uncut, Mount}
use Rattle.item_session.specs.declared.answer.Answer.{Answer}
use Rattle.item_session.specs.declared.answer.Answer.TheVariants as answers
use Rattle.item_store.specs.SectorFormat.{IsSectorFormat, SectorFormat}
use Rattle.item_store.specs.Listed.{format_on, list_on}
use Rattle.item_store.specs.Room.{MakesRoom, Rounds, StopsMakingRoom, has_room, has_room_at}
use Rattle.item_store.specs.Standing.{list_at}
use Rattle.item_store.specs.Writing.{Appends, StopsAppending}
use Rattle.item_store.proofs.RoomSteps.{rounds-none}
use Rattle.item_session.specs.Fits.{ForgetsNone}
use Rattle.item_session.specs.History.{Adds}
use Rattle.item_session.specs.Laws.{ForgetsForRoom}
use Rattle.item_session.specs.LineDone.{LineDone}
use Rattle.item_session.specs.Step.{State}
use Rattle.item_session.proofs.LineLemmas.{no_dropping, no_keeping}
use Rattle.item_session.proofs.StateLemmas.{list_there}

module _ (k : SectorFormat) (law : IsSectorFormat k) (old new : Device) (area : Area) (len : ℕ) (fits : has_room_at k old area len ≡ true) where
  -- where it fits, no round is made
  pub no_round : (mid : Device) → MakesRoom k old mid area len → mid ≡ old
  no_round mid makes = makes.none (rounds-none k law (sector_size old area) len (sectors_of old area) makes.before (sectors_of mid area) fits makes.rounds)

  none_begun : (mid : List (List ℕ)) (before : List (List (List ℕ))) → before ≡ [] → Rounds k (sector_size old area) len (sectors_of old area) before mid → has_room k mid len ≡ false → ⊥
  none_begun mid before none did unfit =
      let same : mid ≡ sectors_of old area = subst (λ (b : List (List (List ℕ))). Rounds k (sector_size old area) len (sectors_of old area) b mid) none did in
      false≢true (sym unfit ∙ ap (λ (s : List (List ℕ)). has_room k s len) same ∙ fits)

  pub not_begun : StopsMakingRoom k old new area len → ⊥
  not_begun stops =
      none_begun stops.mid stops.before (rounds-none k law (sector_size old area) len (sectors_of old area) stops.before stops.mid fits stops.rounds) stops.rounds stops.unfit

module _ (k : SectorFormat) (law : IsSectorFormat k) (old new : Device) (area : Area) (id : ℕ) (bytes : List ℕ) (fits : has_room_at k old area (length bytes) ≡ true) where
  appended : Appends k old new area id bytes → list_at k new area ≡ list_at k old area ++ (id, bytes) ∷ []
  appended appends =
      appends.puts.list ∙ ap (λ (d : Device). list_at k d area ++ (id, bytes) ∷ []) (no_round k law old new area (length bytes) fits appends.mid appends.makes)

  stopped : StopsAppending k old new area id bytes → (list_at k new area ≡ list_at k old area) ⊎ (list_at k new area ≡ list_at k old area ++ (id, bytes) ∷ [])
  stopped (inl rounds) = absurd (not_begun k law old new area (length bytes) fits rounds)
  stopped (inr entry) =
      let same = no_round k law old new area (length bytes) fits entry.mid entry.makes in
      elim entry.stops.list [
        | inl kept ↦ inl (kept ∙ ap (λ (d : Device). list_at k d area) same)
        | inr more ↦ inr (more ∙ ap (λ (d : Device). list_at k d area ++ (id, bytes) ∷ []) same)
      ]

module _ (format_of : Geometry → SectorFormat) (area : Area) (old new : Device) where
  -- nothing was added
  none : (line : Line) (answer : Answer) → Adds new.spent line answer [] → list_on format_of new area ≡ list_on format_of old area → ForgetsNone format_of area line answer old new
  none line answer adds same = record { added = []; adds = adds; list = same ∙ sym (append-nil (list_on format_of old area)) }

  one : (line : Line) (answer : Answer) (pair : ℕ × List ℕ) → new.banks ≡ old.banks → Adds new.spent line answer (pair ∷ []) → list_at (format_on format_of old area) new area ≡ list_on format_of old area ++ pair ∷ [] → ForgetsNone format_of area line answer old new
  one line answer pair banks adds list = record { added = pair ∷ []; adds = adds; list = sym (list_there format_of area old new banks) ∙ list }

  same_list : new ≡ old → list_on format_of new area ≡ list_on format_of old area
  same_list is = ap (λ (d : Device). list_on format_of d area) is

  off_list : (line : Line) → LineDone format_of area line answers.Off old new → list_on format_of new area ≡ list_on format_of old area
  off_list line done = let step = done.step new.spent (omega arith) in ap (λ (s : State). s.list) step.2

  module _ (law : IsSectorFormat (format_on format_of old area)) where
    sets : (id : ℕ) (value : List ℕ) (answer : Answer) → has_room_at (format_on format_of old area) old area (length value) ≡ true → LineDone format_of area (Set id value) answer old new → ForgetsNone format_of area (Set id value) answer old new
    sets id value (answers.Done units) fits done =
        let step = done.step new.spent (omega arith) in
        elim step.1.1 [
          | inl held ↦ none (Set id value) (answers.Done units) (inl (held.1, refl)) (ap (λ (s : State). s.list) held.2)
          | inr gets ↦
              let writes = done.writes in
              one (Set id value) (answers.Done units) (id, value) done.keeps.banks (inr (gets.1, refl))
              (appended (format_on format_of old area) law old new area id value fits (writes.appends gets.0))
        ]
    sets id value (answers.NoSpace units need live) fits done = let writes = done.writes in absurd (false≢true (sym writes.unfit ∙ fits))
    sets id value (answers.Lost units) fits done =
        let writes = done.writes in
        elim (stopped (format_on format_of old area) law old new area id value fits writes.stops) [
          | inl kept ↦ none (Set id value) (answers.Lost units) (inl refl) (sym (list_there format_of area old new done.keeps.banks) ∙ kept)
          | inr more ↦ one (Set id value) (answers.Lost units) (id, value) done.keeps.banks (inr refl) more
        ]
    sets id value answers.Off fits done = none (Set id value) answers.Off refl (off_list (Set id value) done)
    sets id value (answers.Value bytes) fits done = let step = done.step new.spent (omega arith) in absurd step.1
    sets id value answers.Absent fits done = let step = done.step new.spent (omega arith) in absurd step.1
    sets id value answers.Deleted fits done = let step = done.step new.spent (omega arith) in absurd step.1
    sets id value answers.Gone fits done = let step = done.step new.spent (omega arith) in absurd step.1
    sets id value (answers.Space live stale free) fits done = let step = done.step new.spent (omega arith) in absurd step.1

    deletes : (id : ℕ) (answer : Answer) → has_room_at (format_on format_of old area) old area 0 ≡ true → LineDone format_of area (Delete id) answer old new → ForgetsNone format_of area (Delete id) answer old new
    deletes id (answers.Done units) fits done =
        let step = done.step new.spent (omega arith) in
        elim step.1.1 [
          | inl held ↦ none (Delete id) (answers.Done units) (inl (held.1, refl)) (ap (λ (s : State). s.list) held.2)
          | inr loses ↦
              let writes = done.writes in
              one (Delete id) (answers.Done units) (id, []) done.keeps.banks (inr (loses.1, refl))
              (appended (format_on format_of old area) law old new area id [] fits (writes.appends loses.0))
        ]
    deletes id (answers.Lost units) fits done =
        let writes = done.writes in
        elim (stopped (format_on format_of old area) law old new area id [] fits writes.stops) [
          | inl kept ↦ none (Delete id) (answers.Lost units) (inl refl) (sym (list_there format_of area old new done.keeps.banks) ∙ kept)
          | inr more ↦ one (Delete id) (answers.Lost units) (id, []) done.keeps.banks (inr refl) more
        ]
    deletes id answers.Off fits done = none (Delete id) answers.Off refl (off_list (Delete id) done)
    deletes id (answers.NoSpace units need live) fits done = let step = done.step new.spent (omega arith) in absurd step.1
    deletes id (answers.Value bytes) fits done = let step = done.step new.spent (omega arith) in absurd step.1
    deletes id answers.Absent fits done = let step = done.step new.spent (omega arith) in absurd step.1
    deletes id answers.Deleted fits done = let step = done.step new.spent (omega arith) in absurd step.1
    deletes id answers.Gone fits done = let step = done.step new.spent (omega arith) in absurd step.1
    deletes id (answers.Space live stale free) fits done = let step = done.step new.spent (omega arith) in absurd step.1

pub forgets_for_room : ForgetsForRoom
forgets_for_room format_of area (Set id value) answer old new law done fits = sets format_of area old new law id value answer fits done
forgets_for_room format_of area (Delete id) answer old new law done fits = deletes format_of area old new law id answer fits done
forgets_for_room format_of area (Get id) answer old new law done fits = none format_of area old new (Get id) answer refl (same_list format_of area old new (done.reports refl))
forgets_for_room format_of area (Older id n) answer old new law done fits = none format_of area old new (Older id n) answer refl (same_list format_of area old new (done.reports refl))
forgets_for_room format_of area Space answer old new law done fits = none format_of area old new Space answer refl (same_list format_of area old new (done.reports refl))
forgets_for_room format_of area Mount answer old new law done fits =
    let mounts = done.mounts refl in
    let rests = mounts.rests fits in
    none format_of area old new Mount answer refl (ap (λ (d : Device). list_on format_of d area) rests.1)
forgets_for_room format_of area (Cut units) answer old new law done fits =
    none format_of area old new (Cut units) answer refl (ap (λ (d : Device). list_on format_of d area) (done.plans (no_keeping units)))
forgets_for_room format_of area Uncut answer old new law done fits = none format_of area old new Uncut answer refl (ap (λ (d : Device). list_on format_of d area) (done.plans no_dropping))

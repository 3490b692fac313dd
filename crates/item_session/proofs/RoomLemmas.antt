-- A set or a delete whose entry fits the open sector leaves the area at rest, and takes no more of what
-- was free than it costs, wherever power is lost.
use Rattle.std.proofs.Common.{◌≡◌, inl, inr, ℕ, ◌+◌, ◌≤◌, true, List, [], length, refl, sym, subst, ◌∙◌, arith}
use Rattle.std.proofs.lemmas.Bool.{false≢true}
use Rattle.flash_sim.specs.Device.{Device}
use Rattle.flash_map.specs.declared.area.Area.{Area}
use Rattle.flash_map.specs.declared.area.Geometry.{Geometry}
use Rattle.item_session.specs.declared.line.Line.TheVariants.{Set, Delete}
use Rattle.item_session.specs.declared.answer.Answer.{Answer}
use Rattle.item_session.specs.declared.answer.Answer.TheVariants as answers
use Rattle.item_store.specs.SectorFormat.{IsSectorFormat, SectorFormat}
use Rattle.item_store.specs.Listed.{format_on}
use Rattle.item_store.specs.Room.{has_room_at}
use Rattle.item_store.specs.Standing.{RestsAt}
use Rattle.item_store.specs.Writing.{Appends, StopsAppending, open_at}
use Rattle.item_store.proofs.CallFacts.{from_geometry}
use Rattle.item_session.specs.Device.{RestsOn}
use Rattle.item_session.specs.LineDone.{LineDone}
use Rattle.item_session.specs.Whole.{free_on}
use Rattle.item_session.proofs.FitLemmas.{no_round, not_begun}

-- what it leaves of an area that this format reads
record LeavesRoomAt (k : SectorFormat) (old new : Device) (area : Area) (cost : ℕ) : Type 0 where
  pub rests : RestsAt k new area
  pub room : k.free (open_at k old area) ≤ k.free (open_at k new area) + cost

module _ (k : SectorFormat) (law : IsSectorFormat k) (old new : Device) (area : Area) (id : ℕ) (bytes : List ℕ) (fits : has_room_at k old area (length bytes) ≡ true) where
  -- no round was made
  from_mid : (mid : Device) → mid ≡ old → LeavesRoomAt k mid new area (k.cost (length bytes)) → LeavesRoomAt k old new area (k.cost (length bytes))
  from_mid mid same leaves = subst (λ (d : Device). LeavesRoomAt k d new area (k.cost (length bytes))) same leaves

  appended_room : Appends k old new area id bytes → LeavesRoomAt k old new area (k.cost (length bytes))
  appended_room appends =
      let puts = appends.puts in
      let room = puts.room in
      from_mid appends.mid (no_round k law old new area (length bytes) fits appends.mid appends.makes) (record { rests = puts.rests; room = omega (arith, room) })

  stopped_room : StopsAppending k old new area id bytes → LeavesRoomAt k old new area (k.cost (length bytes))
  stopped_room (inl rounds) = absurd (not_begun k law old new area (length bytes) fits rounds)
  stopped_room (inr entry) =
      let stops = entry.stops in
      from_mid entry.mid (no_round k law old new area (length bytes) fits entry.mid entry.makes) (record { rests = stops.rests; room = stops.room })

-- the same of any area
pub record LeavesRoom (format_of : Geometry → SectorFormat) (area : Area) (old new : Device) (cost : ℕ) : Type 0 where
  pub rests : RestsOn format_of new area
  pub room : free_on format_of old area ≤ free_on format_of new area + cost

module _ (format_of : Geometry → SectorFormat) (area : Area) (old new : Device) (rests : RestsOn format_of old area) where
  -- nothing changed
  left_alone : (cost : ℕ) → new ≡ old → LeavesRoom format_of area old new cost
  left_alone cost same =
      subst (λ (d : Device). LeavesRoom format_of area old d cost) (sym same) (record { rests = rests; room = omega arith })

  -- its unit is the same behind a call
  left_there : (cost : ℕ) → new.banks ≡ old.banks → LeavesRoomAt (format_on format_of old area) old new area cost → LeavesRoom format_of area old new cost
  left_there cost banks leaves = record {
    rests = from_geometry (λ (u : Geometry). RestsAt (format_of u) new area) old new area banks leaves.rests;
    room = from_geometry (λ (u : Geometry). free_on format_of old area ≤ (format_of u).free (open_at (format_of u) new area) + cost) old new area banks leaves.room;
  }

  module _ (law : IsSectorFormat (format_on format_of old area)) where
    pub set_room : (id : ℕ) (value : List ℕ) (answer : Answer) → has_room_at (format_on format_of old area) old area (length value) ≡ true → LineDone format_of area (Set id value) answer old new
        → LeavesRoom format_of area old new ((format_on format_of old area).cost (length value))
    set_room id value (answers.Done units) fits done =
        let step = done.step new.spent (omega arith) in
        let writes = done.writes in
        elim step.1.1 [
          | inl held ↦ left_alone ((format_on format_of old area).cost (length value)) (writes.equal held.0)
          | inr gets ↦ left_there ((format_on format_of old area).cost (length value)) done.keeps.banks (appended_room (format_on format_of old area) law old new area id value fits (writes.appends gets.0))
        ]
    set_room id value (answers.NoSpace units need live) fits done = let writes = done.writes in absurd (false≢true (sym writes.unfit ∙ fits))
    set_room id value (answers.Lost units) fits done =
        let writes = done.writes in
        left_there ((format_on format_of old area).cost (length value)) done.keeps.banks (stopped_room (format_on format_of old area) law old new area id value fits writes.stops)
    set_room id value answers.Off fits done =
        let step = done.step new.spent (omega arith) in
        let touches = done.touches refl in
        left_alone ((format_on format_of old area).cost (length value)) (touches.off step.1)
    set_room id value (answers.Value bytes) fits done = let step = done.step new.spent (omega arith) in absurd step.1
    set_room id value answers.Absent fits done = let step = done.step new.spent (omega arith) in absurd step.1
    set_room id value answers.Deleted fits done = let step = done.step new.spent (omega arith) in absurd step.1
    set_room id value answers.Gone fits done = let step = done.step new.spent (omega arith) in absurd step.1
    set_room id value (answers.Space live stale free) fits done = let step = done.step new.spent (omega arith) in absurd step.1

    pub delete_room : (id : ℕ) (answer : Answer) → has_room_at (format_on format_of old area) old area 0 ≡ true → LineDone format_of area (Delete id) answer old new → LeavesRoom format_of area old new ((format_on format_of old area).cost 0)
    delete_room id (answers.Done units) fits done =
        let step = done.step new.spent (omega arith) in
        let deletes = done.writes in
        elim step.1.1 [
          | inl absent ↦ left_alone ((format_on format_of old area).cost 0) (deletes.absent absent.0)
          | inr loses ↦ left_there ((format_on format_of old area).cost 0) done.keeps.banks (appended_room (format_on format_of old area) law old new area id [] fits (deletes.appends loses.0))
        ]
    delete_room id (answers.Lost units) fits done =
        let deletes = done.writes in
        left_there ((format_on format_of old area).cost 0) done.keeps.banks (stopped_room (format_on format_of old area) law old new area id [] fits deletes.stops)
    delete_room id answers.Off fits done =
        let step = done.step new.spent (omega arith) in
        let touches = done.touches refl in
        left_alone ((format_on format_of old area).cost 0) (touches.off step.1)
    delete_room id (answers.NoSpace units need live) fits done = let step = done.step new.spent (omega arith) in absurd step.1
    delete_room id (answers.Value bytes) fits done = let step = done.step new.spent (omega arith) in absurd step.1
    delete_room id answers.Absent fits done = let step = done.step new.spent (omega arith) in absurd step.1
    delete_room id answers.Deleted fits done = let step = done.step new.spent (omega arith) in absurd step.1
    delete_room id answers.Gone fits done = let step = done.step new.spent (omega arith) in absurd step.1
    delete_room id (answers.Space live stale free) fits done = let step = done.step new.spent (omega arith) in absurd step.1

-- What an area owes to the next mount, behind lines.
use Rattle.std.proofs.Common.{◌≡◌, ℕ, ◌<◌, ◌≤◌, true, false, List, [], ◌∷◌, length, replicate, Result, Ok, Err, refl, sym, ap, subst, ◌∙◌, arith}
use Rattle.std.specs.Prelude.{IfOk, OnErr}
use Rattle.std.proofs.lemmas.Bool.{not-false}
use Rattle.flash_sim.specs.Bank.{IsLawful}
use Rattle.flash_sim.specs.Device.{Device}
use Rattle.flash_sim.specs.declared.flash.NoMemory.{NoMemory as Memory}
use Rattle.flash_map.specs.declared.area.Area.{Area}
use Rattle.flash_map.specs.declared.faults.Damaged.{Damaged}
use Rattle.flash_map.proofs.ErasedBytes.{erased_is}
use Rattle.flash_map.specs.Area.{sector_at, sector_size, sectors_of, unit_of}
use Rattle.flash_map.specs.Units.{is_erased, is_written}
use Rattle.fcb_ring.proofs.AreaLemmas.{has_size, length-states, state-at}
use Rattle.fcb_ring.proofs.MountLemmas.{none-due as none_of}
use Rattle.fcb_ring.proofs.RestLemmas.{none-due}
use Rattle.fcb_ring.proofs.RingLemmas.{turned-within}
use Rattle.fcb_ring.proofs.StandLemmas.{blank-untorn}
use Rattle.fcb_ring.specs.Entries.{states}
use Rattle.fcb_ring.specs.Standing.{erases_on}
use Rattle.fcb_ring.specs.Rings.{state_at, turned}
use Rattle.fcb_ring.specs.SectorStates.{state_of}
use Rattle.fcb_ring.specs.declared.sector.SectorState.{SectorState}
use Rattle.event_ring.proofs.FullLemmas.{blank-form}
use Rattle.session_table.proofs.FollowsLemmas.{kept}
use Rattle.session_table.specs.Follows.{Follows}
use Rattle.log_session.specs.Laws.{BlankOwesNothing}
use Rattle.log_session.specs.declared.answer.Answer.{Answer}
use Rattle.log_session.specs.declared.fault.SessionFault.{SessionFault}
use Rattle.log_session.specs.declared.fault.SessionFault.TheVariants.{Damaged as IsDamaged, NoMemory}
use Rattle.log_session.specs.declared.line.Line.{Line}
use Rattle.log_session.specs.declared.line.Line.TheVariants.{Mount}
use Rattle.log_session.specs.LineDone.{LineDone, turned_on}
use Rattle.log_session.specs.Owing.{MountsWithin, OwesOn, OwesUpTo, ReportsOwed, boot_units}
use Rattle.log_session.specs.Plan.{units_of}
use Rattle.log_session.specs.Running.{RunEnds}
use Rattle.log_session.specs.Standing.{ShowsDamage}

module _ (area : Area) where
  -- ---- one line

  pub mount-boots : (answer : Answer) (old new : Device) → LineDone area Mount answer old new → ReportsOwed area old answer
  mount-boots answer old new done most owes = let few = (done.mounts refl).at_most in omega arith

  pub mount-left : (answer : Answer) (old new : Device) → LineDone area Mount answer old new → OwesUpTo 0 area old new
  mount-left answer old new done most any owes = let less = (done.mounts refl).left in omega arith

  pub line-boots : (line : Line) (r : Result Answer Memory) (old new : Device) → IfOk r (λ (answer : Answer). LineDone area line answer old new) → line ≡ Mount → IfOk r (λ (answer : Answer). ReportsOwed area old answer)
  line-boots line (Ok answer) old new done is = mount-boots answer old new (subst (λ (l : Line). LineDone area l answer old new) is done)
  line-boots line (Err fault) old new done is = tt

  pub line-left : (line : Line) (r : Result Answer Memory) (old new : Device) → IfOk r (λ (answer : Answer). LineDone area line answer old new) → OnErr r (new ≡ old) → OwesUpTo boot_units area old new
  line-left line (Ok answer) old new done same = done.left
  line-left line (Err fault) old new done same = λ most one owes. subst (λ (d : Device). OwesOn d area most) (sym same) owes

  -- a mount that found damage
  pub damaged-left : (damaged : Damaged) (old new : Device) → ShowsDamage area old new damaged → OwesUpTo 0 area old new
  damaged-left damaged old new shows most any owes = subst (λ (d : Device). OwesOn d area most) (sym shows.1) owes

  -- ---- lines one after another

  lines-left : (lines : List Line) (answers : List Answer) (old new : Device) → Follows (LineDone area) lines answers old new → OwesUpTo boot_units area old new
  lines-left = kept (LineDone area) (λ a b. OwesUpTo boot_units area a b) (λ d most one owes. owes) (λ a b c first second most one owes. second most one (first most one owes)) (λ line answer a b done. done.left)

  lines-within : (most : ℕ) → boot_units ≤ most → (lines : List Line) (answers : List Answer) (old new : Device) → Follows (LineDone area) lines answers old new → OwesOn old area most → MountsWithin most lines answers
  lines-within most one [] [] old new runs owes = tt
  lines-within most one [] (answer ∷ answers) old new none owes = absurd none
  lines-within most one (line ∷ lines) [] old new none owes = absurd none
  lines-within most one (line ∷ lines) (answer ∷ answers) old new (mid, done, runs) owes = (
    λ is. mount-boots answer old mid (subst (λ (l : Line). LineDone area l answer old mid) is done) most owes,
    lines-within most one lines answers mid new runs (done.left most one owes),
  )

  pub run-boots : (lines : List Line) (old new : Device) (r : Result (List Answer) SessionFault) → RunEnds area lines old new r
      → (most : ℕ) → boot_units ≤ most → OwesOn old area most → OwesOn new area most × IfOk r (λ (answers : List Answer). MountsWithin most lines answers)
  run-boots lines old new (Ok answers) ends most one owes =
      let runs = ends.1.in_turn in
      (lines-left lines answers old new runs most one owes, lines-within most one lines answers old new runs owes)
  run-boots lines old new (Err (IsDamaged damaged)) ends most one owes = (damaged-left damaged old new ends most (omega arith) owes, tt)
  run-boots lines old new (Err NoMemory) ends most one owes =
      let stops = ends.1 in
      (lines-left stops.prefix stops.answers old new stops.ran.in_turn most one owes, tt)

-- ---- a blank area

pub blank-owes : BlankOwesNothing
blank-owes d area lawful ring blank =
    let unit : ℕ = unit_of d area in
    let sectors : List (List ℕ) = sectors_of d area in
    let has = has_size d area lawful ring in
    let long = length-states unit sectors in
    let some : 0 < length (states unit sectors) = omega (arith, has.several, long) in
    let none : erases_on d area ≡ 0 = none-due unit sectors 0 0 (blank-form unit (sector_size d area) sectors has blank) (
      some,
      λ k le lt.
          let place : ℕ = turned (length (states unit sectors)) 0 k in
          let inside : turned (length (states unit sectors)) 0 k < length sectors = let w = turned-within (length (states unit sectors)) 0 k some (omega arith) in omega (arith, w, long) in
          let erased : is_erased (sector_at sectors place) ≡ true = not-false (is_erased (sector_at sectors place)) (none_of is_written sectors place inside blank) in
          let large = has.at_least in
          ap (λ (s : SectorState). s.is_torn) (state-at unit sectors place inside) ∙ ap (λ (b : List ℕ). (state_of unit b).is_torn) (erased_is (sector_at sectors place) erased)
          ∙ blank-untorn unit (length (sector_at sectors place)) (omega (arith, has.each place inside, large)),
    ) in
    omega arith

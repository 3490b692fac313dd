-- What an area of items owes to the next mount, behind lines.
use Rattle.std.proofs.Common.{◌≡◌, ◌⊎◌, ℕ, ◌+◌, ◌<◌, ◌≤◌, max, Bool, true, false, cond, None, List, [], ◌∷◌, length, Result, Ok, Err, inl, inr, refl, sym, ap, subst, ◌∙◌, arith}
use Rattle.std.specs.Prelude.{IfOk, OnErr}
use Rattle.std.proofs.lemmas.List.Sums.{sum_by-cons}
use Rattle.flash_sim.specs.Bank.{IsLawful}
use Rattle.flash_sim.specs.Device.{Device}
use Rattle.flash_sim.specs.declared.flash.Bank.{Bank}
use Rattle.flash_sim.specs.declared.flash.NoMemory.{NoMemory as Memory}
use Rattle.flash_map.specs.declared.area.Area.{Area}
use Rattle.flash_map.specs.declared.area.Geometry.{Geometry}
use Rattle.flash_map.specs.declared.area.Role.{Role}
use Rattle.flash_map.specs.Area.{geometry_of, sector_at, sector_size, sectors_of}
use Rattle.flash_map.specs.Units.{IsUnit}
use Rattle.item_laws.specs.Area.{next, open_sector}
use Rattle.item_laws.specs.Forms.{IsForm, to_copy}
use Rattle.item_laws.specs.PairRounds.{copies_cost}
use Rattle.item_laws.proofs.AreaReads.{length-sectors}
use Rattle.item_laws.proofs.Places.{after-within}
use Rattle.item_store.specs.declared.entry.Redo.{Redo}
use Rattle.item_store.specs.declared.entry.Redo.TheVariants.{Nothing, ClearNext, CollectAgain}
use Rattle.item_store.specs.Collecting.{redo_of, redo_units}
use Rattle.item_store.specs.Listed.{format_on}
use Rattle.item_store.specs.SectorFormat.{Range, SectorFormat, IsSectorFormat}
use Rattle.item_store.specs.Spending.{again_units, ready_units}
use Rattle.item_store.specs.Standing.{IsStoreArea}
use Rattle.item_store.proofs.Areas.{size_there, large_there, form_here, copied-le, unit_is}
use Rattle.item_store.proofs.CallFacts.{from_geometry}
use Rattle.item_store.proofs.CollectSteps.{collecting_from}
use Rattle.session_table.proofs.CountLemmas.{units_most}
use Rattle.session_table.specs.Follows.{Follows}
use Rattle.item_session.specs.declared.answer.Answer.{Answer}
use Rattle.item_session.specs.declared.answer.Answer.TheVariants as answers
use Rattle.item_session.specs.declared.fault.SessionFault.{SessionFault}
use Rattle.item_session.specs.declared.fault.SessionFault.TheVariants.{Damaged as IsDamaged, NoMemory}
use Rattle.item_session.specs.declared.line.Line.{Line}
use Rattle.item_session.specs.declared.line.Line.TheVariants.{Mount}
use Rattle.item_session.specs.Device.{turned_on}
use Rattle.item_session.specs.LineDone.{LineDone, Redoes}
use Rattle.item_session.specs.Owing.{MountsWithin, OwesOn, ReportsOwed, boot_units}
use Rattle.item_session.specs.Plan.{units_of}
use Rattle.item_session.specs.Running.{MountStops, RunEnds, WantsMemory}
use Rattle.item_session.specs.Standing.{damage_on}
use Rattle.item_session.proofs.FoldLemmas.{left_as}

-- ---- the greatest redo

-- Four steps one after another: whole, and cut in any of them.
steps-whole : (rm rl x cm cl dm dl em y : ℕ) → rm ≤ rl → rl ≤ x → cm ≤ cl → dm ≤ dl → em ≤ y → rm + (cm + (dm + em)) ≤ x + (cl + (dl + y))
steps-whole rm rl x cm cl dm dl em y r first c d e = omega arith

steps-cut : (rm rl x cm cl dm dl em el y : ℕ) → rm ≤ rl → rl ≤ x → cm ≤ cl → dm ≤ dl → em ≤ el → el ≤ y → max rl (rm + max cl (cm + max dl (dm + el))) ≤ x + (cl + (dl + y))
steps-cut rm rl x cm cl dm dl em el y r first c d e last = omega arith

copies-cover : (price higher : ℕ → ℕ) → ((len : ℕ) → price len ≤ higher len) → (pairs : List (ℕ × List ℕ)) → copies_cost price pairs ≤ copies_cost higher pairs
copies-cover price higher le [] = omega arith
copies-cover price higher le (p ∷ ps) =
    let rest = copies-cover price higher le ps in
    let here = le (length p.1) in
    let low : copies_cost price (p ∷ ps) ≡ price (length p.1) + copies_cost price ps = sum_by-cons (λ (q : ℕ × List ℕ). price (length q.1)) p ps in
    let high : copies_cost higher (p ∷ ps) ≡ higher (length p.1) + copies_cost higher ps = sum_by-cons (λ (q : ℕ × List ℕ). higher (length q.1)) p ps in
    omega arith

one-within : (t : Bool) (one other : Range) (most : ℕ) → one.most ≤ one.lost → other.most ≤ other.lost → other.lost ≤ most → ((cond t one other).most ≤ (cond t one other).lost) × ((cond t one other).lost ≤ max one.lost most)
one-within true one other most first second le = (first, omega arith)
one-within false one other most first second le = (second, omega arith)

module _ (k : SectorFormat) (law : IsSectorFormat k) (sectors : List (List ℕ)) (place : ℕ) where
  abbrev pairs : List (ℕ × List ℕ)
  pairs = to_copy k.reading sectors place

  abbrev lost : ℕ → ℕ
  lost len = (k.units.any_copy len).lost

  abbrev most : ℕ → ℕ
  most len = (k.units.any_copy len).most

  abbrev victim : Range
  victim = k.units.clear (sector_at sectors (next sectors place))

  abbrev whole : ℕ
  whole = max (k.units.begin (sector_at sectors place)).lost k.units.any_clear.lost + (copies_cost lost pairs + (k.units.any_done.lost + k.units.any_clear.lost))

  again-within : ((again_units k sectors place).most ≤ whole) × ((again_units k sectors place).lost ≤ whole)
  again-within =
      let b : List ℕ = sector_at sectors place in
      let ready = one-within (k.is_clean b) (k.units.begin b) (k.units.clear b) k.units.any_clear.lost (law.units.begins b) (law.units.clears b) (law.units.clear_lost b) in
      let copied = copies-cover most lost law.units.any_copies pairs in
      let cleared = law.units.clears (sector_at sectors (next sectors place)) in
      let clears = law.units.clear_lost (sector_at sectors (next sectors place)) in
      let own : Range = ready_units k sectors place in
      let first : ℕ = max (k.units.begin b).lost k.units.any_clear.lost in (
        steps-whole own.most own.lost first (copies_cost most pairs) (copies_cost lost pairs) k.units.any_done.most k.units.any_done.lost victim.most k.units.any_clear.lost ready.0 ready.1 copied law.units.any_dones
            (omega (arith, cleared, clears)),
        steps-cut own.most own.lost first (copies_cost most pairs) (copies_cost lost pairs) k.units.any_done.most k.units.any_done.lost victim.most victim.lost k.units.any_clear.lost ready.0 ready.1 copied law.units.any_dones cleared clears,
      )

module _ (role : Role) (format_of : Geometry → SectorFormat) (laws : (geometry : Geometry) → IsUnit geometry.unit → IsSectorFormat (format_of geometry)) (d : Device) (lawful : IsLawful d.banks d.bytes) (area : Area) (own : IsStoreArea role d.banks area) (undamaged : damage_on format_of d area ≡ None) where
  abbrev k : SectorFormat
  k = format_on format_of d area

  abbrev sectors : List (List ℕ)
  sectors = sectors_of d area

  abbrev place : ℕ
  place = open_sector k.reading sectors

  law : IsSectorFormat (format_on format_of d area)
  law = laws (geometry_of d area) (unit_is d area lawful own.lawful)

  count : length (sectors_of d area) ≡ area.sectors
  count = length-sectors d area

  form : IsForm k.reading (sectors_of d area) (open_sector k.reading (sectors_of d area))
  form = form_here k law sectors place (omega (arith, own.lawful.several, count)) undamaged refl

  redo-within : (redo : Redo) → redo_of k sectors place ≡ redo → ((redo_units k sectors place redo).most ≤ k.units.mount (sector_size d area)) × ((redo_units k sectors place redo).lost ≤ k.units.mount (sector_size d area))
  redo-within Nothing nothing = (omega arith, omega arith)
  redo-within ClearNext clears =
      let nothing : copies_cost k.cost [] ≤ k.cap (sector_size d area) = omega arith in
      let all = law.mount (sector_size d area) (sector_at sectors place) [] own.lawful.at_least nothing in
      let covers = law.units.clears (sector_at sectors (next sectors place)) in
      let wide = law.units.clear_lost (sector_at sectors (next sectors place)) in
      (omega arith, omega arith)
  redo-within CollectAgain again =
      let collecting = collecting_from k law sectors place form again in
      let victim : next sectors place < area.sectors = subst (λ (n : ℕ). next sectors place < n) count (after-within (length sectors) place collecting.ring.within) in
      let long = size_there role d area lawful own (next sectors place) victim in
      let large = large_there role d area lawful own (next sectors place) victim in
      let few : copies_cost k.cost (to_copy k.reading sectors place) ≤ k.cap (sector_size d area) = subst (λ (n : ℕ). copies_cost k.cost (to_copy k.reading sectors place) ≤ k.cap n) long (copied-le k law sectors place collecting large) in
      let all = law.mount (sector_size d area) (sector_at sectors place) (to_copy k.reading sectors place) own.lawful.at_least few in
      let parts = again-within k law sectors place in
      (omega (arith, parts.0, all), omega (arith, parts.1, all))

  -- an area without damage owes no more than this
  owes-boot : OwesOn format_of d area (boot_units format_of (geometry_of d area))
  owes-boot = redo-within (redo_of k sectors place) refl

  -- the same, behind a call that left the banks
  pub owes-after : (first : Device) → d.banks ≡ first.banks → OwesOn format_of d area (boot_units format_of (geometry_of first area))
  owes-after first banks = from_geometry (λ (g : Geometry). OwesOn format_of d area (boot_units format_of g)) d first area (sym banks) owes-boot

module _ (format_of : Geometry → SectorFormat) (area : Area) where
  -- ---- one line

  redo-boots : (answer : Answer) (old new : Device) → old.spent + units_of answer ≡ new.spent → Redoes (format_on format_of old area) area answer (turned_on old) new → ReportsOwed format_of area old answer
  redo-boots (answers.Done units) old new spent redoes most owes =
      let spends = redoes.0 in
      let few = units_most old.spent new.spent spends.units spends.spent in
      omega (arith, spends.at_most, owes.0, few, spent)
  redo-boots (answers.Lost units) old new spent redoes most owes =
      let spends = redoes.0 in
      let few = units_most old.spent new.spent spends.units spends.spent in
      omega (arith, spends.at_most, owes.1, few, spent)
  redo-boots (answers.NoSpace units need live) old new spent redoes most owes = absurd redoes
  redo-boots (answers.Value value) old new spent redoes most owes = absurd redoes
  redo-boots answers.Absent old new spent redoes most owes = absurd redoes
  redo-boots answers.Deleted old new spent redoes most owes = absurd redoes
  redo-boots answers.Gone old new spent redoes most owes = absurd redoes
  redo-boots (answers.Space live stale free) old new spent redoes most owes = absurd redoes
  redo-boots answers.Off old new spent redoes most owes = absurd redoes

  pub mount-boots : (answer : Answer) (old new : Device) → LineDone format_of area Mount answer old new → ReportsOwed format_of area old answer
  mount-boots answer old new done = redo-boots answer old new done.accounts.spent (done.mounts refl).redoes

  pub line-boots : (line : Line) (r : Result Answer Memory) (old new : Device) → IfOk r (λ (answer : Answer). LineDone format_of area line answer old new) → line ≡ Mount → IfOk r (λ (answer : Answer). ReportsOwed format_of area old answer)
  line-boots line (Ok answer) old new done is = mount-boots answer old new (subst (λ (l : Line). LineDone format_of area l answer old new) is done)
  line-boots line (Err fault) old new done is = tt

  on-banks : (old new : Device) → new ≡ turned_on old → new.banks ≡ old.banks
  on-banks old new is = ap (λ (d : Device). d.banks) is

  pub line-banks : (line : Line) (r : Result Answer Memory) (old new : Device) → IfOk r (λ (answer : Answer). LineDone format_of area line answer old new) → OnErr r (WantsMemory format_of area line old new) → new.banks ≡ old.banks
  line-banks line (Ok answer) old new done wants = done.keeps.banks
  line-banks line (Err fault) old new done wants = elim (left_as format_of area line old new wants) [
    | inl same ↦ ap (λ (d : Device). d.banks) same
    | inr on ↦ on-banks old new on.1
  ]

  pub stops-banks : (fault : SessionFault) (old new : Device) → MountStops format_of area old new fault → new.banks ≡ old.banks
  stops-banks (IsDamaged damaged) old new stops = on-banks old new stops.1
  stops-banks NoMemory old new stops = on-banks old new stops

  -- ---- lines one after another

  -- the bound of one mount
  bound : (answer : Answer) (old new : Device) → LineDone format_of area Mount answer old new → units_of answer ≤ boot_units format_of (geometry_of old area)
  bound (answers.Done units) old new done = (done.step new.spent (omega arith)).1.0
  bound (answers.Lost units) old new done = (done.step new.spent (omega arith)).1.0
  bound (answers.NoSpace units need live) old new done = absurd (done.mounts refl).redoes
  bound (answers.Value value) old new done = absurd (done.mounts refl).redoes
  bound answers.Absent old new done = absurd (done.mounts refl).redoes
  bound answers.Deleted old new done = absurd (done.mounts refl).redoes
  bound answers.Gone old new done = absurd (done.mounts refl).redoes
  bound (answers.Space live stale free) old new done = absurd (done.mounts refl).redoes
  bound answers.Off old new done = absurd (done.mounts refl).redoes

  lines-within : (most : ℕ) (lines : List Line) (answers : List Answer) (old new : Device) → boot_units format_of (geometry_of old area) ≤ most → Follows (LineDone format_of area) lines answers old new → MountsWithin most lines answers
  lines-within most [] [] old new le runs = tt
  lines-within most [] (answer ∷ answers) old new le none = absurd none
  lines-within most (line ∷ lines) [] old new le none = absurd none
  lines-within most (line ∷ lines) (answer ∷ answers) old new le (mid, done, runs) = (
    λ is. let few = bound answer old mid (subst (λ (l : Line). LineDone format_of area l answer old mid) is done) in omega arith,
    lines-within most lines answers mid new (from_geometry (λ (g : Geometry). boot_units format_of g ≤ most) old mid area done.keeps.banks le) runs,
  )

  pub run-boots : (lines : List Line) (old new : Device) (r : Result (List Answer) SessionFault) → RunEnds format_of area lines old new r → IfOk r (λ (answers : List Answer). MountsWithin (boot_units format_of (geometry_of old area)) lines answers)
  run-boots lines old new (Ok answers) ends = lines-within (boot_units format_of (geometry_of old area)) lines answers old new (omega arith) ends.1.in_turn
  run-boots lines old new (Err fault) ends = tt

  pub run-banks : (lines : List Line) (old new : Device) (r : Result (List Answer) SessionFault) → RunEnds format_of area lines old new r → new.banks ≡ old.banks
  run-banks lines old new (Ok answers) ends = ends.1.whole.keeps.banks
  run-banks lines old new (Err (IsDamaged damaged)) ends = on-banks old new ends.1
  run-banks lines old new (Err NoMemory) ends = elim ends.left [
    | inl same ↦ ap (λ (d : Device). d.banks) same ∙ ends.ran.whole.keeps.banks
    | inr more ↦ on-banks ends.mid new more.2 ∙ ends.ran.whole.keeps.banks
  ]

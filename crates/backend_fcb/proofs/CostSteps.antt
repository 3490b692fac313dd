-- Loops that add up what records cost, one step at a time.
use Rattle.std.proofs.Common.{◌≡◌, ℕ, suc, ◌+◌, ◌*◌, ◌<◌, ◌≤◌, Bool, true, false, cond, List, [], ◌∷◌, ◌++◌, length, get_or, set, replicate, Option, Some, None, inl, inr, refl, sym, ap, subst, ◌∙◌, append_assoc, append-nil, arith}
use Rattle.std.specs.Prelude.{Contains, sum_by}
use Rattle.std.proofs.lemmas.Bool.{cases_Bool, cases_eq, false≢true}
use Rattle.std.proofs.lemmas.List.{length-append, length-set, length-replicate, get_or-replicate, get_or-set_same, get_or-set_other, length-map}
use Rattle.std.proofs.lemmas.List.Sums.{sum_by-cons, sum_by-append}
use Rattle.flash_sim.specs.Bank.{IsLawful}
use Rattle.flash_sim.specs.Device.{Device}
use Rattle.flash_sim.specs.declared.flash.TheConstants.{PROGRAM_LIMIT}
use Rattle.flash_map.specs.Area.{value_limit, unit_of, sector_size, sectors_of}
use Rattle.flash_map.specs.declared.area.Area.{Area}
use Rattle.fcb_ring.specs.Changing.{body_at}
use Rattle.fcb_ring.specs.declared.record.RecordAt.{RecordAt}
use Rattle.fcb_ring.specs.declared.ring.Ring.{Ring}
use Rattle.fcb_ring.specs.Entries.{bodies}
use Rattle.fcb_ring.specs.Standing.{StandsOn, IsNext, entries_on, record_places}
use Rattle.fcb_ring.specs.Writing.{record_cost}
use Rattle.fcb_ring.proofs.AreaLemmas.{has_size, count-sectors}
use Rattle.fcb_ring.proofs.FewLemmas.{few-on}
use Rattle.fcb_ring.proofs.ReadLemmas.{there}
use Rattle.record_settings.specs.Live.{is_live, live_bodies}
use Rattle.backend_fcb.specs.Compaction.{bodies_at, FindsLive, FindsLiveFrom}
use Rattle.backend_fcb.specs.declared.compaction.Kept.{Kept}
use Rattle.record_settings.specs.Room.{put_cost}
use Rattle.backend_fcb.specs.Reading.{puts_cost}
use Rattle.record_settings.specs.Rounds.{bodies_cost}
use Rattle.record_settings.proofs.CopyCost.{put-live}
use Rattle.record_settings.proofs.LiveLemmas.{copies-none, copies-split}
use Rattle.backend_fcb.proofs.CompactionSteps.{IsAtPart, part-start, part-step}
use Rattle.backend_fcb.proofs.LookupSteps.{Reads}
use Rattle.backend_fcb.proofs.TableLaws.{live-few, live-cons}
use Rattle.backend_fcb.proofs.PutsCosts.{puts-append, puts-here, puts-there}
use Rattle.backend_fcb.proofs.SectorLists.{bodies-append}
use Rattle.backend_fcb.proofs.WalkLemmas.{Entry, IsAt, start, step, first-of, body-is, all-done}

-- ---- what live records cost

-- they cost what puts of their bodies do
puts-live : (limit unit : ℕ) (passed later : List (List ℕ)) → sum_by (put_cost limit unit) (live_bodies limit passed later) ≡ bodies_cost unit (live_bodies limit passed later)
puts-live limit unit [] later = ap (sum_by (put_cost limit unit)) (copies-none limit later) ∙ sym (ap (bodies_cost unit) (copies-none limit later))
puts-live limit unit (body ∷ rest) later =
    let ih = puts-live limit unit rest later in
    elim (cases_Bool (is_live limit body (rest ++ later))) [
      | inl live ↦
          let prefix : live_bodies limit (body ∷ rest) later ≡ body ∷ live_bodies limit rest later = live-cons limit body rest later ∙ ap (λ (t : Bool). cond t (body ∷ live_bodies limit rest later) (live_bodies limit rest later)) live in
          let one = put-live limit unit body (rest ++ later) live in
          let puts = sum_by-cons (put_cost limit unit) body (live_bodies limit rest later) in
          let costs = sum_by-cons (λ (x : List ℕ). record_cost unit (length x)) body (live_bodies limit rest later) in
          let left = ap (sum_by (put_cost limit unit)) prefix in
          let right = ap (bodies_cost unit) prefix in
          omega arith
      | inr dead ↦
          let prefix : live_bodies limit (body ∷ rest) later ≡ live_bodies limit rest later = live-cons limit body rest later ∙ ap (λ (t : Bool). cond t (body ∷ live_bodies limit rest later) (live_bodies limit rest later)) dead in
          ap (sum_by (put_cost limit unit)) prefix ∙ ih ∙ sym (ap (bodies_cost unit) prefix)
    ]

-- ---- the sum over all

pub record Sums (limit unit : ℕ) (list : List Entry) (place : Option RecordAt) (total : ℕ) : Type 0 where
  pub done : List Entry
  pub later : List Entry
  pub at : IsAtPart None list place done later
  pub says : total ≡ bodies_cost unit (live_bodies limit (bodies done) (bodies later))
  pub small : total ≤ PROGRAM_LIMIT * length done

pub sums-start : (limit unit : ℕ) (list : List Entry) (next : Option RecordAt) → IsNext list None next → Sums limit unit list next 0
sums-start limit unit list next is = record { done = []; later = list; at = part-start None list next is; says = sym (ap (bodies_cost unit) (copies-none limit (bodies list))); small = omega arith }

module _ (d : Device) (area : Area) (r : RecordAt) (total : ℕ) (so_far : Sums (value_limit area) (unit_of d area) (entries_on d area) (Some r) total) (found : List Kept) (next : Option RecordAt) (finds_live : FindsLiveFrom d area None (Some r) found next) (answer : ℕ)
    (small : answer ≤ PROGRAM_LIMIT * length found) where
  found_live : FindsLive d area None so_far.later found next
  found_live = finds_live so_far.done so_far.later so_far.at.are (so_far.at.here r refl)

  more : total + answer ≤ PROGRAM_LIMIT * length (so_far.done ++ found_live.passed)
  more =
      let few = live-few (value_limit area) (bodies found_live.passed) (bodies found_live.rest) in
      let one : length (bodies_at d area found) ≡ length found = length-map found (λ (kept : Kept). body_at d area kept.at) in
      let two : length (bodies found_live.passed) ≡ length found_live.passed = length-map found_live.passed (λ (entry : Entry). entry.1) in
      let three : length (bodies_at d area found) ≡ length (live_bodies (value_limit area) (bodies found_live.passed) (bodies found_live.rest)) = ap length found_live.live in
      let long : length (so_far.done ++ found_live.passed) ≡ length so_far.done + length found_live.passed = length-append so_far.done found_live.passed in
      omega (arith, so_far.small)

  pub sums-few : total + answer ≤ PROGRAM_LIMIT * length (entries_on d area)
  sums-few =
      let whole : entries_on d area ≡ (so_far.done ++ found_live.passed) ++ found_live.rest = so_far.at.are ∙ ap (λ (l : List Entry). so_far.done ++ l) found_live.are ∙ sym (append_assoc so_far.done found_live.passed found_live.rest) in
      let n : length (entries_on d area) ≡ length (so_far.done ++ found_live.passed) + length found_live.rest = ap length whole ∙ length-append (so_far.done ++ found_live.passed) found_live.rest in
      omega (arith, more)

  pub sums-step : answer ≡ sum_by (put_cost (value_limit area) (unit_of d area)) (bodies_at d area found) → Sums (value_limit area) (unit_of d area) (entries_on d area) next (total + answer)
  sums-step cost =
      let limit : ℕ = value_limit area in
      let unit : ℕ = unit_of d area in
      let now : List (List ℕ) = live_bodies (value_limit area) (bodies found_live.passed) (bodies found_live.rest) in
      let price : answer ≡ bodies_cost (unit_of d area) (live_bodies (value_limit area) (bodies found_live.passed) (bodies found_live.rest)) =
      cost ∙ ap (sum_by (put_cost (value_limit area) (unit_of d area))) found_live.live ∙ puts-live (value_limit area) (unit_of d area) (bodies found_live.passed) (bodies found_live.rest) in
      let before : total ≡ bodies_cost (unit_of d area) (live_bodies (value_limit area) (bodies so_far.done) (bodies found_live.passed ++ bodies found_live.rest)) =
      so_far.says ∙ ap (λ (l : List (List ℕ)). bodies_cost (unit_of d area) (live_bodies (value_limit area) (bodies so_far.done) l)) (ap bodies found_live.are ∙ bodies-append found_live.passed found_live.rest) in
      let both : bodies_cost (unit_of d area) (live_bodies (value_limit area) (bodies (so_far.done ++ found_live.passed)) (bodies found_live.rest)) ≡ bodies_cost (unit_of d area) (live_bodies (value_limit area) (bodies so_far.done) (bodies found_live.passed ++ bodies found_live.rest)) + bodies_cost (unit_of d area) (live_bodies (value_limit area) (bodies found_live.passed) (bodies found_live.rest)) =
      ap (λ (l : List (List ℕ)). bodies_cost (unit_of d area) (live_bodies (value_limit area) l (bodies found_live.rest))) (bodies-append so_far.done found_live.passed)
      ∙ ap (bodies_cost (unit_of d area)) (copies-split (value_limit area) (bodies so_far.done) (bodies found_live.passed) (bodies found_live.rest))
      ∙ sum_by-append (λ (x : List ℕ). record_cost (unit_of d area) (length x)) (live_bodies (value_limit area) (bodies so_far.done) (bodies found_live.passed ++ bodies found_live.rest)) (live_bodies (value_limit area) (bodies found_live.passed) (bodies found_live.rest)) in
      record {
        done = so_far.done ++ found_live.passed;
        later = found_live.rest;
        at = part-step d area None (entries_on d area) r so_far.done so_far.later found next so_far.at found_live;
        says = omega arith;
        small = more;
      }

pub sums-end : (limit unit : ℕ) (list : List Entry) (total : ℕ) → Sums limit unit list None total → total ≡ bodies_cost unit (live_bodies limit (bodies list) [])
sums-end limit unit list total so_far =
    let none : so_far.later ≡ [] = nothing so_far.later (so_far.at.stops refl) in
    let all : list ≡ so_far.done = so_far.at.are ∙ ap (λ (l : List Entry). so_far.done ++ l) none ∙ append-nil so_far.done in
    so_far.says ∙ ap (λ (l : List Entry). bodies_cost unit (live_bodies limit (bodies so_far.done) (bodies l))) none ∙ ap (λ (l : List Entry). bodies_cost unit (live_bodies limit (bodies l) [])) (sym all)
  where
    nothing : (later : List Entry) → ((x : Entry) (rest : List Entry) → later ≡ x ∷ rest → true ≡ false) → later ≡ []
    nothing [] stops = refl
    nothing (x ∷ rest) stops = absurd (false≢true (sym (stops x rest refl)))

-- ---- the sums by sectors

pub record SumsOf (limit unit : ℕ) (list : List Entry) (place : Option RecordAt) (costs : List ℕ) : Type 0 where
  pub done : List Entry
  pub later : List Entry
  pub at : IsAt list place done later
  pub long : length costs ≡ 64
  pub says : (sector : ℕ) → sector < 64 → get_or costs sector 0 ≡ puts_cost limit unit done sector
  pub small : (sector : ℕ) → sector < 64 → get_or costs sector 0 ≤ PROGRAM_LIMIT * length done

puts-nothing : (limit unit sector : ℕ) → puts_cost limit unit [] sector ≡ 0
unfolding puts_cost
puts-nothing limit unit sector = refl

pub sums_of-start : (limit unit : ℕ) (list : List Entry) (next : Option RecordAt) → IsNext list None next → SumsOf limit unit list next (replicate 64 0)
sums_of-start limit unit list next is = record {
  done = [];
  later = list;
  at = start list next is;
  long = length-replicate {A = ℕ} 64 0;
  says = λ sector lt. get_or-replicate 64 sector 0 0 lt ∙ sym (puts-nothing limit unit sector);
  small = λ sector lt. subst (λ (n : ℕ). n ≤ PROGRAM_LIMIT * 0) (sym (get_or-replicate 64 sector 0 0 lt)) (omega arith);
}

pub sums_of-few : (limit unit : ℕ) (list : List Entry) (r : RecordAt) (costs : List ℕ) → SumsOf limit unit list (Some r) costs → (sector : ℕ) → sector < 64 → get_or costs sector 0 + PROGRAM_LIMIT ≤ PROGRAM_LIMIT * length list
sums_of-few limit unit list r costs so_far sector lt =
    let f = first-of so_far.later r so_far.at.here in
    let n : length list ≡ length so_far.done + suc (length f.1) = ap length (so_far.at.are ∙ ap (λ (l : List Entry). so_far.done ++ l) f.2) ∙ length-append so_far.done ((r, f.0) ∷ f.1) in
    omega (arith, so_far.small sector lt)

pub sums_of-step : (limit unit : ℕ) (list : List Entry) (r : RecordAt) (costs : List ℕ) → SumsOf limit unit list (Some r) costs → r.sector < 64 → (bytes : List ℕ) → Reads list r bytes → (answer : ℕ) → answer ≡ put_cost limit unit bytes → answer ≤ PROGRAM_LIMIT
    → (next : Option RecordAt) → IsNext list (Some r) next → SumsOf limit unit list next (set costs r.sector (get_or costs r.sector 0 + answer))
sums_of-step limit unit list r costs so_far few bytes reads answer cost most next is =
    let inside : r.sector < length costs = omega (arith, so_far.long) in
    let f = first-of so_far.later r so_far.at.here in
    let are : list ≡ so_far.done ++ (r, f.0) ∷ f.1 = so_far.at.are ∙ ap (λ (l : List Entry). so_far.done ++ l) f.2 in
    let body : bytes ≡ f.0 = body-is list so_far.done r f.0 f.1 bytes are reads in
    let n : length (so_far.done ++ (r, f.0) ∷ []) ≡ length so_far.done + 1 = length-append so_far.done ((r, f.0) ∷ []) in
    let price : answer ≡ put_cost limit unit f.0 = cost ∙ ap (put_cost limit unit) body in
    let more : (sector : ℕ) → puts_cost limit unit (so_far.done ++ (r, f.0) ∷ []) sector ≡ puts_cost limit unit so_far.done sector + puts_cost limit unit ((r, f.0) ∷ []) sector = λ (sector : ℕ). puts-append limit unit so_far.done ((r, f.0) ∷ []) sector in
    record {
      done = so_far.done ++ (r, f.0) ∷ [];
      later = f.1;
      at = step list r so_far.done f.0 f.1 next are is;
      long = length-set costs r.sector (get_or costs r.sector 0 + answer) ∙ so_far.long;
      says = λ sector lt. elim (cases_eq sector r.sector) [
        | inl here ↦
            let there : get_or (set costs r.sector (get_or costs r.sector 0 + answer)) sector 0 ≡ get_or costs r.sector 0 + answer = ap (λ (k : ℕ). get_or (set costs r.sector (get_or costs r.sector 0 + answer)) k 0) here ∙ get_or-set_same costs r.sector (get_or costs r.sector 0 + answer) 0 inside in
            let old : get_or costs r.sector 0 ≡ puts_cost limit unit so_far.done sector = ap (λ (k : ℕ). get_or costs k 0) (sym here) ∙ so_far.says sector lt in
            let new : puts_cost limit unit ((r, f.0) ∷ []) sector ≡ put_cost limit unit f.0 = puts-here limit unit r f.0 sector (sym here) in
            omega (arith, more sector)
        | inr apart ↦
            let there : get_or (set costs r.sector (get_or costs r.sector 0 + answer)) sector 0 ≡ get_or costs sector 0 = get_or-set_other costs r.sector sector (get_or costs r.sector 0 + answer) 0 apart in
            let new : puts_cost limit unit ((r, f.0) ∷ []) sector ≡ 0 = puts-there limit unit r f.0 sector (λ (e : r.sector ≡ sector). apart (sym e)) in
            omega (arith, more sector, so_far.says sector lt)
      ];
      small = λ sector lt. elim (cases_eq sector r.sector) [
        | inl here ↦
            let there : get_or (set costs r.sector (get_or costs r.sector 0 + answer)) sector 0 ≡ get_or costs r.sector 0 + answer = ap (λ (k : ℕ). get_or (set costs r.sector (get_or costs r.sector 0 + answer)) k 0) here ∙ get_or-set_same costs r.sector (get_or costs r.sector 0 + answer) 0 inside in
            let old : get_or costs r.sector 0 ≡ get_or costs sector 0 = ap (λ (k : ℕ). get_or costs k 0) (sym here) in
            omega (arith, so_far.small sector lt)
        | inr apart ↦
            let there : get_or (set costs r.sector (get_or costs r.sector 0 + answer)) sector 0 ≡ get_or costs sector 0 = get_or-set_other costs r.sector sector (get_or costs r.sector 0 + answer) 0 apart in
            omega (arith, so_far.small sector lt)
      ];
    }

pub sums_of-end : (limit unit : ℕ) (list : List Entry) (costs : List ℕ) → SumsOf limit unit list None costs → (sector : ℕ) → sector < 64 → get_or costs sector 0 ≡ puts_cost limit unit list sector
sums_of-end limit unit list costs so_far sector lt = so_far.says sector lt ∙ ap (λ (l : List Entry). puts_cost limit unit l sector) (sym (all-done list so_far.done so_far.later so_far.at))

-- ---- a ring has few records

pub few-records : (d : Device) (ring : Ring) → IsLawful d.banks d.bytes → StandsOn d ring → length (entries_on d ring.area) ≤ 2097152
few-records d ring lawful on =
    let few = few-on d ring.area lawful on.area in
    omega (arith, length-map (entries_on d ring.area) (λ (entry : Entry). entry.1))

-- a record stands in a sector of the area
pub sector-few : (d : Device) (ring : Ring) → IsLawful d.banks d.bytes → StandsOn d ring → (r : RecordAt) → Contains (record_places (entries_on d ring.area)) r → r.sector < 64
sector-few d ring lawful on r contained =
    let has = has_size d ring.area lawful on.area in
    let here = there (unit_of d ring.area) (sector_size d ring.area) (sectors_of d ring.area) has ring on.sectors ring.area.sectors (sym (count-sectors d ring.area)) r contained in
    omega (arith, here.sector, on.area.lawful.few)

-- Copying the live records of the oldest sector, one step at a time.
use Rattle.std.proofs.Common.{◌≡◌, ◌≢◌, ℕ, ◌+◌, ◌-◌, ◌*◌, ◌/◌, ◌<◌, ◌≤◌, min, Bool, true, false, cond, eqb, List, [], ◌∷◌, ◌++◌, length, take, drop, get_or, suc, Option, Some, None, refl, sym, ap, subst, ◌∙◌, arith}
use Rattle.std.specs.Prelude.{Contains}
use Rattle.std.specs.List.{range_with_len, flat_map, sum_by, All}
use Rattle.std.proofs.lemmas.List.{append-nil, map-append, take-append-drop, take_more, length-map, get_or-map}
use Rattle.std.proofs.Common.{append_assoc, drop-cons}
use Rattle.std.proofs.lemmas.List.Elements.{All-head, All-tail, All-append, All-weaker}
use Rattle.std.proofs.lemmas.List.Sums.{sum_by-append, sum_by-cons}
use Rattle.std.specs.Option.{ForSome}
use Rattle.std.proofs.lemmas.Bool.{both_ways, ne_eqb, eq-eqb, eqb-true}
use Rattle.std.proofs.Math.Nat.{div-mul-le_self, mul-le-mul_right}
use Rattle.flash_sim.specs.Bank.{IsLawful}
use Rattle.flash_sim.specs.Device.{Device}
use Rattle.flash_sim.specs.declared.flash.TheConstants.{PROGRAM_LIMIT}
use Rattle.flash_map.specs.Area.{OthersStay, value_limit, unit_of, sector_size, sectors_of, sector_bytes}
use Rattle.flash_map.specs.declared.area.Area.{Area}
use Rattle.flash_map.specs.Spending.{SpendsAtMost}
use Rattle.flash_map.specs.Touches.{Touches}
use Rattle.flash_map.specs.Units.{padded}
use Rattle.flash_map.proofs.Rounding.{padding}
use Rattle.flash_map.proofs.SpendingLemmas.{spends_none, spends_then}
use Rattle.flash_map.proofs.Touches.{then, untouched}
use Rattle.fcb_ring.specs.declared.record.RecordAt.{RecordAt}
use Rattle.fcb_ring.specs.declared.ring.Ring.{Ring}
use Rattle.fcb_ring.specs.declared.ring.Stage.TheVariants.{Collecting}
use Rattle.fcb_ring.specs.Chance.{HasNoChance}
use Rattle.fcb_ring.specs.Changing.{newest_place, sector_list, body_at, CopiedRecord, StopsCopyingRecord}
use Rattle.fcb_ring.specs.Entries.{bodies}
use Rattle.fcb_ring.specs.Rings.{turned}
use Rattle.fcb_ring.specs.Standing.{StandsOn as RingStandsOn, IsNext, IsListed, KeepsEntries, entries_on, record_places, is_up}
use Rattle.fcb_ring.specs.Writing.{record_cost}
use Rattle.fcb_ring.proofs.AppendLemmas.{unit-after, size-after}
use Rattle.fcb_ring.proofs.AreaLemmas.{has_size, count-sectors}
use Rattle.fcb_ring.proofs.CollectLemmas.{collecting-used}
use Rattle.fcb_ring.proofs.OthersLemmas.{others_then, others_same}
use Rattle.fcb_ring.proofs.ReadLemmas.{stands-has}
use Rattle.backend_fcb.specs.Changing.{Copies, StopsCopying, CopiesLive}
use Rattle.backend_fcb.specs.Compaction.{is_within, AreWithin, AreKeptWithin, AreShort, IsKept, bodies_at, FindsLive, FindsLiveFrom}
use Rattle.backend_fcb.specs.declared.compaction.Kept.{Kept}
use Rattle.record_settings.specs.Live.{is_live_by, is_live, live_bodies}
use Rattle.record_settings.specs.Room.{cap, put_cost}
use Rattle.backend_fcb.specs.Reading.{puts_cost}
use Rattle.record_settings.specs.Rounds.{bodies_cost}
use Rattle.record_settings.specs.Settings.{setting_of, longest}
use Rattle.backend_fcb.specs.Standing.{damage_on}
use Rattle.record_settings.proofs.BodyLemmas.{setting-says}
use Rattle.record_settings.proofs.CopyCost.{copies_cost-le}
use Rattle.backend_fcb.proofs.BodyAt.{listed-len, same-body}
use Rattle.backend_fcb.proofs.CompactionSteps.{IsAtPart, part-start, part-step}
use Rattle.backend_fcb.proofs.Limits.{limit-most, one-program}
use Rattle.record_settings.proofs.LiveLemmas.{copies-none, copies-split}
use Rattle.backend_fcb.proofs.PutsCosts.{costs-at, costs-on, puts-append, puts-all}
use Rattle.backend_fcb.proofs.RingLists.{oldest-first, rest-not, within, part_at, collecting-none}
use Rattle.backend_fcb.proofs.SectorLists.{AreOf, AreNotOf, bodies-append, append-same, entries-of}
use Rattle.backend_fcb.proofs.TableLaws.{live-all}
use Rattle.backend_fcb.proofs.Tearing.{lost-then, copy-lost}
use Rattle.backend_fcb.proofs.WalkLemmas.{Entry}

-- ---- one record

-- a live record says a setting, so it is not long
live-short : (limit : ℕ) (setting : Option (List ℕ × List ℕ)) (later : List (List ℕ)) → is_live_by limit setting later ≡ true → (name : List ℕ) × (value : List ℕ) × (setting ≡ Some (name, value))
live-short limit None later live = absurd (both_ways false refl live)
live-short limit (Some (name, value)) later live = (name, value, refl)

pub live-most : (limit : ℕ) (body : List ℕ) (later : List (List ℕ)) → is_live limit body later ≡ true → length body ≤ longest limit
live-most limit body later live = let s = live-short limit (setting_of limit body) later live in (setting-says limit body s.0 s.1 s.2).most

-- what is copied fits one program
pub copy-short : (d : Device) (ring : Ring) → IsLawful d.banks d.bytes → RingStandsOn d ring → (r : RecordAt) → IsListed d ring.area r → length (body_at d ring.area r) ≤ longest (value_limit ring.area) → record_cost (unit_of d ring.area) r.len ≤ PROGRAM_LIMIT
copy-short d ring lawful on r contained short =
    let len = listed-len d ring lawful on r contained in
    one-program (unit_of d ring.area) (value_limit ring.area) r.len (has_size d ring.area lawful on.area).is_unit (limit-most ring.area) (omega arith)

pub copied : (old new : Device) (before after : Ring) → IsLawful old.banks old.bytes → RingStandsOn old before → (r : RecordAt) → IsListed old before.area r → CopiedRecord old new before after r → Copies old new before after (body_at old before.area r ∷ [])
copied old new before after lawful on r contained did =
    let len : length (body_at old before.area r) ≡ r.len = listed-len old before lawful on r contained in
    let end : after.end ≡ before.end + record_cost (unit_of old before.area) r.len = did.end in
    record {
      stands = did.stands;
      stage = did.stage;
      oldest = did.oldest;
      used = did.used;
      scratch = ap bodies did.copies.2 ∙ bodies-append (sector_list old before.area (newest_place before)) ((did.copies.0, body_at old before.area r) ∷ []);
      end =
          did.end ∙ ap (λ (n : ℕ). before.end + record_cost (unit_of old before.area) n) (sym len)
          ∙ ap (λ (n : ℕ). before.end + n) (sym (sum_by-cons (λ (x : List ℕ). record_cost (unit_of old before.area) (length x)) (body_at old before.area r) [] ∙ omega arith));
      units = record_cost (unit_of old before.area) r.len / unit_of old before.area;
      spent = did.units;
      bound = omega (arith, end, div-mul-le_self (record_cost (unit_of old before.area) r.len) (unit_of old before.area));
    }

pub stopped : (old new : Device) (before after : Ring) → is_up after.stage ≡ false → (cost : ℕ) → SpendsAtMost old new (cost / unit_of old before.area) → before.end + cost ≤ sector_size old before.area → StopsCopying old new before after
stopped old new before after down cost (units, le, spent) fits =
    let most : units * unit_of old before.area ≤ cost / unit_of old before.area * unit_of old before.area = mul-le-mul_right (unit_of old before.area) le in
    let whole = div-mul-le_self cost (unit_of old before.area) in
    record { down = down; units = units; spent = spent; bound = omega arith }

pub kept-same : (d : Device) (ring : Ring) → IsLawful d.banks d.bytes → RingStandsOn d ring → KeepsEntries d d ring.area
kept-same d ring lawful on = stands-has (unit_of d ring.area) (sector_size d ring.area) (sectors_of d ring.area) (has_size d ring.area lawful on.area) ring on.sectors ring.area.sectors (sym (count-sectors d ring.area))

pub keeps-then : (a b c : Device) (area : Area) → KeepsEntries a b area → KeepsEntries b c area → KeepsEntries a c area
keeps-then a b c area first second = record { undamaged = second.undamaged; are = second.are ∙ first.are }

-- ---- all of them

-- so much of the list was gone through, all of the oldest sector, and its live records were copied
pub record IsCopying (a d : Device) (before now : Ring) (place : Option RecordAt) : Type 0 where
  pub done : List Entry
  pub later : List Entry
  pub at : IsAtPart (Some before.oldest) (entries_on a before.area) place done later
  pub listed : ForSome place (IsListed a before.area)
  pub of : AreOf before.oldest done
  pub touches : Touches (before.area ∷ []) a d false
  pub list : KeepsEntries a d before.area
  pub others : OthersStay a d before.area (newest_place before)
  pub area : now.area ≡ before.area
  pub reserve : now.reserve ≡ before.reserve
  pub copies : Copies a d before now (live_bodies (value_limit before.area) (bodies done) (bodies later))

pub copying-start : (a : Device) (ring : Ring) → IsLawful a.banks a.bytes → RingStandsOn a ring → ring.stage ≡ Collecting → (next : Option RecordAt) → IsNext (entries_on a ring.area) None next → ForSome next (IsListed a ring.area) → IsCopying a a ring ring next
copying-start a ring lawful on stage next is listed = record {
  done = [];
  later = entries_on a ring.area;
  at = part-start (Some ring.oldest) (entries_on a ring.area) next is;
  listed = listed;
  of = none-of-all ring.oldest;
  touches = untouched (ring.area ∷ []) a;
  list = kept-same a ring lawful on;
  others = others_same a a ring.area (newest_place ring) refl;
  area = refl;
  reserve = refl;
  copies = subst (Copies a a ring ring) (sym (copies-none (value_limit ring.area) (bodies (entries_on a ring.area)))) (record {
    stands = on;
    stage = stage;
    oldest = refl;
    used = refl;
    scratch = sym (append-nil (bodies (sector_list a ring.area (newest_place ring))));
    end = omega arith;
    units = 0;
    spent = spends_none a;
    bound = omega arith;
  });
}
  where
    none-of-all : (place : ℕ) → AreOf place []
    none-of-all place k x lt = absurd (omega arith)

-- the list is the same on the device as it is now
pub copying-list : (a d : Device) (before now : Ring) (place : Option RecordAt) → IsCopying a d before now place → entries_on d now.area ≡ entries_on a before.area
copying-list a d before now place so_far = ap (λ (x : Area). entries_on d x) so_far.area ∙ so_far.list.are

-- records of a part that is one sector are of that sector
passed-of : (place : ℕ) (passed : List Entry) → AreWithin (Some place) passed → AreOf place passed
passed-of place passed within = All-weaker (λ (entry : Entry). is_within (Some place) entry.0 ≡ true) (λ (entry : Entry). entry.0.sector ≡ place) (λ entry e. eqb-true entry.0.sector place e) passed within

-- what was copied, and what is found then
found_live-copies : (a d : Device) (before now : Ring) (r : RecordAt) → (so_far : IsCopying a d before now (Some r)) → (found : List Kept) (next : Option RecordAt) → (g : FindsLive d now.area (Some before.oldest) so_far.later found next)
    → live_bodies (value_limit before.area) (bodies so_far.done) (bodies so_far.later) ++ bodies_at d now.area found ≡ live_bodies (value_limit before.area) (bodies (so_far.done ++ g.passed)) (bodies g.rest)
found_live-copies a d before now r so_far found next g =
    let found-are : bodies_at d now.area found ≡ live_bodies (value_limit before.area) (bodies g.passed) (bodies g.rest) =
    g.live ∙ ap (λ (x : Area). live_bodies (value_limit x) (bodies g.passed) (bodies g.rest)) so_far.area in
    ap (λ (l : List (List ℕ)). live_bodies (value_limit before.area) (bodies so_far.done) (bodies so_far.later) ++ l) found-are
    ∙ ap (λ (l : List (List ℕ)). live_bodies (value_limit before.area) (bodies so_far.done) l ++ live_bodies (value_limit before.area) (bodies g.passed) (bodies g.rest)) (ap bodies g.are ∙ bodies-append g.passed g.rest)
    ∙ sym (ap (λ (l : List (List ℕ)). live_bodies (value_limit before.area) l (bodies g.rest)) (bodies-append so_far.done g.passed) ∙ copies-split (value_limit before.area) (bodies so_far.done) (bodies g.passed) (bodies g.rest))

prefix-puts : (limit unit : ℕ) (list xs ys : List Entry) (place : ℕ) → list ≡ xs ++ ys → AreOf place xs → sum_by (put_cost limit unit) (bodies xs) ≤ puts_cost limit unit list place
prefix-puts limit unit list xs ys place are of =
    let e : puts_cost limit unit list place ≡ puts_cost limit unit xs place + puts_cost limit unit ys place = ap (λ (l : List Entry). puts_cost limit unit l place) are ∙ puts-append limit unit xs ys place in
    let f = puts-all limit unit xs place of in
    omega arith

-- behind the header a sector has room for all that it has for values
pub cap-room : (d : Device) (ring : Ring) → IsLawful d.banks d.bytes → RingStandsOn d ring → padded (unit_of d ring.area) 8 + cap (unit_of d ring.area) (sector_size d ring.area) ≤ sector_size d ring.area
cap-room d ring lawful on =
    let has = has_size d ring.area lawful on.area in
    let pad = padding (unit_of d ring.area) has.is_unit in
    omega (arith, has.at_least, pad.no_more 8)

-- what the walk finds from where the copying is
pub found_live : (a d : Device) (before now : Ring) (r : RecordAt) → (so_far : IsCopying a d before now (Some r)) → (part : Option ℕ) → part ≡ Some before.oldest → (found : List Kept) (next : Option RecordAt) → FindsLiveFrom d now.area part (Some r) found next
    → FindsLive d now.area (Some before.oldest) so_far.later found next
found_live a d before now r so_far part is found next finds_live =
    subst (λ (o : Option ℕ). FindsLive d now.area o so_far.later found next) is (finds_live so_far.done so_far.later (copying-list a d before now (Some r) so_far ∙ so_far.at.are) (so_far.at.here r refl))

-- is not long
pub found_live-short : (d : Device) (area : Area) (part : Option ℕ) (later : List Entry) (found : List Kept) (next : Option RecordAt) → FindsLive d area part later found next → AreShort d area found
found_live-short d area part later found next g =
    subst (All (λ (body : List ℕ). length body ≤ longest (value_limit area))) (sym g.live)
    (live-all (λ (body : List ℕ). length body ≤ longest (value_limit area)) (value_limit area) (bodies g.passed) (bodies g.rest) (λ body behind live. live-most (value_limit area) body behind live))

-- what is copied and what is found are of the values of the oldest sector, which fit one
pub found_live-fits : (a d : Device) (before now : Ring) (r : RecordAt) → IsLawful a.banks a.bytes → RingStandsOn a before → before.stage ≡ Collecting → damage_on a before.area ≡ None → before.end ≡ padded (unit_of a before.area) 8
    → (so_far : IsCopying a d before now (Some r)) → (found : List Kept) (next : Option RecordAt) → FindsLive d now.area (Some before.oldest) so_far.later found next
    → now.end + bodies_cost (unit_of d now.area) (bodies_at d now.area found) ≤ sector_size d now.area
found_live-fits a d before now r lawful on stage undamaged start-end so_far found next g =
    let limit : ℕ = value_limit before.area in
    let unit-same : unit_of d now.area ≡ unit_of a before.area = unit-after a d before.area now.area so_far.touches.banks so_far.area in
    let size-same : sector_size d now.area ≡ sector_size a before.area = size-after a d before.area now.area so_far.touches.banks so_far.area in
    let parts = found_live-copies a d before now r so_far found next g in
    let list : entries_on a before.area ≡ (so_far.done ++ g.passed) ++ g.rest = so_far.at.are ∙ ap (λ (l : List Entry). so_far.done ++ l) g.are ∙ sym (append_assoc so_far.done g.passed g.rest) in
    let all : AreOf before.oldest (so_far.done ++ g.passed) = All-append (λ (entry : Entry). entry.0.sector ≡ before.oldest) so_far.done g.passed so_far.of (passed-of before.oldest g.passed g.within) in
    let most = prefix-puts (value_limit before.area) (unit_of a before.area) (entries_on a before.area) (so_far.done ++ g.passed) g.rest before.oldest list all in
    let fit = costs-at (value_limit before.area) (unit_of a before.area) (sector_size a before.area) (entries_on a before.area) before.area.sectors (costs-on a before.area lawful on.area undamaged) before.oldest (within a before on (collecting-none before stage)) in
    let copies = copies_cost-le (value_limit before.area) (unit_of a before.area) (bodies (so_far.done ++ g.passed)) (bodies g.rest) in
    let sum : bodies_cost (unit_of a before.area) (live_bodies (value_limit before.area) (bodies so_far.done) (bodies so_far.later)) + bodies_cost (unit_of a before.area) (bodies_at d now.area found) ≡ bodies_cost (unit_of a before.area) (live_bodies (value_limit before.area) (bodies (so_far.done ++ g.passed)) (bodies g.rest)) =
    sym (sum_by-append (λ (x : List ℕ). record_cost (unit_of a before.area) (length x)) (live_bodies (value_limit before.area) (bodies so_far.done) (bodies so_far.later)) (bodies_at d now.area found)) ∙ ap (bodies_cost (unit_of a before.area)) parts in
    let end = so_far.copies.end in
    let room : padded (unit_of a before.area) 8 + cap (unit_of a before.area) (sector_size a before.area) ≤ sector_size a before.area = cap-room a before lawful on in
    let fits : now.end + bodies_cost (unit_of a before.area) (bodies_at d now.area found) ≤ sector_size d now.area = omega arith in
    subst (λ (u : ℕ). now.end + bodies_cost u (bodies_at d now.area found) ≤ sector_size d now.area) (sym unit-same) fits

newest-same : (before now : Ring) → now.area ≡ before.area → now.oldest ≡ before.oldest → now.used ≡ before.used → newest_place now ≡ newest_place before
newest-same before now area oldest used = ap (λ (x : Area). turned x.sectors now.oldest (now.used - 1)) area ∙ ap (λ (o : ℕ). turned before.area.sectors o (now.used - 1)) oldest ∙ ap (λ (n : ℕ). turned before.area.sectors before.oldest (n - 1)) used

pub copies-then : (a d e : Device) (before now after : Ring) (xs ys : List (List ℕ)) → d.banks ≡ a.banks → now.area ≡ before.area → Copies a d before now xs → Copies d e now after ys → Copies a e before after (xs ++ ys)
copies-then a d e before now after xs ys banks area first second =
    let unit : unit_of d now.area ≡ unit_of a before.area = unit-after a d before.area now.area banks area in
    let newest : newest_place now ≡ newest_place before = newest-same before now area first.oldest first.used in
    let moved : (x : Device) → bodies (sector_list x now.area (newest_place now)) ≡ bodies (sector_list x before.area (newest_place before)) =
    λ (x : Device). ap (λ (y : Area). bodies (sector_list x y (newest_place now))) area ∙ ap (λ (p : ℕ). bodies (sector_list x before.area p)) newest in
    let cost : bodies_cost (unit_of d now.area) ys ≡ bodies_cost (unit_of a before.area) ys = ap (λ (u : ℕ). bodies_cost u ys) unit in
    let sum : bodies_cost (unit_of a before.area) (xs ++ ys) ≡ bodies_cost (unit_of a before.area) xs + bodies_cost (unit_of a before.area) ys = sum_by-append (λ (x : List ℕ). record_cost (unit_of a before.area) (length x)) xs ys in
    let bound : second.units * unit_of a before.area + now.end ≤ after.end = subst (λ (u : ℕ). second.units * u + now.end ≤ after.end) unit second.bound in
    let product : (first.units + second.units) * unit_of a before.area ≡ first.units * unit_of a before.area + second.units * unit_of a before.area = omega arith in
    record {
      stands = second.stands;
      stage = second.stage;
      oldest = second.oldest ∙ first.oldest;
      used = second.used ∙ first.used;
      scratch = sym (moved e) ∙ second.scratch ∙ ap (λ (l : List (List ℕ)). l ++ ys) (moved d ∙ first.scratch) ∙ append_assoc (bodies (sector_list a before.area (newest_place before))) xs ys;
      end = omega (arith, second.end, first.end);
      units = first.units + second.units;
      spent = spends_then a d e first.units second.units first.spent second.spent;
      bound = omega (arith, first.bound);
    }

pub stops-then : (a d e : Device) (before now after : Ring) (xs : List (List ℕ)) → d.banks ≡ a.banks → now.area ≡ before.area → Copies a d before now xs → StopsCopying d e now after → StopsCopying a e before after
stops-then a d e before now after xs banks area first second =
    let unit : unit_of d now.area ≡ unit_of a before.area = unit-after a d before.area now.area banks area in
    let size : sector_size d now.area ≡ sector_size a before.area = size-after a d before.area now.area banks area in
    let bound : second.units * unit_of a before.area + now.end ≤ sector_size d now.area = subst (λ (u : ℕ). second.units * u + now.end ≤ sector_size d now.area) unit second.bound in
    let product : (first.units + second.units) * unit_of a before.area ≡ first.units * unit_of a before.area + second.units * unit_of a before.area = omega arith in
    record {
      down = second.down;
      units = first.units + second.units;
      spent = spends_then a d e first.units second.units first.spent second.spent;
      bound = omega (arith, first.bound);
    }

module _ (a d e : Device) (before now after : Ring) (r : RecordAt) (so_far : IsCopying a d before now (Some r)) (kept : KeepsEntries d e now.area) (others : OthersStay d e now.area (newest_place now)) where
  pub copying-kept : KeepsEntries a e before.area
  copying-kept = keeps-then a d e before.area so_far.list (subst (λ (x : Area). KeepsEntries d e x) so_far.area kept)

  pub copying-others : OthersStay a e before.area (newest_place before)
  copying-others =
      let newest : newest_place now ≡ newest_place before = newest-same before now so_far.area so_far.copies.oldest so_far.copies.used in
      others_then a d e before.area (newest_place before) so_far.others (subst (λ (p : ℕ). OthersStay d e before.area p) newest (subst (λ (x : Area). OthersStay d e x (newest_place now)) so_far.area others))

  pub copying-touches : (lost : Bool) → Touches (now.area ∷ []) d e lost → Touches (before.area ∷ []) a e lost
  copying-touches lost touches = then so_far.touches (subst (λ (x : Area). Touches (x ∷ []) d e lost) so_far.area touches)

  pub copying-step : Touches (now.area ∷ []) d e false → after.area ≡ now.area → after.reserve ≡ now.reserve → (found : List Kept) (next : Option RecordAt) → FindsLive d now.area (Some before.oldest) so_far.later found next → ForSome next (IsListed d now.area) → Copies d e now after (bodies_at d now.area found)
      → IsCopying a e before after next
  copying-step touches area reserve found next g listed copies =
      record {
        done = so_far.done ++ g.passed;
        later = g.rest;
        at = part-step d now.area (Some before.oldest) (entries_on a before.area) r so_far.done so_far.later found next so_far.at g;
        listed = λ q same. subst (λ (l : List Entry). Contains (record_places l) q) (copying-list a d before now (Some r) so_far) (listed q same);
        of = All-append (λ (entry : Entry). entry.0.sector ≡ before.oldest) so_far.done g.passed so_far.of (passed-of before.oldest g.passed g.within);
        touches = copying-touches false touches;
        list = copying-kept;
        others = copying-others;
        area = area ∙ so_far.area;
        reserve = reserve ∙ so_far.reserve;
        copies = subst (Copies a e before after) (found_live-copies a d before now r so_far found next g)
            (copies-then a d e before now after (live_bodies (value_limit before.area) (bodies so_far.done) (bodies so_far.later)) (bodies_at d now.area found) so_far.touches.banks so_far.area so_far.copies copies);
      }

-- ---- the end of the oldest sector

some-same : {X : Type 0} (x y : X) → Some x ≡ Some y → x ≡ y
some-same x y e = cc

cons-same : (x z : Entry) (xs zs : List Entry) → x ∷ xs ≡ z ∷ zs → (x ≡ z) × (xs ≡ zs)
cons-same x z xs zs e = (cc, cc)

-- the records of the sector, and what was gone through up to the first other one, are the same
stop-split : (place : ℕ) (xs ys done later : List Entry) → xs ++ ys ≡ done ++ later → AreOf place xs → AreNotOf place ys → AreOf place done → ((x : Entry) (l : List Entry) → later ≡ x ∷ l → x.0.sector ≢ place) → (xs ≡ done) × (ys ≡ later)
stop-split place [] ys [] later e a b c stops = (refl, e)
stop-split place [] ys (z ∷ done) later e a b c stops = absurd (All-head (λ (x : Entry). x.0.sector ≢ place) z (done ++ later) (subst (AreNotOf place) e b) (All-head (λ (x : Entry). x.0.sector ≡ place) z done c))
stop-split place (x ∷ xs) ys [] later e a b c stops = absurd (stops x (xs ++ ys) (sym e) (All-head (λ (y : Entry). y.0.sector ≡ place) x xs a))
stop-split place (x ∷ xs) ys (z ∷ done) later e a b c stops =
    let parts = cons-same x z (xs ++ ys) (done ++ later) e in
    let ih = stop-split place xs ys done later parts.1 (All-tail (λ (y : Entry). y.0.sector ≡ place) x xs a) b (All-tail (λ (y : Entry). y.0.sector ≡ place) z done c) stops in
    (ap (λ (l : List Entry). x ∷ l) ih.0 ∙ ap (λ (y : Entry). y ∷ done) parts.0, ih.1)

pub copying-end : (a d : Device) (before now : Ring) (place : Option RecordAt) → RingStandsOn a before → before.stage ≡ Collecting → (so_far : IsCopying a d before now place) → ((x : Entry) (l : List Entry) → so_far.later ≡ x ∷ l → x.0.sector ≢ before.oldest) → CopiesLive a d before now
copying-end a d before now place on stage so_far stops rest are =
    let none = collecting-none before stage in
    let all = collecting-used a before on stage in
    let some : 0 < min before.used (before.area.sectors - 1) = omega (arith, on.area.lawful.several) in
    let list : entries_on a before.area ≡ sector_list a before.area before.oldest ++ flat_map (part_at a before) (range_with_len 1 (min before.used (before.area.sectors - 1) - 1)) = oldest-first a before on none some in
    let rest-is : flat_map (part_at a before) (range_with_len 1 (min before.used (before.area.sectors - 1) - 1)) ≡ rest =
    append-same (sector_list a before.area before.oldest) (flat_map (part_at a before) (range_with_len 1 (min before.used (before.area.sectors - 1) - 1))) rest (sym list ∙ are) in
    let same = stop-split before.oldest (sector_list a before.area before.oldest) (flat_map (part_at a before) (range_with_len 1 (min before.used (before.area.sectors - 1) - 1))) so_far.done so_far.later
    (sym list ∙ so_far.at.are) (entries-of (unit_of a before.area) before.oldest (sector_bytes a before.area before.oldest)) (rest-not a before on none some) so_far.of stops in
    subst (λ (l : List Entry). Copies a d before now (live_bodies (value_limit before.area) (bodies (sector_list a before.area before.oldest)) (bodies l))) rest-is
    (subst (λ (l : List Entry). Copies a d before now (live_bodies (value_limit before.area) (bodies l) (bodies (flat_map (part_at a before) (range_with_len 1 (min before.used (before.area.sectors - 1) - 1)))))) (sym same.0)
    (subst (λ (l : List Entry). Copies a d before now (live_bodies (value_limit before.area) (bodies so_far.done) (bodies l))) (sym same.1) so_far.copies))

-- no record of the sector is left
pub part-none : (a d : Device) (before now : Ring) (so_far : IsCopying a d before now None) → (x : Entry) (l : List Entry) → so_far.later ≡ x ∷ l → x.0.sector ≢ before.oldest
part-none a d before now so_far x l is same = both_ways (eqb x.0.sector before.oldest) (so_far.at.stops refl x l is) (eq-eqb x.0.sector before.oldest same)

-- ---- whether a record is of the oldest sector

pub oldest-some : (a : Device) (ring : Ring) → RingStandsOn a ring → ring.stage ≡ Collecting → (o : Option ℕ) → o ≡ cond (eqb ring.used 0) None (Some ring.oldest) → o ≡ Some ring.oldest
oldest-some a ring on stage o is =
    let all = collecting-used a ring on stage in
    is ∙ ap (λ (b : Bool). cond b None (Some ring.oldest)) (ne_eqb ring.used 0 (λ (e : ring.used ≡ 0). omega (arith, on.area.lawful.several)))

-- ---- a table of them

-- so many of a table were copied
pub record CopiesTable (a d : Device) (before now : Ring) (copied : List Kept) : Type 0 where
  pub touches : Touches (before.area ∷ []) a d false
  pub list : KeepsEntries a d before.area
  pub others : OthersStay a d before.area (newest_place before)
  pub area : now.area ≡ before.area
  pub reserve : now.reserve ≡ before.reserve
  pub copies : Copies a d before now (bodies_at a before.area copied)

pub table-start : (a : Device) (ring : Ring) → IsLawful a.banks a.bytes → RingStandsOn a ring → ring.stage ≡ Collecting → CopiesTable a a ring ring []
table-start a ring lawful on stage = record {
  touches = untouched (ring.area ∷ []) a;
  list = kept-same a ring lawful on;
  others = others_same a a ring.area (newest_place ring) refl;
  area = refl;
  reserve = refl;
  copies = record {
    stands = on;
    stage = stage;
    oldest = refl;
    used = refl;
    scratch = sym (append-nil (bodies (sector_list a ring.area (newest_place ring))));
    end = omega arith;
    units = 0;
    spent = spends_none a;
    bound = omega arith;
  };
}

module _ (a d : Device) (before now : Ring) (table : List Kept) (k : ℕ) (so_far : CopiesTable a d before now (take k table)) (lawful : IsLawful a.banks a.bytes) (lawful-now : IsLawful d.banks d.bytes) (on : RingStandsOn a before) (d0 : Kept) (lt : k < length table)
    (all : All (IsKept a before.area) table) where
  table-list : entries_on d now.area ≡ entries_on a before.area
  table-list = ap (λ (x : Area). entries_on d x) so_far.area ∙ so_far.list.are

  listed-first : IsListed a before.area (get_or table k d0).at
  listed-first = (all k d0 lt).listed

  pub table-listed : IsListed d now.area (get_or table k d0).at
  table-listed = subst (λ (l : List Entry). Contains (record_places l) (get_or table k d0).at) (sym table-list) listed-first

  table-body : body_at d now.area (get_or table k d0).at ≡ body_at a before.area (get_or table k d0).at
  table-body = same-body a d before now lawful lawful-now on so_far.copies.stands table-list (get_or table k d0).at listed-first

  pub table-oldest : AreKeptWithin (Some before.oldest) table → (get_or table k d0).at.sector ≡ now.oldest
  table-oldest inside = eqb-true (get_or table k d0).at.sector before.oldest (inside k d0 lt) ∙ sym so_far.copies.oldest

  body-of-table : get_or (bodies_at a before.area table) k [] ≡ body_at a before.area (get_or table k d0).at
  body-of-table = get_or-map (λ (x : Kept). body_at a before.area x.at) table k d0 [] lt

  pub table-short : AreShort a before.area table → record_cost (unit_of d now.area) (get_or table k d0).at.len ≤ PROGRAM_LIMIT
  table-short short =
      let long : length (bodies_at a before.area table) ≡ length table = length-map table (λ (x : Kept). body_at a before.area x.at) in
      let one : length (get_or (bodies_at a before.area table) k []) ≤ longest (value_limit before.area) = short k [] (omega arith) in
      let two : length (body_at d now.area (get_or table k d0).at) ≡ length (get_or (bodies_at a before.area table) k []) = ap length (table-body ∙ sym body-of-table) in
      let limit : longest (value_limit now.area) ≡ longest (value_limit before.area) = ap (λ (x : Area). longest (value_limit x)) so_far.area in
      copy-short d now lawful-now so_far.copies.stands (get_or table k d0).at table-listed (omega arith)

  sum-split : (unit : ℕ) → bodies_cost unit (bodies_at a before.area table) ≡ bodies_cost unit (bodies_at a before.area (take k table)) + (record_cost unit (length (body_at a before.area (get_or table k d0).at)) + bodies_cost unit (bodies_at a before.area (drop (suc k) table)))
  sum-split unit =
      let f : Kept → List ℕ = λ x. body_at a before.area x.at in
      let cost : List ℕ → ℕ = λ x. record_cost unit (length x) in
      ap (λ (l : List Kept). bodies_cost unit (bodies_at a before.area l)) (sym (take-append-drop k table) ∙ ap (λ (l : List Kept). take k table ++ l) (drop-cons table k d0 lt))
      ∙ ap (bodies_cost unit) (map-append f (take k table) (get_or table k d0 ∷ drop (suc k) table))
      ∙ sum_by-append cost (bodies_at a before.area (take k table)) (f (get_or table k d0) ∷ bodies_at a before.area (drop (suc k) table))
      ∙ ap (λ (n : ℕ). bodies_cost unit (bodies_at a before.area (take k table)) + n) (sum_by-cons cost (f (get_or table k d0)) (bodies_at a before.area (drop (suc k) table)))

  pub table-fits : before.end + bodies_cost (unit_of a before.area) (bodies_at a before.area table) ≤ sector_size a before.area → now.end + record_cost (unit_of d now.area) (get_or table k d0).at.len ≤ sector_size d now.area
  table-fits fits =
      let unit-same : unit_of d now.area ≡ unit_of a before.area = unit-after a d before.area now.area so_far.touches.banks so_far.area in
      let size-same : sector_size d now.area ≡ sector_size a before.area = size-after a d before.area now.area so_far.touches.banks so_far.area in
      let len : length (body_at a before.area (get_or table k d0).at) ≡ (get_or table k d0).at.len = listed-len a before lawful on (get_or table k d0).at listed-first in
      let cost : record_cost (unit_of a before.area) (length (body_at a before.area (get_or table k d0).at)) ≡ record_cost (unit_of d now.area) (get_or table k d0).at.len = ap (record_cost (unit_of a before.area)) len ∙ ap (λ (u : ℕ). record_cost u (get_or table k d0).at.len) (sym unit-same) in
      let sum = sum-split (unit_of a before.area) in
      let end = so_far.copies.end in
      omega arith

  pub table-step : (e : Device) (after : Ring) → Touches (now.area ∷ []) d e false → CopiedRecord d e now after (get_or table k d0).at → CopiesTable a e before after (take (k + 1) table)
  table-step e after touches did =
      let newest : newest_place now ≡ newest_place before = newest-same before now so_far.area so_far.copies.oldest so_far.copies.used in
      let one : Copies d e now after (body_at a before.area (get_or table k d0).at ∷ []) = subst (λ (b : List ℕ). Copies d e now after (b ∷ [])) table-body (copied d e now after lawful-now so_far.copies.stands (get_or table k d0).at table-listed did) in
      let more : bodies_at a before.area (take (k + 1) table) ≡ bodies_at a before.area (take k table) ++ body_at a before.area (get_or table k d0).at ∷ [] =
      ap (bodies_at a before.area) (take_more table k d0 lt) ∙ map-append (λ (x : Kept). body_at a before.area x.at) (take k table) (get_or table k d0 ∷ []) in
      record {
        touches = then so_far.touches (subst (λ (x : Area). Touches (x ∷ []) d e false) so_far.area touches);
        list = keeps-then a d e before.area so_far.list (subst (λ (x : Area). KeepsEntries d e x) so_far.area did.list);
        others = others_then a d e before.area (newest_place before) so_far.others (subst (λ (p : ℕ). OthersStay d e before.area p) newest (subst (λ (x : Area). OthersStay d e x (newest_place now)) so_far.area did.others));
        area = did.area ∙ so_far.area;
        reserve = did.reserve ∙ so_far.reserve;
        copies = subst (Copies a e before after) (sym more) (copies-then a d e before now after (bodies_at a before.area (take k table)) (body_at a before.area (get_or table k d0).at ∷ []) so_far.touches.banks so_far.area so_far.copies one);
      }

  pub table-stops : (e : Device) (after : Ring) → before.end + bodies_cost (unit_of a before.area) (bodies_at a before.area table) ≤ sector_size a before.area → StopsCopyingRecord d e now after (get_or table k d0).at → StopsCopying a e before after
  table-stops e after fits did =
      stops-then a d e before now after (bodies_at a before.area (take k table)) so_far.touches.banks so_far.area so_far.copies
      (stopped d e now after did.down (record_cost (unit_of d now.area) (get_or table k d0).at.len) did.bound (table-fits fits))

  pub table-kept : (e : Device) (after : Ring) → KeepsEntries d e now.area → KeepsEntries a e before.area
  table-kept e after kept = keeps-then a d e before.area so_far.list (subst (λ (x : Area). KeepsEntries d e x) so_far.area kept)

  pub table-others : (e : Device) (after : Ring) → OthersStay d e now.area (newest_place now) → OthersStay a e before.area (newest_place before)
  table-others e after others =
      let newest : newest_place now ≡ newest_place before = newest-same before now so_far.area so_far.copies.oldest so_far.copies.used in
      others_then a d e before.area (newest_place before) so_far.others (subst (λ (p : ℕ). OthersStay d e before.area p) newest (subst (λ (x : Area). OthersStay d e x (newest_place now)) so_far.area others))

  pub table-lost : (e : Device) (after : Ring) → StopsCopyingRecord d e now after (get_or table k d0).at → a.is_on ≡ true → HasNoChance e before.area
  table-lost e after did = lost-then a d e before.area now.area so_far.touches so_far.area (copy-lost d e now.area now (body_at d now.area (get_or table k d0).at) did.full did.lost)

-- A whole collection of the selector's ring.
use Rattle.std.proofs.Common.{◌≡◌, ◌≢◌, ℕ, ◌+◌, ◌-◌, ◌*◌, ◌/◌, ◌<◌, ◌≤◌, true, false, cond, eqb, List, [], ◌∷◌, ◌++◌, length, Option, Some, None, Result, Ok, Err, refl, sym, ap, subst, ◌∙◌, arith}
use Rattle.std.specs.Prelude.{Contains, unwrap_or, OnOk, OnErr}
use Rattle.std.specs.List.{slice_get}
use Rattle.std.specs.Option.{option_map, ForSome}
use Rattle.std.proofs.lemmas.Bool.{eqb-true}
use Rattle.std.proofs.lemmas.Option.{none-some}
use Rattle.flash_sim.specs.Bank.{IsLawful}
use Rattle.flash_sim.specs.Device.{Device}
use Rattle.flash_sim.specs.declared.flash.PowerLost.{PowerLost as Lost}
use Rattle.flash_sim.specs.declared.flash.TheConstants.{PROGRAM_LIMIT}
use Rattle.flash_map.specs.declared.area.Area.{Area}
use Rattle.flash_map.specs.Area.{unit_of, sector_size, sectors_of, sector_bytes, OthersStay}
use Rattle.flash_map.specs.Spending.{Spends}
use Rattle.flash_map.specs.Units.{IsUnit, padded}
use Rattle.flash_map.proofs.Rounding.{by_unit}
use Rattle.flash_map.proofs.SpendingLemmas.{spends_none, spends_then}
use Rattle.fcb_ring.specs.declared.record.RecordAt.{RecordAt}
use Rattle.fcb_ring.specs.declared.ring.Ring.{Ring}
use Rattle.fcb_ring.specs.declared.ring.Stage.TheVariants.{Ready, Collecting}
use Rattle.fcb_ring.specs.Changing.{Begun, CopiedRecord, StopsCopyingRecord, newest_place, next_place, header_on, header_units, record_units, is_scratch_left, sector_list, body_at, EndsCollection, GoesOn}
use Rattle.fcb_ring.specs.Entries.{bodies, sector_entries}
use Rattle.fcb_ring.specs.Rings.{turned}
use Rattle.fcb_ring.specs.Scratch.{ChangesScratch}
use Rattle.fcb_ring.specs.Standing.{StandsOn, KeepsEntries, entries_on, record_places}
use Rattle.fcb_ring.specs.Writing.{record_cost}
use Rattle.fcb_ring.proofs.AppendLemmas.{unit-after}
use Rattle.fcb_ring.proofs.AreaLemmas.{has_size, count-sectors, length-states}
use Rattle.fcb_ring.proofs.OthersLemmas.{others_at, others_same}
use Rattle.fcb_ring.proofs.ReadLemmas.{stands-has}
use Rattle.fcb_ring.proofs.RingLemmas.{turned-same, turned-zero}
use Rattle.fcb_ring.proofs.WalkLemmas.{Entry}
use Rattle.migrator.specs.Areas.{first_store}
use Rattle.migrator.specs.Active.{named, chosen, last_choice, last_record, active_in}
use Rattle.migrator.specs.Choosing.{IsOpen, Copied, Collected, LeavesList, copies_of, copy_units, collection_units}
use Rattle.migrator.proofs.Choices.{IsListed, named-says, last-listed, contained, body-len, entries-of, bodies-append, copies_by, collected}

some-same : {X : Type 0} (x y : X) → Some x ≡ Some y → x ≡ y
some-same x y e = cc

-- a record with a body of two bytes
pub cost_of_two : (unit : ℕ) → IsUnit unit → record_cost unit 2 ≡ unit + unit + unit
unfolding padded
cost_of_two = by_unit (λ unit. record_cost unit 2 ≡ unit + unit + unit) (omega arith) (omega arith) (omega arith)

pub cost_small : (unit : ℕ) → IsUnit unit → (record_cost unit 2 ≤ 48) × (padded unit 8 ≤ 16)
unfolding padded
cost_small = by_unit (λ unit. (record_cost unit 2 ≤ 48) × (padded unit 8 ≤ 16)) (omega arith, omega arith) (omega arith, omega arith) (omega arith, omega arith)

-- the active area by the list of records
pub active-by : (areas : List Area) (d : Device) (area : Area) (list : List Entry) → entries_on d area ≡ list → active_in areas d area ≡ unwrap_or (chosen areas (bodies list)) (first_store areas)
active-by areas d area list are = ap (λ (l : List Entry). unwrap_or (chosen areas (bodies l)) (first_store areas)) are

pub active-kept : (areas : List Area) (old new : Device) (area : Area) → KeepsEntries old new area → active_in areas new area ≡ active_in areas old area
active-kept areas old new area kept = active-by areas new area (entries_on old area) kept.are

pub keeps-then : (a b c : Device) (area : Area) → KeepsEntries a b area → KeepsEntries b c area → KeepsEntries a c area
keeps-then a b c area first second = record { undamaged = second.undamaged; are = second.are ∙ first.are }

pub kept-itself : (d : Device) (ring : Ring) → IsLawful d.banks d.bytes → StandsOn d ring → KeepsEntries d d ring.area
kept-itself d ring lawful on = stands-has (unit_of d ring.area) (sector_size d ring.area) (sectors_of d ring.area) (has_size d ring.area lawful on.area) ring on.sectors ring.area.sectors (sym (count-sectors d ring.area))

-- what is known of the last record
has-index : (choice : Option (RecordAt × ℕ)) (r : RecordAt) → option_map (λ (c : RecordAt × ℕ). c.0) choice ≡ Some r → (index : ℕ) × (choice ≡ Some (r, index))
has-index None r is = absurd (none-some r is)
has-index (Some (q, index)) r is = (index, ap (λ (x : RecordAt). Some (x, index)) (some-same q r is))

listed-last : (areas : List Area) (list : List Entry) (r : RecordAt) → last_record areas list ≡ Some r → (index : ℕ) × IsListed areas list r index
listed-last areas list r is = let h = has-index (last_choice areas list) r is in (h.0, last-listed areas list r h.0 h.1)

pub last-contained : (areas : List Area) (old new : Device) (area other : Area) (last : Option RecordAt) → last ≡ last_record areas (entries_on old area) → KeepsEntries old new area → other ≡ area → ForSome last (λ r. Contains (record_places (entries_on new other)) r)
last-contained areas old new area other last is kept same r some =
    let l = (listed-last areas (entries_on old area) r (sym is ∙ some)).1 in
    subst (λ (list : List Entry). Contains (record_places list) r) (sym (ap (entries_on new) same ∙ kept.are)) (contained (entries_on old area) l.place r l.body l.there)

pub last-short : (areas : List Area) (d : Device) (ring : Ring) (last : Option RecordAt) → IsLawful d.banks d.bytes → StandsOn d ring → last ≡ last_record areas (entries_on d ring.area) → ForSome last (λ r. r.len ≡ 2)
last-short areas d ring last lawful on is r some =
    let h = listed-last areas (entries_on d ring.area) r (sym is ∙ some) in
    let l = h.1 in
    sym (body-len d ring lawful on l.place r l.body l.there).1 ∙ (named-says areas l.body h.0 l.names).two

pub last-named : (areas : List Area) (d : Device) (ring : Ring) (r : RecordAt) (index : ℕ) → IsLawful d.banks d.bytes → StandsOn d ring → last_choice areas (entries_on d ring.area) ≡ Some (r, index) → named areas (body_at d ring.area r) ≡ Some index
last-named areas d ring r index lawful on is =
    let l = last-listed areas (entries_on d ring.area) r index is in
    ap (named areas) (sym (body-len d ring lawful on l.place r l.body l.there).0) ∙ l.names

newest-same : (now before : Ring) → now.area ≡ before.area → now.oldest ≡ before.oldest → now.used ≡ before.used → newest_place now ≡ newest_place before
newest-same now before area oldest used =
    ap (λ (a : Area). turned a.sectors now.oldest (now.used - 1)) area ∙ ap (λ (n : ℕ). turned before.area.sectors n (now.used - 1)) oldest ∙ ap (λ (n : ℕ). turned before.area.sectors before.oldest (n - 1)) used

copies-are : (d : Device) (ring : Ring) (last : Option (RecordAt × ℕ)) → copies_of d ring (option_map (λ (c : RecordAt × ℕ). c.0) last) ≡ copies_by ring.oldest last (body_at d ring.area)
copies-are d ring None = refl
copies-are d ring (Some choice) = refl

-- The ring at the start, once the scratch sector is open, with the copy, and at the end.
module _ (areas : List Area) (a b c d : Device) (before r1 r2 after : Ring) (found : Option RecordAt)
    (lawful-a : IsLawful a.banks a.bytes) (lawful-b : IsLawful b.banks b.bytes) (lawful-c : IsLawful c.banks c.bytes)
    (mounted : IsOpen a before) (left : is_scratch_left before ≡ true)
    (says : found ≡ last_record areas (entries_on a before.area))
    (banks : b.banks ≡ a.banks) (banks2 : c.banks ≡ b.banks)
    (others1 : OthersStay a b before.area (next_place before)) (others2 : OthersStay b c r1.area (newest_place r1))
    (units1 : Spends a b (header_units a before.area)) (units2 : Spends b c (copy_units b r1.area (sector_list c r1.area (newest_place r1)))) (units3 : Spends c d 1)
    (list1 : KeepsEntries a b before.area) (area1 : r1.area ≡ before.area) (stands1 : StandsOn b r1) (goes_on : GoesOn before r1 false)
    (list2 : KeepsEntries b c r1.area) (area2 : r2.area ≡ r1.area) (stage2 : r2.stage ≡ Collecting)
    (copied : Copied b c r1 r2 found)
    (ends : EndsCollection c d r2 after) where
  list-c : entries_on c before.area ≡ entries_on a before.area
  list-c = (subst (λ (x : Area). KeepsEntries b c x) area1 list2).are ∙ list1.are

  old-list : entries_on a before.area ≡ sector_list c before.area r1.oldest ++ ends.rest
  old-list =
      sym list-c
      ∙ subst (λ (x : Area). entries_on c x ≡ sector_list c x r2.oldest ++ ends.rest) (area2 ∙ area1) ends.old_list
      ∙ ap (λ (n : ℕ). sector_list c before.area n ++ ends.rest) copied.oldest

  scratch : bodies (sector_list c r2.area (newest_place r2)) ≡ copies_by r1.oldest (last_choice areas (entries_on a before.area)) (body_at b r1.area)
  scratch =
      ap (λ (x : Area). bodies (sector_list c x (newest_place r2))) area2
      ∙ ap (λ (n : ℕ). bodies (sector_list c r1.area n)) (newest-same r2 r1 area2 copied.oldest copied.used)
      ∙ copied.copies ∙ ap (copies_of b r1) says ∙ copies-are b r1 (last_choice areas (entries_on a before.area))

  new-list : entries_on d r2.area ≡ ends.rest ++ sector_list c r2.area (newest_place r2)
  new-list = ends.new_list.are

  names : (choice : RecordAt × ℕ) → last_choice areas (entries_on a before.area) ≡ Some choice → named areas (body_at b r1.area choice.0) ≡ Some choice.1
  names choice is =
      last-named areas b r1 choice.0 choice.1 lawful-b stands1
      (ap (λ (x : Area). last_choice areas (entries_on b x)) area1 ∙ ap (last_choice areas) list1.are ∙ is)

  same-choice : chosen areas (bodies (entries_on d before.area)) ≡ chosen areas (bodies (entries_on a before.area))
  same-choice =
      ap (λ (l : List Entry). chosen areas (bodies l)) (sym (ap (entries_on d) (area2 ∙ area1)) ∙ new-list)
      ∙ ap (chosen areas) (bodies-append ends.rest (sector_list c r2.area (newest_place r2)) ∙ ap (λ (l : List (List ℕ)). bodies ends.rest ++ l) scratch)
      ∙ collected areas r1.oldest (sector_list c before.area r1.oldest) ends.rest (λ i e at. entries-of (unit_of c before.area) r1.oldest _ i e at) (last_choice areas (entries_on a before.area)) (body_at b r1.area)
      (sym (ap (last_choice areas) old-list)) names
      ∙ ap (λ (l : List Entry). chosen areas (bodies l)) (sym old-list)

  -- the oldest sector stays up to its erase
  opened : newest_place r1 ≡ next_place before
  opened =
      let back : r1.used - 1 ≡ before.used = omega (arith, goes_on.used) in
      ap (λ (x : Area). turned x.sectors r1.oldest (r1.used - 1)) area1 ∙ ap (λ (o : ℕ). turned before.area.sectors o (r1.used - 1)) goes_on.oldest ∙ ap (turned before.area.sectors before.oldest) back

  oldest-apart : before.oldest ≢ next_place before
  oldest-apart same =
      let within : before.oldest < before.area.sectors = omega (arith, mounted.stands.sectors.form.within, length-states (unit_of a before.area) (sectors_of a before.area), count-sectors a before.area) in
      let some : before.used + 1 ≡ before.area.sectors = eqb-true (before.used + 1) before.area.sectors left in
      let several : 2 ≤ before.area.sectors = mounted.stands.area.lawful.several in
      let none : 0 ≡ before.used = turned-same before.area.sectors before.oldest 0 before.used within (omega arith) (omega arith) (turned-zero before.area.sectors before.oldest within ∙ same) in
      omega arith

  oldest-bytes : sector_bytes c before.area before.oldest ≡ sector_bytes a before.area before.oldest
  oldest-bytes =
      let second : OthersStay b c before.area (next_place before) = subst (λ (p : ℕ). OthersStay b c before.area p) opened (subst (λ (x : Area). OthersStay b c x (newest_place r1)) area1 others2) in
      others_at b c before.area (next_place before) second before.oldest oldest-apart ∙ others_at a b before.area (next_place before) others1 before.oldest oldest-apart

  oldest-list : sector_list c before.area r1.oldest ≡ sector_list a before.area before.oldest
  oldest-list =
      ap (sector_list c before.area) goes_on.oldest
      ∙ ap (λ (u : ℕ). sector_entries u before.oldest (sector_bytes c before.area before.oldest)) (unit-after a c before.area before.area (banks2 ∙ banks) refl)
      ∙ ap (sector_entries (unit_of a before.area) before.oldest) oldest-bytes

  -- the body of a record is the same on both devices
  same-body : (choice : RecordAt × ℕ) → last_choice areas (entries_on a before.area) ≡ Some choice → body_at b r1.area choice.0 ≡ body_at a before.area choice.0
  same-body choice is =
      let l = last-listed areas (entries_on a before.area) choice.0 choice.1 is in
      let there : slice_get (entries_on b r1.area) l.place ≡ Some (choice.0, l.body) = ap (λ (list : List Entry). slice_get list l.place) (ap (entries_on b) area1 ∙ list1.are) ∙ l.there in
      sym (body-len b r1 lawful-b stands1 l.place choice.0 l.body there).0 ∙ (body-len a before lawful-a mounted.stands l.place choice.0 l.body l.there).0

  same-copies : (last : Option (RecordAt × ℕ)) → last_choice areas (entries_on a before.area) ≡ last → copies_by r1.oldest last (body_at b r1.area) ≡ copies_of a before (option_map (λ (c : RecordAt × ℕ). c.0) last)
  same-copies None is = refl
  same-copies (Some choice) is =
      ap (λ (o : ℕ). cond (eqb choice.0.sector o) (body_at b r1.area choice.0 ∷ []) []) goes_on.oldest
      ∙ ap (λ (x : List ℕ). cond (eqb choice.0.sector before.oldest) (x ∷ []) []) (same-body choice is)

  leaves : LeavesList areas a before (entries_on d before.area)
  leaves = record {
    rest = ends.rest;
    copies = sector_list c r2.area (newest_place r2);
    old_list = old-list ∙ ap (λ (l : List Entry). l ++ ends.rest) oldest-list;
    copied = scratch ∙ same-copies (last_choice areas (entries_on a before.area)) refl;
    are = sym (ap (entries_on d) (area2 ∙ area1)) ∙ new-list;
  }

  spent : Spends a d (collection_units a before.area (sector_list c r2.area (newest_place r2)))
  spent =
      let same : sector_list c r1.area (newest_place r1) ≡ sector_list c r2.area (newest_place r2) =
      ap (sector_list c r1.area) (sym (newest-same r2 r1 area2 copied.oldest copied.used)) ∙ ap (λ (x : Area). sector_list c x (newest_place r2)) (sym area2) in
      let first : Spends b c (copy_units b r1.area (sector_list c r2.area (newest_place r2))) = subst (λ (l : List Entry). Spends b c (copy_units b r1.area l)) same units2 in
      let copies : Spends b c (copy_units a before.area (sector_list c r2.area (newest_place r2))) =
      subst (λ (u : ℕ). Spends b c (length (sector_list c r2.area (newest_place r2)) * (record_cost u 2 / u))) (unit-after a b before.area r1.area banks area1) first in
      spends_then a c d (header_units a before.area + copy_units a before.area (sector_list c r2.area (newest_place r2))) 1
      (spends_then a b c (header_units a before.area) (copy_units a before.area (sector_list c r2.area (newest_place r2))) units1 copies) units3

  pub collected-active : active_in areas d before.area ≡ active_in areas a before.area
  collected-active = ap (λ (o : Option ℕ). unwrap_or o (first_store areas)) same-choice

  pub collected-all : StandsOn d after → after.stage ≡ Ready → after.reserve ≡ before.reserve → after.end ≡ r2.end → Collected areas a d before after
  unfolding leaves
  collected-all stands ready reserve end = record {
    open_ring = record { stands = stands; ready = ready; reserve = reserve ∙ mounted.reserve };
    active = collected-active;
    used = omega (arith, ends.used, copied.used, goes_on.used);
    list = leaves;
    units = spent;
    end =
        let most : r2.end ≤ padded (unit_of b r1.area) 8 + record_cost (unit_of b r1.area) 2 = copied.end in
        subst (λ (n : ℕ). n ≤ padded (unit_of a before.area) 8 + record_cost (unit_of a before.area) 2) (sym end)
        (subst (λ (u : ℕ). r2.end ≤ padded u 8 + record_cost u 2) (unit-after a b before.area r1.area banks area1) most);
  }

-- ---- one copy

pub copy-short : (d : Device) (ring : Ring) (last : Option RecordAt) (r : RecordAt) → IsLawful d.banks d.bytes → StandsOn d ring → ForSome last (λ r. r.len ≡ 2) → last ≡ Some r → record_cost (unit_of d ring.area) r.len ≤ PROGRAM_LIMIT
copy-short d ring last r lawful on short is =
    let small = cost_small (unit_of d ring.area) (has_size d ring.area lawful on.area).is_unit in
    subst (λ (n : ℕ). record_cost (unit_of d ring.area) n ≤ PROGRAM_LIMIT) (sym (short r is)) (omega (arith, small.0))

pub copy-fits : (d : Device) (ring : Ring) (last : Option RecordAt) (r : RecordAt) → IsLawful d.banks d.bytes → StandsOn d ring → ForSome last (λ r. r.len ≡ 2) → last ≡ Some r → ring.end ≡ padded (unit_of d ring.area) 8
    → ring.end + record_cost (unit_of d ring.area) r.len ≤ sector_size d ring.area
copy-fits d ring last r lawful on short is end =
    let small = cost_small (unit_of d ring.area) (has_size d ring.area lawful on.area).is_unit in
    let long = (has_size d ring.area lawful on.area).at_least in
    subst (λ (n : ℕ). ring.end + record_cost (unit_of d ring.area) n ≤ sector_size d ring.area) (sym (short r is)) (omega (arith, small.0, small.1, long, end))

abbrev pub scratch_list : Device → Ring → List Entry
scratch_list d ring = sector_list d ring.area (newest_place ring)

pub no-copy : (d : Device) (ring : Ring) → scratch_list d ring ≡ [] → Spends d d (copy_units d ring.area (scratch_list d ring))
no-copy d ring none = subst (λ (list : List Entry). Spends d d (copy_units d ring.area list)) (sym none) (subst (λ (n : ℕ). Spends d d n) (never (record_units d ring.area 2)) (spends_none d))
  where
    never : (n : ℕ) → 0 ≡ 0 * n
    never n = omega arith

pub others-stay : (d : Device) (ring : Ring) → OthersStay d d ring.area (newest_place ring)
others-stay d ring = others_same d d ring.area (newest_place ring) refl

-- a copy of a record changes the scratch sector alone, whole or cut
pub only-scratch : (old new : Device) (before after : Ring) (r : RecordAt) (result : Result (Unit {0}) Lost)
    → OnOk result (CopiedRecord old new before after r) → OnErr result (StopsCopyingRecord old new before after r)
    → ChangesScratch old new before after
only-scratch old new before after r (Ok x) did stopped =
    record { list = did.list; others = did.others; area = did.area; reserve = did.reserve }
only-scratch old new before after r (Err e) did stopped =
    record { list = stopped.list; others = stopped.others; area = stopped.area; reserve = stopped.reserve }

-- the scratch sector, once a collection began
pub begun-end : (old new : Device) (before after : Ring) → Begun old new before after → after.end ≡ header_on new after.area
begun-end old new before after begun =
    begun.end ∙ ap (λ (u : ℕ). padded u 8) (sym (unit-after old new before.area after.area begun.banks begun.area))

pub begun-fresh : (old new : Device) (before after : Ring) → Begun old new before after → sector_list new after.area (newest_place after) ≡ []
begun-fresh old new before after begun =
    subst (λ (x : Area). sector_list new x (newest_place after) ≡ []) (sym begun.area) begun.fresh

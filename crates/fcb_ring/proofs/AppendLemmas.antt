-- An append that opens the next sector first: what the first call left, and then the second.
use Rattle.std.proofs.Common.{◌≡◌, ℕ, ◌+◌, ◌-◌, ◌/◌, ◌<◌, ◌≤◌, ◌≢◌, ltb, leb, Bool, true, false, cond, eqb, List, [], ◌∷◌, ◌++◌, inl, inr, length, set, refl, sym, ap, subst, ◌∙◌, arith, Result, Ok, Err, is_err}
use Rattle.std.specs.Result.{IsErr}
use Rattle.std.proofs.lemmas.Bool.{ne_eqb, eq-eqb, both_ways, and_parts, ltb-true, leb-true}
use Rattle.std.proofs.lemmas.List.{set-set, get_or-set_same}
use Rattle.flash_sim.specs.Bank.{IsLawful, bank_at}
use Rattle.flash_sim.specs.Device.{Device, overwritten}
use Rattle.flash_sim.specs.declared.flash.Bank.{Bank}
use Rattle.flash_sim.specs.declared.flash.TheConstants.{PROGRAM_LIMIT}
use Rattle.flash_map.specs.declared.area.Area.{Area}
use Rattle.flash_map.specs.Area.{unit_of, sector_size, sectors_of, sector_at, sector_bytes, Writes, OthersStay}
use Rattle.flash_map.specs.Spending.{Spends, SpendsAtMost}
use Rattle.flash_map.specs.Units.{padded}
use Rattle.flash_map.proofs.Ranges.{put_twice}
use Rattle.flash_map.proofs.Rounding.{padding}
use Rattle.flash_map.proofs.SpendingLemmas.{spends_then, spends_then_most, most_weaker}
use Rattle.fcb_ring.specs.declared.record.RecordAt.{RecordAt}
use Rattle.fcb_ring.specs.declared.ring.Ring.{Ring}
use Rattle.fcb_ring.specs.declared.ring.Stage.{Stage}
use Rattle.fcb_ring.specs.declared.ring.Stage.TheVariants.{Ready}
use Rattle.fcb_ring.specs.Changing.{header_on, next_id, newest_place, next_place, WritesHeader, WritesRecord, PutsRecord, AddsRecord, CutList, IsRecordLoss, CutAppend, append_units, GoesOn, has_room, is_scratch_left}
use Rattle.fcb_ring.specs.declared.record.Record.{Record}
use Rattle.fcb_ring.specs.Ends.{Advances}
use Rattle.fcb_ring.specs.Entries.{states, HasEntries}
use Rattle.fcb_ring.specs.Gains.{records_in, GainsRecord, CutRecords, CutInRecord}
use Rattle.fcb_ring.specs.Rings.{turned, IsRing}
use Rattle.fcb_ring.specs.Standing.{StandsOn, FitsStage, states_on, entries_on, KeepsEntries}
use Rattle.fcb_ring.specs.Writing.{header_image, record_image, record_cost, spelled}
use Rattle.fcb_ring.proofs.AreaLemmas.{has_size, count-sectors, length-states}
use Rattle.fcb_ring.proofs.HeaderLemmas.{length-header}
use Rattle.fcb_ring.proofs.ImageLemmas.{image-long}
use Rattle.fcb_ring.proofs.OpeningLemmas.{place-within}
use Rattle.fcb_ring.proofs.OthersLemmas.{others_then}

pub is_err_by : {T E : Type 0} (r : Result T E) (P : Bool → Type 0) → IsErr r → P true → P (is_err r)
is_err_by (Ok x) P e p = absurd (clash e)
  where
    clash : false ≡ true → ⊥
    clash e = cc
is_err_by (Err e) P is p = p

-- the unit and the sectors' size stay
pub unit-after : (a b : Device) (area other : Area) → b.banks ≡ a.banks → other ≡ area → unit_of b other ≡ unit_of a area
unit-after a b area other banks same = ap (λ (all : List Bank). (bank_at all other.bank).unit) banks ∙ ap (unit_of a) same

pub size-after : (a b : Device) (area other : Area) → b.banks ≡ a.banks → other ≡ area → sector_size b other ≡ sector_size a area
size-after a b area other banks same = ap (λ (all : List Bank). (bank_at all other.bank).sector) banks ∙ ap (sector_size a) same

pub adds-here : (old new : Device) (ring : Ring) (body : List ℕ) → ring.used < ring.area.sectors → PutsRecord old new ring body → AddsRecord old new ring.area (newest_place ring) body
adds-here old new ring body free puts =
    (puts.at, puts.sector, subst (λ (b : Bool). HasEntries (unit_of new ring.area) (sectors_of new ring.area) (entries_on old ring.area ++ cond b [] ((puts.at, body) ∷ []))) (ne_eqb ring.used ring.area.sectors (λ (e : ring.used ≡ ring.area.sectors). omega arith)) puts.list)

-- the sector that was opened is the newest then
pub opened-place : (before ring : Ring) → ring.area ≡ before.area → ring.oldest ≡ before.oldest → ring.used ≡ before.used + 1 → newest_place ring ≡ next_place before
opened-place before ring same oldest more =
    let back : ring.used - 1 ≡ before.used = omega arith in
    ap (λ (x : Area). turned x.sectors ring.oldest (ring.used - 1)) same ∙ ap (λ (o : ℕ). turned before.area.sectors o (ring.used - 1)) oldest ∙ ap (turned before.area.sectors before.oldest) back

pub adds-after : (a b c : Device) (before ring : Ring) (body : List ℕ) → ring.area ≡ before.area → ring.oldest ≡ before.oldest → ring.used ≡ before.used + 1 → KeepsEntries a b before.area → ring.used < ring.area.sectors → PutsRecord b c ring body
    → AddsRecord a c before.area (next_place before) body
adds-after a b c before ring body same oldest more kept free puts =
    let area = before.area in
    let here = adds-here b c ring body free puts in
    let there : HasEntries (unit_of c before.area) (sectors_of c before.area) (entries_on b before.area ++ (here.0, body) ∷ []) = subst (λ (x : Area). HasEntries (unit_of c x) (sectors_of c x) (entries_on b x ++ (here.0, body) ∷ [])) same here.2 in
    let place : newest_place ring ≡ next_place before = opened-place before ring same oldest more in
    (here.0, here.1 ∙ place, subst (λ (l : List (RecordAt × List ℕ)). HasEntries (unit_of c area) (sectors_of c area) (l ++ (here.0, body) ∷ [])) kept.are there)

pub cut-after : (a b c : Device) (before ring : Ring) (body : List ℕ) → ring.area ≡ before.area → ring.oldest ≡ before.oldest → ring.used ≡ before.used + 1 → KeepsEntries a b before.area → b.is_on ≡ a.is_on → CutAppend b c ring.area (newest_place ring) body
    → CutAppend a c before.area (next_place before) body
cut-after a b c before ring body same oldest more kept power cut = by (subst (λ (p : ℕ). CutAppend b c before.area p body) (opened-place before ring same oldest more) (subst (λ (x : Area). CutAppend b c x (newest_place ring) body) same cut))
  where
    by : CutAppend b c before.area (next_place before) body → CutAppend a c before.area (next_place before) body
    by (inl cut) = inl (record { list = subst (λ (l : List (RecordAt × List ℕ)). HasEntries (unit_of c before.area) (sectors_of c before.area) l) kept.are cut.list; loss = λ (on : a.is_on ≡ true). cut.loss (power ∙ on) })
    by (inr cut) = inr (record {
      offset = cut.offset;
      done = cut.done;
      loss = cut.loss;
      free = cut.free;
      list = subst (λ (l : List (RecordAt × List ℕ)). CutList (unit_of c before.area) (sectors_of c before.area) l (next_place before) body cut.done) kept.are cut.list;
    })

-- what the sector gains that was opened with no records in it
gains-then : (a b c : Device) (area : Area) (place : ℕ) (body : List ℕ) (checked : Bool) → records_in b area place ≡ records_in a area place → GainsRecord b c area place body checked → GainsRecord a c area place body checked
gains-then a b c area place body checked empty gains = record {
  last = gains.last;
  len = gains.len;
  checks = gains.checks;
  all = gains.all ∙ ap (λ (l : List (Record × List ℕ)). l ++ (gains.last, body) ∷ []) empty;
}

pub gains-after : (a b c : Device) (before ring : Ring) (body : List ℕ) → ring.area ≡ before.area → ring.oldest ≡ before.oldest → ring.used ≡ before.used + 1 → records_in b before.area (next_place before) ≡ records_in a before.area (next_place before)
    → GainsRecord b c ring.area (newest_place ring) body true → GainsRecord a c before.area (next_place before) body true
gains-after a b c before ring body same oldest more empty gains =
    gains-then a b c before.area (next_place before) body true empty
    (subst (λ (p : ℕ). GainsRecord b c before.area p body true) (opened-place before ring same oldest more) (subst (λ (x : Area). GainsRecord b c x (newest_place ring) body true) same gains))

records-then : (unit : ℕ) (a b c : Device) (area : Area) (place : ℕ) (body : List ℕ) (done : ℕ) → records_in b area place ≡ records_in a area place → CutRecords unit b c area place body done → CutRecords unit a c area place body done
records-then unit a b c area place body done empty (inl (none, same)) = inl (none, same ∙ empty)
records-then unit a b c area place body done empty (inr (inl (none, gains))) = inr (inl (none, gains-then a b c area place (spelled unit body done) false empty gains))
records-then unit a b c area place body done empty (inr (inr (inl (whole, gains)))) = inr (inr (inl (whole, gains-then a b c area place body true empty gains)))
records-then unit a b c area place body done empty (inr (inr (inr (chance, gains)))) = inr (inr (inr (chance, gains-then a b c area place (spelled unit body done) true empty gains)))

pub torn-after : (a b c : Device) (before ring : Ring) (body : List ℕ) → ring.area ≡ before.area → ring.oldest ≡ before.oldest → ring.used ≡ before.used + 1 → records_in b before.area (next_place before) ≡ records_in a before.area (next_place before)
    → CutInRecord b c ring (newest_place ring) ring.used body → CutInRecord a c before (next_place before) (before.used + 1) body
torn-after a b c before ring body same oldest more empty cut =
    let place = opened-place before ring same oldest more in
    record {
      offset = cut.offset;
      done = cut.done;
      loss = subst (λ (p : ℕ). IsRecordLoss c before.area p cut.offset body cut.done) place (subst (λ (x : Area). IsRecordLoss c x (newest_place ring) cut.offset body cut.done) same cut.loss);
      form = subst (λ (n : ℕ). IsRing (states_on c before.area) before.oldest n) more (subst (λ (o : ℕ). IsRing (states_on c before.area) o ring.used) oldest (subst (λ (x : Area). IsRing (states_on c x) ring.oldest ring.used) same cut.form));
      records =
          records-then (unit_of c before.area) a b c before.area (next_place before) body cut.done empty
          (subst (λ (p : ℕ). CutRecords (unit_of c before.area) b c before.area p body cut.done) place (subst (λ (x : Area). CutRecords (unit_of c x) b c x (newest_place ring) body cut.done) same cut.records));
    }

-- the sectors that neither call changed
pub others-after : (a b c : Device) (before ring : Ring) → ring.area ≡ before.area → ring.oldest ≡ before.oldest → ring.used ≡ before.used + 1 → OthersStay a b before.area (next_place before) → OthersStay b c ring.area (newest_place ring)
    → OthersStay a c before.area (next_place before)
others-after a b c before ring same oldest more first second =
    let there : OthersStay b c before.area (next_place before) =
    subst (λ (p : ℕ). OthersStay b c before.area p) (opened-place before ring same oldest more) (subst (λ (x : Area). OthersStay b c x (newest_place ring)) same second) in
    others_then a b c before.area (next_place before) first there

-- the header and the record, as one
pub writes-after : (a b c : Device) (before ring : Ring) (body : List ℕ) → IsLawful a.banks a.bytes → StandsOn a before → before.stage ≡ Ready → b.banks ≡ a.banks → Advances before ring (header_on a before.area) Ready
    → record_cost (unit_of a before.area) (length body) ≤ PROGRAM_LIMIT → padded (unit_of a before.area) 8 + record_cost (unit_of a before.area) (length body) ≤ sector_size a before.area → WritesHeader a b before
    → Writes b c ring.area (newest_place ring) ring.end (record_image (unit_of b ring.area) body) → WritesRecord false a c before body
writes-after a b c before ring body lawful on ready banks goes short fits first second =
    let area : Area = before.area in
    let unit : ℕ = unit_of a before.area in
    let all : List (List ℕ) = sectors_of a before.area in
    let at : ℕ = next_place before in
    let head : List ℕ = header_image unit (next_id before) in
    let image : List ℕ = record_image unit body in
    let s : List ℕ = sector_bytes a before.area at in
    let has = has_size a before.area lawful on.area in
    let pad = padding unit has.is_unit in
    let few : length body ≤ 16383 = omega (arith, short, pad.no_less (length body)) in
    let head-long : length head ≡ padded unit 8 = length-header unit (next_id before) has.is_unit in
    let record-long : length image ≡ record_cost unit (length body) = image-long unit has.is_unit body few in
    let inside = place-within a before lawful on ready (next_id before) refl at refl head refl in
    let here : at < length all = omega (arith, inside, count-sectors a before.area) in
    let sector-long : length s ≡ sector_size a before.area = has.each at here in
    let end : padded unit 8 ≡ 0 + length head = omega (arith, head-long) in
    let one : List ℕ = overwritten s 0 head in
    let there : Writes b c area at (padded unit 8) image =
    subst (λ (x : Area). Writes b c x at (padded unit 8) image) goes.area
    (subst (λ (p : ℕ). Writes b c ring.area p (padded unit 8) image) (opened-place before ring goes.area goes.oldest goes.used)
    (subst (λ (n : ℕ). Writes b c ring.area (newest_place ring) n image) goes.end
    (subst (λ (u : ℕ). Writes b c ring.area (newest_place ring) ring.end (record_image u body)) (unit-after a b area ring.area banks goes.area) second))) in
    there
    ∙ ap (λ (l : List (List ℕ)). set l at (overwritten (sector_at l at) (padded unit 8) image)) first
    ∙ ap (λ (l : List ℕ). set (set all at one) at (overwritten l (padded unit 8) image)) (get_or-set_same all at one [] here)
    ∙ set-set all at one (overwritten one (padded unit 8) image)
    ∙ ap (λ (n : ℕ). set all at (overwritten one n image)) end
    ∙ ap (λ (l : List ℕ). set all at l) (put_twice s 0 head image (omega (arith, head-long, record-long, sector-long, fits)))

-- what both calls spend
pub spends-both : (a b c : Device) (area other : Area) (len : ℕ) → b.banks ≡ a.banks → other ≡ area → Spends a b (padded (unit_of a area) 8 / unit_of a area) → Spends b c (record_cost (unit_of b other) len / unit_of b other)
    → Spends a c (append_units (unit_of a area) len false)
spends-both a b c area other len banks same first second =
    let unit = unit_of a area in
    let two : Spends b c (record_cost (unit_of a area) len / unit_of a area) = subst (λ (u : ℕ). Spends b c (record_cost u len / u)) (unit-after a b area other banks same) second in
    let swap : padded unit 8 / unit + record_cost unit len / unit ≡ record_cost unit len / unit + padded unit 8 / unit = omega arith in
    subst (λ (n : ℕ). Spends a c n) swap (spends_then a b c (padded unit 8 / unit) (record_cost unit len / unit) first two)

pub most-first : (a b : Device) (unit len : ℕ) → SpendsAtMost a b (padded unit 8 / unit) → SpendsAtMost a b (append_units unit len false)
most-first a b unit len first = most_weaker a b (padded unit 8 / unit) (append_units unit len false) (omega arith) first

pub most-both : (a b c : Device) (area other : Area) (len : ℕ) → b.banks ≡ a.banks → other ≡ area → Spends a b (padded (unit_of a area) 8 / unit_of a area) → SpendsAtMost b c (record_cost (unit_of b other) len / unit_of b other)
    → SpendsAtMost a c (append_units (unit_of a area) len false)
most-both a b c area other len banks same first second =
    let unit = unit_of a area in
    let two : SpendsAtMost b c (record_cost (unit_of a area) len / unit_of a area) = subst (λ (u : ℕ). SpendsAtMost b c (record_cost u len / u)) (unit-after a b area other banks same) second in
    most_weaker a c (padded unit 8 / unit + record_cost unit len / unit) (append_units unit len false) (omega arith) (spends_then_most a b c (padded unit 8 / unit) (record_cost unit len / unit) first two)

-- ---- what the tests before an append say

pub ready-used : (d : Device) (ring : Ring) → StandsOn d ring → ring.stage ≡ Ready → ring.used < ring.area.sectors
ready-used d ring on ready =
    let fits : FitsStage Ready (states (unit_of d ring.area) (sectors_of d ring.area)) ring.oldest ring.used = subst (λ (s : Stage). FitsStage s (states (unit_of d ring.area) (sectors_of d ring.area)) ring.oldest ring.used) ready on.sectors.stage in
    omega (arith, fits.0, length-states (unit_of d ring.area) (sectors_of d ring.area), count-sectors d ring.area)

-- another sector than the scratch one is free
pub more-free : (d : Device) (ring : Ring) → StandsOn d ring → ring.stage ≡ Ready → is_scratch_left ring ≡ false → ring.used + 1 < ring.area.sectors
more-free d ring on ready not_left =
    let below = ready-used d ring on ready in
    let apart : ring.used + 1 ≢ ring.area.sectors = λ (e : ring.used + 1 ≡ ring.area.sectors). both_ways (eqb (ring.used + 1) ring.area.sectors) not_left (eq-eqb (ring.used + 1) ring.area.sectors e) in
    omega arith

pub room-is : (unit size : ℕ) (ring : Ring) (kept len : ℕ) → has_room unit size ring kept len ≡ true → (0 < ring.used) × (ring.end + record_cost unit len ≤ size)
room-is unit size ring kept len has =
    let parts = and_parts (ltb 0 ring.used) (leb (ring.end + record_cost unit len + kept) size) has in
    let first : 0 < ring.used = ltb-true 0 ring.used parts.0 in
    let second : ring.end + record_cost unit len + kept ≤ size = leb-true (ring.end + record_cost unit len + kept) size parts.1 in
    (first, omega arith)

pub units-here : (unit len : ℕ) (here : Bool) → here ≡ true → append_units unit len here ≡ record_cost unit len / unit
units-here unit len here is = ap (append_units unit len) is ∙ omega arith

pub place-here : (here : Bool) (first second : ℕ) → here ≡ true → first ≡ cond here first second
place-here here first second is = sym (ap (λ (b : Bool). cond b first second) is)

pub goes-here : (before after : Ring) (here : Bool) → here ≡ true → after.oldest ≡ before.oldest → after.used ≡ before.used → after.id ≡ before.id → GoesOn before after here
goes-here before after here is oldest used id = subst (λ (b : Bool). GoesOn before after b) (sym is) (record { oldest = oldest; used = omega arith; id = id })

pub place-next : (here : Bool) (first second : ℕ) → here ≡ false → second ≡ cond here first second
place-next here first second is = sym (ap (λ (b : Bool). cond b first second) is)

pub units-next : (unit len : ℕ) (here : Bool) → here ≡ false → append_units unit len false ≡ append_units unit len here
units-next unit len here is = sym (ap (append_units unit len) is)

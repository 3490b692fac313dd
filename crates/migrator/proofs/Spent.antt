-- What the choice of an area and the filling of one spend at most.
use Rattle.std.proofs.Common.{◌≡◌, ℕ, ◌+◌, ◌*◌, ◌/◌, ◌≤◌, Bool, true, false, cond, List, length, Result, Ok, Err, refl, sym, ap, subst, ◌∙◌, arith}
use Rattle.std.specs.Prelude.{OnOk, OnErr, count_by}
use Rattle.std.proofs.lemmas.List.Sums.{count_by-le-length}
use Rattle.flash_sim.specs.Bank.{bank_at}
use Rattle.flash_sim.specs.Device.{Device}
use Rattle.flash_sim.specs.declared.flash.Bank.{Bank}
use Rattle.flash_sim.specs.declared.flash.PowerLost.{PowerLost as Lost}
use Rattle.flash_map.specs.declared.area.Area.{Area}
use Rattle.flash_map.specs.declared.area.Geometry.{Geometry}
use Rattle.flash_map.specs.Area.{geometry_of, sectors_of}
use Rattle.flash_map.specs.Spending.{Spends, SpendsAtMost, SpendsBetween}
use Rattle.flash_map.specs.Units.{is_written, padded}
use Rattle.flash_map.proofs.SpendingBounds.{between_exact, between_most, between_then, between_within}
use Rattle.flash_map.proofs.SpendingLemmas.{most_weaker, spends_most, spends_none, spends_then}
use Rattle.fcb_ring.specs.declared.record.RecordAt.{RecordAt}
use Rattle.fcb_ring.specs.declared.ring.Ring.{Ring}
use Rattle.fcb_ring.specs.declared.writing.AppendFault.{AppendFault}
use Rattle.fcb_ring.specs.declared.writing.AppendFault.TheVariants.{Full, TooLong, PowerLost}
use Rattle.fcb_ring.specs.Changing.{AppendEnds, CopiedRecord, StopsCopyingRecord, header_units, record_units}
use Rattle.fcb_ring.specs.Writing.{record_cost}
use Rattle.fcb_ring.proofs.AppendLemmas.{unit-after}
use Rattle.fcb_ring.proofs.AreaLemmas.{count-sectors}
use Rattle.backend_api.specs.Room.{command_units}
use Rattle.migrator.specs.Choosing.{choice_units}
use Rattle.migrator.specs.Migrating.{fill_units, move_units}

-- ---- two calls in a row, and none

pub most_then : (a b c : Device) (first second : ℕ) → SpendsAtMost a b first → SpendsAtMost b c second → SpendsAtMost a c (first + second)
most_then a b c first second one two = (one.0 + two.0, (let x = one.1 in let y = two.1 in omega arith), spends_then a b c one.0 two.0 one.2 two.2)

pub most_none : (d e : Device) (most : ℕ) → e ≡ d → SpendsAtMost d e most
most_none d e most same = subst (λ (x : Device). SpendsAtMost d x most) (sym same) (0, omega arith, spends_none d)

-- ---- the selector's units, on a device with the same banks

pub header-same : (a d : Device) (area other : Area) → d.banks ≡ a.banks → other ≡ area → header_units d other ≡ header_units a area
header-same a d area other banks same = ap (λ (u : ℕ). padded u 8 / u) (unit-after a d area other banks same)

pub record-same : (a d : Device) (area other : Area) → d.banks ≡ a.banks → other ≡ area → record_units d other 2 ≡ record_units a area 2
record-same a d area other banks same = ap (λ (u : ℕ). record_cost u 2 / u) (unit-after a d area other banks same)

-- a copy, whole or cut
pub copied-most : (d e : Device) (ring after : Ring) (r : RecordAt) (result : Result (Unit {0}) Lost) → r.len ≡ 2 → OnOk result (CopiedRecord d e ring after r) → OnErr result (StopsCopyingRecord d e ring after r) → SpendsAtMost d e (record_units d ring.area 2)
copied-most d e ring after r (Ok x) two did stopped = subst (λ (n : ℕ). SpendsAtMost d e (record_units d ring.area n)) two (spends_most d e (record_units d ring.area r.len) did.units)
copied-most d e ring after r (Err x) two did stopped = subst (λ (n : ℕ). SpendsAtMost d e (record_units d ring.area n)) two stopped.bound

-- a record that names an area, whole or cut
here-within : (here : Bool) (body header : ℕ) → body + cond here 0 header ≤ header + body
here-within true body header = omega arith
here-within false body header = omega arith

pub put-most : (d e : Device) (before after : Ring) (body : List ℕ) (kept : ℕ) (result : Result (Unit {0}) AppendFault) → length body ≡ 2 → AppendEnds d e before after body kept result → SpendsAtMost d e (header_units d before.area + record_units d before.area 2)
put-most d e before after body kept result two ends =
    subst (λ (n : ℕ). SpendsAtMost d e (header_units d before.area + record_units d before.area n)) two (by result ends)
  where
    by : (r : Result (Unit {0}) AppendFault) → AppendEnds d e before after body kept r → SpendsAtMost d e (header_units d before.area + record_units d before.area (length body))
    by (Ok x) did = most_weaker d e _ (header_units d before.area + record_units d before.area (length body)) (here-within _ (record_units d before.area (length body)) (header_units d before.area)) (spends_most d e _ did.3.units)
    by (Err TooLong) did = most_none d e _ did.1.flash
    by (Err Full) did = most_none d e _ did.3.flash
    by (Err PowerLost) did = most_weaker d e _ (header_units d before.area + record_units d before.area (length body)) (here-within _ (record_units d before.area (length body)) (header_units d before.area)) did.2.units

-- ---- a choice

-- it fits
pub choice-put : (a e : Device) (area : Area) → SpendsAtMost a e (header_units a area + record_units a area 2) → SpendsAtMost a e (choice_units a area)
choice-put a e area spent = most_weaker a e (header_units a area + record_units a area 2) (choice_units a area) (omega arith) spent

-- the collection before it was cut
pub choice-first : (a e : Device) (area : Area) → SpendsAtMost a e (header_units a area + record_units a area 2 + 1) → SpendsAtMost a e (choice_units a area)
choice-first a e area spent = most_weaker a e (header_units a area + record_units a area 2 + 1) (choice_units a area) (omega arith) spent

-- a collection, and then the record
pub choice-behind : (a b e : Device) (area other : Area) → b.banks ≡ a.banks → other ≡ area → SpendsAtMost a b (header_units a area + record_units a area 2 + 1) → SpendsAtMost b e (header_units b other + record_units b other 2) → SpendsAtMost a e (choice_units a area)
choice-behind a b e area other banks same first second =
    let header : header_units b other ≡ header_units a area = header-same a b area other banks same in
    let record_is : record_units b other 2 ≡ record_units a area 2 = record-same a b area other banks same in
    most_weaker a e (header_units a area + record_units a area 2 + 1 + (header_units b other + record_units b other 2)) (choice_units a area) (omega arith)
    (most_then a b e (header_units a area + record_units a area 2 + 1) (header_units b other + record_units b other 2) first second)

-- where it does not fit, nothing was spent yet
pub choice-full : (a b e : Device) (before ring : Ring) → b ≡ a → ring ≡ before → SpendsAtMost b e (choice_units b ring.area) → SpendsAtMost a e (choice_units a before.area)
choice-full a b e before ring flash same spent = subst (λ (d : Device). SpendsAtMost d e (choice_units d before.area)) flash (subst (λ (r : Ring). SpendsAtMost b e (choice_units b r.area)) same spent)

-- ---- an area that is erased, and then filled

pub written-within : (d : Device) (area : Area) → count_by is_written (sectors_of d area) ≤ area.sectors
written-within d area = subst (λ (n : ℕ). count_by is_written (sectors_of d area) ≤ n) (count-sectors d area) (count_by-le-length is_written (sectors_of d area))

-- it was erased, whole or in part
pub erased-most : {E : Type 0} (d e : Device) (area : Area) (result : Result (Unit {0}) E) → OnOk result (Spends d e (count_by is_written (sectors_of d area))) → OnErr result (SpendsAtMost d e (count_by is_written (sectors_of d area))) → SpendsAtMost d e area.sectors
erased-most d e area (Ok x) units lost = most_weaker d e (count_by is_written (sectors_of d area)) area.sectors (written-within d area) (spends_most d e (count_by is_written (sectors_of d area)) units)
erased-most d e area (Err x) units lost = most_weaker d e (count_by is_written (sectors_of d area)) area.sectors (written-within d area) lost

units-still : (a b : Device) (area : Area) → b.banks ≡ a.banks → geometry_of b area ≡ geometry_of a area
units-still a b area banks = ap (λ (all : List Bank). record { unit = (bank_at all area.bank).unit; sector = (bank_at all area.bank).sector; sectors = area.sectors; kind = (bank_at all area.bank).kind }) banks

-- and then mounted, which spent nothing
pub opened-most : (a b e : Device) (area : Area) → e ≡ b → SpendsAtMost a b area.sectors → SpendsAtMost a e area.sectors
opened-most a b e area same spent = subst (λ (x : Device). SpendsAtMost a x area.sectors) (sym same) spent

-- nothing was put yet
pub opened-first : (a b : Device) (area : Area) (names : ℕ) → SpendsAtMost a b area.sectors → SpendsAtMost a b (fill_units (geometry_of a area) names)
opened-first a b area names spent = most_weaker a b area.sectors (fill_units (geometry_of a area) names) (omega arith) spent

-- the puts, in the units of the area on the device before
puts-most : (a b e : Device) (area into : Area) (count names : ℕ) → b.banks ≡ a.banks → into ≡ area → count ≡ names → SpendsAtMost b e (count * command_units (geometry_of b into)) → SpendsAtMost b e (names * command_units (geometry_of a area))
puts-most a b e area into count names banks same is spent =
    let g : geometry_of b into ≡ geometry_of a area = ap (geometry_of b) same ∙ units-still a b area banks in
    subst (λ (x : Geometry). SpendsAtMost b e (names * command_units x)) g (subst (λ (n : ℕ). SpendsAtMost b e (n * command_units (geometry_of b into))) is spent)

-- all settings were put
pub filled-most : (a b e : Device) (area into : Area) (count names : ℕ) → b.banks ≡ a.banks → into ≡ area → count ≡ names → SpendsAtMost a b area.sectors → SpendsAtMost b e (count * command_units (geometry_of b into))
    → SpendsAtMost a e (fill_units (geometry_of a area) names)
filled-most a b e area into count names banks same is first second =
    most_then a b e area.sectors (names * command_units (geometry_of a area)) first (puts-most a b e area into count names banks same is second)

-- the same, where power lasted: each sector that was written was erased
pub filled-between : (a b e : Device) (area into : Area) (count names : ℕ) → b.banks ≡ a.banks → into ≡ area → count ≡ names → Spends a b (count_by is_written (sectors_of a area)) → SpendsAtMost b e (count * command_units (geometry_of b into))
    → SpendsBetween a e (count_by is_written (sectors_of a area)) (count_by is_written (sectors_of a area) + names * command_units (geometry_of a area))
filled-between a b e area into count names banks same is first second =
    let written : ℕ = count_by is_written (sectors_of a area) in
    let puts : ℕ = names * command_units (geometry_of a area) in
    plain a e written puts (between_then (between_exact a b written first) (between_most b e puts (puts-most a b e area into count names banks same is second)))
  where
    plain : (d x : Device) (count more : ℕ) → SpendsBetween d x (count + 0) (count + more) → SpendsBetween d x count (count + more)
    plain d x count more spends = between_within spends count (count + more) (omega arith) (omega arith)

-- what holds however a call ends
pub on-ok : {T E : Type 0} (result : Result T E) (P : Type 0) → P → OnOk result P
on-ok (Ok x) P is = is
on-ok (Err x) P is = tt

-- ---- an area that is filled, and then chosen

-- it was not filled, so that it was not chosen
pub filled-first : (a b : Device) (area selector : Area) (names : ℕ) → SpendsAtMost a b (fill_units (geometry_of a area) names) → SpendsAtMost a b (move_units a selector area names)
filled-first a b area selector names spent =
    let fill = fill_units (geometry_of a area) names in
    let choice = choice_units a selector in
    most_weaker a b fill (fill + choice) (more fill choice) spent
  where
    more : (x y : ℕ) → x ≤ x + y
    more x y = omega arith

choice-same : (a d : Device) (area : Area) → d.banks ≡ a.banks → choice_units d area ≡ choice_units a area
choice-same a d area banks =
    let header : header_units d area ≡ header_units a area = header-same a d area area banks refl in
    let body : record_units d area 2 ≡ record_units a area 2 = record-same a d area area banks refl in
    ap (λ (n : ℕ). 2 * n + 2 * record_units d area 2 + 1) header ∙ ap (λ (n : ℕ). 2 * header_units a area + 2 * n + 1) body

pub moved-most : (a b e : Device) (area selector : Area) (names : ℕ) → b.banks ≡ a.banks → SpendsAtMost a b (fill_units (geometry_of a area) names) → SpendsAtMost b e (choice_units b selector) → SpendsAtMost a e (move_units a selector area names)
moved-most a b e area selector names banks first second =
    most_then a b e (fill_units (geometry_of a area) names) (choice_units a selector) first (subst (λ (n : ℕ). SpendsAtMost b e n) (choice-same a b selector banks) second)

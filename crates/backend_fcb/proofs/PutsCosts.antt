-- What the records of a sector cost that put a value.
use Rattle.std.proofs.Common.{◌≡◌, ◌≢◌, ℕ, ◌+◌, ◌<◌, ◌≤◌, Bool, false, cond, eqb, ltb, List, [], ◌∷◌, ◌++◌, length, Option, Some, None, inl, inr, refl, sym, ap, subst, ◌∙◌, arith}
use Rattle.std.specs.List.{sum_by}
use Rattle.std.specs.Option.{option_map, option_or}
use Rattle.std.proofs.lemmas.Bool.{cases_Bool, cases_lt, lt-ltb, le-ltb, both_ways}
use Rattle.std.proofs.lemmas.List.Elements.{All-cons, All-nil, filter-append}
use Rattle.std.proofs.lemmas.List.Sums.{sum_by-cons, sum_by-append}
use Rattle.std.proofs.lemmas.Option.{none-some}
use Rattle.flash_sim.specs.Bank.{IsLawful}
use Rattle.flash_sim.specs.Device.{Device}
use Rattle.flash_map.specs.Area.{value_limit, unit_of, sector_size, sectors_of, sector_at}
use Rattle.flash_map.specs.declared.area.Area.{Area}
use Rattle.flash_map.specs.declared.faults.Damaged.{Damaged}
use Rattle.flash_map.specs.declared.faults.Why.TheVariants.{Overfull}
use Rattle.fcb_ring.specs.declared.record.RecordAt.{RecordAt}
use Rattle.fcb_ring.specs.Entries.{states, entries, bodies, HasEntries}
use Rattle.fcb_ring.specs.Rings.{first_damage}
use Rattle.fcb_ring.specs.Standing.{IsRingArea, KeepsEntries, entries_on}
use Rattle.fcb_ring.specs.Writing.{record_cost}
use Rattle.fcb_ring.proofs.AppendLemmas.{unit-after, size-after}
use Rattle.fcb_ring.proofs.AreaLemmas.{HasSize, has_size, count-sectors, area_after}
use Rattle.fcb_ring.proofs.CostLemmas.{list_cost}
use Rattle.fcb_ring.proofs.PlaceLemmas.{find_first, find_nothing, found_none}
use Rattle.record_settings.specs.Room.{cap, cost_by, put_cost}
use Rattle.backend_fcb.specs.Reading.{puts_cost, first_overfull, damage_of}
use Rattle.record_settings.specs.Settings.{setting_of}
use Rattle.backend_fcb.specs.Standing.{damage_on}
use Rattle.backend_fcb.proofs.SectorLists.{AreOf, AreNotOf, of_sector, of-all, of-none, sum-bodies, sum-less}
use Rattle.backend_fcb.proofs.WalkLemmas.{Entry}

-- ---- one record, and a list

cost-le : (unit len : ℕ) (setting : Option (List ℕ × List ℕ)) → cost_by unit len setting ≤ record_cost unit len
cost-le unit len None = omega arith
cost-le unit len (Some (name, value)) = elim (cases_Bool (eqb (length value) 0)) [
  | inl none ↦ let e : cost_by unit len (Some (name, value)) ≡ 0 = ap (λ (b : Bool). cond b 0 (record_cost unit len)) none in omega arith
  | inr some ↦ let e : cost_by unit len (Some (name, value)) ≡ record_cost unit len = ap (λ (b : Bool). cond b 0 (record_cost unit len)) some in omega arith
]

pub put-le : (limit unit : ℕ) (body : List ℕ) → put_cost limit unit body ≤ record_cost unit (length body)
put-le limit unit body = cost-le unit (length body) (setting_of limit body)

pub puts-append : (limit unit : ℕ) (xs ys : List Entry) (place : ℕ) → puts_cost limit unit (xs ++ ys) place ≡ puts_cost limit unit xs place + puts_cost limit unit ys place
unfolding puts_cost
puts-append limit unit xs ys place =
    ap (sum_by (λ (entry : Entry). put_cost limit unit entry.1)) (filter-append (λ (entry : Entry). eqb entry.0.sector place) xs ys) ∙ sum_by-append (λ (entry : Entry). put_cost limit unit entry.1) (of_sector place xs) (of_sector place ys)

pub puts-none : (limit unit : ℕ) (list : List Entry) (place : ℕ) → AreNotOf place list → puts_cost limit unit list place ≡ 0
unfolding puts_cost
puts-none limit unit list place are = ap (sum_by (λ (entry : Entry). put_cost limit unit entry.1)) (of-none place list are)

pub puts-all : (limit unit : ℕ) (list : List Entry) (place : ℕ) → AreOf place list → puts_cost limit unit list place ≡ sum_by (put_cost limit unit) (bodies list)
unfolding puts_cost
puts-all limit unit list place are = ap (sum_by (λ (entry : Entry). put_cost limit unit entry.1)) (of-all place list are) ∙ sum-bodies (put_cost limit unit) list

-- the records of one sector, where they are known
pub puts-of : (limit unit : ℕ) (list part : List Entry) (place : ℕ) → of_sector place list ≡ part → puts_cost limit unit list place ≡ sum_by (put_cost limit unit) (bodies part)
unfolding puts_cost
puts-of limit unit list part place is = ap (sum_by (λ (entry : Entry). put_cost limit unit entry.1)) is ∙ sum-bodies (put_cost limit unit) part

pub puts-here : (limit unit : ℕ) (at : RecordAt) (body : List ℕ) (place : ℕ) → at.sector ≡ place → puts_cost limit unit ((at, body) ∷ []) place ≡ put_cost limit unit body
puts-here limit unit at body place here =
    puts-all limit unit ((at, body) ∷ []) place (All-cons (λ (entry : Entry). entry.0.sector ≡ place) (at, body) [] here (All-nil (λ (entry : Entry). entry.0.sector ≡ place)))
    ∙ sum_by-cons (put_cost limit unit) body [] ∙ omega arith

pub puts-there : (limit unit : ℕ) (at : RecordAt) (body : List ℕ) (place : ℕ) → at.sector ≢ place → puts_cost limit unit ((at, body) ∷ []) place ≡ 0
puts-there limit unit at body place apart = puts-none limit unit ((at, body) ∷ []) place (All-cons (λ (entry : Entry). entry.0.sector ≢ place) (at, body) [] apart (All-nil (λ (entry : Entry). entry.0.sector ≢ place)))

-- they cost no more than all records
pub puts-le : (limit unit : ℕ) (part : List Entry) → sum_by (put_cost limit unit) (bodies part) ≤ list_cost unit part
puts-le limit unit part =
    let e = sum-bodies (put_cost limit unit) part in
    let l = sum-less (λ (entry : Entry). put_cost limit unit entry.1) (λ (entry : Entry). record_cost unit (length entry.1)) part (λ entry. put-le limit unit entry.1) in
    omega arith

-- ---- an area

-- in no sector they cost more than it has for them
pub CostsFit : ℕ → ℕ → ℕ → List Entry → ℕ → Type 0
CostsFit limit unit size list count = (place : ℕ) → place < count → puts_cost limit unit list place ≤ cap unit size

pub costs-at : (limit unit size : ℕ) (list : List Entry) (count : ℕ) → CostsFit limit unit size list count → (place : ℕ) → place < count → puts_cost limit unit list place ≤ cap unit size
unfolding CostsFit
costs-at limit unit size list count fit place lt = fit place lt

pub costs-from : (limit unit size : ℕ) (list : List Entry) (count : ℕ) → ((place : ℕ) → place < count → puts_cost limit unit list place ≤ cap unit size) → CostsFit limit unit size list count
unfolding CostsFit
costs-from limit unit size list count fit = fit

lt-cases : (a b : ℕ) → ltb a b ≡ false → b ≤ a
lt-cases a b e = elim (cases_lt a b) [
  | inl lt ↦ absurd (both_ways (ltb a b) e (lt-ltb a b lt))
  | inr le ↦ le
]

overfull-none : (limit unit size : ℕ) (sectors : List (List ℕ)) → HasSize unit size sectors → first_overfull limit unit sectors ≡ None → CostsFit limit unit size (entries unit sectors) (length sectors)
unfolding first_overfull CostsFit
overfull-none limit unit size sectors has none place lt =
    let test = found_none (λ place. ltb (cap unit (length (sector_at sectors place))) (puts_cost limit unit (entries unit sectors) place)) 0 (length sectors) none place (omega arith) (omega arith) in
    let le : puts_cost limit unit (entries unit sectors) place ≤ cap unit (length (sector_at sectors place)) = lt-cases (cap unit (length (sector_at sectors place))) (puts_cost limit unit (entries unit sectors) place) test in
    subst (λ (n : ℕ). puts_cost limit unit (entries unit sectors) place ≤ cap unit n) (has.each place lt) le

none-overfull : (limit unit size : ℕ) (sectors : List (List ℕ)) → HasSize unit size sectors → CostsFit limit unit size (entries unit sectors) (length sectors) → first_overfull limit unit sectors ≡ None
unfolding first_overfull CostsFit
none-overfull limit unit size sectors has fit =
    find_nothing (λ place. ltb (cap unit (length (sector_at sectors place))) (puts_cost limit unit (entries unit sectors) place)) 0 (length sectors)
    (λ place from below. le-ltb (cap unit (length (sector_at sectors place))) (puts_cost limit unit (entries unit sectors) place)
    (subst (λ (n : ℕ). puts_cost limit unit (entries unit sectors) place ≤ cap unit n) (sym (has.each place (omega arith))) (fit place (omega arith))))

or-none : {X : Type 0} (a b : Option X) → option_or a b ≡ None → (a ≡ None) × (b ≡ None)
or-none None b e = (refl, e)
or-none (Some x) b e = absurd (none-some x (sym e))

pub map-none : {X Y : Type 0} (f : X → Y) (o : Option X) → option_map f o ≡ None → o ≡ None
map-none f None e = refl
map-none f (Some x) e = absurd (none-some (f x) (sym e))

abbrev pub overfull_at : ℕ → Damaged
overfull_at place = record { sector = place; why = Overfull }

pub undamaged-costs : (limit unit size : ℕ) (sectors : List (List ℕ)) → HasSize unit size sectors → damage_of limit unit sectors ≡ None → CostsFit limit unit size (entries unit sectors) (length sectors)
undamaged-costs limit unit size sectors has none =
    overfull-none limit unit size sectors has (map-none overfull_at (first_overfull limit unit sectors) (or-none (first_damage (states unit sectors)) (option_map overfull_at (first_overfull limit unit sectors)) none).1)

pub undamaged-by : (limit unit size : ℕ) (sectors : List (List ℕ)) → HasSize unit size sectors → (list : List Entry) → HasEntries unit sectors list → CostsFit limit unit size list (length sectors) → damage_of limit unit sectors ≡ None
undamaged-by limit unit size sectors has list entries-are fit =
    ap (λ (o : Option Damaged). option_or o (option_map overfull_at (first_overfull limit unit sectors))) entries-are.undamaged
    ∙ ap (option_map overfull_at) (none-overfull limit unit size sectors has (subst (λ (l : List Entry). CostsFit limit unit size l (length sectors)) (sym entries-are.are) fit))

-- and else that of the costs
pub damage-costs : (limit unit : ℕ) (sectors : List (List ℕ)) → first_damage (states unit sectors) ≡ None → damage_of limit unit sectors ≡ option_map overfull_at (first_overfull limit unit sectors)
damage-costs limit unit sectors none = ap (λ (o : Option Damaged). option_or o (option_map overfull_at (first_overfull limit unit sectors))) none

-- ---- on a device

pub costs-on : (d : Device) (area : Area) → IsLawful d.banks d.bytes → IsRingArea d.banks area → damage_on d area ≡ None → CostsFit (value_limit area) (unit_of d area) (sector_size d area) (entries_on d area) area.sectors
costs-on d area lawful ring none =
    subst (λ (n : ℕ). CostsFit (value_limit area) (unit_of d area) (sector_size d area) (entries_on d area) n) (count-sectors d area) (undamaged-costs (value_limit area) (unit_of d area) (sector_size d area) (sectors_of d area) (has_size d area lawful ring) none)

-- a call that leaves the banks leaves a list of records whose costs fit: there is no damage then
pub undamaged-after : (old new : Device) (area : Area) → IsLawful new.banks new.bytes → IsRingArea old.banks area → new.banks ≡ old.banks → (list : List Entry) → HasEntries (unit_of new area) (sectors_of new area) list
    → CostsFit (value_limit area) (unit_of old area) (sector_size old area) list area.sectors → damage_on new area ≡ None
undamaged-after old new area lawful ring banks list has fit =
    let unit : unit_of new area ≡ unit_of old area = unit-after old new area area banks refl in
    let size : sector_size new area ≡ sector_size old area = size-after old new area area banks refl in
    let one : CostsFit (value_limit area) (unit_of new area) (sector_size old area) list area.sectors = subst (λ (u : ℕ). CostsFit (value_limit area) u (sector_size old area) list area.sectors) (sym unit) fit in
    let two : CostsFit (value_limit area) (unit_of new area) (sector_size new area) list area.sectors = subst (λ (s : ℕ). CostsFit (value_limit area) (unit_of new area) s list area.sectors) (sym size) one in
    let three : CostsFit (value_limit area) (unit_of new area) (sector_size new area) list (length (sectors_of new area)) = subst (λ (n : ℕ). CostsFit (value_limit area) (unit_of new area) (sector_size new area) list n) (sym (count-sectors new area)) two in
    undamaged-by (value_limit area) (unit_of new area) (sector_size new area) (sectors_of new area) (has_size new area lawful (area_after old new area banks ring)) list has three

-- a call that keeps the records keeps the damage none
pub undamaged-kept : (old new : Device) (area : Area) → IsLawful old.banks old.bytes → IsLawful new.banks new.bytes → IsRingArea old.banks area → new.banks ≡ old.banks → KeepsEntries old new area → damage_on old area ≡ None → damage_on new area ≡ None
undamaged-kept old new area lawful-old lawful-new ring banks kept none = undamaged-after old new area lawful-new ring banks (entries_on old area) kept (costs-on old area lawful-old ring none)

-- ---- the first sector whose values cost too much

abbrev pub is_over : ℕ → ℕ → List (List ℕ) → ℕ → Bool
is_over limit unit sectors place = ltb (cap unit (length (sector_at sectors place))) (puts_cost limit unit (entries unit sectors) place)

-- none of the first so many does
pub PassedOver : ℕ → ℕ → List (List ℕ) → ℕ → Type 0
PassedOver limit unit sectors i = (place : ℕ) → place < i → is_over limit unit sectors place ≡ false

pub over-none : (limit unit : ℕ) (sectors : List (List ℕ)) → PassedOver limit unit sectors 0
unfolding PassedOver
over-none limit unit sectors place lt = absurd (omega arith)

over-is : (limit unit size : ℕ) (sectors : List (List ℕ)) → HasSize unit size sectors → (i most cost : ℕ) → i < length sectors → most ≡ cap unit size → cost ≡ puts_cost limit unit (entries unit sectors) i → ltb most cost ≡ is_over limit unit sectors i
over-is limit unit size sectors has i most cost lt most-is cost-is =
    ap (λ (n : ℕ). ltb n cost) (most-is ∙ ap (cap unit) (sym (has.each i lt))) ∙ ap (ltb (cap unit (length (sector_at sectors i)))) cost-is

pub over-more : (limit unit size : ℕ) (sectors : List (List ℕ)) → HasSize unit size sectors → (i most cost : ℕ) → i < length sectors → most ≡ cap unit size → cost ≡ puts_cost limit unit (entries unit sectors) i → cost ≤ most → PassedOver limit unit sectors i → PassedOver limit unit sectors (i + 1)
unfolding PassedOver
over-more limit unit size sectors has i most cost lt most-is cost-is le so_far place below = elim (cases_lt place i) [
  | inl before ↦ so_far place before
  | inr here ↦
      let at : i ≡ place = omega arith in
      subst (λ (k : ℕ). is_over limit unit sectors k ≡ false) at (sym (over-is limit unit size sectors has i most cost lt most-is cost-is) ∙ le-ltb most cost le)
]

pub over-found : (limit unit size : ℕ) (sectors : List (List ℕ)) → HasSize unit size sectors → (i most cost : ℕ) → i < length sectors → most ≡ cap unit size → cost ≡ puts_cost limit unit (entries unit sectors) i → most < cost → PassedOver limit unit sectors i → first_overfull limit unit sectors ≡ Some i
unfolding PassedOver first_overfull
over-found limit unit size sectors has i most cost lt most-is cost-is more so_far =
    find_first (is_over limit unit sectors) 0 (length sectors) i (omega arith) (omega arith) (sym (over-is limit unit size sectors has i most cost lt most-is cost-is) ∙ lt-ltb most cost more) (λ k from below. so_far k below)

pub over-end : (limit unit : ℕ) (sectors : List (List ℕ)) (i : ℕ) → length sectors ≤ i → PassedOver limit unit sectors i → first_overfull limit unit sectors ≡ None
unfolding PassedOver first_overfull
over-end limit unit sectors i all so_far = find_nothing (is_over limit unit sectors) 0 (length sectors) (λ place from below. so_far place (omega arith))

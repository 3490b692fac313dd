-- The rows of the table of units, from how the calls end.
use Rattle.std.proofs.Common.{◌≡◌, ℕ, ◌+◌, ◌-◌, ◌*◌, ◌/◌, ◌≤◌, Bool, true, false, not, ◌||◌, cond, List, length, Result, Ok, Err, refl, sym, ap, subst, ◌∙◌, inl, inr, arith}
use Rattle.std.proofs.Math.Nat.{zero-mod}
use Rattle.std.proofs.lemmas.Bool.{false≢true, cases_Bool, cases_eq, eq-eqb, ne_eqb, ltb-false, not_from_true, not_from_false}
use Rattle.flash_sim.specs.Bank.{IsLawful}
use Rattle.flash_sim.specs.Device.{Device, counted}
use Rattle.flash_sim.specs.declared.flash.PowerLost.{PowerLost as Lost}
use Rattle.flash_map.specs.declared.area.Area.{Area}
use Rattle.flash_map.specs.declared.area.Role.TheVariants.{Nvs as NvsRole}
use Rattle.flash_map.specs.declared.faults.MountFault.{MountFault}
use Rattle.flash_map.specs.declared.faults.MountFault.TheVariants.{Damaged as HasDamage, PowerLost as MountLost, NoMemory}
use Rattle.flash_map.specs.declared.faults.WriteFault.{WriteFault}
use Rattle.flash_map.specs.declared.faults.WriteFault.TheVariants.{NoSpace, TooLong, PowerLost}
use Rattle.flash_map.specs.Area.{unit_of, sector_at, sectors_of}
use Rattle.flash_map.specs.Spending.{Spends, SpendsAtMost, SpendsBetween}
use Rattle.flash_map.specs.Units.{IsUnit, padded}
use Rattle.flash_map.proofs.Rounding.{padding}
use Rattle.flash_map.proofs.SpendingLemmas.{spends_none}
use Rattle.item_laws.specs.Area.{next, is_blank_at, is_closed_at}
use Rattle.item_laws.specs.Forms.{distance, AtRest, to_copy}
use Rattle.item_laws.specs.PairRounds.{copies_cost}
use Rattle.item_laws.proofs.Collects.{next_blank}
use Rattle.item_laws.proofs.Places.{after-within}
use Rattle.item_store.specs.declared.entry.Redo.TheVariants.{Nothing, ClearNext, CollectAgain}
use Rattle.item_store.specs.Collecting.{redo_of, redo_units}
use Rattle.item_store.specs.SectorFormat.{Range}
use Rattle.item_store.specs.Spending.{has_victim, round_units as round_range}
use Rattle.item_store.specs.Standing.{SpendsIn, SpendsUpTo}
use Rattle.item_store.proofs.ReadFacts.{rest_on}
use Rattle.nvs_store.specs.declared.scan.Redo.TheVariants.{Nothing as RestsNow, EraseNext, CollectAgain as CollectsNow}
use Rattle.nvs_store.specs.Geometry.{slot_size, cost}
use Rattle.nvs_store.specs.Scans.{reading}
use Rattle.nvs_store.specs.On.{entry_units, open_on, redo_on, slot_units}
use Rattle.nvs_store.proofs.Blank.{reads-blank}
use Rattle.nvs_store.proofs.Views.{unit_is}
use Rattle.nvs_format.specs.Formats.{just, format_in, format_of}
use Rattle.nvs_format.proofs.FormatLemmas.{nvs_is_format}
use Rattle.nvs_format.proofs.UnitRows.{again-exact, round-exact}
use Rattle.nvs_gc.specs.declared.nvs.Nvs.{Nvs}
use Rattle.nvs_gc.specs.Ends.{MountEnds, RoundEnds, WriteEnds, DeleteEnds, sector_units}
use Rattle.nvs_gc.specs.Standing.{IsNvsArea, StandsOn, kept}
use Rattle.nvs_gc.specs.UnitTable.{copied_cost, round_units, RoundRow, mount_units, MountRow, WriteRow, DeleteRow}

-- ---- exactly so many, or at most

exactly_so : (old new : Device) (least most units : ℕ) → SpendsBetween old new least most → least ≡ units → most ≡ units → Spends old new units
exactly_so old new least most units spent low high =
    let at_least = spent.at_least in
    let at_most = spent.at_most in
    let same : spent.units ≡ units = omega (arith, at_least, at_most, low, high) in
    spent.spent ∙ ap (counted old.spent) same

at_most_so : (old new : Device) (most units : ℕ) → SpendsBetween old new 0 most → most ≤ units → SpendsAtMost old new units
at_most_so old new most units spent le =
    let at_most = spent.at_most in
    (spent.units, omega (arith, at_most, le), spent.spent)

idle : (old new : Device) → new ≡ old → Spends old new 0
idle old new same = subst (λ (e : Device). Spends old e 0) (sym same) (spends_none old)

idle_most : (old new : Device) (units : ℕ) → new ≡ old → SpendsAtMost old new units
idle_most old new units same = (0, omega arith, idle old new same)

-- ---- a round

-- where the open sector is not blank, and the next one is
choice : (used after victim blank : Bool) (all alone : ℕ) → used ≡ false → after ≡ true → victim ≡ not blank → cond victim (all + 1 + cond after 0 1) alone ≡ cond used 0 (cond blank alone (all + 1))
choice used after victim blank all alone u a v =
    ap (λ (t : Bool). cond victim (all + 1 + cond t 0 1) alone) a
    ∙ ap (λ (t : Bool). cond t (all + 1 + 0) alone) v
    ∙ turned blank
    ∙ sym (ap (λ (t : Bool). cond t 0 (cond blank alone (all + 1))) u)
  where
    turned : (b : Bool) → cond (not b) (all + 1 + 0) alone ≡ cond b alone (all + 1)
    turned true = refl
    turned false = omega arith

module _ (old : Device) (nvs : Nvs) (lawful : IsLawful old.banks old.bytes) (on : StandsOn old nvs) where
  abbrev unit : ℕ
  unit = unit_of old nvs.store.area

  abbrev sectors : List (List ℕ)
  sectors = sectors_of old nvs.store.area

  abbrev place : ℕ
  place = nvs.store.current

  is-unit : IsUnit (unit_of old nvs.store.area)
  is-unit = unit_is old nvs.store.area lawful on.area.lawful.in_bank

  rests : AtRest (reading (unit_of old nvs.store.area)) (sectors_of old nvs.store.area) nvs.store.current
  rests = rest_on NvsRole format_of kept old nvs.store (nvs_is_format (unit_of old nvs.store.area) is-unit) lawful on

  closed-used : (b : List ℕ) → (reading (unit_of old nvs.store.area)).is_closed b ≡ true → (reading (unit_of old nvs.store.area)).is_blank b ≡ false
  closed-used b shut =
      elim (cases_Bool ((reading (unit_of old nvs.store.area)).is_blank b)) [
        | inl blank ↦ absurd (false≢true (sym ((reads-blank (unit_of old nvs.store.area)).closed b blank) ∙ shut))
        | inr used ↦ used
      ]

  -- a round has a victim where that is not blank
  victim_used : is_blank_at (reading (unit_of old nvs.store.area)) (sectors_of old nvs.store.area) nvs.store.current ≡ false
      → has_victim (format_in (unit_of old nvs.store.area)) (sectors_of old nvs.store.area) nvs.store.current
      ≡ not (is_blank_at (reading (unit_of old nvs.store.area)) (sectors_of old nvs.store.area) (next (sectors_of old nvs.store.area) (next (sectors_of old nvs.store.area) nvs.store.current)))
  victim_used used =
      let R = reading (unit_of old nvs.store.area) in
      let ring = rests.ring in
      let inside = after-within (length sectors) (next sectors place) (after-within (length sectors) place ring.within) in
      elim (cases_eq (next sectors (next sectors place)) place) [
        | inl e ↦
            ap (λ (t : Bool). t || is_closed_at R sectors (next sectors (next sectors place))) (eq-eqb (next sectors (next sectors place)) place e)
            ∙ sym (not_from_false (is_blank_at R sectors (next sectors (next sectors place))) (ap (is_blank_at R sectors) e ∙ used))
        | inr apart ↦
            ap (λ (t : Bool). t || is_closed_at R sectors (next sectors (next sectors place))) (ne_eqb (next sectors (next sectors place)) place apart)
            ∙ elim (cases_Bool (is_closed_at R sectors (next sectors (next sectors place)))) [
              | inl shut ↦ shut ∙ sym (not_from_false (is_blank_at R sectors (next sectors (next sectors place))) (closed-used (sector_at sectors (next sectors (next sectors place))) shut))
              | inr free ↦
                  let near = ltb-false rests.blanks (distance (length sectors) place (next sectors (next sectors place))) (sym (ring.closed (next sectors (next sectors place)) inside) ∙ free) in
                  free ∙ sym (not_from_true (is_blank_at R sectors (next sectors (next sectors place))) (ring.blank (next sectors (next sectors place)) inside apart near))
            ]
      ]

  round_is : is_blank_at (reading (unit_of old nvs.store.area)) (sectors_of old nvs.store.area) nvs.store.current ≡ false
      → round_range (format_in (unit_of old nvs.store.area)) (sectors_of old nvs.store.area) nvs.store.current ≡ just (round_units old nvs.store.area nvs.store.current)
  round_is used =
      let R = reading (unit_of old nvs.store.area) in
      round-exact unit is-unit sectors place
      ∙ ap just
      (choice (is_blank_at R sectors place) (is_blank_at R sectors (next sectors place)) (has_victim (format_in unit) sectors place) (is_blank_at R sectors (next sectors (next sectors place)))
      ((2 * slot_size unit + copies_cost (cost unit) (to_copy R sectors (next sectors place))) / unit) (slot_size unit / unit)
      used (next_blank R sectors place rests) (victim_used used))

  pub round-row : {T : Type 0} (new : Device) (result : Result T Lost) → RoundEnds old new nvs.store.area nvs.store.current result → RoundRow old new nvs.store.area nvs.store.current result
  round-row new (Ok x) (inl clean) =
      let none : round_units old nvs.store.area nvs.store.current ≡ 0 = ap (λ (t : Bool). cond t 0 (cond (is_blank_at (reading unit) sectors (next sectors (next sectors place))) (slot_size unit / unit) ((2 * slot_size unit + copied_cost old nvs.store.area (next sectors place)) / unit + 1))) clean.clean in
      record { whole = subst (λ (n : ℕ). Spends old new n) (sym none) (idle old new clean.same); cut = tt }
  round-row new (Ok x) (inr does_pass) =
      let spent : SpendsIn old new (just (round_units old nvs.store.area nvs.store.current)) = subst (λ (r : Range). SpendsIn old new r) (round_is does_pass.used) does_pass.units in
      record { whole = exactly_so old new (round_units old nvs.store.area place) (round_units old nvs.store.area place) (round_units old nvs.store.area place) spent refl refl; cut = tt }
  round-row new (Err e) stops =
      let spent : SpendsUpTo old new (just (round_units old nvs.store.area nvs.store.current)) = subst (λ (r : Range). SpendsUpTo old new r) (round_is stops.used) stops.bound in
      record { whole = tt; cut = at_most_so old new (round_units old nvs.store.area place) (round_units old nvs.store.area place) spent (omega arith) }

-- ---- a mount

module _ (old : Device) (area : Area) (lawful : IsLawful old.banks old.bytes) (is : IsNvsArea old.banks area) where
  by_redo : (closed done : Bool) → redo_units (format_in (unit_of old area)) (sectors_of old area) (open_on old area) (cond closed (cond done ClearNext CollectAgain) Nothing)
      ≡ just (mount_units old area (cond closed (cond done EraseNext CollectsNow) RestsNow))
  by_redo false done = refl
  by_redo true true = refl
  by_redo true false = again-exact (unit_of old area) (unit_is old area lawful is.lawful.in_bank) (sectors_of old area) (open_on old area)

  mount_is : redo_units (format_in (unit_of old area)) (sectors_of old area) (open_on old area) (redo_of (format_in (unit_of old area)) (sectors_of old area) (open_on old area))
      ≡ just (mount_units old area (redo_on old area (open_on old area)))
  mount_is =
      by_redo (is_closed_at (reading (unit_of old area)) (sectors_of old area) (next (sectors_of old area) (open_on old area)))
      ((reading (unit_of old area)).has_gc_done (sector_at (sectors_of old area) (open_on old area)))

  pub mount-row : (new : Device) (result : Result Nvs MountFault) → MountEnds old new area result → MountRow old new area result
  mount-row new (Ok nvs) ends =
      let n : ℕ = mount_units old area (redo_on old area (open_on old area)) in
      let spent : SpendsIn old new (just (mount_units old area (redo_on old area (open_on old area)))) = subst (λ (r : Range). SpendsIn old new r) mount_is ends.4 in
      record { whole = exactly_so old new n n n spent refl refl; cut = tt }
  mount-row new (Err (HasDamage damaged)) ends = record { whole = tt; cut = idle_most old new (mount_units old area (redo_on old area (open_on old area))) ends.1 }
  mount-row new (Err MountLost) ends =
      let n : ℕ = mount_units old area (redo_on old area (open_on old area)) in
      let spent : SpendsUpTo old new (just (mount_units old area (redo_on old area (open_on old area)))) = subst (λ (r : Range). SpendsUpTo old new r) mount_is ends.2 in
      record { whole = tt; cut = at_most_so old new n n spent (omega arith) }
  mount-row new (Err NoMemory) ends = record { whole = tt; cut = idle_most old new (mount_units old area (redo_on old area (open_on old area))) ends }

-- ---- a write

pub write-row : {T : Type 0} (old new : Device) (area : Area) (id : ℕ) (bytes : List ℕ) (result : Result T WriteFault) → WriteEnds old new area id bytes result → WriteRow old new area id bytes result
write-row old new area id bytes (Ok x) ends =
    let n : ℕ = entry_units old area (length bytes) in
    let most : ℕ = (area.sectors - 1) * (sector_units old area + 1) + entry_units old area (length bytes) in
    record {
      equal = λ holds. record { whole = idle old new (ends.equal holds); cut = tt };
      fitting = λ other fit. record { whole = exactly_so old new (0 + n) (0 + n) n (ends.fitting other fit) (omega arith) (omega arith); cut = tt };
      at_most = at_most_so old new most most ends.at_most (omega arith);
    }
write-row old new area id bytes (Err (NoSpace need live)) ends =
    let most : ℕ = (area.sectors - 1) * (sector_units old area + 1) + entry_units old area (length bytes) in
    record {
      equal = λ holds. absurd (ends.other holds);
      fitting = λ other fit. absurd (false≢true (sym ends.unfit ∙ fit));
      at_most = at_most_so old new most most ends.at_most (omega arith);
    }
write-row old new area id bytes (Err TooLong) ends =
    let most : ℕ = (area.sectors - 1) * (sector_units old area + 1) + entry_units old area (length bytes) in
    record {
      equal = λ holds. record { whole = tt; cut = idle_most old new 0 ends.1 };
      fitting = λ other fit. record { whole = tt; cut = idle_most old new (entry_units old area (length bytes)) ends.1 };
      at_most = idle_most old new most ends.1;
    }
write-row old new area id bytes (Err PowerLost) ends =
    let n : ℕ = entry_units old area (length bytes) in
    let most : ℕ = (area.sectors - 1) * (sector_units old area + 1) + entry_units old area (length bytes) in
    record {
      equal = λ holds. absurd (ends.other holds);
      fitting = λ other fit. record { whole = tt; cut = at_most_so old new n n (ends.fitting fit) (omega arith) };
      at_most = at_most_so old new most most ends.at_most (omega arith);
    }

-- ---- a delete

-- a delete has an entry alone
entry_alone : (unit : ℕ) → IsUnit unit → cost unit 0 / unit ≡ slot_size unit / unit
entry_alone unit is-unit =
    let nothing : padded unit 0 ≡ 0 = (padding unit is-unit).same 0 (zero-mod unit) in
    let alone : cost unit 0 ≡ slot_size unit = omega arith in
    ap (λ (n : ℕ). n / unit) alone

pub delete-row : {T : Type 0} (old new : Device) (area : Area) (id : ℕ) (result : Result T Lost) → IsLawful old.banks old.bytes → IsNvsArea old.banks area → DeleteEnds old new area id result → DeleteRow old new area id result
delete-row old new area id (Ok x) lawful is ends =
    let n : ℕ = entry_units old area 0 in
    let same : entry_units old area 0 ≡ slot_units old area = entry_alone (unit_of old area) (unit_is old area lawful is.lawful.in_bank) in
    let most : ℕ = 1 * (sector_units old area + 1) + entry_units old area 0 in
    record {
      absent = λ none. record { whole = idle old new (ends.absent none); cut = tt };
      fitting = λ some fit. record { whole = exactly_so old new (0 + n) (0 + n) (slot_units old area) (ends.fitting some fit) (omega (arith, same)) (omega (arith, same)); cut = tt };
      at_most = at_most_so old new most (sector_units old area + 1 + slot_units old area) ends.at_most (omega (arith, same));
    }
delete-row old new area id (Err e) lawful is ends =
    let n : ℕ = entry_units old area 0 in
    let same : entry_units old area 0 ≡ slot_units old area = entry_alone (unit_of old area) (unit_is old area lawful is.lawful.in_bank) in
    let most : ℕ = 1 * (sector_units old area + 1) + entry_units old area 0 in
    record {
      absent = λ none. absurd (ends.present none);
      fitting = λ some fit. record { whole = tt; cut = at_most_so old new n (slot_units old area) (ends.fitting fit) (omega (arith, same)) };
      at_most = at_most_so old new most (sector_units old area + 1 + slot_units old area) ends.at_most (omega (arith, same));
    }

-- A call that programs one slot, and the guard.
use Rattle.std.proofs.Common.{◌≡◌, ℕ, ◌+◌, ◌-◌, ◌*◌, ◌/◌, ◌%◌, ◌<◌, ◌≤◌, Bool, true, false, cond, eqb, Result, Ok, Err, OnOk, OnErr, List, length, set, take, replicate, Option, Some, sym, ap, subst, ◌∙◌, inl, inr, arith}
use Rattle.std.specs.Prelude.{slice_range}
use Rattle.std.specs.Option.{option_map_or}
use Rattle.std.proofs.lemmas.Bool.{cond-true, cond-false}
use Rattle.std.proofs.lemmas.List.Edits.{length-between}
use Rattle.flash_sim.specs.Bank.{IsLawful}
use Rattle.flash_sim.specs.Device.{Device, overwritten, Programs, FailsToProgram, units_in}
use Rattle.flash_sim.specs.declared.flash.At.{At}
use Rattle.flash_sim.specs.declared.flash.Kind.{Kind}
use Rattle.flash_sim.specs.declared.flash.Kind.TheVariants.{Erasing, Rewritable}
use Rattle.flash_map.specs.declared.area.Area.{Area}
use Rattle.flash_map.specs.Area.{unit_of, sector_size, sectors_of, sector_bytes, CanProgramIn, Writes, WritesPart, OthersStay}
use Rattle.flash_map.specs.Spending.{SpendsBetween}
use Rattle.flash_map.specs.Units.{is_erased}
use Rattle.flash_map.proofs.AreaCalls.{unwritten}
use Rattle.flash_map.proofs.ErasedBytes.{erased_is}
use Rattle.flash_map.proofs.SpendingBounds.{between_program, between_within}
use Rattle.item_laws.proofs.SlotLemmas.{bytes-slot_at}
use Rattle.zms_cycle.specs.declared.entry.ZEntry.{ZEntry}
use Rattle.zms_cycle.specs.Entries.{decoded, fill}
use Rattle.zms_cycle.specs.Areas.{IsZmsSector, HasSlot, CanPut, kind_on}
use Rattle.zms_cycle.specs.Changes.{with_slot, guarded, guard_units}
use Rattle.zms_cycle.specs.Sector.{slot_of, is_valid_under, is_valid}
use Rattle.zms_cycle.proofs.AreaFacts.{unit_is, size_is, same_kind, sector_set, others_set}
use Rattle.zms_cycle.proofs.Slots16.{valid-is}

-- what holds at both ends of a call
pub both_ends : {T E P : Type 0} (r : Result T E) → OnOk r P → OnErr r P → P
both_ends (Ok x) ok err = ok
both_ends (Err e) ok err = err

module _ (old new : Device) (area : Area) (sector slot start : ℕ) (bytes : List ℕ) (zms : IsZmsSector old area sector) (lawful : IsLawful old.banks old.bytes) (at : start ≡ sector_size old area - (slot + 1) * 16) (inside : HasSlot old area slot) (sixteen : length bytes ≡ 16) where
  erased_unit : is_erased (slot_of (sector_bytes old area sector) slot).bytes ≡ true → slice_range (sector_bytes old area sector) start (start + length bytes) ≡ replicate (length bytes) 255
  erased_unit erased =
      let size = size_is old area sector zms lawful in
      let place : start ≡ length (sector_bytes old area sector) - (slot + 1) * 16 = omega arith in
      let range = bytes-slot_at 16 (sector_bytes old area sector) slot start place in
      let long = length-between (sector_bytes old area sector) start (start + 16) (omega arith) in
      let len : length (slot_of (sector_bytes old area sector) slot).bytes ≡ length bytes = sym (ap length range) ∙ omega arith in
      ap (λ (n : ℕ). slice_range (sector_bytes old area sector) start (start + n)) sixteen ∙ range
      ∙ erased_is (slot_of (sector_bytes old area sector) slot).bytes erased ∙ ap (λ (n : ℕ). replicate n 255) len

  pub can_unit : CanPut old area sector slot → CanProgramIn old area sector start bytes
  can_unit put =
      let unit = unit_is old area sector zms in
      let whole = zms.lawful.whole in
      record {
        has_sector = zms.has_sector;
        some = omega arith;
        at_most = omega arith;
        whole_units = ap (λ (n : ℕ). n % unit_of old area) sixteen ∙ ap (λ (u : ℕ). 16 % u) unit;
        aligned = ap (λ (u : ℕ). start % u) unit ∙ omega arith;
        in_sector = omega arith;
        erased = λ erasing. erased_unit (put erasing);
      }

  pub unit_written : Writes old new area sector start bytes → sector_bytes new area sector ≡ with_slot (sector_bytes old area sector) slot bytes
  unit_written writes =
      let size = size_is old area sector zms lawful in
      let place : start ≡ length (sector_bytes old area sector) - (slot + 1) * 16 = omega arith in
      sector_set old new area sector (overwritten (sector_bytes old area sector) start bytes) zms writes ∙ ap (λ (n : ℕ). overwritten (sector_bytes old area sector) n bytes) place

  pub unit_others : Writes old new area sector start bytes → OthersStay old new area sector
  unit_others writes = others_set old new area sector (overwritten (sector_bytes old area sector) start bytes) zms writes

  none_done : (done : ℕ) → done < length bytes / unit_of old area → done ≡ 0
  none_done done below =
      let one : length bytes / unit_of old area ≡ 1 = ap (λ (n : ℕ). n / unit_of old area) sixteen ∙ ap (λ (u : ℕ). 16 / u) (unit_is old area sector zms) in
      omega arith

  pub unit_lost : WritesPart old new area sector start bytes → sectors_of new area ≡ sectors_of old area
  unit_lost part =
      let none = none_done part.0 part.1 in
      let nothing : 0 * unit_of old area ≡ 0 = omega arith in
      part.2
      ∙ ap (λ (n : ℕ). set (sectors_of old area) sector (overwritten (sector_bytes old area sector) start (take (n * unit_of old area) bytes))) none
      ∙ ap (λ (n : ℕ). set (sectors_of old area) sector (overwritten (sector_bytes old area sector) start (take n bytes))) nothing
      ∙ sym (unwritten old area sector start)

  pub unit_spends : (place : At) → place.bank ≡ area.bank → Programs old new place bytes → SpendsBetween old new 1 1
  unit_spends place here programs =
      let one : units_in old place.bank bytes ≡ 1 = ap (λ (bank : ℕ). units_in old bank bytes) here ∙ ap (λ (n : ℕ). n / unit_of old area) sixteen ∙ ap (λ (u : ℕ). 16 / u) (unit_is old area sector zms) in
      between_within (between_program old new place bytes programs) 1 1 (omega arith) (omega arith)

  pub unit_spends_lost : (place : At) → place.bank ≡ area.bank → FailsToProgram old new place bytes → SpendsBetween old new 0 0
  unit_spends_lost place here fails = elim fails [
    | inl off ↦ record { units = 0; at_least = omega arith; at_most = omega arith; spent = let same : new.spent ≡ old.spent = ap (λ (d : Device). d.spent) off.is in omega arith }
    | inr cuts ↦
        let none = none_done cuts.0 (subst (λ (bank : ℕ). cuts.0 < units_in old bank bytes) here cuts.1) in
        record { units = cuts.0; at_least = omega arith; at_most = omega arith; spent = ap (λ (d : Device). d.spent) cuts.2.is }
  ]

-- The guard.

pub valid_read : (cycle : ℕ) (sector : List ℕ) (slot : ℕ) (bytes : List ℕ) (entry : Option ZEntry) (valid : Bool) → entry ≡ decoded bytes → bytes ≡ (slot_of sector slot).bytes → valid ≡ option_map_or (λ e. eqb e.cycle cycle) entry false → is_valid_under cycle (slot_of sector slot) ≡ valid
valid_read cycle sector slot bytes entry valid read is test = valid-is cycle (slot_of sector slot) entry (sym (read ∙ ap decoded is)) ∙ sym test

module _ (kind : Kind) (cycle slot : ℕ) (b : List ℕ) where
  pub guarded-valid : kind ≡ Rewritable → is_valid_under cycle (slot_of b slot) ≡ true → with_slot b slot fill ≡ guarded kind cycle slot b
  guarded-valid is valid = sym (ap (λ (k : Kind). guarded k cycle slot b) is ∙ cond-true (is_valid_under cycle (slot_of b slot)) (with_slot b slot fill) b valid)

  pub guarded-other : kind ≡ Rewritable → is_valid_under cycle (slot_of b slot) ≡ false → b ≡ guarded kind cycle slot b
  guarded-other is other = sym (ap (λ (k : Kind). guarded k cycle slot b) is ∙ cond-false (is_valid_under cycle (slot_of b slot)) (with_slot b slot fill) b other)

  pub guarded-erasing : kind ≡ Erasing → b ≡ guarded kind cycle slot b
  guarded-erasing is = sym (ap (λ (k : Kind). guarded k cycle slot b) is)

  pub units-valid : kind ≡ Rewritable → is_valid_under cycle (slot_of b slot) ≡ true → guard_units kind (Some cycle) slot b ≡ 1
  units-valid is valid = ap (λ (k : Kind). guard_units k (Some cycle) slot b) is ∙ cond-true (is_valid_under cycle (slot_of b slot)) 1 0 valid

  pub units-other : kind ≡ Rewritable → is_valid_under cycle (slot_of b slot) ≡ false → guard_units kind (Some cycle) slot b ≡ 0
  units-other is other = ap (λ (k : Kind). guard_units k (Some cycle) slot b) is ∙ cond-false (is_valid_under cycle (slot_of b slot)) 1 0 other

  pub units-erasing : kind ≡ Erasing → guard_units kind (Some cycle) slot b ≡ 0
  units-erasing is = ap (λ (k : Kind). guard_units k (Some cycle) slot b) is

pub spends_just : (old new : Device) (m n : ℕ) → m ≡ n → SpendsBetween old new n n → SpendsBetween old new m m
spends_just old new m n is spends = subst (λ (k : ℕ). SpendsBetween old new k k) (sym is) spends

pub zero_or_one : (t : Bool) → cond t 1 0 ≤ 1
zero_or_one true = omega arith
zero_or_one false = omega arith

pub few_units : (kind : Kind) (cycle : Option ℕ) (slot : ℕ) (b : List ℕ) → guard_units kind cycle slot b ≤ 1
few_units Rewritable cycle slot b = zero_or_one (is_valid cycle (slot_of b slot))
few_units Erasing cycle slot b = omega arith

-- a slot can be programmed behind a guard too, which puts nothing on a bank that is erased
pub erased_still : (old new : Device) (area : Area) (sector slot : ℕ) → new.banks ≡ old.banks → (kind_on old area ≡ Erasing → new ≡ old) → CanPut old area sector slot → CanPut new area sector slot
erased_still old new area sector slot banks idle put = λ erasing.
    let kind : kind_on old area ≡ Erasing = sym (same_kind old new area banks) ∙ erasing in
    ap (λ (d : Device). is_erased (slot_of (sector_bytes d area sector) slot).bytes) (idle kind) ∙ put kind

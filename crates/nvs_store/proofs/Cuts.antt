-- What is left of a sector where programming stopped after any number of units.
use Rattle.std.proofs.Common.{◌≡◌, ℕ, ◌+◌, ◌-◌, ◌*◌, ◌<◌, ◌≤◌, List, length, Bool, true, false, cond, eqb, leb, ◌^◌, take, replicate, refl, sym, ap, subst, ◌∙◌, inl, inr, ◌⊎◌, arith}
use Rattle.nvs_store.specs.declared.entry.Entry.{Entry}
use Rattle.flash_map.specs.Units.{IsUnit, padded}
use Rattle.nvs_store.specs.Geometry.{slot_size, cost}
use Rattle.nvs_store.specs.Entries.{encoded}
use Rattle.flash_sim.specs.Device.{overwritten}
use Rattle.nvs_store.specs.Sector.{data_end, AddsPair, StopsAdding, has_gc_done}
use Rattle.nvs_store.specs.Scans.{sector_scan, fits, free}
use Rattle.flash_map.proofs.Rounding.{padding, by_unit}
use Rattle.nvs_store.proofs.SlotReads.{slot_widths}
use Rattle.nvs_store.proofs.Appends.{put_data, put_entry, put_cut_entry, length-entry_image}
use Rattle.nvs_store.proofs.EntryBytes.{length-encoded}
use Rattle.std.proofs.lemmas.Bool.{cases_lt, eqb-true, leb-true}
use Rattle.std.proofs.Math.Nat.{mul-le-mul_right, zero-mod}
use Rattle.std.proofs.lemmas.List.{take_all, take-append-le}
use Rattle.nvs_store.specs.Images.{data_image, entry_image, with_slot}
use Rattle.nvs_store.proofs.Room.{HasRoom, IsNext}

-- After the data and some units of the entry, the list is as it was or has the pair.
abbrev AnyUnits : ℕ → Type 0
AnyUnits unit = (b : List ℕ) (e : Entry) (bytes : List ℕ) (units : ℕ) → HasRoom unit b (length bytes) → IsNext unit b e bytes → 0 < units
    → StopsAdding unit b (with_slot unit b (data_image unit bytes) (take (units * unit) (entry_image unit e))) e.id bytes

-- what adds the pair is one way to stop
pub adds-stops : (unit : ℕ) (old new : List ℕ) (id : ℕ) (bytes : List ℕ) → AddsPair unit old new id bytes → StopsAdding unit old new id bytes
adds-stops unit old new id bytes adds = let lower = adds.lower in let grown = adds.grown in record { list = inr adds; lower = omega arith; grown = omega arith }

-- a stop in the data, or before the entry
pub data-stops : (unit : ℕ) (b : List ℕ) (id : ℕ) (bytes p : List ℕ) → HasRoom unit b (length bytes) → length p ≤ padded unit (length bytes) → StopsAdding unit b (overwritten b (data_end unit b) p) id bytes
data-stops unit b id bytes p h short = let cut = put_data unit b (length bytes) p h short in record { list = inl cut.0; lower = cut.0.lower; grown = cut.2 }

whole : (unit : ℕ) (b : List ℕ) (e : Entry) (bytes : List ℕ) (units : ℕ) → HasRoom unit b (length bytes) → IsNext unit b e bytes → slot_size unit ≤ units * unit
    → StopsAdding unit b (with_slot unit b (data_image unit bytes) (take (units * unit) (entry_image unit e))) e.id bytes
whole unit b e bytes units h next all =
    let long = length-entry_image unit e h.is_unit in
    adds-stops unit b (with_slot unit b (data_image unit bytes) (take (units * unit) (entry_image unit e))) e.id bytes (subst (λ (upper : List ℕ). AddsPair unit b (with_slot unit b (data_image unit bytes) upper) e.id bytes) (sym (take_all (units * unit) (entry_image unit e) (omega arith))) (put_entry unit b e bytes h next))

pub sizes : (slot_size 4 ≡ 8) × (slot_size 8 ≡ 8) × (slot_size 16 ≡ 16)
unfolding slot_size padded
sizes = (refl, refl, refl)

half : (b : List ℕ) (e : Entry) (bytes : List ℕ) (units : ℕ) → HasRoom 4 b (length bytes) → IsNext 4 b e bytes → units ≡ 1
    → StopsAdding 4 b (with_slot 4 b (data_image 4 bytes) (take (units * 4) (entry_image 4 e))) e.id bytes
half b e bytes units h next one =
    let eight = length-encoded e in
    let prefix : take (units * 4) (entry_image 4 e) ≡ take 4 (encoded e) =
    ap (λ (n : ℕ). take (n * 4) (entry_image 4 e)) one ∙ take-append-le 4 (encoded e) (replicate (slot_size 4 - 8) 0xFF) (omega arith) in
    let cut = put_cut_entry b e bytes h next in
    subst (λ (upper : List ℕ). StopsAdding 4 b (with_slot 4 b (data_image 4 bytes) upper) e.id bytes) (sym prefix) (record { list = inl cut.0; lower = cut.0.lower; grown = cut.1 })

pub put_units : (unit : ℕ) → IsUnit unit → AnyUnits unit
put_units =
    by_unit AnyUnits
    (λ b e bytes units h next positive. elim (cases_lt units 2) [
      | inl lt ↦ half b e bytes units h next (omega arith)
      | inr ge ↦ whole 4 b e bytes units h next (omega (arith, sizes.0))
    ])
    (λ b e bytes units h next positive. whole 8 b e bytes units h next (omega (arith, sizes.1)))
    (λ b e bytes units h next positive. whole 16 b e bytes units h next (omega (arith, sizes.2)))

chosen : {X : Type 0} (t : Bool) (x y z : X) → cond t x y ≡ z → ((t ≡ true) × (x ≡ z)) ⊎ ((t ≡ false) × (y ≡ z))
chosen true x y z is = inl (refl, is)
chosen false x y z is = inr (refl, is)

at_least_two : (t : Bool) → 2 ≤ cond t 2 3
at_least_two true = omega arith
at_least_two false = omega arith

-- what fits has room
pub HasRoom-from_fits : (unit place : ℕ) (b : List ℕ) (len : ℕ) → IsUnit unit → length b ≤ 2 ^ 15 → fits unit (sector_scan unit place b) len ≡ true → HasRoom unit b len
HasRoom-from_fits unit place b len is-unit short fitting =
    let pad = padding unit is-unit in
    let widths = slot_widths unit is-unit in
    let reserve : 2 * slot_size unit ≤ cond (has_gc_done unit b) 2 3 * slot_size unit = mul-le-mul_right (slot_size unit) (at_least_two (has_gc_done unit b)) in
    record {
      is_unit = is-unit;
      short = short;
      room = elim (chosen (eqb len 0) (leb (2 * slot_size unit) (free (sector_scan unit place b))) (leb (cost unit len + cond (has_gc_done unit b) 2 3 * slot_size unit) (free (sector_scan unit place b))) true fitting) [
        | inl (zero_len, fit) ↦
            let no_len : len ≡ 0 = eqb-true len 0 zero_len in
            let none : padded unit len ≤ 0 = pad.least len 0 (omega arith) (zero-mod unit) in
            let room = leb-true _ _ fit in
            omega arith
        | inr (some_len, fit) ↦ let room = leb-true _ _ fit in omega arith
      ];
    }

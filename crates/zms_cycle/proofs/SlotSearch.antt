-- What a slot says before its CRC is looked at: of which cycle and id its entry is, if it has one.
use Rattle.std.proofs.Common.{◌≡◌, ℕ, ◌+◌, ◌-◌, ◌*◌, ◌/◌, ◌<◌, ◌≤◌, Bool, true, false, ◌&&◌, ◌⊎◌, cond, eqb, List, length, take, drop, Option, Some, None, refl, sym, ap, subst, ◌∙◌, inl, inr, arith}
use Rattle.std.specs.Prelude.{slice_index}
use Rattle.std.proofs.lemmas.Bool.{cases_lt, false≢true, cond-true, cond-false, eq-eqb, ne_eqb}
use Rattle.std.proofs.lemmas.List.FromFn.{get_or-map-range_with_len}
use Rattle.std.proofs.lemmas.List.{length-drop, take_all}
use Rattle.std.proofs.lemmas.List.Sums.{prefix_len_passes}
use Rattle.item_laws.specs.Slots.{Slot, slot_at, slots, used_slots}
use Rattle.item_laws.proofs.SlotCounts.{used_count_is, used_count_fits}
use Rattle.item_laws.proofs.SlotLemmas.{length-used_slots, HasFence-from_low}
use Rattle.crc8_entry.specs.Crc.{crc}
use Rattle.zms_cycle.specs.declared.entry.ZEntry.{ZEntry}
use Rattle.zms_cycle.specs.declared.reading.SlotEntry.{SlotEntry}
use Rattle.zms_cycle.specs.Entries.{entry_of, decoded, is_special, is_empty, is_close}
use Rattle.zms_cycle.specs.Sector.{slot_of, is_valid_under, is_valid, cycle_of, valid_slots, holds_close, entry_in}
use Rattle.zms_cycle.specs.Searches.{names}
use Rattle.zms_cycle.proofs.Slots16.{valid-is, close-is, cycle_of-is, entry_in-is, not_valid}

-- ---- what decodes has the fields that its bytes name

some_cases : {A : Type 0} (b : Bool) (x : A) → (cond b (Some x) None ≡ None) ⊎ (cond b (Some x) None ≡ Some x)
some_cases true x = inr refl
some_cases false x = inl refl

pub decoded_cases : (bytes : List ℕ) → (decoded bytes ≡ None) ⊎ (decoded bytes ≡ Some (entry_of bytes))
unfolding decoded
decoded_cases bytes = some_cases (eqb (crc 255 (drop 1 bytes)) (slice_index bytes 0)) (entry_of bytes)

-- a slot that names another cycle is not valid
pub other_cycle : (cycle : ℕ) (slot : Slot) → ((entry_of slot.bytes).cycle ≡ cycle → ⊥) → is_valid (Some cycle) slot ≡ false
other_cycle cycle slot other =
    elim (decoded_cases slot.bytes) [
      | inl none ↦ valid-is cycle slot None none
      | inr some ↦ valid-is cycle slot (Some (entry_of slot.bytes)) some ∙ ne_eqb (entry_of slot.bytes).cycle cycle other
    ]

abbrev found_in : Bool → ℕ → ZEntry → Option SlotEntry
found_in special k e = cond special None (Some (record { slot = k; entry = e }))

found_cases : (special : Bool) (k : ℕ) (e : ZEntry) → (found_in special k e ≡ None) ⊎ ((f : SlotEntry) × (found_in special k e ≡ Some f) × (f.entry ≡ e))
found_cases true k e = inl refl
found_cases false k e = inr (record { slot = k; entry = e }, refl, refl)

-- an entry that is read has the fields that its slot names
pub entry_in-cases : (slot : Slot) → (entry_in slot ≡ None) ⊎ ((f : SlotEntry) × (entry_in slot ≡ Some f) × (f.entry ≡ entry_of slot.bytes))
entry_in-cases slot =
    elim (decoded_cases slot.bytes) [
      | inl none ↦ inl (entry_in-is slot None none)
      | inr some ↦
          let read = entry_in-is slot (Some (entry_of slot.bytes)) some in
          elim (found_cases (is_special (entry_of slot.bytes)) slot.index (entry_of slot.bytes)) [
            | inl none ↦ inl (read ∙ none)
            | inr (f, is, same) ↦ inr (f, read ∙ is, same)
          ]
    ]

-- ---- how many slots are used

-- the used slots pass the test
pub used_passes : (is_used : Slot → Bool) (first size : ℕ) (b : List ℕ) (k : ℕ) → first ≤ k → k < length (used_slots is_used first size b) + first → is_used (slot_at size b k) ≡ true
used_passes is_used first size b k from below =
    let fits = used_count_fits is_used first size b in
    let d : Slot = slot_at size b 0 in
    let count = length-used_slots is_used first size b in
    ap is_used (sym (get_or-map-range_with_len (slot_at size b) first (length b / size - first) (k - first) k d (omega arith) (omega arith)))
    ∙ prefix_len_passes is_used (slots first size b) (k - first) d (omega arith)

-- where a slot is not valid, those that are end before it
pub valid_before : (cycle : ℕ) (b : List ℕ) (k : ℕ) → 2 ≤ k → is_valid (Some cycle) (slot_of b k) ≡ false → length (used_slots (is_valid (Some cycle)) 2 16 b) + 2 ≤ k
valid_before cycle b k from invalid =
    elim (cases_lt k (length (used_slots (is_valid (Some cycle)) 2 16 b) + 2)) [
      | inl lt ↦ absurd (false≢true (sym invalid ∙ used_passes (is_valid (Some cycle)) 2 16 b k from lt))
      | inr ge ↦ ge
    ]

-- where so many slots are valid, no fewer are used
pub valid_after : (cycle : ℕ) (b : List ℕ) (n : ℕ) → (n + 2) * 16 ≤ length b → ((k : ℕ) → 2 ≤ k → k < n + 2 → is_valid (Some cycle) (slot_of b k) ≡ true) → n ≤ length (used_slots (is_valid (Some cycle)) 2 16 b)
valid_after cycle b n room passed =
    elim (cases_lt (length (used_slots (is_valid (Some cycle)) 2 16 b)) n) [
      | inl lt ↦
          let stop = (HasFence-from_low (is_valid (Some cycle)) 2 16 b (omega arith) (omega arith)).fence in
          absurd (false≢true (sym stop ∙ passed (length (used_slots (is_valid (Some cycle)) 2 16 b) + 2) (omega arith) (omega arith)))
      | inr ge ↦ ge
    ]

-- a blank sector has no valid slots
pub none_listed : (b : List ℕ) → cycle_of b ≡ None → 0 ≡ length (valid_slots b)
none_listed b blank =
    used_count_is (is_valid (cycle_of b)) 2 16 b 0 (omega arith) (λ k from lt. absurd (omega arith))
    (λ lt. ap (λ (o : Option ℕ). is_valid o (slot_of b 2)) blank)

-- ---- a search that goes over the slots once

-- with one slot more, the slots behind the last that names an id of the range name others
pub reach_step : (least most : ℕ) (b : List ℕ) (slot reach new : ℕ) (named : Bool) → 2 ≤ slot → named ≡ names least most (slot_of b slot) → new ≡ cond named (slot - 1) reach → reach + 2 ≤ slot → ((k : ℕ) → reach + 2 ≤ k → k < slot → names least most (slot_of b k) ≡ false)
    → (new + 2 ≤ slot + 1) × ((k : ℕ) → new + 2 ≤ k → k < slot + 1 → names least most (slot_of b k) ≡ false)
reach_step least most b slot reach new true from is at low before =
    let here : new ≡ slot - 1 = at in
    (omega arith, λ k over lt. absurd (omega arith))
reach_step least most b slot reach new false from is at low before =
    let same : new ≡ reach = at in (
      omega arith,
      λ k over lt. elim (cases_lt k slot) [
        | inl below ↦ before k (omega arith) below
        | inr ge ↦ let e : slot ≡ k = omega arith in subst (λ (j : ℕ). names least most (slot_of b j) ≡ false) e (sym is)
      ],
    )

-- a slot of the list checks
pub listed_decodes : (b : List ℕ) (k : ℕ) → 2 ≤ k → k < length (valid_slots b) + 2 → decoded (slot_of b k).bytes ≡ Some (entry_of (slot_of b k).bytes)
listed_decodes b k from below =
    let valid : is_valid (cycle_of b) (slot_of b k) ≡ true = used_passes (is_valid (cycle_of b)) 2 16 b k from below in
    elim (decoded_cases (slot_of b k).bytes) [
      | inl none ↦ absurd (false≢true (sym (not_valid (cycle_of b) (slot_of b k) none) ∙ valid))
      | inr some ↦ some
    ]

-- and it stands in the sector
pub listed_inside : (b : List ℕ) (k : ℕ) → 2 ≤ k → k < length (valid_slots b) + 2 → (k + 1) * 16 ≤ length b
listed_inside b k from below =
    let fits = used_count_fits (is_valid (cycle_of b)) 2 16 b in
    omega arith

-- a slot that names the cycle is valid if its CRC matches
pub valid_checked : (cycle : ℕ) (slot : Slot) (t : Bool) → (entry_of slot.bytes).cycle ≡ cycle → (t ≡ true → crc 255 (drop 1 slot.bytes) ≡ slice_index slot.bytes 0) → (crc 255 (drop 1 slot.bytes) ≡ slice_index slot.bytes 0 → t ≡ true) → t ≡ is_valid_under cycle slot
unfolding decoded
valid_checked cycle slot true own checks back =
    let read : decoded slot.bytes ≡ Some (entry_of slot.bytes) = cond-true (eqb (crc 255 (drop 1 slot.bytes)) (slice_index slot.bytes 0)) (Some (entry_of slot.bytes)) None (eq-eqb (crc 255 (drop 1 slot.bytes)) (slice_index slot.bytes 0) (checks refl)) in
    sym (valid-is cycle slot (Some (entry_of slot.bytes)) read ∙ eq-eqb (entry_of slot.bytes).cycle cycle own)
valid_checked cycle slot false own checks back =
    let read : decoded slot.bytes ≡ None = cond-false (eqb (crc 255 (drop 1 slot.bytes)) (slice_index slot.bytes 0)) (Some (entry_of slot.bytes)) None (ne_eqb (crc 255 (drop 1 slot.bytes)) (slice_index slot.bytes 0) (λ e. false≢true (back e))) in
    sym (valid-is cycle slot None read)

-- sixteen bytes are an entry if their CRC matches
pub checked : (bytes : List ℕ) (t : Bool) → (t ≡ true → crc 255 (drop 1 bytes) ≡ slice_index bytes 0) → (crc 255 (drop 1 bytes) ≡ slice_index bytes 0 → t ≡ true) → decoded bytes ≡ cond t (Some (entry_of bytes)) None
unfolding decoded
checked bytes true checks back = cond-true (eqb (crc 255 (drop 1 bytes)) (slice_index bytes 0)) (Some (entry_of bytes)) None (eq-eqb (crc 255 (drop 1 bytes)) (slice_index bytes 0) (checks refl))
checked bytes false checks back = cond-false (eqb (crc 255 (drop 1 bytes)) (slice_index bytes 0)) (Some (entry_of bytes)) None (ne_eqb (crc 255 (drop 1 bytes)) (slice_index bytes 0) (λ e. false≢true (back e)))

-- a sector whose slot 0 has other fields than an empty entry is blank
pub cycle_none : (b : List ℕ) → is_empty (entry_of (slot_of b 0).bytes) ≡ false → cycle_of b ≡ None
cycle_none b other =
    let e : ZEntry = entry_of (slot_of b 0).bytes in
    elim (decoded_cases (slot_of b 0).bytes) [
      | inl none ↦ cycle_of-is b None none
      | inr some ↦ cycle_of-is b (Some e) some ∙ cond-false (is_empty e) (Some e.cycle) None other
    ]

-- one with those of an empty entry has its cycle if the CRC matches
pub cycle_read : (b : List ℕ) (t : Bool) → is_empty (entry_of (slot_of b 0).bytes) ≡ true → decoded (slot_of b 0).bytes ≡ cond t (Some (entry_of (slot_of b 0).bytes)) None → cycle_of b ≡ cond t (Some (entry_of (slot_of b 0).bytes).cycle) None
cycle_read b true empty is =
    let e : ZEntry = entry_of (slot_of b 0).bytes in
    cycle_of-is b (Some e) is ∙ cond-true (is_empty e) (Some e.cycle) None empty
cycle_read b false empty is = cycle_of-is b None is

and_last : (p q : Bool) → q ≡ false → false ≡ (p && q)
and_last true q is = sym is
and_last false q is = refl

-- a slot with other fields than a close entry holds none
pub close_none : (slot : Slot) (p : Bool) → is_close (entry_of slot.bytes) ≡ false → false ≡ (p && holds_close slot)
close_none slot p other =
    elim (decoded_cases slot.bytes) [
      | inl none ↦ and_last p (holds_close slot) (close-is slot None none)
      | inr some ↦ and_last p (holds_close slot) (close-is slot (Some (entry_of slot.bytes)) some ∙ other)
    ]

-- one with those of a close entry holds it if it is valid
pub close_read : (cycle : ℕ) (slot : Slot) → is_close (entry_of slot.bytes) ≡ true → is_valid_under cycle slot ≡ (is_valid_under cycle slot && holds_close slot)
close_read cycle slot close =
    elim (decoded_cases slot.bytes) [
      | inl none ↦
          let not : is_valid_under cycle slot ≡ false = valid-is cycle slot None none in
          not ∙ sym (ap (λ (p : Bool). p && holds_close slot) not)
      | inr some ↦ and_true (is_valid_under cycle slot) (holds_close slot) (close-is slot (Some (entry_of slot.bytes)) some ∙ close)
    ]
  where
    and_true : (p q : Bool) → q ≡ true → p ≡ (p && q)
    and_true true q is = sym is
    and_true false q is = refl

-- all but the first, as a range
pub take_drop_all : (xs : List ℕ) → take (length xs - 1) (drop 1 xs) ≡ drop 1 xs
take_drop_all xs = take_all (length xs - 1) (drop 1 xs) (let left = length-drop 1 xs in omega arith)

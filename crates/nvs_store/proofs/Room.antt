-- Where the data ends, and the room that a step asks for.
use Rattle.std.proofs.Common.{◌≡◌, ℕ, ◌+◌, ◌-◌, ◌%◌, ◌*◌, ◌^◌, ◌<◌, ◌≤◌, max, Bool, true, false, cond, eqb, List, [], ◌∷◌, ◌++◌, length, map, get_or, Some, None, sym, ap, subst, ◌∙◌, inl, inr, ◌⊎◌, arith}
use Rattle.std.specs.Prelude.{fold, sum_by}
use Rattle.std.specs.List.{filter_map}
use Rattle.std.proofs.Math.Nat.{zero-mod}
use Rattle.std.proofs.lemmas.Bool.{cases_lt, cases_Bool, eqb-true, eq-eqb, and_parts, false≢true}
use Rattle.std.proofs.lemmas.List.{map_push}
use Rattle.std.proofs.lemmas.List.Sums.{fold_push, sum_by_push, list_all-from_AllPass, AllPass-from_list_all}
use Rattle.std.proofs.lemmas.List.Elements.{All-from_get_or}
use Rattle.nvs_store.specs.declared.entry.Entry.{Entry}
use Rattle.nvs_store.specs.declared.scan.SlotEntry.{SlotEntry}
use Rattle.flash_map.specs.Units.{IsUnit, padded, is_erased}
use Rattle.nvs_store.specs.Geometry.{slot_size}
use Rattle.nvs_store.specs.Entries.{entry_of}
use Rattle.item_laws.specs.Slots.{Slot}
use Rattle.flash_map.specs.Units.{written_end}
use Rattle.nvs_store.specs.Sector.{counts, counting_entry, entries, used_slots, entry_end, data_end, low}
use Rattle.flash_map.proofs.Rounding.{IsPadding, padding}
use Rattle.nvs_store.proofs.SlotReads.{slot_widths}
use Rattle.nvs_store.proofs.EntryBytes.{decoded_cases, counting_entry-is}

-- ---- what a step asks for

-- Data of this length has room, and so have its entry and the fence under that.
pub record HasRoom (unit : ℕ) (sector : List ℕ) (len : ℕ) : Type 0 where
  pub is_unit : IsUnit unit
  pub short : length sector ≤ 2 ^ 15
  pub room : data_end unit sector + padded unit len + 2 * slot_size unit ≤ low unit sector

-- an ordinary entry for these bytes, whose data stands at the data end
pub record IsNext (unit : ℕ) (sector : List ℕ) (e : Entry) (bytes : List ℕ) : Type 0 where
  pub ordinary : e.id < 0xFFFF
  pub place : e.offset ≡ data_end unit sector
  pub long : e.len ≡ length bytes

-- ---- the greatest end and the sum

max_keeps : (P : ℕ → Type 0) (a b : ℕ) → P a → P b → P (max a b)
max_keeps P a b p q =
    elim (cases_lt a b) [
      | inl lt ↦ let e : b ≡ max a b = omega arith in subst P e q
      | inr ge ↦ let e : a ≡ max a b = omega arith in subst P e p
    ]

-- what counts is aligned
pub counting_entry_cases : (unit : ℕ) (slot : Slot) → (counting_entry unit slot ≡ None) ⊎ ((f : SlotEntry) × (counting_entry unit slot ≡ Some f) × (f.entry.offset % unit ≡ 0))
counting_entry_cases unit slot =
    elim (decoded_cases slot.bytes) [
      | inl none ↦ inl (counting_entry-is unit slot None none)
      | inr some ↦
          let e = entry_of slot.bytes in
          let read = counting_entry-is unit slot (Some (entry_of slot.bytes)) some in
          elim (cases_Bool (counts unit slot.start (entry_of slot.bytes))) [
            | inl counted ↦
                let parts = and_parts _ _ ((and_parts _ _ counted).0) in
                inr (record { slot = slot.index; entry = entry_of slot.bytes }, read ∙ ap (λ (b : Bool). cond b (Some (record { slot = slot.index; entry = entry_of slot.bytes })) None) counted, eqb-true _ 0 parts.1)
            | inr passed ↦ inl (read ∙ ap (λ (b : Bool). cond b (Some (record { slot = slot.index; entry = entry_of slot.bytes })) None) passed)
          ]
    ]

ends-aligned : (unit : ℕ) → IsPadding unit → (slots : List Slot) (a : ℕ) → a % unit ≡ 0 → fold max a (map (entry_end unit) (filter_map (counting_entry unit) slots)) % unit ≡ 0
ends-aligned unit pad [] a aligned = aligned
ends-aligned unit pad (slot ∷ slots) a aligned =
    elim (counting_entry_cases unit slot) [
      | inl none ↦ rw none (ends-aligned unit pad slots a aligned)
      | inr (f, some, at) ↦ rw some (ends-aligned unit pad slots (max a (entry_end unit f)) (max_keeps (λ x. x % unit ≡ 0) a (entry_end unit f) aligned (pad.sum_aligned f.entry.offset (padded unit f.entry.len) at (pad.aligned f.entry.len))))
    ]

sum-aligned : (unit : ℕ) → IsPadding unit → (fs : List SlotEntry) (a : ℕ) → a % unit ≡ 0 → fold (λ a f. a + padded unit f.entry.len) a fs % unit ≡ 0
sum-aligned unit pad [] a aligned = aligned
sum-aligned unit pad (f ∷ fs) a aligned = sum-aligned unit pad fs (a + padded unit f.entry.len) (pad.sum_aligned a (padded unit f.entry.len) aligned (pad.aligned f.entry.len))

pub data_end-aligned : (unit : ℕ) (b : List ℕ) → IsUnit unit → data_end unit b % unit ≡ 0
unfolding data_end written_end
data_end-aligned unit b is-unit =
    let pad = padding unit is-unit in
    let widths = slot_widths unit is-unit in
    let zero_aligned : 0 % unit ≡ 0 = zero-mod unit in
    max_keeps (λ x. x % unit ≡ 0) _ _ (pad.aligned _) (max_keeps (λ x. x % unit ≡ 0) _ _ (ends-aligned unit pad (used_slots unit b) 0 zero_aligned) (sum-aligned unit pad (entries unit b) 0 zero_aligned))

pub record IsDataEnd (unit : ℕ) (b : List ℕ) (limit : ℕ) : Type 0 where
  pub written : written_end unit (low unit b - slot_size unit) b ≤ limit
  pub ends : fold max 0 (map (entry_end unit) (entries unit b)) ≤ limit
  pub sums : sum_by (λ f. padded unit f.entry.len) (entries unit b) ≤ limit

pub data_end-above : (unit : ℕ) (b : List ℕ) → IsDataEnd unit b (data_end unit b)
unfolding data_end
data_end-above unit b = record { written = omega arith; ends = omega arith; sums = omega arith }

-- the same entries, and nothing written above a limit
pub data_end-bounded : (unit : ℕ) (old new : List ℕ) (limit : ℕ) → entries unit new ≡ entries unit old → data_end unit old ≤ limit → written_end unit (low unit new - slot_size unit) new ≤ limit → data_end unit new ≤ limit
unfolding data_end
data_end-bounded unit old new limit same below written =
    let above = data_end-above unit old in
    let ends : fold max 0 (map (entry_end unit) (entries unit new)) ≡ fold max 0 (map (entry_end unit) (entries unit old)) = ap (λ (fs : List SlotEntry). fold max 0 (map (entry_end unit) fs)) same in
    let sums : sum_by (λ f. padded unit f.entry.len) (entries unit new) ≡ sum_by (λ f. padded unit f.entry.len) (entries unit old) = ap (sum_by (λ (f : SlotEntry). padded unit f.entry.len)) same in
    omega arith

-- one more entry whose data stands at the data end
pub data_end-grown : (unit : ℕ) (old new : List ℕ) (f : SlotEntry) → entries unit new ≡ entries unit old ++ f ∷ [] → f.entry.offset ≡ data_end unit old
    → written_end unit (low unit new - slot_size unit) new ≤ data_end unit old + padded unit f.entry.len → data_end unit new ≡ data_end unit old + padded unit f.entry.len
unfolding data_end
data_end-grown unit old new f more at written =
    let above = data_end-above unit old in
    let ends : fold max 0 (map (entry_end unit) (entries unit new)) ≡ max (fold max 0 (map (entry_end unit) (entries unit old))) (entry_end unit f) =
    ap (λ (fs : List SlotEntry). fold max 0 (map (entry_end unit) fs)) more ∙ ap (fold max 0) (map_push (entry_end unit) (entries unit old) f) ∙ fold_push max 0 (map (entry_end unit) (entries unit old)) (entry_end unit f) in
    let sums : sum_by (λ f. padded unit f.entry.len) (entries unit new) ≡ sum_by (λ f. padded unit f.entry.len) (entries unit old) + padded unit f.entry.len =
    ap (sum_by (λ f. padded unit f.entry.len)) more ∙ sum_by_push (λ f. padded unit f.entry.len) (entries unit old) f in
    omega arith

-- Where only erased bytes change, a sector that is not blank stays so.
pub used_kept : (b new : List ℕ) (from to : ℕ) → length new ≡ length b → ((k : ℕ) → k < from → get_or new k 0 ≡ get_or b k 0) → ((k : ℕ) → to ≤ k → get_or new k 0 ≡ get_or b k 0)
    → ((k : ℕ) → from ≤ k → k < to → get_or b k 0 ≡ 255) → is_erased b ≡ false → is_erased new ≡ false
used_kept b new from to long below above erased full =
    elim (cases_Bool (is_erased new)) [
      | inr used ↦ used
      | inl blank ↦
          let at = λ (k : ℕ) (lt : k < length b). eqb-true (get_or new k 0) 255 (AllPass-from_list_all (λ byte. eqb byte 255) new blank k 0 (omega (arith, lt))) in
          let each : (k : ℕ) → k < length b → eqb (get_or b k 0) 255 ≡ true =
          λ k lt. eq-eqb (get_or b k 0) 255
          (elim (cases_lt k from) [
            | inl under ↦ sym (below k under) ∙ at k lt
            | inr ge ↦
                elim (cases_lt k to) [
                  | inl inside ↦ erased k ge inside
                  | inr over ↦ sym (above k over) ∙ at k lt
                ]
          ]) in
          absurd (false≢true (sym full ∙ list_all-from_AllPass (λ byte. eqb byte 255) b (All-from_get_or (λ (byte : ℕ). eqb byte 255 ≡ true) b 0 each)))
    ]

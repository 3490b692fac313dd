-- The id and the length that a slot of NVS names.
use Rattle.std.proofs.Common.{◌≡◌, ℕ, ◌+◌, ◌-◌, ◌*◌, ◌<◌, List, length, Some, get_or, sym, ap, ◌∙◌, inl, inr, arith}
use Rattle.std.specs.Prelude.{slice_range}
use Rattle.std.specs.Int.{w16, from_le_bytes}
use Rattle.std.specs.Option.{option_map}
use Rattle.std.proofs.lemmas.List.Edits.{get_or-between}
use Rattle.flash_map.specs.Units.{IsUnit}
use Rattle.item_laws.proofs.LiveLemmas.{some_none}
use Rattle.item_store.specs.declared.entry.Entry.{Entry}
use Rattle.nvs_store.specs.declared.entry.Entry.{Entry as NvsEntry}
use Rattle.nvs_store.specs.Entries.{entry_of as entry_from}
use Rattle.nvs_store.specs.Geometry.{slot_size}
use Rattle.nvs_store.specs.Sector.{slot_at}
use Rattle.nvs_store.proofs.SlotReads.{slot_widths, slot_at-parts}
use Rattle.nvs_store.proofs.WantedSlots.{counting_cases}
use Rattle.nvs_format.specs.Formats.{entry_of, format_in}

slot_byte : (unit : ℕ) (b : List ℕ) (n start k : ℕ) → IsUnit unit → start + (n + 1) * slot_size unit ≡ length b → k < 8 → get_or (slot_at unit b n).bytes k 0 ≡ get_or b (start + k) 0
slot_byte unit b n start k is-unit at lt =
    let wide = (slot_widths unit is-unit).no_less in
    let same : length b - (n + 1) * slot_size unit ≡ start = omega (arith, at) in
    ap (λ (xs : List ℕ). get_or xs k 0) (slot_at-parts unit b n).1
    ∙ get_or-between b (length b - (n + 1) * slot_size unit) (length b - (n + 1) * slot_size unit + slot_size unit) k 0 (omega arith)
    ∙ ap (λ (s : ℕ). get_or b (s + k) 0) same

-- the bytes from a slot's start on name the length that the slot names
pub len_from : (unit : ℕ) (b : List ℕ) (n start : ℕ) → IsUnit unit → start + (n + 1) * slot_size unit ≡ length b → (entry_from (slice_range b start (start + 8))).len ≡ (entry_from (slot_at unit b n).bytes).len
len_from unit b n start is-unit at =
    both (slice_range (slice_range b start (start + 8)) 4 6) (slice_range (slot_at unit b n).bytes 4 6)
    (get_or-between (slice_range b start (start + 8)) 4 6 0 0 (omega arith) ∙ get_or-between b start (start + 8) 4 0 (omega arith)
    ∙ sym (get_or-between (slot_at unit b n).bytes 4 6 0 0 (omega arith) ∙ slot_byte unit b n start 4 is-unit at (omega arith)))
    (get_or-between (slice_range b start (start + 8)) 4 6 1 0 (omega arith) ∙ get_or-between b start (start + 8) 5 0 (omega arith)
    ∙ sym (get_or-between (slot_at unit b n).bytes 4 6 1 0 (omega arith) ∙ slot_byte unit b n start 5 is-unit at (omega arith)))
  where
    both : (xs ys : List ℕ) → get_or xs 0 0 ≡ get_or ys 0 0 → get_or xs 1 0 ≡ get_or ys 1 0 → from_le_bytes w16 xs ≡ from_le_bytes w16 ys
    both xs ys low high = omega (arith, low, high)

-- an entry has the id and the length that its slot names
pub noted_fields : (unit : ℕ) (b : List ℕ) (slot id len : ℕ) → id ≡ (entry_from (slot_at unit b slot).bytes).id → len ≡ (entry_from (slot_at unit b slot).bytes).len → (e : Entry) → (format_in unit).in_slot b slot ≡ Some e → (e.id ≡ id) × (e.len ≡ len)
noted_fields unit b slot id len id-is len-is e some =
    elim (counting_cases unit (slot_at unit b slot)) [
      | inl none ↦ absurd (some_none e (sym some ∙ ap (option_map entry_of) none))
      | inr (f, found, same) ↦
          let own : entry_of f ≡ e = one_entry (entry_of f) e (sym (ap (option_map entry_of) found) ∙ some) in (
            sym (ap (λ (x : Entry). x.id) own) ∙ ap (λ (x : NvsEntry). x.id) same ∙ sym id-is,
            sym (ap (λ (x : Entry). x.len) own) ∙ ap (λ (x : NvsEntry). x.len) same ∙ sym len-is,
          )
    ]
  where
    one_entry : (x y : Entry) → Some x ≡ Some y → x ≡ y
    one_entry x y e = cc

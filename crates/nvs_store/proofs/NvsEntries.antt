-- The entries of NVS, as the laws on live items ask for them.
use Rattle.std.proofs.Common.{◌≡◌, ℕ, ◌+◌, ◌-◌, List, length, Some, None, refl, sym, ap, ◌∙◌, inl, inr, arith}
use Rattle.std.specs.Prelude.{slice_range}
use Rattle.std.proofs.lemmas.List.Edits.{length-between}
use Rattle.item_laws.proofs.SlotLemmas.{index-slot_at, start-slot_at}
use Rattle.item_laws.specs.Entries.{AreEntries}
use Rattle.item_laws.proofs.SlotEntries.{read-slots}
use Rattle.nvs_store.specs.declared.scan.SlotEntry.{SlotEntry}
use Rattle.nvs_store.specs.Geometry.{slot_size}
use Rattle.nvs_store.specs.Sector.{slot_at, is_used, counting_entry}
use Rattle.nvs_store.specs.Scans.{nvs}
use Rattle.nvs_store.proofs.Marks.{counting_entry_counts, counting_entry_under}

none_some : {X : Type 0} {x : X} → None ≡ Some x → ⊥
none_some e = cc

some_is : {X : Type 0} (x y : X) → Some x ≡ Some y → x ≡ y
some_is x y e = cc

slot_is : (unit : ℕ) (b : List ℕ) (n : ℕ) (e : SlotEntry) → counting_entry unit (slot_at unit b n) ≡ Some e → e.slot ≡ n
slot_is unit b n e some =
    elim (counting_entry_counts unit (slot_at unit b n)) [
      | inl none ↦ absurd (none_some (sym none ∙ some))
      | inr (f, is, counted, at) ↦ sym (ap (λ (p : SlotEntry). p.slot) (some_is f e (sym is ∙ some))) ∙ at ∙ index-slot_at (slot_size unit) b n
    ]

pub bytes_len : (unit : ℕ) (b : List ℕ) (n : ℕ) (e : SlotEntry) → counting_entry unit (slot_at unit b n) ≡ Some e → length (slice_range b e.entry.offset (e.entry.offset + e.entry.len)) ≡ e.entry.len
bytes_len unit b n e some =
    elim (counting_entry_under unit (slot_at unit b n)) [
      | inl none ↦ absurd (none_some (sym none ∙ some))
      | inr (f, is, under) ↦
          let start = start-slot_at (slot_size unit) b n in
          let same : f ≡ e = some_is f e (sym is ∙ some) in
          let offset : f.entry.offset ≡ e.entry.offset = ap (λ (p : SlotEntry). p.entry.offset) same in
          let len : f.entry.len ≡ e.entry.len = ap (λ (p : SlotEntry). p.entry.len) same in
          let long : length (slice_range b e.entry.offset (e.entry.offset + e.entry.len)) ≡ e.entry.offset + e.entry.len - e.entry.offset = length-between b e.entry.offset (e.entry.offset + e.entry.len) (omega arith) in
          omega arith
    ]

pub are_nvs : (unit : ℕ) → AreEntries (nvs unit)
are_nvs unit = record {
  listed = λ b. read-slots (counting_entry unit) is_used 1 (slot_size unit) b;
  sector = λ place e. refl;
  slot = λ b place n e some. slot_is unit b n e some;
  pairs = λ b place. refl;
  long = λ b place n e sound from listed some. bytes_len unit b n e some;
}

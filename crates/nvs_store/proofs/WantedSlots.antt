-- A search passes over the slots whose bytes name another id.
use Rattle.std.proofs.Common.{◌≡◌, ℕ, ◌-◌, ◌<◌, Bool, true, false, ◌⊎◌, cond, List, Option, Some, None, refl, sym, ap, ◌∙◌, inl, inr, arith}
use Rattle.std.proofs.lemmas.Bool.{cases_Bool}
use Rattle.std.proofs.lemmas.Option.{cond_some, none-some}
use Rattle.item_laws.specs.Slots.{Slot}
use Rattle.item_laws.proofs.LiveLemmas.{option_cases}
use Rattle.item_laws.proofs.SlotWalks.{found_other, found_none}
use Rattle.nvs_store.specs.declared.scan.SlotEntry.{SlotEntry}
use Rattle.nvs_store.specs.Geometry.{slot_size}
use Rattle.nvs_store.specs.Entries.{entry_of}
use Rattle.nvs_store.specs.Sector.{slot_at, counts, counting_entry, is_wanted, last_found}
use Rattle.nvs_store.specs.Searches.{wanted_in}
use Rattle.nvs_store.proofs.EntryBytes.{decoded_cases, counting_entry-is}
use Rattle.nvs_store.proofs.Lookups.{entries_to}

-- an entry that counts has the fields that its slot names
pub counting_cases : (unit : ℕ) (slot : Slot) → (counting_entry unit slot ≡ None) ⊎ ((f : SlotEntry) × (counting_entry unit slot ≡ Some f) × (f.entry ≡ entry_of slot.bytes))
counting_cases unit slot =
    let found : SlotEntry = record { slot = slot.index; entry = entry_of slot.bytes } in
    elim (decoded_cases slot.bytes) [
      | inl none ↦ inl (counting_entry-is unit slot None none)
      | inr some ↦
          let read = counting_entry-is unit slot (Some (entry_of slot.bytes)) some in
          elim (cases_Bool (counts unit slot.start (entry_of slot.bytes))) [
            | inl counted ↦ inr (found, read ∙ ap (λ (t : Bool). cond t (Some found) None) counted, refl)
            | inr passed ↦ inl (read ∙ ap (λ (t : Bool). cond t (Some found) None) passed)
          ]
    ]

-- so the id that a slot names decides
pub named_read : (unit : ℕ) (slot : Slot) (wanted : Option ℕ) (t : Bool) → is_wanted wanted (entry_of slot.bytes) ≡ t → cond t (counting_entry unit slot) None ≡ wanted_in wanted (counting_entry unit slot)
named_read unit slot wanted true named =
    elim (counting_cases unit slot) [
      | inl none ↦ none ∙ sym (ap (wanted_in wanted) none)
      | inr (f, some, same) ↦ some ∙ sym (ap (wanted_in wanted) some ∙ ap (λ (t : Bool). cond t (Some f) None) (ap (is_wanted wanted) same ∙ named))
    ]
named_read unit slot wanted false named =
    elim (counting_cases unit slot) [
      | inl none ↦ sym (ap (wanted_in wanted) none)
      | inr (f, some, same) ↦ sym (ap (wanted_in wanted) some ∙ ap (λ (t : Bool). cond t (Some f) None) (ap (is_wanted wanted) same ∙ named))
    ]

-- what is found is what the slot holds
pub wanted_some : (wanted : Option ℕ) (read : Option SlotEntry) (f : SlotEntry) → Some f ≡ wanted_in wanted read → (Some f ≡ read) × (is_wanted wanted f.entry ≡ true)
wanted_some wanted None f is = absurd (none-some f (sym is))
wanted_some wanted (Some g) f is =
    let parts = cond_some (is_wanted wanted g.entry) g f (sym is) in
    (ap (λ (x : SlotEntry). Some x) (sym parts.1), ap (λ (x : SlotEntry). is_wanted wanted x.entry) (sym parts.1) ∙ parts.0)

other_wanted : (wanted : Option ℕ) (f : SlotEntry) → None ≡ wanted_in wanted (Some f) → is_wanted wanted f.entry ≡ false
other_wanted wanted f is =
    elim (cases_Bool (is_wanted wanted f.entry)) [
      | inl same ↦ absurd (none-some f (is ∙ ap (λ (t : Bool). cond t (Some f) None) same))
      | inr other ↦ other
    ]

-- where a slot holds none, those above it decide
pub wanted_none : (unit : ℕ) (b : List ℕ) (wanted : Option ℕ) (count : ℕ) (rest : Option SlotEntry) → 0 < count → None ≡ wanted_in wanted (counting_entry unit (slot_at unit b count)) → last_found wanted (entries_to unit b count) ≡ rest → last_found wanted (entries_to unit b (count - 1)) ≡ rest
wanted_none unit b wanted count rest some none later =
    elim (option_cases (counting_entry unit (slot_at unit b count))) [
      | inl nothing ↦ found_none (counting_entry unit) 1 (slot_size unit) b (λ f. is_wanted wanted f.entry) count count some (omega arith) rest (sym nothing) later
      | inr (f, is) ↦ found_other (counting_entry unit) 1 (slot_size unit) b (λ f. is_wanted wanted f.entry) count count some (omega arith) f rest (sym is) (other_wanted wanted f (none ∙ ap (wanted_in wanted) is)) later
    ]

-- Slots of a sector whose entries give an id of a range certain bytes, and slots that name an id.
use Rattle.std.specs.Prelude.{◌≡◌, ℕ, ◌+◌, ◌*◌, ◌<◌, ◌≤◌, Bool, true, false, List, length, slice_range, Option, Some, None}
use Rattle.nvs_store.specs.declared.scan.SlotEntry.{SlotEntry}
use Rattle.nvs_store.specs.Entries.{entry_of}
use Rattle.nvs_store.specs.Geometry.{slot_size}
use Rattle.nvs_store.specs.Sector.{slot_at, is_used, used_slots, counting_entry}

-- ---- the bytes of entries

-- the entry gives an id of the range these bytes
pub record Holds (sector : List ℕ) (least most : ℕ) (wanted : List ℕ) (f : SlotEntry) : Type 0 where
  pub from : least ≤ f.entry.id
  pub to : f.entry.id ≤ most
  pub bytes : slice_range sector f.entry.offset (f.entry.offset + f.entry.len) ≡ wanted

-- no slot from one number up to another has such an entry that counts
abbrev pub NoneHolds : ℕ → List ℕ → ℕ → ℕ → List ℕ → ℕ → ℕ → Type 0
NoneHolds unit sector least most wanted first end =
    (slot : ℕ) (f : SlotEntry) → first ≤ slot → slot < end
    → counting_entry unit (slot_at unit sector slot) ≡ Some f → ¬ Holds sector least most wanted f

-- the first such entry of a sector's used slots from one on
pub record IsFirstHolder (unit : ℕ) (sector : List ℕ) (least most : ℕ) (wanted : List ℕ) (first : ℕ)
    (f : SlotEntry) : Type 0 where
  pub from : first ≤ f.slot
  pub listed : f.slot < 1 + length (used_slots unit sector)
  pub read : counting_entry unit (slot_at unit sector f.slot) ≡ Some f
  pub holds : Holds sector least most wanted f
  pub earlier : NoneHolds unit sector least most wanted first f.slot

-- the first such entry behind the first so many slots; none if there is none
abbrev pub FindsHolder : ℕ → List ℕ → ℕ → ℕ → List ℕ → ℕ → Option SlotEntry → Type 0
FindsHolder unit sector least most wanted skipped None =
    NoneHolds unit sector least most wanted (1 + skipped) (1 + length (used_slots unit sector))
FindsHolder unit sector least most wanted skipped (Some f) =
    IsFirstHolder unit sector least most wanted (1 + skipped) f

-- ---- ids alone

-- the id that a slot names, whether its CRC matches or not
abbrev pub named_at : ℕ → List ℕ → ℕ → ℕ
named_at unit sector slot = (entry_of (slot_at unit sector slot).bytes).id

-- no slot from one number up to another names the id
abbrev pub NoneNames : ℕ → List ℕ → ℕ → ℕ → ℕ → Type 0
NoneNames unit sector id first end =
    (slot : ℕ) → first ≤ slot → slot < end → ¬ (named_at unit sector slot ≡ id)

-- some slot from one number on names the id, and those from there to it are used
pub record SomeNames (unit : ℕ) (sector : List ℕ) (id first : ℕ) : Type 0 where
  pub slot : ℕ
  pub from : first ≤ slot
  pub inside : (slot + 1) * slot_size unit ≤ length sector
  pub used : (k : ℕ) → first ≤ k → k ≤ slot → is_used (slot_at unit sector k) ≡ true
  pub names : named_at unit sector slot ≡ id

-- whether a used slot behind the first so many names the id
abbrev pub HasNamed : ℕ → List ℕ → ℕ → ℕ → Bool → Type 0
HasNamed unit sector id skipped false =
    NoneNames unit sector id (1 + skipped) (1 + length (used_slots unit sector))
HasNamed unit sector id skipped true = SomeNames unit sector id (1 + skipped)

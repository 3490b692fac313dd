-- Slots of a sector whose entries give an id of a range certain bytes.
use Rattle.std.specs.Prelude.{◌≡◌, ℕ, ◌+◌, ◌-◌, ◌*◌, ◌/◌, ◌%◌, ◌<◌, ◌≤◌, false, List, length, Option, Some, None}
use Rattle.zms_cycle.specs.declared.entry.ZEntry.{ZEntry}
use Rattle.zms_cycle.specs.declared.reading.SlotEntry.{SlotEntry}
use Rattle.zms_cycle.specs.Entries.{entry_of}
use Rattle.zms_cycle.specs.Searches.{names}
use Rattle.zms_cycle.specs.Sector.{slot_of, valid_slots, entry_in, value_of}

-- the entry gives an id of the range these bytes
pub record Holds (b : List ℕ) (least most : ℕ) (bytes : List ℕ) (e : ZEntry) : Type 0 where
  pub from : least ≤ e.id
  pub to : e.id ≤ most
  pub value : value_of b e ≡ bytes

-- no slot from one number up to another has such an ordinary entry
abbrev pub NoneHolds : List ℕ → ℕ → ℕ → List ℕ → ℕ → ℕ → Type 0
NoneHolds b least most bytes from to =
    (slot : ℕ) (f : SlotEntry) → from ≤ slot → slot < to → entry_in (slot_of b slot) ≡ Some f
    → ¬ Holds b least most bytes f.entry

-- the first such entry of a sector's list from a slot on
pub record IsFirstHolder (b : List ℕ) (least most : ℕ) (bytes : List ℕ) (from : ℕ) (f : SlotEntry) :
    Type 0 where
  pub behind : from ≤ f.slot
  pub listed : f.slot < length (valid_slots b) + 2
  pub read : entry_in (slot_of b f.slot) ≡ Some f
  pub holds : Holds b least most bytes f.entry
  pub first : NoneHolds b least most bytes from f.slot

-- the first such entry behind the first so many slots of a sector's list; none if there is none
abbrev pub FindsBytes : List ℕ → ℕ → ℕ → List ℕ → ℕ → Option SlotEntry → Type 0
FindsBytes b least most bytes skipped None =
    NoneHolds b least most bytes (2 + skipped) (length (valid_slots b) + 2)
FindsBytes b least most bytes skipped (Some f) = IsFirstHolder b least most bytes (2 + skipped) f

-- ---- slots by where they end

-- the number of the slot that ends so many bytes above the start of a sector
abbrev pub number_below : List ℕ → ℕ → ℕ
number_below b end = (length b - end) / 16

-- a slot ends there, or would if the sector had more bytes
pub record EndsSlot (b : List ℕ) (end : ℕ) : Type 0 where
  pub within : end ≤ length b
  pub whole : (length b - end) % 16 ≡ 0

-- ---- slots that name an id

-- no slot from one number up to another names this id
abbrev pub NoneNamed : List ℕ → ℕ → ℕ → ℕ → Type 0
NoneNamed b from to id = (slot : ℕ) → from ≤ slot → slot < to → names id id (slot_of b slot) ≡ false

-- no slot of a sector's list behind the first so many names this id
abbrev pub NoneNames : List ℕ → ℕ → ℕ → Type 0
NoneNames b skipped id = NoneNamed b (2 + skipped) (length (valid_slots b) + 2) id

-- ---- what a slot says before its CRC is looked at

-- it gives an id of the range these bytes, of the length that it says
pub record IsAlike (b : List ℕ) (least most : ℕ) (bytes : List ℕ) (e : ZEntry) : Type 0 where
  pub from : least ≤ e.id
  pub to : e.id ≤ most
  pub len : e.len ≡ length bytes
  pub value : value_of b e ≡ bytes

-- no slot from one number up to another does
abbrev pub NoneAlike : List ℕ → ℕ → ℕ → List ℕ → ℕ → ℕ → Type 0
NoneAlike b least most bytes from to =
    (slot : ℕ) → from ≤ slot → slot < to → ¬ IsAlike b least most bytes (entry_of (slot_of b slot).bytes)

-- the first slot that does, from one on
pub record IsFirstAlike (b : List ℕ) (least most : ℕ) (bytes : List ℕ) (from slot : ℕ) : Type 0 where
  pub behind : from ≤ slot
  pub inside : (slot + 1) * 16 ≤ length b
  pub alike : IsAlike b least most bytes (entry_of (slot_of b slot).bytes)
  pub first : NoneAlike b least most bytes from slot

-- that slot; if there is none, no slot of the list does
abbrev pub FindsAlike : List ℕ → ℕ → ℕ → List ℕ → ℕ → Option ℕ → Type 0
FindsAlike b least most bytes from None = NoneAlike b least most bytes from (length (valid_slots b) + 2)
FindsAlike b least most bytes from (Some slot) = IsFirstAlike b least most bytes from slot

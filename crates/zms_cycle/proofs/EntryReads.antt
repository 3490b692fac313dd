-- What is known of an entry that is read from a slot.
use Rattle.std.proofs.Common.{◌≡◌, ℕ, zero, suc, ◌+◌, ◌-◌, ◌*◌, ◌<◌, ◌≤◌, ◌⊎◌, true, eqb, leb, List, [], ◌∷◌, length, take, drop, Option, Some, None, refl, sym, ap, ◌∙◌, inl, inr, arith}
use Rattle.std.specs.Prelude.{slice_range, slice_index}
use Rattle.std.proofs.lemmas.Bool.{cases_Bool, cond-true, cond-false, le-leb, lt-leb}
use Rattle.crc8_entry.specs.Crc.{crc}
use Rattle.item_laws.specs.Slots.{Slot}
use Rattle.item_laws.proofs.SlotLemmas.{bytes-slot_at}
use Rattle.zms_cycle.specs.declared.entry.ZEntry.{ZEntry}
use Rattle.zms_cycle.specs.declared.reading.SlotEntry.{SlotEntry}
use Rattle.zms_cycle.specs.Entries.{decoded, entry_of, offset_of, is_special}
use Rattle.zms_cycle.specs.Sector.{slot_of, valid_slots, entry_in, low, is_under, is_sound, value_of}
use Rattle.zms_cycle.proofs.CopyCalls.{length-range, range_part, listed_under, value_len, long_value_is}
use Rattle.zms_cycle.proofs.Frames.{sound-parts, under-parts, value_end-long, pad}
use Rattle.zms_cycle.proofs.Slots16.{entry_in-is}

none_some : {X : Type 0} {x : X} → None ≡ Some x → ⊥
none_some h = cc

some_is : {X : Type 0} (x y : X) → Some x ≡ Some y → x ≡ y
some_is x y h = cc

-- what stands in the slot
pub record IsRead (slot : Slot) (f : SlotEntry) : Type 0 where
  pub read : decoded slot.bytes ≡ Some f.entry
  pub slot_is : f.slot ≡ slot.index

read_from : (slot : Slot) (o : Option ZEntry) (f : SlotEntry) → decoded slot.bytes ≡ o → entry_in slot ≡ Some f → IsRead slot f
read_from slot None f read is = absurd (none_some (sym (entry_in-is slot None read) ∙ is))
read_from slot (Some e) f read is =
    elim (cases_Bool (is_special e)) [
      | inl special ↦ absurd (none_some (sym (entry_in-is slot (Some e) read ∙ cond-true (is_special e) None (Some (record { slot = slot.index; entry = e })) special) ∙ is))
      | inr ordinary ↦
          let same : record { slot = slot.index; entry = e } ≡ f = some_is (record { slot = slot.index; entry = e }) f (sym (entry_in-is slot (Some e) read ∙ cond-false (is_special e) None (Some (record { slot = slot.index; entry = e })) ordinary) ∙ is) in
          record { read = read ∙ ap (λ (g : SlotEntry). Some g.entry) same; slot_is = sym (ap (λ (g : SlotEntry). g.slot) same) }
    ]

pub is_read : (slot : Slot) (f : SlotEntry) → entry_in slot ≡ Some f → IsRead slot f
is_read slot f is = read_from slot (decoded slot.bytes) f refl is

-- nothing, or an entry of this slot
pub entry_cases : (slot : Slot) → (entry_in slot ≡ None) ⊎ ((f : SlotEntry) × (entry_in slot ≡ Some f) × (f.slot ≡ slot.index))
entry_cases slot = cases (entry_in slot) refl
  where
    cases : (o : Option SlotEntry) → entry_in slot ≡ o → (entry_in slot ≡ None) ⊎ ((f : SlotEntry) × (entry_in slot ≡ Some f) × (f.slot ≡ slot.index))
    cases None is = inl is
    cases (Some f) is = inr (f, is, (is_read slot f is).slot_is)

pub entry_bytes : (bytes : List ℕ) (e : ZEntry) → decoded bytes ≡ Some e → entry_of bytes ≡ e
unfolding decoded
entry_bytes bytes e is =
    elim (cases_Bool (eqb (crc 0xFF (drop 1 bytes)) (slice_index bytes 0))) [
      | inl checks ↦ some_is (entry_of bytes) e (sym (cond-true (eqb (crc 0xFF (drop 1 bytes)) (slice_index bytes 0)) (Some (entry_of bytes)) None checks) ∙ is)
      | inr fails ↦ absurd (none_some (sym (cond-false (eqb (crc 0xFF (drop 1 bytes)) (slice_index bytes 0)) (Some (entry_of bytes)) None fails) ∙ is))
    ]

pub take_take : (n m : ℕ) (xs : List ℕ) → n ≤ m → take n (take m xs) ≡ take n xs
take_take zero m xs le = refl
take_take (suc n) zero xs le = absurd (omega arith)
take_take (suc n) (suc m) [] le = refl
take_take (suc n) (suc m) (x ∷ xs) le = ap (λ (ys : List ℕ). x ∷ ys) (take_take n m xs (omega arith))

module _ (b : List ℕ) (k : ℕ) (f : SlotEntry) (inside : (k + 1) * 16 ≤ length b) (is : entry_in (slot_of b k) ≡ Some f) where
  start : ℕ
  start = length b - (k + 1) * 16

  tail_is : f.entry.tail ≡ slice_range (slice_range b (length b - (k + 1) * 16) (length b - (k + 1) * 16 + 16)) 8 16
  tail_is =
      sym (ap (λ (bytes : List ℕ). slice_range bytes 8 16) (bytes-slot_at 16 b k (length b - (k + 1) * 16) refl)
      ∙ ap (λ (e : ZEntry). e.tail) (entry_bytes (slot_of b k).bytes f.entry (is_read (slot_of b k) f is).read))

  pub tail_there : f.entry.tail ≡ slice_range b (length b - (k + 1) * 16 + 8) (length b - (k + 1) * 16 + 8 + 8)
  tail_there = tail_is ∙ sym (range_part b (length b - (k + 1) * 16) 16 8 8 (omega arith) (omega arith))

  pub tail_eight : length f.entry.tail ≡ 8
  tail_eight = ap length tail_there ∙ length-range b (length b - (k + 1) * 16 + 8) 8 (omega arith)

  -- a value of at most 8 bytes stands in the tail
  pub short_there : f.entry.len ≤ 8 → value_of b f.entry ≡ slice_range b (length b - (k + 1) * 16 + 8) (length b - (k + 1) * 16 + 8 + f.entry.len)
  short_there short =
      cond-true (leb f.entry.len 8) (take f.entry.len f.entry.tail) (slice_range b (offset_of f.entry) (offset_of f.entry + f.entry.len)) (le-leb f.entry.len 8 short)
      ∙ ap (take f.entry.len) tail_is
      ∙ take_take f.entry.len 8 (drop 8 (slice_range b (length b - (k + 1) * 16) (length b - (k + 1) * 16 + 16))) short
      ∙ sym (range_part b (length b - (k + 1) * 16) 16 8 f.entry.len (omega arith) (omega arith))

pub long_there : (b : List ℕ) (e : ZEntry) → 8 < e.len → value_of b e ≡ slice_range b (offset_of e) (offset_of e + e.len)
long_there b e long = long_value_is b e long

-- An entry of a sound sector: its value lies in the sector, and has its length.
module _ (b : List ℕ) (k : ℕ) (f : SlotEntry) (sound : is_sound b ≡ true) (from : 2 ≤ k) (listed : k < length (valid_slots b) + 2) (inside : (k + 1) * 16 ≤ length b) (is : entry_in (slot_of b k) ≡ Some f) where
  under : is_under (low b - 16) f ≡ true
  under = listed_under b k f (sound-parts b sound) from listed is

  pub bytes_len : length (value_of b f.entry) ≡ f.entry.len
  bytes_len = value_len b f (low b - 16) (tail_eight b k f inside is) under (omega arith)

  pub long_inside : 8 < f.entry.len → offset_of f.entry + f.entry.len ≤ length b
  long_inside long =
      let ends = (under-parts (low b - 16) f under).0 in
      let some = value_end-long f (lt-leb f.entry.len 8 long) in
      let rounded = pad f.entry.len in
      omega arith

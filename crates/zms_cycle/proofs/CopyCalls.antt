-- Copying a value, and its entry.
use Rattle.std.proofs.Common.{◌≡◌, ℕ, zero, suc, ◌+◌, ◌-◌, ◌^◌, ◌<◌, ◌≤◌, Bool, true, false, cond, leb, List, [], ◌∷◌, ◌++◌, length, map, get_or, take, drop, replicate, Option, Some, None, refl, sym, ap, ◌∙◌, inl, inr, arith, rules}
use Rattle.std.specs.Prelude.{slice_range}
use Rattle.std.specs.List.{filter_map, cons_option, list_all, range_with_len}
use Rattle.std.specs.Option.{option_and_then, option_map_or}
use Rattle.std.proofs.lemmas.Bool.{cases_Bool, cases_eq, false≢true, eq-eqb, cond-true, cond-false, leb-true, and_parts, lt-leb}
use Rattle.std.proofs.lemmas.List.{places, same_lists, length-take-le, length-take, length-drop, get_or-set_other}
use Rattle.flash_sim.specs.Device.{Device, overwritten}
use Rattle.flash_map.specs.declared.area.Area.{Area}
use Rattle.flash_map.specs.Area.{sectors_of, sector_bytes, OthersStay}
use Rattle.flash_map.specs.Units.{padded_bytes}
use Rattle.std.specs.Int.{w32, to_le_bytes}
use Rattle.std.proofs.lemmas.List.FromFn.{get_or-map-range_with_len}
use Rattle.item_laws.specs.Slots.{Slot, slot_at}
use Rattle.item_laws.proofs.SlotLemmas.{index-slot_at, used_slots-from}
use Rattle.zms_cycle.specs.declared.entry.ZEntry.{ZEntry}
use Rattle.zms_cycle.specs.declared.reading.SlotEntry.{SlotEntry}
use Rattle.zms_cycle.specs.Changes.{with_value}
use Rattle.zms_cycle.specs.Entries.{decoded, offset_of, is_special, value_entry, moved_entry}
use Rattle.zms_cycle.specs.Sector.{slot_of, is_valid, cycle_of, entry_in, entry_len, pair_at, pair_of, value_of, low, is_under, is_sound, valid_slots}
use Rattle.zms_cycle.proofs.Slots16.{entry_in-is}
use Rattle.zms_cycle.proofs.Frames.{IsSound, sound-parts, pad, under-parts, value_end-long, fence_of}

-- The entry that is read.

found_some : (slot : Slot) (e : ZEntry) (index : ℕ) → slot.index ≡ index → decoded slot.bytes ≡ Some e → 0 < option_map_or (λ f. f.entry.len) (entry_in slot) 0 → entry_in slot ≡ Some (record { slot = index; entry = e })
found_some slot e index at read some =
    let is = entry_in-is slot (Some e) read in
    elim (cases_Bool (is_special e)) [
      | inl special ↦
          let none : entry_in slot ≡ None = is ∙ cond-true (is_special e) None (Some (record { slot = slot.index; entry = e })) special in
          let zero : option_map_or (λ f. f.entry.len) (entry_in slot) 0 ≡ 0 = ap (λ (o : Option SlotEntry). option_map_or (λ f. f.entry.len) o 0) none in
          absurd (omega arith)
      | inr ordinary ↦ is ∙ cond-false (is_special e) None (Some (record { slot = slot.index; entry = e })) ordinary ∙ ap (λ (k : ℕ). Some (record { slot = k; entry = e })) at
    ]

pub ordinary_is : (b : List ℕ) (slot : ℕ) (e : ZEntry) → decoded (slot_of b slot).bytes ≡ Some e → 0 < entry_len b slot → entry_in (slot_of b slot) ≡ Some (record { slot = slot; entry = e })
ordinary_is b slot e read some = found_some (slot_of b slot) e slot (index-slot_at 16 b slot) read some

pub ordinary_none : (b : List ℕ) (slot : ℕ) → decoded (slot_of b slot).bytes ≡ None → 0 < entry_len b slot → ⊥
ordinary_none b slot read some =
    let none : entry_in (slot_of b slot) ≡ None = entry_in-is (slot_of b slot) None read in
    let zero : entry_len b slot ≡ 0 = ap (λ (o : Option SlotEntry). option_map_or (λ f. f.entry.len) o 0) none in
    omega arith

-- a part of a range
pub range_part : (b : List ℕ) (from len done n : ℕ) → from + len ≤ length b → done + n ≤ len → slice_range b (from + done) (from + done + n) ≡ take n (drop done (slice_range b from (from + len)))
range_part b from len done n fits inside = same_lists _ _ (search (rules, places)) (λ i d h. grind (arith, places))

pub length-range : (b : List ℕ) (from len : ℕ) → from + len ≤ length b → length (slice_range b from (from + len)) ≡ len
length-range b from len fits =
    let width : from + len - from ≡ len = omega arith in
    ap (λ (n : ℕ). length (take n (drop from b))) width ∙ length-take-le len (drop from b) (omega (arith, length-drop from b))

-- the other sector stays
pub other_stays : (old new : Device) (area : Area) (sector other : ℕ) → (other ≡ sector → ⊥) → OthersStay old new area sector → sector_bytes new area other ≡ sector_bytes old area other
other_stays old new area sector other apart others = ap (λ (l : List (List ℕ)). get_or l other []) others ∙ get_or-set_other (sectors_of old area) sector other (sector_bytes new area sector) [] apart

-- The value of an entry.

all_found : (p : SlotEntry → Bool) (xs : List Slot) (k : ℕ) (slot : Slot) (f : SlotEntry) → list_all p (filter_map entry_in xs) ≡ true → k < length xs → get_or xs k slot ≡ slot → entry_in slot ≡ Some f → p f ≡ true
all_found p [] k slot f all below here is = absurd (omega arith)
all_found p (x ∷ xs) zero slot f all below here is =
    let this : entry_in x ≡ Some f = ap entry_in here ∙ is in
    let parts = and_parts (p f) (list_all p (filter_map entry_in xs)) (sym (ap (λ (o : Option SlotEntry). list_all p (cons_option o (filter_map entry_in xs))) this) ∙ all) in
    parts.0
all_found p (x ∷ xs) (suc k) slot f all below here is = all_found p xs k slot f (later (entry_in x) all) (omega arith) here is
  where
    later : (o : Option SlotEntry) → list_all p (cons_option o (filter_map entry_in xs)) ≡ true → list_all p (filter_map entry_in xs) ≡ true
    later None h = h
    later (Some g) h = (and_parts (p g) (list_all p (filter_map entry_in xs)) h).1

-- an entry of a sound sector's list stands under the guard slot
pub listed_under : (b : List ℕ) (slot : ℕ) (f : SlotEntry) → IsSound b → 2 ≤ slot → slot < length (valid_slots b) + 2 → entry_in (slot_of b slot) ≡ Some f → is_under (low b - 16) f ≡ true
listed_under b slot f sound from below is =
    let n = length (valid_slots b) in
    let slots : valid_slots b ≡ map (slot_at 16 b) (range_with_len 2 (length (valid_slots b))) = used_slots-from (is_valid (cycle_of b)) 2 16 b (length (valid_slots b)) (omega arith) (fence_of b sound.guard) in
    let back : 2 + (slot - 2) ≡ slot = omega arith in
    let at : get_or (valid_slots b) (slot - 2) (slot_of b slot) ≡ slot_of b slot =
    ap (λ (xs : List Slot). get_or xs (slot - 2) (slot_of b slot)) slots ∙ get_or-map-range_with_len (slot_at 16 b) 2 (length (valid_slots b)) (slot - 2) slot (slot_of b slot) (omega arith) back in
    all_found (is_under (low b - 16)) (valid_slots b) (slot - 2) (slot_of b slot) f sound.under (omega arith) at is

pub value_len : (b : List ℕ) (f : SlotEntry) (limit : ℕ) → length f.entry.tail ≡ 8 → is_under limit f ≡ true → limit ≤ length b → length (value_of b f.entry) ≡ f.entry.len
value_len b f limit eight under inside = elim (cases_Bool (leb f.entry.len 8)) [
  | inl short ↦
      ap length (cond-true (leb f.entry.len 8) (take f.entry.len f.entry.tail) (slice_range b (offset_of f.entry) (offset_of f.entry + f.entry.len)) short)
      ∙ length-take-le f.entry.len f.entry.tail (let le = leb-true f.entry.len 8 short in omega arith)
  | inr long ↦
      let end = value_end-long f long in
      let below = (under-parts limit f under).0 in
      let rounded = pad f.entry.len in
      ap length (cond-false (leb f.entry.len 8) (take f.entry.len f.entry.tail) (slice_range b (offset_of f.entry) (offset_of f.entry + f.entry.len)) long)
      ∙ length-range b (offset_of f.entry) f.entry.len (omega arith)
]

-- where a value of more than 8 bytes ends
pub long_value_is : (b : List ℕ) (e : ZEntry) → 8 < e.len → value_of b e ≡ slice_range b (offset_of e) (offset_of e + e.len)
long_value_is b e long = cond-false (leb e.len 8) (take e.len e.tail) (slice_range b (offset_of e) (offset_of e + e.len)) (lt-leb e.len 8 long)

-- the entry in the other sector is that of the value
pub moved_is : (b : List ℕ) (e : ZEntry) (cycle offset : ℕ) → length (value_of b e) ≡ e.len → moved_entry cycle e offset ≡ value_entry cycle e.id (value_of b e) offset
moved_is b e cycle offset len =
    let v = value_of b e in
    let tail : (moved_entry cycle e offset).tail ≡ cond (leb e.len 8) (value_of b e ++ replicate (8 - e.len) 0) (to_le_bytes w32 offset ++ replicate 4 0) =
    elim (cases_Bool (leb e.len 8)) [
      | inl short ↦
          cond-true (leb e.len 8) (take e.len e.tail ++ replicate (8 - e.len) 0) (to_le_bytes w32 offset ++ replicate 4 0) short
          ∙ ap (λ (x : List ℕ). x ++ replicate (8 - e.len) 0) (sym (cond-true (leb e.len 8) (take e.len e.tail) (slice_range b (offset_of e) (offset_of e + e.len)) short))
          ∙ sym (cond-true (leb e.len 8) (value_of b e ++ replicate (8 - e.len) 0) (to_le_bytes w32 offset ++ replicate 4 0) short)
      | inr long ↦
          cond-false (leb e.len 8) (take e.len e.tail ++ replicate (8 - e.len) 0) (to_le_bytes w32 offset ++ replicate 4 0) long
          ∙ sym (cond-false (leb e.len 8) (value_of b e ++ replicate (8 - e.len) 0) (to_le_bytes w32 offset ++ replicate 4 0) long)
    ] in
    ap (λ (t : List ℕ). record { cycle = cycle; len = e.len; id = e.id; tail = t }) tail
    ∙ ap (λ (n : ℕ). record { cycle = cycle; len = n; id = e.id; tail = cond (leb n 8) (value_of b e ++ replicate (8 - n) 0) (to_le_bytes w32 offset ++ replicate 4 0) }) (sym len)

pub pair_is : (b : List ℕ) (slot : ℕ) (e : ZEntry) → entry_in (slot_of b slot) ≡ Some (record { slot = slot; entry = e }) → pair_at b slot ≡ (e.id, value_of b e)
pair_is b slot e is = ap (λ (o : Option SlotEntry). option_map_or (pair_of b) o (0, [])) is

pub entry_len_is : (b : List ℕ) (slot : ℕ) (e : ZEntry) → entry_in (slot_of b slot) ≡ Some (record { slot = slot; entry = e }) → entry_len b slot ≡ e.len
entry_len_is b slot e is = ap (λ (o : Option SlotEntry). option_map_or (λ f. f.entry.len) o 0) is

-- a value that has its length stands in the sector
pub range_fits : (b : List ℕ) (from len : ℕ) → 0 < len → length (slice_range b from (from + len)) ≡ len → from + len ≤ length b
range_fits b from len some long =
    let width : from + len - from ≡ len = omega arith in
    let cut : length (take len (drop from b)) ≡ len = ap (λ (n : ℕ). length (take n (drop from b))) (sym width) ∙ long in
    omega (arith, length-take len (drop from b), length-drop from b, cut)

pub with_copy : (b c : List ℕ) (e : ZEntry) (to : ℕ) → 8 < e.len → length (value_of c e) ≡ e.len → overwritten b to (padded_bytes 16 (slice_range c (offset_of e) (offset_of e + e.len))) ≡ with_value b to (value_of c e)
with_copy b c e to long len =
    ap (λ (p : List ℕ). overwritten b to (padded_bytes 16 p)) (sym (long_value_is c e long)) ∙ sym (cond-false (leb (length (value_of c e)) 8) b (overwritten b to (padded_bytes 16 (value_of c e))) (lt-leb (length (value_of c e)) 8 (omega (arith, len))))

-- everything that is known of the entry that is copied
pub record IsCopied (b : List ℕ) (slot : ℕ) (e : ZEntry) : Type 0 where
  pub len : length (value_of b e) ≡ e.len
  pub listed_len : entry_len b slot ≡ e.len
  pub pair : pair_at b slot ≡ (e.id, value_of b e)

pub copied : (b : List ℕ) (slot : ℕ) (e : ZEntry) → is_sound b ≡ true → 2 ≤ slot → slot < length (valid_slots b) + 2 → length e.tail ≡ 8 → entry_in (slot_of b slot) ≡ Some (record { slot = slot; entry = e }) → IsCopied b slot e
copied b slot e sound from below eight is =
    let parts = sound-parts b sound in
    let f : SlotEntry = record { slot = slot; entry = e } in
    record {
      len = value_len b f (low b - 16) eight (listed_under b slot f parts from below is) (omega arith);
      listed_len = entry_len_is b slot e is;
      pair = pair_is b slot e is;
    }

-- an ordinary entry is not special
pub ordinary_id : (slot : Slot) (e : ZEntry) (index : ℕ) → e.id < 2 ^ 32 → entry_in slot ≡ Some (record { slot = index; entry = e }) → e.id < 0xFFFFFFFF
ordinary_id slot e index small is = elim (cases_eq e.id 0xFFFFFFFF) [
  | inl special ↦ absurd (never (decoded slot.bytes) (sym (entry_in-is slot (decoded slot.bytes) refl) ∙ is) special)
  | inr other ↦ omega (arith, other)
]
  where
    from_cond : (t : Bool) (x y : SlotEntry) → cond t None (Some x) ≡ Some y → (t ≡ false) × (x ≡ y)
    from_cond true x y h = cc
    from_cond false x y h = (refl, cc)

    never : (o : Option ZEntry) → option_and_then {U = SlotEntry} (λ e. cond (is_special e) None (Some (record { slot = slot.index; entry = e }))) o ≡ Some (record { slot = index; entry = e }) → e.id ≡ 0xFFFFFFFF → ⊥
    never None h special = cc
    never (Some x) h special =
        let parts = from_cond (is_special x) (record { slot = slot.index; entry = x }) (record { slot = index; entry = e }) h in
        let same : x ≡ e = ap (λ (f : SlotEntry). f.entry) parts.1 in
        let id : x.id ≡ 0xFFFFFFFF = ap (λ (z : ZEntry). z.id) same ∙ special in
        false≢true (sym parts.0 ∙ eq-eqb x.id 0xFFFFFFFF id)

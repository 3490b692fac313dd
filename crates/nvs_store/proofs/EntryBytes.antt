-- An entry is read as it was written, and one that was cut short does not count.
use Rattle.std.proofs.Common.{◌≡◌, ℕ, ◌+◌, ◌*◌, ◌%◌, ◌^◌, ◌<◌, ◌≤◌, Bool, true, false, not, ◌&&◌, cond, eqb, leb, ◌⊎◌, ◌/◌, List, [], ◌∷◌, ◌++◌, length, take, drop, Option, Some, None, refl, ap, ◌∙◌, inl, inr, append_assoc, arith, eq-eqb}
use Rattle.std.specs.Prelude.{slice_index}
use Rattle.std.specs.Option.{option_and_then, option_map_or}
use Rattle.std.specs.Int.{w16, to_le_bytes}
use Rattle.std.proofs.lemmas.Bool.{and_left, and_right, cases_eq, ne_eqb, lt-leb, not_from_false, and_from, le-leb}
use Rattle.crc8_entry.specs.Crc.{crc}
use Rattle.nvs_store.specs.declared.entry.Entry.{Entry}
use Rattle.nvs_store.specs.declared.scan.SlotEntry.{SlotEntry}
use Rattle.nvs_store.specs.Entries.{fields, encoded, entry_of, decoded}
use Rattle.flash_map.specs.Units.{is_erased}
use Rattle.item_laws.specs.Slots.{Slot}
use Rattle.nvs_store.specs.Sector.{counts, counting_entry, is_gc_done, is_used}

pub record IsEntry (e : Entry) : Type 0 where
  pub id : e.id < 2 ^ 16
  pub offset : e.offset < 2 ^ 16
  pub len : e.len < 2 ^ 16

pub length-encoded : (e : Entry) → length (encoded e) ≡ 8
unfolding encoded
length-encoded e = refl

same_number : (n : ℕ) → n < 2 ^ 16 → n % 256 + n / 256 % 256 * 256 ≡ n
same_number n lt = omega arith

entry_of-encoded : (e : Entry) (rest : List ℕ) → IsEntry e → entry_of (encoded e ++ rest) ≡ e
unfolding encoded
entry_of-encoded e rest h =
    let i = same_number e.id h.id in
    let o = same_number e.offset h.offset in
    let l = same_number e.len h.len in
    ap (λ (x : ℕ). record e { id = x; offset = e.offset % 256 + e.offset / 256 % 256 * 256; len = e.len % 256 + e.len / 256 % 256 * 256 }) i
    ∙ ap (λ (x : ℕ). record e { offset = x; len = e.len % 256 + e.len / 256 % 256 * 256 }) o ∙ ap (λ (x : ℕ). record e { len = x }) l

pub decoded-encoded : (e : Entry) (rest : List ℕ) → IsEntry e → decoded (encoded e ++ rest) ≡ Some e
unfolding decoded encoded
decoded-encoded e rest h =
    let c = crc 0xFF (fields e) in
    let same : eqb (crc 0xFF (fields e)) (crc 0xFF (fields e)) ≡ true = eq-eqb (crc 0xFF (fields e)) (crc 0xFF (fields e)) refl in
    ap (λ (b : Bool). cond b (Some (entry_of (encoded e ++ rest))) None) same ∙ ap (λ (x : Entry). Some x) (entry_of-encoded e rest h)

cond_some_cases : {A : Type 0} (b : Bool) (x : A) → (cond b (Some x) None ≡ None) ⊎ (cond b (Some x) None ≡ Some x)
cond_some_cases true x = inr refl
cond_some_cases false x = inl refl

pub decoded_cases : (bytes : List ℕ) → (decoded bytes ≡ None) ⊎ (decoded bytes ≡ Some (entry_of bytes))
unfolding decoded
decoded_cases bytes = cond_some_cases (eqb (crc 0xFF (take 7 bytes)) (slice_index bytes 7)) (entry_of bytes)

-- the first four bytes of an entry, where the others are still erased
abbrev pub cut_entry : Entry → List ℕ
cut_entry e = take 4 (encoded e) ++ 0xFF ∷ 0xFF ∷ 0xFF ∷ 0xFF ∷ []

entry_of-cut : (e : Entry) → (entry_of (cut_entry e)).len ≡ 65535
unfolding encoded
entry_of-cut e = refl

counts-long : (unit start : ℕ) (e : Entry) → start < 65535 → e.len ≡ 65535 → counts unit start e ≡ false
counts-long unit start e low long = and_right (not (eqb e.id 65535) && eqb (e.offset % unit) 0) (leb (e.offset + e.len) start) (lt-leb _ _ (omega arith))

abbrev found_in : ℕ → Slot → Option Entry → Option SlotEntry
found_in unit slot o = option_and_then (λ e. cond (counts unit slot.start e) (Some (record { slot = slot.index; entry = e })) None) o

pub counting_entry-is : (unit : ℕ) (slot : Slot) (o : Option Entry) → decoded slot.bytes ≡ o → counting_entry unit slot ≡ found_in unit slot o
unfolding counting_entry
counting_entry-is unit slot o is = ap (found_in unit slot) is

pub counting_entry-cut : (unit : ℕ) (slot : Slot) (e : Entry) → slot.start < 65535 → slot.bytes ≡ cut_entry e → counting_entry unit slot ≡ None
counting_entry-cut unit slot e low is =
    elim (decoded_cases slot.bytes) [
      | inl none ↦ counting_entry-is unit slot None none
      | inr some ↦
          let long : (entry_of slot.bytes).len ≡ 65535 = ap (λ (b : List ℕ). (entry_of b).len) is ∙ entry_of-cut e in
          counting_entry-is unit slot (Some (entry_of slot.bytes)) some
          ∙ ap (λ (b : Bool). cond b (Some (record { slot = slot.index; entry = entry_of slot.bytes })) None) (counts-long unit slot.start (entry_of slot.bytes) low long)
    ]

abbrev is_done_in : Option Entry → Bool
is_done_in o = option_map_or (λ e. eqb e.id 65535 && eqb e.len 0) o false

pub is_gc_done-is : (slot : Slot) (o : Option Entry) → decoded slot.bytes ≡ o → is_gc_done slot ≡ is_done_in o
unfolding is_gc_done
is_gc_done-is slot o is = ap is_done_in is

pub is_gc_done-cut : (slot : Slot) (e : Entry) → slot.bytes ≡ cut_entry e → is_gc_done slot ≡ false
is_gc_done-cut slot e is =
    elim (decoded_cases slot.bytes) [
      | inl none ↦ is_gc_done-is slot None none
      | inr some ↦
          let long : (entry_of slot.bytes).len ≡ 65535 = ap (λ (b : List ℕ). (entry_of b).len) is ∙ entry_of-cut e in
          is_gc_done-is slot (Some (entry_of slot.bytes)) some ∙ and_right (eqb (entry_of slot.bytes).id 65535) (eqb (entry_of slot.bytes).len 0) (ne_eqb _ _ (λ z. omega (arith, z)))
    ]

-- an entry's id is not FFFF, so its slot is used as soon as the id stands there
pub is_used-id : (slot : Slot) (e : Entry) (rest : List ℕ) → e.id < 65535 → slot.bytes ≡ to_le_bytes w16 e.id ++ rest → is_used slot ≡ true
is_used-id slot e rest lt is =
    let not_erased : (eqb (e.id % 256) 255 && (eqb (e.id / 256 % 256) 255 && is_erased rest)) ≡ false =
    elim (cases_eq (e.id % 256) 255) [
      | inl low ↦ and_right (eqb (e.id % 256) 255) (eqb (e.id / 256 % 256) 255 && is_erased rest) (and_left (eqb (e.id / 256 % 256) 255) (is_erased rest) (ne_eqb _ _ (λ high. omega (arith, high))))
      | inr other ↦ and_left (eqb (e.id % 256) 255) (eqb (e.id / 256 % 256) 255 && is_erased rest) (ne_eqb _ _ other)
    ] in
    ap (λ (b : List ℕ). not (is_erased b)) is ∙ not_from_false _ not_erased

-- the id stands first
encoded-id : (e : Entry) → encoded e ≡ to_le_bytes w16 e.id ++ drop 2 (encoded e)
unfolding encoded
encoded-id e = refl

pub is_used-encoded : (slot : Slot) (e : Entry) (rest : List ℕ) → e.id < 65535 → slot.bytes ≡ encoded e ++ rest → is_used slot ≡ true
is_used-encoded slot e rest lt is = is_used-id slot e (drop 2 (encoded e) ++ rest) lt (is ∙ ap (λ (bytes : List ℕ). bytes ++ rest) (encoded-id e) ∙ append_assoc (to_le_bytes w16 e.id) (drop 2 (encoded e)) rest)

cut-id : (e : Entry) → cut_entry e ≡ to_le_bytes w16 e.id ++ drop 2 (cut_entry e)
unfolding encoded
cut-id e = refl

pub is_used-cut : (slot : Slot) (e : Entry) → e.id < 65535 → slot.bytes ≡ cut_entry e → is_used slot ≡ true
is_used-cut slot e lt is = is_used-id slot e (drop 2 (cut_entry e)) lt (is ∙ cut-id e)

pub length-cut : (e : Entry) → length (take 4 (encoded e)) ≡ 4
unfolding encoded
length-cut e = refl

-- eight bytes of which the first four were put
pub take-cut : (e : Entry) (rest : List ℕ) → take 4 rest ≡ 0xFF ∷ 0xFF ∷ 0xFF ∷ 0xFF ∷ [] → take 8 (take 4 (encoded e) ++ rest) ≡ cut_entry e
unfolding encoded
take-cut e rest erased = ap (λ (bytes : List ℕ). take 4 (encoded e) ++ bytes) erased

pub counts-ordinary : (unit start : ℕ) (e : Entry) → e.id < 65535 → e.offset % unit ≡ 0 → e.offset + e.len ≤ start → counts unit start e ≡ true
counts-ordinary unit start e id aligned under =
    and_from _ _ (and_from _ _ (not_from_false _ (ne_eqb e.id 65535 (λ z. omega (arith, z)))) (eq-eqb (e.offset % unit) 0 aligned)) (le-leb (e.offset + e.len) start under)

pub counting_entry-encoded : (unit : ℕ) (slot : Slot) (e : Entry) (rest : List ℕ) → IsEntry e → counts unit slot.start e ≡ true → slot.bytes ≡ encoded e ++ rest → counting_entry unit slot ≡ Some (record { slot = slot.index; entry = e })
counting_entry-encoded unit slot e rest h counted is =
    counting_entry-is unit slot (Some e) (ap decoded is ∙ decoded-encoded e rest h)
    ∙ ap (λ (b : Bool). cond b (Some (record { slot = slot.index; entry = e })) None) counted

pub is_gc_done-encoded : (slot : Slot) (e : Entry) (rest : List ℕ) → IsEntry e → e.id < 65535 → slot.bytes ≡ encoded e ++ rest → is_gc_done slot ≡ false
is_gc_done-encoded slot e rest h id is = is_gc_done-is slot (Some e) (ap decoded is ∙ decoded-encoded e rest h) ∙ and_left (eqb e.id 65535) (eqb e.len 0) (ne_eqb e.id 65535 (λ z. omega (arith, z)))

-- Entries and their bytes.
use Rattle.std.proofs.Common.{◌≡◌, ℕ, ◌-◌, ◌%◌, ◌/◌, ◌^◌, ◌<◌, ◌≤◌, Bool, true, false, ◌&&◌, cond, eqb, leb, List, [], ◌∷◌, ◌++◌, length, get_or, take, drop, replicate, Some, None, refl, sym, ap, ◌∙◌, inl, inr, arith, eq-eqb}
use Rattle.std.specs.Int.{w16, w32, to_le_bytes, from_le_bytes}
use Rattle.std.proofs.lemmas.List.{take_all, length-append, length-replicate, take-append-le}
use Rattle.std.proofs.lemmas.List.FromFn.{fill_by_all}
use Rattle.std.proofs.lemmas.Bool.{ne_eqb, and_left, cases_Bool, leb-true, cond-true, cond-false}
use Rattle.crc8_entry.specs.Crc.{crc, extended, bits_of}
use Rattle.zms_cycle.specs.declared.entry.ZEntry.{ZEntry}
use Rattle.zms_cycle.specs.Entries.{fields, encoded, entry_of, decoded, fill, is_special, is_empty, is_close, is_done, empty_entry, close_entry, done_entry, value_entry}

-- a list of eight, cell by cell
pub eight_cells : (xs : List ℕ) → length xs ≡ 8
    → get_or xs 0 0 ∷ get_or xs 1 0 ∷ get_or xs 2 0 ∷ get_or xs 3 0 ∷ get_or xs 4 0 ∷ get_or xs 5 0 ∷ get_or xs 6 0 ∷ get_or xs 7 0 ∷ [] ≡ xs
eight_cells xs long = sym (fill_by_all (λ (k : ℕ). get_or xs k 0) xs 8 0 long (λ k lt. refl))

-- the sixteen bytes that the code puts together
pub encoded_from : (e : ZEntry) (r : ℕ) (len id : List ℕ) → length e.tail ≡ 8 → len ≡ to_le_bytes w16 e.len → id ≡ to_le_bytes w32 e.id
    → r ≡ crc 255 (e.cycle ∷ get_or len 0 0 ∷ get_or len 1 0 ∷ get_or id 0 0 ∷ get_or id 1 0 ∷ get_or id 2 0 ∷ get_or id 3 0 ∷ get_or e.tail 0 0 ∷ get_or e.tail 1 0 ∷ get_or e.tail 2 0 ∷ get_or e.tail 3 0 ∷ get_or e.tail 4 0 ∷ get_or e.tail 5 0 ∷ get_or e.tail 6 0 ∷ get_or e.tail 7 0 ∷ [])
    → r ∷ e.cycle ∷ get_or len 0 0 ∷ get_or len 1 0 ∷ get_or id 0 0 ∷ get_or id 1 0 ∷ get_or id 2 0 ∷ get_or id 3 0 ∷ get_or e.tail 0 0 ∷ get_or e.tail 1 0 ∷ get_or e.tail 2 0 ∷ get_or e.tail 3 0 ∷ get_or e.tail 4 0 ∷ get_or e.tail 5 0 ∷ get_or e.tail 6 0 ∷ get_or e.tail 7 0 ∷ [] ≡ encoded e
unfolding encoded
encoded_from e r len id long len-is id-is r-is =
    let tail = eight_cells e.tail long in
    let covered : e.cycle ∷ get_or len 0 0 ∷ get_or len 1 0 ∷ get_or id 0 0 ∷ get_or id 1 0 ∷ get_or id 2 0 ∷ get_or id 3 0 ∷ get_or e.tail 0 0 ∷ get_or e.tail 1 0 ∷ get_or e.tail 2 0 ∷ get_or e.tail 3 0 ∷ get_or e.tail 4 0 ∷ get_or e.tail 5 0 ∷ get_or e.tail 6 0 ∷ get_or e.tail 7 0 ∷ [] ≡ fields e =
    ap (λ (xs : List ℕ). e.cycle ∷ get_or len 0 0 ∷ get_or len 1 0 ∷ get_or id 0 0 ∷ get_or id 1 0 ∷ get_or id 2 0 ∷ get_or id 3 0 ∷ xs) tail
    ∙ ap (λ (xs : List ℕ). e.cycle ∷ get_or xs 0 0 ∷ get_or xs 1 0 ∷ get_or id 0 0 ∷ get_or id 1 0 ∷ get_or id 2 0 ∷ get_or id 3 0 ∷ e.tail) len-is
    ∙ ap (λ (xs : List ℕ). e.cycle ∷ e.len % 256 ∷ e.len / 256 % 256 ∷ get_or xs 0 0 ∷ get_or xs 1 0 ∷ get_or xs 2 0 ∷ get_or xs 3 0 ∷ e.tail) id-is in
    ap (λ (xs : List ℕ). r ∷ xs) covered ∙ ap (λ (n : ℕ). n ∷ fields e) (r-is ∙ ap (crc 255) covered)

-- what sixteen bytes can hold
pub record IsEntry (e : ZEntry) : Type 0 where
  pub len : e.len < 2 ^ 16
  pub id : e.id < 2 ^ 32
  pub tail : length e.tail ≡ 8

pub length-encoded : (e : ZEntry) → IsEntry e → length (encoded e) ≡ 16
unfolding encoded
length-encoded e h = let eight = h.tail in omega arith

two_bytes : (n : ℕ) → n < 2 ^ 16 → from_le_bytes w16 (to_le_bytes w16 n) ≡ n
two_bytes n lt = omega arith

pub four_bytes : (n : ℕ) → n < 2 ^ 32 → from_le_bytes w32 (to_le_bytes w32 n) ≡ n
four_bytes n lt = omega arith

entry_of-encoded : (e : ZEntry) → IsEntry e → entry_of (encoded e) ≡ e
unfolding encoded
entry_of-encoded e h =
    ap (λ (x : ℕ). record e { len = x; id = from_le_bytes w32 (to_le_bytes w32 e.id); tail = take 8 e.tail }) (two_bytes e.len h.len)
    ∙ ap (λ (x : ℕ). record e { id = x; tail = take 8 e.tail }) (four_bytes e.id h.id) ∙ ap (λ (xs : List ℕ). record e { tail = xs }) (take_all 8 e.tail (let eight = h.tail in omega arith))

pub decoded-encoded : (e : ZEntry) → IsEntry e → decoded (encoded e) ≡ Some e
unfolding decoded encoded
decoded-encoded e h =
    let same : eqb (crc 255 (fields e)) (crc 255 (fields e)) ≡ true = eq-eqb (crc 255 (fields e)) (crc 255 (fields e)) refl in
    ap (λ (b : Bool). cond b (Some (entry_of (encoded e))) None) same ∙ ap (λ (x : ZEntry). Some x) (entry_of-encoded e h)

-- the fill unit and an erased unit never check
pub decoded-fill : decoded fill ≡ None
unfolding decoded fill crc extended bits_of
decoded-fill = refl

pub decoded-erased : decoded (replicate 16 255) ≡ None
unfolding decoded crc extended bits_of
decoded-erased = refl

pub length-fill : length fill ≡ 16
unfolding fill
length-fill = refl

-- Entries that the code puts.

pub value_entry-short : (cycle id offset : ℕ) (bytes : List ℕ) → leb (length bytes) 8 ≡ true → (value_entry cycle id bytes offset).tail ≡ bytes ++ replicate (8 - length bytes) 0
value_entry-short cycle id offset bytes short = cond-true (leb (length bytes) 8) (bytes ++ replicate (8 - length bytes) 0) (to_le_bytes w32 offset ++ replicate 4 0) short

pub value_entry-long : (cycle id offset : ℕ) (bytes : List ℕ) → leb (length bytes) 8 ≡ false → (value_entry cycle id bytes offset).tail ≡ to_le_bytes w32 offset ++ replicate 4 0
value_entry-long cycle id offset bytes long = cond-false (leb (length bytes) 8) (bytes ++ replicate (8 - length bytes) 0) (to_le_bytes w32 offset ++ replicate 4 0) long

pub IsEntry-value : (cycle id offset : ℕ) (bytes : List ℕ) → id < 2 ^ 32 → length bytes < 2 ^ 16 → IsEntry (value_entry cycle id bytes offset)
IsEntry-value cycle id offset bytes id-small small = record {
  len = small;
  id = id-small;
  tail = elim (cases_Bool (leb (length bytes) 8)) [
    | inl short ↦ ap length (value_entry-short cycle id offset bytes short) ∙ (let le = leb-true (length bytes) 8 short in omega (arith, length-append bytes (replicate (8 - length bytes) 0), length-replicate {A = ℕ} (8 - length bytes) 0))
    | inr long ↦ ap length (value_entry-long cycle id offset bytes long)
  ];
}

pub IsEntry-done : (cycle end : ℕ) → IsEntry (done_entry cycle end)
IsEntry-done cycle end = record { len = omega arith; id = omega arith; tail = refl }

pub IsEntry-close : (cycle place : ℕ) → IsEntry (close_entry cycle place)
IsEntry-close cycle place = record { len = omega arith; id = omega arith; tail = refl }

pub IsEntry-empty : (cycle : ℕ) → IsEntry (empty_entry cycle)
IsEntry-empty cycle = record { len = omega arith; id = omega arith; tail = refl }

pub done-is_done : (cycle end : ℕ) → is_done (done_entry cycle end) ≡ true
unfolding is_done
done-is_done cycle end = refl

pub close-is_close : (cycle place : ℕ) → is_close (close_entry cycle place) ≡ true
unfolding is_close
close-is_close cycle place = refl

pub empty-is_empty : (cycle : ℕ) → is_empty (empty_entry cycle) ≡ true
unfolding is_empty
empty-is_empty cycle = refl

pub empty-not_close : (cycle : ℕ) → is_close (empty_entry cycle) ≡ false
unfolding is_close
empty-not_close cycle = refl

-- an ordinary entry is none of the special ones
pub ordinary-not_special : (e : ZEntry) → e.id < 0xFFFFFFFF → is_special e ≡ false
ordinary-not_special e lt = ne_eqb e.id 0xFFFFFFFF (λ z. omega (arith, z))

pub ordinary-not_done : (e : ZEntry) → is_special e ≡ false → is_done e ≡ false
unfolding is_done
ordinary-not_done e ordinary = and_left (is_special e && eqb e.len 0) (eqb (from_le_bytes w32 (drop 4 e.tail)) 2) (and_left (is_special e) (eqb e.len 0) ordinary)

-- the value of an entry that holds it itself
pub take-short : (bytes : List ℕ) → length bytes ≤ 8 → take (length bytes) (bytes ++ replicate (8 - length bytes) 0) ≡ bytes
take-short bytes short = take-append-le (length bytes) bytes (replicate (8 - length bytes) 0) (omega arith) ∙ take_all (length bytes) bytes (omega arith)

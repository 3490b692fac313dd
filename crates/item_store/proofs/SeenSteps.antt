-- What a set of bits says of the ids of some entries, one entry after another.
use Rattle.std.proofs.Common.{◌≡◌, ◌≢◌, ℕ, ◌+◌, ◌-◌, ◌*◌, ◌/◌, ◌%◌, ◌^◌, ◌<◌, ◌≤◌, Bool, true, false, ◌||◌, cond, eqb, List, [], ◌∷◌, ◌++◌, length, map, Option, Some, None, refl, sym, ap, subst, ◌∙◌, inl, inr, append_assoc, arith}
use Rattle.std.specs.Prelude.{bit_or, replicate, slice_set, slice_index}
use Rattle.std.specs.Int.{bit_at, w8}
use Rattle.std.specs.List.{filter_map, flat_map, list_any, range_with_len}
use Rattle.std.specs.Option.{option_map, option_to_list}
use Rattle.std.proofs.lemmas.Bool.{cases_eq, eq-eqb, ne_eqb, le-ltb, lt-ltb}
use Rattle.std.proofs.lemmas.List.{append-nil, get_or-replicate, get_or-set_same, get_or-set_other}
use Rattle.std.proofs.lemmas.List.Concat.{flat_map-append, flat_map-cons}
use Rattle.std.proofs.lemmas.List.Elements.{All-nil, All-cons, All-append}
use Rattle.std.proofs.lemmas.List.Folds.{list_any-append}
use Rattle.std.proofs.lemmas.Grind.{get_or-set_at}
use Rattle.std.proofs.lemmas.Nat.Bits.{bit_at-zero, bit_at_set_same, bit_at_set_other}
use Rattle.flash_map.specs.Area.{sector_at}
use Rattle.item_laws.specs.Area.{counts_at}
use Rattle.item_laws.specs.Live.{counted_in}
use Rattle.item_laws.proofs.LastLemmas.{among}
use Rattle.item_laws.proofs.Places.{range-append, range_one}
use Rattle.item_store.specs.declared.entry.Entry.{Entry}
use Rattle.item_store.specs.declared.entry.Placed.{Placed}
use Rattle.item_store.specs.declared.seen.Seen.{Seen}
use Rattle.item_store.specs.SectorFormat.{SectorFormat, placed_at, slots}
use Rattle.item_store.specs.Seen.{key_of, is_other, is_long, has_bit, HasSeen, behind}
use Rattle.item_store.proofs.OlderSteps.{placed_to, to_more}

or-comm : (a b : Bool) → (a || b) ≡ (b || a)
or-comm true true = refl
or-comm true false = refl
or-comm false true = refl
or-comm false false = refl

pub or-false : (a : Bool) → (a || false) ≡ a
or-false true = refl
or-false false = refl

pub or-true : (a : Bool) → (a || true) ≡ true
or-true true = refl
or-true false = refl

-- ---- one bit

-- a bit more is set
pub bit_more : (old new : List ℕ) (n m : ℕ) → has_bit new n ≡ true → ((i : ℕ) → i ≢ n → has_bit new i ≡ has_bit old i) → has_bit new m ≡ (has_bit old m || eqb n m)
bit_more old new n m here others =
    elim (cases_eq n m) [
      | inl same ↦ ap (has_bit new) (sym same) ∙ here ∙ sym (ap (λ (t : Bool). has_bit old m || t) (eq-eqb n m same) ∙ or-true (has_bit old m))
      | inr apart ↦ others m (λ (e : m ≡ n). apart (sym e)) ∙ sym (ap (λ (t : Bool). has_bit old m || t) (ne_eqb n m apart) ∙ or-false (has_bit old m))
    ]

-- no bit is set in bytes of 0
pub no_bit : (bytes n : ℕ) → n / 8 < bytes → has_bit (replicate bytes 0) n ≡ false
no_bit bytes n inside =
    let none : slice_index (replicate bytes 0) (n / 8) ≡ 0 = get_or-replicate bytes (n / 8) 0 0 inside in
    ap (λ (x : ℕ). eqb (bit_at x (n % 8)) 1) none ∙ ap (λ (x : ℕ). eqb x 1) (bit_at-zero (n % 8))

pub set_here : (bytes : List ℕ) (n : ℕ) → n / 8 < length bytes → has_bit (slice_set bytes (n / 8) (bit_or (slice_index bytes (n / 8)) (1 * 2 ^ (n % 8) % 256))) n ≡ true
set_here bytes n inside =
    let b = slice_index bytes (n / 8) in
    ap (λ (x : ℕ). eqb (bit_at x (n % 8)) 1) (get_or-set_same bytes (n / 8) (bit_or (slice_index bytes (n / 8)) (1 * 2 ^ (n % 8) % 256)) 0 inside)
    ∙ ap (λ (x : ℕ). eqb x 1) (bit_at_set_same w8 (slice_index bytes (n / 8)) (n % 8) (omega arith))

pub set_others : (bytes : List ℕ) (n : ℕ) → n / 8 < length bytes → (m : ℕ) → m ≢ n → has_bit (slice_set bytes (n / 8) (bit_or (slice_index bytes (n / 8)) (1 * 2 ^ (n % 8) % 256))) m ≡ has_bit bytes m
set_others bytes n inside m other =
    let y = bit_or (slice_index bytes (n / 8)) (1 * 2 ^ (n % 8) % 256) in
    elim (cases_eq (m / 8) (n / 8)) [
      | inl same ↦
          let apart : m % 8 ≢ n % 8 = λ (e : m % 8 ≡ n % 8). other (let own : m ≡ n = omega arith in own) in
          ap (λ (x : ℕ). eqb (bit_at x (m % 8)) 1) (get_or-set_at bytes (n / 8) (m / 8) (bit_or (slice_index bytes (n / 8)) (1 * 2 ^ (n % 8) % 256)) 0 same inside)
          ∙ ap (λ (x : ℕ). eqb x 1) (bit_at_set_other w8 (slice_index bytes (n / 8)) (n % 8) (omega arith) (m % 8) apart)
          ∙ ap (λ (i : ℕ). eqb (bit_at (slice_index bytes i) (m % 8)) 1) (sym same)
      | inr apart ↦ ap (λ (x : ℕ). eqb (bit_at x (m % 8)) 1) (get_or-set_other bytes (n / 8) (m / 8) (bit_or (slice_index bytes (n / 8)) (1 * 2 ^ (n % 8) % 256)) 0 apart)
    ]

-- ---- one entry more

pub seen_none : (limit : ℕ) → HasSeen limit (record { bits = replicate 0x2000 0; mixed = false; long = false }) []
seen_none limit = record { bit = λ key below. no_bit 0x2000 key (omega arith); others = refl; longs = refl; known = All-nil (λ (p : Placed). p.id < limit) }

abbrev pub Noted : List ℕ → List ℕ → ℕ → Type 0
Noted old new id = (key : ℕ) → key < 2 ^ 16 → has_bit new key ≡ (has_bit old key || eqb (key_of id) key)

-- a flag that says whether an entry of these passes a test: the entry comes behind them, or in front
flag_push : (f : Placed → Bool) (flag more : Bool) (before : List Placed) (p : Placed) → more ≡ (flag || f p) → flag ≡ list_any f before → more ≡ list_any f (before ++ p ∷ [])
flag_push f flag more before p is so_far =
    is ∙ ap (λ (t : Bool). t || f p) so_far ∙ ap (λ (t : Bool). list_any f before || t) (sym (or-false (f p))) ∙ sym (list_any-append f before (p ∷ []))

flag_prefix : (f : Placed → Bool) (flag more : Bool) (later : List Placed) (p : Placed) → more ≡ (flag || f p) → flag ≡ list_any f later → more ≡ list_any f (p ∷ later)
flag_prefix f flag more later p is so_far = is ∙ ap (λ (t : Bool). t || f p) so_far ∙ or-comm (list_any f later) (f p)

pub seen_push : (limit : ℕ) (old new : Seen) (before : List Placed) (p : Placed) → p.id < limit → Noted old.bits new.bits p.id → new.mixed ≡ (old.mixed || is_other p) → new.long ≡ (old.long || is_long p)
    → HasSeen limit old before → HasSeen limit new (before ++ p ∷ [])
seen_push limit old new before p small noted mixed long seen = record {
  bit = λ key below. flag_push (λ q. eqb (key_of q.id) key) (has_bit old.bits key) (has_bit new.bits key) before p (noted key below) (seen.bit key below);
  others = flag_push is_other old.mixed new.mixed before p mixed seen.others;
  longs = flag_push is_long old.long new.long before p long seen.longs;
  known = All-append (λ (q : Placed). q.id < limit) before (p ∷ []) seen.known (All-cons (λ (q : Placed). q.id < limit) p [] small (All-nil (λ (q : Placed). q.id < limit)));
}

seen_prefix : (limit : ℕ) (old new : Seen) (later : List Placed) (p : Placed) → p.id < limit → Noted old.bits new.bits p.id → new.mixed ≡ (old.mixed || is_other p) → new.long ≡ (old.long || is_long p)
    → HasSeen limit old later → HasSeen limit new (p ∷ later)
seen_prefix limit old new later p small noted mixed long seen = record {
  bit = λ key below. flag_prefix (λ q. eqb (key_of q.id) key) (has_bit old.bits key) (has_bit new.bits key) later p (noted key below) (seen.bit key below);
  others = flag_prefix is_other old.mixed new.mixed later p mixed seen.others;
  longs = flag_prefix is_long old.long new.long later p long seen.longs;
  known = All-cons (λ (q : Placed). q.id < limit) p later small seen.known;
}

-- behind others
pub seen_same : (P : List Placed → Type 0) (before : List Placed) (o : Option Placed) → None ≡ o → P before → P (before ++ option_to_list o)
seen_same P before o is seen = subst (λ (o : Option Placed). P (before ++ option_to_list o)) is (subst P (sym (append-nil before)) seen)

pub seen_some : (P : List Placed → Type 0) (before : List Placed) (p : Placed) (o : Option Placed) → Some p ≡ o → P (before ++ p ∷ []) → P (before ++ option_to_list o)
seen_some P before p o is seen = subst (λ (o : Option Placed). P (before ++ option_to_list o)) is seen

-- before others
pub seen_before : (limit : ℕ) (old new : Seen) (later : List Placed) (p : Placed) (o : Option Placed) → Some p ≡ o → p.id < limit → Noted old.bits new.bits p.id → new.mixed ≡ (old.mixed || is_other p) → new.long ≡ (old.long || is_long p)
    → HasSeen limit old later → HasSeen limit new (option_to_list o ++ later)
seen_before limit old new later p o there small noted mixed long seen = subst (λ (o : Option Placed). HasSeen limit new (option_to_list o ++ later)) there (seen_prefix limit old new later p small noted mixed long seen)

pub seen_still : (limit : ℕ) (seen : Seen) (later : List Placed) (o : Option Placed) → None ≡ o → HasSeen limit seen later → HasSeen limit seen (option_to_list o ++ later)
seen_still limit seen later o is noted = subst (λ (o : Option Placed). HasSeen limit seen (option_to_list o ++ later)) is noted

-- ---- slot by slot, and sector by sector

module _ (k : SectorFormat) where
  pub slot_list : (b : List ℕ) (place slot : ℕ) → map (placed_at place) (filter_map (k.in_slot b) (slot ∷ [])) ≡ option_to_list (option_map (placed_at place) (k.in_slot b slot))
  slot_list b place slot = by_entry (k.in_slot b slot) refl
    where
      by_entry : (o : Option Entry) → k.in_slot b slot ≡ o → map (placed_at place) (filter_map (k.in_slot b) (slot ∷ [])) ≡ option_to_list (option_map (placed_at place) (k.in_slot b slot))
      by_entry None is = rw is refl
      by_entry (Some e) is = rw is refl

  slot_more : (b : List ℕ) (place n slot : ℕ) → slot ≡ k.first + n → placed_to k b place n ++ option_to_list (option_map (placed_at place) (k.in_slot b slot)) ≡ placed_to k b place (n + 1)
  slot_more b place n slot at = ap (λ (xs : List Placed). placed_to k b place n ++ xs) (sym (slot_list b place slot)) ∙ sym (to_more k b place n slot at)

  pub seen_slot : (P : List Placed → Type 0) (before : List Placed) (b : List ℕ) (place n m slot : ℕ) → slot ≡ k.first + n → m ≡ n + 1
      → P ((before ++ placed_to k b place n) ++ option_to_list (option_map (placed_at place) (k.in_slot b slot))) → P (before ++ placed_to k b place m)
  seen_slot P before b place n m slot at next seen =
      subst P
      (append_assoc before (placed_to k b place n) (option_to_list (option_map (placed_at place) (k.in_slot b slot)))
      ∙ ap (λ (xs : List Placed). before ++ xs) (slot_more b place n slot at ∙ ap (placed_to k b place) (sym next))) seen

  counted_is : (sectors : List (List ℕ)) (current place : ℕ) (t : Bool) → counts_at k.reading sectors current place ≡ t → cond t (map (placed_at place) ((slots k).entries (sector_at sectors place))) [] ≡ counted_in (slots k) sectors current place
  counted_is sectors current place t is = sym (ap (λ (t : Bool). cond t (map (placed_at place) ((slots k).entries (sector_at sectors place))) []) is)

  pub seen_counted : (P : List Placed → Type 0) (before : List Placed) (sectors : List (List ℕ)) (current place : ℕ) → counts_at k.reading sectors current place ≡ true
      → P (before ++ map (placed_at place) ((slots k).entries (sector_at sectors place))) → P (before ++ counted_in (slots k) sectors current place)
  seen_counted P before sectors current place counts seen = subst (λ (xs : List Placed). P (before ++ xs)) (counted_is sectors current place true counts) seen

  pub seen_passed : (P : List Placed → Type 0) (before : List Placed) (sectors : List (List ℕ)) (current place : ℕ) → counts_at k.reading sectors current place ≡ false → P before → P (before ++ counted_in (slots k) sectors current place)
  seen_passed P before sectors current place passed seen =
      subst (λ (xs : List Placed). P (before ++ xs)) (counted_is sectors current place false passed) (subst P (sym (append-nil before)) seen)

  among_more : (sectors : List (List ℕ)) (current first place : ℕ) → first ≤ place → among (slots k) sectors current first (place - first) ++ counted_in (slots k) sectors current place ≡ among (slots k) sectors current first (place + 1 - first)
  among_more sectors current first place low =
      let width : place + 1 - first ≡ place - first + 1 = omega arith in
      let at : first + (place - first) ≡ place = omega arith in
      sym (ap (λ (n : ℕ). among (slots k) sectors current first n) width
      ∙ ap (flat_map (counted_in (slots k) sectors current)) (range-append first (place - first) 1 ∙ ap (λ (xs : List ℕ). range_with_len first (place - first) ++ xs) (range_one (first + (place - first)) ∙ ap (λ (j : ℕ). j ∷ []) at))
      ∙ flat_map-append (counted_in (slots k) sectors current) (range_with_len first (place - first)) (place ∷ [])
      ∙ ap (λ (xs : List Placed). among (slots k) sectors current first (place - first) ++ xs) (flat_map-cons (counted_in (slots k) sectors current) place [] ∙ append-nil (counted_in (slots k) sectors current place)))

  pub seen_sector : (P : List Placed → Type 0) (before : List Placed) (sectors : List (List ℕ)) (current first place : ℕ) → first ≤ place
      → P ((before ++ among (slots k) sectors current first (place - first)) ++ counted_in (slots k) sectors current place) → P (before ++ among (slots k) sectors current first (place + 1 - first))
  seen_sector P before sectors current first place low seen =
      subst P
      (append_assoc before (among (slots k) sectors current first (place - first)) (counted_in (slots k) sectors current place) ∙ ap (λ (xs : List Placed). before ++ xs) (among_more sectors current first place low)) seen

  -- a place up to the open one
  pub behind_near : (sectors : List (List ℕ)) (current place : ℕ) → place ≤ current → among (slots k) sectors current (place + 1) (current + 1 - (place + 1)) ≡ behind k sectors current place
  behind_near sectors current place le =
      let width : current + 1 - (place + 1) ≡ current - place = omega arith in
      ap (λ (n : ℕ). among (slots k) sectors current (place + 1) n) width
      ∙ sym (ap (λ (t : Bool). flat_map (counted_in (slots k) sectors current) (cond t (range_with_len (place + 1) (length sectors - (place + 1)) ++ range_with_len 0 (current + 1)) (range_with_len (place + 1) (current - place)))) (le-ltb current place le))

  -- one after it
  pub behind_far : (sectors : List (List ℕ)) (current place count : ℕ) → current < place → count ≡ length sectors
      → among (slots k) sectors current (place + 1) (count - (place + 1)) ++ among (slots k) sectors current 0 (current + 1 - 0) ≡ behind k sectors current place
  behind_far sectors current place count lt long =
      let width : current + 1 - 0 ≡ current + 1 = omega arith in
      ap (λ (n : ℕ). among (slots k) sectors current (place + 1) (count - (place + 1)) ++ among (slots k) sectors current 0 n) width
      ∙ ap (λ (n : ℕ). among (slots k) sectors current (place + 1) (n - (place + 1)) ++ among (slots k) sectors current 0 (current + 1)) long
      ∙ sym (ap (λ (t : Bool). flat_map (counted_in (slots k) sectors current) (cond t (range_with_len (place + 1) (length sectors - (place + 1)) ++ range_with_len 0 (current + 1)) (range_with_len (place + 1) (current - place)))) (lt-ltb current place lt)
      ∙ flat_map-append (counted_in (slots k) sectors current) (range_with_len (place + 1) (length sectors - (place + 1))) (range_with_len 0 (current + 1)))

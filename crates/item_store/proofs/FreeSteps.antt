-- Bits that say which ids have an item, one entry after another, and the least id that is free by them.
use Rattle.std.proofs.Common.{◌≡◌, ◌≢◌, ℕ, ◌+◌, ◌-◌, ◌*◌, ◌/◌, ◌%◌, ◌^◌, ◌<◌, ◌≤◌, Bool, true, false, not, ◌&&◌, cond, eqb, List, [], ◌∷◌, ◌++◌, length, Option, Some, None, refl, sym, ap, subst, ◌∙◌, inl, inr, arith}
use Rattle.std.specs.Prelude.{bit_and, replicate, slice_set, slice_index, is_some, IfSome}
use Rattle.std.specs.FinMap.{get}
use Rattle.std.specs.Int.{bit_at, bit_not, w8}
use Rattle.std.specs.Option.{option_and_then}
use Rattle.std.proofs.lemmas.Bool.{cases_eq, eq-eqb, ne_eqb, false≢true}
use Rattle.std.proofs.lemmas.List.{get_or-set_same, get_or-set_other}
use Rattle.std.proofs.lemmas.Grind.{get_or-set_at}
use Rattle.std.proofs.lemmas.Nat.Bits.{bit_at_clear_same, bit_at_clear_other}
use Rattle.flash_sim.specs.Bank.{IsLawful}
use Rattle.flash_sim.specs.Device.{Device}
use Rattle.flash_map.specs.declared.area.Role.{Role}
use Rattle.flash_map.specs.declared.area.Geometry.{Geometry}
use Rattle.flash_map.specs.Area.{geometry_of, sectors_of}
use Rattle.item_laws.specs.Items.{value_of}
use Rattle.item_laws.specs.Live.{last_placed, bytes_of}
use Rattle.item_store.specs.declared.entry.IdRange.{IdRange}
use Rattle.item_store.specs.declared.entry.Placed.{Placed}
use Rattle.item_store.specs.declared.free.Marks.{Marks}
use Rattle.item_store.specs.declared.free.Taken.{Taken}
use Rattle.item_store.specs.declared.store.Store.{Store}
use Rattle.item_store.specs.Free.{has_item, is_unmarked, HasMarks, HasTaken, IsFreePair, IsFirstUnmarked, IsLeastFree}
use Rattle.item_store.specs.SectorFormat.{SectorFormat, IsSectorFormat, slots}
use Rattle.item_store.specs.Latest.{last_of_id, with_bytes}
use Rattle.item_store.specs.Listed.{IsPlaced, items_on, entries_on}
use Rattle.item_store.specs.Seen.{has_bit}
use Rattle.item_store.specs.Stands.{StandsOn}
use Rattle.item_store.proofs.LastTables.{last-push}
use Rattle.item_store.proofs.ReadFacts.{last_placed_on, value_by, value_none, value_some}
use Rattle.item_store.proofs.SeenSteps.{no_bit}

-- ---- one bit

pub clear_here : (bytes : List ℕ) (n : ℕ) → n / 8 < length bytes → has_bit (slice_set bytes (n / 8) (bit_and (slice_index bytes (n / 8)) (bit_not w8 (1 * 2 ^ (n % 8) % 256)))) n ≡ false
clear_here bytes n inside =
    ap (λ (x : ℕ). eqb (bit_at x (n % 8)) 1) (get_or-set_same bytes (n / 8) (bit_and (slice_index bytes (n / 8)) (bit_not w8 (1 * 2 ^ (n % 8) % 256))) 0 inside)
    ∙ ap (λ (x : ℕ). eqb x 1) (bit_at_clear_same w8 (slice_index bytes (n / 8)) (n % 8) (omega arith))

pub clear_others : (bytes : List ℕ) (n : ℕ) → n / 8 < length bytes → (m : ℕ) → m ≢ n → has_bit (slice_set bytes (n / 8) (bit_and (slice_index bytes (n / 8)) (bit_not w8 (1 * 2 ^ (n % 8) % 256)))) m ≡ has_bit bytes m
clear_others bytes n inside m other =
    elim (cases_eq (m / 8) (n / 8)) [
      | inl same ↦
          let apart : m % 8 ≢ n % 8 = λ (e : m % 8 ≡ n % 8). other (let own : m ≡ n = omega arith in own) in
          ap (λ (x : ℕ). eqb (bit_at x (m % 8)) 1) (get_or-set_at bytes (n / 8) (m / 8) (bit_and (slice_index bytes (n / 8)) (bit_not w8 (1 * 2 ^ (n % 8) % 256))) 0 same inside)
          ∙ ap (λ (x : ℕ). eqb x 1) (bit_at_clear_other w8 (slice_index bytes (n / 8)) (n % 8) (omega arith) (m % 8) (omega arith) apart)
          ∙ ap (λ (i : ℕ). eqb (bit_at (slice_index bytes i) (m % 8)) 1) (sym same)
      | inr apart ↦ ap (λ (x : ℕ). eqb (bit_at x (m % 8)) 1) (get_or-set_other bytes (n / 8) (m / 8) (bit_and (slice_index bytes (n / 8)) (bit_not w8 (1 * 2 ^ (n % 8) % 256))) 0 apart)
    ]

-- ---- the bit of an id

-- the bit of an id is put, and the others stay
pub marked : (old new : List ℕ) (first id n : ℕ) (own : Bool) → first ≤ id → n ≡ id - first → has_bit new n ≡ own → ((m : ℕ) → m ≢ n → has_bit new m ≡ has_bit old m)
    → (m : ℕ) → has_bit new m ≡ cond (eqb id (first + m)) own (has_bit old m)
marked old new first id n own low at here others m =
    elim (cases_eq id (first + m)) [
      | inl same ↦
          let is : m ≡ n = omega arith in
          ap (has_bit new) is ∙ here ∙ sym (ap (λ (t : Bool). cond t own (has_bit old m)) (eq-eqb id (first + m) same))
      | inr apart ↦
          let other : m ≢ n = λ (e : m ≡ n). apart (let own : id ≡ first + m = omega arith in own) in
          others m other ∙ sym (ap (λ (t : Bool). cond t own (has_bit old m)) (ne_eqb id (first + m) apart))
    ]

-- no bit is that of an id outside
pub unmarked : (old : List ℕ) (id other : ℕ) (own : Bool) (m : ℕ) → (id ≡ other → ⊥) → has_bit old m ≡ cond (eqb id other) own (has_bit old m)
unmarked old id other own m apart = sym (ap (λ (t : Bool). cond t own (has_bit old m)) (ne_eqb id other apart))

-- ---- one entry more

pub marks-none : (first : ℕ) → HasMarks first (record { first = first; bits = replicate 64 0 }) []
marks-none first = record { same = refl; bit = λ n small. no_bit 64 n (omega arith) }

pub marks-push : (first : ℕ) (old new : Marks) (before : List Placed) (p : Placed) → new.first ≡ old.first
    → ((n : ℕ) → n < 512 → has_bit new.bits n ≡ cond (eqb p.id (old.first + n)) (not (eqb p.len 0)) (has_bit old.bits n))
    → HasMarks first old before → HasMarks first new (before ++ p ∷ [])
marks-push first old new before p same bits marks = record {
  same = same ∙ marks.same;
  bit = λ n small.
      bits n small
      ∙ ap (λ (f : ℕ). cond (eqb p.id (f + n)) (not (eqb p.len 0)) (has_bit old.bits n)) marks.same
      ∙ ap (λ (t : Bool). cond (eqb p.id (first + n)) (not (eqb p.len 0)) t) (marks.bit n small)
      ∙ by_own (last_of_id (first + n) before) (eqb p.id (first + n))
      ∙ ap (λ (o : Option Placed). is_some (with_bytes o)) (sym (last-push (first + n) before p));
}
  where
    own_item : (empty : Bool) → not empty ≡ is_some (cond empty None (Some p))
    own_item true = refl
    own_item false = refl

    by_own : (last : Option Placed) (own : Bool) → cond own (not (eqb p.len 0)) (is_some (with_bytes last)) ≡ is_some (with_bytes (cond own (Some p) last))
    by_own last true = own_item (eqb p.len 0)
    by_own last false = refl

-- one entry more that changes no mark
pub marks-same : (first : ℕ) (marks : Marks) (before : List Placed) (p : Placed) (id len : ℕ) → p.id ≡ id → p.len ≡ len
    → ((n : ℕ) → n < 512 → has_bit marks.bits n ≡ cond (eqb id (marks.first + n)) (not (eqb len 0)) (has_bit marks.bits n)) → HasMarks first marks before → HasMarks first marks (before ++ p ∷ [])
marks-same first marks before p id len same long bits has =
    marks-push first marks marks before p refl
    (λ n small.
    bits n small ∙ ap (λ (i : ℕ). cond (eqb i (marks.first + n)) (not (eqb len 0)) (has_bit marks.bits n)) (sym same)
    ∙ ap (λ (l : ℕ). cond (eqb p.id (marks.first + n)) (not (eqb l 0)) (has_bit marks.bits n)) (sym long)) has

-- ---- the items of an area

module _ {T : Type 0} (role : Role) (format_of : Geometry → SectorFormat) (kept : Geometry → List ℕ → T) (d : Device) (store : Store T) (law : IsSectorFormat (format_of (geometry_of d store.area))) (lawful : IsLawful d.banks d.bytes) (on : StandsOn role format_of kept d store) where
  abbrev k : SectorFormat
  k = format_of (geometry_of d store.area)

  abbrev here : List (List ℕ)
  here = sectors_of d store.area

  abbrev value : Placed → Option (List ℕ)
  value p = value_of (bytes_of (slots (format_of (geometry_of d store.area))) (sectors_of d store.area) p)

  value-some : (o : Option Placed) → IfSome o (IsPlaced k here store.current) → is_some (option_and_then value o) ≡ is_some (with_bytes o)
  value-some None placed = refl
  value-some (Some p) placed =
      elim (cases_eq p.len 0) [
        | inl none ↦ ap is_some (value_none role format_of kept d store law lawful on p placed none) ∙ sym (ap (λ (t : Bool). is_some (cond t None (Some p))) (eq-eqb p.len 0 none))
        | inr some ↦ ap is_some (value_some role format_of kept d store law lawful on p placed some) ∙ sym (ap (λ (t : Bool). is_some (cond t None (Some p))) (ne_eqb p.len 0 some))
      ]

  item-some : (id : ℕ) → is_some (get (items_on format_of d store.area) id) ≡ has_item id (entries_on format_of d store.area)
  item-some id =
      ap is_some (value_by role format_of kept d store law lawful on (last_placed (slots k) here id) id refl)
      ∙ value-some (last_placed (slots k) here id) (last_placed_on role format_of kept d store law lawful on (last_placed (slots k) here id) id refl)

  module _ (ids : IdRange) (step : ℕ) (start taken : Taken) (low : start.lower.first ≡ ids.least) (high : start.upper.first ≡ ids.least + step) (has : HasTaken start taken (entries_on format_of d store.area)) where
    -- what a bit says of its item
    lower-item : (n : ℕ) → n < 512 → has_bit taken.lower.bits n ≡ is_some (get (items_on format_of d store.area) (ids.least + n))
    lower-item n small =
        has.lower.bit n small ∙ ap (λ (f : ℕ). has_item (f + n) (entries_on format_of d store.area)) low ∙ sym (item-some (ids.least + n))

    upper-item : (n : ℕ) → n < 512 → has_bit taken.upper.bits n ≡ is_some (get (items_on format_of d store.area) (ids.least + n + step))
    upper-item n small =
        let at : start.upper.first + n ≡ ids.least + n + step = omega arith in
        has.upper.bit n small ∙ ap (λ (i : ℕ). has_item i (entries_on format_of d store.area)) at ∙ sym (item-some (ids.least + n + step))

    free-pair : (n : ℕ) → n < 512 → is_unmarked taken n ≡ true → IsFreePair (items_on format_of d store.area) step (ids.least + n)
    free-pair n small free = record {
      lower = no-item (get (items_on format_of d store.area) (ids.least + n)) (ap not (sym (lower-item n small)) ∙ (both (not (has_bit taken.lower.bits n)) (not (has_bit taken.upper.bits n)) free).0);
      upper = no-item (get (items_on format_of d store.area) (ids.least + n + step)) (ap not (sym (upper-item n small)) ∙ (both (not (has_bit taken.lower.bits n)) (not (has_bit taken.upper.bits n)) free).1);
    }
      where
        both : (a b : Bool) → (a && b) ≡ true → (a ≡ true) × (b ≡ true)
        both true b is = (refl, is)
        both false b is = absurd (false≢true is)

        no-item : (o : Option (List ℕ)) → not (is_some o) ≡ true → o ≡ None
        no-item None is = refl
        no-item (Some x) is = absurd (false≢true is)

    taken-pair : (n : ℕ) → n < 512 → is_unmarked taken n ≡ false → IsFreePair (items_on format_of d store.area) step (ids.least + n) → ⊥
    taken-pair n small marked free =
        false≢true (sym marked ∙ ap (λ (t : Bool). not t && not (has_bit taken.upper.bits n)) (lower-item n small ∙ ap is_some free.lower) ∙ ap not (upper-item n small ∙ ap is_some free.upper))

    -- an id of the range, so far above the least one
    taken-id : (count : ℕ) → count ≤ 512 → ((n : ℕ) → n < count → is_unmarked taken n ≡ false) → (id : ℕ) → ids.least ≤ id → id < ids.least + count → IsFreePair (items_on format_of d store.area) step id → ⊥
    taken-id count few none id from to free =
        let at : ids.least + (id - ids.least) ≡ id = omega arith in
        taken-pair (id - ids.least) (omega arith) (none (id - ids.least) (omega arith)) (subst (IsFreePair (items_on format_of d store.area) step) (sym at) free)

    -- no place is free
    pub none-free : (count : ℕ) → count ≤ 512 → ids.most + 1 ≡ ids.least + count → IsFirstUnmarked taken count None → IsLeastFree ids step (items_on format_of d store.area) None
    none-free count few whole first = λ id from to. taken-id count few first id from (omega arith)

    -- the first free place
    pub some-free : (count n : ℕ) → count ≤ 512 → ids.most + 1 ≡ ids.least + count → IsFirstUnmarked taken count (Some n) → IsLeastFree ids step (items_on format_of d store.area) (Some (ids.least + n))
    some-free count n few whole first =
        let small : n < count = first.0 in (
          omega arith,
          omega arith,
          free-pair n (omega arith) first.1,
          λ id from to. taken-id n (omega arith) first.2 id from to,
        )

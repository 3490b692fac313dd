-- What the items of a list cost is what its live pairs cost.
use Rattle.std.proofs.Common.{◌≡◌, ℕ, ◌+◌, Bool, true, false, cond, eqb, ◌||◌, List, [], ◌∷◌, ◌++◌, length, Option, Some, None, refl, sym, ap, ◌∙◌, inl, inr, arith}
use Rattle.std.specs.Ordering.{nat_cmp, eq_by_cmp, is_eq}
use Rattle.std.specs.declared.cmp.Ordering.{Ordering}
use Rattle.std.specs.declared.cmp.Ordering.TheVariants.{Less, Equal, Greater}
use Rattle.std.specs.FinMap as map
use Rattle.std.specs.FinMap.Entries.{by_order}
use Rattle.std.proofs.lemmas.Bool.{false≢true, cases_Bool, eqb-true, or_parts}
use Rattle.std.proofs.lemmas.Bool.Decides.{nat_tests}
use Rattle.std.proofs.lemmas.Cmp.{nat_cmp_total}
use Rattle.std.proofs.lemmas.List.{append-nil}
use Rattle.std.proofs.lemmas.List.Sums.{sum_by-cons}
use Rattle.item_laws.specs.Costs.{items_cost}
use Rattle.item_laws.specs.Items.{Items, last, value_of, items_of}
use Rattle.item_laws.specs.LivePairs.{names, live_pairs}
use Rattle.item_laws.proofs.ItemLemmas.{get-items_of}
use Rattle.item_laws.proofs.LivePairs.{step, last-is, absent, present, live-absent}
use Rattle.item_laws.specs.PairRounds.{copies_cost, live_cost}

some_none : (bytes : List ℕ) → Some bytes ≡ None → ⊥
some_none bytes e = cc

-- a number and itself tie, and no others
tie : (a b : ℕ) → eq_by_cmp nat_cmp a b ≡ eqb b a
tie a b = grind (arith, nat_tests)

-- what one pair costs
abbrev pub one : (ℕ → ℕ) → ℕ × List ℕ → ℕ
one price pair = price (length pair.1)

-- ---- one item more

put-cost : (price : ℕ → ℕ) (id : ℕ) (bytes : List ℕ) (pairs : List (ℕ × List ℕ)) → map.find nat_cmp id pairs ≡ None → copies_cost price (map.put nat_cmp id bytes pairs) ≡ price (length bytes) + copies_cost price pairs
put-cost price id bytes [] none = sum_by-cons (one price) (id, bytes) []
put-cost price id bytes (pair ∷ rest) none =
    elim (nat_cmp id pair.0) as (λ (o : Ordering). nat_cmp id pair.0 ≡ o → copies_cost price (by_order o ((id, bytes) ∷ pair ∷ rest) ((pair.0, bytes) ∷ rest) (pair ∷ map.put nat_cmp id bytes rest)) ≡ price (length bytes) + copies_cost price (pair ∷ rest)) [
      | Less ↦ λ is. sum_by-cons (one price) (id, bytes) (pair ∷ rest)
      | Equal ↦ λ is. absurd (some_none pair.1 (sym (ap (λ (o : Ordering). cond (is_eq o) (Some pair.1) (map.find nat_cmp id rest)) is) ∙ none))
      | Greater ↦ λ is.
          let later : map.find nat_cmp id rest ≡ None = sym (ap (λ (o : Ordering). cond (is_eq o) (Some pair.1) (map.find nat_cmp id rest)) is) ∙ none in
          let ih = put-cost price id bytes rest later in
          let more = sum_by-cons (one price) pair (map.put nat_cmp id bytes rest) in
          let all = sum_by-cons (one price) pair rest in
          omega arith
    ] refl

insert-cost : (price : ℕ → ℕ) (items : Items) (id : ℕ) (bytes : List ℕ) → map.get items id ≡ None → items_cost price (map.insert items id bytes) ≡ price (length bytes) + items_cost price items
insert-cost price items id bytes none =
    ap (copies_cost price) (map.entries-insert nat_cmp_total items id bytes) ∙ put-cost price id bytes (map.entries items) (sym (map.get-entries items id) ∙ none)

-- ---- the live pairs as a map

find-absent : (id : ℕ) (pairs : List (ℕ × List ℕ)) → names id pairs ≡ false → map.find nat_cmp id pairs ≡ None
find-absent id [] h = refl
find-absent id (pair ∷ rest) h =
    let parts = or_parts (eqb pair.0 id) (names id rest) h in
    ap (λ (t : Bool). cond t (Some pair.1) (map.find nat_cmp id rest)) (tie id pair.0 ∙ parts.0) ∙ find-absent id rest parts.1

module _ (pair : ℕ × List ℕ) (rest : List (ℕ × List ℕ)) where
  -- the pair is hidden by a later one, or is a delete
  abbrev skips : Bool
  skips = names pair.0 (rest ++ []) || (eqb (length pair.1) 0)

  unnamed : (id : ℕ) → eqb pair.0 id ≡ true → names pair.0 (rest ++ []) ≡ names id rest
  unnamed id here = ap (λ (n : ℕ). names n (rest ++ [])) (eqb-true pair.0 id here) ∙ ap (names id) (append-nil rest)

  find-skipped : (id : ℕ) → skips ≡ true → map.find nat_cmp id (live_pairs (pair ∷ rest) []) ≡ map.find nat_cmp id (live_pairs rest [])
  unfolding live_pairs
  find-skipped id skip = ap (λ (t : Bool). map.find nat_cmp id (cond t (live_pairs rest []) (pair ∷ live_pairs rest []))) skip

  find-kept : (id : ℕ) → skips ≡ false → map.find nat_cmp id (live_pairs (pair ∷ rest) []) ≡ cond (eqb pair.0 id) (Some pair.1) (map.find nat_cmp id (live_pairs rest []))
  unfolding live_pairs
  find-kept id kept =
      ap (λ (t : Bool). map.find nat_cmp id (cond t (live_pairs rest []) (pair ∷ live_pairs rest []))) kept
      ∙ ap (λ (t : Bool). cond t (Some pair.1) (map.find nat_cmp id (live_pairs rest []))) (tie id pair.0)

  -- the id is named later
  find-later : (id : ℕ) → names id rest ≡ true → map.find nat_cmp id (live_pairs (pair ∷ rest) []) ≡ map.find nat_cmp id (live_pairs rest [])
  find-later id later =
      elim (cases_Bool skips) [
        | inl skip ↦ find-skipped id skip
        | inr kept ↦
            let parts = or_parts (names pair.0 (rest ++ [])) (eqb (length pair.1) 0) kept in
            let apart : eqb pair.0 id ≡ false = elim (cases_Bool (eqb pair.0 id)) [ inl here ↦ absurd (false≢true (sym parts.0 ∙ unnamed id here ∙ later)) | inr apart ↦ apart ] in
            find-kept id kept ∙ ap (λ (t : Bool). cond t (Some pair.1) (map.find nat_cmp id (live_pairs rest []))) apart
      ]

  -- the id is not named later
  find-newest : (id : ℕ) → names id rest ≡ false → map.find nat_cmp id (live_pairs (pair ∷ rest) []) ≡ cond (eqb pair.0 id) (value_of pair.1) None
  find-newest id none =
      let tail : map.find nat_cmp id (live_pairs rest []) ≡ None = find-absent id (live_pairs rest []) (live-absent id rest [] none) in
      elim (cases_Bool skips) [
        | inl skip ↦
            let value : cond (eqb pair.0 id) (value_of pair.1) None ≡ None = elim (cases_Bool (eqb pair.0 id)) [
              | inl here ↦
                  let mark : eqb (length pair.1) 0 ≡ true = sym (ap (λ (t : Bool). t || (eqb (length pair.1) 0)) (unnamed id here ∙ none)) ∙ skip in
                  ap (λ (t : Bool). cond t (value_of pair.1) None) here ∙ ap (λ (t : Bool). cond t None (Some pair.1)) mark
              | inr apart ↦ ap (λ (t : Bool). cond t (value_of pair.1) None) apart
            ] in
            find-skipped id skip ∙ tail ∙ sym value
        | inr kept ↦
            let parts = or_parts (names pair.0 (rest ++ [])) (eqb (length pair.1) 0) kept in
            find-kept id kept ∙ ap (λ (o : Option (List ℕ)). cond (eqb pair.0 id) (Some pair.1) o) tail
            ∙ sym (ap (λ (t : Bool). cond (eqb pair.0 id) (cond t None (Some pair.1)) None) parts.1)
      ]

live-find : (pairs : List (ℕ × List ℕ)) (id : ℕ) → map.find nat_cmp id (live_pairs pairs []) ≡ last pairs id
unfolding live_pairs
live-find [] id = sym (last-is [] id)
live-find (pair ∷ rest) id =
    elim (cases_Bool (names id rest)) [
      | inl later ↦ find-later pair rest id later ∙ live-find rest id ∙ last-is rest id ∙ present id None (step id None pair) rest later ∙ sym (last-is (pair ∷ rest) id)
      | inr none ↦ find-newest pair rest id none ∙ sym (absent id (step id None pair) rest none) ∙ sym (last-is (pair ∷ rest) id)
    ]

live-map : (pairs : List (ℕ × List ℕ)) → map.from_entries (live_pairs pairs []) ≡ items_of pairs
live-map pairs = map.same_map nat_cmp_total map.nat_cmp-IsAntisymmetric (map.from_entries (live_pairs pairs [])) (items_of pairs) (λ id. map.get-from_entries nat_cmp_total (live_pairs pairs []) id ∙ live-find pairs id ∙ sym (get-items_of pairs id))

-- ---- what they cost

no_entries : (es : List (ℕ × List ℕ)) → length es ≡ 0 → es ≡ []
no_entries [] e = refl
no_entries (x ∷ es) e = absurd (omega arith)

empty-cost : (price : ℕ → ℕ) → items_cost price map.empty ≡ 0
empty-cost price =
    let none : length (map.entries (map.empty {X = List ℕ} {R = nat_cmp})) ≡ 0 = sym (map.len-entries (map.empty {X = List ℕ} {R = nat_cmp})) ∙ map.len-empty nat_cmp (List ℕ) in
    ap (copies_cost price) (no_entries (map.entries map.empty) none)

from-cost : (price : ℕ → ℕ) (pairs : List (ℕ × List ℕ)) → items_cost price (map.from_entries (live_pairs pairs [])) ≡ copies_cost price (live_pairs pairs [])
unfolding live_pairs
from-cost price [] = empty-cost price
from-cost price (pair ∷ rest) =
    elim (cases_Bool (skips pair rest)) [
      | inl skip ↦
          ap (λ (t : Bool). items_cost price (map.from_entries (cond t (live_pairs rest []) (pair ∷ live_pairs rest [])))) skip ∙ from-cost price rest
          ∙ sym (ap (λ (t : Bool). copies_cost price (cond t (live_pairs rest []) (pair ∷ live_pairs rest []))) skip)
      | inr kept ↦
          let parts = or_parts (names pair.0 (rest ++ [])) (eqb (length pair.1) 0) kept in
          let later : names pair.0 rest ≡ false = sym (ap (names pair.0) (append-nil rest)) ∙ parts.0 in
          let none : map.get (map.from_entries (live_pairs rest [])) pair.0 ≡ None =
          map.get-from_entries nat_cmp_total (live_pairs rest []) pair.0 ∙ find-absent pair.0 (live_pairs rest []) (live-absent pair.0 rest [] later) in
          ap (λ (t : Bool). items_cost price (map.from_entries (cond t (live_pairs rest []) (pair ∷ live_pairs rest [])))) kept
          ∙ insert-cost price (map.from_entries (live_pairs rest [])) pair.0 pair.1 none
          ∙ ap (λ (n : ℕ). price (length pair.1) + n) (from-cost price rest)
          ∙ sym (sum_by-cons (one price) pair (live_pairs rest []))
          ∙ sym (ap (λ (t : Bool). copies_cost price (cond t (live_pairs rest []) (pair ∷ live_pairs rest []))) kept)
    ]

-- the live pairs of a list cost what the items cost that it stands for
pub items_cost-is : (price : ℕ → ℕ) (pairs : List (ℕ × List ℕ)) → live_cost price pairs ≡ items_cost price (items_of pairs)
items_cost-is price pairs = sym (from-cost price pairs) ∙ ap (items_cost price) (live-map pairs)

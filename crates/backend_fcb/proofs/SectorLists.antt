-- The records of a list by their sectors.
use Rattle.std.proofs.Common.{◌≡◌, ◌≢◌, ℕ, zero, suc, ◌+◌, ◌<◌, ◌≤◌, true, false, eqb, List, [], ◌∷◌, ◌++◌, map, inl, inr, refl, sym, ap, subst, ◌∙◌, arith}
use Rattle.std.specs.List.{range_with_len, filter, flat_map, sum_by, All}
use Rattle.std.proofs.lemmas.Bool.{cases_eq, eq-eqb, ne_eqb}
use Rattle.std.proofs.lemmas.List.{append-nil}
use Rattle.std.proofs.lemmas.List.Elements.{All-cons, All-nil, All-append, All-weaker, filter-append}
use Rattle.std.proofs.lemmas.List.Sums.{sum_by-cons}
use Rattle.fcb_ring.specs.declared.record.Record.{Record}
use Rattle.fcb_ring.specs.Entries.{entry_of, sector_entries, bodies}
use Rattle.fcb_ring.specs.Records.{records}
use Rattle.fcb_ring.proofs.PlaceLemmas.{filter_all, filter_none}
use Rattle.backend_fcb.proofs.WalkLemmas.{Entry}

-- all of this sector
abbrev pub AreOf : ℕ → List Entry → Type 0
AreOf place list = All (λ entry. entry.0.sector ≡ place) list

-- none of it
abbrev pub AreNotOf : ℕ → List Entry → Type 0
AreNotOf place list = All (λ entry. entry.0.sector ≢ place) list

abbrev pub of_sector : ℕ → List Entry → List Entry
of_sector place list = filter (λ entry. eqb entry.0.sector place) list

pub of-all : (place : ℕ) (list : List Entry) → AreOf place list → of_sector place list ≡ list
of-all place list are = filter_all (λ entry. eqb entry.0.sector place) list (All-weaker (λ (entry : Entry). entry.0.sector ≡ place) (λ (entry : Entry). eqb entry.0.sector place ≡ true) (λ entry e. eq-eqb entry.0.sector place e) list are)

pub of-none : (place : ℕ) (list : List Entry) → AreNotOf place list → of_sector place list ≡ []
of-none place list are = filter_none (λ entry. eqb entry.0.sector place) list (All-weaker (λ (entry : Entry). entry.0.sector ≢ place) (λ (entry : Entry). eqb entry.0.sector place ≡ false) (λ entry e. ne_eqb entry.0.sector place e) list are)

pub other-sector : (place other : ℕ) (list : List Entry) → other ≢ place → AreOf other list → AreNotOf place list
other-sector place other list apart are = All-weaker (λ (entry : Entry). entry.0.sector ≡ other) (λ (entry : Entry). entry.0.sector ≢ place) (λ entry e same. apart (sym e ∙ same)) list are

all-entries : (place : ℕ) (sector : List ℕ) (rs : List Record) → AreOf place (map (entry_of place sector) rs)
all-entries place sector [] = All-nil (λ (entry : Entry). entry.0.sector ≡ place)
all-entries place sector (r ∷ rs) = All-cons (λ (entry : Entry). entry.0.sector ≡ place) (entry_of place sector r) (map (entry_of place sector) rs) refl (all-entries place sector rs)

pub entries-of : (unit place : ℕ) (sector : List ℕ) → AreOf place (sector_entries unit place sector)
unfolding sector_entries
entries-of unit place sector = all-entries place sector (filter (λ r. r.checks) (records unit sector))

-- ---- lists of one sector after the other

parts-none : (place : ℕ) (f : ℕ → List Entry) (g : ℕ → ℕ) (a m : ℕ) → ((k : ℕ) → a ≤ k → k < a + m → AreOf (g k) (f k)) → ((k : ℕ) → a ≤ k → k < a + m → g k ≢ place) → AreNotOf place (flat_map f (range_with_len a m))
parts-none place f g a zero are apart = All-nil (λ (entry : Entry). entry.0.sector ≢ place)
parts-none place f g a (suc m) are apart =
    All-append (λ (entry : Entry). entry.0.sector ≢ place) (f a) (flat_map f (range_with_len (a + 1) m))
    (other-sector place (g a) (f a) (apart a (omega arith) (omega arith)) (are a (omega arith) (omega arith)))
    (parts-none place f g (a + 1) m (λ k from below. are k (omega arith) (omega arith)) (λ k from below. apart k (omega arith) (omega arith)))

-- the sector has no record there
pub parts-not : (place : ℕ) (f : ℕ → List Entry) (g : ℕ → ℕ) (a m : ℕ) → ((k : ℕ) → a ≤ k → k < a + m → AreOf (g k) (f k)) → ((k : ℕ) → a ≤ k → k < a + m → g k ≢ place) → AreNotOf place (flat_map f (range_with_len a m))
parts-not place f g a m are apart = parts-none place f g a m are apart

-- its records are those of its part
pub parts-one : (f : ℕ → List Entry) (g : ℕ → ℕ) (a m j : ℕ) → a ≤ j → j < a + m → ((k : ℕ) → a ≤ k → k < a + m → AreOf (g k) (f k)) → ((k : ℕ) → a ≤ k → k < a + m → g k ≡ g j → k ≡ j)
    → of_sector (g j) (flat_map f (range_with_len a m)) ≡ f j
parts-one f g a zero j from below are one = absurd (omega arith)
parts-one f g a (suc m) j from below are one = filter-append (λ entry. eqb entry.0.sector (g j)) (f a) (flat_map f (range_with_len (a + 1) m)) ∙ (elim (cases_eq a j) [
  | inl here ↦
      let first : of_sector (g j) (f a) ≡ f a = of-all (g j) (f a) (subst (λ (k : ℕ). AreOf (g k) (f a)) here (are a (omega arith) (omega arith))) in
      let rest : of_sector (g j) (flat_map f (range_with_len (a + 1) m)) ≡ [] =
      of-none (g j) (flat_map f (range_with_len (a + 1) m)) (parts-none (g j) f g (a + 1) m (λ k low high. are k (omega arith) (omega arith)) (λ k low high same. let e = one k (omega arith) (omega arith) same in omega arith)) in
      ap (λ (l : List Entry). l ++ of_sector (g j) (flat_map f (range_with_len (a + 1) m))) first ∙ ap (λ (l : List Entry). f a ++ l) rest ∙ append-nil (f a) ∙ ap f here
  | inr apart ↦
      let first : of_sector (g j) (f a) ≡ [] = of-none (g j) (f a) (other-sector (g j) (g a) (f a) (λ (same : g a ≡ g j). apart (one a (omega arith) (omega arith) same)) (are a (omega arith) (omega arith))) in
      ap (λ (l : List Entry). l ++ of_sector (g j) (flat_map f (range_with_len (a + 1) m))) first
      ∙ parts-one f g (a + 1) m j (omega arith) (omega arith) (λ k low high. are k (omega arith) (omega arith)) (λ k low high same. one k (omega arith) (omega arith) same)
])

-- ---- where a sector's records end

pub append-same : {X : Type 0} (xs ys zs : List X) → xs ++ ys ≡ xs ++ zs → ys ≡ zs
append-same [] ys zs e = e
append-same (x ∷ xs) ys zs e = append-same xs ys zs (tail-same x (xs ++ ys) (xs ++ zs) e)
  where
    tail-same : {X : Type 0} (x : X) (ys zs : List X) → x ∷ ys ≡ x ∷ zs → ys ≡ zs
    tail-same x ys zs e = cc

-- ---- bodies

pub bodies-append : (xs ys : List Entry) → bodies (xs ++ ys) ≡ bodies xs ++ bodies ys
bodies-append [] ys = refl
bodies-append (x ∷ xs) ys = ap (λ (l : List (List ℕ)). x.1 ∷ l) (bodies-append xs ys)

pub sum-bodies : (f : List ℕ → ℕ) (list : List Entry) → sum_by (λ entry. f entry.1) list ≡ sum_by f (bodies list)
sum-bodies f [] = refl
sum-bodies f (x ∷ list) = sum_by-cons (λ (entry : Entry). f entry.1) x list ∙ ap (λ (n : ℕ). f x.1 + n) (sum-bodies f list) ∙ sym (sum_by-cons f x.1 (bodies list))

pub sum-less : {X : Type 0} (f g : X → ℕ) (list : List X) → ((x : X) → f x ≤ g x) → sum_by f list ≤ sum_by g list
sum-less f g [] le = omega arith
sum-less f g (x ∷ list) le =
    let one = le x in
    let ih = sum-less f g list le in
    let a = sum_by-cons f x list in
    let b = sum_by-cons g x list in
    omega arith

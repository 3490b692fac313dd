-- Going through the records of a ring, one after the other.
use Rattle.std.proofs.Common.{◌≡◌, ◌⊎◌, ℕ, zero, suc, ◌+◌, ◌-◌, ◌<◌, ◌≤◌, Bool, true, cond, eqb, ◌&&◌, List, [], ◌∷◌, ◌++◌, length, Option, Some, None, refl, sym, ap, subst, ◌∙◌, inl, inr, append_assoc, arith}
use Rattle.std.specs.Prelude.{Contains}
use Rattle.std.specs.List.{slice_get}
use Rattle.std.specs.Option.{ForSome}
use Rattle.std.proofs.lemmas.Bool.{cases_Bool, and_parts, eqb-true, eq-eqb}
use Rattle.std.proofs.lemmas.List.{append-nil}
use Rattle.std.proofs.lemmas.Option.{none-some}
use Rattle.fcb_ring.specs.declared.record.RecordAt.{RecordAt}
use Rattle.fcb_ring.specs.Standing.{record_places, IsNext}
use Rattle.fcb_ring.proofs.NextLemmas.{contained_at, listed_from}

abbrev pub Entry : Type 0
Entry = RecordAt × List ℕ

-- ---- how many records are left

is_same : RecordAt → RecordAt → Bool
is_same r q = eqb r.sector q.sector && (eqb r.offset q.offset && (eqb r.body q.body && eqb r.len q.len))

same-is : (r q : RecordAt) → is_same r q ≡ true → q ≡ r
unfolding is_same
same-is r q e =
    let one = and_parts (eqb r.sector q.sector) (eqb r.offset q.offset && (eqb r.body q.body && eqb r.len q.len)) e in
    let two = and_parts (eqb r.offset q.offset) (eqb r.body q.body && eqb r.len q.len) one.1 in
    let three = and_parts (eqb r.body q.body) (eqb r.len q.len) two.1 in
    let a : r.sector ≡ q.sector = eqb-true r.sector q.sector one.0 in
    let b : r.offset ≡ q.offset = eqb-true r.offset q.offset two.0 in
    let c : r.body ≡ q.body = eqb-true r.body q.body three.0 in
    let d : r.len ≡ q.len = eqb-true r.len q.len three.1 in
    let f : ℕ → RecordAt = λ x. record { sector = x; offset = q.offset; body = q.body; len = q.len } in
    let g : ℕ → RecordAt = λ x. record { sector = r.sector; offset = x; body = q.body; len = q.len } in
    let h : ℕ → RecordAt = λ x. record { sector = r.sector; offset = r.offset; body = x; len = q.len } in
    let k : ℕ → RecordAt = λ x. record { sector = r.sector; offset = r.offset; body = r.body; len = x } in
    ap f (sym a) ∙ ap g (sym b) ∙ ap h (sym c) ∙ ap k (sym d)

is-same : (r : RecordAt) → is_same r r ≡ true
unfolding is_same
is-same r =
    ap (λ (b : Bool). b && (eqb r.offset r.offset && (eqb r.body r.body && eqb r.len r.len))) (eq-eqb r.sector r.sector refl)
    ∙ ap (λ (b : Bool). b && (eqb r.body r.body && eqb r.len r.len)) (eq-eqb r.offset r.offset refl)
    ∙ ap (λ (b : Bool). b && eqb r.len r.len) (eq-eqb r.body r.body refl)
    ∙ eq-eqb r.len r.len refl

-- the records from the last one that is this one on; 0 where none is
pub from_last : List RecordAt → RecordAt → ℕ
from_last [] r = 0
from_last (q ∷ rest) r = cond (eqb (from_last rest r) 0) (cond (is_same r q) (suc (length rest)) 0) (from_last rest r)

-- the records that are left
pub left_at : List RecordAt → Option RecordAt → ℕ
left_at list None = 0
left_at list (Some r) = from_last list r

pub left-none : (list : List RecordAt) → left_at list None ≡ 0
unfolding left_at
left-none list = refl

pub left-some : (list : List RecordAt) (r : RecordAt) → left_at list (Some r) ≡ from_last list r
unfolding left_at
left-some list r = refl

last-later : (q : RecordAt) (rest : List RecordAt) (r : RecordAt) → 0 < from_last rest r → from_last (q ∷ rest) r ≡ from_last rest r
unfolding from_last
last-later q rest r some = elim (cases_Bool (eqb (from_last rest r) 0)) [
  | inl none ↦ let e : from_last rest r ≡ 0 = eqb-true (from_last rest r) 0 none in absurd (omega arith)
  | inr found ↦ ap (λ (b : Bool). cond b (cond (is_same r q) (suc (length rest)) 0) (from_last rest r)) found
]

last-here : (q : RecordAt) (rest : List RecordAt) (r : RecordAt) → from_last rest r ≡ 0 → from_last (q ∷ rest) r ≡ cond (is_same r q) (suc (length rest)) 0
unfolding from_last
last-here q rest r none = ap (λ (b : Bool). cond b (cond (is_same r q) (suc (length rest)) 0) (from_last rest r)) (eq-eqb (from_last rest r) 0 none)

last-none : (r : RecordAt) → from_last [] r ≡ 0
unfolding from_last
last-none r = refl

cases-zero : (n : ℕ) → (n ≡ 0) ⊎ (0 < n)
cases-zero zero = inl refl
cases-zero (suc n) = inr (omega arith)

pub last-most : (list : List RecordAt) (r : RecordAt) → from_last list r ≤ length list
last-most [] r = omega (arith, last-none r)
last-most (q ∷ rest) r = elim (cases-zero (from_last rest r)) [
  | inl none ↦ elim (cases_Bool (is_same r q)) [
    | inl same ↦ let e : from_last (q ∷ rest) r ≡ suc (length rest) = last-here q rest r none ∙ ap (λ (b : Bool). cond b (suc (length rest)) 0) same in omega arith
    | inr other ↦ let e : from_last (q ∷ rest) r ≡ 0 = last-here q rest r none ∙ ap (λ (b : Bool). cond b (suc (length rest)) 0) other in omega arith
  ]
  | inr some ↦ let ih = last-most rest r in omega (arith, last-later q rest r some)
]

pub some-same : {X : Type 0} (x y : X) → Some x ≡ Some y → x ≡ y
some-same x y e = cc

-- a record at this place is no nearer to the end than its last one
pub last-behind : (list : List RecordAt) (i : ℕ) (r : RecordAt) → slice_get list i ≡ Some r → (0 < from_last list r) × (from_last list r + i ≤ length list)
last-behind [] i r e = absurd (none-some r e)
last-behind (q ∷ rest) zero r e = elim (cases-zero (from_last rest r)) [
  | inl none ↦
      let same : is_same r q ≡ true = subst (λ (x : RecordAt). is_same r x ≡ true) (sym (some-same q r e)) (is-same r) in
      let l : from_last (q ∷ rest) r ≡ suc (length rest) = last-here q rest r none ∙ ap (λ (b : Bool). cond b (suc (length rest)) 0) same in
      (omega arith, omega arith)
  | inr some ↦ let l = last-later q rest r some in let m = last-most rest r in (omega arith, omega arith)
]
last-behind (q ∷ rest) (suc i) r e =
    let ih = last-behind rest i r e in
    let some = ih.0 in
    let most = ih.1 in
    let l = last-later q rest r some in
    (omega arith, omega arith)

pub last-there : (list : List RecordAt) (r : RecordAt) → 0 < from_last list r → slice_get list (length list - from_last list r) ≡ Some r
last-there [] r some = absurd (omega (arith, last-none r))
last-there (q ∷ rest) r some = elim (cases-zero (from_last rest r)) [
  | inl none ↦ elim (cases_Bool (is_same r q)) [
    | inl same ↦
        let e : from_last (q ∷ rest) r ≡ suc (length rest) = last-here q rest r none ∙ ap (λ (b : Bool). cond b (suc (length rest)) 0) same in
        let at : length (q ∷ rest) - from_last (q ∷ rest) r ≡ 0 = omega arith in
        ap (slice_get (q ∷ rest)) at ∙ ap Some (same-is r q same)
    | inr other ↦ let e : from_last (q ∷ rest) r ≡ 0 = last-here q rest r none ∙ ap (λ (b : Bool). cond b (suc (length rest)) 0) other in absurd (omega arith)
  ]
  | inr found ↦
      let l = last-later q rest r found in
      let m = last-most rest r in
      let at : length (q ∷ rest) - from_last (q ∷ rest) r ≡ suc (length rest - from_last rest r) = omega arith in
      ap (slice_get (q ∷ rest)) at ∙ last-there rest r found
]

pub smaller : (list : List Entry) (r : RecordAt) (next : Option RecordAt) → Contains (record_places list) r → IsNext list (Some r) next → left_at (record_places list) next < left_at (record_places list) (Some r)
unfolding left_at
smaller list r None contained is = let at = contained_at (record_places list) r contained in (last-behind (record_places list) at.0 r at.1).0
smaller list r (Some q) contained is =
    let at = contained_at (record_places list) r contained in
    let some = (last-behind (record_places list) at.0 r at.1).0 in
    let most = last-most (record_places list) r in
    let j : ℕ = length (record_places list) - from_last (record_places list) r in
    let next : slice_get (record_places list) (j + 1) ≡ Some q = sym (is j (last-there (record_places list) r some)) in
    let b = (last-behind (record_places list) (j + 1) q next).1 in
    omega arith

-- ---- where a walk is

-- so much of the list was gone through, and this is the first record of what is left
pub record IsAt (list : List Entry) (at : Option RecordAt) (done later : List Entry) : Type 0 where
  pub are : list ≡ done ++ later
  pub here : at ≡ slice_get (record_places later) 0

pub start : (list : List Entry) (next : Option RecordAt) → IsNext list None next → IsAt list next [] list
start list next is = record { are = refl; here = is }

-- at a record there is one
pub first-of : (later : List Entry) (r : RecordAt) → Some r ≡ slice_get (record_places later) 0 → (body : List ℕ) × (rest : List Entry) × (later ≡ (r, body) ∷ rest)
first-of [] r e = absurd (none-some r (sym e))
first-of ((q, body) ∷ rest) r e = (body, rest, ap (λ (x : RecordAt). (x, body) ∷ rest) (some-same q r (sym e)))

pub none-of : (later : List Entry) → None ≡ slice_get (record_places later) 0 → later ≡ []
none-of [] e = refl
none-of ((q, body) ∷ rest) e = absurd (none-some q e)

pub at-length : {X : Type 0} (xs : List X) (y : X) (ys : List X) → slice_get (xs ++ y ∷ ys) (length xs) ≡ Some y
at-length [] y ys = refl
at-length (x ∷ xs) y ys = at-length xs y ys

pub place-of : (done : List Entry) (r : RecordAt) (body : List ℕ) (rest : List Entry) → slice_get (record_places (done ++ (r, body) ∷ rest)) (length done) ≡ Some r
place-of [] r body rest = refl
place-of (x ∷ done) r body rest = place-of done r body rest

place-behind : (done : List Entry) (e : Entry) (rest : List Entry) → slice_get (record_places (done ++ e ∷ rest)) (length done + 1) ≡ slice_get (record_places rest) 0
place-behind [] e rest = refl
place-behind (x ∷ done) e rest =
    let more : length (x ∷ done) + 1 ≡ suc (length done + 1) = omega arith in
    ap (slice_get (record_places (x ∷ done ++ e ∷ rest))) more ∙ place-behind done e rest

-- the record behind one of the list is the first of those that are left
pub next-behind : (list done : List Entry) (r : RecordAt) (body : List ℕ) (rest : List Entry) (next : Option RecordAt) → list ≡ done ++ (r, body) ∷ rest → IsNext list (Some r) next → next ≡ slice_get (record_places rest) 0
next-behind list done r body rest next are is =
    is (length done) (ap (λ (l : List Entry). slice_get (record_places l) (length done)) are ∙ place-of done r body rest)
    ∙ ap (λ (l : List Entry). slice_get (record_places l) (length done + 1)) are ∙ place-behind done (r, body) rest

pub step : (list : List Entry) (r : RecordAt) (done : List Entry) (body : List ℕ) (rest : List Entry) (next : Option RecordAt) → list ≡ done ++ (r, body) ∷ rest → IsNext list (Some r) next → IsAt list next (done ++ (r, body) ∷ []) rest
step list r done body rest next are is = record { are = are ∙ sym (append_assoc done ((r, body) ∷ []) rest); here = next-behind list done r body rest next are is }

-- what was read of a record is its body
pub body-is : (list done : List Entry) (r : RecordAt) (body : List ℕ) (rest : List Entry) (bytes : List ℕ) → list ≡ done ++ (r, body) ∷ rest → ((i : ℕ) → slice_get (record_places list) i ≡ Some r → slice_get list i ≡ Some (r, bytes)) → bytes ≡ body
body-is list done r body rest bytes are reads =
    let there : slice_get list (length done) ≡ Some (r, body) = ap (λ (l : List Entry). slice_get l (length done)) are ∙ at-length done (r, body) rest in
    let read : slice_get list (length done) ≡ Some (r, bytes) = reads (length done) (ap (λ (l : List Entry). slice_get (record_places l) (length done)) are ∙ place-of done r body rest) in
    let same : Some (r, bytes) ≡ Some (r, body) = sym read ∙ there in
    ap (λ (e : Entry). e.1) (some-same (r, bytes) (r, body) same)

pub listed : (list done : List Entry) (r : RecordAt) (body : List ℕ) (rest : List Entry) → list ≡ done ++ (r, body) ∷ rest → Contains (record_places list) r
listed list done r body rest are = listed_from (record_places list) (length done) (Some r) (sym (ap (λ (l : List Entry). slice_get (record_places l) (length done)) are ∙ place-of done r body rest)) r refl

split-at : (list : List Entry) (i : ℕ) (r : RecordAt) → slice_get (record_places list) i ≡ Some r → (done : List Entry) × (body : List ℕ) × (rest : List Entry) × (list ≡ done ++ (r, body) ∷ rest)
split-at [] i r e = absurd (none-some r e)
split-at ((q, body) ∷ list) zero r e = ([], body, list, ap (λ (x : RecordAt). (x, body) ∷ list) (some-same q r e))
split-at (entry ∷ list) (suc i) r e = let ih = split-at list i r e in (entry ∷ ih.0, ih.1, ih.2, ap (λ (l : List Entry). entry ∷ l) ih.3)

-- and one at a place of it behind so many
pub split-long : (list : List Entry) (i : ℕ) (r : RecordAt) → slice_get (record_places list) i ≡ Some r → (done : List Entry) × (body : List ℕ) × (rest : List Entry) × (list ≡ done ++ (r, body) ∷ rest) × (length done ≡ i)
split-long [] i r e = absurd (none-some r e)
split-long ((q, body) ∷ list) zero r e = ([], body, list, ap (λ (x : RecordAt). (x, body) ∷ list) (some-same q r e), refl)
split-long (entry ∷ list) (suc i) r e = let ih = split-long list i r e in (entry ∷ ih.0, ih.1, ih.2, ap (λ (l : List Entry). entry ∷ l) ih.3, ap suc ih.4)

-- a record of the list stands between others
pub split : (list : List Entry) (r : RecordAt) → Contains (record_places list) r → (done : List Entry) × (body : List ℕ) × (rest : List Entry) × (list ≡ done ++ (r, body) ∷ rest)
split list r contained = let at = contained_at (record_places list) r contained in split-at list at.0 r at.1

-- at the end all was gone through
pub all-done : (list : List Entry) (done later : List Entry) → IsAt list None done later → list ≡ done
all-done list done later at = at.are ∙ ap (λ (l : List Entry). done ++ l) (none-of later at.here) ∙ append-nil done

-- ---- as answers need them

pub at-listed : (list : List Entry) (place : Option RecordAt) (done later : List Entry) (r : RecordAt) → IsAt list place done later → place ≡ Some r → Contains (record_places list) r
at-listed list place done later r at some =
    let f = first-of later r (sym some ∙ at.here) in
    listed list done r f.0 f.1 (at.are ∙ ap (λ (l : List Entry). done ++ l) f.2)

pub for-listed : (list : List Entry) (r : RecordAt) → Contains (record_places list) r → ForSome (Some r) (λ q. Contains (record_places list) q)
for-listed list r contained q same = subst (λ (x : RecordAt). Contains (record_places list) x) (some-same r q same) contained

pub at-smaller : (list : List Entry) (place : Option RecordAt) (r : RecordAt) (next : Option RecordAt) → place ≡ Some r → Contains (record_places list) r → IsNext list (Some r) next → left_at (record_places list) next < left_at (record_places list) place
at-smaller list place r next some contained is = subst (λ (o : Option RecordAt). left_at (record_places list) next < left_at (record_places list) o) (sym some) (smaller list r next contained is)

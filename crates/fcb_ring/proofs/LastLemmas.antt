-- The last element of a list that passes a test: of the records of a sector, and of a ring's list.
use Rattle.std.proofs.Common.{◌≡◌, ◌⊎◌, ℕ, suc, ◌+◌, Bool, true, false, cond, ◌&&◌, List, [], ◌∷◌, ◌++◌, map, Option, Some, None, inl, inr, refl, sym, ap, subst, ◌∙◌, arith}
use Rattle.std.specs.Prelude.{slice_range, Contains}
use Rattle.std.specs.List.{last_or, filter, flat_map, range_with_len, slice_get}
use Rattle.std.specs.Option.{option_map}
use Rattle.std.proofs.lemmas.Bool.{and_left, and_right, and_from, both_ways}
use Rattle.std.proofs.lemmas.List.{append-nil}
use Rattle.std.proofs.lemmas.List.Concat.{flat_map-append}
use Rattle.std.proofs.lemmas.List.Elements.{filter-append}
use Rattle.std.proofs.lemmas.Option.{none-some, slice_get-map}
use Rattle.fcb_ring.specs.declared.record.Record.{Record}
use Rattle.fcb_ring.specs.declared.record.RecordAt.{RecordAt}
use Rattle.fcb_ring.specs.Records.{records, is_alike, is_wanted, last_wanted}
use Rattle.fcb_ring.specs.Entries.{placed, entry_of, sector_entries}
use Rattle.fcb_ring.specs.Standing.{record_places, last_with}
use Rattle.fcb_ring.proofs.NextLemmas.{listed_from}
use Rattle.fcb_ring.proofs.PlaceLemmas.{range-append}

abbrev pub Entry : Type 0
Entry = RecordAt × List ℕ

some-same : {X : Type 0} (x y : X) → Some x ≡ Some y → x ≡ y
some-same x y e = cc

map-some : {X Y : Type 0} (f : X → Y) (o : Option X) (y : Y) → option_map f o ≡ Some y → (x : X) × (o ≡ Some x) × (f x ≡ y)
map-some f None y e = absurd (none-some y e)
map-some f (Some x) y e = (x, refl, some-same (f x) y e)

map-none : {X Y : Type 0} (f : X → Y) (o : Option X) → option_map f o ≡ None → o ≡ None
map-none f None e = refl
map-none f (Some x) e = absurd (none-some (f x) (sym e))

-- ---- one step of a walk

pub last-step : {X : Type 0} (test : X → Bool) (a : Option X) (x : X) (xs : List X) → last_or a (filter test (x ∷ xs)) ≡ last_or (cond (test x) (Some x) a) (filter test xs)
last-step test a x xs = by (test x)
  where
    by : (b : Bool) → last_or a (cond b (x ∷ filter test xs) (filter test xs)) ≡ last_or (cond b (Some x) a) (filter test xs)
    by true = refl
    by false = refl

pub map-chosen : {X Y : Type 0} (f : X → Y) (b : Bool) (x : X) (o : Option X) → option_map f (cond b (Some x) o) ≡ cond b (Some (f x)) (option_map f o)
map-chosen f true x o = refl
map-chosen f false x o = refl

-- what holds of both holds of the one that is chosen
pub chosen-has : {X : Type 0} (P : X → Type 0) (b : Bool) (x : X) (o : Option X) (k : X) → cond b (Some x) o ≡ Some k → P x → (o ≡ Some k → P k) → P k
chosen-has P true x o k e here there = subst P (some-same x k e) here
chosen-has P false x o k e here there = there e

-- ---- with one test more

-- how the last element that passes a test is to the last one that passes another too
pub record Narrows (X : Type 0) (c : X → Bool) (a b : Option X) : Type 0 where
  pub none : a ≡ None → b ≡ None
  pub same : (z : X) → a ≡ Some z → c z ≡ true → b ≡ Some z

chosen-narrows : (X : Type 0) (c : X → Bool) (a b : Option X) (u v : Bool) (y : X) → c y ≡ v → Narrows X c a b → Narrows X c (cond u (Some y) a) (cond (v && u) (Some y) b)
chosen-narrows X c a b true true y is h = record { none = λ e. e; same = λ z e passes. e }
chosen-narrows X c a b true false y is h = record {
  none = λ e. absurd (none-some y (sym e));
  same = λ z e passes. absurd (both_ways (c y) is (subst (λ (x : X). c x ≡ true) (sym (some-same y z e)) passes));
}
chosen-narrows X c a b false true y is h = h
chosen-narrows X c a b false false y is h = h

narrows : (X : Type 0) (c p : X → Bool) (xs : List X) (a b : Option X) → Narrows X c a b → Narrows X c (last_or a (filter p xs)) (last_or b (filter (λ y. c y && p y) xs))
narrows X c p [] a b h = h
narrows X c p (y ∷ xs) a b h =
    let later = narrows X c p xs (cond (p y) (Some y) a) (cond (c y && p y) (Some y) b) (chosen-narrows X c a b (p y) (c y) y refl h) in
    subst (λ (o : Option X). Narrows X c o (last_or b (filter (λ z. c z && p z) (y ∷ xs)))) (sym (last-step p a y xs))
    (subst (λ (o : Option X). Narrows X c (last_or (cond (p y) (Some y) a) (filter p xs)) o) (sym (last-step (λ z. c z && p z) b y xs)) later)

narrows-all : (X : Type 0) (c p : X → Bool) (xs : List X) → Narrows X c (last_or None (filter p xs)) (last_or None (filter (λ y. c y && p y) xs))
narrows-all X c p xs = narrows X c p xs None None (record { none = λ e. e; same = λ z e passes. absurd (none-some z e) })

-- where no record is alike, none is that checks
pub unchecked-none : (unit : ℕ) (sector prefix : List ℕ) (most : ℕ) → last_wanted unit sector prefix most false ≡ None → last_wanted unit sector prefix most true ≡ None
unchecked-none unit sector prefix most none =
    (narrows-all Record (λ r. r.checks) (λ r. is_alike prefix most (slice_range sector r.body (r.body + r.len))) (records unit sector)).none none

-- the last one that is alike is the one that is sought, if it checks
pub unchecked-same : (unit : ℕ) (sector prefix : List ℕ) (most : ℕ) (r : Record) → last_wanted unit sector prefix most false ≡ Some r → r.checks ≡ true → last_wanted unit sector prefix most true ≡ Some r
unchecked-same unit sector prefix most r some checks =
    (narrows-all Record (λ r. r.checks) (λ r. is_alike prefix most (slice_range sector r.body (r.body + r.len))) (records unit sector)).same r some checks

-- ---- the last record stands in the list

last-in : (X : Type 0) (p : X → Bool) (xs : List X) (a : Option X) (z : X) → last_or a (filter p xs) ≡ Some z → (a ≡ Some z) ⊎ ((i : ℕ) × (slice_get xs i ≡ Some z))
last-in X p [] a z e = inl e
last-in X p (y ∷ xs) a z e = elim (last-in X p xs (cond (p y) (Some y) a) z (sym (last-step p a y xs) ∙ e)) [
  | inl here ↦ at (p y) here
  | inr (i, there) ↦ inr (suc i, there)
]
  where
    at : (b : Bool) → cond b (Some y) a ≡ Some z → (a ≡ Some z) ⊎ ((i : ℕ) × (slice_get (y ∷ xs) i ≡ Some z))
    at true here = inr (0, here)
    at false here = inl here

-- the last record whose body is alike, with its body
pub record IsLast (prefix : List ℕ) (most : ℕ) (list : List Entry) (r : RecordAt) : Type 0 where
  pub i : ℕ
  pub body : List ℕ
  pub there : slice_get list i ≡ Some (r, body)
  pub last : last_or None (filter (λ (entry : Entry). is_alike prefix most entry.1) list) ≡ Some (r, body)

pub last-at : (prefix : List ℕ) (most : ℕ) (list : List Entry) (r : RecordAt) → last_with prefix most list ≡ Some r → IsLast prefix most list r
last-at prefix most list r e =
    let found = map-some (λ (entry : Entry). entry.0) (last_or None (filter (λ (entry : Entry). is_alike prefix most entry.1) list)) r e in
    let whole : last_or None (filter (λ (entry : Entry). is_alike prefix most entry.1) list) ≡ Some (r, found.0.1) = found.1 ∙ ap (λ (q : RecordAt). Some (q, found.0.1)) found.2 in
    elim (last-in Entry (λ (entry : Entry). is_alike prefix most entry.1) list None (r, found.0.1) whole) [
      | inl none ↦ absurd (none-some (r, found.0.1) none)
      | inr (i, there) ↦ record { i = i; body = found.0.1; there = there; last = whole }
    ]

pub place-at : (list : List Entry) (i : ℕ) (r : RecordAt) (body : List ℕ) → slice_get list i ≡ Some (r, body) → slice_get (record_places list) i ≡ Some r
place-at list i r body there = slice_get-map (λ (entry : Entry). entry.0) list i ∙ ap (option_map (λ (entry : Entry). entry.0)) there

pub last-listed : (prefix : List ℕ) (most : ℕ) (list : List Entry) (r : RecordAt) → last_with prefix most list ≡ Some r → Contains (record_places list) r
last-listed prefix most list r e =
    let h = last-at prefix most list r e in
    listed_from (record_places list) h.i (Some r) (sym (place-at list h.i r h.body h.there)) r refl

-- ---- in one sector

entries-last : (place : ℕ) (sector prefix : List ℕ) (most : ℕ) (rs : List Record) (a : Option Record)
    → option_map (λ (entry : Entry). entry.0) (last_or (option_map (entry_of place sector) a) (filter (λ (entry : Entry). is_alike prefix most entry.1) (map (entry_of place sector) (filter (λ r. r.checks) rs))))
    ≡ option_map (placed place) (last_or a (filter (is_wanted sector prefix most true) rs))
entries-last place sector prefix most [] None = refl
entries-last place sector prefix most [] (Some r) = refl
entries-last place sector prefix most (r ∷ rs) a = by (λ o. entries-last place sector prefix most rs o) r.checks (is_alike prefix most (slice_range sector r.body (r.body + r.len))) refl refl
  where
    alike : Bool
    alike = is_alike prefix most (slice_range sector r.body (r.body + r.len))

    left : Bool → Option RecordAt
    left c = option_map (λ (entry : Entry). entry.0) (last_or (option_map (entry_of place sector) a) (filter (λ (entry : Entry). is_alike prefix most entry.1) (map (entry_of place sector) (cond c (r ∷ filter (λ q. q.checks) rs) (filter (λ q. q.checks) rs)))))

    tail : List Entry
    tail = filter (λ (entry : Entry). is_alike prefix most entry.1) (map (entry_of place sector) (filter (λ q. q.checks) rs))

    head : Bool → Option RecordAt
    head b = option_map (λ (entry : Entry). entry.0) (last_or (option_map (entry_of place sector) a) (cond b (entry_of place sector r ∷ tail) tail))

    right : Bool → Option RecordAt
    right t = option_map (placed place) (last_or a (cond t (r ∷ filter (is_wanted sector prefix most true) rs) (filter (is_wanted sector prefix most true) rs)))

    by : ((o : Option Record)
        → option_map (λ (entry : Entry). entry.0) (last_or (option_map (entry_of place sector) o) (filter (λ (entry : Entry). is_alike prefix most entry.1) (map (entry_of place sector) (filter (λ q. q.checks) rs))))
        ≡ option_map (placed place) (last_or o (filter (is_wanted sector prefix most true) rs)))
        → (c b : Bool) → r.checks ≡ c → is_alike prefix most (slice_range sector r.body (r.body + r.len)) ≡ b
        → option_map (λ (entry : Entry). entry.0) (last_or (option_map (entry_of place sector) a) (filter (λ (entry : Entry). is_alike prefix most entry.1) (map (entry_of place sector) (filter (λ q. q.checks) (r ∷ rs)))))
        ≡ option_map (placed place) (last_or a (filter (is_wanted sector prefix most true) (r ∷ rs)))
    by rest false b c-is b-is = ap left c-is ∙ rest a ∙ sym (ap right (and_left r.checks alike c-is))
    by rest true false c-is b-is = ap left c-is ∙ ap head b-is ∙ rest a ∙ sym (ap right (and_right r.checks alike b-is))
    by rest true true c-is b-is = ap left c-is ∙ ap head b-is ∙ rest (Some r) ∙ sym (ap right (and_from r.checks alike c-is b-is))

pub last-sector : (unit place : ℕ) (sector prefix : List ℕ) (most : ℕ) → last_with prefix most (sector_entries unit place sector) ≡ option_map (placed place) (last_wanted unit sector prefix most true)
unfolding sector_entries
last-sector unit place sector prefix most = entries-last place sector prefix most (records unit sector) None

-- ---- over several sectors

last-append : {X : Type 0} (xs ys : List X) (a : Option X) → last_or a (xs ++ ys) ≡ last_or (last_or a xs) ys
last-append [] ys a = refl
last-append (x ∷ xs) ys a = last-append xs ys (Some x)

last-any : {X : Type 0} (ys : List X) (a : Option X) (z : X) → last_or None ys ≡ Some z → last_or a ys ≡ Some z
last-any [] a z e = absurd (none-some z e)
last-any (y ∷ ys) a z e = e

last-some : {X : Type 0} (ys : List X) (y : X) → last_or (Some y) ys ≡ None → ⊥
last-some [] y e = none-some y (sym e)
last-some (x ∷ ys) y e = last-some ys x e

last-nil : {X : Type 0} (ys : List X) (a : Option X) → last_or None ys ≡ None → last_or a ys ≡ a
last-nil [] a e = refl
last-nil (y ∷ ys) a e = absurd (last-some ys y e)

module _ (prefix : List ℕ) (most : ℕ) where
  abbrev alike : Entry → Bool
  alike entry = is_alike prefix most entry.1

  with-both : (xs ys : List Entry) → last_with prefix most (xs ++ ys) ≡ option_map (λ (entry : Entry). entry.0) (last_or (last_or None (filter alike xs)) (filter alike ys))
  with-both xs ys =
      ap (λ (l : List Entry). option_map (λ (entry : Entry). entry.0) (last_or None l)) (filter-append alike xs ys)
      ∙ ap (option_map (λ (entry : Entry). entry.0)) (last-append (filter alike xs) (filter alike ys) None)

  with-none : (xs ys : List Entry) → last_with prefix most ys ≡ None → last_with prefix most (xs ++ ys) ≡ last_with prefix most xs
  with-none xs ys none =
      with-both xs ys
      ∙ ap (option_map (λ (entry : Entry). entry.0)) (last-nil (filter alike ys) (last_or None (filter alike xs)) (map-none (λ (entry : Entry). entry.0) (last_or None (filter alike ys)) none))

  with-some : (xs ys : List Entry) (r : RecordAt) → last_with prefix most ys ≡ Some r → last_with prefix most (xs ++ ys) ≡ Some r
  with-some xs ys r some =
      let found = map-some (λ (entry : Entry). entry.0) (last_or None (filter alike ys)) r some in
      with-both xs ys
      ∙ ap (option_map (λ (entry : Entry). entry.0)) (last-any (filter alike ys) (last_or None (filter alike xs)) found.0 found.1) ∙ ap (λ (q : RecordAt). Some q) found.2

  flat-more : (f : ℕ → List Entry) (n k : ℕ) → n ≡ k + 1 → flat_map f (range_with_len 0 n) ≡ flat_map f (range_with_len 0 k) ++ f k
  flat-more f n k is =
      let same : 0 + k ≡ k = omega arith in
      ap (λ (m : ℕ). flat_map f (range_with_len 0 m)) is
      ∙ ap (flat_map f) (range-append 0 k 1)
      ∙ flat_map-append f (range_with_len 0 k) (range_with_len (0 + k) 1)
      ∙ ap (λ (m : ℕ). flat_map f (range_with_len 0 k) ++ flat_map f (m ∷ [])) same
      ∙ ap (λ (l : List Entry). flat_map f (range_with_len 0 k) ++ l) (append-nil (f k))

  -- the last of these sectors has no such record
  pub sectors-none : (f : ℕ → List Entry) (n k : ℕ) → n ≡ k + 1 → last_with prefix most (f k) ≡ None → last_with prefix most (flat_map f (range_with_len 0 k)) ≡ last_with prefix most (flat_map f (range_with_len 0 n))
  sectors-none f n k is none = sym (ap (last_with prefix most) (flat-more f n k is) ∙ with-none (flat_map f (range_with_len 0 k)) (f k) none)

  -- or it has
  pub sectors-some : (f : ℕ → List Entry) (n k : ℕ) (r : RecordAt) → n ≡ k + 1 → last_with prefix most (f k) ≡ Some r → Some r ≡ last_with prefix most (flat_map f (range_with_len 0 n))
  sectors-some f n k r is some = sym (ap (last_with prefix most) (flat-more f n k is) ∙ with-some (flat_map f (range_with_len 0 k)) (f k) r some)

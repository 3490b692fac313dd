-- The record after a record, in the order of the area's list.
use Rattle.std.proofs.Common.{◌≡◌, ℕ, zero, suc, ◌+◌, ◌-◌, ◌%◌, ◌<◌, ◌≤◌, min, Bool, true, false, cond, eqb, ltb, List, [], ◌∷◌, ◌++◌, length, map, drop, Option, Some, None, inl, inr, refl, sym, ap, subst, ◌∙◌, arith}
use Rattle.std.specs.Prelude.{slice_range, find, Contains}
use Rattle.std.specs.List.{range_with_len, filter, flat_map, slice_get, starts_with}
use Rattle.std.specs.Option.{option_map}
use Rattle.std.proofs.lemmas.Bool.{cases_lt, cases_Bool, and_left, and_right, and_from, cond-true, cond-false, lt-ltb, le-ltb}
use Rattle.std.proofs.lemmas.List.{map-append, drop-append-le}
use Rattle.std.proofs.lemmas.Option.{none-some, slice_get-map, slice_get-get_or, slice_get_within, get_or_from_slice_get}
use Rattle.flash_map.specs.Units.{IsUnit, padded}
use Rattle.fcb_ring.specs.declared.record.Record.{Record}
use Rattle.fcb_ring.specs.declared.record.RecordAt.{RecordAt}
use Rattle.fcb_ring.specs.Records.{record_at, records, walk, passes, with_prefix}
use Rattle.fcb_ring.specs.Rings.{turned, IsRing}
use Rattle.fcb_ring.specs.Entries.{states, placed, entry_of, sector_entries, entries, records_from, following}
use Rattle.flash_map.specs.Area.{sector_at}
use Rattle.fcb_ring.specs.Standing.{record_places, first_with, IsNext, IsNextWith}
use Rattle.fcb_ring.proofs.Walks.{option_cases, walk-none, walk-some, walk-bound}
use Rattle.fcb_ring.proofs.RecordLemmas.{read, advances, aligned_after, end-fields, header_fits}
use Rattle.fcb_ring.proofs.AreaLemmas.{HasSize, length-states}
use Rattle.fcb_ring.proofs.RingLemmas.{turned-within}
use Rattle.fcb_ring.proofs.StandLemmas.{part, entries-are}

-- where the bytes behind a record start
abbrev pub after_of : ℕ → RecordAt → ℕ
after_of unit r = r.body + padded unit r.len + unit

map-map : {X Y Z : Type 0} (f : Y → Z) (g : X → Y) (xs : List X) → map f (map g xs) ≡ map (λ x. f (g x)) xs
map-map f g [] = refl
map-map f g (x ∷ xs) = ap (λ ys. f (g x) ∷ ys) (map-map f g xs)

map-flat_map : {X Y Z : Type 0} (f : Y → Z) (g : X → List Y) (xs : List X) → map f (flat_map g xs) ≡ flat_map (λ x. map f (g x)) xs
map-flat_map f g [] = refl
map-flat_map f g (x ∷ xs) = map-append f (g x) (flat_map g xs) ∙ ap (λ ys. map f (g x) ++ ys) (map-flat_map f g xs)

flat_map-ext : {X Y : Type 0} (f g : X → List Y) (xs : List X) → ((x : X) → f x ≡ g x) → flat_map f xs ≡ flat_map g xs
flat_map-ext f g [] same = refl
flat_map-ext f g (x ∷ xs) same = ap (λ ys. ys ++ flat_map f xs) (same x) ∙ ap (λ ys. g x ++ ys) (flat_map-ext f g xs same)

get-prefix : {X : Type 0} (xs ys : List X) (i : ℕ) → i < length xs → slice_get (xs ++ ys) i ≡ slice_get xs i
get-prefix [] ys i lt = absurd (omega arith)
get-prefix (x ∷ xs) ys zero lt = refl
get-prefix (x ∷ xs) ys (suc i) lt = get-prefix xs ys i (omega arith)

get-behind : {X : Type 0} (xs ys : List X) (i : ℕ) → length xs ≤ i → slice_get (xs ++ ys) i ≡ slice_get ys (i - length xs)
get-behind [] ys i le = let e : i ≡ i - 0 = omega arith in ap (slice_get ys) e
get-behind (x ∷ xs) ys zero le = absurd (omega arith)
get-behind (x ∷ xs) ys (suc i) le = let e : i - length xs ≡ suc i - suc (length xs) = omega arith in get-behind xs ys i (omega arith) ∙ ap (slice_get ys) e

drop-behind : {X : Type 0} (xs ys : List X) (i : ℕ) → length xs ≤ i → drop i (xs ++ ys) ≡ drop (i - length xs) ys
drop-behind [] ys i le = let e : i ≡ i - 0 = omega arith in ap (λ (n : ℕ). drop n ys) e
drop-behind (x ∷ xs) ys zero le = absurd (omega arith)
drop-behind (x ∷ xs) ys (suc i) le = let e : i - length xs ≡ suc i - suc (length xs) = omega arith in drop-behind xs ys i (omega arith) ∙ ap (λ (n : ℕ). drop n ys) e

-- the first that passes and begins so
pub first-with : (sector prefix : List ℕ) (place : ℕ) (test : RecordAt → Bool) → ((r : Record) → test (placed place r) ≡ starts_with eqb (slice_range sector r.body (r.body + r.len)) prefix) → (rs : List Record)
    → find test (map (placed place) (filter (λ r. r.checks) rs)) ≡ option_map (placed place) (option_map (with_prefix sector prefix) (find (passes sector prefix) rs))
first-with sector prefix place test is [] = refl
first-with sector prefix place test is (r ∷ rs) = by (first-with sector prefix place test is rs) r.checks (starts_with eqb (slice_range sector r.body (r.body + r.len)) prefix) refl refl
  where
    left : Bool → Option RecordAt
    left b = find test (map (placed place) (cond b (r ∷ filter (λ q. q.checks) rs) (filter (λ q. q.checks) rs)))

    head : Bool → Option RecordAt
    head b = cond b (Some (placed place r)) (find test (map (placed place) (filter (λ q. q.checks) rs)))

    right : Bool → Option RecordAt
    right b = option_map (placed place) (option_map (with_prefix sector prefix) (cond b (Some r) (find (passes sector prefix) rs)))

    by : find test (map (placed place) (filter (λ q. q.checks) rs)) ≡ option_map (placed place) (option_map (with_prefix sector prefix) (find (passes sector prefix) rs)) → (checks begins : Bool) → r.checks ≡ checks → starts_with eqb (slice_range sector r.body (r.body + r.len)) prefix ≡ begins
        → find test (map (placed place) (filter (λ q. q.checks) (r ∷ rs))) ≡ option_map (placed place) (option_map (with_prefix sector prefix) (find (passes sector prefix) (r ∷ rs)))
    by rest false begins c b = ap left c ∙ rest ∙ sym (ap right (and_right (starts_with eqb (slice_range sector r.body (r.body + r.len)) prefix) r.checks c))
    by rest true false c b = ap left c ∙ ap head (is r ∙ b) ∙ rest ∙ sym (ap right (and_left (starts_with eqb (slice_range sector r.body (r.body + r.len)) prefix) r.checks b))
    by rest true true c b = ap left c ∙ ap head (is r ∙ b) ∙ sym (ap right (and_from (starts_with eqb (slice_range sector r.body (r.body + r.len)) prefix) r.checks b c))

-- what a search over two parts finds
pub find-prefix : {X : Type 0} (test : X → Bool) (xs ys : List X) (x : X) → find test xs ≡ Some x → find test (xs ++ ys) ≡ Some x
find-prefix test [] ys x e = absurd (none-some x e)
find-prefix test (y ∷ xs) ys x e = by (λ later. find-prefix test xs ys x later) (test y) refl
  where
    by : (find test xs ≡ Some x → find test (xs ++ ys) ≡ Some x) → (b : Bool) → test y ≡ b → find test (y ∷ (xs ++ ys)) ≡ Some x
    by rest true is = ap (λ (t : Bool). cond t (Some y) (find test (xs ++ ys))) is ∙ sym (ap (λ (t : Bool). cond t (Some y) (find test xs)) is) ∙ e
    by rest false is = ap (λ (t : Bool). cond t (Some y) (find test (xs ++ ys))) is ∙ rest (sym (ap (λ (t : Bool). cond t (Some y) (find test xs)) is) ∙ e)

pub find-behind : {X : Type 0} (test : X → Bool) (xs ys : List X) → find test xs ≡ None → find test (xs ++ ys) ≡ find test ys
find-behind test [] ys e = refl
find-behind test (y ∷ xs) ys e = by (λ later. find-behind test xs ys later) (test y) refl
  where
    by : (find test xs ≡ None → find test (xs ++ ys) ≡ find test ys) → (b : Bool) → test y ≡ b → find test (y ∷ (xs ++ ys)) ≡ find test ys
    by rest true is = absurd (none-some y (sym e ∙ ap (λ (t : Bool). cond t (Some y) (find test xs)) is))
    by rest false is = ap (λ (t : Bool). cond t (Some y) (find test (xs ++ ys))) is ∙ rest (sym (ap (λ (t : Bool). cond t (Some y) (find test xs)) is) ∙ e)

-- what is found stands in the list
pub found-at : {X : Type 0} (test : X → Bool) (xs : List X) (n : ℕ) (x : X) → find test (drop n xs) ≡ Some x → (j : ℕ) × (slice_get xs j ≡ Some x)
found-at test [] zero x e = absurd (none-some x e)
found-at test [] (suc n) x e = absurd (none-some x e)
found-at test (y ∷ xs) (suc n) x e = let h = found-at test xs n x e in (suc h.0, h.1)
found-at test (y ∷ xs) zero x e = by (λ later. found-at test xs zero x later) (test y) refl
  where
    by : (find test xs ≡ Some x → (j : ℕ) × (slice_get xs j ≡ Some x)) → (b : Bool) → test y ≡ b → (j : ℕ) × (slice_get (y ∷ xs) j ≡ Some x)
    by rest true is = (0, sym (ap (λ (t : Bool). cond t (Some y) (find test xs)) is) ∙ e)
    by rest false is = let h = rest (sym (ap (λ (t : Bool). cond t (Some y) (find test xs)) is) ∙ e) in (suc h.0, h.1)

-- a test on the bodies of records that are listed, from a place on
pub with-bodies : (test : List ℕ → Bool) (body : RecordAt → List ℕ) (list : List (RecordAt × List ℕ)) → ((i : ℕ) (entry : RecordAt × List ℕ) → slice_get list i ≡ Some entry → entry.1 ≡ body entry.0) → (n : ℕ)
    → find (λ r. test (body r)) (drop n (record_places list)) ≡ option_map (λ entry. entry.0) (find (λ entry. test entry.1) (drop n list))
with-bodies test body [] are zero = refl
with-bodies test body [] are (suc n) = refl
with-bodies test body (x ∷ list) are (suc n) = with-bodies test body list (λ i entry e. are (suc i) entry e) n
with-bodies test body (x ∷ list) are zero = by (with-bodies test body list (λ i entry e. are (suc i) entry e) zero) (test x.1) refl
  where
    same : test (body x.0) ≡ test x.1
    same = sym (ap test (are 0 x refl))

    by : find (λ r. test (body r)) (record_places list) ≡ option_map (λ entry. entry.0) (find (λ entry. test entry.1) list) → (b : Bool) → test x.1 ≡ b → find (λ r. test (body r)) (record_places (x ∷ list)) ≡ option_map (λ entry. entry.0) (find (λ entry. test entry.1) (x ∷ list))
    by rest true is =
        ap (λ (t : Bool). cond t (Some x.0) (find (λ r. test (body r)) (record_places list))) (same ∙ is)
        ∙ sym (ap (λ (t : Bool). option_map (λ entry. entry.0) (cond t (Some x) (find (λ entry. test entry.1) list))) is)
    by rest false is =
        ap (λ (t : Bool). cond t (Some x.0) (find (λ r. test (body r)) (record_places list))) (same ∙ is)
        ∙ rest ∙ sym (ap (λ (t : Bool). option_map (λ entry. entry.0) (cond t (Some x) (find (λ entry. test entry.1) list))) is)

-- every body begins with no bytes, so the first of all is found
pub first-any : (list : List (RecordAt × List ℕ)) (n : ℕ) → first_with [] (drop n list) ≡ slice_get (record_places list) n
first-any [] zero = refl
first-any [] (suc n) = refl
first-any (x ∷ list) zero = refl
first-any (x ∷ list) (suc n) = first-any list n

pub next-any : (list : List (RecordAt × List ℕ)) (after next : Option RecordAt) → IsNextWith list [] after next → IsNext list after next
next-any list None next is = is ∙ first-any list 0
next-any list (Some r) next is = λ i listed. is i listed ∙ first-any list (i + 1)

some-same : {X : Type 0} (x y : X) → Some x ≡ Some y → x ≡ y
some-same x y e = cc

-- ---- in one sector

module _ (unit : ℕ) (is_unit : IsUnit unit) (place : ℕ) (sector : List ℕ) where
  abbrev size : ℕ
  size = length sector

  abbrev listed : ℕ → ℕ → List RecordAt
  listed n at = map (placed place) (filter (λ r. r.checks) (walk (record_at unit sector) n at))

  -- the record stands there, and the list goes on behind it
  pub record IsListed (i : ℕ) (list : List RecordAt) (r : RecordAt) : Type 0 where
    pub here : r.sector ≡ place
    pub aligned : after_of unit r % unit ≡ 0
    pub within : after_of unit r ≤ length sector
    pub rest : drop (i + 1) list ≡ records_from unit place sector (after_of unit r)

  listed-none : (n at : ℕ) → record_at unit sector at ≡ None → listed n at ≡ []
  listed-none n at none = ap (λ rs. map (placed place) (filter (λ r. r.checks) rs)) (walk-none (record_at unit sector) n at none)

  listed-yes : (n at : ℕ) (q : Record) → record_at unit sector at ≡ Some q → q.checks ≡ true → listed (suc n) at ≡ placed place q ∷ listed n q.end
  listed-yes n at q some yes-it = ap (λ rs. map (placed place) (filter (λ r. r.checks) rs)) (walk-some (record_at unit sector) n at q some)
      ∙ ap (λ (t : Bool). map (placed place) (cond t (q ∷ filter (λ r. r.checks) (walk (record_at unit sector) n q.end)) (filter (λ r. r.checks) (walk (record_at unit sector) n q.end)))) yes-it

  listed-not : (n at : ℕ) (q : Record) → record_at unit sector at ≡ Some q → q.checks ≡ false → listed (suc n) at ≡ listed n q.end
  listed-not n at q some not-it = ap (λ rs. map (placed place) (filter (λ r. r.checks) rs)) (walk-some (record_at unit sector) n at q some)
      ∙ ap (λ (t : Bool). map (placed place) (cond t (q ∷ filter (λ r. r.checks) (walk (record_at unit sector) n q.end)) (filter (λ r. r.checks) (walk (record_at unit sector) n q.end)))) not-it

  listed-bound : (n at : ℕ) → length sector ≤ at + n → listed n at ≡ records_from unit place sector at
  listed-bound n at le = ap (λ rs. map (placed place) (filter (λ r. r.checks) rs)) (walk-bound (record_at unit sector) (length sector) n (length sector) at (advances unit sector is_unit) le (omega arith))

  more : (i : ℕ) (list : List RecordAt) (first r : RecordAt) → IsListed i list r → IsListed (suc i) (first ∷ list) r
  more i list first r h = let e : suc i + 1 ≡ suc (i + 1) = omega arith in record { here = h.here; aligned = h.aligned; within = h.within; rest = ap (λ (n : ℕ). drop n (first ∷ list)) e ∙ h.rest }

  at-first : (n at : ℕ) (q : Record) (r : RecordAt) → length sector ≤ at + suc n → at % unit ≡ 0 → record_at unit sector at ≡ Some q → placed place q ≡ r → IsListed 0 (placed place q ∷ listed n q.end) r
  at-first n at q r le aligned some is =
      let further = advances unit sector is_unit at q some in
      let h = read unit sector at q some in
      let end : after_of unit (placed place q) ≡ q.end = sym (subst (λ (x : Record). x.end ≡ x.body + padded unit x.len + unit) (sym h.is) (end-fields unit sector at)) in
      subst (IsListed 0 (placed place q ∷ listed n q.end)) is (record {
        here = refl;
        aligned = ap (λ (m : ℕ). m % unit) end ∙ aligned_after unit sector is_unit at q some aligned;
        within = omega (arith, end, further.1);
        rest = listed-bound n q.end (omega (arith, further.0)) ∙ ap (records_from unit place sector) (sym end);
      })

  pub in_sector : (n at i : ℕ) (r : RecordAt) → length sector ≤ at + n → at % unit ≡ 0 → slice_get (listed n at) i ≡ Some r → IsListed i (listed n at) r
  in_sector zero at i r le aligned is = absurd (none-some r is)
  in_sector (suc n) at i r le aligned is = elim (option_cases (record_at unit sector at)) [
    | inl none ↦ absurd (none-some r (sym (ap (λ (l : List RecordAt). slice_get l i) (listed-none (suc n) at none)) ∙ is))
    | inr (q, some) ↦
        let further = advances unit sector is_unit at q some in
        let aligned_q = aligned_after unit sector is_unit at q some aligned in
        elim (cases_Bool q.checks) [
          | inl passes ↦
              let e = listed-yes n at q some passes in
              subst (λ (l : List RecordAt). IsListed i l r) (sym e) (at-or-behind n at q i r le aligned some (sym (ap (λ (l : List RecordAt). slice_get l i) e) ∙ is) (λ j there. in_sector n q.end j r (omega arith) aligned_q there))
          | inr fails ↦
              let e = listed-not n at q some fails in
              subst (λ (l : List RecordAt). IsListed i l r) (sym e) (in_sector n q.end i r (omega arith) aligned_q (sym (ap (λ (l : List RecordAt). slice_get l i) e) ∙ is))
        ]
  ]
    where
      at-or-behind : (n at : ℕ) (q : Record) (i : ℕ) (r : RecordAt) → length sector ≤ at + suc n → at % unit ≡ 0 → record_at unit sector at ≡ Some q → slice_get (placed place q ∷ listed n q.end) i ≡ Some r
          → ((j : ℕ) → slice_get (listed n q.end) j ≡ Some r → IsListed j (listed n q.end) r) → IsListed i (placed place q ∷ listed n q.end) r
      at-or-behind n at q zero r le aligned some is later = at-first n at q r le aligned some (some-same (placed place q) r is)
      at-or-behind n at q (suc i) r le aligned some is later = more i (listed n q.end) (placed place q) r (later i is)

-- ---- over the sectors that count

module _ (unit size : ℕ) (sectors : List (List ℕ)) (has : HasSize unit size sectors) (oldest used : ℕ) (form : IsRing (states unit sectors) oldest used) where
  abbrev count : ℕ
  count = min used (length sectors - 1)

  abbrev at : ℕ → List ℕ
  at k = sector_at sectors (turned (length sectors) oldest k)

  abbrev all_of : ℕ → List RecordAt
  all_of k = records_from unit (turned (length sectors) oldest k) (at k) (padded unit 8)

  places-of : (k : ℕ) → map (λ entry. entry.0) (part unit sectors oldest k) ≡ all_of k
  unfolding sector_entries records
  places-of k = map-map (λ entry. entry.0) (entry_of (turned (length sectors) oldest k) (at k)) (filter (λ r. r.checks) (walk (record_at unit (at k)) (length (at k)) (padded unit 8)))

  pub places-are : record_places (entries unit sectors) ≡ flat_map all_of (range_with_len 0 (min used (length sectors - 1)))
  places-are =
      ap (map (λ entry. entry.0)) (entries-are unit sectors oldest used form)
      ∙ map-flat_map (λ entry. entry.0) (part unit sectors oldest) (range_with_len 0 count) ∙ flat_map-ext (λ k. map (λ entry. entry.0) (part unit sectors oldest k)) all_of (range_with_len 0 count) places-of

  inside : (k : ℕ) → k < count → turned (length sectors) oldest k < length sectors
  inside k lt = turned-within (length sectors) oldest k (omega (arith, form.within, length-states unit sectors)) (omega arith)

  -- the record stands so far behind the oldest, and the list goes on behind it
  pub record IsAcross (k m i : ℕ) (r : RecordAt) : Type 0 where
    pub j : ℕ
    pub from : k ≤ j
    pub below : j < k + m
    pub here : r.sector ≡ turned (length sectors) oldest j
    pub aligned : after_of unit r % unit ≡ 0
    pub within : after_of unit r ≤ size
    pub rest : drop (i + 1) (flat_map all_of (range_with_len k m)) ≡ records_from unit (turned (length sectors) oldest j) (at j) (after_of unit r) ++ flat_map all_of (range_with_len (j + 1) (k + m - (j + 1)))

  pub across : (m k i : ℕ) (r : RecordAt) → k + m ≤ min used (length sectors - 1) → slice_get (flat_map all_of (range_with_len k m)) i ≡ Some r → IsAcross k m i r
  across zero k i r le is = absurd (none-some r is)
  across (suc m) k i r le is =
      let rest = flat_map all_of (range_with_len (k + 1) m) in
      let long : length (at k) ≡ size = has.each (turned (length sectors) oldest k) (inside k (omega arith)) in
      elim (cases_lt i (length (all_of k))) [
        | inl lt ↦
            let there : slice_get (all_of k) i ≡ Some r = sym (get-prefix (all_of k) rest i lt) ∙ is in
            let h = in_sector unit has.is_unit (turned (length sectors) oldest k) (at k) (length (at k)) (padded unit 8) i r (omega arith) (header_fits unit has.is_unit).0 there in
            let n : k + suc m - (k + 1) ≡ m = omega arith in
            record {
              j = k;
              from = omega arith;
              below = omega arith;
              here = h.here;
              aligned = h.aligned;
              within = omega (arith, h.within);
              rest = drop-append-le (i + 1) (all_of k) rest (omega arith) ∙ ap (λ (l : List RecordAt). l ++ rest) h.rest
                  ∙ ap (λ (x : ℕ). records_from unit (turned (length sectors) oldest k) (at k) (after_of unit r) ++ flat_map all_of (range_with_len (k + 1) x)) (sym n);
            }
        | inr ge ↦
            let later = across m (k + 1) (i - length (all_of k)) r (omega arith) (sym (get-behind (all_of k) rest i ge) ∙ is) in
            let step : i + 1 - length (all_of k) ≡ i - length (all_of k) + 1 = omega arith in
            let n : k + 1 + m - (later.j + 1) ≡ k + suc m - (later.j + 1) = omega arith in
            record {
              j = later.j;
              from = omega (arith, later.from);
              below = omega (arith, later.below);
              here = later.here;
              aligned = later.aligned;
              within = later.within;
              rest = drop-behind (all_of k) rest (i + 1) (omega arith) ∙ ap (λ (x : ℕ). drop x rest) step ∙ later.rest
                  ∙ ap (λ (x : ℕ). records_from unit (turned (length sectors) oldest later.j) (at later.j) (after_of unit r) ++ flat_map all_of (range_with_len (later.j + 1) x)) n;
            }
      ]

  pub following-is : (k from : ℕ) → k < min used (length sectors - 1) → following unit sectors oldest (min used (length sectors - 1)) k from
      ≡ records_from unit (turned (length sectors) oldest k) (at k) from ++ flat_map all_of (range_with_len (k + 1) (min used (length sectors - 1) - (k + 1)))
  unfolding following
  following-is k from lt = cond-true (ltb k count) _ [] (lt-ltb k count lt)

  pub following-end : (k from : ℕ) → min used (length sectors - 1) ≤ k → following unit sectors oldest (min used (length sectors - 1)) k from ≡ []
  unfolding following
  following-end k from ge = cond-false (ltb k count) _ [] (le-ltb k count ge)

  -- the whole list is what follows the first sector's header
  pub following-all : following unit sectors oldest (min used (length sectors - 1)) 0 (padded unit 8) ≡ record_places (entries unit sectors)
  following-all = elim (cases_lt 0 count) [
    | inl some ↦
        let e : count ≡ suc (count - 1) = omega arith in
        following-is 0 (padded unit 8) some ∙ sym (places-are ∙ ap (λ (n : ℕ). flat_map all_of (range_with_len 0 n)) e)
    | inr none ↦
        let e : count ≡ 0 = omega arith in
        following-end 0 (padded unit 8) none ∙ sym (places-are ∙ ap (λ (n : ℕ). flat_map all_of (range_with_len 0 n)) e)
  ]

  -- behind one sector stands what follows the next one's header
  pub following-rest : (k : ℕ) → k < min used (length sectors - 1) → flat_map all_of (range_with_len (k + 1) (min used (length sectors - 1) - (k + 1))) ≡ following unit sectors oldest (min used (length sectors - 1)) (k + 1) (padded unit 8)
  following-rest k lt = elim (cases_lt (k + 1) count) [
    | inl more ↦
        let e : count - (k + 1) ≡ suc (count - (k + 1 + 1)) = omega arith in
        ap (λ (n : ℕ). flat_map all_of (range_with_len (k + 1) n)) e ∙ sym (following-is (k + 1) (padded unit 8) more)
    | inr last ↦
        let e : count - (k + 1) ≡ 0 = omega arith in
        ap (λ (n : ℕ). flat_map all_of (range_with_len (k + 1) n)) e ∙ sym (following-end (k + 1) (padded unit 8) last)
  ]

  -- what follows a record of the list
  pub behind : (i : ℕ) (r : RecordAt) → slice_get (record_places (entries unit sectors)) i ≡ Some r → IsAcross 0 (min used (length sectors - 1)) i r
  behind i r is = across count 0 i r (omega arith) (sym (ap (λ (l : List RecordAt). slice_get l i) places-are) ∙ is)

  pub behind-is : (i : ℕ) (r : RecordAt) (h : IsAcross 0 (min used (length sectors - 1)) i r) → drop (i + 1) (record_places (entries unit sectors)) ≡ following unit sectors oldest (min used (length sectors - 1)) h.j (after_of unit r)
  behind-is i r h =
      let n : 0 + count - (h.j + 1) ≡ count - (h.j + 1) = omega arith in
      ap (λ (l : List RecordAt). drop (i + 1) l) places-are
      ∙ (h.rest ∙ ap (λ (x : ℕ). records_from unit (turned (length sectors) oldest h.j) (at h.j) (after_of unit r) ++ flat_map all_of (range_with_len (h.j + 1) x)) n ∙ sym (following-is h.j (after_of unit r) (omega (arith, h.below))))

-- ---- the body of a record

map-some : {X Y : Type 0} (f : X → Y) (o : Option X) (y : Y) → option_map f o ≡ Some y → (x : X) × (o ≡ Some x) × (f x ≡ y)
map-some f None y e = absurd (none-some y e)
map-some f (Some x) y e = (x, refl, some-same (f x) y e)

-- the place in the list, with its body
pub entry_at : (list : List (RecordAt × List ℕ)) (i : ℕ) (r : RecordAt) → slice_get (record_places list) i ≡ Some r → (body : List ℕ) × (slice_get list i ≡ Some (r, body))
entry_at list i r is =
    let found = map-some (λ entry. entry.0) (slice_get list i) r (sym (slice_get-map (λ entry. entry.0) list i) ∙ is) in
    (found.0.1, found.1 ∙ ap (λ (x : RecordAt). Some (x, found.0.1)) found.2)

pub contained_at : (list : List RecordAt) (r : RecordAt) → Contains list r → (i : ℕ) × (slice_get list i ≡ Some r)
contained_at list r there = (there.0, slice_get-get_or list there.0 r there.1 ∙ ap (λ (x : RecordAt). Some x) there.2)

from_part : {X : Type 0} (P : X → Type 0) (f : ℕ → List X) (xs : List ℕ) (i : ℕ) (e : X) → ((k j : ℕ) (x : X) → slice_get (f k) j ≡ Some x → P x) → slice_get (flat_map f xs) i ≡ Some e → P e
from_part P f [] i e each is = absurd (none-some e is)
from_part P f (k ∷ ks) i e each is = elim (cases_lt i (length (f k))) [
  | inl lt ↦ each k i e (sym (get-prefix (f k) (flat_map f ks) i lt) ∙ is)
  | inr ge ↦ from_part P f ks (i - length (f k)) e each (sym (get-behind (f k) (flat_map f ks) i ge) ∙ is)
]

abbrev pub HasBody : List (List ℕ) → RecordAt × List ℕ → Type 0
HasBody sectors entry = entry.1 ≡ slice_range (sector_at sectors entry.0.sector) entry.0.body (entry.0.body + entry.0.len)

part-bodies : (unit : ℕ) (sectors : List (List ℕ)) (oldest k j : ℕ) (entry : RecordAt × List ℕ) → slice_get (part unit sectors oldest k) j ≡ Some entry → HasBody sectors entry
unfolding sector_entries
part-bodies unit sectors oldest k j entry is =
    let place = turned (length sectors) oldest k in
    let list = filter (λ r. r.checks) (records unit (sector_at sectors place)) in
    let found = map-some (entry_of place (sector_at sectors place)) (slice_get list j) entry (sym (slice_get-map (entry_of place (sector_at sectors place)) list j) ∙ is) in
    subst (HasBody sectors) found.2 refl

pub body_is : (unit : ℕ) (sectors : List (List ℕ)) (oldest used : ℕ) → IsRing (states unit sectors) oldest used → (i : ℕ) (entry : RecordAt × List ℕ) → slice_get (entries unit sectors) i ≡ Some entry → HasBody sectors entry
body_is unit sectors oldest used form i entry is =
    from_part (HasBody sectors) (part unit sectors oldest) (range_with_len 0 (min used (length sectors - 1))) i entry (part-bodies unit sectors oldest)
    (sym (ap (λ (l : List (RecordAt × List ℕ)). slice_get l i) (entries-are unit sectors oldest used form)) ∙ is)

-- what the list gives at a place is one of its records
pub listed_from : (list : List RecordAt) (i : ℕ) (o : Option RecordAt) → o ≡ slice_get list i → (r : RecordAt) → o ≡ Some r → Contains list r
listed_from list i o is r some =
    let there : slice_get list i ≡ Some r = sym is ∙ some in
    (i, slice_get_within list i r there, get_or_from_slice_get list i r r there)

-- An area that is not damaged has one of the forms.
use Rattle.std.proofs.Common.{◌≡◌, ℕ, suc, zero, ◌+◌, ◌-◌, ◌<◌, ◌≤◌, ◌⊎◌, Bool, true, false, not, ◌&&◌, ◌||◌, cond, eqb, List, [], ◌∷◌, ◌++◌, length, Option, Some, None, refl, sym, ap, subst, ◌∙◌, inl, inr, arith}
use Rattle.std.specs.Prelude.{unwrap_or}
use Rattle.std.specs.Option.{option_map, option_or}
use Rattle.std.specs.List.{range_with_len, filter, find, All, list_all, slice_get}
use Rattle.std.proofs.lemmas.Bool.{false≢true, cases_Bool, cases_lt, cases_eq, ne_eqb, lt-ltb, le-ltb, and_parts, not-true, not_from_false}
use Rattle.std.proofs.lemmas.List.Elements.{All-cons, All-nil, All-get_or, filter-append}
use Rattle.std.proofs.lemmas.List.FromFn.{length-range_with_len, get_or-range_with_len}
use Rattle.item_laws.specs.Area.{next, previous, places, is_closed_at, is_blank_at, follows_closed, openings, open_sector, counts_at, looked_at, first_of_kind, first_damage}
use Rattle.flash_map.specs.Area.{sector_at}
use Rattle.flash_map.specs.declared.faults.Why.{Why}
use Rattle.flash_map.specs.declared.faults.Why.TheVariants.{TwoOpen, Dirty, NoFence, Overfull, AllClosed}
use Rattle.item_laws.specs.Forms.{distance, IsRing, IsForm}
use Rattle.item_laws.proofs.Places.{before, before-within, distance-up, distance-round, distance-same, distance-within, distance-positive, distance-before, range_at}
use Rattle.item_laws.proofs.Lists.{counts-at_rest, counts-collecting, counts-collected}
use Rattle.item_laws.specs.Reading.{Reading, is_sound}

-- ---- what None says

some_none : {X : Type 0} (x : X) → Some x ≡ None → ⊥
some_none x e = cc

pub cond_none : {X : Type 0} (b : Bool) (x : X) (o : Option X) → cond b (Some x) o ≡ None → (b ≡ false) × (o ≡ None)
cond_none true x o e = absurd (some_none x e)
cond_none false x o e = (refl, e)

pub or_none : {X : Type 0} (a b : Option X) → option_or a b ≡ None → (a ≡ None) × (b ≡ None)
or_none None b e = (refl, e)
or_none (Some x) b e = absurd (some_none x e)

pub map_none : {X Y : Type 0} (f : X → Y) (o : Option X) → option_map f o ≡ None → o ≡ None
map_none f None e = refl
map_none f (Some x) e = absurd (some_none (f x) e)

pub find_none_all : (p : ℕ → Bool) (xs : List ℕ) → find p xs ≡ None → All (λ k. p k ≡ false) xs
find_none_all p [] e = All-nil (λ k. p k ≡ false)
find_none_all p (x ∷ xs) e = let parts = cond_none (p x) x (find p xs) e in All-cons (λ k. p k ≡ false) x xs parts.0 (find_none_all p xs parts.1)

pub at_range : (P : ℕ → Type 0) (n k : ℕ) → All P (range_with_len 0 n) → k < n → P k
at_range P n k all lt =
    let long = length-range_with_len 0 n in
    let e : 0 + k ≡ k = omega arith in
    subst P (get_or-range_with_len 0 n k 0 lt ∙ e) (All-get_or P (range_with_len 0 n) k 0 (omega arith) all)

pub no_kind : (why : Why) (p : ℕ → Bool) (sectors : List (List ℕ)) → first_of_kind why p sectors ≡ None → (k : ℕ) → k < length sectors → p k ≡ false
no_kind why p sectors e k lt = at_range (λ k. p k ≡ false) (length sectors) k (find_none_all p (places sectors) (map_none (λ (place : ℕ). record { sector = place; why = why }) (find p (places sectors)) e)) lt

-- the first that passes
pub find-filter : (p : ℕ → Bool) (xs : List ℕ) → slice_get (filter p xs) 0 ≡ find p xs
find-filter p [] = refl
find-filter p (x ∷ xs) =
    elim (cases_Bool (p x)) [
      | inl here ↦ ap (λ (t : Bool). slice_get (cond t (x ∷ filter p xs) (filter p xs)) 0) here ∙ sym (ap (λ (t : Bool). cond t (Some x) (find p xs)) here)
      | inr apart ↦ ap (λ (t : Bool). slice_get (cond t (x ∷ filter p xs) (filter p xs)) 0) apart ∙ find-filter p xs ∙ sym (ap (λ (t : Bool). cond t (Some x) (find p xs)) apart)
    ]

same_some : (x y : ℕ) → Some x ≡ Some y → x ≡ y
same_some x y e = cc

pub found : (p : ℕ → Bool) (a n k : ℕ) → find p (range_with_len a n) ≡ Some k → (k < a + n) × (p k ≡ true)
found p a zero k e = absurd (some_none k (sym e))
found p a (suc n) k e =
    elim (cases_Bool (p a)) [
      | inl here ↦
          let is : a ≡ k = same_some a k (sym (ap (λ (t : Bool). cond t (Some a) (find p (range_with_len (a + 1) n))) here) ∙ e) in
          (omega arith, ap p (sym is) ∙ here)
      | inr apart ↦
          let tail = found p (a + 1) n k (sym (ap (λ (t : Bool). cond t (Some a) (find p (range_with_len (a + 1) n))) apart) ∙ e) in
          let lt = tail.0 in
          (omega arith, tail.1)
    ]

-- a list with one element that passes has only that one, where it has no second
single : (xs ys : List ℕ) (k : ℕ) → slice_get (xs ++ k ∷ ys) 1 ≡ None → xs ++ k ∷ ys ≡ k ∷ []
single [] [] k e = refl
single [] (y ∷ ys) k e = absurd (some_none y e)
single (x ∷ []) ys k e = absurd (some_none k e)
single (x ∷ z ∷ xs) ys k e = absurd (some_none z e)

opening-only : (p : ℕ → Bool) (n k : ℕ) → slice_get (filter p (range_with_len 0 n)) 1 ≡ None → k < n → p k ≡ true → filter p (range_with_len 0 n) ≡ k ∷ []
opening-only p n k none lt passes =
    let left = filter p (range_with_len 0 k) in
    let right = filter p (range_with_len (k + 1) (n - k - 1)) in
    let parts : filter p (range_with_len 0 n) ≡ filter p (range_with_len 0 k) ++ k ∷ filter p (range_with_len (k + 1) (n - k - 1)) =
    ap (filter p) (range_at k n lt) ∙ filter-append p (range_with_len 0 k) (k ∷ range_with_len (k + 1) (n - k - 1))
    ∙ ap (λ (t : Bool). filter p (range_with_len 0 k) ++ cond t (k ∷ filter p (range_with_len (k + 1) (n - k - 1))) (filter p (range_with_len (k + 1) (n - k - 1)))) passes in
    parts ∙ single (filter p (range_with_len 0 k)) (filter p (range_with_len (k + 1) (n - k - 1))) k (ap (λ xs. slice_get xs 1) (sym parts) ∙ none)

not_all : (p : ℕ → Bool) (a n : ℕ) → list_all p (range_with_len a n) ≡ false → (k : ℕ) × (k < a + n) × (p k ≡ false)
not_all p a zero e = absurd (false≢true (sym e))
not_all p a (suc n) e =
    elim (cases_Bool (p a)) [
      | inr fails ↦ (a, omega arith, fails)
      | inl passes ↦
          let tail = not_all p (a + 1) n (sym (ap (λ (t : Bool). t && list_all p (range_with_len (a + 1) n)) passes) ∙ e) in
          let lt = tail.1 in
          (tail.0, omega arith, tail.2)
    ]

-- ---- distances

distance-zero : (count from place : ℕ) → from < count → place < count → distance count from place ≡ 0 → place ≡ from
distance-zero count from place f p zero_far =
    elim (cases_eq place from) [
      | inl e ↦ e
      | inr apart ↦ let positive = distance-positive count from place f p apart in absurd (omega arith)
    ]

distance-injective : (count from a b : ℕ) → from < count → a < count → b < count → distance count from a ≡ distance count from b → a ≡ b
distance-injective count from a b f la lb e =
    elim (cases_lt a from) [
      | inl lt ↦
          let da = distance-round count from a lt in
          elim (cases_lt b from) [
            | inl lt2 ↦ let db = distance-round count from b lt2 in omega arith
            | inr le ↦ let db = distance-up count from b le in absurd (omega arith)
          ]
      | inr le ↦
          let da = distance-up count from a le in
          elim (cases_lt b from) [
            | inl lt2 ↦ let db = distance-round count from b lt2 in absurd (omega arith)
            | inr le2 ↦ let db = distance-up count from b le2 in omega arith
          ]
    ]

-- Not being closed goes back round, as far as no sector but the first follows a closed one.
back : (closed : ℕ → Bool) (count from : ℕ) → from < count → ((k : ℕ) → k < count → (k ≡ from → ⊥) → closed k ≡ false → closed (before count k) ≡ false)
    → (n far near : ℕ) → far < count → near < count → distance count from far ≡ distance count from near + n → closed far ≡ false → closed near ≡ false
back closed count from f step zero far near lf ln e free = let d : distance count from far ≡ distance count from near = omega arith in ap closed (sym (distance-injective count from far near f lf ln d)) ∙ free
back closed count from f step (suc n) far near lf ln e free =
    let apart : far ≡ from → ⊥ = λ (same : far ≡ from). let z : distance count from far ≡ 0 = ap (distance count from) same ∙ distance-same count from in absurd (omega arith) in
    let nearer = distance-before count from far f lf apart in
    back closed count from f step n (before count far) near (before-within count far lf) ln (omega arith) (step far lf apart free)

-- the farthest of those that are not closed
record IsFarthest (closed : ℕ → Bool) (far : ℕ → ℕ) (n start at : ℕ) : Type 0 where
  pub which : (at < n) ⊎ (at ≡ start)
  pub free : closed at ≡ false
  pub most : (k : ℕ) → k < n → closed k ≡ false → far k ≤ far at
  pub first : far start ≤ far at

farthest : (closed : ℕ → Bool) (far : ℕ → ℕ) (n start : ℕ) → closed start ≡ false → (at : ℕ) × IsFarthest closed far n start at
farthest closed far zero start free = (start, record { which = inr refl; free = free; most = λ k lt shut. absurd (omega arith); first = omega arith })
farthest closed far (suc n) start free =
    let ih = farthest closed far n start free in
    let best = ih.0 in
    let of = ih.1 in
    let wider : (ih.0 < suc n) ⊎ (ih.0 ≡ start) = elim of.which [ inl lt ↦ inl (omega arith) | inr e ↦ inr e ] in
    elim (cases_Bool (closed n)) [
      | inl shut ↦ (
        ih.0,
        record {
          which = wider;
          free = of.free;
          first = of.first;
          most = λ k lt open_k. elim (cases_eq k n) [
            | inl e ↦ absurd (false≢true (sym (sym (ap closed e) ∙ open_k) ∙ shut))
            | inr apart ↦ of.most k (omega (arith, apart)) open_k
          ];
        },
      )
      | inr open_n ↦
          elim (cases_lt (far ih.0) (far n)) [
            | inl more ↦
                let first = of.first in (
                  n,
                  record {
                    which = inl (omega arith);
                    free = open_n;
                    first = omega arith;
                    most = λ k lt open_k. elim (cases_eq k n) [
                      | inl e ↦ let same : far k ≡ far n = ap far e in omega arith
                      | inr apart ↦ let le = of.most k (omega (arith, apart)) open_k in omega arith
                    ];
                  },
                )
            | inr le ↦ (
              ih.0,
              record {
                which = wider;
                free = of.free;
                first = of.first;
                most = λ k lt open_k. elim (cases_eq k n) [
                  | inl e ↦ let same : far k ≡ far n = ap far e in omega arith
                  | inr apart ↦ of.most k (omega (arith, apart)) open_k
                ];
              },
            )
          ]
    ]

-- ---- the form

pub record HasNoDamage (reading : Reading) (sectors : List (List ℕ)) : Type 0 where
  pub some_open : list_all (is_closed_at reading sectors) (places sectors) ≡ false
  pub one_opening : slice_get (openings reading sectors) 1 ≡ None
  pub clean : (k : ℕ) → k < length sectors → (not (is_closed_at reading sectors k) && not (eqb k (open_sector reading sectors)) && not (is_blank_at reading sectors k)) ≡ false
  pub fenced : (k : ℕ) → k < length sectors → (looked_at reading sectors (open_sector reading sectors) k && not (reading.has_fence (sector_at sectors k))) ≡ false
  pub roomy : (k : ℕ) → k < length sectors → (looked_at reading sectors (open_sector reading sectors) k && reading.is_overfull (sector_at sectors k)) ≡ false

pub rows : (reading : Reading) (sectors : List (List ℕ)) → first_damage reading sectors ≡ None → HasNoDamage reading sectors
unfolding first_damage
rows reading sectors e =
    let a = cond_none (list_all (is_closed_at reading sectors) (places sectors)) (record { sector = 0; why = AllClosed }) _ e in
    let b = or_none (option_map (λ (p : ℕ). record { sector = p; why = TwoOpen }) (slice_get (openings reading sectors) 1)) _ a.1 in
    let c = or_none (first_of_kind Dirty (λ k. not (is_closed_at reading sectors k) && not (eqb k (open_sector reading sectors)) && not (is_blank_at reading sectors k)) sectors) _ b.1 in
    let d = or_none (first_of_kind NoFence (λ k. looked_at reading sectors (open_sector reading sectors) k && not (reading.has_fence (sector_at sectors k))) sectors)
    (first_of_kind Overfull (λ k. looked_at reading sectors (open_sector reading sectors) k && reading.is_overfull (sector_at sectors k)) sectors) c.1 in
    record {
      some_open = a.0;
      one_opening = map_none (λ (p : ℕ). record { sector = p; why = TwoOpen }) (slice_get (openings reading sectors) 1) b.0;
      clean = no_kind Dirty (λ k. not (is_closed_at reading sectors k) && not (eqb k (open_sector reading sectors)) && not (is_blank_at reading sectors k)) sectors c.0;
      fenced = no_kind NoFence (λ k. looked_at reading sectors (open_sector reading sectors) k && not (reading.has_fence (sector_at sectors k))) sectors d.0;
      roomy = no_kind Overfull (λ k. looked_at reading sectors (open_sector reading sectors) k && reading.is_overfull (sector_at sectors k)) sectors d.1;
    }

pub opening-is : (reading : Reading) (sectors : List (List ℕ)) (o : Option ℕ) → slice_get (openings reading sectors) 0 ≡ o → open_sector reading sectors ≡ unwrap_or o (unwrap_or (find (λ k. not (is_blank_at reading sectors k)) (places sectors)) 0)
unfolding open_sector
opening-is reading sectors o e = ap (λ (o : Option ℕ). unwrap_or o (unwrap_or (find (λ k. not (is_blank_at reading sectors k)) (places sectors)) 0)) e

-- the open sector is the only one that follows a closed one
pub only-opening : (reading : Reading) (sectors : List (List ℕ)) (k : ℕ) → HasNoDamage reading sectors → k < length sectors → follows_closed reading sectors k ≡ true → open_sector reading sectors ≡ k
only-opening reading sectors k h lt follows =
    opening-is reading sectors (Some k) (ap (λ (xs : List ℕ). slice_get xs 0) (opening-only (follows_closed reading sectors) (length sectors) k h.one_opening lt follows))

goes_back : (reading : Reading) (sectors : List (List ℕ)) (k : ℕ) → (follows_closed reading sectors k ≡ true → ⊥) → is_closed_at reading sectors k ≡ false → is_closed_at reading sectors (previous sectors k) ≡ false
goes_back reading sectors k none free =
    elim (cases_Bool (is_closed_at reading sectors (previous sectors k))) [
      | inl shut ↦ absurd (none (ap (λ (t : Bool). not t && is_closed_at reading sectors (previous sectors k)) free ∙ shut))
      | inr open_before ↦ open_before
    ]

pub option_cases : (o : Option ℕ) → (o ≡ None) ⊎ ((k : ℕ) × (o ≡ Some k))
option_cases None = inl refl
option_cases (Some k) = inr (k, refl)

-- the open sector is one of the area, and not closed
pub record IsOpen (reading : Reading) (sectors : List (List ℕ)) : Type 0 where
  pub within : open_sector reading sectors < length sectors
  pub free : is_closed_at reading sectors (open_sector reading sectors) ≡ false
  -- where none is closed it is blank only as sector 0
  pub known : ((k : ℕ) → k < length sectors → is_closed_at reading sectors k ≡ false) → (is_blank_at reading sectors (open_sector reading sectors) ≡ false) ⊎ (open_sector reading sectors ≡ 0)

open-is : (reading : Reading) (sectors : List (List ℕ)) → 2 ≤ length sectors → HasNoDamage reading sectors → IsOpen reading sectors
open-is reading sectors several h =
    let count = length sectors in
    elim (option_cases (slice_get (openings reading sectors) 0)) [
      | inr (p, some) ↦
          let is : open_sector reading sectors ≡ p = opening-is reading sectors (Some p) some in
          let at = found (follows_closed reading sectors) 0 (length sectors) p (sym (find-filter (follows_closed reading sectors) (places sectors)) ∙ some) in
          let parts = and_parts (not (is_closed_at reading sectors p)) (is_closed_at reading sectors (previous sectors p)) at.1 in
          let lt = at.0 in
          let w : p < length sectors = omega arith in
          record {
            within = subst (λ (n : ℕ). n < length sectors) (sym is) w;
            free = ap (is_closed_at reading sectors) is ∙ not-true (is_closed_at reading sectors p) parts.0;
            known = λ none. absurd (false≢true (sym (none (previous sectors p) (before-within (length sectors) p w)) ∙ parts.1));
          }
      | inl empty ↦
          let none : (k : ℕ) → k < length sectors → follows_closed reading sectors k ≡ true → ⊥ =
          λ k lt follows. false≢true (sym (at_range (λ k. follows_closed reading sectors k ≡ false) (length sectors) k (find_none_all (follows_closed reading sectors) (places sectors) (sym (find-filter (follows_closed reading sectors) (places sectors)) ∙ empty)) lt) ∙ follows) in
          let start = not_all (is_closed_at reading sectors) 0 (length sectors) h.some_open in
          let start_lt = start.1 in
          let all : (k : ℕ) → k < length sectors → is_closed_at reading sectors k ≡ false =
          λ k lt. back (is_closed_at reading sectors) (length sectors) k lt (λ j jl apart free. goes_back reading sectors j (none j jl) free) (distance (length sectors) k start.0) start.0 k (omega arith) lt
          (let z = distance-same (length sectors) k in omega arith) start.2 in
          let is = opening-is reading sectors None empty in
          elim (option_cases (find (λ k. not (is_blank_at reading sectors k)) (places sectors))) [
            | inl blank ↦
                let first : open_sector reading sectors ≡ 0 = is ∙ ap (λ (o : Option ℕ). unwrap_or o 0) blank in
                let w : open_sector reading sectors < length sectors = omega arith in
                record { within = w; free = all (open_sector reading sectors) w; known = λ every. inr first }
            | inr (p, some) ↦
                let at_p : open_sector reading sectors ≡ p = is ∙ ap (λ (o : Option ℕ). unwrap_or o 0) some in
                let there = found (λ k. not (is_blank_at reading sectors k)) 0 (length sectors) p some in
                let lt = there.0 in
                let w : open_sector reading sectors < length sectors = omega arith in
                record { within = w; free = all (open_sector reading sectors) w; known = λ every. inl (ap (is_blank_at reading sectors) at_p ∙ not-true (is_blank_at reading sectors p) there.1) }
          ]
    ]

dirty_blank : (a b c : Bool) → (not a && not b && not c) ≡ false → a ≡ false → b ≡ false → c ≡ true
dirty_blank false false true h x y = refl
dirty_blank false false false h x y = absurd (false≢true (sym h))
dirty_blank true b c h x y = absurd (false≢true (sym x))
dirty_blank false true c h x y = absurd (false≢true (sym y))

sound_by : (counts blank fence full : Bool) → ((counts && not blank) && not fence) ≡ false → ((counts && not blank) && full) ≡ false → counts ≡ true → (blank || (fence && not full)) ≡ true
sound_by false blank fence full f o c = absurd (false≢true c)
sound_by true true fence full f o c = refl
sound_by true false false full f o c = absurd (false≢true (sym f))
sound_by true false true true f o c = absurd (false≢true (sym o))
sound_by true false true false f o c = refl

pub ring-of : (reading : Reading) (sectors : List (List ℕ)) → 2 ≤ length sectors → HasNoDamage reading sectors → (blanks : ℕ) × IsRing reading sectors (open_sector reading sectors) blanks
ring-of reading sectors several h =
    let count = length sectors in
    let place = open_sector reading sectors in
    let o = open-is reading sectors several h in
    let within = o.within in
    let step : (k : ℕ) → k < length sectors → (k ≡ open_sector reading sectors → ⊥) → is_closed_at reading sectors k ≡ false → is_closed_at reading sectors (previous sectors k) ≡ false =
    λ k lt apart free. goes_back reading sectors k (λ follows. apart (sym (only-opening reading sectors k h lt follows))) free in
    let far = farthest (is_closed_at reading sectors) (distance (length sectors) (open_sector reading sectors)) (length sectors) (open_sector reading sectors) o.free in
    let at = far.0 in
    let is = far.1 in
    let at_within : far.0 < length sectors = elim is.which [ inl lt ↦ lt | inr e ↦ omega arith ] in
    let blanks = distance (length sectors) (open_sector reading sectors) far.0 in
    let spare = distance-within (length sectors) (open_sector reading sectors) far.0 within at_within in
    -- up to the farthest none is closed
    let near : (k : ℕ) → k < length sectors → distance (length sectors) (open_sector reading sectors) k ≤ distance (length sectors) (open_sector reading sectors) far.0 → is_closed_at reading sectors k ≡ false =
    λ k lt le. back (is_closed_at reading sectors) (length sectors) (open_sector reading sectors) within step (distance (length sectors) (open_sector reading sectors) far.0 - distance (length sectors) (open_sector reading sectors) k) far.0 k at_within lt (omega arith) is.free in (
      distance (length sectors) (open_sector reading sectors) far.0,
      record {
        several = several;
        within = within;
        spare = spare;
        closed = λ k lt.
            elim (cases_lt (distance (length sectors) (open_sector reading sectors) far.0) (distance (length sectors) (open_sector reading sectors) k)) [
              | inl beyond ↦
                  elim (cases_Bool (is_closed_at reading sectors k)) [
                    | inl shut ↦ shut ∙ sym (lt-ltb (distance (length sectors) (open_sector reading sectors) far.0) (distance (length sectors) (open_sector reading sectors) k) beyond)
                    | inr free ↦ let most = is.most k lt free in absurd (omega arith)
                  ]
              | inr le ↦ near k lt le ∙ sym (le-ltb (distance (length sectors) (open_sector reading sectors) far.0) (distance (length sectors) (open_sector reading sectors) k) le)
            ];
        blank = λ k lt apart le. dirty_blank (is_closed_at reading sectors k) (eqb k (open_sector reading sectors)) (is_blank_at reading sectors k) (h.clean k lt) (near k lt le) (ne_eqb k (open_sector reading sectors) apart);
        started = λ e. o.known (λ k lt. near k lt (let d = distance-within (length sectors) (open_sector reading sectors) k within lt in omega arith));
      },
    )

-- An undamaged area has one of the forms, with its open sector.
pub form-of : (reading : Reading) (sectors : List (List ℕ)) → 2 ≤ length sectors → first_damage reading sectors ≡ None → IsForm reading sectors (open_sector reading sectors)
form-of reading sectors several none =
    let h = rows reading sectors none in
    let r = ring-of reading sectors several h in
    let place = open_sector reading sectors in
    let sound : (k : ℕ) → k < length sectors → counts_at reading sectors (open_sector reading sectors) k ≡ true → is_sound reading (sector_at sectors k) ≡ true =
    λ k lt counts. sound_by (counts_at reading sectors (open_sector reading sectors) k) (is_blank_at reading sectors k) (reading.has_fence (sector_at sectors k)) (reading.is_overfull (sector_at sectors k)) (h.fenced k lt) (h.roomy k lt) counts in
    elim (cases_lt 0 r.0) [
      | inl some ↦ inl (record { blanks = r.0; ring = r.1; some = some; sound = λ k lt. sound k lt (counts-at_rest reading sectors (open_sector reading sectors) r.0 k r.1 some) })
      | inr le ↦
          let zero_blanks : r.0 ≡ 0 = omega arith in
          let ring : IsRing reading sectors (open_sector reading sectors) 0 = subst (λ (n : ℕ). IsRing reading sectors (open_sector reading sectors) n) zero_blanks r.1 in
          elim (cases_Bool (reading.has_gc_done (sector_at sectors (open_sector reading sectors)))) [
            | inl done ↦
                inr (inr (record {
                  ring = ring;
                  done = done;
                  sound = λ k lt apart. sound k lt (counts-collected reading sectors (open_sector reading sectors) k ring done ∙ not_from_false (eqb k (next sectors (open_sector reading sectors))) (ne_eqb k (next sectors (open_sector reading sectors)) apart));
                }))
            | inr unmarked ↦
                inr (inl (record {
                  ring = ring;
                  not_done = unmarked;
                  sound = λ k lt apart. sound k lt (counts-collecting reading sectors (open_sector reading sectors) k ring unmarked ∙ not_from_false (eqb k (open_sector reading sectors)) (ne_eqb k (open_sector reading sectors) apart));
                }))
          ]
    ]

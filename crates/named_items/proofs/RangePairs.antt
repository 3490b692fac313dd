-- The map of the pairs that a function gives on a range of ids, the lower id of two equal names first; and what it
-- becomes where the function changes at one id.
use Rattle.std.proofs.Common.{◌≡◌, ℕ, zero, suc, ◌+◌, ◌-◌, ◌<◌, ◌≤◌, Bool, true, false, cond, List, [], ◌∷◌, ◌++◌, Option, Some, None, nat_cmp, refl, sym, ap, subst, ◌∙◌, inl, inr, arith}
use Rattle.std.specs.Option.{option_or}
use Rattle.std.specs.List.{filter_map, range_with_len, cons_option}
use Rattle.std.specs.FinMap.{get, insert, remove, find, from_entries, get-from_entries, get-insert, get-remove}
use Rattle.std.specs.Ordering.{eq_by_cmp}
use Rattle.std.specs.Cmp.Lexicographic.{slice_cmp, nat_list_cmp_total}
use Rattle.std.proofs.lemmas.Bool.{cases_Bool, cond-true, cond-false}
use Rattle.std.proofs.lemmas.List.{append-nil}
use Rattle.std.proofs.lemmas.List.Elements.{filter_map-append}
use Rattle.backend_api.specs.Map.{Map}
use Rattle.backend_api.proofs.MapLemmas.{same_settings, ties_itself, ties_same, ties_other}
use Rattle.named_items.specs.Pairs.{HasName}

-- ---- lists of pairs

abbrev pub Pair : Type 0
Pair = List ℕ × List ℕ

abbrev pub tie : List ℕ → List ℕ → Bool
tie q name = eq_by_cmp (slice_cmp nat_cmp) q name

-- what a pair gives a name
abbrev pub found : List ℕ → Option Pair → Option (List ℕ)
found q None = None
found q (Some pair) = cond (tie q pair.0) (Some pair.1) None

abbrev pub look : List ℕ → List Pair → Option (List ℕ)
look q pairs = find (slice_cmp nat_cmp) q pairs

look-append : (q : List ℕ) (xs ys : List Pair) → look q (xs ++ ys) ≡ option_or (look q xs) (look q ys)
look-append q [] ys = refl
look-append q (x ∷ xs) ys =
    elim (tie q x.0) as (λ (b : Bool). cond b (Some x.1) (look q (xs ++ ys)) ≡ option_or (cond b (Some x.1) (look q xs)) (look q ys)) [
      | true ↦ refl
      | false ↦ look-append q xs ys
    ]

look-prefix : (q : List ℕ) (o : Option Pair) (xs : List Pair) → look q (cons_option o xs) ≡ option_or (found q o) (look q xs)
look-prefix q None xs = refl
look-prefix q (Some x) xs =
    elim (tie q x.0) as (λ (b : Bool). cond b (Some x.1) (look q xs) ≡ option_or (cond b (Some x.1) None) (look q xs)) [
      | true ↦ refl
      | false ↦ refl
    ]

found-other : (q : List ℕ) (o : Option Pair) → ¬ HasName o q → found q o ≡ None
found-other q None apart = refl
found-other q (Some x) apart = cond-false (tie q x.0) (Some x.1) None (ties_other q x.0 (λ (e : q ≡ x.0). apart (sym e)))

-- ---- on a range

abbrev pub pairs_on : (ℕ → Option Pair) → ℕ → ℕ → List Pair
pairs_on f a m = filter_map f (range_with_len a m)

pub range-append : (a m k : ℕ) → range_with_len a (m + k) ≡ range_with_len a m ++ range_with_len (a + m) k
range-append a zero k =
    let e : zero + k ≡ k = omega arith in
    let s : a ≡ a + zero = omega arith in
    ap (range_with_len a) e ∙ ap (λ (b : ℕ). range_with_len b k) s
range-append a (suc m) k =
    let e : suc m + k ≡ suc (m + k) = omega arith in
    let s : a + 1 + m ≡ a + suc m = omega arith in
    ap (range_with_len a) e ∙ ap (λ (xs : List ℕ). a ∷ xs) (range-append (a + 1) m k ∙ ap (λ (b : ℕ). range_with_len (a + 1) m ++ range_with_len b k) s)

pub on-agree : (f g : ℕ → Option Pair) (a m : ℕ) → ((k : ℕ) → a ≤ k → k < a + m → f k ≡ g k) → pairs_on f a m ≡ pairs_on g a m
on-agree f g a zero same = refl
on-agree f g a (suc m) same =
    ap (λ (o : Option Pair). cons_option o (pairs_on f (a + 1) m)) (same a (omega arith) (omega arith))
    ∙ ap (cons_option (g a)) (on-agree f g (a + 1) m (λ k from to. same k (omega arith) (omega arith)))

-- a name that no id has
pub on-none : (f : ℕ → Option Pair) (q : List ℕ) (a m : ℕ) → ((k : ℕ) → a ≤ k → k < a + m → ¬ HasName (f k) q) → look q (pairs_on f a m) ≡ None
on-none f q a zero none = refl
on-none f q a (suc m) none =
    look-prefix q (f a) (pairs_on f (a + 1) m)
    ∙ ap (λ (o : Option (List ℕ)). option_or o (look q (pairs_on f (a + 1) m))) (found-other q (f a) (none a (omega arith) (omega arith)))
    ∙ on-none f q (a + 1) m (λ k from to. none k (omega arith) (omega arith))

-- one id more
pub on-more : (f : ℕ → Option Pair) (a m : ℕ) → pairs_on f a (m + 1) ≡ pairs_on f a m ++ cons_option (f (a + m)) []
on-more f a m =
    ap (filter_map f) (range-append a m 1) ∙ filter_map-append f (range_with_len a m) (range_with_len (a + m) 1)

-- an id splits the range
pub on-split : (f : ℕ → Option Pair) (q : List ℕ) (a m p : ℕ) → a ≤ p → p < a + m
    → look q (pairs_on f a m) ≡ option_or (look q (pairs_on f a (p - a))) (option_or (found q (f p)) (look q (pairs_on f (p + 1) (a + m - (p + 1)))))
on-split f q a m p from to =
    let whole : m ≡ (p - a) + suc (a + m - (p + 1)) = omega arith in
    let at : a + (p - a) ≡ p = omega arith in
    ap (λ (k : ℕ). look q (pairs_on f a k)) whole
    ∙ ap (λ (xs : List ℕ). look q (filter_map f xs)) (range-append a (p - a) (suc (a + m - (p + 1))) ∙ ap (λ (b : ℕ). range_with_len a (p - a) ++ range_with_len b (suc (a + m - (p + 1)))) at)
    ∙ ap (look q) (filter_map-append f (range_with_len a (p - a)) (range_with_len p (suc (a + m - (p + 1)))))
    ∙ look-append q (pairs_on f a (p - a)) (pairs_on f p (suc (a + m - (p + 1))))
    ∙ ap (option_or (look q (pairs_on f a (p - a)))) (look-prefix q (f p) (pairs_on f (p + 1) (a + m - (p + 1))))

some_value : Option (List ℕ) → Type 0
some_value o = (v : List ℕ) × (o ≡ Some v)

pub or-some : (o r : Option (List ℕ)) (v : List ℕ) → o ≡ Some v → option_or o r ≡ Some v
or-some o r v is = ap (λ (x : Option (List ℕ)). option_or x r) is

pub or-none : (o r : Option (List ℕ)) → o ≡ None → option_or o r ≡ r
or-none o r is = ap (λ (x : Option (List ℕ)). option_or x r) is

found-here : (q : List ℕ) (o : Option Pair) → HasName o q → (v : List ℕ) × (found q o ≡ Some v)
found-here q None has = absurd has
found-here q (Some x) has = (x.1, cond-true (tie q x.0) (Some x.1) None (subst (λ (name : List ℕ). tie q name ≡ true) (sym has) (ties_itself q)))

-- a name that an id has
pub on-some : (f : ℕ → Option Pair) (q : List ℕ) (a m p : ℕ) → a ≤ p → p < a + m → HasName (f p) q → (v : List ℕ) × (look q (pairs_on f a m) ≡ Some v)
on-some f q a m p from to has =
    let here = found-here q (f p) has in
    let rest : Option (List ℕ) = look q (pairs_on f (p + 1) (a + m - (p + 1))) in
    by (look q (pairs_on f a (p - a))) refl here.0 (or-some (found q (f p)) rest here.0 here.1)
  where
    by : (o : Option (List ℕ)) → look q (pairs_on f a (p - a)) ≡ o → (v : List ℕ) → option_or (found q (f p)) (look q (pairs_on f (p + 1) (a + m - (p + 1)))) ≡ Some v → (w : List ℕ) × (look q (pairs_on f a m) ≡ Some w)
    by (Some w) is v e = (w, on-split f q a m p from to ∙ or-some (look q (pairs_on f a (p - a))) (option_or (found q (f p)) (look q (pairs_on f (p + 1) (a + m - (p + 1))))) w is)
    by None is v e = (v, on-split f q a m p from to ∙ or-none (look q (pairs_on f a (p - a))) (option_or (found q (f p)) (look q (pairs_on f (p + 1) (a + m - (p + 1))))) is ∙ e)

-- ---- a change at one id

unfoldable pub map_on : (ℕ → Option Pair) → ℕ → ℕ → Map
map_on f a m = from_entries (pairs_on f a m)

pub get-on : (f : ℕ → Option Pair) (a m : ℕ) (q : List ℕ) → get (map_on f a m) q ≡ look q (pairs_on f a m)
unfolding map_on
get-on f a m q = get-from_entries nat_list_cmp_total (pairs_on f a m) q

pub map-agree : (f g : ℕ → Option Pair) (a m : ℕ) → ((k : ℕ) → a ≤ k → k < a + m → f k ≡ g k) → map_on f a m ≡ map_on g a m
unfolding map_on
map-agree f g a m same = ap from_entries (on-agree f g a m same)

pub map-more : (f : ℕ → Option Pair) (a m : ℕ) → f (a + m) ≡ None → map_on f a (m + 1) ≡ map_on f a m
unfolding map_on
map-more f a m none = ap from_entries (on-more f a m ∙ ap (λ (o : Option Pair). pairs_on f a m ++ cons_option o []) none ∙ append-nil (pairs_on f a m))

module _ (f g : ℕ → Option Pair) (a m p : ℕ) (from : a ≤ p) (to : p < a + m) (same : (k : ℕ) → a ≤ k → k < a + m → ¬ (k ≡ p) → f k ≡ g k) where
  abbrev before : List ℕ → Option (List ℕ)
  before q = look q (pairs_on f a (p - a))

  abbrev behind : List ℕ → Option (List ℕ)
  behind q = look q (pairs_on f (p + 1) (a + m - (p + 1)))

  old-split : (q : List ℕ) → get (map_on f a m) q ≡ option_or (before q) (option_or (found q (f p)) (behind q))
  old-split q = get-on f a m q ∙ on-split f q a m p from to

  new-split : (q : List ℕ) → get (map_on g a m) q ≡ option_or (before q) (option_or (found q (g p)) (behind q))
  new-split q =
      let low : pairs_on g a (p - a) ≡ pairs_on f a (p - a) = sym (on-agree f g a (p - a) (λ k x y. same k x (omega arith) (λ (e : k ≡ p). absurd (omega arith)))) in
      let high : pairs_on g (p + 1) (a + m - (p + 1)) ≡ pairs_on f (p + 1) (a + m - (p + 1)) = sym (on-agree f g (p + 1) (a + m - (p + 1)) (λ k x y. same k (omega arith) (omega arith) (λ (e : k ≡ p). absurd (omega arith)))) in
      get-on g a m q ∙ on-split g q a m p from to
      ∙ ap (λ (xs : List Pair). option_or (look q xs) (option_or (found q (g p)) (look q (pairs_on g (p + 1) (a + m - (p + 1)))))) low
      ∙ ap (λ (xs : List Pair). option_or (before q) (option_or (found q (g p)) (look q xs))) high

  no_lower : (q : List ℕ) → ((k : ℕ) → a ≤ k → k < p → ¬ HasName (f k) q) → before q ≡ None
  no_lower q none = on-none f q a (p - a) (λ k x y. none k x (omega arith))

  no_higher : (q : List ℕ) → ((k : ℕ) → p < k → k < a + m → ¬ HasName (f k) q) → behind q ≡ None
  no_higher q none = on-none f q (p + 1) (a + m - (p + 1)) (λ k x y. none k (omega arith) (omega arith))

  other-name : (name q : List ℕ) (o : Option Pair) → ((x : List ℕ) → HasName o x → x ≡ name) → tie q name ≡ false → found q o ≡ None
  other-name name q o only apart = found-other q o (λ (has : HasName o q). clash (only q has))
    where
      false-true : false ≡ true → ⊥
      false-true e = cc

      clash : q ≡ name → ⊥
      clash e = false-true (sym apart ∙ ap (tie q) (sym e) ∙ ties_itself q)

  -- the id gets this pair, and had none or one of this name
  pub on-put : (name value : List ℕ) → g p ≡ Some (name, value) → ((x : List ℕ) → HasName (f p) x → x ≡ name) → ((k : ℕ) → a ≤ k → k < p → ¬ HasName (f k) name) → map_on g a m ≡ insert (map_on f a m) name value
  on-put name value is only none = same_settings (map_on g a m) (insert (map_on f a m) name value) (λ q.
      elim (cases_Bool (tie q name)) [
        | inl here ↦
            let e : q ≡ name = ties_same q name here in
            new-split q ∙ or-none (before q) (option_or (found q (g p)) (behind q)) (ap before e ∙ no_lower name none)
            ∙ or-some (found q (g p)) (behind q) value (ap (found q) is ∙ cond-true (tie q name) (Some value) None here)
            ∙ sym (get-insert nat_list_cmp_total (map_on f a m) name value q ∙ cond-true (tie q name) (Some value) (get (map_on f a m) q) here)
        | inr apart ↦
            new-split q
            ∙ ap (λ (o : Option (List ℕ)). option_or (before q) (option_or o (behind q))) (ap (found q) is ∙ cond-false (tie q name) (Some value) None apart ∙ sym (other-name name q (f p) only apart))
            ∙ sym (old-split q)
            ∙ sym (get-insert nat_list_cmp_total (map_on f a m) name value q ∙ cond-false (tie q name) (Some value) (get (map_on f a m) q) apart)
      ])

  -- the id loses its pair, and no other id has the name
  pub on-take : (name : List ℕ) → g p ≡ None → ((x : List ℕ) → HasName (f p) x → x ≡ name) → ((k : ℕ) → a ≤ k → k < p → ¬ HasName (f k) name) → ((k : ℕ) → p < k → k < a + m → ¬ HasName (f k) name)
      → map_on g a m ≡ remove (map_on f a m) name
  on-take name is only lower higher = same_settings (map_on g a m) (remove (map_on f a m) name) (λ q.
      elim (cases_Bool (tie q name)) [
        | inl here ↦
            let e : q ≡ name = ties_same q name here in
            new-split q ∙ or-none (before q) (option_or (found q (g p)) (behind q)) (ap before e ∙ no_lower name lower)
            ∙ or-none (found q (g p)) (behind q) (ap (found q) is) ∙ ap behind e ∙ no_higher name higher
            ∙ sym (get-remove nat_list_cmp_total (map_on f a m) name q ∙ cond-true (tie q name) None (get (map_on f a m) q) here)
        | inr apart ↦
            new-split q
            ∙ ap (λ (o : Option (List ℕ)). option_or (before q) (option_or o (behind q))) (ap (found q) is ∙ sym (other-name name q (f p) only apart))
            ∙ sym (old-split q)
            ∙ sym (get-remove nat_list_cmp_total (map_on f a m) name q ∙ cond-false (tie q name) None (get (map_on f a m) q) apart)
      ])

  -- the id loses its pair, and a lower one has the name
  pub on-hide : (name : List ℕ) (k : ℕ) → g p ≡ None → ((x : List ℕ) → HasName (f p) x → x ≡ name) → a ≤ k → k < p → HasName (f k) name → map_on g a m ≡ map_on f a m
  on-hide name k is only low high has = same_settings (map_on g a m) (map_on f a m) (λ q.
      elim (cases_Bool (tie q name)) [
        | inl here ↦
            let e : q ≡ name = ties_same q name here in
            let some = on-some f name a (p - a) k low (omega arith) has in
            let first : before q ≡ Some some.0 = ap before e ∙ some.1 in
            new-split q ∙ or-some (before q) (option_or (found q (g p)) (behind q)) some.0 first
            ∙ sym (old-split q ∙ or-some (before q) (option_or (found q (f p)) (behind q)) some.0 first)
        | inr apart ↦
            new-split q
            ∙ ap (λ (o : Option (List ℕ)). option_or (before q) (option_or o (behind q))) (ap (found q) is ∙ sym (other-name name q (f p) only apart))
            ∙ sym (old-split q)
      ])

-- Which places are among others.
use Rattle.std.proofs.Common.{◌≡◌, ℕ, ◌<◌, zero, suc, Option, Some, None, List, [], ◌∷◌, ◌++◌, length, map, get_or, refl, sym, ap, subst, ◌∙◌, inl, inr, arith}
use Rattle.std.specs.Prelude.{Any, Contains, filter_map}
use Rattle.std.specs.List.{cons_option}
use Rattle.std.proofs.lemmas.List.Elements.{Contains-append_left, Contains-append_right, Contains-append_cases}

-- what one list has the other has
abbrev pub IsWithin : List ℕ → List ℕ → Type 0
IsWithin places more = (x : ℕ) → Contains places x → Contains more x

at_head : (x : ℕ) (xs : List ℕ) → Contains (x ∷ xs) x
at_head x xs = (0, omega arith, refl)

only_at : (a x : ℕ) (k : ℕ) → k < 1 → get_or (a ∷ []) k x ≡ x → a ≡ x
only_at a x zero below is = is
only_at a x (suc k) below is = absurd (omega arith)

pub only : (a x : ℕ) → Contains (a ∷ []) x → a ≡ x
only a x has = only_at a x has.0 has.1 has.2

pub one_within : (a : ℕ) (actives : List ℕ) → Contains actives a → IsWithin (a ∷ []) actives
one_within a actives has x is = subst (λ (y : ℕ). Contains actives y) (only a x is) has

pub beside_within : (prefix places more : List ℕ) → IsWithin places more → IsWithin (prefix ++ places) (prefix ++ more)
beside_within prefix places more within x is = elim (Contains-append_cases prefix places x is) [
  | inl has ↦ Contains-append_left prefix more x has
  | inr has ↦ Contains-append_right prefix more x (within x has)
]

later : (o : Option ℕ) (xs : List ℕ) (x : ℕ) → Contains xs x → Contains (cons_option o xs) x
later None xs x has = has
later (Some y) xs x has = (suc has.0, omega (arith, has.1), has.2)

none_some : (x : ℕ) → None ≡ Some x → ⊥
none_some x e = cc

-- what a function gives of an element
given_at : (f : ℕ → Option ℕ) (xs : List ℕ) (a x k : ℕ) → k < length xs → get_or xs k a ≡ a → f a ≡ Some x → Contains (filter_map f xs) x
given_at f [] a x k below at is = absurd (omega arith)
given_at f (y ∷ ys) a x zero below at is = subst (λ (o : Option ℕ). Contains (cons_option o (filter_map f ys)) x) (sym (ap f at ∙ is)) (at_head x (filter_map f ys))
given_at f (y ∷ ys) a x (suc k) below at is = later (f y) (filter_map f ys) x (given_at f ys a x k (omega arith) at is)

pub given_of : (f : ℕ → Option ℕ) (xs : List ℕ) (a x : ℕ) → Contains xs a → f a ≡ Some x → Contains (filter_map f xs) x
given_of f xs a x has is = given_at f xs a x has.0 has.1 has.2 is

pub given_within : (f : ℕ → Option ℕ) (a : ℕ) (actives : List ℕ) → Contains actives a → IsWithin (filter_map f (a ∷ [])) (filter_map f actives)
given_within f a actives has x is =
    elim (f a) as (λ (o : Option ℕ). f a ≡ o → Contains (cons_option o []) x → Contains (filter_map f actives) x) [
      | None ↦ λ e none. absurd (omega (arith, none.1))
      | Some y ↦ λ e one. subst (λ (z : ℕ). Contains (filter_map f actives) z) (only y x one) (given_of f actives a y has e)
    ] refl is

-- ---- seen by a function

element : {X : Type 0} (f : ℕ → X) (places : List ℕ) (k : ℕ) (y : X) → k < length (map f places) → get_or (map f places) k y ≡ y → (x : ℕ) × Contains places x × (f x ≡ y)
element f [] k y below at = absurd (omega arith)
element f (x ∷ xs) zero y below at = (x, at_head x xs, at)
element f (x ∷ xs) (suc k) y below at =
    let rest = element f xs k y (omega arith) at in
    (rest.0, later (Some x) xs rest.0 rest.1, rest.2)

image : {X : Type 0} (f : ℕ → X) (places : List ℕ) (x : ℕ) (k : ℕ) → k < length places → get_or places k x ≡ x → Contains (map f places) (f x)
image f [] x k below at = absurd (omega arith)
image f (y ∷ ys) x zero below at = (0, omega arith, ap f at)
image f (y ∷ ys) x (suc k) below at = let rest = image f ys x k (omega arith) at in (suc rest.0, omega (arith, rest.1), rest.2)

pub some_within : {X : Type 0} (f : ℕ → X) (P : X → Type 0) (places more : List ℕ) → IsWithin places more → Any P (map f places) → Any P (map f more)
some_within {X} f P places more within is =
    let there = element f places is.0 is.1 is.2 is.3 in
    let has = within there.0 there.1 in
    let found = image f more there.0 has.0 has.1 has.2 in
    (found.0, f there.0, found.1, found.2, subst P (sym there.2) is.4)

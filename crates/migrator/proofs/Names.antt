-- The names of settings in byte order, one after the other.
use Rattle.std.proofs.Common.{◌≡◌, ℕ, ◌+◌, ◌<◌, ◌≤◌, Bool, true, false, cond, ◌&&◌, T, List, [], ◌∷◌, Option, Some, None, is_some, is_lt, find, refl, sym, ap, subst, ◌∙◌, inl, inr, arith}
use Rattle.std.specs.Prelude.{map}
use Rattle.std.specs.List.{list_any, All}
use Rattle.std.specs.Ordering.{eq_by_cmp, ordering_reverse}
use Rattle.std.specs.FinMap as maps
use Rattle.std.specs.FinMap.Entries.{below_all}
use Rattle.std.proofs.lemmas.Bool.{cases_Bool, cond-true, cond-false, false≢true, or_left, or_right, or_cases}
use Rattle.std.proofs.lemmas.Cmp.{nat_list_cmp_total, tied_itself}
use Rattle.std.proofs.lemmas.List.Elements.{All-head, All-tail}
use Rattle.std.proofs.lemmas.Map.Lookups.{exact_bytes}
use Rattle.std.proofs.lemmas.Option.{none-some}
use Rattle.backend_api.specs.Least.{is_before, IsLeast}
use Rattle.backend_api.specs.Map.{Map, IsStored, is_behind, next_name}
use Rattle.backend_api.specs.Room.{Room}
use Rattle.backend_api.proofs.LeastLemmas.{cmp, is_Less, least-same, greater}
use Rattle.backend_api.proofs.MapLemmas.{same_settings, ties_same, ties_itself, get-insert_same, get-insert_other}
use Rattle.migrator.specs.Copying.{before, NoneTooMany}

some-same : {X : Type 0} (x y : X) → Some x ≡ Some y → x ≡ y
some-same x y e = cc

-- ---- order

lt-trans : (x y z : List ℕ) → is_lt (cmp x y) ≡ true → is_lt (cmp y z) ≡ true → is_lt (cmp x z) ≡ true
lt-trans x y z first second = ap is_lt (nat_list_cmp_total.trans x y z (is_Less (cmp x y) first) (is_Less (cmp y z) second))

lt-asym : (x y : List ℕ) → is_lt (cmp x y) ≡ true → is_lt (cmp y x) ≡ false
lt-asym x y less = ap is_lt (nat_list_cmp_total.antisymm y x ∙ ap ordering_reverse (is_Less (cmp x y) less))

pub lt-itself : (x : List ℕ) → is_lt (cmp x x) ≡ false
lt-itself x = ap is_lt (tied_itself nat_list_cmp_total x)

-- ---- the next name is the least one behind

pub first_of_both : (a b : Bool) → T (a && b) → T a
first_of_both true b h = tt
first_of_both false b h = h

pub second_of_both : (a b : Bool) → T (a && b) → T b
second_of_both true b h = h
second_of_both false b h = absurd h

is_true : (t : Bool) → T t → t ≡ true
is_true true h = refl
is_true false h = absurd h

module _ {X : Type 0} where
  abbrev pub has_key : List (List ℕ × X) → List ℕ → Bool
  has_key es name = list_any (eq_by_cmp cmp name) (map (λ e. e.0) es)

  pub above : (x q : List ℕ) (es : List (List ℕ × X)) → T (below_all cmp x es) → has_key es q ≡ true → is_lt (cmp x q) ≡ true
  above x q [] below has = absurd (false≢true has)
  above x q (e ∷ es) below has =
      elim (or_cases (eq_by_cmp cmp q e.0) (has_key es q) has) [
        | inl here ↦
            ap (λ text. is_lt (cmp x text)) (ties_same q e.0 here) ∙ is_true (is_lt (cmp x e.0)) (first_of_both (is_lt (cmp x e.0)) (below_all cmp x es) below)
        | inr later ↦ above x q es (second_of_both (is_lt (cmp x e.0)) (below_all cmp x es) below) later
      ]

  first-least : (after : Option (List ℕ)) (e : List ℕ × X) (es : List (List ℕ × X)) → T (below_all cmp e.0 es) → is_behind after e.0 ≡ true → IsLeast after (has_key (e ∷ es)) (Some e.0)
  first-least after e es below behind = (
    or_left (eq_by_cmp cmp e.0 e.0) (has_key es e.0) (ties_itself e.0),
    behind,
    λ name has is. elim (or_cases (eq_by_cmp cmp name e.0) (has_key es name) has) [
      | inl here ↦ ap (λ text. is_lt (cmp text e.0)) (ties_same name e.0 here) ∙ lt-itself e.0
      | inr later ↦ lt-asym e.0 name (above e.0 name es below later)
    ],
  )

  rest-least : (after : Option (List ℕ)) (e : List ℕ × X) (es : List (List ℕ × X)) (o : Option (List ℕ)) → is_behind after e.0 ≡ false → IsLeast after (has_key es) o → IsLeast after (has_key (e ∷ es)) o
  rest-least after e es None not least = λ name has. elim (or_cases (eq_by_cmp cmp name e.0) (has_key es name) has) [
    | inl here ↦ ap (is_behind after) (ties_same name e.0 here) ∙ not
    | inr later ↦ least name later
  ]
  rest-least after e es (Some x) not least = (
    or_right (eq_by_cmp cmp x e.0) (has_key es x) least.0,
    least.1,
    λ name has is. elim (or_cases (eq_by_cmp cmp name e.0) (has_key es name) has) [
      | inl here ↦ absurd (false≢true (sym (ap (is_behind after) (ties_same name e.0 here) ∙ not) ∙ is))
      | inr later ↦ least.2 name later is
    ],
  )

  find-least : (after : Option (List ℕ)) (es : List (List ℕ × X)) → T (maps.is_sorted cmp es) → IsLeast after (has_key es) (find (is_behind after) (map (λ e. e.0) es))
  find-least after [] sorted = λ name has. absurd (false≢true has)
  find-least after (e ∷ es) sorted =
      let below = first_of_both (below_all cmp e.0 es) (maps.is_sorted cmp es) sorted in
      let rises = second_of_both (below_all cmp e.0 es) (maps.is_sorted cmp es) sorted in
      elim (cases_Bool (is_behind after e.0)) [
        | inl behind ↦
            subst (IsLeast after (has_key (e ∷ es))) (sym (cond-true (is_behind after e.0) (Some e.0) (find (is_behind after) (map (λ x. x.0) es)) behind)) (first-least after e es below behind)
        | inr not ↦
            subst (IsLeast after (has_key (e ∷ es))) (sym (cond-false (is_behind after e.0) (Some e.0) (find (is_behind after) (map (λ x. x.0) es)) not))
            (rest-least after e es (find (is_behind after) (map (λ x. x.0) es)) not (find-least after es rises))
      ]

pub next-is-least : (m : Map) (after : Option (List ℕ)) → IsLeast after (maps.contains_key m) (next_name m after)
next-is-least m after = least-same after (has_key (maps.entries m)) (maps.contains_key m) (next_name m after) (λ name. sym (maps.contains_key-keys m name)) (find-least after (maps.entries m) (maps.entries_sorted m))

-- ---- the settings before a name

pub get-before : (m : Map) (end : Option (List ℕ)) (q : List ℕ) → maps.get (before m end) q ≡ cond (is_before q end) (maps.get m q) None
get-before m end q = maps.get-retain_keys m (λ name. is_before name end) q (λ x tie. ap (λ name. is_before name end) (sym (exact_bytes q x tie)))

pub before-all : (m : Map) → before m None ≡ m
before-all m = same_settings (before m None) m (λ q. get-before m None q)

cond-none : (t : Bool) (o : Option (List ℕ)) → o ≡ None → cond t o None ≡ None
cond-none true o e = e
cond-none false o e = refl

key-of : (m : Map) (q v : List ℕ) → maps.get m q ≡ Some v → maps.contains_key m q ≡ true
key-of m q v is = ap is_some is

-- what is before the first name
not-before-first : (m : Map) (next : Option (List ℕ)) (q : List ℕ) → IsLeast None (maps.contains_key m) next → maps.contains_key m q ≡ true → is_before q next ≡ false
not-before-first m None q least key = least q key
not-before-first m (Some x) q least key = least.2 q key refl

pub before-first : (m : Map) (o : Option (List ℕ)) → o ≡ next_name m None → before m o ≡ maps.empty
before-first m o is = same_settings (before m o) maps.empty (λ q. get-before m o q ∙ at q (maps.get m q) refl ∙ sym (maps.get-empty cmp q))
  where
    at : (q : List ℕ) (v : Option (List ℕ)) → maps.get m q ≡ v → cond (is_before q o) (maps.get m q) None ≡ None
    at q None none = cond-none (is_before q o) (maps.get m q) none
    at q (Some v) some = cond-false (is_before q o) (maps.get m q) None (not-before-first m o q (subst (IsLeast None (maps.contains_key m)) (sym is) (next-is-least m None)) (key-of m q v some))

-- what is before the name that follows another
lesser : (has : List ℕ → Bool) (name q : List ℕ) (next : Option (List ℕ)) → IsLeast (Some name) has next → is_lt (cmp q name) ≡ true → is_before q next ≡ true
lesser has name q None least less = refl
lesser has name q (Some x) least less = lt-trans q name x less least.1

itself-before : (has : List ℕ → Bool) (name : List ℕ) (next : Option (List ℕ)) → IsLeast (Some name) has next → is_before name next ≡ true
itself-before has name None least = refl
itself-before has name (Some x) least = least.1

not-before : (has : List ℕ → Bool) (name q : List ℕ) (next : Option (List ℕ)) → IsLeast (Some name) has next → has q ≡ true → is_lt (cmp name q) ≡ true → is_before q next ≡ false
not-before has name q None least key behind = absurd (false≢true (sym (least q key) ∙ behind))
not-before has name q (Some x) least key behind = least.2 q key behind

pub insert-next : (m : Map) (name value : List ℕ) (next : Option (List ℕ)) → next ≡ next_name m (Some name) → IsStored m name value → maps.insert (before m (Some name)) name value ≡ before m next
insert-next m name value next is stored = same_settings (maps.insert (before m (Some name)) name value) (before m next) (λ q. elim (cases_Bool (eq_by_cmp cmp q name)) [
  | inl tie ↦ here q (ties_same q name tie)
  | inr none ↦ other q (λ same. false≢true (sym none ∙ ap (λ text. eq_by_cmp cmp text name) same ∙ ties_itself name))
])
  where
    least : IsLeast (Some name) (maps.contains_key m) next
    least = subst (IsLeast (Some name) (maps.contains_key m)) (sym is) (next-is-least m (Some name))

    here : (q : List ℕ) → q ≡ name → maps.get (maps.insert (before m (Some name)) name value) q ≡ maps.get (before m next) q
    here q same =
        ap (maps.get (maps.insert (before m (Some name)) name value)) same
        ∙ get-insert_same (before m (Some name)) name value
        ∙ sym stored
        ∙ sym (get-before m next name ∙ cond-true (is_before name next) (maps.get m name) None (itself-before (maps.contains_key m) name next least))
        ∙ ap (maps.get (before m next)) (sym same)

    at : (q : List ℕ) → (q ≡ name → ⊥) → (v : Option (List ℕ)) → maps.get m q ≡ v → cond (is_lt (cmp q name)) (maps.get m q) None ≡ cond (is_before q next) (maps.get m q) None
    at q apart None none = cond-none (is_lt (cmp q name)) (maps.get m q) none ∙ sym (cond-none (is_before q next) (maps.get m q) none)
    at q apart (Some v) some = elim (cases_Bool (is_lt (cmp q name))) [
      | inl less ↦ cond-true (is_lt (cmp q name)) (maps.get m q) None less ∙ sym (cond-true (is_before q next) (maps.get m q) None (lesser (maps.contains_key m) name q next least less))
      | inr more ↦
          cond-false (is_lt (cmp q name)) (maps.get m q) None more
          ∙ sym (cond-false (is_before q next) (maps.get m q) None (not-before (maps.contains_key m) name q next least (key-of m q v some) (greater name q more apart)))
    ]

    other : (q : List ℕ) → (q ≡ name → ⊥) → maps.get (maps.insert (before m (Some name)) name value) q ≡ maps.get (before m next) q
    other q apart =
        get-insert_other (before m (Some name)) name value q apart ∙ get-before m (Some name) q ∙ at q apart (maps.get m q) refl ∙ sym (get-before m next q)

-- ---- names that are one too many

pub none-many-first : (room : Room) (m : Map) (o : Option (List ℕ)) → o ≡ next_name m None → NoneTooMany room m o
none-many-first room m o is name value stored first =
    absurd (false≢true (sym (not-before-first m o name (subst (IsLeast None (maps.contains_key m)) (sym is) (next-is-least m None)) (key-of m name value stored)) ∙ first))

pub none-many-next : (room : Room) (m : Map) (name : List ℕ) (next : Option (List ℕ)) → next ≡ next_name m (Some name) → NoneTooMany room m (Some name) → room.too_many (before m (Some name)) name ≡ false → NoneTooMany room m next
none-many-next room m name next is earlier here other value stored first = elim (cases_Bool (eq_by_cmp cmp other name)) [
  | inl tie ↦ subst (λ text. room.too_many (before m (Some text)) text ≡ false) (sym (ties_same other name tie)) here
  | inr none ↦
      elim (cases_Bool (is_lt (cmp other name))) [
        | inl less ↦ earlier other value stored less
        | inr more ↦
            let apart : (other ≡ name → ⊥) = λ same. false≢true (sym none ∙ ap (λ text. eq_by_cmp cmp text name) same ∙ ties_itself name) in
            absurd (false≢true (sym (not-before (maps.contains_key m) name other next (subst (IsLeast (Some name) (maps.contains_key m)) (sym is) (next-is-least m (Some name))) (key-of m other value stored) (greater name other more apart)) ∙ first))
      ]
]

-- ---- fewer names are left

pub left_from : List ℕ → List (List ℕ) → ℕ
left_from name [] = 0
left_from name (key ∷ keys) = cond (is_lt (cmp key name)) 0 1 + left_from name keys

pub left : List (List ℕ) → Option (List ℕ) → ℕ
left keys None = 0
left keys (Some name) = left_from name keys

one-no_more : (s t : Bool) → (t ≡ true → s ≡ true) → cond s 0 1 ≤ cond t 0 1
one-no_more true t h = omega arith
one-no_more false true h = absurd (false≢true (h refl))
one-no_more false false h = omega arith

one-fewer : (s t : Bool) → s ≡ true → t ≡ false → cond s 0 1 < cond t 0 1
one-fewer true false e f = omega arith
one-fewer true true e f = absurd (false≢true (sym f))
one-fewer false t e f = absurd (false≢true e)

one-left : (t : Bool) → t ≡ false → 0 < cond t 0 1
one-left false e = omega arith
one-left true e = absurd (false≢true (sym e))

no_more : (name next : List ℕ) (keys : List (List ℕ)) → is_lt (cmp name next) ≡ true → left_from next keys ≤ left_from name keys
unfolding left_from
no_more name next [] less = omega arith
no_more name next (key ∷ keys) less =
    let one = one-no_more (is_lt (cmp key next)) (is_lt (cmp key name)) (λ lower. lt-trans key name next lower less) in
    let others = no_more name next keys less in
    omega arith

fewer : (name next : List ℕ) (keys : List (List ℕ)) → is_lt (cmp name next) ≡ true → list_any (eq_by_cmp cmp name) keys ≡ true → left_from next keys < left_from name keys
unfolding left_from
fewer name next [] less has = absurd (false≢true has)
fewer name next (key ∷ keys) less has = elim (or_cases (eq_by_cmp cmp name key) (list_any (eq_by_cmp cmp name) keys) has) [
  | inl here ↦
      let same : key ≡ name = sym (ties_same name key here) in
      let one = one-fewer (is_lt (cmp key next)) (is_lt (cmp key name)) (ap (λ text. is_lt (cmp text next)) same ∙ less) (ap (λ text. is_lt (cmp text name)) same ∙ lt-itself name) in
      let others = no_more name next keys less in
      omega arith
  | inr later ↦
      let one = one-no_more (is_lt (cmp key next)) (is_lt (cmp key name)) (λ lower. lt-trans key name next lower less) in
      let others = fewer name next keys less later in
      omega arith
]

some-left : (name : List ℕ) (keys : List (List ℕ)) → list_any (eq_by_cmp cmp name) keys ≡ true → 0 < left_from name keys
unfolding left_from
some-left name [] has = absurd (false≢true has)
some-left name (key ∷ keys) has = elim (or_cases (eq_by_cmp cmp name key) (list_any (eq_by_cmp cmp name) keys) has) [
  | inl here ↦
      let one = one-left (is_lt (cmp key name)) (ap (λ text. is_lt (cmp text name)) (sym (ties_same name key here)) ∙ lt-itself name) in
      omega arith
  | inr later ↦
      let others = some-left name keys later in
      omega arith
]

pub left-smaller : (m : Map) (at : Option (List ℕ)) (name : List ℕ) (next : Option (List ℕ)) → at ≡ Some name → maps.contains_key m name ≡ true → next ≡ next_name m (Some name) → left (maps.keys m) next < left (maps.keys m) at
unfolding left
left-smaller m at name next some key is =
    let has : list_any (eq_by_cmp cmp name) (maps.keys m) ≡ true = sym (maps.contains_key-keys m name) ∙ key in
    subst (λ o. left (maps.keys m) next < left (maps.keys m) o) (sym some) (by next (subst (IsLeast (Some name) (maps.contains_key m)) (sym is) (next-is-least m (Some name))) has)
  where
    by : (o : Option (List ℕ)) → IsLeast (Some name) (maps.contains_key m) o → list_any (eq_by_cmp cmp name) (maps.keys m) ≡ true → left (maps.keys m) o < left_from name (maps.keys m)
    by None least has = some-left name (maps.keys m) has
    by (Some x) least has = fewer name x (maps.keys m) least.1 has

-- ---- values

values-get : {X : Type 0} (P : X → Type 0) (es : List (List ℕ × X)) (q : List ℕ) (v : X) → All P (map (λ e. e.1) es) → maps.find cmp q es ≡ Some v → P v
values-get P [] q v all is = absurd (none-some v is)
values-get P (e ∷ es) q v all is = elim (cases_Bool (eq_by_cmp cmp q e.0)) [
  | inl tie ↦ subst P (some-same e.1 v (sym (cond-true (eq_by_cmp cmp q e.0) (Some e.1) (maps.find cmp q es) tie) ∙ is)) (All-head P e.1 (map (λ x. x.1) es) all)
  | inr none ↦ values-get P es q v (All-tail P e.1 (map (λ x. x.1) es) all) (sym (cond-false (eq_by_cmp cmp q e.0) (Some e.1) (maps.find cmp q es) none) ∙ is)
]

pub value-of : (P : List ℕ → Type 0) (m : Map) (q v : List ℕ) (o : Option (List ℕ)) → All P (maps.values m) → o ≡ maps.get m q → o ≡ Some v → P v
value-of P m q v o all is some = values-get P (maps.entries m) q v all (sym (maps.get-entries m q) ∙ sym is ∙ some)

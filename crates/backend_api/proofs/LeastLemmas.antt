-- The least name that passes a test: the next name of a map is the least of its keys behind the one given.
use Rattle.std.proofs.Common.{◌≡◌, ℕ, Bool, true, false, cond, ◌&&◌, ◌||◌, T, List, [], ◌∷◌, Option, Some, None, Ordering, Less, Equal, Greater, is_eq, is_lt, bytes_eq, nat_cmp, find, refl, sym, ap, subst, ◌∙◌, inl, inr}
use Rattle.std.specs.Prelude.{map}
use Rattle.std.specs.List.{list_any}
use Rattle.std.specs.Ordering.{eq_by_cmp, ordering_reverse}
use Rattle.std.specs.Cmp.Lexicographic.{slice_cmp}
use Rattle.std.specs.FinMap as maps
use Rattle.std.specs.FinMap.Entries.{below_all}
use Rattle.std.proofs.lemmas.Bool.{cases_Bool, cond-true, cond-false, false≢true, or_left, or_right, or_cases}
use Rattle.std.proofs.lemmas.Cmp.{nat_list_cmp_total, tied_itself}
use Rattle.std.proofs.lemmas.Map.Lookups.{exact_bytes}
use Rattle.std.proofs.lemmas.Slice.Eq.{bytes_eq-Decides}
use Rattle.backend_api.specs.Least.{is_before, IsLeast}
use Rattle.backend_api.specs.Map.{Map, is_behind, next_name}

abbrev pub cmp : List ℕ → List ℕ → Ordering
cmp = slice_cmp nat_cmp

pub least-same : (after : Option (List ℕ)) (has other : List ℕ → Bool) (o : Option (List ℕ)) → ((name : List ℕ) → has name ≡ other name) → IsLeast after has o → IsLeast after other o
least-same after has other None same least = λ name is. least name (same name ∙ is)
least-same after has other (Some name) same least = (sym (same name) ∙ least.0, least.1, λ text is. least.2 text (same text ∙ is))

-- ---- the least name in a list of names that rise

is_Equal : (o : Ordering) → is_eq o ≡ true → o ≡ Equal
is_Equal Less e = absurd (false≢true e)
is_Equal Equal e = refl
is_Equal Greater e = absurd (false≢true e)

same_text : (x y : List ℕ) → eq_by_cmp cmp x y ≡ true → x ≡ y
same_text x y ties = exact_bytes x y (is_Equal (cmp x y) ties)

first_of_both : (a b : Bool) → T (a && b) → T a
first_of_both true b h = tt
first_of_both false b h = h

second_of_both : (a b : Bool) → T (a && b) → T b
second_of_both true b h = h
second_of_both false b h = absurd h

is_true : (t : Bool) → T t → t ≡ true
is_true true h = refl
is_true false h = absurd h

module _ {X : Type 0} where
  abbrev has_key : List (List ℕ × X) → List ℕ → Bool
  has_key es name = list_any (eq_by_cmp cmp name) (map (λ e. e.0) es)

  above : (x q : List ℕ) (es : List (List ℕ × X)) → T (below_all cmp x es) → has_key es q ≡ true → is_lt (cmp x q) ≡ true
  above x q [] below has = absurd (false≢true has)
  above x q (e ∷ es) below has =
      elim (or_cases (eq_by_cmp cmp q e.0) (has_key es q) has) [
        | inl here ↦
            ap (λ text. is_lt (cmp x text)) (same_text q e.0 here) ∙ is_true (is_lt (cmp x e.0)) (first_of_both (is_lt (cmp x e.0)) (below_all cmp x es) below)
        | inr later ↦ above x q es (second_of_both (is_lt (cmp x e.0)) (below_all cmp x es) below) later
      ]

  itself : (e : List ℕ × X) (es : List (List ℕ × X)) → has_key (e ∷ es) e.0 ≡ true
  itself e es = or_left (eq_by_cmp cmp e.0 e.0) (has_key es e.0) (ap is_eq (tied_itself nat_list_cmp_total e.0))

  later : (e : List ℕ × X) (es : List (List ℕ × X)) (name : List ℕ) → has_key es name ≡ true → has_key (e ∷ es) name ≡ true
  later e es name has = or_right (eq_by_cmp cmp name e.0) (has_key es name) has

  -- the first key is behind, so it is the least
  first-least : (after : Option (List ℕ)) (e : List ℕ × X) (es : List (List ℕ × X)) (o : Option (List ℕ)) → T (below_all cmp e.0 es) → is_behind after e.0 ≡ true → IsLeast after (has_key (e ∷ es)) o → Some e.0 ≡ o
  first-least after e es None below behind least = absurd (false≢true (sym (least e.0 (itself e es)) ∙ behind))
  first-least after e es (Some name) below behind least =
      elim (or_cases (eq_by_cmp cmp name e.0) (has_key es name) least.0) [
        | inl here ↦ ap (λ text. Some text) (sym (same_text name e.0 here))
        | inr has ↦ absurd (false≢true (sym (least.2 e.0 (itself e es) behind) ∙ above e.0 name es below has))
      ]

  -- the first key is not behind, so the least is among the others
  rest-least : (after : Option (List ℕ)) (e : List ℕ × X) (es : List (List ℕ × X)) (o : Option (List ℕ)) → is_behind after e.0 ≡ false → IsLeast after (has_key (e ∷ es)) o → IsLeast after (has_key es) o
  rest-least after e es None before least = λ name has. least name (later e es name has)
  rest-least after e es (Some name) before least =
      elim (or_cases (eq_by_cmp cmp name e.0) (has_key es name) least.0) [
        | inl here ↦ absurd (false≢true (sym before ∙ ap (is_behind after) (sym (same_text name e.0 here)) ∙ least.1))
        | inr has ↦ (has, least.1, λ text is. least.2 text (later e es text is))
      ]

  find-least : (after : Option (List ℕ)) (es : List (List ℕ × X)) (o : Option (List ℕ)) → T (maps.is_sorted cmp es) → IsLeast after (has_key es) o → find (is_behind after) (map (λ e. e.0) es) ≡ o
  find-least after [] None sorted least = refl
  find-least after [] (Some name) sorted least = absurd (false≢true least.0)
  find-least after (e ∷ es) o sorted least =
      let below = first_of_both (below_all cmp e.0 es) (maps.is_sorted cmp es) sorted in
      let rises = second_of_both (below_all cmp e.0 es) (maps.is_sorted cmp es) sorted in
      elim (cases_Bool (is_behind after e.0)) [
        | inl behind ↦
            cond-true (is_behind after e.0) (Some e.0) (find (is_behind after) (map (λ x. x.0) es)) behind ∙ first-least after e es o below behind least
        | inr before ↦
            cond-false (is_behind after e.0) (Some e.0) (find (is_behind after) (map (λ x. x.0) es)) before ∙ find-least after es o rises (rest-least after e es o before least)
      ]

-- The next name of a map is the least of its keys behind the one given, where it has one there.
pub next-least : (m : Map) (after : Option (List ℕ)) (o : Option (List ℕ)) → IsLeast after (maps.contains_key m) o → next_name m after ≡ o
next-least m after o least = find-least after (maps.entries m) o (maps.entries_sorted m) (least-same after (maps.contains_key m) (has_key (maps.entries m)) o (maps.contains_key-keys m) least)

-- ---- one name more passes

pub is_Less : (o : Ordering) → is_lt o ≡ true → o ≡ Less
is_Less Less e = refl
is_Less Equal e = absurd (false≢true e)
is_Less Greater e = absurd (false≢true e)

-- a name below one that is below a third is below the third
pub not_below : (x y z : List ℕ) → is_lt (cmp y z) ≡ true → is_lt (cmp x z) ≡ false → is_lt (cmp x y) ≡ false
not_below x y z less not_less =
    elim (cases_Bool (is_lt (cmp x y))) [
      | inl below ↦ absurd (false≢true (sym not_less ∙ ap is_lt (nat_list_cmp_total.trans x y z (is_Less (cmp x y) below) (is_Less (cmp y z) less))))
      | inr other ↦ other
    ]

module _ (after : Option (List ℕ)) (has : List ℕ → Bool) (other : List ℕ) where
  abbrev more : List ℕ → Bool
  more name = has name || bytes_eq other name

  -- the name is not behind
  least-before : (o : Option (List ℕ)) → is_behind after other ≡ false → IsLeast after has o → IsLeast after more o
  least-before None before least = λ name is.
      elim (or_cases (has name) (bytes_eq other name) is) [
        | inl old ↦ least name old
        | inr here ↦ ap (is_behind after) (sym ((bytes_eq-Decides other name).0 here)) ∙ before
      ]
  least-before (Some text) before least = (
    or_left (has text) (bytes_eq other text) least.0,
    least.1,
    λ name is behind.
        elim (or_cases (has name) (bytes_eq other name) is) [
          | inl old ↦ least.2 name old behind
          | inr here ↦ absurd (false≢true (sym before ∙ ap (is_behind after) ((bytes_eq-Decides other name).0 here) ∙ behind))
        ],
  )

  at_itself : (name : List ℕ) → bytes_eq other name ≡ true → is_lt (cmp name other) ≡ false
  at_itself name here = ap (λ text. is_lt (cmp text other)) (sym ((bytes_eq-Decides other name).0 here)) ∙ ap is_lt (tied_itself nat_list_cmp_total other)

  -- the name is behind, and less than the least so far
  least-new : (o : Option (List ℕ)) → is_behind after other ≡ true → is_before other o ≡ true → IsLeast after has o → IsLeast after more (Some other)
  least-new None behind less least = (
    or_right (has other) (bytes_eq other other) ((bytes_eq-Decides other other).1 refl),
    behind,
    λ name is behind'.
        elim (or_cases (has name) (bytes_eq other name) is) [
          | inl old ↦ absurd (false≢true (sym (least name old) ∙ behind'))
          | inr here ↦ at_itself name here
        ],
  )
  least-new (Some text) behind less least = (
    or_right (has other) (bytes_eq other other) ((bytes_eq-Decides other other).1 refl),
    behind,
    λ name is behind'.
        elim (or_cases (has name) (bytes_eq other name) is) [
          | inl old ↦ not_below name other text less (least.2 name old behind')
          | inr here ↦ at_itself name here
        ],
  )

  -- the name is not less than the least so far
  least-old : (o : Option (List ℕ)) → is_before other o ≡ false → IsLeast after has o → IsLeast after more o
  least-old None less least = absurd (false≢true (sym less))
  least-old (Some text) less least = (
    or_left (has text) (bytes_eq other text) least.0,
    least.1,
    λ name is behind.
        elim (or_cases (has name) (bytes_eq other name) is) [
          | inl old ↦ least.2 name old behind
          | inr here ↦ ap (λ x. is_lt (cmp x text)) (sym ((bytes_eq-Decides other name).0 here)) ∙ less
        ],
  )

  pub least-more : (o : Option (List ℕ)) → IsLeast after has o → IsLeast after more (cond (is_behind after other && is_before other o) (Some other) o)
  least-more o least =
      elim (cases_Bool (is_behind after other)) [
        | inr before ↦ subst (λ (t : Bool). IsLeast after more (cond (t && is_before other o) (Some other) o)) (sym before) (least-before o before least)
        | inl behind ↦
            elim (cases_Bool (is_before other o)) [
              | inl less ↦
                  subst (λ (t : Bool). IsLeast after more (cond (t && is_before other o) (Some other) o)) (sym behind)
                  (subst (λ (t : Bool). IsLeast after more (cond t (Some other) o)) (sym less) (least-new o behind less least))
              | inr no_less ↦
                  subst (λ (t : Bool). IsLeast after more (cond (t && is_before other o) (Some other) o)) (sym behind)
                  (subst (λ (t : Bool). IsLeast after more (cond t (Some other) o)) (sym no_less) (least-old o no_less least))
            ]
      ]

-- ---- behind another name

-- a name that is not less than another, and is not that one, is greater
pub greater : (x y : List ℕ) → is_lt (cmp y x) ≡ false → (y ≡ x → ⊥) → is_lt (cmp x y) ≡ true
greater x y no_less apart = at (cmp y x) refl
  where
    at : (o : Ordering) → cmp y x ≡ o → is_lt (cmp x y) ≡ true
    at Less e = absurd (false≢true (sym no_less ∙ ap is_lt e))
    at Equal e = absurd (apart (exact_bytes y x e))
    at Greater e = ap is_lt (nat_list_cmp_total.antisymm x y ∙ ap ordering_reverse e)

pub behind-later : (before : Option (List ℕ)) (x y : List ℕ) → is_behind before x ≡ true → is_lt (cmp x y) ≡ true → is_behind before y ≡ true
behind-later None x y behind less = refl
behind-later (Some b) x y behind less = ap is_lt (nat_list_cmp_total.trans b x y (is_Less (cmp b x) behind) (is_Less (cmp x y) less))

pub least-other : (before other : Option (List ℕ)) (has : List ℕ → Bool) (o : Option (List ℕ)) → ((q : List ℕ) → has q ≡ true → is_behind before q ≡ is_behind other q) → IsLeast before has o → IsLeast other has o
least-other before other has None same least = λ q is. sym (same q is) ∙ least q is
least-other before other has (Some x) same least = (least.0, sym (same x least.0) ∙ least.1, λ q is behind. least.2 q is (same q is ∙ behind))

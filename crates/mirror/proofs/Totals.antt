-- Sums over the pairs of a map.
use Rattle.std.proofs.Common.{◌≡◌, ◌⊎◌, ℕ, zero, suc, ◌+◌, ◌-◌, ◌<◌, ◌≤◌, Bool, true, false, cond, List, [], ◌∷◌, length, Option, Some, None, is_some, Ordering, Less, Equal, Greater, is_eq, refl, sym, ap, subst, ◌∙◌, inl, inr, arith}
use Rattle.std.specs.Prelude.{map, sum_by, count_by}
use Rattle.std.specs.FinMap as maps
use Rattle.std.specs.FinMap.Entries.{by_order}
use Rattle.std.specs.Ordering.{eq_by_cmp}
use Rattle.std.specs.Cmp.Lexicographic.{nat_list_cmp_total}
use Rattle.std.proofs.lemmas.Bool.{cases_Bool, cond-true, cond-false}
use Rattle.std.proofs.lemmas.List.Sums.{sum_by-cons}
use Rattle.backend_api.specs.Map.{Map, IsStored, IsAbsent, next_name}
use Rattle.backend_api.specs.Least.{is_before}
use Rattle.backend_api.proofs.LeastLemmas.{cmp}
use Rattle.backend_api.proofs.MapLemmas.{same_settings, ties_itself, ties_same, ties_other, get-insert_same, get-insert_other, get-remove_same, get-remove_other}
use Rattle.migrator.specs.Copying.{before}
use Rattle.migrator.proofs.Names.{get-before, insert-next, lt-itself}
use Rattle.mirror.specs.Mirrored.{IsWithin}

abbrev Pair : Type 0
Pair = List ℕ × List ℕ

none-is : {A : Type 0} (x : A) → Some x ≡ None → ⊥
none-is x e = cc

some-same : {X : Type 0} (x y : X) → Some x ≡ Some y → x ≡ y
some-same x y e = cc

-- the sum over all pairs
abbrev pub total : (Pair → ℕ) → Map → ℕ
total g m = sum_by g (maps.entries m)

-- ---- a new name

put-sum : (f : Pair → ℕ) (k v : List ℕ) (es : List Pair) → maps.find cmp k es ≡ None → sum_by f (maps.put cmp k v es) ≡ f (k, v) + sum_by f es
put-sum f k v [] none = sum_by-cons f (k, v) []
put-sum f k v (e ∷ es) none =
    elim (cmp k e.0) as (λ (o : Ordering). cmp k e.0 ≡ o → sum_by f (by_order o ((k, v) ∷ e ∷ es) ((e.0, v) ∷ es) (e ∷ maps.put cmp k v es)) ≡ f (k, v) + sum_by f (e ∷ es)) [
      | Less ↦ λ is. sum_by-cons f (k, v) (e ∷ es)
      | Equal ↦ λ is. absurd (none-is e.1 (sym (ap (λ (o : Ordering). cond (is_eq o) (Some e.1) (maps.find cmp k es)) is) ∙ none))
      | Greater ↦ λ is.
          let later : maps.find cmp k es ≡ None = sym (ap (λ (o : Ordering). cond (is_eq o) (Some e.1) (maps.find cmp k es)) is) ∙ none in
          let ih = put-sum f k v es later in
          let more = sum_by-cons f e (maps.put cmp k v es) in
          let all = sum_by-cons f e es in
          omega arith
    ] refl

pub insert-total : (g : Pair → ℕ) (m : Map) (name value : List ℕ) → IsAbsent m name → total g (maps.insert m name value) ≡ g (name, value) + total g m
insert-total g m name value none =
    ap (sum_by g) (maps.entries-insert nat_list_cmp_total m name value)
    ∙ put-sum g name value (maps.entries m) (sym (maps.get-entries m name) ∙ none)

-- ---- a name that has a value

put-cut : (m : Map) (name value : List ℕ) → IsStored m name value → maps.insert (maps.remove m name) name value ≡ m
put-cut m name value is = same_settings (maps.insert (maps.remove m name) name value) m (λ other. elim (cases_Bool (eq_by_cmp cmp other name)) [
  | inl tie ↦
      let same = ties_same other name tie in
      ap (maps.get (maps.insert (maps.remove m name) name value)) same ∙ get-insert_same (maps.remove m name) name value ∙ sym (ap (maps.get m) same ∙ is)
  | inr none ↦ keeps other (λ same. false-true (sym none ∙ ap (λ text. eq_by_cmp cmp text name) same ∙ ties_itself name))
])
  where
    false-true : false ≡ true → ⊥
    false-true e = cc

    keeps : (other : List ℕ) → ¬ (other ≡ name) → maps.get (maps.insert (maps.remove m name) name value) other ≡ maps.get m other
    keeps other apart = get-insert_other (maps.remove m name) name value other apart ∙ get-remove_other m name other apart

pub remove-total : (g : Pair → ℕ) (m : Map) (name value : List ℕ) → IsStored m name value → total g m ≡ g (name, value) + total g (maps.remove m name)
remove-total g m name value is =
    ap (total g) (sym (put-cut m name value is)) ∙ insert-total g (maps.remove m name) name value (get-remove_same m name)

-- another value for it
pub change-total : (g : Pair → ℕ) (m : Map) (name first second : List ℕ) → IsStored m name first → total g (maps.insert m name second) + g (name, first) ≡ total g m + g (name, second)
change-total g m name first second is =
    let cut = remove-total g m name first is in
    let again = remove-total g (maps.insert m name second) name second (get-insert_same m name second) in
    let same : maps.remove (maps.insert m name second) name ≡ maps.remove m name = removed m name second in
    let rest : total g (maps.remove (maps.insert m name second) name) ≡ total g (maps.remove m name) = ap (total g) same in
    omega arith
  where
    removed : (m : Map) (name value : List ℕ) → maps.remove (maps.insert m name value) name ≡ maps.remove m name
    removed m name value = same_settings (maps.remove (maps.insert m name value) name) (maps.remove m name) (λ other. elim (cases_Bool (eq_by_cmp cmp other name)) [
      | inl tie ↦
          let same = ties_same other name tie in
          ap (maps.get (maps.remove (maps.insert m name value) name)) same ∙ get-remove_same (maps.insert m name value) name ∙ sym (ap (maps.get (maps.remove m name)) same ∙ get-remove_same m name)
      | inr none ↦ keeps other (λ same. false-true (sym none ∙ ap (λ text. eq_by_cmp cmp text name) same ∙ ties_itself name))
    ])
      where
        false-true : false ≡ true → ⊥
        false-true e = cc

        keeps : (other : List ℕ) → ¬ (other ≡ name) → maps.get (maps.remove (maps.insert m name value) name) other ≡ maps.get (maps.remove m name) other
        keeps other apart = get-remove_other (maps.insert m name value) name other apart ∙ get-insert_other m name value other apart ∙ sym (get-remove_other m name other apart)

-- ---- a part of a map

no-pairs : (es : List Pair) → length es ≡ 0 → es ≡ []
no-pairs [] e = refl
no-pairs (x ∷ es) e = absurd (omega arith)

pub record HasPair (m : Map) : Type 0 where
  pub name : List ℕ
  pub value : List ℕ
  pub stored : IsStored m name value

pub some-pair : (m : Map) (n : ℕ) → maps.len m ≡ suc n → HasPair m
some-pair m n len = at (maps.entries m) refl (sym (maps.len-entries m) ∙ len)
  where
    at : (es : List Pair) → maps.entries m ≡ es → length es ≡ suc n → HasPair m
    at [] is len = absurd (omega arith)
    at (e ∷ es) is len = record {
      name = e.0;
      value = e.1;
      stored = maps.get-entries m e.0 ∙ ap (maps.find cmp e.0) is ∙ cond-true (eq_by_cmp cmp e.0 e.0) (Some e.1) (maps.find cmp e.0 es) (ties_itself e.0);
    }

cut-within : (a b : Map) (name : List ℕ) → IsWithin a b → IsWithin (maps.remove a name) (maps.remove b name)
cut-within a b name within other value is = elim (cases_Bool (eq_by_cmp cmp other name)) [
  | inl tie ↦ absurd (none-is value (sym is ∙ ap (maps.get (maps.remove a name)) (ties_same other name tie) ∙ get-remove_same a name))
  | inr none ↦
      let apart = λ (same : other ≡ name). false-true (sym none ∙ ap (λ text. eq_by_cmp cmp text name) same ∙ ties_itself name) in
      get-remove_other b name other apart ∙ within other value (sym (get-remove_other a name other apart) ∙ is)
]
  where
    false-true : false ≡ true → ⊥
    false-true e = cc

pub removed-within : (m : Map) (name : List ℕ) → IsWithin (maps.remove m name) m
removed-within m name other value is = elim (cases_Bool (eq_by_cmp cmp other name)) [
  | inl tie ↦ absurd (none-is value (sym is ∙ ap (maps.get (maps.remove m name)) (ties_same other name tie) ∙ get-remove_same m name))
  | inr none ↦ sym (get-remove_other m name other (λ same. false-true (sym none ∙ ap (λ text. eq_by_cmp cmp text name) same ∙ ties_itself name))) ∙ is
]
  where
    false-true : false ≡ true → ⊥
    false-true e = cc

-- the names of a map that was given one more value
pub inserted-key : (m : Map) (name value other : List ℕ) → maps.contains_key (maps.insert m name value) other ≡ true → (other ≡ name) ⊎ (maps.contains_key m other ≡ true)
inserted-key m name value other key = elim (cases_Bool (eq_by_cmp cmp other name)) [
  | inl tie ↦ inl (ties_same other name tie)
  | inr none ↦ inr (ap is_some (sym (get-insert_other m name value other (λ same. false-true (sym none ∙ ap (λ text. eq_by_cmp cmp text name) same ∙ ties_itself name)))) ∙ key)
]
  where
    false-true : false ≡ true → ⊥
    false-true e = cc

within-by : (g : Pair → ℕ) (n : ℕ) (a b : Map) → maps.len a ≡ n → IsWithin a b → total g a ≤ total g b
within-by g zero a b len within =
    let none : total g a ≡ 0 = ap (sum_by g) (no-pairs (maps.entries a) (sym (maps.len-entries a) ∙ len)) in
    omega arith
within-by g (suc n) a b len within =
    let p = some-pair a n len in
    let one = remove-total g a p.name p.value p.stored in
    let two = remove-total g b p.name p.value (within p.name p.value p.stored) in
    let fewer : maps.len (maps.remove a p.name) ≡ n =
    maps.len-remove nat_list_cmp_total a p.name ∙ ap (λ (o : Option (List ℕ)). cond (some_of o) (maps.len a - 1) (maps.len a)) p.stored ∙ less (maps.len a) len in
    let rest = within-by g n (maps.remove a p.name) (maps.remove b p.name) fewer (cut-within a b p.name within) in
    omega arith
  where
    some_of : Option (List ℕ) → Bool
    some_of None = false
    some_of (Some x) = true

    less : (k : ℕ) → k ≡ suc n → k - 1 ≡ n
    less k e = omega arith

-- a map that is within another sums up to no more
pub within-total : (g : Pair → ℕ) (a b : Map) → IsWithin a b → total g a ≤ total g b
within-total g a b within = within-by g (maps.len a) a b refl within

pub before-within : (m : Map) (end : Option (List ℕ)) → IsWithin (before m end) m
before-within m end name value is = at (is_before name end) (sym (get-before m end name) ∙ is)
  where
    at : (t : Bool) → cond t (maps.get m name) None ≡ Some value → maps.get m name ≡ Some value
    at true e = e
    at false e = absurd (none-is value (sym e))

pub absent-before : (m : Map) (name : List ℕ) → IsAbsent (before m (Some name)) name
absent-before m name = get-before m (Some name) name ∙ cond-false (is_before name (Some name)) (maps.get m name) None (lt-itself name)

-- the settings before a name and that name are a part of the map
pub before-total : (g : Pair → ℕ) (m : Map) (name value : List ℕ) → IsStored m name value → g (name, value) + total g (before m (Some name)) ≤ total g m
before-total g m name value stored =
    let one = insert-total g (before m (Some name)) name value (absent-before m name) in
    let next = ap (total g) (insert-next m name value (next_name m (Some name)) refl stored) in
    let all = within-total g (before m (next_name m (Some name))) m (before-within m (next_name m (Some name))) in
    omega arith

-- ---- names that pass a test

module _ (p : List ℕ → Bool) where
  abbrev pub one_for : Pair → ℕ
  one_for e = cond (p e.0) 1 0

  counted : (es : List Pair) → count_by p (map (λ e. e.0) es) ≡ sum_by one_for es
  counted [] = refl
  counted (e ∷ es) =
      let ih = counted es in
      let here = sum_by-cons (λ (x : List ℕ). cond (p x) 1 0) e.0 (map (λ e. e.0) es) in
      let there = sum_by-cons one_for e es in
      let same : count_by p (map (λ e. e.0) es) ≡ sum_by (λ (x : List ℕ). cond (p x) 1 0) (map (λ e. e.0) es) = refl in
      omega arith

  pub count-total : (m : Map) → count_by p (maps.keys m) ≡ total one_for m
  count-total m = counted (maps.entries m)

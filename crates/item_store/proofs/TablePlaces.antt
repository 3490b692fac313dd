-- The places of a table of last entries: where an id is found in it, and what it is with an entry put at a place.
use Rattle.std.proofs.Common.{◌≡◌, ℕ, ◌+◌, ◌<◌, ◌≤◌, Bool, true, false, cond, eqb, ltb, List, [], ◌∷◌, ◌++◌, length, get_or, take, drop, Option, Some, None, Ok, Err, refl, sym, ap, subst, ◌∙◌, inl, inr, arith}
use Rattle.std.specs.Prelude.{IfSome}
use Rattle.std.specs.List.{All, AllWithin, Contains}
use Rattle.std.specs.List.Sorted.{IsNonDecreasingBy}
use Rattle.std.specs.Option.{option_or}
use Rattle.std.proofs.lemmas.Bool.{cases_lt, cases_eq, eq-eqb, ne_eqb, ltb-true, ltb-false}
use Rattle.std.proofs.lemmas.List.{length-append, get_or-take, get_or-drop, length-take-le, length-drop, take-append-drop, drop_more, get_or_default, get_or_at, get_or_append_left}
use Rattle.std.proofs.lemmas.List.Elements.{All-nil, All-cons, All-append, All-weaker, All-contains_itself, Contains-append_left, Contains-push}
use Rattle.item_laws.specs.NextIds.{IsBehind}
use Rattle.item_laws.proofs.LiveLemmas.{some_none}
use Rattle.item_laws.proofs.Newest.{last-append, last-all}
use Rattle.item_store.specs.declared.entry.Placed.{Placed}
use Rattle.item_store.specs.declared.latest.LastSlots.{LastSlots}
use Rattle.item_store.specs.Latest.{last_of_id, held, IsKnown, Rises, Splits, IsNextIn, with_bytes, KnowsBelow, HadBytes, Knows, DropsGreatest}
use Rattle.item_store.proofs.LastTables.{last-none, pairs-append, knows-put, knows-dropped, knows-bounded}

-- ---- where an id is

pub rises-up : (xs : List Placed) → Rises xs → IsNonDecreasingBy (λ (p : Placed). p.id) xs
rises-up xs rises i j d le lt =
    elim (cases_lt i j) [
      | inl less ↦ let up : (get_or xs i d).id < (get_or xs j d).id = rises i j d less lt in omega arith
      | inr ge ↦
          let same : i ≡ j = omega arith in
          let is : (get_or xs i d).id ≡ (get_or xs j d).id = ap (λ (k : ℕ). (get_or xs k d).id) same in
          omega arith
    ]

module _ (xs : List Placed) (id at : ℕ) (rises : Rises xs) where
  pub split-there : (e : Placed) → AllWithin (λ p. ltb p.id id ≡ true) xs 0 at → at < length xs → (get_or xs at e).id ≡ id → Splits xs id (Ok at)
  split-there e low within is = (
    λ k d from lt. ltb-true (get_or xs k d).id id (low k d from lt),
    λ d. ap (λ (p : Placed). p.id) (get_or_default xs at d e within) ∙ is,
    λ k d from lt.
        let own : (get_or xs at d).id ≡ id = ap (λ (p : Placed). p.id) (get_or_default xs at d e within) ∙ is in
        let up : (get_or xs at d).id < (get_or xs k d).id = rises at k d (omega arith) lt in
        omega arith,
  )

  pub split-none : (e : Placed) → AllWithin (λ p. ltb p.id id ≡ true) xs 0 at → AllWithin (λ p. ltb p.id id ≡ false) xs at (length xs) → (at < length xs → (get_or xs at e).id ≡ id → ⊥) → Splits xs id (Err at)
  split-none e low high apart = (
    λ k d from lt. ltb-true (get_or xs k d).id id (low k d from lt),
    λ k d from lt.
        let within : at < length xs = omega arith in
        let first : id ≤ (get_or xs at d).id = ltb-false (get_or xs at d).id id (high at d (omega arith) within) in
        let other : (get_or xs at d).id ≡ id → ⊥ = λ (is : (get_or xs at d).id ≡ id). apart within (ap (λ (p : Placed). p.id) (get_or_default xs at e d within) ∙ is) in
        let up : (get_or xs at d).id ≤ (get_or xs k d).id = rises-up xs rises at k d from lt in
        elim (cases_eq (get_or xs at d).id id) [
          | inl same ↦ absurd (other same)
          | inr differ ↦ omega arith
        ],
  )

-- ---- the parts of a list at a place

all-take : (P : Placed → Type 0) (xs : List Placed) (at : ℕ) → at ≤ length xs → AllWithin P xs 0 at → All P (take at xs)
all-take P xs at within all k d lt =
    let long = length-take-le at xs within in
    subst P (sym (get_or-take at xs k d (omega arith))) (all k d (omega arith) (omega arith))

all-drop : (P : Placed → Type 0) (xs : List Placed) (at : ℕ) → AllWithin P xs at (length xs) → All P (drop at xs)
all-drop P xs at all k d lt =
    let long = length-drop at xs in
    subst P (sym (get_or-drop at xs k d)) (all (at + k) d (omega arith) (omega arith))

parts : (xs : List Placed) (at : ℕ) (d : Placed) → at < length xs → xs ≡ take at xs ++ ((get_or xs at d ∷ []) ++ drop (at + 1) xs)
parts xs at d within = sym (take-append-drop at xs) ∙ ap (λ (ys : List Placed). take at xs ++ ys) (drop_more xs at d within)

-- ---- the entry of an id

pub found : (xs : List Placed) (id at : ℕ) (d : Placed) → at < length xs → Splits xs id (Ok at) → Some (get_or xs at d) ≡ last_of_id id xs
found xs id at d within split =
    let p : Placed = get_or xs at d in
    let low : last_of_id id (take at xs) ≡ None = last-none id (take at xs) (all-take (λ (q : Placed). q.id ≡ id → ⊥) xs at (omega arith) (λ k e from lt is. let less : (get_or xs k e).id < id = split.0 k e from lt in omega arith)) in
    let high : last_of_id id (drop (at + 1) xs) ≡ None = last-none id (drop (at + 1) xs) (all-drop (λ (q : Placed). q.id ≡ id → ⊥) xs (at + 1) (λ k e from lt is. let greater : id < (get_or xs k e).id = split.2 k e from lt in omega arith)) in
    let own : last_of_id id ((get_or xs at d ∷ []) ++ drop (at + 1) xs) ≡ Some (get_or xs at d) =
    last-append (λ (q : Placed). eqb q.id id) (get_or xs at d ∷ []) (drop (at + 1) xs)
    ∙ ap (λ (o : Option Placed). option_or o (cond (eqb (get_or xs at d).id id) (Some (get_or xs at d)) None)) high
    ∙ ap (λ (t : Bool). cond t (Some (get_or xs at d)) None) (eq-eqb (get_or xs at d).id id (split.1 d)) in
    sym (ap (last_of_id id) (parts xs at d within)
    ∙ last-append (λ (q : Placed). eqb q.id id) (take at xs) ((get_or xs at d ∷ []) ++ drop (at + 1) xs)
    ∙ ap (λ (o : Option Placed). option_or o (last_of_id id (take at xs))) own)

pub not-found : (xs : List Placed) (id at : ℕ) → Splits xs id (Err at) → None ≡ last_of_id id xs
not-found xs id at split =
    sym (last-none id xs (λ k d lt is.
    elim (cases_lt k at) [
      | inl low ↦ let less : (get_or xs k d).id < id = split.0 k d (omega arith) low in absurd (omega arith)
      | inr high ↦ let greater : id < (get_or xs k d).id = split.1 k d high lt in absurd (omega arith)
    ]))

-- ---- the entry of the next id

module _ (xs : List Placed) (after : Option ℕ) (first : ℕ) (rises : Rises xs) (before : AllWithin (λ p. IsBehind after p.id → ⊥) xs 0 first) where
  pub next-there : (e : Placed) → AllWithin (λ p. IsBehind after p.id) xs first (length xs) → first < length xs → IsNextIn after xs (Some (get_or xs first e))
  next-there e behind within = (
    behind first e (omega arith) within,
    sym (found xs (get_or xs first e).id first e within (
      λ k d from lt. subst (λ (p : Placed). (get_or xs k d).id < p.id) (get_or_default xs first d e within) (rises k first d lt within),
      λ d. ap (λ (p : Placed). p.id) (get_or_default xs first d e within),
      λ k d from lt. subst (λ (p : Placed). p.id < (get_or xs k d).id) (get_or_default xs first d e within) (rises first k d (omega arith) lt),
    )),
    λ id own less.
        last-none id xs (λ k d lt is.
        elim (cases_lt k first) [
          | inl low ↦ before k d (omega arith) low (subst (IsBehind after) (sym is) own)
          | inr high ↦
              let up : (get_or xs first e).id ≤ (get_or xs k e).id = rises-up xs rises first k e high lt in
              let same : (get_or xs k d).id ≡ (get_or xs k e).id = ap (λ (p : Placed). p.id) (get_or_default xs k d e lt) in
              absurd (omega arith)
        ]),
  )

  pub next-nowhere : length xs ≤ first → IsNextIn after xs None
  next-nowhere past = λ id own. last-none id xs (λ k d lt is. before k d (omega arith) (omega arith) (subst (IsBehind after) (sym is) own))

-- ---- what a table has is among the entries that it was made of

-- its entry is the last one of its id in it
own-last : (xs : List Placed) → Rises xs → (i : ℕ) (d : Placed) → i < length xs → last_of_id (get_or xs i d).id xs ≡ Some (get_or xs i d)
own-last xs rises i d within = sym (found xs (get_or xs i d).id i d within (
  λ k e from lt. subst (λ (p : Placed). (get_or xs k e).id < p.id) (get_or_default xs i e d within) (rises k i e lt within),
  λ e. ap (λ (p : Placed). p.id) (get_or_default xs i e d within),
  λ k e from lt. subst (λ (p : Placed). p.id < (get_or xs k e).id) (get_or_default xs i e d within) (rises i k e (omega arith) lt),
))

-- the last entry of an id, where it is that of a table
pub held-entry : (o : Option Placed) (p : Placed) → with_bytes o ≡ Some p → (o ≡ Some p) × (p.len ≡ 0 → ⊥)
held-entry None p is = absurd (some_none p (sym is))
held-entry (Some q) p is =
    elim (cases_eq q.len 0) [
      | inl none ↦ absurd (some_none p (sym is ∙ ap (λ (t : Bool). cond t None (Some q)) (eq-eqb q.len 0 none)))
      | inr some ↦
          let same : Some q ≡ Some p = sym (ap (λ (t : Bool). cond t None (Some q)) (ne_eqb q.len 0 some)) ∙ is in
          (same, subst (λ (o : Option Placed). IfSome o (λ r. r.len ≡ 0 → ⊥)) same some)
    ]

own-among : (limit : ℕ) (last : LastSlots) (placed : List Placed) → KnowsBelow limit last placed → All (λ p. Contains placed p × (p.len ≡ 0 → ⊥)) last.entries.items
own-among limit last placed knows i d within =
    let p : Placed = get_or last.entries.items i d in
    let own : (last_of_id p.id placed ≡ Some p) × (p.len ≡ 0 → ⊥) =
    held-entry (last_of_id p.id placed) p (sym (knows.covered p.id (knows.within i d within)) ∙ own-last last.entries.items knows.rises i d within) in (
      subst (λ (o : Option Placed). IfSome o (Contains placed)) own.0
          (last-all (λ (q : Placed). eqb q.id p.id) (Contains placed) placed None tt (All-contains_itself placed)),
      own.1,
    )

abbrev Less : Placed → Placed → Type 0
Less p q = p.id < q.id

-- a table that is full, and an entry with bytes of the id that is its bound
now-full : (limit : ℕ) (last : LastSlots) (placed : List Placed) (q : Placed) → KnowsBelow limit last placed → length last.entries.items ≡ 1024
    → last.bound ≡ Some q.id → (q.len ≡ 0 → ⊥) → Contains placed q → Knows limit last placed
now-full limit last placed q below whole is some here =
    let xs : List Placed = last.entries.items in
    let less : All (λ p. p.id < q.id) xs = subst (λ (b : Option ℕ). All (λ p. IsKnown b p.id) xs) is below.within in
    let own = own-among limit last placed below in
    let had : HadBytes 1025 q.id placed = record {
      entries = xs ++ q ∷ [];
      long = (let both = length-append xs (q ∷ []) in omega arith);
      rises = pairs-append Less xs (q ∷ []) below.rises (λ i j d lt within. absurd (omega arith))
          (All-weaker (λ (p : Placed). p.id < q.id) (λ (p : Placed). All (Less p) (q ∷ [])) (λ p lt. All-cons (Less p) q [] lt (All-nil (Less p))) xs less);
      up_to = behind (λ (p : Placed). p.id ≤ q.id) (All-weaker (λ (p : Placed). p.id < q.id) (λ (p : Placed). p.id ≤ q.id) (λ p lt. omega arith) xs less) (omega arith);
      bytes = behind (λ (p : Placed). p.len ≡ 0 → ⊥) (All-weaker (λ (p : Placed). Contains placed p × (p.len ≡ 0 → ⊥)) (λ (p : Placed). p.len ≡ 0 → ⊥) (λ p both. both.1) xs own) some;
      among = behind (Contains placed) (All-weaker (λ (p : Placed). Contains placed p × (p.len ≡ 0 → ⊥)) (Contains placed) (λ p both. both.0) xs own) here;
    } in
    record {
      below = below;
      full = λ bound same. subst (λ (n : ℕ). HadBytes 1025 n placed) (same_some q.id bound (sym is ∙ same)) had;
    }
  where
    behind : (P : Placed → Type 0) → All P last.entries.items → P q → All P (last.entries.items ++ q ∷ [])
    behind P all own = All-append P last.entries.items (q ∷ []) all (All-cons P q [] own (All-nil P))

    same_some : (m n : ℕ) → Some m ≡ Some n → m ≡ n
    same_some m n e = cc

-- ---- an entry put at a place

pub held-some : (p : Placed) → (p.len ≡ 0 → ⊥) → held p ≡ p ∷ []
held-some p some = ap (λ (t : Bool). cond t [] (p ∷ [])) (ne_eqb p.len 0 some)

held-none : (p : Placed) → p.len ≡ 0 → held p ≡ []
held-none p none = ap (λ (t : Bool). cond t [] (p ∷ [])) (eq-eqb p.len 0 none)

held-few : (p : Placed) → length (held p) ≤ 1
held-few p = few (eqb p.len 0)
  where
    few : (t : Bool) → length (cond t [] (p ∷ [])) ≤ 1
    few true = omega arith
    few false = omega arith

module _ (limit : ℕ) (old new : LastSlots) (before : List Placed) (p : Placed) (at : ℕ) (small : p.id < limit) (covered : IsKnown old.bound p.id) (knows : KnowsBelow limit old before) where
  abbrev entries : List Placed
  entries = old.entries.items

  module _ (low : AllWithin (λ q. q.id < p.id) old.entries.items 0 at) (high : AllWithin (λ q. p.id < q.id) old.entries.items at (length old.entries.items)) (inside : at ≤ length old.entries.items) where
    -- between lesser and greater ones
    pub put-between : (p.len ≡ 0 → ⊥) → new.entries.items ≡ take at old.entries.items ++ p ∷ drop at old.entries.items → new.bound ≡ old.bound → length old.entries.items < 1024 → KnowsBelow limit new (before ++ p ∷ [])
    put-between some is same room =
        let prefix = length-take-le at entries inside in
        let back = length-drop at entries in
        let whole = length-append (take at entries) (p ∷ drop at entries) in
        let long : length new.entries.items ≡ length (take at entries ++ p ∷ drop at entries) = ap length is in
        knows-put limit old new before p (take at entries) [] (drop at entries) small covered knows (sym (take-append-drop at entries))
        (is ∙ ap (λ (h : List Placed). take at entries ++ (h ++ drop at entries)) (sym (held-some p some))) same (omega arith)
        (all-take (λ (q : Placed). q.id < p.id) entries at inside low) (All-nil (λ (q : Placed). q.id ≡ p.id)) (all-drop (λ (q : Placed). p.id < q.id) entries at high)

    -- a delete of an id that the table does not have
    pub put-nothing : p.len ≡ 0 → new.entries.items ≡ old.entries.items → new.bound ≡ old.bound → KnowsBelow limit new (before ++ p ∷ [])
    put-nothing none is same =
        let most = knows.few in
        let long : length new.entries.items ≡ length entries = ap length is in
        knows-put limit old new before p (take at entries) [] (drop at entries) small covered knows (sym (take-append-drop at entries))
        (is ∙ sym (take-append-drop at entries) ∙ ap (λ (h : List Placed). take at entries ++ (h ++ drop at entries)) (sym (held-none p none))) same (omega arith)
        (all-take (λ (q : Placed). q.id < p.id) entries at inside low) (All-nil (λ (q : Placed). q.id ≡ p.id)) (all-drop (λ (q : Placed). p.id < q.id) entries at high)

    -- behind all entries of a table, which is full
    pub put-behind : (p.len ≡ 0 → ⊥) → length old.entries.items ≡ 1024 → at ≡ length old.entries.items → new.entries.items ≡ old.entries.items → new.bound ≡ Some p.id → Knows limit new (before ++ p ∷ [])
    put-behind some whole end is same =
        now-full limit new (before ++ p ∷ []) p (knows-bounded limit old new before p small covered knows is same (λ k d lt. low k d (omega arith) (omega arith)))
        (ap length is ∙ whole) same some (Contains-push before p)

-- into a full table, out of which the greatest id goes before
pub put-full : (limit : ℕ) (old mid new : LastSlots) (before : List Placed) (p : Placed) (at : ℕ) → p.id < limit → KnowsBelow limit old before → DropsGreatest old mid
    → AllWithin (λ q. q.id < p.id) old.entries.items 0 at → AllWithin (λ q. p.id < q.id) old.entries.items at (length old.entries.items) → at < length old.entries.items
    → length old.entries.items ≡ 1024 → (p.len ≡ 0 → ⊥) → new.entries.items ≡ take at mid.entries.items ++ p ∷ drop at mid.entries.items → new.bound ≡ mid.bound → Knows limit new (before ++ p ∷ [])
put-full limit old mid new before p at small knows drops low high inside whole some is same =
    let g : Placed = drops.greatest in
    let most = knows.few in
    let long : length old.entries.items ≡ length mid.entries.items + 1 = ap length drops.entries ∙ length-append mid.entries.items (drops.greatest ∷ []) in
    let own : (get_or old.entries.items (length mid.entries.items) p) ≡ drops.greatest =
    ap (λ (l : List Placed). get_or l (length mid.entries.items) p) drops.entries ∙ get_or_at mid.entries.items drops.greatest [] p (length mid.entries.items) refl in
    let less : p.id < drops.greatest.id = subst (λ (q : Placed). p.id < q.id) own (high (length mid.entries.items) p (omega arith) (omega arith)) in
    let covered : IsKnown mid.bound p.id = subst (λ (b : Option ℕ). IsKnown b p.id) (sym drops.bound) less in
    let among : Contains before drops.greatest × (drops.greatest.len ≡ 0 → ⊥) =
    subst (λ (q : Placed). Contains before q × (q.len ≡ 0 → ⊥)) own (own-among limit old before knows (length mid.entries.items) p (omega arith)) in
    let prefix = length-take-le at mid.entries.items (omega arith) in
    let back = length-drop at mid.entries.items in
    let both = length-append (take at mid.entries.items) (p ∷ drop at mid.entries.items) in
    let there_is : length new.entries.items ≡ length (take at mid.entries.items ++ p ∷ drop at mid.entries.items) = ap length is in
    now-full limit new (before ++ p ∷ []) drops.greatest
    (put-between limit mid new before p at small covered (knows-dropped limit old mid before drops knows)
    (λ k d from lt. subst (λ (q : Placed). q.id < p.id) (there k d (omega arith)) (low k d from lt))
    (λ k d from lt. subst (λ (q : Placed). p.id < q.id) (there k d lt) (high k d from (omega arith)))
    (omega arith) some is same (omega arith))
    (omega arith) (same ∙ drops.bound) among.1 (Contains-append_left before (p ∷ []) drops.greatest among.0)
  where
    there : (k : ℕ) (d : Placed) → k < length mid.entries.items → get_or old.entries.items k d ≡ get_or mid.entries.items k d
    there k d lt = ap (λ (l : List Placed). get_or l k d) drops.entries ∙ get_or_append_left mid.entries.items (drops.greatest ∷ []) d k lt

-- A table of the last entries of ids, one entry after another.
use Rattle.std.proofs.Common.{◌≡◌, ℕ, ◌+◌, ◌-◌, ◌<◌, ◌≤◌, Bool, true, false, cond, eqb, List, [], ◌∷◌, ◌++◌, length, get_or, Option, Some, None, refl, sym, ap, subst, ◌∙◌, inl, inr, arith}
use Rattle.std.specs.Prelude.{fold}
use Rattle.std.specs.List.{All, AllPairs, Contains}
use Rattle.std.specs.Option.{option_or}
use Rattle.std.proofs.lemmas.Bool.{cases_Bool, cases_lt, eqb-true, eq-eqb, ne_eqb, false≢true}
use Rattle.std.proofs.lemmas.List.{length-append, get_or_append_left, get_or-append_right, get_or_default}
use Rattle.std.proofs.lemmas.List.Elements.{All-nil, All-cons, All-head, All-tail, All-append, All-weaker, Contains-append_left}
use Rattle.std.proofs.lemmas.List.Sums.{fold_push}
use Rattle.item_laws.proofs.LiveLemmas.{some_none}
use Rattle.item_laws.proofs.Newest.{last-append}
use Rattle.item_store.specs.declared.entry.Placed.{Placed}
use Rattle.item_store.specs.declared.latest.LastSlots.{LastSlots}
use Rattle.item_store.specs.Latest.{last_of_id, with_bytes, held, IsKnown, Rises, KnowsBelow, HadBytes, Knows, DropsGreatest}

-- ---- the last of an id

none_from : (id : ℕ) (xs : List Placed) (o : Option Placed) → All (λ p. p.id ≡ id → ⊥) xs → fold (λ last p. cond (eqb p.id id) (Some p) last) o xs ≡ o
none_from id [] o none = refl
none_from id (p ∷ xs) o none =
    ap (λ (t : Bool). fold (λ last p. cond (eqb p.id id) (Some p) last) (cond t (Some p) o) xs) (ne_eqb p.id id (All-head (λ (p : Placed). p.id ≡ id → ⊥) p xs none))
    ∙ none_from id xs o (All-tail (λ (p : Placed). p.id ≡ id → ⊥) p xs none)

-- none of them has the id
pub last-none : (id : ℕ) (xs : List Placed) → All (λ p. p.id ≡ id → ⊥) xs → last_of_id id xs ≡ None
last-none id xs none = none_from id xs None none

pub last-push : (id : ℕ) (before : List Placed) (p : Placed) → last_of_id id (before ++ p ∷ []) ≡ cond (eqb p.id id) (Some p) (last_of_id id before)
last-push id before p = fold_push (λ last p. cond (eqb p.id id) (Some p) last) None before p

pub last-other : (id : ℕ) (before : List Placed) (p : Placed) → (p.id ≡ id → ⊥) → last_of_id id (before ++ p ∷ []) ≡ last_of_id id before
last-other id before p apart = last-push id before p ∙ ap (λ (t : Bool). cond t (Some p) (last_of_id id before)) (ne_eqb p.id id apart)

last-middle : (id : ℕ) (xs mid ys : List Placed) → last_of_id id (xs ++ (mid ++ ys)) ≡ option_or (option_or (last_of_id id ys) (last_of_id id mid)) (last_of_id id xs)
last-middle id xs mid ys =
    last-append (λ (p : Placed). eqb p.id id) xs (mid ++ ys)
    ∙ ap (λ (o : Option Placed). option_or o (last_of_id id xs)) (last-append (λ (p : Placed). eqb p.id id) mid ys)

pub or-none : (o : Option Placed) → option_or o None ≡ o
or-none None = refl
or-none (Some p) = refl

held-own : (p : Placed) (id : ℕ) (empty : Bool) → eqb p.len 0 ≡ empty → p.id ≡ id → last_of_id id (cond empty [] (p ∷ [])) ≡ cond empty None (Some p)
held-own p id true is same = refl
held-own p id false is same = ap (λ (t : Bool). cond t (Some p) None) (eq-eqb p.id id same)

held-other : (p : Placed) (id : ℕ) (empty : Bool) → (p.id ≡ id → ⊥) → last_of_id id (cond empty [] (p ∷ [])) ≡ None
held-other p id true apart = refl
held-other p id false apart = ap (λ (t : Bool). cond t (Some p) None) (ne_eqb p.id id apart)

-- An entry, if it has bytes, in place of those of its id.
put-covered : (p : Placed) (xs mid ys : List Placed) → All (λ q. q.id < p.id) xs → All (λ q. q.id ≡ p.id) mid → All (λ q. p.id < q.id) ys
    → (id : ℕ) (o : Option Placed) → last_of_id id (xs ++ (mid ++ ys)) ≡ with_bytes o → last_of_id id (xs ++ (held p ++ ys)) ≡ with_bytes (cond (eqb p.id id) (Some p) o)
put-covered p xs mid ys less own greater id o was =
    elim (cases_Bool (eqb p.id id)) [
      | inl same ↦
          let is : p.id ≡ id = eqb-true p.id id same in
          let none_less : last_of_id id xs ≡ None = last-none id xs (All-weaker (λ (q : Placed). q.id < p.id) (λ (q : Placed). q.id ≡ id → ⊥) (λ q lt e. omega arith) xs less) in
          let none_greater : last_of_id id ys ≡ None = last-none id ys (All-weaker (λ (q : Placed). p.id < q.id) (λ (q : Placed). q.id ≡ id → ⊥) (λ q lt e. omega arith) ys greater) in
          last-middle id xs (held p) ys
          ∙ ap (λ (o : Option Placed). option_or (option_or o (last_of_id id (held p))) (last_of_id id xs)) none_greater
          ∙ ap (λ (o : Option Placed). option_or (last_of_id id (held p)) o) none_less
          ∙ or-none (last_of_id id (held p))
          ∙ held-own p id (eqb p.len 0) refl is
          ∙ sym (ap (λ (t : Bool). with_bytes (cond t (Some p) o)) same)
      | inr other ↦
          let apart : p.id ≡ id → ⊥ = λ (e : p.id ≡ id). false≢true (sym other ∙ eq-eqb p.id id e) in
          let none_mid : last_of_id id mid ≡ None = last-none id mid (All-weaker (λ (q : Placed). q.id ≡ p.id) (λ (q : Placed). q.id ≡ id → ⊥) (λ q same e. apart (sym same ∙ e)) mid own) in
          last-middle id xs (held p) ys
          ∙ ap (λ (m : Option Placed). option_or (option_or (last_of_id id ys) m) (last_of_id id xs)) (held-other p id (eqb p.len 0) apart ∙ sym none_mid)
          ∙ sym (last-middle id xs mid ys)
          ∙ was
          ∙ sym (ap (λ (t : Bool). with_bytes (cond t (Some p) o)) other)
    ]

-- ---- the order of ids

pub pairs-append : {X : Type 0} (R : X → X → Type 0) (xs ys : List X) → AllPairs R xs → AllPairs R ys → All (λ x. All (R x) ys) xs → AllPairs R (xs ++ ys)
pairs-append R xs ys prefix back across i j d less within =
    let long = length-append xs ys in
    elim (cases_lt j (length xs)) [
      | inl low ↦
          subst (λ y. R (get_or (xs ++ ys) i d) y) (sym (get_or_append_left xs ys d j low))
          (subst (λ x. R x (get_or xs j d)) (sym (get_or_append_left xs ys d i (omega arith))) (prefix i j d less low))
      | inr high ↦ elim (cases_lt i (length xs)) [
        | inl low ↦
            subst (λ y. R (get_or (xs ++ ys) i d) y) (sym (get_or-append_right xs ys (length xs) j d refl high))
            (subst (λ x. R x (get_or ys (j - length xs) d)) (sym (get_or_append_left xs ys d i low)) (across i d low (j - length xs) d (omega arith)))
        | inr above ↦
            subst (λ y. R (get_or (xs ++ ys) i d) y) (sym (get_or-append_right xs ys (length xs) j d refl high))
            (subst (λ x. R x (get_or ys (j - length xs) d)) (sym (get_or-append_right xs ys (length xs) i d refl above)) (back (i - length xs) (j - length xs) d (omega arith) (omega arith)))
      ]
    ]

pairs-prefix : {X : Type 0} (R : X → X → Type 0) (xs ys : List X) → AllPairs R (xs ++ ys) → AllPairs R xs
pairs-prefix R xs ys pairs i j d less within =
    let long = length-append xs ys in
    subst (λ y. R (get_or xs i d) y) (get_or_append_left xs ys d j within)
    (subst (λ x. R x (get_or (xs ++ ys) j d)) (get_or_append_left xs ys d i (omega arith)) (pairs i j d less (omega arith)))

pairs-back : {X : Type 0} (R : X → X → Type 0) (xs ys : List X) → AllPairs R (xs ++ ys) → AllPairs R ys
pairs-back R xs ys pairs i j d less within =
    let long = length-append xs ys in
    let at : length xs + j - length xs ≡ j = omega arith in
    let first : length xs + i - length xs ≡ i = omega arith in
    subst (λ y. R (get_or ys i d) y) (get_or-append_right xs ys (length xs) (length xs + j) d refl (omega arith) ∙ ap (λ (n : ℕ). get_or ys n d) at)
    (subst (λ x. R x (get_or (xs ++ ys) (length xs + j) d)) (get_or-append_right xs ys (length xs) (length xs + i) d refl (omega arith) ∙ ap (λ (n : ℕ). get_or ys n d) first)
    (pairs (length xs + i) (length xs + j) d (omega arith) (omega arith)))

pairs-across : {X : Type 0} (R : X → X → Type 0) (xs ys : List X) → AllPairs R (xs ++ ys) → All (λ x. All (R x) ys) xs
pairs-across R xs ys pairs i d within j e inside =
    let long = length-append xs ys in
    let at : length xs + j - length xs ≡ j = omega arith in
    subst (λ y. R (get_or xs i d) y) (get_or-append_right xs ys (length xs) (length xs + j) e refl (omega arith) ∙ ap (λ (n : ℕ). get_or ys n e) at)
    (subst (λ x. R x (get_or (xs ++ ys) (length xs + j) e)) (get_or_append_left xs ys e i within ∙ get_or_any xs i e d within)
    (pairs i (length xs + j) e (omega arith) (omega arith)))
  where
    get_or_any : {X : Type 0} (xs : List X) (i : ℕ) (d e : X) → i < length xs → get_or xs i d ≡ get_or xs i e
    get_or_any xs i d e lt = get_or_default xs i d e lt

abbrev Less : Placed → Placed → Type 0
Less p q = p.id < q.id

-- an entry between lesser and greater ones
rises-held : (p : Placed) (xs ys : List Placed) (empty : Bool) → Rises xs → Rises ys → All (λ q. q.id < p.id) xs → All (λ q. p.id < q.id) ys → Rises (xs ++ (cond empty [] (p ∷ []) ++ ys))
rises-held p xs ys true prefix back less greater =
    pairs-append Less xs ys prefix back (All-weaker (λ (q : Placed). q.id < p.id) (λ (q : Placed). All (Less q) ys)
    (λ q lt. All-weaker (λ (r : Placed). p.id < r.id) (Less q) (λ r gt. omega arith) ys greater) xs less)
rises-held p xs ys false prefix back less greater =
    pairs-append Less xs (p ∷ ys) prefix
    (pairs-append Less (p ∷ []) ys (λ i j d lt within. absurd (omega arith)) back (All-cons (λ (q : Placed). All (Less q) ys) p [] greater (All-nil (λ (q : Placed). All (Less q) ys))))
    (All-weaker (λ (q : Placed). q.id < p.id) (λ (q : Placed). All (Less q) (p ∷ ys))
    (λ q lt. All-cons (Less q) p ys lt (All-weaker (λ (r : Placed). p.id < r.id) (Less q) (λ r gt. omega arith) ys greater)) xs less)

all-held : (P : Placed → Type 0) (p : Placed) (xs ys : List Placed) (empty : Bool) → P p → All P xs → All P ys → All P (xs ++ (cond empty [] (p ∷ []) ++ ys))
all-held P p xs ys true here prefix back = All-append P xs ys prefix back
all-held P p xs ys false here prefix back = All-append P xs (p ∷ ys) prefix (All-cons P p ys here back)

-- ---- bounds

pub covered-less : (bound : Option ℕ) (id greater : ℕ) → id ≤ greater → IsKnown bound greater → IsKnown bound id
covered-less None id greater le covered = tt
covered-less (Some bound) id greater le covered = omega arith

-- ---- how many ids had bytes

had-push : (ids greatest : ℕ) (before : List Placed) (p : Placed) → HadBytes ids greatest before → HadBytes ids greatest (before ++ p ∷ [])
had-push ids greatest before p had = record {
  entries = had.entries;
  long = had.long;
  rises = had.rises;
  up_to = had.up_to;
  bytes = had.bytes;
  among = All-weaker (Contains before) (Contains (before ++ p ∷ [])) (λ q here. Contains-append_left before (p ∷ []) q here) had.entries had.among;
}

-- a table with the same bound, of one entry more
pub still-full : (limit : ℕ) (old new : LastSlots) (before : List Placed) (p : Placed) → Knows limit old before → new.bound ≡ old.bound
    → KnowsBelow limit new (before ++ p ∷ []) → Knows limit new (before ++ p ∷ [])
still-full limit old new before p knows same below = record {
  below = below;
  full = λ bound is. had-push 1025 bound before p (knows.full bound (sym same ∙ is));
}

-- ---- a table

pub knows-none : (limit : ℕ) (last : LastSlots) → last.entries.items ≡ [] → last.bound ≡ None → Knows limit last []
knows-none limit last none free = record {
  below = record {
    covered = λ id covered. ap (last_of_id id) none;
    within = subst (λ (xs : List Placed). All (λ p. IsKnown last.bound p.id) xs) (sym none) (All-nil (λ (p : Placed). IsKnown last.bound p.id));
    rises = subst (λ (xs : List Placed). Rises xs) (sym none) (λ i j d lt within. absurd (omega arith));
    few = (let long : length last.entries.items ≡ 0 = ap length none in omega arith);
    known = All-nil (λ (p : Placed). p.id < limit);
  };
  full = λ bound is. absurd (some_none bound (sym is ∙ free));
}

known-push : (limit : ℕ) (before : List Placed) (p : Placed) → p.id < limit → All (λ q. q.id < limit) before → All (λ q. q.id < limit) (before ++ p ∷ [])
known-push limit before p small known =
    All-append (λ (q : Placed). q.id < limit) before (p ∷ []) known (All-cons (λ (q : Placed). q.id < limit) p [] small (All-nil (λ (q : Placed). q.id < limit)))

-- an entry of an id that the table does not know
pub knows-passed : (limit : ℕ) (last : LastSlots) (before : List Placed) (p : Placed) → p.id < limit → (IsKnown last.bound p.id → ⊥) → Knows limit last before → Knows limit last (before ++ p ∷ [])
knows-passed limit last before p small unknown knows =
    still-full limit last last before p knows refl (record {
      covered = λ id covered.
          let apart : p.id ≡ id → ⊥ = λ (e : p.id ≡ id). unknown (subst (λ (n : ℕ). IsKnown last.bound n) (sym e) covered) in
          knows.below.covered id covered ∙ ap with_bytes (sym (last-other id before p apart));
      within = knows.below.within;
      rises = knows.below.rises;
      few = knows.below.few;
      known = known-push limit before p small knows.below.known;
    })

-- an entry of an id that it knows, in place of those of the id
pub knows-put : (limit : ℕ) (old new : LastSlots) (before : List Placed) (p : Placed) (xs mid ys : List Placed) → p.id < limit → IsKnown old.bound p.id → KnowsBelow limit old before
    → old.entries.items ≡ xs ++ (mid ++ ys) → new.entries.items ≡ xs ++ (held p ++ ys) → new.bound ≡ old.bound → length new.entries.items ≤ 1024
    → All (λ q. q.id < p.id) xs → All (λ q. q.id ≡ p.id) mid → All (λ q. p.id < q.id) ys → KnowsBelow limit new (before ++ p ∷ [])
knows-put limit old new before p xs mid ys small covered knows was is same few less own greater =
    let rises : Rises (xs ++ (mid ++ ys)) = subst (λ (l : List Placed). Rises l) was knows.rises in
    let within : All (λ q. IsKnown old.bound q.id) (xs ++ (mid ++ ys)) = subst (λ (l : List Placed). All (λ q. IsKnown old.bound q.id) l) was knows.within in
    let prefix : All (λ q. IsKnown old.bound q.id) xs = all-prefix (λ (q : Placed). IsKnown old.bound q.id) xs (mid ++ ys) within in
    let back : All (λ q. IsKnown old.bound q.id) ys = all-back (λ (q : Placed). IsKnown old.bound q.id) mid ys (all-back (λ (q : Placed). IsKnown old.bound q.id) xs (mid ++ ys) within) in
    record {
      covered = λ id here.
          ap (last_of_id id) is
          ∙ put-covered p xs mid ys less own greater id (last_of_id id before) (ap (last_of_id id) (sym was) ∙ knows.covered id (subst (λ (b : Option ℕ). IsKnown b id) same here))
          ∙ ap with_bytes (sym (last-push id before p));
      within = subst (λ (l : List Placed). All (λ q. IsKnown new.bound q.id) l) (sym is)
          (subst (λ (b : Option ℕ). All (λ q. IsKnown b q.id) (xs ++ (held p ++ ys))) (sym same) (all-held (λ (q : Placed). IsKnown old.bound q.id) p xs ys (eqb p.len 0) covered prefix back));
      rises = subst (λ (l : List Placed). Rises l) (sym is)
          (rises-held p xs ys (eqb p.len 0) (pairs-prefix Less xs (mid ++ ys) rises) (pairs-back Less mid ys (pairs-back Less xs (mid ++ ys) rises)) less greater);
      few = few;
      known = known-push limit before p small knows.known;
    }
  where
    all-prefix : (P : Placed → Type 0) (xs ys : List Placed) → All P (xs ++ ys) → All P xs
    all-prefix P [] ys all = All-nil P
    all-prefix P (x ∷ xs) ys all = All-cons P x xs (All-head P x (xs ++ ys) all) (all-prefix P xs ys (All-tail P x (xs ++ ys) all))

    all-back : (P : Placed → Type 0) (xs ys : List Placed) → All P (xs ++ ys) → All P ys
    all-back P [] ys all = all
    all-back P (x ∷ xs) ys all = all-back P xs ys (All-tail P x (xs ++ ys) all)

-- the entry of the greatest id is taken out
pub knows-dropped : (limit : ℕ) (old new : LastSlots) (before : List Placed) → DropsGreatest old new → KnowsBelow limit old before → KnowsBelow limit new before
knows-dropped limit old new before drops knows =
    let q : Placed = drops.greatest in
    let rises : Rises (new.entries.items ++ q ∷ []) = subst (λ (l : List Placed). Rises l) drops.entries knows.rises in
    let all : All (λ p. IsKnown old.bound p.id) (new.entries.items ++ q ∷ []) = subst (λ (l : List Placed). All (λ p. IsKnown old.bound p.id) l) drops.entries knows.within in
    let own : IsKnown old.bound q.id = last-covered new.entries.items q all in
    let less : All (λ p. p.id < q.id) new.entries.items =
    All-weaker (λ (p : Placed). All (Less p) (q ∷ [])) (λ (p : Placed). p.id < q.id) (λ p all. All-head (Less p) q [] all) new.entries.items (pairs-across Less new.entries.items (q ∷ []) rises) in
    let long : length old.entries.items ≡ length new.entries.items + 1 = ap length drops.entries ∙ length-append new.entries.items (q ∷ []) in
    record {
      covered = λ id covered.
          let below : id < q.id = subst (λ (b : Option ℕ). IsKnown b id) drops.bound covered in
          sym (last-other id new.entries.items q (λ (e : q.id ≡ id). absurd (omega arith))) ∙ ap (last_of_id id) (sym drops.entries)
          ∙ knows.covered id (covered-less old.bound id q.id (omega arith) own);
      within = subst (λ (b : Option ℕ). All (λ p. IsKnown b p.id) new.entries.items) (sym drops.bound) less;
      rises = pairs-prefix Less new.entries.items (q ∷ []) rises;
      few = (let many = knows.few in omega arith);
      known = knows.known;
    }
  where
    last-covered : (xs : List Placed) (q : Placed) → All (λ p. IsKnown old.bound p.id) (xs ++ q ∷ []) → IsKnown old.bound q.id
    last-covered [] q all = All-head (λ (p : Placed). IsKnown old.bound p.id) q [] all
    last-covered (x ∷ xs) q all = last-covered xs q (All-tail (λ (p : Placed). IsKnown old.bound p.id) x (xs ++ q ∷ []) all)

-- an entry behind all of a table, whose id is the bound
pub knows-bounded : (limit : ℕ) (old new : LastSlots) (before : List Placed) (p : Placed) → p.id < limit → IsKnown old.bound p.id → KnowsBelow limit old before
    → new.entries.items ≡ old.entries.items → new.bound ≡ Some p.id → All (λ q. q.id < p.id) old.entries.items → KnowsBelow limit new (before ++ p ∷ [])
knows-bounded limit old new before p small covered knows same is less =
    record {
      covered = λ id here.
          let below : id < p.id = subst (λ (b : Option ℕ). IsKnown b id) is here in
          ap (last_of_id id) same ∙ knows.covered id (covered-less old.bound id p.id (omega arith) covered)
          ∙ ap with_bytes (sym (last-other id before p (λ (e : p.id ≡ id). absurd (omega arith))));
      within = subst (λ (b : Option ℕ). All (λ q. IsKnown b q.id) new.entries.items) (sym is) (subst (λ (l : List Placed). All (λ q. q.id < p.id) l) (sym same) less);
      rises = subst (λ (l : List Placed). Rises l) (sym same) knows.rises;
      few = (let many = knows.few in let long = ap length same in omega arith);
      known = known-push limit before p small knows.known;
    }

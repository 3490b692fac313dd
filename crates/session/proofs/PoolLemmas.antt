-- The first handler of a kind, taken out of the others.
use Rattle.std.proofs.Common.{◌≡◌, ℕ, zero, suc, ◌+◌, ◌<◌, ◌≤◌, ◌||◌, cond, Bool, true, false, Option, Some, None, List, [], ◌∷◌, ◌++◌, length, take, map, get_or, inl, inr, refl, sym, ap, subst, ◌∙◌, arith}
use Rattle.std.specs.Prelude.{option_map, All, Result, Ok, Err}
use Rattle.std.specs.List.{AllWithin, HoldsAt, list_any, remove}
use Rattle.std.specs.Option.{MatchOption}
use Rattle.std.specs.Str.{bytes_eq}
use Rattle.std.proofs.lemmas.Bool.{cases_Bool, cases_lt, false≢true}
use Rattle.std.proofs.lemmas.Option.{slice_get_read}
use Rattle.std.proofs.lemmas.List.{get_or-map, length-map, map-append, take_all}
use Rattle.std.proofs.lemmas.List.Edits.{length-remove, get_or-remove_below, get_or-remove_above}
use Rattle.std.proofs.lemmas.List.Folds.{list_any_more, list_any_at}
use Rattle.handlers.specs.Held.{HandlerState, fresh}
use Rattle.handlers.specs.Registry.{Registered, RegisterEnds, row_of, subtrees, nobody}
use Rattle.handlers.specs.declared.handler.HandlerKind.TheVariants.{Table, Counter, Level}
use Rattle.handlers.specs.declared.registry.RegisterFault.{RegisterFault}
use Rattle.handlers.specs.declared.registry.RegisterFault.TheVariants.{Exists, NoMemory}
use Rattle.handlers.specs.declared.registry.Row.{Row}
use Rattle.settings_core.specs.Laws.{StaysLawful}
use Rattle.settings_core.specs.Saving.{AreLawful}
use Rattle.handlers.specs.declared.handler.HandlerKind.{HandlerKind}
use Rattle.session_table.specs.Step.{same_kind, without_first}
use Rattle.session.specs.Handling.{FirstAt, TakesFirst}
use Rattle.session.specs.OnMap.{kinds, IsFresh}

-- no handler of the kind
pub without-none : (kind : HandlerKind) (kinds : List HandlerKind) → list_any (same_kind kind) kinds ≡ false → without_first kind kinds ≡ None
without-none kind [] none = refl
without-none kind (first ∷ rest) none = elim (cases_Bool (same_kind kind first)) [
  | inl same ↦ absurd (false≢true (sym none ∙ ap (λ (b : Bool). b || list_any (same_kind kind) rest) same))
  | inr other ↦
      ap (λ (b : Bool). cond b (Some rest) (option_map (λ others. first ∷ others) (without_first kind rest))) other
      ∙ ap (option_map (λ others. first ∷ others)) (without-none kind rest (sym (ap (λ (b : Bool). b || list_any (same_kind kind) rest) other) ∙ none))
]

-- the first one, at this place
pub without-at : (kind other : HandlerKind) (kinds : List HandlerKind) (i : ℕ) → i < length kinds → list_any (same_kind kind) (take i kinds) ≡ false → same_kind kind (get_or kinds i other) ≡ true
    → without_first kind kinds ≡ Some (remove kinds i)
without-at kind other [] i below none same = absurd (omega arith)
without-at kind other (first ∷ rest) zero below none same =
    ap (λ (b : Bool). cond b (Some rest) (option_map (λ others. first ∷ others) (without_first kind rest))) same
without-at kind other (first ∷ rest) (suc i) below none same = elim (cases_Bool (same_kind kind first)) [
  | inl is ↦ absurd (false≢true (sym none ∙ ap (λ (b : Bool). b || list_any (same_kind kind) (take i rest)) is))
  | inr not ↦
      ap (λ (b : Bool). cond b (Some rest) (option_map (λ others. first ∷ others) (without_first kind rest))) not
      ∙ ap (option_map (λ others. first ∷ others))
      (without-at kind other rest i (omega (arith, below)) (sym (ap (λ (b : Bool). b || list_any (same_kind kind) (take i rest)) not) ∙ none) same)
]

-- ---- the place of the first handler of a kind

module _ {B : Type 0} (kind-of : B → HandlerKind) (kind : HandlerKind) where
  none-before : (pool : List B) (i : ℕ) → ((k : ℕ) (other : B) → k < i → same_kind kind (kind-of (get_or pool k other)) ≡ false) → i ≤ length pool → list_any (same_kind kind) (take i (map kind-of pool)) ≡ false
  none-before [] zero none few = refl
  none-before [] (suc i) none few = refl
  none-before (first ∷ rest) zero none few = refl
  none-before (first ∷ rest) (suc i) none few =
      ap (λ (t : Bool). t || list_any (same_kind kind) (take i (map kind-of rest))) (none zero first (omega arith))
      ∙ none-before rest i (λ k other lt. none (suc k) other (omega (arith, lt))) (omega (arith, few))

  same-there : (pool : List B) (i : ℕ) → i < length pool → ((other : B) → same_kind kind (kind-of (get_or pool i other)) ≡ true) → same_kind kind (get_or (map kind-of pool) i kind) ≡ true
  same-there [] i lt same = absurd (omega arith)
  same-there (first ∷ rest) zero lt same = same first
  same-there (first ∷ rest) (suc i) lt same = same-there rest i (omega (arith, lt)) same

  pub first-placed : (pool : List B) (place : Option ℕ)
      → MatchOption place (AllWithin (λ b. same_kind kind (kind-of b) ≡ false) pool 0 (length pool))
      (λ i. (i < length pool) × HoldsAt (λ b. same_kind kind (kind-of b) ≡ true) pool i × AllWithin (λ b. same_kind kind (kind-of b) ≡ false) pool 0 i)
      → FirstAt kind (map kind-of pool) place
  first-placed pool None none =
      sym (ap (list_any (same_kind kind)) (take_all (length pool) (map kind-of pool) (omega (arith, length-map pool kind-of))))
      ∙ none-before pool (length pool) (λ k other lt. none k other (omega arith) lt) (omega arith)
  first-placed pool (Some i) (below, same, none) = (omega (arith, below, length-map pool kind-of), none-before pool i (λ k other lt. none k other (omega arith) lt) (omega (arith, below)), same-there pool i below same)

-- ---- a subtree that is registered, by a walk over the registry

module _ (subtree : List ℕ) (handlers : List Registered) (i : ℕ) (lt : i < length handlers) where
  own-there : bytes_eq subtree (get_or (subtrees handlers) i []) ≡ bytes_eq subtree (get_or handlers i nobody).subtree
  own-there = ap (bytes_eq subtree) (get_or-map (λ (h : Registered). h.subtree) handlers i nobody [] lt)

  inside : i < length (subtrees handlers)
  inside = omega (arith, lt, length-map handlers (λ (h : Registered). h.subtree))

  pub registered-here : bytes_eq subtree (get_or handlers i nobody).subtree ≡ true → list_any (bytes_eq subtree) (subtrees handlers) ≡ true
  registered-here is = list_any_at (bytes_eq subtree) (subtrees handlers) i [] inside (own-there ∙ is)

  pub registered-later : list_any (bytes_eq subtree) (take i (subtrees handlers)) ≡ false → bytes_eq subtree (get_or handlers i nobody).subtree ≡ false → list_any (bytes_eq subtree) (take (i + 1) (subtrees handlers)) ≡ false
  registered-later none other =
      list_any_more (bytes_eq subtree) (subtrees handlers) i [] inside ∙ ap (λ (t : Bool). t || bytes_eq subtree (get_or (subtrees handlers) i [])) none ∙ own-there ∙ other

pub registered-nowhere : (subtree : List ℕ) (handlers : List Registered) (i : ℕ) → length handlers ≤ i → list_any (bytes_eq subtree) (take i (subtrees handlers)) ≡ false → list_any (bytes_eq subtree) (subtrees handlers) ≡ false
registered-nowhere subtree handlers i past none =
    sym (ap (list_any (bytes_eq subtree)) (take_all i (subtrees handlers) (omega (arith, past, length-map handlers (λ (h : Registered). h.subtree))))) ∙ none

-- ---- taking it out

map-remove : {X Y : Type 0} (f : X → Y) (xs : List X) (i : ℕ) → map f (remove xs i) ≡ remove (map f xs) i
map-remove f [] zero = refl
map-remove f [] (suc i) = refl
map-remove f (x ∷ xs) zero = refl
map-remove f (x ∷ xs) (suc i) = ap (λ rest. f x ∷ rest) (map-remove f xs i)

kind-is : (kind other : HandlerKind) → same_kind kind other ≡ true → other ≡ kind
kind-is Table Table same = refl
kind-is Counter Counter same = refl
kind-is Level Level same = refl
kind-is Table Counter same = absurd (false≢true same)
kind-is Table Level same = absurd (false≢true same)
kind-is Counter Table same = absurd (false≢true same)
kind-is Counter Level same = absurd (false≢true same)
kind-is Level Table same = absurd (false≢true same)
kind-is Level Counter same = absurd (false≢true same)

all-left : {X : Type 0} (P : X → Type 0) (xs : List X) (i : ℕ) → i < length xs → All P xs → All P (remove xs i)
all-left P xs i lt all k d below = elim (cases_lt k i) [
  | inl before ↦ subst P (sym (get_or-remove_below xs i d k before lt)) (all k d (omega (arith, before, lt)))
  | inr behind ↦ subst P (sym (get_or-remove_above xs i d k behind lt)) (all (k + 1) d (let len = length-remove xs i lt in omega (arith, below, len)))
]

module _ {B : Type 0} (state : B → HandlerState) (kind : HandlerKind) (seen pool : List B) (same : seen ≡ pool) where
  pub takes-none : FirstAt kind (kinds state seen) None → (without_first kind (kinds state pool) ≡ None) × (pool ≡ pool)
  takes-none none = (without-none kind (kinds state pool) (subst (λ (xs : List B). FirstAt kind (kinds state xs) None) same none), refl)

module _ {B : Type 0} (state : B → HandlerState) (kind : HandlerKind) (seen pool left : List B) (same : seen ≡ pool) (i : ℕ) (b : B) (found : FirstAt kind (kinds state seen) (Some i)) (is : b ≡ get_or pool i b) (rest : left ≡ remove pool i) where
  first : FirstAt kind (kinds state pool) (Some i)
  first = subst (λ (xs : List B). FirstAt kind (kinds state xs) (Some i)) same found

  lt : i < length pool
  lt = let below = first.0 in omega (arith, below, length-map pool (λ (b : B). (state b).kind))

  pub takes-first : TakesFirst state kind pool left b
  takes-first = record {
    place = i;
    first = first;
    there = slice_get_read pool (length pool) i b refl lt is;
    left = rest;
    others =
        without-at kind kind (kinds state pool) i first.0 first.1 first.2
        ∙ ap (λ (ks : List HandlerKind). Some ks) (sym (map-remove (λ (b : B). (state b).kind) pool i) ∙ ap (kinds state) (sym rest));
    of_kind = kind-is kind (state b).kind (sym (ap (same_kind kind) (get_or-map (λ (b : B). (state b).kind) pool i b kind lt ∙ ap (λ (b : B). (state b).kind) (sym is))) ∙ first.2);
    new = λ all. (subst (IsFresh state) (sym is) (all i b lt), subst (λ (xs : List B). All (IsFresh state) xs) (sym rest) (all-left (IsFresh state) pool i lt all));
  }

-- ---- registering it

module _ {B : Type 0} (state : B → HandlerState) where
  pub any-row : (subtree : List ℕ) (rows : List (Row B)) → list_any (λ row. bytes_eq subtree row.subtree) rows ≡ list_any (bytes_eq subtree) (subtrees (map (row_of state) rows))
  any-row subtree [] = refl
  any-row subtree (row ∷ rows) = ap (λ (t : Bool). bytes_eq subtree row.subtree || t) (any-row subtree rows)

  pub register-lawful : (limit : ℕ) (before after : List (Row B)) (subtree : List ℕ) (handler : B) (kind : HandlerKind) (result : Result (Unit {0}) (RegisterFault × B)) → RegisterEnds before after subtree handler result → state handler ≡ fresh kind
      → AreLawful limit (map (row_of state) before) → StaysLawful limit (map (row_of state) before) → AreLawful limit (map (row_of state) after)
  register-lawful limit before after subtree handler kind (Ok x) ends new lawful stays =
      subst (AreLawful limit)
      (sym (ap (map (row_of state)) ends.1 ∙ map-append (row_of state) before (record { subtree = subtree; handler = handler } ∷ []) ∙ ap (λ (s : HandlerState). map (row_of state) before ++ record { subtree = subtree; state = s } ∷ []) new))
      (stays.registers subtree kind)
  register-lawful limit before after subtree handler kind (Err (Exists, back)) ends new lawful stays = subst (λ (rows : List (Row B)). AreLawful limit (map (row_of state) rows)) (sym ends.1) lawful
  register-lawful limit before after subtree handler kind (Err (NoMemory, back)) ends new lawful stays = subst (λ (rows : List (Row B)). AreLawful limit (map (row_of state) rows)) (sym ends.1) lawful

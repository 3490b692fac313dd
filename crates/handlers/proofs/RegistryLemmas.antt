-- One row of a registry.
use Rattle.std.proofs.Common.{◌≡◌, ℕ, zero, suc, ◌+◌, ◌<◌, ◌≤◌, Some, None, List, [], ◌∷◌, ◌++◌, Bool, true, false, ◌||◌, length, length-append, refl, sym, ap, subst, ◌∙◌, arith, map, get_or, set, below_more}
use Rattle.std.proofs.lemmas.List.{get_or-map, map-set, length-map, map-append, get_or_append_left, get_or_push}
use Rattle.std.proofs.lemmas.Slice.Eq.{bytes_eq-Decides}
use Rattle.std.proofs.Math.Seq.{map-set_same}
use Rattle.std.proofs.lemmas.Option.{slice_get-map, slice_get_read, slice_get_past}
use Rattle.std.specs.Prelude.{Result, option_map, slice_get}
use Rattle.std.specs.Str.{bytes_eq}
use Rattle.handlers.specs.declared.handler.SetRefusal.{SetRefusal}
use Rattle.handlers.specs.declared.registry.Row.{Row}
use Rattle.handlers.specs.Best.{AreDistinct}
use Rattle.handlers.specs.Held.{HandlerState, SetEnds, committed}
use Rattle.handlers.specs.Registry.{Registered, has_subtree, subtrees, row_of, with_state, state_at, nobody, SetsAt, commit_at}

module _ {B : Type 0} (state : B → HandlerState) where
  pub within_rows : (rows : List (Row B)) (i : ℕ) → i < length (map (row_of state) rows) → i < length rows
  within_rows rows i lt = omega (arith, length-map rows (row_of state))

  pub row_there : (rows : List (Row B)) (i : ℕ) (old : Row B) → i < length rows → old ≡ get_or rows i old → get_or (map (row_of state) rows) i nobody ≡ row_of state old
  row_there rows i old lt is = get_or-map (row_of state) rows i old nobody lt ∙ ap (row_of state) (sym is)

  -- the row at a place, and a place behind the last one
  pub row_found : (rows read : List (Row B)) (i : ℕ) (row : Row B) → read ≡ rows → i < length read → row ≡ get_or read i row → Some (row_of state row) ≡ slice_get (map (row_of state) rows) i
  row_found rows read i row same lt is =
      sym (ap (λ (l : List (Row B)). slice_get (map (row_of state) l) i) (sym same) ∙ slice_get-map (row_of state) read i ∙ ap (option_map (row_of state)) (slice_get_read read (length read) i row refl lt is))

  pub row_missing : (rows read : List (Row B)) (i : ℕ) → read ≡ rows → length read ≤ i → None ≡ slice_get (map (row_of state) rows) i
  row_missing rows read i same le =
      sym (ap (λ (l : List (Row B)). slice_get (map (row_of state) l) i) (sym same) ∙ slice_get-map (row_of state) read i ∙ ap (option_map (row_of state)) (slice_get_past read i le))

  pub state_there : (rows : List (Row B)) (i : ℕ) (old : Row B) → i < length rows → old ≡ get_or rows i old → state_at (map (row_of state) rows) i ≡ state old.handler
  state_there rows i old lt is = ap (λ r. r.state) (row_there rows i old lt is)

  pub row_changed : (rows : List (Row B)) (i : ℕ) (old new : Row B) → i < length rows → old ≡ get_or rows i old → new.subtree ≡ old.subtree
      → map (row_of state) (set rows i new) ≡ with_state (map (row_of state) rows) i (state new.handler)
  row_changed rows i old new lt is same =
      map-set (row_of state) rows i new
      ∙ ap (set (map (row_of state) rows) i) (ap (λ s. record { subtree = s; state = state new.handler }) (same ∙ sym (ap (λ r. r.subtree) (row_there rows i old lt is))))

  pub row_set : (rows : List (Row B)) (i : ℕ) (old new : Row B) (rest value : List ℕ) (result : Result (Unit {0}) SetRefusal) → i < length rows → old ≡ get_or rows i old → new.subtree ≡ old.subtree
      → SetEnds (state old.handler) (state new.handler) rest value result → SetsAt (map (row_of state) rows) (map (row_of state) (set rows i new)) i rest value result
  row_set rows i old new rest value result lt is same ends =
      (state new.handler, row_changed rows i old new lt is same, subst (λ h. SetEnds h (state new.handler) rest value result) (sym (state_there rows i old lt is)) ends)

  pub row_committed : (rows : List (Row B)) (i : ℕ) (old new : Row B) → i < length rows → old ≡ get_or rows i old → new.subtree ≡ old.subtree
      → state new.handler ≡ committed (state old.handler) → map (row_of state) (set rows i new) ≡ commit_at (map (row_of state) rows) i
  row_committed rows i old new lt is same ends =
      row_changed rows i old new lt is same ∙ ap (with_state (map (row_of state) rows) i) (ends ∙ ap committed (sym (state_there rows i old lt is)))

  pub subtrees_rows : (rows : List (Row B)) → subtrees (map (row_of state) rows) ≡ map (λ row. row.subtree) rows
  subtrees_rows [] = refl
  subtrees_rows (row ∷ rows) = ap (λ s. row.subtree ∷ s) (subtrees_rows rows)

-- ---- distinct subtrees

pub subtrees_kept : (handlers : List Registered) (place : ℕ) (state : HandlerState) → subtrees (with_state handlers place state) ≡ subtrees handlers
subtrees_kept handlers place state = map-set_same (λ (h : Registered). h.subtree) handlers place (record (get_or handlers place nobody) { state = state }) nobody refl

-- one that stands nowhere among them, behind them
distinct_more : (subtrees : List (List ℕ)) (subtree : List ℕ) → AreDistinct subtrees → ((k : ℕ) → k < length subtrees → get_or subtrees k [] ≡ subtree → ⊥) → AreDistinct (subtrees ++ subtree ∷ [])
distinct_more subtrees subtree distinct apart i j lt lt' same =
    below_more (λ n. (m : ℕ) → m < length subtrees + 1 → get_or (subtrees ++ subtree ∷ []) n [] ≡ get_or (subtrees ++ subtree ∷ []) m [] → n ≡ m) (length subtrees)
    (λ n below. below_more (λ m. get_or (subtrees ++ subtree ∷ []) n [] ≡ get_or (subtrees ++ subtree ∷ []) m [] → n ≡ m) (length subtrees)
    (λ m below' e. distinct n m below below' (sym (old n below) ∙ e ∙ old m below'))
    (λ e. absurd (apart n below (sym (old n below) ∙ e ∙ last))))
    (below_more (λ m. get_or (subtrees ++ subtree ∷ []) (length subtrees) [] ≡ get_or (subtrees ++ subtree ∷ []) m [] → length subtrees ≡ m) (length subtrees)
    (λ m below e. absurd (apart m below (sym (old m below) ∙ sym e ∙ last)))
    (λ e. refl))
    i (omega (arith, length-append subtrees (subtree ∷ []))) j (omega (arith, length-append subtrees (subtree ∷ []))) same
  where
    old : (n : ℕ) → n < length subtrees → get_or (subtrees ++ subtree ∷ []) n [] ≡ get_or subtrees n []
    old n below = get_or_append_left subtrees (subtree ∷ []) [] n below

    last : get_or (subtrees ++ subtree ∷ []) (length subtrees) [] ≡ subtree
    last = get_or_push subtrees subtree [] (length subtrees) refl

first_false : (a b : Bool) → (a || b) ≡ false → a ≡ false
first_false true b is = absurd (cc)
first_false false b is = refl

second_false : (a b : Bool) → (a || b) ≡ false → b ≡ false
second_false true b is = absurd (cc)
second_false false b is = is

module _ {B : Type 0} where
  absent : (rows : List (Row B)) (subtree : List ℕ) → has_subtree rows subtree ≡ false → (k : ℕ) → k < length (map (λ (row : Row B). row.subtree) rows) → get_or (map (λ (row : Row B). row.subtree) rows) k [] ≡ subtree → ⊥
  absent [] subtree none k lt same = omega arith
  absent (row ∷ rows) subtree none zero lt same =
      let is : bytes_eq subtree row.subtree ≡ true = (bytes_eq-Decides subtree row.subtree).1 (sym same) in
      let isnt : bytes_eq subtree row.subtree ≡ false = first_false _ (has_subtree rows subtree) none in
      let both : true ≡ false = sym is ∙ isnt in
      cc
  absent (row ∷ rows) subtree none (suc k) lt same = absent rows subtree (second_false (bytes_eq subtree row.subtree) _ none) k (omega arith) same

  pub distinct_pushed : (rows : List (Row B)) (subtree : List ℕ) (handler : B) → has_subtree rows subtree ≡ false
      → AreDistinct (map (λ (row : Row B). row.subtree) rows) → AreDistinct (map (λ (row : Row B). row.subtree) (rows ++ record { subtree = subtree; handler = handler } ∷ []))
  distinct_pushed rows subtree handler none distinct =
      subst AreDistinct (sym (map-append (λ (row : Row B). row.subtree) rows (record { subtree = subtree; handler = handler } ∷ [])))
      (distinct_more (map (λ (row : Row B). row.subtree) rows) subtree distinct (absent rows subtree none))

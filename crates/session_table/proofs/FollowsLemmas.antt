-- Lines one after another.
use Rattle.std.proofs.Common.{◌≡◌, ℕ, ◌+◌, List, [], ◌∷◌, ◌++◌, length, refl, sym, ap, subst, arith}
use Rattle.std.specs.Prelude.{sum_by}
use Rattle.std.proofs.lemmas.List.Sums.{sum_by-cons}
use Rattle.session_table.specs.Follows.{Follows}

module _ {Line Answer State : Type 0} (step : Line → Answer → State → State → Type 0) where
  -- a line alone
  pub one : (line : Line) (answer : Answer) (old new : State) → step line answer old new → Follows step (line ∷ []) (answer ∷ []) old new
  one line answer old new is = (new, is, refl)

  -- two runs, one after the other
  pub then : (lines more : List Line) (answers others : List Answer) (old mid new : State) → Follows step lines answers old mid → Follows step more others mid new
      → Follows step (lines ++ more) (answers ++ others) old new
  then [] more [] others old mid new same rest = subst (λ (s : State). Follows step more others s new) same rest
  then [] more (answer ∷ answers) others old mid new none rest = absurd none
  then (line ∷ lines) more [] others old mid new none rest = absurd none
  then (line ∷ lines) more (answer ∷ answers) others old mid new runs rest = (runs.0, runs.1, then lines more answers others runs.0 mid new runs.2 rest)

  -- one line more in front
  pub first : (line : Line) (answer : Answer) (lines : List Line) (answers : List Answer) (old mid new : State) → step line answer old mid → Follows step lines answers mid new
      → Follows step (line ∷ lines) (answer ∷ answers) old new
  first line answer lines answers old mid new is runs = (mid, is, runs)

  -- and behind
  pub last : (lines : List Line) (line : Line) (answers : List Answer) (answer : Answer) (old mid new : State) → Follows step lines answers old mid → step line answer mid new
      → Follows step (lines ++ line ∷ []) (answers ++ answer ∷ []) old new
  last lines line answers answer old mid new runs is = then lines (line ∷ []) answers (answer ∷ []) old mid new runs (one line answer mid new is)

  -- a run of some lines and others behind them is two runs
  pub split : (lines more : List Line) (answers : List Answer) (old new : State) → Follows step (lines ++ more) answers old new
      → (prefix back : List Answer) × (mid : State) × (answers ≡ prefix ++ back) × Follows step lines prefix old mid × Follows step more back mid new
  split [] more answers old new runs = ([], answers, old, refl, refl, runs)
  split (line ∷ lines) more [] old new none = absurd none
  split (line ∷ lines) more (answer ∷ answers) old new runs =
      let parts = split lines more answers runs.0 new runs.2 in
      (answer ∷ parts.0, parts.1, parts.2, ap (λ (rest : List Answer). answer ∷ rest) parts.3, (runs.0, runs.1, parts.4), parts.5)

  -- one answer a line
  pub as_many : (lines : List Line) (answers : List Answer) (old new : State) → Follows step lines answers old new → length lines ≡ length answers
  as_many [] [] old new same = refl
  as_many [] (answer ∷ answers) old new none = absurd none
  as_many (line ∷ lines) [] old new none = absurd none
  as_many (line ∷ lines) (answer ∷ answers) old new runs = let rest = as_many lines answers runs.0 new runs.2 in omega (arith, rest)

  -- what holds of each step and is kept from one to the next holds of the run
  pub kept : (Keeps : State → State → Type 0) → ((s : State) → Keeps s s) → ((a b c : State) → Keeps a b → Keeps b c → Keeps a c)
      → ((line : Line) (answer : Answer) (old new : State) → step line answer old new → Keeps old new)
      → (lines : List Line) (answers : List Answer) (old new : State) → Follows step lines answers old new → Keeps old new
  kept Keeps same both each [] [] old new is = subst (λ (s : State). Keeps old s) (sym is) (same old)
  kept Keeps same both each [] (answer ∷ answers) old new none = absurd none
  kept Keeps same both each (line ∷ lines) [] old new none = absurd none
  kept Keeps same both each (line ∷ lines) (answer ∷ answers) old new runs =
      both old runs.0 new (each line answer old runs.0 runs.1) (kept Keeps same both each lines answers runs.0 new runs.2)

  -- a count that each step raises by what its answer reports
  pub summed : (count : State → ℕ) (of : Answer → ℕ) → ((line : Line) (answer : Answer) (old new : State) → step line answer old new → count old + of answer ≡ count new)
      → (lines : List Line) (answers : List Answer) (old new : State) → Follows step lines answers old new → count old + sum_by of answers ≡ count new
  summed count of each [] [] old new same = let e : count new ≡ count old = ap count same in omega (arith, e)
  summed count of each [] (answer ∷ answers) old new none = absurd none
  summed count of each (line ∷ lines) [] old new none = absurd none
  summed count of each (line ∷ lines) (answer ∷ answers) old new runs =
      let head = each line answer old runs.0 runs.1 in
      let tail = summed count of each lines answers runs.0 new runs.2 in
      let both = sum_by-cons of answer answers in
      omega (arith, head, tail, both)

-- A run seen as one of other states: each step is a step there.
module _ {Line Answer State View : Type 0} (step : Line → Answer → State → State → Type 0) (other : Line → Answer → View → View → Type 0) (view : State → View) where
  pub seen : ((line : Line) (answer : Answer) (old new : State) → step line answer old new → other line answer (view old) (view new))
      → (lines : List Line) (answers : List Answer) (old new : State) → Follows step lines answers old new → Follows other lines answers (view old) (view new)
  seen each [] [] old new same = ap view same
  seen each [] (answer ∷ answers) old new none = absurd none
  seen each (line ∷ lines) [] old new none = absurd none
  seen each (line ∷ lines) (answer ∷ answers) old new runs = (view runs.0, each line answer old runs.0 runs.1, seen each lines answers runs.0 new runs.2)

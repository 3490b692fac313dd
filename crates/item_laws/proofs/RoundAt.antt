-- The round to the open sector, split at a place.
use Rattle.std.proofs.Common.{◌≡◌, ℕ, ◌+◌, ◌-◌, ◌<◌, ◌≤◌, Bool, cond, List, [], ◌∷◌, ◌++◌, sym, ap, subst, ◌∙◌, inl, inr, append_assoc, arith}
use Rattle.std.specs.List.{flat_map, range_with_len, All}
use Rattle.std.proofs.lemmas.Bool.{cases_lt, lt-ltb, le-ltb}
use Rattle.std.proofs.lemmas.List.Concat.{flat_map-append}
use Rattle.std.proofs.lemmas.List.Elements.{All-append}
use Rattle.item_laws.specs.Area.{round}
use Rattle.item_laws.specs.RoundParts.{places_before, places_after}
use Rattle.item_laws.proofs.Places.{All-range, range-append, range_from, range_at}

-- what stands at a place, with what is before and behind it
pub record IsAt (count current place : ℕ) : Type 0 where
  pub split : round count current ≡ places_before count current place ++ place ∷ places_after count current place
  pub before : All (λ k. k ≡ place → ⊥) (places_before count current place)
  pub behind : All (λ k. k ≡ place → ⊥) (places_after count current place)

pub round-at : (count current place : ℕ) → current < count → place < count → IsAt count current place
round-at count current place low high =
    elim (cases_lt current place) [
      | inl lt ↦
          let test = lt-ltb current place lt in
          let prefix : List ℕ = range_with_len (current + 1) (place - (current + 1)) in
          let back : List ℕ = range_with_len (place + 1) (count - (place + 1)) in
          let is_before : places_before count current place ≡ range_with_len (current + 1) (place - (current + 1)) = ap (λ (t : Bool). cond t (range_with_len (current + 1) (place - (current + 1))) (range_with_len (current + 1) (count - (current + 1)) ++ range_with_len 0 place)) test in
          let is_behind : places_after count current place ≡ range_with_len (place + 1) (count - (place + 1)) ++ range_with_len 0 (current + 1) = ap (λ (t : Bool). cond t (range_with_len (place + 1) (count - (place + 1)) ++ range_with_len 0 (current + 1)) (range_with_len (place + 1) (current - place))) test in
          let width : count - (current + 1) ≡ place - (current + 1) + (count - place) = omega arith in
          let at : current + 1 + (place - (current + 1)) ≡ place = omega arith in
          let less : count - place - 1 ≡ count - (place + 1) = omega arith in
          let upper : range_with_len (current + 1) (count - (current + 1)) ≡ prefix ++ place ∷ back =
          ap (range_with_len (current + 1)) width ∙ range-append (current + 1) (place - (current + 1)) (count - place)
          ∙ ap (λ (k : ℕ). range_with_len (current + 1) (place - (current + 1)) ++ range_with_len k (count - place)) at
          ∙ ap (λ (ks : List ℕ). range_with_len (current + 1) (place - (current + 1)) ++ ks) (range_from place (count - place) (omega arith) ∙ ap (λ (n : ℕ). place ∷ range_with_len (place + 1) n) less) in
          record {
            split = ap (λ (ks : List ℕ). ks ++ range_with_len 0 (current + 1)) upper ∙ append_assoc prefix (place ∷ back) (range_with_len 0 (current + 1))
                ∙ ap (λ (ks : List ℕ). ks ++ place ∷ (back ++ range_with_len 0 (current + 1))) (sym is_before) ∙ ap (λ (ks : List ℕ). places_before count current place ++ place ∷ ks) (sym is_behind);
            before = subst (All (λ k. k ≡ place → ⊥)) (sym is_before) (All-range (λ k. k ≡ place → ⊥) (current + 1) (place - (current + 1)) (λ k ge less e. omega arith));
            behind = subst (All (λ k. k ≡ place → ⊥)) (sym is_behind)
                (All-append (λ k. k ≡ place → ⊥) back (range_with_len 0 (current + 1)) (All-range (λ k. k ≡ place → ⊥) (place + 1) (count - (place + 1)) (λ k ge less e. omega arith)) (All-range (λ k. k ≡ place → ⊥) 0 (current + 1) (λ k ge less e. omega arith)));
          }
      | inr ge ↦
          let test = le-ltb current place ge in
          let prefix : List ℕ = range_with_len (current + 1) (count - (current + 1)) in
          let is_before : places_before count current place ≡ range_with_len (current + 1) (count - (current + 1)) ++ range_with_len 0 place = ap (λ (t : Bool). cond t (range_with_len (current + 1) (place - (current + 1))) (range_with_len (current + 1) (count - (current + 1)) ++ range_with_len 0 place)) test in
          let is_behind : places_after count current place ≡ range_with_len (place + 1) (current - place) = ap (λ (t : Bool). cond t (range_with_len (place + 1) (count - (place + 1)) ++ range_with_len 0 (current + 1)) (range_with_len (place + 1) (current - place))) test in
          let less : current + 1 - place - 1 ≡ current - place = omega arith in
          let lower : range_with_len 0 (current + 1) ≡ range_with_len 0 place ++ place ∷ range_with_len (place + 1) (current - place) =
          range_at place (current + 1) (omega arith) ∙ ap (λ (n : ℕ). range_with_len 0 place ++ place ∷ range_with_len (place + 1) n) less in
          record {
            split = ap (λ (ks : List ℕ). prefix ++ ks) lower ∙ sym (append_assoc prefix (range_with_len 0 place) (place ∷ range_with_len (place + 1) (current - place)))
                ∙ ap (λ (ks : List ℕ). ks ++ place ∷ range_with_len (place + 1) (current - place)) (sym is_before) ∙ ap (λ (ks : List ℕ). places_before count current place ++ place ∷ ks) (sym is_behind);
            before = subst (All (λ k. k ≡ place → ⊥)) (sym is_before)
                (All-append (λ k. k ≡ place → ⊥) prefix (range_with_len 0 place) (All-range (λ k. k ≡ place → ⊥) (current + 1) (count - (current + 1)) (λ k low less e. omega arith)) (All-range (λ k. k ≡ place → ⊥) 0 place (λ k low less e. omega arith)));
            behind = subst (All (λ k. k ≡ place → ⊥)) (sym is_behind) (All-range (λ k. k ≡ place → ⊥) (place + 1) (current - place) (λ k low less e. omega arith));
          }
    ]

-- nothing is behind the open sector
pub none_behind : (count current : ℕ) → places_after count current current ≡ []
none_behind count current =
    let none : current - current ≡ 0 = omega arith in
    ap (λ (t : Bool). cond t (range_with_len (current + 1) (count - (current + 1)) ++ range_with_len 0 (current + 1)) (range_with_len (current + 1) (current - current))) (le-ltb current current (omega arith))
    ∙ ap (range_with_len (current + 1)) none

-- what stands before a place that is not above the open one, from both sides of the end
pub before-round : {X : Type 0} (row : ℕ → List X) (count current place : ℕ) → place ≤ current
    → flat_map row (range_with_len (current + 1) (count - (current + 1))) ++ flat_map row (range_with_len 0 (place - 0)) ≡ flat_map row (places_before count current place)
before-round row count current place le =
    let whole : place - 0 ≡ place = omega arith in
    ap (λ (n : ℕ). flat_map row (range_with_len (current + 1) (count - (current + 1))) ++ flat_map row (range_with_len 0 n)) whole
    ∙ sym (ap (λ (t : Bool). flat_map row (cond t (range_with_len (current + 1) (place - (current + 1))) (range_with_len (current + 1) (count - (current + 1)) ++ range_with_len 0 place))) (le-ltb current place le)
    ∙ flat_map-append row (range_with_len (current + 1) (count - (current + 1))) (range_with_len 0 place))

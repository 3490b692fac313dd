-- What all live pairs cost stays in a round.
use Rattle.std.proofs.Common.{◌≡◌, ℕ, ◌+◌, ◌≤◌, Bool, cond, eqb, ◌||◌, List, [], ◌∷◌, ◌++◌, length, refl, sym, ap, ◌∙◌, inl, inr, append_assoc, arith}
use Rattle.std.proofs.lemmas.Bool.{cases_Bool, cond-true, cond-false, or_parts}
use Rattle.std.proofs.lemmas.List.{append-nil}
use Rattle.std.proofs.lemmas.List.Sums.{sum_by-cons, sum_by-append}
use Rattle.item_laws.specs.LivePairs.{names, live_pairs}
use Rattle.item_laws.specs.PairRounds.{copies_cost, stored_cost, joined, live_cost, collect_oldest}
use Rattle.item_laws.proofs.LivePairs.{names-append}
use Rattle.item_laws.proofs.NoRoom.{joined-push}
use Rattle.item_laws.proofs.RoundLemmas.{AreIgnored, live-all, live-same, ignored}

pub live-split : (prefix back tail : List (ℕ × List ℕ)) → live_pairs (prefix ++ back) tail ≡ live_pairs prefix (back ++ tail) ++ live_pairs back tail
unfolding live_pairs
live-split [] back tail = refl
live-split (pair ∷ rest) back tail =
    let ih = live-split rest back tail in
    let kept = names pair.0 (rest ++ (back ++ tail)) || (eqb (length pair.1) 0) in
    let same : (names pair.0 ((rest ++ back) ++ tail) || (eqb (length pair.1) 0)) ≡ (names pair.0 (rest ++ (back ++ tail)) || (eqb (length pair.1) 0)) = ap (λ (ps : List (ℕ × List ℕ)). names pair.0 ps || (eqb (length pair.1) 0)) (append_assoc rest back tail) in
    ap (λ (t : Bool). cond t (live_pairs (rest ++ back) tail) (pair ∷ live_pairs (rest ++ back) tail)) same
    ∙ elim (cases_Bool (names pair.0 (rest ++ (back ++ tail)) || (eqb (length pair.1) 0))) [
      | inl skip ↦
          ap (λ (t : Bool). cond t (live_pairs (rest ++ back) tail) (pair ∷ live_pairs (rest ++ back) tail)) skip ∙ ih
          ∙ sym (ap (λ (t : Bool). cond t (live_pairs rest (back ++ tail)) (pair ∷ live_pairs rest (back ++ tail)) ++ live_pairs back tail) skip)
      | inr live ↦
          ap (λ (t : Bool). cond t (live_pairs (rest ++ back) tail) (pair ∷ live_pairs (rest ++ back) tail)) live ∙ ap (λ ps. pair ∷ ps) ih
          ∙ sym (ap (λ (t : Bool). cond t (live_pairs rest (back ++ tail)) (pair ∷ live_pairs rest (back ++ tail)) ++ live_pairs back tail) live)
    ]

live-ignores : (xs extra : List (ℕ × List ℕ)) → AreIgnored xs extra → live_pairs xs extra ≡ live_pairs xs []
unfolding live_pairs AreIgnored
live-ignores [] extra h = refl
live-ignores (pair ∷ rest) extra (apart, more) =
    let same : names pair.0 (rest ++ extra) ≡ names pair.0 (rest ++ []) = names-append pair.0 rest extra ∙ ap (λ (t : Bool). names pair.0 rest || t) apart ∙ sym (names-append pair.0 rest []) in
    ap (λ (t : Bool). cond (t || (eqb (length pair.1) 0)) (live_pairs rest extra) (pair ∷ live_pairs rest extra)) same
    ∙ ap (λ ps. cond (names pair.0 (rest ++ []) || (eqb (length pair.1) 0)) ps (pair ∷ ps)) (live-ignores rest extra more)

live-round : (price : ℕ → ℕ) (victim others : List (ℕ × List ℕ)) → live_cost price (others ++ live_pairs victim others) ≡ live_cost price (victim ++ others)
live-round price victim others =
    let copies = live_pairs victim others in
    let new : live_pairs (others ++ live_pairs victim others) [] ≡ live_pairs others [] ++ live_pairs victim others =
    live-split others (live_pairs victim others) [] ∙ ap (λ ps. live_pairs others ps ++ live_pairs (live_pairs victim others) []) (append-nil (live_pairs victim others))
    ∙ ap (λ ps. ps ++ live_pairs (live_pairs victim others) []) (live-ignores others (live_pairs victim others) (ignored [] others victim))
    ∙ ap (λ ps. live_pairs others [] ++ ps) (live-same (live_pairs victim others) (live-all victim others)) in
    let old : live_pairs (victim ++ others) [] ≡ live_pairs victim others ++ live_pairs others [] = live-split victim others [] ∙ ap (λ ps. live_pairs victim ps ++ live_pairs others []) (append-nil others) in
    let a : live_cost price (others ++ live_pairs victim others) ≡ copies_cost price (live_pairs others []) + copies_cost price (live_pairs victim others) =
    ap (copies_cost price) new ∙ sum_by-append (λ (p : ℕ × List ℕ). price (length p.1)) (live_pairs others []) (live_pairs victim others) in
    let b : live_cost price (victim ++ others) ≡ copies_cost price (live_pairs victim others) + copies_cost price (live_pairs others []) =
    ap (copies_cost price) old ∙ sum_by-append (λ (p : ℕ × List ℕ). price (length p.1)) (live_pairs victim others) (live_pairs others []) in
    omega arith

pub live-collect : (price : ℕ → ℕ) (parts : List (List (ℕ × List ℕ))) → live_cost price (joined (collect_oldest parts)) ≡ live_cost price (joined parts)
unfolding collect_oldest
live-collect price [] = refl
live-collect price (victim ∷ others) = ap (live_cost price) (joined-push others (live_pairs victim (joined others))) ∙ live-round price victim (joined others)

-- ---- the live pairs of a sector cost at most what its pairs with bytes do

pub live-le : (price : ℕ → ℕ) (victim others : List (ℕ × List ℕ)) → copies_cost price (live_pairs victim others) ≤ stored_cost price victim
unfolding live_pairs
live-le price [] others = omega arith
live-le price (pair ∷ tail) others =
    let ih = live-le price tail others in
    let all = sum_by-cons (λ (p : ℕ × List ℕ). cond (eqb (length p.1) 0) 0 (price (length p.1))) pair tail in
    elim (cases_Bool (names pair.0 (tail ++ others) || (eqb (length pair.1) 0))) [
      | inl skip ↦
          let here : live_pairs (pair ∷ tail) others ≡ live_pairs tail others = cond-true (names pair.0 (tail ++ others) || (eqb (length pair.1) 0)) (live_pairs tail others) (pair ∷ live_pairs tail others) skip in
          let e = ap (copies_cost price) here in
          omega arith
      | inr kept ↦
          let parts = or_parts (names pair.0 (tail ++ others)) (eqb (length pair.1) 0) kept in
          let here : live_pairs (pair ∷ tail) others ≡ pair ∷ live_pairs tail others = cond-false (names pair.0 (tail ++ others) || (eqb (length pair.1) 0)) (live_pairs tail others) (pair ∷ live_pairs tail others) kept in
          let e : copies_cost price (live_pairs (pair ∷ tail) others) ≡ price (length pair.1) + copies_cost price (live_pairs tail others) = ap (copies_cost price) here ∙ sum_by-cons (λ (p : ℕ × List ℕ). price (length p.1)) pair (live_pairs tail others) in
          let one : cond (eqb (length pair.1) 0) 0 (price (length pair.1)) ≡ price (length pair.1) = cond-false (eqb (length pair.1) 0) 0 (price (length pair.1)) parts.1 in
          omega arith
    ]

pub stored-le : (price : ℕ → ℕ) (pairs : List (ℕ × List ℕ)) → stored_cost price pairs ≤ copies_cost price pairs
stored-le price [] = omega arith
stored-le price (pair ∷ tail) =
    let ih = stored-le price tail in
    let all = sum_by-cons (λ (p : ℕ × List ℕ). cond (eqb (length p.1) 0) 0 (price (length p.1))) pair tail in
    let copies = sum_by-cons (λ (p : ℕ × List ℕ). price (length p.1)) pair tail in
    elim (cases_Bool (eqb (length pair.1) 0)) [
      | inl none ↦ let one : cond (eqb (length pair.1) 0) 0 (price (length pair.1)) ≡ 0 = cond-true (eqb (length pair.1) 0) 0 (price (length pair.1)) none in omega arith
      | inr some ↦ let one : cond (eqb (length pair.1) 0) 0 (price (length pair.1)) ≡ price (length pair.1) = cond-false (eqb (length pair.1) 0) 0 (price (length pair.1)) some in omega arith
    ]

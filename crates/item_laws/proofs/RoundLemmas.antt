-- Which pairs are live, and stay so when others are put behind them.
use Rattle.std.proofs.Common.{◌≡◌, ℕ, true, false, eqb, ◌||◌, List, [], ◌∷◌, ◌++◌, length, refl, sym, ap, subst, ◌∙◌, inl, inr, append_assoc}
use Rattle.std.proofs.lemmas.Bool.{cases_Bool, eq-eqb, or_parts, or_from, or_left, or_right, cond-true, cond-false}
use Rattle.std.proofs.lemmas.List.{append-nil}
use Rattle.std.proofs.lemmas.List.Sums.{sum_by-append}
use Rattle.item_laws.specs.LivePairs.{names, live_pairs}
use Rattle.item_laws.specs.PairRounds.{copies_cost}
use Rattle.item_laws.proofs.NoRoom.{AreRounds}
use Rattle.item_laws.proofs.LivePairs.{names-append, live-absent, live-ignored}

-- each pair is the last of its id and has bytes
pub AllLive : List (ℕ × List ℕ) → Type 0
AllLive [] = Unit {0}
AllLive (pair ∷ rest) = (names pair.0 rest ≡ false) × (eqb (length pair.1) 0 ≡ false) × AllLive rest

pub live-all : (victim others : List (ℕ × List ℕ)) → AllLive (live_pairs victim others)
unfolding live_pairs AllLive
live-all [] others = tt
live-all (pair ∷ rest) others =
    elim (cases_Bool (names pair.0 (rest ++ others) || (eqb (length pair.1) 0))) [
      | inl skip ↦ subst AllLive (sym (cond-true (names pair.0 (rest ++ others) || (eqb (length pair.1) 0)) (live_pairs rest others) (pair ∷ live_pairs rest others) skip)) (live-all rest others)
      | inr kept ↦
          let parts = or_parts (names pair.0 (rest ++ others)) (eqb (length pair.1) 0) kept in
          let apart = or_parts (names pair.0 rest) (names pair.0 others) (sym (names-append pair.0 rest others) ∙ parts.0) in
          subst AllLive (sym (cond-false (names pair.0 (rest ++ others) || (eqb (length pair.1) 0)) (live_pairs rest others) (pair ∷ live_pairs rest others) kept))
          (live-absent pair.0 rest others apart.0, parts.1, live-all rest others)
    ]

-- where all are live, the live ones are all
pub live-same : (xs : List (ℕ × List ℕ)) → AllLive xs → live_pairs xs [] ≡ xs
unfolding live_pairs AllLive
live-same [] h = refl
live-same (pair ∷ rest) (unnamed, bytes, later) =
    cond-false (names pair.0 (rest ++ []) || (eqb (length pair.1) 0)) (live_pairs rest []) (pair ∷ live_pairs rest [])
    (or_from (names pair.0 (rest ++ [])) (eqb (length pair.1) 0) (ap (names pair.0) (append-nil rest) ∙ unnamed) bytes) ∙ ap (λ ys. pair ∷ ys) (live-same rest later)

-- each id of the first list is hidden from the second
unfoldable pub AreIgnored : List (ℕ × List ℕ) → List (ℕ × List ℕ) → Type 0
AreIgnored [] ys = Unit {0}
AreIgnored (pair ∷ rest) ys = (names pair.0 ys ≡ false) × AreIgnored rest ys

all-append : (xs ys : List (ℕ × List ℕ)) → AllLive xs → AllLive ys → AreIgnored xs ys → AllLive (xs ++ ys)
unfolding AllLive AreIgnored
all-append [] ys a b h = b
all-append (pair ∷ rest) ys (unnamed, bytes, later) b (ignored, more) = (names-append pair.0 rest ys ∙ or_from (names pair.0 rest) (names pair.0 ys) unnamed ignored, bytes, all-append rest ys later b more)

pub ignored : (prefix xs : List (ℕ × List ℕ)) (victim : List (ℕ × List ℕ)) → AreIgnored xs (live_pairs victim (prefix ++ xs))
unfolding AreIgnored
ignored prefix [] victim = tt
ignored prefix (pair ∷ rest) victim =
    let here : names pair.0 (prefix ++ pair ∷ rest) ≡ true =
    names-append pair.0 prefix (pair ∷ rest) ∙ or_right (names pair.0 prefix) (names pair.0 (pair ∷ rest)) (or_left (eqb pair.0 pair.0) (names pair.0 rest) (eq-eqb pair.0 pair.0 refl)) in
    let shift : (prefix ++ pair ∷ []) ++ rest ≡ prefix ++ pair ∷ rest = append_assoc prefix (pair ∷ []) rest in
    (live-ignored pair.0 victim (prefix ++ pair ∷ rest) here, subst (λ others. AreIgnored rest (live_pairs victim others)) shift (ignored (prefix ++ pair ∷ []) rest victim))

-- what is live of a part stays so behind other live pairs, and hides none of them
pub live-again : (victim prefix back : List (ℕ × List ℕ)) → live_pairs back [] ≡ back → live_pairs (back ++ live_pairs victim (prefix ++ back)) [] ≡ back ++ live_pairs victim (prefix ++ back)
live-again victim prefix back live =
    live-same (back ++ live_pairs victim (prefix ++ back)) (all-append back (live_pairs victim (prefix ++ back)) (subst AllLive live (live-all back [])) (live-all victim (prefix ++ back)) (ignored prefix back victim))

live-empty : live_pairs [] [] ≡ []
unfolding live_pairs
live-empty = refl

-- so rounds of collections are rounds of pairs
pub are_rounds : (price : ℕ → ℕ) → AreRounds live_pairs (copies_cost price)
are_rounds price = record { none = live-empty; again = live-again; sums = sum_by-append (λ (pair : ℕ × List ℕ). price (length pair.1)) }

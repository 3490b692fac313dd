-- What all items cost, from the newest sector to the oldest.
use Rattle.std.proofs.Common.{◌≡◌, ◌≢◌, ℕ, ◌+◌, ◌-◌, ◌<◌, ◌≤◌, Bool, cond, eqb, ltb, List, [], ◌∷◌, ◌++◌, length, sym, ap, ◌∙◌, inl, inr, arith}
use Rattle.std.specs.Prelude.{sum_by}
use Rattle.std.specs.List.{flat_map, range_with_len}
use Rattle.std.proofs.lemmas.Bool.{cases_eq, cases_lt, le-ltb, lt-ltb, cond-true, cond-false, eq-eqb, ne_eqb}
use Rattle.std.proofs.lemmas.List.Concat.{flat_map-cons}
use Rattle.std.proofs.lemmas.List.Sums.{sum_by-append, sum_by-cons}
use Rattle.flash_map.specs.Area.{sector_at}
use Rattle.item_laws.specs.PairRounds.{copies_cost}
use Rattle.item_laws.specs.Area.{round}
use Rattle.item_laws.specs.Live.{counted_in, live_to}
use Rattle.item_laws.specs.RoundParts.{places_before, places_after}
use Rattle.item_laws.proofs.Places.{after, before, after-last, after-inner, range-append, range_from}
use Rattle.item_laws.proofs.RoundAt.{round-at, none_behind}
use Rattle.item_store.specs.SectorFormat.{SectorFormat, slots}
use Rattle.item_store.specs.Seen.{behind}

-- ---- places

pub far : (count current place : ℕ) → current < place → places_after count current place ≡ range_with_len (place + 1) (count - (place + 1)) ++ range_with_len 0 (current + 1)
far count current place lt = ap (λ (t : Bool). cond t (range_with_len (place + 1) (count - (place + 1)) ++ range_with_len 0 (current + 1)) (range_with_len (place + 1) (current - place))) (lt-ltb current place lt)

pub near : (count current place : ℕ) → place ≤ current → places_after count current place ≡ range_with_len (place + 1) (current - place)
near count current place le = ap (λ (t : Bool). cond t (range_with_len (place + 1) (count - (place + 1)) ++ range_with_len 0 (current + 1)) (range_with_len (place + 1) (current - place))) (le-ltb current place le)

-- behind the sector before a place stands what is at it and behind it
pub before-after : (count current place : ℕ) → current < count → place < count → (place ≡ after count current → ⊥) → places_after count current (before count place) ≡ place ∷ places_after count current place
before-after count current place low high apart =
    elim (cases_lt current place) [
      | inl lt ↦
          let inner : after count current ≡ current + 1 = after-inner count current (omega arith) in
          let off : place ≢ current + 1 = λ (e : place ≡ current + 1). apart (e ∙ sym inner) in
          let is : before count place ≡ place - 1 = cond-false (eqb place 0) (count - 1) (place - 1) (ne_eqb place 0 (λ (e : place ≡ 0). absurd (omega arith))) in
          let up : place - 1 + 1 ≡ place = omega arith in
          let width : count - (place - 1 + 1) ≡ count - place = omega arith in
          let less : count - place - 1 ≡ count - (place + 1) = omega arith in
          ap (places_after count current) is ∙ far count current (place - 1) (omega (arith, off))
          ∙ ap (λ (n : ℕ). range_with_len n (count - (place - 1 + 1)) ++ range_with_len 0 (current + 1)) up
          ∙ ap (λ (n : ℕ). range_with_len place n ++ range_with_len 0 (current + 1)) width
          ∙ ap (λ (xs : List ℕ). xs ++ range_with_len 0 (current + 1)) (range_from place (count - place) (omega arith) ∙ ap (λ (n : ℕ). place ∷ range_with_len (place + 1) n) less)
          ∙ ap (λ (xs : List ℕ). place ∷ xs) (sym (far count current place lt))
      | inr le ↦ elim (cases_eq place 0) [
        | inl first ↦
            let more : current + 1 < count = elim (cases_eq (current + 1) count) [
              | inl last ↦ absurd (apart (first ∙ sym (after-last count current last)))
              | inr other ↦ omega (arith, other)
            ] in
            let is : before count place ≡ count - 1 = cond-true (eqb place 0) (count - 1) (place - 1) (eq-eqb place 0 first) in
            let none : count - (count - 1 + 1) ≡ 0 = omega arith in
            let one : current + 1 - 1 ≡ current = omega arith in
            let whole : current - 0 ≡ current = omega arith in
            ap (places_after count current) is ∙ far count current (count - 1) (omega arith)
            ∙ ap (λ (n : ℕ). range_with_len (count - 1 + 1) n ++ range_with_len 0 (current + 1)) none
            ∙ range_from 0 (current + 1) (omega arith) ∙ ap (λ (n : ℕ). 0 ∷ range_with_len (0 + 1) n) one
            ∙ sym (ap (λ (n : ℕ). 0 ∷ range_with_len (0 + 1) n) whole)
            ∙ sym (ap (λ (p : ℕ). p ∷ range_with_len (p + 1) (current - p)) first)
            ∙ ap (λ (xs : List ℕ). place ∷ xs) (sym (near count current place le))
        | inr some ↦
            let is : before count place ≡ place - 1 = cond-false (eqb place 0) (count - 1) (place - 1) (ne_eqb place 0 some) in
            let up : place - 1 + 1 ≡ place = omega (arith, some) in
            let width : current - (place - 1) ≡ current + 1 - place = omega (arith, some) in
            let less : current + 1 - place - 1 ≡ current - place = omega arith in
            ap (places_after count current) is ∙ near count current (place - 1) (omega arith)
            ∙ ap (λ (n : ℕ). range_with_len n (current - (place - 1))) up
            ∙ ap (range_with_len place) width
            ∙ range_from place (current + 1 - place) (omega arith) ∙ ap (λ (n : ℕ). place ∷ range_with_len (place + 1) n) less
            ∙ ap (λ (xs : List ℕ). place ∷ xs) (sym (near count current place le))
      ]
    ]

-- the oldest sector stands in front
oldest-prefix : (count current : ℕ) → current < count → places_before count current (after count current) ≡ []
oldest-prefix count current low =
    elim (cases_eq (current + 1) count) [
      | inl last ↦
          let is = after-last count current last in
          let none : count - (current + 1) ≡ 0 = omega arith in
          ap (places_before count current) is
          ∙ ap (λ (t : Bool). cond t (range_with_len (current + 1) (0 - (current + 1))) (range_with_len (current + 1) (count - (current + 1)) ++ range_with_len 0 0)) (le-ltb current 0 (omega arith))
          ∙ ap (λ (n : ℕ). range_with_len (current + 1) n ++ range_with_len 0 0) none
      | inr other ↦
          let is = after-inner count current (omega (arith, other)) in
          let none : current + 1 - (current + 1) ≡ 0 = omega arith in
          ap (places_before count current) is
          ∙ ap (λ (t : Bool). cond t (range_with_len (current + 1) (current + 1 - (current + 1))) (range_with_len (current + 1) (count - (current + 1)) ++ range_with_len 0 (current + 1))) (lt-ltb current (current + 1) (omega arith))
          ∙ ap (range_with_len (current + 1)) none
    ]

pub round-oldest : (count current : ℕ) → current < count → after count current < count → round count current ≡ after count current ∷ places_after count current (after count current)
round-oldest count current low high =
    let at = round-at count current (after count current) low high in
    at.split ∙ ap (λ (xs : List ℕ). xs ++ after count current ∷ places_after count current (after count current)) (oldest-prefix count current low)

-- a sum over the round is one over all places
pub round-sum : (f : ℕ → ℕ) (count current : ℕ) → current < count → sum_by f (round count current) ≡ sum_by f (range_with_len 0 count)
round-sum f count current low =
    let first = sum_by-append f (range_with_len (current + 1) (count - (current + 1))) (range_with_len 0 (current + 1)) in
    let second = sum_by-append f (range_with_len 0 (current + 1)) (range_with_len (0 + (current + 1)) (count - (current + 1))) in
    let zero_plus : sum_by f (range_with_len (0 + (current + 1)) (count - (current + 1))) ≡ sum_by f (range_with_len (current + 1) (count - (current + 1))) = ap (λ (j : ℕ). sum_by f (range_with_len j (count - (current + 1)))) (omega arith) in
    let width : current + 1 + (count - (current + 1)) ≡ count = omega arith in
    let whole : sum_by f (range_with_len 0 (current + 1 + (count - (current + 1)))) ≡ sum_by f (range_with_len 0 (current + 1) ++ range_with_len (0 + (current + 1)) (count - (current + 1))) = ap (sum_by f) (range-append 0 (current + 1) (count - (current + 1))) in
    first ∙ omega arith ∙ sym second ∙ sym whole ∙ ap (λ (n : ℕ). sum_by f (range_with_len 0 n)) width

-- how many sectors stand before a place in the round
abbrev pub left : ℕ → ℕ → ℕ → ℕ
left count current place = cond (ltb current place) (place - (current + 1)) (place + (count - (current + 1)))

pub fewer_left : (count current place : ℕ) → current < count → place < count → (place ≡ after count current → ⊥) → left count current (before count place) < left count current place
fewer_left count current place low high apart =
    elim (cases_lt current place) [
      | inl lt ↦
          let inner : after count current ≡ current + 1 = after-inner count current (omega arith) in
          let off : place ≢ current + 1 = λ (e : place ≡ current + 1). apart (e ∙ sym inner) in
          let is : before count place ≡ place - 1 = cond-false (eqb place 0) (count - 1) (place - 1) (ne_eqb place 0 (λ (e : place ≡ 0). absurd (omega arith))) in
          let old : left count current place ≡ place - (current + 1) = ap (λ (t : Bool). cond t (place - (current + 1)) (place + (count - (current + 1)))) (lt-ltb current place lt) in
          let new : left count current (before count place) ≡ place - 1 - (current + 1) =
          ap (left count current) is ∙ ap (λ (t : Bool). cond t (place - 1 - (current + 1)) (place - 1 + (count - (current + 1)))) (lt-ltb current (place - 1) (omega (arith, off))) in
          omega (arith, off)
      | inr le ↦
          let old : left count current place ≡ place + (count - (current + 1)) = ap (λ (t : Bool). cond t (place - (current + 1)) (place + (count - (current + 1)))) (le-ltb current place le) in
          elim (cases_eq place 0) [
            | inl first ↦
                let more : current + 1 < count = elim (cases_eq (current + 1) count) [
                  | inl last ↦ absurd (apart (first ∙ sym (after-last count current last)))
                  | inr other ↦ omega (arith, other)
                ] in
                let is : before count place ≡ count - 1 = cond-true (eqb place 0) (count - 1) (place - 1) (eq-eqb place 0 first) in
                let new : left count current (before count place) ≡ count - 1 - (current + 1) =
                ap (left count current) is ∙ ap (λ (t : Bool). cond t (count - 1 - (current + 1)) (count - 1 + (count - (current + 1)))) (lt-ltb current (count - 1) (omega arith)) in
                omega arith
            | inr some ↦
                let is : before count place ≡ place - 1 = cond-false (eqb place 0) (count - 1) (place - 1) (ne_eqb place 0 some) in
                let new : left count current (before count place) ≡ place - 1 + (count - (current + 1)) =
                ap (left count current) is ∙ ap (λ (t : Bool). cond t (place - 1 - (current + 1)) (place - 1 + (count - (current + 1)))) (le-ltb current (place - 1) (omega arith)) in
                omega (arith, some)
          ]
    ]

-- ---- the walk

-- what the items in a sector cost
abbrev pub sector_costs : SectorFormat → List (List ℕ) → ℕ → ℕ
sector_costs k sectors place = copies_cost k.cost (live_to (slots k) sectors place (k.count (sector_at sectors place)))

module _ (k : SectorFormat) (sectors : List (List ℕ)) (current : ℕ) (low : current < length sectors) where
  -- what the items in the sectors behind a place cost
  abbrev pub cost_behind : ℕ → ℕ
  cost_behind place = sum_by (sector_costs k sectors) (places_after (length sectors) current place)

  pub start_seen : behind k sectors current current ≡ []
  start_seen = ap (flat_map (counted_in (slots k) sectors current)) (none_behind (length sectors) current)

  pub start_cost : 0 ≡ cost_behind current
  start_cost = sym (ap (sum_by (sector_costs k sectors)) (none_behind (length sectors) current))

  module _ (place : ℕ) (high : place < length sectors) (apart : place ≡ after (length sectors) current → ⊥) where
    pub more_seen : counted_in (slots k) sectors current place ++ behind k sectors current place ≡ behind k sectors current (before (length sectors) place)
    more_seen =
        sym (flat_map-cons (counted_in (slots k) sectors current) place (places_after (length sectors) current place))
        ∙ ap (flat_map (counted_in (slots k) sectors current)) (sym (before-after (length sectors) current place low high apart))

    pub more_cost : sector_costs k sectors place + cost_behind place ≡ cost_behind (before (length sectors) place)
    more_cost =
        sym (sum_by-cons (sector_costs k sectors) place (places_after (length sectors) current place))
        ∙ ap (sum_by (sector_costs k sectors)) (sym (before-after (length sectors) current place low high apart))

  pub all_cost : after (length sectors) current < length sectors → sector_costs k sectors (after (length sectors) current) + cost_behind (after (length sectors) current) ≡ sum_by (sector_costs k sectors) (range_with_len 0 (length sectors))
  all_cost high =
      sym (sum_by-cons (sector_costs k sectors) (after (length sectors) current) (places_after (length sectors) current (after (length sectors) current)))
      ∙ sym (ap (sum_by (sector_costs k sectors)) (round-oldest (length sectors) current low high))
      ∙ round-sum (sector_costs k sectors) (length sectors) current low

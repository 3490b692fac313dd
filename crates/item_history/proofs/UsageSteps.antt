-- What all entries of an area cost.
use Rattle.std.proofs.Common.{◌≡◌, ℕ, ◌+◌, ◌<◌, ◌≤◌, Bool, true, cond, eqb, ◌||◌, List, [], ◌∷◌, ◌++◌, length, map, Option, Some, None, refl, sym, ap, ◌∙◌, inl, inr, append-nil, arith}
use Rattle.std.specs.Prelude.{sum_by}
use Rattle.std.specs.List.{All, filter_map, flat_map, range_with_len}
use Rattle.std.specs.Option.{option_map}
use Rattle.std.proofs.lemmas.Bool.{cases_Bool}
use Rattle.std.proofs.lemmas.List.Concat.{flat_map-cons}
use Rattle.std.proofs.lemmas.List.Elements.{All-head, All-tail, All-weaker}
use Rattle.std.proofs.lemmas.List.Sums.{sum_by-append, sum_by-cons}
use Rattle.flash_map.specs.Area.{sector_at}
use Rattle.item_laws.specs.LivePairs.{names, live_pairs}
use Rattle.item_laws.specs.PairRounds.{copies_cost, live_cost}
use Rattle.item_laws.specs.Area.{round, counts_at, open_sector}
use Rattle.item_laws.specs.Forms.{AtRest}
use Rattle.item_laws.specs.Live.{counted_in, all_placed, bytes_of, pair_of, cost_of}
use Rattle.item_laws.proofs.LastLemmas.{list-found}
use Rattle.item_laws.proofs.Lists.{counts-at_rest}
use Rattle.item_laws.proofs.Places.{range-append, range_one}
use Rattle.item_store.specs.declared.entry.Entry.{Entry}
use Rattle.item_store.specs.declared.entry.Placed.{Placed}
use Rattle.item_store.specs.SectorFormat.{SectorFormat, IsSectorFormat, placed_at, slots, entries}
use Rattle.item_store.specs.Listed.{IsPlaced}
use Rattle.item_store.specs.Standing.{list_of}
use Rattle.item_store.proofs.CopyLoop.{are}
use Rattle.item_store.proofs.CostSteps.{round-sum}
use Rattle.item_store.proofs.OlderSteps.{placed_to, to_more}
use Rattle.item_store.proofs.Placings.{all-are_placed, entry_long}
use Rattle.item_history.specs.declared.usage.Space.{Space}
use Rattle.item_history.specs.Usage.{stale_pairs, stale_cost}

-- items and all else are the whole list
pub live-stale : (price : ℕ → ℕ) (pairs : List (ℕ × List ℕ)) → live_cost price pairs + stale_cost price pairs ≡ copies_cost price pairs
unfolding live_pairs stale_pairs
live-stale price [] = refl
live-stale price (pair ∷ later) =
    let rest = live-stale price later in
    let cost : ℕ × List ℕ → ℕ = λ p. price (length p.1) in
    let whole : later ++ [] ≡ later = append-nil later in
    let test : (names pair.0 (later ++ []) || eqb (length pair.1) 0) ≡ (names pair.0 later || eqb (length pair.1) 0) = ap (λ ps. names pair.0 ps || eqb (length pair.1) 0) whole in
    let all : copies_cost price (pair ∷ later) ≡ price (length pair.1) + copies_cost price later = sum_by-cons (λ (p : ℕ × List ℕ). price (length p.1)) pair later in
    elim (cases_Bool (names pair.0 later || eqb (length pair.1) 0)) [
      | inl stale ↦
          let live_is : live_cost price (pair ∷ later) ≡ live_cost price later = ap (λ (t : Bool). copies_cost price (cond t (live_pairs later []) (pair ∷ live_pairs later []))) (test ∙ stale) in
          let stale_is : stale_cost price (pair ∷ later) ≡ price (length pair.1) + stale_cost price later =
          ap (λ (t : Bool). copies_cost price (cond t (pair ∷ stale_pairs later) (stale_pairs later))) stale ∙ sum_by-cons (λ (p : ℕ × List ℕ). price (length p.1)) pair (stale_pairs later) in
          omega arith
      | inr live ↦
          let live_is : live_cost price (pair ∷ later) ≡ price (length pair.1) + live_cost price later =
          ap (λ (t : Bool). copies_cost price (cond t (live_pairs later []) (pair ∷ live_pairs later []))) (test ∙ live) ∙ sum_by-cons (λ (p : ℕ × List ℕ). price (length p.1)) pair (live_pairs later []) in
          let stale_is : stale_cost price (pair ∷ later) ≡ stale_cost price later = ap (λ (t : Bool). copies_cost price (cond t (pair ∷ stale_pairs later) (stale_pairs later))) live in
          omega arith
    ]

-- ---- sums over entries

sum_flat : {A B : Type 0} (f : B → ℕ) (row : A → List B) (xs : List A) → sum_by f (flat_map row xs) ≡ sum_by (λ x. sum_by f (row x)) xs
sum_flat f row [] = refl
sum_flat f row (x ∷ xs) =
    ap (sum_by f) (flat_map-cons row x xs) ∙ sum_by-append f (row x) (flat_map row xs)
    ∙ ap (λ (n : ℕ). sum_by f (row x) + n) (sum_flat f row xs)
    ∙ sym (sum_by-cons (λ x. sum_by f (row x)) x xs)

sum_agree : {A : Type 0} (f g : A → ℕ) → ((x : A) → f x ≡ g x) → (xs : List A) → sum_by f xs ≡ sum_by g xs
sum_agree f g same [] = refl
sum_agree f g same (x ∷ xs) = sum_by-cons f x xs ∙ ap (λ (n : ℕ). n + sum_by f xs) (same x) ∙ ap (λ (n : ℕ). g x + n) (sum_agree f g same xs) ∙ sym (sum_by-cons g x xs)

-- what the entries of a sector cost
abbrev pub sector_total : SectorFormat → List (List ℕ) → ℕ → ℕ
sector_total k sectors place = sum_by (λ (p : Placed). k.cost p.len) (map (placed_at place) (entries k (sector_at sectors place)))

module _ (k : SectorFormat) (law : IsSectorFormat k) (sectors : List (List ℕ)) where
  abbrev entry_cost : Placed → ℕ
  entry_cost p = k.cost p.len

  -- one slot more
  pub slot_more : (place n slot : ℕ) → slot ≡ k.first + n → sum_by entry_cost (placed_to k (sector_at sectors place) place (n + 1))
      ≡ sum_by entry_cost (placed_to k (sector_at sectors place) place n) + cost_of (slots k) (option_map (placed_at place) (k.in_slot (sector_at sectors place) slot))
  slot_more place n slot at =
      let b : List ℕ = sector_at sectors place in
      ap (sum_by entry_cost) (to_more k (sector_at sectors place) place n slot at)
      ∙ sum_by-append entry_cost (placed_to k (sector_at sectors place) place n) (map (placed_at place) (filter_map (k.in_slot (sector_at sectors place)) (slot ∷ [])))
      ∙ ap (λ (c : ℕ). sum_by entry_cost (placed_to k (sector_at sectors place) place n) + c) (own (k.in_slot (sector_at sectors place) slot))
    where
      own : (o : Option Entry) → sum_by entry_cost (map (placed_at place) (filter_map (λ (j : ℕ). o) (slot ∷ []))) ≡ cost_of (slots k) (option_map (placed_at place) o)
      own None = refl
      own (Some e) = sum_by-cons entry_cost (placed_at place e) [] ∙ omega arith

  pairs_cost : (ps : List Placed) → All (λ p. length (bytes_of (slots k) sectors p) ≡ p.len) ps → copies_cost k.cost (map (pair_of (slots k) sectors) ps) ≡ sum_by entry_cost ps
  pairs_cost [] long = refl
  pairs_cost (p ∷ ps) long =
      sum_by-cons (λ (pair : ℕ × List ℕ). k.cost (length pair.1)) (pair_of (slots k) sectors p) (map (pair_of (slots k) sectors) ps)
      ∙ ap (λ (n : ℕ). k.cost n + copies_cost k.cost (map (pair_of (slots k) sectors) ps)) (All-head (λ p. length (bytes_of (slots k) sectors p) ≡ p.len) p ps long)
      ∙ ap (λ (n : ℕ). k.cost p.len + n) (pairs_cost ps (All-tail (λ p. length (bytes_of (slots k) sectors p) ≡ p.len) p ps long))
      ∙ sym (sum_by-cons entry_cost p ps)

  -- all of them, sector by sector
  pub total_is : (current : ℕ) → current < length sectors → current ≡ open_sector k.reading sectors → ((place : ℕ) → counts_at k.reading sectors current place ≡ true)
      → All (λ p. length (bytes_of (slots k) sectors p) ≡ p.len) (all_placed (slots k) sectors) → copies_cost k.cost (list_of k sectors) ≡ sum_by (sector_total k sectors) (range_with_len 0 (length sectors))
  total_is current low is counts long =
      ap (copies_cost k.cost) (list-found (slots k) (are k law) sectors)
      ∙ pairs_cost (all_placed (slots k) sectors) long
      ∙ ap (λ (c : ℕ). sum_by entry_cost (flat_map (counted_in (slots k) sectors c) (round (length sectors) c))) (sym is)
      ∙ sum_flat entry_cost (counted_in (slots k) sectors current) (round (length sectors) current)
      ∙ sum_agree (λ place. sum_by entry_cost (counted_in (slots k) sectors current place)) (sector_total k sectors)
      (λ place. ap (λ (t : Bool). sum_by entry_cost (cond t (map (placed_at place) (entries k (sector_at sectors place))) [])) (counts place)) (round (length sectors) current)
      ∙ round-sum (sector_total k sectors) (length sectors) current low

  -- the same of an area at rest
  pub total_at_rest : (current : ℕ) → current ≡ open_sector k.reading sectors → ((place : ℕ) → place < length sectors → 512 ≤ length (sector_at sectors place)) → AtRest k.reading sectors current
      → copies_cost k.cost (list_of k sectors) ≡ sum_by (sector_total k sectors) (range_with_len 0 (length sectors))
  total_at_rest current is large rest =
      let placed : All (IsPlaced k sectors (open_sector k.reading sectors)) (all_placed (slots k) sectors) = all-are_placed k law sectors (omega (arith, rest.ring.within)) in
      total_is current rest.ring.within is (λ place. counts-at_rest k.reading sectors current rest.blanks place rest.ring rest.some)
      (All-weaker (IsPlaced k sectors (open_sector k.reading sectors)) (λ p. length (bytes_of (slots k) sectors p) ≡ p.len)
      (λ p here. entry_long k law sectors p here.listed (law.sound (sector_at sectors p.sector) (large p.sector here.listed.within) (rest.sound p.sector here.listed.within))) (all_placed (slots k) sectors) placed)

-- one sector more
pub sector_more : (k : SectorFormat) (sectors : List (List ℕ)) (place : ℕ) → sum_by (sector_total k sectors) (range_with_len 0 (place + 1)) ≡ sum_by (sector_total k sectors) (range_with_len 0 place) + sector_total k sectors place
sector_more k sectors place =
    ap (sum_by (sector_total k sectors)) (range-append 0 place 1 ∙ ap (λ (js : List ℕ). range_with_len 0 place ++ js) (range_one (0 + place)))
    ∙ sum_by-append (sector_total k sectors) (range_with_len 0 place) ((0 + place) ∷ [])
    ∙ ap (λ (n : ℕ). sum_by (sector_total k sectors) (range_with_len 0 place) + n) (sum_by-cons (sector_total k sectors) (0 + place) [] ∙ own)
  where
    own : sector_total k sectors (0 + place) + 0 ≡ sector_total k sectors place
    own = let e : 0 + place ≡ place = omega arith in let f = ap (sector_total k sectors) e in omega arith

-- a space by its three numbers
pub space_is : (a b c x y z : ℕ) → a ≡ x → b ≡ y → c ≡ z → ◌≡◌ {A = Space} (record { live = a; stale = b; free = c }) (record { live = x; stale = y; free = z })
space_is a b c x y z p q r = cc

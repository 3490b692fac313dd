-- What all live pairs cost, sector by sector.
use Rattle.std.proofs.Common.{◌≡◌, ℕ, zero, suc, ◌+◌, ◌-◌, ◌<◌, Bool, true, cond, List, [], ◌∷◌, ◌++◌, length, map, refl, sym, ap, subst, ◌∙◌, inl, append_assoc, arith}
use Rattle.std.specs.Prelude.{sum_by}
use Rattle.std.specs.List.{flat_map, range_with_len, All}
use Rattle.std.proofs.lemmas.List.{append-nil, map-append}
use Rattle.std.proofs.lemmas.List.Elements.{All-nil, All-cons, All-head, All-tail, All-append, All-map, All-weaker}
use Rattle.std.proofs.lemmas.List.Concat.{flat_map-cons}
use Rattle.std.proofs.lemmas.List.Sums.{sum_by-append, sum_by-cons}
use Rattle.item_laws.specs.LivePairs.{live_pairs}
use Rattle.flash_map.specs.Area.{sector_at}
use Rattle.item_laws.specs.Area.{round}
use Rattle.item_laws.specs.Forms.{AtRest}
use Rattle.item_laws.specs.PairRounds.{copies_cost, live_cost}
use Rattle.item_laws.proofs.Lists.{counts-at_rest}
use Rattle.item_laws.proofs.LiveCost.{live-split}
use Rattle.item_laws.proofs.Places.{All-range, range-append, flat_map-agree}
use Rattle.item_laws.proofs.RingSteps.{reads}
use Rattle.item_laws.specs.Entries.{Entries, AreEntries}
use Rattle.item_laws.specs.Live.{list_of, counted_in, all_placed, pair_of, live_to}
use Rattle.item_laws.proofs.LastLemmas.{list-found}
use Rattle.item_laws.proofs.LiveLemmas.{live-sector}

AreDistinct : List ℕ → Type 0
AreDistinct [] = Unit {0}
AreDistinct (j ∷ js) = All (λ i. i ≡ j → ⊥) js × AreDistinct js

distinct_range : (a n : ℕ) (tail : List ℕ) → AreDistinct tail → All (λ j. j < a) tail → AreDistinct (range_with_len a n ++ tail)
unfolding AreDistinct
distinct_range a zero tail apart low = apart
distinct_range a (suc n) tail apart low = (
  All-append (λ j. j ≡ a → ⊥) (range_with_len (a + 1) n) tail
      (All-range (λ j. j ≡ a → ⊥) (a + 1) n (λ j from below e. absurd (omega arith)))
      (All-weaker (λ j. j < a) (λ j. j ≡ a → ⊥) (λ j lt e. absurd (omega arith)) tail low),
  distinct_range (a + 1) n tail apart (All-weaker (λ j. j < a) (λ j. j < a + 1) (λ j lt. omega arith) tail low),
)

module _ {Entry Placed : Type 0} (k : Entries Entry Placed) (are : AreEntries k) where
  -- the entries of a sector are in that sector
  pub places_of : (place : ℕ) (es : List Entry) → All (λ g. k.sector g ≡ place) (map (k.placed_at place) es)
  places_of place es = All-map (λ (g : Placed). k.sector g ≡ place) (k.placed_at place) es (everywhere es)
    where
      everywhere : (es : List Entry) → All (λ e. k.sector (k.placed_at place e) ≡ place) es
      everywhere [] = All-nil (λ (e : Entry). k.sector (k.placed_at place e) ≡ place)
      everywhere (e ∷ es) = All-cons (λ (e : Entry). k.sector (k.placed_at place e) ≡ place) e es (are.sector place e) (everywhere es)

module _ {Entry Placed : Type 0} (k : Entries Entry Placed) (are : AreEntries k) (sectors : List (List ℕ)) where
  abbrev found_in : ℕ → List Placed
  found_in j = map (k.placed_at j) (k.entries (sector_at sectors j))

  -- what the live pairs of one sector cost
  abbrev pub cost_at : ℕ → ℕ
  cost_at j = copies_cost k.cost (live_to k sectors j (k.slots (sector_at sectors j)))

  elsewhere_in : (j : ℕ) (js : List ℕ) → All (λ i. i ≡ j → ⊥) js → All (λ g. k.sector g ≡ j → ⊥) (flat_map found_in js)
  elsewhere_in j [] apart = All-nil (λ (g : Placed). k.sector g ≡ j → ⊥)
  elsewhere_in j (i ∷ js) apart =
      let off = All-head (λ i. i ≡ j → ⊥) i js apart in
      subst (λ (xs : List Placed). All (λ g. k.sector g ≡ j → ⊥) xs) (sym (flat_map-cons found_in i js))
      (All-append (λ (g : Placed). k.sector g ≡ j → ⊥) (found_in i) (flat_map found_in js)
      (All-weaker (λ (g : Placed). k.sector g ≡ i) (λ (g : Placed). k.sector g ≡ j → ⊥) (λ g at (e : k.sector g ≡ j). off (sym at ∙ e)) (found_in i) (places_of k are i (k.entries (sector_at sectors i))))
      (elsewhere_in j js (All-tail (λ i. i ≡ j → ⊥) i js apart)))

  live_sum : (prefix : List Placed) (js : List ℕ) → all_placed k sectors ≡ prefix ++ flat_map found_in js → AreDistinct js → All (λ j. k.is_sound (sector_at sectors j) ≡ true) js → copies_cost k.cost (live_pairs (map (pair_of k sectors) (flat_map found_in js)) []) ≡ sum_by cost_at js
  unfolding AreDistinct live_pairs
  live_sum prefix [] is apart sound = refl
  live_sum prefix (j ∷ js) is apart sound =
      let later = flat_map found_in js in
      let cons : flat_map found_in (j ∷ js) ≡ found_in j ++ flat_map found_in js = flat_map-cons found_in j js in
      let all : all_placed k sectors ≡ prefix ++ (found_in j ++ flat_map found_in js) = is ∙ ap (λ (xs : List Placed). prefix ++ xs) cons in
      let next_all : all_placed k sectors ≡ (prefix ++ found_in j) ++ flat_map found_in js = all ∙ sym (append_assoc prefix (found_in j) (flat_map found_in js)) in
      let own = live-sector k are sectors j prefix (flat_map found_in js) (All-head (λ i. k.is_sound (sector_at sectors i) ≡ true) j js sound) all (elsewhere_in j js apart.0) in
      let rest = live_sum (prefix ++ found_in j) js next_all apart.1 (All-tail (λ i. k.is_sound (sector_at sectors i) ≡ true) j js sound) in
      ap (λ (xs : List Placed). copies_cost k.cost (live_pairs (map (pair_of k sectors) xs) [])) cons
      ∙ ap (λ ps. copies_cost k.cost (live_pairs ps [])) (map-append (pair_of k sectors) (found_in j) (flat_map found_in js))
      ∙ ap (copies_cost k.cost) (live-split (map (pair_of k sectors) (found_in j)) (map (pair_of k sectors) (flat_map found_in js)) [])
      ∙ ap (λ ps. copies_cost k.cost (live_pairs (map (pair_of k sectors) (found_in j)) ps ++ live_pairs (map (pair_of k sectors) (flat_map found_in js)) [])) (append-nil (map (pair_of k sectors) (flat_map found_in js)))
      ∙ ap (λ ps. copies_cost k.cost (ps ++ live_pairs (map (pair_of k sectors) (flat_map found_in js)) [])) own
      ∙ sum_by-append (λ (q : ℕ × List ℕ). k.cost (length q.1)) (live_to k sectors j (k.slots (sector_at sectors j))) (live_pairs (map (pair_of k sectors) (flat_map found_in js)) [])
      ∙ ap (λ (n : ℕ). cost_at j + n) rest ∙ sym (sum_by-cons cost_at j js)

  pub all_costs : (place : ℕ) → AtRest k.reading sectors place → ((j : ℕ) → j < length sectors → k.is_sound (sector_at sectors j) ≡ true) → live_cost k.cost (list_of k sectors) ≡ sum_by cost_at (range_with_len 0 (length sectors))
  unfolding AreDistinct
  all_costs place form sound =
      let ring = form.ring in
      let count = length sectors in
      let within = ring.within in
      let is = (reads k.reading sectors place (inl form)).0 in
      let here : all_placed k sectors ≡ flat_map found_in (round (length sectors) place) =
      ap (λ (j : ℕ). flat_map (counted_in k sectors j) (round (length sectors) j)) is
      ∙ flat_map-agree (counted_in k sectors place) found_in (round (length sectors) place)
      (All-append (λ j. counted_in k sectors place j ≡ found_in j) (range_with_len (place + 1) (length sectors - (place + 1))) (range_with_len 0 (place + 1))
      (All-range (λ j. counted_in k sectors place j ≡ found_in j) (place + 1) (length sectors - (place + 1)) (λ j low high. counted j))
      (All-range (λ j. counted_in k sectors place j ≡ found_in j) 0 (place + 1) (λ j low high. counted j))) in
      let apart : AreDistinct (round (length sectors) place) =
      distinct_range (place + 1) (length sectors - (place + 1)) (range_with_len 0 (place + 1))
      (subst AreDistinct (append-nil (range_with_len 0 (place + 1))) (distinct_range 0 (place + 1) [] tt (All-nil (λ j. j < 0))))
      (All-range (λ j. j < place + 1) 0 (place + 1) (λ j low high. omega arith)) in
      let sounds : All (λ j. k.is_sound (sector_at sectors j) ≡ true) (round (length sectors) place) =
      All-append (λ j. k.is_sound (sector_at sectors j) ≡ true) (range_with_len (place + 1) (length sectors - (place + 1))) (range_with_len 0 (place + 1))
      (All-range (λ j. k.is_sound (sector_at sectors j) ≡ true) (place + 1) (length sectors - (place + 1)) (λ j low high. sound j (omega arith)))
      (All-range (λ j. k.is_sound (sector_at sectors j) ≡ true) 0 (place + 1) (λ j low high. sound j (omega arith))) in
      let width : place + 1 + (length sectors - (place + 1)) ≡ length sectors = omega arith in
      let first = sum_by-append cost_at (range_with_len (place + 1) (length sectors - (place + 1))) (range_with_len 0 (place + 1)) in
      let second = sum_by-append cost_at (range_with_len 0 (place + 1)) (range_with_len (0 + (place + 1)) (length sectors - (place + 1))) in
      let zero_plus : sum_by cost_at (range_with_len (0 + (place + 1)) (length sectors - (place + 1))) ≡ sum_by cost_at (range_with_len (place + 1) (length sectors - (place + 1))) = ap (λ (j : ℕ). sum_by cost_at (range_with_len j (length sectors - (place + 1)))) (omega arith) in
      let whole : sum_by cost_at (range_with_len 0 (place + 1 + (length sectors - (place + 1)))) ≡ sum_by cost_at (range_with_len 0 (place + 1) ++ range_with_len (0 + (place + 1)) (length sectors - (place + 1))) = ap (sum_by cost_at) (range-append 0 (place + 1) (length sectors - (place + 1))) in
      ap (live_cost k.cost) (list-found k are sectors ∙ ap (map (pair_of k sectors)) here)
      ∙ live_sum [] (round (length sectors) place) here apart sounds
      ∙ first ∙ omega arith ∙ sym second ∙ sym whole ∙ ap (λ (n : ℕ). sum_by cost_at (range_with_len 0 n)) width
    where
      counted : (j : ℕ) → counted_in k sectors place j ≡ found_in j
      counted j = ap (λ (t : Bool). cond t (found_in j) []) (counts-at_rest k.reading sectors place form.blanks j form.ring form.some)

-- Rounds that make no room, whatever parts are lists of: after one for each part, no part has room.
use Rattle.std.proofs.Common.{◌≡◌, ℕ, ◌+◌, ◌-◌, ◌*◌, ◌<◌, ◌≤◌, List, [], ◌∷◌, ◌++◌, length, All, refl, sym, ap, subst, ◌∙◌, append_assoc, length-append, arith}
use Rattle.std.proofs.lemmas.List.{append-nil}
use Rattle.std.proofs.lemmas.List.Concat.{flat_map-append}
use Rattle.std.proofs.lemmas.List.Elements.{All-nil, All-head, All-tail, All-push}
use Rattle.item_laws.specs.PairRounds.{joined, LeavesNoRoom}

-- What rounds ask of `live` and `cost`: what is live of a part is live behind that part's others, and hides none of
-- them; costs add up.
pub record AreRounds {A : Type 0} (live : List A → List A → List A) (cost : List A → ℕ) : Type 0 where
  pub none : live [] [] ≡ []
  pub again : (victim prefix back : List A) → live back [] ≡ back → live (back ++ live victim (prefix ++ back)) [] ≡ back ++ live victim (prefix ++ back)
  pub sums : (xs ys : List A) → cost (xs ++ ys) ≡ cost xs + cost ys

pub joined-append : {A : Type 0} → (old new : List (List A)) → joined (old ++ new) ≡ joined old ++ joined new
joined-append {A} old new = flat_map-append (λ (part : List A). part) old new

pub joined-push : {A : Type 0} → (new : List (List A)) (part : List A) → joined (new ++ part ∷ []) ≡ joined new ++ part
joined-push new part = joined-append new (part ∷ []) ∙ ap (λ xs. joined new ++ xs) (append-nil part)

module _ {A : Type 0} (live : List A → List A → List A) (cost : List A → ℕ) (laws : AreRounds live cost) (need capacity : ℕ) (start : List (List A)) where
  pub no_round : LeavesNoRoom live cost need capacity start start 0
  no_round = record {
    old = start;
    new = [];
    are = sym (append-nil start);
    made = refl;
    left = omega arith;
    all_live = laws.none;
    full = All-nil (λ part. capacity < cost part + need);
  }

  more_by : (rounds : ℕ) (victim : List A) (others : List (List A)) (finds : LeavesNoRoom live cost need capacity start (victim ∷ others) rounds)
      → rounds < length start → capacity < cost (live victim (joined others)) + need
      → (old : List (List A)) → finds.old ≡ old → LeavesNoRoom live cost need capacity start (others ++ live victim (joined others) ∷ []) (rounds + 1)
  more_by rounds victim others finds more full [] is =
      absurd (let none = ap length is in let left = finds.left in omega arith)
  more_by rounds victim others finds more full (first ∷ old) is =
      let are : victim ∷ others ≡ first ∷ (old ++ finds.new) = finds.are ∙ ap (λ parts. parts ++ finds.new) is in
      let rest : others ≡ old ++ finds.new = cc in
      let counts = ap length is in
      let back : joined others ≡ joined old ++ joined finds.new = ap joined rest ∙ joined-append old finds.new in
      let again : live (joined finds.new ++ live victim (joined others)) [] ≡ joined finds.new ++ live victim (joined others) =
      subst (λ xs. live (joined finds.new ++ live victim xs) [] ≡ joined finds.new ++ live victim xs) (sym back) (laws.again victim (joined old) (joined finds.new) finds.all_live) in
      record {
        old = old;
        new = finds.new ++ live victim (joined others) ∷ [];
        are = ap (λ parts. parts ++ live victim (joined others) ∷ []) rest ∙ append_assoc old finds.new (live victim (joined others) ∷ []);
        made = let long = length-append finds.new (live victim (joined others) ∷ []) in let made = finds.made in omega arith;
        left = let left = finds.left in omega arith;
        all_live = subst (λ xs. live xs [] ≡ xs) (sym (joined-push finds.new (live victim (joined others)))) again;
        full = All-push (λ part. capacity < cost part + need) finds.new (live victim (joined others)) finds.full full;
      }

  -- One round more: its live ones, and what is needed, cost more than a sector has.
  pub round_more : (rounds : ℕ) (victim : List A) (others : List (List A)) → LeavesNoRoom live cost need capacity start (victim ∷ others) rounds
      → rounds < length start → capacity < cost (live victim (joined others)) + need
      → LeavesNoRoom live cost need capacity start (others ++ live victim (joined others) ∷ []) (rounds + 1)
  round_more rounds victim others finds more full = more_by rounds victim others finds more full finds.old refl

  no_old : (parts : List (List A)) → length parts ≡ 0 → parts ≡ []
  no_old [] e = refl
  no_old (part ∷ parts) e = absurd (omega arith)

  module _ (now : List (List A)) (finds : LeavesNoRoom live cost need capacity start now (length start)) where
    all_new : now ≡ finds.new
    all_new = finds.are ∙ ap (λ parts. parts ++ finds.new) (no_old finds.old (let left = finds.left in omega arith))

    -- after a round for each part, all is live
    pub now_live : live (joined now) [] ≡ joined now
    now_live = subst (λ parts. live (joined parts) [] ≡ joined parts) (sym all_new) finds.all_live

    -- and no part has room
    pub now_full : All (λ part. capacity < cost part + need) now
    now_full = subst (All (λ part. capacity < cost part + need)) (sym all_new) finds.full

    pub now_long : length now ≡ length start
    now_long = ap length all_new ∙ finds.made

  -- where each part costs more than that, all cost more than as many times that
  parts_cost : (parts : List (List A)) → need ≤ capacity → All (λ part. capacity < cost part + need) parts → length parts * (capacity - need + 1) ≤ cost (joined parts)
  parts_cost [] small full = omega arith
  parts_cost (part ∷ rest) small full =
      let here : capacity < cost part + need = All-head (λ p. capacity < cost p + need) part rest full in
      let ih = parts_cost rest small (All-tail (λ p. capacity < cost p + need) part rest full) in
      let sum : cost (part ++ joined rest) ≡ cost part + cost (joined rest) = laws.sums part (joined rest) in
      let product : length (part ∷ rest) * (capacity - need + 1) ≡ length rest * (capacity - need + 1) + (capacity - need + 1) = omega arith in
      omega arith

  -- so what is live leaves no room in any of them
  pub no_room : (now : List (List A)) → LeavesNoRoom live cost need capacity start now (length start) → 0 < length start → need ≤ capacity
      → length start * (capacity - need) < cost (live (joined now) [])
  no_room now finds some small =
      let bound = parts_cost now small (now_full now finds) in
      let same : cost (live (joined now) []) ≡ cost (joined now) = ap cost (now_live now finds) in
      let count : length now * (capacity - need + 1) ≡ length start * (capacity - need + 1) = ap (λ (n : ℕ). n * (capacity - need + 1)) (now_long now finds) in
      let more : length start * (capacity - need + 1) ≡ length start * (capacity - need) + length start = omega arith in
      omega arith

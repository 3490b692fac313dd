-- Whole collections and whole rounds of close and collect, and when none of them finds room.
use Rattle.std.proofs.Common.{◌≡◌, ℕ, ◌+◌, ◌-◌, ◌*◌, ◌<◌, ◌≤◌, true, false, List, [], ◌∷◌, ◌++◌, length, map, set, refl, sym, ap, subst, ◌∙◌, arith}
use Rattle.std.proofs.lemmas.List.{length-append, length-set, set-set}
use Rattle.std.proofs.lemmas.List.Folds.{flat_map-map}
use Rattle.item_laws.specs.Items.{last, SameItems}
use Rattle.item_laws.specs.LivePairs.{live_pairs}
use Rattle.flash_map.specs.Area.{sector_at}
use Rattle.item_laws.specs.Area.{next, area_pairs}
use Rattle.item_laws.specs.Forms.{AtRest, Collecting, Collected, rest, pairs_at, to_copy}
use Rattle.item_laws.specs.Reading.{Reading, IsReading, is_sound}
use Rattle.item_laws.specs.PairRounds.{copies_cost, joined, live_cost, collect_oldest, FindsNoRoom}
use Rattle.item_laws.specs.Rounds.{parts, Collects, IsRound, IsCrammed}
use Rattle.item_laws.specs.Steps.{MarksDone, Closes}
use Rattle.item_laws.proofs.Collects.{close, next_blank, put_copy, put_mark, erase_victim}
use Rattle.item_laws.proofs.Lists.{there, elsewhere}
use Rattle.item_laws.proofs.LiveCost.{live-collect}
use Rattle.item_laws.proofs.Parts.{map_agree, parts-list, close_parts, collect_parts, to_copy-kept}
use Rattle.item_laws.proofs.Places.{after, after-apart, IsFar, split}
use Rattle.std.proofs.lemmas.List.Elements.{All-weaker}
use Rattle.item_laws.proofs.NoRoom.{now_live, now_full, no_round as none_yet, round_more as one_more, no_room as never_room}
use Rattle.item_laws.proofs.RoundLemmas.{are_rounds}

-- ---- a collection, from the open sector with all copies on

-- gc-done behind all copies: the open sector counts from then on, in the victim's place
pub marked_copies : (reading : Reading) (sectors : List (List ℕ)) (place : ℕ) (full marked : List ℕ) → Collecting reading sectors place → reading.is_closed full ≡ false → reading.has_gc_done full ≡ false → reading.pairs full ≡ to_copy reading sectors place
    → MarksDone reading full marked → is_sound reading marked ≡ true → Collected reading (set sectors place marked) place × SameItems (area_pairs reading (set sectors place marked) place) (area_pairs reading sectors place)
marked_copies reading sectors place full marked form free unmarked copies marks sound =
    let ring = form.ring in
    let within = ring.within in
    let one = put_copy reading sectors place full form free unmarked in
    let at : sector_at (set sectors place full) place ≡ full = there sectors place full within in
    let list : pairs_at reading (set sectors place full) place ≡ to_copy reading (set sectors place full) place = ap reading.pairs at ∙ copies ∙ sym (to_copy-kept reading sectors place full within ring.several) in
    let two = put_mark reading (set sectors place full) place marked one.0 list (subst (λ (b : List ℕ). MarksDone reading b marked) (sym at) marks) sound in
    let same : set (set sectors place full) place marked ≡ set sectors place marked = set-set sectors place full marked in
    (subst (λ (s : List (List ℕ)). Collected reading s place) same two.0, λ id. ap (λ (s : List (List ℕ)). last (area_pairs reading s place) id) (sym same) ∙ two.1 id ∙ ap (λ ps. last ps id) one.1)

-- and the victim is erased
pub collection : (reading : Reading) (laws : IsReading reading) (sectors : List (List ℕ)) (place : ℕ) (full marked blank : List ℕ) → Collecting reading sectors place → reading.is_closed full ≡ false → reading.has_gc_done full ≡ false → reading.pairs full ≡ to_copy reading sectors place
    → MarksDone reading full marked → is_sound reading marked ≡ true → reading.is_blank blank ≡ true → Collects reading sectors place (set (set sectors place marked) (next sectors place) blank)
collection reading laws sectors place full marked blank form free unmarked copies marks sound erased =
    let ring = form.ring in
    let done = marked_copies reading sectors place full marked form free unmarked copies marks sound in
    let three = erase_victim reading laws (set sectors place marked) place blank done.0 erased in
    let at : next (set sectors place marked) place ≡ next sectors place = ap (λ (n : ℕ). after n place) (length-set sectors place marked) in
    let final : AtRest reading (set (set sectors place marked) (next sectors place) blank) place × (area_pairs reading (set (set sectors place marked) (next sectors place) blank) place ≡ area_pairs reading (set sectors place marked) place) =
    subst (λ (k : ℕ). AtRest reading (set (set sectors place marked) k blank) place × (area_pairs reading (set (set sectors place marked) k blank) place ≡ area_pairs reading (set sectors place marked) place)) at three in
    record {
      form = final.0;
      items = λ id. ap (λ ps. last ps id) final.1 ∙ done.1 id;
      parts = collect_parts reading sectors place marked blank ring.within ring.several (marks.list ∙ copies);
    }

-- A collection into another open sector, in place of the one that is ignored, is one of the area.
pub collects_from : (reading : Reading) (sectors : List (List ℕ)) (place : ℕ) (start : List ℕ) (new : List (List ℕ)) → Collecting reading sectors place → reading.is_closed start ≡ false → reading.has_gc_done start ≡ false
    → Collects reading (set sectors place start) place new → Collects reading sectors place new
collects_from reading sectors place start new form free unmarked collects =
    let ring = form.ring in
    let one = put_copy reading sectors place start form free unmarked in
    let long : length (set sectors place start) ≡ length sectors = length-set sectors place start in
    let s = split (length sectors) place ring.within ring.several in
    let far : map (pairs_at reading (set sectors place start)) (rest (length sectors) place) ≡ map (pairs_at reading sectors) (rest (length sectors) place) =
    map_agree (pairs_at reading (set sectors place start)) (pairs_at reading sectors) (rest (length sectors) place)
    (All-weaker (IsFar (length sectors) place) (λ k. pairs_at reading (set sectors place start) k ≡ pairs_at reading sectors k) (λ k h. ap reading.pairs (elsewhere sectors place start k h.apart)) (rest (length sectors) place) s.inside) in
    record {
      form = collects.form;
      items = λ id. collects.items id ∙ ap (λ ps. last ps id) one.1;
      parts = collects.parts
          ∙ ap (λ (n : ℕ). map (pairs_at reading (set sectors place start)) (rest n place) ++ to_copy reading (set sectors place start) place ∷ []) long
          ∙ ap (λ xs. xs ++ to_copy reading (set sectors place start) place ∷ []) far
          ∙ ap (λ ps. map (pairs_at reading sectors) (rest (length sectors) place) ++ ps ∷ []) (to_copy-kept reading sectors place start ring.within ring.several);
    }

-- ---- a round

pub oldest-is : (victim : List (ℕ × List ℕ)) (others : List (List (ℕ × List ℕ))) → collect_oldest (victim ∷ others) ≡ others ++ live_pairs victim (joined others) ∷ []
unfolding collect_oldest
oldest-is victim others = refl

live-none : (others : List (ℕ × List ℕ)) → live_pairs [] others ≡ []
unfolding live_pairs
live-none others = refl

module _ (reading : Reading) (laws : IsReading reading) (sectors : List (List ℕ)) (place : ℕ) (closed : List ℕ) (form : AtRest reading sectors place) (closes : Closes reading (sector_at sectors place) closed) (sound : is_sound reading closed ≡ true) where
  mid : List (List ℕ)
  mid = set sectors place closed

  long : length (set sectors place closed) ≡ length sectors
  long = length-set sectors place closed

  same_next : next sectors (next sectors place) ≡ next (set sectors place closed) (next sectors place)
  same_next = ap (λ (n : ℕ). after n (next sectors place)) (sym long)

  -- the victim's pairs, and the parts behind it
  before : parts reading sectors place ≡ pairs_at reading (set sectors place closed) (next (set sectors place closed) (next sectors place)) ∷ map (pairs_at reading (set sectors place closed)) (rest (length (set sectors place closed)) (next sectors place))
  before =
      close_parts reading sectors place closed form.ring.within form.ring.several closes
      ∙ ap (λ (k : ℕ). pairs_at reading (set sectors place closed) k ∷ map (pairs_at reading (set sectors place closed)) (rest (length sectors) (next sectors place))) same_next
      ∙ ap (λ (n : ℕ). pairs_at reading (set sectors place closed) (next (set sectors place closed) (next sectors place)) ∷ map (pairs_at reading (set sectors place closed)) (rest n (next sectors place))) (sym long)

  goal : collect_oldest (parts reading sectors place) ≡ map (pairs_at reading (set sectors place closed)) (rest (length (set sectors place closed)) (next sectors place))
      ++ live_pairs (pairs_at reading (set sectors place closed) (next (set sectors place closed) (next sectors place))) (joined (map (pairs_at reading (set sectors place closed)) (rest (length (set sectors place closed)) (next sectors place)))) ∷ []
  goal = ap collect_oldest before ∙ oldest-is (pairs_at reading (set sectors place closed) (next (set sectors place closed) (next sectors place))) (map (pairs_at reading (set sectors place closed)) (rest (length (set sectors place closed)) (next sectors place)))

  step_list : area_pairs reading (set sectors place closed) (next sectors place) ≡ area_pairs reading sectors place
  step_list = (close reading laws sectors place closed form closes sound).1

  -- Where the sector after the new open one is blank, closing is all.
  pub round_blank : AtRest reading (set sectors place closed) (next sectors place) → IsRound reading sectors place (set sectors place closed)
  round_blank rested =
      let blank = next_blank reading (set sectors place closed) (next sectors place) rested in
      let later = map (pairs_at reading (set sectors place closed)) (rest (length (set sectors place closed)) (next sectors place)) in
      let victim = pairs_at reading (set sectors place closed) (next (set sectors place closed) (next sectors place)) in
      let nothing : victim ≡ [] = laws.pairs (sector_at (set sectors place closed) (next (set sectors place closed) (next sectors place))) blank in
      let other : next sectors place ≡ place → ⊥ = after-apart (length sectors) place form.ring.within form.ring.several in
      let opened : reading.is_blank (sector_at (set sectors place closed) (next sectors place)) ≡ true = ap reading.is_blank (elsewhere sectors place closed (next sectors place) other) ∙ next_blank reading sectors place form in
      let here : pairs_at reading (set sectors place closed) (next sectors place) ≡ [] = laws.pairs (sector_at (set sectors place closed) (next sectors place)) opened in
      record {
        form = rested;
        items = λ id. ap (λ ps. last ps id) step_list;
        parts = ap (λ ps. later ++ ps ∷ []) (here ∙ sym (live-none (joined later)) ∙ ap (λ v. live_pairs v (joined later)) (sym nothing)) ∙ sym goal;
      }

  -- Else its live pairs are collected.
  pub round_collected : (new : List (List ℕ)) → Collects reading (set sectors place closed) (next sectors place) new → IsRound reading sectors place new
  round_collected new collects =
      let later = map (pairs_at reading (set sectors place closed)) (rest (length (set sectors place closed)) (next sectors place)) in
      let victim = pairs_at reading (set sectors place closed) (next (set sectors place closed) (next sectors place)) in
      record {
        form = collects.form;
        items = λ id. collects.items id ∙ ap (λ ps. last ps id) step_list;
        parts =
            collects.parts
            ∙ ap (λ others. later ++ live_pairs victim others ∷ []) (sym (flat_map-map (λ (part : List (ℕ × List ℕ)). part) (pairs_at reading (set sectors place closed)) (rest (length (set sectors place closed)) (next sectors place))))
            ∙ sym goal;
      }

-- What all live pairs cost is the same before a round and after it.
pub round-live : (reading : Reading) (laws : IsReading reading) (price : ℕ → ℕ) (old : List (List ℕ)) (place : ℕ) (new : List (List ℕ)) → AtRest reading old place → IsRound reading old place new
    → live_cost price (area_pairs reading new (next old place)) ≡ live_cost price (area_pairs reading old place)
round-live reading laws price old place new form round =
    ap (live_cost price) (parts-list reading laws new (next old place) round.form ∙ ap joined round.parts) ∙ live-collect price (parts reading old place) ∙ ap (live_cost price) (sym (parts-list reading laws old place form))

-- ---- rounds that find no room

pub no_round : (price : ℕ → ℕ) (need capacity : ℕ) (start : List (List (ℕ × List ℕ))) → FindsNoRoom price need capacity start start 0
no_round price need capacity start = none_yet live_pairs (copies_cost price) (are_rounds price) need capacity start

some_more : (price : ℕ → ℕ) (need capacity : ℕ) (start now : List (List (ℕ × List ℕ))) (rounds : ℕ) → FindsNoRoom price need capacity start now rounds → rounds < length start
    → ((victim : List (ℕ × List ℕ)) (others : List (List (ℕ × List ℕ))) → now ≡ victim ∷ others → capacity < copies_cost price (live_pairs victim (joined others)) + need)
    → FindsNoRoom price need capacity start (collect_oldest now) (rounds + 1)
unfolding collect_oldest
some_more price need capacity start [] rounds finds more full =
    absurd (let none = ap length finds.are in let count = length-append finds.old finds.new in let left = finds.left in let made = finds.made in omega arith)
some_more price need capacity start (victim ∷ others) rounds finds more full =
    one_more live_pairs (copies_cost price) (are_rounds price) need capacity start rounds victim others finds more (full victim others refl)

pub round_more : (price : ℕ → ℕ) (need capacity : ℕ) (start now : List (List (ℕ × List ℕ))) (rounds : ℕ) → FindsNoRoom price need capacity start now rounds → rounds < length start
    → ((victim : List (ℕ × List ℕ)) (others : List (List (ℕ × List ℕ))) → now ≡ victim ∷ others → capacity < copies_cost price (live_pairs victim (joined others)) + need)
    → FindsNoRoom price need capacity start (collect_oldest now) (rounds + 1)
round_more price need capacity start now rounds finds more full = some_more price need capacity start now rounds finds more full

-- After a round for each part, the live pairs leave no room for it in any sector.
pub no_room : (price : ℕ → ℕ) (need capacity : ℕ) (start now : List (List (ℕ × List ℕ))) → FindsNoRoom price need capacity start now (length start) → 0 < length start → need ≤ capacity
    → length start * (capacity - need) < live_cost price (joined now)
no_room price need capacity start now finds some small = never_room live_pairs (copies_cost price) (are_rounds price) need capacity start now finds some small

-- Then each sector of the area has live pairs alone, and no room but the blank one.
pub crammed : (reading : Reading) (laws : IsReading reading) (price : ℕ → ℕ) (need capacity : ℕ) (start : List (List (ℕ × List ℕ))) (sectors : List (List ℕ)) (place : ℕ) → AtRest reading sectors place
    → FindsNoRoom price need capacity start (parts reading sectors place) (length start) → IsCrammed reading price need capacity sectors place
crammed reading laws price need capacity start sectors place form finds =
    let list : area_pairs reading sectors place ≡ joined (parts reading sectors place) = parts-list reading laws sectors place form in
    record {
      all_live = subst (λ ps. live_pairs ps [] ≡ ps) (sym list) (now_live live_pairs (copies_cost price) (are_rounds price) need capacity start (parts reading sectors place) finds);
      full = now_full live_pairs (copies_cost price) (are_rounds price) need capacity start (parts reading sectors place) finds;
    }

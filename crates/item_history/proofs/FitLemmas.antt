-- The items of an area at rest cost no more than all sectors but one have room for.
use Rattle.std.proofs.Common.{◌≡◌, ℕ, ◌+◌, ◌-◌, ◌*◌, ◌<◌, ◌≤◌, cond, eqb, List, [], ◌∷◌, length, map, sym, ap, subst, ◌∙◌, arith}
use Rattle.std.specs.List.{All}
use Rattle.std.proofs.lemmas.List.Concat.{flat_map-cons}
use Rattle.std.proofs.lemmas.List.Elements.{All-nil, All-cons, All-head, All-tail, All-append, All-map, All-weaker}
use Rattle.std.proofs.lemmas.List.Sums.{sum_by-append}
use Rattle.flash_map.specs.Area.{sector_at}
use Rattle.item_laws.specs.PairRounds.{joined, live_cost, stored_cost}
use Rattle.item_laws.specs.Area.{open_sector}
use Rattle.item_laws.specs.Forms.{pairs_at, rest}
use Rattle.item_laws.specs.Rounds.{parts}
use Rattle.item_laws.proofs.LiveCost.{live-le}
use Rattle.item_laws.proofs.Parts.{parts-count, parts-list}
use Rattle.item_laws.proofs.Places.{IsFar, split}
use Rattle.item_history.specs.Laws.{ItemsFit}

-- parts that cost at most so much each
each_fits : (price : ℕ → ℕ) (cap : ℕ) (ps : List (List (ℕ × List ℕ))) → All (λ p. stored_cost price p ≤ cap) ps → stored_cost price (joined ps) ≤ length ps * cap
each_fits price cap [] fits = omega arith
each_fits price cap (p ∷ ps) fits =
    let own : stored_cost price p ≤ cap = All-head (λ p. stored_cost price p ≤ cap) p ps fits in
    let later = each_fits price cap ps (All-tail (λ p. stored_cost price p ≤ cap) p ps fits) in
    let all : stored_cost price (joined (p ∷ ps)) ≡ stored_cost price p + stored_cost price (joined ps) =
    ap (stored_cost price) (flat_map-cons (λ (part : List (ℕ × List ℕ)). part) p ps) ∙ sum_by-append (λ (pair : ℕ × List ℕ). cond (eqb (length pair.1) 0) 0 (price (length pair.1))) p (joined ps) in
    let more : length (p ∷ ps) * cap ≡ cap + length ps * cap = omega arith in
    omega arith

pub items_fit : ItemsFit
items_fit k sectors size law large long form =
    let place : ℕ = open_sector k.reading sectors in
    let within = form.ring.within in
    let several = form.ring.several in
    let part_fits : (j : ℕ) → j < length sectors → stored_cost k.cost (pairs_at k.reading sectors j) ≤ k.cap size =
    λ j inside. subst (λ (n : ℕ). stored_cost k.cost (k.reading.pairs (sector_at sectors j)) ≤ k.cap n) (long j inside)
    (law.costs (sector_at sectors j) (subst (λ (n : ℕ). 512 ≤ n) (sym (long j inside)) large) (form.sound j inside)) in
    let far : All (λ j. stored_cost k.cost (pairs_at k.reading sectors j) ≤ k.cap size) (rest (length sectors) place) =
    All-weaker (IsFar (length sectors) place) (λ j. stored_cost k.cost (pairs_at k.reading sectors j) ≤ k.cap size) (λ j is. part_fits j is.within) (rest (length sectors) place) (split (length sectors) place within several).inside in
    let each : All (λ p. stored_cost k.cost p ≤ k.cap size) (parts k.reading sectors place) =
    All-append (λ p. stored_cost k.cost p ≤ k.cap size) (map (pairs_at k.reading sectors) (rest (length sectors) place)) (pairs_at k.reading sectors place ∷ [])
    (All-map (λ p. stored_cost k.cost p ≤ k.cap size) (pairs_at k.reading sectors) (rest (length sectors) place) far)
    (All-cons (λ p. stored_cost k.cost p ≤ k.cap size) (pairs_at k.reading sectors place) [] (part_fits place within) (All-nil (λ (p : List (ℕ × List ℕ)). stored_cost k.cost p ≤ k.cap size))) in
    let count : length (parts k.reading sectors place) ≡ length sectors - 1 = (let c = parts-count k.reading sectors place within several in omega arith) in
    let all = each_fits k.cost (k.cap size) (parts k.reading sectors place) each in
    let live = live-le k.cost (joined (parts k.reading sectors place)) [] in
    subst (λ ps. live_cost k.cost ps ≤ (length sectors - 1) * k.cap size) (sym (parts-list k.reading law.reads sectors place form))
    (let most : length (parts k.reading sectors place) * k.cap size ≡ (length sectors - 1) * k.cap size = ap (λ (n : ℕ). n * k.cap size) count in omega arith)

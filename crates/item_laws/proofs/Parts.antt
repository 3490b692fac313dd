-- The parts of an area's list, and what closing and collecting do to them.
use Rattle.std.proofs.Common.{◌≡◌, ℕ, ◌+◌, ◌-◌, ◌<◌, ◌≤◌, List, [], ◌∷◌, ◌++◌, length, map, set, refl, sym, ap, ◌∙◌, inl, arith}
use Rattle.std.specs.List.{flat_map, range_with_len, All}
use Rattle.std.proofs.lemmas.List.{append-nil, length-append, length-drop, length-map, length-set, map-append}
use Rattle.std.proofs.lemmas.List.Elements.{All-head, All-tail, All-weaker}
use Rattle.std.proofs.lemmas.List.Concat.{flat_map-append}
use Rattle.std.proofs.lemmas.List.Folds.{flat_map-map}
use Rattle.std.proofs.lemmas.List.FromFn.{length-range_with_len}
use Rattle.item_laws.specs.LivePairs.{live_pairs}
use Rattle.flash_map.specs.Area.{sector_at}
use Rattle.item_laws.specs.Area.{next, area_pairs}
use Rattle.item_laws.specs.Forms.{AtRest, others, rest, pairs_at, to_copy}
use Rattle.item_laws.specs.Reading.{Reading, IsReading}
use Rattle.item_laws.specs.PairRounds.{joined}
use Rattle.item_laws.specs.Rounds.{parts}
use Rattle.item_laws.specs.Steps.{Closes}
use Rattle.item_laws.proofs.Collects.{list-before_close}
use Rattle.item_laws.proofs.Lists.{there, elsewhere, rest-kept}
use Rattle.item_laws.proofs.Places.{after, after-within, after-apart, IsFar, split}

pub map_agree : {X : Type 0} (f g : ℕ → X) (xs : List ℕ) → All (λ k. f k ≡ g k) xs → map f xs ≡ map g xs
map_agree f g [] h = refl
map_agree f g (x ∷ xs) h = ap (λ y. y ∷ map f xs) (All-head (λ k. f k ≡ g k) x xs h) ∙ ap (λ ys. g x ∷ ys) (map_agree f g xs (All-tail (λ k. f k ≡ g k) x xs h))

-- the parts are the list
pub parts-list : (reading : Reading) (laws : IsReading reading) (sectors : List (List ℕ)) (place : ℕ) → AtRest reading sectors place → area_pairs reading sectors place ≡ joined (parts reading sectors place)
parts-list reading laws sectors place form =
    list-before_close reading laws sectors place form
    ∙ sym (flat_map-append (λ (part : List (ℕ × List ℕ)). part) (map (pairs_at reading sectors) (rest (length sectors) place)) (pairs_at reading sectors place ∷ [])
    ∙ ap (λ ps. ps ++ joined (pairs_at reading sectors place ∷ [])) (flat_map-map (λ (part : List (ℕ × List ℕ)). part) (pairs_at reading sectors) (rest (length sectors) place))
    ∙ ap (λ ps. flat_map (pairs_at reading sectors) (rest (length sectors) place) ++ ps) (append-nil (pairs_at reading sectors place)))

-- there is one for each sector but the blank one
pub parts-count : (reading : Reading) (sectors : List (List ℕ)) (place : ℕ) → place < length sectors → 2 ≤ length sectors → length (parts reading sectors place) + 1 ≡ length sectors
parts-count reading sectors place within several =
    let a = length-append (map (pairs_at reading sectors) (rest (length sectors) place)) (pairs_at reading sectors place ∷ []) in
    let b = length-map (rest (length sectors) place) (pairs_at reading sectors) in
    let c = length-drop 1 (others (length sectors) place) in
    let d = length-append (range_with_len (place + 1) (length sectors - (place + 1))) (range_with_len 0 place) in
    let e = length-range_with_len (place + 1) (length sectors - (place + 1)) in
    let f = length-range_with_len 0 place in
    omega arith

-- what has to be copied stays while the open sector changes
pub to_copy-kept : (reading : Reading) (sectors : List (List ℕ)) (place : ℕ) (new : List ℕ) → place < length sectors → 2 ≤ length sectors → to_copy reading (set sectors place new) place ≡ to_copy reading sectors place
to_copy-kept reading sectors place new within several =
    let long : length (set sectors place new) ≡ length sectors = length-set sectors place new in
    ap (λ (n : ℕ). live_pairs (pairs_at reading (set sectors place new) (after n place)) (flat_map (pairs_at reading (set sectors place new)) (rest n place))) long
    ∙ ap (λ (b : List ℕ). live_pairs (reading.pairs b) (flat_map (pairs_at reading (set sectors place new)) (rest (length sectors) place))) (elsewhere sectors place new (next sectors place) (after-apart (length sectors) place within several))
    ∙ ap (live_pairs (pairs_at reading sectors (next sectors place))) (rest-kept reading sectors place place new within several (inl refl))

-- After the close entry the victim is the first part.
pub close_parts : (reading : Reading) (sectors : List (List ℕ)) (place : ℕ) (new : List ℕ) → place < length sectors → 2 ≤ length sectors → Closes reading (sector_at sectors place) new
    → let after_close = set sectors place new in
    parts reading sectors place ≡ pairs_at reading after_close (next sectors (next sectors place)) ∷ map (pairs_at reading after_close) (rest (length sectors) (next sectors place))
close_parts reading sectors place new within several closes =
    let s = split (length sectors) place within several in
    let t = split (length sectors) (after (length sectors) place) (after-within (length sectors) place within) several in
    let far : map (pairs_at reading sectors) (rest (length sectors) place) ≡ map (pairs_at reading (set sectors place new)) (rest (length sectors) place) =
    map_agree (pairs_at reading sectors) (pairs_at reading (set sectors place new)) (rest (length sectors) place)
    (All-weaker (IsFar (length sectors) place) (λ k. pairs_at reading sectors k ≡ pairs_at reading (set sectors place new) k) (λ k h. ap reading.pairs (sym (elsewhere sectors place new k h.apart))) (rest (length sectors) place) s.inside) in
    let here : pairs_at reading sectors place ≡ pairs_at reading (set sectors place new) place = sym (ap reading.pairs (there sectors place new within) ∙ closes.list) in
    ap (λ xs. xs ++ pairs_at reading sectors place ∷ []) far ∙ ap (λ x. map (pairs_at reading (set sectors place new)) (rest (length sectors) place) ++ x ∷ []) here
    ∙ sym (map-append (pairs_at reading (set sectors place new)) (rest (length sectors) place) (place ∷ []))
    ∙ ap (map (pairs_at reading (set sectors place new))) (sym s.rotated) ∙ ap (map (pairs_at reading (set sectors place new))) t.first

-- After the collection it is gone, and its live pairs are the last part.
pub collect_parts : (reading : Reading) (sectors : List (List ℕ)) (place : ℕ) (marked blank : List ℕ) → place < length sectors → 2 ≤ length sectors → reading.pairs marked ≡ to_copy reading sectors place
    → parts reading (set (set sectors place marked) (next sectors place) blank) place ≡ map (pairs_at reading sectors) (rest (length sectors) place) ++ to_copy reading sectors place ∷ []
collect_parts reading sectors place marked blank within several copies =
    let last_set = set (set sectors place marked) (next sectors place) blank in
    let s = split (length sectors) place within several in
    let long : length (set (set sectors place marked) (next sectors place) blank) ≡ length sectors = length-set (set sectors place marked) (next sectors place) blank ∙ length-set sectors place marked in
    let other : place ≡ next sectors place → ⊥ = λ (e : place ≡ next sectors place). after-apart (length sectors) place within several (sym e) in
    let far : map (pairs_at reading last_set) (rest (length sectors) place) ≡ map (pairs_at reading sectors) (rest (length sectors) place) =
    map_agree (pairs_at reading last_set) (pairs_at reading sectors) (rest (length sectors) place)
    (All-weaker (IsFar (length sectors) place) (λ k. pairs_at reading last_set k ≡ pairs_at reading sectors k)
    (λ k h. ap reading.pairs (elsewhere (set sectors place marked) (next sectors place) blank k h.not_after ∙ elsewhere sectors place marked k h.apart)) (rest (length sectors) place) s.inside) in
    let here : pairs_at reading last_set place ≡ to_copy reading sectors place = ap reading.pairs (elsewhere (set sectors place marked) (next sectors place) blank place other ∙ there sectors place marked within) ∙ copies in
    ap (λ (n : ℕ). map (pairs_at reading last_set) (rest n place) ++ pairs_at reading last_set place ∷ []) long ∙ ap (λ xs. xs ++ pairs_at reading last_set place ∷ []) far
    ∙ ap (λ x. map (pairs_at reading sectors) (rest (length sectors) place) ++ x ∷ []) here

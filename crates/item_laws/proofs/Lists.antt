-- The list of an area in each of the forms, and how the forms change with a sector.
use Rattle.std.proofs.Common.{◌≡◌, ℕ, ◌<◌, ◌≤◌, ◌⊎◌, Bool, true, false, not, ◌&&◌, cond, eqb, List, [], ◌∷◌, ◌++◌, length, set, refl, sym, ap, ◌∙◌, inl, inr}
use Rattle.std.specs.List.{filter, flat_map, All}
use Rattle.std.proofs.lemmas.Bool.{eq-eqb, ne_eqb, le-ltb, not_from_true, not_from_false}
use Rattle.std.proofs.lemmas.List.{append-nil, get_or-set_same, get_or-set_other}
use Rattle.std.proofs.lemmas.List.Elements.{All-weaker, filter-append}
use Rattle.std.proofs.lemmas.List.Concat.{flat_map-append, flat_map-cons}
use Rattle.item_laws.specs.Area.{next, is_closed_at, counts_at, area_pairs}
use Rattle.flash_map.specs.Area.{sector_at}
use Rattle.item_laws.specs.Forms.{IsRing, others, rest, pairs_at}
use Rattle.item_laws.proofs.Places.{after, after-apart, filter_all, flat_map-agree, others-All, round-is, IsFar, split}
use Rattle.item_laws.proofs.Rings.{next-closed}
use Rattle.item_laws.specs.Reading.{Reading}

-- ---- which sectors count

pub counts-next : (reading : Reading) (sectors : List (List ℕ)) (place k : ℕ) (closed done : Bool) → is_closed_at reading sectors (next sectors place) ≡ closed → reading.has_gc_done (sector_at sectors place) ≡ done
    → counts_at reading sectors place k ≡ not (closed && eqb k (cond done (next sectors place) place))
counts-next reading sectors place k closed done c d =
    ap (λ (t : Bool). not (t && eqb k (cond (reading.has_gc_done (sector_at sectors place)) (next sectors place) place))) c ∙ ap (λ (t : Bool). not (closed && eqb k (cond t (next sectors place) place))) d

pub counts-at_rest : (reading : Reading) (sectors : List (List ℕ)) (place blanks k : ℕ) → IsRing reading sectors place blanks → 0 < blanks → counts_at reading sectors place k ≡ true
counts-at_rest reading sectors place blanks k ring some =
    counts-next reading sectors place k false (reading.has_gc_done (sector_at sectors place)) (next-closed reading sectors place blanks ring ∙ le-ltb blanks 1 some) refl

pub counts-collecting : (reading : Reading) (sectors : List (List ℕ)) (place k : ℕ) → IsRing reading sectors place 0 → reading.has_gc_done (sector_at sectors place) ≡ false → counts_at reading sectors place k ≡ not (eqb k place)
counts-collecting reading sectors place k ring none = counts-next reading sectors place k true false (next-closed reading sectors place 0 ring) none

pub counts-collected : (reading : Reading) (sectors : List (List ℕ)) (place k : ℕ) → IsRing reading sectors place 0 → reading.has_gc_done (sector_at sectors place) ≡ true → counts_at reading sectors place k ≡ not (eqb k (next sectors place))
counts-collected reading sectors place k ring done = counts-next reading sectors place k true true (next-closed reading sectors place 0 ring) done

-- ---- the list

pub list-split : (reading : Reading) (sectors : List (List ℕ)) (place : ℕ) → area_pairs reading sectors place ≡ flat_map (pairs_at reading sectors) (filter (counts_at reading sectors place) (others (length sectors) place)) ++ flat_map (pairs_at reading sectors) (filter (counts_at reading sectors place) (place ∷ []))
unfolding area_pairs
list-split reading sectors place =
    ap (λ ks. flat_map (pairs_at reading sectors) (filter (counts_at reading sectors place) ks)) (round-is (length sectors) place)
    ∙ ap (flat_map (pairs_at reading sectors)) (filter-append (counts_at reading sectors place) (others (length sectors) place) (place ∷ []))
    ∙ flat_map-append (pairs_at reading sectors) (filter (counts_at reading sectors place) (others (length sectors) place)) (filter (counts_at reading sectors place) (place ∷ []))

pub one-counts : (reading : Reading) (sectors : List (List ℕ)) (place : ℕ) (counts : Bool) → counts_at reading sectors place place ≡ counts → flat_map (pairs_at reading sectors) (filter (counts_at reading sectors place) (place ∷ [])) ≡ cond counts (pairs_at reading sectors place) []
one-counts reading sectors place true c = ap (λ (t : Bool). flat_map (pairs_at reading sectors) (cond t (place ∷ []) [])) c ∙ append-nil (pairs_at reading sectors place)
one-counts reading sectors place false c = ap (λ (t : Bool). flat_map (pairs_at reading sectors) (cond t (place ∷ []) [])) c

pub list-at_rest : (reading : Reading) (sectors : List (List ℕ)) (place blanks : ℕ) → IsRing reading sectors place blanks → 0 < blanks
    → area_pairs reading sectors place ≡ flat_map (pairs_at reading sectors) (others (length sectors) place) ++ pairs_at reading sectors place
list-at_rest reading sectors place blanks ring some =
    let all : filter (counts_at reading sectors place) (others (length sectors) place) ≡ others (length sectors) place =
    filter_all (counts_at reading sectors place) (others (length sectors) place) (others-All (λ k. counts_at reading sectors place k ≡ true) (length sectors) place ring.within (λ k lt apart. counts-at_rest reading sectors place blanks k ring some)) in
    list-split reading sectors place
    ∙ ap (λ ks. flat_map (pairs_at reading sectors) ks ++ flat_map (pairs_at reading sectors) (filter (counts_at reading sectors place) (place ∷ []))) all
    ∙ ap (λ ps. flat_map (pairs_at reading sectors) (others (length sectors) place) ++ ps) (one-counts reading sectors place true (counts-at_rest reading sectors place blanks place ring some))

pub list-collecting : (reading : Reading) (sectors : List (List ℕ)) (place : ℕ) → IsRing reading sectors place 0 → reading.has_gc_done (sector_at sectors place) ≡ false
    → area_pairs reading sectors place ≡ flat_map (pairs_at reading sectors) (others (length sectors) place)
list-collecting reading sectors place ring none =
    let all : filter (counts_at reading sectors place) (others (length sectors) place) ≡ others (length sectors) place =
    filter_all (counts_at reading sectors place) (others (length sectors) place)
    (others-All (λ k. counts_at reading sectors place k ≡ true) (length sectors) place ring.within (λ k lt apart. counts-collecting reading sectors place k ring none ∙ not_from_false (eqb k place) (ne_eqb k place apart))) in
    list-split reading sectors place
    ∙ ap (λ ks. flat_map (pairs_at reading sectors) ks ++ flat_map (pairs_at reading sectors) (filter (counts_at reading sectors place) (place ∷ []))) all
    ∙ ap (λ ps. flat_map (pairs_at reading sectors) (others (length sectors) place) ++ ps) (one-counts reading sectors place false (counts-collecting reading sectors place place ring none ∙ not_from_true (eqb place place) (eq-eqb place place refl)))
    ∙ append-nil (flat_map (pairs_at reading sectors) (others (length sectors) place))

filter_first : (p : ℕ → Bool) (x : ℕ) (xs : List ℕ) → p x ≡ false → All (λ k. p k ≡ true) xs → filter p (x ∷ xs) ≡ xs
filter_first p x xs no_first all = ap (λ (t : Bool). cond t (x ∷ filter p xs) (filter p xs)) no_first ∙ filter_all p xs all

pub list-collected : (reading : Reading) (sectors : List (List ℕ)) (place : ℕ) → IsRing reading sectors place 0 → reading.has_gc_done (sector_at sectors place) ≡ true
    → area_pairs reading sectors place ≡ flat_map (pairs_at reading sectors) (rest (length sectors) place) ++ pairs_at reading sectors place
list-collected reading sectors place ring done =
    let s = split (length sectors) place ring.within ring.several in
    let all : filter (counts_at reading sectors place) (others (length sectors) place) ≡ rest (length sectors) place =
    ap (filter (counts_at reading sectors place)) s.first
    ∙ filter_first (counts_at reading sectors place) (after (length sectors) place) (rest (length sectors) place)
    (counts-collected reading sectors place (next sectors place) ring done ∙ not_from_true (eqb (next sectors place) (next sectors place)) (eq-eqb (next sectors place) (next sectors place) refl))
    (All-weaker (IsFar (length sectors) place) (λ k. counts_at reading sectors place k ≡ true) (λ k far. counts-collected reading sectors place k ring done ∙ not_from_false (eqb k (next sectors place)) (ne_eqb k (next sectors place) far.not_after)) (rest (length sectors) place) s.inside) in
    list-split reading sectors place
    ∙ ap (λ ks. flat_map (pairs_at reading sectors) ks ++ flat_map (pairs_at reading sectors) (filter (counts_at reading sectors place) (place ∷ []))) all
    ∙ ap (λ ps. flat_map (pairs_at reading sectors) (rest (length sectors) place) ++ ps)
    (one-counts reading sectors place true (counts-collected reading sectors place place ring done ∙ not_from_false (eqb place (next sectors place)) (ne_eqb place (next sectors place) (λ (e : place ≡ next sectors place). after-apart (length sectors) place ring.within ring.several (sym e)))))

-- the victim's pairs stand first in the list of the others
pub others-victim : (reading : Reading) (sectors : List (List ℕ)) (place : ℕ) → place < length sectors → 2 ≤ length sectors
    → flat_map (pairs_at reading sectors) (others (length sectors) place) ≡ pairs_at reading sectors (next sectors place) ++ flat_map (pairs_at reading sectors) (rest (length sectors) place)
others-victim reading sectors place within several =
    let s = split (length sectors) place within several in
    ap (flat_map (pairs_at reading sectors)) s.first ∙ flat_map-cons (pairs_at reading sectors) (after (length sectors) place) (rest (length sectors) place)

-- ---- one sector changes

pub there : (sectors : List (List ℕ)) (place : ℕ) (new : List ℕ) → place < length sectors → sector_at (set sectors place new) place ≡ new
there sectors place new within = get_or-set_same sectors place new [] within

pub elsewhere : (sectors : List (List ℕ)) (place : ℕ) (new : List ℕ) (k : ℕ) → (k ≡ place → ⊥) → sector_at (set sectors place new) k ≡ sector_at sectors k
elsewhere sectors place new k apart = get_or-set_other sectors place k new [] apart

pub others-kept : (reading : Reading) (sectors : List (List ℕ)) (place : ℕ) (new : List ℕ) → place < length sectors
    → flat_map (pairs_at reading (set sectors place new)) (others (length sectors) place) ≡ flat_map (pairs_at reading sectors) (others (length sectors) place)
others-kept reading sectors place new within =
    flat_map-agree (pairs_at reading (set sectors place new)) (pairs_at reading sectors) (others (length sectors) place)
    (others-All (λ k. pairs_at reading (set sectors place new) k ≡ pairs_at reading sectors k) (length sectors) place within (λ k lt apart. ap (reading.pairs) (elsewhere sectors place new k apart)))

-- the far sectors stay where the open one changes, or the one after it
pub rest-kept : (reading : Reading) (sectors : List (List ℕ)) (place at : ℕ) (new : List ℕ) → place < length sectors → 2 ≤ length sectors → (at ≡ place) ⊎ (at ≡ next sectors place)
    → flat_map (pairs_at reading (set sectors at new)) (rest (length sectors) place) ≡ flat_map (pairs_at reading sectors) (rest (length sectors) place)
rest-kept reading sectors place at new within several which =
    let s = split (length sectors) place within several in
    flat_map-agree (pairs_at reading (set sectors at new)) (pairs_at reading sectors) (rest (length sectors) place)
    (All-weaker (IsFar (length sectors) place) (λ k. pairs_at reading (set sectors at new) k ≡ pairs_at reading sectors k)
    (λ k far. ap (reading.pairs) (elsewhere sectors at new k (λ (e : k ≡ at). elim which [ inl p ↦ far.apart (e ∙ p) | inr n ↦ far.not_after (e ∙ n) ]))) (rest (length sectors) place) s.inside)

-- The open sector, and the list with it, where bytes are put into it. Nothing here asks for a form.
use Rattle.std.proofs.Common.{◌≡◌, ℕ, zero, suc, ◌+◌, ◌<◌, ◌≤◌, Bool, true, false, not, ◌&&◌, cond, List, [], ◌∷◌, ◌++◌, length, set, Option, Some, None, refl, sym, ap, subst, ◌∙◌, inl, inr, arith}
use Rattle.std.specs.Prelude.{unwrap_or}
use Rattle.std.specs.List.{filter, find, flat_map, range_with_len, slice_get, All}
use Rattle.std.proofs.lemmas.Bool.{cases_Bool, cases_eq, not_from_true, not_from_false, not-true, not-false}
use Rattle.std.proofs.lemmas.List.{length-set}
use Rattle.std.proofs.lemmas.List.Elements.{All-head, All-tail}
use Rattle.item_laws.specs.Area.{next, previous, places, is_closed_at, is_blank_at, follows_closed, openings, open_sector, counts_at, area_pairs}
use Rattle.flash_map.specs.Area.{sector_at}
use Rattle.item_laws.specs.Forms.{others, pairs_at}
use Rattle.item_laws.specs.Reading.{Reading}
use Rattle.item_laws.proofs.Lists.{counts-next, list-split, one-counts, there, elsewhere, others-kept}
use Rattle.item_laws.proofs.Places.{after, before, All-range, filter_all, others-All, find_none, find_first}
use Rattle.item_laws.proofs.Undamaged.{found, find-filter, find_none_all, at_range, option_cases}

pub filter-agree : (p q : ℕ → Bool) (xs : List ℕ) → All (λ k. p k ≡ q k) xs → filter p xs ≡ filter q xs
filter-agree p q [] all = refl
filter-agree p q (x ∷ xs) all =
    ap (λ (t : Bool). cond t (x ∷ filter p xs) (filter p xs)) (All-head (λ k. p k ≡ q k) x xs all)
    ∙ ap (λ (ys : List ℕ). cond (q x) (x ∷ ys) ys) (filter-agree p q xs (All-tail (λ k. p k ≡ q k) x xs all))

some_none : (x : ℕ) → Some x ≡ None → ⊥
some_none x e = cc

same_some : (x y : ℕ) → Some x ≡ Some y → x ≡ y
same_some x y e = cc

-- those before the first that passes do not
before_found : (p : ℕ → Bool) (a n at k : ℕ) → find p (range_with_len a n) ≡ Some at → a ≤ k → k < at → p k ≡ false
before_found p a zero at k e low high = absurd (some_none at (sym e))
before_found p a (suc n) at k e low high =
    elim (cases_Bool (p a)) [
      | inl here ↦ let is : a ≡ at = same_some a at (sym (ap (λ (t : Bool). cond t (Some a) (find p (range_with_len (a + 1) n))) here) ∙ e) in absurd (omega arith)
      | inr apart ↦
          elim (cases_eq a k) [
            | inl same ↦ ap p (sym same) ∙ apart
            | inr other ↦ before_found p (a + 1) n at k (sym (ap (λ (t : Bool). cond t (Some a) (find p (range_with_len (a + 1) n))) apart) ∙ e) (omega (arith, other)) high
          ]
    ]

module _ (reading : Reading) (sectors : List (List ℕ)) (place : ℕ) (new : List ℕ) (within : place < length sectors) where
  long : length (set sectors place new) ≡ length sectors
  long = length-set sectors place new

  module _ (same : reading.is_closed new ≡ is_closed_at reading sectors place) where
    pub closed_kept : (k : ℕ) → is_closed_at reading (set sectors place new) k ≡ is_closed_at reading sectors k
    closed_kept k =
        elim (cases_eq k place) [
          | inl e ↦ ap (is_closed_at reading (set sectors place new)) e ∙ ap reading.is_closed (there sectors place new within) ∙ same ∙ ap (is_closed_at reading sectors) (sym e)
          | inr apart ↦ ap reading.is_closed (elsewhere sectors place new k apart)
        ]

    follows_kept : (k : ℕ) → follows_closed reading (set sectors place new) k ≡ follows_closed reading sectors k
    follows_kept k =
        ap (λ (t : Bool). not t && is_closed_at reading (set sectors place new) (previous (set sectors place new) k)) (closed_kept k)
        ∙ ap (λ (t : Bool). not (is_closed_at reading sectors k) && t) (closed_kept (previous (set sectors place new) k) ∙ ap (λ (n : ℕ). is_closed_at reading sectors (before n k)) long)

    openings_kept : openings reading (set sectors place new) ≡ openings reading sectors
    openings_kept =
        ap (λ (n : ℕ). filter (follows_closed reading (set sectors place new)) (range_with_len 0 n)) long
        ∙ filter-agree (follows_closed reading (set sectors place new)) (follows_closed reading sectors) (places sectors)
        (All-range (λ k. follows_closed reading (set sectors place new) k ≡ follows_closed reading sectors k) 0 (length sectors) (λ k low high. follows_kept k))

    pub next_kept : is_closed_at reading (set sectors place new) (next (set sectors place new) place) ≡ is_closed_at reading sectors (next sectors place)
    next_kept = closed_kept (next (set sectors place new) place) ∙ ap (λ (n : ℕ). is_closed_at reading sectors (after n place)) long

    -- the sector that was open stays so
    pub open_kept : open_sector reading sectors ≡ place → (reading.is_blank (sector_at sectors place) ≡ false → reading.is_blank new ≡ false) → open_sector reading (set sectors place new) ≡ place
    unfolding open_sector
    open_kept is used =
        elim (option_cases (slice_get (openings reading sectors) 0)) [
          | inr (p, some) ↦
              ap (λ (xs : List ℕ). unwrap_or (slice_get xs 0) (unwrap_or (find (λ k. not (is_blank_at reading (set sectors place new) k)) (places (set sectors place new))) 0)) openings_kept
              ∙ ap (λ (o : Option ℕ). unwrap_or o (unwrap_or (find (λ k. not (is_blank_at reading (set sectors place new) k)) (places (set sectors place new))) 0)) some
              ∙ sym (ap (λ (o : Option ℕ). unwrap_or o (unwrap_or (find (λ k. not (is_blank_at reading sectors k)) (places sectors)) 0)) some) ∙ is
          | inl none ↦
              ap (λ (xs : List ℕ). unwrap_or (slice_get xs 0) (unwrap_or (find (λ k. not (is_blank_at reading (set sectors place new) k)) (places (set sectors place new))) 0)) openings_kept
              ∙ ap (λ (o : Option ℕ). unwrap_or o (unwrap_or (find (λ k. not (is_blank_at reading (set sectors place new) k)) (places (set sectors place new))) 0)) none
              ∙ ap (λ (n : ℕ). unwrap_or (find (λ k. not (is_blank_at reading (set sectors place new) k)) (range_with_len 0 n)) 0) long
              ∙ first_kept (sym (ap (λ (o : Option ℕ). unwrap_or o (unwrap_or (find (λ k. not (is_blank_at reading sectors k)) (places sectors)) 0)) none) ∙ is) used
        ]
      where
        blank_else : (k : ℕ) → (k ≡ place → ⊥) → is_blank_at reading (set sectors place new) k ≡ is_blank_at reading sectors k
        blank_else k apart = ap reading.is_blank (elsewhere sectors place new k apart)

        first_is : (at : ℕ) → at ≡ place → ((k : ℕ) → k < at → is_blank_at reading sectors k ≡ true) → reading.is_blank new ≡ false → unwrap_or (find (λ k. not (is_blank_at reading (set sectors place new) k)) (range_with_len 0 (length sectors))) 0 ≡ place
        first_is at e blank full =
            ap (λ (o : Option ℕ). unwrap_or o 0) (find_first (λ k. not (is_blank_at reading (set sectors place new) k)) place (length sectors) within
            (not_from_false (is_blank_at reading (set sectors place new) place) (ap reading.is_blank (there sectors place new within) ∙ full))
            (λ k below. not_from_true (is_blank_at reading (set sectors place new) k) (blank_else k (λ (s : k ≡ place). omega arith) ∙ blank k (omega arith))))

        first_kept : unwrap_or (find (λ k. not (is_blank_at reading sectors k)) (places sectors)) 0 ≡ place → (reading.is_blank (sector_at sectors place) ≡ false → reading.is_blank new ≡ false)
            → unwrap_or (find (λ k. not (is_blank_at reading (set sectors place new) k)) (range_with_len 0 (length sectors))) 0 ≡ place
        first_kept at used =
            elim (option_cases (find (λ k. not (is_blank_at reading sectors k)) (places sectors))) [
              | inr (p, some) ↦
                  let is : p ≡ place = sym (ap (λ (o : Option ℕ). unwrap_or o 0) some) ∙ at in
                  let here = found (λ k. not (is_blank_at reading sectors k)) 0 (length sectors) p some in
                  let full : is_blank_at reading sectors place ≡ false = ap (is_blank_at reading sectors) (sym is) ∙ not-true (is_blank_at reading sectors p) here.1 in
                  first_is p is (λ k below. not-false (is_blank_at reading sectors k) (before_found (λ k. not (is_blank_at reading sectors k)) 0 (length sectors) p k some (omega arith) below)) (used full)
              | inl none ↦
                  let zero_place : 0 ≡ place = sym (ap (λ (o : Option ℕ). unwrap_or o 0) none) ∙ at in
                  elim (cases_Bool (reading.is_blank new)) [
                    | inr full ↦ first_is 0 zero_place (λ k below. absurd (omega arith)) full
                    | inl blank ↦
                        ap (λ (o : Option ℕ). unwrap_or o 0) (find_none (λ k. not (is_blank_at reading (set sectors place new) k)) (range_with_len 0 (length sectors))
                        (All-range (λ k. not (is_blank_at reading (set sectors place new) k) ≡ false) 0 (length sectors)
                        (λ k low high. elim (cases_eq k place) [
                          | inl e ↦ not_from_true (is_blank_at reading (set sectors place new) k) (ap (is_blank_at reading (set sectors place new)) e ∙ ap reading.is_blank (there sectors place new within) ∙ blank)
                          | inr apart ↦ ap not (blank_else k apart) ∙ at_range (λ j. not (is_blank_at reading sectors j) ≡ false) (length sectors) k (find_none_all (λ j. not (is_blank_at reading sectors j)) (places sectors) none) (omega arith)
                        ]))) ∙ zero_place
                  ]
            ]

-- ---- the list, where the next sector is not closed

pub list-all : (reading : Reading) (sectors : List (List ℕ)) (place : ℕ) → place < length sectors → is_closed_at reading sectors (next sectors place) ≡ false
    → area_pairs reading sectors place ≡ flat_map (pairs_at reading sectors) (others (length sectors) place) ++ pairs_at reading sectors place
list-all reading sectors place within free =
    let every : (k : ℕ) → counts_at reading sectors place k ≡ true = λ k. counts-next reading sectors place k false (reading.has_gc_done (sector_at sectors place)) free refl in
    let all : filter (counts_at reading sectors place) (others (length sectors) place) ≡ others (length sectors) place =
    filter_all (counts_at reading sectors place) (others (length sectors) place) (others-All (λ k. counts_at reading sectors place k ≡ true) (length sectors) place within (λ k lt apart. every k)) in
    list-split reading sectors place
    ∙ ap (λ ks. flat_map (pairs_at reading sectors) ks ++ flat_map (pairs_at reading sectors) (filter (counts_at reading sectors place) (place ∷ []))) all
    ∙ ap (λ ps. flat_map (pairs_at reading sectors) (others (length sectors) place) ++ ps) (one-counts reading sectors place true (every place))

-- bytes in the open sector change its part at the list's end alone
pub list_put : (reading : Reading) (sectors : List (List ℕ)) (place : ℕ) (new : List ℕ) → place < length sectors → reading.is_closed new ≡ is_closed_at reading sectors place → is_closed_at reading sectors (next sectors place) ≡ false
    → area_pairs reading (set sectors place new) place ≡ flat_map (pairs_at reading sectors) (others (length sectors) place) ++ reading.pairs new
list_put reading sectors place new within same free =
    let long : length (set sectors place new) ≡ length sectors = length-set sectors place new in
    list-all reading (set sectors place new) place (subst (λ (n : ℕ). place < n) (sym long) within) (next_kept reading sectors place new within same ∙ free)
    ∙ ap (λ (n : ℕ). flat_map (pairs_at reading (set sectors place new)) (others n place) ++ pairs_at reading (set sectors place new) place) long
    ∙ ap (λ ps. ps ++ pairs_at reading (set sectors place new) place) (others-kept reading sectors place new within)
    ∙ ap (λ (b : List ℕ). flat_map (pairs_at reading sectors) (others (length sectors) place) ++ reading.pairs b) (there sectors place new within)

-- the open sector is one of the area
pub open_within : (reading : Reading) (sectors : List (List ℕ)) → 0 < length sectors → open_sector reading sectors < length sectors
unfolding open_sector
open_within reading sectors some =
    elim (option_cases (slice_get (openings reading sectors) 0)) [
      | inr (p, at) ↦
          let here = found (follows_closed reading sectors) 0 (length sectors) p (sym (find-filter (follows_closed reading sectors) (places sectors)) ∙ at) in
          let is : unwrap_or (slice_get (openings reading sectors) 0) (unwrap_or (find (λ k. not (is_blank_at reading sectors k)) (places sectors)) 0) ≡ p =
          ap (λ (o : Option ℕ). unwrap_or o (unwrap_or (find (λ k. not (is_blank_at reading sectors k)) (places sectors)) 0)) at in
          omega (arith, here.0)
      | inl none ↦
          let rest : unwrap_or (slice_get (openings reading sectors) 0) (unwrap_or (find (λ k. not (is_blank_at reading sectors k)) (places sectors)) 0) ≡ unwrap_or (find (λ k. not (is_blank_at reading sectors k)) (places sectors)) 0 =
          ap (λ (o : Option ℕ). unwrap_or o (unwrap_or (find (λ k. not (is_blank_at reading sectors k)) (places sectors)) 0)) none in
          elim (option_cases (find (λ k. not (is_blank_at reading sectors k)) (places sectors))) [
            | inr (p, at) ↦
                let here = found (λ k. not (is_blank_at reading sectors k)) 0 (length sectors) p at in
                let is : unwrap_or (find (λ k. not (is_blank_at reading sectors k)) (places sectors)) 0 ≡ p = ap (λ (o : Option ℕ). unwrap_or o 0) at in
                omega (arith, here.0)
            | inl nowhere ↦
                let is : unwrap_or (find (λ k. not (is_blank_at reading sectors k)) (places sectors)) 0 ≡ 0 = ap (λ (o : Option ℕ). unwrap_or o 0) nowhere in
                omega arith
          ]
    ]

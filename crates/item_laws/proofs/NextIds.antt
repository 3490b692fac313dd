-- Which id is the next one with a value.
use Rattle.std.proofs.Common.{◌≡◌, ℕ, ◌+◌, ◌-◌, ◌<◌, Bool, true, false, ◌||◌, cond, eqb, List, [], ◌∷◌, ◌++◌, length, Option, Some, None, refl, sym, ap, subst, ◌∙◌, inl, inr, arith}
use Rattle.std.specs.Prelude.{IfSome}
use Rattle.std.specs.List.{filter, flat_map, range_with_len, All}
use Rattle.std.specs.FinMap.{get}
use Rattle.std.proofs.lemmas.Bool.{false≢true, cases_Bool, eqb-true, or_from}
use Rattle.std.proofs.lemmas.List.Concat.{flat_map-cons}
use Rattle.std.proofs.lemmas.List.Elements.{All-head, All-tail, All-append}
use Rattle.item_laws.specs.Items.{Items, items_of}
use Rattle.item_laws.specs.LivePairs.{names}
use Rattle.item_laws.proofs.ItemLemmas.{get-items_of}
use Rattle.item_laws.proofs.LivePairs.{absent, last-is, names-append}
use Rattle.item_laws.specs.Area.{round, counts_at, open_sector, area_pairs}
use Rattle.item_laws.specs.Forms.{pairs_at}
use Rattle.item_laws.specs.Reading.{Reading}
use Rattle.item_laws.proofs.Places.{All-range}
use Rattle.item_laws.specs.NextIds.{Follows, IsAtMost, IsBehind, IsLeastOf}

-- one id

pub at_most_self : (least : Option ℕ) → IfSome least (IsAtMost least)
at_most_self None = tt
at_most_self (Some l) = omega arith

pub at_most_then : (a b : Option ℕ) (id : ℕ) → IfSome a (IsAtMost b) → IsAtMost a id → IsAtMost b id
at_most_then None b id kept least = absurd least
at_most_then (Some l) None id kept least = absurd kept
at_most_then (Some l) (Some m) id kept least = omega arith

pub kept_then : (a b c : Option ℕ) → IfSome a (IsAtMost b) → IfSome b (IsAtMost c) → IfSome a (IsAtMost c)
kept_then None b c one two = tt
kept_then (Some l) b c one two = at_most_then b c l two one

-- the ids of some pairs, one after the other

pub least_kept : (items : Items) (after : Option ℕ) (ps : List (ℕ × List ℕ)) (before least : Option ℕ) → IfSome before (IsAtMost least) → IsLeastOf items after ps before → IsLeastOf items after ps least
least_kept items after ps before least kept so_far = λ id follows named. at_most_then before least id kept (so_far id follows named)

pub least_none : (items : Items) (after least : Option ℕ) → IsLeastOf items after [] least
least_none items after least = λ id follows named. absurd (false≢true named)

-- the least of what was found before, with the id of one pair more
pub least_push : (items : Items) (after : Option ℕ) (ps : List (ℕ × List ℕ)) (pair : ℕ × List ℕ) (before least : Option ℕ) → IfSome before (IsAtMost least) → (Follows items after pair.0 → IsAtMost least pair.0)
    → IsLeastOf items after ps before → IsLeastOf items after (ps ++ pair ∷ []) least
least_push items after ps pair before least kept own so_far = λ id follows named.
    let either : (names id ps || (eqb pair.0 id || false)) ≡ true = sym (names-append id ps (pair ∷ [])) ∙ named in
    elim (cases_Bool (names id ps)) [
      | inl there ↦ at_most_then before least id kept (so_far id follows there)
      | inr passed ↦
          elim (cases_Bool (eqb pair.0 id)) [
            | inl here ↦
                let same : pair.0 ≡ id = eqb-true pair.0 id here in
                subst (λ (j : ℕ). IsAtMost least j) same (own (subst (λ (j : ℕ). Follows items after j) (sym same) follows))
            | inr other ↦ absurd (false≢true (sym (or_from (names id ps) (eqb pair.0 id || false) passed (or_from (eqb pair.0 id) false other refl)) ∙ either))
          ]
    ]

-- the ids of an area, sector by sector

module _ (reading : Reading) (sectors : List (List ℕ)) (items : Items) (after least : Option ℕ) (each : (k : ℕ) → k < length sectors → IsLeastOf items after (pairs_at reading sectors k) least) where
  -- an id that the least one is above has no pair in a sector
  unnamed : (id : ℕ) → Follows items after id → (IsAtMost least id → ⊥) → (k : ℕ) → k < length sectors → names id (pairs_at reading sectors k) ≡ false
  unnamed id follows above k inside =
      elim (cases_Bool (names id (pairs_at reading sectors k))) [
        | inl there ↦ absurd (above (each k inside id follows there))
        | inr passed ↦ passed
      ]

  unnamed_all : (id : ℕ) (p : ℕ → Bool) (ks : List ℕ) → All (λ k. names id (pairs_at reading sectors k) ≡ false) ks → names id (flat_map (pairs_at reading sectors) (filter p ks)) ≡ false
  unnamed_all id p [] none = refl
  unnamed_all id p (k ∷ ks) none =
      let rest = unnamed_all id p ks (All-tail (λ k. names id (pairs_at reading sectors k) ≡ false) k ks none) in
      elim (cases_Bool (p k)) [
        | inr passed ↦ ap (λ (t : Bool). names id (flat_map (pairs_at reading sectors) (cond t (k ∷ filter p ks) (filter p ks)))) passed ∙ rest
        | inl here ↦
            ap (λ (t : Bool). names id (flat_map (pairs_at reading sectors) (cond t (k ∷ filter p ks) (filter p ks)))) here
            ∙ ap (names id) (flat_map-cons (pairs_at reading sectors) k (filter p ks))
            ∙ names-append id (pairs_at reading sectors k) (flat_map (pairs_at reading sectors) (filter p ks))
            ∙ or_from (names id (pairs_at reading sectors k)) (names id (flat_map (pairs_at reading sectors) (filter p ks))) (All-head (λ k. names id (pairs_at reading sectors k) ≡ false) k ks none) rest
      ]

  -- the list names no id that the least one is above
  pub missing : open_sector reading sectors < length sectors → (id : ℕ) → Follows items after id → (IsAtMost least id → ⊥) → names id (area_pairs reading sectors (open_sector reading sectors)) ≡ false
  unfolding area_pairs
  missing within id follows above =
      let place = open_sector reading sectors in
      let none : All (λ k. names id (pairs_at reading sectors k) ≡ false) (round (length sectors) (open_sector reading sectors)) =
      All-append (λ k. names id (pairs_at reading sectors k) ≡ false) (range_with_len (open_sector reading sectors + 1) (length sectors - (open_sector reading sectors + 1))) (range_with_len 0 (open_sector reading sectors + 1))
      (All-range (λ k. names id (pairs_at reading sectors k) ≡ false) (open_sector reading sectors + 1) (length sectors - (open_sector reading sectors + 1)) (λ k low high. unnamed id follows above k (omega arith)))
      (All-range (λ k. names id (pairs_at reading sectors k) ≡ false) 0 (open_sector reading sectors + 1) (λ k low high. unnamed id follows above k (omega arith))) in
      unnamed_all id (counts_at reading sectors (open_sector reading sectors)) (round (length sectors) (open_sector reading sectors)) none

-- An id behind the first one that the least one is above has no value. The items are those of the list.
pub no_value : (reading : Reading) (sectors : List (List ℕ)) (items : Items) (after least : Option ℕ) → items ≡ items_of (area_pairs reading sectors (open_sector reading sectors)) → open_sector reading sectors < length sectors
    → ((k : ℕ) → k < length sectors → IsLeastOf items after (pairs_at reading sectors k) least) → (id : ℕ) → IsBehind after id → (IsAtMost least id → ⊥) → get items id ≡ None
no_value reading sectors items after least are within each id behind above = by_value (get items id) refl
  where
    some_none : (bytes : List ℕ) → Some bytes ≡ None → ⊥
    some_none bytes e = cc

    by_value : (o : Option (List ℕ)) → get items id ≡ o → get items id ≡ None
    by_value None e = e
    by_value (Some bytes) e =
        let list = area_pairs reading sectors (open_sector reading sectors) in
        let follows : Follows items after id = (behind, λ none. some_none bytes (sym e ∙ none)) in
        ap (λ (m : Items). get m id) are ∙ get-items_of list id ∙ last-is list id ∙ absent id None list (missing reading sectors items after least each within id follows above)

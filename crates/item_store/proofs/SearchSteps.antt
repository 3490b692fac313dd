-- A search that begins in the sector of the latest entry of an id's cache slot.
use Rattle.std.proofs.Common.{◌≡◌, ℕ, ◌+◌, ◌-◌, ◌%◌, ◌<◌, ◌≤◌, Bool, cond, eqb, List, [], ◌∷◌, ◌++◌, length, Option, Some, None, sym, ap, subst, ◌∙◌, inl, inr, append_assoc, arith}
use Rattle.std.specs.Prelude.{IfSome}
use Rattle.std.specs.List.{flat_map, range_with_len}
use Rattle.std.specs.Option.{option_or}
use Rattle.std.proofs.lemmas.Bool.{lt-ltb, le-ltb}
use Rattle.std.proofs.lemmas.List.{append-nil}
use Rattle.std.proofs.lemmas.List.Concat.{flat_map-append}
use Rattle.item_laws.specs.Area.{round, open_sector}
use Rattle.item_laws.specs.Live.{all_placed, counted_in, last_of, last_placed}
use Rattle.item_laws.specs.RoundParts.{places_before, places_after}
use Rattle.item_laws.proofs.LiveLemmas.{option_cases}
use Rattle.item_laws.proofs.Newest.{last-append, last-all}
use Rattle.item_laws.proofs.Places.{range-append}
use Rattle.item_laws.proofs.RoundAt.{round-at}
use Rattle.item_store.specs.declared.entry.Placed.{Placed}
use Rattle.item_store.specs.Cached.{latest_of}
use Rattle.item_store.specs.SectorFormat.{SectorFormat, IsSectorFormat, slots}
use Rattle.item_store.specs.Latest.{last_of_id}
use Rattle.item_store.specs.Seen.{behind}
use Rattle.item_store.proofs.CacheSteps.{latest-none}
use Rattle.item_store.proofs.LiveSteps.{elsewhere}

-- ---- the places up to one, in the round to the open sector

pub up-near : (count current place : ℕ) → current < place → range_with_len (current + 1) (place + 1 - (current + 1)) ≡ places_before count current place ++ place ∷ []
up-near count current place lt =
    let below : List ℕ = range_with_len (current + 1) (place - (current + 1)) in
    let before : places_before count current place ≡ range_with_len (current + 1) (place - (current + 1)) = ap (λ (t : Bool). cond t (range_with_len (current + 1) (place - (current + 1))) (range_with_len (current + 1) (count - (current + 1)) ++ range_with_len 0 place)) (lt-ltb current place lt) in
    let width : place + 1 - (current + 1) ≡ place - (current + 1) + 1 = omega arith in
    let at : current + 1 + (place - (current + 1)) ≡ place = omega arith in
    ap (range_with_len (current + 1)) width ∙ range-append (current + 1) (place - (current + 1)) 1
    ∙ ap (λ (j : ℕ). range_with_len (current + 1) (place - (current + 1)) ++ j ∷ []) at
    ∙ ap (λ (js : List ℕ). js ++ place ∷ []) (sym before)

pub up-far : (count current place : ℕ) → place ≤ current → range_with_len (current + 1) (count - (current + 1)) ++ range_with_len 0 (place + 1 - 0) ≡ places_before count current place ++ place ∷ []
up-far count current place le =
    let older : List ℕ = range_with_len (current + 1) (count - (current + 1)) in
    let before : places_before count current place ≡ range_with_len (current + 1) (count - (current + 1)) ++ range_with_len 0 place = ap (λ (t : Bool). cond t (range_with_len (current + 1) (place - (current + 1))) (range_with_len (current + 1) (count - (current + 1)) ++ range_with_len 0 place)) (le-ltb current place le) in
    let width : place + 1 - 0 ≡ place + 1 = omega arith in
    let at : 0 + place ≡ place = omega arith in
    ap (λ (n : ℕ). range_with_len (current + 1) (count - (current + 1)) ++ range_with_len 0 n) width
    ∙ ap (λ (js : List ℕ). range_with_len (current + 1) (count - (current + 1)) ++ js) (range-append 0 place 1 ∙ ap (λ (j : ℕ). range_with_len 0 place ++ j ∷ []) at)
    ∙ sym (append_assoc (range_with_len (current + 1) (count - (current + 1))) (range_with_len 0 place) (place ∷ []))
    ∙ ap (λ (js : List ℕ). js ++ place ∷ []) (sym before)

-- ---- the places before one

pub before-near : (count current place : ℕ) → current < place → range_with_len (current + 1) (place - (current + 1)) ≡ places_before count current place
before-near count current place lt =
    sym (ap (λ (t : Bool). cond t (range_with_len (current + 1) (place - (current + 1))) (range_with_len (current + 1) (count - (current + 1)) ++ range_with_len 0 place)) (lt-ltb current place lt))

pub before-far : (count current place : ℕ) → place ≤ current → range_with_len (current + 1) (count - (current + 1)) ++ range_with_len 0 (place - 0) ≡ places_before count current place
before-far count current place le =
    let width : place - 0 ≡ place = omega arith in
    ap (λ (n : ℕ). range_with_len (current + 1) (count - (current + 1)) ++ range_with_len 0 n) width
    ∙ sym (ap (λ (t : Bool). cond t (range_with_len (current + 1) (place - (current + 1))) (range_with_len (current + 1) (count - (current + 1)) ++ range_with_len 0 place)) (le-ltb current place le))

-- ---- no entry behind them has the id

module _ (k : SectorFormat) (sectors : List (List ℕ)) (current place : ℕ) (is : current ≡ open_sector k.reading sectors) (low : current < length sectors) (high : place < length sectors) where
  abbrev prefix : List Placed
  prefix = flat_map (counted_in (slots k) sectors current) (places_before (length sectors) current place ++ place ∷ [])

  all-split : all_placed (slots k) sectors ≡ prefix ++ behind k sectors current place
  all-split =
      ap (λ (j : ℕ). flat_map (counted_in (slots k) sectors j) (round (length sectors) j)) (sym is)
      ∙ ap (flat_map (counted_in (slots k) sectors current)) ((round-at (length sectors) current place low high).split ∙ sym (append_assoc (places_before (length sectors) current place) (place ∷ []) (places_after (length sectors) current place)))
      ∙ flat_map-append (counted_in (slots k) sectors current) (places_before (length sectors) current place ++ place ∷ []) (places_after (length sectors) current place)

  -- a search up to this sector is enough
  pub up-to-enough : (id : ℕ) → last_of_id id (behind k sectors current place) ≡ None
      → last_of (slots k) id (flat_map (counted_in (slots k) sectors current) (places_before (length sectors) current place ++ place ∷ [])) ≡ last_placed (slots k) sectors id
  up-to-enough id none =
      sym (ap (last_of_id id) all-split ∙ last-append (λ (r : Placed). eqb r.id id) prefix (behind k sectors current place) ∙ ap (λ (o : Option Placed). option_or o (last_of_id id prefix)) none)

  -- the latest entry of the id's cache slot stands in it
  module _ (law : IsSectorFormat k) (id : ℕ) (p : Placed) (latest : latest_of (id % 64) (all_placed (slots k) sectors) ≡ Some p) (at : p.sector ≡ place) where
    none-behind : latest_of (id % 64) (behind k sectors current place) ≡ None
    none-behind =
        elim (option_cases (latest_of (id % 64) (behind k sectors current place))) [
          | inl none ↦ none
          | inr (q, some) ↦
              let found : latest_of (id % 64) (all_placed (slots k) sectors) ≡ Some q =
              ap (latest_of (id % 64)) all-split ∙ last-append (λ (r : Placed). eqb (r.id % 64) (id % 64)) prefix (behind k sectors current place) ∙ ap (λ (o : Option Placed). option_or o (latest_of (id % 64) prefix)) some in
              let same : q ≡ p = same_some q p (sym found ∙ latest) in
              let apart : q.sector ≡ place → ⊥ =
              subst (λ (o : Option Placed). IfSome o (λ r. r.sector ≡ place → ⊥)) some
              (last-all (λ (r : Placed). eqb (r.id % 64) (id % 64)) (λ (r : Placed). r.sector ≡ place → ⊥) (behind k sectors current place) None tt (elsewhere k law sectors current place (places_after (length sectors) current place) (round-at (length sectors) current place low high).behind)) in
              absurd (apart (ap (λ (r : Placed). r.sector) same ∙ at))
        ]
      where
        same_some : (x y : Placed) → Some x ≡ Some y → x ≡ y
        same_some x y e = cc

    pub search-enough : last_of (slots k) id (flat_map (counted_in (slots k) sectors current) (places_before (length sectors) current place ++ place ∷ [])) ≡ last_placed (slots k) sectors id
    search-enough = up-to-enough id (latest-none id (behind k sectors current place) none-behind)

    -- nor has one of it: a search before it is enough
    pub search-before : last_of (slots k) id (counted_in (slots k) sectors current place) ≡ None
        → last_of (slots k) id (flat_map (counted_in (slots k) sectors current) (places_before (length sectors) current place)) ≡ last_placed (slots k) sectors id
    search-before none =
        let before : List Placed = flat_map (counted_in (slots k) sectors current) (places_before (length sectors) current place) in
        let here : last_of_id id (flat_map (counted_in (slots k) sectors current) (place ∷ [])) ≡ None = ap (last_of_id id) (append-nil (counted_in (slots k) sectors current place)) ∙ none in
        sym (ap (last_of_id id) (flat_map-append (counted_in (slots k) sectors current) (places_before (length sectors) current place) (place ∷ []))
        ∙ last-append (λ (r : Placed). eqb r.id id) before (flat_map (counted_in (slots k) sectors current) (place ∷ [])) ∙ ap (λ (o : Option Placed). option_or o (last_of_id id before)) here)
        ∙ search-enough

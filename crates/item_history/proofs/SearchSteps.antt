-- Searches for an entry of one id, from the newest part of a list back.
use Rattle.std.proofs.Common.{◌≡◌, ℕ, zero, suc, ◌+◌, ◌-◌, ◌<◌, ◌≤◌, Bool, true, false, cond, eqb, List, [], ◌∷◌, ◌++◌, length, map, Option, Some, None, refl, sym, ap, subst, ◌∙◌, length-append, append_assoc, arith}
use Rattle.std.specs.Prelude.{fold, slice_get}
use Rattle.std.specs.List.{filter_map, flat_map, range_with_len}
use Rattle.std.specs.Option.{option_map}
use Rattle.std.proofs.lemmas.List.{map-append}
use Rattle.std.proofs.lemmas.List.Concat.{flat_map-append, flat_map-cons}
use Rattle.std.proofs.lemmas.List.Elements.{filter_map-append}
use Rattle.std.proofs.lemmas.List.Sums.{fold-append}
use Rattle.std.proofs.lemmas.Option.{none-some, same_Some, slice_get_past}
use Rattle.flash_map.specs.Area.{sector_at}
use Rattle.item_laws.specs.Area.{round, counts_at, open_sector}
use Rattle.item_laws.specs.Live.{counted_in, all_placed}
use Rattle.item_laws.specs.RoundParts.{places_before, places_after}
use Rattle.item_laws.specs.Walk.{entries_from}
use Rattle.item_laws.proofs.Places.{after, range-append, range_from}
use Rattle.item_laws.proofs.RoundAt.{round-at}
use Rattle.item_store.specs.declared.entry.Entry.{Entry}
use Rattle.item_store.specs.declared.entry.Placed.{Placed}
use Rattle.item_store.specs.SectorFormat.{SectorFormat, placed_at, slots, entries}
use Rattle.item_store.specs.Seen.{behind}
use Rattle.item_store.proofs.CostSteps.{round-oldest}
use Rattle.item_history.specs.declared.searches.Search.{Search}
use Rattle.item_history.specs.declared.searches.Search.TheVariants.{Found, Left}
use Rattle.item_history.specs.Searches.{of_id, EndsIn, IfFound}

-- ---- two parts of a list

get_prefix : {A : Type 0} (xs ys : List A) (n : ℕ) (x : A) → slice_get xs n ≡ Some x → slice_get (xs ++ ys) n ≡ Some x
get_prefix [] ys n x e = absurd (none-some x e)
get_prefix (y ∷ xs) ys zero x e = e
get_prefix (y ∷ xs) ys (suc n) x e = get_prefix xs ys n x e

get_behind : {A : Type 0} (xs ys : List A) (m : ℕ) → slice_get (xs ++ ys) (length xs + m) ≡ slice_get ys m
get_behind [] ys m = let e : 0 + m ≡ m = omega arith in ap (slice_get ys) e
get_behind (x ∷ xs) ys m = let e : length (x ∷ xs) + m ≡ suc (length xs + m) = omega arith in ap (slice_get (x ∷ (xs ++ ys))) e ∙ get_behind xs ys m

-- no version has this number
pub none_there : {A : Type 0} (xs : List A) (n : ℕ) → slice_get xs n ≡ None → length xs ≤ n
none_there [] n e = omega arith
none_there (x ∷ xs) zero e = absurd (none-some x (sym e))
none_there (x ∷ xs) (suc n) e = let rest = none_there xs n e in omega arith

-- a search goes on behind what was passed
pub ends_then : (xs ys : List Placed) (n m : ℕ) (r : Search) → EndsIn xs n (Left m) → EndsIn ys m r → EndsIn (xs ++ ys) n r
ends_then xs ys n m (Found p) passed found = ap (slice_get (xs ++ ys)) passed ∙ get_behind xs ys m ∙ found
ends_then xs ys n m (Left more) passed left = omega (arith, length-append xs ys)

-- what was found is found before more
pub ends_found : (xs ys : List Placed) (n : ℕ) (p : Placed) → EndsIn xs n (Found p) → EndsIn (xs ++ ys) n (Found p)
ends_found xs ys n p found = get_prefix xs ys n p found

pub ends_none : (xs : List Placed) (n m : ℕ) → EndsIn xs n (Left m) → None ≡ slice_get xs n
ends_none xs n m passed = sym (slice_get_past xs n (omega arith))

-- what holds of this one holds of what was found
pub found_has : (P : Placed → Type 0) (placed : Placed) (r : Search) → IfFound r (λ p. p ≡ placed) → P placed → IfFound r P
found_has P placed (Found p) same has = subst P (sym same) has
found_has P placed (Left more) same has = tt

-- ---- entries of an id

module _ (id : ℕ) where
  own_before : (t : Bool) (p : Placed) (older : List Placed) → cond t (p ∷ older) older ≡ cond t (p ∷ []) [] ++ older
  own_before true p older = refl
  own_before false p older = refl

  older_is : (older ps : List Placed) → fold (λ (os : List Placed) (p : Placed). cond (eqb p.id id) (p ∷ os) os) older ps ≡ of_id id ps ++ older
  older_is older [] = refl
  older_is older (p ∷ ps) =
      older_is (cond (eqb p.id id) (p ∷ older) older) ps
      ∙ ap (λ os. of_id id ps ++ os) (own_before (eqb p.id id) p older)
      ∙ sym (append_assoc (of_id id ps) (cond (eqb p.id id) (p ∷ []) []) older)
      ∙ ap (λ os. os ++ older) (sym (older_is (cond (eqb p.id id) (p ∷ []) []) ps))

  pub of_id-append : (xs ys : List Placed) → of_id id (xs ++ ys) ≡ of_id id ys ++ of_id id xs
  of_id-append xs ys = fold-append (λ (os : List Placed) (p : Placed). cond (eqb p.id id) (p ∷ os) os) [] xs ys ∙ older_is (of_id id xs) ys

  -- one entry
  pub of_other : (p : Placed) → eqb p.id id ≡ false → of_id id (p ∷ []) ≡ []
  of_other p other = ap (λ (t : Bool). cond t (p ∷ []) []) other

  pub of_own : (p : Placed) → eqb p.id id ≡ true → of_id id (p ∷ []) ≡ p ∷ []
  of_own p own = ap (λ (t : Bool). cond t (p ∷ []) []) own

  -- a part before what was passed, and both as one
  pub pass_more : (older newer whole : List Placed) (n m : ℕ) (r : Search) → whole ≡ older ++ newer → EndsIn (of_id id newer) n (Left m) → EndsIn (of_id id older) m r → EndsIn (of_id id whole) n r
  pass_more older newer whole n m r split passed found =
      subst (λ (xs : List Placed). EndsIn xs n r) (sym (ap (of_id id) split ∙ of_id-append older newer)) (ends_then (of_id id newer) (of_id id older) n m r passed found)

  pub found_more : (older newer whole : List Placed) (n : ℕ) (p : Placed) → whole ≡ older ++ newer → EndsIn (of_id id newer) n (Found p) → EndsIn (of_id id whole) n (Found p)
  found_more older newer whole n p split found =
      subst (λ (xs : List Placed). EndsIn xs n (Found p)) (sym (ap (of_id id) split ∙ of_id-append older newer)) (ends_found (of_id id newer) (of_id id older) n p found)

-- ---- the slots of a sector

module _ (k : SectorFormat) (b : List ℕ) (place : ℕ) where
  -- the entries behind the first so many slots
  abbrev pub behind_slots : ℕ → List Placed
  behind_slots count = map (placed_at place) (entries_from (slots k) b (k.first + count) (k.count b - count))

  -- that of a slot
  abbrev pub at_slot : ℕ → List Placed
  at_slot slot = map (placed_at place) (filter_map (k.in_slot b) (slot ∷ []))

  pub slot_some : (slot : ℕ) (p : Placed) → Some p ≡ option_map (placed_at place) (k.in_slot b slot) → at_slot slot ≡ p ∷ []
  slot_some slot p is = by_slot (k.in_slot b slot) is
    where
      by_slot : (o : Option Entry) → Some p ≡ option_map (placed_at place) o → map (placed_at place) (filter_map (λ (j : ℕ). o) (slot ∷ [])) ≡ p ∷ []
      by_slot None none = absurd (none-some p (sym none))
      by_slot (Some e) some = let same : placed_at place e ≡ p = same_Some (placed_at place e) p (sym some) in ap (λ (q : Placed). q ∷ []) same

  pub slot_none : (slot : ℕ) → None ≡ option_map (placed_at place) (k.in_slot b slot) → at_slot slot ≡ []
  slot_none slot is = by_slot (k.in_slot b slot) is
    where
      by_slot : (o : Option Entry) → None ≡ option_map (placed_at place) o → map (placed_at place) (filter_map (λ (j : ℕ). o) (slot ∷ [])) ≡ []
      by_slot None none = refl
      by_slot (Some e) some = absurd (none-some (placed_at place e) some)

  pub none_passed : (id n count : ℕ) → count ≡ k.count b → EndsIn (of_id id (behind_slots count)) n (Left n)
  none_passed id n count all =
      let none : 0 ≡ k.count b - count = omega arith in
      let start : n ≡ 0 + n = omega arith in
      subst (λ (m : ℕ). EndsIn (of_id id (map (placed_at place) (entries_from (slots k) b (k.first + count) m))) n (Left n)) none start

  pub one_more : (count slot : ℕ) → 0 < count → count ≤ k.count b → slot ≡ k.first + (count - 1) → behind_slots (count - 1) ≡ at_slot slot ++ behind_slots count
  one_more count slot positive inside at =
      let up : slot + 1 ≡ k.first + count = omega arith in
      let width : k.count b - (count - 1) - 1 ≡ k.count b - count = omega arith in
      let range : range_with_len (k.first + (count - 1)) (k.count b - (count - 1)) ≡ slot ∷ range_with_len (k.first + count) (k.count b - count) =
      ap (λ (a : ℕ). range_with_len a (k.count b - (count - 1))) (sym at)
      ∙ range_from slot (k.count b - (count - 1)) (omega arith)
      ∙ ap (λ (a : ℕ). slot ∷ range_with_len a (k.count b - (count - 1) - 1)) up
      ∙ ap (λ (w : ℕ). slot ∷ range_with_len (k.first + count) w) width in
      ap (λ (js : List ℕ). map (placed_at place) (filter_map (k.in_slot b) js)) range
      ∙ ap (map (placed_at place)) (filter_map-append (k.in_slot b) (slot ∷ []) (range_with_len (k.first + count) (k.count b - count)))
      ∙ map-append (placed_at place) (filter_map (k.in_slot b) (slot ∷ [])) (entries_from (slots k) b (k.first + count) (k.count b - count))

  pub whole_sector : (count : ℕ) → count ≤ k.count b → map (placed_at place) (entries k b) ≡ map (placed_at place) (entries_from (slots k) b k.first count) ++ behind_slots count
  whole_sector count inside =
      let width : k.count b ≡ count + (k.count b - count) = omega arith in
      ap (λ (w : ℕ). map (placed_at place) (filter_map (k.in_slot b) (range_with_len k.first w))) width
      ∙ ap (λ (js : List ℕ). map (placed_at place) (filter_map (k.in_slot b) js)) (range-append k.first count (k.count b - count))
      ∙ ap (map (placed_at place)) (filter_map-append (k.in_slot b) (range_with_len k.first count) (range_with_len (k.first + count) (k.count b - count)))
      ∙ map-append (placed_at place) (entries_from (slots k) b k.first count) (entries_from (slots k) b (k.first + count) (k.count b - count))

  pub from_start : (id n count : ℕ) (r : Search) → count ≡ 0 → EndsIn (of_id id (behind_slots count)) n r → EndsIn (of_id id (map (placed_at place) (entries k b))) n r
  from_start id n count r none ends =
      let low : k.first + count ≡ k.first = omega arith in
      let width : k.count b - count ≡ k.count b = omega arith in
      subst (λ (w : ℕ). EndsIn (of_id id (map (placed_at place) (entries_from (slots k) b k.first w))) n r) width
      (subst (λ (a : ℕ). EndsIn (of_id id (map (placed_at place) (entries_from (slots k) b a (k.count b - count)))) n r) low ends)

-- ---- the sectors of the round

module _ (k : SectorFormat) (sectors : List (List ℕ)) (current : ℕ) (low : current < length sectors) (is : current ≡ open_sector k.reading sectors) where
  abbrev row : ℕ → List Placed
  row = counted_in (slots k) sectors current

  here : all_placed (slots k) sectors ≡ flat_map row (round (length sectors) current)
  here = sym (ap (λ (c : ℕ). flat_map (counted_in (slots k) sectors c) (round (length sectors) c)) is)

  pub counted_here : (place : ℕ) → counts_at k.reading sectors current place ≡ true → counted_in (slots k) sectors current place ≡ map (placed_at place) (entries k (sector_at sectors place))
  counted_here place counts = ap (λ (t : Bool). cond t (map (placed_at place) (entries k (sector_at sectors place))) []) counts

  pub split_at : (place : ℕ) → place < length sectors → all_placed (slots k) sectors ≡ flat_map row (places_before (length sectors) current place) ++ (counted_in (slots k) sectors current place ++ behind k sectors current place)
  split_at place high =
      let ring = round-at (length sectors) current place low high in
      here ∙ ap (flat_map row) ring.split
      ∙ flat_map-append row (places_before (length sectors) current place) (place ∷ places_after (length sectors) current place)
      ∙ ap (λ (ps : List Placed). flat_map row (places_before (length sectors) current place) ++ ps) (flat_map-cons row place (places_after (length sectors) current place))

  pub split_oldest : (oldest : ℕ) → oldest ≡ after (length sectors) current → oldest < length sectors → all_placed (slots k) sectors ≡ counted_in (slots k) sectors current oldest ++ behind k sectors current oldest
  split_oldest oldest at high =
      here ∙ ap (flat_map row) (round-oldest (length sectors) current low (subst (λ (j : ℕ). j < length sectors) at high))
      ∙ ap (λ (j : ℕ). flat_map row (j ∷ places_after (length sectors) current j)) (sym at)
      ∙ flat_map-cons row oldest (places_after (length sectors) current oldest)

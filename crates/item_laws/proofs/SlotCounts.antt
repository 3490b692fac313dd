-- Counting the used slots of a sector, and going over them, whatever the test is that says which are used.
use Rattle.std.proofs.Common.{◌≡◌, ℕ, ◌+◌, ◌-◌, ◌*◌, ◌/◌, ◌<◌, ◌≤◌, Bool, true, false, List, [], ◌∷◌, ◌++◌, length, map, take, sym, ap, ◌∙◌, arith}
use Rattle.std.specs.List.{range_with_len}
use Rattle.std.proofs.Math.Nat.{mul-le-mul_left}
use Rattle.std.proofs.lemmas.Nat.{div-add-mod'}
use Rattle.std.proofs.lemmas.List.Sums.{prefix_len_is, prefix_len-le-length}
use Rattle.std.proofs.lemmas.List.FromFn.{length-map-range_with_len, get_or-map-range_with_len, take-map-range_with_len, map-range_with_len_more}
use Rattle.item_laws.specs.Slots.{Slot, slot_at, slots, used_slots}
use Rattle.item_laws.proofs.SlotLemmas.{length-used_slots}

-- so many are used where these are and the next one is not
pub used_count_is : (is_used : Slot → Bool) (first size : ℕ) (b : List ℕ) (n : ℕ) → n ≤ length b / size - first → ((k : ℕ) → first ≤ k → k < n + first → is_used (slot_at size b k) ≡ true)
    → (n < length b / size - first → is_used (slot_at size b (n + first)) ≡ false) → n ≡ length (used_slots is_used first size b)
used_count_is is_used first size b n fits used stop =
    let count = length b / size - first in
    let len : length (slots first size b) ≡ length b / size - first = length-map-range_with_len (slot_at size b) first (length b / size - first) in
    let d : Slot = slot_at size b 0 in
    sym (length-used_slots is_used first size b
    ∙ prefix_len_is is_used (slots first size b) n d (omega arith)
    (λ k lt. ap is_used (get_or-map-range_with_len (slot_at size b) first count k (k + first) d (omega arith) (omega arith)) ∙ used (k + first) (omega arith) (omega arith))
    (λ lt. ap is_used (get_or-map-range_with_len (slot_at size b) first count n (n + first) d (omega arith) (omega arith)) ∙ stop (omega arith)))

pub used_count_fits : (is_used : Slot → Bool) (first size : ℕ) (b : List ℕ) → length (used_slots is_used first size b) ≤ length b / size - first
used_count_fits is_used first size b =
    let len : length (slots first size b) ≡ length b / size - first = length-map-range_with_len (slot_at size b) first (length b / size - first) in
    omega (arith, length-used_slots is_used first size b, prefix_len-le-length is_used (slots first size b))

-- a slot of the sector by its number
pub slot_inside : (size : ℕ) (b : List ℕ) (k : ℕ) → k < length b / size → (k + 1) * size ≤ length b
slot_inside size b k lt =
    let top : size * (k + 1) ≤ size * (length b / size) = mul-le-mul_left size (omega arith) in
    let whole = div-add-mod' (length b) size in
    omega arith

-- a used slot stands in the sector
pub used_inside : (is_used : Slot → Bool) (first size : ℕ) (b : List ℕ) (k : ℕ) → k < length (used_slots is_used first size b) + first → first ≤ length b / size → (k + 1) * size ≤ length b
used_inside is_used first size b k lt room = let fits = used_count_fits is_used first size b in slot_inside size b k (omega arith)

-- Going over the used slots.

abbrev pub slots_to : ℕ → ℕ → List ℕ → ℕ → List Slot
slots_to first size b n = map (slot_at size b) (range_with_len first n)

pub slots_to_used : (is_used : Slot → Bool) (first size : ℕ) (b : List ℕ) (n : ℕ) → n ≡ length (used_slots is_used first size b) → slots_to first size b n ≡ used_slots is_used first size b
unfolding used_slots
slots_to_used is_used first size b n is =
    let fits = used_count_fits is_used first size b in
    sym (take-map-range_with_len (slot_at size b) first (length b / size - first) n (omega arith)) ∙ ap (λ (k : ℕ). take k (slots first size b)) (is ∙ length-used_slots is_used first size b)

pub slots_to_more : (first size : ℕ) (b : List ℕ) (n k : ℕ) → k ≡ first + n → slots_to first size b (n + 1) ≡ slots_to first size b n ++ slot_at size b k ∷ []
slots_to_more first size b n k is = map-range_with_len_more (slot_at size b) first n k (sym is)

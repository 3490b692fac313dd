-- The entries of a sector's list are those of its slots, by their numbers.
use Rattle.std.proofs.Common.{◌≡◌, ℕ, min, List, [], ◌∷◌, length, map, take, Option, refl, sym, ap, ◌∙◌, inl, inr, arith}
use Rattle.std.specs.Prelude.{Bool}
use Rattle.std.specs.List.{cons_option, filter_map, range_with_len}
use Rattle.std.proofs.lemmas.Bool.{cases_lt}
use Rattle.std.proofs.lemmas.List.{take_all}
use Rattle.std.proofs.lemmas.List.FromFn.{take-map-range_with_len}
use Rattle.item_laws.specs.Slots.{Slot, slot_at, used_slots}
use Rattle.item_laws.proofs.SlotCounts.{slots_to_used}

filter_map-map : {X Y Z : Type 0} (h : Y → Option Z) (f : X → Y) (xs : List X) → filter_map h (map f xs) ≡ filter_map (λ x. h (f x)) xs
filter_map-map h f [] = refl
filter_map-map h f (x ∷ xs) = ap (cons_option (h (f x))) (filter_map-map h f xs)

pub read-slots : {X : Type 0} (read : Slot → Option X) (is_used : Slot → Bool) (first size : ℕ) (b : List ℕ) → filter_map read (used_slots is_used first size b) ≡ filter_map (λ n. read (slot_at size b n)) (range_with_len first (length (used_slots is_used first size b)))
read-slots read is_used first size b =
    sym (ap (filter_map read) (slots_to_used is_used first size b (length (used_slots is_used first size b)) refl))
    ∙ filter_map-map read (slot_at size b) (range_with_len first (length (used_slots is_used first size b)))

-- so many of the first used slots
pub slots_within : (is_used : Slot → Bool) (first size : ℕ) (b : List ℕ) (n i : ℕ) → i ≡ min (length (used_slots is_used first size b)) n → map (slot_at size b) (range_with_len first i) ≡ take n (used_slots is_used first size b)
slots_within is_used first size b n i is =
    elim (cases_lt n (length (used_slots is_used first size b))) [
      | inl lt ↦
          let at : i ≡ n = omega arith in
          ap (λ (j : ℕ). map (slot_at size b) (range_with_len first j)) at
          ∙ sym (take-map-range_with_len (slot_at size b) first (length (used_slots is_used first size b)) n (omega arith)) ∙ ap (take n) (slots_to_used is_used first size b (length (used_slots is_used first size b)) refl)
      | inr ge ↦
          let at : i ≡ length (used_slots is_used first size b) = omega arith in
          slots_to_used is_used first size b i at ∙ sym (take_all n (used_slots is_used first size b) ge)
    ]

-- and their entries
pub read-within : {X : Type 0} (read : Slot → Option X) (is_used : Slot → Bool) (first size : ℕ) (b : List ℕ) (n : ℕ) → filter_map read (take n (used_slots is_used first size b)) ≡ filter_map (λ j. read (slot_at size b j)) (range_with_len first (min (length (used_slots is_used first size b)) n))
read-within read is_used first size b n =
    sym (ap (filter_map read) (slots_within is_used first size b n (min (length (used_slots is_used first size b)) n) refl))
    ∙ filter_map-map read (slot_at size b) (range_with_len first (min (length (used_slots is_used first size b)) n))

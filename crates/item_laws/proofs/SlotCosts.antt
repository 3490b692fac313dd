-- What the entries in the slots of a sector take up, and where their bytes end at most.
use Rattle.std.proofs.Common.{◌≡◌, ℕ, ◌+◌, ◌*◌, ◌≤◌, max, Bool, true, false, ◌||◌, cond, List, [], ◌∷◌, length, Option, Some, None, ap, ◌∙◌, inl, inr, ◌⊎◌, refl, arith}
use Rattle.std.specs.Prelude.{fold, sum_by}
use Rattle.std.specs.List.{cons_option, filter_map, list_any}
use Rattle.std.proofs.lemmas.List.Sums.{sum_by-cons}
use Rattle.item_laws.specs.Slots.{Slot}

pub fold_max-ge : (a : ℕ) (xs : List ℕ) → a ≤ fold max a xs
fold_max-ge a [] = omega arith
fold_max-ge a (x ∷ xs) = let rest = fold_max-ge (max a x) xs in omega arith

one_mark : (here later : Bool) (size : ℕ) → cond (here || later) size 0 ≤ size + cond later size 0
one_mark true later size = omega arith
one_mark false true size = omega arith
one_mark false false size = omega arith

pub some_or_none : {X : Type 0} (o : Option X) → (o ≡ None) ⊎ ((x : X) × (o ≡ Some x))
some_or_none None = inl refl
some_or_none (Some x) = inr (x, refl)

-- Each entry has a slot of this size, and so has a mark, which is no entry: so the entries with their slots and one mark
-- take up no more than their bytes and all slots.
pub slots_cost : {X : Type 0} (read : Slot → Option X) (is_mark : Slot → Bool) (size : ℕ) (cost len : X → ℕ) → ((x : X) → cost x ≤ len x + size) → ((slot : Slot) (x : X) → read slot ≡ Some x → is_mark slot ≡ false) → (ss : List Slot)
    → sum_by cost (filter_map read ss) + cond (list_any is_mark ss) size 0 ≤ sum_by len (filter_map read ss) + length ss * size
slots_cost read is_mark size cost len own unmarked [] = omega arith
slots_cost read is_mark size cost len own unmarked (slot ∷ ss) =
    let rest = slots_cost read is_mark size cost len own unmarked ss in
    let xs = filter_map read ss in
    let count : length (slot ∷ ss) * size ≡ length ss * size + size = let e : length (slot ∷ ss) ≡ length ss + 1 = omega arith in ap (λ (n : ℕ). n * size) e ∙ omega arith in
    elim (some_or_none (read slot)) [
      | inl none ↦
          let same : filter_map read (slot ∷ ss) ≡ filter_map read ss = ap (λ o. cons_option o (filter_map read ss)) none in
          let costs : sum_by cost (filter_map read (slot ∷ ss)) ≡ sum_by cost (filter_map read ss) = ap (sum_by cost) same in
          let lens : sum_by len (filter_map read (slot ∷ ss)) ≡ sum_by len (filter_map read ss) = ap (sum_by len) same in
          let mark = one_mark (is_mark slot) (list_any is_mark ss) size in
          omega arith
      | inr (x, some) ↦
          let same : filter_map read (slot ∷ ss) ≡ x ∷ filter_map read ss = ap (λ o. cons_option o (filter_map read ss)) some in
          let costs : sum_by cost (filter_map read (slot ∷ ss)) ≡ cost x + sum_by cost (filter_map read ss) = ap (sum_by cost) same ∙ sum_by-cons cost x (filter_map read ss) in
          let lens : sum_by len (filter_map read (slot ∷ ss)) ≡ len x + sum_by len (filter_map read ss) = ap (sum_by len) same ∙ sum_by-cons len x (filter_map read ss) in
          let mark : cond (list_any is_mark (slot ∷ ss)) size 0 ≡ cond (list_any is_mark ss) size 0 = ap (λ (t : Bool). cond (t || list_any is_mark ss) size 0) (unmarked slot x some) in
          let one = own x in
          omega arith
    ]

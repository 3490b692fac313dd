-- What a change of a sector's bytes makes of its slots, whatever the test is that says which are used.
use Rattle.std.proofs.Common.{◌≡◌, ℕ, zero, suc, ◌+◌, ◌-◌, ◌*◌, ◌/◌, ◌<◌, ◌≤◌, Bool, true, false, List, [], ◌∷◌, ◌++◌, length, map, refl, sym, ap, subst, ◌∙◌, inl, inr, arith}
use Rattle.std.specs.Prelude.{slice_range}
use Rattle.std.specs.List.{range_with_len, take_while}
use Rattle.std.proofs.Math.Nat.{mul-le-mul_left, mul-le-mul_right}
use Rattle.std.proofs.lemmas.Bool.{cases_lt}
use Rattle.std.proofs.lemmas.Nat.{div-add-mod'}
use Rattle.std.proofs.lemmas.List.FromFn.{map-range_with_len_more}
use Rattle.item_laws.specs.Slots.{Slot, slot_at, used_slots}
use Rattle.item_laws.proofs.SlotLemmas.{HasFence, used_slots-from}

-- the new list reads as the old one from the place on
pub record SameFrom (place : ℕ) (old new : List ℕ) : Type 0 where
  pub long : length new ≡ length old
  pub bytes : (i j : ℕ) → place ≤ i → slice_range new i j ≡ slice_range old i j

pub slot_at-same : (size : ℕ) (old new : List ℕ) (k : ℕ) → length new ≡ length old
    → slice_range new (length old - (k + 1) * size) (length old - (k + 1) * size + size) ≡ slice_range old (length old - (k + 1) * size) (length old - (k + 1) * size + size)
    → slot_at size new k ≡ slot_at size old k
unfolding slot_at
slot_at-same size old new k long same =
    ap (λ (n : ℕ). record { index = k; start = n - (k + 1) * size; bytes = slice_range new (n - (k + 1) * size) (n - (k + 1) * size + size) }) long
    ∙ ap (λ (bytes : List ℕ). record { index = k; start = length old - (k + 1) * size; bytes = bytes }) same

pub slot_at-from : (size place : ℕ) (old new : List ℕ) → SameFrom place old new → (k : ℕ) → place ≤ length old - (k + 1) * size → slot_at size new k ≡ slot_at size old k
slot_at-from size place old new same k le = slot_at-same size old new k same.long (same.bytes _ _ le)

pub map-agree : {X : Type 0} (f g : ℕ → X) (a n : ℕ) → ((k : ℕ) → a ≤ k → k < a + n → f k ≡ g k) → map f (range_with_len a n) ≡ map g (range_with_len a n)
map-agree f g a zero same = refl
map-agree f g a (suc n) same =
    ap (λ x. x ∷ map f (range_with_len (a + 1) n)) (same a (omega arith) (omega arith))
    ∙ ap (λ xs. g a ∷ xs) (map-agree f g (a + 1) n (λ k le lt. same k (omega arith) (omega arith)))

-- so many slots from the first one on read the same
pub same_slots : (first size place : ℕ) (old new : List ℕ) (n : ℕ) → SameFrom place old new → place + (n + first) * size ≤ length old → map (slot_at size new) (range_with_len first n) ≡ map (slot_at size old) (range_with_len first n)
same_slots first size place old new n same le =
    map-agree (slot_at size new) (slot_at size old) first n
    (λ k low high. slot_at-from size place old new same k (let w : (k + 1) * size ≤ (n + first) * size = mul-le-mul_right size (omega arith) in omega arith))

-- the used slots stay where the new fence is none of them
pub fence_same : (is_used : Slot → Bool) (first size place : ℕ) (old new : List ℕ) (n : ℕ) → SameFrom place old new → HasFence is_used first size old n → place + (n + first) * size ≤ length old → is_used (slot_at size new (n + first)) ≡ false → HasFence is_used first size new n
fence_same is_used first size place old new n same fence le stop = record {
  used = λ k from below. ap is_used (slot_at-from size place old new same k (let w : (k + 1) * size ≤ (n + first) * size = mul-le-mul_right size (omega arith) in omega arith)) ∙ fence.used k from below;
  fence = stop;
  within = rw same.long fence.within;
}

-- one more slot is used
pub fence_more : (is_used : Slot → Bool) (first size place : ℕ) (old new : List ℕ) (n : ℕ) → SameFrom place old new → HasFence is_used first size old n → place + (n + first) * size ≤ length old
    → is_used (slot_at size new (n + first)) ≡ true → is_used (slot_at size new (n + 1 + first)) ≡ false → (n + 1 + first + 1) * size ≤ length old → HasFence is_used first size new (n + 1)
fence_more is_used first size place old new n same fence le used stop within = record {
  used = λ k from below. elim (cases_lt k (n + first)) [
    | inl lt ↦ ap is_used (slot_at-from size place old new same k (let w : (k + 1) * size ≤ (n + first) * size = mul-le-mul_right size (omega arith) in omega arith)) ∙ fence.used k from lt
    | inr ge ↦ let e : n + first ≡ k = omega arith in subst (λ (j : ℕ). is_used (slot_at size new j) ≡ true) e used
  ];
  fence = stop;
  within = rw same.long within;
}

pub used_slots-kept : (is_used : Slot → Bool) (first size place : ℕ) (old new : List ℕ) (n : ℕ) → 0 < size → SameFrom place old new → HasFence is_used first size old n → place + (n + first) * size ≤ length old → is_used (slot_at size new (n + first)) ≡ false → used_slots is_used first size new ≡ used_slots is_used first size old
used_slots-kept is_used first size place old new n positive same fence le stop =
    used_slots-from is_used first size new n positive (fence_same is_used first size place old new n same fence le stop)
    ∙ same_slots first size place old new n same le ∙ sym (used_slots-from is_used first size old n positive fence)

pub used_slots-more : (is_used : Slot → Bool) (first size place : ℕ) (old new : List ℕ) (n : ℕ) → 0 < size → SameFrom place old new → HasFence is_used first size old n → place + (n + first) * size ≤ length old
    → is_used (slot_at size new (n + first)) ≡ true → is_used (slot_at size new (n + 1 + first)) ≡ false → (n + 1 + first + 1) * size ≤ length old
    → used_slots is_used first size new ≡ used_slots is_used first size old ++ slot_at size new (n + first) ∷ []
used_slots-more is_used first size place old new n positive same fence le used stop within =
    used_slots-from is_used first size new (n + 1) positive (fence_more is_used first size place old new n same fence le used stop within)
    ∙ map-range_with_len_more (slot_at size new) first n (n + first) (omega arith)
    ∙ ap (λ (ss : List Slot). ss ++ slot_at size new (n + first) ∷ []) (same_slots first size place old new n same le ∙ sym (used_slots-from is_used first size old n positive fence))

-- a change above the first slot leaves the slots from it on
pub used_slots-under : (is_used : Slot → Bool) (first size : ℕ) (old new : List ℕ) → 0 < size → length new ≡ length old → ((i j : ℕ) → j + first * size ≤ length old → slice_range new i j ≡ slice_range old i j) → used_slots is_used first size new ≡ used_slots is_used first size old
unfolding used_slots
used_slots-under is_used first size old new positive long below =
    let each : map (slot_at size new) (range_with_len first (length old / size - first)) ≡ map (slot_at size old) (range_with_len first (length old / size - first)) =
    map-agree (slot_at size new) (slot_at size old) first (length old / size - first) (λ k from to.
    let top : size * (k + 1) ≤ size * (length old / size) = mul-le-mul_left size (omega arith) in
    let whole = div-add-mod' (length old) size in
    let over : first * size ≤ k * size = mul-le-mul_right size from in
    slot_at-same size old new k long (below (length old - (k + 1) * size) (length old - (k + 1) * size + size) (omega arith))) in
    ap (λ (n : ℕ). take_while is_used (map (slot_at size new) (range_with_len first (n / size - first)))) long ∙ ap (take_while is_used) each

-- Which slots are used, by index, whatever the test is that says it.
use Rattle.std.proofs.Common.{◌≡◌, ℕ, ◌+◌, ◌-◌, ◌*◌, ◌/◌, ◌<◌, ◌≤◌, Bool, true, false, List, length, map, get_or, take, refl, sym, ap, subst, ◌∙◌, arith}
use Rattle.std.proofs.Math.Nat.{mul-le-mul_left, mul-le-mul_right}
use Rattle.std.specs.Prelude.{slice_range}
use Rattle.std.specs.List.{range_with_len, prefix_len}
use Rattle.std.proofs.lemmas.Nat.{le-div}
use Rattle.std.proofs.lemmas.List.Sums.{prefix_len_is, prefix_len_passes, prefix_len_stops}
use Rattle.std.proofs.lemmas.List.Folds.{length-prefix_len}
use Rattle.std.proofs.lemmas.List.FromFn.{length-map-range_with_len, get_or-map-range_with_len, take-map-range_with_len}
use Rattle.item_laws.specs.Slots.{Slot, slot_at, slots, used_slots, low}

-- a product is no less than its first factor
pub factor_le : (a size n : ℕ) → 0 < size → a * size ≤ n → a ≤ n
factor_le a size n positive le = let least : a * 1 ≤ a * size = mul-le-mul_left a positive in omega arith

-- a lower slot ends where a higher one starts, or under it
pub slot_order : (size k j : ℕ) → k < j → (k + 1) * size + size ≤ (j + 1) * size
slot_order size k j lt =
    let le : (k + 2) * size ≤ (j + 1) * size = mul-le-mul_right size (omega arith) in
    omega arith

pub slot_within : (size k n : ℕ) → k ≤ n → (k + 1) * size ≤ (n + 1) * size
slot_within size k n le = mul-le-mul_right size (omega arith)

pub bytes-slot_at : (size : ℕ) (b : List ℕ) (k start : ℕ) → start ≡ length b - (k + 1) * size → slice_range b start (start + size) ≡ (slot_at size b k).bytes
unfolding slot_at
bytes-slot_at size b k start at = rw at refl

pub start-slot_at : (size : ℕ) (b : List ℕ) (k : ℕ) → (slot_at size b k).start ≡ length b - (k + 1) * size
unfolding slot_at
start-slot_at size b k = refl

pub index-slot_at : (size : ℕ) (b : List ℕ) (k : ℕ) → (slot_at size b k).index ≡ k
unfolding slot_at
index-slot_at size b k = refl

-- From the first slot on so many are used, and the next one is not and stands in the sector.
pub record HasFence (is_used : Slot → Bool) (first size : ℕ) (b : List ℕ) (n : ℕ) : Type 0 where
  pub used : (k : ℕ) → first ≤ k → k < n + first → is_used (slot_at size b k) ≡ true
  pub fence : is_used (slot_at size b (n + first)) ≡ false
  pub within : (n + first + 1) * size ≤ length b

pub used_slots-from : (is_used : Slot → Bool) (first size : ℕ) (b : List ℕ) (n : ℕ) → 0 < size → HasFence is_used first size b n → used_slots is_used first size b ≡ map (slot_at size b) (range_with_len first n)
unfolding used_slots
used_slots-from is_used first size b n positive h =
    let room : n + first + 1 ≤ length b / size = le-div (n + first + 1) (length b) size positive h.within in
    let len : length (slots first size b) ≡ length b / size - first = length-map-range_with_len (slot_at size b) first (length b / size - first) in
    let d : Slot = slot_at size b 0 in
    let is : prefix_len is_used (slots first size b) ≡ n =
    prefix_len_is is_used (slots first size b) n d (omega arith)
    (λ k lt. ap is_used (get_or-map-range_with_len (slot_at size b) first (length b / size - first) k (k + first) d (omega arith) (omega arith)) ∙ h.used (k + first) (omega arith) (omega arith))
    (λ lt. ap is_used (get_or-map-range_with_len (slot_at size b) first (length b / size - first) n (n + first) d (omega arith) (omega arith)) ∙ h.fence) in
    ap (λ (k : ℕ). take k (slots first size b)) is ∙ take-map-range_with_len (slot_at size b) first (length b / size - first) n (omega arith)

pub length-used_slots : (is_used : Slot → Bool) (first size : ℕ) (b : List ℕ) → length (used_slots is_used first size b) ≡ prefix_len is_used (slots first size b)
unfolding used_slots
length-used_slots is_used first size b = length-prefix_len is_used (slots first size b)

-- so many are used where there is such a fence
pub count-used_slots : (is_used : Slot → Bool) (first size : ℕ) (b : List ℕ) (n : ℕ) → 0 < size → HasFence is_used first size b n → length (used_slots is_used first size b) ≡ n
count-used_slots is_used first size b n positive h =
    ap length (used_slots-from is_used first size b n positive h) ∙ length-map-range_with_len (slot_at size b) first n

-- where there is room for a slot under those used, there is a fence
pub HasFence-from_low : (is_used : Slot → Bool) (first size : ℕ) (b : List ℕ) → 0 < size → size ≤ low is_used first size b → HasFence is_used first size b (length (used_slots is_used first size b))
HasFence-from_low is_used first size b positive room =
    let n = length (used_slots is_used first size b) in
    let is : length (used_slots is_used first size b) ≡ prefix_len is_used (slots first size b) = length-used_slots is_used first size b in
    let within : (length (used_slots is_used first size b) + first + 1) * size ≤ length b = omega arith in
    let count : length (used_slots is_used first size b) + first + 1 ≤ length b / size = le-div (length (used_slots is_used first size b) + first + 1) (length b) size positive within in
    let len : length (slots first size b) ≡ length b / size - first = length-map-range_with_len (slot_at size b) first (length b / size - first) in
    let d : Slot = slot_at size b 0 in
    let at = λ (k : ℕ) (lt : k < length b / size - first). get_or-map-range_with_len (slot_at size b) first (length b / size - first) k (k + first) d lt (omega arith) in
    record {
      used = λ k from below.
          let back : k - first + first ≡ k = omega arith in
          subst (λ (j : ℕ). is_used (slot_at size b j) ≡ true) back (ap is_used (sym (at (k - first) (omega arith))) ∙ prefix_len_passes is_used (slots first size b) (k - first) d (omega arith));
      fence =
          let stop : prefix_len is_used (slots first size b) < length (slots first size b) = omega arith in
          ap is_used (sym (at (length (used_slots is_used first size b)) (omega arith))) ∙ ap (λ (j : ℕ). is_used (get_or (slots first size b) j d)) is ∙ prefix_len_stops is_used (slots first size b) d stop;
      within = within;
    }

-- Where the bytes under a place of a sector are erased, and where the last unit ends that is not.
use Rattle.std.proofs.Common.{◌≡◌, ℕ, ◌+◌, ◌-◌, ◌%◌, ◌<◌, ◌≤◌, Bool, true, eqb, List, length, get_or, take, sym, ap, ◌∙◌, inl, inr, arith}
use Rattle.std.specs.Prelude.{slice_range, reverse}
use Rattle.std.specs.List.{suffix_len}
use Rattle.std.proofs.lemmas.Bool.{cases_lt, eqb-true, eq-eqb, false≢true}
use Rattle.std.proofs.lemmas.List.{length-take-le, length-reverse, get_or-reverse, get_or-take}
use Rattle.std.proofs.lemmas.List.Sums.{prefix_len_passes, prefix_len_stops, list_all-from_AllPass, AllPass-from_list_all}
use Rattle.std.proofs.lemmas.List.Elements.{All-from_get_or}
use Rattle.std.proofs.lemmas.List.Edits.{length-between, get_or-between}
use Rattle.flash_map.specs.Units.{IsUnit, is_erased, written_end}
use Rattle.flash_map.proofs.Rounding.{padding}

suffix_len_passes : (p : ℕ → Bool) (xs : List ℕ) (k : ℕ) → length xs ≤ suffix_len p xs + k → k < length xs → p (get_or xs k 0) ≡ true
suffix_len_passes p xs k within lt =
    let j = length xs - 1 - k in
    let back : length xs - 1 - (length xs - 1 - k) ≡ k = omega arith in
    let passes = prefix_len_passes p (reverse xs) (length xs - 1 - k) 0 (omega arith) in
    ap p (ap (λ (i : ℕ). get_or xs i 0) (sym back) ∙ sym (get_or-reverse xs (length xs - 1 - k) 0 (omega arith))) ∙ passes

pub erased_above : (unit fence : ℕ) (b : List ℕ) (limit : ℕ) → IsUnit unit → fence ≤ length b → written_end unit fence b ≤ limit → (k : ℕ) → limit ≤ k → k < fence → get_or b k 0 ≡ 255
unfolding written_end
erased_above unit fence b limit is-unit within below k le lt =
    let len : length (take fence b) ≡ fence = length-take-le fence b within in
    let rounded = (padding unit is-unit).no_less (fence - suffix_len (λ byte. eqb byte 255) (take fence b)) in
    sym (get_or-take fence b k 0 lt) ∙ eqb-true (get_or (take fence b) k 0) 255 (suffix_len_passes (λ byte. eqb byte 255) (take fence b) k (omega arith) (omega arith))

pub written_end-le : (unit fence : ℕ) (b : List ℕ) (limit : ℕ) → IsUnit unit → limit % unit ≡ 0 → fence ≤ length b → ((k : ℕ) → limit ≤ k → k < fence → get_or b k 0 ≡ 255) → written_end unit fence b ≤ limit
unfolding written_end
written_end-le unit fence b limit is-unit aligned within erased =
    let p = λ (byte : ℕ). eqb byte 255 in
    let under = take fence b in
    let n = suffix_len (λ byte. eqb byte 255) (take fence b) in
    let len : length (take fence b) ≡ fence = length-take-le fence b within in
    let len-reverse : length (reverse (take fence b)) ≡ fence = length-reverse (take fence b) ∙ len in
    (padding unit is-unit).least (fence - suffix_len (λ byte. eqb byte 255) (take fence b)) limit
    (elim (cases_lt limit (fence - suffix_len (λ byte. eqb byte 255) (take fence b))) [
      | inl lt ↦
          let fails = prefix_len_stops (λ byte. eqb byte 255) (reverse (take fence b)) 0 (omega arith) in
          let last = fence - 1 - suffix_len (λ byte. eqb byte 255) (take fence b) in
          let same : get_or (reverse (take fence b)) (suffix_len (λ byte. eqb byte 255) (take fence b)) 0 ≡ get_or b (length (take fence b) - 1 - suffix_len (λ byte. eqb byte 255) (take fence b)) 0 =
          get_or-reverse (take fence b) (suffix_len (λ byte. eqb byte 255) (take fence b)) 0 (omega arith) ∙ get_or-take fence b (length (take fence b) - 1 - suffix_len (λ byte. eqb byte 255) (take fence b)) 0 (omega arith) in
          let is : get_or (reverse (take fence b)) (suffix_len (λ byte. eqb byte 255) (take fence b)) 0 ≡ 255 = same ∙ erased _ (omega arith) (omega arith) in
          absurd (false≢true (sym fails ∙ eq-eqb _ 255 is))
      | inr ge ↦ ge
    ])
    aligned

pub erased_range : (b : List ℕ) (i j : ℕ) → j ≤ length b → ((k : ℕ) → i ≤ k → k < j → get_or b k 0 ≡ 255) → is_erased (slice_range b i j) ≡ true
erased_range b i j within erased =
    let len : length (slice_range b i j) ≡ j - i = length-between b i j within in
    list_all-from_AllPass (λ byte. eqb byte 255) (slice_range b i j)
    (All-from_get_or (λ (byte : ℕ). eqb byte 255 ≡ true) (slice_range b i j) 0
    (λ k lt. eq-eqb (get_or (slice_range b i j) k 0) 255 (get_or-between b i j k 0 (omega arith) ∙ erased (i + k) (omega arith) (omega arith))))

pub erased_from_range : (b : List ℕ) (i j : ℕ) → j ≤ length b → is_erased (slice_range b i j) ≡ true → (k : ℕ) → i ≤ k → k < j → get_or b k 0 ≡ 255
erased_from_range b i j within erased k le lt =
    let len : length (slice_range b i j) ≡ j - i = length-between b i j within in
    let back : i + (k - i) ≡ k = omega arith in
    ap (λ (x : ℕ). get_or b x 0) (sym back) ∙ sym (get_or-between b i j (k - i) 0 (omega arith))
    ∙ eqb-true _ 255 (AllPass-from_list_all (λ byte. eqb byte 255) (slice_range b i j) erased (k - i) 0 (omega arith))

-- One bit of a table is set.
use Rattle.std.proofs.Common.{◌≡◌, ℕ, ◌*◌, ◌/◌, ◌%◌, ◌^◌, ◌<◌, List, length, get_or, set, bit_or, sym, ap, ◌∙◌, inl, inr, w32, arith}
use Rattle.std.specs.Int.{bit_at}
use Rattle.std.proofs.lemmas.Bool.{cases_eq}
use Rattle.std.proofs.lemmas.List.{get_or-set_same, get_or-set_other}
use Rattle.std.proofs.lemmas.Nat.Bits.{bit_at_set_same, bit_at_set_other}
use Rattle.named_items.specs.Seen.{is_marked}

module _ (words : List ℕ) (size : length words ≡ 512) (hash : ℕ) where
  -- the word of the hash, with its bit
  abbrev pub word : ℕ
  word = bit_or (get_or words (hash / 32 % 512) 0) (1 * 2 ^ (hash % 32) % 4294967296)

  abbrev pub marked : List ℕ
  marked = set words (hash / 32 % 512) word

  within : hash / 32 % 512 < length words
  within = omega arith

  low : hash % 32 < 32
  low = omega arith

  pub mark-same : is_marked marked hash ≡ 1
  mark-same =
      ap (λ (k : ℕ). bit_at k (hash % 32)) (get_or-set_same words (hash / 32 % 512) word 0 within)
      ∙ bit_at_set_same w32 (get_or words (hash / 32 % 512) 0) (hash % 32) low

  pub mark-keeps : (other : ℕ) → is_marked words other ≡ 1 → is_marked marked other ≡ 1
  mark-keeps other was = elim (cases_eq (other / 32 % 512) (hash / 32 % 512)) [
    | inr apart ↦ ap (λ (k : ℕ). bit_at k (other % 32)) (get_or-set_other words (hash / 32 % 512) (other / 32 % 512) word 0 apart) ∙ was
    | inl same ↦
        ap (λ (k : ℕ). bit_at (get_or marked k 0) (other % 32)) same
        ∙ ap (λ (k : ℕ). bit_at k (other % 32)) (get_or-set_same words (hash / 32 % 512) word 0 within)
        ∙ elim (cases_eq (other % 32) (hash % 32)) [
          | inl e ↦ ap (bit_at word) e ∙ bit_at_set_same w32 (get_or words (hash / 32 % 512) 0) (hash % 32) low
          | inr apart ↦
              bit_at_set_other w32 (get_or words (hash / 32 % 512) 0) (hash % 32) low (other % 32) apart
              ∙ ap (λ (k : ℕ). bit_at (get_or words k 0) (other % 32)) (sym same) ∙ was
        ]
  ]

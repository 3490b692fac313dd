-- A record that is built part by part.
use Rattle.std.proofs.Common.{◌≡◌, ℕ, ◌+◌, ◌-◌, ◌/◌, ◌%◌, ◌<◌, ◌≤◌, List, [], ◌∷◌, ◌++◌, length, get_or, replicate, inl, inr, ap, ◌∙◌, append_assoc, arith}
use Rattle.std.proofs.lemmas.Bool.{cases_lt, cases_eq, lt-ltb, le-ltb}
use Rattle.std.proofs.lemmas.List.{get_or_past}
use Rattle.crc8_entry.specs.Crc.{crc}
use Rattle.flash_sim.specs.declared.flash.TheConstants.{PROGRAM_LIMIT}
use Rattle.flash_map.specs.Units.{IsUnit, padded}
use Rattle.flash_map.proofs.Rounding.{padding}
use Rattle.fcb_ring.specs.Writing.{filled, length_field, record_image, record_cost}
use Rattle.fcb_ring.proofs.RecordLemmas.{crc_of_two}
use Rattle.fcb_ring.proofs.ImageLemmas.{IsField, field_is, small_padded}

pub filled-is : (unit : ℕ) (old mid new part : List ℕ) (fill : ℕ) → fill ≡ padded unit (length part) - length part → mid ≡ old ++ part → new ≡ mid ++ replicate fill 255 → new ≡ old ++ filled unit part
unfolding filled
filled-is unit old mid new part fill is first second =
    second ∙ ap (λ (l : List ℕ). l ++ replicate fill 255) first ∙ append_assoc old part (replicate fill 255) ∙ ap (λ (n : ℕ). old ++ (part ++ replicate n 255)) is

pair-bytes : (a b k : ℕ) → a < 256 → b < 256 → get_or (a ∷ b ∷ []) k 0 < 256
pair-bytes a b k first second = elim (cases_eq k 0) [
  | inl zero_is ↦ let e : get_or (a ∷ b ∷ []) k 0 ≡ a = ap (λ (n : ℕ). get_or (a ∷ b ∷ []) n 0) zero_is in omega arith
  | inr other ↦
      elim (cases_eq k 1) [
        | inl one_is ↦ let e : get_or (a ∷ b ∷ []) k 0 ≡ b = ap (λ (n : ℕ). get_or (a ∷ b ∷ []) n 0) one_is in omega arith
        | inr more ↦ let e : get_or (a ∷ b ∷ []) k 0 ≡ 0 = get_or_past (a ∷ b ∷ []) k 0 (omega (arith, other, more)) in omega arith
      ]
]

one-bytes : (a k : ℕ) → a < 256 → get_or (a ∷ []) k 0 < 256
one-bytes a k first = elim (cases_eq k 0) [
  | inl zero_is ↦ let e : get_or (a ∷ []) k 0 ≡ a = ap (λ (n : ℕ). get_or (a ∷ []) n 0) zero_is in omega arith
  | inr other ↦ let e : get_or (a ∷ []) k 0 ≡ 0 = get_or_past (a ∷ []) k 0 (omega (arith, other)) in omega arith
]

field-bytes : (len : ℕ) → len ≤ 16383 → (k : ℕ) → get_or (length_field len) k 0 < 256
unfolding length_field
field-bytes len le k = elim (cases_lt len 128) [
  | inl lt ↦ rw (lt-ltb len 128 lt) (one-bytes len k (omega arith))
  | inr ge ↦ rw (le-ltb len 128 ge) (pair-bytes (len % 128 + 128) (len / 128) k (omega arith) (omega arith))
]

module _ (unit : ℕ) (is_unit : IsUnit unit) (body : List ℕ) (short : record_cost unit (length body) ≤ PROGRAM_LIMIT) (field : List ℕ) (is : field ≡ length_field (length body)) where
  few : length body ≤ 16383
  few = let pad = padding unit is_unit in omega (arith, pad.no_less (length body))

  f : IsField (length body) (length_field (length body))
  f = field_is (length body) few

  field-unit : padded unit (length field) ≡ unit
  field-unit = let n : length field ≡ length (length_field (length body)) = ap length is in small_padded unit is_unit (length field) (omega (arith, f.short.0)) (omega (arith, f.short.1))

  module _ (room : ℕ) (fits : record_cost unit (length body) ≤ room) where
    pub room-first : 0 + padded unit (length field) ≤ room
    room-first = omega (arith, field-unit, fits)

    module _ (first : ℕ) (one : first ≡ 0 + padded unit (length field)) where
      pub room-second : first + padded unit (length body) ≤ room
      room-second = omega (arith, field-unit, fits, one)

      pub room-third : (second : ℕ) → second ≡ first + padded unit (length body) → second + padded unit 1 ≤ room
      room-third second two = omega (arith, two, field-unit, fits, one, small_padded unit is_unit 1 (omega arith) (omega arith))

  pub field-short : length field ≤ PROGRAM_LIMIT
  field-short = let n : length field ≡ length (length_field (length body)) = ap length is in omega (arith, f.short.0, f.short.1)

  pub built : (first second third : List ℕ) (a b : ℕ) → first ≡ filled unit field → second ≡ first ++ filled unit body → third ≡ second ++ filled unit (b ∷ [])
      → a ≡ crc 255 field → b ≡ crc a body → ((k : ℕ) → get_or body k 0 < 256) → third ≡ record_image unit body
  unfolding record_image
  built first second third a b one two three over_field over_body bytes =
      let code : b ≡ crc 255 (length_field (length body) ++ body) =
      over_body ∙ ap (λ (n : ℕ). crc n body) (over_field ∙ ap (crc 255) is) ∙ crc_of_two 255 (length_field (length body)) body (omega arith) (field-bytes (length body) few) bytes in
      let start : first ≡ filled unit (length_field (length body)) = one ∙ ap (filled unit) is in
      three
      ∙ ap (λ (n : ℕ). second ++ filled unit (n ∷ [])) code
      ∙ ap (λ (l : List ℕ). l ++ filled unit (crc 255 (length_field (length body) ++ body) ∷ [])) (two ∙ ap (λ (l : List ℕ). l ++ filled unit body) start)
      ∙ append_assoc (filled unit (length_field (length body))) (filled unit body) (filled unit (crc 255 (length_field (length body) ++ body) ∷ []))

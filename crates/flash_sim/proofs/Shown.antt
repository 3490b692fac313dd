-- What sectors show whose bytes stand in one buffer.
use Rattle.std.proofs.Common.{◌≡◌, ℕ, zero, suc, ◌+◌, ◌*◌, ◌<◌, ◌≤◌, ◌⊎◌, inl, inr, List, [], ◌∷◌, ◌++◌, length, get_or, set, take, drop, refl, sym, ◌∙◌, ap, arith, rules, length-append, length-take, length-drop, append-nil, append_assoc}
use Rattle.std.proofs.Math.Nat.{mul-le-mul_right}
use Rattle.std.proofs.lemmas.List.{places, same_lists, length-take-le}
use Rattle.flash_sim.specs.Device.{overwritten}
use Rattle.flash_sim.specs.Sparse.{shown}

-- Lists after a write.

pub length-overwritten : (old : List ℕ) (at : ℕ) (new : List ℕ) → at + length new ≤ length old → length (overwritten old at new) ≡ length old
length-overwritten old at new fits = omega (arith, length-append {A = ℕ}, length-take {A = ℕ}, length-drop {A = ℕ})

in_prefix : (piece rest : List ℕ) (at : ℕ) (new : List ℕ) → at + length new ≤ length piece → overwritten (piece ++ rest) at new ≡ overwritten piece at new ++ rest
in_prefix piece rest at new fits = same_lists _ _ (search (rules, places)) (λ k d h. grind (arith, places))

behind : (piece rest : List ℕ) (at i : ℕ) (new : List ℕ) → i ≡ length piece + at → at + length new ≤ length rest → overwritten (piece ++ rest) i new ≡ piece ++ overwritten rest at new
behind piece rest at i new is fits = same_lists _ _ (search (rules, places)) (λ k d h. grind (arith, places))

whole : (piece new : List ℕ) → length new ≡ length piece → overwritten piece 0 new ≡ new
whole piece new same = same_lists _ _ (search (rules, places)) (λ k d h. grind (arith, places))

pub unchanged : (old : List ℕ) (at n : ℕ) → at + n ≤ length old → overwritten old at (take n (drop at old)) ≡ old
unchanged old at n fits = same_lists _ _ (search (rules, places)) (λ k d h. grind (arith, places))

part_below : (old : List ℕ) (at : ℕ) (new : List ℕ) (start n : ℕ) → at + length new ≤ length old → start + n ≤ at → take n (drop start (overwritten old at new)) ≡ take n (drop start old)
part_below old at new start n fits below = same_lists _ _ (search (rules, places)) (λ k d h. grind (arith, places))

part_above : (old : List ℕ) (at : ℕ) (new : List ℕ) (start n : ℕ) → at + length new ≤ length old → at + length new ≤ start → take n (drop start (overwritten old at new)) ≡ take n (drop start old)
part_above old at new start n fits above = same_lists _ _ (search (rules, places)) (λ k d h. grind (arith, places))

part_with : (old : List ℕ) (start at i n : ℕ) (new : List ℕ) → i ≡ start + at → at + length new ≤ n → start + n ≤ length old → take n (drop start (overwritten old i new)) ≡ overwritten (take n (drop start old)) at new
part_with old start at i n new is fits within = same_lists _ _ (search (rules, places)) (λ k d h. grind (arith, places))

past : (piece rest : List ℕ) (i at : ℕ) → i ≡ length piece + at → drop i (piece ++ rest) ≡ drop at rest
past piece rest i at is = same_lists _ _ (search (rules, places)) (λ k d h. grind (arith, places))

inside : (old rest : List ℕ) (start size at len : ℕ) → at + len ≤ size → start + size ≤ length old → take len (drop at (take size (drop start old) ++ rest)) ≡ take len (drop (start + at) old)
inside old rest start size at len fits within = same_lists _ _ (search (rules, places)) (λ k d h. grind (arith, places))

-- Sectors that start anywhere in the buffer.

abbrev pub Fit : ℕ → List ℕ → List ℕ → Type 0
Fit size buffer starts = (s : ℕ) → s < length starts → get_or starts s 0 + size ≤ length buffer

-- a sector has none of these places
abbrev pub IsApart : ℕ → ℕ → ℕ → ℕ → Type 0
IsApart size start at len = (start + size ≤ at) ⊎ (at + len ≤ start)

length-piece : (size start : ℕ) (buffer : List ℕ) → start + size ≤ length buffer → length (take size (drop start buffer)) ≡ size
length-piece size start buffer fits = length-take-le size (drop start buffer) (omega (arith, length-drop start buffer))

module _ (size : ℕ) (buffer : List ℕ) where
  pub length-shown : (starts : List ℕ) → Fit size buffer starts → length (shown size buffer starts) ≡ length starts * size
  length-shown [] fit = omega arith
  length-shown (start ∷ starts) fit =
      let rest = length-shown starts (λ s lt. fit (suc s) (omega arith)) in
      let piece = length-piece size start buffer (fit 0 (omega arith)) in
      omega (arith, rest, piece, length-append (take size (drop start buffer)) (shown size buffer starts))

  pub part_shown : (starts : List ℕ) (s at len : ℕ) → Fit size buffer starts → s < length starts → at + len ≤ size
      → take len (drop (s * size + at) (shown size buffer starts)) ≡ take len (drop (get_or starts s 0 + at) buffer)
  part_shown [] s at len fit lt fits = absurd (omega arith)
  part_shown (start ∷ starts) zero at len fit lt fits =
      let none : 0 * size + at ≡ at = omega arith in
      ap (λ (n : ℕ). take len (drop n (shown size buffer (start ∷ starts)))) none ∙ inside buffer (shown size buffer starts) start size at len fits (fit 0 (omega arith))
  part_shown (start ∷ starts) (suc s) at len fit lt fits =
      let piece = length-piece size start buffer (fit 0 (omega arith)) in
      ap (take len) (past (take size (drop start buffer)) (shown size buffer starts) (suc s * size + at) (s * size + at) (omega (arith, piece)))
      ∙ part_shown starts s at len (λ t lt. fit (suc t) (omega arith)) (omega arith) fits

  pub shown_apart : (starts : List ℕ) (at : ℕ) (new : List ℕ) → at + length new ≤ length buffer → ((s : ℕ) → s < length starts → IsApart size (get_or starts s 0) at (length new))
      → shown size (overwritten buffer at new) starts ≡ shown size buffer starts
  shown_apart [] at new fits apart = refl
  shown_apart (start ∷ starts) at new fits apart =
      let first : take size (drop start (overwritten buffer at new)) ≡ take size (drop start buffer)
      = elim (apart 0 (omega arith)) [ inl below ↦ part_below buffer at new start size fits below | inr above ↦ part_above buffer at new start size fits above ] in
      ap (λ (l : List ℕ). l ++ shown size (overwritten buffer at new) starts) first
      ∙ ap (λ (l : List ℕ). take size (drop start buffer) ++ l) (shown_apart starts at new fits (λ s lt. apart (suc s) (omega arith)))

  -- a write to the bytes of one sector
  pub shown_write : (starts : List ℕ) (s at i : ℕ) (new : List ℕ) → Fit size buffer starts → s < length starts → i ≡ get_or starts s 0 + at → at + length new ≤ size
      → ((t : ℕ) → t < length starts → (t ≡ s → ⊥) → IsApart size (get_or starts t 0) i (length new))
      → shown size (overwritten buffer i new) starts ≡ overwritten (shown size buffer starts) (s * size + at) new
  shown_write [] s at i new fit lt is fits apart = absurd (omega arith)
  shown_write (start ∷ starts) zero at i new fit lt is fits apart =
      let within = fit 0 (omega arith) in
      let piece = length-piece size start buffer within in
      let none : 0 * size + at ≡ at = omega arith in
      ap (λ (l : List ℕ). l ++ shown size (overwritten buffer i new) starts) (part_with buffer start at i size new is fits within)
      ∙ ap (λ (l : List ℕ). overwritten (take size (drop start buffer)) at new ++ l) (shown_apart starts i new (omega arith) (λ t below. apart (suc t) (omega arith) (λ e. absurd (omega arith))))
      ∙ sym (in_prefix (take size (drop start buffer)) (shown size buffer starts) at new (omega (arith, piece)))
      ∙ ap (λ (n : ℕ). overwritten (shown size buffer (start ∷ starts)) n new) (sym none)
  shown_write (start ∷ starts) (suc s) at i new fit lt is fits apart =
      let within = fit 0 (omega arith) in
      let piece = length-piece size start buffer within in
      let there = fit (suc s) lt in
      let long = length-shown starts (λ t below. fit (suc t) (omega arith)) in
      let more : s + 1 ≤ length starts = omega arith in
      let room = mul-le-mul_right size more in
      let first : take size (drop start (overwritten buffer i new)) ≡ take size (drop start buffer)
      = elim (apart 0 (omega arith) (λ e. absurd (omega arith))) [ inl below ↦ part_below buffer i new start size (omega arith) below | inr above ↦ part_above buffer i new start size (omega arith) above ] in
      ap (λ (l : List ℕ). l ++ shown size (overwritten buffer i new) starts) first
      ∙ ap (λ (l : List ℕ). take size (drop start buffer) ++ l) (shown_write starts s at i new (λ t below. fit (suc t) (omega arith)) (omega arith) is fits (λ t below other. apart (suc t) (omega arith) (λ e. other (omega arith))))
      ∙ sym (behind (take size (drop start buffer)) (shown size buffer starts) (s * size + at) (suc s * size + at) new (omega (arith, piece)) (omega (arith, long, room)))

  -- another start for one sector
  pub shown_set : (starts : List ℕ) (s p : ℕ) → Fit size buffer starts → s < length starts → p + size ≤ length buffer
      → shown size buffer (set starts s p) ≡ overwritten (shown size buffer starts) (s * size) (take size (drop p buffer))
  shown_set [] s p fit lt fits = absurd (omega arith)
  shown_set (start ∷ starts) zero p fit lt fits =
      let piece = length-piece size start buffer (fit 0 (omega arith)) in
      let new = length-piece size p buffer fits in
      let none : 0 * size ≡ 0 = omega arith in
      ap (λ (l : List ℕ). l ++ shown size buffer starts) (sym (whole (take size (drop start buffer)) (take size (drop p buffer)) (new ∙ sym piece)))
      ∙ sym (in_prefix (take size (drop start buffer)) (shown size buffer starts) 0 (take size (drop p buffer)) (omega (arith, piece, new)))
      ∙ ap (λ (n : ℕ). overwritten (shown size buffer (start ∷ starts)) n (take size (drop p buffer))) (sym none)
  shown_set (start ∷ starts) (suc s) p fit lt fits =
      let piece = length-piece size start buffer (fit 0 (omega arith)) in
      let new = length-piece size p buffer fits in
      let long = length-shown starts (λ t below. fit (suc t) (omega arith)) in
      let more : s + 1 ≤ length starts = omega arith in
      let room = mul-le-mul_right size more in
      ap (λ (l : List ℕ). take size (drop start buffer) ++ l) (shown_set starts s p (λ t below. fit (suc t) (omega arith)) (omega arith) fits)
      ∙ sym (behind (take size (drop start buffer)) (shown size buffer starts) (s * size) (suc s * size) (take size (drop p buffer)) (omega (arith, piece)) (omega (arith, long, room, new)))

  -- one sector more
  pub shown_push : (starts : List ℕ) (start : ℕ) → shown size buffer (starts ++ start ∷ []) ≡ shown size buffer starts ++ take size (drop start buffer)
  shown_push [] start = append-nil (take size (drop start buffer))
  shown_push (first ∷ starts) start =
      ap (λ (l : List ℕ). take size (drop first buffer) ++ l) (shown_push starts start) ∙ sym (append_assoc (take size (drop first buffer)) (shown size buffer starts) (take size (drop start buffer)))

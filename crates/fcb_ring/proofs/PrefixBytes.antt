-- Whether a list begins with another, by its bytes.
use Rattle.std.proofs.Common.{◌≡◌, ℕ, zero, suc, ◌<◌, ◌≤◌, Bool, true, false, eqb, ◌&&◌, List, [], ◌∷◌, length, get_or, refl, sym, ap, ◌∙◌, arith}
use Rattle.std.specs.List.{starts_with}
use Rattle.std.proofs.lemmas.Bool.{and_left, and_right, eq-eqb, ne_eqb}

pub begins : (s p : List ℕ) → length p ≤ length s → ((k : ℕ) → k < length p → get_or s k 0 ≡ get_or p k 0) → starts_with eqb s p ≡ true
begins s [] le same = refl
begins [] (x ∷ p) le same = absurd (omega (arith, le))
begins (y ∷ s) (x ∷ p) le same =
    ap (λ (b : Bool). b && starts_with eqb s p) (eq-eqb x y (sym (same zero (omega arith))))
    ∙ begins s p (omega (arith, le)) (λ k lt. same (suc k) (omega (arith, lt)))

pub differs : (s p : List ℕ) (k : ℕ) → k < length p → (get_or s k 0 ≡ get_or p k 0 → ⊥) → starts_with eqb s p ≡ false
differs s [] k lt other = absurd (omega (arith, lt))
differs [] (x ∷ p) k lt other = refl
differs (y ∷ s) (x ∷ p) zero lt other = and_left (eqb x y) (starts_with eqb s p) (ne_eqb x y (λ e. other (sym e)))
differs (y ∷ s) (x ∷ p) (suc k) lt other = and_right (eqb x y) (starts_with eqb s p) (differs s p k (omega (arith, lt)) other)

pub shorter : (s p : List ℕ) → length s < length p → starts_with eqb s p ≡ false
shorter s [] lt = absurd (omega (arith, lt))
shorter [] (x ∷ p) lt = refl
shorter (y ∷ s) (x ∷ p) lt = and_right (eqb x y) (starts_with eqb s p) (shorter s p (omega (arith, lt)))

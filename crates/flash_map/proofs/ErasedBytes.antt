-- Erased bytes.
use Rattle.std.proofs.Common.{◌≡◌, ℕ, zero, suc, List, [], ◌∷◌, length, replicate, true, refl, ◌∙◌, ap, eqb}
use Rattle.std.proofs.lemmas.Bool.{and_parts, eqb-true}
use Rattle.flash_map.specs.Units.{is_erased}

-- they are so many FF
pub erased_is : (xs : List ℕ) → is_erased xs ≡ true → xs ≡ replicate (length xs) 255
erased_is [] e = refl
erased_is (x ∷ xs) e =
    let parts = and_parts (eqb x 255) (is_erased xs) e in
    ap (λ (n : ℕ). n ∷ xs) (eqb-true x 255 parts.0) ∙ ap (λ (l : List ℕ). 255 ∷ l) (erased_is xs parts.1)

pub erased_from : (n : ℕ) → is_erased (replicate n 255) ≡ true
erased_from zero = refl
erased_from (suc n) = erased_from n

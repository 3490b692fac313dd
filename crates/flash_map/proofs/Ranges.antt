-- What a list of bytes reads after others were put into it.
use Rattle.std.proofs.Common.{◌≡◌, ℕ, ◌+◌, ◌-◌, ◌<◌, ◌≤◌, List, ◌++◌, length, get_or, take, drop, sym, ap, ◌∙◌, append_assoc, arith, rules}
use Rattle.std.specs.Prelude.{slice_range}
use Rattle.std.proofs.lemmas.List.{places, same_lists, length-take-le, length-append, drop_at, drop-drop, take-take, take-append-le, get_or-drop, get_or-take}
use Rattle.std.proofs.lemmas.Slice.{between_is}
use Rattle.flash_sim.specs.Device.{overwritten}

-- the front and what was put there, and then the rest
split : (b : List ℕ) (at : ℕ) (p : List ℕ) → overwritten b at p ≡ (take at b ++ p) ++ drop (at + length p) b
split b at p = sym (append_assoc (take at b) p (drop (at + length p) b))

pub drop-put : (b : List ℕ) (at : ℕ) (p : List ℕ) (i : ℕ) → at + length p ≤ length b → at + length p ≤ i → drop i (overwritten b at p) ≡ drop i b
drop-put b at p i fits le =
    let prefix : length (take at b ++ p) ≡ at + length p = length-append (take at b) p ∙ ap (λ (n : ℕ). n + length p) (length-take-le at b (omega arith)) in
    let apart : i ≡ at + length p + (i - (at + length p)) = omega arith in
    ap (drop i) (split b at p)
    ∙ ap (λ (n : ℕ). drop n ((take at b ++ p) ++ drop (at + length p) b)) apart ∙ sym (drop-drop (i - (at + length p)) (at + length p) ((take at b ++ p) ++ drop (at + length p) b))
    ∙ ap (drop (i - (at + length p))) (drop_at (take at b ++ p) (drop (at + length p) b) (at + length p) prefix)
    ∙ drop-drop (i - (at + length p)) (at + length p) b ∙ sym (ap (λ (n : ℕ). drop n b) apart)

pub take-put : (b : List ℕ) (at : ℕ) (p : List ℕ) (j : ℕ) → at ≤ length b → j ≤ at → take j (overwritten b at p) ≡ take j b
take-put b at p j fits le =
    let prefix : length (take at b) ≡ at = length-take-le at b fits in
    take-append-le j (take at b) (p ++ drop (at + length p) b) (omega arith) ∙ take-take j at b le

-- above what was put
pub range_above : (b : List ℕ) (at : ℕ) (p : List ℕ) (i j : ℕ) → at + length p ≤ length b → at + length p ≤ i → slice_range (overwritten b at p) i j ≡ slice_range b i j
range_above b at p i j fits le = ap (take (j - i)) (drop-put b at p i fits le)

-- under it
pub range_below : (b : List ℕ) (at : ℕ) (p : List ℕ) (i j : ℕ) → at ≤ length b → j ≤ at → slice_range (overwritten b at p) i j ≡ slice_range b i j
range_below b at p i j fits le = between_is (overwritten b at p) i j ∙ ap (drop i) (take-put b at p j fits le) ∙ sym (between_is b i j)

-- the bytes themselves, and what follows them
pub drop_at_put : (b : List ℕ) (at : ℕ) (p : List ℕ) → at ≤ length b → drop at (overwritten b at p) ≡ p ++ drop (at + length p) b
drop_at_put b at p fits = drop_at (take at b) (p ++ drop (at + length p) b) at (length-take-le at b fits)

pub range_at : (b : List ℕ) (at : ℕ) (p : List ℕ) (n : ℕ) → at ≤ length b → n ≤ length p → slice_range (overwritten b at p) at (at + n) ≡ take n p
range_at b at p n fits le =
    let width : at + n - at ≡ n = omega arith in
    ap (λ (k : ℕ). take k (drop at (overwritten b at p))) width ∙ ap (take n) (drop_at_put b at p fits) ∙ take-append-le n p (drop (at + length p) b) le

pub get_or_above : (b : List ℕ) (at : ℕ) (p : List ℕ) (k : ℕ) → at + length p ≤ length b → at + length p ≤ k → get_or (overwritten b at p) k 0 ≡ get_or b k 0
get_or_above b at p k fits le =
    let none : k + 0 ≡ k = omega arith in
    sym (get_or-drop k (overwritten b at p) 0 0 ∙ ap (λ (n : ℕ). get_or (overwritten b at p) n 0) none)
    ∙ ap (λ (xs : List ℕ). get_or xs 0 0) (drop-put b at p k fits le) ∙ get_or-drop k b 0 0 ∙ ap (λ (n : ℕ). get_or b n 0) none

pub get_or_below : (b : List ℕ) (at : ℕ) (p : List ℕ) (k : ℕ) → at ≤ length b → k < at → get_or (overwritten b at p) k 0 ≡ get_or b k 0
get_or_below b at p k fits lt =
    sym (get_or-take at (overwritten b at p) k 0 lt) ∙ ap (λ (xs : List ℕ). get_or xs k 0) (take-put b at p at fits (omega arith)) ∙ get_or-take at b k 0 lt

-- bytes that are put in two calls
pub put_twice : (b : List ℕ) (at : ℕ) (x y : List ℕ) → at + length x + length y ≤ length b → overwritten (overwritten b at x) (at + length x) y ≡ overwritten b at (x ++ y)
put_twice b at x y fits = same_lists _ _ (search (rules, places)) (λ k d h. grind (arith, places))

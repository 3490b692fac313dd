-- The generated script, line by line.
use Rattle.std.proofs.Common.{◌≡◌, ◌⊎◌, inl, inr, ℕ, zero, suc, ◌+◌, ◌%◌, ◌<◌, ◌≤◌, ◌&&◌, Bool, true, List, [], ◌∷◌, ◌++◌, codes, refl, sym, ◌∙◌, ap, subst, arith}
use Rattle.std.specs.Fmt.{decimal, digits}
use Rattle.std.proofs.lemmas.Bool.{and_parts, cases_lt}
use Rattle.std.proofs.lemmas.List.FromFn.{map-range_with_len_more}
use Rattle.setting_name.specs.Name.{IsName, is_name}
use Rattle.setting_name.proofs.NameTest.{is_name-sound}
use Rattle.script_lines.specs.declared.line.Line.{Line}
use Rattle.script_lines.specs.Generator.{next_state, state_after, bytes_of, line_by, first_lines}

-- a test of every number below another
unfoldable pub all_below : ℕ → (ℕ → Bool) → Bool
all_below zero p = true
all_below (suc n) p = p n && all_below n p

by_case : (n k : ℕ) (p : ℕ → Bool) → p n ≡ true → (k < n → p k ≡ true) → k < suc n → (k < n) ⊎ (n ≤ k) → p k ≡ true
by_case n k p here before below (inl less) = before less
by_case n k p here before below (inr more) = let e : n ≡ k = omega arith in subst (λ (m : ℕ). p m ≡ true) e here

pub at_below : (n k : ℕ) (p : ℕ → Bool) → all_below n p ≡ true → k < n → p k ≡ true
unfolding all_below
at_below zero k p all below = absurd (omega arith)
at_below (suc n) k p all below =
    let both = and_parts (p n) (all_below n p) all in
    by_case n k p both.0 (λ less. at_below n k p both.1 less) below (cases_lt k n)

all_keys : all_below 40 (λ k. is_name (codes "app/k" ++ decimal k)) ≡ true
unfolding all_below is_name digits
all_keys = refl

pub key_is_name : (k : ℕ) → k < 40 → IsName (codes "app/k" ++ decimal k)
key_is_name k below = is_name-sound (codes "app/k" ++ decimal k) (at_below 40 k (λ k. is_name (codes "app/k" ++ decimal k)) all_keys below)

pub bytes_step : (i j : ℕ) (old new : List ℕ) → new ≡ old ++ (i + j) % 256 ∷ [] → old ≡ bytes_of i j → new ≡ bytes_of i (j + 1)
bytes_step i j old new more so_far =
    let e : 0 + j ≡ j = omega arith in
    more ∙ ap (λ (bytes : List ℕ). bytes ++ (i + j) % 256 ∷ []) so_far
    ∙ sym (map-range_with_len_more (λ (j : ℕ). (i + j) % 256) 0 j j e)

pub bytes_end : (i j count : ℕ) (all : List ℕ) → count ≤ j → j ≤ count → all ≡ bytes_of i j → all ≡ bytes_of i count
bytes_end i j count all past within so_far =
    let e : j ≡ count = omega arith in
    so_far ∙ ap (bytes_of i) e

pub state_step : (seed i s next : ℕ) → next ≡ next_state s → s ≡ state_after seed i → next ≡ state_after seed (i + 1)
state_step seed i s next steps so_far =
    let e : suc i ≡ i + 1 = omega arith in
    steps ∙ ap next_state so_far ∙ ap (state_after seed) e

pub lines_step : (seed i next : ℕ) (line : Line) (old new : List Line) → next ≡ state_after seed (i + 1) → line ≡ line_by (i + 1) next → new ≡ old ++ line ∷ [] → old ≡ first_lines seed i → new ≡ first_lines seed (i + 1)
lines_step seed i next line old new state is more so_far =
    let e : 1 + i ≡ i + 1 = omega arith in
    more ∙ ap (λ (lines : List Line). lines ++ line ∷ []) so_far
    ∙ ap (λ (line : Line). first_lines seed i ++ line ∷ []) (is ∙ ap (line_by (i + 1)) state)
    ∙ sym (map-range_with_len_more (λ (i : ℕ). line_by i (state_after seed i)) 1 i (i + 1) e)

pub lines_end : (seed i count : ℕ) (all : List Line) → count ≤ i → i ≤ count → all ≡ first_lines seed i → all ≡ first_lines seed count
lines_end seed i count all past within so_far =
    let e : i ≡ count = omega arith in
    so_far ∙ ap (first_lines seed) e

-- The sectors of an area that is erased, one after the other, and what the erases spend.
use Rattle.std.proofs.Common.{◌≡◌, ℕ, ◌+◌, ◌-◌, ◌<◌, ◌≤◌, Bool, true, not, cond, Result, Ok, Err, OnErr, List, [], ◌∷◌, ◌++◌, length, map, set, take, drop, replicate, inl, inr, sym, ap, ◌∙◌, append_assoc, arith}
use Rattle.std.proofs.lemmas.Bool.{cases_Bool, cond-true, cond-false, not_from_true, not_from_false}
use Rattle.std.specs.Prelude.{count_by}
use Rattle.std.proofs.lemmas.List.Sums.{sum_by-append, count_by_more_yes, count_by_more_no}
use Rattle.flash_sim.specs.Device.{Device, counted}
use Rattle.flash_map.specs.Spending.{SpendsAtMost}
use Rattle.flash_map.proofs.Plans.{counted_counted}
use Rattle.std.proofs.lemmas.List.{take-append-drop, set-get_or, take_all, drop_all, append-nil, length-map, length-take-le, get_or-append_right, get_or-drop, set-append_right, drop_more, map_more}
use Rattle.flash_map.specs.Units.{is_erased}
use Rattle.flash_map.specs.Sectors.{blanked, blanked_up_to}
use Rattle.flash_map.specs.Area.{sector_at}
use Rattle.flash_map.proofs.ErasedBytes.{erased_is}

-- a sector that is erased already
erased-same : (sector : List ℕ) → is_erased sector ≡ true → blanked sector ≡ sector
erased-same sector is = sym (erased_is sector is)

pub blanked-behind : (j : ℕ) (sectors : List (List ℕ)) (place : ℕ) → place < length sectors → j ≤ place → sector_at (blanked_up_to j sectors) place ≡ sector_at sectors place
blanked-behind j sectors place lt le =
    let n : length (map blanked (take j sectors)) ≡ j = length-map (take j sectors) blanked ∙ length-take-le j sectors (omega arith) in
    let back : j + (place - j) ≡ place = omega arith in
    get_or-append_right (map blanked (take j sectors)) (drop j sectors) j place [] n le ∙ get_or-drop j sectors (place - j) [] ∙ ap (λ (k : ℕ). sector_at sectors k) back

blanked-more : (j : ℕ) (sectors : List (List ℕ)) → j < length sectors → set (blanked_up_to j sectors) j (blanked (sector_at sectors j)) ≡ blanked_up_to (j + 1) sectors
blanked-more j sectors lt =
    let n : length (map blanked (take j sectors)) ≡ j = length-map (take j sectors) blanked ∙ length-take-le j sectors (omega arith) in
    set-append_right (map blanked (take j sectors)) (drop j sectors) j j (blanked (sector_at sectors j)) n (omega arith)
    ∙ ap (λ (k : ℕ). map blanked (take j sectors) ++ set (drop j sectors) k (blanked (sector_at sectors j))) (omega arith)
    ∙ ap (λ (l : List (List ℕ)). map blanked (take j sectors) ++ set l 0 (blanked (sector_at sectors j))) (drop_more sectors j [] lt)
    ∙ sym (append_assoc (map blanked (take j sectors)) (blanked (sector_at sectors j) ∷ []) (drop (j + 1) sectors))
    ∙ ap (λ (l : List (List ℕ)). l ++ drop (j + 1) sectors) (sym (map_more blanked sectors j [] lt))

-- one sector more
pub blanks_next : (a b c : List (List ℕ)) (j size : ℕ) (due : Bool) → j < length a → b ≡ blanked_up_to j a → length (sector_at b j) ≡ size → due ≡ not (is_erased (sector_at b j))
    → c ≡ cond due (set b j (replicate size 255)) b → c ≡ blanked_up_to (j + 1) a
blanks_next a b c j size due lt so_far long is after =
    let here : sector_at b j ≡ sector_at a j = ap (λ (l : List (List ℕ)). sector_at l j) so_far ∙ blanked-behind j a j lt (omega arith) in
    let next : set b j (blanked (sector_at b j)) ≡ blanked_up_to (j + 1) a =
    ap (λ (l : List (List ℕ)). set l j (blanked (sector_at b j))) so_far ∙ ap (λ (s : List ℕ). set (blanked_up_to j a) j (blanked s)) here ∙ blanked-more j a lt in
    elim (cases_Bool (is_erased (sector_at b j))) [
      | inl erased ↦
          after ∙ cond-false due (set b j (replicate size 255)) b (is ∙ not_from_true (is_erased (sector_at b j)) erased)
          ∙ sym (set-get_or b j []) ∙ ap (set b j) (sym (erased-same (sector_at b j) erased)) ∙ next
      | inr used ↦
          after ∙ cond-true due (set b j (replicate size 255)) b (is ∙ not_from_false (is_erased (sector_at b j)) used)
          ∙ ap (λ (n : ℕ). set b j (replicate n 255)) (sym long) ∙ next
    ]

pub blanks_all : (a : List (List ℕ)) (j : ℕ) → length a ≤ j → blanked_up_to j a ≡ map blanked a
blanks_all a j le = ap (λ (l : List (List ℕ)). map blanked l ++ drop j a) (take_all j a le) ∙ ap (λ (l : List (List ℕ)). map blanked a ++ l) (drop_all j a le) ∙ append-nil (map blanked a)

-- what holds, holds at an `Err`
pub on_err : {T E P : Type 0} (r : Result T E) → P → OnErr r P
on_err (Ok x) p = tt
on_err (Err e) p = p

pub count-prefix : (p : List ℕ → Bool) (i : ℕ) (xs : List (List ℕ)) → count_by p (take i xs) ≤ count_by p xs
count-prefix p i xs =
    let parts : count_by p (take i xs ++ drop i xs) ≡ count_by p (take i xs) + count_by p (drop i xs) = sum_by-append (λ x. cond (p x) 1 0) (take i xs) (drop i xs) in
    let whole : count_by p (take i xs ++ drop i xs) ≡ count_by p xs = ap (count_by p) (take-append-drop i xs) in
    omega arith

-- what the erases up to one sector spend
pub spends_next : (p : List ℕ → Bool) (a b c : Device) (sectors : List (List ℕ)) (j : ℕ) (due : Bool) → j < length sectors → due ≡ p (sector_at sectors j)
    → b.spent ≡ counted a.spent (count_by p (take j sectors)) → c.spent ≡ counted b.spent (cond due 1 0)
    → c.spent ≡ counted a.spent (count_by p (take (j + 1) sectors))
spends_next p a b c sectors j due lt is so_far after =
    let sum : counted (counted a.spent (count_by p (take j sectors))) (cond due 1 0) ≡ counted a.spent (count_by p (take j sectors) + cond due 1 0) = counted_counted a.spent (count_by p (take j sectors)) (cond due 1 0) in
    let step : count_by p (take j sectors) + cond due 1 0 ≡ count_by p (take (j + 1) sectors) = elim (cases_Bool (p (sector_at sectors j))) [
      | inl torn ↦ ap (λ (t : Bool). count_by p (take j sectors) + cond t 1 0) (is ∙ torn) ∙ sym (count_by_more_yes p sectors j [] lt torn)
      | inr whole ↦ ap (λ (t : Bool). count_by p (take j sectors) + cond t 1 0) (is ∙ whole) ∙ omega arith ∙ sym (count_by_more_no p sectors j [] lt whole)
    ] in
    after ∙ ap (λ (n : ℕ). counted n (cond due 1 0)) so_far ∙ sum ∙ ap (counted a.spent) step

-- a call after others that spent no more than so much
pub spends_then : (a b c : Device) (first second most : ℕ) → b.spent ≡ counted a.spent first → SpendsAtMost b c second → first + second ≤ most → SpendsAtMost a c most
spends_then a b c first second most before after le = (first + after.0, omega (arith, after.1), after.2 ∙ ap (λ (n : ℕ). counted n after.0) before ∙ counted_counted a.spent first after.0)

pub spends_part : (p : List ℕ → Bool) (a b c : Device) (sectors : List (List ℕ)) (j : ℕ) → b.spent ≡ counted a.spent (count_by p (take j sectors)) → SpendsAtMost b c 0 → SpendsAtMost a c (count_by p sectors)
spends_part p a b c sectors j before after = spends_then a b c (count_by p (take j sectors)) 0 (count_by p sectors) before after (let le = count-prefix p j sectors in omega arith)

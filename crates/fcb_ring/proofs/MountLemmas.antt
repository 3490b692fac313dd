-- What the erases of mounting leave, and what they spend.
use Rattle.std.proofs.Common.{◌≡◌, ℕ, ◌+◌, ◌<◌, ◌≤◌, Bool, true, false, cond, List, [], ◌++◌, length, map, set, drop, replicate, inl, inr, refl, sym, ap, ◌∙◌, arith}
use Rattle.std.specs.Prelude.{count_by}
use Rattle.std.proofs.lemmas.Bool.{cases_Bool, cond-true, cond-false}
use Rattle.std.proofs.lemmas.List.Sums.{count_by_more_yes}
use Rattle.std.proofs.lemmas.List.{set-get_or, take_all, drop_all, append-nil}
use Rattle.fcb_ring.specs.SectorStates.{is_torn, mended, mended_up_to}
use Rattle.flash_map.specs.Area.{sector_at}
use Rattle.flash_map.proofs.FormatLemmas.{count-prefix}
use Rattle.fcb_ring.proofs.StandLemmas.{mended-yes, mended-not, mended-behind, mended-more}

-- one sector more
pub mends_next : (a b c : List (List ℕ)) (j size : ℕ) (due : Bool) → j < length a → b ≡ mended_up_to j a → length (sector_at b j) ≡ size → due ≡ is_torn (sector_at b j)
    → c ≡ cond due (set b j (replicate size 255)) b → c ≡ mended_up_to (j + 1) a
mends_next a b c j size due lt so_far long is after =
    let here : sector_at b j ≡ sector_at a j = ap (λ (l : List (List ℕ)). sector_at l j) so_far ∙ mended-behind j a j lt (omega arith) in
    let next : set b j (mended (sector_at b j)) ≡ mended_up_to (j + 1) a =
    ap (λ (l : List (List ℕ)). set l j (mended (sector_at b j))) so_far ∙ ap (λ (s : List ℕ). set (mended_up_to j a) j (mended s)) here ∙ mended-more j a lt in
    elim (cases_Bool (is_torn (sector_at b j))) [
      | inl torn ↦
          after ∙ cond-true due (set b j (replicate size 255)) b (is ∙ torn)
          ∙ ap (λ (n : ℕ). set b j (replicate n 255)) (sym long) ∙ ap (set b j) (sym (mended-yes (sector_at b j) torn)) ∙ next
      | inr whole ↦
          after ∙ cond-false due (set b j (replicate size 255)) b (is ∙ whole)
          ∙ sym (set-get_or b j []) ∙ ap (set b j) (sym (mended-not (sector_at b j) whole)) ∙ next
    ]

pub mends_all : (a : List (List ℕ)) (j : ℕ) → length a ≤ j → mended_up_to j a ≡ map mended a
mends_all a j le = ap (λ (l : List (List ℕ)). map mended l ++ drop j a) (take_all j a le) ∙ ap (λ (l : List (List ℕ)). map mended a ++ l) (drop_all j a le) ∙ append-nil (map mended a)

-- where none of them is due, none is
pub none-due : (p : List ℕ → Bool) (sectors : List (List ℕ)) (j : ℕ) → j < length sectors → count_by p sectors ≡ 0 → p (sector_at sectors j) ≡ false
none-due p sectors j lt none = elim (cases_Bool (p (sector_at sectors j))) [
  | inl due ↦
      let more = count_by_more_yes p sectors j [] lt due in
      let prefix = count-prefix p (j + 1) sectors in
      absurd (omega arith)
  | inr not_due ↦ not_due
]

pub not-due : (due : Bool) (n : ℕ) → n + cond due 1 0 ≡ 0 → due ≡ false
not-due true n none = absurd (omega arith)
not-due false n none = refl

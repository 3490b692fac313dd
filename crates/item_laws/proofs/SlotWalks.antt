-- Going over the entries in the slots of a sector, one slot after the other, whatever a slot says.
use Rattle.std.proofs.Common.{◌≡◌, ℕ, ◌+◌, ◌-◌, ◌<◌, max, Bool, true, false, ◌||◌, cond, List, [], ◌∷◌, ◌++◌, map, Option, Some, None, refl, sym, ap, ◌∙◌, arith}
use Rattle.std.specs.Prelude.{fold, sum_by}
use Rattle.std.specs.List.{cons_option, filter_map, list_any}
use Rattle.std.specs.Option.{option_map_or}
use Rattle.std.proofs.lemmas.List.{append-nil, map-append}
use Rattle.std.proofs.lemmas.List.Elements.{filter_map-append}
use Rattle.std.proofs.lemmas.List.Folds.{list_any-append}
use Rattle.std.proofs.lemmas.List.Sums.{fold_push}
use Rattle.item_laws.specs.Slots.{Slot, slot_at}
use Rattle.item_laws.proofs.SlotCounts.{slots_to, slots_to_more}

-- the last one that passes a test
abbrev pub last_that : {X : Type 0} → (X → Bool) → List X → Option X
last_that test xs = fold (λ last x. cond (test x) (Some x) last) None xs

-- ---- a list with one more, or as it was

or-false : (t : Bool) → (t || false) ≡ t
or-false true = refl
or-false false = refl

sum_more : {X : Type 0} (g : X → ℕ) (xs : List X) (o : Option X) → sum_by g (xs ++ cons_option o []) ≡ sum_by g xs + option_map_or g o 0
sum_more g xs None = ap (sum_by g) (append-nil xs) ∙ omega arith
sum_more g xs (Some x) = fold_push (λ a y. a + g y) 0 xs x

any_more : {X : Type 0} (p : X → Bool) (xs : List X) (o : Option X) → list_any p (xs ++ cons_option o []) ≡ (list_any p xs || option_map_or p o false)
any_more p xs None = ap (list_any p) (append-nil xs) ∙ sym (or-false (list_any p xs))
any_more p xs (Some x) = list_any-append p xs (x ∷ []) ∙ ap (λ (t : Bool). list_any p xs || t) (or-false (p x))

pub any_push : {X : Type 0} (p : X → Bool) (xs : List X) (x : X) → p x ≡ false → list_any p (xs ++ x ∷ []) ≡ list_any p xs
any_push p xs x fails = any_more p xs (Some x) ∙ ap (λ (t : Bool). list_any p xs || t) fails ∙ or-false (list_any p xs)

most_more : {X : Type 0} (g : X → ℕ) (xs : List X) (o : Option X) → fold max 0 (map g (xs ++ cons_option o [])) ≡ max (option_map_or g o 0) (fold max 0 (map g xs))
most_more g xs None = ap (λ ys. fold max 0 (map g ys)) (append-nil xs) ∙ omega arith
most_more g xs (Some x) = ap (fold max 0) (map-append g xs (x ∷ [])) ∙ fold_push max 0 (map g xs) (g x) ∙ omega arith

last_more : {X : Type 0} (test : X → Bool) (xs : List X) (o : Option X) → last_that test (xs ++ cons_option o []) ≡ option_map_or (λ x. cond (test x) (Some x) (last_that test xs)) o (last_that test xs)
last_more test xs None = ap (last_that test) (append-nil xs)
last_more test xs (Some x) = fold_push (λ last y. cond (test y) (Some y) last) None xs x

-- ---- from slot to slot

-- the entries of so many slots
abbrev pub entries_to : {X : Type 0} → (Slot → Option X) → ℕ → ℕ → List ℕ → ℕ → List X
entries_to read first size b n = filter_map read (slots_to first size b n)

-- a test of slots
pub slot_step : (p : Slot → Bool) (first size : ℕ) (b : List ℕ) (n k m : ℕ) (before here : Bool) → k ≡ first + n → m ≡ n + 1 → before ≡ list_any p (slots_to first size b n) → here ≡ p (slot_at size b k) → (before || here) ≡ list_any p (slots_to first size b m)
slot_step p first size b n k m before here at next so_far is =
    ap (λ (t : Bool). t || here) so_far ∙ ap (λ (t : Bool). list_any p (slots_to first size b n) || t) (is ∙ sym (or-false (p (slot_at size b k))))
    ∙ sym (ap (λ (j : ℕ). list_any p (slots_to first size b j)) next ∙ ap (list_any p) (slots_to_more first size b n k at) ∙ list_any-append p (slots_to first size b n) (slot_at size b k ∷ []))

module _ {X : Type 0} (read : Slot → Option X) (first size : ℕ) (b : List ℕ) where
  pub entries_more : (n k m : ℕ) (o : Option X) → k ≡ first + n → m ≡ n + 1 → o ≡ read (slot_at size b k) → entries_to read first size b m ≡ entries_to read first size b n ++ cons_option o []
  entries_more n k m o at next is =
      ap (entries_to read first size b) next ∙ ap (filter_map read) (slots_to_more first size b n k at) ∙ filter_map-append read (slots_to first size b n) (slot_at size b k ∷ [])
      ∙ ap (λ (x : Option X). entries_to read first size b n ++ cons_option x []) (sym is)

  pub sum_step : (g : X → ℕ) (n k m : ℕ) (o : Option X) (sum add : ℕ) → k ≡ first + n → m ≡ n + 1 → o ≡ read (slot_at size b k) → sum ≡ sum_by g (entries_to read first size b n) → add ≡ option_map_or g o 0 → sum + add ≡ sum_by g (entries_to read first size b m)
  sum_step g n k m o sum add at next is so_far more =
      ap (λ (x : ℕ). sum + x) more ∙ ap (λ (x : ℕ). x + option_map_or g o 0) so_far ∙ sym (ap (sum_by g) (entries_more n k m o at next is) ∙ sum_more g (entries_to read first size b n) o)

  pub any_step : (p : X → Bool) (n k m : ℕ) (o : Option X) (before here : Bool) → k ≡ first + n → m ≡ n + 1 → o ≡ read (slot_at size b k) → before ≡ list_any p (entries_to read first size b n) → here ≡ option_map_or p o false → (before || here) ≡ list_any p (entries_to read first size b m)
  any_step p n k m o before here at next is so_far more =
      ap (λ (t : Bool). before || t) more ∙ ap (λ (t : Bool). t || option_map_or p o false) so_far ∙ sym (ap (list_any p) (entries_more n k m o at next is) ∙ any_more p (entries_to read first size b n) o)

  pub most_step : (g : X → ℕ) (n k m : ℕ) (o : Option X) (most here : ℕ) → k ≡ first + n → m ≡ n + 1 → o ≡ read (slot_at size b k) → most ≡ fold max 0 (map g (entries_to read first size b n)) → here ≡ option_map_or g o 0 → max here most ≡ fold max 0 (map g (entries_to read first size b m))
  most_step g n k m o most here at next is so_far more =
      ap (λ (x : ℕ). max x most) more ∙ ap (λ (x : ℕ). max (option_map_or g o 0) x) so_far
      ∙ sym (ap (λ (xs : List X). fold max 0 (map g xs)) (entries_more n k m o at next is) ∙ most_more g (entries_to read first size b n) o)

  -- ---- the search for the last one that passes, from the lowest slot up

  module _ (test : X → Bool) (count k : ℕ) (some : 0 < count) (at : k ≡ first + (count - 1)) where
    found_step : (o : Option X) → o ≡ read (slot_at size b k) → last_that test (entries_to read first size b count) ≡ option_map_or (λ x. cond (test x) (Some x) (last_that test (entries_to read first size b (count - 1)))) o (last_that test (entries_to read first size b (count - 1)))
    found_step o is = ap (last_that test) (entries_more (count - 1) k count o at (omega arith) is) ∙ last_more test (entries_to read first size b (count - 1)) o

    pub found_here : (x : X) (rest : Option X) → Some x ≡ read (slot_at size b k) → test x ≡ true → last_that test (entries_to read first size b count) ≡ rest → Some x ≡ rest
    found_here x rest is same later = sym (ap (λ (t : Bool). cond t (Some x) (last_that test (entries_to read first size b (count - 1)))) same) ∙ sym (found_step (Some x) is) ∙ later

    pub found_other : (x : X) (rest : Option X) → Some x ≡ read (slot_at size b k) → test x ≡ false → last_that test (entries_to read first size b count) ≡ rest → last_that test (entries_to read first size b (count - 1)) ≡ rest
    found_other x rest is other later = sym (ap (λ (t : Bool). cond t (Some x) (last_that test (entries_to read first size b (count - 1)))) other) ∙ sym (found_step (Some x) is) ∙ later

    pub found_none : (rest : Option X) → None ≡ read (slot_at size b k) → last_that test (entries_to read first size b count) ≡ rest → last_that test (entries_to read first size b (count - 1)) ≡ rest
    found_none rest is later = sym (found_step None is) ∙ later

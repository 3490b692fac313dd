-- The last one of a list that passes a test, of rows that stand at the places of a round.
use Rattle.std.proofs.Common.{◌≡◌, ℕ, ◌+◌, ◌-◌, ◌≤◌, ◌<◌, Bool, true, false, cond, List, [], ◌∷◌, ◌++◌, map, Option, Some, None, refl, sym, ap, ◌∙◌, arith}
use Rattle.std.specs.Prelude.{fold, is_some, IfSome}
use Rattle.std.specs.List.{flat_map, range_with_len, last_or, All}
use Rattle.std.specs.Option.{option_map, option_or}
use Rattle.std.proofs.lemmas.List.Concat.{flat_map-append, flat_map-cons}
use Rattle.std.proofs.lemmas.List.Elements.{All-head, All-tail}
use Rattle.std.proofs.lemmas.List.Sums.{fold-append}
use Rattle.flash_map.proofs.MapLemmas.{not_some}
pub use Rattle.item_laws.proofs.SlotWalks.{last_that}
use Rattle.item_laws.specs.Area.{round}
use Rattle.item_laws.proofs.Places.{range_from, range-append}

pub some_first : {X : Type 0} (o rest : Option X) → is_some o ≡ true → option_or o rest ≡ o
some_first (Some x) rest e = refl
some_first None rest e = absurd (cc)

-- where each one passes
pub last-each : {X : Type 0} (xs : List X) (o : Option X) → fold (λ last x. cond true (Some x) last) o xs ≡ last_or o xs
last-each [] o = refl
last-each (x ∷ xs) o = last-each xs (Some x)

module _ {X : Type 0} (test : X → Bool) where
  -- the same of others that stand for them
  map-from : {Y : Type 0} (f : Y → X) (ys : List Y) (o : Option Y) → fold (λ last x. cond (test x) (Some x) last) (option_map f o) (map f ys) ≡ option_map f (fold (λ last y. cond (test (f y)) (Some y) last) o ys)
  map-from f [] o = refl
  map-from f (y ∷ ys) o =
      ap (λ (l : Option X). fold (λ last x. cond (test x) (Some x) last) l (map f ys)) (by_test (test (f y)))
      ∙ map-from f ys (cond (test (f y)) (Some y) o)
    where
      by_test : (here : Bool) → cond here (Some (f y)) (option_map f o) ≡ option_map f (cond here (Some y) o)
      by_test true = refl
      by_test false = refl

  pub last-map : {Y : Type 0} (f : Y → X) (ys : List Y) → last_that test (map f ys) ≡ option_map f (last_that (λ y. test (f y)) ys)
  last-map f ys = map-from f ys None

  -- the last one of two lists
  last-from : (xs : List X) (o : Option X) → fold (λ last x. cond (test x) (Some x) last) o xs ≡ option_or (last_that test xs) o
  last-from [] o = refl
  last-from (x ∷ xs) o =
      last-from xs (cond (test x) (Some x) o)
      ∙ by_head (last_that test xs) (test x)
      ∙ sym (ap (λ (l : Option X). option_or l o) (last-from xs (cond (test x) (Some x) None)))
    where
      by_head : (l : Option X) (here : Bool) → option_or l (cond here (Some x) o) ≡ option_or (option_or l (cond here (Some x) None)) o
      by_head (Some y) here = refl
      by_head None true = refl
      by_head None false = refl

  pub last-append : (xs ys : List X) → last_that test (xs ++ ys) ≡ option_or (last_that test ys) (last_that test xs)
  last-append xs ys = fold-append (λ last x. cond (test x) (Some x) last) None xs ys ∙ last-from ys (last_that test xs)

  -- the second list has one
  pub newest-behind : (xs ys : List X) (o : Option X) → o ≡ last_that test ys → is_some o ≡ true → o ≡ last_that test (xs ++ ys)
  newest-behind xs ys o is some =
      sym (some_first o (last_that test xs) some) ∙ ap (λ (l : Option X). option_or l (last_that test xs)) is ∙ sym (last-append xs ys)

  -- it has none
  pub newest-before : (xs ys : List X) (o older : Option X) → o ≡ last_that test ys → is_some o ≡ false → older ≡ last_that test xs → older ≡ last_that test (xs ++ ys)
  newest-before xs ys o older is none older-is =
      older-is ∙ ap (λ (l : Option X). option_or l (last_that test xs)) (sym (not_some o none) ∙ is) ∙ sym (last-append xs ys)

  -- what is so of each one is so of the last one
  pub last-all : (P : X → Type 0) (xs : List X) (o : Option X) → IfSome o P → All P xs → IfSome (fold (λ last x. cond (test x) (Some x) last) o xs) P
  last-all P [] o start all = start
  last-all P (x ∷ xs) o start all = last-all P xs (cond (test x) (Some x) o) (one (test x)) (All-tail P x xs all)
    where
      one : (here : Bool) → IfSome (cond here (Some x) o) P
      one true = All-head P x xs all
      one false = start

  -- the rows of places, from one place on
  module _ (row : ℕ → List X) where
    abbrev pub rows : ℕ → ℕ → List X
    rows first n = flat_map row (range_with_len first n)

    -- what the last rows have decides
    pub last-suffix : (first mid end : ℕ) → first ≤ mid → mid ≤ end → is_some (last_that test (rows mid (end - mid))) ≡ true → last_that test (rows mid (end - mid)) ≡ last_that test (rows first (end - first))
    last-suffix first mid end low high some =
        let width : end - first ≡ mid - first + (end - mid) = omega arith in
        let at : first + (mid - first) ≡ mid = omega arith in
        sym (ap (λ (n : ℕ). last_that test (rows first n)) width
        ∙ ap (λ (ks : List ℕ). last_that test (flat_map row ks)) (range-append first (mid - first) (end - mid) ∙ ap (λ (k : ℕ). range_with_len first (mid - first) ++ range_with_len k (end - mid)) at)
        ∙ ap (last_that test) (flat_map-append row (range_with_len first (mid - first)) (range_with_len mid (end - mid)))
        ∙ last-append (rows first (mid - first)) (rows mid (end - mid))
        ∙ some_first (last_that test (rows mid (end - mid))) (last_that test (rows first (mid - first))) some)

    -- one row more, in front
    last-more : (first n : ℕ) → last_that test (rows (first + 1) n) ≡ None → last_that test (rows first (n + 1)) ≡ last_that test (row first)
    last-more first n none =
        let step : range_with_len first (n + 1) ≡ first ∷ range_with_len (first + 1) n = range_from first (n + 1) (omega arith) ∙ ap (λ (m : ℕ). first ∷ range_with_len (first + 1) m) (omega arith) in
        ap (λ (ks : List ℕ). last_that test (flat_map row ks)) step
        ∙ ap (last_that test) (flat_map-cons row first (range_with_len (first + 1) n))
        ∙ last-append (row first) (rows (first + 1) n)
        ∙ ap (λ (l : Option X). option_or l (last_that test (row first))) none

    -- one step down
    pub last-step : (place end : ℕ) (o : Option X) → 0 < place → place ≤ end → last_that test (rows place (end - place)) ≡ None → o ≡ last_that test (row (place - 1)) → last_that test (rows (place - 1) (end - (place - 1))) ≡ o
    last-step place end o some high none is =
        let width : end - (place - 1) ≡ end - place + 1 = omega arith in
        let back : place - 1 + 1 ≡ place = omega arith in
        ap (λ (n : ℕ). last_that test (rows (place - 1) n)) width
        ∙ last-more (place - 1) (end - place) (ap (λ (k : ℕ). last_that test (rows k (end - place))) back ∙ none) ∙ sym is

    -- the round, from the place after the open one to the open one
    last-round : (count current : ℕ) → option_or (last_that test (rows 0 (current + 1))) (last_that test (rows (current + 1) (count - (current + 1)))) ≡ last_that test (flat_map row (round count current))
    last-round count current =
        sym (ap (last_that test) (flat_map-append row (range_with_len (current + 1) (count - (current + 1))) (range_with_len 0 (current + 1)))
        ∙ last-append (rows (current + 1) (count - (current + 1))) (rows 0 (current + 1)))

    -- the newest rows first, and then the older ones
    pub newest-decides : (count current : ℕ) (o : Option X) → o ≡ last_that test (rows 0 (current + 1 - 0)) → is_some o ≡ true → o ≡ last_that test (flat_map row (round count current))
    newest-decides count current o found some =
        let width : current + 1 - 0 ≡ current + 1 = omega arith in
        let at : o ≡ last_that test (rows 0 (current + 1)) = found ∙ ap (λ (n : ℕ). last_that test (rows 0 n)) width in
        sym (some_first o (last_that test (rows (current + 1) (count - (current + 1)))) some)
        ∙ ap (λ (l : Option X). option_or l (last_that test (rows (current + 1) (count - (current + 1))))) at ∙ last-round count current

    pub older-decides : (count current : ℕ) (o older : Option X) → o ≡ last_that test (rows 0 (current + 1 - 0)) → is_some o ≡ false → older ≡ last_that test (rows (current + 1) (count - (current + 1))) → older ≡ last_that test (flat_map row (round count current))
    older-decides count current o older found none at =
        let width : current + 1 - 0 ≡ current + 1 = omega arith in
        at ∙ ap (λ (l : Option X). option_or l (last_that test (rows (current + 1) (count - (current + 1)))))
        (sym (not_some o none) ∙ found ∙ ap (λ (n : ℕ). last_that test (rows 0 n)) width) ∙ last-round count current

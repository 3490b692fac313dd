-- Dropping the oldest part of a list and appending its live pairs keeps the items.
use Rattle.std.proofs.Common.{◌≡◌, ℕ, Bool, true, false, cond, eqb, ◌||◌, List, [], ◌∷◌, ◌++◌, length, Option, Some, None, refl, sym, ap, ◌∙◌, inl, inr}
use Rattle.std.specs.List.{fold}
use Rattle.std.proofs.lemmas.Bool.{false≢true, cases_Bool, eqb-true, or_parts, or_from, or_left, or_right}
use Rattle.std.proofs.lemmas.List.Folds.{list_any-append}
use Rattle.std.proofs.lemmas.List.Sums.{fold-append}
use Rattle.item_laws.specs.Items.{last, value_of, SameItems}
use Rattle.item_laws.specs.LivePairs.{names, live_pairs}

-- the step of `last`, and `last` from what was found so far
abbrev pub step : ℕ → Option (List ℕ) → ℕ × List ℕ → Option (List ℕ)
step id found pair = cond (eqb pair.0 id) (value_of pair.1) found

abbrev pub last_from : ℕ → Option (List ℕ) → List (ℕ × List ℕ) → Option (List ℕ)
last_from id found pairs = fold (step id) found pairs

pub last-is : (pairs : List (ℕ × List ℕ)) (id : ℕ) → last pairs id ≡ last_from id None pairs
unfolding last
last-is pairs id = refl

pub last-append : (xs ys : List (ℕ × List ℕ)) (id : ℕ) → last (xs ++ ys) id ≡ last_from id (last xs id) ys
unfolding last
last-append xs ys id = fold-append (step id) None xs ys

-- a list with no pair of the id leaves what was found
pub absent : (id : ℕ) (found : Option (List ℕ)) (pairs : List (ℕ × List ℕ)) → names id pairs ≡ false → last_from id found pairs ≡ found
absent id found [] h = refl
absent id found (pair ∷ rest) h =
    let parts = or_parts (eqb pair.0 id) (names id rest) h in
    ap (λ (t : Bool). last_from id (cond t (value_of pair.1) found) rest) parts.0 ∙ absent id found rest parts.1

-- a list with one forgets it
pub present : (id : ℕ) (found other : Option (List ℕ)) (pairs : List (ℕ × List ℕ)) → names id pairs ≡ true → last_from id found pairs ≡ last_from id other pairs
present id found other [] h = absurd (false≢true h)
present id found other (pair ∷ rest) h =
    elim (cases_Bool (eqb pair.0 id)) [
      | inl here ↦ ap (λ (t : Bool). last_from id (cond t (value_of pair.1) found) rest) here ∙ sym (ap (λ (t : Bool). last_from id (cond t (value_of pair.1) other) rest) here)
      | inr apart ↦
          let later : names id rest ≡ true = sym (ap (λ (t : Bool). t || names id rest) apart) ∙ h in
          ap (λ (t : Bool). last_from id (cond t (value_of pair.1) found) rest) apart ∙ present id found other rest later ∙ sym (ap (λ (t : Bool). last_from id (cond t (value_of pair.1) other) rest) apart)
    ]

pub names-append : (id : ℕ) (xs ys : List (ℕ × List ℕ)) → names id (xs ++ ys) ≡ (names id xs || names id ys)
names-append id xs ys = list_any-append (λ pair. eqb pair.0 id) xs ys

-- an id that is nowhere in the victim is not among its live pairs
pub live-absent : (id : ℕ) (victim others : List (ℕ × List ℕ)) → names id victim ≡ false → names id (live_pairs victim others) ≡ false
unfolding live_pairs
live-absent id [] others h = refl
live-absent id (pair ∷ rest) others h =
    let parts = or_parts (eqb pair.0 id) (names id rest) h in
    let tail : names id (live_pairs rest others) ≡ false = live-absent id rest others parts.1 in
    elim (cases_Bool (names pair.0 (rest ++ others) || (eqb (length pair.1) 0))) [
      | inl skip ↦ ap (λ (t : Bool). names id (cond t (live_pairs rest others) (pair ∷ live_pairs rest others))) skip ∙ tail
      | inr kept ↦ ap (λ (t : Bool). names id (cond t (live_pairs rest others) (pair ∷ live_pairs rest others))) kept ∙ or_from (eqb pair.0 id) (names id (live_pairs rest others)) parts.0 tail
    ]

-- nor is one that a later part has
pub live-ignored : (id : ℕ) (victim others : List (ℕ × List ℕ)) → names id others ≡ true → names id (live_pairs victim others) ≡ false
unfolding live_pairs
live-ignored id [] others h = refl
live-ignored id (pair ∷ rest) others h =
    let tail : names id (live_pairs rest others) ≡ false = live-ignored id rest others h in
    elim (cases_Bool (names pair.0 (rest ++ others) || (eqb (length pair.1) 0))) [
      | inl skip ↦ ap (λ (t : Bool). names id (cond t (live_pairs rest others) (pair ∷ live_pairs rest others))) skip ∙ tail
      | inr kept ↦
          let parts = or_parts (names pair.0 (rest ++ others)) (eqb (length pair.1) 0) kept in
          let other : eqb pair.0 id ≡ false =
          elim (cases_Bool (eqb pair.0 id)) [
            | inl here ↦
                let same : names pair.0 (rest ++ others) ≡ true = ap (λ (n : ℕ). names n (rest ++ others)) (eqb-true pair.0 id here) ∙ names-append id rest others ∙ or_right (names id rest) (names id others) h in
                absurd (false≢true (sym parts.0 ∙ same))
            | inr apart ↦ apart
          ] in
          ap (λ (t : Bool). names id (cond t (live_pairs rest others) (pair ∷ live_pairs rest others))) kept ∙ or_from (eqb pair.0 id) (names id (live_pairs rest others)) other tail
    ]

-- What a later part does not name, the live pairs give as the victim does.
live-last : (id : ℕ) (found : Option (List ℕ)) (victim others : List (ℕ × List ℕ)) → names id others ≡ false → (names id victim ≡ false → found ≡ None) → last_from id None (live_pairs victim others) ≡ last_from id found victim
unfolding live_pairs
live-last id found [] others h none = sym (none refl)
live-last id found (pair ∷ rest) others h none =
    elim (cases_Bool (eqb pair.0 id)) [
      | inl here ↦
          elim (cases_Bool (names id rest)) [
            | inl later ↦
                let ignored : (names pair.0 (rest ++ others) || (eqb (length pair.1) 0)) ≡ true =
                or_left (names pair.0 (rest ++ others)) (eqb (length pair.1) 0) (ap (λ (n : ℕ). names n (rest ++ others)) (eqb-true pair.0 id here) ∙ names-append id rest others ∙ or_left (names id rest) (names id others) later) in
                ap (λ (t : Bool). last_from id None (cond t (live_pairs rest others) (pair ∷ live_pairs rest others))) ignored
                ∙ live-last id (step id found pair) rest others h (λ apart. absurd (false≢true (sym apart ∙ later)))
            | inr last_one ↦
                let tail : names id (live_pairs rest others) ≡ false = live-absent id rest others last_one in
                let unnamed : names pair.0 (rest ++ others) ≡ false = ap (λ (n : ℕ). names n (rest ++ others)) (eqb-true pair.0 id here) ∙ names-append id rest others ∙ or_from (names id rest) (names id others) last_one h in
                let victim_is : last_from id (step id found pair) rest ≡ value_of pair.1 = absent id (step id found pair) rest last_one ∙ ap (λ (t : Bool). cond t (value_of pair.1) found) here in
                elim (cases_Bool (eqb (length pair.1) 0)) [
                  | inl mark ↦
                      ap (λ (t : Bool). last_from id None (cond t (live_pairs rest others) (pair ∷ live_pairs rest others))) (or_right (names pair.0 (rest ++ others)) (eqb (length pair.1) 0) mark)
                      ∙ absent id None (live_pairs rest others) tail ∙ sym (ap (λ (t : Bool). cond t None (Some pair.1)) mark) ∙ sym victim_is
                  | inr bytes ↦
                      ap (λ (t : Bool). last_from id None (cond t (live_pairs rest others) (pair ∷ live_pairs rest others))) (or_from (names pair.0 (rest ++ others)) (eqb (length pair.1) 0) unnamed bytes)
                      ∙ absent id (step id None pair) (live_pairs rest others) tail ∙ ap (λ (t : Bool). cond t (value_of pair.1) None) here ∙ sym victim_is
                ]
          ]
      | inr apart ↦
          let stays : step id found pair ≡ found = ap (λ (t : Bool). cond t (value_of pair.1) found) apart in
          let rest_none : names id rest ≡ false → step id found pair ≡ None = λ absent_rest. stays ∙ none (or_from (eqb pair.0 id) (names id rest) apart absent_rest) in
          let ih : last_from id None (live_pairs rest others) ≡ last_from id (step id found pair) rest = live-last id (step id found pair) rest others h rest_none in
          elim (cases_Bool (names pair.0 (rest ++ others) || (eqb (length pair.1) 0))) [
            | inl skip ↦ ap (λ (t : Bool). last_from id None (cond t (live_pairs rest others) (pair ∷ live_pairs rest others))) skip ∙ ih
            | inr kept ↦
                ap (λ (t : Bool). last_from id None (cond t (live_pairs rest others) (pair ∷ live_pairs rest others))) kept
                ∙ ap (λ (t : Bool). last_from id (cond t (value_of pair.1) None) (live_pairs rest others)) apart ∙ ih
          ]
    ]

some_none : (bytes : List ℕ) → Some bytes ≡ None → ⊥
some_none bytes e = cc

-- every live pair has bytes, so an id that one of them names is not deleted
live-deleted : (id : ℕ) (found : Option (List ℕ)) (victim others : List (ℕ × List ℕ)) → names id others ≡ false → (names id victim ≡ false → found ≡ None) → last_from id found victim ≡ None → names id (live_pairs victim others) ≡ false
unfolding live_pairs
live-deleted id found [] others h none deleted = refl
live-deleted id found (pair ∷ rest) others h none deleted =
    elim (cases_Bool (names id rest)) [
      | inl later ↦
          let tail : names id (live_pairs rest others) ≡ false = live-deleted id (step id found pair) rest others h (λ apart. absurd (false≢true (sym apart ∙ later))) deleted in
          elim (cases_Bool (names pair.0 (rest ++ others) || (eqb (length pair.1) 0))) [
            | inl skip ↦ ap (λ (t : Bool). names id (cond t (live_pairs rest others) (pair ∷ live_pairs rest others))) skip ∙ tail
            | inr kept ↦
                let parts = or_parts (names pair.0 (rest ++ others)) (eqb (length pair.1) 0) kept in
                let other : eqb pair.0 id ≡ false =
                elim (cases_Bool (eqb pair.0 id)) [
                  | inl here ↦ absurd (false≢true (sym parts.0 ∙ ap (λ (n : ℕ). names n (rest ++ others)) (eqb-true pair.0 id here) ∙ names-append id rest others ∙ or_left (names id rest) (names id others) later))
                  | inr apart ↦ apart
                ] in
                ap (λ (t : Bool). names id (cond t (live_pairs rest others) (pair ∷ live_pairs rest others))) kept ∙ or_from (eqb pair.0 id) (names id (live_pairs rest others)) other tail
          ]
      | inr absent_rest ↦
          let tail : names id (live_pairs rest others) ≡ false = live-absent id rest others absent_rest in
          let now : step id found pair ≡ None = sym (absent id (step id found pair) rest absent_rest) ∙ deleted in
          elim (cases_Bool (names pair.0 (rest ++ others) || (eqb (length pair.1) 0))) [
            | inl skip ↦ ap (λ (t : Bool). names id (cond t (live_pairs rest others) (pair ∷ live_pairs rest others))) skip ∙ tail
            | inr kept ↦
                let parts = or_parts (names pair.0 (rest ++ others)) (eqb (length pair.1) 0) kept in
                let other : eqb pair.0 id ≡ false =
                elim (cases_Bool (eqb pair.0 id)) [
                  | inl here ↦
                      let some : Some pair.1 ≡ None = sym (ap (λ (t : Bool). cond t (value_of pair.1) found) here ∙ ap (λ (t : Bool). cond t None (Some pair.1)) parts.1) ∙ now in
                      absurd (some_none pair.1 some)
                  | inr apart ↦ apart
                ] in
                ap (λ (t : Bool). names id (cond t (live_pairs rest others) (pair ∷ live_pairs rest others))) kept ∙ or_from (eqb pair.0 id) (names id (live_pairs rest others)) other tail
          ]
    ]

-- THE law of a collection: without the oldest part, and with its live pairs at the end, a list has the same items.
pub collected : (victim others : List (ℕ × List ℕ)) → SameItems (others ++ live_pairs victim others) (victim ++ others)
collected victim others id =
    let left = last-append others (live_pairs victim others) id in
    let right = last-append victim others id in
    elim (cases_Bool (names id others)) [
      | inl named ↦
          left ∙ absent id (last others id) (live_pairs victim others) (live-ignored id victim others named) ∙ last-is others id ∙ present id None (last victim id) others named ∙ sym right
      | inr unnamed ↦
          left ∙ ap (λ (o : Option (List ℕ)). last_from id o (live_pairs victim others)) (last-is others id ∙ absent id None others unnamed)
          ∙ live-last id None victim others unnamed (λ none. refl) ∙ sym (last-is victim id) ∙ sym (absent id (last victim id) others unnamed) ∙ sym right
    ]

-- A delete mark of the victim that hides something hides it in the victim: once the victim is gone, no pair of that id is left.
pub marks_hide_nothing : (victim others : List (ℕ × List ℕ)) (id : ℕ) → names id others ≡ false → last victim id ≡ None → names id (others ++ live_pairs victim others) ≡ false
marks_hide_nothing victim others id unnamed deleted =
    names-append id others (live_pairs victim others) ∙ or_from (names id others) (names id (live_pairs victim others)) unnamed (live-deleted id None victim others unnamed (λ none. refl) (sym (last-is victim id) ∙ deleted))

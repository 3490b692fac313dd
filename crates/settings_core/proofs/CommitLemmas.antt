-- A loop that commits one handler after the other.
use Rattle.std.proofs.Common.{◌≡◌, ℕ, ◌+◌, ◌<◌, ◌≤◌, List, [], ◌∷◌, ◌++◌, length, map, take, drop, get_or, set, Option, true, false, refl, sym, ap, subst, ◌∙◌, arith, length-append}
use Rattle.std.proofs.lemmas.List.{append-nil, append_assoc, length-map, length-take, length-drop, take_all, drop_all, take_more, drop_more, map-append}
use Rattle.std.proofs.lemmas.Bool.{cond-true, cond-false}
use Rattle.handlers.specs.Held.{committed}
use Rattle.handlers.specs.Registry.{Registered, nobody, commit_at}
use Rattle.settings_core.specs.Committing.{is_under, commit_one, commit_all}

-- the handlers below a place were committed, as far as they match, and the others not
pub record CommittedBelow (subtree : Option (List ℕ)) (i : ℕ) (before now : List Registered) : Type 0 where
  pub within : i ≤ length before
  pub now_is : now ≡ commit_all subtree (take i before) ++ drop i before

pub none_committed : (subtree : Option (List ℕ)) (before : List Registered) → CommittedBelow subtree 0 before before
none_committed subtree before = record { within = omega arith; now_is = refl }

module _ {X : Type 0} where
  pub get_middle : (xs : List X) (y : X) (ys : List X) (d : X) → get_or (xs ++ y ∷ ys) (length xs) d ≡ y
  get_middle [] y ys d = refl
  get_middle (x ∷ xs) y ys d = get_middle xs y ys d

  pub set_middle : (xs : List X) (y : X) (ys : List X) (z : X) → set (xs ++ y ∷ ys) (length xs) z ≡ xs ++ z ∷ ys
  set_middle [] y ys z = refl
  set_middle (x ∷ xs) y ys z = ap (λ l. x ∷ l) (set_middle xs y ys z)

prefix : Option (List ℕ) → List Registered → ℕ → List Registered
prefix subtree before i = map (commit_one subtree) (take i before)

length-prefix : (subtree : Option (List ℕ)) (before : List Registered) (i : ℕ) → i ≤ length before → length (prefix subtree before i) ≡ i
unfolding prefix
length-prefix subtree before i le = omega (arith, length-map (take i before) (commit_one subtree), length-take i before)

length-committed : (subtree : Option (List ℕ)) (i : ℕ) (before now : List Registered) → CommittedBelow subtree i before now → length now ≡ length before
unfolding prefix
length-committed subtree i before now so_far =
    ap length so_far.now_is ∙ omega (arith, length-append (prefix subtree before i) (drop i before), length-prefix subtree before i so_far.within, length-drop i before, so_far.within)

pub all_committed : (subtree : Option (List ℕ)) (i : ℕ) (before now : List Registered) → length now ≤ i → CommittedBelow subtree i before now → now ≡ commit_all subtree before
all_committed subtree i before now past so_far =
    let whole : length before ≤ i = omega (arith, past, length-committed subtree i before now so_far) in
    so_far.now_is ∙ ap (λ l. commit_all subtree l ++ drop i before) (take_all i before whole) ∙ ap (λ l. commit_all subtree before ++ l) (drop_all i before whole) ∙ append-nil (commit_all subtree before)

split : (subtree : Option (List ℕ)) (i : ℕ) (before now : List Registered) → i < length before → CommittedBelow subtree i before now → now ≡ prefix subtree before i ++ get_or before i nobody ∷ drop (i + 1) before
unfolding prefix
split subtree i before now lt so_far = so_far.now_is ∙ ap (λ l. prefix subtree before i ++ l) (drop_more before i nobody lt)

here : (subtree : Option (List ℕ)) (i : ℕ) (before now : List Registered) → i < length before → CommittedBelow subtree i before now → get_or now i nobody ≡ get_or before i nobody
here subtree i before now lt so_far =
    let n = length-prefix subtree before i so_far.within in
    ap (λ l. get_or l i nobody) (split subtree i before now lt so_far)
    ∙ ap (λ k. get_or (prefix subtree before i ++ get_or before i nobody ∷ drop (i + 1) before) k nobody) (sym n)
    ∙ get_middle (prefix subtree before i) (get_or before i nobody) (drop (i + 1) before) nobody

-- the list with the handler at the place done
done : (subtree : Option (List ℕ)) (i : ℕ) (before : List Registered) → i < length before
    → prefix subtree before i ++ commit_one subtree (get_or before i nobody) ∷ drop (i + 1) before ≡ commit_all subtree (take (i + 1) before) ++ drop (i + 1) before
unfolding prefix
done subtree i before lt =
    sym (append_assoc (prefix subtree before i) (commit_one subtree (get_or before i nobody) ∷ []) (drop (i + 1) before))
    ∙ ap (λ l. l ++ drop (i + 1) before) (sym (ap (map (commit_one subtree)) (take_more before i nobody lt) ∙ map-append (commit_one subtree) (take i before) (get_or before i nobody ∷ [])))

pub one_committed : (subtree : Option (List ℕ)) (i : ℕ) (before now : List Registered) → i < length now → is_under subtree (get_or now i nobody).subtree ≡ true → CommittedBelow subtree i before now → CommittedBelow subtree (i + 1) before (commit_at now i)
one_committed subtree i before now lt is so_far =
    let lt' : i < length before = omega (arith, lt, length-committed subtree i before now so_far) in
    let x = get_or before i nobody in
    let at = here subtree i before now lt' so_far in
    let n = length-prefix subtree before i so_far.within in
    let moved : commit_at now i ≡ set now i (record x { state = committed x.state }) = ap (λ (h : Registered). set now i (record h { state = committed h.state })) at in
    record {
      within = omega (arith, lt');
      now_is =
          moved
          ∙ ap (λ l. set l i (record x { state = committed x.state })) (split subtree i before now lt' so_far)
          ∙ ap (λ k. set (prefix subtree before i ++ x ∷ drop (i + 1) before) k (record x { state = committed x.state })) (sym n)
          ∙ set_middle (prefix subtree before i) x (drop (i + 1) before) (record x { state = committed x.state })
          ∙ ap (λ h. prefix subtree before i ++ h ∷ drop (i + 1) before) (sym (cond-true _ (record x { state = committed x.state }) x (ap (λ (h : Registered). is_under subtree h.subtree) (sym at) ∙ is)))
          ∙ done subtree i before lt';
    }

pub one_passed : (subtree : Option (List ℕ)) (i : ℕ) (before now : List Registered) → i < length now → is_under subtree (get_or now i nobody).subtree ≡ false → CommittedBelow subtree i before now → CommittedBelow subtree (i + 1) before now
one_passed subtree i before now lt isnt so_far =
    let lt' : i < length before = omega (arith, lt, length-committed subtree i before now so_far) in
    let x = get_or before i nobody in
    let at = here subtree i before now lt' so_far in
    record {
      within = omega (arith, lt');
      now_is =
          split subtree i before now lt' so_far
          ∙ ap (λ h. prefix subtree before i ++ h ∷ drop (i + 1) before) (sym (cond-false _ (record x { state = committed x.state }) x (ap (λ (h : Registered). is_under subtree h.subtree) (sym at) ∙ isnt)))
          ∙ done subtree i before lt';
    }

-- the same of a list that is known by an equation
pub then_committed : (subtree : Option (List ℕ)) (i : ℕ) (before now next : List Registered) → i < length now → is_under subtree (get_or now i nobody).subtree ≡ true → next ≡ commit_at now i → CommittedBelow subtree i before now → CommittedBelow subtree (i + 1) before next
then_committed subtree i before now next lt is step so_far = subst (λ l. CommittedBelow subtree (i + 1) before l) (sym step) (one_committed subtree i before now lt is so_far)

pub then_passed : (subtree : Option (List ℕ)) (i : ℕ) (before now next : List Registered) → i < length now → is_under subtree (get_or now i nobody).subtree ≡ false → next ≡ now → CommittedBelow subtree i before now → CommittedBelow subtree (i + 1) before next
then_passed subtree i before now next lt isnt step so_far = subst (λ l. CommittedBelow subtree (i + 1) before l) (sym step) (one_passed subtree i before now lt isnt so_far)

-- One more setting of a load.
use Rattle.std.proofs.Common.{◌≡◌, ℕ, ◌+◌, List, [], ◌∷◌, ◌++◌, length, map, Bool, true, false, cond, Option, Some, None, refl, sym, ap, subst, ◌∙◌, arith, length-append, Ok}
use Rattle.std.specs.Prelude.{not, count_by}
use Rattle.std.specs.List.{filter_map, cons_option}
use Rattle.std.proofs.lemmas.Bool.{cond-true, cond-false}
use Rattle.std.proofs.lemmas.List.{map-append, append-nil}
use Rattle.std.proofs.lemmas.List.Elements.{filter-append, filter_map-append}
use Rattle.std.proofs.lemmas.List.Sums.{fold_push, sum_by-append}
use Rattle.handlers.specs.Registry.{Registered, subtrees}
use Rattle.settings_core.specs.declared.loading.Loaded.{Loaded}
use Rattle.settings_core.specs.declared.offering.Offered.{Offered}
use Rattle.settings_core.specs.declared.offering.Offered.TheVariants.{Taken, Rejected, Passed}
use Rattle.settings_core.specs.Committing.{is_under}
use Rattle.settings_core.specs.Reported.{reported_more}
use Rattle.settings_core.proofs.ReportedLemmas.{reported_then}
use Rattle.settings_core.specs.Deliveries.{Delivery, delivery, deliver, deliver_all, delivered, settings_under, Give, give, is_taken, Delivers, OfferEnds}
use Rattle.settings_core.specs.Loading.{Gives, counted}
use Rattle.settings_core.proofs.SeatLemmas.{seat, deliver_all-seats, subtrees-same, give-same, taken-same}

abbrev Setting : Type 0
Setting = List ℕ × List ℕ

count_push : {X : Type 0} (p : X → Bool) (xs : List X) (x : X) → count_by p (xs ++ x ∷ []) ≡ count_by p xs + cond (p x) 1 0
count_push p xs x = let both : count_by p (xs ++ x ∷ []) ≡ count_by p xs + (0 + cond (p x) 1 0) = sum_by-append (λ d. cond (p d) 1 0) xs (x ∷ []) in omega (arith, both)

module _ (before : List Registered) (subtree : Option (List ℕ)) where
  abbrev given_of : List Setting → List Delivery
  given_of xs = delivered (subtrees before) subtree xs

  under_no : (xs : List Setting) (e : Setting) → is_under subtree e.0 ≡ false → settings_under subtree (xs ++ e ∷ []) ≡ settings_under subtree xs
  under_no xs e isnt =
      filter-append (λ s. is_under subtree s.0) xs (e ∷ []) ∙ ap (λ l. settings_under subtree xs ++ l) (cond-false _ (e ∷ []) [] isnt) ∙ append-nil (settings_under subtree xs)

  under_yes : (xs : List Setting) (e : Setting) → is_under subtree e.0 ≡ true → settings_under subtree (xs ++ e ∷ []) ≡ settings_under subtree xs ++ e ∷ []
  under_yes xs e is = filter-append (λ s. is_under subtree s.0) xs (e ∷ []) ∙ ap (λ l. settings_under subtree xs ++ l) (cond-true _ (e ∷ []) [] is)

  given_no : (xs : List Setting) (e : Setting) → is_under subtree e.0 ≡ false → given_of (xs ++ e ∷ []) ≡ given_of xs
  given_no xs e isnt = ap (filter_map (delivery (subtrees before))) (under_no xs e isnt)

  given_none : (xs : List Setting) (e : Setting) → is_under subtree e.0 ≡ true → delivery (subtrees before) e ≡ None → given_of (xs ++ e ∷ []) ≡ given_of xs
  given_none xs e is none =
      ap (filter_map (delivery (subtrees before))) (under_yes xs e is) ∙ filter_map-append (delivery (subtrees before)) (settings_under subtree xs) (e ∷ [])
      ∙ ap (λ o. given_of xs ++ cons_option o []) none ∙ append-nil (given_of xs)

  pub given_one : (xs : List Setting) (e : Setting) (d : Delivery) → is_under subtree e.0 ≡ true → delivery (subtrees before) e ≡ Some d → given_of (xs ++ e ∷ []) ≡ given_of xs ++ d ∷ []
  given_one xs e d is one =
      ap (filter_map (delivery (subtrees before))) (under_yes xs e is) ∙ filter_map-append (delivery (subtrees before)) (settings_under subtree xs) (e ∷ [])
      ∙ ap (λ o. given_of xs ++ cons_option o []) one

  pub gives_beside : (now : List Registered) (old new : Option (List Give)) (xs : List Setting) (e : Setting) (loaded : Loaded) → is_under subtree e.0 ≡ false → Gives before now old new subtree xs loaded → Gives before now old new subtree (xs ++ e ∷ []) loaded
  gives_beside now old new xs e loaded isnt so_far = record {
    handlers = so_far.handlers ∙ ap (deliver_all before) (sym (given_no xs e isnt));
    reported = so_far.reported ∙ ap (λ ds. reported_more old (map (give before) ds)) (sym (given_no xs e isnt));
    taken = so_far.taken ∙ ap (count_by (is_taken before)) (sym (given_no xs e isnt));
    rejected = so_far.rejected ∙ ap (count_by (λ d. not (is_taken before d))) (sym (given_no xs e isnt));
    passed = ap (λ ds. loaded.passed + length ds) (given_no xs e isnt) ∙ so_far.passed ∙ ap length (sym (under_no xs e isnt));
  }

  gives_passed : (now : List Registered) (old new : Option (List Give)) (xs : List Setting) (e : Setting) (loaded : Loaded) → is_under subtree e.0 ≡ true → delivery (subtrees before) e ≡ None → Gives before now old new subtree xs loaded
      → Gives before now old new subtree (xs ++ e ∷ []) (counted loaded Passed)
  gives_passed now old new xs e loaded is none so_far =
      let same = given_none xs e is none in
      record {
        handlers = so_far.handlers ∙ ap (deliver_all before) (sym same);
        reported = so_far.reported ∙ ap (λ ds. reported_more old (map (give before) ds)) (sym same);
        taken = so_far.taken ∙ ap (count_by (is_taken before)) (sym same);
        rejected = so_far.rejected ∙ ap (count_by (λ d. not (is_taken before d))) (sym same);
        passed = omega (arith, so_far.passed, ap length same, ap length (under_yes xs e is), length-append (settings_under subtree xs) (e ∷ []));
      }

  seats_now : (now : List Registered) (xs : List Setting) → now ≡ deliver_all before (given_of xs) → map seat now ≡ map seat before
  seats_now now xs is = ap (map seat) is ∙ deliver_all-seats (given_of xs) before

  gives_one : (now next : List Registered) (old reported new : Option (List Give)) (xs : List Setting) (e : Setting) (loaded : Loaded) (answer : Bool) (o : Offered)
      → (counted loaded o).taken ≡ loaded.taken + cond answer 1 0 → (counted loaded o).rejected ≡ loaded.rejected + cond (not answer) 1 0 → (counted loaded o).passed ≡ loaded.passed
      → is_under subtree e.0 ≡ true → Delivers now next reported new e answer → Gives before now old reported subtree xs loaded
      → Gives before next old new subtree (xs ++ e ∷ []) (counted loaded o)
  gives_one now next old reported new xs e loaded answer o taken rejected passed is one so_far =
      let seats = seats_now now xs so_far.handlers in
      let more = given_one xs e one.d is (ap (λ to. delivery to e) (sym (subtrees-same now before seats)) ∙ one.is) in
      let take_is : is_taken before one.d ≡ answer = sym (taken-same now before one.d seats) ∙ one.answer in
      record {
        handlers = one.after_is ∙ ap (λ l. deliver l one.d) so_far.handlers ∙ sym (fold_push deliver before (given_of xs) one.d) ∙ ap (deliver_all before) (sym more);
        reported =
            one.reported ∙ ap (λ g. reported_more reported (g ∷ [])) (give-same now before one.d seats) ∙ ap (λ l. reported_more l (give before one.d ∷ [])) so_far.reported
            ∙ reported_then old (map (give before) (given_of xs)) (give before one.d ∷ []) ∙ ap (reported_more old) (sym (map-append (give before) (given_of xs) (one.d ∷ [])) ∙ ap (map (give before)) (sym more));
        taken =
            taken ∙ ap (λ n. n + cond answer 1 0) so_far.taken ∙ ap (λ b. count_by (is_taken before) (given_of xs) + cond b 1 0) (sym take_is)
            ∙ sym (count_push (is_taken before) (given_of xs) one.d) ∙ ap (count_by (is_taken before)) (sym more);
        rejected =
            rejected ∙ ap (λ n. n + cond (not answer) 1 0) so_far.rejected ∙ ap (λ b. count_by (λ d. not (is_taken before d)) (given_of xs) + cond (not b) 1 0) (sym take_is)
            ∙ sym (count_push (λ d. not (is_taken before d)) (given_of xs) one.d) ∙ ap (count_by (λ d. not (is_taken before d))) (sym more);
        passed = omega (arith, passed, so_far.passed, ap length more, length-append (given_of xs) (one.d ∷ []), ap length (under_yes xs e is), length-append (settings_under subtree xs) (e ∷ []));
      }

  zero_more : (n : ℕ) → n ≡ n + 0
  zero_more n = omega arith

  pub gives_offered : (now next : List Registered) (old reported new : Option (List Give)) (xs : List Setting) (e : Setting) (loaded : Loaded) (o : Offered) → is_under subtree e.0 ≡ true → OfferEnds now next reported new e (Ok o)
      → Gives before now old reported subtree xs loaded → Gives before next old new subtree (xs ++ e ∷ []) (counted loaded o)
  gives_offered now next old reported new xs e loaded Taken is ends so_far = gives_one now next old reported new xs e loaded true Taken refl (zero_more loaded.rejected) refl is ends so_far
  gives_offered now next old reported new xs e loaded Rejected is ends so_far = gives_one now next old reported new xs e loaded false Rejected (zero_more loaded.taken) refl refl is ends so_far
  gives_offered now next old reported new xs e loaded Passed is ends so_far =
      let seats = seats_now now xs so_far.handlers in
      let none : delivery (subtrees before) e ≡ None = ap (λ to. delivery to e) (sym (subtrees-same now before seats)) ∙ ends.0 in
      subst (λ l. Gives before l old new subtree (xs ++ e ∷ []) (counted loaded Passed)) (sym ends.1)
      (subst (λ l. Gives before now old l subtree (xs ++ e ∷ []) (counted loaded Passed)) (sym ends.2) (gives_passed now old reported xs e loaded is none so_far))

  -- the same of a delivery that was not reported
  pub given_more : (now : List Registered) (xs : List Setting) (e : Setting) (d : Delivery) → now ≡ deliver_all before (given_of xs) → is_under subtree e.0 ≡ true → delivery (subtrees now) e ≡ Some d
      → deliver now d ≡ deliver_all before (given_of (xs ++ e ∷ []))
  given_more now xs e d so_far is one =
      let more = given_one xs e d is (ap (λ to. delivery to e) (sym (subtrees-same now before (seats_now now xs so_far))) ∙ one) in
      ap (λ l. deliver l d) so_far ∙ sym (fold_push deliver before (given_of xs) d) ∙ ap (deliver_all before) (sym more)

-- The loop of a load without handlers.
use Rattle.std.proofs.Common.{◌≡◌, ℕ, ◌+◌, ◌^◌, ◌<◌, List, [], ◌∷◌, ◌++◌, length, Bool, true, false, Option, Result, refl, sym, ap, subst, ◌∙◌, arith, append_assoc, length-append}
use Rattle.std.proofs.lemmas.Bool.{cond-true, cond-false}
use Rattle.std.proofs.lemmas.List.{append-nil}
use Rattle.std.proofs.lemmas.List.Sums.{length-filter, count_by-le-length}
use Rattle.std.proofs.lemmas.List.Elements.{filter-append}
use Rattle.settings_core.specs.declared.loading.LoadFault.{LoadFault}
use Rattle.settings_core.specs.Committing.{is_under}
use Rattle.settings_core.specs.Deliveries.{settings_under}
use Rattle.settings_core.specs.Direct.{ReportsSome, DirectEnds}
use Rattle.settings_core.specs.Reported.{reported_more}
use Rattle.settings_core.proofs.ListedLemmas.{Setting, take_done}
use Rattle.settings_core.proofs.ReportedLemmas.{reported_none, reported_then}

-- one of all these settings that has these ones left
pub record ReportedSoFar (old now : Option (List Setting)) (subtree : Option (List ℕ)) (all left : List Setting) (count : ℕ) : Type 0 where
  pub done : List Setting
  pub whole : done ++ left ≡ all
  pub reported_is : now ≡ reported_more old (settings_under subtree done)
  pub counts : count ≡ length (settings_under subtree done)

pub none_reported : (old : Option (List Setting)) (subtree : Option (List ℕ)) (all left : List Setting) → left ≡ all → ReportedSoFar old old subtree all left 0
none_reported old subtree all left whole = record { done = []; whole = whole; reported_is = sym (reported_none old); counts = refl }

-- memory ran out before the first one
pub reports_none : (old : Option (List Setting)) (subtree : Option (List ℕ)) (all : List Setting) → ReportsSome old old subtree all
reports_none old subtree all = record { count = 0; within = omega arith; reported = sym (reported_none old) }

-- one setting more
module _ (old reported : Option (List Setting)) (subtree : Option (List ℕ)) (all left after : List Setting) (setting : Setting) (count : ℕ) (step : left ≡ setting ∷ after) where
  whole_is : (so_far : ReportedSoFar old reported subtree all left count) → so_far.done ++ setting ∷ after ≡ all
  whole_is so_far = ap (λ l. so_far.done ++ l) (sym step) ∙ so_far.whole

  pub beside_reported : is_under subtree setting.0 ≡ false → ReportedSoFar old reported subtree all left count → ReportedSoFar old reported subtree all after count
  beside_reported isnt so_far =
      let same : settings_under subtree (so_far.done ++ setting ∷ []) ≡ settings_under subtree so_far.done =
      filter-append (λ (s : Setting). is_under subtree s.0) so_far.done (setting ∷ []) ∙ ap (λ l. settings_under subtree so_far.done ++ l) (cond-false _ (setting ∷ []) [] isnt) ∙ append-nil (settings_under subtree so_far.done) in
      record {
        done = so_far.done ++ setting ∷ [];
        whole = append_assoc so_far.done (setting ∷ []) after ∙ whole_is so_far;
        reported_is = so_far.reported_is ∙ ap (reported_more old) (sym same);
        counts = so_far.counts ∙ ap length (sym same);
      }

  pub next_reported : (new : Option (List Setting)) → is_under subtree setting.0 ≡ true → new ≡ reported_more reported (setting ∷ []) → ReportedSoFar old reported subtree all left count → ReportedSoFar old new subtree all after (count + 1)
  next_reported new is more so_far =
      let longer : settings_under subtree (so_far.done ++ setting ∷ []) ≡ settings_under subtree so_far.done ++ setting ∷ [] =
      filter-append (λ (s : Setting). is_under subtree s.0) so_far.done (setting ∷ []) ∙ ap (λ l. settings_under subtree so_far.done ++ l) (cond-true _ (setting ∷ []) [] is) in
      record {
        done = so_far.done ++ setting ∷ [];
        whole = append_assoc so_far.done (setting ∷ []) after ∙ whole_is so_far;
        reported_is = more ∙ ap (λ t. reported_more t (setting ∷ [])) so_far.reported_is ∙ reported_then old (settings_under subtree so_far.done) (setting ∷ []) ∙ ap (reported_more old) (sym longer);
        counts = omega (arith, so_far.counts, ap length longer, length-append (settings_under subtree so_far.done) (setting ∷ []));
      }

  pub some_reported : (new : Option (List Setting)) → new ≡ reported → ReportedSoFar old reported subtree all left count → ReportsSome old new subtree all
  some_reported new same so_far = record {
    count = length so_far.done;
    within = omega (arith, ap length so_far.whole, length-append so_far.done left);
    reported = same ∙ so_far.reported_is ∙ ap (λ es. reported_more old (settings_under subtree es)) (sym (take_done all so_far.done left so_far.whole));
  }

  pub room_reported : length all < 2 ^ 32 → ReportedSoFar old reported subtree all left count → count + 1 < 2 ^ 32
  room_reported few so_far =
      let under = length-filter (λ (s : Setting). is_under subtree s.0) so_far.done in
      let least = count_by-le-length (λ (s : Setting). is_under subtree s.0) so_far.done in
      omega (arith, under, least, few, so_far.counts, ap length (whole_is so_far), length-append so_far.done (setting ∷ after))

-- all of them
pub all_reported : (old now : Option (List Setting)) (subtree : Option (List ℕ)) (all left : List Setting) (count : ℕ) → left ≡ [] → ReportedSoFar old now subtree all left count
    → (count ≡ length (settings_under subtree all)) × (now ≡ reported_more old (settings_under subtree all))
all_reported old now subtree all left count none so_far =
    let whole : so_far.done ≡ all = sym (append-nil so_far.done) ∙ ap (λ l. so_far.done ++ l) (sym none) ∙ so_far.whole in
    (so_far.counts ∙ ap (λ es. length (settings_under subtree es)) whole, so_far.reported_is ∙ ap (λ es. reported_more old (settings_under subtree es)) whole)

-- a load of the settings that a backend lists, once it is up
pub direct_of_pairs : (up : Bool) (old new : Option (List Setting)) (subtree : Option (List ℕ)) (pairs all : List Setting) (result : Result ℕ LoadFault) → up ≡ true → pairs ≡ all
    → DirectEnds true old new subtree pairs result → DirectEnds up old new subtree all result
direct_of_pairs up old new subtree pairs all result is same ends =
    subst (λ b. DirectEnds b old new subtree all result) (sym is) (subst (λ es. DirectEnds true old new subtree es result) same ends)

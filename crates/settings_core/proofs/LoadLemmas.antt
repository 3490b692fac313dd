-- The loop of a load.
use Rattle.std.proofs.Common.{◌≡◌, ℕ, ◌+◌, ◌-◌, ◌^◌, ◌<◌, List, [], ◌∷◌, ◌++◌, length, map, take, Bool, true, false, Option, Some, Result, Ok, Err, inl, inr, ◌⊎◌, refl, sym, ap, subst, ◌∙◌, arith, append_assoc, length-append}
use Rattle.std.specs.Prelude.{not}
use Rattle.std.proofs.lemmas.List.{append-nil}
use Rattle.std.proofs.lemmas.List.Sums.{length-filter, count_by-le-length}
use Rattle.std.proofs.lemmas.List.Filters.{length-filter_both}
use Rattle.flash_sim.specs.declared.flash.NoMemory.{NoMemory as Lack}
use Rattle.handlers.specs.Registry.{Registered, subtrees}
use Rattle.settings_core.specs.declared.loading.Loaded.{Loaded}
use Rattle.settings_core.specs.declared.loading.LoadFault.{LoadFault}
use Rattle.settings_core.specs.Committing.{is_under}
use Rattle.settings_core.specs.Deliveries.{Give, give, Delivery, delivery, deliver, deliver_all, delivered, is_taken}
use Rattle.settings_core.specs.Reported.{reported_more}
use Rattle.settings_core.specs.Loading.{Gives, GivesSome, LoadEnds, LoadOneEnds}
use Rattle.settings_core.proofs.GiveLemmas.{gives_beside, gives_offered, given_more}
use Rattle.settings_core.proofs.ListedLemmas.{Setting, take_done, take_one_more}
use Rattle.settings_core.proofs.ReportedLemmas.{reported_none}

-- a load of all these settings that has these ones left
pub record SoFar (before now : List Registered) (old new : Option (List Give)) (subtree : Option (List ℕ)) (all left : List Setting) (loaded : Loaded) : Type 0 where
  pub done : List Setting
  pub whole : done ++ left ≡ all
  pub gives : Gives before now old new subtree done loaded

pub none_so_far : (before : List Registered) (old : Option (List Give)) (subtree : Option (List ℕ)) (all left : List Setting) → left ≡ all → SoFar before before old old subtree all left (record { taken = 0; rejected = 0; passed = 0 })
none_so_far before old subtree all left whole = record {
  done = [];
  whole = whole;
  gives = record { handlers = refl; reported = sym (reported_none old); taken = refl; rejected = refl; passed = refl };
}

-- memory ran out before the first one
pub gives_none : (before : List Registered) (old : Option (List Give)) (subtree : Option (List ℕ)) (all : List Setting) → GivesSome before before old old subtree all
gives_none before old subtree all = record { count = 0; within = omega arith; reported = sym (reported_none old); handlers = inl refl }

-- one setting more
module _ (before now : List Registered) (old reported : Option (List Give)) (subtree : Option (List ℕ)) (all left after : List Setting) (setting : Setting) (was : Loaded) (step : left ≡ setting ∷ after) where
  whole_is : (so_far : SoFar before now old reported subtree all left was) → so_far.done ++ setting ∷ after ≡ all
  whole_is so_far = ap (λ l. so_far.done ++ l) (sym step) ∙ so_far.whole

  advanced : (next : List Registered) (new : Option (List Give)) (loaded : Loaded) (so_far : SoFar before now old reported subtree all left was) → Gives before next old new subtree (so_far.done ++ setting ∷ []) loaded → SoFar before next old new subtree all after loaded
  advanced next new loaded so_far gives = record { done = so_far.done ++ setting ∷ []; whole = append_assoc so_far.done (setting ∷ []) after ∙ whole_is so_far; gives = gives }

  pub beside_so_far : is_under subtree setting.0 ≡ false → SoFar before now old reported subtree all left was → SoFar before now old reported subtree all after was
  beside_so_far isnt so_far = advanced now reported was so_far (gives_beside before subtree now old reported so_far.done setting was isnt so_far.gives)

  pub given_so_far : (next : List Registered) (new : Option (List Give)) (loaded : Loaded) → is_under subtree setting.0 ≡ true → LoadOneEnds now next reported new setting was loaded (Ok tt)
      → SoFar before now old reported subtree all left was → SoFar before next old new subtree all after loaded
  given_so_far next new loaded is (o, ends, counts) so_far =
      advanced next new loaded so_far
      (subst (λ l. Gives before next old new subtree (so_far.done ++ setting ∷ []) l) (sym counts)
      (gives_offered before subtree now next old reported new so_far.done setting was o is ends so_far.gives))

  handlers_end : (next : List Registered) → is_under subtree setting.0 ≡ true → (so_far : SoFar before now old reported subtree all left was)
      → (next ≡ now) ⊎ ((d : Delivery) × (delivery (subtrees now) setting ≡ Some d) × (next ≡ deliver now d))
      → (next ≡ deliver_all before (delivered (subtrees before) subtree (take (length so_far.done) all))) ⊎ (next ≡ deliver_all before (delivered (subtrees before) subtree (take (length so_far.done + 1) all)))
  handlers_end next is so_far (inl same) =
      inl (same ∙ so_far.gives.handlers ∙ ap (λ es. deliver_all before (delivered (subtrees before) subtree es)) (sym (take_done all so_far.done left so_far.whole)))
  handlers_end next is so_far (inr (d, one, more)) =
      inr (more ∙ given_more before subtree now so_far.done setting d so_far.gives.handlers is one
      ∙ ap (λ es. deliver_all before (delivered (subtrees before) subtree es)) (sym (take_one_more all so_far.done after setting (whole_is so_far))))

  pub some_so_far : (next : List Registered) (new : Option (List Give)) (loaded : Loaded) (lack : Lack) → is_under subtree setting.0 ≡ true → LoadOneEnds now next reported new setting was loaded (Err lack)
      → SoFar before now old reported subtree all left was → GivesSome before next old new subtree all
  some_so_far next new loaded lack is ends so_far = record {
    count = length so_far.done;
    within = omega (arith, ap length so_far.whole, length-append so_far.done left);
    reported = ends.0 ∙ so_far.gives.reported ∙ ap (λ es. reported_more old (map (give before) (delivered (subtrees before) subtree es))) (sym (take_done all so_far.done left so_far.whole));
    handlers = handlers_end next is so_far ends.1;
  }

  pub room_so_far : length all < 2 ^ 32 → SoFar before now old reported subtree all left was → was.taken + was.rejected + was.passed < 2 ^ 32 - 1
  room_so_far few so_far =
      let ds = delivered (subtrees before) subtree so_far.done in
      let both = length-filter_both (is_taken before) (λ d. not (is_taken before d)) (λ d. refl) ds in
      let taken = length-filter (is_taken before) ds in
      let rejected = length-filter (λ d. not (is_taken before d)) ds in
      let under = length-filter (λ (s : Setting). is_under subtree s.0) so_far.done in
      let least = count_by-le-length (λ (s : Setting). is_under subtree s.0) so_far.done in
      omega (arith, both, taken, rejected, under, least, few, so_far.gives.taken, so_far.gives.rejected, so_far.gives.passed, ap length (whole_is so_far), length-append so_far.done (setting ∷ after))

-- all of them
pub all_so_far : (before now : List Registered) (old new : Option (List Give)) (subtree : Option (List ℕ)) (all left : List Setting) (loaded : Loaded) → left ≡ [] → SoFar before now old new subtree all left loaded → Gives before now old new subtree all loaded
all_so_far before now old new subtree all left loaded none so_far =
    subst (λ es. Gives before now old new subtree es loaded) (sym (append-nil so_far.done) ∙ ap (λ l. so_far.done ++ l) (sym none) ∙ so_far.whole) so_far.gives

-- a load of the settings that a backend lists, once it is up
pub ends_of_pairs : (up : Bool) (before after : List Registered) (old new : Option (List Give)) (subtree : Option (List ℕ)) (pairs all : List Setting) (result : Result Loaded LoadFault) → up ≡ true → pairs ≡ all
    → LoadEnds true before after old new subtree pairs result → LoadEnds up before after old new subtree all result
ends_of_pairs up before after old new subtree pairs all result is same ends =
    subst (λ b. LoadEnds b before after old new subtree all result) (sym is) (subst (λ es. LoadEnds true before after old new subtree es result) same ends)

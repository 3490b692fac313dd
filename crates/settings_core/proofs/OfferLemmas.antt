-- Offering one setting.
use Rattle.std.proofs.Common.{Option, ◌≡◌, ℕ, ◌<◌, List, [], ◌∷◌, length, map, get_or, Some, None, Result, Ok, Err, inl, Bool, true, false, true≢false, sym, ap, ◌∙◌, arith}
use Rattle.std.proofs.Math.ListN.{get_or-map}
use Rattle.std.specs.Prelude.{option_map, is_err}
use Rattle.std.specs.Option.{unwrap_or}
use Rattle.setting_name.specs.Match.{matched_rest}
use Rattle.flash_sim.specs.declared.flash.NoMemory.{NoMemory as Lack}
use Rattle.handlers.specs.Best.{best, depth, is_greatest}
use Rattle.handlers.specs.Registry.{Registered, subtrees, nobody, state_at, with_state}
use Rattle.settings_core.specs.Reported.{reported_more}
use Rattle.std.proofs.lemmas.Bool.{cond-false}
use Rattle.std.proofs.lemmas.List.{set-get_or, length-map}
use Rattle.std.proofs.lemmas.List.Quantifiers.{position-Some}
use Rattle.handlers.specs.Held.{given}
use Rattle.settings_core.specs.Runtime.{Takes, Accepts, Rejects}
use Rattle.settings_core.specs.declared.offering.Offered.{Offered}
use Rattle.settings_core.specs.Deliveries.{Delivery, delivery, deliver, is_taken, Give, Delivers, OfferEnds}

pub delivery-best : (before : List Registered) (name value rest subtree : List ℕ) (place : ℕ) → best (subtrees before) name ≡ Some place → subtree ≡ (get_or before place nobody).subtree
    → rest ≡ unwrap_or (matched_rest name subtree) [] → delivery (subtrees before) (name, value) ≡ Some (record { place = place; rest = rest; value = value })
delivery-best before name value rest subtree place is own left =
    ap (option_map (λ place. record { place = place; rest = unwrap_or (matched_rest name (get_or (subtrees before) place [])) []; value = value })) is
    ∙ ap (λ text. Some (record { place = place; rest = unwrap_or (matched_rest name text) []; value = value })) (get_or-map (λ h. h.subtree) before place nobody ∙ sym own)
    ∙ ap (λ text. Some (record { place = place; rest = text; value = value })) (sym left)

pub delivery-none : (before : List Registered) (name value : List ℕ) → best (subtrees before) name ≡ None → delivery (subtrees before) (name, value) ≡ None
delivery-none before name value none =
    ap (option_map (λ place. record { place = place; rest = unwrap_or (matched_rest name (get_or (subtrees before) place [])) []; value = value })) none

pub best_within : (handlers : List Registered) (name : List ℕ) (place : ℕ) → best (subtrees handlers) name ≡ Some place → place < length handlers
best_within handlers name place is =
    let depths = map (depth name) (subtrees handlers) in
    omega (arith, (position-Some (is_greatest depths) depths place 0 is).0, length-map (subtrees handlers) (depth name), length-map handlers (λ (h : Registered). h.subtree))

-- an offer for which there was no memory
pub offer_lacks : (before after : List Registered) (old new : Option (List Give)) (setting : List ℕ × List ℕ) (result : Result Offered Lack) → is_err result ≡ true → after ≡ before → new ≡ old → OfferEnds before after old new setting result
offer_lacks before after old new setting (Ok x) failed same unreported = absurd (true≢false (sym failed))
offer_lacks before after old new setting (Err lack) failed same unreported = (unreported, inl same)

pub delivers : (before after : List Registered) (old new : Option (List Give)) (name value rest subtree : List ℕ) (place : ℕ) (taken answer : Bool) → best (subtrees before) name ≡ Some place → subtree ≡ (get_or before place nobody).subtree
    → rest ≡ unwrap_or (matched_rest name subtree) [] → (taken ≡ is_taken before (record { place = place; rest = rest; value = value })) × (after ≡ deliver before (record { place = place; rest = rest; value = value }))
    → new ≡ reported_more old (record { subtree = subtree; rest = rest; value = value; taken = taken } ∷ []) → taken ≡ answer → Delivers before after old new (name, value) answer
delivers before after old new name value rest subtree place taken answer is own left done reported same = record {
  d = record { place = place; rest = rest; value = value };
  is = delivery-best before name value rest subtree place is own left;
  answer = sym done.0 ∙ same;
  after_is = done.1;
  reported =
      reported ∙ ap (λ text. reported_more old (record { subtree = text; rest = rest; value = value; taken = taken } ∷ [])) own
      ∙ ap (λ b. reported_more old (record { subtree = (get_or before place nobody).subtree; rest = rest; value = value; taken = b } ∷ [])) done.0;
}

-- ---- at run time

pub takes : (before after : List Registered) (name value rest subtree : List ℕ) (place : ℕ) (taken : Bool) → best (subtrees before) name ≡ Some place → subtree ≡ (get_or before place nobody).subtree
    → rest ≡ unwrap_or (matched_rest name subtree) [] → (taken ≡ is_taken before (record { place = place; rest = rest; value = value })) × (after ≡ deliver before (record { place = place; rest = rest; value = value }))
    → taken ≡ true → Takes before after (name, value)
takes before after name value rest subtree place taken is own left done same = record {
  d = record { place = place; rest = rest; value = value };
  is = delivery-best before name value rest subtree place is own left;
  takes = sym done.0 ∙ same;
  after_is = done.1;
}

-- a delivery that is not taken changes nothing
pub not_taken : (before : List Registered) (d : Delivery) → is_taken before d ≡ false → deliver before d ≡ before
not_taken before d isnt =
    ap (with_state before d.place) (cond-false _ (given (state_at before d.place) d.rest d.value) (state_at before d.place) isnt) ∙ set-get_or before d.place nobody

pub rejects : (before after : List Registered) (name value rest subtree : List ℕ) (place : ℕ) (taken : Bool) → best (subtrees before) name ≡ Some place → subtree ≡ (get_or before place nobody).subtree
    → rest ≡ unwrap_or (matched_rest name subtree) [] → (taken ≡ is_taken before (record { place = place; rest = rest; value = value })) × (after ≡ deliver before (record { place = place; rest = rest; value = value }))
    → taken ≡ false → Rejects before (name, value) × (after ≡ before)
rejects before after name value rest subtree place taken is own left done same = (
  record { d = record { place = place; rest = rest; value = value }; is = delivery-best before name value rest subtree place is own left; rejects = sym done.0 ∙ same },
  done.1 ∙ not_taken before (record { place = place; rest = rest; value = value }) (sym done.0 ∙ same),
)

pub wants : (before after : List Registered) (name value rest subtree : List ℕ) (place : ℕ) → best (subtrees before) name ≡ Some place → subtree ≡ (get_or before place nobody).subtree
    → rest ≡ unwrap_or (matched_rest name subtree) [] → (is_taken before (record { place = place; rest = rest; value = value }) ≡ true) × (after ≡ before)
    → Accepts before (name, value) × (after ≡ before)
wants before after name value rest subtree place is own left ends = (
  record { d = record { place = place; rest = rest; value = value }; is = delivery-best before name value rest subtree place is own left; accepts = ends.0 },
  ends.1,
)

-- What a load gives to which handler.
use Rattle.std.specs.Prelude.{◌≡◌, ℕ, Bool, true, false, List, [], ◌∷◌, fold, get_or, Option, Some, None, option_map, if◌then◌else◌, Result, Ok, Err, ◌⊎◌}
use Rattle.std.specs.List.{filter, filter_map}
use Rattle.std.specs.Option.{unwrap_or}
use Rattle.setting_name.specs.Match.{matched_rest}
use Rattle.flash_sim.specs.declared.flash.NoMemory.{NoMemory as Lack}
use Rattle.settings_core.specs.declared.offering.Offered.{Offered}
use Rattle.settings_core.specs.declared.offering.Offered.TheVariants.{Taken, Rejected, Passed}
use Rattle.handlers.specs.Best.{best}
use Rattle.handlers.specs.Held.{HandlerState, accepts, given}
use Rattle.handlers.specs.Registry.{Registered, subtrees, nobody, state_at, with_state}
use Rattle.settings_core.specs.Committing.{is_under}
use Rattle.settings_core.specs.Reported.{reported_more}

-- a stored value for the handler at a place
pub record Delivery : Type 0 where
  pub place : ℕ
  pub rest : List ℕ
  pub value : List ℕ

-- the delivery of a setting to the best handler for its name, if there is one
abbrev pub delivery : List (List ℕ) → List ℕ × List ℕ → Option Delivery
delivery to setting =
    option_map
    (λ place.
    record {
      place = place;
      rest = unwrap_or (matched_rest setting.0 (get_or to place [])) [];
      value = setting.1;
    })
    (best to setting.0)

-- the settings whose names match the subtree
abbrev pub settings_under : Option (List ℕ) → List (List ℕ × List ℕ) → List (List ℕ × List ℕ)
settings_under subtree settings = filter (λ setting. is_under subtree setting.0) settings

-- each of them that has a best handler, in their order
abbrev pub delivered : List (List ℕ) → Option (List ℕ) → List (List ℕ × List ℕ) → List Delivery
delivered to subtree settings = filter_map (delivery to) (settings_under subtree settings)

-- the handler's state after it was offered a value
abbrev pub offered : HandlerState → List ℕ → List ℕ → HandlerState
offered h rest value = if accepts h.kind value then given h rest value else h

abbrev pub deliver : List Registered → Delivery → List Registered
deliver handlers d = with_state handlers d.place (offered (state_at handlers d.place) d.rest d.value)

abbrev pub deliver_all : List Registered → List Delivery → List Registered
deliver_all handlers deliveries = fold deliver handlers deliveries

-- the report of a delivery
pub record Give : Type 0 where
  pub subtree : List ℕ
  pub rest : List ℕ
  pub value : List ℕ
  pub taken : Bool

abbrev pub give : List Registered → Delivery → Give
give handlers d = record {
  subtree = (get_or handlers d.place nobody).subtree;
  rest = d.rest;
  value = d.value;
  taken = accepts (state_at handlers d.place).kind d.value;
}

-- whether a delivery is taken
abbrev pub is_taken : List Registered → Delivery → Bool
is_taken handlers d = accepts (state_at handlers d.place).kind d.value

-- ---- one delivery

-- how giving a handler its value ends, by whether it was taken
abbrev pub DeliverEnds : List Registered → List Registered → Delivery → Result Bool Lack → Type 0
DeliverEnds before after d (Ok taken) = (taken ≡ is_taken before d) × (after ≡ deliver before d)
DeliverEnds before after d (Err lack) = (is_taken before d ≡ true) × (after ≡ before)

-- the setting went to its best handler, and the delivery was reported
pub record Delivers (before after : List Registered) (old new : Option (List Give))
    (setting : List ℕ × List ℕ) (taken : Bool) : Type 0 where
  pub d : Delivery
  pub is : delivery (subtrees before) setting ≡ Some d
  pub answer : is_taken before d ≡ taken
  pub after_is : after ≡ deliver before d
  pub reported : new ≡ reported_more old (give before d ∷ [])

-- how offering a setting to the handlers ends
abbrev pub OfferEnds : List Registered → List Registered → Option (List Give) → Option (List Give)
    → List ℕ × List ℕ → Result Offered Lack → Type 0
OfferEnds before after old new setting (Ok Taken) = Delivers before after old new setting true
OfferEnds before after old new setting (Ok Rejected) = Delivers before after old new setting false
OfferEnds before after old new setting (Ok Passed) =
    (delivery (subtrees before) setting ≡ None) × (after ≡ before) × (new ≡ old)
OfferEnds before after old new setting (Err lack) =
    (new ≡ old)
    × ((after ≡ before)
    ⊎ ((d : Delivery) × (delivery (subtrees before) setting ≡ Some d) × (after ≡ deliver before d)))

-- A handler that is registered, in the words of the handlers' states.
use Rattle.std.proofs.Common.{◌≡◌, ℕ, Bool, List, [], ◌∷◌, ◌++◌, map, ◌∙◌, ◌||◌, refl, sym, ap, subst, arith}
use Rattle.std.specs.Prelude.{All, Result, Ok, Err}
use Rattle.std.specs.FinMap.{empty}
use Rattle.std.specs.List.{list_any}
use Rattle.std.specs.Str.{bytes_eq}
use Rattle.std.proofs.lemmas.List.{map-append}
use Rattle.std.proofs.lemmas.List.Elements.{All-append, All-cons, All-head}
use Rattle.handlers.specs.Held.{Held, HandlerState, fresh}
use Rattle.handlers.specs.Registry.{Registered, RegisterEnds, registered, row_of, subtrees}
use Rattle.handlers.specs.declared.handler.HandlerKind.TheVariants.{Table}
use Rattle.handlers.specs.declared.registry.RegisterFault.{RegisterFault}
use Rattle.handlers.specs.declared.registry.RegisterFault.TheVariants.{Exists, NoMemory}
use Rattle.handlers.specs.declared.registry.RegistryOf.{RegistryOf}
use Rattle.handlers.specs.declared.registry.Row.{Row}
use Rattle.settings_core.specs.Saving.{AreLawful, AreSettings, pairs_of}
use Rattle.settings_core.proofs.LawfulLemmas.{stays_lawful}
use Rattle.petaqwen.specs.Calls.{Registers, without}

module _ {B : Type 0} (state : B → HandlerState) where
  any_row : (subtree : List ℕ) (rows : List (Row B)) → list_any (λ row. bytes_eq subtree row.subtree) rows ≡ list_any (bytes_eq subtree) (subtrees (map (row_of state) rows))
  any_row subtree [] = refl
  any_row subtree (row ∷ rows) = ap (λ (t : Bool). bytes_eq subtree row.subtree || t) (any_row subtree rows)

  pub registers : (old new : RegistryOf B) (subtree : List ℕ) (handler : B) (result : Result (Unit {0}) (RegisterFault × B)) → RegisterEnds old.rows.items new.rows.items subtree handler result
      → Registers (registered state old) (registered state new) subtree (state handler) (without result)
  registers old new subtree handler (Ok x) ends = (
    sym (any_row subtree old.rows.items) ∙ ends.0,
    ap (map (row_of state)) ends.1 ∙ map-append (row_of state) old.rows.items (record { subtree = subtree; handler = handler } ∷ []),
  )
  registers old new subtree handler (Err (Exists, back)) ends = (sym (any_row subtree old.rows.items) ∙ ends.0, ap (map (row_of state)) ends.1)
  registers old new subtree handler (Err (NoMemory, back)) ends = (sym (any_row subtree old.rows.items) ∙ ends.0, ap (map (row_of state)) ends.1)

  -- as it is answered
  pub registers_as : (old new : RegistryOf B) (subtree : List ℕ) (handler : B) (result : Result (Unit {0}) (RegisterFault × B)) (answer : Result (Unit {0}) RegisterFault) → RegisterEnds old.rows.items new.rows.items subtree handler result
      → answer ≡ without result → Registers (registered state old) (registered state new) subtree (state handler) answer
  registers_as old new subtree handler result answer ends is =
      subst (λ (r : Result (Unit {0}) RegisterFault). Registers (registered state old) (registered state new) subtree (state handler) r) (sym is) (registers old new subtree handler result ends)

abbrev HoldsLawful : ℕ → Registered → Type 0
HoldsLawful limit h = AreSettings limit (pairs_of h.subtree h.state.held)

none : (limit : ℕ) → All (HoldsLawful limit) []
none limit = λ k d lt. absurd (omega arith)

-- whoever holds nothing may store it
empty_lawful : (limit : ℕ) (subtree : List ℕ) (state : HandlerState) → state.held ≡ empty → HoldsLawful limit (record { subtree = subtree; state = state })
empty_lawful limit subtree state is =
    subst (λ (held : Held). AreSettings limit (pairs_of subtree held)) (sym is)
    (All-head (HoldsLawful limit) (record { subtree = subtree; state = fresh Table }) [] ((stays_lawful limit [] (none limit)).registers subtree Table))

pub registers_lawful : (limit : ℕ) (before after : List Registered) (subtree : List ℕ) (state : HandlerState) (result : Result (Unit {0}) RegisterFault) → Registers before after subtree state result → state.held ≡ empty
    → AreLawful limit before → AreLawful limit after
registers_lawful limit before after subtree state (Ok x) ends is lawful =
    subst (λ (hs : List Registered). AreLawful limit hs) (sym ends.1)
    (All-append (HoldsLawful limit) before (record { subtree = subtree; state = state } ∷ []) lawful (All-cons (HoldsLawful limit) (record { subtree = subtree; state = state }) [] (empty_lawful limit subtree state is) (none limit)))
registers_lawful limit before after subtree state (Err Exists) ends is lawful = subst (λ (hs : List Registered). AreLawful limit hs) (sym ends.1) lawful
registers_lawful limit before after subtree state (Err NoMemory) ends is lawful = subst (λ (hs : List Registered). AreLawful limit hs) (sym ends.1) lawful

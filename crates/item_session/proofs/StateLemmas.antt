-- What an area's list says of items and of versions, before a call and behind it.
use Rattle.std.proofs.Common.{◌≡◌, ◌⊎◌, ℕ, ◌<◌, Bool, true, cond, eqb, List, [], ◌∷◌, ◌++◌, length, Option, Some, None, refl, sym, ap, subst, ◌∙◌, inl, inr, arith}
use Rattle.std.specs.FinMap.{get, insert, remove, get-insert, get-remove}
use Rattle.std.specs.Ordering.{nat_cmp, eq_by_cmp}
use Rattle.std.specs.Str.{bytes_eq}
use Rattle.std.proofs.lemmas.Bool.{cases_Bool, cond-false, false≢true, ne_eqb}
use Rattle.std.proofs.lemmas.Bool.Decides.{nat_tests}
use Rattle.std.proofs.lemmas.Cmp.{nat_cmp_total}
use Rattle.std.proofs.lemmas.Slice.Eq.{bytes_eq-Decides}
use Rattle.flash_sim.specs.Device.{Device}
use Rattle.flash_sim.specs.declared.flash.Bank.{Bank}
use Rattle.flash_map.specs.declared.area.Area.{Area}
use Rattle.flash_map.specs.declared.area.Geometry.{Geometry}
use Rattle.flash_map.specs.Area.{sectors_of}
use Rattle.item_laws.specs.Items.{Items, items_of, with_pair}
use Rattle.item_laws.proofs.ItemLemmas.{items_of-push, same_map}
use Rattle.item_store.specs.SectorFormat.{SectorFormat}
use Rattle.item_store.specs.Listed.{format_on, list_on}
use Rattle.item_store.specs.Standing.{KeepsItems, list_at}
use Rattle.item_store.specs.Versions.{AddsVersion, KeepsVersions}
use Rattle.item_store.proofs.CallFacts.{from_geometry}
use Rattle.item_store.proofs.VersionLemmas.{versions-items}
use Rattle.item_session.specs.Device.{state_of}
use Rattle.item_session.specs.Standing.{damage_on}
use Rattle.item_session.specs.Step.{Gets, IsAbsent, IsStored, Loses, State, Stays, items}

-- ---- lists

kept_items : (old new : List (ℕ × List ℕ)) → KeepsVersions old new → items_of new ≡ items_of old
kept_items old new keeps = same_map new old (versions-items old new keeps)

added_items : (old new : List (ℕ × List ℕ)) (id : ℕ) (bytes : List ℕ) → AddsVersion old new id bytes → items_of new ≡ with_pair (items_of old) (id, bytes)
added_items old new id bytes adds = kept_items (old ++ (id, bytes) ∷ []) new adds.keeps ∙ items_of-push old (id, bytes)

pair_is : (m : Items) (id : ℕ) (bytes : List ℕ) → 0 < length bytes → with_pair m (id, bytes) ≡ insert m id bytes
pair_is m id bytes some = cond-false (eqb (length bytes) 0) (remove m id) (insert m id bytes) (ne_eqb (length bytes) 0 (λ (z : length bytes ≡ 0). omega arith))

-- ---- states

pub stays_if : (old new : State) → KeepsVersions old.list new.list → Stays old new
stays_if old new keeps = record { items_are = kept_items old.list new.list keeps; versions_are = keeps }

pub gets_if : (id : ℕ) (value : List ℕ) (old new : State) → 0 < length value → AddsVersion old.list new.list id value → Gets id value old new
gets_if id value old new some adds = record { items_are = added_items old.list new.list id value adds ∙ pair_is (items_of old.list) id value some; versions_are = adds }

pub loses_if : (id : ℕ) (old new : State) → AddsVersion old.list new.list id [] → Loses id old new
loses_if id old new adds = record { items_are = added_items old.list new.list id [] adds; versions_are = adds }

-- ---- items that are there or not

some_none : (bytes : List ℕ) → Some bytes ≡ None → ⊥
some_none bytes e = cc

same_some : (a b : List ℕ) → Some a ≡ Some b → a ≡ b
same_some a b e = cc

ties_itself : (id : ℕ) → eq_by_cmp nat_cmp id id ≡ true
ties_itself id = grind (arith, nat_tests)

pub stored_or_not : (state : State) (id : ℕ) (bytes : List ℕ) → IsStored state id bytes ⊎ (¬ IsStored state id bytes)
stored_or_not state id bytes =
    elim (get (items state) id) as (λ (o : Option (List ℕ)). get (items state) id ≡ o → IsStored state id bytes ⊎ (¬ IsStored state id bytes)) [
      | None ↦ λ is. inr (λ stored. some_none bytes (sym stored ∙ is))
      | Some value ↦ λ is. elim (cases_Bool (bytes_eq value bytes)) [
        | inl same ↦ inl (is ∙ ap Some ((bytes_eq-Decides value bytes).0 same))
        | inr differ ↦ inr (λ stored. false≢true (sym differ ∙ (bytes_eq-Decides value bytes).1 (same_some value bytes (sym is ∙ stored))))
      ]
    ] refl

pub absent_or_not : (state : State) (id : ℕ) → IsAbsent state id ⊎ (¬ IsAbsent state id)
absent_or_not state id =
    elim (get (items state) id) as (λ (o : Option (List ℕ)). get (items state) id ≡ o → IsAbsent state id ⊎ (¬ IsAbsent state id)) [
      | None ↦ λ is. inl is
      | Some value ↦ λ is. inr (λ none. some_none value (sym is ∙ none))
    ] refl

pub gets_changes : (id : ℕ) (value : List ℕ) (old new : State) → ¬ IsStored old id value → Gets id value old new → new.list ≡ old.list → ⊥
gets_changes id value old new other gets same =
    other
    (sym (ap (λ (pairs : List (ℕ × List ℕ)). get (items_of pairs) id) same)
    ∙ ap (λ (m : Items). get m id) gets.items_are
    ∙ get-insert nat_cmp_total (items old) id value id
    ∙ ap (λ (t : Bool). cond t (Some value) (get (items old) id)) (ties_itself id))

pub loses_changes : (id : ℕ) (old new : State) → ¬ IsAbsent old id → Loses id old new → new.list ≡ old.list → ⊥
loses_changes id old new present loses same =
    present
    (sym (ap (λ (pairs : List (ℕ × List ℕ)). get (items_of pairs) id) same)
    ∙ ap (λ (m : Items). get m id) loses.items_are
    ∙ get-remove nat_cmp_total (items old) id id
    ∙ ap (λ (t : Bool). cond t None (get (items old) id)) (ties_itself id))

-- ---- an area

module _ (format_of : Geometry → SectorFormat) (area : Area) (old new : Device) (banks : new.banks ≡ old.banks) where
  -- its unit is the same behind a call
  pub list_there : list_at (format_on format_of old area) new area ≡ list_on format_of new area
  list_there = from_geometry (λ (u : Geometry). list_at (format_on format_of old area) new area ≡ list_at (format_of u) new area) old new area banks refl

  pub keeps_there : KeepsVersions (list_at (format_on format_of old area) old area) (list_at (format_on format_of old area) new area) → KeepsVersions (list_on format_of old area) (list_on format_of new area)
  keeps_there keeps = subst (λ (pairs : List (ℕ × List ℕ)). KeepsVersions (list_on format_of old area) pairs) list_there keeps

  pub adds_there : (id : ℕ) (bytes : List ℕ) → AddsVersion (list_at (format_on format_of old area) old area) (list_at (format_on format_of old area) new area) id bytes → AddsVersion (list_on format_of old area) (list_on format_of new area) id bytes
  adds_there id bytes adds = subst (λ (pairs : List (ℕ × List ℕ)). AddsVersion (list_on format_of old area) pairs id bytes) list_there adds

  pub stays_there : KeepsItems (format_on format_of old area) (sectors_of old area) (sectors_of new area) → Stays (state_of format_of area old) (state_of format_of area new)
  stays_there keeps = stays_if (state_of format_of area old) (state_of format_of area new) (keeps_there keeps.versions)

  pub sound_there : (format_on format_of old area).damage (sectors_of new area) ≡ None → damage_on format_of new area ≡ None
  sound_there none = from_geometry (λ (u : Geometry). (format_of u).damage (sectors_of new area) ≡ None) old new area banks none

  -- where no byte changed its list is the same
  pub list_same : new.bytes ≡ old.bytes → list_on format_of new area ≡ list_on format_of old area
  list_same bytes =
      ap (λ (banks : List Bank). list_on format_of (record new { banks = banks }) area) banks
      ∙ ap (λ (bytes : List (List ℕ)). list_on format_of (record new { banks = old.banks; bytes = bytes }) area) bytes

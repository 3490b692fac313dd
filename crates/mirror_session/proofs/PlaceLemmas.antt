-- The two store areas of a map by their places, and which of them is read.
use Rattle.std.proofs.Common.{◌≡◌, ◌≢◌, ◌⊎◌, inl, inr, ℕ, ◌&&◌, not, Bool, true, false, cond, List, length, Option, Some, None, refl, sym, ap, subst, ◌∙◌, arith}
use Rattle.std.specs.Prelude.{min, max, unwrap_or}
use Rattle.std.specs.List.{slice_get}
use Rattle.std.specs.Option.{option_map_or}
use Rattle.std.proofs.lemmas.Bool.{false≢true}
use Rattle.flash_sim.specs.Device.{Device}
use Rattle.flash_sim.specs.declared.flash.Bank.{Bank}
use Rattle.flash_map.specs.declared.area.Area.{Area}
use Rattle.flash_map.specs.declared.area.Geometry.{Geometry}
use Rattle.fcb_ring.proofs.PlaceLemmas.{found_some, found_none}
use Rattle.migrator.specs.Active.{active_on}
use Rattle.migrator.specs.Areas.{IsLawfulMap, is_store, is_store_at, first_store, store_from, target}
use Rattle.migrator.proofs.AreaLemmas.{store-within, target-none, target-store}
use Rattle.migrator.proofs.Copies.{geometry-same}
use Rattle.mirror.specs.Trusted.{IsMirrorMap, is_blank_at, trusted_on, trusted_with}
use Rattle.session_table.specs.Bench.{area_at}
use Rattle.session.proofs.ActiveAreas.{area_there}
use Rattle.mirror_session.specs.Bench.{beside_in, higher_place, is_gone, lower_place}

pub map_kept : (serves : Area → Geometry → Type 0) (areas : List Area) (a b : Device) → b.banks ≡ a.banks → IsMirrorMap serves areas a → IsMirrorMap serves areas b
map_kept serves areas a b banks map = record {
  lawful = subst (λ (all : List Bank). IsLawfulMap all areas) (sym banks) map.lawful;
  served = λ place area there store. subst (λ (g : Geometry). serves area g) (sym (geometry-same a b area banks)) (map.served place area there store);
  roles = map.roles;
  selector = map.selector;
  selected = map.selected;
  one = map.one;
  two = map.two;
  apart = map.apart;
  one_stores = map.one_stores;
  two_stores = map.two_stores;
  only = map.only;
}

pub store_at : (areas : List Area) (place : ℕ) (area : Area) → slice_get areas place ≡ Some area → is_store area ≡ true → is_store_at areas place ≡ true
store_at areas place area there stores = ap (λ (o : Option Area). option_map_or is_store o false) there ∙ stores

pub store_is : (areas : List Area) (place : ℕ) (area : Area) → slice_get areas place ≡ Some area → is_store_at areas place ≡ true → is_store area ≡ true
store_is areas place area there stores = sym (ap (λ (o : Option Area). option_map_or is_store o false) there) ∙ stores

-- which of two places is read follows from what is gone
pub trusted_of_is : (areas : List Area) (d : Device) → trusted_on areas d ≡ cond (is_gone areas d) (beside_in areas (active_on areas d)) (active_on areas d)
trusted_of_is areas d = by (target areas (active_on areas d))
  where
    same : (b : Bool) → active_on areas d ≡ cond b (active_on areas d) (active_on areas d)
    same true = refl
    same false = refl

    by : (o : Option ℕ) → trusted_with areas d (active_on areas d) o ≡ cond (is_blank_at areas d (active_on areas d) && not (is_blank_at areas d (unwrap_or o (active_on areas d)))) (unwrap_or o (active_on areas d)) (active_on areas d)
    by None = same (is_blank_at areas d (active_on areas d) && not (is_blank_at areas d (active_on areas d)))
    by (Some x) = refl

module _ (serves : Area → Geometry → Type 0) (areas : List Area) (d : Device) (map : IsMirrorMap serves areas d) where
  pub other_is : (a b x : ℕ) → is_store_at areas a ≡ true → is_store_at areas b ≡ true → is_store_at areas x ≡ true → a ≢ b → x ≢ a → x ≡ b
  other_is a b x at_a at_b at_x apart differs = by (map.only a at_a) (map.only b at_b) (map.only x at_x)
    where
      by : (a ≡ map.one) ⊎ (a ≡ map.two) → (b ≡ map.one) ⊎ (b ≡ map.two) → (x ≡ map.one) ⊎ (x ≡ map.two) → x ≡ b
      by (inl p) (inl q) r = absurd (apart (p ∙ sym q))
      by (inr p) (inr q) r = absurd (apart (p ∙ sym q))
      by (inl p) (inr q) (inl r) = absurd (differs (r ∙ sym p))
      by (inl p) (inr q) (inr r) = r ∙ sym q
      by (inr p) (inl q) (inl r) = r ∙ sym q
      by (inr p) (inl q) (inr r) = absurd (differs (r ∙ sym p))

  pub beside_some : (a b : ℕ) → is_store_at areas a ≡ true → is_store_at areas b ≡ true → a ≢ b → target areas a ≡ Some b
  beside_some a b at_a at_b apart = by (target areas a) refl
    where
      by : (o : Option ℕ) → target areas a ≡ o → target areas a ≡ Some b
      by None is = absurd (apart (sym (target-none areas a is b at_b)))
      by (Some x) is = let t = target-store areas a x is in is ∙ ap (λ (n : ℕ). Some n) (other_is a b x at_a at_b t.0 apart t.1)

  pub beside_is : (a b : ℕ) → is_store_at areas a ≡ true → is_store_at areas b ≡ true → a ≢ b → beside_in areas a ≡ b
  beside_is a b at_a at_b apart = ap (λ (o : Option ℕ). unwrap_or o a) (beside_some a b at_a at_b apart)

  -- the first one is one
  pub first_stores : is_store_at areas (first_store areas) ≡ true
  first_stores = by (store_from areas 0 (length areas)) refl
    where
      by : (o : Option ℕ) → store_from areas 0 (length areas) ≡ o → is_store_at areas (unwrap_or (store_from areas 0 (length areas)) 0) ≡ true
      by None none =
          let within = store-within areas map.one map.one_stores in
          absurd (false≢true (sym (found_none (is_store_at areas) 0 (length areas) none map.one (omega arith) (omega (arith, within))) ∙ map.one_stores))
      by (Some x) some = ap (λ (o : Option ℕ). is_store_at areas (unwrap_or o 0)) some ∙ (found_some (is_store_at areas) 0 (length areas) x some).passes

  -- the first one and the one beside it are these two, one way round or the other
  either : (a b : ℕ) → is_store_at areas a ≡ true → is_store_at areas b ≡ true → a ≢ b
      → ((first_store areas ≡ a) × (beside_in areas (first_store areas) ≡ b)) ⊎ ((first_store areas ≡ b) × (beside_in areas (first_store areas) ≡ a))
  either a b at_a at_b apart = by (map.only (first_store areas) first_stores) (map.only a at_a) (map.only b at_b)
    where
      flipped : b ≢ a
      flipped e = apart (sym e)

      this : first_store areas ≡ a → ((first_store areas ≡ a) × (beside_in areas (first_store areas) ≡ b)) ⊎ ((first_store areas ≡ b) × (beside_in areas (first_store areas) ≡ a))
      this is = inl (is, ap (beside_in areas) is ∙ beside_is a b at_a at_b apart)

      that : first_store areas ≡ b → ((first_store areas ≡ a) × (beside_in areas (first_store areas) ≡ b)) ⊎ ((first_store areas ≡ b) × (beside_in areas (first_store areas) ≡ a))
      that is = inr (is, ap (beside_in areas) is ∙ beside_is b a at_b at_a flipped)

      by : (first_store areas ≡ map.one) ⊎ (first_store areas ≡ map.two) → (a ≡ map.one) ⊎ (a ≡ map.two) → (b ≡ map.one) ⊎ (b ≡ map.two)
          → ((first_store areas ≡ a) × (beside_in areas (first_store areas) ≡ b)) ⊎ ((first_store areas ≡ b) × (beside_in areas (first_store areas) ≡ a))
      by (inl f) (inl p) q = this (f ∙ sym p)
      by (inl f) (inr p) (inl q) = that (f ∙ sym q)
      by (inl f) (inr p) (inr q) = absurd (apart (p ∙ sym q))
      by (inr f) (inr p) q = this (f ∙ sym p)
      by (inr f) (inl p) (inr q) = that (f ∙ sym q)
      by (inr f) (inl p) (inl q) = absurd (apart (p ∙ sym q))

  -- what holds of the two places in the order of the map, where it holds of these two in either order
  pub in_order : (P : ℕ → ℕ → Type 0) (a b : ℕ) → is_store_at areas a ≡ true → is_store_at areas b ≡ true → a ≢ b → P (min a b) (max a b) → P (lower_place areas) (higher_place areas)
  in_order P a b at_a at_b apart is = elim (either a b at_a at_b apart) [
    | inl e ↦ subst (λ (x : ℕ). P (min x (beside_in areas (first_store areas))) (max x (beside_in areas (first_store areas)))) (sym e.0) (subst (λ (y : ℕ). P (min a y) (max a y)) (sym e.1) is)
    | inr e ↦ subst (λ (x : ℕ). P (min x (beside_in areas (first_store areas))) (max x (beside_in areas (first_store areas)))) (sym e.0)
        (subst (λ (y : ℕ). P (min b y) (max b y)) (sym e.1) (subst (λ (x : ℕ). P x (max b a)) lows (subst (λ (y : ℕ). P (min a b) y) highs is)))
  ]
    where
      lows : min a b ≡ min b a
      lows = omega arith

      highs : max a b ≡ max b a
      highs = omega arith

-- two store areas, of which the first is named
module _ (areas : List Area) (d : Device) (here there : ℕ) (area other : Area) (named : here ≡ active_on areas d) (beside_here : target areas here ≡ Some there) (beside_there : target areas there ≡ Some here)
    (is_here : slice_get areas here ≡ Some area) (is_there : slice_get areas there ≡ Some other) where
  pub gone_is : is_gone areas d ≡ (is_blank_at areas d here && not (is_blank_at areas d there))
  gone_is =
      ap (λ (p : ℕ). is_blank_at areas d p && not (is_blank_at areas d (beside_in areas p))) (sym named)
      ∙ ap (λ (o : Option ℕ). is_blank_at areas d here && not (is_blank_at areas d (unwrap_or o here))) beside_here

  pub trusted_is : trusted_on areas d ≡ cond (is_blank_at areas d here && not (is_blank_at areas d there)) there here
  trusted_is = ap (λ (p : ℕ). trusted_with areas d p (target areas p)) (sym named) ∙ ap (trusted_with areas d here) beside_here

  -- what is said of the area that is read and the other one, where it holds of these two in either order
  pub reads_either : {X : Type 0} (f : Area → X) (P : X → X → Type 0) → P (f area) (f other) → P (f other) (f area)
      → P (f (area_at areas (trusted_on areas d))) (f (area_at areas (beside_in areas (trusted_on areas d))))
  reads_either f P one two =
      subst (λ (p : ℕ). P (f (area_at areas p)) (f (area_at areas (beside_in areas p)))) (sym trusted_is)
      (by (is_blank_at areas d here && not (is_blank_at areas d there)))
    where
      at_here : area ≡ area_at areas here
      at_here = sym (area_there areas here area is_here)

      at_there : other ≡ area_at areas there
      at_there = sym (area_there areas there other is_there)

      by : (b : Bool) → P (f (area_at areas (cond b there here))) (f (area_at areas (beside_in areas (cond b there here))))
      by true =
          subst (λ (x : Area). P (f x) (f (area_at areas (beside_in areas there)))) at_there
          (subst (λ (o : Option ℕ). P (f other) (f (area_at areas (unwrap_or o there)))) (sym beside_there) (subst (λ (x : Area). P (f other) (f x)) at_here two))
      by false =
          subst (λ (x : Area). P (f x) (f (area_at areas (beside_in areas here)))) at_here
          (subst (λ (o : Option ℕ). P (f area) (f (area_at areas (unwrap_or o here)))) (sym beside_here) (subst (λ (x : Area). P (f area) (f x)) at_there one))

-- The store areas of a map.
use Rattle.std.proofs.Common.{◌≡◌, ◌≢◌, ◌⊎◌, ℕ, zero, suc, ◌+◌, ◌-◌, ◌<◌, ◌≤◌, true, false, inl, inr, List, length, Option, Some, None, refl, sym, ap, ◌∙◌, arith}
use Rattle.std.specs.Prelude.{IfSome}
use Rattle.std.specs.Option.{option_or, option_map_or}
use Rattle.std.proofs.lemmas.Bool.{false≢true}
use Rattle.std.proofs.lemmas.Option.{none-some, slice_get_cases}
use Rattle.flash_map.specs.declared.area.Area.{Area}
use Rattle.fcb_ring.proofs.PlaceLemmas.{found_some, found_none}
use Rattle.migrator.specs.Areas.{is_store, is_store_at, store_from, target}

-- an area that stores settings is in the map
pub store-within : (areas : List Area) (i : ℕ) → is_store_at areas i ≡ true → i < length areas
store-within areas i is = elim (slice_get_cases areas i).1 [
  | inl there ↦ there.1
  | inr past ↦ absurd (false≢true (sym (ap (λ (o : Option Area). option_map_or is_store o false) past.1) ∙ is))
]

pub target-store : (areas : List Area) (active index : ℕ) → target areas active ≡ Some index → (is_store_at areas index ≡ true) × (index ≢ active)
target-store areas active index is = at (store_from areas (active + 1) (length areas - (active + 1))) refl is
  where
    at : (o : Option ℕ) → store_from areas (active + 1) (length areas - (active + 1)) ≡ o → option_or o (store_from areas 0 active) ≡ Some index → (is_store_at areas index ≡ true) × (index ≢ active)
    at None none is = let f = found_some (is_store_at areas) 0 active index is in (f.passes, λ same. absurd (omega (arith, f.below)))
    at (Some x) some is =
        let f = found_some (is_store_at areas) (active + 1) (length areas - (active + 1)) index (some ∙ is) in
        (f.passes, λ same. absurd (omega (arith, f.from)))

three : (m n : ℕ) → (m < n) ⊎ ((m ≡ n) ⊎ (n + 1 ≤ m))
three zero zero = inr (inl refl)
three zero (suc n) = inl (omega arith)
three (suc m) zero = inr (inr (omega arith))
three (suc m) (suc n) = elim (three m n) [
  | inl below ↦ inl (omega arith)
  | inr rest ↦ elim rest [
    | inl same ↦ inr (inl (omega arith))
    | inr above ↦ inr (inr (omega arith))
  ]
]

pub target-none : (areas : List Area) (active : ℕ) → target areas active ≡ None → (index : ℕ) → is_store_at areas index ≡ true → index ≡ active
target-none areas active is index store = at (store_from areas (active + 1) (length areas - (active + 1))) refl is
  where
    at : (o : Option ℕ) → store_from areas (active + 1) (length areas - (active + 1)) ≡ o → option_or o (store_from areas 0 active) ≡ None → index ≡ active
    at (Some x) some is = absurd (none-some x (sym is))
    at None none is =
        let within = store-within areas index store in
        let first = found_none (is_store_at areas) 0 active is index (omega arith) in
        let second = found_none (is_store_at areas) (active + 1) (length areas - (active + 1)) none index in
        elim (three index active) [
          | inl below ↦ absurd (false≢true (sym (first (omega arith)) ∙ store))
          | inr rest ↦ elim rest [
            | inl same ↦ same
            | inr above ↦ absurd (false≢true (sym (second above (omega arith)) ∙ store))
          ]
        ]

-- as answers need them
pub if-store : (areas : List Area) (active : ℕ) (o : Option ℕ) → o ≡ target areas active → IfSome o (λ index. is_store_at areas index ≡ true)
if-store areas active None is = tt
if-store areas active (Some index) is = (target-store areas active index (sym is)).0

pub if-other : (areas : List Area) (active : ℕ) (o : Option ℕ) → o ≡ target areas active → IfSome o (λ index. index ≢ active)
if-other areas active None is = tt
if-other areas active (Some index) is = (target-store areas active index (sym is)).1

pub is-first : (areas : List Area) (active count index : ℕ) (o : Option ℕ) → count ≡ length areas → o ≡ Some index → o ≡ store_from areas (active + 1) (count - (active + 1)) → Some index ≡ target areas active
is-first areas active count index o is some found =
    ap (λ (x : Option ℕ). option_or x (store_from areas 0 active)) (sym some ∙ found ∙ ap (λ (n : ℕ). store_from areas (active + 1) (n - (active + 1))) is)

pub is-second : (areas : List Area) (active count : ℕ) (o second : Option ℕ) → count ≡ length areas → o ≡ None → o ≡ store_from areas (active + 1) (count - (active + 1)) → second ≡ store_from areas 0 (active - 0) → second ≡ target areas active
is-second areas active count o second is none found later =
    later ∙ ap (store_from areas 0) (omega arith)
    ∙ ap (λ (x : Option ℕ). option_or x (store_from areas 0 active)) (sym none ∙ found ∙ ap (λ (n : ℕ). store_from areas (active + 1) (n - (active + 1))) is)

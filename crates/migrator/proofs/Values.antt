-- The values of settings, and the most bytes of one.
use Rattle.std.proofs.Common.{◌≡◌, ℕ, ◌≤◌, List, [], ◌∷◌, All, map, eqb, inl, inr, cond, sym, ap, subst, arith}
use Rattle.std.specs.FinMap as maps
use Rattle.std.proofs.lemmas.List.Elements.{All-nil, All-cons, All-head, All-tail}
use Rattle.std.proofs.lemmas.Bool.{cases_Bool, cond-true, cond-false}
use Rattle.flash_map.specs.Area.{value_limit}
use Rattle.flash_map.specs.declared.area.Area.{Area}
use Rattle.flash_map.specs.declared.area.TheConstants.{VALUE_LIMIT, LONG_VALUE_LIMIT}
use Rattle.backend_api.specs.Map.{Map}
use Rattle.migrator.specs.Copying.{pair_of}
use Rattle.migrator.specs.declared.copying.Setting.{Setting}

pub limit-most : (area : Area) → value_limit area ≤ LONG_VALUE_LIMIT
limit-most area = elim (cases_Bool (eqb area.version 2)) [
  | inl two ↦ let e : value_limit area ≡ LONG_VALUE_LIMIT = cond-true (eqb area.version 2) LONG_VALUE_LIMIT VALUE_LIMIT two in omega arith
  | inr one ↦ let e : value_limit area ≡ VALUE_LIMIT = cond-false (eqb area.version 2) LONG_VALUE_LIMIT VALUE_LIMIT one in omega arith
]

-- areas of one version have one limit
pub limit-same : (area other : Area) → area.version ≡ other.version → value_limit area ≡ value_limit other
limit-same area other same = ap (λ (version : ℕ). cond (eqb version 2) LONG_VALUE_LIMIT VALUE_LIMIT) same

-- the values of a map whose pairs are in memory
values-in : (P : List ℕ → Type 0) (settings : List Setting) → All P (map (λ pair. pair.1) (map pair_of settings)) → All (λ setting. P setting.value.items) settings
values-in P [] all = All-nil (λ (setting : Setting). P setting.value.items)
values-in P (setting ∷ settings) all =
    All-cons (λ (setting : Setting). P setting.value.items) setting settings (All-head P setting.value.items (map (λ (pair : List ℕ × List ℕ). pair.1) (map pair_of settings)) all)
    (values-in P settings (All-tail P setting.value.items (map (λ (pair : List ℕ × List ℕ). pair.1) (map pair_of settings)) all))

pub values-of : (P : List ℕ → Type 0) (m : Map) (settings : List Setting) → map pair_of settings ≡ maps.entries m → All P (maps.values m) → All (λ setting. P setting.value.items) settings
values-of P m settings same all = values-in P settings (subst (λ (pairs : List (List ℕ × List ℕ)). All P (map (λ pair. pair.1) pairs)) (sym same) all)

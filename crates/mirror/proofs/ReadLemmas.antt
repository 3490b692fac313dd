-- What is known of a name and a value that a store gave.
use Rattle.std.proofs.Common.{◌≡◌, ℕ, ◌+◌, ◌<◌, ◌≤◌, ◌^◌, List, length, Option, Some, None, refl, sym, ap, subst, ◌∙◌, arith}
use Rattle.std.specs.Prelude.{All}
use Rattle.std.specs.FinMap as maps
use Rattle.flash_map.specs.Area.{value_limit}
use Rattle.flash_map.specs.declared.area.Area.{Area}
use Rattle.flash_map.specs.declared.area.TheConstants.{LONG_VALUE_LIMIT}
use Rattle.setting_name.specs.Name.{IsName}
use Rattle.backend_api.specs.Map.{Map, IsSettings, IsStored, IsValue}
use Rattle.migrator.proofs.Names.{value-of}
use Rattle.migrator.proofs.Values.{limit-most}

pub bytes-short : (area : Area) (m : Map) (name bytes : List ℕ) (o : Option (List ℕ)) → IsSettings (value_limit area) m → o ≡ maps.get m name → o ≡ Some bytes → length bytes ≤ LONG_VALUE_LIMIT
bytes-short area m name bytes o lawful is some =
    let short = (value-of (IsValue (value_limit area)) m name bytes o lawful.values is some).1 in
    let most = limit-most area in
    omega arith

pub stored-short : (limit : ℕ) (m : Map) (name value : List ℕ) → IsSettings limit m → IsStored m name value → length value ≤ limit
stored-short limit m name value lawful is = (value-of (IsValue limit) m name value (maps.get m name) lawful.values refl is).1

pub is-value : (m : Map) (name bytes : List ℕ) (o : Option (List ℕ)) (n : ℕ) → o ≡ maps.get m name → o ≡ Some bytes → n ≡ length bytes → (value : List ℕ) → IsStored m name value → n ≡ length value
is-value m name bytes o n is some count value stored = count ∙ ap length (some-same bytes value (sym some ∙ is ∙ stored))
  where
    some-same : (x y : List ℕ) → Some x ≡ Some y → x ≡ y
    some-same x y e = cc

pub no-value : (m : Map) (name : List ℕ) (o : Option (List ℕ)) (n : ℕ) → o ≡ maps.get m name → o ≡ None → (value : List ℕ) → IsStored m name value → n ≡ length value
no-value m name o n is none value stored = absurd (none-is value (sym stored ∙ sym is ∙ none))
  where
    none-is : (x : List ℕ) → Some x ≡ None → ⊥
    none-is x e = cc

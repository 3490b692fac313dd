-- Settings as a finite map from names to values.
use Rattle.std.specs.Prelude.{◌≡◌, ℕ, ◌^◌, ◌<◌, ◌≤◌, Bool, true, List, length, All, Option, Some, None, find}
use Rattle.std.specs.FinMap.{FinMap, get, keys, values, len}
use Rattle.std.specs.Ordering.{nat_cmp, is_lt}
use Rattle.std.specs.declared.cmp.Ordering.{Ordering}
use Rattle.std.specs.Cmp.Lexicographic.{slice_cmp}
use Rattle.setting_name.specs.Name.{IsName}

-- from names to values, in the byte order of the names
abbrev pub Map : Type 0
Map = FinMap (slice_cmp nat_cmp) (List ℕ)

-- at least one byte, and no more than the limit of the area
abbrev pub IsValue : ℕ → List ℕ → Type 0
IsValue limit bytes = (1 ≤ length bytes) × (length bytes ≤ limit)

-- lawful names and values throughout, and fewer pairs than 2^32
pub record IsSettings (limit : ℕ) (settings : Map) : Type 0 where
  pub names : All IsName (keys settings)
  pub values : All (IsValue limit) (values settings)
  pub few : len settings < 2 ^ 32

-- the key has exactly this value, in any order of keys
abbrev pub IsStored : {K X : Type 0} {R : K → K → Ordering} → FinMap R X → K → X → Type 0
IsStored map key value = get map key ≡ Some value

abbrev pub IsAbsent : {K X : Type 0} {R : K → K → Ordering} → FinMap R X → K → Type 0
IsAbsent map key = get map key ≡ None

-- greater than this name in byte order, if there is one
abbrev pub is_behind : Option (List ℕ) → List ℕ → Bool
is_behind None name = true
is_behind (Some after) name = is_lt (slice_cmp nat_cmp after name)

-- the least name greater than this one, or the least of all
abbrev pub next_name : Map → Option (List ℕ) → Option (List ℕ)
next_name settings after = find (is_behind after) (keys settings)

-- A tree of owned byte strings as a finite map.
use Rattle.std.specs.Prelude.{ℕ, List, map, T}
use Rattle.std.specs.FinMap.{FinMap, from_sorted, is_sorted}
use Rattle.std.specs.Ordering.{nat_cmp}
use Rattle.std.specs.Cmp.Lexicographic.{slice_cmp}
use Rattle.std.specs.BTreeMap.{BTreeMap}
use Rattle.std.specs.declared.vec.Vec.{Vec}

-- from rests to values, in the byte order of the rests
abbrev pub Held : Type 0
Held = FinMap (slice_cmp nat_cmp) (List ℕ)

module _ {A : Type 0} where
  abbrev pub texts_of : Vec ℕ A × Vec ℕ A → List ℕ × List ℕ
  texts_of pair = (pair.0.items, pair.1.items)

  abbrev pub held_of : BTreeMap (Vec ℕ A) (Vec ℕ A) → Held
  held_of tree = from_sorted (map texts_of tree.entries)

  -- its rests are in rising order
  abbrev pub IsHeld : BTreeMap (Vec ℕ A) (Vec ℕ A) → Type 0
  IsHeld tree = T (is_sorted (slice_cmp nat_cmp) (map texts_of tree.entries))

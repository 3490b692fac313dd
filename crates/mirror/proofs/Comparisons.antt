-- Comparing two maps, name by name.
use Rattle.std.proofs.Common.{◌≡◌, ℕ, ◌+◌, ◌<◌, Bool, true, false, List, Option, Some, None, is_some, refl, sym, ap, subst, ◌∙◌, inl, inr, arith}
use Rattle.std.specs.FinMap as maps
use Rattle.std.specs.Ordering.{eq_by_cmp}
use Rattle.std.proofs.lemmas.Bool.{cases_Bool, false≢true}
use Rattle.backend_api.specs.Map.{Map, IsStored, next_name}
use Rattle.backend_api.proofs.LeastLemmas.{cmp}
use Rattle.backend_api.proofs.MapLemmas.{same_settings, ties_itself, ties_same, get-insert_same, get-insert_other}
use Rattle.migrator.specs.Copying.{before}
use Rattle.migrator.proofs.Names.{before-all, before-first, insert-next, left, left-smaller}
use Rattle.mirror.specs.Mirrored.{IsWithin}
use Rattle.mirror.proofs.Walks.{IsAt, IsNext, next-one, started, stepped}

none-is : {A : Type 0} (x : A) → Some x ≡ None → ⊥
none-is x e = cc

some-same : {X : Type 0} (x y : X) → Some x ≡ Some y → x ≡ y
some-same x y e = cc

-- the names before this one have the same values in the other map
pub record IsWithinSoFar (m n : Map) (at : Option (List ℕ)) : Type 0 where
  pub i : ℕ
  pub here : IsAt m at i
  pub within : IsWithin (before m at) n

pub within-start : (m n : Map) (at : Option (List ℕ)) → at ≡ next_name m None → IsWithinSoFar m n at
within-start m n at is = record {
  i = 0;
  here = started m at is;
  within = λ name value stored. absurd (none-is value (sym stored ∙ ap (λ (x : Map). maps.get x name) (before-first m at is) ∙ maps.get-empty cmp name));
}

pub within-step : (m n : Map) (name : List ℕ) (next : Option (List ℕ)) → IsWithinSoFar m n (Some name) → ((value : List ℕ) → IsStored m name value → IsStored n name value) → next ≡ next_name m (Some name) → IsWithinSoFar m n next
within-step m n name next so_far same is =
    let one : IsNext m name so_far.i = next-one m name so_far.i so_far.here in
    record {
      i = so_far.i + 1;
      here = stepped m name next so_far.i so_far.here is;
      within = subst (λ (x : Map). IsWithin x n) (insert-next m name one.value next is one.stored) (more one.value (same one.value one.stored));
    }
  where
    more : (value : List ℕ) → IsStored n name value → IsWithin (maps.insert (before m (Some name)) name value) n
    more value has other its stored = elim (cases_Bool (eq_by_cmp cmp other name)) [
      | inl tie ↦
          let is-name = ties_same other name tie in
          let equal : value ≡ its = some-same value its (sym (get-insert_same (before m (Some name)) name value) ∙ sym (ap (maps.get (maps.insert (before m (Some name)) name value)) is-name) ∙ stored) in
          ap (maps.get n) is-name ∙ has ∙ ap (λ (v : List ℕ). Some v) equal
      | inr none ↦
          so_far.within other its
          (sym (get-insert_other (before m (Some name)) name value other (λ is-name. false≢true (sym none ∙ ap (λ text. eq_by_cmp cmp text name) is-name ∙ ties_itself name))) ∙ stored)
    ]

pub within-end : (m n : Map) → IsWithinSoFar m n None → IsWithin m n
within-end m n so_far = subst (λ (x : Map). IsWithin x n) (before-all m) so_far.within

pub within-smaller : (m n : Map) (at : Option (List ℕ)) (name : List ℕ) (next : Option (List ℕ)) → at ≡ Some name → IsWithinSoFar m n (Some name) → next ≡ next_name m (Some name) → left (maps.keys m) next < left (maps.keys m) at
within-smaller m n at name next some so_far is = left-smaller m at name next some (ap is_some (next-one m name so_far.i so_far.here).stored) is

-- maps that are within each other are one
pub one-map : (m n : Map) → IsWithin m n → IsWithin n m → n ≡ m
one-map m n there back = same_settings n m (λ name. by name (maps.get n name) refl (maps.get m name) refl)
  where
    by : (name : List ℕ) (a : Option (List ℕ)) → maps.get n name ≡ a → (b : Option (List ℕ)) → maps.get m name ≡ b → maps.get n name ≡ maps.get m name
    by name (Some v) is b other = is ∙ sym (back name v is)
    by name None is None other = is ∙ sym other
    by name None is (Some v) other = there name v other ∙ sym other

pub itself-within : (m n : Map) → n ≡ m → IsWithin m n
itself-within m n same name value stored = ap (λ (x : Map). maps.get x name) same ∙ stored

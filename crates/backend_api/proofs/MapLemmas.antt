-- Settings as maps from names to values.
use Rattle.std.proofs.Common.{◌≡◌, ℕ, true, false, List, Some, None, inl, inr, sym, ap, ◌∙◌}
use Rattle.std.specs.FinMap.{get, insert, remove, get-insert, get-remove, same_map, nat_cmp-IsAntisymmetric, slice_cmp-IsAntisymmetric}
use Rattle.std.specs.Ordering.{nat_cmp, eq_by_cmp}
use Rattle.std.specs.Cmp.{eq_by_cmp_equiv}
use Rattle.std.specs.Cmp.Lexicographic.{slice_cmp, nat_list_cmp_total}
use Rattle.std.proofs.lemmas.Bool.{cases_Bool, cond-true, cond-false}
use Rattle.std.proofs.lemmas.Slice.Eq.{bytes_eq-Decides}
use Rattle.std.proofs.lemmas.Map.Text.{is_eq-slice_cmp}
use Rattle.backend_api.specs.Map.{Map, IsStored, IsAbsent}

-- Two maps are the same where every name has the same value in both.
pub same_settings : (m n : Map) → ((name : List ℕ) → get m name ≡ get n name) → m ≡ n
same_settings m n same = same_map nat_list_cmp_total (slice_cmp-IsAntisymmetric nat_cmp-IsAntisymmetric) m n same

-- names that are the same bytes tie, and no others
pub ties_itself : (name : List ℕ) → eq_by_cmp (slice_cmp nat_cmp) name name ≡ true
ties_itself name = (eq_by_cmp_equiv nat_list_cmp_total).refl name

pub ties_same : (name other : List ℕ) → eq_by_cmp (slice_cmp nat_cmp) name other ≡ true → name ≡ other
ties_same name other tie = (bytes_eq-Decides name other).0 (sym (is_eq-slice_cmp name other) ∙ tie)

pub ties_other : (name other : List ℕ) → ¬ (name ≡ other) → eq_by_cmp (slice_cmp nat_cmp) name other ≡ false
ties_other name other apart = elim (cases_Bool (eq_by_cmp (slice_cmp nat_cmp) name other)) [
  | inl tie ↦ absurd (apart (ties_same name other tie))
  | inr none ↦ none
]

-- what a name has once it was given a value
pub get-insert_same : (settings : Map) (name value : List ℕ) → get (insert settings name value) name ≡ Some value
get-insert_same settings name value = get-insert nat_list_cmp_total settings name value name ∙ cond-true _ (Some value) (get settings name) (ties_itself name)

pub get-insert_other : (settings : Map) (name value other : List ℕ) → ¬ (other ≡ name) → get (insert settings name value) other ≡ get settings other
get-insert_other settings name value other apart = get-insert nat_list_cmp_total settings name value other ∙ cond-false _ (Some value) (get settings other) (ties_other other name apart)

-- and once its value was taken away
pub get-remove_same : (settings : Map) (name : List ℕ) → get (remove settings name) name ≡ None
get-remove_same settings name = get-remove nat_list_cmp_total settings name name ∙ cond-true _ None (get settings name) (ties_itself name)

pub get-remove_other : (settings : Map) (name other : List ℕ) → ¬ (other ≡ name) → get (remove settings name) other ≡ get settings other
get-remove_other settings name other apart = get-remove nat_list_cmp_total settings name other ∙ cond-false _ None (get settings other) (ties_other other name apart)

-- a value that the name has already
pub insert-stored : (settings : Map) (name value : List ℕ) → IsStored settings name value → insert settings name value ≡ settings
insert-stored settings name value is = same_settings (insert settings name value) settings (λ other. elim (cases_Bool (eq_by_cmp (slice_cmp nat_cmp) other name)) [
  | inl tie ↦ get-insert nat_list_cmp_total settings name value other ∙ cond-true _ (Some value) (get settings other) tie ∙ sym (ap (get settings) (ties_same other name tie) ∙ is)
  | inr none ↦ get-insert nat_list_cmp_total settings name value other ∙ cond-false _ (Some value) (get settings other) none
])

-- a name that has no value
pub remove-absent : (settings : Map) (name : List ℕ) → IsAbsent settings name → remove settings name ≡ settings
remove-absent settings name is = same_settings (remove settings name) settings (λ other. elim (cases_Bool (eq_by_cmp (slice_cmp nat_cmp) other name)) [
  | inl tie ↦ get-remove nat_list_cmp_total settings name other ∙ cond-true _ None (get settings other) tie ∙ sym (ap (get settings) (ties_same other name tie) ∙ is)
  | inr none ↦ get-remove nat_list_cmp_total settings name other ∙ cond-false _ None (get settings other) none
])

-- the last of two values that a name is given
pub insert-twice : (settings : Map) (name first second : List ℕ) → insert (insert settings name first) name second ≡ insert settings name second
insert-twice settings name first second = same_settings (insert (insert settings name first) name second) (insert settings name second) (λ other. elim (cases_Bool (eq_by_cmp (slice_cmp nat_cmp) other name)) [
  | inl tie ↦
      get-insert nat_list_cmp_total (insert settings name first) name second other ∙ cond-true _ (Some second) (get (insert settings name first) other) tie
      ∙ sym (get-insert nat_list_cmp_total settings name second other ∙ cond-true _ (Some second) (get settings other) tie)
  | inr none ↦
      get-insert nat_list_cmp_total (insert settings name first) name second other ∙ cond-false _ (Some second) (get (insert settings name first) other) none
      ∙ get-insert nat_list_cmp_total settings name first other ∙ cond-false _ (Some first) (get settings other) none
      ∙ sym (get-insert nat_list_cmp_total settings name second other ∙ cond-false _ (Some second) (get settings other) none)
])

-- a new name that loses its value again
pub remove-insert : (settings : Map) (name value : List ℕ) → IsAbsent settings name → remove (insert settings name value) name ≡ settings
remove-insert settings name value is = same_settings (remove (insert settings name value) name) settings (λ other. elim (cases_Bool (eq_by_cmp (slice_cmp nat_cmp) other name)) [
  | inl tie ↦ get-remove nat_list_cmp_total (insert settings name value) name other ∙ cond-true _ None (get (insert settings name value) other) tie ∙ sym (ap (get settings) (ties_same other name tie) ∙ is)
  | inr none ↦
      get-remove nat_list_cmp_total (insert settings name value) name other ∙ cond-false _ None (get (insert settings name value) other) none
      ∙ get-insert nat_list_cmp_total settings name value other ∙ cond-false _ (Some value) (get settings other) none
])

-- Records that are read one after the other, whatever the step is that reads one.
use Rattle.std.proofs.Common.{◌≡◌, ℕ, zero, suc, ◌+◌, ◌<◌, ◌≤◌, Bool, true, false, cond, map, List, [], ◌∷◌, ◌++◌, Option, Some, None, ◌⊎◌, inl, inr, refl, sym, ap, ◌∙◌, arith}
use Rattle.std.specs.List.{filter, last_or}
use Rattle.std.specs.Option.{option_map_or}
use Rattle.fcb_ring.specs.declared.record.Record.{Record}
use Rattle.fcb_ring.specs.Records.{walk, last_end}

-- the end of a last record does not depend on the place
last_end-place : (place other : ℕ) (r : Record) (rs : List Record) → option_map_or (λ (q : Record). q.end) (last_or (Some r) rs) place ≡ option_map_or (λ (q : Record). q.end) (last_or (Some r) rs) other
last_end-place place other r [] = refl
last_end-place place other r (q ∷ rs) = last_end-place place other q rs

-- with one record more in front
pub last_end-more : (place : ℕ) (r : Record) (rs : List Record) → last_end place (r ∷ rs) ≡ last_end r.end rs
last_end-more place r [] = refl
last_end-more place r (q ∷ rs) = last_end-place place r.end q rs

-- where a walk from a place ends
abbrev pub walk_end : (ℕ → Option Record) → ℕ → ℕ → ℕ
walk_end step n at = last_end at (walk step n at)

pub option_cases : {Y : Type 0} (o : Option Y) → (o ≡ None) ⊎ ((y : Y) × (o ≡ Some y))
option_cases None = inl refl
option_cases (Some y) = inr (y, refl)

-- each record ends behind its start and within the size
abbrev pub Advances : (ℕ → Option Record) → ℕ → Type 0
Advances step size = (at : ℕ) (r : Record) → step at ≡ Some r → (at < r.end) × (r.end ≤ size)

pub walk-none : (step : ℕ → Option Record) (n at : ℕ) → step at ≡ None → walk step n at ≡ []
walk-none step zero at none = refl
walk-none step (suc n) at none = ap (λ o. option_map_or (λ r. r ∷ walk step n r.end) o []) none

pub walk_end-none : (step : ℕ → Option Record) (n at : ℕ) → step at ≡ None → walk_end step n at ≡ at
walk_end-none step n at none = ap (last_end at) (walk-none step n at none)

pub walk-some : (step : ℕ → Option Record) (n at : ℕ) (r : Record) → step at ≡ Some r → walk step (suc n) at ≡ r ∷ walk step n r.end
walk-some step n at r some = ap (λ o. option_map_or (λ q. q ∷ walk step n q.end) o []) some

pub walk_end-some : (step : ℕ → Option Record) (n at : ℕ) (r : Record) → step at ≡ Some r → walk_end step (suc n) at ≡ walk_end step n r.end
walk_end-some step n at r some = ap (last_end at) (walk-some step n at r some) ∙ last_end-more at r (walk step n r.end)

-- at the end of the size there is none
pub none_at_end : (step : ℕ → Option Record) (size at : ℕ) → Advances step size → size ≤ at → step at ≡ None
none_at_end step size at advances past = elim (option_cases (step at)) [
  | inl none ↦ none
  | inr (r, some) ↦ let h = advances at r some in absurd (omega arith)
]

-- once the bound suffices, it does not matter
pub walk-bound : (step : ℕ → Option Record) (size n m at : ℕ) → Advances step size → size ≤ at + n → size ≤ at + m → walk step n at ≡ walk step m at
walk-bound step size zero m at advances first second = sym (walk-none step m at (none_at_end step size at advances (omega arith)))
walk-bound step size (suc n) zero at advances first second = walk-none step (suc n) at (none_at_end step size at advances (omega arith))
walk-bound step size (suc n) (suc m) at advances first second = elim (option_cases (step at)) [
  | inl none ↦ walk-none step (suc n) at none ∙ sym (walk-none step (suc m) at none)
  | inr (r, some) ↦
      let h = advances at r some in
      walk-some step n at r some ∙ ap (λ rs. r ∷ rs) (walk-bound step size n m r.end advances (omega arith) (omega arith)) ∙ sym (walk-some step m at r some)
]

pub walk_end-bound : (step : ℕ → Option Record) (size n m at : ℕ) → Advances step size → size ≤ at + n → size ≤ at + m → walk_end step n at ≡ walk_end step m at
walk_end-bound step size zero m at advances first second = sym (walk_end-none step m at (none_at_end step size at advances (omega arith)))
walk_end-bound step size (suc n) zero at advances first second = walk_end-none step (suc n) at (none_at_end step size at advances (omega arith))
walk_end-bound step size (suc n) (suc m) at advances first second = elim (option_cases (step at)) [
  | inl none ↦ walk_end-none step (suc n) at none ∙ sym (walk_end-none step (suc m) at none)
  | inr (r, some) ↦
      let h = advances at r some in
      walk_end-some step n at r some ∙ walk_end-bound step size n m r.end advances (omega arith) (omega arith) ∙ sym (walk_end-some step m at r some)
]

-- one record, and those behind it
pub walk-next : (step : ℕ → Option Record) (size at : ℕ) (r : Record) → Advances step size → step at ≡ Some r → walk step size at ≡ r ∷ walk step size r.end
walk-next step size at r advances some =
    let h = advances at r some in
    walk-bound step size size (suc size) at advances (omega arith) (omega arith) ∙ walk-some step size at r some

pub walk_end-next : (step : ℕ → Option Record) (size at : ℕ) (r : Record) → Advances step size → step at ≡ Some r → walk_end step size at ≡ walk_end step size r.end
walk_end-next step size at r advances some =
    let h = advances at r some in
    walk_end-bound step size size (suc size) at advances (omega arith) (omega arith) ∙ walk_end-some step size at r some

-- the walk's end is within the size, and no record stands there
pub walk_end-within : (step : ℕ → Option Record) (size n at : ℕ) → Advances step size → at ≤ size → (at ≤ walk_end step n at) × (walk_end step n at ≤ size)
walk_end-within step size zero at advances le = (omega arith, le)
walk_end-within step size (suc n) at advances le = elim (option_cases (step at)) [
  | inl none ↦ let e = walk_end-none step (suc n) at none in (omega arith, omega arith)
  | inr (r, some) ↦
      let h = advances at r some in
      let rest = walk_end-within step size n r.end advances h.1 in
      let e = walk_end-some step n at r some in (omega arith, omega arith)
]

pub none_behind : (step : ℕ → Option Record) (size n at : ℕ) → Advances step size → size ≤ at + n → step (walk_end step n at) ≡ None
none_behind step size zero at advances bound = none_at_end step size at advances (omega arith)
none_behind step size (suc n) at advances bound = elim (option_cases (step at)) [
  | inl none ↦ ap step (walk_end-none step (suc n) at none) ∙ none
  | inr (r, some) ↦
      let h = advances at r some in
      ap step (walk_end-some step n at r some) ∙ none_behind step size n r.end advances (omega arith)
]

-- what holds at the start and behind each record holds at the end
pub walk_end-keeps : (step : ℕ → Option Record) (P : ℕ → Type 0) (n at : ℕ) → ((k : ℕ) (r : Record) → step k ≡ Some r → P k → P r.end) → P at → P (walk_end step n at)
walk_end-keeps step P zero at keeps p = p
walk_end-keeps step P (suc n) at keeps p = elim (option_cases (step at)) [
  | inl none ↦ rw (walk_end-none step (suc n) at none) p
  | inr (r, some) ↦ rw (walk_end-some step n at r some) (walk_end-keeps step P n r.end keeps (keeps at r some p))
]

-- ---- what was read stays, whatever is put behind it

abbrev pub Same : (ℕ → Option Record) → (ℕ → Option Record) → ℕ → Type 0
Same step later e = (k : ℕ) (r : Record) → step k ≡ Some r → r.end ≤ e → later k ≡ Some r

pub walk-more : (step later : ℕ → Option Record) (size e : ℕ) → Advances step size → Advances later size → Same step later e → (n at : ℕ) → at ≤ size → walk_end step n at ≤ e
    → walk later size at ≡ walk step n at ++ walk later size (walk_end step n at)
walk-more step later size e first second same zero at inside le = refl
walk-more step later size e first second same (suc n) at inside le = elim (option_cases (step at)) [
  | inl none ↦
      ap (walk later size) (sym (walk_end-none step (suc n) at none)) ∙ ap (λ rs. rs ++ walk later size (walk_end step (suc n) at)) (sym (walk-none step (suc n) at none))
  | inr (r, some) ↦
      let h = first at r some in
      let end = walk_end-some step n at r some in
      let rest = walk_end-within step size n r.end first h.1 in
      walk-next later size at r second (same at r some (omega arith))
      ∙ ap (λ rs. r ∷ rs) (walk-more step later size e first second same n r.end h.1 (omega arith))
      ∙ ap (λ (k : ℕ). r ∷ (walk step n r.end ++ walk later size k)) (sym end)
      ∙ ap (λ rs. rs ++ walk later size (walk_end step (suc n) at)) (sym (walk-some step n at r some))
]

pub walk_end-more : (step later : ℕ → Option Record) (size e : ℕ) → Advances step size → Advances later size → Same step later e → (n at : ℕ) → at ≤ size → walk_end step n at ≤ e
    → walk_end later size at ≡ walk_end later size (walk_end step n at)
walk_end-more step later size e first second same zero at inside le = refl
walk_end-more step later size e first second same (suc n) at inside le = elim (option_cases (step at)) [
  | inl none ↦ ap (walk_end later size) (sym (walk_end-none step (suc n) at none))
  | inr (r, some) ↦
      let h = first at r some in
      let end = walk_end-some step n at r some in
      let rest = walk_end-within step size n r.end first h.1 in
      walk_end-next later size at r second (same at r some (omega arith))
      ∙ walk_end-more step later size e first second same n r.end h.1 (omega arith)
      ∙ ap (walk_end later size) (sym end)
]

-- what is said of each record that lies before the end
pub walk-agree : {X : Type 0} (f g : Record → X) (p : Record → Bool) (step : ℕ → Option Record) (size e : ℕ) → Advances step size → ((k : ℕ) (r : Record) → step k ≡ Some r → r.end ≤ e → f r ≡ g r)
    → (n at : ℕ) → walk_end step n at ≤ e → map f (filter p (walk step n at)) ≡ map g (filter p (walk step n at))
walk-agree f g p step size e first same zero at le = refl
walk-agree f g p step size e first same (suc n) at le = elim (option_cases (step at)) [
  | inl none ↦ ap (λ rs. map f (filter p rs)) (walk-none step (suc n) at none) ∙ sym (ap (λ rs. map g (filter p rs)) (walk-none step (suc n) at none))
  | inr (r, some) ↦
      let h = first at r some in
      let end = walk_end-some step n at r some in
      let rest = walk_end-within step size n r.end first h.1 in
      let later = walk-agree f g p step size e first same n r.end (omega arith) in
      let list = walk-some step n at r some in
      ap (λ rs. map f (filter p rs)) list
      ∙ both (p r) r (filter p (walk step n r.end)) (same at r some (omega arith)) later
      ∙ sym (ap (λ rs. map g (filter p rs)) list)
]
  where
    both : (t : Bool) (r : Record) (rs : List Record) → f r ≡ g r → map f rs ≡ map g rs → map f (cond t (r ∷ rs) rs) ≡ map g (cond t (r ∷ rs) rs)
    both true r rs here rest = ap (λ x. x ∷ map f rs) here ∙ ap (λ xs. g r ∷ xs) rest
    both false r rs here rest = rest

-- the same of all records
pub walk-agree_all : {X : Type 0} (f g : Record → X) (step : ℕ → Option Record) (size e : ℕ) → Advances step size → ((k : ℕ) (r : Record) → step k ≡ Some r → r.end ≤ e → f r ≡ g r)
    → (n at : ℕ) → walk_end step n at ≤ e → map f (walk step n at) ≡ map g (walk step n at)
walk-agree_all f g step size e first same n at le =
    ap (map f) (sym (passed (walk step n at))) ∙ walk-agree f g (λ r. true) step size e first same n at le ∙ ap (map g) (passed (walk step n at))
  where
    passed : (rs : List Record) → filter (λ r. true) rs ≡ rs
    passed [] = refl
    passed (r ∷ rs) = ap (λ l. r ∷ l) (passed rs)

-- The last entry of an id, and of all ids of which a function gives the same.
use Rattle.std.proofs.Common.{◌≡◌, ℕ, ◌+◌, ◌-◌, Bool, true, false, cond, eqb, List, [], ◌∷◌, ◌++◌, length, Option, Some, None, refl, sym, ap, subst, ◌∙◌, arith}
use Rattle.std.specs.Prelude.{fold}
use Rattle.std.specs.List.{flat_map, range_with_len}
use Rattle.std.proofs.lemmas.Bool.{eqb-true, eq-eqb, false≢true}
use Rattle.std.proofs.lemmas.List.Concat.{flat_map-append}
use Rattle.item_laws.specs.Area.{round, open_sector}
use Rattle.item_laws.specs.Live.{all_placed, counted_in}
use Rattle.item_laws.proofs.LastLemmas.{among}
use Rattle.item_store.specs.declared.entry.Placed.{Placed}
use Rattle.item_store.specs.SectorFormat.{SectorFormat, slots}

-- The sectors behind the open one, and then those up to it, are the list.
pub whole_list : (k : SectorFormat) (P : List Placed → Type 0) (sectors : List (List ℕ)) (current count : ℕ) → count ≡ length sectors → current ≡ open_sector k.reading sectors
    → P (among (slots k) sectors current (current + 1) (count - (current + 1)) ++ among (slots k) sectors current 0 (current + 1 - 0)) → P (all_placed (slots k) sectors)
whole_list k P sectors current count long is knows =
    let width : current + 1 - 0 ≡ current + 1 = omega arith in
    subst P
    (ap (λ (n : ℕ). among (slots k) sectors current (current + 1) (count - (current + 1)) ++ among (slots k) sectors current 0 n) width
    ∙ ap (λ (n : ℕ). among (slots k) sectors current (current + 1) (n - (current + 1)) ++ among (slots k) sectors current 0 (current + 1)) long
    ∙ sym (ap (λ (j : ℕ). flat_map (counted_in (slots k) sectors j) (round (length sectors) j)) (sym is)
    ∙ flat_map-append (counted_in (slots k) sectors current) (range_with_len (current + 1) (length sectors - (current + 1))) (range_with_len 0 (current + 1))))
    knows

-- ---- the last of a key, and the last of an id

-- What is the last of a key is the last of its id, if it is the last of the key of that id; where a key has none, no id has.
abbrev pub Decides : ℕ → Option Placed → Option Placed → Type 0
Decides id None last = last ≡ None
Decides id (Some p) last = p.id ≡ id → last ≡ Some p

pub decides_from : (key : ℕ → ℕ) (id : ℕ) (placed : List Placed) (of_key of_id : Option Placed) → Decides id of_key of_id
    → Decides id (fold (λ last p. cond (eqb (key p.id) (key id)) (Some p) last) of_key placed) (fold (λ last p. cond (eqb p.id id) (Some p) last) of_id placed)
decides_from key id [] of_key of_id so_far = so_far
decides_from key id (p ∷ rest) of_key of_id so_far =
    decides_from key id rest (cond (eqb (key p.id) (key id)) (Some p) of_key) (cond (eqb p.id id) (Some p) of_id)
    (step (eqb (key p.id) (key id)) (eqb p.id id) refl refl)
  where
    step : (key_here here : Bool) → eqb (key p.id) (key id) ≡ key_here → eqb p.id id ≡ here → Decides id (cond key_here (Some p) of_key) (cond here (Some p) of_id)
    step true true keyed is = λ same. refl
    step true false keyed is = λ same. absurd (false≢true (sym is ∙ eq-eqb p.id id same))
    step false true keyed is = absurd (false≢true (sym keyed ∙ eq-eqb (key p.id) (key id) (ap key (eqb-true p.id id is))))
    step false false keyed is = so_far

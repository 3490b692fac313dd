-- An area in one of the forms: its open sector, and that nothing is damaged.
use Rattle.std.proofs.Common.{◌≡◌, ℕ, ◌+◌, ◌<◌, ◌≤◌, Bool, true, false, not, ◌&&◌, ◌||◌, eqb, ltb, List, [], ◌∷◌, length, Option, None, refl, sym, ap, ◌∙◌, inl, inr, arith}
use Rattle.std.specs.Prelude.{unwrap_or}
use Rattle.std.specs.Option.{option_map, option_or}
use Rattle.std.specs.List.{find, list_all, slice_get}
use Rattle.std.proofs.lemmas.Bool.{false≢true, cases_Bool, cases_lt, cases_eq, cond-false, eq-eqb, lt-ltb, le-ltb, ltb-true, ltb-false, not_from_true, not_from_false}
use Rattle.std.proofs.lemmas.List.Folds.{list_all_at}
use Rattle.std.proofs.lemmas.List.FromFn.{length-range_with_len, get_or-range_with_len}
use Rattle.item_laws.specs.Area.{next, previous, places, is_closed_at, is_blank_at, follows_closed, openings, open_sector, counts_at, looked_at, first_of_kind, first_damage}
use Rattle.flash_map.specs.Area.{sector_at}
use Rattle.flash_map.specs.declared.faults.Why.{Why}
use Rattle.flash_map.specs.declared.faults.Why.TheVariants.{TwoOpen, Dirty, NoFence, Overfull}
use Rattle.item_laws.specs.Forms.{distance, IsRing}
use Rattle.item_laws.proofs.Places.{after, before, after-within, before-within, distance-within, distance-same, distance-before, distance-before_open, distance-after, All-range, filter_only, filter_none, find_none, find_first}
use Rattle.item_laws.specs.Reading.{Reading, is_sound}

abbrev not_blank_at : Reading → List (List ℕ) → ℕ → Bool
not_blank_at reading sectors k = not (is_blank_at reading sectors k)

not_follows : (a b : Bool) → (b ≡ true → a ≡ true) → (not a && b) ≡ false
not_follows true b h = refl
not_follows false true h = absurd (false≢true (h refl))
not_follows false false h = refl

-- the open sector is the only one that follows a closed one
openings-one : (reading : Reading) (sectors : List (List ℕ)) (place blanks : ℕ) → IsRing reading sectors place blanks → blanks + 1 < length sectors → openings reading sectors ≡ place ∷ []
openings-one reading sectors place blanks ring more =
    let count = length sectors in
    let within = ring.within in
    let here : is_closed_at reading sectors place ≡ false = ring.closed place within ∙ ap (ltb blanks) (distance-same count place) ∙ le-ltb blanks 0 (omega arith) in
    let far = distance-before_open count place within in
    let from : is_closed_at reading sectors (previous sectors place) ≡ true = ring.closed (before count place) (before-within count place within) ∙ lt-ltb blanks (distance count place (before count place)) (omega arith) in
    filter_only (follows_closed reading sectors) place (length sectors) within
    (ap (λ (t : Bool). not t && is_closed_at reading sectors (previous sectors place)) here ∙ from)
    (λ k lt apart.
    not_follows (is_closed_at reading sectors k) (is_closed_at reading sectors (previous sectors k))
    (λ (e : is_closed_at reading sectors (previous sectors k) ≡ true).
    let nearer = distance-before count place k within lt apart in
    let below : blanks < distance count place (before count k) = ltb-true blanks (distance count place (before count k)) (sym (ring.closed (before count k) (before-within count k lt)) ∙ e) in
    ring.closed k lt ∙ lt-ltb blanks (distance count place k) (omega arith)))

-- where no sector is closed, none does
openings-none : (reading : Reading) (sectors : List (List ℕ)) (place blanks : ℕ) → IsRing reading sectors place blanks → blanks + 1 ≡ length sectors → openings reading sectors ≡ []
openings-none reading sectors place blanks ring all =
    let count = length sectors in
    filter_none (follows_closed reading sectors) (places sectors)
    (All-range (λ k. follows_closed reading sectors k ≡ false) 0 (length sectors)
    (λ k low high.
    let lt : k < length sectors = omega arith in
    let near = distance-within count place (before count k) ring.within (before-within count k lt) in
    not_follows (is_closed_at reading sectors k) (is_closed_at reading sectors (previous sectors k))
    (λ (e : is_closed_at reading sectors (previous sectors k) ≡ true).
    absurd (false≢true (sym (ring.closed (before count k) (before-within count k lt) ∙ le-ltb blanks (distance count place (before count k)) (omega arith)) ∙ e)))))

first_not_blank : (reading : Reading) (sectors : List (List ℕ)) (place blanks : ℕ) → IsRing reading sectors place blanks → blanks + 1 ≡ length sectors → unwrap_or (find (not_blank_at reading sectors) (places sectors)) 0 ≡ place
first_not_blank reading sectors place blanks ring all =
    let count = length sectors in
    let others = λ (k : ℕ) (lt : k < length sectors) (apart : k ≡ place → ⊥).
    let near = distance-within count place k ring.within lt in
    let le : distance (length sectors) place k ≤ blanks = omega arith in
    not_from_true (is_blank_at reading sectors k) (ring.blank k lt apart le) in
    let used = λ (full : is_blank_at reading sectors place ≡ false).
    ap (λ (o : Option ℕ). unwrap_or o 0) (find_first (not_blank_at reading sectors) place (length sectors) ring.within (not_from_false (is_blank_at reading sectors place) full)
    (λ k below. others k (let w = ring.within in omega arith) (λ (e : k ≡ place). omega arith))) in
    elim (cases_Bool (is_blank_at reading sectors place)) [
      | inr full ↦ used full
      | inl empty ↦
          elim (ring.started all) [
            | inl full ↦ used full
            | inr first ↦
                let none : find (not_blank_at reading sectors) (places sectors) ≡ None =
                find_none (not_blank_at reading sectors) (places sectors) (All-range (λ k. not_blank_at reading sectors k ≡ false) 0 (length sectors)
                (λ k low high.
                elim (cases_eq k place) [
                  | inl e ↦ not_from_true (is_blank_at reading sectors k) (ap (is_blank_at reading sectors) e ∙ empty)
                  | inr apart ↦ others k (omega arith) apart
                ])) in
                ap (λ (o : Option ℕ). unwrap_or o 0) none ∙ sym first
          ]
    ]

pub open_sector-is : (reading : Reading) (sectors : List (List ℕ)) (place blanks : ℕ) → IsRing reading sectors place blanks → open_sector reading sectors ≡ place
unfolding open_sector
open_sector-is reading sectors place blanks ring =
    let spare = ring.spare in
    elim (cases_lt (blanks + 1) (length sectors)) [
      | inl more ↦ ap (λ xs. unwrap_or (slice_get xs 0) (unwrap_or (find (not_blank_at reading sectors) (places sectors)) 0)) (openings-one reading sectors place blanks ring more)
      | inr le ↦
          let all : blanks + 1 ≡ length sectors = omega arith in
          ap (λ xs. unwrap_or (slice_get xs 0) (unwrap_or (find (not_blank_at reading sectors) (places sectors)) 0)) (openings-none reading sectors place blanks ring all) ∙ first_not_blank reading sectors place blanks ring all
    ]

no_second : (reading : Reading) (sectors : List (List ℕ)) (place blanks : ℕ) → IsRing reading sectors place blanks → slice_get (openings reading sectors) 1 ≡ None
no_second reading sectors place blanks ring =
    let spare = ring.spare in
    elim (cases_lt (blanks + 1) (length sectors)) [
      | inl more ↦ ap (λ xs. slice_get xs 1) (openings-one reading sectors place blanks ring more)
      | inr le ↦ let all : blanks + 1 ≡ length sectors = omega arith in ap (λ xs. slice_get xs 1) (openings-none reading sectors place blanks ring all)
    ]

pub open-not_closed : (reading : Reading) (sectors : List (List ℕ)) (place blanks : ℕ) → IsRing reading sectors place blanks → is_closed_at reading sectors place ≡ false
open-not_closed reading sectors place blanks ring = ring.closed place ring.within ∙ ap (ltb blanks) (distance-same (length sectors) place) ∙ le-ltb blanks 0 (omega arith)

pub next-closed : (reading : Reading) (sectors : List (List ℕ)) (place blanks : ℕ) → IsRing reading sectors place blanks → is_closed_at reading sectors (next sectors place) ≡ ltb blanks 1
next-closed reading sectors place blanks ring = ring.closed (after (length sectors) place) (after-within (length sectors) place ring.within) ∙ ap (ltb blanks) (distance-after (length sectors) place ring.within ring.several)

not_all_closed : (reading : Reading) (sectors : List (List ℕ)) (place blanks : ℕ) → IsRing reading sectors place blanks → list_all (is_closed_at reading sectors) (places sectors) ≡ false
not_all_closed reading sectors place blanks ring =
    let long = length-range_with_len 0 (length sectors) in
    let w = ring.within in
    list_all_at (is_closed_at reading sectors) (places sectors) place 0 (omega arith)
    (ap (is_closed_at reading sectors) (get_or-range_with_len 0 (length sectors) place 0 w ∙ omega arith) ∙ open-not_closed reading sectors place blanks ring)

no_first : (why : Why) (test : ℕ → Bool) (sectors : List (List ℕ)) → ((k : ℕ) → k < length sectors → test k ≡ false) → first_of_kind why test sectors ≡ None
no_first why test sectors each =
    ap (option_map (λ (place : ℕ). record { sector = place; why = why })) (find_none test (places sectors) (All-range (λ k. test k ≡ false) 0 (length sectors) (λ k low high. each k (omega arith))))

three : (a b c : Bool) → (a ≡ false → b ≡ false → c ≡ true) → (not a && not b && not c) ≡ false
three true b c h = refl
three false true c h = refl
three false false c h = ap not (h refl refl)

unsound : (counts blank fence full : Bool) → (counts ≡ true → (blank || (fence && not full)) ≡ true) → ((counts && not blank && not fence) ≡ false) × ((counts && not blank && full) ≡ false)
unsound false blank fence full h = (refl, refl)
unsound true true fence full h = (refl, refl)
unsound true false false full h = absurd (false≢true (h refl))
unsound true false true true h = absurd (false≢true (h refl))
unsound true false true false h = (refl, refl)

pub undamaged : (reading : Reading) (sectors : List (List ℕ)) (place blanks : ℕ) → IsRing reading sectors place blanks
    → ((k : ℕ) → k < length sectors → counts_at reading sectors place k ≡ true → is_sound reading (sector_at sectors k) ≡ true) → first_damage reading sectors ≡ None
unfolding first_damage
undamaged reading sectors place blanks ring sound =
    let at = open_sector-is reading sectors place blanks ring in
    let dirty : (k : ℕ) → k < length sectors → (not (is_closed_at reading sectors k) && not (eqb k (open_sector reading sectors)) && not (is_blank_at reading sectors k)) ≡ false =
    λ k lt. three (is_closed_at reading sectors k) (eqb k (open_sector reading sectors)) (is_blank_at reading sectors k)
    (λ free apart. ring.blank k lt (λ (e : k ≡ place). false≢true (sym apart ∙ eq-eqb k (open_sector reading sectors) (e ∙ sym at))) (ltb-false blanks (distance (length sectors) place k) (sym (ring.closed k lt) ∙ free))) in
    let sound_at : (k : ℕ) → k < length sectors → counts_at reading sectors (open_sector reading sectors) k ≡ true → is_sound reading (sector_at sectors k) ≡ true =
    λ k lt c. sound k lt (ap (λ (p : ℕ). counts_at reading sectors p k) (sym at) ∙ c) in
    let each = λ (k : ℕ) (lt : k < length sectors). unsound (counts_at reading sectors (open_sector reading sectors) k) (is_blank_at reading sectors k) (reading.has_fence (sector_at sectors k)) (reading.is_overfull (sector_at sectors k)) (sound_at k lt) in
    let fences : first_of_kind NoFence (λ k. looked_at reading sectors (open_sector reading sectors) k && not (reading.has_fence (sector_at sectors k))) sectors ≡ None = no_first NoFence _ sectors (λ k lt. (each k lt).0) in
    let costs : first_of_kind Overfull (λ k. looked_at reading sectors (open_sector reading sectors) k && reading.is_overfull (sector_at sectors k)) sectors ≡ None = no_first Overfull _ sectors (λ k lt. (each k lt).1) in
    let rows : option_or (option_map (λ (p : ℕ). record { sector = p; why = TwoOpen }) (slice_get (openings reading sectors) 1))
    (option_or (first_of_kind Dirty (λ k. not (is_closed_at reading sectors k) && not (eqb k (open_sector reading sectors)) && not (is_blank_at reading sectors k)) sectors)
    (option_or (first_of_kind NoFence (λ k. looked_at reading sectors (open_sector reading sectors) k && not (reading.has_fence (sector_at sectors k))) sectors)
    (first_of_kind Overfull (λ k. looked_at reading sectors (open_sector reading sectors) k && reading.is_overfull (sector_at sectors k)) sectors))) ≡ None =
    rw (no_second reading sectors place blanks ring, no_first Dirty _ sectors dirty, fences) costs in
    cond-false (list_all (is_closed_at reading sectors) (places sectors)) _ _ (not_all_closed reading sectors place blanks ring) ∙ rows

-- The steps of appending, closing, collecting and erasing, from form to form.
use Rattle.std.proofs.Common.{◌≡◌, ℕ, ◌+◌, ◌-◌, ◌<◌, ◌≤◌, ◌⊎◌, Bool, true, false, not, eqb, ltb, List, length, set, None, sym, ap, subst, ◌∙◌, inl, inr, arith}
use Rattle.std.proofs.lemmas.Bool.{false≢true, cases_lt, cases_eq, eq-eqb, lt-ltb, le-ltb}
use Rattle.std.proofs.lemmas.List.{length-set}
use Rattle.item_laws.specs.Area.{next, is_blank_at, open_sector, first_damage}
use Rattle.flash_map.specs.Area.{sector_at}
use Rattle.item_laws.specs.Forms.{distance, IsRing, IsForm}
use Rattle.item_laws.proofs.Places.{after-within, after-apart, after-from_distance, distance-same, distance-positive, distance-after, distance-next, distance-old}
use Rattle.item_laws.proofs.Rings.{open_sector-is, undamaged}
use Rattle.item_laws.proofs.Lists.{counts-collecting, counts-collected, there, elsewhere}
use Rattle.item_laws.specs.Reading.{Reading, IsReading}

-- ---- each form reads as its list

here_is : (k place : ℕ) → k ≡ place → eqb k place ≡ true
here_is k place e = eq-eqb k place e

pub reads : (reading : Reading) (sectors : List (List ℕ)) (place : ℕ) → IsForm reading sectors place → (open_sector reading sectors ≡ place) × (first_damage reading sectors ≡ None)
reads reading sectors place (inl rest_form) =
    (open_sector-is reading sectors place rest_form.blanks rest_form.ring, undamaged reading sectors place rest_form.blanks rest_form.ring (λ k lt counts. rest_form.sound k lt))
reads reading sectors place (inr (inl form)) = (
  open_sector-is reading sectors place 0 form.ring,
  undamaged reading sectors place 0 form.ring
      (λ k lt counts. form.sound k lt (λ (e : k ≡ place). false≢true (sym (counts-collecting reading sectors place k form.ring form.not_done ∙ ap (λ (t : Bool). not t) (here_is k place e)) ∙ counts))),
)
reads reading sectors place (inr (inr form)) = (
  open_sector-is reading sectors place 0 form.ring,
  undamaged reading sectors place 0 form.ring
      (λ k lt counts. form.sound k lt (λ (e : k ≡ next sectors place). false≢true (sym (counts-collected reading sectors place k form.ring form.done ∙ ap (λ (t : Bool). not t) (here_is k (next sectors place) e)) ∙ counts))),
)

-- ---- the ring

pub ring-open : (reading : Reading) (sectors : List (List ℕ)) (place blanks : ℕ) (new : List ℕ) → IsRing reading sectors place blanks → reading.is_closed new ≡ false → (blanks + 1 ≡ length sectors → (reading.is_blank new ≡ false) ⊎ (place ≡ 0))
    → IsRing reading (set sectors place new) place blanks
ring-open reading sectors place blanks new ring free used =
    let after_set = set sectors place new in
    let long : length (set sectors place new) ≡ length sectors = length-set sectors place new in
    let w = ring.within in
    record {
      several = subst (λ (n : ℕ). 2 ≤ n) (sym long) ring.several;
      within = subst (λ (n : ℕ). place < n) (sym long) ring.within;
      spare = subst (λ (n : ℕ). blanks < n) (sym long) ring.spare;
      closed = λ k lt.
          elim (cases_eq k place) [
            | inl e ↦
                ap (reading.is_closed) (ap (sector_at (set sectors place new)) e ∙ there sectors place new w) ∙ free
                ∙ sym (ap (ltb blanks) (ap (distance (length (set sectors place new)) place) e ∙ distance-same (length (set sectors place new)) place) ∙ le-ltb blanks 0 (omega arith))
            | inr apart ↦ ap (reading.is_closed) (elsewhere sectors place new k apart) ∙ ring.closed k (subst (λ (n : ℕ). k < n) long lt) ∙ ap (λ (n : ℕ). ltb blanks (distance n place k)) (sym long)
          ];
      blank = λ k lt apart near. ap reading.is_blank (elsewhere sectors place new k apart) ∙ ring.blank k (subst (λ (n : ℕ). k < n) long lt) apart (subst (λ (n : ℕ). distance n place k ≤ blanks) long near);
      started = λ e.
          elim (used (e ∙ long)) [
            | inl full ↦ inl (ap reading.is_blank (there sectors place new w) ∙ full)
            | inr first ↦ inr first
          ];
    }

ltb_down : (blanks far near : ℕ) → 0 < blanks → near + 1 ≡ far → ltb blanks far ≡ ltb (blanks - 1) near
ltb_down blanks far near some e =
    elim (cases_lt blanks far) [
      | inl lt ↦ lt-ltb blanks far lt ∙ sym (lt-ltb (blanks - 1) near (omega arith))
      | inr le ↦ le-ltb blanks far le ∙ sym (le-ltb (blanks - 1) near (omega arith))
    ]

pub ring-next : (reading : Reading) (sectors : List (List ℕ)) (place blanks : ℕ) (new : List ℕ) → IsRing reading sectors place blanks → 0 < blanks → reading.is_closed new ≡ true
    → IsRing reading (set sectors place new) (next sectors place) (blanks - 1)
ring-next reading sectors place blanks new ring some shut =
    let long : length (set sectors place new) ≡ length sectors = length-set sectors place new in
    let w = ring.within in
    let spare = ring.spare in
    let far : distance (length (set sectors place new)) (next sectors place) place ≡ length sectors - 1 = ap (λ (n : ℕ). distance n (next sectors place) place) long ∙ distance-old (length sectors) place w in
    record {
      several = subst (λ (n : ℕ). 2 ≤ n) (sym long) ring.several;
      within = subst (λ (n : ℕ). next sectors place < n) (sym long) (after-within (length sectors) place w);
      spare = subst (λ (n : ℕ). blanks - 1 < n) (sym long) (omega arith);
      closed = λ k lt.
          elim (cases_eq k place) [
            | inl e ↦
                ap (reading.is_closed) (ap (sector_at (set sectors place new)) e ∙ there sectors place new w) ∙ shut
                ∙ sym (ap (ltb (blanks - 1)) (ap (distance (length (set sectors place new)) (next sectors place)) e) ∙ lt-ltb (blanks - 1) (distance (length (set sectors place new)) (next sectors place) place) (omega arith))
            | inr apart ↦
                let inside : k < length sectors = subst (λ (n : ℕ). k < n) long lt in
                ap (reading.is_closed) (elsewhere sectors place new k apart) ∙ ring.closed k inside
                ∙ ltb_down blanks (distance (length sectors) place k) (distance (length sectors) (next sectors place) k) some (distance-next (length sectors) place k w inside apart)
                ∙ ap (λ (n : ℕ). ltb (blanks - 1) (distance n (next sectors place) k)) (sym long)
          ];
      blank = λ k lt apart near.
          let inside : k < length sectors = subst (λ (n : ℕ). k < n) long lt in
          elim (cases_eq k place) [
            | inl e ↦
                let here : distance (length (set sectors place new)) (next sectors place) k ≡ length sectors - 1 = ap (distance (length (set sectors place new)) (next sectors place)) e ∙ far in
                absurd (omega arith)
            | inr other ↦
                let nearer : distance (length sectors) (next sectors place) k ≤ blanks - 1 = subst (λ (n : ℕ). distance n (next sectors place) k ≤ blanks - 1) long near in
                let step = distance-next (length sectors) place k w inside other in
                ap reading.is_blank (elsewhere sectors place new k other) ∙ ring.blank k inside other (omega arith)
          ];
      started = λ e. absurd (omega arith);
    }

ltb_skip : (n : ℕ) → (n ≡ 1 → ⊥) → ltb 0 n ≡ ltb 1 n
ltb_skip n apart =
    elim (cases_lt 0 n) [
      | inl lt ↦ lt-ltb 0 n lt ∙ sym (lt-ltb 1 n (omega (arith, apart)))
      | inr le ↦ le-ltb 0 n le ∙ sym (le-ltb 1 n (omega arith))
    ]

pub ring-erased : (reading : Reading) (laws : IsReading reading) (sectors : List (List ℕ)) (place : ℕ) (new : List ℕ) → IsRing reading sectors place 0 → reading.is_blank new ≡ true → is_blank_at reading sectors place ≡ false
    → IsRing reading (set sectors (next sectors place) new) place 1
ring-erased reading laws sectors place new ring blank full =
    let at = next sectors place in
    let long : length (set sectors (next sectors place) new) ≡ length sectors = length-set sectors (next sectors place) new in
    let w = ring.within in
    let several = ring.several in
    let at_within = after-within (length sectors) place w in
    let one : distance (length sectors) place (next sectors place) ≡ 1 = distance-after (length sectors) place w several in
    let other : place ≡ next sectors place → ⊥ = λ (e : place ≡ next sectors place). after-apart (length sectors) place w several (sym e) in
    record {
      several = subst (λ (n : ℕ). 2 ≤ n) (sym long) ring.several;
      within = subst (λ (n : ℕ). place < n) (sym long) ring.within;
      spare = subst (λ (n : ℕ). 1 < n) (sym long) ring.several;
      closed = λ k lt.
          let inside : k < length sectors = subst (λ (n : ℕ). k < n) long lt in
          elim (cases_eq k (next sectors place)) [
            | inl e ↦
                ap (reading.is_closed) (ap (sector_at (set sectors (next sectors place) new)) e ∙ there sectors (next sectors place) new at_within) ∙ laws.closed new blank
                ∙ sym (ap (ltb 1) (ap (λ (n : ℕ). distance n place k) long ∙ ap (distance (length sectors) place) e ∙ one))
            | inr apart ↦
                ap (reading.is_closed) (elsewhere sectors (next sectors place) new k apart) ∙ ring.closed k inside
                ∙ ltb_skip (distance (length sectors) place k) (λ (d : distance (length sectors) place k ≡ 1). apart (after-from_distance (length sectors) place k w inside several d))
                ∙ ap (λ (n : ℕ). ltb 1 (distance n place k)) (sym long)
          ];
      blank = λ k lt apart near.
          let inside : k < length sectors = subst (λ (n : ℕ). k < n) long lt in
          let nearer : distance (length sectors) place k ≤ 1 = subst (λ (n : ℕ). distance n place k ≤ 1) long near in
          let positive = distance-positive (length sectors) place k w inside apart in
          let e : k ≡ next sectors place = after-from_distance (length sectors) place k w inside several (omega arith) in
          ap reading.is_blank (ap (sector_at (set sectors (next sectors place) new)) e ∙ there sectors (next sectors place) new at_within) ∙ blank;
      started = λ e. inl (ap reading.is_blank (elsewhere sectors (next sectors place) new place other) ∙ full);
    }

-- The steps of appending, closing, collecting and erasing: the form that each leaves, and its list.
use Rattle.std.proofs.Common.{◌≡◌, ℕ, ◌-◌, ◌<◌, ◌≤◌, ◌⊎◌, true, false, ltb, List, [], ◌∷◌, ◌++◌, length, set, refl, sym, ap, subst, ◌∙◌, inl, inr, append_assoc, arith}
use Rattle.std.specs.List.{flat_map}
use Rattle.std.proofs.lemmas.Bool.{false≢true, cases_Bool, cases_lt, cases_eq, or_left}
use Rattle.std.proofs.lemmas.List.{append-nil, length-set}
use Rattle.std.proofs.lemmas.List.Concat.{flat_map-append, flat_map-cons}
use Rattle.item_laws.specs.Items.{last, SameItems}
use Rattle.item_laws.specs.Steps.{KeepsList, AddsPair, MarksDone, Closes}
use Rattle.item_laws.specs.Area.{next, is_blank_at, area_pairs}
use Rattle.flash_map.specs.Area.{sector_at}
use Rattle.item_laws.specs.Forms.{distance, IsRing, AtRest, Collecting, Collected, others, rest, pairs_at, to_copy}
use Rattle.item_laws.specs.Steps.{IsFurther}
use Rattle.item_laws.proofs.LivePairs.{collected}
use Rattle.item_laws.proofs.Places.{after, after-within, after-apart, distance-after, distance-positive, split}
use Rattle.item_laws.proofs.Rings.{open-not_closed}
use Rattle.item_laws.proofs.Lists.{list-at_rest, list-collecting, list-collected, others-victim, there, elsewhere, others-kept, rest-kept}
use Rattle.item_laws.proofs.RingSteps.{ring-open, ring-next, ring-erased}
use Rattle.item_laws.specs.Reading.{Reading, IsReading, is_sound}

-- a sector with gc-done is not blank
pub done-not_blank : (reading : Reading) (laws : IsReading reading) (sector : List ℕ) → reading.has_gc_done sector ≡ true → reading.is_blank sector ≡ false
done-not_blank reading laws sector done =
    elim (cases_Bool (reading.is_blank sector)) [
      | inl blank ↦ absurd (false≢true (sym (laws.gc_done sector blank) ∙ done))
      | inr used ↦ used
    ]

pub blank-sound : (reading : Reading) (sector : List ℕ) → reading.is_blank sector ≡ true → is_sound reading sector ≡ true
blank-sound reading sector h = or_left (reading.is_blank sector) _ h

-- one sector changes, and stays sound or is not looked at
sound-set : (reading : Reading) (sectors : List (List ℕ)) (at : ℕ) (new : List ℕ) (k : ℕ) → at < length sectors → is_sound reading new ≡ true → ((k ≡ at → ⊥) → is_sound reading (sector_at sectors k) ≡ true) → is_sound reading (sector_at (set sectors at new) k) ≡ true
sound-set reading sectors at new k within sound other =
    elim (cases_eq k at) [
      | inl e ↦ ap (is_sound reading) (ap (sector_at (set sectors at new)) e ∙ there sectors at new within) ∙ sound
      | inr apart ↦ ap (is_sound reading) (elsewhere sectors at new k apart) ∙ other apart
    ]

-- ---- at rest: a program call in the open sector

pub at_rest-put : (reading : Reading) (sectors : List (List ℕ)) (place : ℕ) (new : List ℕ) → AtRest reading sectors place → reading.is_closed new ≡ reading.is_closed (sector_at sectors place) → IsFurther reading (sector_at sectors place) new
    → AtRest reading (set sectors place new) place
at_rest-put reading sectors place new form same further =
    let ring = form.ring in
    let long : length (set sectors place new) ≡ length sectors = length-set sectors place new in
    record {
      blanks = form.blanks;
      ring = ring-open reading sectors place form.blanks new ring (same ∙ open-not_closed reading sectors place form.blanks ring)
          (λ e. elim (ring.started e) [ inl full ↦ inl (further.used full) | inr first ↦ inr first ]);
      some = form.some;
      sound = λ k lt. sound-set reading sectors place new k ring.within further.sound (λ apart. form.sound k (subst (λ (n : ℕ). k < n) long lt));
    }

list-put : (reading : Reading) (sectors : List (List ℕ)) (place : ℕ) (new : List ℕ) → AtRest reading sectors place → AtRest reading (set sectors place new) place
    → area_pairs reading (set sectors place new) place ≡ flat_map (pairs_at reading sectors) (others (length sectors) place) ++ reading.pairs new
list-put reading sectors place new form next_form =
    let ring = form.ring in
    let long : length (set sectors place new) ≡ length sectors = length-set sectors place new in
    list-at_rest reading (set sectors place new) place next_form.blanks next_form.ring next_form.some
    ∙ ap (λ (n : ℕ). flat_map (pairs_at reading (set sectors place new)) (others n place) ++ pairs_at reading (set sectors place new) place) long
    ∙ ap (λ ps. ps ++ pairs_at reading (set sectors place new) place) (others-kept reading sectors place new ring.within)
    ∙ ap (λ sector. flat_map (pairs_at reading sectors) (others (length sectors) place) ++ reading.pairs sector) (there sectors place new ring.within)

-- a pair more
pub put_pair : (reading : Reading) (sectors : List (List ℕ)) (place id : ℕ) (new bytes : List ℕ) → AtRest reading sectors place → AddsPair reading (sector_at sectors place) new id bytes → IsFurther reading (sector_at sectors place) new
    → AtRest reading (set sectors place new) place × (area_pairs reading (set sectors place new) place ≡ area_pairs reading sectors place ++ (id, bytes) ∷ [])
put_pair reading sectors place id new bytes form adds further =
    let next_form = at_rest-put reading sectors place new form adds.closed further in (
      next_form,
      list-put reading sectors place new form next_form ∙ ap (λ ps. flat_map (pairs_at reading sectors) (others (length sectors) place) ++ ps) adds.list
          ∙ sym (append_assoc (flat_map (pairs_at reading sectors) (others (length sectors) place)) (pairs_at reading sectors place) ((id, bytes) ∷ []))
          ∙ ap (λ ps. ps ++ (id, bytes) ∷ []) (sym (list-at_rest reading sectors place form.blanks form.ring form.some)),
    )

-- a cut one
pub put_nothing : (reading : Reading) (sectors : List (List ℕ)) (place : ℕ) (new : List ℕ) → AtRest reading sectors place → KeepsList reading (sector_at sectors place) new → IsFurther reading (sector_at sectors place) new
    → AtRest reading (set sectors place new) place × (area_pairs reading (set sectors place new) place ≡ area_pairs reading sectors place)
put_nothing reading sectors place new form keeps further =
    let next_form = at_rest-put reading sectors place new form keeps.closed further in (
      next_form,
      list-put reading sectors place new form next_form ∙ ap (λ ps. flat_map (pairs_at reading sectors) (others (length sectors) place) ++ ps) keeps.list
          ∙ sym (list-at_rest reading sectors place form.blanks form.ring form.some),
    )

-- ---- closing

pub next_blank : (reading : Reading) (sectors : List (List ℕ)) (place : ℕ) → AtRest reading sectors place → is_blank_at reading sectors (next sectors place) ≡ true
next_blank reading sectors place form =
    let ring = form.ring in
    let some = form.some in
    let one = distance-after (length sectors) place ring.within ring.several in
    ring.blank (after (length sectors) place) (after-within (length sectors) place ring.within) (after-apart (length sectors) place ring.within ring.several) (omega arith)

-- the closed sector's pairs stand last among the others of the new open one
others-next : (reading : Reading) (sectors : List (List ℕ)) (place : ℕ) (new : List ℕ) → place < length sectors → 2 ≤ length sectors
    → flat_map (pairs_at reading (set sectors place new)) (others (length (set sectors place new)) (next sectors place)) ≡ flat_map (pairs_at reading sectors) (rest (length sectors) place) ++ reading.pairs new
others-next reading sectors place new within several =
    let long : length (set sectors place new) ≡ length sectors = length-set sectors place new in
    let s = split (length sectors) place within several in
    ap (λ (n : ℕ). flat_map (pairs_at reading (set sectors place new)) (others n (next sectors place))) long
    ∙ ap (flat_map (pairs_at reading (set sectors place new))) s.rotated
    ∙ flat_map-append (pairs_at reading (set sectors place new)) (rest (length sectors) place) (place ∷ [])
    ∙ ap (λ ps. ps ++ flat_map (pairs_at reading (set sectors place new)) (place ∷ [])) (rest-kept reading sectors place place new within several (inl refl))
    ∙ ap (λ ps. flat_map (pairs_at reading sectors) (rest (length sectors) place) ++ ps) (append-nil (pairs_at reading (set sectors place new) place) ∙ ap (reading.pairs) (there sectors place new within))

pub list-before_close : (reading : Reading) (laws : IsReading reading) (sectors : List (List ℕ)) (place : ℕ) → AtRest reading sectors place → area_pairs reading sectors place ≡ flat_map (pairs_at reading sectors) (rest (length sectors) place) ++ pairs_at reading sectors place
list-before_close reading laws sectors place form =
    let ring = form.ring in
    list-at_rest reading sectors place form.blanks ring form.some
    ∙ ap (λ ps. ps ++ pairs_at reading sectors place) (others-victim reading sectors place ring.within ring.several ∙ ap (λ ps. ps ++ flat_map (pairs_at reading sectors) (rest (length sectors) place)) (laws.pairs (sector_at sectors (next sectors place)) (next_blank reading sectors place form)))

-- The close entry, from its first reading on, makes the next sector open. A collection begins where the sector after that is closed.
pub close : (reading : Reading) (laws : IsReading reading) (sectors : List (List ℕ)) (place : ℕ) (new : List ℕ) → AtRest reading sectors place → Closes reading (sector_at sectors place) new → is_sound reading new ≡ true
    → (AtRest reading (set sectors place new) (next sectors place) ⊎ Collecting reading (set sectors place new) (next sectors place)) × (area_pairs reading (set sectors place new) (next sectors place) ≡ area_pairs reading sectors place)
close reading laws sectors place new form closes sound =
    let ring = form.ring in
    let some = form.some in
    let long : length (set sectors place new) ≡ length sectors = length-set sectors place new in
    let rotated = ring-next reading sectors place form.blanks new ring form.some closes.closed in
    let other : next sectors place ≡ place → ⊥ = after-apart (length sectors) place ring.within ring.several in
    let opened : is_blank_at reading (set sectors place new) (next sectors place) ≡ true = ap reading.is_blank (elsewhere sectors place new (next sectors place) other) ∙ next_blank reading sectors place form in
    let all_sound : (k : ℕ) → k < length (set sectors place new) → is_sound reading (sector_at (set sectors place new) k) ≡ true =
    λ k lt. sound-set reading sectors place new k ring.within sound (λ apart. form.sound k (subst (λ (n : ℕ). k < n) long lt)) in
    let list : flat_map (pairs_at reading (set sectors place new)) (others (length (set sectors place new)) (next sectors place)) ≡ area_pairs reading sectors place =
    others-next reading sectors place new ring.within ring.several ∙ ap (λ ps. flat_map (pairs_at reading sectors) (rest (length sectors) place) ++ ps) closes.list ∙ sym (list-before_close reading laws sectors place form) in
    elim (cases_lt 1 form.blanks) [
      | inl more ↦ (
        inl (record { blanks = form.blanks - 1; ring = rotated; some = omega arith; sound = all_sound }),
        list-at_rest reading (set sectors place new) (next sectors place) (form.blanks - 1) rotated (omega arith)
            ∙ ap (λ ps. flat_map (pairs_at reading (set sectors place new)) (others (length (set sectors place new)) (next sectors place)) ++ ps) (laws.pairs (sector_at (set sectors place new) (next sectors place)) opened)
            ∙ append-nil (flat_map (pairs_at reading (set sectors place new)) (others (length (set sectors place new)) (next sectors place))) ∙ list,
      )
      | inr le ↦
          let none : form.blanks - 1 ≡ 0 = omega arith in
          let last_blank : IsRing reading (set sectors place new) (next sectors place) 0 = subst (λ (n : ℕ). IsRing reading (set sectors place new) (next sectors place) n) none rotated in
          let unmarked = laws.gc_done (sector_at (set sectors place new) (next sectors place)) opened in
          (inr (record { ring = last_blank; not_done = unmarked; sound = λ k lt apart. all_sound k lt }), list-collecting reading (set sectors place new) (next sectors place) last_blank unmarked ∙ list)
    ]

-- ---- collecting: whatever is put into the open sector, or that it is erased

pub put_copy : (reading : Reading) (sectors : List (List ℕ)) (place : ℕ) (new : List ℕ) → Collecting reading sectors place → reading.is_closed new ≡ false → reading.has_gc_done new ≡ false
    → Collecting reading (set sectors place new) place × (area_pairs reading (set sectors place new) place ≡ area_pairs reading sectors place)
put_copy reading sectors place new form free unmarked =
    let ring = form.ring in
    let several = ring.several in
    let long : length (set sectors place new) ≡ length sectors = length-set sectors place new in
    let next_ring = ring-open reading sectors place 0 new ring free (λ e. absurd (omega arith)) in
    let not_done : reading.has_gc_done (sector_at (set sectors place new) place) ≡ false = ap (reading.has_gc_done) (there sectors place new ring.within) ∙ unmarked in (
      record {
        ring = next_ring;
        not_done = not_done;
        sound = λ k lt apart. ap (is_sound reading) (elsewhere sectors place new k apart) ∙ form.sound k (subst (λ (n : ℕ). k < n) long lt) apart;
      },
      list-collecting reading (set sectors place new) place next_ring not_done
          ∙ ap (λ (n : ℕ). flat_map (pairs_at reading (set sectors place new)) (others n place)) long
          ∙ others-kept reading sectors place new ring.within ∙ sym (list-collecting reading sectors place ring form.not_done),
    )

-- ---- gc-done

pub put_mark : (reading : Reading) (sectors : List (List ℕ)) (place : ℕ) (new : List ℕ) → Collecting reading sectors place → pairs_at reading sectors place ≡ to_copy reading sectors place → MarksDone reading (sector_at sectors place) new → is_sound reading new ≡ true
    → Collected reading (set sectors place new) place × SameItems (area_pairs reading (set sectors place new) place) (area_pairs reading sectors place)
put_mark reading sectors place new form copied marks sound =
    let ring = form.ring in
    let several = ring.several in
    let within = ring.within in
    let long : length (set sectors place new) ≡ length sectors = length-set sectors place new in
    let same_next : next (set sectors place new) place ≡ next sectors place = ap (λ (n : ℕ). after n place) long in
    let next_ring = ring-open reading sectors place 0 new ring (marks.closed ∙ open-not_closed reading sectors place 0 ring) (λ e. absurd (omega arith)) in
    let done : reading.has_gc_done (sector_at (set sectors place new) place) ≡ true = ap (reading.has_gc_done) (there sectors place new within) ∙ marks.gc_done in
    let victim = pairs_at reading sectors (next sectors place) in
    let later = flat_map (pairs_at reading sectors) (rest (length sectors) place) in
    let now : area_pairs reading (set sectors place new) place ≡ flat_map (pairs_at reading sectors) (rest (length sectors) place) ++ to_copy reading sectors place =
    list-collected reading (set sectors place new) place next_ring done
    ∙ ap (λ (n : ℕ). flat_map (pairs_at reading (set sectors place new)) (rest n place) ++ pairs_at reading (set sectors place new) place) long
    ∙ ap (λ ps. ps ++ pairs_at reading (set sectors place new) place) (rest-kept reading sectors place place new within several (inl refl))
    ∙ ap (λ ps. flat_map (pairs_at reading sectors) (rest (length sectors) place) ++ ps) (ap (reading.pairs) (there sectors place new within) ∙ marks.list ∙ copied) in
    let old : area_pairs reading sectors place ≡ pairs_at reading sectors (next sectors place) ++ flat_map (pairs_at reading sectors) (rest (length sectors) place) = list-collecting reading sectors place ring form.not_done ∙ others-victim reading sectors place within several in (
      record {
        ring = next_ring;
        done = done;
        sound = λ k lt apart. sound-set reading sectors place new k within sound (λ other. form.sound k (subst (λ (n : ℕ). k < n) long lt) other);
      },
      λ id. ap (λ ps. last ps id) now ∙ collected (pairs_at reading sectors (next sectors place)) (flat_map (pairs_at reading sectors) (rest (length sectors) place)) id ∙ sym (ap (λ ps. last ps id) old),
    )

-- ---- the erase

-- the victim, which is ignored, changes and stays closed: its emptying was cut
pub put_victim : (reading : Reading) (sectors : List (List ℕ)) (place : ℕ) (new : List ℕ) → Collected reading sectors place → reading.is_closed new ≡ true
    → Collected reading (set sectors (next sectors place) new) place × (area_pairs reading (set sectors (next sectors place) new) place ≡ area_pairs reading sectors place)
put_victim reading sectors place new form shut =
    let ring = form.ring in
    let within = ring.within in
    let several = ring.several in
    let victim_within = after-within (length sectors) place within in
    let long : length (set sectors (next sectors place) new) ≡ length sectors = length-set sectors (next sectors place) new in
    let same_next : next (set sectors (next sectors place) new) place ≡ next sectors place = ap (λ (n : ℕ). after n place) long in
    let other : place ≡ next sectors place → ⊥ = λ (e : place ≡ next sectors place). after-apart (length sectors) place within several (sym e) in
    let one = distance-after (length sectors) place within several in
    let here : sector_at (set sectors (next sectors place) new) place ≡ sector_at sectors place = elsewhere sectors (next sectors place) new place other in
    let next_ring : IsRing reading (set sectors (next sectors place) new) place 0 = record {
      several = omega arith;
      within = omega arith;
      spare = omega arith;
      closed = λ k lt. elim (cases_eq k (next sectors place)) [
        | inl e ↦
            ap reading.is_closed (ap (sector_at (set sectors (next sectors place) new)) e ∙ there sectors (next sectors place) new victim_within) ∙ shut
            ∙ sym (ring.closed (next sectors place) victim_within ∙ ap (λ (n : ℕ). ltb 0 n) one)
            ∙ ring.closed (next sectors place) victim_within
            ∙ ap (λ (j : ℕ). ltb 0 (distance (length sectors) place j)) (sym e) ∙ ap (λ (n : ℕ). ltb 0 (distance n place k)) (sym long)
        | inr apart ↦
            ap reading.is_closed (elsewhere sectors (next sectors place) new k apart) ∙ ring.closed k (subst (λ (n : ℕ). k < n) long lt) ∙ ap (λ (n : ℕ). ltb 0 (distance n place k)) (sym long)
      ];
      blank = λ k lt apart near.
          let inside : k < length sectors = subst (λ (n : ℕ). k < n) long lt in
          let far = distance-positive (length sectors) place k within inside apart in
          let near_there : distance (length sectors) place k ≤ 0 = subst (λ (n : ℕ). distance n place k ≤ 0) long near in
          absurd (omega arith);
      started = λ e. absurd (omega arith);
    } in
    let done : reading.has_gc_done (sector_at (set sectors (next sectors place) new) place) ≡ true = ap reading.has_gc_done here ∙ form.done in (
      record {
        ring = next_ring;
        done = done;
        sound = λ k lt apart.
            let off : k ≡ next sectors place → ⊥ = λ (e : k ≡ next sectors place). apart (e ∙ sym same_next) in
            ap (is_sound reading) (elsewhere sectors (next sectors place) new k off) ∙ form.sound k (subst (λ (n : ℕ). k < n) long lt) off;
      },
      list-collected reading (set sectors (next sectors place) new) place next_ring done
          ∙ ap (λ (n : ℕ). flat_map (pairs_at reading (set sectors (next sectors place) new)) (rest n place) ++ pairs_at reading (set sectors (next sectors place) new) place) long
          ∙ ap (λ sector. flat_map (pairs_at reading (set sectors (next sectors place) new)) (rest (length sectors) place) ++ reading.pairs sector) here
          ∙ ap (λ ps. ps ++ pairs_at reading sectors place) (rest-kept reading sectors place (next sectors place) new within several (inr refl))
          ∙ sym (list-collected reading sectors place ring form.done),
    )

pub erase_victim : (reading : Reading) (laws : IsReading reading) (sectors : List (List ℕ)) (place : ℕ) (new : List ℕ) → Collected reading sectors place → reading.is_blank new ≡ true
    → AtRest reading (set sectors (next sectors place) new) place × (area_pairs reading (set sectors (next sectors place) new) place ≡ area_pairs reading sectors place)
erase_victim reading laws sectors place new form blank =
    let ring = form.ring in
    let within = ring.within in
    let several = ring.several in
    let victim = next sectors place in
    let victim_within = after-within (length sectors) place within in
    let long : length (set sectors (next sectors place) new) ≡ length sectors = length-set sectors (next sectors place) new in
    let other : place ≡ next sectors place → ⊥ = λ (e : place ≡ next sectors place). after-apart (length sectors) place within several (sym e) in
    let next_ring = ring-erased reading laws sectors place new ring blank (done-not_blank reading laws (sector_at sectors place) form.done) in
    let one : 0 < 1 = omega arith in (
      record {
        blanks = 1;
        ring = next_ring;
        some = one;
        sound = λ k lt. sound-set reading sectors (next sectors place) new k victim_within (blank-sound reading new blank) (λ apart. form.sound k (subst (λ (n : ℕ). k < n) long lt) apart);
      },
      list-at_rest reading (set sectors (next sectors place) new) place 1 next_ring one
          ∙ ap (λ (n : ℕ). flat_map (pairs_at reading (set sectors (next sectors place) new)) (others n place) ++ pairs_at reading (set sectors (next sectors place) new) place) long
          ∙ ap (λ sector. flat_map (pairs_at reading (set sectors (next sectors place) new)) (others (length sectors) place) ++ reading.pairs sector) (elsewhere sectors (next sectors place) new place other)
          ∙ ap (λ ps. ps ++ pairs_at reading sectors place)
          (ap (flat_map (pairs_at reading (set sectors (next sectors place) new))) (split (length sectors) place within several).first
          ∙ flat_map-cons (pairs_at reading (set sectors (next sectors place) new)) (after (length sectors) place) (rest (length sectors) place)
          ∙ ap (λ ps. ps ++ flat_map (pairs_at reading (set sectors (next sectors place) new)) (rest (length sectors) place)) (ap (reading.pairs) (there sectors (next sectors place) new victim_within) ∙ laws.pairs new blank)
          ∙ rest-kept reading sectors place (next sectors place) new within several (inr refl))
          ∙ sym (list-collected reading sectors place ring form.done),
    )

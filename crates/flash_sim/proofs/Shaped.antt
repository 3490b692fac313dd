-- What the sectors of a bank show before and after a write, a place that is taken, and an erase.
use Rattle.std.proofs.Common.{◌≡◌, ℕ, ◌+◌, ◌-◌, ◌*◌, ◌/◌, ◌%◌, ◌<◌, ◌≤◌, inl, inr, List, [], ◌∷◌, ◌++◌, length, get_or, set, take, drop, replicate, sym, ◌∙◌, ap, subst, arith, rules, length-append, length-take, length-drop}
use Rattle.std.specs.Prelude.{slice_range}
use Rattle.std.proofs.Math.Nat.{mul-le-mul_right, le_of_mul-le-mul_right}
use Rattle.std.proofs.lemmas.Bool.{cases_eq, cases_lt}
use Rattle.std.proofs.lemmas.Nat.{div_below, div-add-mod'}
use Rattle.std.proofs.lemmas.List.{places, same_lists, length-replicate, length-set, length-take-le, take-append-le, take-take, get_or_append_left, get_or_push, get_or-set_other}
use Rattle.std.proofs.lemmas.Grind.{get_or-set_at}
use Rattle.flash_sim.specs.Device.{overwritten}
use Rattle.flash_sim.specs.Sparse.{shown, IsShaped}
use Rattle.flash_sim.proofs.Shown.{Fit, IsApart, length-shown, part_shown, shown_apart, shown_write, shown_set, shown_push, unchanged}

put_there : (old : List ℕ) (at n : ℕ) (new : List ℕ) → length new ≡ n → at + n ≤ length old → take n (drop at (overwritten old at new)) ≡ new
put_there old at n new long fits = same_lists _ _ (search (rules, places)) (λ k d h. grind (arith, places))

length-put : (old : List ℕ) (at : ℕ) (new : List ℕ) → at + length new ≤ length old → length (overwritten old at new) ≡ length old
length-put old at new fits = omega (arith, length-append {A = ℕ}, length-take {A = ℕ}, length-drop {A = ℕ})

module _ (size : ℕ) (buffer starts : List ℕ) (shape : IsShaped size buffer starts) where
  pub fit : Fit size buffer starts
  fit s lt =
      let more : s + 1 ≤ length starts = omega arith in
      let room = mul-le-mul_right size more in
      elim (cases_eq (get_or starts s 0) 0) [
        | inl none ↦ omega (arith, shape.long)
        | inr some ↦ omega (arith, shape.long, shape.own s lt some, room)
      ]

  pub count-shown : length (shown size buffer starts) ≡ length starts * size
  count-shown = length-shown size buffer starts fit

  pub has-sector : (offset : ℕ) → offset < length (shown size buffer starts) → offset / size < length starts
  has-sector offset lt = div_below offset size (length starts) shape.some (subst (λ (n : ℕ). offset < n) count-shown lt)

  split-offset : (offset : ℕ) → offset / size * size + offset % size ≡ offset
  split-offset offset = div-add-mod' offset size

  pub within : (offset : ℕ) → offset / size < length starts → get_or starts (offset / size) 0 + offset % size + size ≤ length buffer + offset % size
  within offset lt = omega (arith, fit (offset / size) lt)

  -- a sector that ends within the bytes
  pub is-sector : (s : ℕ) → (s + 1) * size ≤ length (shown size buffer starts) → s < length starts
  is-sector s fits = let more : s + 1 ≤ length starts = le_of_mul-le-mul_right {m = s + 1} {n = length starts} {k = size} (subst (λ (n : ℕ). (s + 1) * size ≤ n) count-shown fits) shape.some in omega arith

  pub view-is : (offset len at : ℕ) → offset / size < length starts → at ≡ get_or starts (offset / size) 0 + offset % size → offset % size + len ≤ size
      → slice_range buffer at (at + len) ≡ slice_range (shown size buffer starts) offset (offset + len)
  view-is offset len at lt is one =
      let width : len ≡ offset + len - offset = omega arith in
      let here : at + len - at ≡ len = omega arith in
      ap (λ (n : ℕ). take n (drop at buffer)) here ∙ ap (λ (i : ℕ). take len (drop i buffer)) is
      ∙ sym (part_shown size buffer starts (offset / size) (offset % size) len fit lt one)
      ∙ ap (λ (i : ℕ). take len (drop i (shown size buffer starts))) (split-offset offset)
      ∙ ap (λ (n : ℕ). take n (drop offset (shown size buffer starts))) width

  pub place-fits : (s : ℕ) → s < length starts → (s + 1) * size + size ≤ length buffer
  place-fits s lt = let more : s + 1 ≤ length starts = omega arith in omega (arith, shape.long, mul-le-mul_right size more)

  -- another sector has not this one's place
  apart-place : (s at len t : ℕ) → at + len ≤ size → t < length starts → (t ≡ s → ⊥) → IsApart size (get_or starts t 0) ((s + 1) * size + at) len
  apart-place s at len t fits lt other =
      elim (cases_eq (get_or starts t 0) 0) [
        | inl none ↦ inl (omega arith)
        | inr some ↦
            let own = shape.own t lt some in
            elim (cases_lt t s) [
              | inl below ↦ let more : t + 1 ≤ s = omega arith in inl (omega (arith, own, mul-le-mul_right size more))
              | inr above ↦ let more : s + 1 ≤ t = omega arith in inr (omega (arith, own, mul-le-mul_right size more))
            ]
      ]

  -- bytes behind the shared sector
  pub written-shaped : (at : ℕ) (new : List ℕ) → size ≤ at → at + length new ≤ length buffer → IsShaped size (overwritten buffer at new) starts
  written-shaped at new behind fits =
      let prefix : length (take at buffer) ≡ at = length-take-le at buffer (omega arith) in
      record {
        some = shape.some;
        long = length-put buffer at new fits ∙ shape.long;
        blank = take-append-le size (take at buffer) (new ++ drop (at + length new) buffer) (omega arith) ∙ take-take size at buffer behind ∙ shape.blank;
        own = shape.own;
      }

  -- a sector whose place is filled with FF
  pub taken-shaped : (s place : ℕ) → s < length starts → place ≡ (s + 1) * size → IsShaped size (overwritten buffer place (replicate size 255)) (set starts s place)
  taken-shaped s place lt is =
      let ff : List ℕ = replicate size 255 in
      let long : length ff ≡ size = length-replicate size 255 in
      let fits = place-fits s lt in
      let base = written-shaped place ff (omega arith) (omega arith) in
      let many = length-set starts s place in
      record {
        some = shape.some;
        long = base.long ∙ ap (λ (n : ℕ). (n + 1) * size) (sym many);
        blank = base.blank;
        own = λ t below other. elim (cases_eq t s) [
          | inl here ↦ get_or-set_at starts s t place 0 here lt ∙ is ∙ ap (λ (k : ℕ). (k + 1) * size) (sym here)
          | inr apart ↦ let same = get_or-set_other starts s t place 0 apart in same ∙ shape.own t (omega arith) (λ e. other (same ∙ e))
        ];
      }

  pub write-is : (offset place : ℕ) (new : List ℕ) → offset / size < length starts → place ≡ (offset / size + 1) * size → get_or starts (offset / size) 0 ≡ place → offset % size + length new ≤ size
      → shown size (overwritten buffer (place + offset % size) new) starts ≡ overwritten (shown size buffer starts) offset new
  write-is offset place new lt is here fits =
      shown_write size buffer starts (offset / size) (offset % size) (place + offset % size) new fit lt (ap (λ (n : ℕ). n + offset % size) (sym here)) fits
      (λ t below other. subst (λ (n : ℕ). IsApart size (get_or starts t 0) (n + offset % size) (length new)) (sym is) (apart-place (offset / size) (offset % size) (length new) t fits below other))
      ∙ ap (λ (i : ℕ). overwritten (shown size buffer starts) i new) (split-offset offset)

  pub erase-is : (s : ℕ) → s < length starts → shown size buffer (set starts s 0) ≡ overwritten (shown size buffer starts) (s * size) (replicate size 255)
  erase-is s lt =
      shown_set size buffer starts s 0 fit lt (omega (arith, shape.long)) ∙ ap (overwritten (shown size buffer starts) (s * size)) shape.blank

  pub place-is : (s place : ℕ) → s < length starts → place ≡ (s + 1) * size → get_or starts s 0 ≡ 0
      → shown size (overwritten buffer place (replicate size 255)) (set starts s place) ≡ shown size buffer starts
  place-is s place lt is none =
      let ff : List ℕ = replicate size 255 in
      let long : length ff ≡ size = length-replicate size 255 in
      let fits = place-fits s lt in
      let within : place + length ff ≤ length buffer = omega arith in
      let same-length = length-put buffer place ff within in
      let apart : (t : ℕ) → t < length starts → IsApart size (get_or starts t 0) place (length ff)
      = λ t below. elim (cases_eq t s) [
        | inl here ↦ inl (let e : get_or starts t 0 ≡ 0 = ap (λ (i : ℕ). get_or starts i 0) here ∙ none in omega arith)
        | inr other ↦
            let at : (s + 1) * size + 0 ≡ place = omega arith in
            subst (λ (n : ℕ). IsApart size (get_or starts t 0) n (length ff)) at (apart-place s 0 (length ff) t (omega arith) below other)
      ] in
      let reads : take size (drop (s * size) (shown size buffer starts)) ≡ ff =
      let at : s * size + 0 ≡ s * size = omega arith in
      let from : get_or starts s 0 + 0 ≡ 0 = omega arith in
      ap (λ (i : ℕ). take size (drop i (shown size buffer starts))) (sym at) ∙ part_shown size buffer starts s 0 size fit lt (omega arith)
      ∙ ap (λ (i : ℕ). take size (drop i buffer)) from ∙ shape.blank in
      let room : s * size + size ≤ length (shown size buffer starts) = let more : s + 1 ≤ length starts = omega arith in omega (arith, count-shown, mul-le-mul_right size more) in
      shown_set size (overwritten buffer place ff) starts s place (λ t below. omega (arith, fit t below, same-length)) lt (omega arith)
      ∙ ap (overwritten (shown size (overwritten buffer place ff) starts) (s * size)) (put_there buffer place size ff long (omega arith))
      ∙ ap (λ (l : List ℕ). overwritten l (s * size) ff) (shown_apart size buffer starts place ff within apart)
      ∙ ap (overwritten (shown size buffer starts) (s * size)) (sym reads)
      ∙ unchanged (shown size buffer starts) (s * size) size room

-- Sectors that are laid out one after another.

past_prefix : (prefix bytes : List ℕ) (n i at : ℕ) → at ≡ length prefix + i → take n (drop at (prefix ++ bytes)) ≡ take n (drop i bytes)
past_prefix prefix bytes n i at is = same_lists _ _ (search (rules, places)) (λ k d h. grind (arith, places))

prefix_of : (prefix bytes : List ℕ) (n : ℕ) → n ≡ length prefix → take n (prefix ++ bytes) ≡ prefix
prefix_of prefix bytes n is = same_lists _ _ (search (rules, places)) (λ k d h. grind (arith, places))

two_parts : (bytes : List ℕ) (a n b : ℕ) → b ≡ a + n → b ≤ length bytes → take a bytes ++ take n (drop a bytes) ≡ take b bytes
two_parts bytes a n b is fits = same_lists _ _ (search (rules, places)) (λ k d h. grind (arith, places))

module _ (size i : ℕ) (bytes starts : List ℕ) (start : ℕ) (some : 0 < size) (count : length starts ≡ i) (fits : (i + 1) * size ≤ length bytes) (own : (start ≡ 0 → ⊥) → start ≡ (i + 1) * size) where
  piece : (start ≡ 0 → ((i + 1) * size ≡ 0 → ⊥) → take size (drop ((i + 1) * size) (replicate size 255 ++ bytes)) ≡ replicate size 255)
      → take size (drop start (replicate size 255 ++ bytes)) ≡ take size (drop (i * size) bytes)
  piece shared =
      let prefix : List ℕ = replicate size 255 in
      let long : length prefix ≡ size = length-replicate size 255 in
      let here : take size (drop ((i + 1) * size) (prefix ++ bytes)) ≡ take size (drop (i * size) bytes) = past_prefix prefix bytes size (i * size) ((i + 1) * size) (omega arith) in
      elim (cases_eq start 0) [
        | inl none ↦
            ap (λ (n : ℕ). take size (drop n (prefix ++ bytes))) none ∙ prefix_of prefix bytes size (sym long) ∙ sym (shared none (λ e. absurd (omega arith))) ∙ here
        | inr other ↦ ap (λ (n : ℕ). take size (drop n (prefix ++ bytes))) (own other) ∙ here
      ]

  pub pushed-bytes : (buffer : List ℕ) → buffer ≡ replicate size 255 ++ bytes → shown size buffer starts ≡ take (i * size) bytes
      → (start ≡ 0 → ((i + 1) * size ≡ 0 → ⊥) → take size (drop ((i + 1) * size) buffer) ≡ replicate size 255)
      → shown size buffer (starts ++ start ∷ []) ≡ take ((i + 1) * size) bytes
  pushed-bytes buffer is so_far shared =
      let first : take size (drop start buffer) ≡ take size (drop (i * size) bytes)
      = ap (λ (l : List ℕ). take size (drop start l)) is ∙ piece (λ none other. sym (ap (λ (l : List ℕ). take size (drop ((i + 1) * size) l)) is) ∙ shared none other) in
      shown_push size buffer starts start ∙ ap (λ (l : List ℕ). l ++ take size (drop start buffer)) so_far ∙ ap (λ (l : List ℕ). take (i * size) bytes ++ l) first
      ∙ two_parts bytes (i * size) size ((i + 1) * size) (omega arith) fits

  pub pushed-own : ((s : ℕ) → s < length starts → (get_or starts s 0 ≡ 0 → ⊥) → get_or starts s 0 ≡ (s + 1) * size)
      → (s : ℕ) → s < length (starts ++ start ∷ []) → (get_or (starts ++ start ∷ []) s 0 ≡ 0 → ⊥) → get_or (starts ++ start ∷ []) s 0 ≡ (s + 1) * size
  pushed-own before s lt other =
      elim (cases_lt s i) [
        | inl below ↦
            let same : get_or (starts ++ start ∷ []) s 0 ≡ get_or starts s 0 = get_or_append_left starts (start ∷ []) 0 s (omega arith) in
            same ∙ before s (omega arith) (λ e. other (same ∙ e))
        | inr above ↦
            let at : s ≡ i = omega (arith, length-append starts (start ∷ [])) in
            let same : get_or (starts ++ start ∷ []) s 0 ≡ start = ap (λ (k : ℕ). get_or (starts ++ start ∷ []) k 0) at ∙ get_or_push starts start 0 i count in
            same ∙ own (λ e. other (same ∙ e)) ∙ ap (λ (k : ℕ). (k + 1) * size) (sym at)
      ]

-- the buffer and starts of as many sectors as these bytes are
pub made-shaped : (size count : ℕ) (bytes buffer starts : List ℕ) → 0 < size → length bytes ≡ count * size → length starts ≡ count → buffer ≡ replicate size 255 ++ bytes
    → ((s : ℕ) → s < length starts → (get_or starts s 0 ≡ 0 → ⊥) → get_or starts s 0 ≡ (s + 1) * size) → IsShaped size buffer starts
made-shaped size count bytes buffer starts some whole many is own =
    let ff : List ℕ = replicate size 255 in
    let prefix : length ff ≡ size = length-replicate size 255 in
    let both : length buffer ≡ length ff + length bytes = ap (λ (l : List ℕ). length l) is ∙ length-append ff bytes in
    let long : length buffer ≡ (count + 1) * size = omega arith in
    record {
      some = some;
      long = long ∙ ap (λ (n : ℕ). (n + 1) * size) (sym many);
      blank = ap (λ (l : List ℕ). take size l) is ∙ prefix_of (replicate size 255) bytes size (sym prefix);
      own = own;
    }

-- the next place in that buffer
pub next-place : (size count i : ℕ) (bytes buffer : List ℕ) → length bytes ≡ count * size → buffer ≡ replicate size 255 ++ bytes → i < count → (i + 1) * size + size ≤ length buffer
next-place size count i bytes buffer whole is lt =
    let ff : List ℕ = replicate size 255 in
    let prefix : length ff ≡ size = length-replicate size 255 in
    let long : length buffer ≡ length ff + length bytes = ap (λ (l : List ℕ). length l) is ∙ length-append ff bytes in
    let more : i + 1 ≤ count = omega arith in
    let up = mul-le-mul_right size more in
    omega arith

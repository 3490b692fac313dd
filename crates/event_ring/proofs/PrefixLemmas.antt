-- A record that was cut and checks by chance has not all of its body: else it would be the record.
use Rattle.std.proofs.Common.{◌≡◌, ℕ, ◌+◌, ◌-◌, ◌*◌, ◌<◌, ◌≤◌, true, false, ltb, Bool, cond, List, [], ◌∷◌, ◌++◌, length, get_or, take, drop, replicate, inl, inr, refl, sym, ap, subst, ◌∙◌, append_assoc, arith}
use Rattle.std.specs.Prelude.{slice_range}
use Rattle.std.proofs.Math.Nat.{mul-le-mul_right}
use Rattle.std.proofs.lemmas.Bool.{cases_lt, eqb-true}
use Rattle.std.proofs.lemmas.List.{append-nil, drop-drop, drop-replicate, drop_at, get_or-append_right, get_or-drop, get_or-replicate, get_or-take, get_or_append_left, length-take-le, replicate-append-replicate, take-append-drop, take-append-le, take-take, take_all}
use Rattle.flash_map.specs.Units.{IsUnit, padded}
use Rattle.flash_map.proofs.PieceLemmas.{next_fits}
use Rattle.flash_map.proofs.Rounding.{by_unit, padding}
use Rattle.fcb_ring.specs.Records.{body_len, checks_at, field_width, record_of}
use Rattle.fcb_ring.specs.Writing.{cut_record, filled, length_field, record_cost, record_image, IsChance}
use Rattle.fcb_ring.proofs.ImageLemmas.{cut-says, field_is, image-body, image-checks, image-long, length-filled, small_padded, spelled-is}

width-most : (first : ℕ) → field_width first ≤ 2
unfolding field_width
width-most first = by (ltb first 128)
  where
    by : (b : Bool) → cond b 1 2 ≤ 2
    by true = omega arith
    by false = omega arith

-- FF alone is left behind the front
rest-erased : (prefix : List ℕ) (k m : ℕ) → length prefix ≤ m → drop m (prefix ++ replicate k 255) ≡ replicate (k - (m - length prefix)) 255
rest-erased prefix k m past =
    let all : m ≡ length prefix + (m - length prefix) = omega arith in
    ap (λ (n : ℕ). drop n (prefix ++ replicate k 255)) all
    ∙ sym (drop-drop (m - length prefix) (length prefix) (prefix ++ replicate k 255))
    ∙ ap (drop (m - length prefix)) (drop_at prefix (replicate k 255) (length prefix) refl)
    ∙ drop-replicate (m - length prefix) k 255

-- records with the same length and body that check do so by one byte
same-check : (s t : List ℕ) (body len at : ℕ) → slice_range s 0 (0 + field_width (get_or s 0 0)) ≡ slice_range t 0 (0 + field_width (get_or t 0 0)) → slice_range s body (body + len) ≡ slice_range t body (body + len)
    → checks_at s 0 body len at ≡ true → checks_at t 0 body len at ≡ true → get_or s at 0 ≡ get_or t at 0
unfolding checks_at
same-check s t body len at fields bodies one two =
    let by-s = eqb-true _ _ one in
    let by-t = eqb-true _ _ two in
    cc

filled-is : (unit : ℕ) (part : List ℕ) → filled unit part ≡ part ++ replicate (padded unit (length part) - length part) 255
unfolding filled
filled-is unit part = refl

module _ (unit : ℕ) (is_unit : IsUnit unit) (body : List ℕ) (short : length body ≤ 16383) (done : ℕ) (is : IsChance unit body done) where
  abbrev image : List ℕ
  image = record_image unit body

  abbrev torn : List ℕ
  torn = cut_record unit body done

  part : done * unit + unit ≤ record_cost unit (length body)
  part = next_fits done (record_cost unit (length body)) unit is.fewer

  some : unit ≤ done * unit
  some = let le : 1 * unit ≤ done * unit = mul-le-mul_right unit is.some in omega arith

  four : 4 ≤ unit
  four = by_unit (λ u. 4 ≤ u) (omega arith) (omega arith) (omega arith) unit is_unit

  prefix-long : length (take (done * unit) (record_image unit body)) ≡ done * unit
  prefix-long = length-take-le (done * unit) (record_image unit body) (omega (arith, part, image-long unit is_unit body short))

  -- ---- the image

  -- its last unit begins with some check byte
  opened : (check : ℕ) × (record_image unit body ≡ filled unit (length_field (length body)) ++ (filled unit body ++ filled unit (check ∷ [])))
  unfolding record_image
  opened = (_, refl)

  field-long : length (filled unit (length_field (length body))) ≡ unit
  field-long =
      let field = field_is (length body) short in
      length-filled unit (length_field (length body)) is_unit ∙ small_padded unit is_unit (length (length_field (length body))) field.short.0 field.short.1

  image-rest : drop unit (record_image unit body) ≡ filled unit body ++ filled unit (opened.0 ∷ [])
  image-rest = ap (drop unit) opened.1 ∙ drop_at (filled unit (length_field (length body))) (filled unit body ++ filled unit (opened.0 ∷ [])) unit field-long

  image-last : drop (unit + padded unit (length body)) (record_image unit body) ≡ filled unit (opened.0 ∷ [])
  image-last =
      sym (drop-drop (padded unit (length body)) unit (record_image unit body)) ∙ ap (drop (padded unit (length body))) image-rest
      ∙ drop_at (filled unit body) (filled unit (opened.0 ∷ [])) (padded unit (length body)) (length-filled unit body is_unit)

  image-sum : get_or (record_image unit body) (unit + padded unit (length body)) 0 ≡ opened.0
  image-sum =
      let none : unit + padded unit (length body) + 0 ≡ unit + padded unit (length body) = omega arith in
      sym (get_or-drop (unit + padded unit (length body)) (record_image unit body) 0 0 ∙ ap (λ (n : ℕ). get_or (record_image unit body) n 0) none)
      ∙ ap (λ (l : List ℕ). get_or l 0 0) (image-last ∙ filled-is unit (opened.0 ∷ []))

  -- ---- what was put, where it has the whole body

  first-same : get_or (cut_record unit body done) 0 0 ≡ get_or (record_image unit body) 0 0
  first-same =
      get_or_append_left (take (done * unit) (record_image unit body)) (replicate (record_cost unit (length body) - done * unit) 255) 0 0 (omega (arith, prefix-long, some, four))
      ∙ get_or-take (done * unit) (record_image unit body) 0 0 (omega (arith, some, four))

  prefix-same : (n : ℕ) → n ≤ 2 → take n (cut_record unit body done) ≡ take n (record_image unit body)
  prefix-same n few =
      take-append-le n (take (done * unit) (record_image unit body)) (replicate (record_cost unit (length body) - done * unit) 255) (omega (arith, prefix-long, some, four))
      ∙ take-take n (done * unit) (record_image unit body) (omega (arith, some, four))

  field-same : slice_range (cut_record unit body done) 0 (0 + field_width (get_or (cut_record unit body done) 0 0)) ≡ slice_range (record_image unit body) 0 (0 + field_width (get_or (record_image unit body) 0 0))
  field-same =
      let most = width-most (get_or (record_image unit body) 0 0) in
      ap (λ (n : ℕ). slice_range (cut_record unit body done) 0 (0 + field_width n)) first-same
      ∙ prefix-same (0 + field_width (get_or (record_image unit body) 0 0) - 0) (omega arith)

  torn-sum : get_or (cut_record unit body done) (unit + padded unit (length body)) 0 ≡ 255
  torn-sum =
      get_or-append_right (take (done * unit) (record_image unit body)) (replicate (record_cost unit (length body) - done * unit) 255) (done * unit) (unit + padded unit (length body)) 0 prefix-long (omega (arith, part))
      ∙ get_or-replicate {A = ℕ} (record_cost unit (length body) - done * unit) (unit + padded unit (length body) - done * unit) 255 0 (omega (arith, part, four))

  torn-read : checks_at (cut_record unit body done) 0 (0 + unit) (body_len (get_or torn 0 0) (get_or torn (0 + 1) 0)) (0 + unit + padded unit (body_len (get_or torn 0 0) (get_or torn (0 + 1) 0))) ≡ true
  unfolding record_of
  torn-read = is.checks

  torn-checks : checks_at (cut_record unit body done) 0 (0 + unit) (length body) (0 + unit + padded unit (length body)) ≡ true
  torn-checks = subst (λ (n : ℕ). checks_at (cut_record unit body done) 0 (0 + unit) n (0 + unit + padded unit n) ≡ true) (cut-says unit is_unit body short done is.some (omega (arith, part))) torn-read

  module _ (whole : length body ≤ done * unit - unit) where
    body-same : slice_range (cut_record unit body done) unit (unit + length body) ≡ body
    body-same =
        let none : length body - (done * unit - unit) ≡ 0 = omega arith in
        spelled-is unit is_unit body short done is.some (omega (arith, part))
        ∙ ap (λ (n : ℕ). take (done * unit - unit) body ++ replicate n 255) none
        ∙ ap (λ (l : List ℕ). l ++ []) (take_all (done * unit - unit) body whole) ∙ append-nil body

    check-erased : get_or (record_image unit body) (unit + padded unit (length body)) 0 ≡ 255
    check-erased =
        let none : 0 + unit ≡ unit = omega arith in
        let torn-is = subst (λ (k : ℕ). checks_at (cut_record unit body done) 0 k (length body) (k + padded unit (length body)) ≡ true) none torn-checks in
        sym (same-check (cut_record unit body done) (record_image unit body) unit (length body) (unit + padded unit (length body)) field-same (body-same ∙ sym (image-body unit is_unit body short)) torn-is (image-checks unit is_unit body short))
        ∙ torn-sum

    sum-erased : opened.0 ≡ 255
    sum-erased = sym image-sum ∙ check-erased

    last-erased : filled unit (opened.0 ∷ []) ≡ replicate unit 255
    last-erased =
        let one : padded unit 1 ≡ unit = small_padded unit is_unit 1 (omega arith) (omega arith) in
        filled-is unit (opened.0 ∷ [])
        ∙ ap (λ (x : ℕ). (x ∷ []) ++ replicate (padded unit 1 - 1) 255) sum-erased
        ∙ replicate-append-replicate 1 (padded unit 1 - 1) 255
        ∙ ap (λ (n : ℕ). replicate n 255) (omega (arith, one, four))

    rest-is : drop unit (record_image unit body) ≡ body ++ replicate (padded unit (length body) - length body + unit) 255
    rest-is =
        image-rest
        ∙ ap (λ (l : List ℕ). filled unit body ++ l) last-erased
        ∙ ap (λ (l : List ℕ). l ++ replicate unit 255) (filled-is unit body)
        ∙ append_assoc body (replicate (padded unit (length body) - length body) 255) (replicate unit 255)
        ∙ ap (λ (l : List ℕ). body ++ l) (replicate-append-replicate (padded unit (length body) - length body) unit 255)

    behind : drop (done * unit) (record_image unit body) ≡ replicate (record_cost unit (length body) - done * unit) 255
    behind =
        let all : done * unit ≡ unit + (done * unit - unit) = omega (arith, some) in
        let more = (padding unit is_unit).no_less (length body) in
        ap (λ (n : ℕ). drop n (record_image unit body)) all
        ∙ sym (drop-drop (done * unit - unit) unit (record_image unit body))
        ∙ ap (drop (done * unit - unit)) rest-is
        ∙ rest-erased body (padded unit (length body) - length body + unit) (done * unit - unit) whole
        ∙ ap (λ (n : ℕ). replicate n 255) (omega (arith, some, part))

    is-record : cut_record unit body done ≡ record_image unit body
    is-record = ap (λ (l : List ℕ). take (done * unit) (record_image unit body) ++ l) (sym behind) ∙ take-append-drop (done * unit) (record_image unit body)

  -- not all of the body was put
  pub prefix-fewer : done * unit - unit < length body
  prefix-fewer = elim (cases_lt (done * unit - unit) (length body)) [
    | inl fewer ↦ fewer
    | inr whole ↦ absurd (is.differs (is-record whole))
  ]

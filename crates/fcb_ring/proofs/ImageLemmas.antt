-- The bytes of a record and of a header, whole and cut.
use Rattle.std.proofs.Common.{◌≡◌, ℕ, ◌+◌, ◌-◌, ◌*◌, ◌/◌, ◌%◌, ◌<◌, ◌≤◌, true, false, ◌&&◌, eqb, ltb, List, [], ◌∷◌, ◌++◌, length, get_or, take, drop, replicate, inl, inr, refl, sym, ap, ◌∙◌, append_assoc, arith}
use Rattle.std.specs.Prelude.{slice_range}
use Rattle.std.proofs.Math.Nat.{mul-le-mul_right}
use Rattle.std.proofs.lemmas.Bool.{cases_lt, and_left, and_right, lt-ltb, le-ltb, eq-eqb, ne_eqb}
use Rattle.std.proofs.lemmas.List.{length-append, length-replicate, length-take-le, take_at, drop_at, take_all, take-take, drop-take, drop-append-le, append-nil, get_or_append_left, take-append-le, drop-drop, get_or-take, get_or-drop, drop-replicate, replicate-append-replicate}
use Rattle.crc8_entry.specs.Crc.{crc}
use Rattle.flash_sim.specs.Device.{overwritten}
use Rattle.flash_map.specs.Units.{IsUnit, padded}
use Rattle.flash_map.proofs.Rounding.{by_unit, padding}
use Rattle.fcb_ring.specs.Records.{body_len, field_width, checks_at}
use Rattle.fcb_ring.specs.Writing.{filled, length_field, record_image, record_cost, cut_record, spelled}

-- a length is written in one or two bytes, which read as that length and are no erased field
pub record IsField (len : ℕ) (field : List ℕ) : Type 0 where
  pub short : (0 < length field) × (length field ≤ 2)
  pub width : field_width (get_or field 0 0) ≡ length field
  pub says : (second : ℕ) → (length field ≡ 2 → second ≡ get_or field 1 0) → body_len (get_or field 0 0) second ≡ len
  pub there : (second : ℕ) → (length field ≡ 2 → second ≡ get_or field 1 0) → (eqb (get_or field 0 0) 255 && eqb second 255) ≡ false

pub field_is : (len : ℕ) → len ≤ 16383 → IsField len (length_field len)
unfolding length_field body_len field_width
field_is len le = elim (cases_lt len 128) [
  | inl lt ↦ rw (lt-ltb len 128 lt) (record {
    short = (omega arith, omega arith);
    width = rw (lt-ltb len 128 lt) refl;
    says = λ second h. rw (lt-ltb len 128 lt) refl;
    there = λ second h. and_left (eqb len 255) (eqb second 255) (ne_eqb len 255 (λ (e : len ≡ 255). omega arith));
  })
  | inr ge ↦
      let off : ltb (len % 128 + 128) 128 ≡ false = le-ltb (len % 128 + 128) 128 (omega arith) in
      rw (le-ltb len 128 ge) (record {
        short = (omega arith, omega arith);
        width = rw off refl;
        says = λ second h. let second_is : second ≡ len / 128 = h refl in rw off (omega arith);
        there = λ second h. let second_is : second ≡ len / 128 = h refl in and_right (eqb (len % 128 + 128) 255) (eqb second 255) (ne_eqb second 255 (λ (e : second ≡ 255). omega arith));
      })
]

pub length-filled : (unit : ℕ) (part : List ℕ) → IsUnit unit → length (filled unit part) ≡ padded unit (length part)
unfolding filled
length-filled unit part is_unit =
    length-append part (replicate (padded unit (length part) - length part) 255) ∙ ap (λ (n : ℕ). length part + n) (length-replicate {A = ℕ} (padded unit (length part) - length part) 255)
    ∙ omega (arith, (padding unit is_unit).no_less (length part))

-- one or two bytes fill one unit
pub small_padded : (unit : ℕ) → IsUnit unit → (n : ℕ) → 0 < n → n ≤ 2 → padded unit n ≡ unit
unfolding padded
small_padded = by_unit (λ unit. (n : ℕ) → 0 < n → n ≤ 2 → padded unit n ≡ unit) (λ n a b. omega arith) (λ n a b. omega arith) (λ n a b. omega arith)

get-filled : (unit : ℕ) (part : List ℕ) (i : ℕ) → i < length part → get_or (filled unit part) i 0 ≡ get_or part i 0
unfolding filled
get-filled unit part i lt = get_or_append_left part (replicate (padded unit (length part) - length part) 255) 0 i lt

take-filled : (unit : ℕ) (part : List ℕ) → take (length part) (filled unit part) ≡ part
unfolding filled
take-filled unit part = take_at part (replicate (padded unit (length part) - length part) 255) (length part) refl

module _ (unit : ℕ) (is_unit : IsUnit unit) (body : List ℕ) (short : length body ≤ 16383) where
  abbrev field : List ℕ
  field = length_field (length body)

  f : IsField (length body) (length_field (length body))
  f = field_is (length body) short

  abbrev tail : List ℕ
  tail = filled unit (crc 255 (field ++ body) ∷ [])

  opened : record_image unit body ≡ filled unit field ++ (filled unit body ++ tail)
  unfolding record_image
  opened = refl

  field-long : length (filled unit field) ≡ unit
  field-long = length-filled unit field is_unit ∙ small_padded unit is_unit (length field) f.short.0 f.short.1

  body-long : length (filled unit body) ≡ padded unit (length body)
  body-long = length-filled unit body is_unit

  tail-long : length tail ≡ unit
  tail-long = length-filled unit (crc 255 (field ++ body) ∷ []) is_unit ∙ small_padded unit is_unit 1 (omega arith) (omega arith)

  pub image-long : length (record_image unit body) ≡ record_cost unit (length body)
  image-long = ap length opened ∙ length-append (filled unit field) (filled unit body ++ tail) ∙ ap (λ (n : ℕ). length (filled unit field) + n) (length-append (filled unit body) tail) ∙ omega (arith, field-long, body-long, tail-long)

  -- its first unit is the length field, its last the CRC
  image-first : take unit (record_image unit body) ≡ filled unit field
  image-first = ap (take unit) opened ∙ take_at (filled unit field) (filled unit body ++ tail) unit field-long

  image-rest : drop unit (record_image unit body) ≡ filled unit body ++ tail
  image-rest = ap (drop unit) opened ∙ drop_at (filled unit field) (filled unit body ++ tail) unit field-long

  image-last : drop (unit + padded unit (length body)) (record_image unit body) ≡ tail
  image-last = sym (drop-drop (padded unit (length body)) unit (record_image unit body)) ∙ ap (drop (padded unit (length body))) image-rest ∙ drop_at (filled unit body) tail (padded unit (length body)) body-long

  -- ---- what the whole record reads as

  get-first : (i : ℕ) → i < unit → get_or (record_image unit body) i 0 ≡ get_or (filled unit field) i 0
  get-first i lt = sym (get_or-take unit (record_image unit body) i 0 lt) ∙ ap (λ (l : List ℕ). get_or l i 0) image-first

  four : 4 ≤ unit
  four = by_unit (λ u. 4 ≤ u) (omega arith) (omega arith) (omega arith) unit is_unit

  first-byte : get_or (record_image unit body) 0 0 ≡ get_or field 0 0
  first-byte = get-first 0 (omega (arith, four)) ∙ get-filled unit field 0 f.short.0

  second-byte : length field ≡ 2 → get_or (record_image unit body) 1 0 ≡ get_or field 1 0
  second-byte two = get-first 1 (omega (arith, four)) ∙ get-filled unit field 1 (omega arith)

  pub image-says : body_len (get_or (record_image unit body) 0 0) (get_or (record_image unit body) 1 0) ≡ length body
  image-says = ap (λ (n : ℕ). body_len n (get_or (record_image unit body) 1 0)) first-byte ∙ f.says (get_or (record_image unit body) 1 0) second-byte

  pub image-there : (eqb (get_or (record_image unit body) 0 0) 255 && eqb (get_or (record_image unit body) 1 0) 255) ≡ false
  image-there = ap (λ (n : ℕ). eqb n 255 && eqb (get_or (record_image unit body) 1 0) 255) first-byte ∙ f.there (get_or (record_image unit body) 1 0) second-byte

  pub image-body : slice_range (record_image unit body) unit (unit + length body) ≡ body
  image-body =
      let n : unit + length body - unit ≡ length body = omega arith in
      ap (λ (k : ℕ). take k (drop unit (record_image unit body))) n ∙ ap (take (length body)) image-rest
      ∙ take-append-le (length body) (filled unit body) tail (omega (arith, body-long, (padding unit is_unit).no_less (length body))) ∙ take-filled unit body

  image-field : slice_range (record_image unit body) 0 (0 + field_width (get_or (record_image unit body) 0 0)) ≡ field
  image-field =
      let w : 0 + field_width (get_or (record_image unit body) 0 0) - 0 ≡ length field = omega (arith, ap field_width first-byte, f.width) in
      ap (λ (k : ℕ). take k (record_image unit body)) w ∙ ap (take (length field)) opened
      ∙ take-append-le (length field) (filled unit field) (filled unit body ++ tail) (omega (arith, field-long, f.short.1, four)) ∙ take-filled unit field

  image-crc : get_or (record_image unit body) (unit + padded unit (length body)) 0 ≡ crc 255 (field ++ body)
  image-crc =
      let none : unit + padded unit (length body) + 0 ≡ unit + padded unit (length body) = omega arith in
      sym (get_or-drop (unit + padded unit (length body)) (record_image unit body) 0 0 ∙ ap (λ (n : ℕ). get_or (record_image unit body) n 0) none)
      ∙ ap (λ (l : List ℕ). get_or l 0 0) image-last ∙ get-filled unit (crc 255 (field ++ body) ∷ []) 0 (omega arith)

  pub image-checks : checks_at (record_image unit body) 0 unit (length body) (unit + padded unit (length body)) ≡ true
  unfolding checks_at
  image-checks = rw (image-field, image-body, image-crc) (eq-eqb (crc 255 (field ++ body)) (crc 255 (field ++ body)) refl)

  -- ---- and a record that is cut behind some of its units

  module _ (done : ℕ) (some : 0 < done) (part : done * unit ≤ record_cost unit (length body)) where
    abbrev cut : List ℕ
    cut = cut_record unit body done

    unit-part : unit ≤ done * unit
    unit-part = let le : 1 * unit ≤ done * unit = mul-le-mul_right unit some in omega arith

    prefix-long : length (take (done * unit) (record_image unit body)) ≡ done * unit
    prefix-long = length-take-le (done * unit) (record_image unit body) (omega (arith, image-long))

    pub cut-long : length (cut_record unit body done) ≡ record_cost unit (length body)
    cut-long = length-append (take (done * unit) (record_image unit body)) (replicate (record_cost unit (length body) - done * unit) 255)
        ∙ ap (λ (n : ℕ). length (take (done * unit) (record_image unit body)) + n) (length-replicate {A = ℕ} (record_cost unit (length body) - done * unit) 255) ∙ omega (arith, prefix-long)

    cut-get : (i : ℕ) → i < unit → get_or cut i 0 ≡ get_or (record_image unit body) i 0
    cut-get i lt = get_or_append_left (take (done * unit) (record_image unit body)) (replicate (record_cost unit (length body) - done * unit) 255) 0 i (omega (arith, prefix-long, unit-part))
        ∙ get_or-take (done * unit) (record_image unit body) i 0 (omega (arith, unit-part))

    pub cut-says : body_len (get_or (cut_record unit body done) 0 0) (get_or (cut_record unit body done) 1 0) ≡ length body
    cut-says = rw (cut-get 0 (omega (arith, four)), cut-get 1 (omega (arith, four))) image-says

    pub cut-there : (eqb (get_or (cut_record unit body done) 0 0) 255 && eqb (get_or (cut_record unit body done) 1 0) 255) ≡ false
    cut-there = rw (cut-get 0 (omega (arith, four)), cut-get 1 (omega (arith, four))) image-there

    -- to put the units is to lay the cut record, where all was erased
    pub cut-laid : (s : List ℕ) (e : ℕ) → e + record_cost unit (length body) ≤ length s → drop e s ≡ replicate (length s - e) 255
        → overwritten s e (take (done * unit) (record_image unit body)) ≡ overwritten s e (cut_record unit body done)
    cut-laid s e fits blank =
        let p = take (done * unit) (record_image unit body) in
        let rest : List ℕ = replicate (record_cost unit (length body) - done * unit) 255 in
        let m : ℕ = length s - (e + record_cost unit (length body)) in
        let erased : (n : ℕ) → n ≤ length s - e → drop (e + n) s ≡ replicate (length s - e - n) 255 = λ n le. sym (drop-drop n e s) ∙ ap (drop n) blank ∙ drop-replicate n (length s - e) 255 in
        let behind : drop (e + length p) s ≡ rest ++ drop (e + length cut) s =
        erased (length p) (omega (arith, prefix-long))
        ∙ ap (λ (n : ℕ). replicate n 255) (omega (arith, prefix-long, cut-long))
        ∙ sym (replicate-append-replicate (record_cost unit (length body) - done * unit) (length s - e - length cut) 255)
        ∙ ap (λ (l : List ℕ). rest ++ l) (sym (erased (length cut) (omega (arith, cut-long)))) in
        ap (λ (l : List ℕ). take e s ++ (p ++ l)) behind ∙ ap (λ (l : List ℕ). take e s ++ l) (sym (append_assoc p rest (drop (e + length cut) s)))

    -- ---- the body that the cut record spells

    abbrev pub body_put : ℕ
    body_put = done * unit - unit

    rest-is : drop unit (cut_record unit body done) ≡ take (done * unit - unit) (filled unit body ++ tail) ++ replicate (record_cost unit (length body) - done * unit) 255
    rest-is =
        let r : List ℕ = replicate (record_cost unit (length body) - done * unit) 255 in
        let all : done * unit ≡ unit + (done * unit - unit) = omega (arith, unit-part) in
        drop-append-le unit (take (done * unit) (record_image unit body)) r (omega (arith, prefix-long, unit-part))
        ∙ ap (λ (n : ℕ). drop unit (take n (record_image unit body)) ++ r) all
        ∙ ap (λ (l : List ℕ). l ++ r) (drop-take unit (done * unit - unit) (record_image unit body))
        ∙ ap (λ (l : List ℕ). take (done * unit - unit) l ++ r) image-rest

    spelled-rest : spelled unit body done ≡ take (length body) (take (done * unit - unit) (filled unit body ++ tail) ++ replicate (record_cost unit (length body) - done * unit) 255)
    spelled-rest =
        let n : unit + length body - unit ≡ length body = omega arith in
        ap (λ (k : ℕ). take k (drop unit (cut_record unit body done))) n ∙ ap (take (length body)) rest-is

    whole-long : length (filled unit body ++ tail) ≡ padded unit (length body) + unit
    whole-long = length-append (filled unit body) tail ∙ ap (λ (n : ℕ). n + length tail) body-long ∙ ap (λ (n : ℕ). padded unit (length body) + n) tail-long

    spelled-all : length body < done * unit - unit → spelled unit body done ≡ body
    spelled-all more =
        let pad = (padding unit is_unit).no_less (length body) in
        let m : ℕ = done * unit - unit in
        let r : List ℕ = replicate (record_cost unit (length body) - done * unit) 255 in
        let put : length (take m (filled unit body ++ tail)) ≡ m = length-take-le m (filled unit body ++ tail) (omega (arith, whole-long)) in
        spelled-rest
        ∙ take-append-le (length body) (take m (filled unit body ++ tail)) r (omega (arith, put))
        ∙ take-take (length body) m (filled unit body ++ tail) (omega arith)
        ∙ take-append-le (length body) (filled unit body) tail (omega (arith, body-long))
        ∙ take-filled unit body

    spelled-prefix : done * unit - unit ≤ length body → spelled unit body done ≡ take (done * unit - unit) body ++ replicate (length body - (done * unit - unit)) 255
    spelled-prefix le =
        let pad = (padding unit is_unit).no_less (length body) in
        let m : ℕ = done * unit - unit in
        let a : List ℕ = replicate (length body - m) 255 in
        let b : ℕ = record_cost unit (length body) - done * unit - (length body - m) in
        let r : List ℕ = replicate (record_cost unit (length body) - done * unit) 255 in
        let split : replicate {A = ℕ} (record_cost unit (length body) - done * unit) 255 ≡ replicate (length body - m) 255 ++ replicate b 255 =
        ap (λ (n : ℕ). replicate {A = ℕ} n 255) (omega (arith, unit-part)) ∙ sym (replicate-append-replicate (length body - m) b 255) in
        let prefix : take m (filled unit body ++ tail) ≡ take m body =
        take-append-le m (filled unit body) tail (omega (arith, body-long)) ∙ sym (take-take m (length body) (filled unit body) le) ∙ ap (take m) (take-filled unit body) in
        let long : length (take m body ++ a) ≡ length body = length-append (take m body) a ∙ ap (λ (n : ℕ). n + length a) (length-take-le m body le) ∙ ap (λ (n : ℕ). m + n) (length-replicate {A = ℕ} (length body - m) 255) ∙ omega arith in
        spelled-rest
        ∙ ap (λ (l : List ℕ). take (length body) (l ++ r)) prefix
        ∙ ap (λ (l : List ℕ). take (length body) (take m body ++ l)) split
        ∙ ap (take (length body)) (sym (append_assoc (take m body) a (replicate b 255)))
        ∙ take_at (take m body ++ a) (replicate b 255) (length body) long

    -- its first bytes, with FF behind them
    pub spelled-is : spelled unit body done ≡ take (done * unit - unit) body ++ replicate (length body - (done * unit - unit)) 255
    spelled-is = elim (cases_lt (length body) (done * unit - unit)) [
      | inl more ↦
          let none : length body - (done * unit - unit) ≡ 0 = omega arith in
          spelled-all more
          ∙ sym (append-nil body) ∙ ap (λ (l : List ℕ). l ++ []) (sym (take_all (done * unit - unit) body (omega arith)))
          ∙ ap (λ (n : ℕ). take (done * unit - unit) body ++ replicate n 255) (sym none)
      | inr le ↦ spelled-prefix le
    ]

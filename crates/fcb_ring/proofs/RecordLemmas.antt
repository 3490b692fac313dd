-- What reading one record rests on.
use Rattle.std.proofs.Common.{◌≡◌, ℕ, ◌+◌, ◌-◌, ◌%◌, ◌<◌, ◌≤◌, Bool, true, false, cond, leb, ◌&&◌, Option, Some, None, List, [], ◌∷◌, ◌++◌, length, get_or, drop, inl, inr, refl, sym, ap, subst, ◌∙◌, arith}
use Rattle.std.specs.List.{AllByRecursion}
use Rattle.std.specs.Prelude.{bit_xor, slice_range}
use Rattle.std.proofs.lemmas.Nat.{xor_lt}
use Rattle.std.proofs.lemmas.Bool.{cases_lt, le-leb, leb-true}
use Rattle.std.proofs.lemmas.List.{get_or-take, get_or-drop, get_or_past, length-take}
use Rattle.std.proofs.lemmas.List.Elements.{recursion_from_All, All-from_get_or}
use Rattle.crc8_entry.specs.Crc.{crc}
use Rattle.crc8_entry.proofs.Bytes.{by_bytes, crc-by_bytes, zeros, zeros-small}
use Rattle.flash_map.specs.Units.{IsUnit, padded}
use Rattle.flash_map.proofs.Rounding.{by_unit, padding}
use Rattle.fcb_ring.specs.declared.record.Extent.{Extent}
use Rattle.fcb_ring.specs.declared.record.Record.{Record}
use Rattle.std.specs.Option.{option_map}
use Rattle.fcb_ring.specs.Records.{body_len, field_width, has_record, record_of, record_at, extent_of}
use Rattle.fcb_ring.proofs.Walks.{Advances}

by_bytes-append : (r : ℕ) (xs ys : List ℕ) → by_bytes r (xs ++ ys) ≡ by_bytes (by_bytes r xs) ys
unfolding by_bytes
by_bytes-append r [] ys = refl
by_bytes-append r (x ∷ xs) ys = by_bytes-append (zeros (bit_xor r x)) xs ys

by_bytes-small : (r : ℕ) (xs : List ℕ) → r < 256 → AllByRecursion (λ byte. byte < 256) xs → by_bytes r xs < 256
unfolding by_bytes
by_bytes-small r [] small are = small
by_bytes-small r (x ∷ xs) small are = by_bytes-small (zeros (bit_xor r x)) xs (zeros-small (bit_xor r x) (xor_lt 8 r x small are.0)) are.1

append-small : (xs ys : List ℕ) → AllByRecursion (λ byte. byte < 256) xs → AllByRecursion (λ byte. byte < 256) ys → AllByRecursion (λ byte. byte < 256) (xs ++ ys)
append-small [] ys first second = second
append-small (x ∷ xs) ys first second = (first.0, append-small xs ys first.1 second)

are_bytes : (xs : List ℕ) → ((k : ℕ) → get_or xs k 0 < 256) → AllByRecursion (λ byte. byte < 256) xs
are_bytes xs fits = recursion_from_All (λ (byte : ℕ). byte < 256) xs (All-from_get_or (λ (byte : ℕ). byte < 256) xs 0 (λ k h. fits k))

-- the CRC goes on over what follows
pub crc_of_two : (start : ℕ) (xs ys : List ℕ) → start < 256 → ((k : ℕ) → get_or xs k 0 < 256) → ((k : ℕ) → get_or ys k 0 < 256) → crc (crc start xs) ys ≡ crc start (xs ++ ys)
crc_of_two start xs ys small first second =
    let one = are_bytes xs first in
    let two = are_bytes ys second in
    let e : crc start xs ≡ by_bytes start xs = crc-by_bytes start xs small one in
    ap (λ (n : ℕ). crc n ys) e ∙ crc-by_bytes (by_bytes start xs) ys (by_bytes-small start xs small one) two ∙ sym (by_bytes-append start xs ys) ∙ sym (crc-by_bytes start (xs ++ ys) small (append-small xs ys one two))

range_bytes : (xs : List ℕ) (i j : ℕ) → ((k : ℕ) → get_or xs k 0 < 256) → (k : ℕ) → get_or (slice_range xs i j) k 0 < 256
range_bytes xs i j fits k = elim (cases_lt k (j - i)) [
  | inl lt ↦ let e : get_or (slice_range xs i j) k 0 ≡ get_or xs (i + k) 0 = get_or-take (j - i) (drop i xs) k 0 lt ∙ get_or-drop i xs k 0 in let h = fits (i + k) in omega arith
  | inr ge ↦ let e : get_or (slice_range xs i j) k 0 ≡ 0 = get_or_past (slice_range xs i j) k 0 (omega (arith, length-take {A = ℕ})) in omega arith
]

-- the CRC of the length field and the body, in two calls
pub crc_by_parts : (sector : List ℕ) (at width body len first second : ℕ) → ((k : ℕ) → get_or sector k 0 < 256) → width ≡ field_width (get_or sector at 0)
    → first ≡ crc 255 (slice_range sector at (at + width)) → second ≡ crc first (slice_range sector body (body + len))
    → second ≡ crc 255 (slice_range sector at (at + field_width (get_or sector at 0)) ++ slice_range sector body (body + len))
crc_by_parts sector at width body len first second fits w one two =
    two ∙ ap (λ (n : ℕ). crc n (slice_range sector body (body + len))) one
    ∙ crc_of_two 255 (slice_range sector at (at + width)) (slice_range sector body (body + len)) (omega arith) (range_bytes sector at (at + width) fits) (range_bytes sector body (body + len) fits)
    ∙ ap (λ (n : ℕ). crc 255 (slice_range sector at (at + n) ++ slice_range sector body (body + len))) w

-- What a record that is read is.
pub record IsRead (unit : ℕ) (sector : List ℕ) (at : ℕ) (r : Record) : Type 0 where
  pub is : r ≡ record_of unit sector at
  pub there : has_record sector at ≡ true
  pub fits : r.end ≤ length sector

some-same : (x r : Record) → Some x ≡ Some r → x ≡ r
some-same x r e = cc

some-of_none : (r : Record) → None ≡ Some r → ⊥
some-of_none r e = cc

read-by : (sector : List ℕ) (a b : Bool) (x r : Record) → cond (a && b) (Some x) None ≡ Some r → (r ≡ x) × (a ≡ true) × (b ≡ true)
read-by sector true true x r e = (sym (some-same x r e), refl, refl)
read-by sector true false x r e = absurd (some-of_none r e)
read-by sector false b x r e = absurd (some-of_none r e)

pub read : (unit : ℕ) (sector : List ℕ) (at : ℕ) (r : Record) → record_at unit sector at ≡ Some r → IsRead unit sector at r
unfolding record_at
read unit sector at r some =
    let h = read-by sector (has_record sector at) (leb (record_of unit sector at).end (length sector)) (record_of unit sector at) r some in
    let le : (record_of unit sector at).end ≤ length sector = leb-true (record_of unit sector at).end (length sector) h.2 in
    record { is = h.0; there = h.1; fits = subst (λ (q : Record). q.end ≤ length sector) (sym h.0) le }

-- and the other way
pub reads : (unit : ℕ) (sector : List ℕ) (at : ℕ) → has_record sector at ≡ true → (record_of unit sector at).end ≤ length sector → record_at unit sector at ≡ Some (record_of unit sector at)
unfolding record_at
reads unit sector at there fits = rw (there, le-leb (record_of unit sector at).end (length sector) fits) refl

pub reads_none : (unit : ℕ) (sector : List ℕ) (at : ℕ) → has_record sector at ≡ false → record_at unit sector at ≡ None
unfolding record_at
reads_none unit sector at there = rw there refl

pub end-of : (unit : ℕ) (sector : List ℕ) (at : ℕ) → (record_of unit sector at).end ≡ at + unit + padded unit (body_len (get_or sector at 0) (get_or sector (at + 1) 0)) + unit
unfolding record_of
end-of unit sector at = refl

pub end-fields : (unit : ℕ) (sector : List ℕ) (at : ℕ) → (record_of unit sector at).end ≡ (record_of unit sector at).body + padded unit (record_of unit sector at).len + unit
unfolding record_of
end-fields unit sector at = refl

pub body-of : (unit : ℕ) (sector : List ℕ) (at : ℕ) → (record_of unit sector at).body ≡ at + unit
unfolding record_of
body-of unit sector at = refl

pub offset-of : (unit : ℕ) (sector : List ℕ) (at : ℕ) → (record_of unit sector at).offset ≡ at
unfolding record_of
offset-of unit sector at = refl

pub advances : (unit : ℕ) (sector : List ℕ) → IsUnit unit → Advances (record_at unit sector) (length sector)
advances unit sector is_unit at r some =
    let h = read unit sector at r some in
    let pad = padding unit is_unit in
    let e : r.end ≡ at + unit + padded unit (body_len (get_or sector at 0) (get_or sector (at + 1) 0)) + unit = ap (λ (q : Record). q.end) h.is ∙ end-of unit sector at in
    (omega (arith, pad.positive), h.fits)

pub unit_aligned : (unit : ℕ) → IsUnit unit → unit % unit ≡ 0
unit_aligned = by_unit (λ unit. unit % unit ≡ 0) refl refl refl

-- a record starts and ends at whole units
pub aligned_after : (unit : ℕ) (sector : List ℕ) → IsUnit unit → (at : ℕ) (r : Record) → record_at unit sector at ≡ Some r → at % unit ≡ 0 → r.end % unit ≡ 0
aligned_after unit sector is_unit at r some aligned =
    let h = read unit sector at r some in
    let pad = padding unit is_unit in
    let len = body_len (get_or sector at 0) (get_or sector (at + 1) 0) in
    let e : r.end ≡ at + unit + padded unit len + unit = ap (λ (q : Record). q.end) h.is ∙ end-of unit sector at in
    let self = unit_aligned unit is_unit in
    ap (λ (n : ℕ). n % unit) e
    ∙ pad.sum_aligned (at + unit + padded unit len) unit (pad.sum_aligned (at + unit) (padded unit len) (pad.sum_aligned at unit aligned self) (pad.aligned len)) self

-- where the sector goes on, a whole unit does
pub unit_there : (unit : ℕ) → IsUnit unit → (size at : ℕ) → size % unit ≡ 0 → at % unit ≡ 0 → at < size → at + unit ≤ size
unit_there = by_unit (λ unit. (size at : ℕ) → size % unit ≡ 0 → at % unit ≡ 0 → at < size → at + unit ≤ size)
    (λ size at s a lt. omega arith) (λ size at s a lt. omega arith) (λ size at s a lt. omega arith)

pub header_fits : (unit : ℕ) → IsUnit unit → (padded unit 8 % unit ≡ 0) × (8 ≤ padded unit 8) × (padded unit 8 ≤ 16)
unfolding padded
header_fits = by_unit (λ unit. (padded unit 8 % unit ≡ 0) × (8 ≤ padded unit 8) × (padded unit 8 ≤ 16)) (refl, omega arith, omega arith) (refl, omega arith, omega arith) (refl, omega arith, omega arith)

pub unit_least : (unit : ℕ) → IsUnit unit → 4 ≤ unit
unit_least = by_unit (λ unit. 4 ≤ unit) (omega arith) (omega arith) (omega arith)

-- a record begins with a whole unit
pub begins-within : (unit : ℕ) (sector : List ℕ) (at : ℕ) → record_at unit sector at ≡ Some (record_of unit sector at) → at + unit ≤ length sector
begins-within unit sector at some =
    let fits = (read unit sector at (record_of unit sector at) some).fits in
    let end = end-fields unit sector at in
    let body = body-of unit sector at in
    omega (arith, fits, end, body)

-- how far a record goes that reads
pub record IsExtent (unit : ℕ) (sector : List ℕ) (at : ℕ) (extent : Extent) : Type 0 where
  pub some : record_at unit sector at ≡ Some (record_of unit sector at)
  pub same : extent_of (record_of unit sector at) ≡ extent
  pub no_less : unit + 1 ≤ extent.end - at
  pub at_most : extent.end ≤ length sector
  pub body : at + unit + extent.len ≤ length sector
  pub crc_at : extent.end - unit ≡ at + unit + padded unit extent.len

extent_same : (x extent : Extent) → Some x ≡ Some extent → x ≡ extent
extent_same x extent e = cc

extent_clash : (extent : Extent) → None ≡ Some extent → ⊥
extent_clash extent e = cc

pub extent : (unit : ℕ) (sector : List ℕ) (at : ℕ) (q : Extent) → IsUnit unit → option_map extent_of (record_at unit sector at) ≡ Some q → IsExtent unit sector at q
extent unit sector at q is_unit e = by (record_at unit sector at) refl
  where
    by : (o : Option Record) → record_at unit sector at ≡ o → IsExtent unit sector at q
    by None is = absurd (extent_clash q (sym (ap (λ (o : Option Record). option_map extent_of o) is) ∙ e))
    by (Some r) is =
        let h = read unit sector at r is in
        let same : extent_of r ≡ q = extent_same (extent_of r) q (sym (ap (λ (o : Option Record). option_map extent_of o) is) ∙ e) in
        let this = record_of unit sector at in
        let len : this.len ≡ q.len = ap (λ (r : Record). r.len) (sym h.is) ∙ ap (λ (q : Extent). q.len) same in
        let end : this.end ≡ q.end = ap (λ (r : Record). r.end) (sym h.is) ∙ ap (λ (q : Extent). q.end) same in
        let fits = h.fits in
        let r_end : r.end ≡ q.end = ap (λ (q : Extent). q.end) same in
        let body = body-of unit sector at in
        let all : q.end ≡ at + unit + padded unit q.len + unit = sym end ∙ end-fields unit sector at ∙ ap (λ (n : ℕ). this.body + padded unit n + unit) len ∙ ap (λ (n : ℕ). n + padded unit q.len + unit) body in
        let pad = padding unit is_unit in
        let positive = pad.positive in
        let longer = pad.no_less q.len in
        record {
          some = is ∙ ap (λ (r : Record). Some r) h.is;
          same = ap extent_of (sym h.is) ∙ same;
          no_less = omega (arith, all, positive);
          at_most = omega (arith, fits, r_end);
          body = omega (arith, all, longer, fits, r_end);
          crc_at = omega (arith, all);
        }

pub no_extent : (unit : ℕ) (sector : List ℕ) (at : ℕ) → option_map extent_of (record_at unit sector at) ≡ None → record_at unit sector at ≡ None
no_extent unit sector at e = by (record_at unit sector at) e
  where
    clash : (r : Record) → Some (extent_of r) ≡ None → ⊥
    clash r e = cc

    by : (o : Option Record) → option_map extent_of o ≡ None → o ≡ None
    by None e = refl
    by (Some r) e = absurd (clash r e)

-- the record of this extent
pub made : (unit : ℕ) (sector : List ℕ) (at : ℕ) (q : Extent) (checks is : Bool) → extent_of (record_of unit sector at) ≡ q → checks ≡ is
    → ◌≡◌ {A = Record} (record { offset = at; body = at + unit; len = q.len; end = q.end; checks = checks }) (record (record_of unit sector at) { checks = is })
unfolding record_of
made unit sector at q checks is same e =
    let this = record_of unit sector at in
    let with : (Extent → Bool → Record) = λ q b. record { offset = at; body = at + unit; len = q.len; end = q.end; checks = b } in
    sym (ap (λ (q : Extent). with q checks) same) ∙ ap (λ (b : Bool). with (extent_of this) b) e

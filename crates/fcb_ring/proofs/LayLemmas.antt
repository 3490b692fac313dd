-- A record that is laid behind the records of a sector, whole or cut.
use Rattle.std.proofs.Common.{◌≡◌, ℕ, ◌+◌, ◌-◌, ◌%◌, ◌<◌, ◌≤◌, Bool, true, false, cond, not, ◌&&◌, eqb, ltb, ◌||◌, List, [], ◌∷◌, ◌++◌, length, map, get_or, take, drop, replicate, Some, None, inl, inr, refl, sym, ap, subst, ◌∙◌, arith, rules}
use Rattle.std.specs.Prelude.{slice_range, nat_eq}
use Rattle.std.specs.List.{filter, starts_with}
use Rattle.std.proofs.lemmas.Bool.{cases_lt, and_from, and_left, and_right, lt-ltb, le-ltb, eq-eqb, not_from_false, not_from_true, and_parts, eqb-true, ne_eqb, or_from}
use Rattle.std.proofs.lemmas.List.{places, same_lists, take-take, get_or-drop, get_or-replicate, drop-drop, drop-replicate, map-append}
use Rattle.std.proofs.lemmas.List.Elements.{filter-append}
use Rattle.flash_sim.specs.Device.{overwritten}
use Rattle.flash_map.specs.Units.{IsUnit, padded, is_erased}
use Rattle.flash_map.proofs.ErasedBytes.{erased_from}
use Rattle.flash_map.proofs.Ranges.{range_below, get_or_below, drop-put, take-put}
use Rattle.flash_map.proofs.Rounding.{by_unit, padding}
use Rattle.flash_map.proofs.Sectors.{length-overwritten}
use Rattle.fcb_ring.specs.declared.record.Record.{Record}
use Rattle.fcb_ring.specs.declared.record.RecordAt.{RecordAt}
use Rattle.fcb_ring.specs.Records.{body_len, field_width, has_record, checks_at, record_of, record_at, records, records_end, walk}
use Rattle.fcb_ring.specs.SectorStates.{IsSector, is_torn, id_of, state_of, lead, magic}
use Rattle.fcb_ring.specs.Entries.{placed, entry_of, sector_entries}
use Rattle.fcb_ring.specs.Gains.{with_body, sector_records}
use Rattle.fcb_ring.proofs.Walks.{walk_end, Advances, walk-none, walk-next, walk_end-none, walk_end-next, walk_end-within, walk_end-keeps, walk-more, walk_end-more, walk-agree, walk-agree_all}
use Rattle.fcb_ring.proofs.RecordLemmas.{read, reads, reads_none, advances, aligned_after, end-of, end-fields, unit_there, header_fits}

-- the records of two sectors agree where their bytes do
pub same_record : (unit : ℕ) (s t : List ℕ) (at : ℕ) → get_or t at 0 ≡ get_or s at 0 → get_or t (at + 1) 0 ≡ get_or s (at + 1) 0
    → slice_range t at (at + field_width (get_or s at 0)) ≡ slice_range s at (at + field_width (get_or s at 0))
    → slice_range t (at + unit) (at + unit + body_len (get_or s at 0) (get_or s (at + 1) 0)) ≡ slice_range s (at + unit) (at + unit + body_len (get_or s at 0) (get_or s (at + 1) 0))
    → get_or t (at + unit + padded unit (body_len (get_or s at 0) (get_or s (at + 1) 0))) 0 ≡ get_or s (at + unit + padded unit (body_len (get_or s at 0) (get_or s (at + 1) 0))) 0
    → record_of unit t at ≡ record_of unit s at
unfolding record_of checks_at
same_record unit s t at first second field body crc_byte = rw (first, second, field, body, crc_byte) refl

pub width-most : (first : ℕ) → (0 < field_width first) × (field_width first ≤ 2)
unfolding field_width
width-most first = elim (cases_lt first 128) [
  | inl lt ↦ rw (lt-ltb first 128 lt) (omega arith, omega arith)
  | inr ge ↦ rw (le-ltb first 128 ge) (omega arith, omega arith)
]

-- no record stands where all is erased
pub blank_none : (s : List ℕ) (at : ℕ) → (at < length s → at + 1 < length s) → drop at s ≡ replicate (length s - at) 255 → has_record s at ≡ false
unfolding has_record
blank_none s at pair blank = elim (cases_lt at (length s)) [
  | inl lt ↦
      let next = pair lt in
      let here : at + 0 ≡ at = omega arith in
      let first : get_or s at 0 ≡ 255 = sym (get_or-drop at s 0 0 ∙ ap (λ (n : ℕ). get_or s n 0) here) ∙ ap (λ (l : List ℕ). get_or l 0 0) blank ∙ get_or-replicate {A = ℕ} (length s - at) 0 255 0 (omega arith) in
      let second : get_or s (at + 1) 0 ≡ 255 = sym (get_or-drop at s 1 0) ∙ ap (λ (l : List ℕ). get_or l 1 0) blank ∙ get_or-replicate {A = ℕ} (length s - at) 1 255 0 (omega arith) in
      and_right (ltb at (length s)) (not (eqb (get_or s at 0) 255 && eqb (get_or s (at + 1) 0) 255))
      (not_from_true (eqb (get_or s at 0) 255 && eqb (get_or s (at + 1) 0) 255) (and_from (eqb (get_or s at 0) 255) (eqb (get_or s (at + 1) 0) 255) (eq-eqb (get_or s at 0) 255 first) (eq-eqb (get_or s (at + 1) 0) 255 second)))
  | inr ge ↦ and_left (ltb at (length s)) (not (eqb (get_or s at 0) 255 && eqb (get_or s (at + 1) 0) 255)) (le-ltb at (length s) ge)
]

-- a sector with a header is not free
pub header_used : (s : List ℕ) → starts_with nat_eq s lead ≡ true → (is_erased s || is_torn s) ≡ false
unfolding is_torn
header_used s h = or_from (is_erased s) (starts_with nat_eq s magic && is_erased (drop 4 s)) (not_erased s h) (and_right (starts_with nat_eq s magic) (is_erased (drop 4 s)) (not_torn s h))
  where
    not_erased : (s : List ℕ) → starts_with nat_eq s lead ≡ true → is_erased s ≡ false
    not_erased [] h = absurd (clash h)
      where
        clash : false ≡ true → ⊥
        clash e = cc
    not_erased (a ∷ s) h = let p = and_parts (nat_eq 238 a) _ h in and_left (eqb a 255) (is_erased s) (ne_eqb a 255 (λ (e : a ≡ 255). omega (arith, e, eqb-true 238 a p.0)))

    not_torn : (s : List ℕ) → starts_with nat_eq s lead ≡ true → is_erased (drop 4 s) ≡ false
    not_torn (a ∷ b ∷ c ∷ d ∷ e ∷ s) h =
        let p = and_parts (nat_eq 238 a) _ h in
        let q = and_parts (nat_eq 238 b) _ p.1 in
        let r = and_parts (nat_eq 255 c) _ q.1 in
        let t = and_parts (nat_eq 192 d) _ r.1 in
        let u = and_parts (nat_eq 1 e) _ t.1 in
        and_left (eqb e 255) (is_erased s) (ne_eqb e 255 (λ (x : e ≡ 255). omega (arith, x, eqb-true 1 e u.0)))
    not_torn (a ∷ b ∷ c ∷ d ∷ []) h = absurd (clash (sym (and_right (nat_eq 238 a) _ (and_right (nat_eq 238 b) _ (and_right (nat_eq 255 c) _ (and_right (nat_eq 192 d) false refl)))) ∙ h))
      where
        clash : false ≡ true → ⊥
        clash e = cc
    not_torn (a ∷ b ∷ c ∷ []) h = absurd (clash (sym (and_right (nat_eq 238 a) _ (and_right (nat_eq 238 b) _ (and_right (nat_eq 255 c) false refl))) ∙ h))
      where
        clash : false ≡ true → ⊥
        clash e = cc
    not_torn (a ∷ b ∷ []) h = absurd (clash (sym (and_right (nat_eq 238 a) _ (and_right (nat_eq 238 b) false refl)) ∙ h))
      where
        clash : false ≡ true → ⊥
        clash e = cc
    not_torn (a ∷ []) h = absurd (clash (sym (and_right (nat_eq 238 a) false refl) ∙ h))
      where
        clash : false ≡ true → ⊥
        clash e = cc
    not_torn [] h = absurd (clash h)
      where
        clash : false ≡ true → ⊥
        clash e = cc

-- only the first six bytes say whether a header stands there
prefix_same : (xs ys : List ℕ) → take 6 xs ≡ take 6 ys → starts_with nat_eq xs lead ≡ starts_with nat_eq ys lead
prefix_same xs ys same = taken xs ∙ ap (λ (l : List ℕ). starts_with nat_eq l lead) same ∙ sym (taken ys)
  where
    taken : (zs : List ℕ) → starts_with nat_eq zs lead ≡ starts_with nat_eq (take 6 zs) lead
    taken zs = sym (again zs)
      where
        again : (zs : List ℕ) → starts_with nat_eq (take 6 zs) lead ≡ starts_with nat_eq zs lead
        again zs = rw (take-take 6 6 zs (omega arith)) refl

-- ---- bytes that are laid where the records end

-- The bytes have room behind the records, where all is erased, and read as one record that fills them.
pub record CanLay (unit : ℕ) (s y : List ℕ) (len : ℕ) : Type 0 where
  pub sector : IsSector unit s
  pub fits : records_end unit s + length y ≤ length s
  pub blank : drop (records_end unit s) s ≡ replicate (length s - records_end unit s) 255
  pub long : length y ≡ unit + padded unit len + unit
  pub says : body_len (get_or y 0 0) (get_or y 1 0) ≡ len
  pub there : (eqb (get_or y 0 0) 255 && eqb (get_or y 1 0) 255) ≡ false

get-in : (s : List ℕ) (e : ℕ) (y : List ℕ) (i : ℕ) → e + length y ≤ length s → i < length y → get_or (overwritten s e y) (e + i) 0 ≡ get_or y i 0
get-in s e y i fits lt = grind (arith, places)

range-in : (s : List ℕ) (e : ℕ) (y : List ℕ) (a b : ℕ) → e + length y ≤ length s → b ≤ length y → slice_range (overwritten s e y) (e + a) (e + b) ≡ slice_range y a b
range-in s e y a b fits le = same_lists _ _ (search (rules, places)) (λ k d h. grind (arith, places))

pub end-after-header : (unit : ℕ) (s : List ℕ) → IsSector unit s → (padded unit 8 ≤ records_end unit s) × (records_end unit s ≤ length s) × (records_end unit s % unit ≡ 0)
unfolding records records_end
end-after-header unit s sector =
    let header = header_fits unit sector.is_unit in
    let first = advances unit s sector.is_unit in
    let bounds = walk_end-within (record_at unit s) (length s) (length s) (padded unit 8) first (omega (arith, header.2, sector.long)) in
    (bounds.0, bounds.1, walk_end-keeps (record_at unit s) (λ (k : ℕ). k % unit ≡ 0) (length s) (padded unit 8) (λ k r some aligned. aligned_after unit s sector.is_unit k r some aligned) header.0)

module _ (unit : ℕ) (s y : List ℕ) (len : ℕ) (h : CanLay unit s y len) where
  abbrev e : ℕ
  e = records_end unit s

  abbrev new : List ℕ
  new = overwritten s (records_end unit s) y

  is_unit : IsUnit unit
  is_unit = h.sector.is_unit

  pub laid-long : length (overwritten s (records_end unit s) y) ≡ length s
  laid-long = length-overwritten s e y h.fits

  positive : (0 < unit) × (8 ≤ e) × (2 ≤ length y)
  positive =
      let bounds = end-after-header unit s h.sector in
      let header = header_fits unit is_unit in
      ((padding unit is_unit).positive, omega arith, omega (arith, h.long, four))
    where
      four : 4 ≤ unit
      four = by_unit (λ u. 4 ≤ u) (omega arith) (omega arith) (omega arith) unit h.sector.is_unit

  same-has : (k : ℕ) → get_or new k 0 ≡ get_or s k 0 → get_or new (k + 1) 0 ≡ get_or s (k + 1) 0 → has_record s k ≡ true → has_record new k ≡ true
  unfolding has_record
  same-has k a b there = rw (a, b) (ap (λ (n : ℕ). ltb k n && not (eqb (get_or s k 0) 255 && eqb (get_or s (k + 1) 0) 255)) laid-long ∙ there)

  -- what lies before it is read as before
  same-before : (k : ℕ) (r : Record) → record_at unit s k ≡ Some r → r.end ≤ records_end unit s → record_at unit new k ≡ Some r
  same-before k r some le =
      let it = read unit s k r some in
      let first = get_or s k 0 in
      let second = get_or s (k + 1) 0 in
      let pad = padding unit is_unit in
      let end : r.end ≡ k + unit + padded unit (body_len (get_or s k 0) (get_or s (k + 1) 0)) + unit = ap (λ (q : Record). q.end) it.is ∙ end-of unit s k in
      let four : 4 ≤ unit = by_unit (λ u. 4 ≤ u) (omega arith) (omega arith) (omega arith) unit h.sector.is_unit in
      let w = width-most first in
      let a = get_or_below s e y k (omega (arith, h.fits)) (omega arith) in
      let b = get_or_below s e y (k + 1) (omega (arith, h.fits)) (omega arith) in
      let field = range_below s e y k (k + field_width first) (omega (arith, h.fits)) (omega arith) in
      let body = range_below s e y (k + unit) (k + unit + body_len first second) (omega (arith, h.fits)) (omega (arith, pad.no_less (body_len first second))) in
      let crc_byte = get_or_below s e y (k + unit + padded unit (body_len first second)) (omega (arith, h.fits)) (omega arith) in
      let same = same_record unit s new k a b field body crc_byte in
      reads unit new k (same-has k a b it.there) (subst (λ (q : Record). q.end ≤ length new) (it.is ∙ sym same) (omega (arith, it.fits, laid-long))) ∙ ap (λ (q : Record). Some q) (same ∙ sym it.is)

  -- and then the record itself
  first-is : get_or new e 0 ≡ get_or y 0 0
  first-is = let none : e + 0 ≡ e = omega arith in sym (ap (λ (n : ℕ). get_or new n 0) none) ∙ get-in s e y 0 h.fits (omega (arith, positive.2))

  second-is : get_or new (e + 1) 0 ≡ get_or y 1 0
  second-is = get-in s e y 1 h.fits (omega (arith, positive.2))

  pub laid : Record
  laid = record_of unit new e

  len-is : body_len (get_or new e 0) (get_or new (e + 1) 0) ≡ len
  len-is = rw (first-is, second-is) h.says

  pub laid-end : (record_of unit (overwritten s (records_end unit s) y) (records_end unit s)).end ≡ records_end unit s + length y
  laid-end = end-of unit new e ∙ ap (λ (n : ℕ). e + unit + padded unit n + unit) len-is ∙ omega (arith, h.long)

  laid-there : has_record new e ≡ true
  unfolding has_record
  laid-there =
      and_from (ltb e (length new)) (not (eqb (get_or new e 0) 255 && eqb (get_or new (e + 1) 0) 255)) (lt-ltb e (length new) (omega (arith, laid-long, h.fits, positive.2)))
      (not_from_false (eqb (get_or new e 0) 255 && eqb (get_or new (e + 1) 0) 255) (rw (first-is, second-is) h.there))

  laid-read : record_at unit new e ≡ Some (record_of unit new e)
  laid-read = reads unit new e laid-there (omega (arith, laid-end, laid-long, h.fits))

  behind-blank : drop (e + length y) new ≡ replicate (length new - (e + length y)) 255
  behind-blank =
      drop-put s e y (e + length y) h.fits (omega arith) ∙ sym (drop-drop (length y) e s) ∙ ap (drop (length y)) h.blank ∙ drop-replicate (length y) (length s - e) 255
      ∙ ap (λ (n : ℕ). replicate n 255) (omega (arith, laid-long))

  end-aligned : (e + length y) % unit ≡ 0
  end-aligned =
      ap (λ (n : ℕ). n % unit) (sym laid-end) ∙ aligned_after unit new is_unit e (record_of unit new e) laid-read (end-after-header unit s h.sector).2

  none-after : record_at unit new (e + length y) ≡ None
  none-after = reads_none unit new (e + length y) (blank_none new (e + length y) (λ lt.
      let four : 4 ≤ unit = by_unit (λ u. 4 ≤ u) (omega arith) (omega arith) (omega arith) unit h.sector.is_unit in
      let room = unit_there unit is_unit (length new) (e + length y) (ap (λ (n : ℕ). n % unit) laid-long ∙ h.sector.whole) end-aligned lt in omega arith) behind-blank)

  there-advances : Advances (record_at unit new) (length s)
  there-advances = subst (λ (n : ℕ). Advances (record_at unit new) n) laid-long (advances unit new is_unit)

  header-inside : padded unit 8 ≤ length s
  header-inside = let header = header_fits unit is_unit in omega (arith, h.sector.long)

  pub laid-records : records unit (overwritten s (records_end unit s) y) ≡ records unit s ++ record_of unit (overwritten s (records_end unit s) y) (records_end unit s) ∷ []
  unfolding records records_end
  laid-records =
      ap (λ (n : ℕ). walk (record_at unit new) n (padded unit 8)) laid-long
      ∙ walk-more (record_at unit s) (record_at unit new) (length s) e (advances unit s is_unit) there-advances same-before (length s) (padded unit 8) header-inside (omega arith)
      ∙ ap (λ rs. walk (record_at unit s) (length s) (padded unit 8) ++ rs)
      (walk-next (record_at unit new) (length s) e (record_of unit new e) there-advances laid-read
      ∙ ap (λ rs. record_of unit new e ∷ rs) (ap (walk (record_at unit new) (length s)) laid-end ∙ walk-none (record_at unit new) (length s) (e + length y) none-after))

  pub laid-records_end : records_end unit (overwritten s (records_end unit s) y) ≡ records_end unit s + length y
  unfolding records records_end
  laid-records_end = opened new ∙ inner
    where
      opened : (t : List ℕ) → records_end unit t ≡ walk_end (record_at unit t) (length t) (padded unit 8)
      opened t = refl

      inner : walk_end (record_at unit new) (length new) (padded unit 8) ≡ e + length y
      inner =
          ap (λ (n : ℕ). walk_end (record_at unit new) n (padded unit 8)) laid-long
          ∙ walk_end-more (record_at unit s) (record_at unit new) (length s) e (advances unit s is_unit) there-advances same-before (length s) (padded unit 8) header-inside (omega arith)
          ∙ walk_end-next (record_at unit new) (length s) e (record_of unit new e) there-advances laid-read
          ∙ ap (walk_end (record_at unit new) (length s)) laid-end ∙ walk_end-none (record_at unit new) (length s) (e + length y) none-after

  -- the state of the sector then
  lead-same : starts_with nat_eq new lead ≡ starts_with nat_eq s lead
  lead-same = prefix_same new s (take-put s e y 6 (omega (arith, h.fits)) (omega (arith, positive.1)))

  pub laid-header : (state_of unit (overwritten s (records_end unit s) y)).has_header ≡ (state_of unit s).has_header
  unfolding state_of
  laid-header = lead-same

  pub laid-id : (state_of unit (overwritten s (records_end unit s) y)).id ≡ (state_of unit s).id
  unfolding state_of id_of
  laid-id = rw (get_or_below s e y 6 (omega (arith, h.fits)) (omega (arith, positive.1)), get_or_below s e y 7 (omega (arith, h.fits)) (omega (arith, positive.1))) refl

  pub laid-used : (state_of unit s).has_header ≡ true → (state_of unit (overwritten s (records_end unit s) y)).is_free ≡ false
  unfolding state_of
  laid-used header = header_used new (lead-same ∙ header)

  pub laid-end_state : (state_of unit (overwritten s (records_end unit s) y)).end ≡ records_end unit s + length y
  unfolding state_of
  laid-end_state = laid-records_end

  pub laid-not_overfull : (state_of unit (overwritten s (records_end unit s) y)).is_overfull ≡ false
  unfolding state_of
  laid-not_overfull = ap (has_record new) laid-records_end ∙ blank_none new (e + length y) (λ lt.
      let four : 4 ≤ unit = by_unit (λ u. 4 ≤ u) (omega arith) (omega arith) (omega arith) unit h.sector.is_unit in
      let room = unit_there unit is_unit (length new) (e + length y) (ap (λ (n : ℕ). n % unit) laid-long ∙ h.sector.whole) end-aligned lt in omega arith) behind-blank

  pub laid-not_dirty : (state_of unit (overwritten s (records_end unit s) y)).is_dirty ≡ false
  unfolding state_of
  laid-not_dirty = not_from_true (is_erased (drop (records_end unit new) new)) (ap (λ (n : ℕ). is_erased (drop n new)) laid-records_end ∙ ap is_erased behind-blank ∙ erased_from (length new - (e + length y)))

  -- and the records that check
  checks-is : (record_of unit new e).checks ≡ checks_at y 0 unit len (unit + padded unit len)
  unfolding record_of checks_at
  checks-is =
      let four : 4 ≤ unit = by_unit (λ u. 4 ≤ u) (omega arith) (omega arith) (omega arith) unit h.sector.is_unit in
      let w = width-most (get_or y 0 0) in
      let pad = padding unit is_unit in
      let none : e + 0 ≡ e = omega arith in
      let field : slice_range new e (e + field_width (get_or y 0 0)) ≡ slice_range y 0 (0 + field_width (get_or y 0 0)) =
      sym (ap (λ (n : ℕ). slice_range new n (e + field_width (get_or y 0 0))) none) ∙ range-in s e y 0 (field_width (get_or y 0 0)) h.fits (omega (arith, h.long)) ∙ ap (λ (n : ℕ). slice_range y 0 n) (omega arith) in
      let sum : e + unit + len ≡ e + (unit + len) = omega arith in
      let body : slice_range new (e + unit) (e + unit + len) ≡ slice_range y unit (unit + len) =
      ap (λ (n : ℕ). slice_range new (e + unit) n) sum ∙ range-in s e y unit (unit + len) h.fits (omega (arith, h.long, pad.no_less len)) in
      let at : e + unit + padded unit len ≡ e + (unit + padded unit len) = omega arith in
      let byte : get_or new (e + unit + padded unit len) 0 ≡ get_or y (unit + padded unit len) 0 =
      ap (λ (n : ℕ). get_or new n 0) at ∙ get-in s e y (unit + padded unit len) h.fits (omega (arith, h.long, pad.positive)) in
      rw (len-is, first-is, field, body, byte) refl

  body-kept : (place k : ℕ) (r : Record) → record_at unit s k ≡ Some r → r.end ≤ e → entry_of place new r ≡ entry_of place s r
  body-kept place k r some le =
      let it = read unit s k r some in
      let pad = padding unit is_unit in
      let parts : r.end ≡ r.body + padded unit r.len + unit = subst (λ (q : Record). q.end ≡ q.body + padded unit q.len + unit) (sym it.is) (end-fields unit s k) in
      ap (λ (b : List ℕ). (placed place r, b)) (range_below s e y r.body (r.body + r.len) (omega (arith, h.fits)) (omega (arith, pad.no_less r.len)))

  entries-open : (place : ℕ) (t : List ℕ) → sector_entries unit place t ≡ map (entry_of place t) (filter (λ r. r.checks) (records unit t))
  unfolding sector_entries
  entries-open place t = refl

  old-part : (place : ℕ) → map (entry_of place new) (filter (λ r. r.checks) (records unit s)) ≡ sector_entries unit place s
  unfolding records records_end sector_entries
  old-part place = walk-agree (entry_of place new) (entry_of place s) (λ r. r.checks) (record_at unit s) (length s) e (advances unit s is_unit) (body-kept place) (length s) (padded unit 8) (omega arith)

  abbrev pub laid_entry : ℕ → RecordAt × List ℕ
  laid_entry place = entry_of place new (record_of unit new e)

  pub laid-entries : (place : ℕ) → sector_entries unit place (overwritten s (records_end unit s) y) ≡ sector_entries unit place s ++ cond (checks_at y 0 unit len (unit + padded unit len)) (laid_entry place ∷ []) []
  laid-entries place =
      entries-open place new ∙ ap (λ rs. map (entry_of place new) (filter (λ r. r.checks) rs)) laid-records
      ∙ ap (map (entry_of place new)) (filter-append (λ r. r.checks) (records unit s) (record_of unit new e ∷ []))
      ∙ map-append (entry_of place new) (filter (λ r. r.checks) (records unit s)) (filter (λ r. r.checks) (record_of unit new e ∷ []))
      ∙ ap (λ es. es ++ map (entry_of place new) (cond (record_of unit new e).checks (record_of unit new e ∷ []) [])) (old-part place)
      ∙ ap (λ (t : Bool). sector_entries unit place s ++ map (entry_of place new) (cond t (record_of unit new e ∷ []) [])) checks-is
      ∙ ap (λ es. sector_entries unit place s ++ es) (inside (checks_at y 0 unit len (unit + padded unit len)))
    where
      inside : (t : Bool) → map (entry_of place new) (cond t (record_of unit new e ∷ []) []) ≡ cond t (laid_entry place ∷ []) []
      inside true = refl
      inside false = refl

  pub laid-body : (place : ℕ) → (laid_entry place).1 ≡ slice_range y unit (unit + len)
  unfolding record_of
  laid-body place =
      let pad = padding unit is_unit in
      let sum : e + unit + len ≡ e + (unit + len) = omega arith in
      ap (λ (n : ℕ). slice_range new (e + unit) (e + unit + n)) len-is ∙ ap (λ (n : ℕ). slice_range new (e + unit) n) sum ∙ range-in s e y unit (unit + len) h.fits (omega (arith, h.long, pad.no_less len))

  -- and all records
  pub laid-len : (record_of unit (overwritten s (records_end unit s) y) (records_end unit s)).len ≡ len
  unfolding record_of
  laid-len = len-is

  pub laid-checks : (record_of unit (overwritten s (records_end unit s) y) (records_end unit s)).checks ≡ checks_at y 0 unit len (unit + padded unit len)
  laid-checks = checks-is

  all-open : (t : List ℕ) → sector_records unit t ≡ map (with_body t) (records unit t)
  unfolding sector_records
  all-open t = refl

  with-kept : (k : ℕ) (r : Record) → record_at unit s k ≡ Some r → r.end ≤ e → with_body new r ≡ with_body s r
  with-kept k r some le = ap (λ (x : RecordAt × List ℕ). (r, x.1)) (body-kept 0 k r some le)

  old-all : map (with_body new) (records unit s) ≡ sector_records unit s
  unfolding records records_end sector_records
  old-all = walk-agree_all (with_body new) (with_body s) (record_at unit s) (length s) e (advances unit s is_unit) with-kept (length s) (padded unit 8) (omega arith)

  pub laid-all : sector_records unit (overwritten s (records_end unit s) y) ≡ sector_records unit s ++ (record_of unit (overwritten s (records_end unit s) y) (records_end unit s), slice_range y unit (unit + len)) ∷ []
  laid-all =
      all-open new ∙ ap (map (with_body new)) laid-records
      ∙ map-append (with_body new) (records unit s) (record_of unit new e ∷ [])
      ∙ ap (λ (l : List (Record × List ℕ)). l ++ with_body new (record_of unit new e) ∷ []) old-all
      ∙ ap (λ (b : List ℕ). sector_records unit s ++ (record_of unit new e, b) ∷ []) (laid-body 0)

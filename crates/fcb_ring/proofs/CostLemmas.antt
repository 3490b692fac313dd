-- What the records of a sector cost.
use Rattle.std.proofs.Common.{◌≡◌, ℕ, zero, suc, ◌+◌, ◌-◌, ◌≤◌, Bool, true, false, cond, List, [], ◌∷◌, length, length-drop, map, drop, Option, Some, None, refl, sym, ap, subst, ◌∙◌, arith}
use Rattle.std.specs.Prelude.{slice_range}
use Rattle.std.specs.List.{filter, sum_by}
use Rattle.std.specs.Option.{option_map_or}
use Rattle.std.proofs.lemmas.List.{length-take-le}
use Rattle.std.proofs.lemmas.List.Sums.{sum_by-cons}
use Rattle.flash_map.specs.Units.{IsUnit, padded}
use Rattle.flash_map.proofs.Rounding.{padding}
use Rattle.fcb_ring.specs.declared.record.Record.{Record}
use Rattle.fcb_ring.specs.declared.record.RecordAt.{RecordAt}
use Rattle.fcb_ring.specs.Records.{record_at, walk, last_end, records, records_end}
use Rattle.fcb_ring.specs.Entries.{entry_of, sector_entries}
use Rattle.fcb_ring.specs.Writing.{record_cost}
use Rattle.fcb_ring.proofs.RecordLemmas.{read, end-fields, body-of}
use Rattle.fcb_ring.proofs.Walks.{walk_end, last_end-more}

-- the bytes that the records of a list take
abbrev pub list_cost : ℕ → List (RecordAt × List ℕ) → ℕ
list_cost unit list = sum_by (λ entry. record_cost unit (length entry.1)) list

range-long : (l : List ℕ) (from n : ℕ) → from + n ≤ length l → length (slice_range l from (from + n)) ≡ n
range-long l from n fits = length-take-le (from + n - from) (drop from l) (omega (arith, length-drop from l)) ∙ omega arith

module _ (unit place : ℕ) (s : List ℕ) (is_unit : IsUnit unit) where
  abbrev taken : List Record → ℕ
  taken rs = list_cost unit (map (entry_of place s) (filter (λ r. r.checks) rs))

  one : (r : Record) (at : ℕ) → record_at unit s at ≡ Some r → (r.end ≡ at + record_cost unit r.len) × (length (slice_range s r.body (r.body + r.len)) ≡ r.len)
  one r at some =
      let it = read unit s at r some in
      let pad = padding unit is_unit in
      let parts : r.end ≡ r.body + padded unit r.len + unit = subst (λ (q : Record). q.end ≡ q.body + padded unit q.len + unit) (sym it.is) (end-fields unit s at) in
      let from : r.body ≡ at + unit = ap (λ (q : Record). q.body) it.is ∙ body-of unit s at in
      (omega arith, range-long s r.body r.len (omega (arith, it.fits, pad.no_less r.len)))

  more : (r : Record) (rs : List Record) (b : Bool) → r.checks ≡ b → length (slice_range s r.body (r.body + r.len)) ≡ r.len → taken (r ∷ rs) ≤ record_cost unit r.len + taken rs
  more r rs true is long =
      let e : taken (r ∷ rs) ≡ record_cost unit (length (slice_range s r.body (r.body + r.len))) + taken rs =
      ap (λ (b : Bool). list_cost unit (map (entry_of place s) (cond b (r ∷ filter (λ r. r.checks) rs) (filter (λ r. r.checks) rs)))) is
      ∙ sum_by-cons (λ (entry : RecordAt × List ℕ). record_cost unit (length entry.1)) (entry_of place s r) (map (entry_of place s) (filter (λ r. r.checks) rs)) in
      let f : record_cost unit (length (slice_range s r.body (r.body + r.len))) ≡ record_cost unit r.len = ap (record_cost unit) long in
      omega arith
  more r rs false is long =
      let e : taken (r ∷ rs) ≡ taken rs =
      ap (λ (b : Bool). list_cost unit (map (entry_of place s) (cond b (r ∷ filter (λ r. r.checks) rs) (filter (λ r. r.checks) rs)))) is in
      omega arith

  costs : (n at : ℕ) → at + taken (walk (record_at unit s) n at) ≤ walk_end (record_at unit s) n at
  costs zero at = omega arith
  costs (suc n) at = by (λ k. costs n k) (record_at unit s at) refl
    where
      by : ((k : ℕ) → k + taken (walk (record_at unit s) n k) ≤ walk_end (record_at unit s) n k) → (o : Option Record) → record_at unit s at ≡ o
          → at + taken (option_map_or (λ r. r ∷ walk (record_at unit s) n r.end) o []) ≤ last_end at (option_map_or (λ r. r ∷ walk (record_at unit s) n r.end) o [])
      by rest None e = omega arith
      by rest (Some r) e =
          let h = one r at e in
          let m = more r (walk (record_at unit s) n r.end) r.checks refl h.1 in
          let behind = rest r.end in
          let end = last_end-more at r (walk (record_at unit s) n r.end) in
          omega arith

-- the records that check take no more than what lies between the header and the end of all records
pub entries-cost : (unit place : ℕ) (s : List ℕ) → IsUnit unit → padded unit 8 + list_cost unit (sector_entries unit place s) ≤ records_end unit s
unfolding sector_entries records records_end
entries-cost unit place s is_unit = costs unit place s is_unit (length s) (padded unit 8)

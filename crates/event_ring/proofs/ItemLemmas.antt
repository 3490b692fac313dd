-- What the items of one sector, and of one sector after the other, cost and say.
use Rattle.std.proofs.Common.{◌≡◌, ℕ, zero, suc, ◌+◌, ◌-◌, ◌≤◌, Bool, true, false, cond, List, [], ◌∷◌, ◌++◌, length, length-drop, drop, map, Option, Some, None, refl, sym, ap, subst, ◌∙◌, arith}
use Rattle.std.specs.Prelude.{slice_range}
use Rattle.std.specs.List.{filter, flat_map}
use Rattle.std.specs.Option.{option_map_or}
use Rattle.std.proofs.lemmas.List.{map-append, length-take-le}
use Rattle.std.proofs.lemmas.List.Elements.{filter_map-append}
use Rattle.std.proofs.lemmas.List.Sums.{sum_by-cons, sum_by-append}
use Rattle.flash_map.specs.Area.{sector_at}
use Rattle.flash_map.specs.Units.{IsUnit, padded}
use Rattle.flash_map.proofs.Rounding.{padding}
use Rattle.fcb_ring.specs.declared.record.Record.{Record}
use Rattle.fcb_ring.specs.declared.record.RecordAt.{RecordAt}
use Rattle.fcb_ring.specs.Entries.{entry_of, sector_entries, entries, bodies, states}
use Rattle.fcb_ring.specs.Records.{record_at, walk, last_end, records, records_end}
use Rattle.fcb_ring.specs.Rings.{counting}
use Rattle.fcb_ring.specs.Writing.{record_cost}
use Rattle.fcb_ring.proofs.RecordLemmas.{read, end-fields, body-of}
use Rattle.fcb_ring.proofs.Walks.{walk_end, last_end-more}
use Rattle.event_ring.specs.Items.{Item, Whole, Torn, item_of, sector_items, items, item_cost, items_cost, body_of, log_of}

pub log-append : (a b : List Item) → log_of (a ++ b) ≡ log_of a ++ log_of b
log-append a b = filter_map-append body_of a b

pub cost-append : (unit : ℕ) (a b : List Item) → items_cost unit (a ++ b) ≡ items_cost unit a + items_cost unit b
cost-append unit a b = sum_by-append (item_cost unit) a b

-- ---- one sector

range-long : (l : List ℕ) (from n : ℕ) → from + n ≤ length l → length (slice_range l from (from + n)) ≡ n
range-long l from n fits = length-take-le (from + n - from) (drop from l) (omega (arith, length-drop from l)) ∙ omega arith

module _ (unit : ℕ) (s : List ℕ) (is_unit : IsUnit unit) where
  one : (r : Record) (at : ℕ) → record_at unit s at ≡ Some r → (r.end ≡ at + record_cost unit r.len) × (length (slice_range s r.body (r.body + r.len)) ≡ r.len)
  one r at some =
      let it = read unit s at r some in
      let pad = padding unit is_unit in
      let parts : r.end ≡ r.body + padded unit r.len + unit = subst (λ (q : Record). q.end ≡ q.body + padded unit q.len + unit) (sym it.is) (end-fields unit s at) in
      let from : r.body ≡ at + unit = ap (λ (q : Record). q.body) it.is ∙ body-of unit s at in
      (omega arith, range-long s r.body r.len (omega (arith, it.fits, pad.no_less r.len)))

  cost-of : (r : Record) → length (slice_range s r.body (r.body + r.len)) ≡ r.len → item_cost unit (item_of unit s r) ≡ record_cost unit r.len
  cost-of r long = by r.checks
    where
      by : (b : Bool) → item_cost unit (cond b (Whole (slice_range s r.body (r.body + r.len))) (Torn (record_cost unit r.len))) ≡ record_cost unit r.len
      by true = ap (record_cost unit) long
      by false = refl

  abbrev taken : List Record → ℕ
  taken rs = items_cost unit (map (item_of unit s) rs)

  costs : (n at : ℕ) → at + taken (walk (record_at unit s) n at) ≡ walk_end (record_at unit s) n at
  costs zero at = omega arith
  costs (suc n) at = by (λ k. costs n k) (record_at unit s at) refl
    where
      by : ((k : ℕ) → k + taken (walk (record_at unit s) n k) ≡ walk_end (record_at unit s) n k) → (o : Option Record) → record_at unit s at ≡ o
          → at + taken (option_map_or (λ r. r ∷ walk (record_at unit s) n r.end) o []) ≡ last_end at (option_map_or (λ r. r ∷ walk (record_at unit s) n r.end) o [])
      by rest None e = omega arith
      by rest (Some r) e =
          let h = one r at e in
          let first = cost-of r h.1 in
          let more = sum_by-cons (item_cost unit) (item_of unit s r) (map (item_of unit s) (walk (record_at unit s) n r.end)) in
          let behind = rest r.end in
          let end = last_end-more at r (walk (record_at unit s) n r.end) in
          omega arith

-- a sector's items take up what lies between its header and the end of its records
pub sector-cost : (unit : ℕ) (s : List ℕ) → IsUnit unit → padded unit 8 + items_cost unit (sector_items unit s) ≡ records_end unit s
unfolding sector_items records records_end
sector-cost unit s is_unit = costs unit s is_unit (length s) (padded unit 8)

records-log : (unit place : ℕ) (s : List ℕ) (rs : List Record) → log_of (map (item_of unit s) rs) ≡ bodies (map (entry_of place s) (filter (λ r. r.checks) rs))
records-log unit place s [] = refl
records-log unit place s (r ∷ rs) = by (records-log unit place s rs) r.checks
  where
    by : log_of (map (item_of unit s) rs) ≡ bodies (map (entry_of place s) (filter (λ r. r.checks) rs)) → (b : Bool)
        → log_of (cond b (Whole (slice_range s r.body (r.body + r.len))) (Torn (record_cost unit r.len)) ∷ map (item_of unit s) rs)
        ≡ bodies (map (entry_of place s) (cond b (r ∷ filter (λ r. r.checks) rs) (filter (λ r. r.checks) rs)))
    by rest true = ap (λ (l : List (List ℕ)). slice_range s r.body (r.body + r.len) ∷ l) rest
    by rest false = rest

-- its log is that of the records that check
pub sector-log : (unit place : ℕ) (s : List ℕ) → log_of (sector_items unit s) ≡ bodies (sector_entries unit place s)
unfolding sector_items sector_entries
sector-log unit place s = records-log unit place s (records unit s)

-- ---- one sector after the other

places-log : (unit : ℕ) (sectors : List (List ℕ)) (places : List ℕ)
    → log_of (flat_map (λ p. sector_items unit (sector_at sectors p)) places) ≡ bodies (flat_map (λ p. sector_entries unit p (sector_at sectors p)) places)
places-log unit sectors [] = refl
places-log unit sectors (p ∷ places) =
    log-append (sector_items unit (sector_at sectors p)) (flat_map (λ p. sector_items unit (sector_at sectors p)) places)
    ∙ ap (λ (l : List (List ℕ)). l ++ log_of (flat_map (λ p. sector_items unit (sector_at sectors p)) places)) (sector-log unit p (sector_at sectors p))
    ∙ ap (λ (l : List (List ℕ)). bodies (sector_entries unit p (sector_at sectors p)) ++ l) (places-log unit sectors places)
    ∙ sym (map-append (λ (entry : RecordAt × List ℕ). entry.1) (sector_entries unit p (sector_at sectors p)) (flat_map (λ p. sector_entries unit p (sector_at sectors p)) places))

pub log-is : (unit : ℕ) (sectors : List (List ℕ)) → log_of (items unit sectors) ≡ bodies (entries unit sectors)
unfolding items entries
log-is unit sectors = places-log unit sectors (counting (states unit sectors))

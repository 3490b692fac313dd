-- What is left once the oldest sector is dropped, and where that is cut.
use Rattle.std.proofs.Common.{◌≡◌, ◌≢◌, ℕ, ◌+◌, ◌-◌, ◌<◌, min, Bool, true, false, cond, List, [], ◌∷◌, ◌++◌, length, map, refl, sym, ap, subst, ◌∙◌, arith}
use Rattle.std.specs.Prelude.{slice_range}
use Rattle.std.specs.List.{range_with_len, flat_map}
use Rattle.std.proofs.lemmas.Bool.{eqb-true}
use Rattle.std.proofs.lemmas.List.{append-nil}
use Rattle.std.proofs.lemmas.List.Sums.{sum_by-cons}
use Rattle.flash_sim.specs.Bank.{IsLawful}
use Rattle.flash_sim.specs.Device.{Device}
use Rattle.flash_map.specs.declared.area.Area.{Area}
use Rattle.flash_map.specs.Area.{unit_of, sector_size, sectors_of, sector_at, sector_bytes, OthersStay}
use Rattle.flash_map.specs.Spending.{Spends, SpendsAtMost}
use Rattle.flash_map.specs.Units.{IsUnit, padded}
use Rattle.flash_map.proofs.Rounding.{padding}
use Rattle.flash_map.proofs.SpendingLemmas.{spends_then, spends_then_most, most_weaker}
use Rattle.fcb_ring.specs.declared.record.Record.{Record}
use Rattle.fcb_ring.specs.declared.ring.Ring.{Ring}
use Rattle.fcb_ring.specs.Chance.{HasNoChance}
use Rattle.fcb_ring.specs.Changing.{next_place, header_on, header_units, is_scratch_left, Begun, StopsBeginning, EndsCollection, IsEraseLoss}
use Rattle.fcb_ring.specs.Records.{records}
use Rattle.fcb_ring.specs.Entries.{states}
use Rattle.fcb_ring.specs.Rings.{turned, IsRing}
use Rattle.fcb_ring.specs.declared.ring.Stage.TheVariants.{Ready}
use Rattle.fcb_ring.specs.Standing.{IsRingArea, StandsOn, KeepsEntries, states_on, is_up, is_finished}
use Rattle.fcb_ring.specs.Writing.{record_cost}
use Rattle.fcb_ring.proofs.AreaLemmas.{has_size, count-sectors, area_after}
use Rattle.fcb_ring.proofs.ChanceLemmas.{header-chance, erase-chance}
use Rattle.fcb_ring.proofs.CollectLemmas.{turned-next}
use Rattle.fcb_ring.proofs.OthersLemmas.{others_at, others_same, others_then}
use Rattle.fcb_ring.proofs.NewestLemmas.{run-form}
use Rattle.fcb_ring.proofs.RingLemmas.{turned-same, turned-zero}
use Rattle.event_ring.specs.Appending.{drop_units}
use Rattle.event_ring.specs.Dropping.{Dropped, StopsDropping}
use Rattle.event_ring.specs.Items.{Item, Whole, Torn, item_of, sector_items, items_on, items_in, item_cost, items_cost}
use Rattle.event_ring.specs.Standing.{IsOpen}
use Rattle.event_ring.proofs.GrownSteps.{items-kept, filled-kept}
use Rattle.event_ring.proofs.MountSteps.{fields_same}
use Rattle.event_ring.proofs.PartLemmas.{part, parts-first, parts-more, parts-same}
use Rattle.event_ring.proofs.PutSteps.{within, all-count, items-ready, newest-cost, has}

-- where no sector but the scratch one is free, one is used
pub left-used : (d : Device) (ring : Ring) → IsOpen d ring → is_scratch_left ring ≡ true → (0 < ring.used) × (ring.used + 1 ≡ ring.area.sectors)
left-used d ring mounted left =
    let several = mounted.stands.area.lawful.several in
    let same : ring.used + 1 ≡ ring.area.sectors = eqb-true (ring.used + 1) ring.area.sectors left in
    (omega arith, same)

-- a sector whose items cost nothing has none
item-some : (unit : ℕ) (s : List ℕ) (r : Record) → IsUnit unit → 0 < item_cost unit (item_of unit s r)
item-some unit s r is_unit = by r.checks
  where
    by : (b : Bool) → 0 < item_cost unit (cond b (Whole (slice_range s r.body (r.body + r.len))) (Torn (record_cost unit r.len)))
    by true = omega (arith, (padding unit is_unit).positive)
    by false = omega (arith, (padding unit is_unit).positive)

records-none : (unit : ℕ) (s : List ℕ) (rs : List Record) → IsUnit unit → items_cost unit (map (item_of unit s) rs) ≡ 0 → map (item_of unit s) rs ≡ []
records-none unit s [] is_unit none = refl
records-none unit s (r ∷ rs) is_unit none =
    let more = sum_by-cons (item_cost unit) (item_of unit s r) (map (item_of unit s) rs) in
    let some = item-some unit s r is_unit in
    absurd (omega arith)

pub items-none : (unit : ℕ) (s : List ℕ) → IsUnit unit → items_cost unit (sector_items unit s) ≡ 0 → sector_items unit s ≡ []
unfolding sector_items
items-none unit s is_unit none = records-none unit s (records unit s) is_unit none

-- ---- the front, and what is behind it

module _ (d : Device) (ring : Ring) (lawful : IsLawful d.banks d.bytes) (mounted : IsOpen d ring) (some : 0 < ring.used) where
  abbrev pub rest : List Item
  rest = flat_map (λ k. part (unit_of d ring.area) (sectors_of d ring.area) ring.oldest (k + 1)) (range_with_len 0 (ring.used - 1))

  pub prefix-rest : items_on d ring.area ≡ items_in d ring.area ring.oldest ++ rest
  prefix-rest =
      let again : ring.used ≡ 1 + (ring.used - 1) = omega arith in
      let w = within d ring lawful mounted in
      items-ready d ring lawful mounted
      ∙ ap (λ (n : ℕ). flat_map (part (unit_of d ring.area) (sectors_of d ring.area) ring.oldest) (range_with_len 0 n)) again
      ∙ parts-first (part (unit_of d ring.area) (sectors_of d ring.area) ring.oldest) (ring.used - 1)
      ∙ ap (λ (p : ℕ). sector_items (unit_of d ring.area) (sector_at (sectors_of d ring.area) p) ++ rest) (turned-zero (length (sectors_of d ring.area)) ring.oldest w.0)

-- ---- once the oldest sector is erased, and the scratch sector is the newest

module _ (d e : Device) (before after : Ring) (lawful : IsLawful d.banks d.bytes) (lawful-e : IsLawful e.banks e.bytes) (banks : e.banks ≡ d.banks) (mounted : IsOpen d before) (mounted-e : IsOpen e after)
    (area : after.area ≡ before.area) (oldest : after.oldest ≡ turned before.area.sectors before.oldest 1) (used : after.used ≡ before.used) (end : after.end ≡ header_on d before.area) (some : 0 < before.used)
    (others : (place : ℕ) → place ≢ before.oldest → place ≢ next_place before → sector_bytes e before.area place ≡ sector_bytes d before.area place) where
  abbrev u : ℕ
  u = unit_of d before.area

  abbrev n : ℕ
  n = before.area.sectors

  unit-e : unit_of e after.area ≡ unit_of d before.area
  unit-e = ap (unit_of e) area ∙ (fields_same d e before.area banks).0

  count-d : length (sectors_of d before.area) ≡ before.area.sectors
  count-d = count-sectors d before.area

  count-e : length (sectors_of e after.area) ≡ before.area.sectors
  count-e = count-sectors e after.area ∙ ap (λ (x : Area). x.sectors) area

  -- the items by the places of the old ring
  new-part : (k : ℕ) → part (unit_of e after.area) (sectors_of e after.area) after.oldest k ≡ sector_items (unit_of d before.area) (sector_bytes e before.area (turned before.area.sectors (turned before.area.sectors before.oldest 1) k))
  new-part k =
      ap (λ (v : ℕ). part v (sectors_of e after.area) after.oldest k) unit-e
      ∙ ap (λ (m : ℕ). sector_items u (sector_at (sectors_of e after.area) (turned m after.oldest k))) count-e
      ∙ ap (λ (x : Area). sector_items u (sector_at (sectors_of e x) (turned n after.oldest k))) area
      ∙ ap (λ (o : ℕ). sector_items u (sector_bytes e before.area (turned n o k))) oldest

  old-part : (k : ℕ) → part (unit_of d before.area) (sectors_of d before.area) before.oldest k ≡ sector_items (unit_of d before.area) (sector_bytes d before.area (turned before.area.sectors before.oldest k))
  old-part k = ap (λ (m : ℕ). sector_items u (sector_at (sectors_of d before.area) (turned m before.oldest k))) count-d

  places : (before.oldest < before.area.sectors) × (before.used < before.area.sectors)
  places = let w = within d before lawful mounted in (omega (arith, w.0, count-d), omega (arith, w.1, count-d))

  pub part-next : (k : ℕ) → k + 1 < before.used → part (unit_of e after.area) (sectors_of e after.area) after.oldest k ≡ part (unit_of d before.area) (sectors_of d before.area) before.oldest (k + 1)
  part-next k lt =
      let w = places in
      new-part k
      ∙ ap (λ (p : ℕ). sector_items u (sector_bytes e before.area p)) (turned-next n before.oldest k w.0 (omega (arith, w.1)))
      ∙ ap (sector_items u) (others (turned n before.oldest (k + 1))
      (λ (same : turned before.area.sectors before.oldest (k + 1) ≡ before.oldest).
      let is = turned-same n before.oldest (k + 1) 0 w.0 (omega (arith, w.1)) (omega (arith, w.1)) (same ∙ sym (turned-zero n before.oldest w.0)) in omega arith)
      (λ (same : turned before.area.sectors before.oldest (k + 1) ≡ turned before.area.sectors before.oldest before.used).
      let is = turned-same n before.oldest (k + 1) before.used w.0 (omega (arith, w.1)) w.1 same in omega arith))
      ∙ sym (old-part (k + 1))

  last-none : part (unit_of e after.area) (sectors_of e after.area) after.oldest (before.used - 1) ≡ []
  last-none =
      let newest = newest-cost e after lawful-e mounted-e (omega (arith, used)) in
      let same : padded (unit_of e after.area) 8 ≡ header_on d before.area = ap (λ (v : ℕ). padded v 8) unit-e in
      ap (λ (m : ℕ). part (unit_of e after.area) (sectors_of e after.area) after.oldest (m - 1)) (sym used)
      ∙ items-none (unit_of e after.area) (sector_at (sectors_of e after.area) (turned (length (sectors_of e after.area)) after.oldest (after.used - 1))) (has e after lawful-e mounted-e).is_unit (omega (arith, newest, same, end))

  pub left-items : items_on e before.area ≡ rest d before lawful mounted some
  left-items =
      let f : ℕ → List Item = part (unit_of e after.area) (sectors_of e after.area) after.oldest in
      let again : after.used ≡ before.used - 1 + 1 = omega (arith, used) in
      ap (items_on e) (sym area) ∙ items-ready e after lawful-e mounted-e
      ∙ ap (λ (m : ℕ). flat_map (part (unit_of e after.area) (sectors_of e after.area) after.oldest) (range_with_len 0 m)) again
      ∙ parts-more (part (unit_of e after.area) (sectors_of e after.area) after.oldest) (before.used - 1)
      ∙ ap (λ (l : List Item). flat_map (part (unit_of e after.area) (sectors_of e after.area) after.oldest) (range_with_len 0 (before.used - 1)) ++ l) last-none
      ∙ append-nil (flat_map (part (unit_of e after.area) (sectors_of e after.area) after.oldest) (range_with_len 0 (before.used - 1)))
      ∙ parts-same (part (unit_of e after.area) (sectors_of e after.area) after.oldest) (λ k. part (unit_of d before.area) (sectors_of d before.area) before.oldest (k + 1)) (before.used - 1) (λ k lt. part-next k (omega arith))

-- ---- the two calls

module _ (d m : Device) (before r1 : Ring) (lawful : IsLawful d.banks d.bytes) (lawful-m : IsLawful m.banks m.bytes) (mounted : IsOpen d before) (left : is_scratch_left before ≡ true) (begun : Begun d m before r1) where
  module _ (e : Device) (after : Ring) (lawful-e : IsLawful e.banks e.bytes) (banks : e.banks ≡ m.banks) (others : OthersStay m e r1.area r1.oldest) (area : after.area ≡ r1.area) (reserve : after.reserve ≡ r1.reserve)
      (stands : StandsOn e after) (ready : after.stage ≡ Ready) (end : after.end ≡ r1.end) (ends : EndsCollection m e r1 after) (units : Spends m e 1) where
    mounted-e : IsOpen e after
    mounted-e = record { stands = stands; ready = ready; reserve = reserve ∙ begun.reserve ∙ mounted.reserve }

    oldest-is : after.oldest ≡ turned before.area.sectors before.oldest 1
    oldest-is = ends.oldest ∙ ap (λ (x : Area). turned x.sectors r1.oldest 1) begun.area ∙ ap (λ (o : ℕ). turned before.area.sectors o 1) begun.goes_on.oldest

    used-is : after.used ≡ before.used
    used-is = omega (arith, ends.used, begun.goes_on.used)

    others-are : (place : ℕ) → place ≢ before.oldest → place ≢ next_place before → sector_bytes e before.area place ≡ sector_bytes d before.area place
    others-are place old scratch =
        let second : OthersStay m e before.area before.oldest = subst (λ (o : ℕ). OthersStay m e before.area o) begun.goes_on.oldest (subst (λ (x : Area). OthersStay m e x r1.oldest) begun.area others) in
        others_at m e before.area before.oldest second place old ∙ others_at d m before.area (next_place before) begun.others place scratch

    pub dropped-all : Dropped d e before after
    dropped-all =
        let some = (left-used d before mounted left).0 in
        record {
          rest = rest d before lawful mounted some;
          items = prefix-rest d before lawful mounted some;
          left = left-items d e before after lawful lawful-e (banks ∙ begun.banks) mounted mounted-e (area ∙ begun.area) oldest-is used-is (end ∙ begun.end) some others-are;
          others = others-are;
          is_open = mounted-e;
          oldest = oldest-is;
          used = used-is;
          end = end ∙ begun.end;
          units = spends_then d m e (header_units d before.area) 1 begun.units units;
        }

  -- where the erase is cut
  module _ (e : Device) (after : Ring) (lawful-e : IsLawful e.banks e.bytes) (banks : e.banks ≡ m.banks) (same : sectors_of e r1.area ≡ sectors_of m r1.area) where
    banks-d : e.banks ≡ d.banks
    banks-d = banks ∙ begun.banks

    same-d : sectors_of e before.area ≡ sectors_of m before.area
    same-d = subst (λ (x : Area). sectors_of e x ≡ sectors_of m x) begun.area same

    form-m : IsRing (states_on m r1.area) r1.oldest r1.used
    form-m = run-form (unit_of m r1.area) (sector_size m r1.area) (sectors_of m r1.area) (has_size m r1.area lawful-m begun.stands.area) r1 begun.stands.sectors (ap is_finished begun.stage)

    form-e : IsRing (states_on e before.area) before.oldest (before.used + 1)
    form-e =
        let used : r1.used ≡ before.used + 1 = begun.goes_on.used ∙ omega arith in
        let here : IsRing (states_on m before.area) before.oldest (before.used + 1) =
        subst (IsRing (states_on m before.area) before.oldest) used
        (subst (λ (o : ℕ). IsRing (states_on m before.area) o r1.used) begun.goes_on.oldest (subst (λ (x : Area). IsRing (states_on m x) r1.oldest r1.used) begun.area form-m)) in
        subst (λ (u : ℕ). IsRing (states u (sectors_of e before.area)) before.oldest (before.used + 1)) (sym (fields_same m e before.area banks).0)
        (subst (λ (l : List (List ℕ)). IsRing (states (unit_of m before.area) l) before.oldest (before.used + 1)) (sym same-d) here)

    others-e : OthersStay d e before.area (next_place before)
    others-e = others_then d m e before.area (next_place before) begun.others (others_same m e before.area (next_place before) same-d)

    counted : min (before.used + 1) (length (sectors_of d before.area) - 1) ≡ before.used
    counted = omega (arith, (left-used d before mounted left).1, count-sectors d before.area)

    pub dropped-not : m.is_on ≡ d.is_on → KeepsEntries m e r1.area → is_up after.stage ≡ false
        → (m.is_on ≡ true → IsEraseLoss e r1.area r1.oldest) → SpendsAtMost m e 1 → StopsDropping d e before after
    dropped-not power list down lost units = record {
      keeps = record {
        undamaged = (subst (λ (x : Area). KeepsEntries m e x) begun.area list).undamaged;
        items = items-kept d e before lawful banks-d mounted (before.used + 1) form-e before.used (omega arith) others-e counted refl;
        filled = filled-kept d e before lawful banks-d mounted (before.used + 1) form-e before.used (omega arith) others-e counted refl;
      };
      lost = λ on.
          subst (HasNoChance e) begun.area (erase-chance e r1.area lawful-e (subst (λ (x : Area). IsRingArea e.banks x) (sym begun.area) (area_after d e before.area banks-d mounted.stands.area)) r1.oldest (lost (power ∙ on)));
      down = down;
      units = spends_then_most d m e (header_units d before.area) 1 begun.units units;
    }

-- where the scratch sector's header is
pub opened-not : (d e : Device) (before after : Ring) → IsLawful d.banks d.bytes → IsLawful e.banks e.bytes → IsOpen d before → StopsBeginning d e before after
    → IsRing (states_on e before.area) before.oldest before.used → StopsDropping d e before after
opened-not d e before after lawful lawful-e mounted stops form =
    let all = all-count d before lawful mounted in
    record {
      keeps = record {
        undamaged = stops.list.undamaged;
        items = items-kept d e before lawful stops.banks mounted before.used form before.used (omega arith) stops.others all refl;
        filled = filled-kept d e before lawful stops.banks mounted before.used form before.used (omega arith) stops.others all refl;
      };
      lost = λ on. header-chance e before.area lawful-e (area_after d e before.area stops.banks mounted.stands.area) (next_place before) (stops.lost on);
      down = stops.down;
      units = most_weaker d e (header_units d before.area) (drop_units d before.area) (omega arith) stops.bound;
    }

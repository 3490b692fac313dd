-- An append as a whole: a put, or a drop and then a put.
use Rattle.std.proofs.Common.{◌≡◌, ℕ, ◌+◌, ◌-◌, ◌/◌, ◌<◌, ◌≤◌, ltb, leb, Bool, true, false, cond, not, ◌&&◌, ◌||◌, List, [], ◌∷◌, ◌++◌, length, None, Result, Ok, Err, inl, inr, refl, sym, ap, subst, ◌∙◌, arith}
use Rattle.std.proofs.lemmas.Bool.{and_from, both_ways, false≢true, le-leb, lt-ltb}
use Rattle.std.proofs.lemmas.List.{append-nil, length-map}
use Rattle.std.proofs.lemmas.List.Sums.{sum_by-cons}
use Rattle.flash_sim.specs.Bank.{IsLawful, bank_at}
use Rattle.flash_sim.specs.Device.{Device}
use Rattle.flash_sim.specs.declared.flash.Bank.{Bank}
use Rattle.flash_map.specs.declared.area.Area.{Area}
use Rattle.flash_map.specs.Area.{unit_of, sector_size, sectors_of, sector_at, value_limit}
use Rattle.flash_map.specs.Spending.{Spends, SpendsAtMost, SpendsBetween}
use Rattle.flash_map.specs.Units.{padded}
use Rattle.flash_map.proofs.SpendingLemmas.{spends_then, spends_then_most, most_weaker}
use Rattle.fcb_ring.specs.declared.record.RecordAt.{RecordAt}
use Rattle.fcb_ring.specs.declared.ring.Ring.{Ring}
use Rattle.fcb_ring.specs.declared.writing.AppendFault.{AppendFault}
use Rattle.fcb_ring.specs.declared.writing.AppendFault.TheVariants.{Full, PowerLost as RingLost}
use Rattle.fcb_ring.specs.Chance.{chance_on}
use Rattle.fcb_ring.specs.Changing.{cost_on, sector_list, stays_for, is_scratch_left, CanAppend, units_for, record_units}
use Rattle.fcb_ring.specs.Standing.{ring_damage}
use Rattle.fcb_ring.specs.Writing.{record_cost}
use Rattle.fcb_ring.proofs.AppendLemmas.{units-here}
use Rattle.fcb_ring.proofs.AreaLemmas.{sector_is}
use Rattle.fcb_ring.proofs.LayLemmas.{end-after-header}
use Rattle.event_ring.specs.Appending.{is_too_long, drops_for, dropped_for, drop_units, append_units, Keeps, Adds, Loses, IsCut, LeavesItems, LeavesLog, LogAppends, torn_body}
use Rattle.event_ring.specs.Room.{room_on, longest_on, IsFilled}
use Rattle.event_ring.specs.declared.appending.LogFault.{LogFault}
use Rattle.event_ring.specs.Dropping.{Dropped, StopsDropping, IsPut, StopsPutting, PutEnds}
use Rattle.event_ring.specs.Items.{Item, Whole, Torn, items_on, items_in, item_cost, items_cost, log_of, cost_in}
use Rattle.event_ring.specs.Standing.{IsOpen}
use Rattle.event_ring.proofs.DropSteps.{left-used, rest, prefix-rest, part-next}
use Rattle.event_ring.proofs.EndLemmas.{cost-fits}
use Rattle.event_ring.proofs.FullLemmas.{all-filled, drops-full}
use Rattle.event_ring.proofs.ItemLemmas.{log-append, cost-append, sector-cost, sector-log}
use Rattle.event_ring.proofs.MountSteps.{by_banks, fields_same}
use Rattle.event_ring.proofs.PartLemmas.{part}
use Rattle.event_ring.proofs.PutSteps.{has, within, ready-filled}

-- ---- a put alone

module _ (d : Device) (ring : Ring) (body : List ℕ) where
  no-drop : CanAppend d ring body 0 → drops_for d ring body ≡ false
  no-drop can = by (stays_for d ring body 0) (is_scratch_left ring) can.room
    where
      by : (stays left : Bool) → (stays || not left) ≡ true → (not stays && left) ≡ false
      by true left room = refl
      by false true room = absurd (false≢true room)
      by false false room = refl

  drops-none : CanAppend d ring body 0 → dropped_for d ring body ≡ []
  drops-none can = ap (λ (b : Bool). cond b (items_in d ring.area ring.oldest) []) (no-drop can)

  keeps-all : CanAppend d ring body 0 → Keeps d ring body (items_on d ring.area)
  keeps-all can = record {
    items = ap (λ (l : List Item). l ++ items_on d ring.area) (sym (drops-none can));
    one_sector = subst (λ (l : List Item). cost_in d ring.area l ≤ room_on d ring.area) (sym (drops-none can)) (omega arith);
    full = λ filled drops. absurd (false≢true (sym (no-drop can) ∙ drops));
  }

  units-alone : CanAppend d ring body 0 → append_units d ring body ≡ units_for d ring body 0
  units-alone can = ap (λ (b : Bool). cond b (drop_units d ring.area + record_units d ring.area (length body)) (units_for d ring body 0)) (no-drop can)

-- the log and the cost of the items
items-log : (after rest : List Item) (body : List ℕ) → after ≡ rest ++ Whole body ∷ [] → log_of after ≡ log_of rest ++ body ∷ []
items-log after rest body is = ap log_of is ∙ log-append rest (Whole body ∷ [])

items-cost : (d e : Device) (area : Area) (rest : List Item) (body : List ℕ) → unit_of e area ≡ unit_of d area → items_on e area ≡ rest ++ Whole body ∷ []
    → cost_in e area (items_on e area) ≡ cost_in d area rest + cost_on d area (length body)
items-cost d e area rest body unit is =
    let one = sum_by-cons (item_cost (unit_of d area)) (Whole body) [] in
    let both = cost-append (unit_of d area) rest (Whole body ∷ []) in
    ap (λ (u : ℕ). items_cost u (items_on e area)) unit ∙ ap (items_cost (unit_of d area)) is ∙ omega (arith, one, both)

pub put-alone : (d e : Device) (before after : Ring) (body : List ℕ) → e.banks ≡ d.banks → IsPut d e before after body → Adds d e before after body 0
put-alone d e before after body banks put = record {
  rest = items_on d before.area;
  kept = keeps-all d before body put.can;
  count = sym (ap (λ (l : List Item). length (log_of l)) (drops-none d before body put.can));
  items = put.items;
  log = items-log (items_on e before.area) (items_on d before.area) body put.items;
  cost = items-cost d e before.area (items_on d before.area) body (fields_same d e before.area banks).0 put.items;
  is_open = put.is_open;
  undamaged = put.undamaged;
  filled = put.filled;
  units = subst (Spends d e) (sym (units-alone d before body put.can)) put.units;
}

pub lost-alone : (d e : Device) (before after : Ring) (body : List ℕ) → StopsPutting d e before after body → Loses d e before after body
lost-alone d e before after body stops = record {
  rest = items_on d before.area;
  kept = keeps-all d before body stops.can;
  cut = stops.cut;
  order = λ drops. absurd (false≢true (sym (no-drop d before body stops.can) ∙ drops));
  down = stops.down;
  undamaged = stops.undamaged;
  filled = stops.filled;
  units = subst (SpendsAtMost d e) (sym (units-alone d before body stops.can)) stops.units;
}

-- what the test of a body says of its area
pub short-by : (area found : Area) (len : ℕ) (long : Bool) → long ≡ is_too_long found len → found ≡ area → long ≡ false → is_too_long area len ≡ false
short-by area found len long is same short = subst (λ (x : Area). is_too_long x len ≡ false) same (sym is ∙ short)

-- what a put says of each answer
pub put-ok : (d e : Device) (before after : Ring) (body : List ℕ) (result : Result (Unit {0}) AppendFault) (x : Unit {0}) → result ≡ Ok x → PutEnds d e before after body result → IsPut d e before after body
put-ok d e before after body result x is ends = subst (λ (r : Result (Unit {0}) AppendFault). PutEnds d e before after body r) is ends

pub put-lost : (d e : Device) (before after : Ring) (body : List ℕ) (result : Result (Unit {0}) AppendFault) → result ≡ Err RingLost → PutEnds d e before after body result → StopsPutting d e before after body
put-lost d e before after body result is ends = subst (λ (r : Result (Unit {0}) AppendFault). PutEnds d e before after body r) is ends

pub put-full : (d e : Device) (before after : Ring) (body : List ℕ) (result : Result (Unit {0}) AppendFault) → result ≡ Err Full → PutEnds d e before after body result
    → (stays_for d before body 0 ≡ false) × (is_scratch_left before ≡ true) × (e ≡ d) × (after ≡ before)
put-full d e before after body result is ends = subst (λ (r : Result (Unit {0}) AppendFault). PutEnds d e before after body r) is ends

pub full-ends : (d m e : Device) (before ring after : Ring) (body : List ℕ) (result : Result ℕ LogFault) → m ≡ d → ring ≡ before → LogAppends m e ring after body result → LogAppends d e before after body result
full-ends d m e before ring after body result same-flash same-ring ends =
    subst (λ (x : Ring). LogAppends d e x after body result) same-ring (subst (λ (x : Device). LogAppends x e ring after body result) same-flash ends)

pub full-filled : (d m e : Device) (before ring : Ring) → m ≡ d → ring ≡ before → (IsFilled m ring.area → IsFilled e ring.area) → IsFilled d before.area → IsFilled e before.area
full-filled d m e before ring same-flash same-ring filled =
    subst (λ (x : Ring). IsFilled d x.area → IsFilled e x.area) same-ring (subst (λ (x : Device). IsFilled x ring.area → IsFilled e ring.area) same-flash filled)

-- ---- a drop

module _ (d : Device) (before : Ring) (body : List ℕ) (lawful : IsLawful d.banks d.bytes) (mounted : IsOpen d before) (stays : stays_for d before body 0 ≡ false) (left : is_scratch_left before ≡ true) where
  drops : drops_for d before body ≡ true
  drops = ap (λ (b : Bool). not b && is_scratch_left before) stays ∙ left

  drops-oldest : dropped_for d before body ≡ items_in d before.area before.oldest
  drops-oldest = ap (λ (b : Bool). cond b (items_in d before.area before.oldest) []) drops

  one-sector : cost_in d before.area (items_in d before.area before.oldest) ≤ room_on d before.area
  one-sector =
      let size = has d before lawful mounted in
      let s : List ℕ = sector_at (sectors_of d before.area) before.oldest in
      let long = size.each before.oldest (within d before lawful mounted).0 in
      let end = end-after-header (unit_of d before.area) (sector_at (sectors_of d before.area) before.oldest) (sector_is size (sector_at (sectors_of d before.area) before.oldest) long) in
      omega (arith, sector-cost (unit_of d before.area) (sector_at (sectors_of d before.area) before.oldest) size.is_unit, end.1, long)

  keeps-rest : is_too_long before.area (length body) ≡ false → (list : List Item) → items_on d before.area ≡ items_in d before.area before.oldest ++ list → Keeps d before body list
  keeps-rest short list is = record {
    items = is ∙ ap (λ (l : List Item). l ++ list) (sym drops-oldest);
    one_sector = subst (λ (l : List Item). cost_in d before.area l ≤ room_on d before.area) (sym drops-oldest) one-sector;
    full = λ filled needs. drops-full d before body lawful mounted filled short needs;
  }

  units-both : append_units d before body ≡ drop_units d before.area + record_units d before.area (length body)
  units-both = ap (λ (b : Bool). cond b (drop_units d before.area + record_units d before.area (length body)) (units_for d before body 0)) drops

  -- the drop is cut
  pub drop-lost : is_too_long before.area (length body) ≡ false → (e : Device) (after : Ring) → StopsDropping d e before after → Loses d e before after body
  drop-lost short e after stops =
      let some = (left-used d before mounted left).0 in
      record {
        rest = rest d before lawful mounted some;
        kept = keeps-rest short (rest d before lawful mounted some) (prefix-rest d before lawful mounted some);
        cut = λ on.
            let lost = stops.lost on in
            record {
              loss = lost.0;
              last = lost.1;
              items = subst (λ (b : Bool). LeavesItems b (unit_of e before.area) (items_on d before.area) (rest d before lawful mounted some) body (items_on e before.area)) (sym lost.2) (inl stops.keeps.items);
            };
        order = λ needs. inl stops.keeps.items;
        down = stops.down;
        undamaged = stops.keeps.undamaged;
        filled = stops.keeps.filled;
        units = subst (SpendsAtMost d e) (sym units-both) (most_weaker d e (drop_units d before.area) (drop_units d before.area + record_units d before.area (length body)) (omega arith) stops.units);
      }

  -- ---- and then a put

  module _ (m : Device) (r1 : Ring) (lawful-m : IsLawful m.banks m.bytes) (banks : m.banks ≡ d.banks) (area : r1.area ≡ before.area) (dropped : Dropped d m before r1) (short : is_too_long before.area (length body) ≡ false) where
    fields : (unit_of m r1.area ≡ unit_of d before.area) × (sector_size m r1.area ≡ sector_size d before.area)
    fields = (ap (unit_of m) area ∙ (fields_same d m before.area banks).0, ap (sector_size m) area ∙ (fields_same d m before.area banks).1)

    pub short-then : is_too_long r1.area (length body) ≡ false
    short-then = ap (λ (x : Area). is_too_long x (length body)) area ∙ short

    stays-then : stays_for m r1 body 0 ≡ true
    stays-then =
        let some : 0 < r1.used = omega (arith, dropped.used, (left-used d before mounted left).0) in
        let fits = cost-fits d before lawful mounted body short in
        let cost : record_cost (unit_of m r1.area) (length body) ≡ record_cost (unit_of d before.area) (length body) = ap (λ (u : ℕ). record_cost u (length body)) fields.0 in
        and_from (ltb 0 r1.used) (leb (r1.end + record_cost (unit_of m r1.area) (length body) + 0) (sector_size m r1.area)) (lt-ltb 0 r1.used some)
        (le-leb (r1.end + record_cost (unit_of m r1.area) (length body) + 0) (sector_size m r1.area) (omega (arith, dropped.end, fits, cost, fields.1)))

    pub fits-then : stays_for m r1 body 0 ≡ false → ⊥
    fits-then full = both_ways (stays_for m r1 body 0) full stays-then

    units-then : units_for m r1 body 0 ≡ record_units d before.area (length body)
    units-then = units-here (unit_of m r1.area) (length body) (stays_for m r1 body 0) stays-then ∙ ap (λ (u : ℕ). record_cost u (length body) / u) fields.0

    items-then : items_on m r1.area ≡ dropped.rest
    items-then = ap (items_on m) area ∙ dropped.left

    -- the drop leaves a filled log
    dropped-filled : IsFilled d before.area → IsFilled m r1.area
    dropped-filled filled =
        let some = (left-used d before mounted left).0 in
        let each = all-filled d before body lawful mounted short stays some filled in
        ready-filled m r1 lawful-m dropped.is_open (λ k lt.
        let next : k + 1 < before.used = omega (arith, dropped.used) in
        let same = part-next d m before r1 lawful lawful-m banks mounted dropped.is_open area dropped.oldest dropped.used dropped.end some dropped.others k next in
        let there : room_on d before.area < items_cost (unit_of d before.area) (part (unit_of m r1.area) (sectors_of m r1.area) r1.oldest k) + longest_on d before.area =
        subst (λ (l : List Item). room_on d before.area < items_cost (unit_of d before.area) l + longest_on d before.area) (sym same) (each (k + 1) (omega arith)) in
        subst (λ (x : Area). room_on m x < items_cost (unit_of m x) (part (unit_of m r1.area) (sectors_of m r1.area) r1.oldest k) + longest_on m x) (sym area)
        (by_banks (λ (b : List Bank). (bank_at b before.area.bank).sector - padded (bank_at b before.area.bank).unit 8
        < items_cost (bank_at b before.area.bank).unit (part (unit_of m r1.area) (sectors_of m r1.area) r1.oldest k) + record_cost (bank_at b before.area.bank).unit (value_limit before.area)) d m banks there))

    pub filled-then : (e : Device) → (IsFilled m r1.area → IsFilled e r1.area) → IsFilled d before.area → IsFilled e before.area
    filled-then e put filled = subst (IsFilled e) area (put (dropped-filled filled))

    items-both : (e : Device) → items_on e r1.area ≡ items_on m r1.area ++ Whole body ∷ [] → items_on e before.area ≡ dropped.rest ++ Whole body ∷ []
    items-both e is = ap (items_on e) (sym area) ∙ is ∙ ap (λ (l : List Item). l ++ Whole body ∷ []) items-then

    count-is : (count : ℕ) → count ≡ length (sector_list d before.area before.oldest) → count ≡ length (log_of (dropped_for d before body))
    count-is count is =
        is ∙ sym (length-map (sector_list d before.area before.oldest) (λ (entry : RecordAt × List ℕ). entry.1))
        ∙ sym (ap length (ap log_of drops-oldest ∙ sector-log (unit_of d before.area) before.oldest (sector_at (sectors_of d before.area) before.oldest)))

    pub adds-then : (e : Device) (after : Ring) (count : ℕ) → e.banks ≡ m.banks → count ≡ length (sector_list d before.area before.oldest) → IsPut m e r1 after body → Adds d e before after body count
    adds-then e after count banks-e is put = record {
      rest = dropped.rest;
      kept = keeps-rest short dropped.rest dropped.items;
      count = count-is count is;
      items = items-both e put.items;
      log = items-log (items_on e before.area) dropped.rest body (items-both e put.items);
      cost = items-cost d e before.area dropped.rest body (fields_same d e before.area (banks-e ∙ banks)).0 (items-both e put.items);
      is_open = put.is_open;
      undamaged = subst (λ (x : Area). ring_damage e x ≡ None) area put.undamaged;
      filled = filled-then e put.filled;
      units = subst (Spends d e) (sym units-both) (spends_then d m e (drop_units d before.area) (record_units d before.area (length body)) dropped.units (subst (Spends m e) units-then put.units));
    }

    cut-then : (e : Device) → IsCut m e r1.area (items_on m r1.area) body → IsCut d e before.area dropped.rest body
    cut-then e cut =
        let here : IsCut m e before.area dropped.rest body =
        subst (λ (l : List Item). IsCut m e before.area l body) items-then (subst (λ (x : Area). IsCut m e x (items_on m r1.area) body) area cut) in
        record { loss = here.loss; last = here.last; items = by (chance_on e before.area here.loss) here.items }
      where
        by : (b : Bool) → LeavesItems b (unit_of e before.area) (items_on m before.area) dropped.rest body (items_on e before.area) → LeavesItems b (unit_of e before.area) (items_on d before.area) dropped.rest body (items_on e before.area)
        by true is = is
        by false (inl same) = inr (inl (same ∙ dropped.left))
        by false (inr later) = inr later

    -- the drop was carried out whole
    spent-both : (e : Device) → SpendsAtMost m e (record_units d before.area (length body)) → SpendsBetween d e (drop_units d before.area) (append_units d before body)
    spent-both e put = record {
      units = drop_units d before.area + put.0;
      at_least = more (drop_units d before.area) put.0;
      at_most = subst (λ (n : ℕ). drop_units d before.area + put.0 ≤ n) (sym units-both) (both (drop_units d before.area) put.0 (record_units d before.area (length body)) put.1);
      spent = spends_then d m e (drop_units d before.area) put.0 dropped.units put.2;
    }
      where
        more : (a b : ℕ) → a ≤ a + b
        more a b = omega arith

        both : (a b c : ℕ) → b ≤ c → a + b ≤ a + c
        both a b c le = omega arith

    pub lost-then : (e : Device) (after : Ring) → m.is_on ≡ d.is_on → StopsPutting m e r1 after body → Loses d e before after body
    lost-then e after power stops = record {
      rest = dropped.rest;
      kept = keeps-rest short dropped.rest dropped.items;
      cut = λ on. cut-then e (stops.cut (power ∙ on));
      order = λ needs. inr (spent-both e (subst (SpendsAtMost m e) units-then stops.units));
      down = stops.down;
      undamaged = subst (λ (x : Area). ring_damage e x ≡ None) area stops.undamaged;
      filled = filled-then e stops.filled;
      units = subst (SpendsAtMost d e) (sym units-both) (spends_then_most d m e (drop_units d before.area) (record_units d before.area (length body)) dropped.units (subst (SpendsAtMost m e) units-then stops.units));
    }

-- ---- the log that is left

pub items-report : (chance : Bool) (unit : ℕ) (before kept : List Item) (body : List ℕ) (after : List Item) → LeavesItems chance unit before kept body after → LeavesLog chance (log_of before) (log_of kept) body (log_of after)
items-report true unit before kept body after (n, fewer, is) = (n, fewer, ap log_of is ∙ log-append kept (Whole (torn_body body n) ∷ []))
items-report false unit before kept body after (inl same) = inl (ap log_of same)
items-report false unit before kept body after (inr (inl same)) = inr (inl (ap log_of same))
items-report false unit before kept body after (inr (inr (inl torn))) = inr (inl (ap log_of torn ∙ log-append kept (Torn (record_cost unit (length body)) ∷ []) ∙ append-nil (log_of kept)))
items-report false unit before kept body after (inr (inr (inr whole))) = inr (inr (items-log after kept body whole))

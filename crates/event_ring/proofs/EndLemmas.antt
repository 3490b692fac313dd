-- How an append of the ring ends, in the words of a log.
use Rattle.std.proofs.Common.{◌≡◌, ◌⊎◌, ℕ, ◌+◌, ◌-◌, ◌*◌, ◌<◌, ◌≤◌, ltb, leb, ◌||◌, Bool, true, false, not, cond, eqb, List, [], ◌∷◌, ◌++◌, length, length-drop, drop, replicate, take, Some, None, Result, Ok, Err, inl, inr, refl, sym, ap, subst, ◌∙◌, arith}
use Rattle.std.specs.Prelude.{◌↔◌, OnOk}
use Rattle.std.specs.List.{range_with_len, flat_map}
use Rattle.std.proofs.lemmas.Bool.Decides.{nat_tests}
use Rattle.std.proofs.lemmas.Bool.{cases_Bool, cases_lt, both_ways, and_from, and_parts, or_from, eqb-true, ltb-true, ne_eqb, le-leb, lt-ltb, le-ltb}
use Rattle.std.proofs.lemmas.List.{append-nil, length-append, length-replicate, length-take-le}
use Rattle.flash_sim.specs.Bank.{IsLawful}
use Rattle.flash_sim.specs.Device.{Device}
use Rattle.flash_sim.specs.declared.flash.Loss.{Loss}
use Rattle.flash_sim.specs.declared.flash.TheConstants.{PROGRAM_LIMIT}
use Rattle.flash_map.specs.declared.area.Area.{Area}
use Rattle.flash_map.specs.declared.area.TheConstants.{VALUE_LIMIT, LONG_VALUE_LIMIT}
use Rattle.flash_map.specs.Area.{unit_of, sector_size, sectors_of, value_limit, place_of, OthersStay}
use Rattle.flash_map.specs.Units.{IsUnit, padded}
use Rattle.flash_map.proofs.PieceLemmas.{next_fits}
use Rattle.flash_map.proofs.Rounding.{padding}
use Rattle.fcb_ring.specs.declared.ring.Ring.{Ring}
use Rattle.fcb_ring.specs.declared.writing.AppendFault.{AppendFault}
use Rattle.fcb_ring.specs.declared.writing.AppendFault.TheVariants.{Full, TooLong, PowerLost}
use Rattle.fcb_ring.specs.Chance.{chance_on}
use Rattle.fcb_ring.specs.Changing.{newest_place, next_place, place_for, stays_for, is_scratch_left, too_long_for, append_lost, AppendEnds, CanAppend, GoesOn, CutAppend, CutList}
use Rattle.fcb_ring.specs.Gains.{GainsRecord, CutRecords, CutInHeader, CutInRecord, CutRing}
use Rattle.fcb_ring.specs.Rings.{turned, is_full, IsRing}
use Rattle.fcb_ring.specs.Standing.{IsRingArea, states_on, entries_on, ring_damage}
use Rattle.fcb_ring.specs.Writing.{record_image, record_cost, cut_record, spelled, IsChance}
use Rattle.fcb_ring.proofs.AppendLemmas.{more-free}
use Rattle.fcb_ring.proofs.AreaLemmas.{has_size, area_after, count-sectors, length-states}
use Rattle.fcb_ring.proofs.ChanceLemmas.{header-chance, record-chance}
use Rattle.fcb_ring.proofs.ImageLemmas.{image-long, spelled-is}
use Rattle.fcb_ring.proofs.RingLemmas.{full-no}
use Rattle.event_ring.specs.Items.{Item, Whole, Torn, items_on, items_in, items_cost}
use Rattle.event_ring.specs.Appending.{is_too_long, IsCut, LeavesItems}
use Rattle.event_ring.specs.Room.{room_on, longest_on, IsFilled}
use Rattle.event_ring.specs.Dropping.{PutEnds}
use Rattle.event_ring.specs.Standing.{IsOpen}
use Rattle.event_ring.proofs.PrefixLemmas.{prefix-fewer}
use Rattle.event_ring.proofs.GrownSteps.{new_item, gains-items, same-items, next-none, GoesInto, items-kept, filled-kept, grown-items, grown-filled}
use Rattle.event_ring.proofs.MountSteps.{fields_same}
use Rattle.event_ring.proofs.PartLemmas.{part, parts-more}
use Rattle.event_ring.proofs.PutSteps.{form, within, count, all-count, items-ready, newest-cost, filled-ready}

-- ---- the limit of a body

limit-most : (area : Area) → value_limit area ≤ LONG_VALUE_LIMIT
limit-most area = elim (cases_Bool (eqb area.version 2)) [
  | inl two ↦ let e : value_limit area ≡ LONG_VALUE_LIMIT = ap (λ (b : Bool). cond b LONG_VALUE_LIMIT VALUE_LIMIT) two in omega arith
  | inr one ↦ let e : value_limit area ≡ VALUE_LIMIT = ap (λ (b : Bool). cond b LONG_VALUE_LIMIT VALUE_LIMIT) one in omega arith
]

-- beside the longest record a sector has room for its header
limit-size : (d : Device) (area : Area) → IsRingArea d.banks area → value_limit area + 256 ≤ sector_size d area
limit-size d area ring = elim (cases_Bool (eqb area.version 2)) [
  | inl two ↦
      let e : value_limit area ≡ LONG_VALUE_LIMIT = ap (λ (b : Bool). cond b LONG_VALUE_LIMIT VALUE_LIMIT) two in
      let long = ring.lawful.long_values (eqb-true area.version 2 two) in
      omega arith
  | inr one ↦
      let e : value_limit area ≡ VALUE_LIMIT = ap (λ (b : Bool). cond b LONG_VALUE_LIMIT VALUE_LIMIT) one in
      omega (arith, ring.lawful.at_least)
]

-- a sector has room for its header and the longest record
pub longest-fits : (d : Device) (area : Area) → IsUnit (unit_of d area) → IsRingArea d.banks area → padded (unit_of d area) 8 + longest_on d area ≤ sector_size d area
longest-fits d area is_unit ring =
    let pad = padding (unit_of d area) is_unit in
    let size = limit-size d area ring in
    omega (arith, pad.small, pad.no_more 8, pad.no_more (value_limit area))

pub short-body : (area : Area) (len : ℕ) → is_too_long area len ≡ false → (0 < len) × (len ≤ value_limit area)
short-body area len short = elim (cases_lt (value_limit area) len) [
  | inl lt ↦ absurd (both_ways (is_too_long area len) short (long (eqb len 0) (lt-ltb (value_limit area) len lt)))
  | inr le ↦ (some (cases_Bool (eqb len 0)), le)
]
  where
    long : (b : Bool) → ltb (value_limit area) len ≡ true → (b || ltb (value_limit area) len) ≡ true
    long true is = refl
    long false is = is

    not-none : (n : ℕ) → eqb n 0 ≡ false → 0 < n
    not-none n other = grind (arith, nat_tests)

    some : (eqb len 0 ≡ true) ⊎ (eqb len 0 ≡ false) → 0 < len
    some (inl zero_is) = absurd (both_ways (is_too_long area len) short (ap (λ (b : Bool). b || ltb (value_limit area) len) zero_is))
    some (inr other) = not-none len other

module _ (d : Device) (ring : Ring) (lawful : IsLawful d.banks d.bytes) (mounted : IsOpen d ring) (body : List ℕ) (short : is_too_long ring.area (length body) ≡ false) where
  abbrev unit : ℕ
  unit = unit_of d ring.area

  abbrev cost : ℕ
  cost = record_cost (unit_of d ring.area) (length body)

  is_unit : IsUnit (unit_of d ring.area)
  is_unit = (has_size d ring.area lawful mounted.stands.area).is_unit

  pub cost-most : record_cost (unit_of d ring.area) (length body) ≤ longest_on d ring.area
  cost-most =
      let pad = padding unit is_unit in
      let len = (short-body ring.area (length body) short).1 in
      let le = pad.least (length body) (padded unit (value_limit ring.area)) (omega (arith, pad.no_less (value_limit ring.area))) (pad.aligned (value_limit ring.area)) in
      omega arith

  pub cost-fits : padded (unit_of d ring.area) 8 + record_cost (unit_of d ring.area) (length body) ≤ sector_size d ring.area
  cost-fits =
      let pad = padding unit is_unit in
      let len = (short-body ring.area (length body) short).1 in
      let size = limit-size d ring.area mounted.stands.area in
      omega (arith, pad.small, pad.no_more 8, pad.no_more (length body))

  pub one-program : record_cost (unit_of d ring.area) (length body) ≤ PROGRAM_LIMIT
  one-program =
      let pad = padding unit is_unit in
      let len = (short-body ring.area (length body) short).1 in
      omega (arith, limit-most ring.area, pad.small, pad.no_more (length body))

  pub not-long : too_long_for d ring body 0 ≡ false
  not-long =
      let len = (short-body ring.area (length body) short).0 in
      let fits = cost-fits in
      or_from (eqb (length body) 0) (ltb (sector_size d ring.area - padded unit 8 - 0) cost) (ne_eqb (length body) 0 (λ (e : length body ≡ 0). omega arith)) (le-ltb (sector_size d ring.area - padded unit 8 - 0) cost (omega arith))

  -- where it does not fit behind the others
  pub no-room : stays_for d ring body 0 ≡ false → 0 < ring.used → sector_size d ring.area < ring.end + record_cost (unit_of d ring.area) (length body)
  no-room stays some = elim (cases_lt (sector_size d ring.area) (ring.end + cost)) [
    | inl lt ↦ lt
    | inr le ↦
        let has : stays_for d ring body 0 ≡ true = and_from (ltb 0 ring.used) (leb (ring.end + cost + 0) (sector_size d ring.area)) (lt-ltb 0 ring.used some) (le-leb (ring.end + cost + 0) (sector_size d ring.area) (omega arith)) in
        absurd (both_ways (stays_for d ring body 0) stays has)
  ]

  pub room-there : stays_for d ring body 0 ≡ true → 0 < ring.used
  room-there stays = ltb-true 0 ring.used (and_parts (ltb 0 ring.used) (leb (ring.end + cost + 0) (sector_size d ring.area)) stays).0

  -- the newest then has no room for the longest record either
  pub newest-filled : stays_for d ring body 0 ≡ false → 0 < ring.used → room_on d ring.area < items_cost (unit_of d ring.area) (part (unit_of d ring.area) (sectors_of d ring.area) ring.oldest (ring.used - 1)) + longest_on d ring.area
  newest-filled stays some =
      let full = no-room stays some in
      let newest = newest-cost d ring lawful mounted some in
      omega (arith, cost-most, cost-fits, newest)

  -- ---- where it goes

  goes-here : stays_for d ring body 0 ≡ true → GoesInto d ring (newest_place ring) ring.used
  goes-here stays =
      let some = room-there stays in
      let again : ring.used - 1 + 1 ≡ ring.used = omega arith in
      let old : ℕ → List Item = part (unit_of d ring.area) (sectors_of d ring.area) ring.oldest in
      record {
        j = ring.used - 1;
        at = refl;
        last = sym again;
        fewer = omega arith;
        room = (within d ring lawful mounted).1;
        all =
            items-ready d ring lawful mounted
            ∙ ap (λ (n : ℕ). flat_map (part (unit_of d ring.area) (sectors_of d ring.area) ring.oldest) (range_with_len 0 n)) (sym again)
            ∙ parts-more (part (unit_of d ring.area) (sectors_of d ring.area) ring.oldest) (ring.used - 1)
            ∙ ap (λ (n : ℕ). flat_map (part (unit_of d ring.area) (sectors_of d ring.area) ring.oldest) (range_with_len 0 (ring.used - 1)) ++ items_in d ring.area (turned n ring.oldest (ring.used - 1))) (count d ring lawful mounted);
        filled = λ filled k lt. filled-ready d ring lawful mounted filled k (omega arith);
      }

  goes-next : stays_for d ring body 0 ≡ false → CanAppend d ring body 0 → GoesInto d ring (next_place ring) (ring.used + 1)
  goes-next stays can =
      let free = more-free d ring mounted.stands mounted.ready (not-left (stays_for d ring body 0) (is_scratch_left ring) stays can.room) in
      record {
        j = ring.used;
        at = refl;
        last = refl;
        fewer = omega arith;
        room = omega (arith, free, count d ring lawful mounted);
        all =
            items-ready d ring lawful mounted
            ∙ sym (ap (λ (l : List Item). flat_map (part (unit_of d ring.area) (sectors_of d ring.area) ring.oldest) (range_with_len 0 ring.used) ++ l) (next-none d ring lawful mounted)
            ∙ append-nil (flat_map (part (unit_of d ring.area) (sectors_of d ring.area) ring.oldest) (range_with_len 0 ring.used)));
        filled = λ filled k lt. elim (cases_lt (k + 1) ring.used) [
          | inl below ↦ filled-ready d ring lawful mounted filled k below
          | inr last ↦
              let is : ring.used - 1 ≡ k = omega arith in
              subst (λ (j : ℕ). room_on d ring.area < items_cost (unit_of d ring.area) (part (unit_of d ring.area) (sectors_of d ring.area) ring.oldest j) + longest_on d ring.area) is (newest-filled stays (omega arith))
        ];
      }
    where
      not-left : (here left : Bool) → here ≡ false → (here || not left) ≡ true → left ≡ false
      not-left true left isnt room = absurd (both_ways true isnt refl)
      not-left false true isnt room = absurd (both_ways false refl room)
      not-left false false isnt room = refl

  module _ (e : Device) (lawful-e : IsLawful e.banks e.bytes) (banks : e.banks ≡ d.banks) where
    unit-e : unit_of e ring.area ≡ unit_of d ring.area
    unit-e = (fields_same d e ring.area banks).0

    -- what the items are, and that no sector but the newest has more room
    abbrev Grown : List Item → Type 0
    Grown gained = (items_on e ring.area ≡ items_on d ring.area ++ gained) × (IsFilled d ring.area → IsFilled e ring.area)

    -- ---- a whole record

    whole : (place used : ℕ) → GoesInto d ring place used → IsRing (states_on e ring.area) ring.oldest used → OthersStay d e ring.area place → GainsRecord d e ring.area place body true → Grown (Whole body ∷ [])
    whole place used into form others gains = (
      grown-items d e ring lawful banks mounted place used into form others (Whole body ∷ []) (gains-items d e ring.area place body true unit-e gains),
      grown-filled d e ring lawful banks mounted place used into form others,
    )

    module _ (after : Ring) (area : after.area ≡ ring.area) (can : CanAppend d ring body 0) (goes : GoesOn ring after (stays_for d ring body 0)) (mounted-e : IsOpen e after) (others : OthersStay d e ring.area (place_for d ring body 0))
        (gains : GainsRecord d e ring.area (place_for d ring body 0) body true) where
      form-after : IsRing (states_on e ring.area) ring.oldest after.used
      form-after =
          subst (λ (o : ℕ). IsRing (states_on e ring.area) o after.used) goes.oldest
          (subst (λ (x : Area). IsRing (states_on e x) after.oldest after.used) area (form e after lawful-e mounted-e))

      grown : Grown (Whole body ∷ [])
      grown = elim (cases_Bool (stays_for d ring body 0)) [
        | inl stays ↦
            let used : after.used ≡ ring.used = goes.used ∙ ap (λ (b : Bool). ring.used + cond b 0 1) stays ∙ omega arith in
            let place : place_for d ring body 0 ≡ newest_place ring = ap (λ (b : Bool). cond b (newest_place ring) (next_place ring)) stays in
            whole (newest_place ring) ring.used (goes-here stays) (subst (IsRing (states_on e ring.area) ring.oldest) used form-after) (subst (OthersStay d e ring.area) place others)
            (subst (λ (p : ℕ). GainsRecord d e ring.area p body true) place gains)
        | inr opens ↦
            let used : after.used ≡ ring.used + 1 = goes.used ∙ ap (λ (b : Bool). ring.used + cond b 0 1) opens in
            let place : place_for d ring body 0 ≡ next_place ring = ap (λ (b : Bool). cond b (newest_place ring) (next_place ring)) opens in
            whole (next_place ring) (ring.used + 1) (goes-next opens can) (subst (IsRing (states_on e ring.area) ring.oldest) used form-after) (subst (OthersStay d e ring.area) place others)
            (subst (λ (p : ℕ). GainsRecord d e ring.area p body true) place gains)
      ]

    -- ---- a record that was cut

    ring-e : IsRingArea e.banks ring.area
    ring-e = area_after d e ring.area banks mounted.stands.area

    -- what a loss leaves, where power was on
    abbrev Left : Type 0
    Left = IsCut d e ring.area (items_on d ring.area) body × (IsFilled d ring.area → IsFilled e ring.area)

    in-header : CutInHeader d e ring → OthersStay d e ring.area (next_place ring) → Left
    in-header cut others =
        let chance = header-chance e ring.area lawful-e ring-e (next_place ring) cut.loss in
        let all = all-count d ring lawful mounted in (
          record {
            loss = chance.0;
            last = chance.1;
            items = subst (λ (b : Bool). LeavesItems b (unit_of e ring.area) (items_on d ring.area) (items_on d ring.area) body (items_on e ring.area)) (sym chance.2)
                (inl (items-kept d e ring lawful banks mounted ring.used cut.form ring.used (omega arith) others all refl));
          },
          filled-kept d e ring lawful banks mounted ring.used cut.form ring.used (omega arith) others all refl,
        )

    module _ (place used : ℕ) (into : GoesInto d ring place used) (others : OthersStay d e ring.area place) (cut : CutInRecord d e ring place used body) where
      the-loss : Loss
      the-loss = record { at = place_of e ring.area place cut.offset; want = record { items = record_image (unit_of e ring.area) body }; done = cut.done }

      free : is_full (states_on e ring.area) ≡ false
      free = full-no (states_on e ring.area) ring.oldest used cut.form (omega (arith, into.room, length-states (unit_of e ring.area) (sectors_of e ring.area), count-sectors e ring.area, count-sectors d ring.area))

      reports : (chance_on e ring.area the-loss ≡ true) ↔ IsChance (unit_of e ring.area) body cut.done
      unfolding the-loss
      reports = record-chance e ring.area lawful-e ring-e place cut.offset body cut.done cut.loss free the-loss cut.loss.loss

      last-is : e.last_loss ≡ Some the-loss
      unfolding the-loss
      last-is = cut.loss.loss

      not-chance : ¬ IsChance (unit_of e ring.area) body cut.done → chance_on e ring.area the-loss ≡ false
      not-chance none = elim (cases_Bool (chance_on e ring.area the-loss)) [
        | inl is ↦ absurd (none (reports.0 is))
        | inr isnt ↦ isnt
      ]

      cut-by : (b : Bool) → chance_on e ring.area the-loss ≡ b → LeavesItems b (unit_of e ring.area) (items_on d ring.area) (items_on d ring.area) body (items_on e ring.area) → IsCut d e ring.area (items_on d ring.area) body
      cut-by b is items = record { loss = the-loss; last = last-is; items = subst (λ (t : Bool). LeavesItems t (unit_of e ring.area) (items_on d ring.area) (items_on d ring.area) body (items_on e ring.area)) (sym is) items }

      spells : IsChance (unit_of e ring.area) body cut.done → spelled (unit_of e ring.area) body cut.done ≡ take (cut.done * unit_of e ring.area - unit_of e ring.area) body ++ replicate (length body - (cut.done * unit_of e ring.area - unit_of e ring.area)) 255
      spells is =
          let next = next_fits cut.done (record_cost (unit_of e ring.area) (length body)) (unit_of e ring.area) is.fewer in
          let len = (short-body ring.area (length body) short).1 in
          spelled-is (unit_of e ring.area) (subst IsUnit (sym unit-e) is_unit) body (omega (arith, limit-most ring.area)) cut.done is.some (omega arith)

      not-all : IsChance (unit_of e ring.area) body cut.done → cut.done * unit_of e ring.area - unit_of e ring.area < length body
      not-all is =
          let len = (short-body ring.area (length body) short).1 in
          prefix-fewer (unit_of e ring.area) (subst IsUnit (sym unit-e) is_unit) body (omega (arith, limit-most ring.area)) cut.done is

      gained : (other : List ℕ) (b : Bool) → GainsRecord d e ring.area place other b → items_on e ring.area ≡ items_on d ring.area ++ new_item (unit_of d ring.area) other b ∷ []
      gained other b gains = grown-items d e ring lawful banks mounted place used into cut.form others (new_item (unit_of d ring.area) other b ∷ []) (gains-items d e ring.area place other b unit-e gains)

      -- the body that the units spell is as long as the record's
      spelled-long : length (spelled (unit_of e ring.area) body cut.done) ≡ length body
      spelled-long =
          let u : ℕ = unit_of e ring.area in
          let e-unit : IsUnit (unit_of e ring.area) = subst IsUnit (sym unit-e) is_unit in
          let len = (short-body ring.area (length body) short).1 in
          let image = image-long (unit_of e ring.area) e-unit body (omega (arith, limit-most ring.area)) in
          let next = next_fits cut.done (record_cost (unit_of e ring.area) (length body)) (unit_of e ring.area) cut.loss.fewer in
          let prefix = length-take-le (cut.done * u) (record_image (unit_of e ring.area) body) (omega arith) in
          let all = length-append (take (cut.done * u) (record_image u body)) (replicate (record_cost u (length body) - cut.done * u) 255) in
          let rest = length-replicate {A = ℕ} (record_cost u (length body) - cut.done * u) 255 in
          let pad = padding (unit_of e ring.area) e-unit in
          let from : u + length body - u ≡ length body = omega arith in
          length-take-le (u + length body - u) (drop u (cut_record u body cut.done)) (omega (arith, length-drop u (cut_record u body cut.done), pad.no_less (length body))) ∙ from

      in-record : CutRecords (unit_of e ring.area) d e ring.area place body cut.done → IsCut d e ring.area (items_on d ring.area) body
      in-record (inl (none, same)) =
          cut-by false (not-chance none) (inl (grown-items d e ring lawful banks mounted place used into cut.form others [] (same-items d e ring.area place unit-e same) ∙ append-nil (items_on d ring.area)))
      in-record (inr (inl (none, gains))) =
          cut-by false (not-chance none) (inr (inr (inl
          (gained (spelled (unit_of e ring.area) body cut.done) false gains
          ∙ ap (λ (n : ℕ). items_on d ring.area ++ Torn (record_cost (unit_of d ring.area) n) ∷ []) spelled-long
          ∙ ap (λ (u : ℕ). items_on d ring.area ++ Torn (record_cost u (length body)) ∷ []) (sym unit-e)))))
      in-record (inr (inr (inl (whole, gains)))) = cut-by false (not-chance (λ is. is.differs whole)) (inr (inr (inr (gained body true gains))))
      in-record (inr (inr (inr (is, gains)))) =
          cut-by true (reports.1 is)
          (cut.done * unit_of e ring.area - unit_of e ring.area, not-all is, gained (spelled (unit_of e ring.area) body cut.done) true gains ∙ ap (λ (l : List ℕ). items_on d ring.area ++ Whole l ∷ []) (spells is))

      cut-record : Left
      cut-record = (in-record cut.records, grown-filled d e ring lawful banks mounted place used into cut.form others)

    cut-ring : CanAppend d ring body 0 → OthersStay d e ring.area (place_for d ring body 0) → CutRing (stays_for d ring body 0) d e ring body → Left
    cut-ring can others cut = elim (cases_Bool (stays_for d ring body 0)) [
      | inl stays ↦
          let place : place_for d ring body 0 ≡ newest_place ring = ap (λ (b : Bool). cond b (newest_place ring) (next_place ring)) stays in
          cut-record (newest_place ring) ring.used (goes-here stays) (subst (OthersStay d e ring.area) place others) (subst (λ (b : Bool). CutRing b d e ring body) stays cut)
      | inr opens ↦
          let place : place_for d ring body 0 ≡ next_place ring = ap (λ (b : Bool). cond b (newest_place ring) (next_place ring)) opens in
          opened (goes-next opens can) (subst (OthersStay d e ring.area) place others) (subst (λ (b : Bool). CutRing b d e ring body) opens cut)
    ]
      where
        opened : GoesInto d ring (next_place ring) (ring.used + 1) → OthersStay d e ring.area (next_place ring) → CutRing false d e ring body → Left
        opened into others (inl cut) = in-header cut others
        opened into others (inr cut) = cut-record (next_place ring) (ring.used + 1) into others cut

    undamaged : (place : ℕ) → CutAppend d e ring.area place body → ring_damage e ring.area ≡ None
    undamaged place (inl cut) = cut.list.undamaged
    undamaged place (inr cut) = by cut.list
      where
        by : CutList (unit_of e ring.area) (sectors_of e ring.area) (entries_on d ring.area) place body cut.done → ring_damage e ring.area ≡ None
        by (inl (none, has)) = has.undamaged
        by (inr (inl (at, here, whole, has))) = has.undamaged
        by (inr (inr (at, here, is, has))) = has.undamaged

  -- ---- the call

  pub put-ends : {T : Type 0} (e : Device) (after : Ring) (result : Result T AppendFault) → IsLawful e.banks e.bytes → e.banks ≡ d.banks → after.area ≡ ring.area → after.reserve ≡ ring.reserve
      → OthersStay d e ring.area (place_for d ring body 0) → (d.is_on ≡ false → e ≡ d) → AppendEnds d e ring after body 0 result
      → OnOk result (GainsRecord d e ring.area (place_for d ring body 0) body true) → (append_lost result ≡ true → d.is_on ≡ true → CutRing (stays_for d ring body 0) d e ring body) → PutEnds d e ring after body result
  put-ends {T} e after (Ok x) lawful-e banks area reserve others off (can, (at, here, has), goes, ready) gains torn =
      let mounted-e : IsOpen e after = record { stands = ready.stands; ready = ready.stage; reserve = reserve ∙ mounted.reserve } in
      let both = grown e lawful-e banks after area can goes mounted-e others gains in
      record {
        can = can;
        items = both.0;
        is_open = mounted-e;
        undamaged = has.undamaged;
        filled = both.1;
        units = ready.units;
      }
  put-ends {T} e after (Err Full) lawful-e banks area reserve others off (long, stays, left, refused) gains torn = (stays, left, refused.flash, refused.ring)
  put-ends {T} e after (Err TooLong) lawful-e banks area reserve others off (long, refused) gains torn = both_ways (too_long_for d ring body 0) not-long long
  put-ends {T} e after (Err PowerLost) lawful-e banks area reserve others off (can, cut, down) gains torn = record {
    can = can;
    cut = λ on. (cut-ring e lawful-e banks can others (torn refl on)).0;
    down = down.down;
    undamaged = undamaged e lawful-e banks (place_for d ring body 0) cut;
    filled = elim (cases_Bool d.is_on) [
      | inl on ↦ (cut-ring e lawful-e banks can others (torn refl on)).1
      | inr dark ↦ λ filled. subst (λ (x : Device). IsFilled x ring.area) (sym (off dark)) filled
    ];
    units = down.units;
  }

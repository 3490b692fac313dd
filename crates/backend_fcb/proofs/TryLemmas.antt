-- One append of a record.
use Rattle.std.proofs.Common.{◌≡◌, ◌⊎◌, ℕ, ◌+◌, ◌-◌, ◌*◌, ◌/◌, ◌<◌, ◌≤◌, Bool, true, false, cond, eqb, ltb, leb, List, [], ◌∷◌, ◌++◌, length, Some, None, Result, Ok, Err, inl, inr, refl, sym, ap, subst, ◌∙◌, arith}
use Rattle.std.specs.Prelude.{◌↔◌}
use Rattle.std.proofs.lemmas.Bool.{cases_Bool, cases_eq, cases_lt, both_ways, eqb-true, ne_eqb, ltb-true, leb-true, lt-ltb, le-ltb, le-leb, or_from, and_parts, and_from}
use Rattle.flash_sim.specs.Bank.{IsLawful}
use Rattle.flash_sim.specs.Device.{Device}
use Rattle.flash_sim.specs.declared.flash.Loss.{Loss}
use Rattle.flash_sim.specs.declared.flash.TheConstants.{PROGRAM_LIMIT}
use Rattle.flash_map.specs.Area.{value_limit, unit_of, sector_size, sectors_of, place_of}
use Rattle.flash_map.specs.declared.area.Area.{Area}
use Rattle.flash_map.specs.Spending.{Spends, SpendsAtMost}
use Rattle.flash_map.specs.Units.{IsUnit, padded}
use Rattle.flash_map.proofs.PieceLemmas.{next_fits}
use Rattle.flash_map.proofs.Rounding.{by_unit, padding}
use Rattle.flash_map.proofs.SpendingLemmas.{units_le, most_weaker}
use Rattle.fcb_ring.specs.declared.record.RecordAt.{RecordAt}
use Rattle.fcb_ring.specs.declared.ring.Ring.{Ring}
use Rattle.fcb_ring.specs.declared.writing.AppendFault.{AppendFault}
use Rattle.fcb_ring.specs.declared.writing.AppendFault.TheVariants.{Full, TooLong, PowerLost}
use Rattle.fcb_ring.specs.Chance.{chance_on}
use Rattle.fcb_ring.specs.Changing.{newest_place, next_place, kept_room, sector_list, AppendEnds, append_units, too_long_for, stays_for, place_for, CanAppend, CutList, CutAppend, StopsInHeader, StopsInRecord}
use Rattle.fcb_ring.specs.Entries.{bodies, HasEntries}
use Rattle.fcb_ring.specs.Standing.{entries_on, uncounted}
use Rattle.fcb_ring.specs.Writing.{record_image, record_cost, spelled, IsChance}
use Rattle.fcb_ring.proofs.AppendLemmas.{unit-after, ready-used, units-here}
use Rattle.fcb_ring.proofs.AreaLemmas.{has_size, area_after}
use Rattle.fcb_ring.proofs.ChanceLemmas.{header-chance, record-chance}
use Rattle.fcb_ring.proofs.ImageLemmas.{spelled-is}
use Rattle.backend_fcb.specs.Changing.{TryEnds, IsFull, collect_units}
use Rattle.record_settings.specs.Room.{cap, reserve, put_cost}
use Rattle.backend_fcb.specs.Reading.{puts_cost}
use Rattle.record_settings.specs.Settings.{setting_of, longest, with_setting, settings_of}
use Rattle.backend_fcb.specs.Standing.{damage_on, settings_on, IsReady}
use Rattle.record_settings.proofs.BodyLemmas.{settings-push}
use Rattle.backend_fcb.proofs.Limits.{limit-most, limit-size, one-program}
use Rattle.backend_fcb.proofs.PutsCosts.{CostsFit, costs-at, costs-from, costs-on, undamaged-after, put-le, puts-append, puts-here, puts-there, puts-of, puts-none, puts-le}
use Rattle.backend_fcb.proofs.RingLists.{ready-none, newest-cost, of-part, of-other}
use Rattle.backend_fcb.proofs.SectorLists.{bodies-append}
use Rattle.backend_fcb.specs.Tearing.{Tears, CutSettings, StopsPutting}
use Rattle.backend_fcb.proofs.Tearing.{no-record-stops, put-cost_torn}
use Rattle.backend_fcb.proofs.WalkLemmas.{Entry}
use Rattle.flash_map.specs.Area.{OthersStay}
use Rattle.fcb_ring.specs.Changing.{place_for}
use Rattle.backend_fcb.proofs.DueLemmas.{cut-due}

-- the record leaves the reserve, or puts no value
abbrev pub LeavesRoom : Device → Ring → List ℕ → ℕ → Type 0
LeavesRoom d ring body kept = (put_cost (value_limit ring.area) (unit_of d ring.area) body ≡ 0) ⊎ (kept ≡ reserve (unit_of d ring.area))

pub leaves-room : (d : Device) (ring : Ring) (body : List ℕ) (into_reserve : Bool) → IsReady d ring → (into_reserve ≡ true → put_cost (value_limit ring.area) (unit_of d ring.area) body ≡ 0) → LeavesRoom d ring body (kept_room ring into_reserve)
leaves-room d ring body true ready no_put = inl (no_put refl)
leaves-room d ring body false ready no_put = inr ready.reserve

pub kept-most : (d : Device) (ring : Ring) (into_reserve : Bool) → IsReady d ring → kept_room ring into_reserve ≤ reserve (unit_of d ring.area)
kept-most d ring true ready = omega arith
kept-most d ring false ready = let e = ready.reserve in omega arith

header-units : (unit : ℕ) → IsUnit unit → padded unit 8 / unit ≤ 2
unfolding padded
header-units = by_unit (λ (unit : ℕ). padded unit 8 / unit ≤ 2) (omega arith) (omega arith) (omega arith)

units-some : (unit len : ℕ) → IsUnit unit → 0 < record_cost unit len / unit
units-some unit len is = by_unit (λ (u : ℕ). 0 < record_cost u len / u) (omega arith) (omega arith) (omega arith) unit is

module _ (d : Device) (ring : Ring) (lawful : IsLawful d.banks d.bytes) (ready : IsReady d ring) (body : List ℕ) (some : 0 < length body) (short : length body ≤ longest (value_limit ring.area)) (kept : ℕ) (most : kept ≤ reserve (unit_of d ring.area)) (leaves : LeavesRoom d ring body kept) where
  none : uncounted ring.stage ≡ 0
  none = ready-none ring ready.ready

  free : ring.used < ring.area.sectors
  free = ready-used d ring ready.stands ready.ready

  -- each sector could hold it
  cost-fits : record_cost (unit_of d ring.area) (length body) ≤ sector_size d ring.area - padded (unit_of d ring.area) 8 - kept
  cost-fits =
      let has = has_size d ring.area lawful ready.stands.area in
      let pad = padding (unit_of d ring.area) has.is_unit in
      let size = limit-size d ring.area ready.stands.area in
      omega (arith, pad.small, pad.no_more 8, pad.no_more (longest 0), pad.no_more (length body))

  pub not-long : too_long_for d ring body kept ≡ false
  not-long =
      let a : eqb (length body) 0 ≡ false = ne_eqb (length body) 0 (λ (e : length body ≡ 0). omega arith) in
      let c : ltb (sector_size d ring.area - padded (unit_of d ring.area) 8 - kept) (record_cost (unit_of d ring.area) (length body)) ≡ false = le-ltb (sector_size d ring.area - padded (unit_of d ring.area) 8 - kept) (record_cost (unit_of d ring.area) (length body)) cost-fits in
      or_from (eqb (length body) 0) (ltb (sector_size d ring.area - padded (unit_of d ring.area) 8 - kept) (record_cost (unit_of d ring.area) (length body))) a c

  pub short-cost : record_cost (unit_of d ring.area) (length body) ≤ PROGRAM_LIMIT
  short-cost =
      one-program (unit_of d ring.area) (value_limit ring.area) (length body) (has_size d ring.area lawful ready.stands.area).is_unit (limit-most ring.area) short

  costs : CostsFit (value_limit ring.area) (unit_of d ring.area) (sector_size d ring.area) (entries_on d ring.area) ring.area.sectors
  costs = costs-on d ring.area lawful ready.stands.area ready.undamaged

  -- where it goes the values still fit
  here-fits : (place : ℕ) → place ≡ place_for d ring body kept → place < ring.area.sectors → CanAppend d ring body kept → puts_cost (value_limit ring.area) (unit_of d ring.area) (entries_on d ring.area) place + put_cost (value_limit ring.area) (unit_of d ring.area) body ≤ cap (unit_of d ring.area) (sector_size d ring.area)
  here-fits place at inside can = elim leaves [
    | inl nothing ↦ let le = costs-at (value_limit ring.area) (unit_of d ring.area) (sector_size d ring.area) (entries_on d ring.area) ring.area.sectors costs place inside in omega arith
    | inr keeps ↦ elim (cases_Bool (stays_for d ring body kept)) [
      | inl stays ↦
          let room = stays-room stays in
          let is : place ≡ newest_place ring = at ∙ ap (λ (b : Bool). cond b (newest_place ring) (next_place ring)) stays in
          let cost = newest-cost d ring ready.stands none lawful room.0 (omega (arith, free)) in
          let of = of-part d ring ready.stands none (ring.used - 1) (omega (arith, free, room.0)) in
          let e = puts-of (value_limit ring.area) (unit_of d ring.area) (entries_on d ring.area) (sector_list d ring.area (newest_place ring)) (newest_place ring) of in
          let le = puts-le (value_limit ring.area) (unit_of d ring.area) (sector_list d ring.area (newest_place ring)) in
          let put = put-le (value_limit ring.area) (unit_of d ring.area) body in
          let f : puts_cost (value_limit ring.area) (unit_of d ring.area) (entries_on d ring.area) place ≡ puts_cost (value_limit ring.area) (unit_of d ring.area) (entries_on d ring.area) (newest_place ring) = ap (puts_cost (value_limit ring.area) (unit_of d ring.area) (entries_on d ring.area)) is in
          omega (arith, room.1)
      | inr opens ↦
          let is : place ≡ next_place ring = at ∙ ap (λ (b : Bool). cond b (newest_place ring) (next_place ring)) opens in
          let e = puts-none (value_limit ring.area) (unit_of d ring.area) (entries_on d ring.area) (next_place ring) (of-other d ring ready.stands none ring.used (omega (arith, free)) free) in
          let f : puts_cost (value_limit ring.area) (unit_of d ring.area) (entries_on d ring.area) place ≡ puts_cost (value_limit ring.area) (unit_of d ring.area) (entries_on d ring.area) (next_place ring) = ap (puts_cost (value_limit ring.area) (unit_of d ring.area) (entries_on d ring.area)) is in
          let put = put-le (value_limit ring.area) (unit_of d ring.area) body in
          let fits = cost-fits in
          omega arith
    ]
  ]
    where
      stays-room : stays_for d ring body kept ≡ true → (0 < ring.used) × (ring.end + record_cost (unit_of d ring.area) (length body) + kept ≤ sector_size d ring.area)
      stays-room has =
          let parts = and_parts (ltb 0 ring.used) (leb (ring.end + record_cost (unit_of d ring.area) (length body) + kept) (sector_size d ring.area)) has in
          (ltb-true 0 ring.used parts.0, leb-true (ring.end + record_cost (unit_of d ring.area) (length body) + kept) (sector_size d ring.area) parts.1)

  -- and so they do with any record that puts no more
  added-fits : (other : List ℕ) → put_cost (value_limit ring.area) (unit_of d ring.area) other ≤ put_cost (value_limit ring.area) (unit_of d ring.area) body → (at : RecordAt) → at.sector ≡ place_for d ring body kept → CanAppend d ring body kept
      → CostsFit (value_limit ring.area) (unit_of d ring.area) (sector_size d ring.area) (entries_on d ring.area ++ (at, other) ∷ []) ring.area.sectors
  added-fits other less at here can =
      costs-from (value_limit ring.area) (unit_of d ring.area) (sector_size d ring.area) (entries_on d ring.area ++ (at, other) ∷ []) ring.area.sectors
      (λ place inside.
      let e = puts-append (value_limit ring.area) (unit_of d ring.area) (entries_on d ring.area) ((at, other) ∷ []) place in
      elim (cases_eq at.sector place) [
        | inl same ↦
            let one = puts-here (value_limit ring.area) (unit_of d ring.area) at other place same in
            let le = here-fits place (sym same ∙ here) inside can in
            omega arith
        | inr apart ↦
            let one = puts-there (value_limit ring.area) (unit_of d ring.area) at other place apart in
            let le = costs-at (value_limit ring.area) (unit_of d ring.area) (sector_size d ring.area) (entries_on d ring.area) ring.area.sectors costs place inside in
            omega arith
      ])

  -- ---- a record that was cut

  module _ (e : Device) (lawful-e : IsLawful e.banks e.bytes) (banks : e.banks ≡ d.banks) where
    unit-e : unit_of e ring.area ≡ unit_of d ring.area
    unit-e = unit-after d e ring.area ring.area banks refl

    pushed : (list : List Entry) (at : RecordAt) (other : List ℕ) → HasEntries (unit_of e ring.area) (sectors_of e ring.area) (entries_on d ring.area ++ (at, other) ∷ []) → settings_on e ring.area ≡ with_setting (settings_on d ring.area) (setting_of (value_limit ring.area) other)
    pushed list at other has =
        ap (λ (l : List Entry). settings_of (value_limit ring.area) (bodies l)) has.are ∙ ap (settings_of (value_limit ring.area)) (bodies-append (entries_on d ring.area) ((at, other) ∷ [])) ∙ settings-push (value_limit ring.area) (bodies (entries_on d ring.area)) other

    in-header : (place : ℕ) → StopsInHeader d e ring.area place → (damage_on e ring.area ≡ None) × (d.is_on ≡ true → StopsPutting d e ring.area body)
    in-header place cut = (
      undamaged-after d e ring.area lawful-e ready.stands.area banks (entries_on d ring.area) cut.list costs,
      λ on. no-record-stops d e ring.area body (ap (λ (l : List Entry). settings_of (value_limit ring.area) (bodies l)) cut.list.are) (header-chance e ring.area lawful-e (area_after d e ring.area banks ready.stands.area) place (cut.loss on)),
    )

    module _ (can : CanAppend d ring body kept) (cut : StopsInRecord d e ring.area (place_for d ring body kept) body) where
      the-loss : Loss
      the-loss = record { at = place_of e ring.area (place_for d ring body kept) cut.offset; want = record { items = record_image (unit_of e ring.area) body }; done = cut.done }

      reports : (chance_on e ring.area the-loss ≡ true) ↔ IsChance (unit_of e ring.area) body cut.done
      unfolding the-loss
      reports = record-chance e ring.area lawful-e (area_after d e ring.area banks ready.stands.area) (place_for d ring body kept) cut.offset body cut.done cut.loss cut.free the-loss cut.loss.loss

      last-is : e.last_loss ≡ Some the-loss
      unfolding the-loss
      last-is = cut.loss.loss

      done-is : the-loss.done ≡ cut.done
      unfolding the-loss
      done-is = refl

      not-chance : ¬ IsChance (unit_of e ring.area) body cut.done → chance_on e ring.area the-loss ≡ false
      not-chance none = elim (cases_Bool (chance_on e ring.area the-loss)) [
        | inl is ↦ absurd (none (reports.0 is))
        | inr isnt ↦ isnt
      ]

      stops-by : (b : Bool) → chance_on e ring.area the-loss ≡ b → CutSettings (value_limit ring.area) b (unit_of d ring.area) body cut.done (settings_on d ring.area) (settings_on e ring.area) → StopsPutting d e ring.area body
      stops-by b is settings = record {
        loss = the-loss;
        last = last-is;
        settings = subst (λ (n : ℕ). CutSettings (value_limit ring.area) (chance_on e ring.area the-loss) (unit_of d ring.area) body n (settings_on d ring.area) (settings_on e ring.area)) (sym done-is)
            (subst (λ (t : Bool). CutSettings (value_limit ring.area) t (unit_of d ring.area) body cut.done (settings_on d ring.area) (settings_on e ring.area)) (sym is) settings);
      }

      spelled-less : IsChance (unit_of e ring.area) body cut.done → put_cost (value_limit ring.area) (unit_of d ring.area) (spelled (unit_of e ring.area) body cut.done) ≤ put_cost (value_limit ring.area) (unit_of d ring.area) body
      spelled-less is =
          let has = has_size d ring.area lawful ready.stands.area in
          let next = next_fits cut.done (record_cost (unit_of e ring.area) (length body)) (unit_of e ring.area) is.fewer in
          let e-unit : IsUnit (unit_of e ring.area) = subst IsUnit (sym unit-e) has.is_unit in
          subst (λ (l : List ℕ). put_cost (value_limit ring.area) (unit_of d ring.area) l ≤ put_cost (value_limit ring.area) (unit_of d ring.area) body) (sym (spelled-is (unit_of e ring.area) e-unit body (omega (arith, limit-most ring.area)) cut.done is.some (omega arith)))
          (put-cost_torn (value_limit ring.area) (unit_of d ring.area) body (cut.done * unit_of e ring.area - unit_of e ring.area))

      by-list : CutList (unit_of e ring.area) (sectors_of e ring.area) (entries_on d ring.area) (place_for d ring body kept) body cut.done → (damage_on e ring.area ≡ None) × StopsPutting d e ring.area body
      by-list (inl (none, has)) = (
        undamaged-after d e ring.area lawful-e ready.stands.area banks (entries_on d ring.area) has costs,
        stops-by false (not-chance none) (inl (ap (λ (l : List Entry). settings_of (value_limit ring.area) (bodies l)) has.are)),
      )
      by-list (inr (inl (at, here, whole, has))) = (
        undamaged-after d e ring.area lawful-e ready.stands.area banks (entries_on d ring.area ++ (at, body) ∷ []) has (added-fits body (omega arith) at here can),
        stops-by false (not-chance (λ is. is.differs whole)) (inr (pushed (entries_on d ring.area) at body has)),
      )
      by-list (inr (inr (at, here, is, has))) = (
        undamaged-after d e ring.area lawful-e ready.stands.area banks (entries_on d ring.area ++ (at, spelled (unit_of e ring.area) body cut.done) ∷ []) has (added-fits (spelled (unit_of e ring.area) body cut.done) (spelled-less is) at here can),
        stops-by true (reports.1 is) (subst (λ (u : ℕ). Tears (value_limit ring.area) u body cut.done (settings_on d ring.area) (settings_on e ring.area)) unit-e
            (record { chance = is; settings = pushed (entries_on d ring.area) at (spelled (unit_of e ring.area) body cut.done) has })),
      )

    cut-short : CanAppend d ring body kept → CutAppend d e ring.area (place_for d ring body kept) body → (damage_on e ring.area ≡ None) × (d.is_on ≡ true → StopsPutting d e ring.area body)
    cut-short can (inl cut) = in-header (place_for d ring body kept) cut
    cut-short can (inr cut) = let both = by-list can cut cut.list in (both.0, λ on. both.1)

  -- the units of one append are fewer than those of a collection
  few-units : (stays : Bool) → append_units (unit_of d ring.area) (length body) stays ≤ collect_units d ring
  few-units stays =
      let has = has_size d ring.area lawful ready.stands.area in
      let pad = padding (unit_of d ring.area) has.is_unit in
      let fits = cost-fits in
      let one = units_le (unit_of d ring.area) (record_cost (unit_of d ring.area) (length body)) (sector_size d ring.area) has.is_unit (omega arith) in
      let two = header-units (unit_of d ring.area) has.is_unit in
      by stays one two
    where
      by : (stays : Bool) → record_cost (unit_of d ring.area) (length body) / unit_of d ring.area ≤ sector_size d ring.area / unit_of d ring.area → padded (unit_of d ring.area) 8 / unit_of d ring.area ≤ 2 → append_units (unit_of d ring.area) (length body) stays ≤ collect_units d ring
      by true one two = omega arith
      by false one two = omega arith

  some-units : (stays : Bool) → 0 < append_units (unit_of d ring.area) (length body) stays
  some-units stays =
      let has = has_size d ring.area lawful ready.stands.area in
      let one = units-some (unit_of d ring.area) (length body) has.is_unit in
      by stays one
    where
      by : (stays : Bool) → 0 < record_cost (unit_of d ring.area) (length body) / unit_of d ring.area → 0 < append_units (unit_of d ring.area) (length body) stays
      by true one = omega arith
      by false one = omega arith

  pub tried : {T : Type 0} (e : Device) (after : Ring) (result : Result T AppendFault) → IsLawful e.banks e.bytes → e.banks ≡ d.banks → after.area ≡ ring.area → after.reserve ≡ ring.reserve → OthersStay d e ring.area (place_for d ring body kept) → AppendEnds d e ring after body kept result → TryEnds d e ring after body kept result
  tried {T} e after (Ok x) lawful-e banks area kept-reserve others (can, (at, here, adds), goes, is-ready) =
      let undamaged : damage_on e ring.area ≡ None = undamaged-after d e ring.area lawful-e ready.stands.area banks (entries_on d ring.area ++ (at, body) ∷ []) adds (added-fits body (omega arith) at here can) in
      let settings : settings_on e ring.area ≡ with_setting (settings_on d ring.area) (setting_of (value_limit ring.area) body) =
      ap (λ (l : List Entry). settings_of (value_limit ring.area) (bodies l)) adds.are ∙ ap (settings_of (value_limit ring.area)) (bodies-append (entries_on d ring.area) ((at, body) ∷ [])) ∙ settings-push (value_limit ring.area) (bodies (entries_on d ring.area)) body in
      let unit : unit_of e after.area ≡ unit_of d ring.area = unit-after d e ring.area after.area banks area in (
        record {
          stands = is-ready.stands;
          ready = is-ready.stage;
          reserve = kept-reserve ∙ ready.reserve ∙ ap reserve (sym unit);
          undamaged = subst (λ (x : Area). damage_on e x ≡ None) (sym area) undamaged;
        },
        settings,
        λ stays. subst (λ (n : ℕ). Spends d e n) (units-here (unit_of d ring.area) (length body) (stays_for d ring body kept) stays) is-ready.units,
        append_units (unit_of d ring.area) (length body) (stays_for d ring body kept),
        some-units (stays_for d ring body kept),
        few-units (stays_for d ring body kept),
        is-ready.units,
      )
  tried {T} e after (Err Full) lawful-e banks area kept-reserve others (long, stays, left, refused) =
      let all : ring.used + 1 ≡ ring.area.sectors = eqb-true (ring.used + 1) ring.area.sectors left in
      let used : 0 < ring.used = omega (arith, ready.stands.area.lawful.several) in
      (refused.flash, refused.ring, stays-not used stays, all, cost-fits)
    where
      stays-not : 0 < ring.used → stays_for d ring body kept ≡ false → IsFull d ring (length body) kept
      stays-not used stays = elim (cases_lt (sector_size d ring.area) (ring.end + record_cost (unit_of d ring.area) (length body) + kept)) [
        | inl lt ↦ lt
        | inr le ↦
            let has : stays_for d ring body kept ≡ true = and_from (ltb 0 ring.used) (leb (ring.end + record_cost (unit_of d ring.area) (length body) + kept) (sector_size d ring.area)) (lt-ltb 0 ring.used used) (le-leb (ring.end + record_cost (unit_of d ring.area) (length body) + kept) (sector_size d ring.area) le) in
            absurd (both_ways (stays_for d ring body kept) stays has)
      ]
  tried {T} e after (Err TooLong) lawful-e banks area kept-reserve others (long, refused) = both_ways (too_long_for d ring body kept) not-long long
  tried {T} e after (Err PowerLost) lawful-e banks area kept-reserve others (can, cut, down) =
      let short = cut-short e lawful-e banks can cut in (
        record { down = down.down; undamaged = short.0; due = cut-due d e ring ready.stands ready.ready banks (place_for d ring body kept) others; stops = short.1 },
        most_weaker d e (append_units (unit_of d ring.area) (length body) (stays_for d ring body kept)) (collect_units d ring) (few-units (stays_for d ring body kept)) down.units,
        λ stays. subst (λ (n : ℕ). SpendsAtMost d e n) (units-here (unit_of d ring.area) (length body) (stays_for d ring body kept) stays) down.units,
      )

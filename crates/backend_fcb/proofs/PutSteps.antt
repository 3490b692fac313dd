-- Collecting until a record fits, one round at a time.
use Rattle.std.proofs.Common.{◌≡◌, ℕ, ◌+◌, ◌-◌, ◌*◌, ◌/◌, ◌<◌, ◌≤◌, Bool, true, false, ltb, leb, List, [], ◌∷◌, length, None, Result, Ok, Err, inl, inr, refl, sym, ap, subst, ◌∙◌, arith, ◌++◌}
use Rattle.std.proofs.Math.Nat.{mul-le-mul_right}
use Rattle.std.proofs.lemmas.Bool.{cases_eq, and_parts, leb-true}
use Rattle.flash_sim.specs.Device.{Device}
use Rattle.flash_map.specs.Area.{value_limit, unit_of, sector_size}
use Rattle.flash_map.specs.declared.area.Area.{Area}
use Rattle.flash_map.specs.Spending.{Spends, SpendsAtMost}
use Rattle.flash_map.specs.Touches.{Touches}
use Rattle.flash_map.specs.Units.{padded}
use Rattle.flash_map.proofs.SpendingLemmas.{spends_none, spends_then, most_weaker}
use Rattle.flash_map.proofs.Touches.{then, untouched}
use Rattle.fcb_ring.specs.declared.ring.Ring.{Ring}
use Rattle.fcb_ring.specs.declared.writing.AppendFault.{AppendFault}
use Rattle.fcb_ring.specs.declared.writing.AppendFault.TheVariants.{Full, TooLong, PowerLost}
use Rattle.fcb_ring.specs.Chance.{HasNoChance}
use Rattle.fcb_ring.specs.Changing.{kept_room, stays_for}
use Rattle.fcb_ring.specs.Standing.{is_up}
use Rattle.fcb_ring.specs.Writing.{record_cost}
use Rattle.fcb_ring.proofs.AppendLemmas.{unit-after, size-after, ready-used}
use Rattle.backend_api.specs.Map.{Map}
use Rattle.backend_fcb.specs.Changing.{Collects, HasNoPlace, IsFull, SpendsCost, SpendsUpToCost, StopsDown, PutEnds, TryEnds, parts_on, collect_units}
use Rattle.record_settings.specs.Live.{live_bodies}
use Rattle.record_settings.specs.Room.{cap, put_cost}
use Rattle.item_laws.specs.PairRounds.{joined}
use Rattle.record_settings.specs.Rounds.{bodies_cost, FindsNoRoom}
use Rattle.record_settings.specs.Settings.{setting_of, with_setting}
use Rattle.backend_fcb.specs.Standing.{damage_on, settings_on, IsReady}
use Rattle.backend_fcb.proofs.Tearing.{down-then, no-record-stops}
use Rattle.item_laws.proofs.NoRoom.{no_round, round_more}
use Rattle.record_settings.proofs.NoRoom.{settings_rounds}
use Rattle.backend_fcb.proofs.PartLists.{count-parts}
use Rattle.backend_fcb.proofs.RingLists.{ready-none}
use Rattle.fcb_ring.specs.Standing.{erases_on}

-- what a sector has for records that leave so much room
abbrev pub room_for : Device → Ring → ℕ → ℕ
room_for d ring kept = sector_size d ring.area - padded (unit_of d ring.area) 8 - kept

-- so many collections were made, and the record has not been put
pub record IsSearching (a d : Device) (before now : Ring) (len kept rounds : ℕ) : Type 0 where
  pub touches : Touches (before.area ∷ []) a d false
  pub area : now.area ≡ before.area
  pub reserve : now.reserve ≡ before.reserve
  pub ready : IsReady d now
  pub settings : settings_on d before.area ≡ settings_on a before.area
  pub used : now.used ≡ before.used
  pub spent : SpendsAtMost a d (rounds * collect_units a before)
  -- if the record does not fit now, it did not after each of them
  pub none : IsFull d now len kept → FindsNoRoom (value_limit before.area) (unit_of a before.area) (record_cost (unit_of a before.area) len) (room_for a before kept) (parts_on a before) (parts_on d now) rounds
  pub end : 0 < rounds → now.end ≤ padded (unit_of a before.area) 8 + cap (unit_of a before.area) (sector_size a before.area)
  -- with no collection all is as before, and with one the record did not fit at first
  pub first : rounds ≡ 0 → (d ≡ a) × (now ≡ before)
  pub over : 0 < rounds → IsFull a before len kept

pub searching-start : (a : Device) (ring : Ring) (len kept : ℕ) → IsReady a ring → IsSearching a a ring ring len kept 0
searching-start a ring len kept ready = record {
  touches = untouched (ring.area ∷ []) a;
  area = refl;
  reserve = refl;
  ready = ready;
  settings = refl;
  used = refl;
  spent = (0, omega arith, spends_none a);
  none = λ full. no_round (live_bodies (value_limit ring.area)) (bodies_cost (unit_of a ring.area)) (settings_rounds (value_limit ring.area) (unit_of a ring.area)) (record_cost (unit_of a ring.area) len) (room_for a ring kept) (parts_on a ring);
  end = λ some. absurd (omega arith);
  first = λ none. (refl, refl);
  over = λ some. absurd (omega arith);
}

module _ (a d : Device) (before now : Ring) (len kept rounds : ℕ) (so_far : IsSearching a d before now len kept rounds) where
  unit-same : unit_of d now.area ≡ unit_of a before.area
  unit-same = unit-after a d before.area now.area so_far.touches.banks so_far.area

  size-same : sector_size d now.area ≡ sector_size a before.area
  size-same = size-after a d before.area now.area so_far.touches.banks so_far.area

  units-same : collect_units d now ≡ collect_units a before
  units-same = ap (λ (u : ℕ). sector_size d now.area / u + 3) unit-same ∙ ap (λ (s : ℕ). s / unit_of a before.area + 3) size-same

  pub kept-same : (into_reserve : Bool) → kept_room now into_reserve ≡ kept_room before into_reserve
  kept-same true = refl
  kept-same false = so_far.reserve

  pub no-put : (body : List ℕ) (into_reserve : Bool) → (into_reserve ≡ true → put_cost (value_limit before.area) (unit_of a before.area) body ≡ 0) → into_reserve ≡ true → put_cost (value_limit before.area) (unit_of d now.area) body ≡ 0
  no-put body into_reserve none into = ap (λ (u : ℕ). put_cost (value_limit before.area) u body) unit-same ∙ none into

  pub searching-touches : (e : Device) (lost : Bool) → Touches (now.area ∷ []) d e lost → Touches (before.area ∷ []) a e lost
  searching-touches e lost touches = then so_far.touches (subst (λ (x : Area). Touches (x ∷ []) d e lost) so_far.area touches)

  most-then : (e : Device) → SpendsAtMost d e (collect_units d now) → SpendsAtMost a e ((rounds + 1) * collect_units a before)
  most-then e (units, le, spent) =
      let first = so_far.spent in
      let u = units-same in
      let product : (rounds + 1) * collect_units a before ≡ rounds * collect_units a before + collect_units a before = omega arith in
      (first.0 + units, omega (arith, first.1), spends_then a d e first.0 units first.2 spent)

  pub searching-lost : (e : Device) → SpendsAtMost d e (collect_units d now) → (all : ℕ) → rounds ≤ all → SpendsAtMost a e ((all + 1) * collect_units a before)
  searching-lost e most all le = most_weaker a e ((rounds + 1) * collect_units a before) ((all + 1) * collect_units a before) (mul-le-mul_right (collect_units a before) (omega arith)) (most-then e most)

  -- the record did not fit at first either
  over-then : IsFull d now len kept → IsFull a before len kept
  over-then full = elim (cases_eq rounds 0) [
    | inl none ↦
        let start = so_far.first none in
        subst (λ (r : Ring). IsFull a r len kept) start.1 (subst (λ (x : Device). IsFull x now len kept) start.0 full)
    | inr some ↦ so_far.over (omega arith)
  ]

  over-not : (body : List ℕ) → len ≡ length body → stays_for a before body kept ≡ true → IsFull a before len kept → ⊥
  over-not body is stays full =
      let parts = and_parts (ltb 0 before.used) (leb (before.end + record_cost (unit_of a before.area) (length body) + kept) (sector_size a before.area)) stays in
      let fits : before.end + record_cost (unit_of a before.area) (length body) + kept ≤ sector_size a before.area = leb-true (before.end + record_cost (unit_of a before.area) (length body) + kept) (sector_size a before.area) parts.1 in
      let over : sector_size a before.area < before.end + record_cost (unit_of a before.area) (length body) + kept = subst (λ (n : ℕ). sector_size a before.area < before.end + record_cost (unit_of a before.area) n + kept) is full in
      omega arith

  -- so where it fitted at first, no collection was made
  exact-then : (e : Device) (body : List ℕ) → len ≡ length body → SpendsCost d e now body kept → SpendsCost a e before body kept
  exact-then e body is exact stays = elim (cases_eq rounds 0) [
    | inl none ↦
        let start = so_far.first none in
        subst (λ (r : Ring). SpendsCost a e r body kept) start.1 (subst (λ (x : Device). SpendsCost x e now body kept) start.0 exact) stays
    | inr some ↦ absurd (over-not body is stays (so_far.over (omega arith)))
  ]

  -- nor were more units spent than the record's
  up-then : (e : Device) (body : List ℕ) → len ≡ length body → SpendsUpToCost d e now body kept → SpendsUpToCost a e before body kept
  up-then e body is up stays = elim (cases_eq rounds 0) [
    | inl none ↦
        let start = so_far.first none in
        subst (λ (r : Ring). SpendsUpToCost a e r body kept) start.1 (subst (λ (x : Device). SpendsUpToCost x e now body kept) start.0 up) stays
    | inr some ↦ absurd (over-not body is stays (so_far.over (omega arith)))
  ]

  -- one round more
  pub searching-more : (e : Device) (after : Ring) → 0 < record_cost (unit_of a before.area) len → rounds < before.used → IsFull d now len kept → Touches (now.area ∷ []) d e false → after.area ≡ now.area → settings_on e now.area ≡ settings_on d now.area
      → SpendsAtMost d e (collect_units d now) → IsReady e after → after.used ≡ now.used → after.reserve ≡ now.reserve → Collects d e now after → IsReady a before → IsSearching a e before after len kept (rounds + 1)
  searching-more e after some below full touches area settings most ready used reserve collects start =
      let c-end : after.end ≡ padded (unit_of d now.area) 8 + bodies_cost (unit_of d now.area) (live_bodies (value_limit before.area) collects.victim (joined collects.others)) =
      subst (λ (x : Area). after.end ≡ padded (unit_of d now.area) 8 + bodies_cost (unit_of d now.area) (live_bodies (value_limit x) collects.victim (joined collects.others))) so_far.area collects.end in
      let c-within : bodies_cost (unit_of d now.area) (live_bodies (value_limit before.area) collects.victim (joined collects.others)) ≤ cap (unit_of d now.area) (sector_size d now.area) =
      subst (λ (x : Area). bodies_cost (unit_of d now.area) (live_bodies (value_limit x) collects.victim (joined collects.others)) ≤ cap (unit_of d now.area) (sector_size d now.area)) so_far.area collects.within in
      let c-parts : parts_on e after ≡ collects.others ++ live_bodies (value_limit before.area) collects.victim (joined collects.others) ∷ [] =
      subst (λ (x : Area). parts_on e after ≡ collects.others ++ live_bodies (value_limit x) collects.victim (joined collects.others) ∷ []) so_far.area collects.new_parts in
      let cost-same : bodies_cost (unit_of d now.area) (live_bodies (value_limit before.area) collects.victim (joined collects.others)) ≡ bodies_cost (unit_of a before.area) (live_bodies (value_limit before.area) collects.victim (joined collects.others)) =
      ap (λ (u : ℕ). bodies_cost u (live_bodies (value_limit before.area) collects.victim (joined collects.others))) unit-same in
      let header : padded (unit_of d now.area) 8 ≡ padded (unit_of a before.area) 8 = ap (λ (u : ℕ). padded u 8) unit-same in
      let end : after.end ≡ padded (unit_of a before.area) 8 + bodies_cost (unit_of a before.area) (live_bodies (value_limit before.area) collects.victim (joined collects.others)) = c-end ∙ ap (λ (n : ℕ). n + bodies_cost (unit_of d now.area) (live_bodies (value_limit before.area) collects.victim (joined collects.others))) header ∙ ap (λ (n : ℕ). padded (unit_of a before.area) 8 + n) cost-same in
      let within : bodies_cost (unit_of a before.area) (live_bodies (value_limit before.area) collects.victim (joined collects.others)) ≤ cap (unit_of a before.area) (sector_size a before.area) =
      subst (λ (n : ℕ). n ≤ cap (unit_of a before.area) (sector_size a before.area)) cost-same
      (subst (λ (s : ℕ). bodies_cost (unit_of d now.area) (live_bodies (value_limit before.area) collects.victim (joined collects.others)) ≤ cap (unit_of a before.area) s) size-same
      (subst (λ (u : ℕ). bodies_cost (unit_of d now.area) (live_bodies (value_limit before.area) collects.victim (joined collects.others)) ≤ cap u (sector_size d now.area)) unit-same c-within)) in
      let unit-e : unit_of e after.area ≡ unit_of a before.area = unit-after d e now.area after.area touches.banks area ∙ unit-same in
      let size-e : sector_size e after.area ≡ sector_size a before.area = size-after d e now.area after.area touches.banks area ∙ size-same in
      record {
        touches = searching-touches e false touches;
        area = area ∙ so_far.area;
        reserve = reserve ∙ so_far.reserve;
        ready = ready;
        settings = sym (ap (λ (x : Area). settings_on e x) so_far.area) ∙ settings ∙ ap (λ (x : Area). settings_on d x) so_far.area ∙ so_far.settings;
        used = used ∙ so_far.used;
        spent = most-then e most;
        none = λ full-e.
            let full-now : sector_size a before.area < after.end + record_cost (unit_of a before.area) len + kept =
            subst (λ (s : ℕ). s < after.end + record_cost (unit_of a before.area) len + kept) size-e (subst (λ (u : ℕ). sector_size e after.area < after.end + record_cost u len + kept) unit-e full-e) in
            let count : length (parts_on a before) ≡ before.used = count-parts a before start.stands (ready-none before start.ready) (ready-used a before start.stands start.ready) in
            subst (λ (parts : List (List (List ℕ))). FindsNoRoom (value_limit before.area) (unit_of a before.area) (record_cost (unit_of a before.area) len) (room_for a before kept) (parts_on a before) parts (rounds + 1)) (sym c-parts)
            (round_more (live_bodies (value_limit before.area)) (bodies_cost (unit_of a before.area)) (settings_rounds (value_limit before.area) (unit_of a before.area)) (record_cost (unit_of a before.area) len) (room_for a before kept) (parts_on a before) rounds collects.victim collects.others
            (subst (λ (parts : List (List (List ℕ))). FindsNoRoom (value_limit before.area) (unit_of a before.area) (record_cost (unit_of a before.area) len) (room_for a before kept) (parts_on a before) parts rounds) collects.old_parts (so_far.none full))
            (omega (arith, count)) (omega (arith, end)));
        end = λ positive. omega (arith, end, within);
        first = λ none. absurd (omega arith);
        over = λ positive. over-then full;
      }

  -- the record did not fit after the last of them
  pub searching-full : (T : Type 0) (e : Device) (after : Ring) (body : List ℕ) → len ≡ length body → TryEnds {T = T} d e now after body kept (Err Full) → HasNoPlace a e before after (length body) kept rounds
  searching-full T e after body is (device, ring, full, left, short) =
      let count : now.area.sectors ≡ before.area.sectors = ap (λ (x : Area). x.sectors) so_far.area in
      let at : FindsNoRoom (value_limit before.area) (unit_of a before.area) (record_cost (unit_of a before.area) len) (room_for a before kept) (parts_on a before) (parts_on d now) rounds = so_far.none (subst (λ (n : ℕ). IsFull d now n kept) (sym is) full) in
      let one : HasNoPlace a d before now (length body) kept rounds = record {
        ready = so_far.ready;
        settings = so_far.settings;
        short =
            subst (λ (u : ℕ). record_cost u (length body) ≤ sector_size a before.area - padded u 8 - kept) unit-same
            (subst (λ (s : ℕ). record_cost (unit_of d now.area) (length body) ≤ s - padded (unit_of d now.area) 8 - kept) size-same short);
        full = full;
        left = omega (arith, left, so_far.used);
        none = subst (λ (n : ℕ). FindsNoRoom (value_limit before.area) (unit_of a before.area) (record_cost (unit_of a before.area) n) (room_for a before kept) (parts_on a before) (parts_on d now) rounds) is at;
        end = so_far.end;
      } in
      subst (λ (x : Device). HasNoPlace a x before after (length body) kept rounds) (sym device) (subst (λ (r : Ring). HasNoPlace a d before r (length body) kept rounds) (sym ring) one)

  -- how the last append ends is how it all ends
  pub searching-ends : {T : Type 0} (e : Device) (after : Ring) (body : List ℕ) (result : Result T AppendFault) → len ≡ length body → TryEnds d e now after body kept result → PutEnds a e before after body kept rounds result
  searching-ends {T} e after body (Ok x) is (ready, settings, exact, units, some, le, spent) =
      let first = so_far.spent in (
        ready,
        subst (λ (x : Area). settings_on e x ≡ with_setting (settings_on d x) (setting_of (value_limit x) body)) so_far.area settings
            ∙ ap (λ (m : Map). with_setting m (setting_of (value_limit before.area) body)) so_far.settings,
        exact-then e body is exact,
        (first.0 + units, omega arith, spends_then a d e first.0 units first.2 spent),
      )
  searching-ends {T} e after body (Err Full) is full = searching-full T e after body is full
  searching-ends {T} e after body (Err TooLong) is long = long
  searching-ends {T} e after body (Err PowerLost) is (down, most, up) = (down-then a d e before now after body so_far.touches so_far.area so_far.settings down, up-then e body is up)

  -- an append that ends otherwise
  pub searching-stops : {T : Type 0} (e : Device) (after : Ring) (body : List ℕ) (result : Result T AppendFault) (all : ℕ) → len ≡ length body → (result ≡ Err Full → ⊥) → TryEnds d e now after body kept result → PutEnds a e before after body kept all result
  searching-stops {T} e after body (Ok x) all is other ends = searching-ends e after body (Ok x) is ends
  searching-stops {T} e after body (Err Full) all is other ends = absurd (other refl)
  searching-stops {T} e after body (Err TooLong) all is other ends = ends
  searching-stops {T} e after body (Err PowerLost) all is other ends = searching-ends {T = T} e after body (Err PowerLost) is ends

  -- and a collection that was cut
  pub searching-cut : (e : Device) (after : Ring) (body : List ℕ) → len ≡ length body → IsFull d now len kept → is_up after.stage ≡ false → damage_on e now.area ≡ None → erases_on e now.area ≤ 1 → settings_on e now.area ≡ settings_on d now.area → (d.is_on ≡ true → HasNoChance e now.area)
      → StopsDown a e before after body × SpendsUpToCost a e before body kept
  searching-cut e after body is full down undamaged due settings lost = (
    down-then a d e before now after body so_far.touches so_far.area so_far.settings
        (record { down = down; undamaged = undamaged; due = due; stops = λ on. no-record-stops d e now.area body settings (lost on) }),
    λ stays. absurd (over-not body is stays (over-then full)),
  )

  pub searching-most : {T : Type 0} (e : Device) (after : Ring) (body : List ℕ) (result : Result T AppendFault) (all : ℕ) → rounds ≤ all → TryEnds d e now after body kept result → SpendsAtMost a e ((all + 1) * collect_units a before)
  searching-most {T} e after body (Ok x) all le (ready, settings, exact, units, some, fewer, spent) = searching-lost e (units, fewer, spent) all le
  searching-most {T} e after body (Err Full) all le (device, ring, full, left, short) = searching-lost e (0, omega arith, subst (λ (x : Device). Spends d x 0) (sym device) (spends_none d)) all le
  searching-most {T} e after body (Err TooLong) all le long = absurd long
  searching-most {T} e after body (Err PowerLost) all le (down, most, up) = searching-lost e most all le

pub ok-other : (T : Type 0) (x : T) → (let r : Result T AppendFault = Ok x in let full : Result T AppendFault = Err Full in r ≡ full) → ⊥
ok-other T x e = cc

pub lost-other : (T : Type 0) → (let r : Result T AppendFault = Err PowerLost in let full : Result T AppendFault = Err Full in r ≡ full) → ⊥
lost-other T e = cc

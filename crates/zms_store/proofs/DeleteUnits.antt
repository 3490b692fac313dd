-- What a delete spends. One that needs a round finds fewer than two slots free, so its close is short.
use Rattle.std.proofs.Common.{◌≡◌, ℕ, ◌+◌, ◌*◌, ◌/◌, ◌<◌, ◌≤◌, true, false, List, [], ◌∷◌, length, Option, Some, None, Result, Ok, Err, refl, sym, ap, subst, ◌∙◌, inl, inr, arith}
use Rattle.std.specs.FinMap.{get}
use Rattle.std.specs.List.{flat_map}
use Rattle.std.proofs.lemmas.Bool.{leb-false}
use Rattle.flash_sim.specs.Bank.{IsLawful}
use Rattle.flash_sim.specs.Device.{Device}
use Rattle.flash_sim.specs.declared.flash.PowerLost.{PowerLost as Lost}
use Rattle.flash_sim.specs.declared.flash.Kind.{Kind as BankKind}
use Rattle.flash_sim.specs.declared.flash.Kind.TheVariants.{Erasing, Rewritable}
use Rattle.flash_map.specs.declared.area.Area.{Area}
use Rattle.flash_map.specs.declared.area.Role.TheVariants.{Zms as ZmsRole}
use Rattle.flash_map.specs.Area.{geometry_of, sector_at, sector_size, sectors_of}
use Rattle.flash_map.specs.Spending.{SpendsBetween}
use Rattle.flash_map.proofs.SpendingBounds.{between_then, between_within}
use Rattle.item_laws.specs.Area.{next, open_sector}
use Rattle.item_laws.specs.Forms.{AtRest, pairs_at, rest, to_copy}
use Rattle.item_laws.specs.PairRounds.{copies_cost}
use Rattle.item_laws.proofs.AreaReads.{length-sectors}
use Rattle.item_laws.proofs.LiveCost.{live-le}
use Rattle.item_laws.proofs.Places.{after-within}
use Rattle.item_store.specs.Room.{has_room, has_room_at, Rounds, round_at, rounds_units}
use Rattle.item_store.specs.SectorFormat.{SectorFormat}
use Rattle.item_store.specs.Spending.{both}
use Rattle.item_store.specs.Standing.{items_at}
use Rattle.item_store.specs.Writing as writing
use Rattle.item_store.proofs.Areas.{size_there}
use Rattle.item_store.proofs.ReadFacts.{rest_on}
use Rattle.zms_cycle.specs.Sector.{capacity, cost, data_len}
use Rattle.zms_format.specs.Formats.{format_of, units_of}
use Rattle.zms_format.proofs.FormatLemmas.{zms_is_format}
use Rattle.zms_store.specs.declared.store.Zms.{Zms}
use Rattle.zms_store.specs.Spending.{most_delete, sector_units, DeleteSpends}
use Rattle.zms_store.specs.Standing.{format_on, kept, StandsOn}
use Rattle.zms_store.proofs.Numbers.{Within, between_same, entry_within, ready_four, refill_within}

-- a delete has an entry alone, of one unit
delete_cost : cost 0 / 16 ≡ 1
unfolding data_len
delete_cost = refl

some_list : {X : Type 0} (x : X) (xs : List X) → x ∷ xs ≡ [] → ⊥
some_list x xs e = cc

some_item : (bytes : List ℕ) → Some bytes ≡ None → ⊥
some_item bytes e = cc

-- by the kind of the bank: on an erasing one, any round and the entry
most_by : (old new : Device) (bank : BankKind) (size : ℕ) → SpendsBetween old new 0 (1 * (units_of bank).round size + (units_of bank).entry 0) → SpendsBetween old new 0 (2 * (size / 16) + 5) → SpendsBetween old new 0 (most_delete bank (size / 16))
most_by old new Rewritable size any short = short
most_by old new Erasing size any short = let one = delete_cost in between_within any 0 (size / 16 + 4) (omega arith) (omega arith)

module _ (old : Device) (zms : Zms) (lawful : IsLawful old.banks old.bytes) (on : StandsOn old zms) where
  abbrev area : Area
  area = zms.store.area

  abbrev k : SectorFormat
  k = format_on old zms.store.area

  abbrev here : List (List ℕ)
  here = sectors_of old zms.store.area

  abbrev most : ℕ
  most = 2 * sector_units old zms.store.area

  rested : AtRest (format_on old zms.store.area).reading (sectors_of old zms.store.area) (open_sector (format_on old zms.store.area).reading (sectors_of old zms.store.area))
  rested = subst (λ (p : ℕ). AtRest k.reading here p) on.current (rest_on ZmsRole format_of kept old zms.store (zms_is_format (geometry_of old area)) lawful on)

  -- ---- its round

  -- what the round copies fits a sector
  small : (place : ℕ) → AtRest (format_on old zms.store.area).reading (sectors_of old zms.store.area) place
      → copies_cost cost (to_copy (format_on old zms.store.area).reading (sectors_of old zms.store.area) (next (sectors_of old zms.store.area) place)) ≤ capacity (sector_size old zms.store.area)
  small place form =
      let law = zms_is_format (geometry_of old area) in
      let opened = next here place in
      let victim = next here (next here place) in
      let count = length-sectors old area in
      let inside = after-within (length here) (next here place) (after-within (length here) place form.ring.within) in
      let long : length (sector_at here victim) ≡ sector_size old area = size_there ZmsRole old area lawful on.area victim (omega arith) in
      let large = on.area.lawful.at_least in
      let live = live-le cost (pairs_at k.reading here victim) (flat_map (pairs_at k.reading here) (rest (length here) opened)) in
      let costs = law.costs (sector_at here victim) (omega arith) (form.sound victim inside) in
      let cap : capacity (length (sector_at here victim)) ≡ capacity (sector_size old area) = ap capacity long in
      omega arith

  refill : has_room (format_on old zms.store.area) (sectors_of old zms.store.area) 0 ≡ false → Within (round_at (format_on old zms.store.area) (sectors_of old zms.store.area)) (2 * sector_units old zms.store.area)
  refill unfit =
      let place = open_sector k.reading here in
      let short : k.free (sector_at here place) < 2 * 16 = leb-false (2 * 16) (k.free (sector_at here place)) unfit in
      refill_within (geometry_of old area) here (open_sector k.reading here) (sector_size old area) on.area.lawful.at_least on.area.lawful.whole short (small (open_sector k.reading here) rested)

  -- where no room was, in sectors that are those of the area
  refill_at : (mid : List (List ℕ)) → mid ≡ sectors_of old zms.store.area → has_room (format_on old zms.store.area) mid 0 ≡ false → Within (round_at (format_on old zms.store.area) mid) (2 * sector_units old zms.store.area)
  refill_at mid same unfit =
      subst (λ (s : List (List ℕ)). Within (round_at k s) most) (sym same) (refill (ap (λ (s : List (List ℕ)). has_room k s 0) (sym same) ∙ unfit))

  -- one round or none
  rounds_few : (before : List (List (List ℕ))) (new : List (List ℕ)) → length before ≤ 1 → Rounds (format_on old zms.store.area) (sector_size old zms.store.area) 0 (sectors_of old zms.store.area) before new
      → (rounds_units (format_on old zms.store.area) before).most ≤ 2 * sector_units old zms.store.area
  rounds_few [] new few did = omega arith
  rounds_few (mid ∷ []) new few did = let one = (refill_at mid did.0 did.1).most in omega arith
  rounds_few (mid ∷ (more ∷ before)) new few did = absurd (omega arith)

  -- the first round was cut
  cut_few : (before : List (List (List ℕ))) (mid : List (List ℕ)) → before ≡ [] → Rounds (format_on old zms.store.area) (sector_size old zms.store.area) 0 (sectors_of old zms.store.area) before mid → has_room (format_on old zms.store.area) mid 0 ≡ false
      → (rounds_units (format_on old zms.store.area) before).most + (round_at (format_on old zms.store.area) mid).lost ≤ 2 * sector_units old zms.store.area
  cut_few [] mid first did unfit = let one = (refill_at mid did unfit).lost in omega arith
  cut_few (one ∷ before) mid first did unfit = absurd (some_list one before first)

  -- ---- the round and the entry

  entry_most : (b : List ℕ) → Within (both ((format_on old zms.store.area).units.begin b) ((format_on old zms.store.area).units.put b 0)) 5
  entry_most b =
      let one = delete_cost in
      let most_entry = entry_within (geometry_of old area) here b 0 in
      let whole = most_entry.most in
      let cut = most_entry.lost in
      record { most = omega arith; lost = omega arith }

  module _ (new : Device) (id : ℕ) where
    appended : writing.Appends (format_on old zms.store.area) old new zms.store.area id [] → SpendsBetween old new 0 (2 * sector_units old zms.store.area + 5)
    appended appends =
        let rounds = rounds_few appends.makes.before (sectors_of appends.mid area) (appends.makes.once refl).0 appends.makes.rounds in
        let entry = (entry_most (writing.open_at k appends.mid area)).most in
        between_within (between_then appends.makes.spends appends.puts.entry) 0 (most + 5) (omega arith) (omega arith)

    stopped : writing.StopsAppending (format_on old zms.store.area) old new zms.store.area id [] → SpendsBetween old new 0 (2 * sector_units old zms.store.area + 5)
    stopped (inl round) =
        let rounds = cut_few round.before round.mid (round.once refl) round.rounds round.unfit in
        between_within round.spends 0 (most + 5) (omega arith) (omega arith)
    stopped (inr entry) =
        let rounds = rounds_few entry.makes.before (sectors_of entry.mid area) (entry.makes.once refl).0 entry.makes.rounds in
        let behind = (entry_most (writing.open_at k entry.mid area)).lost in
        between_within (between_then entry.makes.spends entry.stops.entry) 0 (most + 5) (omega arith) (omega arith)

    -- where the item is there, and a delete fits
    whole_fitting : writing.Deletes (format_on old zms.store.area) old new zms.store.area id → has_room_at (format_on old zms.store.area) old zms.store.area 0 ≡ true
        → (o : Option (List ℕ)) → get (items_at (format_on old zms.store.area) old zms.store.area) id ≡ o → SpendsBetween old new 0 5
    whole_fitting ends room None is = between_same old new 5 (ends.absent is)
    whole_fitting ends room (Some bytes) is =
        let entry = (entry_most (writing.open_at k old area)).most in
        between_within (ends.fitting (λ gone. some_item bytes (sym is ∙ gone)) room) 0 5 (omega arith) (omega arith)

    whole_most : writing.Deletes (format_on old zms.store.area) old new zms.store.area id
        → (o : Option (List ℕ)) → get (items_at (format_on old zms.store.area) old zms.store.area) id ≡ o → SpendsBetween old new 0 (2 * sector_units old zms.store.area + 5)
    whole_most ends None is = between_same old new (most + 5) (ends.absent is)
    whole_most ends (Some bytes) is = appended (ends.appends (λ gone. some_item bytes (sym is ∙ gone)))

    pub delete_spends : {T : Type 0} (result : Result T Lost) → writing.DeleteEnds (format_on old zms.store.area) old new zms.store.area id result → DeleteSpends old new zms.store.area id
    delete_spends (Ok done) ends =
        record {
          absent = λ gone. between_same old new 0 (ends.absent gone);
          fitting = λ room. whole_fitting ends room (get (items_at k old area) id) refl;
          at_most = most_by old new (geometry_of old area).kind (sector_size old area) ends.at_most (whole_most ends (get (items_at k old area) id) refl);
        }
    delete_spends (Err fault) ends = record {
      absent = λ gone. absurd (ends.present gone);
      fitting = λ room.
          let one = delete_cost in
          let four = ready_four (geometry_of old area).kind in
          between_within (ends.fitting room) 0 5 (omega arith) (omega arith);
      at_most = most_by old new (geometry_of old area).kind (sector_size old area) ends.at_most (stopped ends.stops);
    }

-- An append as a line.
use Rattle.std.proofs.Common.{◌≡◌, inl, inr, ◌⊎◌, ℕ, ◌+◌, ◌-◌, ◌^◌, ◌<◌, ◌≤◌, eqb, ltb, ◌||◌, Bool, true, false, cond, None, Some, Result, Ok, Err, List, [], ◌∷◌, ◌++◌, length, refl, sym, ap, subst, ◌∙◌, arith}
use Rattle.std.proofs.lemmas.Bool.{cases_Bool, false≢true}
use Rattle.std.proofs.lemmas.Bool.Decides.{nat_tests}
use Rattle.std.proofs.lemmas.List.{append-nil}
use Rattle.std.proofs.lemmas.List.Sums.{sum_by-cons}
use Rattle.flash_sim.specs.Device.{Device}
use Rattle.flash_sim.specs.declared.flash.Loss.{Loss}
use Rattle.flash_map.specs.declared.area.Area.{Area}
use Rattle.flash_map.specs.declared.area.Geometry.{Geometry}
use Rattle.flash_map.specs.Area.{geometry_of, unit_of, value_limit}
use Rattle.flash_map.specs.Spending.{SpendsBetween}
use Rattle.flash_map.specs.Touches.{Touches}
use Rattle.fcb_ring.specs.declared.ring.Ring.{Ring}
use Rattle.fcb_ring.specs.Chance.{chance_on}
use Rattle.fcb_ring.specs.Changing.{stays_for}
use Rattle.fcb_ring.specs.Standing.{erases_on, ring_damage}
use Rattle.fcb_ring.specs.Writing.{record_cost}
use Rattle.event_ring.specs.declared.appending.LogFault.{LogFault}
use Rattle.event_ring.specs.declared.appending.LogFault.TheVariants.{TooLong, PowerLost}
use Rattle.event_ring.specs.Appending.{Keeps, LeavesLog, LogAppends, append_units, drop_units, dropped_for, drops_for, lost_in, torn_body}
use Rattle.event_ring.specs.Standing.{IsOpen}
use Rattle.event_ring.specs.Items.{Item, Whole, Torn, items_cost, items_in, items_on, item_cost, log_of, log_on}
use Rattle.event_ring.proofs.ItemLemmas.{log-append}
use Rattle.event_ring.proofs.LogSteps.{items-report}
use Rattle.log_session.specs.declared.line.Line.TheVariants.{Put}
use Rattle.log_session.specs.declared.answer.Answer.TheVariants.{Appended, Lost}
use Rattle.log_session.specs.LineDone.{AppendsOn, LineDone}
use Rattle.log_session.specs.Step.{Drops, KeepsAll, PutUnits, header_units, most_to_put, record_units, records_cost}
use Rattle.session_table.proofs.CountLemmas.{at_most, units_are, units_most}
use Rattle.log_session.proofs.AccountLemmas.{kept, lost}
use Rattle.log_session.proofs.LineLemmas.{kept_beside, log_is, put_no_mount, put_no_records}

-- ---- what is dropped

-- the records of items cost no more than the items
whole_cost : (geometry : Geometry) (items : List Item) → records_cost geometry (log_of items) ≤ items_cost geometry.unit items
whole_cost geometry [] = omega arith
whole_cost geometry (Whole body ∷ items) =
    let ih = whole_cost geometry items in
    let one = sum_by-cons (λ (b : List ℕ). record_cost geometry.unit (length b)) body (log_of items) in
    let all = sum_by-cons (item_cost geometry.unit) (Whole body) items in
    omega arith
whole_cost geometry (Torn cost ∷ items) =
    let ih = whole_cost geometry items in
    let all = sum_by-cons (item_cost geometry.unit) (Torn cost) items in
    omega arith

pub dropped_records : (d : Device) (ring : Ring) (body : List ℕ) (rest : List Item) (dropped : ℕ) → Keeps d ring body rest → dropped ≡ length (log_of (dropped_for d ring body))
    → Drops (geometry_of d ring.area) dropped (log_on d ring.area) (log_of rest)
dropped_records d ring body rest dropped kept counted =
    let whole = whole_cost (geometry_of d ring.area) (dropped_for d ring body) in
    record {
      prefix = log_of (dropped_for d ring body);
      are = ap log_of kept.items ∙ log-append (dropped_for d ring body) rest;
      count = counted;
      one_sector = omega (arith, whole, kept.one_sector);
    }

-- ---- units

units_by : (geometry : Geometry) (body : List ℕ) (items : List Item) (drops stays : Bool)
    → PutUnits geometry body (length (log_of (cond drops items []))) (cond drops (header_units geometry + 1 + record_units geometry body) (record_units geometry body + cond stays 0 (header_units geometry)))
units_by geometry body items true stays = inr (inr refl)
units_by geometry body items false true = let e : record_units geometry body + 0 ≡ record_units geometry body = omega arith in inl (e, refl)
units_by geometry body items false false = inr (inl (refl, refl))

pub put_units : (d : Device) (ring : Ring) (body : List ℕ) → PutUnits (geometry_of d ring.area) body (length (log_of (dropped_for d ring body))) (append_units d ring body)
put_units d ring body = units_by (geometry_of d ring.area) body (items_in d ring.area ring.oldest) (drops_for d ring body) (stays_for d ring body 0)

command_units : (geometry : Geometry) (body : List ℕ) (dropped units : ℕ) → PutUnits geometry body dropped units → units ≤ most_to_put geometry body
command_units geometry body dropped units (inl is) = omega (arith, is.0)
command_units geometry body dropped units (inr (inl is)) = omega (arith, is.0)
command_units geometry body dropped units (inr (inr is)) = omega (arith, is)

-- ---- the order of a lost append

-- where nothing is dropped all records stand
stand_by : (chance : Bool) (log : List (List ℕ)) (body : List ℕ) (after : List (List ℕ)) → LeavesLog chance log log body after → KeepsAll log after
stand_by true log body after (n, fewer, is) = (torn_body body n ∷ [], is)
stand_by false log body after (inl same) = ([], same ∙ sym (append-nil log))
stand_by false log body after (inr (inl same)) = ([], same ∙ sym (append-nil log))
stand_by false log body after (inr (inr same)) = (body ∷ [], same)

fewer_spent : (least units : ℕ) → least ≤ units → units < least → ⊥
fewer_spent least units le lt = omega arith

module _ (ring : Ring) (body : List ℕ) (old new : Device) (rest : List Item) (units : ℕ) (chance : Bool) (kept : Keeps old ring body rest)
    (order : drops_for old ring body ≡ true → (items_on new ring.area ≡ items_on old ring.area) ⊎ SpendsBetween old new (drop_units old ring.area) (append_units old ring body))
    (below : new.spent < 2 ^ 64 - 1) (are : units ≡ new.spent - old.spent) (log : LeavesLog chance (log_on old ring.area) (log_of rest) body (log_on new ring.area)) (few : units < drop_units old ring.area) where
  not_spent : (items_on new ring.area ≡ items_on old ring.area) ⊎ SpendsBetween old new (drop_units old ring.area) (append_units old ring body) → KeepsAll (log_on old ring.area) (log_on new ring.area)
  not_spent (inl same) = ([], ap log_of same ∙ sym (append-nil (log_on old ring.area)))
  not_spent (inr spent) =
      let real : spent.units ≡ units = units_are old.spent new.spent spent.units spent.spent below ∙ sym are in
      absurd (fewer_spent (drop_units old ring.area) units (subst (λ (n : ℕ). drop_units old ring.area ≤ n) real spent.at_least) few)

  pub all_stand : KeepsAll (log_on old ring.area) (log_on new ring.area)
  all_stand = elim (cases_Bool (drops_for old ring body)) [
    | inl drops ↦ not_spent (order drops)
    | inr none ↦
        let same : items_on old ring.area ≡ rest = kept.items ∙ ap (λ (b : Bool). cond b (items_in old ring.area ring.oldest) [] ++ rest) none in
        stand_by chance (log_on old ring.area) body (log_on new ring.area) (subst (λ (l : List Item). LeavesLog chance (log_on old ring.area) (log_of l) body (log_on new ring.area)) (sym same) log)
  ]

-- ---- the line

module _ (ring after : Ring) (body : List ℕ) (old new : Device) (on : old.is_on ≡ true) (stands : IsOpen old ring) where
  on_ring : (end : Result ℕ LogFault) → LogAppends old new ring after body end → AppendsOn ring.area body end old new
  on_ring end ends = record { before = ring; after = after; is_open = stands; same_area = refl; ends = ends }

  pub put_done : (dropped units : ℕ) → units ≡ new.spent - old.spent → Touches (ring.area ∷ []) old new false → LogAppends old new ring after body (Ok dropped) → erases_on new ring.area ≤ 1
      → LineDone ring.area (Put body) (Appended units dropped) old new
  put_done dropped units are touches ends left =
      let adds = ends.1 in
      let geometry : Geometry = geometry_of old ring.area in
      let all = put_units old ring body in
      record {
        step = λ last within. (
          λ needs. on,
          record {
            rest = log_of adds.rest;
            drops = dropped_records old ring body adds.rest dropped adds.kept adds.count;
            state = log_is ring.area old new (log_of adds.rest ++ body ∷ []) touches.ends.on adds.log;
            units_are = λ counts.
                let real : append_units old ring body ≡ units = units_are old.spent new.spent (append_units old ring body) adds.units (omega arith) ∙ sym are in
                subst (λ (n : ℕ). PutUnits geometry body n units) (sym adds.count)
                (subst (λ (n : ℕ). PutUnits geometry body (length (log_of (dropped_for old ring body))) n) real all);
            at_most = at_most units (append_units old ring body) (most_to_put geometry body)
                (subst (λ (n : ℕ). n ≤ append_units old ring body) (sym are) (units_most old.spent new.spent (append_units old ring body) adds.units))
                (command_units geometry body (length (log_of (dropped_for old ring body))) (append_units old ring body) all);
          },
        );
        accounts = kept (ring.area ∷ []) (Put body) (Appended units dropped) old new touches refl refl are;
        keeps = kept_beside ring.area old new false touches;
        touches = λ stays. touches;
        puts = on_ring (Ok dropped) ends;
        mounts = λ is. absurd (put_no_mount body is);
        reports = λ is. absurd (put_no_records body is);
        plans = λ other. absurd (other refl);
        chance = tt;
        left = λ most one owes. omega arith;
      }

  pub put_lost : (units : ℕ) (chance : Bool) → units ≡ new.spent - old.spent → Touches (ring.area ∷ []) old new true → (ends : LogAppends old new ring after body (Err PowerLost)) → chance ≡ chance_on new ring.area (ends.1.cut on).loss → erases_on new ring.area ≤ 1
      → LineDone ring.area (Put body) (Lost units chance) old new
  put_lost units chance are touches ends spells left =
      let loses = ends.1 in
      let geometry : Geometry = geometry_of old ring.area in
      let cut = loses.cut on in
      let reported = items-report (chance_on new ring.area cut.loss) (unit_of new ring.area) (items_on old ring.area) loses.rest body (items_on new ring.area) cut.items in
      record {
        step = λ last within. (
          λ needs. on,
          record {
            dropped = length (log_of (dropped_for old ring body));
            rest = log_of loses.rest;
            drops = dropped_records old ring body loses.rest (length (log_of (dropped_for old ring body))) loses.kept refl;
            log = rw spells reported;
            order = λ counts few. all_stand ring body old new loses.rest units chance loses.kept loses.order (omega (arith, counts, within)) are (rw spells reported) few;
            off = (touches.ends on).off;
            at_most = at_most units loses.units.0 (most_to_put geometry body)
                (subst (λ (n : ℕ). n ≤ loses.units.0) (sym are) (units_most old.spent new.spent loses.units.0 loses.units.2))
                (at_most loses.units.0 (append_units old ring body) (most_to_put geometry body) loses.units.1
                (command_units geometry body (length (log_of (dropped_for old ring body))) (append_units old ring body) (put_units old ring body)));
          },
        );
        accounts = lost (ring.area ∷ []) (Put body) (Lost units chance) old new on touches refl refl are;
        keeps = kept_beside ring.area old new true touches;
        touches = λ stays. touches;
        puts = on_ring (Err PowerLost) ends;
        mounts = λ is. absurd (put_no_mount body is);
        reports = λ is. absurd (put_no_records body is);
        plans = λ other. absurd (other refl);
        chance = record { loss = cut.loss; last = cut.last; is = spells };
        left = λ most one owes. omega arith;
      }

-- ---- as the code has it

-- a body that a line may have is not too long
short_enough : (len limit : ℕ) → 1 ≤ len → len ≤ limit → (eqb len 0 || ltb limit len) ≡ false
short_enough len limit some short = grind (arith, nat_tests)

module _ (area : Area) (ring after : Ring) (bytes body : List ℕ) (old new : Device) (on : old.is_on ≡ true) (stands : IsOpen old ring) (same : ring.area ≡ area) (are : bytes ≡ body)
    (r : Result ℕ LogFault) (touches : Touches (ring.area ∷ []) old new (lost_in r)) (ends : LogAppends old new ring after bytes r) where
  ended : (x : Result ℕ LogFault) → r ≡ x → LogAppends old new ring after body x
  ended x is =
      subst (λ (b : List ℕ). LogAppends old new ring after b x) are
      (subst (λ (y : Result ℕ LogFault). LogAppends old new ring after bytes y) is ends)

  touched : (x : Result ℕ LogFault) → r ≡ x → Touches (ring.area ∷ []) old new (lost_in x)
  touched x is = subst (λ (y : Result ℕ LogFault). Touches (ring.area ∷ []) old new (lost_in y)) is touches

  pub done_line : (dropped units : ℕ) → r ≡ Ok dropped → units ≡ new.spent - old.spent → erases_on new ring.area ≤ 1 → LineDone area (Put body) (Appended units dropped) old new
  done_line dropped units is spent left =
      let adds = ended (Ok dropped) is in
      subst (λ (a : Area). LineDone a (Put body) (Appended units dropped) old new) same (put_done ring after body old new on stands dropped units spent (touched (Ok dropped) is) adds left)

  pub done_sound : (dropped : ℕ) → r ≡ Ok dropped → ring_damage new area ≡ None
  done_sound dropped is =
      let adds = ended (Ok dropped) is in
      subst (λ (a : Area). ring_damage new a ≡ None) same adds.1.undamaged

  pub done_open : (dropped : ℕ) → r ≡ Ok dropped → IsOpen new after
  done_open dropped is = let adds = ended (Ok dropped) is in adds.1.is_open

  pub lost_line : (units : ℕ) (chance : Bool) → r ≡ Err PowerLost → units ≡ new.spent - old.spent → ((loss : Loss) → new.last_loss ≡ Some loss → chance ≡ chance_on new area loss) → erases_on new ring.area ≤ 1 → LineDone area (Put body) (Lost units chance) old new
  lost_line units chance is spent spells left =
      let loses = ended (Err PowerLost) is in
      let cut = loses.1.cut on in
      subst (λ (a : Area). LineDone a (Put body) (Lost units chance) old new) same
      (put_lost ring after body old new on stands units chance spent (touched (Err PowerLost) is) loses
      (spells cut.loss cut.last ∙ ap (λ (a : Area). chance_on new a cut.loss) (sym same)) left)

  pub lost_sound : r ≡ Err PowerLost → ring_damage new area ≡ None
  lost_sound is =
      let loses = ended (Err PowerLost) is in
      subst (λ (a : Area). ring_damage new a ≡ None) same loses.1.undamaged

  pub lost_off : r ≡ Err PowerLost → new.is_on ≡ true → IsOpen new after
  lost_off is powered = let cut = touched (Err PowerLost) is in absurd (false≢true (sym (cut.ends on).off ∙ powered))

  pub not_long : r ≡ Err TooLong → 1 ≤ length body → length body ≤ value_limit area → ⊥
  not_long is some short =
      let long = ended (Err TooLong) is in
      false≢true (sym (short_enough (length body) (value_limit ring.area) some (subst (λ (a : Area). length body ≤ value_limit a) (sym same) short)) ∙ long.0)

-- A set and a delete as lines.
use Rattle.std.proofs.Common.{◌≡◌, inl, inr, ℕ, ◌-◌, ◌*◌, ◌<◌, ◌≤◌, Bool, true, false, None, Result, Ok, Err, List, [], ◌∷◌, length, is_err, refl, sym, ap, subst, ◌∙◌, arith}
use Rattle.std.proofs.lemmas.Bool.{false≢true}
use Rattle.flash_sim.specs.Device.{Device}
use Rattle.flash_sim.specs.declared.flash.PowerLost.{PowerLost as Lost}
use Rattle.flash_map.specs.declared.area.Area.{Area}
use Rattle.flash_map.specs.declared.area.Geometry.{Geometry}
use Rattle.flash_map.specs.declared.faults.WriteFault.{WriteFault}
use Rattle.flash_map.specs.declared.faults.WriteFault.TheVariants.{NoSpace, TooLong, PowerLost}
use Rattle.flash_map.specs.Area.{sectors_of, value_limit}
use Rattle.flash_map.specs.Faults.{write_lost}
use Rattle.flash_map.specs.Touches.{Touches}
use Rattle.item_session.specs.declared.line.Line.TheVariants.{Set, Delete}
use Rattle.item_session.specs.declared.answer.Answer.TheVariants as answers
use Rattle.item_store.specs.SectorFormat.{SectorFormat}
use Rattle.item_store.specs.Listed.{format_on, list_on}
use Rattle.item_store.specs.Writing.{DeleteEnds, Deletes, FindsNoSpace, StopsDeleting, StopsWriting, WriteEnds, Writes}
use Rattle.item_session.specs.Device.{TakesValues, rules_on, state_of}
use Rattle.item_session.specs.LineDone.{LineDone}
use Rattle.item_session.specs.Standing.{damage_on}
use Rattle.session_table.specs.Rules.{IsCounted}
use Rattle.item_session.specs.Step.{State}
use Rattle.session_table.proofs.CountLemmas.{units_are}
use Rattle.item_session.proofs.AccountLemmas.{kept, lost}
use Rattle.item_laws.proofs.ItemsCost.{items_cost-is}
use Rattle.item_session.proofs.LineLemmas.{delete_no_mount, few_units, kept_beside, set_no_mount}
use Rattle.item_session.proofs.StateLemmas.{absent_or_not, adds_there, gets_changes, gets_if, keeps_there, list_same, loses_changes, loses_if, sound_there, stays_if, stays_there, stored_or_not}

none_spent : (old new : Device) (units : ℕ) → units ≡ new.spent - old.spent → new ≡ old → units ≡ 0
none_spent old new units are same = let e : new.spent ≡ old.spent = ap (λ (d : Device). d.spent) same in omega arith

counted_below : (spent last : ℕ) → spent ≤ last → IsCounted last → IsCounted spent
counted_below spent last within counts = omega arith

some_units : (units : ℕ) → (units ≡ 0 → ⊥) → 0 < units
some_units units some = omega (arith, some)

module _ (format_of : Geometry → SectorFormat) (area : Area) (old new : Device) (on : old.is_on ≡ true) (units : ℕ) (are : units ≡ new.spent - old.spent) where
  abbrev was : State
  was = state_of format_of area old

  abbrev is_now : State
  is_now = state_of format_of area new

  -- where the list changed, something was spent
  some_spent : (cut : Bool) → Touches (area ∷ []) old new cut → ((state_of format_of area new).list ≡ (state_of format_of area old).list → ⊥) → IsCounted new.spent → 0 < units
  some_spent cut touches changed counts =
      some_units units
      (λ none. changed (list_same format_of area old new touches.banks (touches.idle (units_are old.spent new.spent touches.units touches.spent counts ∙ sym are ∙ none))))

  module _ (id : ℕ) (value : List ℕ) (some : 0 < length value) where
    pub set_done : Touches (area ∷ []) old new false → Writes (format_on format_of old area) old new area id value → LineDone format_of area (Set id value) (answers.Done units) old new
    set_done touches writes = record {
      step = λ last within. (
        λ needs. on,
        (
          few_units format_of area old new units _ are writes.at_most,
          elim (stored_or_not was id value) [
            | inl stored ↦ let same : new ≡ old = writes.equal stored in inl (stored, none_spent old new units are same, ap (state_of format_of area) same)
            | inr other ↦
                let gets = gets_if id value was is_now some (adds_there format_of area old new touches.banks id value (writes.versions other)) in
                inr (other, (λ counts. some_spent false touches (gets_changes id value was is_now other gets) (counted_below new.spent last within counts)), gets, touches.ends.on ∙ on)
          ],
        ),
      );
      accounts = kept (area ∷ []) (Set id value) (answers.Done units) old new touches refl refl are;
      keeps = kept_beside area old new false touches;
      touches = λ stays. touches;
      writes = writes;
      mounts = λ is. absurd (set_no_mount id value is);
      reports = λ is. absurd (false≢true is);
      plans = λ other. absurd (other refl);
    }

    pub set_full : (need live : ℕ) → Touches (area ∷ []) old new false → FindsNoSpace (format_on format_of old area) old new area id value need live → LineDone format_of area (Set id value) (answers.NoSpace units need live) old new
    set_full need live touches finds =
        let full = finds.finds.2 in
        record {
          step = λ last within. (
            λ needs. on,
            (
              few_units format_of area old new units _ are finds.at_most,
              record {
                other = finds.other;
                needs = finds.needs;
                lives = finds.lives ∙ items_cost-is (format_on format_of old area).cost (list_on format_of old area);
                full =
                    subst (λ (n : ℕ). (area.sectors - 1) * ((rules_on format_of old area).cap - n) < live) (sym finds.needs)
                    (subst (λ (m : ℕ). (area.sectors - 1) * ((rules_on format_of old area).cap - (format_on format_of old area).cost (length value)) < m) (sym finds.lives) full.full);
                stays = stays_there format_of area old new touches.banks finds.finds.0.items;
                on = touches.ends.on ∙ on;
              },
            ),
          );
          accounts = kept (area ∷ []) (Set id value) (answers.NoSpace units need live) old new touches refl refl are;
          keeps = kept_beside area old new false touches;
          touches = λ stays. touches;
          writes = finds;
          mounts = λ is. absurd (set_no_mount id value is);
          reports = λ is. absurd (false≢true is);
          plans = λ other. absurd (other refl);
        }

    pub set_lost : Touches (area ∷ []) old new true → StopsWriting (format_on format_of old area) old new area id value → LineDone format_of area (Set id value) (answers.Lost units) old new
    set_lost touches stops = record {
      step = λ last within. (
        λ needs. on,
        (
          few_units format_of area old new units _ are stops.at_most,
          record {
            other = stops.other;
            left = elim stops.versions [
              | inl keeps ↦ inl (stays_if was is_now (keeps_there format_of area old new touches.banks keeps))
              | inr adds ↦ inr (gets_if id value was is_now some (adds_there format_of area old new touches.banks id value adds))
            ];
            off = (touches.ends on).off;
          },
        ),
      );
      accounts = lost (area ∷ []) (Set id value) (answers.Lost units) old new on touches refl refl are;
      keeps = kept_beside area old new true touches;
      touches = λ stays. touches;
      writes = stops;
      mounts = λ is. absurd (set_no_mount id value is);
      reports = λ is. absurd (false≢true is);
      plans = λ other. absurd (other refl);
    }

  module _ (id : ℕ) where
    pub delete_done : Touches (area ∷ []) old new false → Deletes (format_on format_of old area) old new area id → LineDone format_of area (Delete id) (answers.Done units) old new
    delete_done touches deletes = record {
      step = λ last within. (
        λ needs. on,
        (
          few_units format_of area old new units _ are deletes.at_most,
          elim (absent_or_not was id) [
            | inl absent ↦ let same : new ≡ old = deletes.absent absent in inl (absent, none_spent old new units are same, ap (state_of format_of area) same)
            | inr present ↦
                let loses = loses_if id was is_now (adds_there format_of area old new touches.banks id [] (deletes.versions present)) in
                inr (present, (λ counts. some_spent false touches (loses_changes id was is_now present loses) (counted_below new.spent last within counts)), loses, touches.ends.on ∙ on)
          ],
        ),
      );
      accounts = kept (area ∷ []) (Delete id) (answers.Done units) old new touches refl refl are;
      keeps = kept_beside area old new false touches;
      touches = λ stays. touches;
      writes = deletes;
      mounts = λ is. absurd (delete_no_mount id is);
      reports = λ is. absurd (false≢true is);
      plans = λ other. absurd (other refl);
    }

    pub delete_lost : Touches (area ∷ []) old new true → StopsDeleting (format_on format_of old area) old new area id → LineDone format_of area (Delete id) (answers.Lost units) old new
    delete_lost touches stops = record {
      step = λ last within. (
        λ needs. on,
        (
          few_units format_of area old new units _ are stops.at_most,
          record {
            present = stops.present;
            left = elim stops.versions [
              | inl keeps ↦ inl (stays_if was is_now (keeps_there format_of area old new touches.banks keeps))
              | inr adds ↦ inr (loses_if id was is_now (adds_there format_of area old new touches.banks id [] adds))
            ];
            off = (touches.ends on).off;
          },
        ),
      );
      accounts = lost (area ∷ []) (Delete id) (answers.Lost units) old new on touches refl refl are;
      keeps = kept_beside area old new true touches;
      touches = λ stays. touches;
      writes = stops;
      mounts = λ is. absurd (delete_no_mount id is);
      reports = λ is. absurd (false≢true is);
      plans = λ other. absurd (other refl);
    }

-- ---- as the code has it

module _ (format_of : Geometry → SectorFormat) (area given : Area) (old new : Device) (on : old.is_on ≡ true) (same : given ≡ area) where
  -- the area shows no damage afterwards
  pub still_sound : (cut : Bool) → Touches (given ∷ []) old new cut → (format_on format_of old given).damage (sectors_of new given) ≡ None → damage_on format_of new area ≡ None
  still_sound cut touches none = subst (λ (a : Area). damage_on format_of new a ≡ None) same (sound_there format_of given old new touches.banks none)

  -- power that was lost is off
  pub no_power : {A : Type 0} → Touches (given ∷ []) old new true → new.is_on ≡ true → A
  no_power touches powered = absurd (false≢true (sym (touches.ends on).off ∙ powered))

  module _ (id : ℕ) (bytes value : List ℕ) (copied : bytes ≡ value) (some : 1 ≤ length value) (r : Result (Unit {0}) WriteFault)
      (touches : Touches (given ∷ []) old new (write_lost r)) (ends : WriteEnds (format_on format_of old given) old new given id bytes r) where
    written : (x : Result (Unit {0}) WriteFault) → r ≡ x → WriteEnds (format_on format_of old area) old new area id value x
    written x is =
        subst (λ (a : Area). WriteEnds (format_on format_of old a) old new a id value x) same
        (subst (λ (b : List ℕ). WriteEnds (format_on format_of old given) old new given id b x) copied
        (subst (λ (y : Result (Unit {0}) WriteFault). WriteEnds (format_on format_of old given) old new given id bytes y) is ends))

    touched : (x : Result (Unit {0}) WriteFault) → r ≡ x → Touches (area ∷ []) old new (write_lost x)
    touched x is =
        subst (λ (a : Area). Touches (a ∷ []) old new (write_lost x)) same
        (subst (λ (y : Result (Unit {0}) WriteFault). Touches (given ∷ []) old new (write_lost y)) is touches)

    pub set_line : (u : Unit {0}) (units : ℕ) → r ≡ Ok u → units ≡ new.spent - old.spent → LineDone format_of area (Set id value) (answers.Done units) old new
    set_line u units is are = set_done format_of area old new on units are id value (omega arith) (touched (Ok u) is) (written (Ok u) is)

    pub full_line : (need live units : ℕ) → r ≡ Err (NoSpace need live) → units ≡ new.spent - old.spent → LineDone format_of area (Set id value) (answers.NoSpace units need live) old new
    full_line need live units is are = set_full format_of area old new on units are id value (omega arith) need live (touched (Err (NoSpace need live)) is) (written (Err (NoSpace need live)) is)

    pub lost_set : (units : ℕ) → r ≡ Err PowerLost → units ≡ new.spent - old.spent → LineDone format_of area (Set id value) (answers.Lost units) old new
    lost_set units is are = set_lost format_of area old new on units are id value (omega arith) (touched (Err PowerLost) is) (written (Err PowerLost) is)

    pub set_off : {A : Type 0} → r ≡ Err PowerLost → new.is_on ≡ true → A
    set_off is powered = let cut = touched (Err PowerLost) is in absurd (false≢true (sym (cut.ends on).off ∙ powered))

    pub not_long : r ≡ Err TooLong → TakesValues format_of old area → length value ≤ value_limit area → ⊥
    not_long is takes short = let long = written (Err TooLong) is in long.0 (takes (length value) short)

  module _ (id : ℕ) (r : Result (Unit {0}) Lost) (touches : Touches (given ∷ []) old new (is_err r)) (ends : DeleteEnds (format_on format_of old given) old new given id r) where
    deleted : (x : Result (Unit {0}) Lost) → r ≡ x → DeleteEnds (format_on format_of old area) old new area id x
    deleted x is =
        subst (λ (a : Area). DeleteEnds (format_on format_of old a) old new a id x) same
        (subst (λ (y : Result (Unit {0}) Lost). DeleteEnds (format_on format_of old given) old new given id y) is ends)

    reached : (x : Result (Unit {0}) Lost) → r ≡ x → Touches (area ∷ []) old new (is_err x)
    reached x is =
        subst (λ (a : Area). Touches (a ∷ []) old new (is_err x)) same
        (subst (λ (y : Result (Unit {0}) Lost). Touches (given ∷ []) old new (is_err y)) is touches)

    pub delete_line : (u : Unit {0}) (units : ℕ) → r ≡ Ok u → units ≡ new.spent - old.spent → LineDone format_of area (Delete id) (answers.Done units) old new
    delete_line u units is are = delete_done format_of area old new on units are id (reached (Ok u) is) (deleted (Ok u) is)

    pub lost_delete : (e : Lost) (units : ℕ) → r ≡ Err e → units ≡ new.spent - old.spent → LineDone format_of area (Delete id) (answers.Lost units) old new
    lost_delete e units is are = delete_lost format_of area old new on units are id (reached (Err e) is) (deleted (Err e) is)

    pub delete_off : {A : Type 0} (e : Lost) → r ≡ Err e → new.is_on ≡ true → A
    delete_off e is powered = let cut = reached (Err e) is in absurd (false≢true (sym (cut.ends on).off ∙ powered))

-- Lines carried out on the active area.
use Rattle.std.proofs.Common.{◌≡◌, ℕ, ◌-◌, Bool, true, false, Some, List, [], ◌∷◌, refl, subst, arith, sym, ap, ◌∙◌}
use Rattle.std.specs.Prelude.{Result, Ok, Err}
use Rattle.flash_sim.specs.Device.{Device}
use Rattle.flash_sim.specs.declared.flash.Loss.{Loss}
use Rattle.flash_map.specs.declared.area.Area.{Area}
use Rattle.flash_map.specs.declared.area.Geometry.{Geometry}
use Rattle.flash_map.specs.Area.{geometry_of}
use Rattle.flash_map.specs.Spending.{SpendsAtMost}
use Rattle.flash_map.specs.Touches.{Touches}
use Rattle.backend_api.specs.Commands.{Command, Del}
use Rattle.backend_api.specs.Map.{Map}
use Rattle.flash_map.specs.On.{on}
use Rattle.backend_api.specs.Room.{Room, command_units}
use Rattle.settings_core.specs.Carrying.{command_of, due, Carries, MeetsTooMany, MeetsNoRoom, MeetsLoss, CarryEndsOn, save_lost}
use Rattle.settings_core.specs.declared.writing.SaveFault.{SaveFault}
use Rattle.settings_core.specs.declared.writing.SaveFault.TheVariants.{NoSpace as SaveFull, TooManyNames, PowerLost}
use Rattle.script_lines.specs.declared.line.Line.{Line}
use Rattle.script_lines.specs.declared.line.Line.TheVariants.{Set, Del as Delete, Cut, Uncut}
use Rattle.script_lines.specs.declared.answer.Answer.{Answer}
use Rattle.script_lines.specs.declared.answer.Answer.TheVariants.{Done, Lost, NoSpace, TooMany}
use Rattle.std.proofs.lemmas.Bool.{false≢true}
use Rattle.flash_sim.specs.Device.{After, counted, replanned, dropped}
use Rattle.flash_map.proofs.Plans.{Lasts-zero}
use Rattle.script_lines.specs.Plan.Replan.{keeps as keeps_plan, drops, plans}
use Rattle.session_table.specs.Bench.{Keeps, area_at}
use Rattle.session.proofs.ActiveAreas.{active_still}
use Rattle.handlers.specs.declared.handler.HandlerKind.{HandlerKind}
use Rattle.handlers.specs.Registry.{Registered}
use Rattle.migrator.specs.Active.{active_on}
use Rattle.session.specs.OnMap.{DoneWithin, active_area, meanings, moment}
use Rattle.session.proofs.AccountLemmas.{kept, lost}
use Rattle.session.proofs.ChangeLemmas.{seen, step_seen, change_done, change_many, change_full, change_lost}

-- a line was carried out, and the handlers stayed
abbrev pub CarriedAt : (Area → Geometry → List (List ℕ) → Map) → (Area → Geometry → Room) → (Area → Geometry → List (List ℕ) → Loss → Bool) → (Area → Geometry → Command → ℕ → Map → Map → Type 0)
    → List Registered → List HandlerKind → List Area → Line → Answer → Device → Device → Type 0
CarriedAt contents room chance tears registry pool areas line answer old new = DoneWithin (meanings contents room chance tears) areas line answer (moment old registry pool) (moment new registry pool)

pub keeps : (area : Area) (old new : Device) (cut : Bool) → Touches (area ∷ []) old new cut → Keeps (area ∷ []) old new
keeps area old new cut touches = record { banks = touches.banks; loads = touches.loads; outside = touches.outside }

-- what is said of a loss in one area is said of the other, which is the same
pub reported_at : (chance : Area → Geometry → List (List ℕ) → Loss → Bool) (new : Device) (area other : Area) (reported : Bool) → area ≡ other → ((loss : Loss) → new.last_loss ≡ Some loss → reported ≡ on chance new area loss)
    → (loss : Loss) → new.last_loss ≡ Some loss → reported ≡ on chance new other loss
reported_at chance new area other reported same reports loss last = reports loss last ∙ ap (λ (a : Area). on chance new a loss) same

module _ (contents : Area → Geometry → List (List ℕ) → Map) (room : Area → Geometry → Room) (chance : Area → Geometry → List (List ℕ) → Loss → Bool) (tears : Area → Geometry → Command → ℕ → Map → Map → Type 0)
    (registry : List Registered) (pool : List HandlerKind) (areas : List Area) (name value : List ℕ) (old new : Device) (powered : old.is_on ≡ true) (stays : active_on areas new ≡ active_on areas old) where
  pub set_done : Touches (active_area areas old ∷ []) old new false → SpendsAtMost old new (command_units (geometry_of old (active_area areas old)))
      → Carries (room (active_area areas old) (geometry_of old (active_area areas old))) old new (on contents old (active_area areas old)) (on contents new (active_area areas old)) (due (on contents old (active_area areas old)) (command_of name value ∷ []))
      → CarriedAt contents room chance tears registry pool areas (Set name value) (Done (new.spent - old.spent)) old new
  set_done touches at_most carries = record {
    done = record {
      step = λ last within. step_seen contents room chance tears registry pool areas old new stays (Set name value) (Done (new.spent - old.spent)) last (λ needs. powered, change_done contents room chance tears registry pool areas old new (command_of name value) last within touches.ends.on at_most carries);
      accounts = kept (active_area areas old ∷ []) (Set name value) (Done (new.spent - old.spent)) old new touches refl refl refl;
      keeps = keeps (active_area areas old) old new false touches;
      chance = tt;
    };
    touches = λ plain. touches;
    most = tt;
  }

  pub set_many : (count : ℕ) → Touches (active_area areas old ∷ []) old new false
      → MeetsTooMany (room (active_area areas old) (geometry_of old (active_area areas old))) old new (on contents old (active_area areas old)) (on contents new (active_area areas old)) (due (on contents old (active_area areas old)) (command_of name value ∷ [])) count
      → CarriedAt contents room chance tears registry pool areas (Set name value) (TooMany (new.spent - old.spent)) old new
  set_many count touches meets = record {
    done = record {
      step = λ last within. step_seen contents room chance tears registry pool areas old new stays (Set name value) (TooMany (new.spent - old.spent)) last (λ needs. powered, change_many contents room chance tears registry pool areas old new (command_of name value) count last within meets);
      accounts = kept (active_area areas old ∷ []) (Set name value) (TooMany (new.spent - old.spent)) old new touches refl refl refl;
      keeps = keeps (active_area areas old) old new false touches;
      chance = tt;
    };
    touches = λ plain. touches;
    most = tt;
  }

  pub set_full : (count need live : ℕ) → Touches (active_area areas old ∷ []) old new false → SpendsAtMost old new (command_units (geometry_of old (active_area areas old)))
      → MeetsNoRoom (room (active_area areas old) (geometry_of old (active_area areas old))) (active_area areas old).sectors (on contents old (active_area areas old)) (on contents new (active_area areas old)) (due (on contents old (active_area areas old)) (command_of name value ∷ [])) count need live
      → CarriedAt contents room chance tears registry pool areas (Set name value) (NoSpace (new.spent - old.spent) need live) old new
  set_full count need live touches at_most meets = record {
    done = record {
      step = λ last within. step_seen contents room chance tears registry pool areas old new stays (Set name value) (NoSpace (new.spent - old.spent) need live) last (λ needs. powered, change_full contents room chance tears registry pool areas old new (command_of name value) count need live last within touches.ends.on at_most meets);
      accounts = kept (active_area areas old ∷ []) (Set name value) (NoSpace (new.spent - old.spent) need live) old new touches refl refl refl;
      keeps = keeps (active_area areas old) old new false touches;
      chance = tt;
    };
    touches = λ plain. touches;
    most = tt;
  }

  pub set_lost : (count : ℕ) (reported : Bool) → Touches (active_area areas old ∷ []) old new true → SpendsAtMost old new (command_units (geometry_of old (active_area areas old))) → ((loss : Loss) → new.last_loss ≡ Some loss → reported ≡ on chance new (active_area areas old) loss)
      → MeetsLoss (room (active_area areas old) (geometry_of old (active_area areas old))) (on chance new (active_area areas old)) (tears (active_area areas old) (geometry_of old (active_area areas old))) old new (on contents old (active_area areas old)) (on contents new (active_area areas old)) (due (on contents old (active_area areas old)) (command_of name value ∷ [])) count
      → CarriedAt contents room chance tears registry pool areas (Set name value) (Lost (new.spent - old.spent) reported) old new
  set_lost count reported touches at_most reports meets =
      let cut = touches.ends powered in
      record {
        done = record {
          step = λ last within. step_seen contents room chance tears registry pool areas old new stays (Set name value) (Lost (new.spent - old.spent) reported) last (λ needs. powered, change_lost contents room chance tears registry pool areas old new (command_of name value) count last reported powered cut.off reports at_most meets);
          accounts = lost (active_area areas old ∷ []) (Set name value) (Lost (new.spent - old.spent) reported) old new powered touches refl refl refl;
          keeps = keeps (active_area areas old) old new true touches;
          chance = record { loss = cut.loss; last = cut.last_loss; is = reports cut.loss cut.last_loss ∙ ap (λ (place : ℕ). on chance new (area_at areas place) cut.loss) (sym stays) };
        };
        touches = λ plain. touches;
        most = tt;
      }

-- ---- how a call that carries out commands ended

module _ (contents : Area → Geometry → List (List ℕ) → Map) (room : Area → Geometry → Room) (chance : Area → Geometry → List (List ℕ) → Loss → Bool) (tears : Area → Geometry → Command → ℕ → Map → Map → Type 0)
    (old new : Device) (commands : List Command) where
  pub record Ended (up : Bool) (area : Area) (result : Result (Unit {0}) SaveFault) : Type 0 where
    pub touches : Touches (area ∷ []) old new (save_lost result)
    pub at_most : SpendsAtMost old new (command_units (geometry_of old area))
    pub count : ℕ
    pub ends : CarryEndsOn room contents chance tears up area old new commands count result

  -- on this area, in this way
  pub ended : (up : Bool) (m area : Area) (result x : Result (Unit {0}) SaveFault) → m ≡ area → result ≡ x → Ended up m result → Ended up area x
  ended up m area result x at is e = subst (λ (r : Result (Unit {0}) SaveFault). Ended up area r) is (subst (λ (a : Area). Ended up a result) at e)

module _ (contents : Area → Geometry → List (List ℕ) → Map) (room : Area → Geometry → Room) (chance : Area → Geometry → List (List ℕ) → Loss → Bool) (tears : Area → Geometry → Command → ℕ → Map → Map → Type 0)
    (registry : List Registered) (pool : List HandlerKind) (areas : List Area) (name value : List ℕ) (old new : Device) (powered : old.is_on ≡ true) (stays : active_on areas new ≡ active_on areas old) (up : Bool) (before after : ℕ) (from : before ≡ old.spent) (to : after ≡ new.spent) where
  units : new.spent - old.spent ≡ after - before
  units = omega (arith, from, to)

  pub set_by_ok : (x : Unit {0}) → Ended contents room chance tears old new (command_of name value ∷ []) up (active_area areas old) (Ok x) → CarriedAt contents room chance tears registry pool areas (Set name value) (Done (after - before)) old new
  set_by_ok x e = subst (λ (n : ℕ). CarriedAt contents room chance tears registry pool areas (Set name value) (Done n) old new) units (set_done contents room chance tears registry pool areas name value old new powered stays e.touches e.at_most e.ends.2)

  pub set_by_many : Ended contents room chance tears old new (command_of name value ∷ []) up (active_area areas old) (Err TooManyNames) → CarriedAt contents room chance tears registry pool areas (Set name value) (TooMany (after - before)) old new
  set_by_many e = subst (λ (n : ℕ). CarriedAt contents room chance tears registry pool areas (Set name value) (TooMany n) old new) units (set_many contents room chance tears registry pool areas name value old new powered stays e.count e.touches e.ends.1)

  pub set_by_full : (need live : ℕ) → Ended contents room chance tears old new (command_of name value ∷ []) up (active_area areas old) (Err (SaveFull need live)) → CarriedAt contents room chance tears registry pool areas (Set name value) (NoSpace (after - before) need live) old new
  set_by_full need live e =
      subst (λ (n : ℕ). CarriedAt contents room chance tears registry pool areas (Set name value) (NoSpace n need live) old new) units (set_full contents room chance tears registry pool areas name value old new powered stays e.count need live e.touches e.at_most e.ends.1)

  pub set_by_lost : (reported : Bool) → ((loss : Loss) → new.last_loss ≡ Some loss → reported ≡ on chance new (active_area areas old) loss) → Ended contents room chance tears old new (command_of name value ∷ []) up (active_area areas old) (Err PowerLost)
      → CarriedAt contents room chance tears registry pool areas (Set name value) (Lost (after - before) reported) old new
  set_by_lost reported reports e =
      subst (λ (n : ℕ). CarriedAt contents room chance tears registry pool areas (Set name value) (Lost n reported) old new) units (set_lost contents room chance tears registry pool areas name value old new powered stays e.count reported e.touches e.at_most reports e.ends.1)

-- ---- deleting

module _ (contents : Area → Geometry → List (List ℕ) → Map) (room : Area → Geometry → Room) (chance : Area → Geometry → List (List ℕ) → Loss → Bool) (tears : Area → Geometry → Command → ℕ → Map → Map → Type 0)
    (registry : List Registered) (pool : List HandlerKind) (areas : List Area) (name : List ℕ) (old new : Device) (powered : old.is_on ≡ true) (stays : active_on areas new ≡ active_on areas old) where
  pub delete_done : Touches (active_area areas old ∷ []) old new false → SpendsAtMost old new (command_units (geometry_of old (active_area areas old)))
      → Carries (room (active_area areas old) (geometry_of old (active_area areas old))) old new (on contents old (active_area areas old)) (on contents new (active_area areas old)) (due (on contents old (active_area areas old)) (Del name ∷ []))
      → CarriedAt contents room chance tears registry pool areas (Delete name) (Done (new.spent - old.spent)) old new
  delete_done touches at_most carries = record {
    done = record {
      step = λ last within. step_seen contents room chance tears registry pool areas old new stays (Delete name) (Done (new.spent - old.spent)) last (λ needs. powered, change_done contents room chance tears registry pool areas old new (Del name) last within touches.ends.on at_most carries);
      accounts = kept (active_area areas old ∷ []) (Delete name) (Done (new.spent - old.spent)) old new touches refl refl refl;
      keeps = keeps (active_area areas old) old new false touches;
      chance = tt;
    };
    touches = λ plain. touches;
    most = tt;
  }

  pub delete_lost : (count : ℕ) (reported : Bool) → Touches (active_area areas old ∷ []) old new true → SpendsAtMost old new (command_units (geometry_of old (active_area areas old))) → ((loss : Loss) → new.last_loss ≡ Some loss → reported ≡ on chance new (active_area areas old) loss)
      → MeetsLoss (room (active_area areas old) (geometry_of old (active_area areas old))) (on chance new (active_area areas old)) (tears (active_area areas old) (geometry_of old (active_area areas old))) old new (on contents old (active_area areas old)) (on contents new (active_area areas old)) (due (on contents old (active_area areas old)) (Del name ∷ [])) count
      → CarriedAt contents room chance tears registry pool areas (Delete name) (Lost (new.spent - old.spent) reported) old new
  delete_lost count reported touches at_most reports meets =
      let cut = touches.ends powered in
      record {
        done = record {
          step = λ last within. step_seen contents room chance tears registry pool areas old new stays (Delete name) (Lost (new.spent - old.spent) reported) last (λ needs. powered, change_lost contents room chance tears registry pool areas old new (Del name) count last reported powered cut.off reports at_most meets);
          accounts = lost (active_area areas old ∷ []) (Delete name) (Lost (new.spent - old.spent) reported) old new powered touches refl refl refl;
          keeps = keeps (active_area areas old) old new true touches;
          chance = record { loss = cut.loss; last = cut.last_loss; is = reports cut.loss cut.last_loss ∙ ap (λ (place : ℕ). on chance new (area_at areas place) cut.loss) (sym stays) };
        };
        touches = λ plain. touches;
        most = tt;
      }

module _ (contents : Area → Geometry → List (List ℕ) → Map) (room : Area → Geometry → Room) (chance : Area → Geometry → List (List ℕ) → Loss → Bool) (tears : Area → Geometry → Command → ℕ → Map → Map → Type 0)
    (registry : List Registered) (pool : List HandlerKind) (areas : List Area) (name : List ℕ) (old new : Device) (powered : old.is_on ≡ true) (stays : active_on areas new ≡ active_on areas old) (up : Bool) (before after : ℕ) (from : before ≡ old.spent) (to : after ≡ new.spent) where
  units_left : new.spent - old.spent ≡ after - before
  units_left = omega (arith, from, to)

  pub delete_by_ok : (x : Unit {0}) → Ended contents room chance tears old new (Del name ∷ []) up (active_area areas old) (Ok x) → CarriedAt contents room chance tears registry pool areas (Delete name) (Done (after - before)) old new
  delete_by_ok x e = subst (λ (n : ℕ). CarriedAt contents room chance tears registry pool areas (Delete name) (Done n) old new) units_left (delete_done contents room chance tears registry pool areas name old new powered stays e.touches e.at_most e.ends.2)

  pub delete_by_lost : (reported : Bool) → ((loss : Loss) → new.last_loss ≡ Some loss → reported ≡ on chance new (active_area areas old) loss) → Ended contents room chance tears old new (Del name ∷ []) up (active_area areas old) (Err PowerLost)
      → CarriedAt contents room chance tears registry pool areas (Delete name) (Lost (after - before) reported) old new
  delete_by_lost reported reports e =
      subst (λ (n : ℕ). CarriedAt contents room chance tears registry pool areas (Delete name) (Lost n reported) old new) units_left (delete_lost contents room chance tears registry pool areas name old new powered stays e.count reported e.touches e.at_most reports e.ends.1)

-- ---- lines that spend nothing

module _ (contents : Area → Geometry → List (List ℕ) → Map) (room : Area → Geometry → Room) (chance : Area → Geometry → List (List ℕ) → Loss → Bool) (tears : Area → Geometry → Command → ℕ → Map → Map → Type 0)
    (registry : List Registered) (pool : List HandlerKind) (areas : List Area) where
  plans_none : (units : ℕ) → plans units ≡ keeps_plan → ⊥
  plans_none units e = cc

  drops_none : drops ≡ keeps_plan → ⊥
  drops_none e = cc

  counted_none : (count : ℕ) → count ≡ counted count 0
  counted_none count = omega arith

  -- a plan alone changed
  planned : (old new : Device) → new ≡ record old { plan = new.plan } → active_on areas new ≡ active_on areas old
  planned old new is = subst (λ (d : Device). active_on areas d ≡ active_on areas old) (sym is) (active_still areas old (record old { plan = new.plan }) refl (λ s at. refl))

  pub armed : (units : ℕ) (old new : Device) → new ≡ record old { plan = replanned old.plan (After units) } → CarriedAt contents room chance tears registry pool areas (Cut units) (Done 0) old new
  armed units old new is = subst (λ (d : Device). CarriedAt contents room chance tears registry pool areas (Cut units) (Done 0) old d) (sym is) (record {
    done = record {
      step = λ last within. (λ needs. absurd (false≢true needs), (refl, sym (seen contents room chance tears registry pool areas old (record old { plan = replanned old.plan (After units) }) (planned old (record old { plan = replanned old.plan (After units) }) refl))));
      accounts = record { spent = omega arith; losses = counted_none old.losses; allows = λ counts. Lasts-zero old.plan; plan = λ counts. refl; unplanned = λ free. absurd (free units refl) };
      keeps = record { banks = refl; loads = refl; outside = λ bank offset out. refl };
      chance = tt;
    };
    touches = λ plain. absurd (plans_none units plain);
    most = tt;
  })

  pub disarmed : (old new : Device) → new ≡ record old { plan = dropped old.plan } → CarriedAt contents room chance tears registry pool areas Uncut (Done 0) old new
  disarmed old new is = subst (λ (d : Device). CarriedAt contents room chance tears registry pool areas Uncut (Done 0) old d) (sym is) (record {
    done = record {
      step = λ last within. (λ needs. absurd (false≢true needs), (refl, sym (seen contents room chance tears registry pool areas old (record old { plan = dropped old.plan }) (planned old (record old { plan = dropped old.plan }) refl))));
      accounts = record { spent = omega arith; losses = counted_none old.losses; allows = λ counts. Lasts-zero old.plan; plan = λ counts. refl; unplanned = λ free never. (ap dropped never, refl) };
      keeps = record { banks = refl; loads = refl; outside = λ bank offset out. refl };
      chance = tt;
    };
    touches = λ plain. absurd (drops_none plain);
    most = tt;
  })

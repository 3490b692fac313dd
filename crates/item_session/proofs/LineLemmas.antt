-- Lines that write nothing: those that leave the bench, those on the plan, and mounts.
use Rattle.std.proofs.Common.{◌≡◌, ℕ, ◌+◌, ◌-◌, ◌*◌, ◌<◌, ◌≤◌, Bool, true, false, List, [], ◌∷◌, length, Some, None, Result, Ok, Err, refl, sym, ap, subst, ◌∙◌, arith}
use Rattle.std.specs.Prelude.{IfOk}
use Rattle.std.specs.FinMap.{get}
use Rattle.std.specs.List.{slice_get}
use Rattle.std.proofs.lemmas.Bool.{false≢true}
use Rattle.flash_sim.specs.Device.{Device, After, replanned, dropped}
use Rattle.flash_sim.specs.declared.flash.NoMemory.{NoMemory}
use Rattle.flash_map.specs.declared.area.Area.{Area}
use Rattle.flash_map.specs.declared.area.Geometry.{Geometry}
use Rattle.flash_map.specs.Area.{sector_size, sectors_of}
use Rattle.flash_map.specs.Spending.{SpendsBetween}
use Rattle.flash_map.specs.Touches.{Touches}
use Rattle.flash_map.proofs.Plans.{Lasts-zero}
use Rattle.flash_map.proofs.Touches.{untouched}
use Rattle.item_history.specs.Usage.{space_of}
use Rattle.item_history.specs.declared.usage.Space.{Space as TheSpace}
use Rattle.item_session.specs.declared.line.Line.{Line}
use Rattle.item_session.specs.declared.line.Line.TheVariants.{Set, Get, Delete, Older, Space, Cut, Uncut, Mount}
use Rattle.item_session.specs.declared.answer.Answer.{Answer}
use Rattle.item_session.specs.declared.answer.Answer.TheVariants as answers
use Rattle.item_session.specs.Plan.{units_of, is_lost, replan}
use Rattle.item_laws.specs.Items.{items_of}
use Rattle.item_store.specs.SectorFormat.{SectorFormat}
use Rattle.item_store.specs.Listed.{format_on, list_on}
use Rattle.item_store.specs.Standing.{KeepsItems}
use Rattle.item_store.specs.Versions.{versions}
use Rattle.script_lines.specs.Plan.Replan.{keeps}
use Rattle.item_session.specs.Device.{RestsOn, rules_on, state_of, turned_on}
use Rattle.session_table.specs.Bench.{Keeps}
use Rattle.item_session.specs.LineDone.{LineDone, Redoes, WritesBy, powered_for}
use Rattle.item_session.specs.Step.{Step}
use Rattle.session_table.proofs.CountLemmas.{at_most, units_most}
use Rattle.item_session.proofs.AccountLemmas.{kept, lost}
use Rattle.item_laws.proofs.ItemsCost.{items_cost-is}
use Rattle.item_session.proofs.StateLemmas.{stays_there}

none_spent : (units spent : ℕ) → units ≡ 0 → units ≡ spent - spent
none_spent units spent is = omega (arith, is)

-- what a call on the area leaves alone
pub kept_beside : (area : Area) (old new : Device) (cut : Bool) → Touches (area ∷ []) old new cut → Keeps (area ∷ []) old new
kept_beside area old new cut touches = record { banks = touches.banks; loads = touches.loads; outside = touches.outside }

-- ---- lines that leave the bench

pub set_no_mount : (id : ℕ) (value : List ℕ) → Set id value ≡ Mount → ⊥
set_no_mount id value is = cc

pub delete_no_mount : (id : ℕ) → Delete id ≡ Mount → ⊥
delete_no_mount id is = cc

get_no_mount : (id : ℕ) → Get id ≡ Mount → ⊥
get_no_mount id is = cc

older_no_mount : (id n : ℕ) → Older id n ≡ Mount → ⊥
older_no_mount id n is = cc

space_no_mount : Space ≡ Mount → ⊥
space_no_mount is = cc

module _ (format_of : Geometry → SectorFormat) (area : Area) (d : Device) where
  quiet : (line : Line) (answer : Answer) → ((last : ℕ) → Step (rules_on format_of d area) last line answer (state_of format_of area d) (state_of format_of area d))
      → powered_for line d ≡ d → replan line ≡ keeps → is_lost answer ≡ false → units_of answer ≡ 0 → WritesBy format_of area line answer d d → (line ≡ Mount → ⊥) → LineDone format_of area line answer d d
  quiet line answer step same stays lasts units writes no_mount = record {
    step = λ last within. step last;
    accounts = kept (area ∷ []) line answer d d (untouched (area ∷ []) d) stays lasts (none_spent (units_of answer) d.spent units);
    keeps = kept_beside area d d false (untouched (area ∷ []) d);
    touches = λ plain.
        subst (λ (b : Bool). Touches (area ∷ []) (powered_for line d) d b) (sym lasts)
        (subst (λ (x : Device). Touches (area ∷ []) x d false) (sym same) (untouched (area ∷ []) d));
    writes = writes;
    mounts = λ is. absurd (no_mount is);
    reports = λ is. refl;
    plans = λ other. absurd (other stays);
  }

  -- with power off

  pub set_off : (id : ℕ) (value : List ℕ) → d.is_on ≡ false → LineDone format_of area (Set id value) answers.Off d d
  set_off id value dark = quiet (Set id value) answers.Off (λ last. (refl, dark, refl)) refl refl refl refl tt (set_no_mount id value)

  pub delete_off : (id : ℕ) → d.is_on ≡ false → LineDone format_of area (Delete id) answers.Off d d
  delete_off id dark = quiet (Delete id) answers.Off (λ last. (refl, dark, refl)) refl refl refl refl tt (delete_no_mount id)

  pub get_off : (id : ℕ) → d.is_on ≡ false → LineDone format_of area (Get id) answers.Off d d
  get_off id dark = quiet (Get id) answers.Off (λ last. (refl, dark, refl)) refl refl refl refl tt (get_no_mount id)

  pub older_off : (id n : ℕ) → d.is_on ≡ false → LineDone format_of area (Older id n) answers.Off d d
  older_off id n dark = quiet (Older id n) answers.Off (λ last. (refl, dark, refl)) refl refl refl refl tt (older_no_mount id n)

  pub space_off : d.is_on ≡ false → LineDone format_of area Space answers.Off d d
  space_off dark = quiet Space answers.Off (λ last. (refl, dark, refl)) refl refl refl refl tt space_no_mount

  -- with power on

  pub value_reported : (id : ℕ) (value : List ℕ) → d.is_on ≡ true → get (items_of (list_on format_of d area)) id ≡ Some value → LineDone format_of area (Get id) (answers.Value value) d d
  value_reported id value on is = quiet (Get id) (answers.Value value) (λ last. (λ needs. on, (is, refl))) refl refl refl refl tt (get_no_mount id)

  pub none_reported : (id : ℕ) → d.is_on ≡ true → get (items_of (list_on format_of d area)) id ≡ None → LineDone format_of area (Get id) answers.Absent d d
  none_reported id on is = quiet (Get id) answers.Absent (λ last. (λ needs. on, (is, refl))) refl refl refl refl tt (get_no_mount id)

  pub version_reported : (id n : ℕ) (value : List ℕ) → d.is_on ≡ true → slice_get (versions (list_on format_of d area) id) n ≡ Some value → 0 < length value → LineDone format_of area (Older id n) (answers.Value value) d d
  version_reported id n value on is some = quiet (Older id n) (answers.Value value) (λ last. (λ needs. on, (is, some, refl))) refl refl refl refl tt (older_no_mount id n)

  pub deleted_reported : (id n : ℕ) → d.is_on ≡ true → slice_get (versions (list_on format_of d area) id) n ≡ Some [] → LineDone format_of area (Older id n) answers.Deleted d d
  deleted_reported id n on is = quiet (Older id n) answers.Deleted (λ last. (λ needs. on, (is, refl))) refl refl refl refl tt (older_no_mount id n)

  pub gone_reported : (id n : ℕ) → d.is_on ≡ true → length (versions (list_on format_of d area) id) ≤ n → LineDone format_of area (Older id n) answers.Gone d d
  gone_reported id n on is = quiet (Older id n) answers.Gone (λ last. (λ needs. on, (is, refl))) refl refl refl refl tt (older_no_mount id n)

  pub space_reported : (live stale free : ℕ) → d.is_on ≡ true → record { live = live; stale = stale; free = free } ≡ space_of (format_on format_of d area) area.sectors (sector_size d area) (list_on format_of d area)
      → LineDone format_of area Space (answers.Space live stale free) d d
  space_reported live stale free on is =
      let lives : live ≡ (space_of (format_on format_of d area) area.sectors (sector_size d area) (list_on format_of d area)).live = ap (λ (s : TheSpace). s.live) is in
      let frees : free ≡ (area.sectors - 1) * (format_on format_of d area).cap (sector_size d area) - live =
      ap (λ (s : TheSpace). s.free) is ∙ ap (λ (n : ℕ). (area.sectors - 1) * (format_on format_of d area).cap (sector_size d area) - n) (sym lives) in
      quiet Space (answers.Space live stale free)
      (λ last. (λ needs. on, (lives ∙ items_cost-is (format_on format_of d area).cost (list_on format_of d area), ap (λ (s : TheSpace). s.stale) is, frees, refl))) refl refl refl refl tt space_no_mount

-- as the code has it: a version that is no delete, where memory was there for it
pub some_bytes : (bytes : List ℕ) → (bytes ≡ [] → ⊥) → 0 < length bytes
some_bytes [] some = absurd (some refl)
some_bytes (x ∷ bytes) some = omega arith

pub version_at : (format_of : Geometry → SectorFormat) (area given : Area) (d : Device) (id n : ℕ) (value : List ℕ) (r : Result Answer NoMemory) → d.is_on ≡ true → given ≡ area → slice_get (versions (list_on format_of d given) id) n ≡ Some value → (value ≡ [] → ⊥)
    → IfOk r (λ answer. answer ≡ answers.Value value) → IfOk r (λ answer. LineDone format_of area (Older id n) answer d d)
version_at format_of area given d id n value (Ok answer) on same is some reported =
    subst (λ (x : Answer). LineDone format_of area (Older id n) x d d) (sym reported)
    (version_reported format_of area d id n value on (subst (λ (a : Area). slice_get (versions (list_on format_of d a) id) n ≡ Some value) same is) (some_bytes value some))
version_at format_of area given d id n value (Err e) on same is some reported = tt

pub value_at : (format_of : Geometry → SectorFormat) (area given : Area) (d : Device) (id : ℕ) (value : List ℕ) (r : Result Answer NoMemory) → d.is_on ≡ true → given ≡ area → get (items_of (list_on format_of d given)) id ≡ Some value
    → IfOk r (λ answer. answer ≡ answers.Value value) → IfOk r (λ answer. LineDone format_of area (Get id) answer d d)
value_at format_of area given d id value (Ok answer) on same is reported =
    subst (λ (x : Answer). LineDone format_of area (Get id) x d d) (sym reported)
    (value_reported format_of area d id value on (subst (λ (a : Area). get (items_of (list_on format_of d a)) id ≡ Some value) same is))
value_at format_of area given d id value (Err e) on same is reported = tt

-- ---- plans

same_spent : (spent : ℕ) → spent + 0 ≡ spent
same_spent spent = omega arith

pub no_keeping : (units : ℕ) → replan (Cut units) ≡ keeps → ⊥
no_keeping units is = cc

pub no_dropping : replan Uncut ≡ keeps → ⊥
no_dropping is = cc

cut_no_mount : (units : ℕ) → Cut units ≡ Mount → ⊥
cut_no_mount units is = cc

uncut_no_mount : Uncut ≡ Mount → ⊥
uncut_no_mount is = cc

module _ (format_of : Geometry → SectorFormat) (area : Area) (old new : Device) where
  pub planned : (units : ℕ) → new ≡ record old { plan = replanned old.plan (After units) } → LineDone format_of area (Cut units) (answers.Done 0) old new
  planned units is =
      subst (λ (d : Device). LineDone format_of area (Cut units) (answers.Done 0) old d) (sym is)
      record {
        step = λ last within. (λ needs. absurd (false≢true needs), (refl, refl));
        accounts = record {
          spent = same_spent old.spent;
          losses = omega arith;
          allows = λ counts. Lasts-zero old.plan;
          plan = λ counts. refl;
          unplanned = λ free. absurd (free units refl);
        };
        keeps = record { banks = refl; loads = refl; outside = λ bank offset out. refl };
        touches = λ stays. absurd (no_keeping units stays);
        writes = tt;
        mounts = λ is. absurd (cut_no_mount units is);
        reports = λ is. absurd (false≢true is);
        plans = λ other. refl;
      }

  pub unplanned : new ≡ record old { plan = dropped old.plan } → LineDone format_of area Uncut (answers.Done 0) old new
  unplanned is =
      subst (λ (d : Device). LineDone format_of area Uncut (answers.Done 0) old d) (sym is)
      record {
        step = λ last within. (λ needs. absurd (false≢true needs), (refl, refl));
        accounts = record {
          spent = same_spent old.spent;
          losses = omega arith;
          allows = λ counts. Lasts-zero old.plan;
          plan = λ counts. refl;
          unplanned = λ free never. (ap dropped never, refl);
        };
        keeps = record { banks = refl; loads = refl; outside = λ bank offset out. refl };
        touches = λ stays. absurd (no_dropping stays);
        writes = tt;
        mounts = λ is. absurd (uncut_no_mount is);
        reports = λ is. absurd (false≢true is);
        plans = λ other. refl;
      }

  -- ---- mounts

  pub few_units : (units most : ℕ) → units ≡ new.spent - old.spent → SpendsBetween old new 0 most → units ≤ most
  few_units units most are spends =
      at_most units spends.units most (subst (λ (n : ℕ). n ≤ spends.units) (sym are) (units_most old.spent new.spent spends.units spends.spent)) spends.at_most

  idle_units : (units : ℕ) → units ≡ new.spent - old.spent → new ≡ turned_on old → answers.Done units ≡ answers.Done 0
  idle_units units are same =
      let spent : new.spent ≡ old.spent = ap (λ (d : Device). d.spent) same in
      let none : units ≡ 0 = omega arith in
      ap (λ (n : ℕ). answers.Done n) none

  module _ (none : (format_on format_of old area).damage (sectors_of old area) ≡ None) (stay : KeepsItems (format_on format_of old area) (sectors_of old area) (sectors_of new area))
      (spends : SpendsBetween (turned_on old) new 0 (rules_on format_of old area).mount) (units : ℕ) (are : units ≡ new.spent - old.spent) where
    few : units ≤ (rules_on format_of old area).mount
    few = at_most units spends.units (rules_on format_of old area).mount (subst (λ (n : ℕ). n ≤ spends.units) (sym are) (units_most old.spent new.spent spends.units spends.spent)) spends.at_most

    pub mount_done : (RestsOn format_of old area → new ≡ turned_on old) → Redoes (format_on format_of old area) area (answers.Done units) (turned_on old) new → Touches (area ∷ []) (turned_on old) new false → LineDone format_of area Mount (answers.Done units) old new
    mount_done idle redoes touches =
        let accounts = kept (area ∷ []) Mount (answers.Done units) (turned_on old) new touches refl refl are in
        record {
          step = λ last within. (λ needs. absurd (false≢true needs), (few, stays_there format_of area old new touches.banks stay, touches.ends.on));
          accounts = record { spent = accounts.spent; losses = accounts.losses; allows = accounts.allows; plan = accounts.plan; unplanned = accounts.unplanned };
          keeps = record { banks = touches.banks; loads = touches.loads; outside = touches.outside };
          touches = λ stays. touches;
          writes = tt;
          mounts = λ is. record { undamaged = none; items = stay; redoes = redoes; rests = λ rests. (idle_units units are (idle rests), idle rests) };
          reports = λ is. absurd (false≢true is);
          plans = λ other. absurd (other refl);
        }

    pub mount_lost : ¬ RestsOn format_of old area → Redoes (format_on format_of old area) area (answers.Lost units) (turned_on old) new → Touches (area ∷ []) (turned_on old) new true → LineDone format_of area Mount (answers.Lost units) old new
    mount_lost busy redoes touches =
        let accounts = lost (area ∷ []) Mount (answers.Lost units) (turned_on old) new refl touches refl refl are in
        record {
          step = λ last within. (λ needs. absurd (false≢true needs), (few, stays_there format_of area old new touches.banks stay, (touches.ends refl).off));
          accounts = record { spent = accounts.spent; losses = accounts.losses; allows = accounts.allows; plan = accounts.plan; unplanned = accounts.unplanned };
          keeps = record { banks = touches.banks; loads = touches.loads; outside = touches.outside };
          touches = λ stays. touches;
          writes = tt;
          mounts = λ is. record { undamaged = none; items = stay; redoes = redoes; rests = λ rests. absurd (busy rests) };
          reports = λ is. absurd (false≢true is);
          plans = λ other. absurd (other refl);
        }

-- What the areas of a mirror owe after a line, and what its mounts report.
use Rattle.std.proofs.Common.{◌≡◌, ℕ, zero, suc, ◌+◌, ◌-◌, ◌<◌, ◌≤◌, ◌&&◌, max, Bool, true, false, cond, List, [], ◌∷◌, ◌++◌, length, take, get_or, Option, Some, None, refl, sym, ap, subst, ◌∙◌, inl, inr, arith}
use Rattle.std.specs.Prelude.{is_some}
use Rattle.std.specs.FinMap as finite
use Rattle.std.specs.List.{slice_get}
use Rattle.std.proofs.lemmas.Bool.{cond-true, false≢true}
use Rattle.std.proofs.lemmas.List.{take_all}
use Rattle.flash_sim.specs.Device.{Device}
use Rattle.flash_sim.specs.declared.flash.Bank.{Bank}
use Rattle.flash_map.specs.declared.area.Area.{Area}
use Rattle.flash_map.specs.declared.area.Geometry.{Geometry}
use Rattle.flash_map.specs.declared.faults.Damaged.{Damaged}
use Rattle.flash_map.specs.Area.{geometry_of, sectors_of}
use Rattle.flash_map.specs.On.{on, HoldsOn}
use Rattle.flash_map.specs.Spending.{SpendsAtMost}
use Rattle.fcb_ring.specs.Standing.{erases_on}
use Rattle.backend_api.specs.Boot.{Owes}
use Rattle.backend_api.specs.Commands.{Command}
use Rattle.backend_api.specs.Commands.Command.{Del as Delete}
use Rattle.backend_api.specs.Map.{Map}
use Rattle.migrator.specs.Areas.{is_store, is_store_at, selector_of}
use Rattle.migrator.specs.Migrating.{fill_units}
use Rattle.mirror.specs.declared.mirror.Mirror.{Mirror}
use Rattle.mirror.specs.declared.sides.Side.{Side}
use Rattle.mirror.specs.Mirrored.{IsMirror, SameSide}
use Rattle.mirror.specs.Mounting.{other_place, other_units}
use Rattle.mirror.specs.Owing.{LeavesDue, MountsOwed, OneOwes, OwesBoot, naming_units}
use Rattle.mirror.specs.Trusted.{IsMirrorMap, trusted_on}
use Rattle.script_lines.specs.declared.answer.Answer.{Answer as settings_answer}
use Rattle.script_lines.specs.declared.answer.Answer.TheVariants as settings
use Rattle.settings_core.specs.Carrying.{command_of}
use Rattle.session.specs.OnMap.{turned_on}
use Rattle.session.specs.Owing.{greatest_boot}
use Rattle.session_table.specs.Bench.{area_at, geometry_in}
use Rattle.session_table.specs.Follows.{Follows}
use Rattle.session_table.proofs.FollowsLemmas.{last, one}
use Rattle.mirror_session.specs.declared.line.Line.{Line}
use Rattle.mirror_session.specs.declared.line.Line.TheVariants.{Set, Get, Del, Names, Mount, Cut, Uncut, Blank}
use Rattle.mirror_session.specs.declared.answer.Answer.{Answer}
use Rattle.mirror_session.specs.declared.answer.Answer.TheVariants.{Plain}
use Rattle.mirror_session.specs.Bench.{Meanings, Moment, moment, rules_of, state_of}
use Rattle.mirror_session.specs.LineDone.{LineDone, Replaced, SameButPlan, blanked, is_quiet}
use Rattle.mirror_session.specs.Owing.{BootDone, BootsWithin, BothOwe, OwesAt, OwesUpTo, ReportsOwed, mounted_by, mounted_last, renaming_units}
use Rattle.mirror_session.specs.Plan.{units_of}
use Rattle.mirror_session.specs.Standing.{IsHeld}
use Rattle.mirror_session.specs.State.{IsOn, Rules, State}
use Rattle.mirror_session.specs.Step.{Changes, Step}
use Rattle.mirror_session.proofs.ChangeLemmas.{most_spent}
use Rattle.mirror_session.proofs.FoldLemmas.{IsGoing, lines_on}
use Rattle.mirror_session.proofs.HeldLemmas.{of_both, side_rests}
use Rattle.mirror_session.proofs.MountLemmas.{other_stores, other_there, trusted_stores}
use Rattle.mirror_session.proofs.PlaceLemmas.{store_is}
use Rattle.mirror_session.proofs.ReplaceLemmas.{labelled_stores}

-- ---- the greatest of some numbers

left-most : (a b : ℕ) → a ≤ max a b
left-most a b = omega arith

right-most : (a b : ℕ) → b ≤ max a b
right-most a b = omega arith

le-then : (a b c : ℕ) → a ≤ b → b ≤ c → a ≤ c
le-then a b c one two = omega (arith, one, two)

pub none-less : (a : ℕ) → 0 ≤ a
none-less a = omega arith

store-within : (boot : Area → Geometry → ℕ) (banks : List Bank) (areas : List Area) (place : ℕ) (area : Area) → slice_get areas place ≡ Some area → is_store area ≡ true → boot area (geometry_in banks area) ≤ greatest_boot boot banks areas
store-within boot banks [] place area there store = absurd (none-there area there)
  where
    none-there : (x : Area) → None ≡ Some x → ⊥
    none-there x e = cc
store-within boot banks (x ∷ areas) zero area there store =
    let same : x ≡ area = some-same x area there in
    let first : cond {A = ℕ} (is_store x) (boot x (geometry_in banks x)) 0 ≡ boot area (geometry_in banks area) =
    ap (λ (y : Area). cond (is_store y) (boot y (geometry_in banks y)) 0) same ∙ cond-true (is_store area) (boot area (geometry_in banks area)) 0 store in
    subst (λ (n : ℕ). n ≤ greatest_boot boot banks (x ∷ areas)) first (left-most (cond (is_store x) (boot x (geometry_in banks x)) 0) (greatest_boot boot banks areas))
  where
    some-same : (y z : Area) → Some y ≡ Some z → y ≡ z
    some-same y z e = cc
store-within boot banks (x ∷ areas) (suc place) area there store =
    le-then (boot area (geometry_in banks area)) (greatest_boot boot banks areas) (greatest_boot boot banks (x ∷ areas)) (store-within boot banks areas place area there store)
    (right-most (cond (is_store x) (boot x (geometry_in banks x)) 0) (greatest_boot boot banks areas))

module _ (owing : Area → Geometry → List (List ℕ) → ℕ → Type 0) (areas : List Area) where
  -- ---- lines that leave the areas

  -- of the area that is read alone
  pub owes-dark : (d : Device) (whole : Bool) (due most : ℕ) → OwesAt owing areas (moment d whole) due most → OwesAt owing areas (moment d false) due most
  owes-dark d whole due most owes = record { selector = owes.selector; read = owes.read; both = λ is. absurd (false≢true is) }

  pub up-dark : (limit : ℕ) (old : Moment) (e : Device) (whole : Bool) → OwesUpTo owing limit areas old (moment e whole) → OwesUpTo owing limit areas old (moment e false)
  up-dark limit old e whole up due most one within owes = owes-dark e whole due most (up due most one within owes)

  pub up-wider : (limit : ℕ) (old new : Moment) → OwesUpTo owing 0 areas old new → OwesUpTo owing limit areas old new
  up-wider limit old new up due most one within owes = up due most one (none-less most) owes

  pub up-same : (limit : ℕ) (d e : Device) (whole : Bool) → e ≡ d → OwesUpTo owing limit areas (moment d whole) (moment e whole)
  up-same limit d e whole same due most one within owes = subst (λ (x : Device). OwesAt owing areas (moment x whole) due most) (sym same) owes

  -- another plan alone
  pub up-planned : (limit : ℕ) (d e : Device) (whole : Bool) → SameButPlan d e → OwesUpTo owing limit areas (moment d whole) (moment e whole)
  up-planned limit d e whole is due most one within owes =
      subst (λ (x : Device). OwesAt owing areas (moment x whole) due most) (sym is) (record { selector = owes.selector; read = owes.read; both = owes.both })

  -- ---- commands

  module _ {S : Type 0} (mounted_on : S → Area) (stands : S → Geometry → List (List ℕ) → Type 0) (m : Meanings) (serves : Area → Geometry → Type 0) (e : Device) (mirror : Mirror S)
      (map : IsMirrorMap serves areas e) (held : IsHeld mounted_on stands m areas e mirror) where
    -- both areas owe so many, and nothing is due in the selector
    pub owes-both : (whole : Bool) (due most : ℕ) → Owes owing e mirror.trusted.area most → Owes owing e mirror.other.area most → OwesAt owing areas (moment e whole) due most
    owes-both whole due most first second =
        let all : BothOwe owing areas e most =
        of_both mounted_on stands m serves areas e mirror map held (λ (a : Area). Owes owing e a most) first second in
        record {
          selector = λ s is. subst (λ (n : ℕ). n ≤ due) (sym (held.rests s is)) (none-less due);
          read = λ area there. all (trusted_on areas e) area there (store_is areas (trusted_on areas e) area there (trusted_stores serves areas e map));
          both = λ is place area there store. all place area there store;
        }

    module _ (resting : (area : Area) (geometry : Geometry) (sectors : List (List ℕ)) (most : ℕ) → m.rests area geometry sectors → owing area geometry sectors most)
        (at_rest : (state : S) (geometry : Geometry) (sectors : List (List ℕ)) → stands state geometry sectors → m.rests (mounted_on state) geometry sectors) where
      -- both stores are up
      pub owes-up : (whole : Bool) (due most : ℕ) → IsMirror mounted_on stands m.contents m.room m.prices e mirror.trusted mirror.other → OwesAt owing areas (moment e whole) due most
      owes-up whole due most up =
          owes-both whole due most
          (resting mirror.trusted.area (geometry_of e mirror.trusted.area) (sectors_of e mirror.trusted.area) most (side_rests mounted_on stands e mirror.trusted m.rests at_rest up.trusted_stands))
          (resting mirror.other.area (geometry_of e mirror.other.area) (sectors_of e mirror.other.area) most (side_rests mounted_on stands e mirror.other m.rests at_rest up.other_stands))

      -- or a command was cut
      module _ (boot : Area → Geometry → ℕ) (rises : (area : Area) (geometry : Geometry) (sectors : List (List ℕ)) (few most : ℕ) → few ≤ most → owing area geometry sectors few → owing area geometry sectors most)
          (d : Device) (banks : e.banks ≡ d.banks) (t o : Side S) (same_t : SameSide t mirror.trusted) (same_o : SameSide o mirror.other) where
        of-boot : (most : ℕ) → greatest_boot boot d.banks areas ≤ most → (place : ℕ) (area : Area) → slice_get areas place ≡ Some area → is_store area ≡ true → OwesBoot owing boot e area → Owes owing e area most
        of-boot most within place area there store owes =
            let limit : greatest_boot boot e.banks areas ≤ most = subst (λ (b : List Bank). greatest_boot boot b areas ≤ most) (sym banks) within in
            let few : boot area (geometry_of e area) ≤ most = le-then (boot area (geometry_of e area)) (greatest_boot boot e.banks areas) most (store-within boot e.banks areas place area there store) limit in
            rises area (geometry_of e area) (sectors_of e area) (boot area (geometry_of e area)) most few owes

        of-rest : (most : ℕ) (area : Area) → HoldsOn m.rests e area → Owes owing e area most
        of-rest most area rests = resting area (geometry_of e area) (sectors_of e area) most rests

        owes-cut : (due most : ℕ) → greatest_boot boot d.banks areas ≤ most → OneOwes owing boot m.rests e mirror.trusted.area mirror.other.area → OwesAt owing areas (moment e true) due most
        owes-cut due most within (inl cut) =
            owes-both true due most (of-boot most within mirror.trusted.place mirror.trusted.area held.trusted.there held.trusted.stores cut.0) (of-rest most mirror.other.area cut.1)
        owes-cut due most within (inr cut) =
            owes-both true due most (of-rest most mirror.trusted.area cut.0) (of-boot most within mirror.other.place mirror.other.area held.other.there held.other.stores cut.1)

        pub owes-command : (lost : Bool) → (lost ≡ false → IsMirror mounted_on stands m.contents m.room m.prices e mirror.trusted mirror.other) → (lost ≡ true → OneOwes owing boot m.rests e t.area o.area)
            → OwesUpTo owing (greatest_boot boot d.banks areas) areas (moment d true) (moment e true)
        owes-command false whole cut due most one within was = owes-up true due most (whole refl)
        owes-command true whole cut due most one within was =
            owes-cut due most within
            (subst (λ (x : Area). OneOwes owing boot m.rests e x mirror.other.area) (sym same_t.area) (subst (λ (y : Area). OneOwes owing boot m.rests e t.area y) (sym same_o.area) (cut refl)))

  -- ---- mounts

  module _ (damage : Area → Geometry → List (List ℕ) → Option Damaged) (contents : Area → Geometry → List (List ℕ) → Map) (serves : Area → Geometry → Type 0) (old mid new : Device)
      (map : IsMirrorMap serves areas old) (on_first : mid ≡ turned_on old) where
    abbrev OwedFrom : Device → Type 0
    OwedFrom d = (selector trusted other : Area) → selector_of areas ≡ Some selector → slice_get areas (trusted_on areas d) ≡ Some trusted → slice_get areas (other_place areas (trusted_on areas d)) ≡ Some other
        → MountsOwed owing damage contents (naming_units areas d selector) d new trusted other

    abbrev DueFrom : Device → Type 0
    DueFrom d = (selector : Area) → selector_of areas ≡ Some selector → LeavesDue d new selector

    pub mount-kept : OwedFrom mid → DueFrom mid → trusted_on areas new ≡ trusted_on areas mid → (was : Bool) → OwesUpTo owing 0 areas (moment old was) (moment new false)
    mount-kept owed left same was due most one within is =
        let stays : trusted_on areas new ≡ trusted_on areas old = same ∙ ap (λ (d : Device). trusted_on areas d) on_first in
        record {
          selector = λ s at. subst DueFrom on_first left s at due one (is.selector s at);
          read = λ area there.
              let here : slice_get areas (trusted_on areas old) ≡ Some area = ap (slice_get areas) (sym stays) ∙ there in
              (subst OwedFrom on_first owed map.selector area (area_at areas (other_place areas (trusted_on areas old))) map.selected here (other_there serves areas old map)).left most (is.read area here);
          both = λ w. absurd (false≢true w);
        }

    few : (units n : ℕ) → units ≡ new.spent - mid.spent → SpendsAtMost (turned_on old) new n → units ≤ n
    few units n are spent = subst (λ (k : ℕ). k ≤ n) (sym (are ∙ ap (λ (d : Device). new.spent - d.spent) on_first)) (most_spent (turned_on old) new n spent)

    pub mount-reports : OwedFrom mid → (units : ℕ) → units ≡ new.spent - mid.spent → ReportsOwed owing damage contents areas old units
    mount-reports owed units are selector trusted other selected there beside =
        let did = subst OwedFrom on_first owed selector trusted other selected there beside in
        let names = finite.len (on contents old trusted) in
        record {
          owed = λ most owes. few units (naming_units areas old selector + (most + other_units (geometry_of old other) names)) are (did.owed most owes);
          both = λ most more owes others. few units (naming_units areas old selector + (most + (more + fill_units (geometry_of old other) names))) are (did.both most more owes others);
          held = λ none holds most more owes others.
              few units (naming_units areas old selector + (most + more)) are (did.held none (record { sound = holds.sound; reads = holds.reads }) most more owes others).0;
        }

-- ---- a run

no-more : (erases name rest due units : ℕ) → units ≤ erases + name + rest → erases ≤ due → units ≤ due + name + rest
no-more erases name rest due units most within = omega (arith, most, within)

le-same : (n : ℕ) → n ≤ n
le-same n = omega arith

-- a command that is carried out, refused or cut leaves the session as whole as it was
changes-whole : (r : Rules) (command : Command) (answer : settings_answer) (old new : State) → Changes r command answer old new → new.is_whole ≡ old.is_whole
changes-whole r command (settings.Done units) old new did = ap (λ (s : State). s.is_whole) did.state
changes-whole r command (settings.TooMany units) old new did = ap (λ (s : State). s.is_whole) did.2
changes-whole r command (settings.NoSpace units need live) old new did = ap (λ (s : State). s.is_whole) did.2
changes-whole r command (settings.Lost units false) old new did = ap (λ (s : State). s.is_whole) did.state
changes-whole r command answer old new none = absurd none

whole-of : (is_on whole : Bool) → (is_on && whole) ≡ true → whole ≡ true
whole-of true whole is = is
whole-of false whole is = absurd (false≢true is)

module _ (owing : Area → Geometry → List (List ℕ) → ℕ → Type 0) (m : Meanings) (areas : List Area) where
  -- both areas owe no more after an area was replaced
  abbrev pub BlanksOwe : Device → Type 0
  BlanksOwe d = (place : ℕ) → is_store_at areas place ≡ true → (most : ℕ) → BothOwe owing areas d most → BothOwe owing areas (blanked d (area_at areas place)) most

  -- both areas owe no more after a line, unless it is a mount that was cut
  module _ (most : ℕ) (old new : Moment) (was : Bool) (known : was ≡ true → BothOwe owing areas old.device most) (after : new.whole ≡ true → BothOwe owing areas new.device most) (blanks : BlanksOwe old.device) where
    still-owe : SameButPlan old.device new.device → was ≡ true → BothOwe owing areas new.device most
    still-owe same is = subst (λ (d : Device). BothOwe owing areas d most) (sym same) (known is)

    now-owe : (r : Rules) (command : Command) (answer : settings_answer) → IsOn (state_of m areas old) → Changes r command answer (state_of m areas old) (state_of m areas new) → BothOwe owing areas new.device most
    now-owe r command answer on did = after (changes-whole r command answer (state_of m areas old) (state_of m areas new) did ∙ whole-of old.device.is_on old.whole on)

    both-of : (r : Rules) (line : Line) (answer : Answer) → Step r line answer (state_of m areas old) (state_of m areas new) → (is_quiet line answer ≡ true → SameButPlan old.device new.device) → Replaced areas line answer old.device new.device
        → mounted_by line answer was ≡ true → BothOwe owing areas new.device most
    both-of r (Set name value) (Plain settings.Off) step quiet blank is = still-owe (quiet refl) is
    both-of r (Set name value) (Plain answer) step quiet blank is = now-owe r (command_of name value) answer (step.0 refl) step.1
    both-of r (Set name value) answer none quiet blank is = absurd none
    both-of r (Del name) (Plain settings.Off) step quiet blank is = still-owe (quiet refl) is
    both-of r (Del name) (Plain answer) step quiet blank is = now-owe r (Delete name) answer (step.0 refl) step.1
    both-of r (Del name) answer none quiet blank is = absurd none
    both-of r Mount (Plain (settings.Done units)) step quiet blank is = after (ap (λ (s : State). s.is_whole) step.1)
    both-of r Mount answer step quiet blank is = absurd (false≢true is)
    both-of r (Blank label) (Plain (settings.Done units)) step quiet blank is =
        subst (λ (d : Device). BothOwe owing areas d most) (sym blank.2) (blanks blank.0 (labelled_stores areas label blank.0 blank.1) most (known is))
    both-of r (Blank label) answer step quiet blank is = still-owe (quiet refl) is
    both-of r (Get name) answer step quiet blank is = still-owe (quiet refl) is
    both-of r Names answer step quiet blank is = still-owe (quiet refl) is
    both-of r (Cut units) answer step quiet blank is = still-owe (quiet refl) is
    both-of r Uncut answer step quiet blank is = still-owe (quiet refl) is

  boot-of : (serves : Area → Geometry → Type 0) (due most : ℕ) (line : Line) (answer : Answer) (old new : Moment) → IsMirrorMap serves areas old.device → LineDone m areas line answer old new → (line ≡ Mount → ReportsOwed owing m.damage m.contents areas old.device (units_of answer)) → OwesAt owing areas old due most
      → OwesAt owing areas new due most → BlanksOwe old.device → BootDone owing m areas due most line answer old new
  boot-of serves due most line answer old new map did reports owes after blanks = record {
    done = did;
    boot = λ is selector trusted other selected there beside.
        no-more (erases_on old.device selector) (renaming_units areas old.device selector) (most + other_units (geometry_of old.device other) (finite.len (on m.contents old.device trusted))) due (units_of answer)
        ((reports is selector trusted other selected there beside).owed most (owes.read trusted there)) (owes.selector selector selected);
    behind = λ is known selector trusted other selected there beside.
        let first : Owes owing old.device trusted most =
        known (trusted_on areas old.device) trusted there (store_is areas (trusted_on areas old.device) trusted there (trusted_stores serves areas old.device map)) in
        let second : Owes owing old.device other most =
        known (other_place areas (trusted_on areas old.device)) other beside (store_is areas (other_place areas (trusted_on areas old.device)) other beside (other_stores serves areas old.device map)) in
        no-more (erases_on old.device selector) (renaming_units areas old.device selector) (most + (most + fill_units (geometry_of old.device other) (finite.len (on m.contents old.device trusted)))) due (units_of answer)
        ((reports is selector trusted other selected there beside).both most most first second) (owes.selector selector selected);
    both = λ was known.
        both-of most old new was known after.both blanks (rules_of m areas old.device.banks new.device.spent) line answer (did.step new.device.spent (le-same new.device.spent)) did.quiet did.blanks;
  }

  -- the mount and so many lines were carried out
  pub record IsOwing (limit : ℕ) (lines : List Line) (i : ℕ) (answers : List Answer) (first now : Device) (whole : Bool) : Type 0 where
    pub banks : now.banks ≡ first.banks
    pub up : OwesUpTo owing limit areas (moment first false) (moment now whole)
    pub boots : (due most : ℕ) → 1 ≤ due → limit ≤ most → OwesAt owing areas (moment first false) due most
        → Follows (BootDone owing m areas due most) (Mount ∷ take i lines) answers (moment first false) (moment now whole)

  pub owing-first : (serves : Area → Geometry → Type 0) (limit : ℕ) (lines : List Line) (answer : Answer) (first now : Device) (whole : Bool) → IsMirrorMap serves areas first → now.banks ≡ first.banks → LineDone m areas Mount answer (moment first false) (moment now whole)
      → ReportsOwed owing m.damage m.contents areas first (units_of answer) → OwesUpTo owing 0 areas (moment first false) (moment now whole) → BlanksOwe first → IsOwing limit lines 0 ([] ++ answer ∷ []) first now whole
  owing-first serves limit lines answer first now whole map banks did reports up blanks = record {
    banks = banks;
    up = up-wider owing areas limit (moment first false) (moment now whole) up;
    boots = λ due most some within owes.
        one (BootDone owing m areas due most) Mount answer (moment first false) (moment now whole)
        (boot-of serves due most Mount answer (moment first false) (moment now whole) map did (λ is. reports) owes (up due most some (none-less most) owes) blanks);
  }

  pub owing-next : (serves : Area → Geometry → Type 0) (boot : Area → Geometry → ℕ) (lines : List Line) (i : ℕ) (line : Line) (answers : List Answer) (answer : Answer) (first mid new : Device) (was whole : Bool) → IsMirrorMap serves areas mid → i < length lines → line ≡ get_or lines i line
      → IsOwing (greatest_boot boot first.banks areas) lines i answers first mid was → new.banks ≡ mid.banks → LineDone m areas line answer (moment mid was) (moment new whole)
      → (line ≡ Mount → ReportsOwed owing m.damage m.contents areas mid (units_of answer)) → OwesUpTo owing (greatest_boot boot mid.banks areas) areas (moment mid was) (moment new whole) → BlanksOwe mid
      → IsOwing (greatest_boot boot first.banks areas) lines (i + 1) (answers ++ answer ∷ []) first new whole
  owing-next serves boot lines i line answers answer first mid new was whole map below is so_far banks did reports up blanks = record {
    banks = banks ∙ so_far.banks;
    up = λ due most some within owes. later due most some within (so_far.up due most some within owes);
    boots = λ due most some within owes.
        let before : OwesAt owing areas (moment mid was) due most = so_far.up due most some within owes in
        subst (λ (prefix : List Line). Follows (BootDone owing m areas due most) (Mount ∷ prefix) (answers ++ answer ∷ []) (moment first false) (moment new whole)) (sym (lines_on lines i line below is))
        (last (BootDone owing m areas due most) (Mount ∷ take i lines) line answers answer (moment first false) (moment mid was) (moment new whole) (so_far.boots due most some within owes)
        (boot-of serves due most line answer (moment mid was) (moment new whole) map did reports before (later due most some within before) blanks));
  }
    where
      later : OwesUpTo owing (greatest_boot boot first.banks areas) areas (moment mid was) (moment new whole)
      later = subst (λ (b : List Bank). OwesUpTo owing (greatest_boot boot b areas) areas (moment mid was) (moment new whole)) so_far.banks up

  -- a line that was cut short after them
  pub owing-stops : (boot : Area → Geometry → ℕ) (lines : List Line) (i : ℕ) (answers : List Answer) (first mid new : Device) (was : Bool) → IsOwing (greatest_boot boot first.banks areas) lines i answers first mid was
      → OwesUpTo owing (greatest_boot boot mid.banks areas) areas (moment mid was) (moment new false) → OwesUpTo owing (greatest_boot boot first.banks areas) areas (moment first false) (moment new false)
  owing-stops boot lines i answers first mid new was so_far kept due most some within owes =
      subst (λ (b : List Bank). OwesUpTo owing (greatest_boot boot b areas) areas (moment mid was) (moment new false)) so_far.banks kept due most some within (so_far.up due most some within owes)

  -- the last mount among them was whole
  both-at-end : (due most : ℕ) (lines : List Line) (answers : List Answer) (old new : Moment) → Follows (BootDone owing m areas due most) lines answers old new → (was : Bool) → (was ≡ true → BothOwe owing areas old.device most)
      → mounted_last was lines answers ≡ true → BothOwe owing areas new.device most
  both-at-end due most [] [] old new same was known is = subst (λ (now : Moment). BothOwe owing areas now.device most) (sym same) (known is)
  both-at-end due most [] (answer ∷ answers) old new none was known is = absurd none
  both-at-end due most (line ∷ lines) [] old new none was known is = absurd none
  both-at-end due most (line ∷ lines) (answer ∷ answers) old new runs was known is = both-at-end due most lines answers runs.0 new runs.2 (mounted_by line answer was) (runs.1.both was known) is

  pub owing-ends : (limit : ℕ) (lines : List Line) (i : ℕ) (answers : List Answer) (first now : Device) (whole : Bool) → length lines ≤ i → IsOwing limit lines i answers first now whole
      → (due most : ℕ) → 1 ≤ due → limit ≤ most → OwesAt owing areas (moment first false) due most
      → OwesAt owing areas (moment now false) due most × BootsWithin owing m areas due most (Mount ∷ lines) answers (moment first false) now
  owing-ends limit lines i answers first now whole all so_far due most some within owes =
      let runs : Follows (BootDone owing m areas due most) (Mount ∷ lines) answers (moment first false) (moment now whole) =
      subst (λ (prefix : List Line). Follows (BootDone owing m areas due most) (Mount ∷ prefix) answers (moment first false) (moment now whole)) (take_all i lines all) (so_far.boots due most some within owes) in (
        owes-dark owing areas now whole due most (so_far.up due most some within owes),
        record { whole = whole; runs = runs; both = both-at-end due most (Mount ∷ lines) answers (moment first false) (moment now whole) runs false (λ never. absurd (false≢true never)) },
      )

-- ---- a session in the loop

-- It goes on, and owes no more than when it began, or than what one cut command leaves.
pub record IsGoingOn {S : Type 0} (owing : Area → Geometry → List (List ℕ) → ℕ → Type 0) (boot : Area → Geometry → ℕ) (m : Meanings) (areas : List Area) (serves : Area → Geometry → Type 0) (mounted_on : S → Area) (stands : S → Geometry → List (List ℕ) → Type 0)
    (lines : List Line) (i : ℕ) (answers : List Answer) (first now : Device) (mirror : Option (Mirror S)) : Type 0 where
  pub going : IsGoing m areas serves mounted_on stands lines i answers first now mirror
  pub owed : IsOwing owing m areas (greatest_boot boot first.banks areas) lines i answers first now (is_some mirror)

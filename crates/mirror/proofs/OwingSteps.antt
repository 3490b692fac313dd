-- What the areas of a mirror owe: behind a command that was cut, and behind a mount.
use Rattle.std.proofs.Common.{◌≡◌, ◌⊎◌, ℕ, ◌+◌, ◌≤◌, ◌==◌, Bool, true, false, cond, List, [], ◌∷◌, Option, None, Result, Err, refl, sym, ap, subst, ◌∙◌, inl, inr, arith}
use Rattle.std.specs.FinMap as maps
use Rattle.std.proofs.lemmas.Bool.{false≢true}
use Rattle.std.proofs.lemmas.Bool.Decides.{nat_tests}
use Rattle.flash_sim.specs.Bank.{IsLawful}
use Rattle.flash_sim.specs.Device.{Device}
use Rattle.flash_map.specs.declared.area.Area.{Area}
use Rattle.flash_map.specs.declared.area.Geometry.{Geometry}
use Rattle.flash_map.specs.declared.faults.Damaged.{Damaged}
use Rattle.flash_map.specs.Area.{geometry_of, sectors_of}
use Rattle.flash_map.specs.On.{on, HoldsOn}
use Rattle.flash_map.specs.Spending.{SpendsAtMost}
use Rattle.flash_map.specs.Touches.{Touches}
use Rattle.flash_map.proofs.SpendingLemmas.{most_weaker}
use Rattle.fcb_ring.specs.Entries.{states}
use Rattle.fcb_ring.specs.Standing.{erases_due, erases_on}
use Rattle.backend_api.specs.Boot.{MountUnits, Owes}
use Rattle.backend_api.specs.Ends.{set_lost}
use Rattle.backend_api.specs.Map.{Map}
use Rattle.backend_api.specs.Room.{Room}
use Rattle.backend_api.specs.declared.backend.SetFault.{SetFault}
use Rattle.backend_api.specs.declared.backend.SetFault.TheVariants.{NoSpace, TooManyNames, PowerLost}
use Rattle.migrator.specs.Active.{active_on}
use Rattle.migrator.specs.Choosing.{choice_units}
use Rattle.migrator.specs.Migrating.{fill_units}
use Rattle.migrator.proofs.Copies.{geometry-same}
use Rattle.migrator.proofs.Moving.{still}
use Rattle.migrator.proofs.Spent.{most_then}
use Rattle.mirror.specs.declared.sides.Side.{Side}
use Rattle.mirror.specs.Mirrored.{IsMirror, LooksForBoth, SameSide, SideStands}
use Rattle.mirror.specs.Mounting.{HoldsMap, other_units, trust_units}
use Rattle.mirror.specs.Owing.{LeavesDue, MountsOwed, OneOwes, OpensOwed, OwesBoot, naming_units}
use Rattle.mirror.specs.Room.{Prices}
use Rattle.mirror.specs.Trusted.{trusted_on}
use Rattle.mirror.proofs.BothSteps.{holds-still}
use Rattle.mirror.proofs.MirrorEnds.{back, other-stands}
use Rattle.mirror.proofs.SideSteps.{OtherDone, SideDone}

within : (a b : ℕ) → a ≤ a + b
within a b = omega arith

beside-zero : (a b : ℕ) → a ≤ 0 + (a + b)
beside-zero a b = omega arith

behind-zero : (a : ℕ) → a ≤ 0 + a
behind-zero a = omega arith

no-zero : (a : ℕ) → 0 + a ≤ a
no-zero a = omega arith

le-then : (a b c : ℕ) → a ≤ b → b ≤ c → a ≤ c
le-then a b c one two = omega (arith, one, two)

-- ---- the selector

pub due-few : (d e : Device) (a : Area) → erases_on e a ≤ 1 → LeavesDue d e a
due-few d e a few due one before = le-then (erases_on e a) 1 due few one

pub due-less : (d e : Device) (a s : Area) → a ≡ s → erases_on e a ≤ erases_on d a → LeavesDue d e s
due-less d e a s same less =
    subst (λ (x : Area). LeavesDue d e x) same (λ due one before. le-then (erases_on e a) (erases_on d a) due less before)

-- it was mounted, and then maybe an area was chosen
pub due-then : (d m e : Device) (a b s : Area) → a ≡ s → b ≡ s → erases_on m a ≤ erases_on d a → LeavesDue m e b → LeavesDue d e s
due-then d m e a b s same other less later =
    let first : LeavesDue d m s = due-less d m a s same less in
    let second : LeavesDue m e s = subst (λ (x : Area). LeavesDue m e x) other later in
    λ due one before. second due one (first due one before)

-- and then nothing touched it
pub due-still : (d m e : Device) (s : Area) → e.banks ≡ m.banks → sectors_of e s ≡ sectors_of m s → LeavesDue d m s → LeavesDue d e s
due-still d m e s banks same first due one before =
    let is : erases_on e s ≡ erases_on m s = still (λ area geometry sectors. erases_due (states geometry.unit sectors)) m e s banks same in
    subst (λ (n : ℕ). n ≤ due) (sym is) (first due one before)

same-of : (a b : ℕ) → (a == b) ≡ true → a ≡ b
same-of a b is = grind (arith, nat_tests, is)

pub naming-spent : (areas : List Area) (d m : Device) (s : Area) → SpendsAtMost d m (trust_units d s) → (active_on areas d ≡ trusted_on areas d → SpendsAtMost d m (erases_on d s)) → SpendsAtMost d m (naming_units areas d s)
naming-spent areas d m s any named = by (active_on areas d == trusted_on areas d) refl
  where
    by : (b : Bool) → (active_on areas d == trusted_on areas d) ≡ b → SpendsAtMost d m (erases_on d s + cond b 0 (choice_units d s))
    by true is = most_weaker d m (erases_on d s) (erases_on d s + 0) (within (erases_on d s) 0) (named (same-of (active_on areas d) (trusted_on areas d) is))
    by false is = any

-- ---- what an area owes, on another device

-- no power was lost before anything was programmed
pub refused-lost : {S : Type 0} (T : Type 0) (room : Area → Geometry → Room) (d : Device) (trusted other : Side S) (settings : Map) (name value : List ℕ) (fault : SetFault) → LooksForBoth {T = T} room d trusted other settings name value (Err fault)
    → ¬ (set_lost {T = T} (Err fault) ≡ true)
refused-lost T room d trusted other settings name value TooManyNames looked lost = false≢true lost
refused-lost T room d trusted other settings name value (NoSpace need live) looked lost = false≢true lost
refused-lost T room d trusted other settings name value PowerLost looked lost = looked

module _ (owing : Area → Geometry → List (List ℕ) → ℕ → Type 0) where
  pub owes-still : (d m : Device) (area : Area) (most : ℕ) → m.banks ≡ d.banks → sectors_of m area ≡ sectors_of d area → Owes owing d area most → Owes owing m area most
  owes-still d m area most banks same is = holds-still (λ a g sectors. owing a g sectors most) d m area banks same is

  -- ---- commands that were cut

  module _ {S : Type 0} (mounted : S → Area) (stands : S → Geometry → List (List ℕ) → Type 0) (damage : Area → Geometry → List (List ℕ) → Option Damaged) (contents : Area → Geometry → List (List ℕ) → Map) (room : Area → Geometry → Room) (prices : Area → Geometry → Prices)
      (d : Device) (t o : Side S) (is : IsMirror mounted stands contents room prices d t o) (lawful : IsLawful d.banks d.bytes)
      (boot : Area → Geometry → ℕ) (rests : Area → Geometry → List (List ℕ) → Type 0) (at_rest : (state : S) (geometry : Geometry) (sectors : List (List ℕ)) → stands state geometry sectors → rests (mounted state) geometry sectors) where
    boot-then : (a e : Device) (area : Area) → e.banks ≡ a.banks → Owes owing e area (boot area (geometry_of a area)) → OwesBoot owing boot e area
    boot-then a e area banks owes = subst (λ (g : Geometry). Owes owing e area (boot area g)) (sym (geometry-same a e area banks)) owes

    side-rests : (m : Device) (side : Side S) → SideStands mounted stands m side → HoldsOn rests m side.area
    side-rests m side up =
        subst (λ (x : Area). HoldsOn rests m x) up.here (at_rest side.store (geometry_of m (mounted side.store)) (sectors_of m (mounted side.store)) up.up)

    -- on the trusted side
    pub first-owes : (m : Device) → IsLawful m.banks m.bytes → Touches (t.area ∷ []) d m true → Owes owing m t.area (boot t.area (geometry_of d t.area)) → OneOwes owing boot rests m t.area o.area
    first-owes m mid touches owes = inl (
      boot-then d m t.area touches.banks owes,
      side-rests m o (other-stands mounted stands damage contents room prices d t o is lawful m true mid touches),
    )

    -- or on the other one
    pub second-owes : (m e : Device) (lost : Bool) (t' : Side S) → IsLawful m.banks m.bytes → IsLawful e.banks e.bytes → Touches (t.area ∷ []) d m false → Touches (o.area ∷ []) m e lost → SameSide t t' → SideStands mounted stands m t'
        → Owes owing e o.area (boot o.area (geometry_of m o.area)) → OneOwes owing boot rests e t.area o.area
    second-owes m e lost t' mid end first second same up owes =
        let rest : HoldsOn rests m t.area = subst (λ (x : Area). HoldsOn rests m x) same.area (side-rests m t' up) in
        let behind : sectors_of e t.area ≡ sectors_of m t.area = back mounted stands damage contents room prices d t o is lawful m e lost mid end first.banks second in
        inr (holds-still rests m e t.area second.banks behind rest, boot-then m e o.area second.banks owes)

  -- ---- mounts

  module _ (damage : Area → Geometry → List (List ℕ) → Option Damaged) (contents : Area → Geometry → List (List ℕ) → Map) where
    -- the other area was mounted, and not repaired
    pub opens-first : (limit : ℕ) (d m : Device) (area : Area) (settings : Map) → MountUnits owing limit d m area → OpensOwed owing damage contents d m area settings
    opens-first limit d m area settings units = record {
      owed = λ most owes. most_weaker d m most (most + fill_units (geometry_of d area) (maps.len settings)) (within most (fill_units (geometry_of d area) (maps.len settings))) (units.owed most owes);
      held = λ holds most owes. (units.owed most owes, units.left most owes);
    }

    -- it was, because it held another map
    pub opens-then : (limit : ℕ) (d m e : Device) (area : Area) (before now : Map) → m.banks ≡ d.banks → now ≡ before → MountUnits owing limit d m area → ¬ HoldsMap damage contents d area before
        → SpendsAtMost m e (fill_units (geometry_of m area) (maps.len now)) → OpensOwed owing damage contents d e area before
    opens-then limit d m e area before now banks same units differs second =
        let repaired : SpendsAtMost m e (fill_units (geometry_of d area) (maps.len before)) =
        subst (λ (x : Map). SpendsAtMost m e (fill_units (geometry_of d area) (maps.len x))) same (subst (λ (g : Geometry). SpendsAtMost m e (fill_units g (maps.len now))) (geometry-same d m area banks) second) in
        record {
          owed = λ most owes. most_then d m e most (fill_units (geometry_of d area) (maps.len before)) (units.owed most owes) repaired;
          held = λ holds. absurd (differs holds);
        }

    -- the selector alone was worked on
    pub owed-selector : (first : ℕ) (d m : Device) (t o : Area) → m.banks ≡ d.banks → sectors_of m t ≡ sectors_of d t → sectors_of m o ≡ sectors_of d o → SpendsAtMost d m first → MountsOwed owing damage contents first d m t o
    owed-selector first d m t o banks t-same o-same spent =
        let names = maps.len (on contents d t) in
        let geometry = geometry_of d o in
        record {
          owed = λ most owes. most_weaker d m first (first + (most + other_units geometry names)) (within first (most + other_units geometry names)) spent;
          both = λ most more owes others. most_weaker d m first (first + (most + (more + fill_units geometry names))) (within first (most + (more + fill_units geometry names))) spent;
          held = λ none holds most more owes others. (most_weaker d m first (first + (most + more)) (within first (most + more)) spent, owes-still d m o more banks o-same others);
          left = λ most owes. owes-still d m t most banks t-same owes;
        }

    -- the trusted area was mounted
    pub owed-first : (rests : Area → Geometry → List (List ℕ) → Type 0) (limit : ℕ) (d m : Device) (t o : Area) → SideDone damage contents rests d m t o → MountUnits owing limit d m t → MountsOwed owing damage contents 0 d m t o
    owed-first rests limit d m t o one units =
        let names = maps.len (on contents d t) in
        let geometry = geometry_of d o in
        record {
          owed = λ most owes. most_weaker d m most (0 + (most + other_units geometry names)) (beside-zero most (other_units geometry names)) (units.owed most owes);
          both = λ most more owes others. most_weaker d m most (0 + (most + (more + fill_units geometry names))) (beside-zero most (more + fill_units geometry names)) (units.owed most owes);
          held = λ none holds most more owes others. (most_weaker d m most (0 + (most + more)) (beside-zero most more) (units.owed most owes), owes-still d m o more one.banks one.beside others);
          left = units.left;
        }

    -- and then the other one was opened
    pub owed-then : (rests : Area → Geometry → List (List ℕ) → Type 0) (limit : ℕ) (d m e : Device) (t o : Area) → SideDone damage contents rests d m t o → OtherDone damage contents rests m e t o → MountUnits owing limit d m t → OpensOwed owing damage contents m e o (on contents m t)
        → on damage d t ≡ None → MountsOwed owing damage contents 0 d e t o
    owed-then rests limit d m e t o one two units opens sound =
        let names = maps.len (on contents d t) in
        let read : on contents m t ≡ on contents d t = one.reads sound in
        let same : geometry_of m o ≡ geometry_of d o = geometry-same d m o one.banks in
        let geometry = geometry_of d o in
        record {
          owed = λ most owes.
              let later : SpendsAtMost m e (other_units (geometry_of d o) (maps.len (on contents d t))) =
              subst (λ (x : Map). SpendsAtMost m e (other_units (geometry_of d o) (maps.len x))) read
              (subst (λ (g : Geometry). SpendsAtMost m e (other_units g (maps.len (on contents m t)))) same two.units) in
              most_weaker d e (most + other_units geometry names) (0 + (most + other_units geometry names)) (behind-zero (most + other_units geometry names))
              (most_then d m e most (other_units geometry names) (units.owed most owes) later);
          both = λ most more owes others.
              let later : SpendsAtMost m e (more + fill_units (geometry_of d o) (maps.len (on contents d t))) =
              subst (λ (x : Map). SpendsAtMost m e (more + fill_units (geometry_of d o) (maps.len x))) read
              (subst (λ (g : Geometry). SpendsAtMost m e (more + fill_units g (maps.len (on contents m t)))) same (opens.owed more (owes-still d m o more one.banks one.beside others))) in
              most_weaker d e (most + (more + fill_units geometry names)) (0 + (most + (more + fill_units geometry names))) (behind-zero (most + (more + fill_units geometry names)))
              (most_then d m e most (more + fill_units geometry names) (units.owed most owes) later);
          held = λ none holds most more owes others.
              let held_on : HoldsMap damage contents m o (on contents m t) =
              record { sound = still damage d m o one.banks one.beside ∙ holds.sound; reads = still contents d m o one.banks one.beside ∙ holds.reads ∙ sym read } in
              let after = opens.held held_on more (owes-still d m o more one.banks one.beside others) in
              (most_weaker d e (most + more) (0 + (most + more)) (behind-zero (most + more)) (most_then d m e most more (units.owed most owes) after.0), after.1);
          left = λ most owes. owes-still m e t most two.banks two.beside (units.left most owes);
        }

    -- behind the selector
    pub owed-behind : (first : ℕ) (d m e : Device) (t o : Area) → m.banks ≡ d.banks → sectors_of m t ≡ sectors_of d t → sectors_of m o ≡ sectors_of d o → SpendsAtMost d m first → MountsOwed owing damage contents 0 m e t o
        → MountsOwed owing damage contents first d e t o
    owed-behind first d m e t o banks t-same o-same spent later =
        let names = maps.len (on contents d t) in
        let read : on contents m t ≡ on contents d t = still contents d m t banks t-same in
        let same : geometry_of m o ≡ geometry_of d o = geometry-same d m o banks in
        let geometry = geometry_of d o in
        record {
          owed = λ most owes.
              let then : SpendsAtMost m e (0 + (most + other_units (geometry_of d o) (maps.len (on contents d t)))) =
              subst (λ (x : Map). SpendsAtMost m e (0 + (most + other_units (geometry_of d o) (maps.len x)))) read
              (subst (λ (g : Geometry). SpendsAtMost m e (0 + (most + other_units g (maps.len (on contents m t))))) same (later.owed most (owes-still d m t most banks t-same owes))) in
              most_then d m e first (most + other_units geometry names) spent (most_weaker m e (0 + (most + other_units geometry names)) (most + other_units geometry names) (no-zero (most + other_units geometry names)) then);
          both = λ most more owes others.
              let then : SpendsAtMost m e (0 + (most + (more + fill_units (geometry_of d o) (maps.len (on contents d t))))) =
              subst (λ (x : Map). SpendsAtMost m e (0 + (most + (more + fill_units (geometry_of d o) (maps.len x))))) read
              (subst (λ (g : Geometry). SpendsAtMost m e (0 + (most + (more + fill_units g (maps.len (on contents m t)))))) same
              (later.both most more (owes-still d m t most banks t-same owes) (owes-still d m o more banks o-same others))) in
              most_then d m e first (most + (more + fill_units geometry names)) spent
              (most_weaker m e (0 + (most + (more + fill_units geometry names))) (most + (more + fill_units geometry names)) (no-zero (most + (more + fill_units geometry names))) then);
          held = λ none holds most more owes others.
              let held_on : HoldsMap damage contents m o (on contents m t) =
              record { sound = still damage d m o banks o-same ∙ holds.sound; reads = still contents d m o banks o-same ∙ holds.reads ∙ sym read } in
              let after = later.held (still damage d m t banks t-same ∙ none) held_on most more (owes-still d m t most banks t-same owes) (owes-still d m o more banks o-same others) in
              (most_then d m e first (most + more) spent (most_weaker m e (0 + (most + more)) (most + more) (no-zero (most + more)) after.0), after.1);
          left = λ most owes. later.left most (owes-still d m t most banks t-same owes);
        }

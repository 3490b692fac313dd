-- What a map owes to the next mount, behind a line.
use Rattle.std.proofs.Common.{◌≡◌, ℕ, zero, suc, ◌+◌, ◌-◌, ◌<◌, ◌≤◌, max, Bool, true, false, cond, List, [], ◌∷◌, ◌++◌, length, take, get_or, Option, Some, None, Result, Ok, Err, refl, sym, ap, subst, ◌∙◌, inl, inr, arith}
use Rattle.std.specs.Prelude.{IfOk}
use Rattle.std.specs.List.{slice_get}
use Rattle.std.specs.Option.{option_map_or}
use Rattle.std.proofs.lemmas.Bool.{cases_Bool, cond-true, false≢true}
use Rattle.std.proofs.lemmas.List.{take_all}
use Rattle.flash_sim.specs.Bank.{IsLawful}
use Rattle.flash_sim.specs.Device.{Device, counted}
use Rattle.flash_sim.specs.declared.flash.Bank.{Bank}
use Rattle.flash_map.specs.declared.area.Area.{Area}
use Rattle.flash_map.specs.declared.area.Geometry.{Geometry}
use Rattle.flash_map.specs.Area.{geometry_of, sectors_of}
use Rattle.flash_map.specs.On.{HoldsOn}
use Rattle.flash_map.specs.Spending.{SpendsAtMost}
use Rattle.flash_map.specs.Touches.{SameOutside, Touches}
use Rattle.flash_map.proofs.SpendingLemmas.{most_weaker}
use Rattle.fcb_ring.specs.Entries.{states}
use Rattle.fcb_ring.specs.Standing.{erases_due, erases_on}
use Rattle.backend_api.specs.Boot.{MountUnits, Owes}
use Rattle.migrator.proofs.Moving.{still}
use Rattle.migrator.proofs.Spent.{most_then}
use Rattle.migrator.specs.Active.{active_on, selector_damage_on}
use Rattle.migrator.specs.Areas.{is_store, selector_of}
use Rattle.migrator.specs.Migrating.{IsLeftResting}
use Rattle.migrator.specs.declared.selecting.Selector.{Selector}
use Rattle.script_lines.specs.Plan.{units_of}
use Rattle.script_lines.specs.declared.answer.Answer.{Answer}
use Rattle.script_lines.specs.declared.line.Line.{Line}
use Rattle.script_lines.specs.declared.line.Line.TheVariants.{Mount}
use Rattle.session_table.specs.Bench.{area_at, geometry_in}
use Rattle.session.proofs.ActiveArea.{IsStoreAt, active-there}
use Rattle.session.proofs.ActiveAreas.{active_beside, active_powered, active_still, area_there, selector_beside, served_still}
use Rattle.session.proofs.FoldLemmas.{lines_on}
use Rattle.session.proofs.MountLemmas.{active_sectors}
use Rattle.session.specs.Mounting.{SelectorEnds, answered}
use Rattle.session.specs.OnMap.{IsAtRest, IsServedMap, active_area, selector_erases, selectors, turned_on}
use Rattle.session.specs.Owing.{MapUnits, MountsWithin, OwesOnMap, OwesUpTo, ReportsOwed, greatest_boot, map_boot}
use Rattle.session.specs.declared.fault.SessionFault.{SessionFault}
use Rattle.session.specs.declared.mounting.MapFault.{MapFault}
use Rattle.session.specs.declared.mounting.MapFault.TheVariants.{Damaged as MapDamaged, PowerLost, NoMemory}
use Rattle.session.specs.declared.session.Session.{Session}
use Rattle.settings_core.specs.Owing.{OwesBoot}
use Rattle.migrator.proofs.Copies.{geometry-same}

-- ---- the greatest of some numbers

left-most : (a b : ℕ) → a ≤ max a b
left-most a b = omega arith

right-most : (a b : ℕ) → b ≤ max a b
right-most a b = omega arith

le-then : (a b c : ℕ) → a ≤ b → b ≤ c → a ≤ c
le-then a b c one two = omega arith

store-within : (boot : Area → Geometry → ℕ) (banks : List Bank) (areas : List Area) (place : ℕ) (area : Area) → slice_get areas place ≡ Some area → is_store area ≡ true → boot area (geometry_in banks area) ≤ greatest_boot boot banks areas
store-within boot banks [] place area there store = absurd (none-there area there)
  where
    none-there : (x : Area) → None ≡ Some x → ⊥
    none-there x e = cc
store-within boot banks (x ∷ areas) zero area there store =
    let same : x ≡ area = some-same x area there in
    let first : cond {A = ℕ} (is_store x) (boot x (geometry_in banks x)) 0 ≡ boot area (geometry_in banks area) =
    ap (λ (y : Area). cond (is_store y) (boot y (geometry_in banks y)) 0) same ∙ cond-true (is_store area) (boot area (geometry_in banks area)) 0 store in
    subst (λ (n : ℕ). n ≤ greatest_boot boot banks (x ∷ areas)) first (left-most (cond (is_store x) (boot x (geometry_in banks x)) 0) (greatest_boot boot banks areas))
  where
    some-same : (y z : Area) → Some y ≡ Some z → y ≡ z
    some-same y z e = cc
store-within boot banks (x ∷ areas) (suc place) area there store =
    le-then (boot area (geometry_in banks area)) (greatest_boot boot banks areas) (greatest_boot boot banks (x ∷ areas)) (store-within boot banks areas place area there store)
    (right-most (cond (is_store x) (boot x (geometry_in banks x)) 0) (greatest_boot boot banks areas))

-- ---- one relation of the sectors of an area, on two devices

held-still : (holds : Area → Geometry → List (List ℕ) → Type 0) (d e : Device) (area : Area) → e.banks ≡ d.banks → sectors_of e area ≡ sectors_of d area → HoldsOn holds d area → HoldsOn holds e area
held-still holds d e area banks same held =
    subst (λ (g : Geometry). holds area g (sectors_of e area)) (sym (geometry-same d e area banks)) (subst (λ (s : List (List ℕ)). holds area (geometry_of d area) s) (sym same) held)

erases-same : (areas : List Area) (d e : Device) → e.banks ≡ d.banks → ((s : Area) → selector_of areas ≡ Some s → sectors_of e s ≡ sectors_of d s) → selector_erases areas e ≡ selector_erases areas d
erases-same areas d e banks same = at (selector_of areas) refl
  where
    at : (o : Option Area) → selector_of areas ≡ o → option_map_or (λ (area : Area). erases_on e area) o 0 ≡ option_map_or (λ (area : Area). erases_on d area) o 0
    at None is = refl
    at (Some s) is = still (λ area geometry sectors. erases_due (states geometry.unit sectors)) d e s banks (same s is)

module _ (owing : Area → Geometry → List (List ℕ) → ℕ → Type 0) (areas : List Area) where
  pub owes-weaker : (d : Device) (few most : ℕ) → few ≤ most → OwesOnMap owing areas d few → OwesOnMap owing areas d most
  owes-weaker d few most le owes = let within = owes.within in record { units = owes.units; owed = owes.owed; within = omega (arith, within, le) }

  -- power alone was turned on
  pub owes-powered : (d : Device) (most : ℕ) → OwesOnMap owing areas d most → OwesOnMap owing areas (turned_on d) most
  owes-powered d most owes = record {
    units = owes.units;
    owed = subst (λ (place : ℕ). Owes owing d (area_at areas place) owes.units) (sym (active_powered areas d)) owes.owed;
    within = owes.within;
  }

  -- another plan alone
  pub owes-planned : (d e : Device) → e ≡ record d { plan = e.plan } → OwesUpTo owing 0 areas d e
  owes-planned d e is = subst (λ (x : Device). OwesUpTo owing 0 areas d x) (sym is) (λ most any owes. record {
    units = owes.units;
    owed = subst (λ (place : ℕ). Owes owing d (area_at areas place) owes.units) (sym (active_still areas d (record d { plan = e.plan }) refl (λ s at. refl))) owes.owed;
    within = owes.within;
  })

  pub owes-same : (limit : ℕ) (d e : Device) → e ≡ d → OwesUpTo owing limit areas d e
  owes-same limit d e same most any owes = subst (λ (x : Device). OwesOnMap owing areas x most) (sym same) owes

  -- ---- a mount of the map

  -- the selector's, of which the active area knows nothing
  module _ (serves : Area → Geometry → Type 0) (d mid : Device) (cut : Bool) (map : IsServedMap serves areas d) (lawful : IsLawful d.banks d.bytes) (lawful_mid : IsLawful mid.banks mid.bytes)
      (touches : Touches (selectors areas) d mid cut) (idle : ((s : Area) → selector_of areas ≡ Some s → erases_on d s ≡ 0) → mid ≡ d) (active : active_on areas mid ≡ active_on areas d) where
    pub held-over : (units : ℕ) → Owes owing d (active_area areas d) units → Owes owing mid (active_area areas mid) units
    held-over units owes =
        subst (λ (place : ℕ). Owes owing mid (area_at areas place) units) (sym active)
        (held-still (λ area geometry sectors. owing area geometry sectors units) d mid (active_area areas d) touches.banks (active_sectors serves areas d mid cut map lawful lawful_mid touches idle) owes)

    pub selector-units : SpendsAtMost d mid (selector_erases areas d) → selector_erases areas mid ≤ selector_erases areas d → MapUnits owing areas d mid
    selector-units spent less = record {
      owed = λ most owes. let within = owes.within in most_weaker d mid (selector_erases areas d) most (omega (arith, within)) spent;
      left = λ most owes. let within = owes.within in record { units = owes.units; owed = held-over owes.units owes.owed; within = omega (arith, within, less) };
    }

    -- and then the active area's
    pub map-units : (e : Device) (limit : ℕ) (area : Area) → IsLawful e.banks e.bytes → area ≡ active_area areas mid → SpendsAtMost d mid (selector_erases areas d) → selector_erases areas mid ≤ selector_erases areas d
        → e.banks ≡ mid.banks → SameOutside (area ∷ []) mid e → MountUnits owing limit mid e area → MapUnits owing areas d e
    map-units e limit area lawful_new is spent less banks outside units =
        let here : MountUnits owing limit mid e (active_area areas mid) = subst (λ (a : Area). MountUnits owing limit mid e a) is units in
        let around : SameOutside (active_area areas mid ∷ []) mid e = subst (λ (a : Area). SameOutside (a ∷ []) mid e) is outside in
        let map_mid = served_still serves areas d mid touches.banks map in
        let stays : active_on areas e ≡ active_on areas mid = active_beside serves areas mid e map_mid lawful_mid lawful_new banks around in
        let same : selector_erases areas e ≡ selector_erases areas mid = erases-same areas mid e banks (selector_beside serves areas mid e map_mid lawful_mid lawful_new banks around) in
        record {
          owed = λ most owes.
              let within = owes.within in
              most_weaker d e (selector_erases areas d + owes.units) most within
              (most_then d mid e (selector_erases areas d) owes.units spent (here.owed owes.units (held-over owes.units owes.owed)));
          left = λ most owes.
              let within = owes.within in
              record {
                units = owes.units;
                owed = subst (λ (place : ℕ). Owes owing e (area_at areas place) owes.units) (sym stays) (here.left owes.units (held-over owes.units owes.owed));
                within = omega (arith, within, less, same);
              };
        }

  -- nothing changed
  none-units : (d mid : Device) → mid ≡ d → SpendsAtMost d mid (selector_erases areas d) → MapUnits owing areas d mid
  none-units d mid same spent = record {
    owed = λ most owes. let within = owes.within in most_weaker d mid (selector_erases areas d) most (omega (arith, within)) spent;
    left = λ most owes. subst (λ (x : Device). OwesOnMap owing areas x most) (sym same) owes;
  }

  pub stopped-units : (serves : Area → Geometry → Type 0) (d mid : Device) (cut : Bool) (map : IsServedMap serves areas d) (lawful : IsLawful d.banks d.bytes) (lawful_mid : IsLawful mid.banks mid.bytes)
      (touches : Touches (selectors areas) d mid cut) (idle : ((s : Area) → selector_of areas ≡ Some s → erases_on d s ≡ 0) → mid ≡ d) (fault : MapFault)
      → SelectorEnds areas d mid (Err fault) → (selector_damage_on areas d ≡ None → active_on areas mid ≡ active_on areas d) → SpendsAtMost d mid (selector_erases areas d) → selector_erases areas mid ≤ selector_erases areas d → MapUnits owing areas d mid
  stopped-units serves d mid cut map lawful lawful_mid touches idle (MapDamaged place damaged) ends active spent less = none-units d mid ends.1 spent
  stopped-units serves d mid cut map lawful lawful_mid touches idle PowerLost ends active spent less = selector-units serves d mid cut map lawful lawful_mid touches idle (active ends) spent less
  stopped-units serves d mid cut map lawful lawful_mid touches idle NoMemory ends active spent less = absurd ends

  -- ---- the mount as a line: power is turned on first

  reported-few : (old e : Device) (before after most : ℕ) → before ≡ old.spent → after ≡ e.spent → SpendsAtMost (turned_on old) e most → after - before ≤ most
  reported-few old e before after most from to spent =
      let within : spent.0 ≤ most = spent.1 in
      let is : e.spent ≡ counted old.spent spent.0 = spent.2 in
      omega arith

  module _ {K : Type 0} (old d e : Device) (before after : ℕ) (x : Result (Session K) MapFault) (y : Result (Session K × Answer) SessionFault) (is_on : d ≡ turned_on old) (from : before ≡ d.spent) (to : after ≡ e.spent) (units : MapUnits owing areas d e) (is : y ≡ answered (after - before) x) where
    here : MapUnits owing areas (turned_on old) e
    here = subst (λ (a : Device). MapUnits owing areas a e) is_on units

    few : (most : ℕ) → OwesOnMap owing areas old most → after - before ≤ most
    few most owes = reported-few old e before after most (from ∙ ap (λ (a : Device). a.spent) is_on) to (here.owed most (owes-powered old most owes))

    at : (z : Result (Session K) MapFault) → IfOk (answered (after - before) z) (λ (opened : Session K × Answer). ReportsOwed owing areas old opened.1)
    at (Ok session) = few
    at (Err PowerLost) = few
    at (Err (MapDamaged place damaged)) = tt
    at (Err NoMemory) = tt

    pub open-boots : IfOk y (λ (opened : Session K × Answer). ReportsOwed owing areas old opened.1)
    open-boots = subst (λ (z : Result (Session K × Answer) SessionFault). IfOk z (λ (opened : Session K × Answer). ReportsOwed owing areas old opened.1)) (sym is) (at x)

    pub open-left : OwesUpTo owing 0 areas old e
    open-left most any owes = here.left most (owes-powered old most owes)

  -- ---- behind the other lines

  none-due : (rests : Area → Geometry → List (List ℕ) → Type 0) (d : Device) → IsAtRest rests areas d → selector_erases areas d ≡ 0
  none-due rests d rest = at (selector_of areas) refl
    where
      at : (o : Option Area) → selector_of areas ≡ o → option_map_or (λ (area : Area). erases_on d area) o 0 ≡ 0
      at None is = refl
      at (Some s) is = rest.selector s is

  module _ (rests : Area → Geometry → List (List ℕ) → Type 0) (law : (area : Area) (geometry : Geometry) (sectors : List (List ℕ)) (most : ℕ) → rests area geometry sectors → owing area geometry sectors most) where
    -- at rest
    pub rest-owes : (d : Device) (most : ℕ) → IsAtRest rests areas d → OwesOnMap owing areas d most
    rest-owes d most rest =
        let none : selector_erases areas d ≡ 0 = none-due rests d rest in
        record { units = 0; owed = law (active_area areas d) (geometry_of d (active_area areas d)) (sectors_of d (active_area areas d)) 0 rest.active; within = omega (arith, none) }

    -- a migration, whole or cut
    pub move-owes : (boot : Area → Geometry → ℕ) (d e : Device) (selector : Area) → selector_of areas ≡ Some selector → IsLeftResting rests areas selector e → OwesUpTo owing (map_boot boot d.banks areas) areas d e
    move-owes boot d e selector is rest most limit owes =
        let at : active_area areas e ≡ rest.area = area_there areas (active_on areas e) rest.area rest.there in
        let erases : selector_erases areas e ≡ erases_on e selector = ap (λ (o : Option Area). option_map_or (λ (area : Area). erases_on e area) o 0) is in
        let one : length (selectors areas) ≡ 1 = ap (λ (o : Option Area). length (option_map_or (λ (area : Area). area ∷ []) o [])) is in
        let few : erases_on e selector ≤ 1 = rest.erases in
        let top : length (selectors areas) ≤ map_boot boot d.banks areas = right-most (greatest_boot boot d.banks areas) (length (selectors areas)) in
        record {
          units = 0;
          owed = subst (λ (a : Area). Owes owing e a 0) (sym at) (law rest.area (geometry_of e rest.area) (sectors_of e rest.area) 0 rest.at_rest);
          within = omega (arith, erases, one, few, top, limit);
        }

  -- a command that was cut
  pub cut-owes : (boot : Area → Geometry → ℕ) (serves : Area → Geometry → Type 0) (d e : Device) (map : IsServedMap serves areas d) (lawful : IsLawful d.banks d.bytes) (lawful_new : IsLawful e.banks e.bytes) (banks : e.banks ≡ d.banks) (outside : SameOutside (active_area areas d ∷ []) d e)
      → IsStoreAt areas (active_on areas d) → selector_erases areas d ≡ 0 → OwesBoot owing boot e (active_area areas d) → OwesOnMap owing areas e (map_boot boot d.banks areas)
  cut-owes boot serves d e map lawful lawful_new banks outside store none owed =
      let stays : active_on areas e ≡ active_on areas d = active_beside serves areas d e map lawful lawful_new banks outside in
      let same : selector_erases areas e ≡ selector_erases areas d = erases-same areas d e banks (selector_beside serves areas d e map lawful lawful_new banks outside) in
      let units : ℕ = boot (active_area areas d) (geometry_of d (active_area areas d)) in
      let within : units ≤ greatest_boot boot d.banks areas = store-within boot d.banks areas (active_on areas d) (active_area areas d) store.there store.stores in
      let top : greatest_boot boot d.banks areas ≤ map_boot boot d.banks areas = left-most (greatest_boot boot d.banks areas) (length (selectors areas)) in
      record {
        units = units;
        owed =
            subst (λ (place : ℕ). Owes owing e (area_at areas place) units) (sym stays)
            (subst (λ (g : Geometry). Owes owing e (active_area areas d) (boot (active_area areas d) g)) (geometry-same d e (active_area areas d) banks) owed);
        within = omega (arith, none, same, within, top);
      }

  -- a line on the active area, whole or cut
  pub local-owes : (rests : Area → Geometry → List (List ℕ) → Type 0) (law : (area : Area) (geometry : Geometry) (sectors : List (List ℕ)) (most : ℕ) → rests area geometry sectors → owing area geometry sectors most) (boot : Area → Geometry → ℕ) (serves : Area → Geometry → Type 0)
      (d e : Device) (area : Area) (map : IsServedMap serves areas d) (lawful : IsLawful d.banks d.bytes) (lawful_new : IsLawful e.banks e.bytes) (banks : e.banks ≡ d.banks) (outside : SameOutside (active_area areas d ∷ []) d e) → area ≡ active_area areas d → IsAtRest rests areas d
      → (e.is_on ≡ false → OwesBoot owing boot e area) → (e.is_on ≡ true → IsAtRest rests areas e) → OwesUpTo owing (map_boot boot d.banks areas) areas d e
  local-owes rests law boot serves d e area map lawful lawful_new banks outside is rest dark lit most limit owes = elim (cases_Bool e.is_on) [
    | inl powered ↦ rest-owes rests law e most (lit powered)
    | inr off ↦
        owes-weaker e (map_boot boot d.banks areas) most limit
        (cut-owes boot serves d e map lawful lawful_new banks outside (active-there serves areas d map) (none-due rests d rest) (subst (λ (a : Area). OwesBoot owing boot e a) is (dark off)))
  ]

-- ---- one command on an area

-- Power was lost in it.
pub dark-boot : (owing : Area → Geometry → List (List ℕ) → ℕ → Type 0) (boot : Area → Geometry → ℕ) (d e : Device) (was now area : Area) (lost : Bool) → d.is_on ≡ true → Touches (was ∷ []) d e lost → now ≡ was → was ≡ area
    → (lost ≡ true → OwesBoot owing boot e now) → e.is_on ≡ false → OwesBoot owing boot e area
dark-boot owing boot d e was now area true powered touches same at owes dark = subst (λ (a : Area). OwesBoot owing boot e a) (same ∙ at) (owes refl)
dark-boot owing boot d e was now area false powered touches same at owes dark = absurd (false≢true (sym dark ∙ touches.ends.on ∙ powered))

-- ---- lines one after another

pub mounts-one : (most : ℕ) (lines : List Line) (answers : List Answer) (line : Line) (answer : Answer) → (line ≡ Mount → units_of answer ≤ most) → MountsWithin most lines answers → MountsWithin most (lines ++ line ∷ []) (answers ++ answer ∷ [])
mounts-one most [] [] line answer here before = (here, tt)
mounts-one most (x ∷ lines) (a ∷ answers) line answer here before = (before.0, mounts-one most lines answers line answer here before.1)
mounts-one most [] (a ∷ answers) line answer here before = absurd before
mounts-one most (x ∷ lines) [] line answer here before = absurd before

module _ (owing : Area → Geometry → List (List ℕ) → ℕ → Type 0) (limit : ℕ) (areas : List Area) where
  -- the mount and so many lines were carried out, within any bound that is at least the limit
  abbrev pub BoundTo : List Line → ℕ → List Answer → Device → Device → Type 0
  BoundTo lines i answers first now = (most : ℕ) → limit ≤ most → OwesOnMap owing areas first most → OwesOnMap owing areas now most × MountsWithin most (Mount ∷ take i lines) answers

  pub boots-first : (lines : List Line) (answer : Answer) (first now : Device) → ReportsOwed owing areas first answer → OwesUpTo owing 0 areas first now → BoundTo lines 0 ([] ++ answer ∷ []) first now
  boots-first lines answer first now boots left most within owes = (left most (omega arith) owes, (λ is. boots most owes, tt))

  pub boots-more : (lines : List Line) (i : ℕ) (line : Line) (answers : List Answer) (answer : Answer) (first mid new : Device) → i < length lines → line ≡ get_or lines i line → BoundTo lines i answers first mid
      → (line ≡ Mount → ReportsOwed owing areas mid answer) → OwesUpTo owing limit areas mid new → BoundTo lines (i + 1) (answers ++ answer ∷ []) first new
  boots-more lines i line answers answer first mid new below is so_far boots left most within owes =
      let before = so_far most within owes in (
        left most within before.0,
        subst (λ (prefix : List Line). MountsWithin most (Mount ∷ prefix) (answers ++ answer ∷ [])) (sym (lines_on lines i line below is))
            (mounts-one most (Mount ∷ take i lines) answers line answer (λ mounts. boots mounts most before.0) before.1),
      )

  pub boots-all : (lines : List Line) (i : ℕ) (answers : List Answer) (first now : Device) → length lines ≤ i → BoundTo lines i answers first now
      → (most : ℕ) → limit ≤ most → OwesOnMap owing areas first most → OwesOnMap owing areas now most × MountsWithin most (Mount ∷ lines) answers
  boots-all lines i answers first now all so_far most within owes =
      let before = so_far most within owes in (before.0, subst (λ (prefix : List Line). MountsWithin most (Mount ∷ prefix) answers) (take_all i lines all) before.1)

  -- a line stopped, or there was no memory for its answer
  pub boots-stop : (lines : List Line) (i : ℕ) (answers : List Answer) (first mid new : Device) → BoundTo lines i answers first mid → OwesUpTo owing limit areas mid new → OwesUpTo owing limit areas first new
  boots-stop lines i answers first mid new so_far left most within owes = left most within (so_far most within owes).0

-- the limit is the same on the same banks
pub limit-still : (owing : Area → Geometry → List (List ℕ) → ℕ → Type 0) (boot : Area → Geometry → ℕ) (areas : List Area) (first mid new : Device) → mid.banks ≡ first.banks → OwesUpTo owing (map_boot boot mid.banks areas) areas mid new → OwesUpTo owing (map_boot boot first.banks areas) areas mid new
limit-still owing boot areas first mid new banks left = subst (λ (all : List Bank). OwesUpTo owing (map_boot boot all areas) areas mid new) banks left

-- What a mount of a map spends at most.
use Rattle.std.proofs.Common.{◌≡◌, ℕ, ◌+◌, ◌-◌, ◌≤◌, true, List, Option, Some, Result, Ok, Err, refl, sym, ap, subst, ◌∙◌, arith}
use Rattle.std.specs.Prelude.{OnOk}
use Rattle.std.specs.Option.{option_map_or}
use Rattle.flash_sim.specs.Bank.{bank_at}
use Rattle.flash_sim.specs.Device.{Device, counted}
use Rattle.flash_sim.specs.declared.flash.Bank.{Bank}
use Rattle.flash_map.specs.declared.area.Area.{Area}
use Rattle.flash_map.specs.declared.area.Geometry.{Geometry}
use Rattle.flash_map.specs.declared.faults.MountFault.{MountFault}
use Rattle.flash_map.specs.declared.faults.MountFault.TheVariants.{Damaged as HasDamage, PowerLost as MountLost, NoMemory as MountNoMemory}
use Rattle.flash_map.specs.Area.{geometry_of}
use Rattle.flash_map.specs.Faults.{mount_lost}
use Rattle.flash_map.specs.Spending.{Spends, SpendsAtMost}
use Rattle.flash_map.proofs.Plans.{counted_counted}
use Rattle.flash_map.proofs.SpendingLemmas.{most_weaker, spends_most}
use Rattle.fcb_ring.specs.Standing.{erases_on}
use Rattle.backend_api.specs.Room.{foreign_units}
use Rattle.migrator.specs.declared.selecting.Selector.{Selector}
use Rattle.migrator.specs.Active.{active_on}
use Rattle.migrator.specs.Areas.{selector_of}
use Rattle.migrator.specs.Choosing.{SelectorMounts}
use Rattle.session_table.specs.Bench.{area_at}
use Rattle.session.specs.OnMap.{active_area, mount_bound, selector_erases, turned_on}
use Rattle.session.proofs.ActiveAreas.{active_powered}

pub spends_nothing : (d e : Device) (most : ℕ) → e ≡ d → SpendsAtMost d e most
spends_nothing d e most same = let is : e.spent ≡ d.spent = ap (λ (x : Device). x.spent) same in (0, omega arith, omega arith)

-- the selector, whose area this is
pub selector_most : (areas : List Area) (area : Area) (d e : Device) (r : Result Selector MountFault) → selector_of areas ≡ Some area → SelectorMounts d e area r
    → OnOk r (Spends d e (erases_on d area)) → (mount_lost r ≡ true → SpendsAtMost d e (erases_on d area)) → SpendsAtMost d e (selector_erases areas d)
selector_most areas area d e r is ends units bound =
    subst (λ (o : Option Area). SpendsAtMost d e (option_map_or (λ (x : Area). erases_on d x) o 0)) (sym is) (at r ends units bound)
  where
    at : (y : Result Selector MountFault) → SelectorMounts d e area y → OnOk y (Spends d e (erases_on d area)) → (mount_lost y ≡ true → SpendsAtMost d e (erases_on d area)) → SpendsAtMost d e (erases_on d area)
    at (Ok selector) ends units bound = spends_most d e (erases_on d area) units
    at (Err (HasDamage damaged)) ends units bound = spends_nothing d e (erases_on d area) ends.1
    at (Err MountLost) ends units bound = bound refl
    at (Err MountNoMemory) ends units bound = absurd ends

pub selector_left : (areas : List Area) (area : Area) (d e : Device) → selector_of areas ≡ Some area → erases_on e area ≤ erases_on d area → selector_erases areas e ≤ selector_erases areas d
selector_left areas area d e is less = subst (λ (o : Option Area). option_map_or (λ (x : Area). erases_on e x) o 0 ≤ option_map_or (λ (x : Area). erases_on d x) o 0) (sym is) less

-- it was not mounted
pub stopped_most : (areas : List Area) (d e : Device) → SpendsAtMost d e (selector_erases areas d) → SpendsAtMost d e (mount_bound areas d)
stopped_most areas d e spent = most_weaker d e (selector_erases areas d) (mount_bound areas d) (omega arith) spent

same_geometry : (d e : Device) (area : Area) → e.banks ≡ d.banks → geometry_of e area ≡ geometry_of d area
same_geometry d e area banks =
    ap (λ (all : List Bank). record { unit = (bank_at all area.bank).unit; sector = (bank_at all area.bank).sector; sectors = area.sectors; kind = (bank_at all area.bank).kind }) banks

-- and then the active area
pub map_most : (areas : List Area) (d mid e : Device) (area : Area) → mid.banks ≡ d.banks → active_on areas mid ≡ active_on areas d → area ≡ active_area areas mid
    → SpendsAtMost d mid (selector_erases areas d) → SpendsAtMost mid e (foreign_units (geometry_of mid area)) → SpendsAtMost d e (mount_bound areas d)
map_most areas d mid e area banks active is first second =
    let here : area ≡ active_area areas d = is ∙ ap (area_at areas) active in
    let g : geometry_of mid area ≡ geometry_of d (active_area areas d) = same_geometry d mid area banks ∙ ap (geometry_of d) here in
    let next : SpendsAtMost mid e (foreign_units (geometry_of d (active_area areas d))) = subst (λ (k : Geometry). SpendsAtMost mid e (foreign_units k)) g second in
    let one : first.0 ≤ selector_erases areas d = first.1 in
    let two : next.0 ≤ foreign_units (geometry_of d (active_area areas d)) = next.1 in
    (first.0 + next.0, omega arith, next.2 ∙ ap (λ (n : ℕ). counted n next.0) first.2 ∙ counted_counted d.spent first.0 next.0)

bound_powered : (areas : List Area) (d : Device) → mount_bound areas (turned_on d) ≡ mount_bound areas d
bound_powered areas d = ap (λ (place : ℕ). selector_erases areas d + foreign_units (geometry_of d (area_at areas place))) (active_powered areas d)

-- as the answer reports it
pub few_by : (areas : List Area) (old e : Device) (before after : ℕ) → before ≡ old.spent → after ≡ e.spent → SpendsAtMost (turned_on old) e (mount_bound areas (turned_on old)) → after - before ≤ mount_bound areas old
few_by areas old e before after from to spent =
    let same = bound_powered areas old in
    let within : spent.0 ≤ mount_bound areas (turned_on old) = spent.1 in
    let is : e.spent ≡ counted old.spent spent.0 = spent.2 in
    omega arith

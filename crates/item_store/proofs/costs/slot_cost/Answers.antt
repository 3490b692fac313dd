use Rattle.std.proofs.Common.{ℕ, List, Option, sym, ap, subst, ◌∙◌}
use Rattle.flash_map.specs.declared.area.Geometry.{Geometry}
use Rattle.flash_map.specs.Units.{IsUnit}
use Rattle.item_laws.specs.Live.{cost_of}
use Rattle.item_store.specs.declared.entry.Placed.{Placed}
use Rattle.flash_sim.specs.Device.{Device}
use Rattle.flash_map.specs.declared.area.Area.{Area}
use Rattle.flash_map.specs.Area.{geometry_of, sectors_of}
use Rattle.item_store.specs.SectorFormat.{SectorFormat, slots}
use Rattle.item_store.proofs.Areas.{unit_is}
use Rattle.item_store.proofs.costs.slot_cost.Goals as goal

pub cost-requires-clause-unit : goal.cost-requires-clause-unit
cost-requires-clause-unit g c =
    let d : Device = g.F.Flash.device c.args.flash.now in
    let area : Area = c.args.area.now in
    let k : SectorFormat = g.T.SlotSectors.format_of (geometry_of d area) in
    let sectors : List (List ℕ) = sectors_of d area in
    subst (λ (s : Geometry). IsUnit s.unit) (sym c.geometry-geometry.ensures) (unit_is d area (g.met.F.Flash.is_lawful c.args.flash.now) c.requires.area.lawful)

pub cost-requires-clause-short : goal.cost-requires-clause-short
cost-requires-clause-short g c =
    c.in-Some.ensures.short

pub returns-in-Some-clause-cost : goal.returns-in-Some-clause-cost
returns-in-Some-clause-cost g c =
    let d : Device = g.F.Flash.device c.args.flash.now in
    let area : Area = c.args.area.now in
    let k : SectorFormat = g.T.SlotSectors.format_of (geometry_of d area) in
    let sectors : List (List ℕ) = sectors_of d area in
    c.cost.ensures.value ∙ ap (λ (s : Geometry). (g.T.SlotSectors.format_of s).cost c.in-Some.placed.len) c.geometry-geometry.ensures ∙ ap (λ (o : Option Placed). cost_of (slots k) o) (sym c.in-Some.is ∙ c.live_in.ensures.entry)

pub returns-in-None-clause-cost : goal.returns-in-None-clause-cost
returns-in-None-clause-cost g c =
    let d : Device = g.F.Flash.device c.args.flash.now in
    let area : Area = c.args.area.now in
    let k : SectorFormat = g.T.SlotSectors.format_of (geometry_of d area) in
    let sectors : List (List ℕ) = sectors_of d area in
    ap (λ (o : Option Placed). cost_of (slots k) o) (sym c.in-None.is ∙ c.live_in.ensures.entry)

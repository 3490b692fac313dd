use Rattle.std.proofs.Common.{ℕ, List, arith}
use Rattle.std.proofs.lemmas.Result.{on_ok_weaker, on_err_weaker}
use Rattle.flash_sim.specs.Device.{Device}
use Rattle.flash_map.specs.declared.area.Area.{Area}
use Rattle.flash_map.specs.declared.area.Geometry.{Geometry}
use Rattle.flash_map.specs.Area.{geometry_of, sectors_of, sector_at}
use Rattle.item_store.proofs.Areas.{large_there}
use Rattle.zms_format.proofs.StepLemmas.{clears, clear_cut}
use Rattle.flash_map.specs.declared.area.Role.TheVariants.{Zms as zms_role}
use Rattle.flash_map.proofs.SpendingBounds.{between_within}
use Rattle.zms_cycle.specs.OnArea.{emptying_units}
use Rattle.zms_store.proofs.sectors.ZmsOpenSlotSectors.clear.Goals as goal

pub returns-clause-clears : goal.returns-clause-clears
returns-clause-clears g c =
    let a : Device = g.F.Flash.device c.args.flash.now in
    let area : Area = c.args.area.now in
    let u : Geometry = geometry_of a area in
    let b : List ℕ = sector_at (sectors_of a area) c.args.place in
    let wide = large_there zms_role a area (g.met.F.Flash.is_lawful c.args.flash.now) c.requires.area c.args.place c.requires.inside in
    let e : Device = g.F.Flash.device c.empty_sector.new.flash in
    on_ok_weaker c.empty_sector.result (λ h. clears u (sector_at (sectors_of a area) c.args.place) (sector_at (sectors_of e area) c.args.place) wide h) c.empty_sector.ensures.ok

pub returns-clause-lost : goal.returns-clause-lost
returns-clause-lost g c =
    let a : Device = g.F.Flash.device c.args.flash.now in
    let area : Area = c.args.area.now in
    let u : Geometry = geometry_of a area in
    let e : Device = g.F.Flash.device c.empty_sector.new.flash in
    on_err_weaker c.empty_sector.result (λ h. clear_cut u (sector_at (sectors_of a area) c.args.place) (sector_at (sectors_of e area) c.args.place) h) c.empty_sector.ensures.lost

pub returns-clause-spends_lost : goal.returns-clause-spends_lost
returns-clause-spends_lost g c =
    on_err_weaker c.empty_sector.result (λ spends. between_within spends 0 (emptying_units (g.F.Flash.device c.args.flash.now) c.args.area.now c.args.place) (omega arith) (omega arith)) c.empty_sector.ensures.spends_lost

use Rattle.std.proofs.Common.{sym, subst}
use Rattle.flash_map.specs.declared.area.Geometry.{Geometry}
use Rattle.flash_map.specs.Units.{IsUnit}
use Rattle.flash_sim.specs.Device.{Device}
use Rattle.flash_map.specs.declared.area.Area.{Area}
use Rattle.item_store.proofs.Areas.{unit_is}
use Rattle.item_history.proofs.usage.room.Goals as goal

pub capacity-requires : goal.capacity-requires
capacity-requires g c =
    let d : Device = g.F.Flash.device c.args.flash.now in
    let area : Area = c.args.area.now in
    record { unit = subst (λ (s : Geometry). IsUnit s.unit) (sym c.geometry-geometry.ensures) (unit_is d area (g.met.F.Flash.is_lawful c.args.flash.now) c.requires.lawful) }

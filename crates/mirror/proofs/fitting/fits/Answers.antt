use Rattle.std.proofs.Common.{◌∙◌}
use Rattle.flash_sim.specs.Device.{Device}
use Rattle.flash_map.specs.Area.{geometry_of, value_limit}
use Rattle.flash_map.specs.On.{on}
use Rattle.migrator.specs.Migrating.{room_on}
use Rattle.mirror.specs.Room.{prices_on}
use Rattle.mirror.proofs.FitLemmas.{fits-if, never-fits}
use Rattle.mirror.proofs.fitting.fits.Goals as goal

pub returns-then-map_cost-mirror_room : goal.returns-then-map_cost-mirror_room
returns-then-map_cost-mirror_room g c =
    let d : Device = g.F.Flash.device c.args.flash.now in
    let area = c.args.area.now in
    never-fits (room_on g.K.Backend.room d area) (prices_on g.K.Priced.prices d area) (on g.K.Backend.contents d (g.K.Backend.mounted_on c.args.store.now)) area.sectors (value_limit area) c.map_cost.result c.mirror_room.result
    (g.met.K.Priced.is_room area (geometry_of d area) c.requires.role) c.if-map_cost-mirror_room.true c.mirror_room.ensures c.map_cost.ensures.cost

pub returns-in-Ok : goal.returns-in-Ok
returns-in-Ok g c =
    let d : Device = g.F.Flash.device c.args.flash.now in
    let area = c.args.area.now in
    fits-if (prices_on g.K.Priced.prices d area) (on g.K.Backend.contents d (g.K.Backend.mounted_on c.args.store.now)) (room_on g.K.Backend.room d area) area.sectors (value_limit area) c.map_cost.result c.mirror_room.result c.most.result c.deref.result.now c.are_few.result
    (g.met.K.Priced.is_room area (geometry_of d area) c.requires.role) c.if-map_cost-mirror_room.false c.mirror_room.ensures c.map_cost.ensures.cost c.are_few.ensures c.most.ensures (c.deref.ensures.value ∙ c.in-Ok.ensures)

use Rattle.std.proofs.Common.{◌≡◌, ◌≤◌, length, arith}
use Rattle.flash_sim.specs.Device.{Device}
use Rattle.flash_map.specs.declared.area.Role.TheVariants.{Zms as zms_role}
use Rattle.flash_map.specs.Area.{geometry_of, sectors_of, sector_at, sector_size}
use Rattle.item_store.proofs.Areas.{size_there}
use Rattle.zms_store.proofs.OpenLemmas.{kept_slots, kept_few}
use Rattle.zms_store.proofs.sectors.ZmsOpenSlotSectors.own_slots.Goals as goal

pub returns-clause-value : goal.returns-clause-value
returns-clause-value g c =
    let d : Device = g.F.Flash.device c.args._flash.now in
    kept_slots (geometry_of d c.args._area.now) (sector_at (sectors_of d c.args._area.now) c.args._place) c.args.self.now c.requires.kept

pub returns-clause-few : goal.returns-clause-few
returns-clause-few g c =
    let d : Device = g.F.Flash.device c.args._flash.now in
    let size : length (sector_at (sectors_of d c.args._area.now) c.args._place) ≡ sector_size d c.args._area.now = size_there zms_role d c.args._area.now (g.met.F.Flash.is_lawful c.args._flash.now) c.requires.area c.args._place c.requires.inside in
    let few : c.args.self.now.slots ≤ length (sector_at (sectors_of d c.args._area.now) c.args._place) = kept_few (geometry_of d c.args._area.now) (sector_at (sectors_of d c.args._area.now) c.args._place) c.args.self.now c.requires.kept in
    omega (arith, c.requires.area.lawful.at_most)

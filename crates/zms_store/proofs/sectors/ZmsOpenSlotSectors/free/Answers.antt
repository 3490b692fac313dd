use Rattle.std.proofs.Common.{◌≡◌, ◌≤◌, ◌-◌, ◌^◌, min, length, ap, arith}
use Rattle.flash_sim.specs.Device.{Device}
use Rattle.flash_map.specs.declared.area.Geometry.{Geometry}
use Rattle.flash_map.specs.declared.area.Role.TheVariants.{Zms as zms_role}
use Rattle.flash_map.specs.Area.{geometry_of, sectors_of, sector_at, sector_size}
use Rattle.item_store.proofs.Areas.{size_there}
use Rattle.zms_cycle.specs.Areas.{kind_on}
use Rattle.zms_cycle.specs.Sector.{valid_slots, data_end}
use Rattle.zms_store.proofs.OpenLemmas.{kept_slots, kept_end, kept_few}
use Rattle.zms_store.proofs.sectors.ZmsOpenSlotSectors.free.Goals as goal

pub overflow_add-used : goal.overflow_add-used
overflow_add-used g c =
    let d : Device = g.F.Flash.device c.args.flash.now in
    let u : Geometry = geometry_of d c.args.area.now in
    let size : length (sector_at (sectors_of d c.args.area.now) c.args._place) ≡ sector_size d c.args.area.now = size_there zms_role d c.args.area.now (g.met.F.Flash.is_lawful c.args.flash.now) c.requires.area c.args._place c.requires.inside in
    let few : c.args.self.now.slots ≤ length (sector_at (sectors_of d c.args.area.now) c.args._place) = kept_few u (sector_at (sectors_of d c.args.area.now) c.args._place) c.args.self.now c.requires.kept in
    omega (arith, c.requires.area.lawful.at_most)

pub overflow_mul-used : goal.overflow_mul-used
overflow_mul-used g c =
    let d : Device = g.F.Flash.device c.args.flash.now in
    let u : Geometry = geometry_of d c.args.area.now in
    let size : length (sector_at (sectors_of d c.args.area.now) c.args._place) ≡ sector_size d c.args.area.now = size_there zms_role d c.args.area.now (g.met.F.Flash.is_lawful c.args.flash.now) c.requires.area c.args._place c.requires.inside in
    let few : c.args.self.now.slots ≤ length (sector_at (sectors_of d c.args.area.now) c.args._place) = kept_few u (sector_at (sectors_of d c.args.area.now) c.args._place) c.args.self.now c.requires.kept in
    omega (arith, c.requires.area.lawful.at_most)

pub returns : goal.returns
returns g c =
    let d : Device = g.F.Flash.device c.args.flash.now in
    let u : Geometry = geometry_of d c.args.area.now in
    let size : length (sector_at (sectors_of d c.args.area.now) c.args._place) ≡ sector_size d c.args.area.now = size_there zms_role d c.args.area.now (g.met.F.Flash.is_lawful c.args.flash.now) c.requires.area c.args._place c.requires.inside in
    let few : c.args.self.now.slots ≤ length (sector_at (sectors_of d c.args.area.now) c.args._place) = kept_few u (sector_at (sectors_of d c.args.area.now) c.args._place) c.args.self.now c.requires.kept in
    let slots : c.args.self.now.slots ≡ length (valid_slots (sector_at (sectors_of d c.args.area.now) c.args._place)) = kept_slots u (sector_at (sectors_of d c.args.area.now) c.args._place) c.args.self.now c.requires.kept in
    let end : c.args.self.now.data_end ≡ min (data_end (kind_on d c.args.area.now) (sector_at (sectors_of d c.args.area.now) c.args._place)) (2 ^ 32 - 1) = kept_end u (sector_at (sectors_of d c.args.area.now) c.args._place) c.args.self.now c.requires.kept in
    let shape : c.geometry-size.result.sector ≡ sector_size d c.args.area.now = ap (λ (s : Geometry). s.sector) c.geometry-size.ensures in
    let once = c.saturating_sub.ensures in
    let twice = c.saturating_sub-2.ensures in
    omega (arith, c.requires.area.lawful.at_most)

use Rattle.std.proofs.Common.{◌≡◌, ◌≤◌, ℕ, List, length, arith}
use Rattle.flash_sim.specs.Device.{Device}
use Rattle.flash_map.specs.declared.area.Area.{Area}
use Rattle.flash_map.specs.declared.area.Geometry.{Geometry}
use Rattle.flash_map.specs.Area.{geometry_of, sectors_of, sector_at, sector_size}
use Rattle.item_store.proofs.Areas.{large_there, size_there}
use Rattle.zms_format.proofs.StepLemmas.{ready_may, ready_cycle, ready_spends, marks}
use Rattle.flash_map.specs.declared.area.Role.TheVariants.{Zms as zms_role}
use Rattle.zms_store.proofs.OpenLemmas.{ready_sound, kept_some, kept_opened, kept_few, kept_marked}
use Rattle.zms_store.proofs.sectors.ZmsOpenSlotSectors.mark_done.Goals as goal

pub returns-clause-ok : goal.returns-clause-ok
returns-clause-ok g c = record {
  marks =
      let a : Device = g.F.Flash.device c.args.flash.now in
      let area : Area = c.args.area.now in
      let u : Geometry = geometry_of a area in
      let b : List ℕ = sector_at (sectors_of a area) c.args.place in
      let wide = large_there zms_role a area (g.met.F.Flash.is_lawful c.args.flash.now) c.requires.here.area c.args.place c.requires.here.inside in
      let e : Device = g.F.Flash.device c.put_done_at.new.flash in
      marks u (sector_at (sectors_of a area) c.args.place) (sector_at (sectors_of e area) c.args.place) wide (ready_may u.kind (sector_at (sectors_of a area) c.args.place) c.requires.here.ready) c.requires.room c.in_ok-put_done_at.ensures.ok;
  kept =
      let a : Device = g.F.Flash.device c.args.flash.now in
      let area : Area = c.args.area.now in
      let u : Geometry = geometry_of a area in
      let wide = large_there zms_role a area (g.met.F.Flash.is_lawful c.args.flash.now) c.requires.here.area c.args.place c.requires.here.inside in
      let e : Device = g.F.Flash.device c.put_done_at.new.flash in
      kept_marked u (sector_at (sectors_of a area) c.args.place) c.args.self.now c.requires.here.kept (sector_at (sectors_of e area) c.args.place) wide c.in_ok-put_done_at.ensures.ok;
  spends =
      let a : Device = g.F.Flash.device c.args.flash.now in
      let area : Area = c.args.area.now in
      let u : Geometry = geometry_of a area in
      let e : Device = g.F.Flash.device c.put_done_at.new.flash in
      ready_spends u.kind (sector_at (sectors_of a area) c.args.place) c.requires.here.ready a e 1 c.in_ok-put_done_at.ensures.ends.guards;
}

pub overflow_add-self : goal.overflow_add-self
overflow_add-self g c =
    let a : Device = g.F.Flash.device c.args.flash.now in
    let area : Area = c.args.area.now in
    let u : Geometry = geometry_of a area in
    let size : length (sector_at (sectors_of a area) c.args.place) ≡ sector_size a area = size_there zms_role a area (g.met.F.Flash.is_lawful c.args.flash.now) c.requires.here.area c.args.place c.requires.here.inside in
    let few : c.args.self.now.slots ≤ length (sector_at (sectors_of a area) c.args.place) = kept_few u (sector_at (sectors_of a area) c.args.place) c.args.self.now c.requires.here.kept in
    omega (arith, c.requires.here.area.lawful.at_most)

pub opened-opened-requires : goal.opened-opened-requires
opened-opened-requires g c =
    let a : Device = g.F.Flash.device c.args.flash.now in
    let area : Area = c.args.area.now in
    let u : Geometry = geometry_of a area in
    kept_some u (sector_at (sectors_of a area) c.args.place) c.args.self.now c.requires.here.kept (ready_cycle u.kind (sector_at (sectors_of a area) c.args.place) c.requires.here.ready)

pub put_done_at-requires-clause-opened : goal.put_done_at-requires-clause-opened
put_done_at-requires-clause-opened g c =
    let a : Device = g.F.Flash.device c.args.flash.now in
    let area : Area = c.args.area.now in
    let u : Geometry = geometry_of a area in
    kept_opened u (sector_at (sectors_of a area) c.args.place) c.args.self.now c.requires.here.kept c.opened-opened.result c.opened-opened.ensures.cycle c.opened-opened.ensures.slots c.opened-opened.ensures.data_end

pub put_done_at-requires-clause-takes : goal.put_done_at-requires-clause-takes
put_done_at-requires-clause-takes g c = record {
  zms = record { lawful = c.requires.here.area.lawful; role = c.requires.here.area.role_is; has_sector = c.requires.here.inside };
  sound =
      let a : Device = g.F.Flash.device c.args.flash.now in
      let area : Area = c.args.area.now in
      ready_sound (geometry_of a area).kind (sector_at (sectors_of a area) c.args.place) c.requires.here.ready;
  room = c.requires.room;
}

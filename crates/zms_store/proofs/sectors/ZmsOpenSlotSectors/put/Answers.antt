use Rattle.std.proofs.Common.{rules, ◌≡◌, ◌+◌, ◌/◌, ◌^◌, ◌≤◌, length, inl, arith}
use Rattle.flash_sim.specs.Device.{Device}
use Rattle.flash_map.specs.declared.area.Area.{Area}
use Rattle.flash_map.specs.declared.area.Geometry.{Geometry}
use Rattle.flash_map.specs.Area.{geometry_of, sectors_of, sector_at, sector_size}
use Rattle.flash_map.proofs.PieceLemmas.{on_err}
use Rattle.item_store.proofs.Areas.{large_there, size_there}
use Rattle.zms_format.proofs.StepLemmas.{ready_may, ready_cycle, ready_spends, keeps, adds, fits_cost, put_sound}
use Rattle.flash_map.specs.declared.area.Role.TheVariants.{Zms as zms_role}
use Rattle.zms_cycle.specs.Changes.{left_over}
use Rattle.zms_cycle.specs.Sector.{data_len, cost, free}
use Rattle.zms_store.proofs.OpenLemmas.{ready_sound, kept_some, kept_opened, cost_above, kept_few, end_room, kept_added}
use Rattle.zms_store.proofs.RoomLemmas.{put_room}
use Rattle.zms_store.proofs.sectors.ZmsOpenSlotSectors.put.Goals as goal

pub returns-clause-ends : goal.returns-clause-ends
returns-clause-ends g c = record {
  only = search rules;
  adds =
      let a : Device = g.F.Flash.device c.args.flash.now in
      let area : Area = c.args.area.now in
      let u : Geometry = geometry_of a area in
      let wide = large_there zms_role a area (g.met.F.Flash.is_lawful c.args.flash.now) c.requires.here.area c.args.place c.requires.here.inside in
      let e : Device = g.F.Flash.device c.put_entry_at.new.flash in
      adds u (sector_at (sectors_of a area) c.args.place) (sector_at (sectors_of e area) c.args.place) wide c.args.id c.args.bytes.now (ready_may u.kind (sector_at (sectors_of a area) c.args.place) c.requires.here.ready)
      (fits_cost u (sector_at (sectors_of a area) c.args.place) (sector_at (sectors_of e area) c.args.place) wide (length c.args.bytes.now) c.requires.fits) c.in_ok-put_entry_at.ensures.ok;
  kept =
      let a : Device = g.F.Flash.device c.args.flash.now in
      let area : Area = c.args.area.now in
      let u : Geometry = geometry_of a area in
      let size : length (sector_at (sectors_of a area) c.args.place) ≡ sector_size a area = size_there zms_role a area (g.met.F.Flash.is_lawful c.args.flash.now) c.requires.here.area c.args.place c.requires.here.inside in
      let wide = large_there zms_role a area (g.met.F.Flash.is_lawful c.args.flash.now) c.requires.here.area c.args.place c.requires.here.inside in
      let small : length (sector_at (sectors_of a area) c.args.place) ≤ 2 ^ 15 = omega (arith, c.requires.here.area.lawful.at_most) in
      let e : Device = g.F.Flash.device c.put_entry_at.new.flash in
      let room : cost (length c.args.bytes.now) ≤ free u.kind (sector_at (sectors_of a area) c.args.place) = fits_cost u (sector_at (sectors_of a area) c.args.place) (sector_at (sectors_of a area) c.args.place) wide (length c.args.bytes.now) c.requires.fits in
      let price : c.cost.result ≡ cost (length c.args.bytes.now) = c.cost.ensures.value in
      kept_added u (sector_at (sectors_of a area) c.args.place) c.args.self.now c.requires.here.kept (sector_at (sectors_of e area) c.args.place) wide small c.args.id c.args.bytes.now c.cost.result price (omega arith) c.in_ok-put_entry_at.ensures.ok;
  lost = tt;
  room_lost = tt;
  sound =
      let a : Device = g.F.Flash.device c.args.flash.now in
      let area : Area = c.args.area.now in
      let u : Geometry = geometry_of a area in
      let wide = large_there zms_role a area (g.met.F.Flash.is_lawful c.args.flash.now) c.requires.here.area c.args.place c.requires.here.inside in
      let e : Device = g.F.Flash.device c.put_entry_at.new.flash in
      put_sound u (sector_at (sectors_of a area) c.args.place) (sector_at (sectors_of e area) c.args.place) wide c.args.id c.args.bytes.now c.requires.fits c.in_ok-put_entry_at.ensures.ok;
  spends =
      let a : Device = g.F.Flash.device c.args.flash.now in
      let area : Area = c.args.area.now in
      let u : Geometry = geometry_of a area in
      let e : Device = g.F.Flash.device c.put_entry_at.new.flash in
      ready_spends u.kind (sector_at (sectors_of a area) c.args.place) c.requires.here.ready a e (cost (length c.args.bytes.now) / 16) c.in_ok-put_entry_at.ensures.ends.guards;
  spends_lost = tt;
}

pub returns-in_err-put_entry_at-clause-ends : goal.returns-in_err-put_entry_at-clause-ends
returns-in_err-put_entry_at-clause-ends g c = record {
  only = search rules;
  adds = search rules;
  kept = search rules;
  lost =
      let a : Device = g.F.Flash.device c.args.flash.now in
      let area : Area = c.args.area.now in
      let u : Geometry = geometry_of a area in
      let wide = large_there zms_role a area (g.met.F.Flash.is_lawful c.args.flash.now) c.requires.here.area c.args.place c.requires.here.inside in
      let e : Device = g.F.Flash.device c.put_entry_at.new.flash in
      on_err c.from_residual.result (inl (keeps u (sector_at (sectors_of a area) c.args.place) (sector_at (sectors_of e area) c.args.place) wide (left_over u.kind (data_len (length c.args.bytes.now))) c.in_err-put_entry_at.ensures.ends.lost));
  room_lost =
      let a : Device = g.F.Flash.device c.args.flash.now in
      let area : Area = c.args.area.now in
      let u : Geometry = geometry_of a area in
      let e : Device = g.F.Flash.device c.put_entry_at.new.flash in
      on_err c.from_residual.result (put_room u (sector_at (sectors_of a area) c.args.place) (sector_at (sectors_of e area) c.args.place) (length c.args.bytes.now) c.in_err-put_entry_at.ensures.ends.lost);
  sound =
      let a : Device = g.F.Flash.device c.args.flash.now in
      let area : Area = c.args.area.now in
      let u : Geometry = geometry_of a area in
      let wide = large_there zms_role a area (g.met.F.Flash.is_lawful c.args.flash.now) c.requires.here.area c.args.place c.requires.here.inside in
      let e : Device = g.F.Flash.device c.put_entry_at.new.flash in
      (keeps u (sector_at (sectors_of a area) c.args.place) (sector_at (sectors_of e area) c.args.place) wide (left_over u.kind (data_len (length c.args.bytes.now))) c.in_err-put_entry_at.ensures.ends.lost).sound;
  spends = search rules;
  spends_lost = search rules;
}

pub overflow_cast-bytes : goal.overflow_cast-bytes
overflow_cast-bytes g c =
    let a : Device = g.F.Flash.device c.args.flash.now in
    let area : Area = c.args.area.now in
    let u : Geometry = geometry_of a area in
    let size : length (sector_at (sectors_of a area) c.args.place) ≡ sector_size a area = size_there zms_role a area (g.met.F.Flash.is_lawful c.args.flash.now) c.requires.here.area c.args.place c.requires.here.inside in
    let wide = large_there zms_role a area (g.met.F.Flash.is_lawful c.args.flash.now) c.requires.here.area c.args.place c.requires.here.inside in
    let room : cost (length c.args.bytes.now) ≤ free u.kind (sector_at (sectors_of a area) c.args.place) = fits_cost u (sector_at (sectors_of a area) c.args.place) (sector_at (sectors_of a area) c.args.place) wide (length c.args.bytes.now) c.requires.fits in
    let above : length c.args.bytes.now ≤ cost (length c.args.bytes.now) = cost_above (length c.args.bytes.now) in
    omega (arith, c.requires.here.area.lawful.at_most)

pub overflow_add-self : goal.overflow_add-self
overflow_add-self g c =
    let a : Device = g.F.Flash.device c.args.flash.now in
    let area : Area = c.args.area.now in
    let u : Geometry = geometry_of a area in
    let size : length (sector_at (sectors_of a area) c.args.place) ≡ sector_size a area = size_there zms_role a area (g.met.F.Flash.is_lawful c.args.flash.now) c.requires.here.area c.args.place c.requires.here.inside in
    let few : c.args.self.now.slots ≤ length (sector_at (sectors_of a area) c.args.place) = kept_few u (sector_at (sectors_of a area) c.args.place) c.args.self.now c.requires.here.kept in
    omega (arith, c.requires.here.area.lawful.at_most)

pub overflow_sub-self : goal.overflow_sub-self
overflow_sub-self g c =
    let price = c.cost.ensures.value in
    omega arith

pub overflow_add-self-2 : goal.overflow_add-self-2
overflow_add-self-2 g c =
    let a : Device = g.F.Flash.device c.args.flash.now in
    let area : Area = c.args.area.now in
    let u : Geometry = geometry_of a area in
    let size : length (sector_at (sectors_of a area) c.args.place) ≡ sector_size a area = size_there zms_role a area (g.met.F.Flash.is_lawful c.args.flash.now) c.requires.here.area c.args.place c.requires.here.inside in
    let wide = large_there zms_role a area (g.met.F.Flash.is_lawful c.args.flash.now) c.requires.here.area c.args.place c.requires.here.inside in
    let small : length (sector_at (sectors_of a area) c.args.place) ≤ 2 ^ 15 = omega (arith, c.requires.here.area.lawful.at_most) in
    let room : cost (length c.args.bytes.now) ≤ free u.kind (sector_at (sectors_of a area) c.args.place) = fits_cost u (sector_at (sectors_of a area) c.args.place) (sector_at (sectors_of a area) c.args.place) wide (length c.args.bytes.now) c.requires.fits in
    let price = c.cost.ensures.value in
    let end : c.args.self.now.data_end + cost (length c.args.bytes.now) ≤ length (sector_at (sectors_of a area) c.args.place) = end_room u (sector_at (sectors_of a area) c.args.place) c.args.self.now c.requires.here.kept small (cost (length c.args.bytes.now)) (omega arith) room in
    omega arith

pub opened-opened-requires : goal.opened-opened-requires
opened-opened-requires g c =
    let a : Device = g.F.Flash.device c.args.flash.now in
    let area : Area = c.args.area.now in
    let u : Geometry = geometry_of a area in
    kept_some u (sector_at (sectors_of a area) c.args.place) c.args.self.now c.requires.here.kept (ready_cycle u.kind (sector_at (sectors_of a area) c.args.place) c.requires.here.ready)

pub put_entry_at-requires-clause-opened : goal.put_entry_at-requires-clause-opened
put_entry_at-requires-clause-opened g c =
    let a : Device = g.F.Flash.device c.args.flash.now in
    let area : Area = c.args.area.now in
    let u : Geometry = geometry_of a area in
    kept_opened u (sector_at (sectors_of a area) c.args.place) c.args.self.now c.requires.here.kept c.opened-opened.result c.opened-opened.ensures.cycle c.opened-opened.ensures.slots c.opened-opened.ensures.data_end

pub put_entry_at-requires-clause-takes : goal.put_entry_at-requires-clause-takes
put_entry_at-requires-clause-takes g c = record {
  zms = record { lawful = c.requires.here.area.lawful; role = c.requires.here.area.role_is; has_sector = c.requires.here.inside };
  sound =
      let a : Device = g.F.Flash.device c.args.flash.now in
      let area : Area = c.args.area.now in
      ready_sound (geometry_of a area).kind (sector_at (sectors_of a area) c.args.place) c.requires.here.ready;
  ordinary = c.requires.ordinary;
  room = c.requires.fits;
}

use Rattle.std.proofs.Common.{rules, ℕ, List, inl, arith}
use Rattle.std.proofs.lemmas.Result.{on_ok_weaker, on_err_weaker}
use Rattle.flash_sim.specs.Device.{Device}
use Rattle.flash_map.specs.declared.area.Area.{Area}
use Rattle.flash_map.specs.declared.area.Geometry.{Geometry}
use Rattle.flash_map.specs.Area.{geometry_of, sectors_of, sector_at}
use Rattle.item_store.proofs.Areas.{large_there}
use Rattle.zms_format.proofs.Roomy.{not_clean_cycle, roomy_of}
use Rattle.zms_format.proofs.StepLemmas.{open_closable, closes, keeps, close_cut}
use Rattle.zms_cycle.specs.Sector.{cycle_of}
use Rattle.zms_format.proofs.FormatLemmas.{some_flag}
use Rattle.zms_store.proofs.OpenLemmas.{kept_some, kept_opened}
use Rattle.flash_map.specs.declared.area.Role.TheVariants.{Zms as zms_role}
use Rattle.zms_store.proofs.sectors.ZmsOpenSlotSectors.close.Goals as goal

pub opened-requires : goal.opened-requires
opened-requires g c =
    let a : Device = g.F.Flash.device c.args.flash.now in
    let area : Area = c.args.area.now in
    let u : Geometry = geometry_of a area in
    kept_some u (sector_at (sectors_of a area) c.args.place) c.args.self.now c.requires.kept (some_flag (cycle_of (sector_at (sectors_of a area) c.args.place)) (not_clean_cycle u.kind (sector_at (sectors_of a area) c.args.place) c.requires.used))

pub close_at-requires-clause-opened : goal.close_at-requires-clause-opened
close_at-requires-clause-opened g c =
    let a : Device = g.F.Flash.device c.args.flash.now in
    let area : Area = c.args.area.now in
    let u : Geometry = geometry_of a area in
    kept_opened u (sector_at (sectors_of a area) c.args.place) c.args.self.now c.requires.kept c.opened.result c.opened.ensures.cycle c.opened.ensures.slots c.opened.ensures.data_end

pub returns-clause-ends : goal.returns-clause-ends
returns-clause-ends g c = record {
  only = search rules;
  closes =
      let a : Device = g.F.Flash.device c.args.flash.now in
      let area : Area = c.args.area.now in
      let u : Geometry = geometry_of a area in
      let b : List ℕ = sector_at (sectors_of a area) c.args.place in
      let wide = large_there zms_role a area (g.met.F.Flash.is_lawful c.args.flash.now) c.requires.area c.args.place c.requires.inside in
      let e : Device = g.F.Flash.device c.close_at.new.flash in
      on_ok_weaker c.close_at.result (λ h. closes u (sector_at (sectors_of a area) c.args.place) (sector_at (sectors_of e area) c.args.place) wide h) c.close_at.ensures.ok;
  lost =
      let a : Device = g.F.Flash.device c.args.flash.now in
      let area : Area = c.args.area.now in
      let u : Geometry = geometry_of a area in
      let b : List ℕ = sector_at (sectors_of a area) c.args.place in
      let wide = large_there zms_role a area (g.met.F.Flash.is_lawful c.args.flash.now) c.requires.area c.args.place c.requires.inside in
      let e : Device = g.F.Flash.device c.close_at.new.flash in
      on_err_weaker c.close_at.result (λ h. inl (keeps u (sector_at (sectors_of a area) c.args.place) (sector_at (sectors_of e area) c.args.place) wide 0 h)) c.close_at.ensures.ends.lost;
  blank_lost =
      let a : Device = g.F.Flash.device c.args.flash.now in
      let area : Area = c.args.area.now in
      let u : Geometry = geometry_of a area in
      let e : Device = g.F.Flash.device c.close_at.new.flash in
      close_cut _ u.kind (sector_at (sectors_of a area) c.args.place) (sector_at (sectors_of e area) c.args.place) c.close_at.result c.requires.used c.close_at.ensures.ends.idle_lost;
  spends = c.close_at.ensures.ends.spends;
  spends_lost = c.close_at.ensures.ends.spends_lost;
}

pub close_at-requires-clause-takes : goal.close_at-requires-clause-takes
close_at-requires-clause-takes g c = record {
  zms = record { lawful = c.requires.area.lawful; role = c.requires.area.role_is; has_sector = c.requires.inside };
  sound =
      let a : Device = g.F.Flash.device c.args.flash.now in
      let area : Area = c.args.area.now in
      let u : Geometry = geometry_of a area in
      let b : List ℕ = sector_at (sectors_of a area) c.args.place in
      let wide = large_there zms_role a area (g.met.F.Flash.is_lawful c.args.flash.now) c.requires.area c.args.place c.requires.inside in
      (roomy_of u.kind (sector_at (sectors_of a area) c.args.place) (omega arith) c.requires.sound).sound;
  closable =
      let a : Device = g.F.Flash.device c.args.flash.now in
      let area : Area = c.args.area.now in
      let u : Geometry = geometry_of a area in
      let wide = large_there zms_role a area (g.met.F.Flash.is_lawful c.args.flash.now) c.requires.area c.args.place c.requires.inside in
      open_closable u.kind (sector_at (sectors_of a area) c.args.place) wide c.requires.sound c.requires.not_closed c.requires.used;
}

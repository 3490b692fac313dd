use Rattle.flash_map.specs.Area.{geometry_of}
use Rattle.flash_map.specs.On.{on}
use Rattle.settings_core.proofs.CallLemmas.{leaves_boot}
use Rattle.settings_core.proofs.CarryLemmas.{delete_ends}
use Rattle.settings_core.proofs.writing.remove.Goals as goal

pub returns : goal.returns
returns g c = record {
  ends = let area = g.K.Backend.mounted_on c.args.backend.now in
      let d = g.F.Flash.device c.args.flash.now in
      let e = g.F.Flash.device c.delete.new.flash in
      delete_ends (g.K.Backend.room area (geometry_of d area)) area.sectors (on g.K.Backend.chance e area) (g.K.Backend.tears area (geometry_of d area)) d e (on g.K.Backend.contents d area) (on g.K.Backend.contents e area) c.args.name.now c.delete.result c.delete.ensures.ends c.delete.ensures.cut;
  touches = c.delete.ensures.touches;
  area = c.delete.ensures.area;
  at_most = c.delete.ensures.units.at_most;
  sound = c.delete.ensures.sound;
  stands = c.delete.ensures.stands;
  owes = λ lost.
      let area = g.K.Backend.mounted_on c.args.backend.now in
      leaves_boot g.K.Backend.owes g.K.Backend.boot_units (g.F.Flash.device c.args.flash.now) (g.F.Flash.device c.delete.new.flash) area (g.K.Backend.mounted_on c.delete.new.self) c.delete.ensures.touches.banks c.delete.ensures.area (c.delete.ensures.units.owes lost);
  down = c.delete.ensures.down;
}

pub delete-requires : goal.delete-requires
delete-requires g c = record { lawful = c.requires.lawful; stands = c.requires.stands }

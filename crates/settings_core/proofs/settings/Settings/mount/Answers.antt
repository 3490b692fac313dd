use Rattle.flash_map.specs.Area.{geometry_of, sectors_of}
use Rattle.settings_core.proofs.settings.Settings.mount.Goals as goal

pub mount-requires : goal.mount-requires
mount-requires g c = record { lawful = c.requires.lawful; serves = c.requires.serves }

pub returns-in-Ok : goal.returns-in-Ok
returns-in-Ok g c = record {
  touches = c.in-Ok.ensures.touches;
  ends = c.in-Ok.ensures.ends;
  sound = c.in-Ok.ensures.sound;
  keeps = c.in-Ok.ensures.keeps;
  rests = c.in-Ok.ensures.rests;
  units = c.in-Ok.ensures.units;
  area = c.in-Ok.ensures.on;
  stands = c.in-Ok.ensures.stands;
  up = let e = g.F.Flash.device c.mount.new.flash in
      let area = g.K.Backend.mounted_on c.in-Ok.backend in
      g.met.K.Backend.stands_up c.in-Ok.backend (geometry_of e area) (sectors_of e area) c.in-Ok.ensures.stands;
}

pub returns-in-Err : goal.returns-in-Err
returns-in-Err g c = record {
  touches = c.in-Err.ensures.touches;
  ends = c.in-Err.ensures.ends;
  sound = c.in-Err.ensures.sound;
  keeps = c.in-Err.ensures.keeps;
  rests = c.in-Err.ensures.rests;
  units = c.in-Err.ensures.units;
  area = tt;
  stands = tt;
  up = tt;
}

-- the selector was not mounted; or settings were mounted then, or not
use Rattle.backend_api.specs.Room.{foreign_units}
use Rattle.session.proofs.OwesLemmas.{map-units, stopped-units}
use Rattle.std.proofs.Common.{◌<◌, false, length, List, sym, subst, ap}
use Rattle.flash_sim.specs.declared.flash.Bank.{Bank}
use Rattle.flash_sim.specs.Device.{Device}
use Rattle.flash_map.specs.declared.area.Area.{Area}
use Rattle.flash_map.specs.Area.{geometry_of}
use Rattle.flash_map.specs.Lawful.{IsLawfulFor}
use Rattle.session.proofs.ActiveAreas.{active_within, active_lawful, active_serves, served_still}
use Rattle.session.specs.Mounting.{map_lost}
use Rattle.session.specs.OnMap.{active_area}
use Rattle.session.proofs.MountLemmas.{Selected, SettingsMounted, stopped_touches, stopped_ends, stopped_sound, at_active, settled, map_ends, map_touches, map_sound, map_records, map_rests}
use Rattle.session.proofs.MountUnits.{stopped_most, map_most}
use Rattle.session.proofs.mounting.mount_map.Goals as goal

pub returns-in-Err : goal.returns-in-Err
returns-in-Err g c =
    let areas : List Area = c.args.map.now in
    let d : Device = g.F.Flash.device c.args.flash.now in
    let mid : Device = g.F.Flash.device c.mount_selector.new.flash in
    let lost = ap map_lost c.in-Err.is in
    record {
      touches = stopped_touches g.K.Backend.serves areas d mid (map_lost c.mount_selector.result) c.requires.map (g.met.F.Flash.is_lawful c.args.flash.now) (g.met.F.Flash.is_lawful c.mount_selector.new.flash) c.mount_selector.ensures.touches c.mount_selector.ensures.idle g.K.Backend.mounted_on g.K.Backend.stands g.K.Backend.runs g.K.Backend.damage g.K.Backend.contents c.in-Err.fault lost;
      ends = stopped_ends g.K.Backend.serves areas d mid (map_lost c.mount_selector.result) c.requires.map (g.met.F.Flash.is_lawful c.args.flash.now) (g.met.F.Flash.is_lawful c.mount_selector.new.flash) c.mount_selector.ensures.touches c.mount_selector.ensures.idle g.K.Backend.mounted_on g.K.Backend.stands g.K.Backend.runs g.K.Backend.damage g.K.Backend.contents c.in-Err.fault lost c.requires.on c.in-Err.ensures.sound c.in-Err.ensures.active c.in-Err.ensures.ends;
      sound = stopped_sound g.K.Backend.serves areas d mid (map_lost c.mount_selector.result) c.requires.map (g.met.F.Flash.is_lawful c.args.flash.now) (g.met.F.Flash.is_lawful c.mount_selector.new.flash) c.mount_selector.ensures.touches c.mount_selector.ensures.idle g.K.Backend.mounted_on g.K.Backend.stands g.K.Backend.runs g.K.Backend.damage g.K.Backend.contents c.in-Err.ensures.sound c.in-Err.ensures.active;
      records = c.in-Err.ensures.records;
      rests = λ rest. c.in-Err.ensures.idle rest.selector;
      owes = stopped-units g.K.Backend.owes areas g.K.Backend.serves d mid (map_lost c.mount_selector.result) c.requires.map (g.met.F.Flash.is_lawful c.args.flash.now) (g.met.F.Flash.is_lawful c.mount_selector.new.flash) c.mount_selector.ensures.touches c.mount_selector.ensures.idle c.in-Err.fault
          c.in-Err.ensures.ends c.in-Err.ensures.active c.mount_selector.ensures.at_most c.mount_selector.ensures.left;
      at_most = stopped_most areas d mid c.mount_selector.ensures.at_most;
    }

pub area_at-requires : goal.area_at-requires
area_at-requires g c = subst (λ n. n < length c.args.map.now) (sym c.active_place-place.ensures) (active_within g.K.Backend.serves c.args.map.now (g.F.Flash.device c.args.flash.now) c.requires.map (g.F.Flash.device c.mount_selector.new.flash))

pub mount-mounted-requires : goal.mount-mounted-requires
mount-mounted-requires g c = record {
  lawful = subst (λ (banks : List Bank). IsLawfulFor banks c.area_at.result) (sym c.mount_selector.ensures.touches.banks)
      (subst (λ (a : Area). IsLawfulFor (g.F.Flash.device c.args.flash.now).banks a) (sym (at_active c.args.map.now (g.F.Flash.device c.mount_selector.new.flash) c.active_place-place.result c.area_at.result c.active_place-place.ensures c.area_at.ensures))
      (active_lawful g.K.Backend.serves c.args.map.now (g.F.Flash.device c.args.flash.now) c.requires.map (g.F.Flash.device c.mount_selector.new.flash)));
  serves = let now = served_still g.K.Backend.serves c.args.map.now (g.F.Flash.device c.args.flash.now) (g.F.Flash.device c.mount_selector.new.flash) c.mount_selector.ensures.touches.banks c.requires.map in
      subst (λ (a : Area). g.K.Backend.serves a (geometry_of (g.F.Flash.device c.mount_selector.new.flash) a)) (sym (at_active c.args.map.now (g.F.Flash.device c.mount_selector.new.flash) c.active_place-place.result c.area_at.result c.active_place-place.ensures c.area_at.ensures))
      (active_serves g.K.Backend.serves c.args.map.now (g.F.Flash.device c.mount_selector.new.flash) now (g.F.Flash.device c.mount_selector.new.flash));
}

pub returns : goal.returns
returns g c =
    let areas : List Area = c.args.map.now in
    let d : Device = g.F.Flash.device c.args.flash.now in
    let mid : Device = g.F.Flash.device c.mount_selector.new.flash in
    let e : Device = g.F.Flash.device c.mount-mounted.new.flash in
    let before : Selected g.K.Backend.serves g.K.Backend.mounted_on g.K.Backend.stands g.K.Backend.runs g.K.Backend.damage g.K.Backend.contents g.K.Backend.rests areas d mid c.in-Ok.selector =
    record {
      map = c.requires.map;
      powered_on = c.requires.on;
      lawful = g.met.F.Flash.is_lawful c.args.flash.now;
      lawful_mid = g.met.F.Flash.is_lawful c.mount_selector.new.flash;
      touches = c.in-Ok.ensures.touches;
      idle = c.mount_selector.ensures.idle;
      units = c.in-Ok.ensures.units;
      none = c.in-Ok.ensures.ends.0;
      sound = c.mount_selector.ensures.sound c.in-Ok.ensures.ends.0;
      active = c.mount_selector.ensures.active c.in-Ok.ensures.ends.0;
      records = c.mount_selector.ensures.records c.in-Ok.ensures.ends.0;
      has = c.in-Ok.ensures.ends.1;
    } in
    let on_it : SettingsMounted g.K.Backend.serves g.K.Backend.mounted_on g.K.Backend.stands g.K.Backend.runs g.K.Backend.damage g.K.Backend.contents g.K.Backend.rests areas mid e c.area_at.result c.mount-mounted.result =
    record {
      touches = c.mount-mounted.ensures.touches;
      ends = c.mount-mounted.ensures.ends;
      sound = c.mount-mounted.ensures.sound;
      keeps = c.mount-mounted.ensures.keeps;
      idle = c.mount-mounted.ensures.rests;
      area_is = c.mount-mounted.ensures.area;
      stand = c.mount-mounted.ensures.stands;
      up = c.mount-mounted.ensures.up;
    } in
    let after : SettingsMounted g.K.Backend.serves g.K.Backend.mounted_on g.K.Backend.stands g.K.Backend.runs g.K.Backend.damage g.K.Backend.contents g.K.Backend.rests areas mid e (active_area areas mid) c.mount-mounted.result =
    settled g.K.Backend.serves g.K.Backend.mounted_on g.K.Backend.stands g.K.Backend.runs g.K.Backend.damage g.K.Backend.contents g.K.Backend.rests areas mid e c.area_at.result c.active_place-place.result c.mount-mounted.result c.active_place-place.ensures c.area_at.ensures on_it in
    record {
      touches = map_touches g.K.Backend.serves g.K.Backend.mounted_on g.K.Backend.stands g.K.Backend.runs g.K.Backend.damage g.K.Backend.contents g.K.Backend.rests areas d mid e c.in-Ok.selector c.active_place-place.result c.mount-mounted.result (g.met.F.Flash.is_lawful c.mount-mounted.new.flash) before c.active_place-place.ensures after c.mounted_as.result c.mounted_as.ensures;
      ends = map_ends g.K.Backend.serves g.K.Backend.mounted_on g.K.Backend.stands g.K.Backend.runs g.K.Backend.damage g.K.Backend.contents g.K.Backend.rests areas d mid e c.in-Ok.selector c.active_place-place.result c.mount-mounted.result (g.met.F.Flash.is_lawful c.mount-mounted.new.flash) before c.active_place-place.ensures after c.mounted_as.result c.mounted_as.ensures;
      sound = map_sound g.K.Backend.serves g.K.Backend.mounted_on g.K.Backend.stands g.K.Backend.runs g.K.Backend.damage g.K.Backend.contents g.K.Backend.rests areas d mid e c.in-Ok.selector c.active_place-place.result c.mount-mounted.result (g.met.F.Flash.is_lawful c.mount-mounted.new.flash) before c.active_place-place.ensures after;
      records = λ was. map_records g.K.Backend.serves g.K.Backend.mounted_on g.K.Backend.stands g.K.Backend.runs g.K.Backend.damage g.K.Backend.contents g.K.Backend.rests areas d mid e c.in-Ok.selector c.active_place-place.result c.mount-mounted.result (g.met.F.Flash.is_lawful c.mount-mounted.new.flash) before c.active_place-place.ensures after;
      rests = map_rests g.K.Backend.serves g.K.Backend.mounted_on g.K.Backend.stands g.K.Backend.runs g.K.Backend.damage g.K.Backend.contents g.K.Backend.rests areas d mid e c.in-Ok.selector c.active_place-place.result c.mount-mounted.result (g.met.F.Flash.is_lawful c.mount-mounted.new.flash) before c.active_place-place.ensures after;
      owes =
          map-units g.K.Backend.owes areas g.K.Backend.serves d mid false c.requires.map (g.met.F.Flash.is_lawful c.args.flash.now) (g.met.F.Flash.is_lawful c.mount_selector.new.flash) c.in-Ok.ensures.touches c.mount_selector.ensures.idle (c.mount_selector.ensures.active c.in-Ok.ensures.ends.0)
          e (foreign_units (geometry_of mid c.area_at.result)) c.area_at.result (g.met.F.Flash.is_lawful c.mount-mounted.new.flash) (at_active areas mid c.active_place-place.result c.area_at.result c.active_place-place.ensures c.area_at.ensures) c.mount_selector.ensures.at_most c.mount_selector.ensures.left
          c.mount-mounted.ensures.touches.banks c.mount-mounted.ensures.touches.outside c.mount-mounted.ensures.units;
      at_most =
          map_most areas d mid e c.area_at.result c.mount_selector.ensures.touches.banks (c.mount_selector.ensures.active c.in-Ok.ensures.ends.0)
          (at_active areas mid c.active_place-place.result c.area_at.result c.active_place-place.ensures c.area_at.ensures) c.mount_selector.ensures.at_most c.mount-mounted.ensures.units.at_most;
    }

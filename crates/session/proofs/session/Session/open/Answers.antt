-- the mount of the map, once power is on
use Rattle.session.proofs.OwesLemmas.{open-boots, open-left}
use Rattle.std.proofs.Common.{List}
use Rattle.flash_sim.specs.Device.{Device}
use Rattle.flash_map.specs.declared.area.Area.{Area}
use Rattle.session.proofs.OpenLemmas.{MapMounted, open_done, open_stops, open_rests, open_ready, open_undamaged}
use Rattle.session.proofs.session.Session.open.Goals as goal

pub returns : goal.returns
returns g c =
    let areas : List Area = c.args.map.now in
    let old : Device = g.B.Flash.device c.args.bench.now in
    let d : Device = g.B.Flash.device c.restore.new.self in
    let e : Device = g.B.Flash.device c.mount_map-mounted.new.flash in
    let mounted : MapMounted g.K.Backend.mounted_on g.K.Backend.stands g.K.Backend.runs g.K.Backend.damage g.K.Backend.rests g.K.Backend.contents g.K.Backend.room g.K.Backend.chance g.K.Backend.tears areas d e c.mount_map-mounted.result =
    record {
      touches = c.mount_map-mounted.ensures.touches;
      ends = c.mount_map-mounted.ensures.ends;
      sound = c.mount_map-mounted.ensures.sound;
      records = c.mount_map-mounted.ensures.records;
      idle = c.mount_map-mounted.ensures.rests;
      most = c.mount_map-mounted.ensures.at_most;
    } in
    record {
      done = open_done g.K.Backend.mounted_on g.K.Backend.stands g.K.Backend.runs g.K.Backend.damage g.K.Backend.rests g.K.Backend.contents g.K.Backend.room g.K.Backend.chance g.K.Backend.tears areas old d e c.spent-before.result c.spent.result c.mount_map-mounted.result c.answered.result c.restore.ensures c.spent-before.ensures c.spent.ensures mounted c.answered.ensures;
      rests = open_rests g.K.Backend.mounted_on g.K.Backend.stands g.K.Backend.runs g.K.Backend.damage g.K.Backend.rests g.K.Backend.contents g.K.Backend.room g.K.Backend.chance g.K.Backend.tears areas old d e c.spent-before.result c.spent.result c.mount_map-mounted.result c.answered.result c.restore.ensures c.spent-before.ensures c.spent.ensures mounted c.answered.ensures;
      stops = open_stops g.K.Backend.mounted_on g.K.Backend.stands g.K.Backend.runs g.K.Backend.damage g.K.Backend.rests g.K.Backend.contents g.K.Backend.room g.K.Backend.chance g.K.Backend.tears areas old d e c.spent-before.result c.spent.result c.mount_map-mounted.result c.answered.result c.restore.ensures c.spent-before.ensures c.spent.ensures mounted c.answered.ensures;
      ready = open_ready g.K.Backend.mounted_on g.K.Backend.stands g.K.Backend.runs g.K.Backend.damage g.K.Backend.rests g.K.Backend.contents g.K.Backend.room g.K.Backend.chance g.K.Backend.tears areas old d e c.spent-before.result c.spent.result c.mount_map-mounted.result c.answered.result c.restore.ensures c.spent-before.ensures c.spent.ensures mounted c.answered.ensures;
      boots = open-boots g.K.Backend.owes areas old d e c.spent-before.result c.spent.result c.mount_map-mounted.result c.answered.result c.restore.ensures c.spent-before.ensures c.spent.ensures c.mount_map-mounted.ensures.owes c.answered.ensures;
      leaves = record {
        undamaged = open_undamaged g.K.Backend.mounted_on g.K.Backend.stands g.K.Backend.runs g.K.Backend.damage g.K.Backend.rests g.K.Backend.contents g.K.Backend.room g.K.Backend.chance g.K.Backend.tears areas old d e c.spent-before.result c.spent.result c.mount_map-mounted.result c.answered.result c.restore.ensures c.spent-before.ensures c.spent.ensures mounted c.answered.ensures;
        owed = open-left g.K.Backend.owes areas old d e c.spent-before.result c.spent.result c.mount_map-mounted.result c.answered.result c.restore.ensures c.spent-before.ensures c.spent.ensures c.mount_map-mounted.ensures.owes c.answered.ensures;
      };
    }

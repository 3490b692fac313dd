use Rattle.std.proofs.Common.{◌∷◌, [], refl, arith}
use Rattle.std.proofs.lemmas.Bool.{false≢true}
use Rattle.flash_sim.specs.Device.{Device}
use Rattle.flash_map.specs.declared.area.Area.{Area}
use Rattle.flash_map.specs.Area.{unit_of, sector_size, geometry_of}
use Rattle.flash_map.proofs.SpendingLemmas.{spends_none}
use Rattle.flash_map.proofs.Touches.{untouched}
use Rattle.backend_api.proofs.MapLemmas.{insert-stored}
use Rattle.backend_api.specs.Room.{command_units}
use Rattle.backend_fcb.specs.Standing.{settings_on}
use Rattle.backend_fcb.proofs.Ends.{stands-ring, none-more, sets-same}
use Rattle.backend_fcb.proofs.Limits.{limit-most}
use Rattle.backend_fcb.proofs.backend.FcbBackendBackend.set.Goals as goal

pub holds-requires : goal.holds-requires
holds-requires g c = record {
  stands = stands-ring (g.F.Flash.device c.args.flash.now) c.args.self.now c.requires.lawful c.requires.stands;
  some = c.requires.some;
}

pub returns-then-holds : goal.returns-then-holds
returns-then-holds g c =
    let d : Device = g.F.Flash.device c.args.flash.now in
    let area : Area = c.args.self.now.ring.area in
    let same = c.holds.ensures.yes_it c.if-holds.true in
    record {
      touches = untouched (area ∷ []) d;
      area = refl;
      ends = sets-same d area c.args.name.now c.args.value.now (unit_of d area) (sector_size d area) same;
      sound = c.requires.stands.undamaged;
      cut = λ on lost. absurd (false≢true lost);
      stands = λ up. c.requires.stands;
      down = λ lost. absurd (false≢true lost);
      spends = record {
        units = record { at_most = none-more d (command_units (geometry_of d area)); owes = λ lost. absurd (false≢true lost) };
        exact = λ changes. absurd (changes (insert-stored (settings_on d area) c.args.name.now c.args.value.now same));
        no_more = λ lost. absurd (false≢true lost);
        few = (0, omega arith, spends_none d);
      };
    }

pub body_len-requires : goal.body_len-requires
body_len-requires g c = omega (arith, c.requires.short, limit-most c.args.self.now.ring.area)

pub put_setting-requires-clause-value : goal.put_setting-requires-clause-value
put_setting-requires-clause-value g c = (c.requires.some, c.requires.short)

pub put_setting-requires-clause-other : goal.put_setting-requires-clause-other
put_setting-requires-clause-other g c = c.holds.ensures.not_it c.if-holds.false

pub returns-then-body_len-le-SHORT_BODY : goal.returns-then-body_len-le-SHORT_BODY
returns-then-body_len-le-SHORT_BODY g c = record {
  touches = c.put_setting.ensures.touches;
  area = c.put_setting.ensures.area;
  ends = c.put_setting.ensures.ends;
  sound = c.put_setting.ensures.leaves.sound;
  cut = c.put_setting.ensures.leaves.cut;
  stands = c.put_setting.ensures.leaves.stands;
  down = c.put_setting.ensures.leaves.down;
  spends = c.put_setting.ensures.spends;
}

pub put_setting-requires-2-clause-value : goal.put_setting-requires-2-clause-value
put_setting-requires-2-clause-value g c = (c.requires.some, c.requires.short)

pub put_setting-requires-2-clause-other : goal.put_setting-requires-2-clause-other
put_setting-requires-2-clause-other g c = c.holds.ensures.not_it c.if-holds.false

pub returns : goal.returns
returns g c = record {
  touches = c.put_setting-2.ensures.touches;
  area = c.put_setting-2.ensures.area;
  ends = c.put_setting-2.ensures.ends;
  sound = c.put_setting-2.ensures.leaves.sound;
  cut = c.put_setting-2.ensures.leaves.cut;
  stands = c.put_setting-2.ensures.leaves.stands;
  down = c.put_setting-2.ensures.leaves.down;
  spends = c.put_setting-2.ensures.spends;
}

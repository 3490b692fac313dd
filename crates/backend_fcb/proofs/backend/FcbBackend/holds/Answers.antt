use Rattle.std.proofs.Common.{◌≡◌, None, Some, sym, ◌∙◌}
use Rattle.flash_map.specs.Area.{value_limit}
use Rattle.flash_sim.specs.Device.{Device}
use Rattle.flash_map.specs.declared.area.Area.{Area}
use Rattle.record_settings.specs.Last.{last_value}
use Rattle.backend_fcb.specs.Standing.{bodies_on}
use Rattle.backend_fcb.proofs.Ends.{stored-yes, stored-not, stored-nowhere}
use Rattle.backend_fcb.proofs.backend.FcbBackend.holds.Goals as goal

pub returns-in-Some : goal.returns-in-Some
returns-in-Some g c = record {
  yes_it = λ same. let d : Device = g.F.Flash.device c.args.flash.now in
      let area : Area = c.args.self.now.ring.area in
      let last : last_value (value_limit c.args.self.now.ring.area) c.args.name.now (bodies_on d area) ≡ Some c.in-Some.stored.now = sym c.in-Some.ensures in
      stored-yes d area c.args.name.now c.args.value.now c.in-Some.stored.now c.requires.some last (sym c.eq.ensures ∙ same);
  not_it = λ apart. let d : Device = g.F.Flash.device c.args.flash.now in
      let area : Area = c.args.self.now.ring.area in
      let last : last_value (value_limit c.args.self.now.ring.area) c.args.name.now (bodies_on d area) ≡ Some c.in-Some.stored.now = sym c.in-Some.ensures in
      stored-not d area c.args.name.now c.args.value.now c.in-Some.stored.now last (sym c.eq.ensures ∙ apart);
}

pub returns-in-None-clause-not_it : goal.returns-in-None-clause-not_it
returns-in-None-clause-not_it g c apart =
    let d : Device = g.F.Flash.device c.args.flash.now in
    let area : Area = c.args.self.now.ring.area in
    let last : last_value (value_limit c.args.self.now.ring.area) c.args.name.now (bodies_on d area) ≡ None = sym c.in-None.ensures in
    stored-nowhere d area c.args.name.now c.args.value.now last

use Rattle.std.proofs.Common.{◌≡◌, None, Some, sym, ◌∙◌}
use Rattle.flash_map.specs.Area.{value_limit}
use Rattle.flash_sim.specs.Device.{Device}
use Rattle.flash_map.specs.declared.area.Area.{Area}
use Rattle.record_settings.specs.Last.{last_value}
use Rattle.backend_fcb.specs.Standing.{bodies_on}
use Rattle.backend_fcb.proofs.Ends.{get-none, get-empty, get-some}
use Rattle.backend_fcb.proofs.backend.FcbBackendBackend.get.Goals as goal

pub returns-in_err-value : goal.returns-in_err-value
returns-in_err-value g c =
    let d : Device = g.F.Flash.device c.args.flash.now in
    let area : Area = c.args.self.now.ring.area in
    let last : last_value (value_limit c.args.self.now.ring.area) c.args.name.now (bodies_on d area) ≡ None = sym c.in_err-value.ensures in
    rw c.from_residual.ensures (sym (get-none d area c.args.name.now last))

pub returns-then-is_empty : goal.returns-then-is_empty
returns-then-is_empty g c =
    let d : Device = g.F.Flash.device c.args.flash.now in
    let area : Area = c.args.self.now.ring.area in
    let last : last_value (value_limit c.args.self.now.ring.area) c.args.name.now (bodies_on d area) ≡ Some c.in_ok-value.value.now = sym c.in_ok-value.ensures in
    sym (get-empty d area c.args.name.now c.in_ok-value.value.now last (sym c.is_empty.ensures ∙ c.if-is_empty.true))

pub returns-else-is_empty : goal.returns-else-is_empty
returns-else-is_empty g c =
    let d : Device = g.F.Flash.device c.args.flash.now in
    let area : Area = c.args.self.now.ring.area in
    let last : last_value (value_limit c.args.self.now.ring.area) c.args.name.now (bodies_on d area) ≡ Some c.in_ok-value.value.now = sym c.in_ok-value.ensures in
    sym (get-some d area c.args.name.now c.in_ok-value.value.now last (sym c.is_empty.ensures ∙ c.if-is_empty.false))

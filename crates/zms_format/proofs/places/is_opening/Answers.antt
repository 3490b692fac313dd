use Rattle.std.proofs.Common.{ℕ, List, true, false, refl, sym, ap, ◌∙◌}
use Rattle.flash_sim.specs.Device.{Device}
use Rattle.flash_map.specs.Area.{sectors_of}
use Rattle.item_laws.specs.Area.{previous, is_closed_at}
use Rattle.zms_format.specs.declared.sector.Marks.{Marks}
use Rattle.zms_format.specs.Area.{plain}
use Rattle.zms_format.proofs.MountLemmas.{previous_there, opening_is}
use Rattle.zms_format.proofs.places.is_opening.Goals as goal

pub returns-then-marks_at : goal.returns-then-marks_at
returns-then-marks_at g c =
    let d : Device = g.F.Flash.device c.args.flash.now in
    let sectors : List (List ℕ) = sectors_of d c.args.area.now in
    let closed = sym (ap (λ (m : Marks). m.closed) c.marks_at.ensures) ∙ c.if-marks_at.true in
    opening_is sectors c.args.place true (is_closed_at plain sectors (previous sectors c.args.place)) closed refl

pub returns : goal.returns
returns g c =
    let d : Device = g.F.Flash.device c.args.flash.now in
    let sectors : List (List ℕ) = sectors_of d c.args.area.now in
    let closed = sym (ap (λ (m : Marks). m.closed) c.marks_at.ensures) ∙ c.if-marks_at.false in
    let at = c.previous.ensures.value ∙ previous_there d c.args.area.now c.args.place in
    opening_is sectors c.args.place false c.marks_at-2.result.closed closed (ap (is_closed_at plain sectors) (sym at) ∙ sym (ap (λ (m : Marks). m.closed) c.marks_at-2.ensures))

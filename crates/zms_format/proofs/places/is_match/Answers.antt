use Rattle.std.proofs.Common.{ℕ, List, ◌||◌, sym, ap, ◌∙◌}
use Rattle.flash_sim.specs.Device.{Device}
use Rattle.zms_cycle.specs.Areas.{kind_on}
use Rattle.flash_map.specs.Area.{sectors_of, sector_at}
use Rattle.zms_format.specs.declared.sector.Marks.{Marks}
use Rattle.zms_format.specs.declared.places.Lookup.{Lookup}
use Rattle.zms_format.specs.Lookup.{is_match}
use Rattle.zms_format.proofs.Sectors.{unused-is}
use Rattle.zms_format.proofs.places.is_match.Goals as goal

pub returns-in-InUse : goal.returns-in-InUse
returns-in-InUse g c =
    let d : Device = g.F.Flash.device c.args.flash.now in
    let sectors : List (List ℕ) = sectors_of d c.args.area.now in
    c.in_use.ensures ∙ ap (λ (m : Marks). m.begun || m.closed) c.marks_at-marks.ensures ∙ unused-is (sector_at sectors c.args.place) ∙ sym (ap (λ (x : Lookup). is_match x (kind_on d c.args.area.now) sectors c.args.place) c.in-InUse.is)

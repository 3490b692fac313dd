use Rattle.std.proofs.Common.{◌≡◌, ℕ, List, true, false, sym, ap, ◌∙◌}
use Rattle.flash_sim.specs.Device.{Device}
use Rattle.flash_map.specs.Area.{sectors_of}
use Rattle.item_laws.specs.Area.{next, is_closed_at}
use Rattle.zms_format.specs.declared.sector.Marks.{Marks}
use Rattle.zms_format.specs.Area.{plain}
use Rattle.zms_format.proofs.MountLemmas.{next_there, counts_closed, counts_open}
use Rattle.zms_format.proofs.places.counts.Goals as goal
use Rattle.zms_format.proofs.places.counts.Goals.{then-marks_at-2, else-marks_at-2}

pub returns-after-marks_at-2 : goal.returns-after-marks_at-2
returns-after-marks_at-2 g c =
    let d : Device = g.F.Flash.device c.args.flash.now in
    let sectors : List (List ℕ) = sectors_of d c.args.area.now in
    let after : c.next-after.result ≡ next sectors c.args.current = c.next-after.ensures.value ∙ next_there d c.args.area.now c.args.current in
    let shut : is_closed_at plain sectors (next sectors c.args.current) ≡ true = ap (is_closed_at plain sectors) (sym after) ∙ sym (ap (λ (m : Marks). m.closed) c.marks_at.ensures) ∙ c.if-marks_at.true in
    let done = ap (λ (m : Marks). m.gc_done) c.marks_at-then-marks_at.ensures in
    elim c.if-marks_at-2.branch [
      | then-marks_at-2 w ↦ counts_closed sectors c.args.current c.args.place c.if-marks_at-2.ignored true shut (sym done ∙ w.if-marks_at-2.true) (w.ignored-is ∙ after)
      | else-marks_at-2 w ↦ counts_closed sectors c.args.current c.args.place c.if-marks_at-2.ignored false shut (sym done ∙ w.if-marks_at-2.false) w.ignored-is
    ]

pub returns-else-marks_at : goal.returns-else-marks_at
returns-else-marks_at g c =
    let d : Device = g.F.Flash.device c.args.flash.now in
    let sectors : List (List ℕ) = sectors_of d c.args.area.now in
    let after : c.next-after.result ≡ next sectors c.args.current = c.next-after.ensures.value ∙ next_there d c.args.area.now c.args.current in
    counts_open sectors c.args.current c.args.place (ap (is_closed_at plain sectors) (sym after) ∙ sym (ap (λ (m : Marks). m.closed) c.marks_at.ensures) ∙ c.if-marks_at.false)

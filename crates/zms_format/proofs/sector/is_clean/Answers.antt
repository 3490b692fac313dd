use Rattle.std.proofs.Common.{ap, ◌∙◌, ◌||◌}
use Rattle.zms_format.specs.declared.sector.Marks.{Marks}
use Rattle.zms_format.proofs.Roomy.{clean_never, clean_erasing, fresh_clean}
use Rattle.zms_format.proofs.sector.is_clean.Goals as goal

pub returns-in-Rewritable : goal.returns-in-Rewritable
returns-in-Rewritable c = clean_never c.args.kind c.args.sector.now c.in_use.result c.in-Rewritable.is (c.in_use.ensures ∙ ap (λ (m : Marks). m.begun || m.closed) c.read_marks-marks.ensures)

pub returns-then-marks : goal.returns-then-marks
returns-then-marks c = clean_erasing c.args.kind c.args.sector.now c.read_marks-marks.result.blank c.in-Erasing.is (ap (λ (m : Marks). m.blank) c.read_marks-marks.ensures) c.if-marks.true

pub returns-else-marks : goal.returns-else-marks
returns-else-marks c = c.is_fresh.ensures ∙ fresh_clean c.args.kind c.args.sector.now c.read_marks-marks.result.blank c.requires.long c.in-Erasing.is (ap (λ (m : Marks). m.blank) c.read_marks-marks.ensures) c.if-marks.false

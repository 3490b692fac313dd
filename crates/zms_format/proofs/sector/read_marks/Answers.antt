use Rattle.std.proofs.Common.{refl}
use Rattle.zms_format.proofs.Sectors.{marks_blank, marks_used}
use Rattle.zms_format.proofs.sector.read_marks.Goals as goal

pub returns-in-Blank : goal.returns-in-Blank
returns-in-Blank c = marks_blank c.args.kind c.args.sector.now c.in-Blank.ensures

pub returns-in-Used : goal.returns-in-Used
returns-in-Used c = marks_used c.args.kind c.args.sector.now _ c.in-Used.slots _ c.in-Used.closed c.in-Used.gc_done _ c.requires.long c.in-Used.ensures refl

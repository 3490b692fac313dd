use Rattle.mirror_session.specs.Bench.{meanings}
use Rattle.mirror_session.proofs.OwesLemmas.{IsGoingOn}
use Rattle.mirror_session.proofs.running.run_lines.Given as goal

abbrev pub invariant-loop-line : goal.invariant-loop-line
invariant-loop-line g l =
    let device = g.B.Flash.device in
    let K = g.K.Backend in
    let m = meanings K.damage K.contents K.rests K.room g.K.Priced.prices K.owes in
    IsGoingOn K.owes K.boot_units m l.map K.serves K.mounted_on K.stands l.lines l.line-index l.answers (device l.fn.bench) (device l.bench) l.session.mirror

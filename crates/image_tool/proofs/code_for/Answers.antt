use Rattle.std.proofs.Common.{sym, subst}
use Rattle.image_tool.specs.Exits.{Given, GivenExits, words_in}
use Rattle.image_tool.proofs.Pool.{unread}
use Rattle.image_tool.proofs.code_for.Goals as goal

pub returns-in-Err-start : goal.returns-in-Err-start
returns-in-Err-start g c =
    subst
    (λ (given : Given). GivenExits given (g.H.Host.outside c.args.host.now) (g.H.Host.outside c.start.new.host) (g.B.Flash.device c.args.bench.now) (g.B.Flash.device c.start.new.bench) c.code.result)
    (sym c.in-Ok.is)
    (unread (words_in c.in-Ok.words) (g.H.Host.outside c.args.host.now) (g.H.Host.outside c.start.new.host) (g.B.Flash.device c.args.bench.now) (g.B.Flash.device c.start.new.bench) c.code.result c.code.ensures c.in-Err-start.ensures)

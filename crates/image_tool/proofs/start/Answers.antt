use Rattle.std.proofs.Common.{ℕ, List, map, ap, subst, ◌∙◌}
use Rattle.std.specs.String.{string_bytes}
use Rattle.image_tool.specs.Exits.{ExitsOr}
use Rattle.image_tool.proofs.Pool.{words_behind}
use Rattle.image_tool.proofs.start.Goals as goal

pub returns : goal.returns
returns g c =
    let are = words_behind c.args.given c.skip.result c.in_ok-words.words c.skip.ensures.source c.skip.ensures.count c.in_ok-words.ensures.ran in
    subst
    (λ (ws : List (List ℕ)). ExitsOr ws (g.H.Host.outside c.args.host.now) (g.H.Host.outside c.with_handlers.new.host) (g.B.Flash.device c.args.bench.now) (g.B.Flash.device c.with_handlers.new.bench) c.with_handlers.result)
    (ap (map string_bytes) (c.as_slice.ensures.value ∙ are)) c.with_handlers.ensures

use Rattle.std.proofs.Common.{option_map}
use Rattle.backend_api.specs.Listing.{pairs_in}
use Rattle.settings_core.proofs.DirectLemmas.{ReportedSoFar}
use Rattle.settings_core.proofs.ListedLemmas.{listed}
use Rattle.settings_core.proofs.direct.give_all.Given as goal

abbrev pub invariant-loop-name : goal.invariant-loop-name
invariant-loop-name g l =
    ReportedSoFar (g.E.Each.had l.fn.each) (g.E.Each.had l.each) (option_map (λ name. name.now) l.subtree) (pairs_in l.settings) (listed l.name-iterator) l.count

use Rattle.std.proofs.Common.{option_map}
use Rattle.backend_api.specs.Listing.{pairs_in}
use Rattle.handlers.specs.Registry.{registered}
use Rattle.settings_core.proofs.ListedLemmas.{listed}
use Rattle.settings_core.proofs.LoadLemmas.{SoFar}
use Rattle.settings_core.proofs.loading.load_all.Given as goal

abbrev pub invariant-loop-name : goal.invariant-loop-name
invariant-loop-name g l =
    SoFar (registered (λ b. (goal.Handler-dyn g (b.vtable, b.value)).state b.value) l.fn.registry) (registered (λ b. (goal.Handler-dyn g (b.vtable, b.value)).state b.value) l.registry) (g.R.Report.gives l.fn.report) (g.R.Report.gives l.report)
    (option_map (λ name. name.now) l.subtree) (pairs_in l.settings) (listed l.name-iterator) l.loaded

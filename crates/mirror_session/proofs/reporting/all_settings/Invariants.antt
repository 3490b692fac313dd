use Rattle.std.proofs.Common.{◌≡◌, ◌++◌, map}
use Rattle.std.specs.FinMap.{entries}
use Rattle.flash_map.specs.On.{on}
use Rattle.settings_core.proofs.ListedLemmas.{listed}
use Rattle.session_table.specs.Step.{as_pair}
use Rattle.mirror_session.proofs.reporting.all_settings.Given as goal

abbrev pub invariant-loop-name : goal.invariant-loop-name
invariant-loop-name g l = l.pairs ++ map as_pair (listed l.name-iterator) ≡ map as_pair (entries (on g.K.Backend.contents (g.B.Flash.device l.bench) l.mirror.trusted.area))

use Rattle.std.proofs.Common.{ap, ◌∙◌}
use Rattle.std.specs.Prelude.{Option, option_and_then}
use Rattle.flash_map.specs.declared.area.Area.{Area}
use Rattle.petaqwen.specs.Calls.{for_settings}
use Rattle.petaqwen.proofs.board.partition.Goals as goal

pub returns-in-Some : goal.returns-in-Some
returns-in-Some c = c.for_settings.ensures ∙ ap (option_and_then (λ (a : Area). for_settings a.role a)) c.in-Some.ensures

pub returns-in-None : goal.returns-in-None
returns-in-None c = ap (option_and_then (λ (a : Area). for_settings a.role a)) c.in-None.ensures

use Rattle.settings_core.proofs.LawLemmas.{leaves_part}
use Rattle.settings_core.proofs.laws.cut_commands.Goals as goal

pub returns : goal.returns
returns g c = λ area geometry room chance old new before after commands count. leaves_part room chance (g.K.Backend.tears area geometry) old new before after commands count

use Rattle.std.proofs.Common.{sym, ◌∙◌}
use Rattle.setting_name.proofs.MatchLemmas.{Matches-matched_rest, matched_rest-Matches}
use Rattle.setting_name.proofs.laws.matches_by_parts.Goals as goal

pub returns-clause-rest : goal.returns-clause-rest
returns-clause-rest c = λ name key rest. (Matches-matched_rest name key rest, matched_rest-Matches name key rest)

pub returns-clause-none : goal.returns-clause-none
returns-clause-none c = λ name key rest none matches.
    absurd (let both = sym none ∙ matched_rest-Matches name key rest matches in cc)

use Rattle.setting_name.proofs.MatchLemmas.{joined_text-match}
use Rattle.setting_name.proofs.laws.join_of_match.Goals as goal

pub returns : goal.returns
returns c = joined_text-match

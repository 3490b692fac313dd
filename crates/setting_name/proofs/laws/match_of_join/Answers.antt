use Rattle.setting_name.proofs.MatchLemmas.{matched_rest-joined_text}
use Rattle.setting_name.proofs.laws.match_of_join.Goals as goal

pub returns : goal.returns
returns c = matched_rest-joined_text

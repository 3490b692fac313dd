use Rattle.image_jobs.proofs.BlankLemmas.{areas_are_blank, names_none, holds_nothing}
use Rattle.image_jobs.proofs.laws.blank_maps.Goals as goal

pub returns : goal.returns
returns c = record { areas = areas_are_blank; selector = names_none; map = holds_nothing }

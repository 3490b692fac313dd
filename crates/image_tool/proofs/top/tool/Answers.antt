use Rattle.image_jobs.proofs.ServedLemmas.{maps_are_served}
use Rattle.image_tool.proofs.top.tool.Goals as goal

pub serve-requires-clause-serves : goal.serve-requires-clause-serves
serve-requires-clause-serves g c = maps_are_served

use Rattle.image_jobs.proofs.MapLemmas.{maps_are_lawful, stays_image}
use Rattle.image_jobs.proofs.ServedLemmas.{maps_are_served}
use Rattle.image_jobs.proofs.laws.lawful_maps.Goals as goal

pub returns : goal.returns
returns c = record { maps = maps_are_lawful; stays = stays_image; served = maps_are_served }

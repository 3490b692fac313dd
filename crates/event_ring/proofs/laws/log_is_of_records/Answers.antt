use Rattle.flash_map.specs.Area.{unit_of, sectors_of}
use Rattle.event_ring.proofs.ItemLemmas.{log-is}
use Rattle.event_ring.proofs.laws.log_is_of_records.Goals as goal

pub returns : goal.returns
returns c d area = log-is (unit_of d area) (sectors_of d area)

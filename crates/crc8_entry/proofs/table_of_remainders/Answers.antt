use Rattle.crc8_entry.proofs.TableLemmas.{has_remainders}
use Rattle.crc8_entry.proofs.table_of_remainders.Goals as goal

pub returns : goal.returns
returns c = has_remainders

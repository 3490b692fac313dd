use Rattle.crc8_entry.proofs.OneRemainder as laws
use Rattle.crc8_entry.proofs.one_crc.Goals as goal

pub returns : goal.returns
returns c = laws.one_crc

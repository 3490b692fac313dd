use Rattle.std.proofs.Common.{arith}
use Rattle.crc8_entry.proofs.TableLemmas.{entry-is}
use Rattle.crc8_entry.proofs.shifted_by_byte.Goals as goal

pub returns : goal.returns
returns c = entry-is c.args.remainder (omega arith)

use Rattle.std.proofs.Common.{arith}
use Rattle.zms_cycle.proofs.Bytes.{encoded_from}
use Rattle.zms_cycle.proofs.entry.encode_zentry.Goals as goal

pub returns : goal.returns
returns c = encoded_from c.args.e.now c.crc8-crc.result c.to_le_bytes.result c.to_le_bytes-2.result (omega arith) c.to_le_bytes.ensures c.to_le_bytes-2.ensures c.crc8-crc.ensures.value

use Rattle.std.proofs.Common.{◌≡◌, ◌<◌, take}
use Rattle.backend_fcb.specs.Compaction.{mark}
use Rattle.backend_fcb.proofs.compaction.mark_of.Given as goal

abbrev pub invariant-loop-byte : goal.invariant-loop-byte
invariant-loop-byte l = record { small : l.mark < 65536; is : l.mark ≡ mark (take l.byte-index l.name) }

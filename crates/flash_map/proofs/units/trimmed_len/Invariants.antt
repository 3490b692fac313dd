use Rattle.std.proofs.Common.{◌≡◌, ◌+◌, ◌≤◌, eqb, length, take}
use Rattle.std.specs.List.{suffix_len}
use Rattle.flash_map.proofs.units.trimmed_len.Given as goal

abbrev pub invariant-loop-len : goal.invariant-loop-len
invariant-loop-len l = record { inside : l.len ≤ length l.bytes; erased : l.len + suffix_len (λ byte. eqb byte 255) l.bytes ≡ length l.bytes + suffix_len (λ byte. eqb byte 255) (take l.len l.bytes) }

abbrev pub decreases-loop-len : goal.decreases-loop-len
decreases-loop-len l = l.len

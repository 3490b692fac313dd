use Rattle.std.proofs.Common.{◌≡◌, ◌++◌, take}
use Rattle.std.specs.List.{concat}
use Rattle.flash_sim.specs.Contents.{contents}
use Rattle.image_file.proofs.writing.put_contents.Given as goal

abbrev pub invariant-loop-copy : goal.invariant-loop-copy
invariant-loop-copy l = l.file.items ≡ l.fn.file.items ++ concat (contents (take l.copy-index l.bytes))

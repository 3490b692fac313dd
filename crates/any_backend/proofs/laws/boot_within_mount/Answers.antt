use Rattle.any_backend.proofs.BootLemmas.{boots-within}
use Rattle.any_backend.proofs.laws.boot_within_mount.Goals as goal

pub returns : goal.returns
returns c = boots-within

use Rattle.std.specs.FinMap.{remove}
use Rattle.named_items.proofs.CostLemmas.{get-cut, get-cut_other}
use Rattle.named_items.proofs.OrphanLemmas.{orphan-removed}
use Rattle.named_items.proofs.laws.orphan_deleted.Goals as goal

pub returns : goal.returns
returns c = λ n items id laws orphan. orphan-removed n laws items (remove items id) id (λ other apart. get-cut_other items id other apart) (get-cut items id) orphan

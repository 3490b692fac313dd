use Rattle.std.specs.FinMap.{insert}
use Rattle.named_items.proofs.CostLemmas.{get-put_other}
use Rattle.named_items.proofs.PairLemmas.{id-put}
use Rattle.named_items.proofs.laws.setting_written.Goals as goal

pub returns : goal.returns
returns c = λ n items candidate id bytes name value laws inside is pair one lowest.
    id-put n items (insert items id bytes) id (λ other apart. get-put_other items id bytes other apart) laws candidate inside is name value pair one lowest

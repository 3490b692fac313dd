use Rattle.std.proofs.Common.{ap, ◌∙◌, refl}
use Rattle.std.specs.FinMap.{insert}
use Rattle.named_items.proofs.CostLemmas.{get-put, get-put_other}
use Rattle.named_items.proofs.PairLemmas.{count-raised}
use Rattle.named_items.proofs.laws.count_written.Goals as goal

pub returns : goal.returns
returns c = λ n items count laws more none.
    count-raised n items (insert items n.count_id count) n.count_id (λ other apart. get-put_other items n.count_id count other apart) laws refl (ap n.count_of (get-put items n.count_id count) ∙ more) none

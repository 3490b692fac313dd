use Rattle.named_items.proofs.RoomLemmas.{items-within}
use Rattle.named_items.proofs.laws.items_cost_at_most.Goals as goal

pub returns : goal.returns
returns c = λ n items price cap counted too_many laws counts clean. items-within price cap counted too_many n laws counts items clean

use Rattle.image_tool.proofs.Pool.{exits, pool_of_eight}
use Rattle.image_tool.proofs.with_handlers.Goals as goal

pub returns : goal.returns
returns g c =
    let eight = pool_of_eight _ c.new-pool.ensures.items c.in_ok-add.ensures.behind c.in_ok-add-2.ensures.behind c.in_ok-add-3.ensures.behind
    c.in_ok-add-4.ensures.behind c.in_ok-add-5.ensures.behind c.in_ok-add-6.ensures.behind c.in_ok-add-7.ensures.behind c.in_ok-add-8.ensures.behind in
    exits _ _ _ _ _ _ c.exit_after.result eight c.new-registry.ensures c.exit_after.ensures

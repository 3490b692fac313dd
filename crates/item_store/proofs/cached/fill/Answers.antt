use Rattle.std.proofs.Common.{[], sym, subst}
use Rattle.lookup_cache.specs.Places.{CacheState}
use Rattle.item_store.specs.Cached.{IsCacheOf}
use Rattle.item_store.proofs.CacheSteps.{cache-empty}
use Rattle.item_store.proofs.cached.fill.Goals as goal

pub returns : goal.returns
returns g c =
    c.note_all.ensures c.args.cache.now
    (subst (λ (cache : CacheState). IsCacheOf cache []) (sym c.requires.empty) cache-empty)

use Rattle.std.proofs.Common.{[], ◌∷◌, ◌++◌, sym, subst}
use Rattle.lookup_cache.specs.Places.{CacheState}
use Rattle.item_store.specs.Cached.{IsCacheOf}
use Rattle.item_store.proofs.CacheSteps.{cache-noted}
use Rattle.item_store.proofs.cached.CacheNotes.note.Goals as goal

pub returns : goal.returns
returns c =
    λ start limit before small is.
    subst (λ (cache : CacheState). IsCacheOf cache (before ++ c.args.placed.now ∷ [])) (sym c.note.ensures)
    (cache-noted c.args.self.now before c.args.placed.now is)

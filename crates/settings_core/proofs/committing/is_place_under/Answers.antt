use Rattle.std.proofs.Common.{List, ℕ, Option, ap, sym, ◌∙◌, option_map}
use Rattle.std.specs.Borrow.{Bor}
use Rattle.settings_core.specs.Committing.{is_under}
use Rattle.settings_core.proofs.PlacedLemmas.{subtree_there, subtree_missing}
use Rattle.settings_core.proofs.committing.is_place_under.Goals as goal

pub returns-in-Some : goal.returns-in-Some
returns-in-Some g c =
    c.is_under.ensures
    ∙ ap (is_under _) (subtree_there (g.H.PlacedHandlers.placed c.args.registry.now) c.args.i _ (ap (λ (o : Option (Bor (List ℕ))). option_map (λ name. name.now) o) (sym c.in-Some.is) ∙ c.subtree.ensures))

pub returns-in-None : goal.returns-in-None
returns-in-None g c =
    absurd (subtree_missing (g.H.PlacedHandlers.placed c.args.registry.now) c.args.i c.requires (ap (λ (o : Option (Bor (List ℕ))). option_map (λ name. name.now) o) (sym c.in-None.is) ∙ c.subtree.ensures))

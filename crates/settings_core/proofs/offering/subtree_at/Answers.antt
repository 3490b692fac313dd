use Rattle.std.proofs.Common.{List, ℕ, Option, ap, sym, ◌∙◌, option_map}
use Rattle.std.specs.Borrow.{Bor}
use Rattle.settings_core.proofs.PlacedLemmas.{subtree_there, subtree_missing}
use Rattle.settings_core.proofs.offering.subtree_at.Goals as goal

pub returns : goal.returns
returns g c =
    c.copy.ensures.value ∙ subtree_there (g.H.PlacedHandlers.placed c.args.registry.now) c.args.place _ (ap (λ (o : Option (Bor (List ℕ))). option_map (λ name. name.now) o) (sym c.in-Some.is) ∙ c.subtree.ensures)

pub unreachable-requires : goal.unreachable-requires
unreachable-requires g c =
    subtree_missing (g.H.PlacedHandlers.placed c.args.registry.now) c.args.place c.requires (ap (λ (o : Option (Bor (List ℕ))). option_map (λ name. name.now) o) (sym c.in-None.is) ∙ c.subtree.ensures)

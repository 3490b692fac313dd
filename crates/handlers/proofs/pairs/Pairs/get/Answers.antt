use Rattle.std.proofs.Common.{ap, sym, ◌∙◌, Some}
use Rattle.std.specs.Prelude.{option_map}
use Rattle.std.specs.Option.{option_copied}
use Rattle.std.specs.FinMap.{get}
use Rattle.handlers.specs.Pairs.{Held}
use Rattle.handlers.proofs.PairLemmas.{get-held}
use Rattle.handlers.proofs.pairs.Pairs.get.Goals as goal

pub returns-in-Some : goal.returns-in-Some
returns-in-Some c =
    ap Some c.as_slice.ensures.value ∙ ap (option_map (λ v. v.items)) (ap option_copied (sym c.in-Some.is) ∙ c.get.ensures.value)
    ∙ sym (get-held c.self.inside.pairs c.args.rest.now c.self.invariant) ∙ ap (λ (m : Held). get m c.args.rest.now) c.self.view_is

pub returns-in-None : goal.returns-in-None
returns-in-None c =
    ap (option_map (λ v. v.items)) (ap option_copied (sym c.in-None.is) ∙ c.get.ensures.value)
    ∙ sym (get-held c.self.inside.pairs c.args.rest.now c.self.invariant) ∙ ap (λ (m : Held). get m c.args.rest.now) c.self.view_is

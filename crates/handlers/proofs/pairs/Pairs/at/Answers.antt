use Rattle.std.proofs.Common.{ap, sym, ◌∙◌, Some, List, ℕ}
use Rattle.std.specs.Prelude.{option_map}
use Rattle.std.specs.Map.Iter.{deref_pair}
use Rattle.handlers.specs.Pairs.{Held, texts_of}
use Rattle.handlers.specs.Held.{pair_at}
use Rattle.handlers.proofs.PairLemmas.{at-held, few-held}
use Rattle.handlers.proofs.pairs.Pairs.at.Goals as goal

pub returns-in-Some-clause-pair : goal.returns-in-Some-clause-pair
returns-in-Some-clause-pair c =
    ap (λ (rest : List ℕ). Some (rest, c.as_slice-in-Some.result.now)) c.as_slice.ensures.value ∙ ap (λ (value : List ℕ). Some (c.in-Some.rest.now.items, value)) c.as_slice-in-Some.ensures.value
    ∙ ap (option_map texts_of) (ap (option_map deref_pair) (sym c.in-Some.is) ∙ c.nth_of.ensures.pair)
    ∙ sym (at-held c.self.inside.pairs c.args.i c.self.invariant) ∙ ap (λ (m : Held). pair_at m c.args.i) c.self.view_is

pub returns-in-None-clause-pair : goal.returns-in-None-clause-pair
returns-in-None-clause-pair c =
    ap (option_map texts_of) (ap (option_map deref_pair) (sym c.in-None.is) ∙ c.nth_of.ensures.pair)
    ∙ sym (at-held c.self.inside.pairs c.args.i c.self.invariant) ∙ ap (λ (m : Held). pair_at m c.args.i) c.self.view_is

pub returns-in-Some-clause-few : goal.returns-in-Some-clause-few
returns-in-Some-clause-few c = few-held c.self.inside.pairs c.args.self.now c.self.invariant c.self.view_is c.nth_of.ensures.few

pub returns-in-None-clause-few : goal.returns-in-None-clause-few
returns-in-None-clause-few c = few-held c.self.inside.pairs c.args.self.now c.self.invariant c.self.view_is c.nth_of.ensures.few

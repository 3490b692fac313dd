use Rattle.std.proofs.Common.{◌==◌, ◌∙◌, sym}
use Rattle.text_parts.proofs.PartLemmas.{cut_none, cut_some}
use Rattle.text_parts.proofs.cut_at.Goals as goal

pub returns-in-Some-clause-first : goal.returns-in-Some-clause-first
returns-in-Some-clause-first c =
    rw (c.split_at.ensures.front, c.split_at-in-Some.ensures.back) (cut_some (λ b. b == c.args.separator) c.args.text.now c.in-Some.at (sym c.first_at.ensures ∙ c.in-Some.is))

pub returns-in-None-clause-first : goal.returns-in-None-clause-first
returns-in-None-clause-first c = cut_none (λ b. b == c.args.separator) c.args.text.now (sym c.first_at.ensures ∙ c.in-None.is)

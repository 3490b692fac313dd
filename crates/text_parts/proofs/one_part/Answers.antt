use Rattle.std.proofs.Common.{◌==◌, ◌∙◌, ap, arith, length}
use Rattle.text_parts.specs.Parts.{parts_of}
use Rattle.text_parts.proofs.PartLemmas.{some_parts}
use Rattle.text_parts.proofs.one_part.Goals as goal

pub returns-in-Some-more : goal.returns-in-Some-more
returns-in-Some-more c = λ one.
    let all = ap length (ap (parts_of c.args.separator) c.in-Some.is ∙ c.cut_at.ensures.first) in
    let rest = ap length (ap (parts_of c.args.separator) c.in-Some-more.is) in
    omega (arith, all, rest, some_parts (λ b. b == c.args.separator) c.in-Some-more.field-0.now)

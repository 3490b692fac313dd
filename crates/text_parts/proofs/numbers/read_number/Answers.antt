use Rattle.std.proofs.Common.{◌∙◌, sym, subst, arith}
use Rattle.std.specs.Str.{IsUtf8}
use Rattle.std.proofs.lemmas.Fmt.{IsAscii-decimal}
use Rattle.std.proofs.lemmas.Str.{IsUtf8-from_ascii}
use Rattle.text_parts.proofs.NumberLemmas.{padded, not_parsed, too_large, is_number}
use Rattle.text_parts.proofs.numbers.read_number.Goals as goal

pub returns-then-is_padded : goal.returns-then-is_padded
returns-then-is_padded c = padded c.args.limit c.args.word.now (omega arith) (sym c.is_padded.ensures ∙ c.if-is_padded.true)

pub returns-in_default : goal.returns-in_default
returns-in_default c = λ n small is.
    c.in_default.ensures.cases.0 (subst IsUtf8 (sym is) (IsUtf8-from_ascii _ (IsAscii-decimal n (omega arith))))

pub returns-in_default-parse : goal.returns-in_default-parse
returns-in_default-parse c =
    not_parsed c.args.limit c.args.word.now c.in-Ok.text.now c.parse.result _ (omega arith) c.in-Ok.ensures.cases.0 c.parse.ensures.value.0 c.in_default-parse.is

pub returns-then-n-limit : goal.returns-then-n-limit
returns-then-n-limit c =
    too_large c.args.limit c.args.word.now c.in-Ok.text.now c.parse.result c.in-Ok-parse.n (omega arith) c.in-Ok.ensures.cases.0 c.parse.ensures.value.0 c.in-Ok-parse.is c.if-n-limit.true

pub returns : goal.returns
returns c =
    (is_number c.args.word.now c.in-Ok.text.now c.parse.result c.in-Ok-parse.n c.in-Ok.ensures.cases.0 (sym c.is_padded.ensures ∙ c.if-is_padded.false) c.parse.ensures.value.0 c.in-Ok-parse.is, omega (arith, c.if-n-limit.false))

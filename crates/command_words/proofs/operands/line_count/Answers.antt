use Rattle.std.proofs.Common.{◌∙◌, rules, sym}
use Rattle.command_words.proofs.CommandLemmas.{no_lines, some_lines}
use Rattle.command_words.proofs.operands.line_count.Goals as goal

pub returns-in-Some-eq0 : goal.returns-in-Some-eq0
returns-in-Some-eq0 c = no_lines c.args.word.now (search rules)

pub returns-in-Some : goal.returns-in-Some
returns-in-Some c = some_lines c.args.word.now c.in-Some.n (sym c.as_bytes.ensures.value ∙ c.in-Some.ensures.0) (search rules) c.in-Some.ensures.1

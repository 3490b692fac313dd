use Rattle.std.proofs.Common.{◌≡◌, [], ◌∷◌, length, map, codes, rules, append_assoc}
use Rattle.std.specs.Fmt.{decimal}
use Rattle.script_lines.specs.Answer.{lines_text, one}
use Rattle.script_lines.proofs.TextLemmas.{lines_joined}
use Rattle.log_session.specs.Answer.{record_line}
use Rattle.log_session.proofs.answer.log_text.Goals as goal

pub returns : goal.returns
returns c =
    let last : c.as_bytes.result.now ≡ lines_text (one (codes "log" ∷ decimal (length c.args.bodies.now) ∷ [])) = search (rules, append_assoc) in
    lines_joined (map record_line c.args.bodies.now) (one (codes "log" ∷ decimal (length c.args.bodies.now) ∷ [])) c.in_ok-text.text.items c.as_bytes.result.now c.add.new.text.items c.in_ok-add.ensures c.in_ok-text.ensures last

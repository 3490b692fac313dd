use Rattle.std.proofs.Common.{◌≡◌, [], ◌∷◌, length, map, codes, rules, append_assoc}
use Rattle.std.specs.Fmt.{decimal}
use Rattle.script_lines.specs.Answer.{lines_text, one, have_line}
use Rattle.script_lines.proofs.TextLemmas.{lines_joined}
use Rattle.script_lines.proofs.answer.direct_text.Goals as goal

pub returns : goal.returns
returns c =
    let last : c.as_bytes.result.now ≡ lines_text (one (codes "direct" ∷ decimal (length c.args.pairs.now) ∷ [])) = search (rules, append_assoc) in
    lines_joined (map have_line c.args.pairs.now) (one (codes "direct" ∷ decimal (length c.args.pairs.now) ∷ [])) c.in_ok-text.text.items c.as_bytes.result.now c.add.new.text.items c.in_ok-add.ensures c.in_ok-text.ensures last

use Rattle.std.proofs.Common.{◌≡◌, [], ◌∷◌, map, codes, rules, append_assoc}
use Rattle.std.specs.Fmt.{decimal}
use Rattle.script_lines.specs.Answer.{lines_text, one, give_line}
use Rattle.script_lines.proofs.TextLemmas.{lines_joined}
use Rattle.script_lines.proofs.answer.loaded_text.Goals as goal

pub returns : goal.returns
returns c =
    let words = one (codes "loaded" ∷ decimal c.args.taken ∷ decimal c.args.rejected ∷ decimal c.args.passed ∷ []) in
    let last : c.as_bytes.result.now ≡ lines_text words = search (rules, append_assoc) in
    lines_joined (map give_line c.args.gives.now) words c.in_ok-text.text.items c.as_bytes.result.now c.add.new.text.items c.in_ok-add.ensures c.in_ok-text.ensures last

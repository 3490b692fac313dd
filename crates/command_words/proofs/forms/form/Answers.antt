use Rattle.std.proofs.Common.{◌≡◌, ◌∙◌, ◌+◌, ◌++◌, ◌∷◌, [], rules, map, take, get_or, sym, ap, arith}
use Rattle.std.proofs.lemmas.List.{map-append, take_more}
use Rattle.clap.specs.Words.{App, Shape, rule_of, shape_of}
use Rattle.command_words.specs.Forms.{form, operand_rule}
use Rattle.command_words.proofs.FoundLemmas.{form_more}
use Rattle.command_words.proofs.forms.form.Goals as goal

pub loop-operand-preserved : goal.loop-operand-preserved
loop-operand-preserved c =
    let added = c.in_ok-command.ensures in
    let i = c.loop-operand.operand-index in
    let id = c.new.result.id in
    let operands = c.args.operands.now in
    let ids = map (λ s. s.now) (take i operands) in
    let rule : rule_of c.required.result ≡ operand_rule id.now = search rules in
    let item : get_or operands i id ≡ id = search rules in
    let more : map (λ s. s.now) (take (i + 1) operands) ≡ ids ++ id.now ∷ [] =
    ap (map (λ s. s.now)) (take_more operands i id (omega arith)) ∙ map-append (λ s. s.now) (take i operands) (get_or operands i id ∷ []) ∙ ap (λ s. ids ++ s.now ∷ []) item in
    let old = shape_of c.loop-operand.command in (
      ap (λ (a : App). a.top) (added.shape (search rules)) ∙ ap (λ r. record old { rules = old.rules ++ r ∷ [] }) rule
          ∙ ap (λ (s : Shape). record s { rules = s.rules ++ operand_rule id.now ∷ [] }) c.loop-operand.invariant.0
          ∙ form_more c.args.name.now ids id.now ∙ ap (form c.args.name.now) (sym more),
      search rules,
    )

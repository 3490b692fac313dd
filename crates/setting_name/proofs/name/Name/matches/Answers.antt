use Rattle.std.proofs.Common.{◌≡◌, sym, ◌∙◌, ap, None}
use Rattle.std.specs.Option.{option_copied}
use Rattle.setting_name.specs.Match.{matched_rest, rest_behind}
use Rattle.setting_name.proofs.MatchLemmas.{matched_rest-apart, matched_rest-prefix, answer_joins}
use Rattle.setting_name.proofs.name.Name.matches.Goals as goal

pub returns-in_err-left-clause-rest : goal.returns-in_err-left-clause-rest
returns-in_err-left-clause-rest c =
    let none : matched_rest c.bytes.result.now c.bytes-2.result.now ≡ None =
    matched_rest-apart c.bytes.result.now c.bytes-2.result.now c.in_err-left.ensures in
    ap option_copied c.from_residual.ensures ∙ sym none ∙ ap (λ name. matched_rest name c.bytes-2.result.now) c.bytes.ensures.value
    ∙ ap (matched_rest c.args.name.now) c.bytes-2.ensures.value

pub returns-clause-rest : goal.returns-clause-rest
returns-clause-rest c =
    let prefix : matched_rest c.bytes.result.now c.bytes-2.result.now ≡ rest_behind c.in_ok-left.left.now =
    ap (λ name. matched_rest name c.bytes-2.result.now) c.in_ok-left.ensures ∙ matched_rest-prefix c.bytes-2.result.now c.in_ok-left.left.now in
    c.behind_slash.ensures ∙ sym prefix ∙ ap (λ name. matched_rest name c.bytes-2.result.now) c.bytes.ensures.value
    ∙ ap (matched_rest c.args.name.now) c.bytes-2.ensures.value

pub returns-clause-join : goal.returns-clause-join
returns-clause-join c = answer_joins c.args.name.now c.args.key.now c.behind_slash.result c.bytes.ensures.name.whole (returns-clause-rest c)

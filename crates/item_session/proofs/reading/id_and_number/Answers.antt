use Rattle.std.proofs.Common.{ℕ, [], ◌∷◌}
use Rattle.std.proofs.lemmas.Result.{err_from_is_err_and}
use Rattle.text_parts.specs.Parts.{parts_of}
use Rattle.script_lines.specs.Forms.Said.{number}
use Rattle.item_session.specs.declared.line.TheConstants.{VERSIONS_END}
use Rattle.item_session.proofs.NumberPairs.{first_err, second_err, both}
use Rattle.item_session.proofs.reading.id_and_number.Goals as goal

pub returns-in_err-id : goal.returns-in_err-id
returns-in_err-id c = λ limit.
    let p = err_from_is_err_and c.from_residual-in_err-id.result c.from_residual-in_err-id.ensures.1 in
    rw (p.1, p.2) (first_err limit c.args.ids VERSIONS_END c.in_ok-first.first.now c.in_ok-first.second.now {S = ℕ} {T = ℕ × ℕ} number (λ said. number said.0 ∷ number said.1 ∷ []) (parts_of 32 c.args.rest) c.in_err-id.field-0.0 c.in_ok-first.ensures (c.in_err-id.ensures limit))

pub returns-in_err-n : goal.returns-in_err-n
returns-in_err-n c = λ limit.
    let p = err_from_is_err_and c.from_residual-in_err-n.result c.from_residual-in_err-n.ensures.1 in
    rw (p.1, p.2) (second_err limit c.args.ids VERSIONS_END c.in_ok-first.first.now c.in_ok-first.second.now {S = ℕ} {T = ℕ × ℕ} number (λ said. number said.0 ∷ number said.1 ∷ []) (parts_of 32 c.args.rest) c.in_err-n.field-0.0 c.in_ok-first.ensures (c.in_err-n.ensures limit))

pub returns : goal.returns
returns c = λ limit. both limit c.args.ids VERSIONS_END c.in_ok-first.first.now c.in_ok-first.second.now (parts_of 32 c.args.rest) (number c.in_ok-id.id) (number c.in_ok-n.n) c.in_ok-first.ensures (c.in_ok-id.ensures limit) (c.in_ok-n.ensures limit)

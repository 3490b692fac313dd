use Rattle.std.proofs.Common.{ℕ, List, [], ◌∷◌}
use Rattle.std.proofs.lemmas.Result.{err_from_is_err_and}
use Rattle.text_parts.specs.Parts.{parts_of}
use Rattle.script_lines.specs.Forms.Said.{bytes, number}
use Rattle.script_lines.proofs.FieldLemmas.{bytes_err, number_err, number_and_bytes}
use Rattle.item_session.proofs.reading.id_and_bytes.Goals as goal

pub returns-in_err-value : goal.returns-in_err-value
returns-in_err-value c =
    let p = err_from_is_err_and c.from_residual-in_err-value.result c.from_residual-in_err-value.ensures.1 in
    rw (p.1, p.2) (bytes_err {S = List ℕ} {T = ℕ × List ℕ} c.args.limit c.args.ids bytes (λ said. number said.0 ∷ bytes said.1 ∷ []) c.in_ok-first.first.now c.in_ok-first.second.now (parts_of 32 c.args.rest) c.in_err-value.field-0.0 c.in_ok-first.ensures c.in_err-value.ensures)

pub returns-in_err-id : goal.returns-in_err-id
returns-in_err-id c =
    let p = err_from_is_err_and c.from_residual-in_err-id.result c.from_residual-in_err-id.ensures.1 in
    rw (p.1, p.2) (number_err {S = ℕ} {T = ℕ × List ℕ} c.args.limit c.args.ids (bytes c.in_ok-value.value) number (λ said. number said.0 ∷ bytes said.1 ∷ []) c.in_ok-first.first.now c.in_ok-first.second.now (parts_of 32 c.args.rest) c.in_err-id.field-0.0 c.in_ok-first.ensures c.in_ok-value.ensures (c.in_err-id.ensures c.args.limit))

pub returns : goal.returns
returns c = number_and_bytes c.args.limit c.args.ids c.in_ok-first.first.now c.in_ok-first.second.now (parts_of 32 c.args.rest) (number c.in_ok-id.id) (bytes c.in_ok-value.value) c.in_ok-first.ensures (c.in_ok-id.ensures c.args.limit) c.in_ok-value.ensures

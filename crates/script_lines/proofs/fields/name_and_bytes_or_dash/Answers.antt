use Rattle.std.proofs.Common.{ℕ, List, [], ◌∷◌}
use Rattle.std.proofs.lemmas.Result.{err_from_is_err_and}
use Rattle.text_parts.specs.Parts.{parts_of}
use Rattle.script_lines.specs.Forms.Field.{any_bytes}
use Rattle.script_lines.specs.Forms.Said.{name, bytes}
use Rattle.script_lines.proofs.FieldLemmas.{first_err, second_err, both}
use Rattle.script_lines.proofs.fields.name_and_bytes_or_dash.Goals as goal

pub returns-in_err-name : goal.returns-in_err-name
returns-in_err-name c =
    let p = err_from_is_err_and c.from_residual-in_err-name.result c.from_residual-in_err-name.ensures.1 in
    rw (p.1, p.2) (first_err {S = List ℕ} {T = List ℕ × List ℕ} c.args.limit any_bytes name (λ said. name said.0 ∷ bytes said.1 ∷ []) c.in_ok-first.first.now c.in_ok-first.second.now (parts_of 32 c.args.rest) c.in_err-name.field-0.0 c.in_ok-first.ensures (c.in_err-name.ensures c.args.limit))

pub returns-in_err-value : goal.returns-in_err-value
returns-in_err-value c =
    let p = err_from_is_err_and c.from_residual-in_err-value.result c.from_residual-in_err-value.ensures.1 in
    rw (p.1, p.2) (second_err {S = List ℕ} {T = List ℕ × List ℕ} c.args.limit any_bytes (name c.in_ok-name.name) bytes (λ said. name said.0 ∷ bytes said.1 ∷ []) c.in_ok-first.first.now c.in_ok-first.second.now (parts_of 32 c.args.rest) c.in_err-value.field-0.0 c.in_ok-first.ensures (c.in_ok-name.ensures c.args.limit) (c.in_err-value.ensures))

pub returns : goal.returns
returns c = both c.args.limit any_bytes c.in_ok-first.first.now c.in_ok-first.second.now (parts_of 32 c.args.rest) (name c.in_ok-name.name) (bytes c.in_ok-value.value) c.in_ok-first.ensures (c.in_ok-name.ensures c.args.limit) (c.in_ok-value.ensures)

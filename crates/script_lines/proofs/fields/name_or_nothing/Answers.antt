use Rattle.std.proofs.Common.{ℕ, List, [], ◌∷◌}
use Rattle.std.proofs.lemmas.Result.{err_from_is_err_and}
use Rattle.text_parts.specs.Parts.{parts_of}
use Rattle.script_lines.specs.Forms.Said.{name}
use Rattle.script_lines.proofs.FieldLemmas.{some_name, some_text}
use Rattle.script_lines.proofs.fields.name_or_nothing.Goals as goal

pub returns-in_err-name-in-Some : goal.returns-in_err-name-in-Some
returns-in_err-name-in-Some c = λ limit.
    let p = err_from_is_err_and c.from_residual.result c.from_residual.ensures.1 in
    rw (p.1, p.2) (some_name {T = List ℕ} limit (λ text. name text ∷ []) (parts_of 32 c.args.rest) c.in_err-name-in-Some.field-0.0 (some_text c.args.rest c.in-Some.field-0 c.in-Some.is) (c.in_err-name-in-Some.ensures limit))

use Rattle.std.proofs.Common.{ℕ, List, [], ◌∷◌}
use Rattle.std.proofs.lemmas.Result.{err_from_is_err_and}
use Rattle.text_parts.specs.Parts.{parts_of}
use Rattle.script_lines.specs.Forms.Field.{a_kind}
use Rattle.script_lines.specs.Forms.Said.{name, kind}
use Rattle.handlers.specs.declared.handler.HandlerKind.{HandlerKind}
use Rattle.script_lines.proofs.FieldLemmas.{first_err, second_err, both}
use Rattle.script_lines.proofs.fields.name_and_kind.Goals as goal

pub returns-in_err-subtree : goal.returns-in_err-subtree
returns-in_err-subtree c = λ limit.
    let p = err_from_is_err_and c.from_residual-in_err-subtree.result c.from_residual-in_err-subtree.ensures.1 in
    rw (p.1, p.2) (first_err {S = List ℕ} {T = List ℕ × HandlerKind} limit a_kind name (λ said. name said.0 ∷ kind said.1 ∷ []) c.in_ok-first.first.now c.in_ok-first.second.now (parts_of 32 c.args.rest) c.in_err-subtree.field-0.0 c.in_ok-first.ensures (c.in_err-subtree.ensures limit))

pub returns-in_err-kind : goal.returns-in_err-kind
returns-in_err-kind c = λ limit.
    let p = err_from_is_err_and c.from_residual-in_err-kind.result c.from_residual-in_err-kind.ensures.1 in
    rw (p.1, p.2) (second_err {S = HandlerKind} {T = List ℕ × HandlerKind} limit a_kind (name c.in_ok-subtree.subtree) kind (λ said. name said.0 ∷ kind said.1 ∷ []) c.in_ok-first.first.now c.in_ok-first.second.now (parts_of 32 c.args.rest) c.in_err-kind.field-0.0 c.in_ok-first.ensures (c.in_ok-subtree.ensures limit) (c.in_err-kind.ensures limit))

pub returns : goal.returns
returns c = λ limit. both limit a_kind c.in_ok-first.first.now c.in_ok-first.second.now (parts_of 32 c.args.rest) (name c.in_ok-subtree.subtree) (kind c.in_ok-kind.kind) c.in_ok-first.ensures (c.in_ok-subtree.ensures limit) (c.in_ok-kind.ensures limit)
